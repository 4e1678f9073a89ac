-- Numbers of four bytes: each has one spelling, and where no number below a bound goes on so.
use Rattle.std.proofs.Common.{◌≡◌, ◌≢◌, ℕ, ◌+◌, ◌*◌, ◌/◌, ◌%◌, ◌<◌, ◌≤◌, ◌^◌, List, [], ◌∷◌, ◌++◌, refl, ap, sym, ◌∙◌, take, length, get_or, arith}
use Rattle.std.specs.Int.{from_le_bytes, to_le_bytes, w32}
use Rattle.std.proofs.lemmas.Nat.{from_le_bytes-to_le_bytes_4}
use Rattle.uc_object.specs.Object.{IsNumber}
use Rattle.uc_object.specs.inner.Parts.{Spells, IsFaultOf}
use Rattle.uc_object.proofs.Together.{IsPrefixCode}
use Rattle.uc_object.proofs.Reading.{four_bytes}

-- four bytes that begin the same bytes are those of one number
pub number-same : (n m : ℕ) (s t : List ℕ) → n < 2 ^ 32 → m < 2 ^ 32 → to_le_bytes w32 n ++ s ≡ to_le_bytes w32 m ++ t → (n ≡ m) × (s ≡ t)
number-same n m s t hn hm e =
    let bytes : to_le_bytes w32 n ≡ to_le_bytes w32 m = cc in
    (sym (from_le_bytes-to_le_bytes_4 n hn) ∙ ap (from_le_bytes w32) bytes ∙ from_le_bytes-to_le_bytes_4 m hm, cc)

pub number-code : (bound : ℕ) → bound ≤ 2 ^ 32 → IsPrefixCode (IsNumber bound)
number-code bound few n m a b s t h k e =
    let spread : to_le_bytes w32 n ++ s ≡ to_le_bytes w32 m ++ t = ap (λ x. x ++ s) (sym h.1) ∙ e ∙ ap (λ x. x ++ t) k.1 in
    let less = h.0 in
    let less' = k.0 in
    number-same n m s t (omega arith) (omega arith) spread

-- four bytes of which each is told
bytes-of : (n a b c d : ℕ) → a < 256 → b < 256 → c < 256 → d < 256 → n ≡ a + 256 * b + 65536 * c + 16777216 * d → to_le_bytes w32 n ≡ a ∷ b ∷ c ∷ d ∷ []
bytes-of n a b c d ha hb hc hd e = (four_bytes a b c d n ha hb hc hd (e ∙ omega arith)).1

-- the bytes of a number tell it
sum-of : (n a b c d : ℕ) (s t : List ℕ) → n < 2 ^ 32 → to_le_bytes w32 n ++ s ≡ a ∷ b ∷ c ∷ d ∷ t → n ≡ a + 256 * b + 65536 * c + 16777216 * d
sum-of n a b c d s t h e =
    let ea : n % 256 ≡ a = cc in
    let eb : n / 256 % 256 ≡ b = cc in
    let ec : n / 65536 % 256 ≡ c = cc in
    let ed : n / 16777216 % 256 ≡ d = cc in
    omega arith

-- fewer than four bytes hold no number
number-short : (bound k : ℕ) (bytes : List ℕ) → k < 4 → k ≡ length bytes → (word rest : List ℕ) → Spells (IsNumber bound) word → bytes ≢ word ++ rest
number-short bound k bytes less ends word rest w e =
    let all : length bytes ≡ length (to_le_bytes w32 w.0 ++ rest) = ap length (e ∙ ap (λ x. x ++ rest) w.1.1) in
    absurd (omega arith)

-- where no number below the bound goes on: with this byte the sum reaches it, or there is none
pub fault-0 : (bound : ℕ) (bytes : List ℕ) → 1 ≤ bound → bound ≤ 2 ^ 32 → (0 < length bytes → bound ≤ get_or bytes 0 0) → IsFaultOf (Spells (IsNumber bound)) bytes 0
fault-0 bound [] some few over = record {
  inside = omega arith;
  before = (to_le_bytes w32 0, (0, (omega arith, refl)));
  here = λ long word more rest w e. absurd (omega arith);
  short = λ ends. number-short bound 0 [] (omega arith) ends;
}
fault-0 bound (a ∷ bs) some few over = record {
  inside = omega arith;
  before = (to_le_bytes w32 0, (0, (omega arith, refl)));
  here = λ long word more rest w e.
      let same : a ∷ more ≡ to_le_bytes w32 w.0 ++ rest = e ∙ ap (λ x. x ++ rest) w.1.1 in
      let ea : w.0 % 256 ≡ a = cc in
      let most : bound ≤ a = over long in
      let less : w.0 < bound = w.1.0 in
      absurd (omega arith);
  short = λ ends. absurd (omega arith);
}

pub fault-1 : (bound : ℕ) (bytes : List ℕ) → bound ≤ 2 ^ 32 → 1 ≤ length bytes → get_or bytes 0 0 < 256 → get_or bytes 0 0 < bound
    → (1 < length bytes → bound ≤ get_or bytes 0 0 + 256 * get_or bytes 1 0) → IsFaultOf (Spells (IsNumber bound)) bytes 1
fault-1 bound [] few there ha below over = absurd (omega arith)
fault-1 bound (a ∷ []) few there ha below over = record {
  inside = omega arith;
  before = (0 ∷ 0 ∷ 0 ∷ [], (a, (below, sym (bytes-of a a 0 0 0 ha (omega arith) (omega arith) (omega arith) (omega arith)))));
  here = λ long word more rest w e. absurd (omega arith);
  short = λ ends. number-short bound 1 (a ∷ []) (omega arith) ends;
}
fault-1 bound (a ∷ b ∷ bs) few there ha below over = record {
  inside = omega arith;
  before = (0 ∷ 0 ∷ 0 ∷ [], (a, (below, sym (bytes-of a a 0 0 0 ha (omega arith) (omega arith) (omega arith) (omega arith)))));
  here = λ long word more rest w e.
      let same : a ∷ b ∷ more ≡ to_le_bytes w32 w.0 ++ rest = e ∙ ap (λ x. x ++ rest) w.1.1 in
      let ea : w.0 % 256 ≡ a = cc in
      let eb : w.0 / 256 % 256 ≡ b = cc in
      let most : bound ≤ a + 256 * b = over long in
      let less : w.0 < bound = w.1.0 in
      absurd (omega arith);
  short = λ ends. absurd (omega arith);
}

pub fault-2 : (bound : ℕ) (bytes : List ℕ) → bound ≤ 2 ^ 32 → 2 ≤ length bytes → get_or bytes 0 0 < 256 → get_or bytes 1 0 < 256 → get_or bytes 0 0 + 256 * get_or bytes 1 0 < bound
    → (2 < length bytes → bound ≤ get_or bytes 0 0 + 256 * get_or bytes 1 0 + 65536 * get_or bytes 2 0) → IsFaultOf (Spells (IsNumber bound)) bytes 2
fault-2 bound [] few there ha hb below over = absurd (omega arith)
fault-2 bound (a ∷ []) few there ha hb below over = absurd (omega arith)
fault-2 bound (a ∷ b ∷ []) few there ha hb below over = record {
  inside = omega arith;
  before = (0 ∷ 0 ∷ [], (a + 256 * b, (below, sym (bytes-of (a + 256 * b) a b 0 0 ha hb (omega arith) (omega arith) (omega arith)))));
  here = λ long word more rest w e. absurd (omega arith);
  short = λ ends. number-short bound 2 (a ∷ b ∷ []) (omega arith) ends;
}
fault-2 bound (a ∷ b ∷ c ∷ bs) few there ha hb below over = record {
  inside = omega arith;
  before = (0 ∷ 0 ∷ [], (a + 256 * b, (below, sym (bytes-of (a + 256 * b) a b 0 0 ha hb (omega arith) (omega arith) (omega arith)))));
  here = λ long word more rest w e.
      let same : a ∷ b ∷ c ∷ more ≡ to_le_bytes w32 w.0 ++ rest = e ∙ ap (λ x. x ++ rest) w.1.1 in
      let ea : w.0 % 256 ≡ a = cc in
      let eb : w.0 / 256 % 256 ≡ b = cc in
      let ec : w.0 / 65536 % 256 ≡ c = cc in
      let most : bound ≤ a + 256 * b + 65536 * c = over long in
      let less : w.0 < bound = w.1.0 in
      absurd (omega arith);
  short = λ ends. absurd (omega arith);
}

pub fault-3 : (bound : ℕ) (bytes : List ℕ) → bound ≤ 2 ^ 32 → 3 ≤ length bytes → get_or bytes 0 0 < 256 → get_or bytes 1 0 < 256 → get_or bytes 2 0 < 256
    → get_or bytes 0 0 + 256 * get_or bytes 1 0 + 65536 * get_or bytes 2 0 < bound
    → (3 < length bytes → bound ≤ get_or bytes 0 0 + 256 * get_or bytes 1 0 + 65536 * get_or bytes 2 0 + 16777216 * get_or bytes 3 0) → IsFaultOf (Spells (IsNumber bound)) bytes 3
fault-3 bound [] few there ha hb hc below over = absurd (omega arith)
fault-3 bound (a ∷ []) few there ha hb hc below over = absurd (omega arith)
fault-3 bound (a ∷ b ∷ []) few there ha hb hc below over = absurd (omega arith)
fault-3 bound (a ∷ b ∷ c ∷ []) few there ha hb hc below over = record {
  inside = omega arith;
  before = (0 ∷ [], (a + 256 * b + 65536 * c, (below, sym (bytes-of (a + 256 * b + 65536 * c) a b c 0 ha hb hc (omega arith) (omega arith)))));
  here = λ long word more rest w e. absurd (omega arith);
  short = λ ends. number-short bound 3 (a ∷ b ∷ c ∷ []) (omega arith) ends;
}
fault-3 bound (a ∷ b ∷ c ∷ d ∷ bs) few there ha hb hc below over = record {
  inside = omega arith;
  before = (0 ∷ [], (a + 256 * b + 65536 * c, (below, sym (bytes-of (a + 256 * b + 65536 * c) a b c 0 ha hb hc (omega arith) (omega arith)))));
  here = λ long word more rest w e.
      let same : a ∷ b ∷ c ∷ d ∷ more ≡ to_le_bytes w32 w.0 ++ rest = e ∙ ap (λ x. x ++ rest) w.1.1 in
      let less : w.0 < bound = w.1.0 in
      let sum = sum-of w.0 a b c d rest more (omega arith) (sym same) in
      let most : bound ≤ a + 256 * b + 65536 * c + 16777216 * d = over long in
      absurd (omega arith);
  short = λ ends. absurd (omega arith);
}

-- a number that is there
pub number-there : (bound n : ℕ) (bytes : List ℕ) → 4 ≤ length bytes → get_or bytes 0 0 < 256 → get_or bytes 1 0 < 256 → get_or bytes 2 0 < 256 → get_or bytes 3 0 < 256
    → n ≡ get_or bytes 0 0 + 256 * get_or bytes 1 0 + 65536 * get_or bytes 2 0 + 16777216 * get_or bytes 3 0 → n < bound → IsNumber bound n (take 4 bytes)
number-there bound n [] there ha hb hc hd sum below = absurd (omega arith)
number-there bound n (a ∷ []) there ha hb hc hd sum below = absurd (omega arith)
number-there bound n (a ∷ b ∷ []) there ha hb hc hd sum below = absurd (omega arith)
number-there bound n (a ∷ b ∷ c ∷ []) there ha hb hc hd sum below = absurd (omega arith)
number-there bound n (a ∷ b ∷ c ∷ d ∷ bs) there ha hb hc hd sum below = (below, sym (bytes-of n a b c d ha hb hc hd sum))
