-- Forms of bytes, one after another, and where bytes leave them.
use Rattle.std.proofs.Common.{◌≡◌, ℕ, zero, suc, ◌+◌, ◌-◌, ◌<◌, ◌≤◌, List, [], ◌∷◌, ◌++◌, refl, ap, sym, ◌∙◌, subst, append_assoc, take, drop, length, arith, length-append, length-drop}
use Rattle.std.proofs.Math.Seq.{take-append-add}
use Rattle.std.proofs.lemmas.List.{append-nil, take-append-drop, drop-drop}
use Rattle.uc_object.specs.Object.{AreEach}
use Rattle.uc_object.specs.inner.Parts.{Spells, Many, Has, Adds, IsFaultOf, IsFaultAfter}

-- bytes that begin with a thing begin with no other, and go on in one way
abbrev pub IsPrefixCode : {T : Type 0} → (T → List ℕ → Type 0) → Type 0
IsPrefixCode {T} Is = (x y : T) (a b s t : List ℕ) → Is x a → Is y b → a ++ s ≡ b ++ t → (x ≡ y) × (s ≡ t)

-- a thing has one spelling
abbrev pub HasOneSpelling : {T : Type 0} → (T → List ℕ → Type 0) → Type 0
HasOneSpelling {T} Is = (x : T) (a b : List ℕ) → Is x a → Is x b → a ≡ b

module _ {T : Type 0} (Is : T → List ℕ → Type 0) where
  pub each-append : (xs ys : List T) (a b : List ℕ) → AreEach Is xs a → AreEach Is ys b → AreEach Is (xs ++ ys) (a ++ b)
  each-append [] ys a b h k = subst (λ s. AreEach Is ys (s ++ b)) (sym h) k
  each-append (x ∷ xs) ys a b h k = (h.0, h.1 ++ b, ap (λ s. s ++ b) h.2 ∙ append_assoc h.0 h.1 b, h.3, each-append xs ys h.1 b h.4 k)

  pub each-single : (x : T) (a : List ℕ) → Is x a → AreEach Is (x ∷ []) a
  each-single x a h = (a, [], sym (append-nil a), h, refl)

  pub each-same : HasOneSpelling Is → (xs : List T) (a b : List ℕ) → AreEach Is xs a → AreEach Is xs b → a ≡ b
  each-same one [] a b h k = h ∙ sym k
  each-same one (x ∷ xs) a b h k =
      let first : h.0 ≡ k.0 = one x h.0 k.0 h.3 k.3 in
      let rest : h.1 ≡ k.1 = each-same one xs h.1 k.1 h.4 k.4 in
      h.2 ∙ ap (λ s. s ++ h.1) first ∙ ap (λ s. k.0 ++ s) rest ∙ sym k.2

  -- so many things are a prefix code where each is one
  pub each-one : IsPrefixCode Is → (xs ys : List T) (a b s t : List ℕ) → length xs ≡ length ys → AreEach Is xs a → AreEach Is ys b → a ++ s ≡ b ++ t → (xs ≡ ys) × (s ≡ t)
  each-one code [] [] a b s t l h k e = (refl, ap (λ x. x ++ s) (sym h) ∙ e ∙ ap (λ x. x ++ t) k)
  each-one code [] (y ∷ ys) a b s t l h k e = absurd (omega arith)
  each-one code (x ∷ xs) [] a b s t l h k e = absurd (omega arith)
  each-one code (x ∷ xs) (y ∷ ys) a b s t l h k e =
      let spread : h.0 ++ (h.1 ++ s) ≡ k.0 ++ (k.1 ++ t) =
      sym (append_assoc h.0 h.1 s) ∙ ap (λ z. z ++ s) (sym h.2) ∙ e ∙ ap (λ z. z ++ t) k.2 ∙ append_assoc k.0 k.1 t in
      let first = code x y h.0 k.0 (h.1 ++ s) (k.1 ++ t) h.3 k.3 spread in
      let rest = each-one code xs ys h.1 k.1 s t (omega arith) h.4 k.4 first.1 in
      let head : x ≡ y = first.0 in
      let tail : xs ≡ ys = rest.0 in
      (cc, rest.1)

  pub many-one : IsPrefixCode Is → (n : ℕ) → IsPrefixCode (Many Is n)
  many-one code n xs ys a b s t h k e = each-one code xs ys a b s t (h.0 ∙ sym k.0) h.1 k.1 e

  -- where a thing has bytes, so many things have
  pub many-some : (z : T) (zb : List ℕ) → Is z zb → (n : ℕ) → (b : List ℕ) × Spells (Many Is n) b
  many-some z zb h zero = ([], ([], (refl, refl)))
  many-some z zb h (suc n) =
      let more = many-some z zb h n in
      (zb ++ more.0, (z ∷ more.1.0, (ap suc more.1.1.0, (zb, more.0, refl, h, more.1.1.1))))

  -- one thing more
  pub has-more : (n : ℕ) (xs : List T) (x : T) (bytes rest rest' part : List ℕ) → Has Is n xs bytes rest → Is x part → rest ≡ part ++ rest' → Has Is (n + 1) (xs ++ x ∷ []) bytes rest'
  has-more n xs x bytes rest rest' part h i e = record {
    part = h.part ++ part;
    layout = h.layout ∙ ap (λ s. h.part ++ s) e ∙ sym (append_assoc h.part part rest');
    many = (length-append xs (x ∷ []) ∙ ap (λ m. m + 1) h.many.0, each-append xs (x ∷ []) h.part part h.many.1 (each-single x part i));
  }

  pub has-none : (bytes : List ℕ) → Has Is 0 [] bytes bytes
  has-none bytes = record { part = []; layout = refl; many = (refl, refl) }

  -- things parted behind so many of them
  each-split : (i : ℕ) (xs : List T) (a : List ℕ) → i < length xs → AreEach Is xs a
      → (front : List T) × (x : T) × (b : List ℕ) × (part : List ℕ) × (c : List ℕ) × (length front ≡ i) × AreEach Is front b × Is x part × (a ≡ b ++ (part ++ c))
  each-split i [] a l h = absurd (omega arith)
  each-split zero (x ∷ xs) a l h = ([], x, [], h.0, h.1, refl, refl, h.3, h.2)
  each-split (suc i) (x ∷ xs) a l h =
      let s = each-split i xs h.1 (omega arith) h.4 in
      (x ∷ s.0, s.1, h.0 ++ s.2, s.3, s.4, ap suc s.5, (h.0, s.2, refl, h.3, s.6), s.7, h.2 ∙ ap (λ z. h.0 ++ z) s.8 ∙ sym (append_assoc h.0 s.2 (s.3 ++ s.4)))

  -- so many things after which one has a fault
  pub many-fault : IsPrefixCode Is → (z : T) (zb : List ℕ) → Is z zb → (n i k : ℕ) (xs : List T) (bytes rest : List ℕ) → i < n → Has Is i xs bytes rest → IsFaultOf (Spells Is) rest k
      → (m : ℕ) × (m + length rest ≡ length bytes) × IsFaultOf (Spells (Many Is n)) bytes (m + k)
  many-fault code z zb hz n i k xs bytes rest less h f =
      let front = h.part in
      let m = length front in
      let size : m + length rest ≡ length bytes = sym (ap length h.layout ∙ length-append front rest) in
      let cut : (j : ℕ) → take (m + j) bytes ≡ front ++ take j rest = λ j. ap (take (m + j)) h.layout ∙ take-append-add front rest j in
      let left = many-some z zb hz (n - i - 1) in
      let lone = f.before in
      let refuses : (word more tail : List ℕ) → Spells (Many Is n) word → front ++ more ≡ word ++ tail → (part : List ℕ) × (c : List ℕ) × (x : T) × Is x part × (more ≡ part ++ (c ++ tail)) =
      λ word more tail w e.
      let s = each-split i w.0 word (rw w.1.0 less) w.1.1 in
      let spread : front ++ more ≡ s.2 ++ (s.3 ++ (s.4 ++ tail)) =
      e ∙ ap (λ y. y ++ tail) s.8 ∙ append_assoc s.2 (s.3 ++ s.4) tail ∙ ap (λ y. s.2 ++ y) (append_assoc s.3 s.4 tail) in
      let same = each-one code xs s.0 front s.2 more (s.3 ++ (s.4 ++ tail)) (h.many.0 ∙ sym s.5) h.many.1 s.6 spread in
      (s.3, s.4, s.1, s.7, same.1) in
      let inside = f.inside in (
        m,
        size,
        record {
          inside = omega (arith, size);
          before = (
            lone.0 ++ left.0,
            (
              xs ++ (lone.1.0 ∷ left.1.0),
              (
                length-append xs (lone.1.0 ∷ left.1.0) ∙ omega (arith, h.many.0, left.1.1.0),
                subst (AreEach Is (xs ++ (lone.1.0 ∷ left.1.0)))
                    (sym (ap (λ s. s ++ (lone.0 ++ left.0)) (cut k) ∙ append_assoc front (take k rest) (lone.0 ++ left.0)))
                    (each-append xs (lone.1.0 ∷ left.1.0) front (take k rest ++ (lone.0 ++ left.0)) h.many.1
                    (take k rest ++ lone.0, left.0, sym (append_assoc (take k rest) lone.0 left.0), lone.1.1, left.1.1.1)),
              ),
            ),
          );
          here = λ long word more tail w e.
              let far : m + k + 1 ≡ m + (k + 1) = omega arith in
              let spread : front ++ (take (k + 1) rest ++ more) ≡ word ++ tail =
              sym (append_assoc front (take (k + 1) rest) more) ∙ ap (λ s. s ++ more) (sym (cut (k + 1))) ∙ ap (λ j. take j bytes ++ more) (sym far) ∙ e in
              let r = refuses word (take (k + 1) rest ++ more) tail w spread in
              f.here (omega (arith, size)) r.0 more (r.1 ++ tail) (r.2, r.3) r.4;
          short = λ ends word tail w e.
              let r = refuses word rest tail w (sym h.layout ∙ e) in
              f.short (omega (arith, size)) r.0 (r.1 ++ tail) (r.2, r.3) r.4;
        },
      )

  pub adds-none : (old : List ℕ) → Adds Is [] old old
  adds-none old = ([], sym (append-nil old), refl)

  pub adds-more : (xs : List T) (x : T) (old mid new part : List ℕ) → Adds Is xs old mid → new ≡ mid ++ part → Is x part → Adds Is (xs ++ x ∷ []) old new
  adds-more xs x old mid new part h e i = (h.0 ++ part, e ∙ ap (λ s. s ++ part) h.1 ∙ append_assoc old h.0 part, each-append xs (x ∷ []) h.0 part h.2 (each-single x part i))

  pub adds-append : (xs ys : List T) (old mid new : List ℕ) → Adds Is xs old mid → Adds Is ys mid new → Adds Is (xs ++ ys) old new
  adds-append xs ys old mid new h k = (h.0 ++ k.0, k.1 ∙ ap (λ s. s ++ k.0) h.1 ∙ append_assoc old h.0 k.0, each-append xs ys h.0 k.0 h.2 k.2)

  -- one thing more, of N bytes
  pub has-step : (n start end size : ℕ) (xs : List T) (x : T) (bytes : List ℕ) → Has Is n xs (drop start bytes) (drop end bytes) → Is x (take size (drop end bytes))
      → Has Is (n + 1) (xs ++ x ∷ []) (drop start bytes) (drop (end + size) bytes)
  has-step n start end size xs x bytes h i =
      has-more n xs x (drop start bytes) (drop end bytes) (drop (end + size) bytes) (take size (drop end bytes)) h i
      (sym (take-append-drop size (drop end bytes)) ∙ ap (λ s. take size (drop end bytes) ++ s) (drop-drop size end bytes))

  pub fault-behind : IsPrefixCode Is → (z : T) (zb : List ℕ) → Is z zb → (n i k start end at : ℕ) (xs : List T) (bytes : List ℕ) → start ≤ length bytes → end ≤ length bytes → i < n
      → Has Is i xs (drop start bytes) (drop end bytes) → IsFaultOf (Spells Is) (drop end bytes) k → at ≡ end + k → IsFaultAfter Is n bytes start at
  fault-behind code z zb hz n i k start end at xs bytes in_start in_end less h f e =
      let many = many-fault code z zb hz n i k xs (drop start bytes) (drop end bytes) less h f in
      (many.0 + k, omega (arith, many.1, length-drop start bytes, length-drop end bytes, e), many.2)
