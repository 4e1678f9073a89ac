-- Accesses that are apart, and accesses that a source can make.
use Rattle.std.proofs.Common.{◌≡◌, ℕ, ◌+◌, ◌≤◌, ◌⊎◌, inl, inr, ◌*◌, zero, suc, List, [], ◌∷◌, Option, Bool, true, false, Some, None, length, take, drop, refl, sym, ap, ◌∙◌, if◌then◌else◌, nat_le, arith}
use Rattle.std.specs.Prelude.{unwrap_or}
use Rattle.std.proofs.lemmas.Bool.{false≢true, leb-true}
use Rattle.nv_base.specs.declared.term.Atom.{Atom}
use Rattle.nv_base.specs.declared.term.Atom.TheVariants.{Var, Lit}
use Rattle.nv_base.specs.declared.term.Mem.{Mem}
use Rattle.nv_base.specs.declared.term.Mem.TheVariants.{Sram, Sdram, Scratch}
use Rattle.nv_base.specs.declared.outcome.Write.{Write}
use Rattle.nv_base.specs.Words.{Env, atom_word, word}
use Rattle.nv_base.specs.Access.{is_address}
use Rattle.nv_base.specs.Memories.{Memories, HasSizes, stored, fetched, words_at, with_words, first_word, AreApart, IsSourceStretch}
use Rattle.nv_base.specs.Meanings.{applied, source_memories, is_source_write}
use Rattle.nv_base.proofs.Stretches.{splice, splice-length, splice-before, splice-after, splice-order}
use Rattle.nv_base.proofs.MemoryLemmas.{Alike, alike-cut, spliced, spliced-alike, hidden-at, long-alike}

-- ---- what is read and written in the words of one memory

abbrev read : ℕ → ℕ → List ℕ → Option (List ℕ)
read a n x = if nat_le (a + n) (length x) then Some (take n (drop a x)) else None

same-read : (a n : ℕ) (x y : List ℕ) → length x ≡ length y → take n (drop a x) ≡ take n (drop a y) → read a n x ≡ read a n y
same-read a n x y e f = ap (λ k. if nat_le (a + n) k then Some (take n (drop a x)) else None) e ∙ ap (λ z. if nat_le (a + n) (length y) then Some z else None) f

untouched : (a n b : ℕ) (ws x : List ℕ) → (a + n ≤ b) ⊎ (b + length ws ≤ a) → b + length ws ≤ length x → read a n (splice b ws x) ≡ read a n x
untouched a n b ws x (inl le) fits = same-read a n (splice b ws x) x (splice-length b ws x fits) (splice-before n a b ws x le (omega arith))
untouched a n b ws x (inr le) fits = same-read a n (splice b ws x) x (splice-length b ws x fits) (ap (take n) (splice-after a b ws x le fits))

swapped : (a b : ℕ) (ws vs x : List ℕ) → (a + length ws ≤ b) ⊎ (b + length vs ≤ a) → a + length ws ≤ length x → b + length vs ≤ length x → splice a ws (splice b vs x) ≡ splice b vs (splice a ws x)
swapped a b ws vs x (inl le) fits fits' = sym (splice-order a b ws vs x le (omega arith))
swapped a b ws vs x (inr le) fits fits' = splice-order b a vs ws x le (omega arith)

-- a store that was done, was within its memory
stored-if : (b : Bool) (new q : Memories) → (if b then Some new else None) ≡ Some q → (b ≡ true) × (new ≡ q)
stored-if true new q e = let same : new ≡ q = cc in (refl, same)
stored-if false new q e = cc

stored-fits : (m : Mem) (at : ℕ) (ws : List ℕ) (p q : Memories) → stored m at ws p ≡ Some q
    → (nat_le (first_word m at + length ws) (length (words_at m p)) ≡ true) × (with_words m p (splice (first_word m at) ws (words_at m p)) ≡ q)
stored-fits m at ws p q e = stored-if (nat_le (first_word m at + length ws) (length (words_at m p))) (with_words m p (splice (first_word m at) ws (words_at m p))) q e

stored-where : (m : Mem) (at : ℕ) (ws : List ℕ) (p : Memories) → nat_le (first_word m at + length ws) (length (words_at m p)) ≡ true → stored m at ws p ≡ Some (with_words m p (splice (first_word m at) ws (words_at m p)))
stored-where m at ws p e = ap (λ b. if b then Some (with_words m p (splice (first_word m at) ws (words_at m p))) else None) e

-- ---- what is fetched at a place that a store doesn't touch

frame-at : (m m' : Mem) (at n at' : ℕ) (ws : List ℕ) (p : Memories) → AreApart m at n m' at' (length ws) → first_word m' at' + length ws ≤ length (words_at m' p)
    → fetched m at n (with_words m' p (splice (first_word m' at') ws (words_at m' p))) ≡ fetched m at n p
frame-at Sram Sram at n at' ws p (inl other) fits = absurd (other refl)
frame-at Sram Sram at n at' ws p (inr apart) fits = untouched at n at' ws p.sram apart fits
frame-at Sram Sdram at n at' ws p apart fits = refl
frame-at Sram Scratch at n at' ws p apart fits = refl
frame-at Sdram Sram at n at' ws p apart fits = refl
frame-at Sdram Sdram at n at' ws p (inl other) fits = absurd (other refl)
frame-at Sdram Sdram at n at' ws p (inr apart) fits = untouched (2 * at) n (2 * at') ws p.sdram apart fits
frame-at Sdram Scratch at n at' ws p apart fits = refl
frame-at Scratch Sram at n at' ws p apart fits = refl
frame-at Scratch Sdram at n at' ws p apart fits = refl
frame-at Scratch Scratch at n at' ws p (inl other) fits = absurd (other refl)
frame-at Scratch Scratch at n at' ws p (inr apart) fits = untouched at n at' ws p.scratch apart fits

pub fetched-elsewhere : (m m' : Mem) (at n at' : ℕ) (ws : List ℕ) (p q : Memories) → AreApart m at n m' at' (length ws) → stored m' at' ws p ≡ Some q → fetched m at n q ≡ fetched m at n p
fetched-elsewhere m m' at n at' ws p q apart e =
    let s = stored-fits m' at' ws p q e in
    ap (fetched m at n) (sym s.1) ∙ frame-at m m' at n at' ws p apart (leb-true (first_word m' at' + length ws) (length (words_at m' p)) s.0)

-- ---- the order of two stores that are apart

size-if : (c : Bool) (m m' : Mem) (a : ℕ) (ws : List ℕ) (p : Memories) → nat_le (a + length ws) (length (words_at m' p)) ≡ c → length (words_at m (spliced c m' a ws p)) ≡ length (words_at m p)
size-if false m m' a ws p e = refl
size-if true Sram Sram a ws p e = splice-length a ws p.sram (leb-true (a + length ws) (length p.sram) e)
size-if true Sram Sdram a ws p e = refl
size-if true Sram Scratch a ws p e = refl
size-if true Sdram Sram a ws p e = refl
size-if true Sdram Sdram a ws p e = splice-length a ws p.sdram (leb-true (a + length ws) (length p.sdram) e)
size-if true Sdram Scratch a ws p e = refl
size-if true Scratch Sram a ws p e = refl
size-if true Scratch Sdram a ws p e = refl
size-if true Scratch Scratch a ws p e = splice-length a ws p.scratch (leb-true (a + length ws) (length p.scratch) e)

-- stores keep the sizes of memories
pub applied-size : (m : Mem) (w : Write) (p : Memories) → length (words_at m (applied w p)) ≡ length (words_at m p)
applied-size m w p = size-if (nat_le (first_word w.mem w.at + length w.words) (length (words_at w.mem p))) m w.mem (first_word w.mem w.at) w.words p refl

order-if : (b c : Bool) (m m' : Mem) (at at' : ℕ) (ws vs : List ℕ) (p : Memories) → AreApart m at (length ws) m' at' (length vs) → nat_le (first_word m at + length ws) (length (words_at m p)) ≡ b
    → nat_le (first_word m' at' + length vs) (length (words_at m' p)) ≡ c → spliced b m (first_word m at) ws (spliced c m' (first_word m' at') vs p) ≡ spliced c m' (first_word m' at') vs (spliced b m (first_word m at) ws p)
order-if false c m m' at at' ws vs p apart e f = refl
order-if true false m m' at at' ws vs p apart e f = refl
order-if true true Sram Sram at at' ws vs p (inl other) e f = absurd (other refl)
order-if true true Sram Sram at at' ws vs p (inr apart) e f =
    ap (with_words Sram p) (swapped at at' ws vs p.sram apart (leb-true (at + length ws) (length p.sram) e) (leb-true (at' + length vs) (length p.sram) f))
order-if true true Sram Sdram at at' ws vs p apart e f = refl
order-if true true Sram Scratch at at' ws vs p apart e f = refl
order-if true true Sdram Sram at at' ws vs p apart e f = refl
order-if true true Sdram Sdram at at' ws vs p (inl other) e f = absurd (other refl)
order-if true true Sdram Sdram at at' ws vs p (inr apart) e f =
    ap (with_words Sdram p) (swapped (2 * at) (2 * at') ws vs p.sdram apart (leb-true (2 * at + length ws) (length p.sdram) e) (leb-true (2 * at' + length vs) (length p.sdram) f))
order-if true true Sdram Scratch at at' ws vs p apart e f = refl
order-if true true Scratch Sram at at' ws vs p apart e f = refl
order-if true true Scratch Sdram at at' ws vs p apart e f = refl
order-if true true Scratch Scratch at at' ws vs p (inl other) e f = absurd (other refl)
order-if true true Scratch Scratch at at' ws vs p (inr apart) e f =
    ap (with_words Scratch p) (swapped at at' ws vs p.scratch apart (leb-true (at + length ws) (length p.scratch) e) (leb-true (at' + length vs) (length p.scratch) f))

-- the fitting of a write after another
behind : (w v : Write) (p : Memories) → applied w (applied v p) ≡ spliced (nat_le (first_word w.mem w.at + length w.words) (length (words_at w.mem p))) w.mem (first_word w.mem w.at) w.words (applied v p)
behind w v p = ap (λ k. spliced (nat_le (first_word w.mem w.at + length w.words) k) w.mem (first_word w.mem w.at) w.words (applied v p)) (applied-size w.mem v p)

pub applied-order : (w v : Write) (p : Memories) → AreApart w.mem w.at (length w.words) v.mem v.at (length v.words) → applied w (applied v p) ≡ applied v (applied w p)
applied-order w v p apart =
    behind w v p
    ∙ order-if (nat_le (first_word w.mem w.at + length w.words) (length (words_at w.mem p))) (nat_le (first_word v.mem v.at + length v.words) (length (words_at v.mem p))) w.mem v.mem w.at v.at w.words v.words p apart refl refl
    ∙ sym (behind v w p)

-- where two stores are done, they are done in the other order too
pub stored-order : (m m' : Mem) (at at' : ℕ) (ws vs : List ℕ) (p q r : Memories) → AreApart m at (length ws) m' at' (length vs) → stored m at ws p ≡ Some q → stored m' at' vs q ≡ Some r
    → (o : Memories) × (stored m' at' vs p ≡ Some o) × (stored m at ws o ≡ Some r)
stored-order m m' at at' ws vs p q r apart e f =
    let s = stored-fits m at ws p q e in
    let t = stored-fits m' at' vs q r f in
    let o = with_words m' p (splice (first_word m' at') vs (words_at m' p)) in
    let size : length (words_at m' q) ≡ length (words_at m' p) = ap (λ z. length (words_at m' z)) (sym s.1) ∙ size-if true m' m (first_word m at) ws p s.0 in
    let there : nat_le (first_word m' at' + length vs) (length (words_at m' p)) ≡ true = ap (nat_le (first_word m' at' + length vs)) (sym size) ∙ t.0 in
    let here : nat_le (first_word m at + length ws) (length (words_at m o)) ≡ true = ap (nat_le (first_word m at + length ws)) (size-if true m m' (first_word m' at') vs p there) ∙ s.0 in
    let last : with_words m o (splice (first_word m at) ws (words_at m o)) ≡ r =
    order-if true true m m' at at' ws vs p apart s.0 there
    ∙ ap (λ z. with_words m' z (splice (first_word m' at') vs (words_at m' z))) s.1
    ∙ t.1 in
    (o, stored-where m' at' vs p there, stored-where m at ws o here ∙ ap Some last)

-- ---- the compiler's scratch words

stored-applied : (m : Mem) (at : ℕ) (ws : List ℕ) (p q : Memories) → stored m at ws p ≡ Some q → unwrap_or (stored m at ws p) p ≡ q
stored-applied m at ws p q e = ap (λ o. unwrap_or o p) e

not-below : (at : ℕ) → 512 ≤ at → is_source_write Scratch at ≡ false
not-below at le = grind arith

-- a write after the source's scratch words changes nothing that a source sees
pub hidden-store : (at : ℕ) (ws : List ℕ) (p q : Memories) → 512 ≤ at → stored Scratch at ws p ≡ Some q → source_memories q ≡ source_memories p
hidden-store at ws p q le e =
    ap source_memories (sym (stored-applied Scratch at ws p q e)) ∙ alike-cut (unwrap_or (stored Scratch at ws p) p) p (hidden-at Scratch at ws p (not-below at le))

pub alike-from : (p q : Memories) → HasSizes p → HasSizes q → source_memories p ≡ source_memories q → Alike p q
alike-from p q h k e = record {
  sram = ap (λ (r : Memories). r.sram) e;
  sdram = ap (λ (r : Memories). r.sdram) e;
  scratch = ap (λ (r : Memories). r.scratch) e;
  size = h.scratch.0 ∙ sym k.scratch.0;
}

take-less : (n c k : ℕ) (x : List ℕ) → c + n ≤ k → take n (drop c (take k x)) ≡ take n (drop c x)
take-less zero c k x le = refl
take-less (suc n) c zero x le = absurd (omega arith)
take-less (suc n) c (suc k) [] le = refl
take-less (suc n) zero (suc k) (y ∷ x) le = ap (λ z. y ∷ z) (take-less n zero k x (omega arith))
take-less (suc n) (suc c) (suc k) (y ∷ x) le = take-less (suc n) c k x (omega arith)

-- what a source can fetch, is in what it sees
pub fetched-seen : (m : Mem) (at n : ℕ) (p q : Memories) → Alike p q → IsSourceStretch m at n → fetched m at n p ≡ fetched m at n q
fetched-seen Sram at n p q h s = ap (read at n) h.sram
fetched-seen Sdram at n p q h s = ap (read (2 * at) n) h.sdram
fetched-seen Scratch at n p q h s =
    same-read at n p.scratch q.scratch h.size (sym (take-less n at 512 p.scratch s) ∙ ap (λ z. take n (drop at z)) h.scratch ∙ take-less n at 512 q.scratch s)

-- a store is done in both, and leaves them alike
pub stored-seen : (m : Mem) (at : ℕ) (ws : List ℕ) (p q p' : Memories) → Alike p q → stored m at ws p ≡ Some p' → (q' : Memories) × (stored m at ws q ≡ Some q') × (source_memories p' ≡ source_memories q')
stored-seen m at ws p q p' h e =
    let s = stored-fits m at ws p p' e in
    let q' = with_words m q (splice (first_word m at) ws (words_at m q)) in
    let there : nat_le (first_word m at + length ws) (length (words_at m q)) ≡ true = ap (nat_le (first_word m at + length ws)) (sym (long-alike m p q h)) ∙ s.0 in
    (q', stored-where m at ws q there, ap source_memories (sym s.1) ∙ alike-cut _ _ (spliced-alike true m (first_word m at) ws p q s.0 h))

none-if : (b : Bool) (new : Memories) → (if b then Some new else None) ≡ None → b ≡ false
none-if true new e = cc
none-if false new e = refl

pub not-stored-seen : (m : Mem) (at : ℕ) (ws : List ℕ) (p q : Memories) → Alike p q → stored m at ws p ≡ None → stored m at ws q ≡ None
not-stored-seen m at ws p q h e =
    let past : nat_le (first_word m at + length ws) (length (words_at m p)) ≡ false = none-if (nat_le (first_word m at + length ws) (length (words_at m p))) (with_words m p (splice (first_word m at) ws (words_at m p))) e in
    let there : nat_le (first_word m at + length ws) (length (words_at m q)) ≡ false = ap (nat_le (first_word m at + length ws)) (sym (long-alike m p q h)) ∙ past in
    ap (λ b. if b then Some (with_words m q (splice (first_word m at) ws (words_at m q))) else None) there

word-small : (at n : ℕ) → at + n ≤ 512 → word at + n ≤ 512
word-small at n le = let same : word at ≡ at = omega arith in omega (arith, same)

-- a tested address is one that a source can use
pub source-stretch : (env : Env) (m : Mem) (a : Atom) (n : ℕ) → is_address m a n ≡ true → IsSourceStretch m (atom_word env a) n
source-stretch env Sram a n e = tt
source-stretch env Sdram a n e = tt
source-stretch env Scratch (Var x) n e = absurd (false≢true e)
source-stretch env Scratch (Lit at) n e = word-small at n (leb-true (at + n) 512 e)
