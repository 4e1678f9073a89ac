-- Writes that are apart from an access, and from one another.
use Rattle.std.proofs.Common.{◌≡◌, ℕ, suc, ◌+◌, ◌*◌, ◌≤◌, ◌<◌, ◌⊎◌, inl, inr, List, [], ◌∷◌, All, Some, None, length, refl, ap, sym, ◌∙◌, arith}
use Rattle.std.specs.Prelude.{Option, unwrap_or}
use Rattle.std.proofs.lemmas.Bool.{cases_lt}
use Rattle.nv_base.specs.declared.term.Mem.{Mem}
use Rattle.nv_base.specs.declared.term.Mem.TheVariants.{Sram, Sdram, Scratch}
use Rattle.nv_base.specs.declared.outcome.Write.{Write as WriteEvent}
use Rattle.nv_base.specs.Memories.{Memories, AreApart, fetched, stored, words_at}
use Rattle.nv_base.specs.Meanings.{applied, left_by}
use Rattle.nv_base.proofs.Frames.{fetched-elsewhere, applied-order, applied-size}
use Rattle.uc_contexts.specs.Footprints.{Touches}

-- the first of some, and the others
pub all-first : (P : WriteEvent → Type 0) (w : WriteEvent) (ws : List WriteEvent) → All P (w ∷ ws) → P w
all-first P w ws h = let some : 0 < length (w ∷ ws) = omega arith in h 0 w some

pub all-rest : (P : WriteEvent → Type 0) (w : WriteEvent) (ws : List WriteEvent) → All P (w ∷ ws) → All P ws
all-rest P w ws h = λ k d lt. let more : suc k < length (w ∷ ws) = omega arith in h (suc k) d more

-- writes keep the sizes of memories
pub left-size : (m : Mem) (ws : List WriteEvent) (p : Memories) → length (words_at m (left_by ws p)) ≡ length (words_at m p)
left-size m [] p = refl
left-size m (w ∷ ws) p = left-size m ws (applied w p) ∙ applied-size m w p

-- ---- an access

-- each of the writes is apart from an access of n words
abbrev pub ApartFrom : Mem → ℕ → ℕ → List WriteEvent → Type 0
ApartFrom m at n ws = All (λ v. AreApart m at n v.mem v.at (length v.words)) ws

applied-elsewhere : (o : Option Memories) (m : Mem) (at n : ℕ) (w : WriteEvent) (p : Memories) → stored w.mem w.at w.words p ≡ o → AreApart m at n w.mem w.at (length w.words) → fetched m at n (unwrap_or o p) ≡ fetched m at n p
applied-elsewhere (Some q) m at n w p e apart = fetched-elsewhere m w.mem at n w.at w.words p q apart e
applied-elsewhere None m at n w p e apart = refl

pub left-elsewhere : (m : Mem) (at n : ℕ) (ws : List WriteEvent) (p : Memories) → ApartFrom m at n ws → fetched m at n (left_by ws p) ≡ fetched m at n p
left-elsewhere m at n [] p h = refl
left-elsewhere m at n (w ∷ ws) p h =
    let P : WriteEvent → Type 0 = λ v. AreApart m at n v.mem v.at (length v.words) in
    left-elsewhere m at n ws (applied w p) (all-rest P w ws h) ∙ applied-elsewhere (stored w.mem w.at w.words p) m at n w p refl (all-first P w ws h)

-- ---- the order of writes

abbrev pub WriteApart : WriteEvent → WriteEvent → Type 0
WriteApart w v = AreApart w.mem w.at (length w.words) v.mem v.at (length v.words)

-- each write of the first list is apart from each of the second
abbrev pub ListsApart : List WriteEvent → List WriteEvent → Type 0
ListsApart ws vs = All (λ w. All (WriteApart w) vs) ws

applied-behind : (w : WriteEvent) (vs : List WriteEvent) (p : Memories) → All (WriteApart w) vs → left_by vs (applied w p) ≡ applied w (left_by vs p)
applied-behind w [] p h = refl
applied-behind w (v ∷ vs) p h = ap (left_by vs) (sym (applied-order w v p (all-first (WriteApart w) v vs h))) ∙ applied-behind w vs (applied v p) (all-rest (WriteApart w) v vs h)

pub left-behind : (ws vs : List WriteEvent) (p : Memories) → ListsApart ws vs → left_by vs (left_by ws p) ≡ left_by ws (left_by vs p)
left-behind [] vs p h = refl
left-behind (w ∷ ws) vs p h =
    let P : WriteEvent → Type 0 = λ w. All (WriteApart w) vs in
    left-behind ws vs (applied w p) (all-rest P w ws h) ∙ ap (left_by ws) (applied-behind w vs p (all-first P w ws h))

-- ---- stretches without a common address

words-apart : (x n x' n' : ℕ) → (x ≤ x' → x' < x + n → ⊥) → (x' ≤ x → x < x' + n' → ⊥) → (x + n ≤ x') ⊎ (x' + n' ≤ x)
words-apart x n x' n' f g = elim (cases_lt x' (x + n)) [
  | inr le ↦ inl le
  | inl lt ↦ elim (cases_lt x (x' + n')) [
    | inr le ↦ inr le
    | inl lt' ↦ elim (cases_lt x' x) [
      | inl less ↦ absurd (g (omega arith) lt')
      | inr least ↦ absurd (f least lt)
    ]
  ]
]

-- two stretches, of a word at least each, that touch no common address are apart
pub stretches-apart : (m : Mem) (at n : ℕ) (m' : Mem) (at' n' : ℕ) → 1 ≤ n → 1 ≤ n' → ((a : ℕ) → m ≡ m' → Touches m at n a → Touches m' at' n' a → ⊥) → AreApart m at n m' at' n'
stretches-apart Sram at n Sram at' n' some some' h = inr (words-apart at n at' n' (λ le lt. h at' refl (le, lt) (omega arith, omega arith)) (λ le lt. h at refl (omega arith, omega arith) (le, lt)))
stretches-apart Sram at n Sdram at' n' some some' h = inl (λ e. cc)
stretches-apart Sram at n Scratch at' n' some some' h = inl (λ e. cc)
stretches-apart Sdram at n Sram at' n' some some' h = inl (λ e. cc)
stretches-apart Sdram at n Sdram at' n' some some' h =
    inr (words-apart (2 * at) n (2 * at') n' (λ le lt. h at' refl (le, lt) (omega arith, omega arith)) (λ le lt. h at refl (omega arith, omega arith) (le, lt)))
stretches-apart Sdram at n Scratch at' n' some some' h = inl (λ e. cc)
stretches-apart Scratch at n Sram at' n' some some' h = inl (λ e. cc)
stretches-apart Scratch at n Sdram at' n' some some' h = inl (λ e. cc)
stretches-apart Scratch at n Scratch at' n' some some' h = inr (words-apart at n at' n' (λ le lt. h at' refl (le, lt) (omega arith, omega arith)) (λ le lt. h at refl (omega arith, omega arith) (le, lt)))
