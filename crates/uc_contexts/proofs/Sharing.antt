-- Addresses that are looked for among the marks of several runs.
use Rattle.std.proofs.Common.{◌≡◌, ℕ, ◌+◌, ◌≤◌, ◌<◌, inl, inr, List, false, Some, length, get_or, refl, ap, sym, subst, ◌∙◌, arith}
use Rattle.std.specs.Prelude.{slice_get}
use Rattle.std.proofs.lemmas.Bool.{cases_eq, cases_lt, false≢true}
use Rattle.std.proofs.lemmas.Option.{slice_get_read, slice_get_within}
use Rattle.nv_base.specs.declared.term.Mem.{Mem}
use Rattle.nv_base.specs.declared.term.Mem.TheVariants.{Sram, Sdram, Scratch}
use Rattle.uc_contexts.specs.declared.alone.Marks.{Marks}
use Rattle.uc_contexts.specs.Marked.{IsMarked, IsMarkedByOther, IsMarkedWritten, IsShared, IsFirstShared, rank}
use Rattle.uc_contexts.specs.Sets.{has, within}

-- of the marks before a number none has this
abbrev pub NoneBefore : (ℕ → Marks → Type 0) → List Marks → ℕ → Type 0
NoneBefore P footprints n = (j : ℕ) (f : Marks) → j < n → slice_get footprints j ≡ Some f → ¬ (P j f)

pub none-first : (P : ℕ → Marks → Type 0) (footprints : List Marks) → NoneBefore P footprints 0
none-first P footprints = λ j f lt is. absurd (omega arith)

pub none-next : (P : ℕ → Marks → Type 0) (footprints : List Marks) (n : ℕ) (g : Marks) → slice_get footprints n ≡ Some g → NoneBefore P footprints n → ¬ (P n g) → NoneBefore P footprints (n + 1)
none-next P footprints n g at h not = λ j f lt is. elim (cases_eq j n) [
  | inl same ↦ (
      let there : slice_get footprints j ≡ Some g = ap (slice_get footprints) same ∙ at in
      let one : f ≡ g = cc in
      λ p. not (subst (λ k. P k g) same (subst (P j) one p))
      )
  | inr other ↦ (let less : j < n = omega arith in h j f less is)
]

-- the mark at a place of the list
pub mark-at : (footprints : List Marks) (n : ℕ) (f : Marks) → n < length footprints → f ≡ get_or footprints n f → slice_get footprints n ≡ Some f
mark-at footprints n f less is = slice_get_read footprints (length footprints) n f refl less is

-- ---- marked by another run

abbrev pub Other : ℕ → Mem → ℕ → ℕ → Marks → Type 0
Other writer m a j f = ¬ (writer ≡ j) × IsMarked f m a

pub no-other : (footprints : List Marks) (writer : ℕ) (m : Mem) (a n : ℕ) → length footprints ≤ n → NoneBefore (Other writer m a) footprints n → ¬ IsMarkedByOther footprints writer m a
no-other footprints writer m a n all h = λ o.
    let there : o.0 < length footprints = slice_get_within footprints o.0 o.1 o.3 in
    let less : o.0 < n = omega arith in
    h o.0 o.1 less o.3 (o.2, o.4)

-- ---- shared

abbrev pub Writer : List Marks → Mem → ℕ → ℕ → Marks → Type 0
Writer footprints m a i f = IsMarkedWritten f m a × IsMarkedByOther footprints i m a

pub no-writer : (footprints : List Marks) (m : Mem) (a n : ℕ) → length footprints ≤ n → NoneBefore (Writer footprints m a) footprints n → ¬ IsShared footprints m a
no-writer footprints m a n all h = λ s.
    let there : s.0 < length footprints = slice_get_within footprints s.0 s.1 s.2 in
    let less : s.0 < n = omega arith in
    h s.0 s.1 less s.2 (s.3, s.4)

-- ---- where writes end

-- none of the first n writes an address from this number on
abbrev pub EndsBefore : List Marks → Mem → ℕ → ℕ → Type 0
EndsBefore footprints m n end = (j : ℕ) (f : Marks) → j < n → slice_get footprints j ≡ Some f → (a : ℕ) → end ≤ a → ¬ IsMarkedWritten f m a

pub ends-next : (footprints : List Marks) (m : Mem) (n end end' size : ℕ) (g : Marks) → slice_get footprints n ≡ Some g → EndsBefore footprints m n end → end ≤ end' → size ≤ end' → ((a : ℕ) → size ≤ a → has (within m g.written) a ≡ false) → EndsBefore footprints m (n + 1) end'
ends-next footprints m n end end' size g at h more less past = λ j f lt there a le marked. elim (cases_eq j n) [
  | inl same ↦ (
      let here : slice_get footprints j ≡ Some g = ap (slice_get footprints) same ∙ at in
      let this : f ≡ g = cc in
      let beyond : size ≤ a = omega arith in
      false≢true (sym (past a beyond) ∙ subst (λ x. IsMarkedWritten x m a) this marked)
      )
  | inr other ↦ (
      let before : j < n = omega arith in
      let beyond : end ≤ a = omega arith in
      h j f before there a beyond marked
      )
]

pub not-next : (P : ℕ → Type 0) (n : ℕ) → ((b : ℕ) → b < n → ¬ (P b)) → ¬ (P n) → (b : ℕ) → b < n + 1 → ¬ (P b)
not-next P n h not = λ b lt p. elim (cases_eq b n) [
  | inl same ↦ not (subst P same p)
  | inr other ↦ (let less : b < n = omega arith in h b less p)
]

pub none-shared : (footprints : List Marks) (m : Mem) (end n : ℕ) → ((i : ℕ) (f : Marks) → slice_get footprints i ≡ Some f → (a : ℕ) → end ≤ a → ¬ IsMarkedWritten f m a) → end ≤ n → ((b : ℕ) → b < n → ¬ IsShared footprints m b) → (a : ℕ) → ¬ IsShared footprints m a
none-shared footprints m end n h all below = λ a s. elim (cases_lt a n) [
  | inl less ↦ below a less s
  | inr past ↦ (let beyond : end ≤ a = omega arith in h s.0 s.1 s.2 a beyond s.3)
]

-- ---- the first of all memories

pub first-sram : (footprints : List Marks) (a : ℕ) → IsShared footprints Sram a → ((b : ℕ) → b < a → ¬ IsShared footprints Sram b) → IsFirstShared footprints Sram a
first-sram footprints a s first = record {
  shared = s;
  first = λ k b before t. elim before [
    | inl less ↦ absurd (omega arith)
    | inr same ↦ first b same.1 (subst (λ m. IsShared footprints m b) same.0 t)
  ];
}

below-one : (footprints : List Marks) (k : Mem) (b : ℕ) → ((a : ℕ) → ¬ IsShared footprints Sram a) → rank k < 1 → ¬ IsShared footprints k b
below-one footprints Sram b h less = h b
below-one footprints Sdram b h less = absurd (omega arith)
below-one footprints Scratch b h less = absurd (omega arith)

pub first-sdram : (footprints : List Marks) (a : ℕ) → ((b : ℕ) → ¬ IsShared footprints Sram b) → IsShared footprints Sdram a → ((b : ℕ) → b < a → ¬ IsShared footprints Sdram b) → IsFirstShared footprints Sdram a
first-sdram footprints a none s first = record {
  shared = s;
  first = λ k b before t. elim before [
    | inl less ↦ below-one footprints k b none less t
    | inr same ↦ first b same.1 (subst (λ m. IsShared footprints m b) same.0 t)
  ];
}

below-two : (footprints : List Marks) (k : Mem) (b : ℕ) → ((a : ℕ) → ¬ IsShared footprints Sram a) → ((a : ℕ) → ¬ IsShared footprints Sdram a) → rank k < 2 → ¬ IsShared footprints k b
below-two footprints Sram b h g less = h b
below-two footprints Sdram b h g less = g b
below-two footprints Scratch b h g less = absurd (omega arith)

pub first-scratch : (footprints : List Marks) (a : ℕ) → ((b : ℕ) → ¬ IsShared footprints Sram b) → ((b : ℕ) → ¬ IsShared footprints Sdram b) → IsShared footprints Scratch a → ((b : ℕ) → b < a → ¬ IsShared footprints Scratch b) → IsFirstShared footprints Scratch a
first-scratch footprints a none none_ s first = record {
  shared = s;
  first = λ k b before t. elim before [
    | inl less ↦ below-two footprints k b none none_ less t
    | inr same ↦ first b same.1 (subst (λ m. IsShared footprints m b) same.0 t)
  ];
}

pub none-anywhere : (footprints : List Marks) → ((a : ℕ) → ¬ IsShared footprints Sram a) → ((a : ℕ) → ¬ IsShared footprints Sdram a) → ((a : ℕ) → ¬ IsShared footprints Scratch a) → (m : Mem) (a : ℕ) → ¬ IsShared footprints m a
none-anywhere footprints f g h Sram a = f a
none-anywhere footprints f g h Sdram a = g a
none-anywhere footprints f g h Scratch a = h a
