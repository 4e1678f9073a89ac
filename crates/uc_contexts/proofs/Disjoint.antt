-- Marks tell whether runs are disjoint.
use Rattle.std.proofs.Common.{◌≡◌, ℕ, zero, suc, ◌<◌, ◌⊎◌, inl, inr, List, [], ◌∷◌, Some, refl, ap, sym, subst, arith}
use Rattle.std.specs.Prelude.{slice_get}
use Rattle.nv_base.specs.declared.term.Mem.{Mem}
use Rattle.nv_base.specs.declared.term.Mem.TheVariants.{Sram, Sdram, Scratch}
use Rattle.nv_base.specs.Memories.{Memories}
use Rattle.uc_isa.specs.Code.{CodeView}
use Rattle.uc_contexts.specs.declared.alone.Marks.{Marks}
use Rattle.uc_contexts.specs.Alone.{AreDisjoint, IsCommon}
use Rattle.uc_contexts.specs.Footprints.{Isolated}
use Rattle.uc_contexts.specs.Marked.{AreFootprints, IsFootprint, IsShared, IsFirstShared, IsFirstCommon, Precedes, rank}

-- each run has its marks
footprint-of : (c : CodeView) (p : Memories) (runs : List Isolated) (footprints : List Marks) (i : ℕ) (x : Isolated) → AreFootprints c p runs footprints → slice_get runs i ≡ Some x → (f : Marks) × (slice_get footprints i ≡ Some f) × IsFootprint c p x f
footprint-of c p [] footprints i x h is = cc
footprint-of c p (y ∷ runs) [] i x h is = absurd h
footprint-of c p (y ∷ runs) (f ∷ footprints) zero x h is = let same : y ≡ x = cc in (f, refl, subst (λ z. IsFootprint c p z f) same h.0)
footprint-of c p (y ∷ runs) (f ∷ footprints) (suc i) x h is = footprint-of c p runs footprints i x h.1 is

-- and all marks are of a run
run-of : (c : CodeView) (p : Memories) (runs : List Isolated) (footprints : List Marks) (i : ℕ) (f : Marks) → AreFootprints c p runs footprints → slice_get footprints i ≡ Some f → (x : Isolated) × (slice_get runs i ≡ Some x) × IsFootprint c p x f
run-of c p runs [] i f h is = cc
run-of c p [] (g ∷ footprints) i f h is = absurd h
run-of c p (y ∷ runs) (g ∷ footprints) zero f h is = let same : g ≡ f = cc in (y, refl, subst (IsFootprint c p y) same h.0)
run-of c p (y ∷ runs) (g ∷ footprints) (suc i) f h is = run-of c p runs footprints i f h.1 is

pub disjoint-unshared : (c : CodeView) (p : Memories) (runs : List Isolated) (footprints : List Marks) → AreFootprints c p runs footprints → ((m : Mem) (a : ℕ) → ¬ IsShared footprints m a) → AreDisjoint c p runs
disjoint-unshared c p runs footprints h none = λ i j x y ne is is' m a w t.
    let f = footprint-of c p runs footprints i x h is in
    let g = footprint-of c p runs footprints j y h is' in
    none m a (
      i,
      f.0,
      f.1,
      (f.2.written m a).1 w,
      (
        j,
        g.0,
        ne,
        g.1,
        elim t [
          | inl r ↦ inl ((g.2.read m a).1 r)
          | inr v ↦ inr ((g.2.written m a).1 v)
        ],
      ),
    )

pub shared-not_disjoint : (c : CodeView) (p : Memories) (runs : List Isolated) (footprints : List Marks) (m : Mem) (a : ℕ) → AreFootprints c p runs footprints → IsShared footprints m a → ¬ AreDisjoint c p runs
shared-not_disjoint c p runs footprints m a h s = λ d.
    let o = s.4 in
    let x = run-of c p runs footprints s.0 s.1 h s.2 in
    let y = run-of c p runs footprints o.0 o.1 h o.3 in
    d s.0 o.0 x.0 y.0 o.2 x.1 y.1 m a ((x.2.written m a).0 s.3) (elim o.4 [
      | inl r ↦ inl ((y.2.read m a).0 r)
      | inr v ↦ inr ((y.2.written m a).0 v)
    ])

-- ---- what is shared is common to the runs

shared-common : (c : CodeView) (p : Memories) (runs : List Isolated) (footprints : List Marks) (m : Mem) (a : ℕ) → AreFootprints c p runs footprints → IsShared footprints m a → IsCommon c p runs m a
shared-common c p runs footprints m a h s =
    let o = s.4 in
    let x = run-of c p runs footprints s.0 s.1 h s.2 in
    let y = run-of c p runs footprints o.0 o.1 h o.3 in
    record {
      writer = s.0;
      other = o.0;
      first = x.0;
      second = y.0;
      apart = o.2;
      first_is = x.1;
      second_is = y.1;
      written = (x.2.written m a).0 s.3;
      touched = elim o.4 [
        | inl r ↦ inl ((y.2.read m a).0 r)
        | inr v ↦ inr ((y.2.written m a).0 v)
      ];
    }

common-shared : (c : CodeView) (p : Memories) (runs : List Isolated) (footprints : List Marks) (m : Mem) (a : ℕ) → AreFootprints c p runs footprints → IsCommon c p runs m a → IsShared footprints m a
common-shared c p runs footprints m a h s =
    let f = footprint-of c p runs footprints s.writer s.first h s.first_is in
    let g = footprint-of c p runs footprints s.other s.second h s.second_is in (
      s.writer,
      f.0,
      f.1,
      (f.2.written m a).1 s.written,
      (
        s.other,
        g.0,
        s.apart,
        g.1,
        elim s.touched [
          | inl r ↦ inl ((g.2.read m a).1 r)
          | inr v ↦ inr ((g.2.written m a).1 v)
        ],
      ),
    )

pub first-common : (c : CodeView) (p : Memories) (runs : List Isolated) (footprints : List Marks) (m : Mem) (a : ℕ) → AreFootprints c p runs footprints → IsFirstShared footprints m a → IsFirstCommon c p runs m a
first-common c p runs footprints m a h f = record {
  common = shared-common c p runs footprints m a h f.shared;
  first = λ k b before common. f.first k b before (common-shared c p runs footprints k b h common);
}

-- where an address is common, the runs aren't disjoint
pub common-not_disjoint : (c : CodeView) (p : Memories) (runs : List Isolated) (m : Mem) (a : ℕ) → IsCommon c p runs m a → ¬ AreDisjoint c p runs
common-not_disjoint c p runs m a s = λ d. d s.writer s.other s.first s.second s.apart s.first_is s.second_is m a s.written s.touched

-- ---- there is one first address

-- of two numbers one is less, or they are one
compare : (a b : ℕ) → (a < b) ⊎ (a ≡ b) ⊎ (b < a)
compare zero zero = inr (inl refl)
compare zero (suc b) = inl (omega arith)
compare (suc a) zero = inr (inr (omega arith))
compare (suc a) (suc b) = elim (compare a b) [
  | inl l ↦ inl (omega (arith, l))
  | inr r ↦ elim r [
    | inl e ↦ inr (inl (ap suc e))
    | inr g ↦ inr (inr (omega (arith, g)))
  ]
]

same-memory : (m k : Mem) → rank m ≡ rank k → m ≡ k
same-memory Sram Sram e = refl
same-memory Sdram Sdram e = refl
same-memory Scratch Scratch e = refl
same-memory Sram Sdram e = absurd (omega (arith, e))
same-memory Sram Scratch e = absurd (omega (arith, e))
same-memory Sdram Sram e = absurd (omega (arith, e))
same-memory Sdram Scratch e = absurd (omega (arith, e))
same-memory Scratch Sram e = absurd (omega (arith, e))
same-memory Scratch Sdram e = absurd (omega (arith, e))

order : (m : Mem) (a : ℕ) (k : Mem) (b : ℕ) → Precedes m a k b ⊎ ((m ≡ k) × (a ≡ b)) ⊎ Precedes k b m a
order m a k b = elim (compare (rank m) (rank k)) [
  | inl l ↦ inl (inl l)
  | inr r ↦ elim r [
    | inr g ↦ inr (inr (inl g))
    | inl e ↦
        let same : m ≡ k = same-memory m k e in
        elim (compare a b) [
          | inl l ↦ inl (inr (same, l))
          | inr t ↦ elim t [
            | inl f ↦ inr (inl (same, f))
            | inr g ↦ inr (inr (inr (sym same, g)))
          ]
        ]
  ]
]

pub first-one : (c : CodeView) (p : Memories) (runs : List Isolated) (m : Mem) (a : ℕ) (k : Mem) (b : ℕ) → IsFirstCommon c p runs m a → IsFirstCommon c p runs k b → (m ≡ k) × (a ≡ b)
first-one c p runs m a k b f g = elim (order m a k b) [
  | inl l ↦ absurd (g.first m a l f.common)
  | inr r ↦ elim r [
    | inl same ↦ same
    | inr l ↦ absurd (f.first k b l g.common)
  ]
]
