-- The two operands of an instruction come from different groups of registers, in columns as in the placement.
use Rattle.std.proofs.Common.{◌≡◌, ℕ, ◌+◌, ◌<◌, ◌≤◌, nat_eq, Bool, true, false, ◌&&◌, inl, inr, Option, Some, List, [], ◌∷◌, length, map, refl, sym, ap, subst, ◌∙◌, arith}
use Rattle.std.specs.Prelude.{slice_get}
use Rattle.std.specs.List.{flat_map}
use Rattle.std.proofs.lemmas.Bool.{false≢true, and_parts}
use Rattle.nv_base.proofs.Sets.{same-number}
use Rattle.ssu_ir.specs.Tree.{Label}
use Rattle.ssu_ir.specs.Points.{Point, points}
use Rattle.ssu_ir.specs.Single.{single}
use Rattle.place_plan.specs.declared.place.Place.{Place}
use Rattle.place_plan.specs.declared.place.Place.TheVariants as place
use Rattle.place_plan.specs.Plan.{Plan, serve, pass}
use Rattle.place_plan.specs.Uses.{Role, Operand, Address, Written, Argument, Ending, Use, uses, uses_at, place_roles}
use Rattle.place_plan.specs.Fits.{served, IsOperandAt, IsServedAt, different_groups, AreApart, Fits}
use Rattle.ssu_liveness.specs.inner.Numbers.{values_among}
use Rattle.place_plan.proofs.Sound.{Each, Sound, sound-points, uses_among}
use Rattle.place_plan.proofs.Spilled.{each-at}
use Rattle.zo_model.specs.Program.{cost_where}
use Rattle.bank_prog_form.specs.declared.column.Bank.{Bank}
use Rattle.bank_prog_form.specs.declared.column.Bank.TheVariants.{A, B, M, T, L, A15, W}
use Rattle.bank_prog_form.specs.declared.column.Column.{Column}
use Rattle.bank_prog_form.specs.declared.column.Column.TheVariants.{Serve}
use Rattle.bank_prog_form.specs.Program.{same_bank}
use Rattle.bank_prog_form.specs.Rows.{banks, srv_at, two_operands, both_at, pair_lines, operand_lines, operand_banks}
use Rattle.bank_prog.specs.Meaning.{Chosen, Holds}
use Rattle.reg_assign_reading.specs.inner.Facts.{count}
use Rattle.reg_assign_reading.specs.inner.Chosen.{use_at, bank_of, is_in_bank, operand_bank, preferred_bank, IsChosen}
use Rattle.reg_assign_reading.proofs.Counts.{In, count-append}
use Rattle.reg_assign_reading.proofs.FactsThere.{uses-among}
use Rattle.bank_prog.proofs.UseSums.{sum_of}
use Rattle.reg_assign_reading.proofs.ChosenHolds.{most-holds, if-each, points-each}
use Rattle.reg_assign_reading.proofs.ChosenForm.{Placed, chosen-on, use-there, use-served}

-- ---- how many of some columns are on

-- how many of these pass a test
abbrev ones : {X : Type 0} → (X → Bool) → List X → ℕ
ones f xs = sum_of (λ x. cost_where (f x) 1) xs

at-most-ones : {X : Type 0} (on : Chosen) (c : X → Column) (f : X → Bool) (xs : List X) → ((x : X) → on (c x) ≡ true → f x ≡ true) → count on (map c xs) ≤ ones f xs
at-most-ones on c f [] h = omega arith
at-most-ones on c f (x ∷ xs) h = by (on (c x)) (f x) (h x) (at-most-ones on c f xs h)
  where
    by : (a b : Bool) → (a ≡ true → b ≡ true) → count on (map c xs) ≤ ones f xs → cost_where a 1 + count on (map c xs) ≤ cost_where b 1 + ones f xs
    by true true n ih = omega (arith, ih)
    by true false n ih = absurd (false≢true (n refl))
    by false true n ih = omega (arith, ih)
    by false false n ih = omega (arith, ih)

one-bank : (g : Bank) → ones (λ h. same_bank h g) banks ≡ 1
one-bank A = refl
one-bank B = refl
one-bank M = refl
one-bank T = refl
one-bank L = refl
one-bank A15 = refl
one-bank W = refl

none-of : {X : Type 0} (xs : List X) → ones (λ x. false) xs ≡ 0
none-of [] = refl
none-of (x ∷ xs) = let ih = none-of xs in omega (arith, ih)

-- the columns of one operand, which comes from one bank to another
record OneWay (on : Chosen) (k i : ℕ) (from at : Bank) : Type 0 where
  only : (h p : Bank) → on (Serve k i h p) ≡ true → (same_bank h from && same_bank p at) ≡ true

way-at : (on : Chosen) (k i : ℕ) (from at : Bank) → OneWay on k i from at → (p : Bank) → count on (srv_at k i p) ≤ cost_where (same_bank p at) 1
way-at on k i from at w p = by (same_bank p at) refl
  where
    by : (b : Bool) → same_bank p at ≡ b → count on (map (λ h. Serve k i h p) banks) ≤ cost_where b 1
    by true e =
        let l = at-most-ones on (λ h. Serve k i h p) (λ h. same_bank h from) banks (λ h o. (and_parts (same_bank h from) (same_bank p at) (w.only h p o)).0) in
        let n = one-bank from in
        omega (arith, l, n)
    by false e =
        let l = at-most-ones on (λ h. Serve k i h p) (λ (h : Bank). false) banks (λ h o. sym e ∙ (and_parts (same_bank h from) (same_bank p at) (w.only h p o)).1) in
        let n = none-of banks in
        omega (arith, l, n)

ways-at : (on : Chosen) (k i : ℕ) (from at : Bank) → OneWay on k i from at → (ps : List Bank) → count on (flat_map (srv_at k i) ps) ≤ ones (λ p. same_bank p at) ps
ways-at on k i from at w [] = omega arith
ways-at on k i from at w (p ∷ ps) =
    let a = way-at on k i from at w p in
    let b = ways-at on k i from at w ps in
    let c = count-append on (srv_at k i p) (flat_map (srv_at k i) ps) in
    omega (arith, a, b, c)

-- ---- groups

-- the group of a register to which an operand is brought: the first bank, the second, those read into, and none
abbrev bank_group : Bank → ℕ
bank_group A = 0
bank_group B = 1
bank_group M = 3
bank_group T = 2
bank_group L = 2
bank_group A15 = 0
bank_group W = 3

abbrev place_group : Place → ℕ
place_group (place.A k) = 0
place_group (place.B k) = 1
place_group (place.L k) = 2
place_group (place.LD k) = 2
place_group (place.S k) = 3
place_group (place.SD k) = 3
place_group (place.Slot k) = 3

first-group : (g : Bank) → ones (λ p. same_bank p g) (A ∷ A15 ∷ []) ≡ cost_where (nat_eq (bank_group g) 0) 1
first-group A = refl
first-group B = refl
first-group M = refl
first-group T = refl
first-group L = refl
first-group A15 = refl
first-group W = refl

second-group : (g : Bank) → ones (λ p. same_bank p g) (B ∷ []) ≡ cost_where (nat_eq (bank_group g) 1) 1
second-group A = refl
second-group B = refl
second-group M = refl
second-group T = refl
second-group L = refl
second-group A15 = refl
second-group W = refl

read-group : (g : Bank) → ones (λ p. same_bank p g) (L ∷ T ∷ []) ≡ cost_where (nat_eq (bank_group g) 2) 1
read-group A = refl
read-group B = refl
read-group M = refl
read-group T = refl
read-group L = refl
read-group A15 = refl
read-group W = refl

operand-group : (l : Option ℕ) (q r : Place) → IsOperandAt l q r → bank_group (operand_bank (bank_of q) r) ≡ place_group r
operand-group l _ _ (IsOperandAt.in_a {k}) = refl
operand-group l _ _ (IsOperandAt.in_b {k}) = refl
operand-group l _ _ (IsOperandAt.in_l {k}) = refl
operand-group l _ _ (IsOperandAt.in_ld {k}) = refl
operand-group l _ _ (IsOperandAt.read_slot {k} {r} e) = refl
operand-group l _ _ (IsOperandAt.from_slot {k}) = refl
operand-group l _ _ (IsOperandAt.from_b {k}) = refl
operand-group l _ _ (IsOperandAt.from_l {k}) = refl
operand-group l _ _ (IsOperandAt.from_ld {k}) = refl

-- places of one group aren't different
one-group : (q r : Place) (g : ℕ) → g < 3 → place_group q ≡ g → place_group r ≡ g → different_groups q r ≡ true → ⊥
one-group (place.A i) (place.A j) g l e f d = false≢true d
one-group (place.B i) (place.B j) g l e f d = false≢true d
one-group (place.L i) (place.L j) g l e f d = false≢true d
one-group (place.L i) (place.LD j) g l e f d = false≢true d
one-group (place.LD i) (place.L j) g l e f d = false≢true d
one-group (place.LD i) (place.LD j) g l e f d = false≢true d
one-group (place.A i) (place.B j) g l e f d = absurd (omega (arith, e, f))
one-group (place.A i) (place.L j) g l e f d = absurd (omega (arith, e, f))
one-group (place.A i) (place.LD j) g l e f d = absurd (omega (arith, e, f))
one-group (place.B i) (place.A j) g l e f d = absurd (omega (arith, e, f))
one-group (place.B i) (place.L j) g l e f d = absurd (omega (arith, e, f))
one-group (place.B i) (place.LD j) g l e f d = absurd (omega (arith, e, f))
one-group (place.L i) (place.A j) g l e f d = absurd (omega (arith, e, f))
one-group (place.L i) (place.B j) g l e f d = absurd (omega (arith, e, f))
one-group (place.LD i) (place.A j) g l e f d = absurd (omega (arith, e, f))
one-group (place.LD i) (place.B j) g l e f d = absurd (omega (arith, e, f))
one-group (place.S i) r g l e f d = absurd (omega (arith, e, l))
one-group (place.SD i) r g l e f d = absurd (omega (arith, e, l))
one-group (place.Slot i) r g l e f d = absurd (omega (arith, e, l))
one-group q (place.S j) g l e f d = absurd (omega (arith, f, l))
one-group q (place.SD j) g l e f d = absurd (omega (arith, f, l))
one-group q (place.Slot j) g l e f d = absurd (omega (arith, f, l))

group-once : (g : ℕ) (m n : ℕ) → (m ≡ g → n ≡ g → ⊥) → cost_where (nat_eq m g) 1 + cost_where (nat_eq n g) 1 ≤ 1
group-once g m n h = by (nat_eq m g) (nat_eq n g) refl refl
  where
    by : (a b : Bool) → nat_eq m g ≡ a → nat_eq n g ≡ b → cost_where a 1 + cost_where b 1 ≤ 1
    by true true e f = absurd (h (same-number m g e) (same-number n g f))
    by true false e f = omega arith
    by false true e f = omega arith
    by false false e f = omega arith

-- ---- the two uses

-- how an operand of a point is served
record OperandOf (labels : List Label) (p : Plan) (k i : ℕ) : Type 0 where
  use_ : Use
  among : In use_ (uses labels)
  point : use_.point ≡ k
  operand : use_.operand ≡ i
  role : use_.role ≡ Operand

record TwoUses (k : ℕ) (us : List Use) : Type 0 where
  first : Use
  second : Use
  first_in : In first us
  second_in : In second us
  first_point : first.point ≡ k
  second_point : second.point ≡ k
  first_operand : first.operand ≡ 0
  second_operand : second.operand ≡ 1
  first_role : first.role ≡ Operand
  second_role : second.role ≡ Operand

two-uses : (k : ℕ) (xs : List ℕ) (rs : List Role) → length rs ≡ length xs → two_operands rs ≡ true → TwoUses k (uses_at k 0 xs rs)
two-uses k xs [] m e = absurd (false≢true e)
two-uses k xs (Operand ∷ []) m e = absurd (false≢true e)
two-uses k xs (Operand ∷ Address ∷ rs) m e = absurd (false≢true e)
two-uses k xs (Operand ∷ Written n j ∷ rs) m e = absurd (false≢true e)
two-uses k xs (Operand ∷ Argument l j ∷ rs) m e = absurd (false≢true e)
two-uses k xs (Operand ∷ Ending j ∷ rs) m e = absurd (false≢true e)
two-uses k xs (Address ∷ rs) m e = absurd (false≢true e)
two-uses k xs (Written n j ∷ rs) m e = absurd (false≢true e)
two-uses k xs (Argument l j ∷ rs) m e = absurd (false≢true e)
two-uses k xs (Ending j ∷ rs) m e = absurd (false≢true e)
two-uses k [] (Operand ∷ Operand ∷ rs) m e = absurd (omega (arith, m))
two-uses k (x ∷ []) (Operand ∷ Operand ∷ rs) m e = absurd (omega (arith, m))
two-uses k (x ∷ y ∷ xs) (Operand ∷ Operand ∷ rs) m e = record {
  first = record { point = k; operand = 0; value = x; role = Operand };
  second = record { point = k; operand = 1; value = y; role = Operand };
  first_in = inl refl;
  second_in = inr (inl refl);
  first_point = refl;
  second_point = refl;
  first_operand = refl;
  second_operand = refl;
  first_role = refl;
  second_role = refl;
}

-- the banks from which and to which it is brought
abbrev from_bank : Plan → ℕ → ℕ → Bank
from_bank p k i = bank_of (serve p k i).from

abbrev at_bank : Plan → ℕ → ℕ → Bank
at_bank p k i = operand_bank (bank_of (serve p k i).from) (serve p k i).at

operand-way : (labels : List Label) (p : Plan) (on : Chosen) (k i : ℕ) → Placed labels p on → OperandOf labels p k i → OneWay on k i (from_bank p k i) (at_bank p k i)
operand-way labels p on k i g o =
    let same : use_at labels k i ≡ o.use_ = ap (λ n. use_at labels n i) (sym o.point) ∙ ap (use_at labels o.use_.point) (sym o.operand) ∙ use-there labels o.use_ o.among in
    record { only = λ h q e. subst (λ r. (is_in_bank h (serve p k i).from && same_bank q (preferred_bank r (bank_of (serve p k i).from) (serve p k i).at)) ≡ true) (ap (λ (u : Use). u.role) same ∙ o.role) (chosen-on labels p on g (Serve k i h q) e) }

operand-at : (labels : List Label) (p : Plan) (k i : ℕ) → Fits labels p → OperandOf labels p k i → bank_group (at_bank p k i) ≡ place_group (serve p k i).at
operand-at labels p k i f o =
    let u = o.use_ in
    let s : IsServedAt labels p u (served p u) Operand = subst (λ r. IsServedAt labels p u (served p u) r) o.role (use-served labels p u f o.among) in
    let here = operand-group (pass p u.point).l (served p u).from (served p u).at s.1 in
    subst (λ n. bank_group (at_bank p n i) ≡ place_group (serve p n i).at) o.point (subst (λ j. bank_group (at_bank p u.point j) ≡ place_group (serve p u.point j).at) o.operand here)

apart-from-roles : (rs : List Role) (p : Plan) (k : ℕ) → two_operands rs ≡ true → AreApart rs p k → different_groups (serve p k 0).at (serve p k 1).at ≡ true
apart-from-roles [] p k e h = absurd (false≢true e)
apart-from-roles (Operand ∷ []) p k e h = absurd (false≢true e)
apart-from-roles (Operand ∷ Operand ∷ rs) p k e h = h
apart-from-roles (Operand ∷ Address ∷ rs) p k e h = absurd (false≢true e)
apart-from-roles (Operand ∷ Written n j ∷ rs) p k e h = absurd (false≢true e)
apart-from-roles (Operand ∷ Argument l j ∷ rs) p k e h = absurd (false≢true e)
apart-from-roles (Operand ∷ Ending j ∷ rs) p k e h = absurd (false≢true e)
apart-from-roles (Address ∷ rs) p k e h = absurd (false≢true e)
apart-from-roles (Written n j ∷ rs) p k e h = absurd (false≢true e)
apart-from-roles (Argument l j ∷ rs) p k e h = absurd (false≢true e)
apart-from-roles (Ending j ∷ rs) p k e h = absurd (false≢true e)

-- ---- a point

group-most : (on : Chosen) (p : Plan) (k g : ℕ) (ps : List Bank) → g < 3 → ((h : Bank) → ones (λ p. same_bank p h) ps ≡ cost_where (nat_eq (bank_group h) g) 1)
    → OneWay on k 0 (from_bank p k 0) (at_bank p k 0) → OneWay on k 1 (from_bank p k 1) (at_bank p k 1)
    → bank_group (at_bank p k 0) ≡ place_group (serve p k 0).at → bank_group (at_bank p k 1) ≡ place_group (serve p k 1).at → different_groups (serve p k 0).at (serve p k 1).at ≡ true → count on (both_at k ps) ≤ 1
group-most on p k g ps l m v w a b d =
    let c = count-append on (flat_map (srv_at k 0) ps) (flat_map (srv_at k 1) ps) in
    let e = ways-at on k 0 (from_bank p k 0) (at_bank p k 0) v ps in
    let f = ways-at on k 1 (from_bank p k 1) (at_bank p k 1) w ps in
    let m0 = m (at_bank p k 0) in
    let m1 = m (at_bank p k 1) in
    let once = group-once g (bank_group (at_bank p k 0)) (bank_group (at_bank p k 1)) (λ s t. one-group (serve p k 0).at (serve p k 1).at g l (sym a ∙ s) (sym b ∙ t) d) in
    omega (arith, c, e, f, m0, m1, once)

pair-hold : (labels : List Label) (p : Plan) (on : Chosen) (k : ℕ) (q : Point) → Placed labels p on → slice_get (points labels) k ≡ Some q → two_operands (place_roles q.place) ≡ true → Each (Holds on) (pair_lines k)
pair-hold labels p on k q g at two =
    let ps = points labels in
    let sound = each-at (Sound labels (values_among (map (λ (p : Point). p.place) ps)) (uses_among ps)) ps k q (sound-points labels g.form) at in
    let us = two-uses k q.uses (place_roles q.place) sound.many two in
    let first : OperandOf labels p k 0 = record { use_ = us.first; among = uses-among us.first 0 k k ps q (omega arith) at us.first_in; point = us.first_point; operand = us.first_operand; role = us.first_role } in
    let second : OperandOf labels p k 1 = record { use_ = us.second; among = uses-among us.second 0 k k ps q (omega arith) at us.second_in; point = us.second_point; operand = us.second_operand; role = us.second_role } in
    let v = operand-way labels p on k 0 g first in
    let w = operand-way labels p on k 1 g second in
    let a = operand-at labels p k 0 g.fits first in
    let b = operand-at labels p k 1 g.fits second in
    let d = apart-from-roles (place_roles q.place) p k two (g.fits.points k q at).operands in (
      most-holds on 1 (both_at k (A ∷ A15 ∷ [])) (group-most on p k 0 (A ∷ A15 ∷ []) (omega arith) first-group v w a b d),
      (
        most-holds on 1 (both_at k (B ∷ [])) (group-most on p k 1 (B ∷ []) (omega arith) second-group v w a b d),
        (most-holds on 1 (both_at k (L ∷ T ∷ [])) (group-most on p k 2 (L ∷ T ∷ []) (omega arith) read-group v w a b d), tt),
      ),
    )

pub operands-hold : (labels : List Label) (p : Plan) (on : Chosen) → single labels ≡ true → Fits labels p → IsChosen labels p on → Each (Holds on) (operand_banks labels)
operands-hold labels p on s f c =
    let g : Placed labels p on = record { form = s; fits = f; is = c } in
    points-each (Holds on) operand_lines 0 (points labels) (λ i k q e at.
    if-each (Holds on) (two_operands (place_roles q.place)) (pair_lines k) (pair-hold labels p on k q g (subst (λ n. slice_get (points labels) n ≡ Some q) (let n : i ≡ k = omega (arith, e) in n) at)))
