-- The copies after a definition are single instructions.
use Rattle.std.proofs.Common.{◌≡◌, ℕ, suc, ◌+◌, ◌<◌, ◌≤◌, ◌⊎◌, true, false, nat_eq, List, [], ◌∷◌, length, Option, Some, None, refl, sym, ap, ◌∙◌, subst, ⊎_elim, slice_get, arith}
use Rattle.std.specs.Prelude.{⊤}
use Rattle.std.specs.List.{AllByRecursion}
use Rattle.std.proofs.lemmas.Bool.{false≢true, cases_Bool, or_left, or_right, eq-eqb}
use Rattle.std.proofs.lemmas.List.Elements.{recursion_from_All, All-from_recursion}
use Rattle.nv_base.specs.declared.term.Mem.{Mem}
use Rattle.nv_base.specs.declared.term.Mem.TheVariants.{Sram, Sdram, Scratch}
use Rattle.nv_base.specs.Sets.{is_in}
use Rattle.ssu_ir.specs.Tree.{Lit, Una, Bin, Clone, Read, Write, Jump, Halt, Label, Does, Forks, Ends}
use Rattle.ssu_ir.specs.Points.{PointKind as PointPlace, Entry, At, Point, points}
use Rattle.place_plan.specs.declared.place.Place.{Place}
use Rattle.place_plan.specs.declared.place.Place.TheVariants.{A, B, L, LD, S, SD, Slot}
use Rattle.place_plan.specs.Places.{same_place}
use Rattle.place_plan.specs.Plan.{Plan, home, first, pass}
use Rattle.place_plan.specs.Uses.{Access, place_accesses, accesses_from, accesses, Role, Operand, Address, Written, Argument, Ending, roles, place_roles, Use, uses, is_used}
use Rattle.place_plan.specs.Fits.{write_place, IsGeneral, IsFirst, IsEighth, is_slot, is_write_register, role_register, word_register, is_early, has_place}
use Rattle.place_plan.proofs.Places.{same_place-itself}
use Rattle.ucode_emit.specs.Moves.{Move}
use Rattle.ucode_emit.specs.Pieces.{named, copied, all_copied, copies, all_copies}
use Rattle.ucode_emit.specs.inner.Machine.{IsReadable, IsWritable, IsDirect, write_slot, copied as in_one, AreDirect}
use Rattle.ucode_emit.specs.inner.Layers.{Placed}
use Rattle.ucode_emit.proofs.PointsEach.{EachFrom, each_here, all_left, all_right, all_both, all_get}
use Rattle.ucode_emit.proofs.PointsUses.{use_at}
use Rattle.ucode_emit.proofs.PointsUsed.{EmittedPoint}
use Rattle.ucode_emit.proofs.DefinitionsHomes.{early_register, Settled, settled_at, Target, fill, word, targets, unused_bare}

-- ---- places that a copy can go to

abbrev pub CanTake : ℕ → Place → Type 0
CanTake slots (A k) = k < 16
CanTake slots (B k) = k < 15
CanTake slots (S k) = k < 8
CanTake slots (SD k) = k < 8
CanTake slots (Slot k) = k < slots
CanTake slots (L k) = ⊥
CanTake slots (LD k) = ⊥

pub general_take : (p : Plan) (r : Place) → IsGeneral p r → CanTake p.slots r
general_take p (A k) h = omega arith
general_take p (B k) h = h
general_take p (Slot k) h = h
general_take p (L k) h = absurd h
general_take p (LD k) h = absurd h
general_take p (S k) h = absurd h
general_take p (SD k) h = absurd h

pub take_writable : (slots : ℕ) (r : Place) → is_slot r ≡ false → CanTake slots r → IsWritable r
take_writable slots (A k) e h = h
take_writable slots (B k) e h = h
take_writable slots (S k) e h = h
take_writable slots (SD k) e h = h
take_writable slots (Slot k) e h = absurd (false≢true (sym e))
take_writable slots (L k) e h = absurd h
take_writable slots (LD k) e h = absurd h

pub take_slot : (slots : ℕ) (s : Option ℕ) (r : Place) → is_slot r ≡ true → named s < 8 → CanTake slots r → IsDirect slots (S (named s)) r
take_slot slots s (A k) e n h = absurd (false≢true e)
take_slot slots s (B k) e n h = absurd (false≢true e)
take_slot slots s (S k) e n h = absurd (false≢true e)
take_slot slots s (SD k) e n h = absurd (false≢true e)
take_slot slots s (Slot k) e n h = write_slot n h
take_slot slots s (L k) e n h = absurd h
take_slot slots s (LD k) e n h = absurd h

pub general_readable : (p : Plan) (r : Place) → is_slot r ≡ false → IsGeneral p r → IsReadable r
general_readable p (A k) e h = omega arith
general_readable p (B k) e h = h
general_readable p (Slot k) e h = absurd (false≢true (sym e))
general_readable p (L k) e h = absurd h
general_readable p (LD k) e h = absurd h
general_readable p (S k) e h = absurd h
general_readable p (SD k) e h = absurd h

pub write_take : (slots : ℕ) (m : Mem) (k : ℕ) → k < 8 → CanTake slots (write_place m k)
write_take slots Sram k h = h
write_take slots Sdram k h = h
write_take slots Scratch k h = h

pub eighth_named : (o : Option ℕ) → IsEighth o → named o < 8
eighth_named (Some r) h = h
eighth_named None h = omega arith

-- ---- the registers of accesses

abbrev pub FirstFits : Plan → Access → Type 0
FirstFits p a = IsFirst a.mem a.words (first p a.point)

accesses_each : (P : Access → Type 0) (n : ℕ) (qs : List Point) → AllByRecursion P (accesses_from n qs) → EachFrom (λ k q. AllByRecursion P (place_accesses k q.place)) n qs
accesses_each P n [] h = tt
accesses_each P n (q ∷ qs) h =
    (all_left P (place_accesses n q.place) (accesses_from (suc n) qs) h, accesses_each P (suc n) qs (all_right P (place_accesses n q.place) (accesses_from (suc n) qs) h))

pub access_at : (labels : List Label) (p : Plan) (k : ℕ) (q : Point) → Placed labels p → slice_get (points labels) k ≡ Some q → AllByRecursion (FirstFits p) (place_accesses k q.place)
access_at labels p k q h e =
    each_here (λ k q. AllByRecursion (FirstFits p) (place_accesses k q.place)) (points labels) k q
    (accesses_each (FirstFits p) 0 (points labels) (recursion_from_All (FirstFits p) (accesses labels) h.fits.registers)) e

pub first_bound : (m : Mem) (n f : ℕ) → IsFirst m n f → f + n ≤ 8
first_bound Sram n f h = h
first_bound Sdram n f h = h.0
first_bound Scratch n f h = h

-- the register of a written word is one of eight
abbrev pub RoleFits : Plan → ℕ → Role → Type 0
RoleFits p k Operand = ⊤
RoleFits p k Address = ⊤
RoleFits p k (Written m i) = CanTake p.slots (write_place m (first p k + i))
RoleFits p k (Argument l i) = ⊤
RoleFits p k (Ending i) = ⊤

written_fit : (p : Plan) (k : ℕ) (m : Mem) (j : ℕ) (xs : List ℕ) → first p k + (j + length xs) ≤ 8 → AllByRecursion (RoleFits p k) (roles (Written m) j xs)
written_fit p k m j [] h = tt
written_fit p k m j (x ∷ xs) h = (write_take p.slots m (first p k + j) (omega arith), written_fit p k m (suc j) xs (omega arith))

argument_fit : (p : Plan) (k l j : ℕ) (xs : List ℕ) → AllByRecursion (RoleFits p k) (roles (Argument l) j xs)
argument_fit p k l j [] = tt
argument_fit p k l j (x ∷ xs) = (tt, argument_fit p k l (suc j) xs)

ending_fit : (p : Plan) (k j : ℕ) (xs : List ℕ) → AllByRecursion (RoleFits p k) (roles Ending j xs)
ending_fit p k j [] = tt
ending_fit p k j (x ∷ xs) = (tt, ending_fit p k (suc j) xs)

roles_fit : (p : Plan) (k : ℕ) (q : PointPlace) → AllByRecursion (FirstFits p) (place_accesses k q) → AllByRecursion (RoleFits p k) (place_roles q)
roles_fit p k (Entry l ps) h = tt
roles_fit p k (At (Does (Lit x v))) h = tt
roles_fit p k (At (Does (Una x op y))) h = (tt, tt)
roles_fit p k (At (Does (Bin x op y z))) h = (tt, (tt, tt))
roles_fit p k (At (Does (Clone xs y))) h = tt
roles_fit p k (At (Does (Read m xs y))) h = (tt, tt)
roles_fit p k (At (Does (Write m y xs))) h =
    let b : first p k + length xs ≤ 8 = first_bound m (length xs) (first p k) h.0 in
    (tt, written_fit p k m 0 xs (omega arith))
roles_fit p k (At (Forks c x y)) h = (tt, (tt, tt))
roles_fit p k (At (Ends (Jump l xs))) h = argument_fit p k l 0 xs
roles_fit p k (At (Ends (Halt e xs))) h = ending_fit p k 0 xs

role_take : (p : Plan) (k : ℕ) (r : Role) → RoleFits p k r → is_write_register (role_register p k r) ≡ true → CanTake p.slots (role_register p k r)
role_take p k Operand f h = absurd (false≢true h)
role_take p k Address f h = absurd (false≢true h)
role_take p k (Written m i) f h = f
role_take p k (Argument l i) f h = absurd (false≢true h)
role_take p k (Ending i) f h = absurd (false≢true h)

pub register_take : (labels : List Label) (p : Plan) (i : ℕ) (u : Use) → Placed labels p → slice_get (uses labels) i ≡ Some u → is_early p u ≡ true → CanTake p.slots (word_register p u)
register_take labels p i u h e g =
    let a = use_at labels i u e in
    let f = all_get (RoleFits p u.point) (place_roles a.point_.place) u.operand u.role (roles_fit p u.point a.point_.place (access_at labels p u.point a.point_ h a.at)) a.role_ in
    role_take p u.point u.role f (early_register labels p i u h e g)

target_take : (labels : List Label) (p : Plan) (y : ℕ) (r : Place) → Placed labels p → Target labels p y r → CanTake p.slots r
target_take labels p y r h (fill g) = general_take p r g
target_take labels p y r h (word u e same) = subst (CanTake p.slots) (sym same) (register_take labels p e.place u h e.there e.early)

-- ---- copies

abbrev pub OneInstr : ℕ → Move → Type 0
OneInstr slots m = IsDirect slots m.0 m.1

copied_direct : (slots : ℕ) (s : Option ℕ) (from q : Place) → IsReadable from → named s < 8 → CanTake slots q → AllByRecursion (OneInstr slots) (copied s from q)
copied_direct slots s from (A k) f n t = (in_one f t, tt)
copied_direct slots s from (B k) f n t = (in_one f t, tt)
copied_direct slots s from (S k) f n t = (in_one f t, tt)
copied_direct slots s from (SD k) f n t = (in_one f t, tt)
copied_direct slots s from (Slot k) f n t = (in_one f n, (write_slot n t, tt))
copied_direct slots s from (L k) f n t = absurd t
copied_direct slots s from (LD k) f n t = absurd t

all_direct : (slots : ℕ) (s : Option ℕ) (from : Place) (qs : List Place) → IsReadable from → named s < 8 → AllByRecursion (CanTake slots) qs → AllByRecursion (OneInstr slots) (all_copied s from qs)
all_direct slots s from [] f n h = tt
all_direct slots s from (q ∷ qs) f n h = all_both (OneInstr slots) (copied s from q) (all_copied s from qs) (copied_direct slots s from q f n h.0) (all_direct slots s from qs f n h.1)

all_places : (P : Place → Type 0) (qs : List Place) → ((r : Place) → has_place r qs ≡ true → P r) → AllByRecursion P qs
all_places P [] h = tt
all_places P (q ∷ qs) h = (h q (or_left (same_place q q) (has_place q qs) (same_place-itself q)), all_places P qs (λ r e. h r (or_right (same_place r q) (has_place r qs) e)))

-- a value that has copies is where an instruction can read it
abbrev pub CanGive : Plan → ℕ → Type 0
CanGive p y = ((home p y).copied ≡ []) ⊎ IsReadable (home p y).defined

none_direct : (slots : ℕ) (s : Option ℕ) (from : Place) (qs : List Place) → qs ≡ [] → AllByRecursion (OneInstr slots) (all_copied s from qs)
none_direct slots s from qs e = subst (λ l. AllByRecursion (OneInstr slots) (all_copied s from l)) (sym e) tt

pub copies_direct : (labels : List Label) (p : Plan) (k : ℕ) (q : Point) (y : ℕ) → Placed labels p → slice_get (points labels) k ≡ Some q → (is_used labels y ≡ true → Settled labels p y) → (is_used labels y ≡ true → CanGive p y)
    → AllByRecursion (OneInstr p.slots) (copies p k y)
copies_direct labels p k q y h e d g =
    let n = eighth_named (pass p k).s (h.fits.points k q e).passes.written in
    ⊎_elim
    (λ (u : is_used labels y ≡ true).
    ⊎_elim (λ (b : (home p y).copied ≡ []). none_direct p.slots (pass p k).s (home p y).defined (home p y).copied b)
    (λ (f : IsReadable (home p y).defined).
    all_direct p.slots (pass p k).s (home p y).defined (home p y).copied f n (all_places (CanTake p.slots) (home p y).copied (λ r c. target_take labels p y r h (targets labels p y r (d u) c))))
    (g u))
    (λ (u : is_used labels y ≡ false). none_direct p.slots (pass p k).s (home p y).defined (home p y).copied (unused_bare labels p y h u))
    (cases_Bool (is_used labels y))

list_direct : (labels : List Label) (p : Plan) (k : ℕ) (xs : List ℕ) → ((y : ℕ) → is_in y xs ≡ true → AllByRecursion (OneInstr p.slots) (copies p k y)) → AllByRecursion (OneInstr p.slots) (all_copies p k xs)
list_direct labels p k [] h = tt
list_direct labels p k (x ∷ xs) h =
    all_both (OneInstr p.slots) (copies p k x) (all_copies p k xs) (h x (or_left (nat_eq x x) (is_in x xs) (eq-eqb x x refl))) (list_direct labels p k xs (λ y i. h y (or_right (nat_eq y x) (is_in y xs) i)))

pub copies_are_direct : (labels : List Label) (p : Plan) (k : ℕ) (q r : Point) (xs : List ℕ) → Placed labels p → EmittedPoint labels k q r xs → ((y : ℕ) → is_in y xs ≡ true → is_used labels y ≡ true → CanGive p y)
    → AreDirect p.slots (all_copies p k xs)
copies_are_direct labels p k q r xs h s g =
    All-from_recursion (OneInstr p.slots) (all_copies p k xs)
    (list_direct labels p k xs (λ y i. copies_direct labels p k q y h s.emit_context (λ u. settled_at labels p k q y h s.emit_context (ap (is_in y) s.values ∙ i) u) (g y i)))
