-- How many moves fetch operands and do parallel moves, and how many copies stand after a definition. A word that is put early into its write register
-- is counted at its use: there nothing is moved any more.
use Rattle.std.proofs.Common.{◌≡◌, ℕ, zero, suc, ◌+◌, ◌*◌, ◌≤◌, Bool, true, false, nat_eq, ◌&&◌, if◌then◌else◌, List, [], ◌∷◌, ◌++◌, map, length, Option, Some, None, refl, sym, ap, subst, ⊎_elim, arith}
use Rattle.std.specs.List.{AllByRecursion}
use Rattle.std.proofs.lemmas.Bool.{false≢true, cases_Bool}
use Rattle.std.proofs.lemmas.List.Elements.{recursion_from_All}
use Rattle.std.proofs.lemmas.List.{length-map, length-append}
use Rattle.ssu_ir.specs.Tree.{Label}
use Rattle.place_plan.specs.declared.place.Place.{Place}
use Rattle.place_plan.specs.declared.place.Place.TheVariants.{A, B, L, LD, S, SD, Slot}
use Rattle.place_plan.specs.Places.{same_place}
use Rattle.place_plan.specs.Plan.{Plan, home, serve, pass}
use Rattle.place_plan.specs.Uses.{Use, uses, is_used}
use Rattle.place_plan.specs.Fits.{is_slot, is_read_register, is_write_register, same_bank, maybe, IsGeneral, AreFills, AreCopies, IsPutEarly, word_register, is_early, early_uses}
use Rattle.ucode_emit.specs.Moves.{Move, temporary, StandFor, none, once, around, at_rest}
use Rattle.ucode_emit.specs.Pieces.{named, bring, brought, to_temporary, to_read_register, each_operand, operands, words, to_slot, copied, copies, all_copied, single_move, single_moves, served_moves, entry_moves}
use Rattle.ucode_emit.specs.inner.Layers.{Placed}
use Rattle.ucode_emit.proofs.DefinitionsHomes.{ThereIn, early_register, early_each, unused_bare}
use Rattle.ucode_emit.proofs.LawfulCopies.{one_if}
use Rattle.ucode_emit.proofs.CostMoves.{rest_light}
use Rattle.ucode_emit.proofs.LawfulLength.{slot_short}

-- ---- operands

-- 1 where a word stands in its write register already
abbrev pub early_one : Place → ℕ
early_one from = one_if (is_write_register from)

abbrev pub operands_early : Plan → ℕ → ℕ → ℕ → ℕ
operands_early p k i zero = 0
operands_early p k i (suc n) = early_one (serve p k i).from + operands_early p k (suc i) n

early_small : (from : Place) → early_one from ≤ 1
early_small (A k) = omega arith
early_small (B k) = omega arith
early_small (L k) = omega arith
early_small (LD k) = omega arith
early_small (S k) = omega arith
early_small (SD k) = omega arith
early_small (Slot k) = omega arith

bring_room : (l : Option ℕ) (from at : Place) → length (bring l from at) + early_one from ≤ 2
bring_room l (A k) at = omega arith
bring_room l (B k) at = omega arith
bring_room l (L k) at = omega arith
bring_room l (LD k) at = omega arith
bring_room l (S k) at = omega arith
bring_room l (SD k) at = omega arith
bring_room l (Slot k) at = omega arith

if_room : (b : Bool) (a c : List Move) (e : ℕ) → length a + e ≤ 2 → length c + e ≤ 2 → length (if b then a else c) + e ≤ 2
if_room true a c e h g = h
if_room false a c e h g = g

nothing_room : (from : Place) → 0 + early_one from ≤ 2
nothing_room from = let z = early_small from in omega (arith, z)

brought_room : (l : Option ℕ) (from at : Place) → length (brought l from at) + early_one from ≤ 2
brought_room l from at = if_room (same_place from at) [] (bring l from at) (early_one from) (nothing_room from) (bring_room l from at)

no_read : (b : Bool) (ms : List Move) → length (if b && false then ms else []) ≡ 0
no_read true ms = refl
no_read false ms = refl

some_read : (b : Bool) (m : Move) → length (if b && true then m ∷ [] else []) ≤ 1
some_read true m = omega arith
some_read false m = omega arith

fetch_room : (l : Option ℕ) (from at : Place) → length (if same_place at temporary then brought l from at else []) + length {A = Move} (if is_slot from && is_read_register at then (from, at) ∷ [] else []) + early_one from ≤ 2
fetch_room l from (A j) =
    let z = no_read (is_slot from) ((from, A j) ∷ []) in
    let y = if_room (nat_eq j 15) (brought l from (A j)) [] (early_one from) (brought_room l from (A j)) (nothing_room from) in
    omega (arith, z, y)
fetch_room l from (B j) = let z = no_read (is_slot from) ((from, B j) ∷ []) in let y = early_small from in omega (arith, z, y)
fetch_room l from (S j) = let z = no_read (is_slot from) ((from, S j) ∷ []) in let y = early_small from in omega (arith, z, y)
fetch_room l from (SD j) = let z = no_read (is_slot from) ((from, SD j) ∷ []) in let y = early_small from in omega (arith, z, y)
fetch_room l from (Slot j) = let z = no_read (is_slot from) ((from, Slot j) ∷ []) in let y = early_small from in omega (arith, z, y)
fetch_room l from (L j) = let z = some_read (is_slot from) (from, L j) in let y = early_small from in omega (arith, z, y)
fetch_room l from (LD j) = let z = some_read (is_slot from) (from, LD j) in let y = early_small from in omega (arith, z, y)

each_room : (p : Plan) (k i n : ℕ) → length (each_operand (to_temporary p k) i n) + length (each_operand (to_read_register p k) i n) + operands_early p k i n ≤ 2 * n
each_room p k i zero = omega arith
each_room p k i (suc n) =
    let a = length-append (to_temporary p k i) (each_operand (to_temporary p k) (suc i) n) in
    let b = length-append (to_read_register p k i) (each_operand (to_read_register p k) (suc i) n) in
    let c = fetch_room (pass p k).l (serve p k i).from (serve p k i).at in
    let d = each_room p k (suc i) n in
    omega (arith, a, b, c, d)

pub operands_room : (p : Plan) (k n : ℕ) → length (operands p k n) + operands_early p k 0 n ≤ 2 * n
operands_room p k n =
    let a = length-append (each_operand (to_temporary p k) 0 n) (each_operand (to_read_register p k) 0 n) in
    let b = each_room p k 0 n in
    omega (arith, a, b)

pub words_room : (p : Plan) (k i n : ℕ) → length (words p k i n) + operands_early p k i n ≤ 2 * n
words_room p k i zero = omega arith
words_room p k i (suc n) =
    let a = length-append (brought (pass p k).l (serve p k i).from (serve p k i).at) (words p k (suc i) n) in
    let b = brought_room (pass p k).l (serve p k i).from (serve p k i).at in
    let c = words_room p k (suc i) n in
    omega (arith, a, b, c)

-- ---- parallel moves

-- moves from a place to a register, or from a register to it
abbrev way_long : Place → ℕ
way_long (Slot k) = 2
way_long _ = 1

bring_long : (l : Option ℕ) (from at : Place) → length (bring l from at) ≤ way_long from
bring_long l (A k) at = omega arith
bring_long l (B k) at = omega arith
bring_long l (L k) at = omega arith
bring_long l (LD k) at = omega arith
bring_long l (S k) at = omega arith
bring_long l (SD k) at = omega arith
bring_long l (Slot k) at = omega arith

single_long : (l : Option ℕ) (from at : Place) → length (single_move l from at) ≤ way_long from + way_long at
single_long l from (A j) = let z = bring_long l from (A j) in omega (arith, z)
single_long l from (B j) = let z = bring_long l from (B j) in omega (arith, z)
single_long l from (L j) = let z = bring_long l from (L j) in omega (arith, z)
single_long l from (LD j) = let z = bring_long l from (LD j) in omega (arith, z)
single_long l from (S j) = let z = bring_long l from (S j) in omega (arith, z)
single_long l from (SD j) = let z = bring_long l from (SD j) in omega (arith, z)
single_long l from (Slot j) = let z = bring_long l from (S 0) in let y = length-append (bring l from (S 0)) ((S 0, Slot j) ∷ []) in omega (arith, z, y)

from_own : (l : Option ℕ) (at : Place) → length (single_move l temporary at) ≤ way_long at
from_own l (A j) = omega arith
from_own l (B j) = omega arith
from_own l (L j) = omega arith
from_own l (LD j) = omega arith
from_own l (S j) = omega arith
from_own l (SD j) = omega arith
from_own l (Slot j) = omega arith

abbrev pub ways_long : List Move → ℕ
ways_long [] = 0
ways_long (m ∷ ms) = way_long m.0 + way_long m.1 + ways_long ms

singles_both : (l : Option ℕ) (a b : List Move) → length (single_moves l (a ++ b)) ≡ length (single_moves l a) + length (single_moves l b)
singles_both l [] b = let z : length (single_moves l b) ≡ 0 + length (single_moves l b) = omega arith in z
singles_both l (m ∷ a) b =
    let x = length-append (single_move l m.0 m.1) (single_moves l (a ++ b)) in
    let y = length-append (single_move l m.0 m.1) (single_moves l a) in
    let z = singles_both l a b in
    omega (arith, x, y, z)

singles_head : (l : Option ℕ) (from at : Place) (ms : List Move) → length (single_moves l ((from, at) ∷ ms)) ≡ length (single_move l from at) + length (single_moves l ms)
singles_head l from at ms = length-append (single_move l from at) (single_moves l ms)

once_long : (l : Option ℕ) (from at : Place) (a b ms : List Move) → length (single_moves l (a ++ b)) ≤ ways_long ms → length (single_moves l (a ++ ((from, at) ∷ b))) ≤ way_long from + way_long at + ways_long ms
once_long l from at a b ms h =
    let x = singles_both l a b in
    let y = singles_both l a ((from, at) ∷ b) in
    let z = singles_head l from at b in
    let w = single_long l from at in
    omega (arith, h, x, y, z, w)

around_long : (l : Option ℕ) (from at : Place) (a b c ms : List Move) → length (single_moves l (a ++ (b ++ c))) ≤ ways_long ms
    → length (single_moves l (a ++ ((from, temporary) ∷ (b ++ ((temporary, at) ∷ c))))) ≤ way_long from + way_long at + ways_long ms
around_long l from at a b c ms h =
    let x = singles_both l a (b ++ c) in
    let y = singles_both l b c in
    let z = singles_both l a ((from, temporary) ∷ (b ++ ((temporary, at) ∷ c))) in
    let w = singles_head l from temporary (b ++ ((temporary, at) ∷ c)) in
    let v = singles_both l b ((temporary, at) ∷ c) in
    let u = singles_head l temporary at c in
    let t = bring_long l from temporary in
    let s = from_own l at in
    omega (arith, h, x, y, z, w, v, u, t, s)

pub stand_long : (l : Option ℕ) (moves ms : List Move) → StandFor moves ms → length (single_moves l ms) ≤ ways_long moves
stand_long l moves ms none = omega arith
stand_long l moves ms (once {s} {t} {ms = ns} a b n h) = once_long l s t a b ns (stand_long l ns (a ++ b) h)
stand_long l moves ms (around {s} {t} {ms = ns} a b c n h) = around_long l s t a b c ns (stand_long l ns (a ++ (b ++ c)) h)
stand_long l moves ms (at_rest {p = q} {ms = ns} {r} h) = rest_light (way_long q + way_long q) (ways_long ns) (length (single_moves l r)) (stand_long l ns r h)

way_room : (from : Place) → way_long from + early_one from ≤ 2
way_room (A k) = omega arith
way_room (B k) = omega arith
way_room (L k) = omega arith
way_room (LD k) = omega arith
way_room (S k) = omega arith
way_room (SD k) = omega arith
way_room (Slot k) = omega arith

way_small : (at : Place) → way_long at ≤ 2
way_small at = let z = way_room at in omega (arith, z)

plain_way : (at : Place) → is_slot at ≡ false → way_long at ≤ 1
plain_way (A k) h = omega arith
plain_way (B k) h = omega arith
plain_way (L k) h = omega arith
plain_way (LD k) h = omega arith
plain_way (S k) h = omega arith
plain_way (SD k) h = omega arith
plain_way (Slot k) h = absurd (false≢true (sym h))

pub jump_room : (p : Plan) (k i n : ℕ) → ways_long (served_moves p k i n) + operands_early p k i n ≤ 4 * n
jump_room p k i zero = omega arith
jump_room p k i (suc n) =
    let a = way_room (serve p k i).from in
    let b = way_small (serve p k i).at in
    let c = jump_room p k (suc i) n in
    omega (arith, a, b, c)

pub end_room : (p : Plan) (k i n : ℕ) → AllByRecursion (λ (m : Move). is_slot m.1 ≡ false) (served_moves p k i n) → ways_long (served_moves p k i n) + operands_early p k i n ≤ 3 * n
end_room p k i zero h = omega arith
end_room p k i (suc n) h =
    let a = way_room (serve p k i).from in
    let b = plain_way (serve p k i).at h.0 in
    let c = end_room p k (suc i) n h.1 in
    omega (arith, a, b, c)

pub entry_room : (p : Plan) (i : ℕ) (xs : List ℕ) → ways_long (entry_moves p i xs) ≤ 3 * length xs
entry_room p i [] = omega arith
entry_room p i (x ∷ xs) = let a = way_small (home p x).defined in let b = entry_room p (suc i) xs in omega (arith, a, b)

-- ---- copies

-- how many words of a value are put early
abbrev pub early_of : List Label → Plan → ℕ → ℕ
early_of labels p x = length (early_uses labels p x)

copied_both : (s : Option ℕ) (from : Place) (a b : List Place) → length (all_copied s from (a ++ b)) ≡ length (all_copied s from a) + length (all_copied s from b)
copied_both s from [] b = let z : length (all_copied s from b) ≡ 0 + length (all_copied s from b) = omega arith in z
copied_both s from (q ∷ a) b =
    let x = length-append (copied s from q) (all_copied s from (a ++ b)) in
    let y = length-append (copied s from q) (all_copied s from a) in
    let z = copied_both s from a b in
    omega (arith, x, y, z)

one_copy : (s : Option ℕ) (from q : Place) → is_slot q ≡ false → length (copied s from q) ≡ 1
one_copy s from q e = ap (λ (b : Bool). length {A = Move} (if b then (from, S (named s)) ∷ (S (named s), q) ∷ [] else (from, q) ∷ [])) e

registers_copied : (s : Option ℕ) (from : Place) (qs : List Place) → AllByRecursion (λ q. is_slot q ≡ false) qs → length (all_copied s from qs) ≡ length qs
registers_copied s from [] h = refl
registers_copied s from (q ∷ qs) h =
    let a = length-append (copied s from q) (all_copied s from qs) in
    let b = one_copy s from q h.0 in
    let c = registers_copied s from qs h.1 in
    omega (arith, a, b, c)

write_no_slot : (r : Place) → is_write_register r ≡ true → is_slot r ≡ false
write_no_slot (A k) h = refl
write_no_slot (B k) h = refl
write_no_slot (L k) h = refl
write_no_slot (LD k) h = refl
write_no_slot (S k) h = refl
write_no_slot (SD k) h = refl
write_no_slot (Slot k) h = absurd (false≢true h)

all_map : (P : Use → Type 0) (Q : Place → Type 0) (f : Use → Place) (us : List Use) → ((u : Use) → P u → Q (f u)) → AllByRecursion P us → AllByRecursion Q (map f us)
all_map P Q f [] g h = tt
all_map P Q f (u ∷ us) g h = (g u h.0, all_map P Q f us g h.1)

early_registers : (labels : List Label) (p : Plan) (x : ℕ) → Placed labels p → AllByRecursion (λ q. is_slot q ≡ false) (map (word_register p) (early_uses labels p x))
early_registers labels p x h =
    all_map (λ u. (ThereIn (uses labels) u × (nat_eq u.value x ≡ true)) × (is_early p u ≡ true)) (λ q. is_slot q ≡ false) (word_register p) (early_uses labels p x)
    (λ u e. write_no_slot (word_register p u) (early_register labels p e.0.0.0 u h e.0.0.1 e.1))
    (early_each labels p x)

-- the fills, by their banks
any_fills : (s : Option ℕ) (from : Place) (a b slot : Option ℕ) → length (all_copied s from (maybe A a ++ (maybe B b ++ maybe Slot slot))) ≤ 4
any_fills s from (Some i) (Some j) (Some k) = omega arith
any_fills s from (Some i) (Some j) None = omega arith
any_fills s from (Some i) None (Some k) = omega arith
any_fills s from (Some i) None None = omega arith
any_fills s from None (Some j) (Some k) = omega arith
any_fills s from None (Some j) None = omega arith
any_fills s from None None (Some k) = omega arith
any_fills s from None None None = omega arith

beside_a : (s : Option ℕ) (from : Place) (n : ℕ) (a b slot : Option ℕ) → AllByRecursion (λ q. same_bank q (A n) ≡ false) (maybe A a ++ (maybe B b ++ maybe Slot slot)) → length (all_copied s from (maybe A a ++ (maybe B b ++ maybe Slot slot))) ≤ 3
beside_a s from n (Some i) b slot h = absurd (false≢true (sym h.0))
beside_a s from n None (Some j) (Some k) h = omega arith
beside_a s from n None (Some j) None h = omega arith
beside_a s from n None None (Some k) h = omega arith
beside_a s from n None None None h = omega arith

beside_b : (s : Option ℕ) (from : Place) (n : ℕ) (a b slot : Option ℕ) → AllByRecursion (λ q. same_bank q (B n) ≡ false) (maybe A a ++ (maybe B b ++ maybe Slot slot)) → length (all_copied s from (maybe A a ++ (maybe B b ++ maybe Slot slot))) ≤ 3
beside_b s from n (Some i) (Some j) slot h = absurd (false≢true (sym h.1.0))
beside_b s from n None (Some j) slot h = absurd (false≢true (sym h.0))
beside_b s from n (Some i) None (Some k) h = omega arith
beside_b s from n (Some i) None None h = omega arith
beside_b s from n None None (Some k) h = omega arith
beside_b s from n None None None h = omega arith

fills_long : (p : Plan) (s : Option ℕ) (d : Place) (fills : List Place) → AreFills p d fills → length (all_copied s d fills) ≤ 4
fills_long p s d fills h = subst (λ l. length (all_copied s d l) ≤ 4) (sym h.in_order) (any_fills s d h.a h.b h.slot)

elsewhere_is : (p : Plan) (d : Place) (fills : List Place) (h : AreFills p d fills) → AllByRecursion (λ q. same_bank q d ≡ false) (maybe A h.a ++ (maybe B h.b ++ maybe Slot h.slot))
elsewhere_is p d fills h = subst (λ l. AllByRecursion (λ q. same_bank q d ≡ false) l) h.in_order (recursion_from_All (λ q. same_bank q d ≡ false) fills h.elsewhere)

general_fills : (p : Plan) (s : Option ℕ) (d : Place) (fills : List Place) → IsGeneral p d → is_slot d ≡ false → AreFills p d fills → length (all_copied s d fills) ≤ 3
general_fills p s (A n) fills g e h = subst (λ l. length (all_copied s (A n) l) ≤ 3) (sym h.in_order) (beside_a s (A n) n h.a h.b h.slot (elsewhere_is p (A n) fills h))
general_fills p s (B n) fills g e h = subst (λ l. length (all_copied s (B n) l) ≤ 3) (sym h.in_order) (beside_b s (B n) n h.a h.b h.slot (elsewhere_is p (B n) fills h))
general_fills p s (L n) fills g e h = absurd g
general_fills p s (LD n) fills g e h = absurd g
general_fills p s (S n) fills g e h = absurd g
general_fills p s (SD n) fills g e h = absurd g
general_fills p s (Slot n) fills g e h = absurd (false≢true (sym e))

copies_counted : (labels : List Label) (p : Plan) (s : Option ℕ) (x n : ℕ) → Placed labels p → (c : AreCopies labels p x (home p x)) → length (all_copied s (home p x).defined c.fills) ≤ n → length (all_copied s (home p x).defined (home p x).copied) ≤ n + early_of labels p x
copies_counted labels p s x n h c f =
    let d = (home p x).defined in
    let ws = map (word_register p) (early_uses labels p x) in
    let a : length (all_copied s d (home p x).copied) ≡ length (all_copied s d (c.fills ++ ws)) = ap (λ l. length (all_copied s d l)) c.copied in
    let b = copied_both s d c.fills ws in
    let e = registers_copied s d ws (early_registers labels p x h) in
    let g = length-map (early_uses labels p x) (word_register p) in
    omega (arith, a, b, e, f, g)

none_copied : (s : Option ℕ) (d : Place) (qs : List Place) → qs ≡ [] → length (all_copied s d qs) ≡ 0
none_copied s d qs e = ap (λ l. length (all_copied s d l)) e

no_slot : (p : Plan) (k x : ℕ) → is_slot (home p x).defined ≡ false → length (to_slot p k x) ≡ 0
no_slot p k x e = ap (λ (b : Bool). length {A = Move} (if b then (S (named (pass p k).s), (home p x).defined) ∷ [] else [])) e

pub general_room : (labels : List Label) (p : Plan) (k x : ℕ) → Placed labels p → IsGeneral p (home p x).defined → AreCopies labels p x (home p x) → length (to_slot p k x) + length (copies p k x) ≤ 3 + early_of labels p x
general_room labels p k x h g c =
    ⊎_elim
    (λ (e : is_slot (home p x).defined ≡ true).
    let a = none_copied (pass p k).s (home p x).defined (home p x).copied (c.from_slot e) in
    let b = slot_short p k x in
    let z : length (to_slot p k x) + length (copies p k x) ≤ 3 + early_of labels p x = omega (arith, a, b) in z)
    (λ (e : is_slot (home p x).defined ≡ false).
    let a = copies_counted labels p (pass p k).s x 3 h c (general_fills p (pass p k).s (home p x).defined c.fills g e c.are) in
    let b = no_slot p k x e in
    let z : length (to_slot p k x) + length (copies p k x) ≤ 3 + early_of labels p x = omega (arith, a, b) in z)
    (cases_Bool (is_slot (home p x).defined))

pub early_room : (labels : List Label) (p : Plan) (k x : ℕ) → IsPutEarly labels p x (home p x) → length (to_slot p k x) + length (copies p k x) ≤ 3 + early_of labels p x
early_room labels p k x c =
    let a = none_copied (pass p k).s (home p x).defined (home p x).copied c.copied in
    let b = slot_short p k x in
    omega (arith, a, b)

pub read_room : (labels : List Label) (p : Plan) (k x : ℕ) → Placed labels p → (is_used labels x ≡ true → AreCopies labels p x (home p x)) → length (copies p k x) ≤ 4 + early_of labels p x
read_room labels p k x h c =
    ⊎_elim
    (λ (e : is_used labels x ≡ true). copies_counted labels p (pass p k).s x 4 h (c e) (fills_long p (pass p k).s (home p x).defined (c e).fills (c e).are))
    (λ (e : is_used labels x ≡ false).
    let a = none_copied (pass p k).s (home p x).defined (home p x).copied (unused_bare labels p x h e) in
    let z : length (copies p k x) ≤ 4 + early_of labels p x = omega (arith, a) in z)
    (cases_Bool (is_used labels x))
