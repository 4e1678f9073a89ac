-- What moves weigh: no more than what the placement counts for the words that they bring.
use Rattle.std.proofs.Common.{◌≡◌, ℕ, zero, suc, ◌+◌, ◌≤◌, Bool, true, false, nat_eq, ◌&&◌, if◌then◌else◌, List, [], ◌∷◌, ◌++◌, Option, refl, sym, ap, subst, arith}
use Rattle.std.proofs.lemmas.Bool.{false≢true}
use Rattle.uc_isa.specs.Moves.{weight}
use Rattle.place_plan.specs.declared.place.Place.{Place}
use Rattle.place_plan.specs.declared.place.Place.TheVariants.{A, B, L, LD, S, SD, Slot}
use Rattle.place_plan.specs.Places.{same_place}
use Rattle.place_plan.specs.Plan.{Plan, serve, pass}
use Rattle.place_plan.specs.Fits.{is_slot, is_read_register}
use Rattle.place_plan.specs.Costs.{served_cost, copied_cost, all_copied_cost}
use Rattle.ucode_emit.specs.Moves.{Move, temporary, StandFor, none, once, around, at_rest}
use Rattle.ucode_emit.specs.Pieces.{move_instr, named, bring, brought, to_temporary, to_read_register, each_operand, operands, words, copied, all_copied, single_move, single_moves, served_moves}

-- ---- the weight of one move

light : (b : Bool) → (if b then 0 else 1) ≤ 1
light true = omega arith
light false = omega arith

-- a word that is read from a slot and moved on
through : (b : Bool) → 16 + ((if b then 0 else 1) + 0) ≤ (if b then 16 else 17)
through true = omega arith
through false = omega arith

sixteen : (b : Bool) → 16 + 0 ≤ (if b then 16 else 17)
sixteen true = omega arith
sixteen false = omega arith

-- a word that is moved to a write register and written to a slot
stored : (b : Bool) → (if b then 0 else 1) + (16 + 0) ≤ 17
stored true = omega arith
stored false = omega arith

-- one instruction weighs no more than a word that is served so
pub move_light : (from at : Place) → weight (move_instr from at) ≤ served_cost from at
move_light (A i) (A j) = omega arith
move_light (A i) (B j) = light (nat_eq i 15)
move_light (A i) (L j) = omega arith
move_light (A i) (LD j) = omega arith
move_light (A i) (S j) = light (nat_eq i 15)
move_light (A i) (SD j) = light (nat_eq i 15)
move_light (A i) (Slot j) = omega arith
move_light (B i) (A j) = light (nat_eq j 15)
move_light (B i) (B j) = omega arith
move_light (B i) (L j) = omega arith
move_light (B i) (LD j) = omega arith
move_light (B i) (S j) = omega arith
move_light (B i) (SD j) = omega arith
move_light (B i) (Slot j) = omega arith
move_light (L i) (A j) = light (nat_eq j 15)
move_light (L i) (B j) = omega arith
move_light (L i) (L j) = omega arith
move_light (L i) (LD j) = omega arith
move_light (L i) (S j) = omega arith
move_light (L i) (SD j) = omega arith
move_light (L i) (Slot j) = omega arith
move_light (LD i) (A j) = light (nat_eq j 15)
move_light (LD i) (B j) = omega arith
move_light (LD i) (L j) = omega arith
move_light (LD i) (LD j) = omega arith
move_light (LD i) (S j) = omega arith
move_light (LD i) (SD j) = omega arith
move_light (LD i) (Slot j) = omega arith
move_light (S i) (A j) = omega arith
move_light (S i) (B j) = omega arith
move_light (S i) (L j) = omega arith
move_light (S i) (LD j) = omega arith
move_light (S i) (S j) = omega arith
move_light (S i) (SD j) = omega arith
move_light (S i) (Slot j) = omega arith
move_light (SD i) (A j) = omega arith
move_light (SD i) (B j) = omega arith
move_light (SD i) (L j) = omega arith
move_light (SD i) (LD j) = omega arith
move_light (SD i) (S j) = omega arith
move_light (SD i) (SD j) = omega arith
move_light (SD i) (Slot j) = omega arith
move_light (Slot i) (A j) = omega arith
move_light (Slot i) (B j) = omega arith
move_light (Slot i) (L j) = omega arith
move_light (Slot i) (LD j) = omega arith
move_light (Slot i) (S j) = omega arith
move_light (Slot i) (SD j) = omega arith
move_light (Slot i) (Slot j) = omega arith

-- between registers it weighs at most 1
plain_light : (from at : Place) → is_slot from ≡ false → is_slot at ≡ false → weight (move_instr from at) ≤ 1
plain_light (A i) (A j) h g = omega arith
plain_light (A i) (B j) h g = light (nat_eq i 15)
plain_light (A i) (L j) h g = omega arith
plain_light (A i) (LD j) h g = omega arith
plain_light (A i) (S j) h g = light (nat_eq i 15)
plain_light (A i) (SD j) h g = light (nat_eq i 15)
plain_light (A i) (Slot j) h g = absurd (false≢true (sym g))
plain_light (B i) (A j) h g = light (nat_eq j 15)
plain_light (B i) (B j) h g = omega arith
plain_light (B i) (L j) h g = omega arith
plain_light (B i) (LD j) h g = omega arith
plain_light (B i) (S j) h g = omega arith
plain_light (B i) (SD j) h g = omega arith
plain_light (B i) (Slot j) h g = absurd (false≢true (sym g))
plain_light (L i) (A j) h g = light (nat_eq j 15)
plain_light (L i) (B j) h g = omega arith
plain_light (L i) (L j) h g = omega arith
plain_light (L i) (LD j) h g = omega arith
plain_light (L i) (S j) h g = omega arith
plain_light (L i) (SD j) h g = omega arith
plain_light (L i) (Slot j) h g = absurd (false≢true (sym g))
plain_light (LD i) (A j) h g = light (nat_eq j 15)
plain_light (LD i) (B j) h g = omega arith
plain_light (LD i) (L j) h g = omega arith
plain_light (LD i) (LD j) h g = omega arith
plain_light (LD i) (S j) h g = omega arith
plain_light (LD i) (SD j) h g = omega arith
plain_light (LD i) (Slot j) h g = absurd (false≢true (sym g))
plain_light (S i) (A j) h g = omega arith
plain_light (S i) (B j) h g = omega arith
plain_light (S i) (L j) h g = omega arith
plain_light (S i) (LD j) h g = omega arith
plain_light (S i) (S j) h g = omega arith
plain_light (S i) (SD j) h g = omega arith
plain_light (S i) (Slot j) h g = absurd (false≢true (sym g))
plain_light (SD i) (A j) h g = omega arith
plain_light (SD i) (B j) h g = omega arith
plain_light (SD i) (L j) h g = omega arith
plain_light (SD i) (LD j) h g = omega arith
plain_light (SD i) (S j) h g = omega arith
plain_light (SD i) (SD j) h g = omega arith
plain_light (SD i) (Slot j) h g = absurd (false≢true (sym g))
plain_light (Slot i) at h g = absurd (false≢true (sym h))

-- what is read or written by way of a slot
abbrev slot_cost : Place → ℕ
slot_cost (Slot k) = 16
slot_cost _ = 0

two_slots : (from at : Place) → slot_cost from + slot_cost at ≤ served_cost from at
two_slots (A i) (A j) = omega arith
two_slots (A i) (B j) = omega arith
two_slots (A i) (L j) = omega arith
two_slots (A i) (LD j) = omega arith
two_slots (A i) (S j) = omega arith
two_slots (A i) (SD j) = omega arith
two_slots (A i) (Slot j) = omega arith
two_slots (B i) (A j) = omega arith
two_slots (B i) (B j) = omega arith
two_slots (B i) (L j) = omega arith
two_slots (B i) (LD j) = omega arith
two_slots (B i) (S j) = omega arith
two_slots (B i) (SD j) = omega arith
two_slots (B i) (Slot j) = omega arith
two_slots (L i) (A j) = omega arith
two_slots (L i) (B j) = omega arith
two_slots (L i) (L j) = omega arith
two_slots (L i) (LD j) = omega arith
two_slots (L i) (S j) = omega arith
two_slots (L i) (SD j) = omega arith
two_slots (L i) (Slot j) = omega arith
two_slots (LD i) (A j) = omega arith
two_slots (LD i) (B j) = omega arith
two_slots (LD i) (L j) = omega arith
two_slots (LD i) (LD j) = omega arith
two_slots (LD i) (S j) = omega arith
two_slots (LD i) (SD j) = omega arith
two_slots (LD i) (Slot j) = omega arith
two_slots (S i) (A j) = omega arith
two_slots (S i) (B j) = omega arith
two_slots (S i) (L j) = omega arith
two_slots (S i) (LD j) = omega arith
two_slots (S i) (S j) = omega arith
two_slots (S i) (SD j) = omega arith
two_slots (S i) (Slot j) = omega arith
two_slots (SD i) (A j) = omega arith
two_slots (SD i) (B j) = omega arith
two_slots (SD i) (L j) = omega arith
two_slots (SD i) (LD j) = omega arith
two_slots (SD i) (S j) = omega arith
two_slots (SD i) (SD j) = omega arith
two_slots (SD i) (Slot j) = omega arith
two_slots (Slot i) (A j) = sixteen (nat_eq j 15)
two_slots (Slot i) (B j) = omega arith
two_slots (Slot i) (L j) = omega arith
two_slots (Slot i) (LD j) = omega arith
two_slots (Slot i) (S j) = omega arith
two_slots (Slot i) (SD j) = omega arith
two_slots (Slot i) (Slot j) = omega arith

-- ---- the weight of moves

abbrev pub moves_weight : List Move → ℕ
moves_weight [] = 0
moves_weight (m ∷ ms) = weight (move_instr m.0 m.1) + moves_weight ms

pub sum_steps : (a b c d : ℕ) → b ≡ c + d → a + b ≡ a + c + d
sum_steps a b c d e = omega (arith, e)

pub weight_both : (a b : List Move) → moves_weight (a ++ b) ≡ moves_weight a + moves_weight b
weight_both [] b = let z : moves_weight b ≡ 0 + moves_weight b = omega arith in z
weight_both (m ∷ a) b = sum_steps (weight (move_instr m.0 m.1)) (moves_weight (a ++ b)) (moves_weight a) (moves_weight b) (weight_both a b)

one_light : (from at : Place) → weight (move_instr from at) + 0 ≤ served_cost from at
one_light from at = let z = move_light from at in omega (arith, z)

bring_light : (l : Option ℕ) (from at : Place) → moves_weight (bring l from at) ≤ served_cost from at
bring_light l (A i) at = one_light (A i) at
bring_light l (B i) at = one_light (B i) at
bring_light l (L i) at = one_light (L i) at
bring_light l (LD i) at = one_light (LD i) at
bring_light l (S i) at = one_light (S i) at
bring_light l (SD i) at = one_light (SD i) at
bring_light l (Slot i) (A j) = through (nat_eq j 15)
bring_light l (Slot i) (B j) = omega arith
bring_light l (Slot i) (L j) = omega arith
bring_light l (Slot i) (LD j) = omega arith
bring_light l (Slot i) (S j) = omega arith
bring_light l (Slot i) (SD j) = omega arith
bring_light l (Slot i) (Slot j) = omega arith

-- moves that are made or left out
if_light : (b : Bool) (a c : List Move) (n : ℕ) → moves_weight a ≤ n → moves_weight c ≤ n → moves_weight (if b then a else c) ≤ n
if_light true a c n h g = h
if_light false a c n h g = g

brought_light : (l : Option ℕ) (from at : Place) → moves_weight (brought l from at) ≤ served_cost from at
brought_light l from at = if_light (same_place from at) [] (bring l from at) (served_cost from at) (omega arith) (bring_light l from at)

-- ---- operands

no_read : (b : Bool) (ms : List Move) → moves_weight (if b && false then ms else []) ≡ 0
no_read true ms = refl
no_read false ms = refl

some_read : (b : Bool) (m : Move) (n : ℕ) → weight (move_instr m.0 m.1) ≤ n → moves_weight (if b && true then m ∷ [] else []) ≤ n
some_read true m n h = omega (arith, h)
some_read false m n h = omega arith

fetch_light : (l : Option ℕ) (from at : Place) → moves_weight (if same_place at temporary then brought l from at else []) + moves_weight (if is_slot from && is_read_register at then (from, at) ∷ [] else []) ≤ served_cost from at
fetch_light l from (A j) =
    let z = no_read (is_slot from) ((from, A j) ∷ []) in
    let y = if_light (nat_eq j 15) (brought l from (A j)) [] (served_cost from (A j)) (brought_light l from (A j)) (omega arith) in
    omega (arith, z, y)
fetch_light l from (B j) = let z = no_read (is_slot from) ((from, B j) ∷ []) in omega (arith, z)
fetch_light l from (S j) = let z = no_read (is_slot from) ((from, S j) ∷ []) in omega (arith, z)
fetch_light l from (SD j) = let z = no_read (is_slot from) ((from, SD j) ∷ []) in omega (arith, z)
fetch_light l from (Slot j) = let z = no_read (is_slot from) ((from, Slot j) ∷ []) in omega (arith, z)
fetch_light l from (L j) = let z = some_read (is_slot from) (from, L j) (served_cost from (L j)) (move_light from (L j)) in omega (arith, z)
fetch_light l from (LD j) = let z = some_read (is_slot from) (from, LD j) (served_cost from (LD j)) (move_light from (LD j)) in omega (arith, z)

-- what n operands from one on are counted for
abbrev pub operands_cost : Plan → ℕ → ℕ → ℕ → ℕ
operands_cost p k i zero = 0
operands_cost p k i (suc n) = served_cost (serve p k i).from (serve p k i).at + operands_cost p k (suc i) n

each_light : (p : Plan) (k i n : ℕ) → moves_weight (each_operand (to_temporary p k) i n) + moves_weight (each_operand (to_read_register p k) i n) ≤ operands_cost p k i n
each_light p k i zero = omega arith
each_light p k i (suc n) =
    let a = weight_both (to_temporary p k i) (each_operand (to_temporary p k) (suc i) n) in
    let b = weight_both (to_read_register p k i) (each_operand (to_read_register p k) (suc i) n) in
    let c = fetch_light (pass p k).l (serve p k i).from (serve p k i).at in
    let d = each_light p k (suc i) n in
    omega (arith, a, b, c, d)

pub operands_light : (p : Plan) (k n : ℕ) → moves_weight (operands p k n) ≤ operands_cost p k 0 n
operands_light p k n =
    let a = weight_both (each_operand (to_temporary p k) 0 n) (each_operand (to_read_register p k) 0 n) in
    let b = each_light p k 0 n in
    omega (arith, a, b)

pub words_light : (p : Plan) (k i n : ℕ) → moves_weight (words p k i n) ≤ operands_cost p k i n
words_light p k i zero = omega arith
words_light p k i (suc n) =
    let a = weight_both (brought (pass p k).l (serve p k i).from (serve p k i).at) (words p k (suc i) n) in
    let b = brought_light (pass p k).l (serve p k i).from (serve p k i).at in
    let c = words_light p k (suc i) n in
    omega (arith, a, b, c)

-- ---- copies

copied_light : (s : Option ℕ) (from q : Place) → is_slot from ≡ false → moves_weight (copied s from q) ≤ copied_cost q
copied_light s from (A j) h = let z = plain_light from (A j) h refl in omega (arith, z)
copied_light s from (B j) h = let z = plain_light from (B j) h refl in omega (arith, z)
copied_light s from (L j) h = let z = plain_light from (L j) h refl in omega (arith, z)
copied_light s from (LD j) h = let z = plain_light from (LD j) h refl in omega (arith, z)
copied_light s from (S j) h = let z = plain_light from (S j) h refl in omega (arith, z)
copied_light s from (SD j) h = let z = plain_light from (SD j) h refl in omega (arith, z)
copied_light s from (Slot j) h = let z = plain_light from (S (named s)) h refl in omega (arith, z)

copies_light : (s : Option ℕ) (from : Place) (qs : List Place) → is_slot from ≡ false → moves_weight (all_copied s from qs) ≤ all_copied_cost qs
copies_light s from [] h = omega arith
copies_light s from (q ∷ qs) h =
    let a = weight_both (copied s from q) (all_copied s from qs) in
    let b = copied_light s from q h in
    let c = copies_light s from qs h in
    omega (arith, a, b, c)

no_copies : (s : Option ℕ) (from : Place) (qs : List Place) → qs ≡ [] → moves_weight (all_copied s from qs) ≤ all_copied_cost qs
no_copies s from qs e = subst (λ r. moves_weight (all_copied s from r) ≤ all_copied_cost r) (sym e) (omega arith)

-- what is defined in a slot has no copies
pub all_copied_light : (s : Option ℕ) (from : Place) (qs : List Place) → (is_slot from ≡ true → qs ≡ []) → moves_weight (all_copied s from qs) ≤ all_copied_cost qs
all_copied_light s (A k) qs h = copies_light s (A k) qs refl
all_copied_light s (B k) qs h = copies_light s (B k) qs refl
all_copied_light s (L k) qs h = copies_light s (L k) qs refl
all_copied_light s (LD k) qs h = copies_light s (LD k) qs refl
all_copied_light s (S k) qs h = copies_light s (S k) qs refl
all_copied_light s (SD k) qs h = copies_light s (SD k) qs refl
all_copied_light s (Slot k) qs h = no_copies s (Slot k) qs (h refl)

-- ---- single moves of parallel moves

single_light : (l : Option ℕ) (from at : Place) → moves_weight (single_move l from at) ≤ served_cost from at
single_light l from (A j) = bring_light l from (A j)
single_light l from (B j) = bring_light l from (B j)
single_light l from (L j) = bring_light l from (L j)
single_light l from (LD j) = bring_light l from (LD j)
single_light l from (S j) = bring_light l from (S j)
single_light l from (SD j) = bring_light l from (SD j)
single_light l (A i) (Slot j) = stored (nat_eq i 15)
single_light l (B i) (Slot j) = omega arith
single_light l (L i) (Slot j) = omega arith
single_light l (LD i) (Slot j) = omega arith
single_light l (S i) (Slot j) = omega arith
single_light l (SD i) (Slot j) = omega arith
single_light l (Slot i) (Slot j) = omega arith

-- by way of the compiler's own register
to_own : (l : Option ℕ) (from : Place) → moves_weight (single_move l from temporary) ≤ slot_cost from
to_own l (A i) = omega arith
to_own l (B i) = omega arith
to_own l (L i) = omega arith
to_own l (LD i) = omega arith
to_own l (S i) = omega arith
to_own l (SD i) = omega arith
to_own l (Slot i) = omega arith

from_own : (l : Option ℕ) (at : Place) → moves_weight (single_move l temporary at) ≤ slot_cost at
from_own l (A i) = omega arith
from_own l (B i) = omega arith
from_own l (L i) = omega arith
from_own l (LD i) = omega arith
from_own l (S i) = omega arith
from_own l (SD i) = omega arith
from_own l (Slot i) = omega arith

-- what these moves are counted for
abbrev pub moves_cost : List Move → ℕ
moves_cost [] = 0
moves_cost (m ∷ ms) = served_cost m.0 m.1 + moves_cost ms

singles_both : (l : Option ℕ) (a b : List Move) → moves_weight (single_moves l (a ++ b)) ≡ moves_weight (single_moves l a) + moves_weight (single_moves l b)
singles_both l [] b = let z : moves_weight (single_moves l b) ≡ 0 + moves_weight (single_moves l b) = omega arith in z
singles_both l (m ∷ a) b =
    let x = weight_both (single_move l m.0 m.1) (single_moves l (a ++ b)) in
    let y = weight_both (single_move l m.0 m.1) (single_moves l a) in
    let z = singles_both l a b in
    omega (arith, x, y, z)

singles_head : (l : Option ℕ) (from at : Place) (ms : List Move) → moves_weight (single_moves l ((from, at) ∷ ms)) ≡ moves_weight (single_move l from at) + moves_weight (single_moves l ms)
singles_head l from at ms = weight_both (single_move l from at) (single_moves l ms)

once_light : (l : Option ℕ) (from at : Place) (a b ms : List Move) → moves_weight (single_moves l (a ++ b)) ≤ moves_cost ms → moves_weight (single_moves l (a ++ ((from, at) ∷ b))) ≤ served_cost from at + moves_cost ms
once_light l from at a b ms h =
    let x = singles_both l a b in
    let y = singles_both l a ((from, at) ∷ b) in
    let z = singles_head l from at b in
    let w = single_light l from at in
    omega (arith, h, x, y, z, w)

around_light : (l : Option ℕ) (from at : Place) (a b c ms : List Move) → moves_weight (single_moves l (a ++ (b ++ c))) ≤ moves_cost ms
    → moves_weight (single_moves l (a ++ ((from, temporary) ∷ (b ++ ((temporary, at) ∷ c))))) ≤ served_cost from at + moves_cost ms
around_light l from at a b c ms h =
    let x = singles_both l a (b ++ c) in
    let y = singles_both l b c in
    let z = singles_both l a ((from, temporary) ∷ (b ++ ((temporary, at) ∷ c))) in
    let w = singles_head l from temporary (b ++ ((temporary, at) ∷ c)) in
    let v = singles_both l b ((temporary, at) ∷ c) in
    let u = singles_head l temporary at c in
    let t = to_own l from in
    let s = from_own l at in
    let r = two_slots from at in
    omega (arith, h, x, y, z, w, v, u, t, s, r)

pub rest_light : (n m w : ℕ) → w ≤ m → w ≤ n + m
rest_light n m w h = omega (arith, h)

-- single moves weigh no more than what the moves for which they stand are counted for
pub stand_light : (l : Option ℕ) (moves ms : List Move) → StandFor moves ms → moves_weight (single_moves l ms) ≤ moves_cost moves
stand_light l moves ms none = omega arith
stand_light l moves ms (once {s} {t} {ms = ns} a b n h) = once_light l s t a b ns (stand_light l ns (a ++ b) h)
stand_light l moves ms (around {s} {t} {ms = ns} a b c n h) = around_light l s t a b c ns (stand_light l ns (a ++ (b ++ c)) h)
stand_light l moves ms (at_rest {p = q} {ms = ns} {r} h) = rest_light (served_cost q q) (moves_cost ns) (moves_weight (single_moves l r)) (stand_light l ns r h)

pub served_costs : (p : Plan) (k i n : ℕ) → moves_cost (served_moves p k i n) ≡ operands_cost p k i n
served_costs p k i zero = refl
served_costs p k i (suc n) = ap (λ m. served_cost (serve p k i).from (serve p k i).at + m) (served_costs p k (suc i) n)
