-- The words of a write come into their write registers, and what stood ready stands ready.
use Rattle.std.proofs.Common.{◌≡◌, ℕ, zero, suc, ◌+◌, ◌<◌, ◌≤◌, ◌⊎◌, nat_eq, Bool, true, false, List, [], ◌∷◌, ◌++◌, map, length, Option, Some, if◌then◌else◌, refl, sym, ap, ◌∙◌, subst, inl, inr, ⊎_elim, slice_get, arith}
use Rattle.std.specs.Prelude.{is_some}
use Rattle.std.specs.List.{AllByRecursion}
use Rattle.std.proofs.lemmas.Bool.{or_left, or_right, false≢true, cases_Bool, eqb-true, eq-eqb, leb-true, le-leb}
use Rattle.std.proofs.lemmas.List.Elements.{All-head, All-from_recursion, recursion_from_All}
use Rattle.std.proofs.lemmas.Option.{none-some, same_Some, slice_get_within}
use Rattle.nv_base.specs.declared.term.Mem.{Mem}
use Rattle.nv_base.specs.declared.term.Mem.TheVariants.{Sram, Sdram, Scratch}
use Rattle.nv_base.specs.Sets.{is_in}
use Rattle.nv_base.specs.Words.{Env}
use Rattle.nv_base.proofs.Sets.{same-number, within-left}
use Rattle.ssu_ir.specs.Tree.{Write, Tree, Do, Label}
use Rattle.ssu_ir.specs.Points.{Names, Point, points}
use Rattle.ssu_ir.proofs.Lists.{in-itself, some-there}
use Rattle.place_plan.specs.declared.place.Place.{Place}
use Rattle.place_plan.specs.declared.place.Place.TheVariants.{A, B, L, LD, S, SD, Slot}
use Rattle.place_plan.specs.Places.{same_place}
use Rattle.place_plan.specs.Plan.{Plan, first, serve, pass}
use Rattle.place_plan.specs.Uses.{Access, Role, Address, Written, roles, place_roles, Use, uses_at}
use Rattle.place_plan.specs.Fits.{write_place, is_slot, is_write_register, role_register, word_register, run_of, has_place, is_home, point_values}
use Rattle.place_plan.proofs.Places.{same_place-true, same_place-from}
use Rattle.ucode_emit.specs.Moves.{Move, Words, one_by_one}
use Rattle.ucode_emit.specs.Pieces.{named, bring, brought, operands, operand_at, words}
use Rattle.ucode_emit.specs.inner.Ready.{Ready, WaitsAt, lasting}
use Rattle.ucode_emit.specs.inner.Machine.{IsWritable}
use Rattle.ucode_emit.specs.inner.Layers.{Placed, PointsAt, root_point, IsAddress, OperandsReady, HoldsAfterMoves}
use Rattle.ucode_emit.proofs.PointsEach.{all_both}
use Rattle.ucode_emit.proofs.PointsUses.{at_in, use_at}
use Rattle.ucode_emit.proofs.Copies.{one_append}
use Rattle.ucode_emit.proofs.DefinitionsHomes.{general_not_written, read_not_written, write_place_is, early_register, Lasts, in_place, in_read, lasts_from}
use Rattle.ucode_emit.proofs.DefinitionsReady.{waits_from}
use Rattle.ucode_emit.proofs.DefinitionsDirect.{OneInstr, eighth_named, access_at, first_bound}
use Rattle.ucode_emit.proofs.EntriesMoves.{role_at, map_get}
use Rattle.ucode_emit.proofs.OperandsHomes.{EmitContext, here_at, settled_held, Source, source_of, IsEmitContext, uses_here}
use Rattle.ucode_emit.proofs.OperandsFetch.{named_some, held_apart, fetch_address, one_fetched}
use Rattle.ucode_emit.proofs.Bring.{bring_brings, bring_spares, bring_direct, source_is}

-- ---- one word

brings_if : (b : Bool) (l : Option ℕ) (from at : Place) (e : Words) (w : ℕ) → same_place from at ≡ b → e from ≡ w → one_by_one (if b then [] else bring l from at) e at ≡ w
brings_if true l from at e w b h = ap e (sym (same_place-true from at b)) ∙ h
brings_if false l from at e w b h = bring_brings l from at e ∙ h

brought_brings : (l : Option ℕ) (from at : Place) (e : Words) (w : ℕ) → e from ≡ w → one_by_one (brought l from at) e at ≡ w
brought_brings l from at e w h = brings_if (same_place from at) l from at e w refl h

spares_if : (b : Bool) (l : Option ℕ) (from at t : Place) (e : Words) → (t ≡ at → ⊥) → (is_slot from ≡ true → t ≡ L (named l) → ⊥) → one_by_one (if b then [] else bring l from at) e t ≡ e t
spares_if true l from at t e h g = refl
spares_if false l from at t e h g = bring_spares l from at t e h g

brought_spares : (l : Option ℕ) (from at t : Place) (e : Words) → (t ≡ at → ⊥) → (is_slot from ≡ true → t ≡ L (named l) → ⊥) → one_by_one (brought l from at) e t ≡ e t
brought_spares l from at t e h g = spares_if (same_place from at) l from at t e h g

direct_if : (slots : ℕ) (b : Bool) (l : Option ℕ) (from at : Place) → AllByRecursion (OneInstr slots) (bring l from at) → AllByRecursion (OneInstr slots) (if b then [] else bring l from at)
direct_if slots true l from at h = tt
direct_if slots false l from at h = h

write_place_same : (m : Mem) (i j : ℕ) → write_place m i ≡ write_place m j → i ≡ j
write_place_same Sram i j e = eqb-true i j (same_place-from (S i) (S j) e)
write_place_same Sdram i j e = eqb-true i j (same_place-from (SD i) (SD j) e)
write_place_same Scratch i j e = eqb-true i j (same_place-from (S i) (S j) e)

write_writable : (m : Mem) (k : ℕ) → k < 8 → IsWritable (write_place m k)
write_writable Sram k h = h
write_writable Sdram k h = h
write_writable Scratch k h = h

-- ---- a word of a write, and where it is wanted

record Word (labels : List Label) (p : Plan) (k : ℕ) (q : Point) (m : Mem) (v i : ℕ) : Type 0 where
  at_it : (serve p k (suc i)).at ≡ write_place m (first p k + i)
  comes : Source labels p q v (serve p k (suc i)).from ⊎ ((serve p k (suc i)).from ≡ (serve p k (suc i)).at)
  passes : is_slot (serve p k (suc i)).from ≡ true → is_some (pass p k).l ≡ true
  waits : (serve p k (suc i)).from ≡ (serve p k (suc i)).at → WaitsAt labels p k q (record { point = k; operand = suc i; value = v; role = Written m i })

word_of : (labels : List Label) (p : Plan) (k : ℕ) (q : Point) (m : Mem) (v i : ℕ) → Placed labels p → EmitContext labels k q → IsEmitContext labels p k (record { point = k; operand = suc i; value = v; role = Written m i }) → is_in v q.uses ≡ true → Word labels p k q m v i
word_of labels p k q m v i h s u c =
    let it : Use = record { point = k; operand = suc i; value = v; role = Written m i } in
    let from = (serve p k (suc i)).from in
    let at = (serve p k (suc i)).at in record {
      at_it = u.0.0.0;
      comes = ⊎_elim (λ (g : is_home p v from ≡ true). inl (source_of labels p k q it h s u.0.1 c g)) (λ (g : from ≡ at). inr g) u.0.0.1;
      passes = u.1;
      waits = λ g. record {
        there = u.0.1;
        early = ap is_write_register (g ∙ u.0.0.0) ∙ write_place_is m (first p k + i);
        defined = s.known v (s.uses v c);
        emit_context = le-leb k k (omega arith);
        below = le-leb k (k + q.below) (omega arith);
      };
    }

-- its place is a write register
word_written : (labels : List Label) (p : Plan) (k : ℕ) (q : Point) (m : Mem) (v i : ℕ) → Word labels p k q m v i → is_write_register (serve p k (suc i)).at ≡ true
word_written labels p k q m v i w = ap is_write_register w.at_it ∙ write_place_is m (first p k + i)

lasts_unwritten : (labels : List Label) (p : Plan) (x : ℕ) (t : Place) → Lasts labels p x t → is_write_register t ≡ true → ⊥
lasts_unwritten labels p x t (in_place g m) w = general_not_written t g w
lasts_unwritten labels p x t (in_read g m) w = read_not_written t g w

-- where a held value lasts, no written word goes
lasting_unwritten : (labels : List Label) (p : Plan) (k : ℕ) (q : Point) (x : ℕ) (t r : Place) → Placed labels p → EmitContext labels k q → is_in x q.before ≡ true → has_place t (lasting labels p x) ≡ true → is_write_register r ≡ true → t ≡ r → ⊥
lasting_unwritten labels p k q x t r h s i m w e =
    let d = settled_held labels p k q x h s i in
    let l = lasts_from labels p x t (λ u. d) m in
    lasts_unwritten labels p x t l.0 (ap is_write_register e ∙ w)

-- no register for slots that are read
written_no_l : (r : Place) (n : ℕ) → is_write_register r ≡ true → r ≡ L n → ⊥
written_no_l r n w e = false≢true (sym (ap is_write_register e) ∙ w)

below_suc : (i j : ℕ) → i < suc j → (i < j) ⊎ (i ≡ j)
below_suc zero zero h = inr refl
below_suc zero (suc j) h = inl (omega arith)
below_suc (suc i) zero h = absurd (omega arith)
below_suc (suc i) (suc j) h = let less : i < suc j = omega arith in ⊎_elim (λ (a : i < j). let b : suc i < suc j = omega arith in inl b) (λ (a : i ≡ j). inr (ap suc a)) (below_suc i j less)

-- ---- N words are in their registers

abbrev fetched : Plan → ℕ → ℕ → List Move
fetched p k j = brought (pass p k).l (serve p k j).from (serve p k j).at

abbrev AllWords : List Label → Plan → ℕ → Point → Names → Mem → List ℕ → Type 0
AllWords labels p k q of m xs = (i x : ℕ) → slice_get xs i ≡ Some x → Word labels p k q m (of x) i

record Part (labels : List Label) (p : Plan) (k : ℕ) (q : Point) (of : Names) (m : Mem) (xs : List ℕ) (env : Env) (j : ℕ) (e : Words) : Type 0 where
  held : (x : ℕ) → is_in x q.before ≡ true → (t : Place) → has_place t (lasting labels p x) ≡ true → e t ≡ env x
  there : (i x : ℕ) → slice_get xs i ≡ Some x → (i < j) ⊎ ((serve p k (suc i)).from ≡ (serve p k (suc i)).at) → e (write_place m (first p k + i)) ≡ env (of x)

word_from : (labels : List Label) (p : Plan) (k : ℕ) (q : Point) (of : Names) (m : Mem) (xs : List ℕ) (env : Env) (j x : ℕ) (e : Words) → Word labels p k q m (of x) j → slice_get xs j ≡ Some x → Part labels p k q of m xs env j e
    → e (serve p k (suc j)).from ≡ env (of x)
word_from labels p k q of m xs env j x e w g d =
    ⊎_elim
    (λ (c : Source labels p q (of x) (serve p k (suc j)).from). d.held (of x) c.held (serve p k (suc j)).from c.lasts)
    (λ (c : (serve p k (suc j)).from ≡ (serve p k (suc j)).at). ap e (c ∙ w.at_it) ∙ d.there j x g (inr c))
    w.comes

part_there : (labels : List Label) (p : Plan) (k : ℕ) (q : Point) (of : Names) (m : Mem) (xs : List ℕ) (env : Env) (j x : ℕ) (e : Words) → Word labels p k q m (of x) j → slice_get xs j ≡ Some x → Part labels p k q of m xs env j e
    → (i y : ℕ) → slice_get xs i ≡ Some y → (i < suc j) ⊎ ((serve p k (suc i)).from ≡ (serve p k (suc i)).at) → one_by_one (fetched p k (suc j)) e (write_place m (first p k + i)) ≡ env (of y)
part_there labels p k q of m xs env j x e w g d i y f c =
    let l = (pass p k).l in
    let from = (serve p k (suc j)).from in
    let at = (serve p k (suc j)).at in
    let e' = one_by_one (fetched p k (suc j)) e in
    ⊎_elim
    (λ (b : nat_eq i j ≡ true).
    let z : i ≡ j = same-number i j b in
    let same : x ≡ y = same_Some x y (sym g ∙ (ap (slice_get xs) (sym z) ∙ f)) in
    ap (λ n. e' (write_place m (first p k + n))) z
    ∙ (ap e' (sym w.at_it) ∙ (brought_brings l from at e (env (of x)) (word_from labels p k q of m xs env j x e w g d) ∙ ap (λ n. env (of n)) same)))
    (λ (b : nat_eq i j ≡ false).
    let other : i ≡ j → ⊥ = λ z. false≢true (sym b ∙ eq-eqb i j z) in
    let apart : write_place m (first p k + i) ≡ at → ⊥ =
    λ z. let n : first p k + i ≡ first p k + j = write_place_same m (first p k + i) (first p k + j) (z ∙ w.at_it) in other (omega arith) in
    brought_spares l from at (write_place m (first p k + i)) e apart (λ s. written_no_l (write_place m (first p k + i)) (named l) (write_place_is m (first p k + i)))
    ∙ d.there i y f
    (⊎_elim (λ (a : i < suc j). ⊎_elim (λ (o : i < j). inl o) (λ (o : i ≡ j). absurd (other o)) (below_suc i j a)) (λ (a : (serve p k (suc i)).from ≡ (serve p k (suc i)).at). inr a) c))
    (cases_Bool (nat_eq i j))

part_next : (labels : List Label) (p : Plan) (k : ℕ) (q : Point) (of : Names) (m : Mem) (xs : List ℕ) (env : Env) (j x : ℕ) (e : Words) → Placed labels p → EmitContext labels k q → Word labels p k q m (of x) j → slice_get xs j ≡ Some x → Part labels p k q of m xs env j e
    → Part labels p k q of m xs env (suc j) (one_by_one (fetched p k (suc j)) e)
part_next labels p k q of m xs env j x e h s w g d =
    let l = (pass p k).l in
    let from = (serve p k (suc j)).from in
    let at = (serve p k (suc j)).at in record {
      held = λ y i t c.
          brought_spares l from at t e (lasting_unwritten labels p k q y t at h s i c (word_written labels p k q m (of x) j w))
          (λ b z. held_apart labels p k q y t (L (named l)) h s i c (inr (named l, named_some l (w.passes b), refl)) z)
          ∙ d.held y i t c;
      there = part_there labels p k q of m xs env j x e w g d;
    }

part_all : (labels : List Label) (p : Plan) (k : ℕ) (q : Point) (of : Names) (m : Mem) (xs : List ℕ) (env : Env) (j n : ℕ) (e : Words) → Placed labels p → EmitContext labels k q → AllWords labels p k q of m xs → j + n ≡ length xs → Part labels p k q of m xs env j e
    → Part labels p k q of m xs env (length xs) (one_by_one (words p k (suc j) n) e)
part_all labels p k q of m xs env j zero e h s w z d = let y : j ≡ length xs = omega arith in subst (λ i. Part labels p k q of m xs env i e) y d
part_all labels p k q of m xs env j (suc n) e h s w z d =
    let less : j < length xs = omega arith in
    let x = some-there xs j less in
    let e' = one_by_one (fetched p k (suc j)) e in
    subst (Part labels p k q of m xs env (length xs)) (sym (one_append (fetched p k (suc j)) (words p k (suc (suc j)) n) e))
    (part_all labels p k q of m xs env (suc j) n e' h s w (omega arith) (part_next labels p k q of m xs env j x.0 e h s (w j x.0 x.1) x.1 d))

-- other places have what they had
words_spare : (p : Plan) (k j n : ℕ) (t : Place) (e : Words) → ((i : ℕ) → j ≤ i → i < j + n → t ≡ (serve p k i).at → ⊥) → (t ≡ L (named (pass p k).l) → ⊥) → one_by_one (words p k j n) e t ≡ e t
words_spare p k j zero t e h g = refl
words_spare p k j (suc n) t e h g =
    ap (λ (f : Words). f t) (one_append (fetched p k j) (words p k (suc j) n) e)
    ∙ (words_spare p k (suc j) n t (one_by_one (fetched p k j) e) (λ i a b. h i (omega arith) (omega arith)) g
    ∙ brought_spares (pass p k).l (serve p k j).from (serve p k j).at t e (h j (omega arith) (omega arith)) (λ s. g))

-- ---- instructions

word_direct : (labels : List Label) (p : Plan) (k : ℕ) (q : Point) (m : Mem) (v i : ℕ) → Placed labels p → EmitContext labels k q → first p k + i < 8 → Word labels p k q m v i → AllByRecursion (OneInstr p.slots) (fetched p k (suc i))
word_direct labels p k q m v i h s b w =
    let l = (pass p k).l in
    let from = (serve p k (suc i)).from in
    let at = (serve p k (suc i)).at in
    let n = eighth_named l (h.fits.points k q s.at).passes.read in
    ⊎_elim
    (λ (c : Source labels p q v from). direct_if p.slots (same_place from at) l from at (bring_direct p.slots l from at (source_is labels p k q v from h s c w.passes) (subst IsWritable (sym w.at_it) (write_writable m (first p k + i) b)) n))
    (λ (c : from ≡ at). subst (λ (y : Bool). AllByRecursion (OneInstr p.slots) (if y then [] else bring l from at)) (sym (same_place-from from at c)) tt)
    w.comes

words_direct : (labels : List Label) (p : Plan) (k : ℕ) (q : Point) (of : Names) (m : Mem) (xs : List ℕ) (j n : ℕ) → Placed labels p → EmitContext labels k q → AllWords labels p k q of m xs → first p k + length xs ≤ 8 → j + n ≡ length xs → AllByRecursion (OneInstr p.slots) (words p k (suc j) n)
words_direct labels p k q of m xs j zero h s w b z = tt
words_direct labels p k q of m xs j (suc n) h s w b z =
    let less : j < length xs = omega arith in
    let low : first p k + j < 8 = omega arith in
    let x = some-there xs j less in
    all_both (OneInstr p.slots) (fetched p k (suc j)) (words p k (suc (suc j)) n) (word_direct labels p k q m (of x.0) j h s low (w j x.0 x.1)) (words_direct labels p k q of m xs (suc j) n h s w b (omega arith))

-- ---- the uses of a write

-- a use at a write whose word is put into a write register
record WordUse (of : Names) (m : Mem) (xs : List ℕ) (v : ℕ) (r : Role) : Type 0 where
  number : ℕ
  name : ℕ
  there : slice_get xs number ≡ Some name
  value : v ≡ of name
  role : r ≡ Written m number

word_use_at : (of : Names) (m : Mem) (a : ℕ) (xs : List ℕ) (i v : ℕ) (r : Role) → slice_get (map of xs) i ≡ Some v → slice_get (roles (Written m) a xs) i ≡ Some r → (x : ℕ) × (slice_get xs i ≡ Some x) × (v ≡ of x) × (r ≡ Written m (a + i))
word_use_at of m a [] i v r e f = absurd (none-some v e)
word_use_at of m a (x ∷ xs) zero v r e f =
    let z : a ≡ a + zero = omega arith in
    (x, refl, sym (same_Some (of x) v e), sym (same_Some (Written m a) r f) ∙ ap (Written m) z)
word_use_at of m a (x ∷ xs) (suc i) v r e f =
    let d = word_use_at of m (suc a) xs i v r e f in
    let z : suc a + i ≡ a + suc i = omega arith in
    (d.0, d.1, d.2, d.3 ∙ ap (Written m) z)

word_use : (p : Plan) (k : ℕ) (of : Names) (m : Mem) (y : ℕ) (xs : List ℕ) (o v : ℕ) (r : Role) → slice_get (of y ∷ map of xs) o ≡ Some v → slice_get (Address ∷ roles (Written m) 0 xs) o ≡ Some r → is_write_register (role_register p k r) ≡ true → WordUse of m xs v r
word_use p k of m y xs zero v r e f w = absurd (false≢true (ap (λ z. is_write_register (role_register p k z)) (same_Some Address r f) ∙ w))
word_use p k of m y xs (suc i) v r e f w =
    let d = word_use_at of m 0 xs i v r e f in
    let z : 0 + i ≡ i = omega arith in
    record { number = i; name = d.0; there = d.1; value = d.2; role = d.3 ∙ ap (Written m) z }

run_has : (m : Mem) (f n i : ℕ) → i < n → has_place (write_place m (f + i)) (run_of (write_place m) f n) ≡ true
run_has m f zero i h = absurd (omega arith)
run_has m f (suc n) zero h =
    let z : f + zero ≡ f = omega arith in
    or_left (same_place (write_place m (f + zero)) (write_place m f)) (has_place (write_place m (f + zero)) (run_of (write_place m) (suc f) n)) (same_place-from (write_place m (f + zero)) (write_place m f) (ap (write_place m) z))
run_has m f (suc n) (suc i) h =
    let z : suc f + i ≡ f + suc i = omega arith in
    or_right (same_place (write_place m (f + suc i)) (write_place m f)) (has_place (write_place m (f + suc i)) (run_of (write_place m) (suc f) n))
    (subst (λ j. has_place (write_place m j) (run_of (write_place m) (suc f) n) ≡ true) z (run_has m (suc f) n i (omega arith)))

-- a place that isn't among the registers of the write is none in which a word is wanted
unlisted : (labels : List Label) (p : Plan) (k : ℕ) (q : Point) (of : Names) (m : Mem) (xs : List ℕ) (r : Place) → AllWords labels p k q of m xs → has_place r (run_of (write_place m) (first p k) (length xs)) ≡ false
    → (i : ℕ) → 1 ≤ i → i < 1 + length xs → r ≡ (serve p k i).at → ⊥
unlisted labels p k q of m xs r w f zero a b e = absurd (omega arith)
unlisted labels p k q of m xs r w f (suc i) a b e =
    let less : i < length xs = omega arith in
    let x = some-there xs i less in
    let it = w i x.0 x.1 in
    false≢true (sym f ∙ (ap (λ z. has_place z (run_of (write_place m) (first p k) (length xs))) (e ∙ it.at_it) ∙ run_has m (first p k) (length xs) i less))

-- ---- early words

abbrev WritePoint : Names → List ℕ → Mem → List ℕ → ℕ → Tree → Point
WritePoint of above m xs y t = root_point of above (Do (Write m y xs) t)

from_there : (k n : ℕ) → k ≤ n → (k < n) ⊎ (n ≡ k)
from_there zero zero h = inr refl
from_there zero (suc n) h = inl (omega arith)
from_there (suc k) zero h = absurd (omega arith)
from_there (suc k) (suc n) h = let less : k ≤ n = omega arith in ⊎_elim (λ (a : k < n). let b : suc k < suc n = omega arith in inl b) (λ (a : n ≡ k). inr (ap suc a)) (from_there k n less)

-- a word that is written below waits on
early_below : (labels : List Label) (p : Plan) (k : ℕ) (of : Names) (above : List ℕ) (m : Mem) (xs : List ℕ) (y : ℕ) (t : Tree) (env : Env) (e : Words) (u : Use) → Placed labels p → EmitContext labels k (WritePoint of above m xs y t)
    → AllWords labels p k (WritePoint of above m xs y t) of m xs → WaitsAt labels p k (WritePoint of above m xs y t) u → k < u.point → e (word_register p u) ≡ env u.value → one_by_one (words p k 1 (length xs)) e (word_register p u) ≡ env u.value
early_below labels p k of above m xs y t env e u h s w v b g =
    let q = WritePoint of above m xs y t in
    let it : Access = record { point = k; mem = m; words = length xs } in
    let r = word_register p u in
    let c = waits_from labels p k q u v.there v.early (within-left q.above (point_values k q) u.value v.defined) b (leb-true u.point (k + q.below) v.below) in
    let free : has_place r (run_of (write_place m) (first p k) (length xs)) ≡ false =
    All-head (λ (a : Access). has_place r (run_of (write_place a.mem) (first p k) a.words) ≡ false) it [] ((h.fits.points k q s.at).waiting.written u c) in
    words_spare p k 1 (length xs) r e (unlisted labels p k q of m xs r w free) (written_no_l r (named (pass p k).l) (early_register labels p v.there.0 u h v.there.1 v.early)) ∙ g

-- one that is written here is in its register
early_here : (labels : List Label) (p : Plan) (k : ℕ) (of : Names) (above : List ℕ) (m : Mem) (xs : List ℕ) (y : ℕ) (t : Tree) (env : Env) (e : Words) (u : Use) → Placed labels p → EmitContext labels k (WritePoint of above m xs y t)
    → WaitsAt labels p k (WritePoint of above m xs y t) u → u.point ≡ k → ((i x : ℕ) → slice_get xs i ≡ Some x → e (write_place m (first p k + i)) ≡ env (of x)) → e (word_register p u) ≡ env u.value
early_here labels p k of above m xs y t env e u h s v b g =
    let q = WritePoint of above m xs y t in
    let a = use_at labels v.there.0 u v.there.1 in
    let same : a.point_ ≡ q = same_Some a.point_ q (sym a.at ∙ (ap (slice_get (points labels)) b ∙ s.at)) in
    let operand : slice_get (of y ∷ map of xs) u.operand ≡ Some u.value = subst (λ (r : Point). slice_get r.uses u.operand ≡ Some u.value) same a.operand in
    let role_ : slice_get (Address ∷ roles (Written m) 0 xs) u.operand ≡ Some u.role = subst (λ (r : Point). slice_get (place_roles r.place) u.operand ≡ Some u.role) same a.role_ in
    let register : is_write_register (role_register p k u.role) ≡ true = subst (λ n. is_write_register (role_register p n u.role) ≡ true) b (early_register labels p v.there.0 u h v.there.1 v.early) in
    let d = word_use p k of m y xs u.operand u.value u.role operand role_ register in
    ap (λ n. e (role_register p n u.role)) b ∙ (ap (λ r. e (role_register p k r)) d.role ∙ (g d.number d.name d.there ∙ ap env (sym d.value)))

early_kept : (labels : List Label) (p : Plan) (k : ℕ) (of : Names) (above : List ℕ) (m : Mem) (xs : List ℕ) (y : ℕ) (t : Tree) (env : Env) (e : Words) → Placed labels p → EmitContext labels k (WritePoint of above m xs y t)
    → AllWords labels p k (WritePoint of above m xs y t) of m xs → Ready labels p k (WritePoint of above m xs y t) env e
    → ((i x : ℕ) → slice_get xs i ≡ Some x → one_by_one (words p k 1 (length xs)) e (write_place m (first p k + i)) ≡ env (of x))
    → (u : Use) → WaitsAt labels p k (WritePoint of above m xs y t) u → one_by_one (words p k 1 (length xs)) e (word_register p u) ≡ env u.value
early_kept labels p k of above m xs y t env e h s w d g u v =
    ⊎_elim
    (λ (b : k < u.point). early_below labels p k of above m xs y t env e u h s w v b (d.early u v))
    (λ (b : u.point ≡ k). early_here labels p k of above m xs y t env (one_by_one (words p k 1 (length xs)) e) u h s v b g)
    (from_there k u.point (leb-true k u.point v.emit_context))

-- ---- the whole

address_unwritten : (t : Place) → IsAddress t → is_write_register t ≡ true → ⊥
address_unwritten (A k) a w = false≢true w
address_unwritten (B k) a w = false≢true w
address_unwritten (L k) a w = false≢true w
address_unwritten (LD k) a w = false≢true w
address_unwritten (S k) a w = a
address_unwritten (SD k) a w = a
address_unwritten (Slot k) a w = false≢true w

address_no_l : (t : Place) (n : ℕ) → IsAddress t → t ≡ L n → ⊥
address_no_l t n a e = subst IsAddress e a

unaddressed : (labels : List Label) (p : Plan) (k : ℕ) (q : Point) (of : Names) (m : Mem) (xs : List ℕ) (t : Place) → AllWords labels p k q of m xs → IsAddress t → (i : ℕ) → 1 ≤ i → i < 1 + length xs → t ≡ (serve p k i).at → ⊥
unaddressed labels p k q of m xs t w d zero a b e = absurd (omega arith)
unaddressed labels p k q of m xs t w d (suc i) a b e =
    let less : i < length xs = omega arith in
    let x = some-there xs i less in
    address_unwritten t d (ap is_write_register e ∙ word_written labels p k q m (of x.0) i (w i x.0 x.1))

word_here : (labels : List Label) (p : Plan) (k : ℕ) (of : Names) (m : Mem) (xs : List ℕ) (i x : ℕ) → AllByRecursion (IsEmitContext labels p k) (uses_at k 1 (map of xs) (roles (Written m) 0 xs)) → slice_get xs i ≡ Some x
    → IsEmitContext labels p k (record { point = k; operand = suc i; value = of x; role = Written m i })
word_here labels p k of m xs i x u g =
    let z : 1 + i ≡ suc i = omega arith in
    let y : 0 + i ≡ i = omega arith in
    subst (λ n. IsEmitContext labels p k (record { point = k; operand = n; value = of x; role = Written m i })) z
    (subst (λ n. IsEmitContext labels p k (record { point = k; operand = 1 + i; value = of x; role = Written m n })) y (role_at (IsEmitContext labels p k) k of (Written m) 1 0 xs i x u g))

-- before the first word, the early ones are in their registers
part_none : (labels : List Label) (p : Plan) (k : ℕ) (q : Point) (of : Names) (m : Mem) (xs : List ℕ) (env : Env) (e : Words) → AllWords labels p k q of m xs → Ready labels p k q env e → Part labels p k q of m xs env 0 e
part_none labels p k q of m xs env e w d = record {
  held = d.held;
  there = λ i x g c.
      ⊎_elim (λ (a : i < 0). absurd (omega arith))
      (λ (a : (serve p k (suc i)).from ≡ (serve p k (suc i)).at). d.early (record { point = k; operand = suc i; value = of x; role = Written m i }) ((w i x g).waits a)) c;
}

pub written : (labels : List Label) (p : Plan) → Placed labels p → (k : ℕ) (of : Names) (above : List ℕ) (m : Mem) (xs : List ℕ) (y : ℕ) (t : Tree) (env : Env) (e : Words) → PointsAt labels k of above (Do (Write m y xs) t)
    → let q = root_point of above (Do (Write m y xs) t) in Ready labels p k q env e
    → HoldsAfterMoves p.slots (operands p k 1 ++ words p k 1 (length xs)) e (λ e'. OperandsReady labels p k q (of y ∷ []) env e'
    × ((i x : ℕ) → slice_get xs i ≡ Some x → e' (write_place m (first p k + i)) ≡ env (of x))) × IsAddress (operand_at p k 0) × (first p k + length xs ≤ 8)
written labels p h k of above m xs y t env e a d =
    let q = root_point of above (Do (Write m y xs) t) in
    let s = here_at labels p k of above (Do (Write m y xs) t) h a in
    let u = uses_here labels p k q h s.at in
    let f = fetch_address labels p k q (of y) h s u.0 (in-itself (of y) (map of xs)) in
    let o = (one_fetched labels p k q (of y) env e h s f.fetch d).0 in
    let e0 = one_by_one (operands p k 1) e in
    let ready0 : Ready labels p k q env e0 = o.1.ready in
    let w : AllWords labels p k q of m xs = λ i x g. word_of labels p k q m (of x) i h s (word_here labels p k of m xs i x u.1 g) (or_right (nat_eq (of x) (of y)) (is_in (of x) (map of xs)) (at_in (of x) (map of xs) i (map_get of xs i x g))) in
    let b : first p k + length xs ≤ 8 = first_bound m (length xs) (first p k) (access_at labels p k q h s.at).0 in
    let n : 0 + length xs ≡ length xs = omega arith in
    let start : Part labels p k q of m xs env 0 e0 = part_none labels p k q of m xs env e0 w ready0 in
    let end_ = part_all labels p k q of m xs env 0 (length xs) e0 h s w n start in
    let e1 = one_by_one (words p k 1 (length xs)) e0 in
    let there : (i x : ℕ) → slice_get xs i ≡ Some x → e1 (write_place m (first p k + i)) ≡ env (of x) = λ i x g. end_.there i x g (inl (slice_get_within xs i x g)) in
    let address : e1 (operand_at p k 0) ≡ env (of y) =
    words_spare p k 1 (length xs) (operand_at p k 0) e0 (unaddressed labels p k q of m xs (operand_at p k 0) w f.address) (address_no_l (operand_at p k 0) (named (pass p k).l) f.address) ∙ o.1.values.0 in
    let ready : OperandsReady labels p k q (of y ∷ []) env e1 = record {
      values = (address, tt);
      ready = record { held = end_.held; early = early_kept labels p k of above m xs y t env e0 h s w ready0 there };
    } in (
      (
        All-from_recursion (OneInstr p.slots) (operands p k 1 ++ words p k 1 (length xs))
            (all_both (OneInstr p.slots) (operands p k 1) (words p k 1 (length xs)) (recursion_from_All (OneInstr p.slots) (operands p k 1) o.0) (words_direct labels p k q of m xs 0 (length xs) h s w b n)),
        subst (λ (g : Words). OperandsReady labels p k q (of y ∷ []) env g × ((i x : ℕ) → slice_get xs i ≡ Some x → g (write_place m (first p k + i)) ≡ env (of x)))
            (sym (one_append (operands p k 1) (words p k 1 (length xs)) e)) (ready, there),
      ),
      f.address,
      b,
    )
