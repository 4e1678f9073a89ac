-- The moves that fetch the operands of a point: each comes where the instruction wants it, and what stood ready stands ready.
use Rattle.std.proofs.Common.{◌≡◌, ℕ, ◌<◌, ◌⊎◌, Bool, true, false, not, ◌&&◌, ◌||◌, List, [], ◌∷◌, ◌++◌, Option, Some, None, if◌then◌else◌, refl, sym, ap, ◌∙◌, subst, inl, inr, ⊎_elim, arith}
use Rattle.std.specs.Prelude.{is_some}
use Rattle.std.specs.List.{AllByRecursion, list_any}
use Rattle.std.proofs.lemmas.Bool.{and_parts, and_from, or_left, or_right, not_from_false, false≢true, false_from_ne_true, and_right}
use Rattle.std.proofs.lemmas.List.Elements.{All-from_recursion}
use Rattle.nv_base.specs.Sets.{is_in}
use Rattle.nv_base.specs.Words.{Env}
use Rattle.ssu_ir.specs.Tree.{Label}
use Rattle.ssu_ir.specs.Points.{Point}
use Rattle.place_plan.specs.declared.place.Place.{Place}
use Rattle.place_plan.specs.declared.place.Place.TheVariants.{A, B, L, LD, S, SD, Slot}
use Rattle.place_plan.specs.Places.{same_place}
use Rattle.place_plan.specs.Plan.{Plan, home, serve, pass}
use Rattle.place_plan.specs.Uses.{Operand, Address}
use Rattle.place_plan.specs.Fits.{is_general, is_slot, is_write_register, is_read_register, word_register, is_home, IsOperandAt, IsAddressAt, read_places, has_place, maybe, different_groups}
use Rattle.place_plan.proofs.Places.{same_place-from, same_place-false}
use Rattle.ucode_emit.specs.Moves.{Move, Words, put, one_by_one, temporary}
use Rattle.ucode_emit.proofs.MoveSteps.{put-other}
use Rattle.ucode_emit.specs.Pieces.{named, brought, operands, operand_at}
use Rattle.ucode_emit.specs.inner.Ready.{Ready, lasting}
use Rattle.ucode_emit.specs.inner.Machine.{IsReadable, IsDirect, copied as in_one}
use Rattle.ucode_emit.specs.inner.Layers.{Placed, IsAddress, OperandsReady, HoldsAfterMoves}
use Rattle.ucode_emit.proofs.PointsEach.{all_both}
use Rattle.ucode_emit.proofs.Copies.{put_here, one_append, place_head}
use Rattle.ucode_emit.proofs.DefinitionsHomes.{general_not_written, none_both, early_register, Settled, Lasts, in_place, in_read, IsOwn, lasts_from}
use Rattle.ucode_emit.proofs.DefinitionsDirect.{OneInstr, eighth_named}
use Rattle.ucode_emit.proofs.EntriesMoves.{home_spare}
use Rattle.ucode_emit.proofs.OperandsHomes.{EmitContext, settled_held, CanServe, serves_spare, Source, source_word, source_of, IsEmitContext}

-- ---- registers through which words pass

-- the compiler's own, and the one for slots that are read
abbrev pub Passing : Option ℕ → Place → Type 0
Passing l t = (t ≡ temporary) ⊎ ((r : ℕ) × (l ≡ Some r) × (t ≡ L r))

pub named_some : (l : Option ℕ) → is_some l ≡ true → l ≡ Some (named l)
named_some (Some r) h = refl
named_some None h = absurd (false≢true h)

own_home : (p : Plan) (x : ℕ) (r : Place) → IsOwn p x r → is_write_register r ≡ false → is_home p x r ≡ true
own_home p x r o w =
    let d = (home p x).defined in
    let c = (home p x).copied in
    and_from (not (is_write_register r)) (same_place r d || list_any (same_place r) c) (not_from_false (is_write_register r) w)
    (⊎_elim (λ (e : r ≡ d). or_left (same_place r d) (list_any (same_place r) c) (same_place-from r d e)) (λ (e : has_place r c ≡ true). or_right (same_place r d) (list_any (same_place r) c) e) o)

lasts_spare : (labels : List Label) (p : Plan) (x : ℕ) (t : Place) → Placed labels p → Settled labels p x → Lasts labels p x t → IsOwn p x t → t ≡ temporary → ⊥
lasts_spare labels p x t h d (in_place g m) o e = home_spare labels p x t h d (own_home p x t o (false_from_ne_true (is_write_register t) (λ w. general_not_written t g w))) e
lasts_spare labels p x t h d (in_read g m) o e = false≢true (sym (ap is_read_register e) ∙ g)

lasts_through : (labels : List Label) (p : Plan) (k : ℕ) (q : Point) (x n : ℕ) (t : Place) → Placed labels p → EmitContext labels k q → is_in x q.before ≡ true → Lasts labels p x t → (pass p k).l ≡ Some n → t ≡ L n → ⊥
lasts_through labels p k q x n t h s i (in_place g m) c e = false≢true (sym (ap is_general e) ∙ g)
lasts_through labels p k q x n t h s i (in_read g m) c e =
    none_both (L n) (maybe L (pass p k).l) (read_places labels p x) ((h.fits.points k q s.at).held.read_through x i)
    (ap (λ o. has_place (L n) (maybe L o)) c ∙ place_head (L n) []) (subst (λ z. has_place z (read_places labels p x) ≡ true) e m)

-- where a held value lasts, none passes
pub held_apart : (labels : List Label) (p : Plan) (k : ℕ) (q : Point) (x : ℕ) (t r : Place) → Placed labels p → EmitContext labels k q → is_in x q.before ≡ true → has_place t (lasting labels p x) ≡ true → Passing (pass p k).l r → t ≡ r → ⊥
held_apart labels p k q x t r h s i m a e =
    let d = settled_held labels p k q x h s i in
    let l = lasts_from labels p x t (λ u. d) m in
    ⊎_elim
    (λ (c : r ≡ temporary). lasts_spare labels p x t h d l.0 l.1 (e ∙ c))
    (λ (c : (n : ℕ) × ((pass p k).l ≡ Some n) × (r ≡ L n)). lasts_through labels p k q x c.0 t h s i l.0 c.1 (e ∙ c.2))
    a

pub written_apart : (l : Option ℕ) (t r : Place) → is_write_register t ≡ true → Passing l r → t ≡ r → ⊥
written_apart l t r w a e =
    ⊎_elim (λ (c : r ≡ temporary). false≢true (sym (ap is_write_register (e ∙ c)) ∙ w)) (λ (c : (n : ℕ) × (l ≡ Some n) × (r ≡ L n)). false≢true (sym (ap is_write_register (e ∙ c.2)) ∙ w)) a

ready_put : (labels : List Label) (p : Plan) (k : ℕ) (q : Point) (env : Env) (e : Words) (r : Place) (w : ℕ) → Placed labels p → EmitContext labels k q → Passing (pass p k).l r → Ready labels p k q env e → Ready labels p k q env (put e r w)
ready_put labels p k q env e r w h s a d = record {
  held = λ x i t m. put-other e r t w (held_apart labels p k q x t r h s i m a) ∙ d.held x i t m;
  early = λ u v. put-other e r (word_register p u) w (written_apart (pass p k).l (word_register p u) r (early_register labels p v.there.0 u h v.there.1 v.early) a) ∙ d.early u v;
}

-- moves of single instructions that go where words pass
abbrev pub Goes : ℕ → Option ℕ → Move → Type 0
Goes slots l m = OneInstr slots m × Passing l m.1

pub ready_moves : (labels : List Label) (p : Plan) (k : ℕ) (q : Point) (env : Env) (ms : List Move) (e : Words) → Placed labels p → EmitContext labels k q → AllByRecursion (Goes p.slots (pass p k).l) ms → Ready labels p k q env e
    → Ready labels p k q env (one_by_one ms e)
ready_moves labels p k q env [] e h s a d = d
ready_moves labels p k q env (m ∷ ms) e h s a d = ready_moves labels p k q env ms (put e m.1 (e m.0)) h s a.1 (ready_put labels p k q env e m.1 (e m.0) h s a.0.1 d)

goes_direct : (slots : ℕ) (l : Option ℕ) (ms : List Move) → AllByRecursion (Goes slots l) ms → AllByRecursion (OneInstr slots) ms
goes_direct slots l [] h = tt
goes_direct slots l (m ∷ ms) h = (h.0.0, goes_direct slots l ms h.1)

-- ---- the moves of one operand

abbrev pub temp_moves : Option ℕ → Place → Place → List Move
temp_moves l from at = if same_place at temporary then brought l from at else []

abbrev pub read_moves : Place → Place → List Move
read_moves from at = if is_slot from && is_read_register at then (from, at) ∷ [] else []

temp_none : (l : Option ℕ) (from at : Place) → (at ≡ temporary → ⊥) → temp_moves l from at ≡ []
temp_none l from at n = ap (λ b. if b then brought l from at else []) (same_place-false at temporary n)

temp_goes : (slots : ℕ) (l : Option ℕ) {from at : Place} → IsOperandAt l from at → CanServe slots from → named l < 8 → (is_slot from ≡ true → is_some l ≡ true) → AllByRecursion (Goes slots l) (temp_moves l from at)
temp_goes slots l (IsOperandAt.in_a {k}) c n s = subst (AllByRecursion (Goes slots l)) (sym (temp_none l (A k) (A k) (serves_spare slots (A k) c))) tt
temp_goes slots l (IsOperandAt.in_b {k}) c n s = tt
temp_goes slots l (IsOperandAt.in_l {k}) c n s = tt
temp_goes slots l (IsOperandAt.in_ld {k}) c n s = tt
temp_goes slots l (IsOperandAt.read_slot {k} {r} e) c n s = tt
temp_goes slots l (IsOperandAt.from_slot {k}) c n s =
    let t : 15 < 16 = omega arith in
    ((IsDirect.read_slot c n, inr (named l, named_some l (s refl), refl)), ((in_one n t, inl refl), tt))
temp_goes slots l (IsOperandAt.from_b {k}) c n s =
    let t : 15 < 16 = omega arith in
    ((in_one c t, inl refl), tt)
temp_goes slots l (IsOperandAt.from_l {k}) c n s = let t : 15 < 16 = omega arith in ((in_one c t, inl refl), tt)
temp_goes slots l (IsOperandAt.from_ld {k}) c n s = let t : 15 < 16 = omega arith in ((in_one c t, inl refl), tt)

read_goes : (slots : ℕ) (l : Option ℕ) {from at : Place} → IsOperandAt l from at → CanServe slots from → named l < 8 → AllByRecursion (Goes slots l) (read_moves from at)
read_goes slots l (IsOperandAt.in_a {k}) c n = tt
read_goes slots l (IsOperandAt.in_b {k}) c n = tt
read_goes slots l (IsOperandAt.in_l {k}) c n = tt
read_goes slots l (IsOperandAt.in_ld {k}) c n = tt
read_goes slots l (IsOperandAt.read_slot {k} {r} e) c n =
    let b : r < 8 = subst (λ j. j < 8) (ap named e) n in
    ((IsDirect.read_slot c b, inr (r, e, refl)), tt)
read_goes slots l (IsOperandAt.from_slot {k}) c n = tt
read_goes slots l (IsOperandAt.from_b {k}) c n = tt
read_goes slots l (IsOperandAt.from_l {k}) c n = tt
read_goes slots l (IsOperandAt.from_ld {k}) c n = tt

readable : (slots : ℕ) (l : Option ℕ) {from at : Place} → IsOperandAt l from at → CanServe slots from → named l < 8 → IsReadable at
readable slots l (IsOperandAt.in_a {k}) c n = let b : k < 16 = omega arith in b
readable slots l (IsOperandAt.in_b {k}) c n = c
readable slots l (IsOperandAt.in_l {k}) c n = c
readable slots l (IsOperandAt.in_ld {k}) c n = c
readable slots l (IsOperandAt.read_slot {k} {r} e) c n = subst (λ j. j < 8) (ap named e) n
readable slots l (IsOperandAt.from_slot {k}) c n = let t : 15 < 16 = omega arith in t
readable slots l (IsOperandAt.from_b {k}) c n = let t : 15 < 16 = omega arith in t
readable slots l (IsOperandAt.from_l {k}) c n = let t : 15 < 16 = omega arith in t
readable slots l (IsOperandAt.from_ld {k}) c n = let t : 15 < 16 = omega arith in t

-- the three ways in which an operand comes where it is wanted
data Way (from at : Place) : Type 0 where
  stays_there : at ≡ from → Way from at
  to_own : at ≡ temporary → Way from at
  to_read : is_slot from ≡ true → is_read_register at ≡ true → Way from at

way : (l : Option ℕ) {from at : Place} → IsOperandAt l from at → Way from at
way l (IsOperandAt.in_a {k}) = stays_there refl
way l (IsOperandAt.in_b {k}) = stays_there refl
way l (IsOperandAt.in_l {k}) = stays_there refl
way l (IsOperandAt.in_ld {k}) = stays_there refl
way l (IsOperandAt.read_slot {k} {r} e) = to_read refl refl
way l (IsOperandAt.from_slot {k}) = to_own refl
way l (IsOperandAt.from_b {k}) = to_own refl
way l (IsOperandAt.from_l {k}) = to_own refl
way l (IsOperandAt.from_ld {k}) = to_own refl

temp_brings : (slots : ℕ) (l : Option ℕ) {from at : Place} → IsOperandAt l from at → CanServe slots from → (e : Words) → at ≡ temporary → one_by_one (temp_moves l from at) e temporary ≡ e from
temp_brings slots l (IsOperandAt.in_a {k}) c e t = absurd (serves_spare slots (A k) c t)
temp_brings slots l (IsOperandAt.in_b {k}) c e t = absurd (false≢true (same_place-from (B k) temporary t))
temp_brings slots l (IsOperandAt.in_l {k}) c e t = absurd (false≢true (same_place-from (L k) temporary t))
temp_brings slots l (IsOperandAt.in_ld {k}) c e t = absurd (false≢true (same_place-from (LD k) temporary t))
temp_brings slots l (IsOperandAt.read_slot {k} {r} g) c e t = absurd (false≢true (same_place-from (L r) temporary t))
temp_brings slots l (IsOperandAt.from_slot {k}) c e t =
    let e' = put e (L (named l)) (e (Slot k)) in
    put_here e' temporary (e' (L (named l))) ∙ put_here e (L (named l)) (e (Slot k))
temp_brings slots l (IsOperandAt.from_b {k}) c e t = put_here e temporary (e (B k))
temp_brings slots l (IsOperandAt.from_l {k}) c e t = put_here e temporary (e (L k))
temp_brings slots l (IsOperandAt.from_ld {k}) c e t = put_here e temporary (e (LD k))

temp_spares : (l : Option ℕ) (from at : Place) (e : Words) → (at ≡ temporary → ⊥) → one_by_one (temp_moves l from at) e ≡ e
temp_spares l from at e n = ap (λ ms. one_by_one ms e) (temp_none l from at n)

read_brings : (from at : Place) (e : Words) → is_slot from ≡ true → is_read_register at ≡ true → one_by_one (read_moves from at) e at ≡ e from
read_brings from at e s r =
    let b : (is_slot from && is_read_register at) ≡ true = and_from (is_slot from) (is_read_register at) s r in
    ap (λ c. one_by_one (if c then (from, at) ∷ [] else []) e at) b ∙ put_here e at (e from)

read_none : (from at : Place) (e : Words) → is_read_register at ≡ false → one_by_one (read_moves from at) e ≡ e
read_none from at e r = ap (λ c. one_by_one (if c then (from, at) ∷ [] else []) e) (and_right (is_slot from) (is_read_register at) r)

spares_own_if : (b : Bool) (from at : Place) (e : Words) → (b ≡ true → is_read_register at ≡ true) → one_by_one (if b then (from, at) ∷ [] else []) e temporary ≡ e temporary
spares_own_if true from at e r = put-other e at temporary (e from) (λ z. false≢true (ap is_read_register z ∙ r refl))
spares_own_if false from at e r = refl

read_spares_own : (from at : Place) (e : Words) → one_by_one (read_moves from at) e temporary ≡ e temporary
read_spares_own from at e = spares_own_if (is_slot from && is_read_register at) from at e (λ b. (and_parts (is_slot from) (is_read_register at) b).1)

-- ---- a fetched operand

pub record Fetch (labels : List Label) (p : Plan) (k : ℕ) (q : Point) (x j : ℕ) : Type 0 where
  pub source : Source labels p q x (serve p k j).from
  pub at_it : IsOperandAt (pass p k).l (serve p k j).from (serve p k j).at
  pub passes : is_slot (serve p k j).from ≡ true → is_some (pass p k).l ≡ true

pub fetch_operand : (labels : List Label) (p : Plan) (k : ℕ) (q : Point) (x j : ℕ) → Placed labels p → EmitContext labels k q → IsEmitContext labels p k (record { point = k; operand = j; value = x; role = Operand }) → is_in x q.uses ≡ true → Fetch labels p k q x j
fetch_operand labels p k q x j h s u i = record {
  source = source_of labels p k q (record { point = k; operand = j; value = x; role = Operand }) h s u.0.1 i u.0.0.0;
  at_it = u.0.0.1;
  passes = u.1;
}

address_at : (l : Option ℕ) {from at : Place} → IsAddressAt from at → IsOperandAt l from at
address_at l (IsAddressAt.in_a {k}) = IsOperandAt.in_a
address_at l (IsAddressAt.in_b {k}) = IsOperandAt.in_b
address_at l (IsAddressAt.from_l {k}) = IsOperandAt.from_l
address_at l (IsAddressAt.from_ld {k}) = IsOperandAt.from_ld
address_at l (IsAddressAt.from_slot {k}) = IsOperandAt.from_slot

address_is : (slots : ℕ) {from at : Place} → IsAddressAt from at → CanServe slots from → IsAddress at
address_is slots (IsAddressAt.in_a {k}) c = let b : k < 16 = omega arith in b
address_is slots (IsAddressAt.in_b {k}) c = c
address_is slots (IsAddressAt.from_l {k}) c = let t : 15 < 16 = omega arith in t
address_is slots (IsAddressAt.from_ld {k}) c = let t : 15 < 16 = omega arith in t
address_is slots (IsAddressAt.from_slot {k}) c = let t : 15 < 16 = omega arith in t

pub record FetchAddress (labels : List Label) (p : Plan) (k : ℕ) (q : Point) (x : ℕ) : Type 0 where
  pub fetch : Fetch labels p k q x 0
  pub address : IsAddress (serve p k 0).at

pub fetch_address : (labels : List Label) (p : Plan) (k : ℕ) (q : Point) (x : ℕ) → Placed labels p → EmitContext labels k q → IsEmitContext labels p k (record { point = k; operand = 0; value = x; role = Address }) → is_in x q.uses ≡ true
    → FetchAddress labels p k q x
fetch_address labels p k q x h s u i =
    let source = source_of labels p k q (record { point = k; operand = 0; value = x; role = Address }) h s u.0.1 i u.0.0.0 in record {
      fetch = record { source = source; at_it = address_at (pass p k).l u.0.0.1; passes = u.1 };
      address = address_is p.slots u.0.0.1 source.serves;
    }

-- ---- one operand

two_lists : (a c : List Move) (e : Words) → one_by_one ((a ++ []) ++ (c ++ [])) e ≡ one_by_one c (one_by_one a e)
two_lists a c e = one_append (a ++ []) (c ++ []) e ∙ (ap (one_by_one (c ++ [])) (one_append a [] e) ∙ one_append c [] (one_by_one a e))

one_word : (slots : ℕ) (l : Option ℕ) {from at : Place} (e : Words) (w : ℕ) → IsOperandAt l from at → CanServe slots from → Way from at → e from ≡ w → one_by_one (temp_moves l from at) e from ≡ w
    → one_by_one (read_moves from at) (one_by_one (temp_moves l from at) e) from ≡ w → one_by_one (read_moves from at) (one_by_one (temp_moves l from at) e) at ≡ w
one_word slots l {from} {at} e w o c (stays_there z) h0 h1 h2 = ap (one_by_one (read_moves from at) (one_by_one (temp_moves l from at) e)) z ∙ h2
one_word slots l {from} {at} e w o c (to_own z) h0 h1 h2 =
    let e1 = one_by_one (temp_moves l from at) e in
    ap (one_by_one (read_moves from at) e1) z ∙ (read_spares_own from at e1 ∙ (temp_brings slots l o c e z ∙ h0))
one_word slots l {from} {at} e w o c (to_read a b) h0 h1 h2 = read_brings from at (one_by_one (temp_moves l from at) e) a b ∙ h1

pub one_fetched : (labels : List Label) (p : Plan) (k : ℕ) (q : Point) (x : ℕ) (env : Env) (e : Words) → Placed labels p → EmitContext labels k q → Fetch labels p k q x 0 → Ready labels p k q env e
    → HoldsAfterMoves p.slots (operands p k 1) e (λ e'. OperandsReady labels p k q (x ∷ []) env e') × IsReadable (operand_at p k 0)
one_fetched labels p k q x env e h s f d =
    let l = (pass p k).l in
    let from = (serve p k 0).from in
    let at = (serve p k 0).at in
    let n = eighth_named l (h.fits.points k q s.at).passes.read in
    let ts = temp_moves l from at in
    let rs = read_moves from at in
    let gt : AllByRecursion (Goes p.slots l) ts = temp_goes p.slots l f.at_it f.source.serves n f.passes in
    let gr : AllByRecursion (Goes p.slots l) rs = read_goes p.slots l f.at_it f.source.serves n in
    let e1 = one_by_one ts e in
    let e2 = one_by_one rs e1 in
    let d1 = ready_moves labels p k q env ts e h s gt d in
    let d2 = ready_moves labels p k q env rs e1 h s gr d1 in
    let word_of = λ (g : Words) (r : Ready labels p k q env g). source_word labels p k q x from env g f.source r in
    let w : e2 at ≡ env x = one_word p.slots l e (env x) f.at_it f.source.serves (way l f.at_it) (word_of e d) (word_of e1 d1) (word_of e2 d2) in
    let all = all_both (Goes p.slots l) (ts ++ []) (rs ++ []) (all_both (Goes p.slots l) ts [] gt tt) (all_both (Goes p.slots l) rs [] gr tt) in
    let ready : OperandsReady labels p k q (x ∷ []) env e2 = record { values = (w, tt); ready = d2 } in (
      (
        All-from_recursion (OneInstr p.slots) (operands p k 1) (goes_direct p.slots l (operands p k 1) all),
        subst (OperandsReady labels p k q (x ∷ []) env) (sym (two_lists ts rs e)) ready,
      ),
      readable p.slots l f.at_it f.source.serves n,
    )

-- ---- two operands

four_lists : (a b c d : List Move) (e : Words) → one_by_one ((a ++ (b ++ [])) ++ (c ++ (d ++ []))) e ≡ one_by_one d (one_by_one c (one_by_one b (one_by_one a e)))
four_lists a b c d e =
    let e1 = one_by_one a e in
    let e2 = one_by_one b e1 in
    one_append (a ++ (b ++ [])) (c ++ (d ++ [])) e
    ∙ (ap (one_by_one (c ++ (d ++ []))) (one_append a (b ++ []) e ∙ one_append b [] e1) ∙ (one_append c (d ++ []) e2 ∙ one_append d [] (one_by_one c e2)))

groups_own : (q r : Place) → different_groups q r ≡ true → q ≡ temporary → r ≡ temporary → ⊥
groups_own q r h a b =
    let d : different_groups temporary temporary ≡ true = subst (λ z. different_groups temporary z ≡ true) b (subst (λ z. different_groups z r ≡ true) a h) in
    false≢true d

groups_read : (q r : Place) → different_groups q r ≡ true → is_read_register q ≡ true → is_read_register r ≡ true → ⊥
groups_read (A i) r h a b = false≢true a
groups_read (B i) r h a b = false≢true a
groups_read (S i) r h a b = false≢true a
groups_read (SD i) r h a b = false≢true a
groups_read (Slot i) r h a b = false≢true a
groups_read (L i) (L j) h a b = false≢true h
groups_read (L i) (LD j) h a b = false≢true h
groups_read (L i) (A j) h a b = false≢true b
groups_read (L i) (B j) h a b = false≢true b
groups_read (L i) (S j) h a b = false≢true b
groups_read (L i) (SD j) h a b = false≢true b
groups_read (L i) (Slot j) h a b = false≢true b
groups_read (LD i) (L j) h a b = false≢true h
groups_read (LD i) (LD j) h a b = false≢true h
groups_read (LD i) (A j) h a b = false≢true b
groups_read (LD i) (B j) h a b = false≢true b
groups_read (LD i) (S j) h a b = false≢true b
groups_read (LD i) (SD j) h a b = false≢true b
groups_read (LD i) (Slot j) h a b = false≢true b

-- the words after each of the four lists
abbrev after_first : Option ℕ → Place → Place → Words → Words
after_first l from at e = one_by_one (temp_moves l from at) e

abbrev after_read : Place → Place → Words → Words
after_read from at e = one_by_one (read_moves from at) e

first_word : (slots : ℕ) (l : Option ℕ) {f0 a0 : Place} (f1 a1 : Place) (e : Words) (w : ℕ) → IsOperandAt l f0 a0 → CanServe slots f0 → different_groups a0 a1 ≡ true → Way f0 a0 → e f0 ≡ w
    → after_first l f1 a1 (after_first l f0 a0 e) f0 ≡ w → after_read f1 a1 (after_read f0 a0 (after_first l f1 a1 (after_first l f0 a0 e))) f0 ≡ w
    → after_read f1 a1 (after_read f0 a0 (after_first l f1 a1 (after_first l f0 a0 e))) a0 ≡ w
first_word slots l {f0} {a0} f1 a1 e w o c n (stays_there z) h0 h2 h4 = ap (after_read f1 a1 (after_read f0 a0 (after_first l f1 a1 (after_first l f0 a0 e)))) z ∙ h4
first_word slots l {f0} {a0} f1 a1 e w o c n (to_own z) h0 h2 h4 =
    let e1 = after_first l f0 a0 e in
    let e2 = after_first l f1 a1 e1 in
    let e3 = after_read f0 a0 e2 in
    ap (after_read f1 a1 e3) z
    ∙ (read_spares_own f1 a1 e3
    ∙ (read_spares_own f0 a0 e2 ∙ (ap (λ (g : Words). g temporary) (temp_spares l f1 a1 e1 (λ y. groups_own a0 a1 n z y)) ∙ (temp_brings slots l o c e z ∙ h0))))
first_word slots l {f0} {a0} f1 a1 e w o c n (to_read a b) h0 h2 h4 =
    let e2 = after_first l f1 a1 (after_first l f0 a0 e) in
    let other : is_read_register a1 ≡ false = false_from_ne_true (is_read_register a1) (λ y. groups_read a0 a1 n b y) in
    ap (λ (g : Words). g a0) (read_none f1 a1 (after_read f0 a0 e2) other) ∙ (read_brings f0 a0 e2 a b ∙ h2)

second_word : (slots : ℕ) (l : Option ℕ) (f0 a0 : Place) {f1 a1 : Place} (e1 : Words) (w : ℕ) → IsOperandAt l f1 a1 → CanServe slots f1 → Way f1 a1 → e1 f1 ≡ w → after_read f0 a0 (after_first l f1 a1 e1) f1 ≡ w
    → after_read f1 a1 (after_read f0 a0 (after_first l f1 a1 e1)) f1 ≡ w → after_read f1 a1 (after_read f0 a0 (after_first l f1 a1 e1)) a1 ≡ w
second_word slots l f0 a0 {f1} {a1} e1 w o c (stays_there z) h1 h3 h4 = ap (after_read f1 a1 (after_read f0 a0 (after_first l f1 a1 e1))) z ∙ h4
second_word slots l f0 a0 {f1} {a1} e1 w o c (to_own z) h1 h3 h4 =
    let e2 = after_first l f1 a1 e1 in
    let e3 = after_read f0 a0 e2 in
    ap (after_read f1 a1 e3) z ∙ (read_spares_own f1 a1 e3 ∙ (read_spares_own f0 a0 e2 ∙ (temp_brings slots l o c e1 z ∙ h1)))
second_word slots l f0 a0 {f1} {a1} e1 w o c (to_read a b) h1 h3 h4 = read_brings f1 a1 (after_read f0 a0 (after_first l f1 a1 e1)) a b ∙ h3

pub two_fetched : (labels : List Label) (p : Plan) (k : ℕ) (q : Point) (x y : ℕ) (env : Env) (e : Words) → Placed labels p → EmitContext labels k q → Fetch labels p k q x 0 → Fetch labels p k q y 1 → different_groups (serve p k 0).at (serve p k 1).at ≡ true
    → Ready labels p k q env e → HoldsAfterMoves p.slots (operands p k 2) e (λ e'. OperandsReady labels p k q (x ∷ y ∷ []) env e') × IsReadable (operand_at p k 0) × IsReadable (operand_at p k 1)
two_fetched labels p k q x y env e h s f g apart d =
    let l = (pass p k).l in
    let f0 = (serve p k 0).from in
    let a0 = (serve p k 0).at in
    let f1 = (serve p k 1).from in
    let a1 = (serve p k 1).at in
    let n = eighth_named l (h.fits.points k q s.at).passes.read in
    let t0 = temp_moves l f0 a0 in
    let t1 = temp_moves l f1 a1 in
    let r0 = read_moves f0 a0 in
    let r1 = read_moves f1 a1 in
    let gt0 : AllByRecursion (Goes p.slots l) t0 = temp_goes p.slots l f.at_it f.source.serves n f.passes in
    let gt1 : AllByRecursion (Goes p.slots l) t1 = temp_goes p.slots l g.at_it g.source.serves n g.passes in
    let gr0 : AllByRecursion (Goes p.slots l) r0 = read_goes p.slots l f.at_it f.source.serves n in
    let gr1 : AllByRecursion (Goes p.slots l) r1 = read_goes p.slots l g.at_it g.source.serves n in
    let e1 = one_by_one t0 e in
    let e2 = one_by_one t1 e1 in
    let e3 = one_by_one r0 e2 in
    let e4 = one_by_one r1 e3 in
    let d1 = ready_moves labels p k q env t0 e h s gt0 d in
    let d2 = ready_moves labels p k q env t1 e1 h s gt1 d1 in
    let d3 = ready_moves labels p k q env r0 e2 h s gr0 d2 in
    let d4 = ready_moves labels p k q env r1 e3 h s gr1 d3 in
    let word0 = λ (c : Words) (r : Ready labels p k q env c). source_word labels p k q x f0 env c f.source r in
    let word1 = λ (c : Words) (r : Ready labels p k q env c). source_word labels p k q y f1 env c g.source r in
    let w0 : e4 a0 ≡ env x = first_word p.slots l f1 a1 e (env x) f.at_it f.source.serves apart (way l f.at_it) (word0 e d) (word0 e2 d2) (word0 e4 d4) in
    let w1 : e4 a1 ≡ env y = second_word p.slots l f0 a0 e1 (env y) g.at_it g.source.serves (way l g.at_it) (word1 e1 d1) (word1 e3 d3) (word1 e4 d4) in
    let back = all_both (Goes p.slots l) r0 (r1 ++ []) gr0 (all_both (Goes p.slots l) r1 [] gr1 tt) in
    let all = all_both (Goes p.slots l) (t0 ++ (t1 ++ [])) (r0 ++ (r1 ++ [])) (all_both (Goes p.slots l) t0 (t1 ++ []) gt0 (all_both (Goes p.slots l) t1 [] gt1 tt)) back in
    let ready : OperandsReady labels p k q (x ∷ y ∷ []) env e4 = record { values = (w0, (w1, tt)); ready = d4 } in (
      (
        All-from_recursion (OneInstr p.slots) (operands p k 2) (goes_direct p.slots l (operands p k 2) all),
        subst (OperandsReady labels p k q (x ∷ y ∷ []) env) (sym (four_lists t0 t1 r0 r1 e)) ready,
      ),
      readable p.slots l f.at_it f.source.serves n,
      readable p.slots l g.at_it g.source.serves n,
    )
