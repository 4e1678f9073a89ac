-- Moves from homes to registers, by way of a read register where the home is a slot, and the single moves of parallel ones.
use Rattle.std.proofs.Common.{◌≡◌, ℕ, zero, suc, ◌+◌, ◌<◌, ◌≤◌, true, false, List, [], ◌∷◌, Option, Some, refl, sym, ap, ◌∙◌, subst, inr, ⊎_elim, arith}
use Rattle.std.specs.Prelude.{is_some}
use Rattle.std.specs.List.{AllByRecursion}
use Rattle.std.proofs.lemmas.Bool.{false≢true, cases_Bool}
use Rattle.std.proofs.lemmas.List.Elements.{All-from_recursion}
use Rattle.nv_base.specs.Words.{Env}
use Rattle.ssu_ir.specs.Tree.{Label}
use Rattle.ssu_ir.specs.Points.{Point}
use Rattle.place_plan.specs.declared.place.Place.{Place}
use Rattle.place_plan.specs.declared.place.Place.TheVariants.{A, B, L, LD, S, SD, Slot}
use Rattle.place_plan.specs.Places.{same_place}
use Rattle.place_plan.specs.Plan.{Plan, serve, pass}
use Rattle.place_plan.specs.Fits.{is_slot}
use Rattle.place_plan.proofs.Places.{same_place-true, same_place-from}
use Rattle.ucode_emit.specs.Moves.{Move, Words, put, one_by_one, all_at_once}
use Rattle.ucode_emit.proofs.MoveSteps.{put-other}
use Rattle.ucode_emit.specs.Pieces.{named, bring, single_move, single_moves, served_moves}
use Rattle.ucode_emit.specs.Emits.{IsSequence}
use Rattle.ucode_emit.specs.inner.Ready.{Ready}
use Rattle.ucode_emit.specs.inner.Machine.{IsWritable, IsDirect, AreDirect, copied as in_one}
use Rattle.ucode_emit.specs.inner.Layers.{Placed}
use Rattle.ucode_emit.proofs.PointsEach.{all_both}
use Rattle.ucode_emit.proofs.Copies.{put_here, one_append}
use Rattle.ucode_emit.proofs.DefinitionsDirect.{OneInstr, eighth_named}
use Rattle.ucode_emit.proofs.Entries.{IsMoved, stand_all, put_agree}
use Rattle.ucode_emit.proofs.EntriesMoves.{ServedWell}
use Rattle.ucode_emit.proofs.OperandsHomes.{EmitContext, CanServe, Source, source_word}
use Rattle.ucode_emit.proofs.OperandsFetch.{named_some, held_apart}

-- ---- one word

pub bring_brings : (l : Option ℕ) (from t : Place) (e : Words) → one_by_one (bring l from t) e t ≡ e from
bring_brings l (Slot k) t e =
    let e' = put e (L (named l)) (e (Slot k)) in
    put_here e' t (e' (L (named l))) ∙ put_here e (L (named l)) (e (Slot k))
bring_brings l (A k) t e = put_here e t (e (A k))
bring_brings l (B k) t e = put_here e t (e (B k))
bring_brings l (L k) t e = put_here e t (e (L k))
bring_brings l (LD k) t e = put_here e t (e (LD k))
bring_brings l (S k) t e = put_here e t (e (S k))
bring_brings l (SD k) t e = put_here e t (e (SD k))

pub bring_spares : (l : Option ℕ) (from t q : Place) (e : Words) → (q ≡ t → ⊥) → (is_slot from ≡ true → q ≡ L (named l) → ⊥) → one_by_one (bring l from t) e q ≡ e q
bring_spares l (Slot k) t q e h g =
    let e' = put e (L (named l)) (e (Slot k)) in
    put-other e' t q (e' (L (named l))) h ∙ put-other e (L (named l)) q (e (Slot k)) (g refl)
bring_spares l (A k) t q e h g = put-other e t q (e (A k)) h
bring_spares l (B k) t q e h g = put-other e t q (e (B k)) h
bring_spares l (L k) t q e h g = put-other e t q (e (L k)) h
bring_spares l (LD k) t q e h g = put-other e t q (e (LD k)) h
bring_spares l (S k) t q e h g = put-other e t q (e (S k)) h
bring_spares l (SD k) t q e h g = put-other e t q (e (SD k)) h

-- a place that a word can be moved from, but the register for slots that are read
abbrev pub IsSource : ℕ → Option ℕ → Place → Type 0
IsSource slots l (A k) = k < 16
IsSource slots l (B k) = k < 15
IsSource slots l (L k) = (k < 8) × (l ≡ Some k → ⊥)
IsSource slots l (LD k) = k < 8
IsSource slots l (S k) = ⊥
IsSource slots l (SD k) = ⊥
IsSource slots l (Slot k) = (k < slots) × (is_some l ≡ true)

serves_source : (slots : ℕ) (l : Option ℕ) (from : Place) → CanServe slots from → ((n : ℕ) → l ≡ Some n → from ≡ L n → ⊥) → (is_slot from ≡ true → is_some l ≡ true) → IsSource slots l from
serves_source slots l (A k) c n s = omega arith
serves_source slots l (B k) c n s = c
serves_source slots l (L k) c n s = (c, λ e. n k e refl)
serves_source slots l (LD k) c n s = c
serves_source slots l (S k) c n s = absurd c
serves_source slots l (SD k) c n s = absurd c
serves_source slots l (Slot k) c n s = (c, s refl)

-- a home of a held value
pub source_is : (labels : List Label) (p : Plan) (k : ℕ) (q : Point) (x : ℕ) (from : Place) → Placed labels p → EmitContext labels k q → Source labels p q x from → (is_slot from ≡ true → is_some (pass p k).l ≡ true) → IsSource p.slots (pass p k).l from
source_is labels p k q x from h s c f = serves_source p.slots (pass p k).l from c.serves (λ n e g. held_apart labels p k q x from (L n) h s c.held c.lasts (inr (n, e, refl)) g) f

source_no_s : (slots : ℕ) (l : Option ℕ) (from : Place) → IsSource slots l from → from ≡ S 0 → ⊥
source_no_s slots l from c e = subst (IsSource slots l) e c

source_no_l : (slots : ℕ) (l : Option ℕ) (from : Place) → IsSource slots l from → (n : ℕ) → l ≡ Some n → from ≡ L n → ⊥
source_no_l slots l from c n g e = let d : IsSource slots l (L n) = subst (IsSource slots l) e c in d.1 g

pub source_some : (slots : ℕ) (l : Option ℕ) (from : Place) → IsSource slots l from → is_slot from ≡ true → l ≡ Some (named l)
source_some slots l (A k) c e = absurd (false≢true e)
source_some slots l (B k) c e = absurd (false≢true e)
source_some slots l (L k) c e = absurd (false≢true e)
source_some slots l (LD k) c e = absurd (false≢true e)
source_some slots l (S k) c e = absurd c
source_some slots l (SD k) c e = absurd c
source_some slots l (Slot k) c e = named_some l c.1

pub bring_direct : (slots : ℕ) (l : Option ℕ) (from t : Place) → IsSource slots l from → IsWritable t → named l < 8 → AllByRecursion (OneInstr slots) (bring l from t)
bring_direct slots l (A k) t c w n = (in_one c w, tt)
bring_direct slots l (B k) t c w n = (in_one c w, tt)
bring_direct slots l (L k) t c w n = (in_one c.0 w, tt)
bring_direct slots l (LD k) t c w n = (in_one c w, tt)
bring_direct slots l (S k) t c w n = absurd c
bring_direct slots l (SD k) t c w n = absurd c
bring_direct slots l (Slot k) t c w n = (IsDirect.read_slot c.0 n, (in_one n w, tt))

-- ---- single moves

-- alike but in the first write register, and in the register for slots that are read
abbrev pub Alike : Option ℕ → Words → Words → Type 0
Alike l e e' = (q : Place) → (q ≡ S 0 → ⊥) → ((n : ℕ) → l ≡ Some n → q ≡ L n → ⊥) → e q ≡ e' q

source_alike : (slots : ℕ) (l : Option ℕ) (from : Place) (e e' : Words) → IsSource slots l from → Alike l e e' → e from ≡ e' from
source_alike slots l from e e' c a = a from (source_no_s slots l from c) (source_no_l slots l from c)

bring_alike : (slots : ℕ) (l : Option ℕ) (from t : Place) (e e' : Words) → IsSource slots l from → Alike l e e' → (q : Place) → (q ≡ S 0 → ⊥) → ((n : ℕ) → l ≡ Some n → q ≡ L n → ⊥) → one_by_one (bring l from t) e q ≡ put e' t (e' from) q
bring_alike slots l from t e e' c a q m n =
    ⊎_elim
    (λ (b : same_place q t ≡ true).
    let z : q ≡ t = same_place-true q t b in
    ap (one_by_one (bring l from t) e) z ∙ (bring_brings l from t e ∙ (source_alike slots l from e e' c a ∙ sym (ap (put e' t (e' from)) z ∙ put_here e' t (e' from)))))
    (λ (b : same_place q t ≡ false).
    let z : q ≡ t → ⊥ = λ y. false≢true (sym b ∙ same_place-from q t y) in
    bring_spares l from t q e z (λ s. n (named l) (source_some slots l from c s)) ∙ (a q m n ∙ sym (put-other e' t q (e' from) z)))
    (cases_Bool (same_place q t))

move_alike : (slots : ℕ) (l : Option ℕ) (from at : Place) (e e' : Words) → IsSource slots l from → IsMoved slots at → Alike l e e' → Alike l (one_by_one (single_move l from at) e) (put e' at (e' from))
move_alike slots l from (A j) e e' c t a q m n = bring_alike slots l from (A j) e e' c a q m n
move_alike slots l from (B j) e e' c t a q m n = bring_alike slots l from (B j) e e' c a q m n
move_alike slots l from (Slot j) e e' c t a q m n =
    let e1 = one_by_one (bring l from (S 0)) e in
    ap (λ (f : Words). f q) (one_append (bring l from (S 0)) ((S 0, Slot j) ∷ []) e)
    ∙ put_agree e1 e' (Slot j) q (e1 (S 0)) (e' from) (bring_brings l from (S 0) e ∙ source_alike slots l from e e' c a)
    (bring_spares l from (S 0) q e m (λ s. n (named l) (source_some slots l from c s)) ∙ a q m n)
move_alike slots l from (L j) e e' c t a q m n = absurd t
move_alike slots l from (LD j) e e' c t a q m n = absurd t
move_alike slots l from (S j) e e' c t a q m n = absurd t
move_alike slots l from (SD j) e e' c t a q m n = absurd t

abbrev pub FromSource : ℕ → Option ℕ → Move → Type 0
FromSource slots l m = IsSource slots l m.0 × IsMoved slots m.1

moves_alike : (slots : ℕ) (l : Option ℕ) (ms : List Move) (e e' : Words) → AllByRecursion (FromSource slots l) ms → Alike l e e' → Alike l (one_by_one (single_moves l ms) e) (one_by_one ms e')
moves_alike slots l [] e e' c a q m n = a q m n
moves_alike slots l (s ∷ ms) e e' c a q m n =
    ap (λ (f : Words). f q) (one_append (single_move l s.0 s.1) (single_moves l ms) e)
    ∙ moves_alike slots l ms (one_by_one (single_move l s.0 s.1) e) (put e' s.1 (e' s.0)) c.1 (move_alike slots l s.0 s.1 e e' c.0.0 c.0.1 a) q m n

move_direct : (slots : ℕ) (l : Option ℕ) (from at : Place) → IsSource slots l from → IsMoved slots at → named l < 8 → AllByRecursion (OneInstr slots) (single_move l from at)
move_direct slots l from (A j) c t n = bring_direct slots l from (A j) c t n
move_direct slots l from (B j) c t n = bring_direct slots l from (B j) c t n
move_direct slots l from (Slot j) c t n =
    let z : 0 < 8 = omega arith in
    all_both (OneInstr slots) (bring l from (S 0)) ((S 0, Slot j) ∷ []) (bring_direct slots l from (S 0) c z n) (IsDirect.write_slot z t, tt)
move_direct slots l from (L j) c t n = absurd t
move_direct slots l from (LD j) c t n = absurd t
move_direct slots l from (S j) c t n = absurd t
move_direct slots l from (SD j) c t n = absurd t

moves_direct : (slots : ℕ) (l : Option ℕ) (ms : List Move) → AllByRecursion (FromSource slots l) ms → named l < 8 → AllByRecursion (OneInstr slots) (single_moves l ms)
moves_direct slots l [] c n = tt
moves_direct slots l (m ∷ ms) c n = all_both (OneInstr slots) (single_move l m.0 m.1) (single_moves l ms) (move_direct slots l m.0 m.1 c.0.0 c.0.1 n) (moves_direct slots l ms c.1 n)

-- ---- the operands of a jump or an end

served_from : (p : Plan) (k : ℕ) (l : Option ℕ) (i n : ℕ) → ((j : ℕ) → j < i + n → FromSource p.slots l ((serve p k j).from, (serve p k j).at)) → AllByRecursion (FromSource p.slots l) (served_moves p k i n)
served_from p k l i zero h = tt
served_from p k l i (suc n) h = (h i (omega arith), served_from p k l (suc i) n (λ j b. h j (omega arith)))

-- all at once, each word comes where it is wanted
served_once : (p : Plan) (k count i n : ℕ) (e : Words) (j : ℕ) → ServedWell p k count → i + n ≤ count → j < n → all_at_once (served_moves p k i n) e (serve p k (i + j)).at ≡ e (serve p k (i + j)).from
served_once p k count i zero e j w b a = absurd (omega arith)
served_once p k count i (suc n) e zero w b a =
    let z : i ≡ i + zero = omega arith in
    subst (λ y. all_at_once (served_moves p k i (suc n)) e (serve p k y).at ≡ e (serve p k y).from) z
    (put_here (all_at_once (served_moves p k (suc i) n) e) (serve p k i).at (e (serve p k i).from))
served_once p k count i (suc n) e (suc j) w b a =
    let z : suc i + j ≡ i + suc j = omega arith in
    let under : i < suc i + j = omega arith in
    let within : suc i + j < count = omega arith in
    subst (λ y. all_at_once (served_moves p k i (suc n)) e (serve p k y).at ≡ e (serve p k y).from) z
    (put-other (all_at_once (served_moves p k (suc i) n) e) (serve p k i).at (serve p k (suc i + j)).at (e (serve p k i).from) (λ s. w.apart i (suc i + j) under within (sym s))
    ∙ served_once p k count (suc i) n e j w (omega arith) (omega arith))

-- the word of a value is sent to a general place
pub record Sent (labels : List Label) (p : Plan) (k : ℕ) (q : Point) (x j : ℕ) : Type 0 where
  pub source : Source labels p q x (serve p k j).from
  pub passes : is_slot (serve p k j).from ≡ true → is_some (pass p k).l ≡ true
  pub moved : IsMoved p.slots (serve p k j).at

pub record Arrives (labels : List Label) (p : Plan) (k : ℕ) (q : Point) (count : ℕ) (ms : List Move) (env : Env) (e : Words) : Type 0 where
  pub direct : AreDirect p.slots (single_moves (pass p k).l ms)
  pub word : (j x : ℕ) → j < count → Sent labels p k q x j → one_by_one (single_moves (pass p k).l ms) e (serve p k j).at ≡ env x

moved_no_s : (slots : ℕ) (r : Place) → IsMoved slots r → r ≡ S 0 → ⊥
moved_no_s slots r m e = subst (IsMoved slots) e m

moved_no_l : (slots : ℕ) (r : Place) (n : ℕ) → IsMoved slots r → r ≡ L n → ⊥
moved_no_l slots r n m e = subst (IsMoved slots) e m

pub all_sent : (labels : List Label) (p : Plan) (k : ℕ) (q : Point) (count : ℕ) (ms : List Move) (env : Env) (e : Words) → Placed labels p → EmitContext labels k q → ServedWell p k count → ((j : ℕ) → j < count → (x : ℕ) × Sent labels p k q x j)
    → IsSequence (served_moves p k 0 count) ms → Ready labels p k q env e → Arrives labels p k q count ms env e
all_sent labels p k q count ms env e h s w f sq d =
    let l = (pass p k).l in
    let n = eighth_named l (h.fits.points k q s.at).passes.read in
    let t : 15 < 16 = omega arith in
    let sources : AllByRecursion (FromSource p.slots l) (served_moves p k 0 count) =
    served_from p k l 0 count
    (λ j b.
    let a : j < count = omega arith in
    let g = f j a in
    (source_is labels p k q g.0 (serve p k j).from h s g.1.source g.1.passes, g.1.moved)) in
    let low : AllByRecursion (FromSource p.slots l) ms = stand_all (IsSource p.slots l) (IsMoved p.slots) t t sq.kinds sources in record {
      direct = All-from_recursion (OneInstr p.slots) (single_moves l ms) (moves_direct p.slots l ms low n);
      word = λ j x a g.
          let at = (serve p k j).at in
          let z : 0 + j ≡ j = omega arith in
          let once : all_at_once (served_moves p k 0 count) e at ≡ e (serve p k j).from =
          subst (λ y. all_at_once (served_moves p k 0 count) e (serve p k y).at ≡ e (serve p k y).from) z (served_once p k count 0 count e j w (omega arith) a) in
          moves_alike p.slots l ms e e low (λ r m o. refl) at (moved_no_s p.slots at g.moved) (λ i c. moved_no_l p.slots at i g.moved)
          ∙ (sq.effect e at (w.spares j a).1 ∙ (once ∙ source_word labels p k q x (serve p k j).from env e g.source d));
    }
