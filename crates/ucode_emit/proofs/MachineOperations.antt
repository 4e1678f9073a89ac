-- What operations, branches and ends do to words in places, and where a run begins.
use Rattle.std.proofs.Common.{◌≡◌, ℕ, zero, suc, ◌+◌, ◌*◌, ◌^◌, ◌<◌, ◌≤◌, List, [], ◌∷◌, Bool, true, false, not, length, Some, refl, sym, ap, ◌∙◌, subst, slice_get, arith}
use Rattle.std.proofs.lemmas.Option.{none-some, same_Some}
use Rattle.std.specs.Prelude.{slice_index}
use Rattle.nv_base.specs.declared.term.Una.{Una as Unary}
use Rattle.nv_base.specs.declared.term.Una.TheVariants as una
use Rattle.nv_base.specs.declared.term.Bin.{Bin as Binary}
use Rattle.nv_base.specs.declared.term.Bin.TheVariants.{Sub}
use Rattle.nv_base.specs.declared.term.Cmp.{Cmp}
use Rattle.nv_base.specs.declared.outcome.Outcome.{Outcome}
use Rattle.nv_base.specs.Memories.{Memories}
use Rattle.nv_base.specs.Meanings.{seen, source_memories, source_writes}
use Rattle.nv_base.specs.Words.{IsWord, HasCount, una_word, bin_word, compares, shifted_left}
use Rattle.nv_base.specs.World.{World, begun, over, ended}
use Rattle.nv_base.proofs.WordLemmas.{word-fits, una-fits, bin-fits}
use Rattle.uc_isa.specs.declared.instruction.Instr.{Instr}
use Rattle.uc_isa.specs.declared.instruction.Instr.TheVariants as instr
use Rattle.uc_isa.specs.declared.instruction.Dst.TheVariants as dst
use Rattle.uc_isa.specs.declared.instruction.Cond.TheVariants.{Always}
use Rattle.uc_isa.specs.declared.engine.Engine.{Engine}
use Rattle.uc_isa.specs.Registers.{failing, register}
use Rattle.uc_isa.specs.Registers.Register.{InA}
use Rattle.uc_isa.specs.Engine.{halted, start}
use Rattle.uc_isa.specs.Agrees.{IsStart}
use Rattle.uc_isa.specs.Pieces.{Moment, Leads}
use Rattle.uc_isa.specs.Step.{operand, un_word, bin_carry, with_result, with_flags, onward, holds}
use Rattle.uc_isa.specs.Straight.{Stands as InCode}
use Rattle.uc_isa.specs.Entry.{IsEntry}
use Rattle.uc_isa.proofs.Comparisons.{failing-holds}
use Rattle.uc_isa.proofs.Leading.{leads-then}
use Rattle.uc_isa.proofs.Listing.{stands-right, stands-fetched}
use Rattle.uc_isa.proofs.PieceSteps.{leads-alu, leads-un, leads-immed, leads-taken, leads-passed, ends-halt}
use Rattle.uc_isa.proofs.RegisterLemmas.{halted-run, started-args}
use Rattle.uc_isa.proofs.States.{operand-fits, start-state}
use Rattle.place_plan.specs.declared.place.Place.{Place}
use Rattle.place_plan.specs.declared.place.Place.TheVariants.{A}
use Rattle.ucode_emit.specs.Moves.{Words, put}
use Rattle.ucode_emit.specs.Pieces.{source, target, un_op}
use Rattle.ucode_emit.specs.inner.Ready.{Begun}
use Rattle.ucode_emit.specs.inner.Machine.{IsReadable, IsWritable, word_at, Stands, Led, Over}
use Rattle.ucode_emit.specs.inner.Layers.{at_start}
use Rattle.ucode_emit.proofs.MachineResults.{operand_word, resulted, put_stands, flagged_stands}

-- the instruction at a place
pub instr_here : (code : List Instr) (at place : ℕ) (i : Instr) (is : List Instr) → place ≡ at → InCode code at (i ∷ is) → slice_get code place ≡ Some i
instr_here code at place i is e c = ap (slice_get code) e ∙ stands-fetched code at i is c

-- ---- elements of lists

pub got_some : (ws : List ℕ) (i : ℕ) → i < length ws → slice_get ws i ≡ Some (slice_index ws i)
got_some [] i lt = absurd (omega arith)
got_some (x ∷ ws) zero lt = refl
got_some (x ∷ ws) (suc i) lt = got_some ws i (omega arith)

pub got_index : (ws : List ℕ) (i v : ℕ) → slice_get ws i ≡ Some v → (i < length ws) × (slice_index ws i ≡ v)
got_index [] i v g = absurd (none-some v g)
got_index (x ∷ ws) zero v g = (omega arith, same_Some x v g)
got_index (x ∷ ws) (suc i) v g = let r = got_index ws i v g in (omega (arith, r.0), r.1)

-- ---- operations

pub literal : (code : List Instr) (base at v s : ℕ) (d : Place) (e : Words) (w : World) (m : Moment)
    → IsWritable d → InCode code at (instr.Immed (target d) v s ∷ []) → Stands base at e w m → Led code base 1 m (at + 1) (put e d (shifted_left s v)) w
literal code base at v s d e w m p c h =
    let to : Engine = with_result (target d) (shifted_left s v) m.engine in
    record {
      later = resulted d (shifted_left s v) to.z to.c m;
      leads = leads-immed code base (target d) v s m (instr_here code at m.engine.place (instr.Immed (target d) v s) [] h.place c);
      stands = put_stands base at d (shifted_left s v) to.z to.c e w m p (word-fits (v * 2 ^ s)) h;
    }

un_is : (op : Unary) (x : ℕ) → un_word (un_op op) x ≡ una_word op x
un_is una.Not x = refl
un_is (una.Shl k) x = refl
un_is (una.Shr k) x = refl
un_is (una.Rol k) x = refl

pub unary : (code : List Instr) (base at : ℕ) (op : Unary) (d x : Place) (e : Words) (w : World) (m : Moment)
    → HasCount op → IsWritable d → IsReadable x → InCode code at (instr.Un (target d) (un_op op) (source x) ∷ []) → Stands base at e w m
    → Led code base 1 m (at + 1) (put e d (una_word op (e x))) w
unary code base at op d x e w m count p r c h =
    let o : ℕ = operand (source x) m.engine in
    let v : ℕ = un_word (un_op op) o in
    let fits : IsWord v = subst IsWord (sym (un_is op o)) (una-fits op o count (operand-fits (source x) m.engine h.engine)) in
    let same : v ≡ una_word op (e x) = un_is op o ∙ ap (una_word op) (operand_word base x e m r h.words) in
    let to : Engine = with_flags v false (with_result (target d) v m.engine) in
    record {
      later = resulted d v to.z to.c m;
      leads = leads-un code base (target d) (un_op op) (source x) m (instr_here code at m.engine.place (instr.Un (target d) (un_op op) (source x)) [] h.place c);
      stands = subst (λ u. Stands base (at + 1) (put e d u) w (resulted d v to.z to.c m)) same (put_stands base at d v to.z to.c e w m p fits h);
    }

pub binary : (code : List Instr) (base at : ℕ) (op : Binary) (d x y : Place) (e : Words) (w : World) (m : Moment)
    → IsWritable d → IsReadable x → IsReadable y → InCode code at (instr.Alu (target d) op (source x) (source y) ∷ []) → Stands base at e w m
    → Led code base 1 m (at + 1) (put e d (bin_word op (e x) (e y))) w
binary code base at op d x y e w m p r t c h =
    let a : ℕ = operand (source x) m.engine in
    let b : ℕ = operand (source y) m.engine in
    let v : ℕ = bin_word op a b in
    let fits : IsWord v = bin-fits op a b (operand-fits (source x) m.engine h.engine) (operand-fits (source y) m.engine h.engine) in
    let same : v ≡ bin_word op (e x) (e y) = ap (λ k. bin_word op k b) (operand_word base x e m r h.words) ∙ ap (bin_word op (e x)) (operand_word base y e m t h.words) in
    let to : Engine = with_flags v (bin_carry op a b) (with_result (target d) v m.engine) in
    record {
      later = resulted d v to.z to.c m;
      leads = leads-alu code base (target d) op (source x) (source y) m (instr_here code at m.engine.place (instr.Alu (target d) op (source x) (source y)) [] h.place c);
      stands = subst (λ u. Stands base (at + 1) (put e d u) w (resulted d v to.z to.c m)) same (put_stands base at d v to.z to.c e w m p fits h);
    }

-- ---- branches

pub jump : (code : List Instr) (base at to : ℕ) (e : Words) (w : World) (m : Moment)
    → InCode code at (instr.Br Always to ∷ []) → Stands base at e w m → Led code base 1 m to e w
jump code base at to e w m c h = record {
  later = record m { engine = record m.engine { place = to } };
  leads = leads-taken code base Always to m (instr_here code at m.engine.place (instr.Br Always to) [] h.place c) refl;
  stands = flagged_stands base at to m.engine.z m.engine.c e w m h;
}

-- after the difference
abbrev pub subtracted : Place → Place → Moment → Moment
subtracted x y m =
    let a = operand (source x) m.engine in
    let b = operand (source y) m.engine in
    record m { engine = onward (with_flags (bin_word Sub a b) (bin_carry Sub a b) m.engine) }

compared : (base at : ℕ) (c : Cmp) (x y : Place) (e : Words) (w : World) (m : Moment) (b : Bool) → IsReadable x → IsReadable y → Stands base at e w m
    → compares c (e x) (e y) ≡ b → holds (failing c) (subtracted x y m).engine ≡ not b
compared base at c x y e w m b r t h k =
    let u : ℕ = operand (source x) m.engine in
    let v : ℕ = operand (source y) m.engine in
    failing-holds c u v m.engine (operand-fits (source x) m.engine h.engine) (operand-fits (source y) m.engine h.engine)
    ∙ (ap (λ j. not (compares c j v)) (operand_word base x e m r h.words) ∙ (ap (λ j. not (compares c (e x) j)) (operand_word base y e m t h.words) ∙ ap not k))

pub first_leads : (code : List Instr) (base at to : ℕ) (c : Cmp) (x y : Place) (e : Words) (w : World) (m : Moment)
    → InCode code at (instr.Alu dst.Nowhere Sub (source x) (source y) ∷ instr.Br (failing c) to ∷ []) → Stands base at e w m → Leads code base 1 m (subtracted x y m)
first_leads code base at to c x y e w m k h =
    leads-alu code base dst.Nowhere Sub (source x) (source y) m (instr_here code at m.engine.place (instr.Alu dst.Nowhere Sub (source x) (source y)) (instr.Br (failing c) to ∷ []) h.place k)

second_here : (code : List Instr) (base at to : ℕ) (c : Cmp) (x y : Place) (e : Words) (w : World) (m : Moment)
    → InCode code at (instr.Alu dst.Nowhere Sub (source x) (source y) ∷ instr.Br (failing c) to ∷ []) → Stands base at e w m → slice_get code (m.engine.place + 1) ≡ Some (instr.Br (failing c) to)
second_here code base at to c x y e w m k h =
    instr_here code (at + 1) (m.engine.place + 1) (instr.Br (failing c) to) [] (ap (λ n. n + 1) h.place) (stands-right code at (instr.Alu dst.Nowhere Sub (source x) (source y) ∷ []) (instr.Br (failing c) to ∷ []) k)

pub comparison_holds : (code : List Instr) (base at to : ℕ) (c : Cmp) (x y : Place) (e : Words) (w : World) (m : Moment)
    → IsReadable x → IsReadable y → InCode code at (instr.Alu dst.Nowhere Sub (source x) (source y) ∷ instr.Br (failing c) to ∷ []) → Stands base at e w m
    → compares c (e x) (e y) ≡ true → Led code base 2 m (at + 2) e w
comparison_holds code base at to c x y e w m r t k h is =
    let n : Moment = subtracted x y m in
    let last : Moment = record n { engine = onward n.engine } in
    let there : m.engine.place + 1 + 1 ≡ at + 2 = omega (arith, h.place) in
    record {
      later = last;
      leads = leads-then code base 1 1 m n last (first_leads code base at to c x y e w m k h)
          (leads-passed code base (failing c) to n (second_here code base at to c x y e w m k h) (compared base at c x y e w m true r t h is));
      stands = subst (λ j. Stands base j e w last) there (flagged_stands base at (m.engine.place + 1 + 1) n.engine.z n.engine.c e w m h);
    }

pub comparison_fails : (code : List Instr) (base at to : ℕ) (c : Cmp) (x y : Place) (e : Words) (w : World) (m : Moment)
    → IsReadable x → IsReadable y → InCode code at (instr.Alu dst.Nowhere Sub (source x) (source y) ∷ instr.Br (failing c) to ∷ []) → Stands base at e w m
    → compares c (e x) (e y) ≡ false → Led code base 2 m to e w
comparison_fails code base at to c x y e w m r t k h is =
    let n : Moment = subtracted x y m in
    let last : Moment = record n { engine = record n.engine { place = to } } in
    record {
      later = last;
      leads = leads-then code base 1 1 m n last (first_leads code base at to c x y e w m k h)
          (leads-taken code base (failing c) to n (second_here code base at to c x y e w m k h) (compared base at c x y e w m false r t h is));
      stands = flagged_stands base at to n.engine.z n.engine.c e w m h;
    }

-- ---- ends

pub seen_alike : (a b : Outcome) (base at : ℕ) (e : Words) (w : World) (m : Moment) → a ≡ b → Stands base at e w m → seen (record { outcome = a; packet = m.packet; writes = m.writes }) ≡ seen (over b w)
seen_alike a b base at e w m same h =
    ap (λ o. record { outcome = o; packet = source_memories m.packet; writes = source_writes m.writes }) same
    ∙ (ap (λ p. record { outcome = b; packet = p; writes = source_writes m.writes }) h.packet
    ∙ ap (λ ws. record { outcome = b; packet = source_memories w.packet; writes = ws }) h.writes)

halted_ended : (k : ℕ) (ws : List ℕ) → halted k ws ≡ ended k ws
halted_ended zero ws = refl
halted_ended (suc k) ws = refl

pub halt : (code : List Instr) (base at k : ℕ) (ws : List ℕ) (e : Words) (w : World) (m : Moment)
    → length ws ≤ 8 → InCode code at (instr.Halt k (length ws) ∷ []) → Stands base at e w m
    → ((i v : ℕ) → slice_get ws i ≡ Some v → e (A i) ≡ v) → Over code base 1 m (over (ended k ws) w)
halt code base at k ws e w m le c h each =
    let words : (i : ℕ) → i < length ws → register (InA i) m.engine ≡ slice_index ws i = λ i lt. h.words (A i) (omega (arith, lt, le)) ∙ each i (slice_index ws i) (got_some ws i lt) in
    record {
      last = record { outcome = halted k ws; packet = m.packet; writes = m.writes };
      ends = ends-halt code base k (length ws) ws m (instr_here code at m.engine.place (instr.Halt k (length ws)) [] h.place c) (halted-run ws m.engine h.engine (omega (arith, le)) words);
      alike = seen_alike (halted k ws) (ended k ws) base at e w m (halted_ended k ws) h;
    }

-- ---- where a run begins

pub starts : (params base : ℕ) (args : List ℕ) (p : Memories) (e : Engine) → params ≤ 8 → IsStart params args p base → IsEntry args base e
    → Stands base 0 (word_at base (at_start e p)) (begun p) (at_start e p) × Begun args (word_at base (at_start e p))
starts params base args p e le s is = (
  record {
    place = is.place;
    engine = is.engine;
    memories = s.memories;
    spills = s.spills;
    base_kept = is.spills;
    words = λ q i. refl;
    packet = refl;
    writes = refl;
  },
  λ i v g. let r = got_index args i v g in is.arguments i r.0 ∙ r.1,
)

-- one such engine is that in which all else is zero
pub start_entry : (params base : ℕ) (args : List ℕ) (p : Memories) → params ≤ 8 → IsStart params args p base → IsEntry args base (start args base)
start_entry params base args p le s = record {
  engine = start-state args base (omega (arith, le, s.words.0)) s.words.1 (omega (arith, s.spills.1));
  place = refl;
  arguments = λ i lt. started-args args base i lt;
  spills = refl;
}
