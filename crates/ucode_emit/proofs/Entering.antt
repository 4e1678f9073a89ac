-- The code of a form assumes no more of the engine than the arguments and the spill base, and of scratch from 512 on it reaches its slots alone.
use Rattle.std.proofs.Common.{◌≡◌, ℕ, suc, ◌+◌, ◌<◌, ◌≤◌, List, Option, Some, None, map, refl, ap, sym, subst, slice_get, arith}
use Rattle.std.proofs.lemmas.List.Elements.{All-get_or}
use Rattle.std.proofs.lemmas.Option.{get_or_from_slice_get, slice_get_within}
use Rattle.nv_base.specs.declared.term.Mem.{Mem}
use Rattle.nv_base.specs.declared.term.Mem.TheVariants.{Sram, Sdram, Scratch}
use Rattle.nv_base.specs.Memories.{source_scratch}
use Rattle.nv_base.proofs.Same.{same_lands}
use Rattle.uc_isa.specs.Agrees.{scratch_access}
use Rattle.uc_isa.specs.Engine.{after}
use Rattle.uc_isa.specs.Pieces.{GoesByBase, IsFromBase, KeepsAt, run_from}
use Rattle.uc_isa.specs.Step.{address}
use Rattle.uc_isa.specs.declared.engine.Engine.{Engine}
use Rattle.uc_isa.specs.declared.instruction.Gpr.{Gpr}
use Rattle.uc_isa.specs.declared.instruction.Gpr.TheVariants as gpr
use Rattle.uc_isa.specs.declared.instruction.Instr.{Instr}
use Rattle.uc_isa.specs.declared.instruction.Instr.TheVariants.{Alu, Un, Immed, Br, Read, Write, Halt}
use Rattle.uc_isa.proofs.Leading.{covered-keeps}
use Rattle.uc_isa.proofs.Steps.{run-grows}
use Rattle.uc_isa.specs.Entry.{AssumesNoMore, KeepsWithin}
use Rattle.ssu_ir.specs.Tree.{Label}
use Rattle.ssu_ir.specs.Meaning.{ssu_meaning, ssu_params}
use Rattle.place_plan.specs.Plan.{Plan}
use Rattle.ucode_emit.specs.Pieces.{Sequences, instr_of, items, starts, parallel_moves}
use Rattle.ucode_emit.specs.Emits.{AreSequences}
use Rattle.ucode_emit.specs.SpillBase.{KeepsBase, KeepsToSlots, SpillsByBase}
use Rattle.ucode_emit.specs.inner.Layers.{Placed, at_start}
use Rattle.ucode_emit.proofs.Layer.{ready_layer}
use Rattle.ucode_emit.proofs.LawfulCode.{items_good}
use Rattle.ucode_emit.proofs.LawfulItems.{spills_by_base}
use Rattle.ucode_emit.proofs.MachineLayers.{machine}
use Rattle.ucode_emit.proofs.RunsResults.{Setting, code_in}
use Rattle.ucode_emit.proofs.RunsWhole.{covered_at, label_first, lands_at, meaning_runs}

-- ---- accesses

-- an access that goes by B15 is one to slots
stretch_within : (slots base : ℕ) (x : Gpr) (off n : ℕ) (e : Engine) → KeepsToSlots slots Scratch n x off → IsFromBase base x off n e → KeepsWithin base slots (Some (address x e + off, n))
stretch_within slots base (gpr.A k) off n e keeps by past = let same : gpr.A k ≡ gpr.B 15 = (by past).0 in absurd cc
stretch_within slots base (gpr.B k) off n e keeps by past =
    let same : gpr.B k ≡ gpr.B 15 = (by past).0 in
    let base_there : address (gpr.B k) e ≡ base = (by past).1 in
    let number : k ≡ 15 = cc in
    let few : off + n ≤ slots = (keeps number).1 in
    (omega (arith, base_there), omega (arith, base_there, few))

instr_within : (slots base : ℕ) (i : Instr) (e : Engine) → KeepsBase slots i → GoesByBase base (Some i) e → KeepsWithin base slots (scratch_access (Some i) e)
instr_within slots base (Read Scratch r n x off) e keeps by = stretch_within slots base x off n e keeps by
instr_within slots base (Read Sram r n x off) e keeps by = tt
instr_within slots base (Read Sdram r n x off) e keeps by = tt
instr_within slots base (Write Scratch r n x off) e keeps by = stretch_within slots base x off n e keeps by
instr_within slots base (Write Sram r n x off) e keeps by = tt
instr_within slots base (Write Sdram r n x off) e keeps by = tt
instr_within slots base (Alu d op x y) e keeps by = tt
instr_within slots base (Un d op x) e keeps by = tt
instr_within slots base (Immed d v k) e keeps by = tt
instr_within slots base (Br cond target) e keeps by = tt
instr_within slots base (Halt k n) e keeps by = tt

next_within : (slots base : ℕ) (o : Option Instr) (e : Engine) → ((i : Instr) → o ≡ Some i → KeepsBase slots i) → GoesByBase base o e → KeepsWithin base slots (scratch_access o e)
next_within slots base (Some i) e keeps by = instr_within slots base i e (keeps i refl) by
next_within slots base None e keeps by = tt

keeps_base : (slots : ℕ) (code : List Instr) (k : ℕ) (i : Instr) → SpillsByBase slots code → slice_get code k ≡ Some i → KeepsBase slots i
keeps_base slots code k i h is = subst (KeepsBase slots) (get_or_from_slice_get code k i i is) (All-get_or (KeepsBase slots) code k i (slice_get_within code k i is) h)

place_within : (slots base : ℕ) (code : List Instr) (e : Engine) → SpillsByBase slots code → KeepsAt code base e → KeepsWithin base slots (scratch_access (slice_get code e.place) e)
place_within slots base code e h keeps = next_within slots base (slice_get code e.place) e (λ i is. keeps_base slots code e.place i h is) keeps.1

-- ---- the whole

setting_assumes : (g : Setting) → SpillsByBase g.plan.slots (code_in g) → AssumesNoMore (ssu_params g.labels) (ssu_meaning g.labels) g.plan.slots (code_in g)
setting_assumes g spills =
    let label = label_first g in
    record {
      same = λ args p base e s is.
          same_lands (ssu_meaning g.labels args p) (λ m. run_from (code_in g) m (at_start e p))
          (λ i. lands_at g base i e p (ssu_meaning g.labels args p i) (meaning_runs g base args p e label.it label.there s is i))
          (run-grows (code_in g) e p);
      keeps = λ args p base e s is m.
          place_within g.plan.slots base (code_in g) (after (code_in g) m e p).engine spills
          (covered-keeps (code_in g) base (at_start e p) m
          (covered_at (code_in g) base m (at_start e p) (ssu_meaning g.labels args p (suc m)) (meaning_runs g base args p e label.it label.there s is (suc m))));
    }

pub code_assumes : (labels : List Label) (p : Plan) (mss : Sequences) → Placed labels p → AreSequences (parallel_moves p labels) mss
    → AssumesNoMore (ssu_params labels) (ssu_meaning labels) p.slots (map (instr_of (starts labels p mss)) (items labels p mss))
code_assumes labels p mss placed sequences =
    let layer = ready_layer labels p placed in
    setting_assumes (record { labels = labels; plan = p; mss = mss; machine = machine; layer = layer; placed = placed; sequences = sequences })
    (spills_by_base p.slots (starts labels p mss) (items labels p mss) placed.fits.slots (items_good labels p mss placed layer sequences))
