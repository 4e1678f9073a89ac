-- The whole code from the draft of all points.
use Rattle.std.proofs.Common.{◌≡◌, ℕ, ◌<◌, ◌≤◌, ◌^◌, true, List, [], map, length, sym, ap, ◌∙◌, subst}
use Rattle.uc_isa.specs.declared.instruction.Instr.{Instr}
use Rattle.uc_isa.specs.Agrees.{Agrees}
use Rattle.uc_isa.specs.Code.{CodeView}
use Rattle.uc_isa.specs.Lawful.{IsLawful}
use Rattle.uc_isa.specs.Moves.{moves}
use Rattle.uc_isa.specs.Entries.{IsVisited}
use Rattle.uc_isa.specs.Entry.{AssumesNoMore}
use Rattle.uc_isa.specs.Starts.{AreStarts}
use Rattle.ssu_ir.specs.Tree.{Label}
use Rattle.ssu_ir.specs.Entered.{entered}
use Rattle.ssu_ir.specs.Measures.{size, code_bound}
use Rattle.ssu_ir.specs.Meaning.{ssu_meaning, ssu_params}
use Rattle.ssu_ir.specs.Single.{single}
use Rattle.place_plan.specs.Weighted.{weighted_cost}
use Rattle.place_plan.specs.Costs.{cost}
use Rattle.place_plan.specs.Fits.{Fits}
use Rattle.place_plan.specs.Plan.{Plan}
use Rattle.ucode_emit.specs.SpillBase.{SpillsByBase}
use Rattle.ucode_emit.specs.Operations.{code_operations, form_operations}
use Rattle.ucode_emit.specs.Pieces.{instr_of, items, starts}
use Rattle.ucode_emit.specs.Emits.{AreEmitted}
use Rattle.ucode_emit.specs.inner.DraftItems.{settled}
use Rattle.ucode_emit.specs.inner.Layers.{Placed}
use Rattle.ucode_emit.specs.inner.Drafted.{AreDrafted}
use Rattle.ucode_emit.proofs.CostWeighted.{code_weighted}
use Rattle.ucode_emit.proofs.CostWhole.{code_light}
use Rattle.ucode_emit.proofs.Agreeing.{code_agrees}
use Rattle.ucode_emit.proofs.Entering.{code_assumes}
use Rattle.ucode_emit.proofs.Layer.{ready_layer}
use Rattle.ucode_emit.proofs.LawfulItems.{spills_by_base}
use Rattle.ucode_emit.proofs.LawfulCode.{items_good, code_some, code_lawful}
use Rattle.ucode_emit.proofs.OperatingCode.{code_does}
use Rattle.ucode_emit.proofs.LawfulLength.{code_few}
use Rattle.ucode_emit.proofs.LengthWhole.{code_bounded}
use Rattle.ucode_emit.proofs.LabelPlaces.{code_starts}
use Rattle.ucode_emit.proofs.Placing.{code_of}
use Rattle.ucode_emit.proofs.RunsVisits.{code_visited}
use Rattle.ucode_emit.proofs.Settling.{settles}

pub placed : {labels : List Label} {p : Plan} → single labels ≡ true → Fits labels p → Placed labels p
placed s f = record { single = s; fits = f }

-- points in branches are given their places
pub emitted : (labels : List Label) (p : Plan) (code list : List Instr) (places begins : List ℕ) → Placed labels p → AreDrafted labels p code places begins → list ≡ map (settled places) code → AreEmitted labels p list begins
emitted labels p code list places begins h d e = record {
  mss = d.mss;
  sequences = d.sequences;
  code_ = e ∙ (ap (λ ps. map (settled ps) code) d.places_ ∙ (ap (map (settled (starts labels p d.mss))) d.code_ ∙ settles p.slots (starts labels p d.mss) (items labels p d.mss) h.fits.slots (items_good labels p d.mss h (ready_layer labels p h) d.sequences)));
  begins_ = d.begins_;
}

pub some_code : (labels : List Label) (p : Plan) (list : List Instr) (begins : List ℕ) → Placed labels p → AreEmitted labels p list begins → 1 ≤ length list
some_code labels p list begins h e = subst (λ l. 1 ≤ length l) (sym e.code_) (code_some labels p e.mss h)

pub few_code : (labels : List Label) (p : Plan) (list : List Instr) (begins : List ℕ) → Placed labels p → AreEmitted labels p list begins → size labels ≤ 2 ^ 26 → length list < 2 ^ 31
few_code labels p list begins h e n = subst (λ l. length l < 2 ^ 31) (sym e.code_) (code_few labels p e.mss h e.sequences n)

pub short_code : (labels : List Label) (p : Plan) (list : List Instr) (begins : List ℕ) → Placed labels p → AreEmitted labels p list begins → length list ≤ code_bound labels
short_code labels p list begins h e = subst (λ l. length l ≤ code_bound labels) (sym e.code_) (code_bounded labels p e.mss h e.sequences)

pub light_code : (labels : List Label) (p : Plan) (list : List Instr) (begins : List ℕ) → Placed labels p → AreEmitted labels p list begins → moves list [] [] ≤ cost labels p
light_code labels p list begins h e = subst (λ l. moves l [] [] ≤ cost labels p) (sym e.code_) (code_light labels p e.mss h e.sequences)

pub lawful_code : (labels : List Label) (p : Plan) (list : List Instr) (begins : List ℕ) → Placed labels p → AreEmitted labels p list begins → IsLawful list
lawful_code labels p list begins h e = subst IsLawful (sym e.code_) (code_lawful labels p e.mss h (ready_layer labels p h) e.sequences)

pub based_code : (labels : List Label) (p : Plan) (list : List Instr) (begins : List ℕ) → Placed labels p → AreEmitted labels p list begins → SpillsByBase p.slots list
based_code labels p list begins h e =
    subst (SpillsByBase p.slots) (sym e.code_) (spills_by_base p.slots (starts labels p e.mss) (items labels p e.mss) h.fits.slots (items_good labels p e.mss h (ready_layer labels p h) e.sequences))

pub doing_code : (labels : List Label) (p : Plan) (list : List Instr) (begins : List ℕ) → Placed labels p → AreEmitted labels p list begins → code_operations list ≡ form_operations labels
doing_code labels p list begins h e =
    subst (λ l. code_operations l ≡ form_operations labels) (sym e.code_) (code_does labels p e.mss (starts labels p e.mss) (items_good labels p e.mss h (ready_layer labels p h) e.sequences))

-- code as its parameters and its instructions
pub agreeing_code : (labels : List Label) (p : Plan) (c : CodeView) (begins : List ℕ) → Placed labels p → AreEmitted labels p c.list begins → c.params ≡ ssu_params labels → Agrees (ssu_params labels) (ssu_meaning labels) c
agreeing_code labels p c begins h e n =
    subst (λ l. Agrees (ssu_params labels) (ssu_meaning labels) (record { params = c.params; list = l })) (sym e.code_)
    (subst (λ m. Agrees (ssu_params labels) (ssu_meaning labels) (record { params = m; list = map (instr_of (starts labels p e.mss)) (items labels p e.mss) })) (sym n) (code_agrees labels p e.mss h e.sequences))

pub assuming_code : (labels : List Label) (p : Plan) (list : List Instr) (begins : List ℕ) → Placed labels p → AreEmitted labels p list begins → AssumesNoMore (ssu_params labels) (ssu_meaning labels) p.slots list
assuming_code labels p list begins h e = subst (AssumesNoMore (ssu_params labels) (ssu_meaning labels) p.slots) (sym e.code_) (code_assumes labels p e.mss h e.sequences)

pub starts_code : (labels : List Label) (p : Plan) (list : List Instr) (begins : List ℕ) → Placed labels p → AreEmitted labels p list begins → AreStarts (length labels) list begins
starts_code labels p list begins h e =
    subst (λ l. AreStarts (length labels) l begins) (sym e.code_)
    (subst (λ s. AreStarts (length labels) (code_of labels p e.mss) s) (sym e.begins_) (code_starts labels p e.mss h (ready_layer labels p h) e.sequences))

pub visited_code : (labels : List Label) (p : Plan) (list : List Instr) (begins : List ℕ) → Placed labels p → AreEmitted labels p list begins → IsVisited (ssu_params labels) (entered labels) list begins
visited_code labels p list begins h e =
    subst (λ l. IsVisited (ssu_params labels) (entered labels) l begins) (sym e.code_)
    (subst (λ s. IsVisited (ssu_params labels) (entered labels) (code_of labels p e.mss) s) (sym e.begins_) (code_visited labels p e.mss h e.sequences))

pub weighted_code : (labels : List Label) (p : Plan) (list : List Instr) (begins : List ℕ) → Placed labels p → AreEmitted labels p list begins → (ws : List ℕ) → moves list begins ws ≤ weighted_cost labels ws p
weighted_code labels p list begins h e ws =
    subst (λ l. moves l begins ws ≤ weighted_cost labels ws p) (sym e.code_)
    (subst (λ s. moves (code_of labels p e.mss) s ws ≤ weighted_cost labels ws p) (sym e.begins_) (code_weighted labels p e.mss ws h e.sequences))
