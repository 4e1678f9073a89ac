-- The code of all points, one point after the other.
use Rattle.std.proofs.Common.{◌≡◌, ℕ, List, length, map, sym, ap, ◌∙◌, arith}
use Rattle.std.proofs.lemmas.List.{take_all, length-map}
use Rattle.uc_isa.specs.declared.instruction.Instr.{Instr}
use Rattle.std.specs.Prelude.{slice_index_or}
use Rattle.ssu_ir.specs.Tree.{Label}
use Rattle.ssu_ir.specs.View.{labels_view}
use Rattle.ssu_ir.specs.declared.ssu.Ssu.{Ssu}
use Rattle.place_plan.specs.Plan.{Plan}
use Rattle.ucode_emit.specs.declared.point_ids.EmittedPoint.{EmittedPoint}
use Rattle.ucode_emit.specs.Pieces.{Sequences, starts, parallel_moves}
use Rattle.ucode_emit.specs.Emits.{AreSequences, entries_from}
use Rattle.ucode_emit.specs.inner.DraftItems.{draft}
use Rattle.ucode_emit.specs.inner.Marks.{marks, pieces, joined, begins as piece_begins}
use Rattle.ucode_emit.specs.inner.EmittedPoints.{point_mark}
use Rattle.ucode_emit.specs.inner.Walk.{pieces_below, IsDrafted}
use Rattle.ucode_emit.specs.inner.Drafted.{AreDrafted}
use Rattle.ucode_emit.proofs.Marked.{all_joined, all_begins}

-- ---- after the last point

pub drafted_all : (labels : List Label) (p : Plan) (mss : Sequences) (k : ℕ) (code : List Instr) (places points begins : List ℕ) → AreSequences (parallel_moves p labels) mss → k ≡ length (marks labels)
    → points ≡ entries_from 0 labels → begins ≡ map (λ j. slice_index_or places j 0) points → IsDrafted labels p mss k code places → AreDrafted labels p code places begins
drafted_all labels p mss k code places points begins s e at b h =
    let all : pieces_below labels p mss k ≡ pieces labels p mss 0 (marks labels) = ap (pieces labels p mss 0) (take_all k (marks labels) (omega (arith, e))) in
    let same : places ≡ starts labels p mss = h.places_ ∙ (ap (piece_begins 0) all ∙ all_begins labels p mss) in
    record {
      mss = mss;
      sequences = s;
      code_ = h.code_ ∙ ap (map draft) (ap joined all ∙ all_joined labels p mss);
      places_ = same;
      begins_ = b ∙ (ap (λ ps. map (λ j. slice_index_or ps j 0) points) same ∙ ap (map (λ j. slice_index_or (starts labels p mss) j 0)) at);
    }

-- as many as there are points
pub spots_many : (s : Ssu) (point_ids : List EmittedPoint) → map (point_mark s) point_ids ≡ marks (labels_view s) → length point_ids ≡ length (marks (labels_view s))
spots_many s point_ids e = sym (length-map point_ids (point_mark s)) ∙ ap length e
