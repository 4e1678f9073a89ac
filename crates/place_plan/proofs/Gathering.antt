-- What the points give, gathered one by one.
use Rattle.std.proofs.Common.{◌≡◌, ℕ, suc, ◌+◌, ◌<◌, List, ◌++◌, length, map, get_or, drop, sym, ap, ◌∙◌, append_assoc, arith}
use Rattle.ssu_ir.specs.declared.ssu.Ssu.{Ssu}
use Rattle.ssu_ir.specs.Tree.{Label}
use Rattle.ssu_ir.specs.Points.{PointKind}
use Rattle.ssu_liveness.specs.declared.point_ids.PointId.{PointId}
use Rattle.place_plan.specs.declared.parts.SpillInputs.{SpillInputs}
use Rattle.place_plan.specs.declared.parts.Parts.{Parts}
use Rattle.place_plan.specs.Plan.{home_view}
use Rattle.place_plan.specs.inner.Parts.{gather, number_of, names_of, used_of, homes_at, firsts_at, serves_at, passes_at, Adds, Gathers}
use Rattle.ssu_liveness.specs.inner.PointIds.{kind_of_point}
use Rattle.ssu_liveness.proofs.Numbering.{first-point_id}

-- one point more
pub gather-more : {X : Type 0} (f : ℕ → PointKind → List X) (s : Ssu) (point_ids : List PointId) (k : ℕ) (x : PointId) (old new goal : List X) → k < length point_ids → x ≡ get_or point_ids k x → new ≡ old ++ f k (kind_of_point s x)
    → old ++ gather f k (map (kind_of_point s) (drop k point_ids)) ≡ goal → new ++ gather f (k + 1) (map (kind_of_point s) (drop (k + 1) point_ids)) ≡ goal
gather-more f s point_ids k x old new goal l e n h =
    let rest = map (kind_of_point s) (drop (k + 1) point_ids) in
    let next : k + 1 ≡ suc k = omega arith in
    ap (λ m. m ++ gather f (k + 1) rest) n
    ∙ append_assoc old (f k (kind_of_point s x)) (gather f (k + 1) rest)
    ∙ ap (λ j. old ++ (f k (kind_of_point s x) ++ gather f j rest)) next
    ∙ ap (λ m. old ++ gather f k (map (kind_of_point s) m)) (sym (first-point_id point_ids k x l e))
    ∙ h

pub parts-more : (s : Ssu) (labels : List Label) (given : SpillInputs) (point_ids : List PointId) (k : ℕ) (x : PointId) (old new : Parts) → k < length point_ids → x ≡ get_or point_ids k x → Adds labels given k (kind_of_point s x) old new
    → Gathers labels given k (map (kind_of_point s) (drop k point_ids)) (map (kind_of_point s) point_ids) old → Gathers labels given (k + 1) (map (kind_of_point s) (drop (k + 1) point_ids)) (map (kind_of_point s) point_ids) new
parts-more s labels given point_ids k x old new l e a g =
    let qs = map (kind_of_point s) point_ids in
    let homes = homes_at (number_of given) (used_of given) in
    let serves = serves_at labels (number_of given) (names_of given) in
    let passes = passes_at (used_of given) in record {
      homes = gather-more homes s point_ids k x (map home_view old.homes.items) (map home_view new.homes.items) (gather homes 0 qs) l e a.homes g.homes;
      firsts = gather-more firsts_at s point_ids k x old.firsts.items new.firsts.items (gather firsts_at 0 qs) l e a.firsts g.firsts;
      serves = gather-more serves s point_ids k x old.serves.items new.serves.items (gather serves 0 qs) l e a.serves g.serves;
      passes = gather-more passes s point_ids k x old.passes.items new.passes.items (gather passes 0 qs) l e a.passes g.passes;
    }
