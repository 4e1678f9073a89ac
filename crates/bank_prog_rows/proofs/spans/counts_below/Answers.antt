use Rattle.std.proofs.Common.{◌≡◌, ◌<◌, ◌-◌, ℕ, ◌∙◌, ap, sym, length, map, get_or, arith, rules}
use Rattle.std.proofs.lemmas.List.{ext_get_or, length-set, length-map}
use Rattle.ssu_ir.specs.Points.{Point, points}
use Rattle.ssu_ir.specs.View.{labels_view}
use Rattle.ssu_liveness.specs.inner.PointIds.{kind_of_point}
use Rattle.ssu_liveness.specs.declared.point_ids.PointId.TheVariants.{Entry}
use Rattle.bank_prog_rows.specs.inner.Waiting.{arms, below_at, read_from}
use Rattle.bank_prog_rows.proofs.Below.{counts, from_list, past, below-same, points-sized, got-map, set-done, length-counts}
use Rattle.bank_prog_rows.proofs.spans.counts_below.Goals as goal

pub loop-k-init : goal.loop-k-init
loop-k-init c =
    let ps = points (labels_view c.args.s.now) in
    let many : length c.args.point_ids.now ≡ length ps = sym (length-map c.args.point_ids.now (kind_of_point c.args.s.now)) ∙ ap length c.requires ∙ length-map ps (λ (p : Point). p.place) in
    let long : length c.in_ok-below.below.items ≡ length c.args.point_ids.now = search rules in
    record {
      long = long;
      within = omega arith;
      done = λ j h. past c.in_ok-below.below.items j (omega (arith, h, long)) ∙ sym (past (counts ps) j (omega (arith, h, many, length-counts ps)));
    }

pub loop-k-preserved : goal.loop-k-preserved
loop-k-preserved c =
    let s = c.args.s.now in
    let labels = labels_view s in
    let ps = points labels in
    let i : ℕ = c.loop-k.k - 1 in
    let old = c.loop-k.below.items in
    let many : length c.args.point_ids.now ≡ length ps = sym (length-map c.args.point_ids.now (kind_of_point s)) ∙ ap length c.requires ∙ length-map ps (λ (p : Point). p.place) in
    let p = kind_of_point s (get_or c.args.point_ids.now i (Entry 0)) in
    let there : p ≡ get_or (map (λ (q : Point). q.place) ps) i p = got-map (kind_of_point s) c.args.point_ids.now i (Entry 0) p (omega arith) ∙ ap (λ xs. get_or xs i p) c.requires in
    let later : (j : ℕ) → i < j → get_or old j 0 ≡ get_or (counts ps) j 0 = λ j h. c.loop-k.invariant.done j (omega (arith, h)) in
    let b : c.in_ok-b.b ≡ get_or (counts ps) i 0 =
    c.in_ok-b.ensures ∙ ap (λ n. below_at n (read_from c.deref.result.now) i) c.point_arms.ensures
    ∙ below-same (arms p) (read_from c.deref.result.now) (from_list (counts ps)) i (λ j h. ap (λ xs. get_or xs j 0) c.deref.ensures.value ∙ later j h)
    ∙ sym (points-sized labels i p (omega (arith, many)) there) in
    record {
      long = length-set old i c.in_ok-b.b ∙ c.loop-k.invariant.long;
      within = omega arith;
      done = set-done old (counts ps) i c.in_ok-b.b (omega arith) later b;
    }

pub returns : goal.returns
returns c =
    let s = c.args.s.now in
    let ps = points (labels_view s) in
    let many : length c.args.point_ids.now ≡ length ps = sym (length-map c.args.point_ids.now (kind_of_point s)) ∙ ap length c.requires ∙ length-map ps (λ (p : Point). p.place) in
    ext_get_or 0 c.loop-k.below.items (counts ps) (omega (arith, many, length-counts ps)) (λ i l. c.loop-k.invariant.done i (omega arith))
