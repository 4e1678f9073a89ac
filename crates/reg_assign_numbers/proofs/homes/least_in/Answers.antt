use Rattle.std.proofs.Common.{◌≡◌, ◌≤◌, ℕ, List, map, filter, length, nat_eq, sym, ap, subst, ◌∙◌}
use Rattle.std.specs.Prelude.{All}
use Rattle.std.specs.HashMap.{get}
use Rattle.std.specs.List.{AllZip}
use Rattle.std.proofs.lemmas.List.{length-map}
use Rattle.std.proofs.lemmas.Result.{IfOk-weaker}
use Rattle.nv_base.specs.Sets.{all_different}
use Rattle.ssu_ir.specs.Points.{Point, points}
use Rattle.ssu_liveness.specs.LiveRows.{Kept, IsRowOf, HaveNumbers, items_of}
use Rattle.ssu_liveness.specs.inner.Numbers.{values_among, groups, AreNumbered}
use Rattle.ssu_liveness.specs.inner.PointIds.{kind_of_point}
use Rattle.ssu_liveness.proofs.Covering.{once-at-points, kept-numbers}
use Rattle.reg_assign_reading.specs.ReadOff.{has_home}
use Rattle.reg_assign_reading.specs.inner.Reading.{says, labels_of}
use Rattle.reg_assign_reading.proofs.Numbered.{rows-short}
use Rattle.reg_assign_numbers.proofs.Wished.{home_rows, rows-in, zip-length}
use Rattle.reg_assign_numbers.proofs.homes.least_in.Goals as goal

pub slots_for-requires-clause-once : goal.slots_for-requires-clause-once
slots_for-requires-clause-once c =
    let f = c.args.r.now.bank.now.form in
    ap (λ ps. all_different (values_among ps)) (ap (map (kind_of_point f.ssu.now)) c.deref-2.ensures.value ∙ f.in_order) ∙ once-at-points f.ssu.now c.requires

pub slots_for-requires-clause-count : goal.slots_for-requires-clause-count
slots_for-requires-clause-count c =
    let r = c.args.r.now in
    let f = r.bank.now.form in
    let keep = λ (x : ℕ). has_home (says r) x c.args.h in
    let ps = points (labels_of r) in
    let e : items_of c.deref-3.result.now ≡ home_rows r c.args.h = ap items_of c.deref-3.ensures.value ∙ c.in_ok-kept.ensures ∙ ap (λ rs. map (filter keep) (items_of rs)) c.deref.ensures.value in
    let many : length c.deref-2.result.now ≡ length ps =
    sym (length-map c.deref-2.result.now (kind_of_point f.ssu.now)) ∙ ap length (ap (map (kind_of_point f.ssu.now)) c.deref-2.ensures.value ∙ f.in_order) ∙ length-map ps (λ (p : Point). p.place) in
    sym (length-map c.deref-3.result.now (λ (v : Kept). v.items)) ∙ ap length e ∙ zip-length (IsRowOf keep) (home_rows r c.args.h) ps (rows-in r c.args.h c.requires) ∙ sym many

pub returns : goal.returns
returns c =
    let r = c.args.r.now in
    let f = r.bank.now.form in
    let s = f.ssu.now in
    let keep = λ (x : ℕ). has_home (says r) x c.args.h in
    let ps = points (labels_of r) in
    let rows = items_of c.deref-3.result.now in
    let there = ap (map (kind_of_point s)) c.deref-2.ensures.value ∙ f.in_order in
    let e : rows ≡ home_rows r c.args.h = ap items_of c.deref-3.ensures.value ∙ c.in_ok-kept.ensures ∙ ap (λ rs. map (filter keep) (items_of rs)) c.deref.ensures.value in
    let k : AllZip (IsRowOf keep) rows ps = subst (λ (l : List (List ℕ)). AllZip (IsRowOf keep) l ps) (sym e) (rows-in r c.args.h c.requires) in
    IfOk-weaker c.slots_for.result (λ m. AreNumbered (groups (map (kind_of_point s) c.deref-2.result.now) rows) (get nat_eq m))
    (λ m. (n : ℕ) → All (λ (q : Point). length (filter keep q.before) ≤ n) ps → All (HaveNumbers keep (get nat_eq m) n) ps)
    (λ m a n room. kept-numbers s keep (get nat_eq m) n (map (kind_of_point s) c.deref-2.result.now) rows c.requires there a k (rows-short keep n rows ps k room)) c.slots_for.ensures
