use Rattle.std.proofs.Common.{◌≡◌, ◌≤◌, [], length, sym, ◌∙◌, subst}
use Rattle.uc_isa.specs.Lawful.{IsLawful}
use Rattle.uc_isa.specs.Moves.{moves}
use Rattle.uc_isa.specs.Entries.{IsVisited}
use Rattle.uc_isa.specs.Entry.{AssumesNoMore}
use Rattle.uc_isa.specs.Starts.{AreStarts}
use Rattle.ssu_ir.specs.Entered.{entered}
use Rattle.ssu_ir.specs.Meaning.{ssu_meaning, ssu_params}
use Rattle.ssu_ir.specs.Measures.{code_bound}
use Rattle.ssu_ir.specs.View.{labels_view}
use Rattle.place_plan.specs.Weighted.{weighted_cost}
use Rattle.place_plan.specs.Costs.{cost}
use Rattle.place_plan.specs.Plan.{plan_view}
use Rattle.ucode_emit.specs.Operations.{code_operations, form_operations}
use Rattle.ucode_emit.specs.SpillBase.{SpillsByBase}
use Rattle.ucode_emit.specs.Emits.{AreEmitted}
use Rattle.ucode_emit.proofs.Whole.{some_code, few_code, short_code, light_code, lawful_code, based_code, doing_code, agreeing_code, assuming_code, starts_code, visited_code, weighted_code, placed}
use Rattle.ucode_emit.proofs.code.emit.Goals as goal

pub new-requires-clause-some : goal.new-requires-clause-some
new-requires-clause-some c = some_code (labels_view c.args.s.now) (plan_view c.args.p.now) c.in_ok-list.list.items c.in_ok-list.starts.items (placed c.requires.single c.requires.fits) c.in_ok-list.ensures

pub new-requires-clause-few : goal.new-requires-clause-few
new-requires-clause-few c = few_code (labels_view c.args.s.now) (plan_view c.args.p.now) c.in_ok-list.list.items c.in_ok-list.starts.items (placed c.requires.single c.requires.fits) c.in_ok-list.ensures c.requires.few

pub returns-clause-lawful : goal.returns-clause-lawful
returns-clause-lawful c =
    subst IsLawful (sym c.new.ensures.list) (lawful_code (labels_view c.args.s.now) (plan_view c.args.p.now) c.in_ok-list.list.items c.in_ok-list.starts.items (placed c.requires.single c.requires.fits) c.in_ok-list.ensures)

pub returns-clause-spills : goal.returns-clause-spills
returns-clause-spills c =
    let p = plan_view c.args.p.now in
    subst (SpillsByBase p.slots) (sym c.new.ensures.list) (based_code (labels_view c.args.s.now) p c.in_ok-list.list.items c.in_ok-list.starts.items (placed c.requires.single c.requires.fits) c.in_ok-list.ensures)

pub returns-clause-emitted : goal.returns-clause-emitted
returns-clause-emitted c =
    subst (λ l. AreEmitted (labels_view c.args.s.now) (plan_view c.args.p.now) l c.in_ok-list.starts.items) (sym c.new.ensures.list) c.in_ok-list.ensures

pub returns-clause-operations : goal.returns-clause-operations
returns-clause-operations c =
    let labels = labels_view c.args.s.now in
    subst (λ l. code_operations l ≡ form_operations labels) (sym c.new.ensures.list) (doing_code labels (plan_view c.args.p.now) c.in_ok-list.list.items c.in_ok-list.starts.items (placed c.requires.single c.requires.fits) c.in_ok-list.ensures)

pub returns-clause-agrees : goal.returns-clause-agrees
returns-clause-agrees c =
    agreeing_code (labels_view c.args.s.now) (plan_view c.args.p.now) c.new.result c.in_ok-list.starts.items (placed c.requires.single c.requires.fits) (subst (λ l. AreEmitted (labels_view c.args.s.now) (plan_view c.args.p.now) l c.in_ok-list.starts.items) (sym c.new.ensures.list) c.in_ok-list.ensures) (c.new.ensures.params ∙ c.params_of.ensures.params)

pub returns-clause-assumes : goal.returns-clause-assumes
returns-clause-assumes c =
    let labels = labels_view c.args.s.now in
    let p = plan_view c.args.p.now in
    subst (AssumesNoMore (ssu_params labels) (ssu_meaning labels) p.slots) (sym c.new.ensures.list) (assuming_code labels p c.in_ok-list.list.items c.in_ok-list.starts.items (placed c.requires.single c.requires.fits) c.in_ok-list.ensures)

pub returns-clause-short : goal.returns-clause-short
returns-clause-short c =
    subst (λ l. length l ≤ code_bound (labels_view c.args.s.now)) (sym c.new.ensures.list) (short_code (labels_view c.args.s.now) (plan_view c.args.p.now) c.in_ok-list.list.items c.in_ok-list.starts.items (placed c.requires.single c.requires.fits) c.in_ok-list.ensures)

pub returns-clause-light : goal.returns-clause-light
returns-clause-light c =
    let labels = labels_view c.args.s.now in
    let p = plan_view c.args.p.now in
    subst (λ l. moves l [] [] ≤ cost labels p) (sym c.new.ensures.list) (light_code labels p c.in_ok-list.list.items c.in_ok-list.starts.items (placed c.requires.single c.requires.fits) c.in_ok-list.ensures)

pub returns-clause-starts : goal.returns-clause-starts
returns-clause-starts c =
    let labels = labels_view c.args.s.now in
    subst (λ l. AreStarts (length labels) l c.in_ok-list.starts.items) (sym c.new.ensures.list)
    (starts_code labels (plan_view c.args.p.now) c.in_ok-list.list.items c.in_ok-list.starts.items (placed c.requires.single c.requires.fits) c.in_ok-list.ensures)

pub returns-clause-visited : goal.returns-clause-visited
returns-clause-visited c =
    let labels = labels_view c.args.s.now in
    subst (λ l. IsVisited (ssu_params labels) (entered labels) l c.in_ok-list.starts.items) (sym c.new.ensures.list)
    (visited_code labels (plan_view c.args.p.now) c.in_ok-list.list.items c.in_ok-list.starts.items (placed c.requires.single c.requires.fits) c.in_ok-list.ensures)

pub returns-clause-weighted : goal.returns-clause-weighted
returns-clause-weighted c ws =
    let labels = labels_view c.args.s.now in
    let p = plan_view c.args.p.now in
    subst (λ l. moves l c.in_ok-list.starts.items ws ≤ weighted_cost labels ws p) (sym c.new.ensures.list)
    (weighted_code labels p c.in_ok-list.list.items c.in_ok-list.starts.items (placed c.requires.single c.requires.fits) c.in_ok-list.ensures ws)
