use Rattle.std.proofs.Common.{◌≡◌, ◌∙◌, ◌<◌, ap, sym, subst, None, Some, slice_get, length, arith, rules}
use Rattle.std.specs.Prelude.{IfSome}
use Rattle.std.proofs.lemmas.Option.{slice_get_within}
use Rattle.std.proofs.lemmas.Bool.{false≢true}
use Rattle.zo_model.specs.Program.{cost_of, costs_of, columns}
use Rattle.zo_cert_tree.specs.Certificate.{ClosesLeaf}
use Rattle.zo_cert_tree.specs.Fixing.{ones}
use Rattle.zo_cert_tree.specs.inner.Path.{current}
use Rattle.zo_cert_tree.specs.Node.{IsNode}
use Rattle.zo_solve_dive.specs.Pick.{HasFree}
use Rattle.zo_solve_branch.specs.Nodes.{CostsLess}
use Rattle.zo_solve_dive.specs.inner.Better.{CostsAsMuch}
use Rattle.zo_solve_branch.proofs.Close.{open_free, plain_closes, plain_node}
use Rattle.zo_solve_branch.proofs.Steps.{answers_at, branch_steps, closed_steps, costs_less, left_steps, no_better_open}
use Rattle.zo_solve_branch.proofs.node.step_open.Goals as goal

pub returns-then-costs_as_much-clause-steps : goal.returns-then-costs_as_much-clause-steps
returns-then-costs_as_much-clause-steps g c =
    let spent : c.spent.result ≡ cost_of c.args.z.now (ones (current c.args.path.now.fixings)) = c.spent.ensures.cost ∙ ap (λ cs. costs_of cs (ones (current c.args.path.now.fixings))) c.requires.path in
    let much : CostsAsMuch c.args.best.now.claim c.spent.result = search rules in
    closed_steps c.args.z.now c.args.best.now.start _ c.args.best.now.claim c.met_leaf.result c.args.path.now c.put.new.path c.args.nodes.now.items c.put.new.nodes.items c.args.left c.in_ok-put.ensures c.requires.more
    (plain_closes c.args.z.now c.args.best.now.claim (current c.args.path.now.fixings) c.met_leaf.result c.met_leaf.ensures (subst (CostsAsMuch c.args.best.now.claim) spent much))
    (plain_node c.met_leaf.result c.met_leaf.ensures)
    (no_better_open c.args.z.now c.args.best.now.claim (current c.args.path.now.fixings) c.met_leaf.result c.requires.open_.not_met)

pub returns-in-Some-clause-steps : goal.returns-in-Some-clause-steps
returns-in-Some-clause-steps g c =
    closed_steps c.args.z.now c.args.best.now.start _ c.args.best.now.claim c.in-Some.node c.args.path.now c.put-in-Some.new.path c.args.nodes.now.items c.put-in-Some.new.nodes.items c.args.left c.in_ok-put-2.ensures c.requires.more
    (subst (λ o. IfSome o (λ n. ClosesLeaf c.args.z.now c.args.best.now.claim (current c.args.path.now.fixings) n)) c.in-Some.is c.in_ok-node.ensures.closes)
    (subst (λ o. IfSome o IsNode) c.in-Some.is c.in_ok-node.ensures.within)
    (no_better_open c.args.z.now c.args.best.now.claim (current c.args.path.now.fixings) c.in-Some.node c.requires.open_.not_met)

pub returns-then-left-eq0-clause-steps : goal.returns-then-left-eq0-clause-steps
returns-then-left-eq0-clause-steps g c =
    let spent : c.spent.result ≡ cost_of c.args.z.now (ones (current c.args.path.now.fixings)) = c.spent.ensures.cost ∙ ap (λ cs. costs_of cs (ones (current c.args.path.now.fixings))) c.requires.path in
    let less : CostsLess c.args.z.now c.args.best.now.start (current c.args.path.now.fixings) = costs_less c.args.z.now c.args.best.now.start c.args.best.now.claim (current c.args.path.now.fixings) c.requires.best.no_dearer (λ k. false≢true (c.if-costs_as_much.ensures.1 (subst (CostsAsMuch c.args.best.now.claim) (sym spent) k))) in
    left_steps c.args.z.now c.args.best.now.start _ c.args.best.now.claim c.args.path.now c.put-then-left-eq0.new.path c.args.nodes.now.items c.put-then-left-eq0.new.nodes.items c.args.left c.in_ok-put-3.ensures c.requires.more c.requires.open_ less (omega arith)

pub column-column-requires-clause-free : goal.column-column-requires-clause-free
column-column-requires-clause-free g c =
    let same : length (current c.args.path.now.fixings) ≡ columns c.args.z.now = ap length (sym c.fixed.ensures.first) ∙ c.fixed.ensures.length ∙ ap length c.requires.path in
    subst HasFree (sym c.fixed.ensures.first) (open_free c.args.z.now (current c.args.path.now.fixings) c.requires.valid same c.requires.open_)

pub returns-clause-steps : goal.returns-clause-steps
returns-clause-steps g c =
    let spent : c.spent.result ≡ cost_of c.args.z.now (ones (current c.args.path.now.fixings)) = c.spent.ensures.cost ∙ ap (λ cs. costs_of cs (ones (current c.args.path.now.fixings))) c.requires.path in
    let less : CostsLess c.args.z.now c.args.best.now.start (current c.args.path.now.fixings) = costs_less c.args.z.now c.args.best.now.start c.args.best.now.claim (current c.args.path.now.fixings) c.requires.best.no_dearer (λ k. false≢true (c.if-costs_as_much.ensures.1 (subst (CostsAsMuch c.args.best.now.claim) (sym spent) k))) in
    let free : slice_get (current c.args.path.now.fixings) c.column-column.result ≡ Some None = subst (λ f. slice_get f c.column-column.result ≡ Some None) c.fixed.ensures.first c.column-column.ensures.free in
    let within : c.column-column.result < length c.fixed.result.now.at.items = slice_get_within c.fixed.result.now.at.items c.column-column.result None c.column-column.ensures.free in
    let many : length c.fixed.result.now.at.items ≡ columns c.args.z.now = c.fixed.ensures.length ∙ ap length c.requires.path in
    branch_steps c.args.z.now c.args.best.now.start _ c.args.best.now.claim c.column-column.result c.args.path.now c.put_branch.new.path c.args.nodes.now.items c.put_branch.new.nodes.items c.args.left c.in_ok-put_branch.ensures c.requires.more free c.requires.open_ less
    (answers_at c.args.z.now c.fixed.result.now.at.items (current c.args.path.now.fixings) c.column-column.result c.fixed.ensures.first c.column-column.ensures.answer) (omega (arith, c.requires.valid.columns_fit)) (omega arith)
