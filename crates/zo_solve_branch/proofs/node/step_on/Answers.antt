use Rattle.std.proofs.Common.{◌≡◌, ◌∙◌, ◌<◌, ap, sym, subst, slice_get, length, arith}
use Rattle.std.specs.Prelude.{IfSome}
use Rattle.std.proofs.lemmas.Bool.{false≢true}
use Rattle.zo_model.specs.Program.{cost_of, costs_of}
use Rattle.zo_model.specs.declared.program.ZeroOne.{ZeroOne}
use Rattle.zo_cert_tree.specs.Fixing.{ones}
use Rattle.zo_cert_tree.specs.inner.Path.{current}
use Rattle.zo_cert_tree.specs.Searched.{IsInReach, IsMet}
use Rattle.zo_solve_dive.specs.Sums.{SumsOf}
use Rattle.zo_solve_dive.specs.inner.Better.{CostsAsMuch}
use Rattle.zo_solve_branch.proofs.Close.{clash_closes, clash_node, plain_closes, plain_node}
use Rattle.zo_solve_branch.proofs.Steps.{closed_steps, no_better_met, no_better_open}
use Rattle.zo_solve_branch.proofs.node.step_on.Goals as goal

pub returns-then-is_met-clause-steps : goal.returns-then-is_met-clause-steps
returns-then-is_met-clause-steps g c =
    let spent : c.spent.result ≡ cost_of c.args.z.now (ones (current c.args.path.now.fixings)) = c.spent.ensures.cost ∙ ap (λ cs. costs_of cs (ones (current c.args.path.now.fixings))) c.requires.path in
    let much : CostsAsMuch c.improve.new.self.claim (cost_of c.args.z.now (ones (current c.args.path.now.fixings))) = subst (CostsAsMuch c.improve.new.self.claim) spent c.in_ok-improve.ensures.at_most in
    closed_steps c.args.z.now c.improve.new.self.start _ c.improve.new.self.claim c.met_leaf.result c.args.path.now c.put.new.path c.args.nodes.now.items c.put.new.nodes.items c.args.left c.in_ok-put.ensures c.requires.more
    (plain_closes c.args.z.now c.improve.new.self.claim (current c.args.path.now.fixings) c.met_leaf.result c.met_leaf.ensures much)
    (plain_node c.met_leaf.result c.met_leaf.ensures)
    (no_better_met c.args.z.now c.improve.new.self.claim (current c.args.path.now.fixings) c.met_leaf.result much)

pub returns-in-Some-clause-steps : goal.returns-in-Some-clause-steps
returns-in-Some-clause-steps g c =
    let at : c.follow.new.self.fixed ≡ current c.args.path.now.fixings = ap (λ (s : SumsOf). s.fixed) c.follow.ensures ∙ c.deref.ensures.value ∙ c.fixed.ensures.first in
    let of : c.follow.new.self.program ≡ c.args.z.now = ap (λ (s : SumsOf). s.program) c.follow.ensures ∙ c.requires.program in
    let not_met : IsMet c.args.z.now (current c.args.path.now.fixings) → ⊥ = λ m. false≢true (c.if-is_met.ensures.1 (subst (λ (z : ZeroOne). IsMet z c.follow.new.self.fixed) (sym of) (subst (IsMet c.args.z.now) (sym at) m))) in
    let out : IfSome (slice_get c.args.z.now.rows.items c.in-Some.row) (λ r. IsInReach (current c.args.path.now.fixings) r → ⊥) = subst (λ f. IfSome (slice_get c.args.z.now.rows.items c.in-Some.row) (λ r. IsInReach f r → ⊥)) at (subst (λ (z : ZeroOne). IfSome (slice_get z.rows.items c.in-Some.row) (λ r. IsInReach c.follow.new.self.fixed r → ⊥)) of c.in-Some.ensures.some) in
    let lt : c.in-Some.row < length c.args.z.now.rows.items = subst (λ (z : ZeroOne). c.in-Some.row < length z.rows.items) of c.in-Some.ensures.there in
    closed_steps c.args.z.now c.args.best.now.start _ c.args.best.now.claim c.in_ok-clash_leaf.field-0 c.args.path.now c.put-in-Some.new.path c.args.nodes.now.items c.put-in-Some.new.nodes.items c.args.left c.in_ok-put-2.ensures c.requires.more
    (clash_closes c.args.z.now c.args.best.now.claim (current c.args.path.now.fixings) c.in-Some.row c.in_ok-clash_leaf.field-0 c.requires.valid c.in_ok-clash_leaf.ensures lt out)
    (clash_node c.in-Some.row c.in_ok-clash_leaf.field-0 c.in_ok-clash_leaf.ensures (omega (arith, lt, c.requires.valid.rows_fit)))
    (no_better_open c.args.z.now c.args.best.now.claim (current c.args.path.now.fixings) c.in_ok-clash_leaf.field-0 not_met)
