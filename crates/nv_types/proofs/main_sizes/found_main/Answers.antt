use Rattle.std.proofs.Common.{◌∙◌, ap, sym}
use Rattle.nv_ast.specs.Tests.{look_up}
use Rattle.nv_types.proofs.FindingMain.{no_function, no_cost, main_found}
use Rattle.nv_types.proofs.main_sizes.found_main.Goals as goal

pub returns-in_err-main : goal.returns-in_err-main
returns-in_err-main c =
    rw c.from_residual.ensures (no_function c.args.checker.now (ap (λ x. look_up x c.args.checker.now.functions) (sym c.requires) ∙ sym c.get.ensures ∙ c.in_err-main.was))

pub returns-in_err-cost : goal.returns-in_err-cost
returns-in_err-cost c =
    rw c.from_residual-in_err-cost.ensures (no_cost c.args.checker.now (ap (λ x. look_up x c.args.checker.now.costs) (sym c.requires) ∙ sym c.get-2.ensures ∙ c.in_err-cost.was))

pub returns : goal.returns
returns c =
    main_found c.args.checker.now c.in_ok-main.main c.in_ok-cost.cost c.known.result c.min.result c.min-2.result
    (ap (λ x. look_up x c.args.checker.now.functions) (sym c.requires) ∙ sym c.get.ensures ∙ c.in_ok-main.was)
    (ap (λ x. look_up x c.args.checker.now.costs) (sym c.requires) ∙ sym c.get-2.ensures ∙ c.in_ok-cost.was)
    c.known.ensures.of_parts c.min.ensures c.min-2.ensures
