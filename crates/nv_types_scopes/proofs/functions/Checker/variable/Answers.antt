use Rattle.std.proofs.Common.{◌∷◌, [], ◌∙◌, ap, sym, refl, false}
use Rattle.nv_types_table.specs.inner.Named.{plain_names}
use Rattle.nv_types_table.proofs.Found.{plain-append}
use Rattle.nv_types_scopes.proofs.Holding.{Keeps-written}
use Rattle.nv_types_scopes.proofs.WalkNamed.{variable_checks, variable_unknown}
use Rattle.nv_types_scopes.proofs.WalkErrors.{memory_wanted}
use Rattle.nv_types_scopes.proofs.functions.Checker.variable.Goals as goal

pub returns-in_err-push : goal.returns-in_err-push
returns-in_err-push c = memory_wanted c.args.self.now _ false c.args.expected _ _ c.from_residual.ensures.1

pub returns-in-Some : goal.returns-in-Some
returns-in-Some c =
    variable_checks c.args.self.now (record c.args.self.now { written = c.push.new.self }) c.args.expected c.args.span c.args.name.now c.in-Some.t _ c.plain.result (Keeps-written c.args.self.now c.push.new.self)
    (ap plain_names c.in_ok-push.ensures.items ∙ plain-append c.args.self.now.written.items (_ ∷ [])) (sym c.in-Some.ensures) refl c.plain.ensures.judged c.plain.ensures.same c.plain.ensures.counted

pub returns-in-None : goal.returns-in-None
returns-in-None c = variable_unknown c.args.self.now _ c.args.expected c.args.span c.args.name.now (sym c.in-None.ensures)
