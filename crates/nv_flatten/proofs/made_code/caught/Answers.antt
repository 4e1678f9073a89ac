use Rattle.std.proofs.Common.{◌∙◌, ◌++◌, [], ap}
use Rattle.nv_ast.specs.PatternView.{list_patterns}
use Rattle.nv_ast.specs.Types.{total_words}
use Rattle.nv_flatten_values.specs.inner.Symbols.{all_bound, numbers_from}
use Rattle.nv_flatten_values.specs.inner.View.{scope_of}
use Rattle.nv_flatten_values.specs.inner.Whole.{raised_or_none}
use Rattle.nv_flatten_values.specs.inner.WholeView.{whole_in}
use Rattle.nv_flatten.proofs.made_code.caught.Goals as goal

pub returns-clause-number : goal.returns-clause-number
returns-clause-number c = c.exception-number.ensures

pub returns-clause-vars : goal.returns-clause-vars
returns-clause-vars c = c.in_ok-values.ensures.made ∙ ap (λ l. l ++ numbers_from c.args.next.now (total_words (raised_or_none (whole_in c.args.t.now) c.exception-number.result))) c.new-vars.ensures.items

pub returns-clause-bound : goal.returns-clause-bound
returns-clause-bound c = c.in_ok-bind_all.ensures.bound ∙ ap (λ ss. all_bound (list_patterns c.args.ps.now) ss (scope_of c.args.scope.now.items [])) c.in_ok-values.ensures.values

pub returns-clause-next : goal.returns-clause-next
returns-clause-next c = c.in_ok-values.ensures.next
