use Rattle.std.proofs.Common.{◌∙◌, ap, sym, Bool, cond, Some, None}
use Rattle.nv_types_scopes.proofs.functions.Checker.if_as_many.Goals as goal

pub returns-then-has_length : goal.returns-then-has_length
returns-then-has_length c = λ ts h. ap (λ (b : Bool). cond b (Some c.args.types) None) (sym c.if-has_length.true ∙ c.has_length.ensures ts h)

pub returns-else-has_length : goal.returns-else-has_length
returns-else-has_length c = λ ts h. ap (λ (b : Bool). cond b (Some c.args.types) None) (sym c.if-has_length.false ∙ c.has_length.ensures ts h)
