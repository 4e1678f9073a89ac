use Rattle.std.proofs.Common.{Bool, subst}
use Rattle.nv_ast.specs.Faults.{at_span}
use Rattle.nv_ast.specs.Tests.{where_true}
use Rattle.nv_types_table.specs.inner.Faulty.{Judges}
use Rattle.nv_types_scopes.proofs.functions.Checker.without_repeats.Goals as goal

pub returns : goal.returns
returns c = λ fs h.
    subst (λ (b : Bool). Judges (at_span c.args.span (where_true b 5)) c.fault_where.result) (c.in_ok-repeats_a_name.ensures.of_forms fs h) c.fault_where.ensures
