use Rattle.nv_ast.specs.ProgramView.{fun_tree}
use Rattle.nv_flatten_values.specs.inner.WholeView.{whole_in}
use Rattle.nv_flatten.proofs.Making.{if-ok}
use Rattle.nv_flatten.proofs.Bounding.{bounded-found}
use Rattle.nv_flatten.proofs.program.functions.Goals as goal

pub returns-in-Some-clause-bounded : goal.returns-in-Some-clause-bounded
returns-in-Some-clause-bounded c =
    if-ok c.called_from.result _ _ (λ funs m. λ g e. bounded-found (whole_in c.args.t.now) c.args.main.now (fun_tree c.in-Some.f.now) funs.items c.in-Some.ensures.0 m) c.called_from.ensures.bounded
