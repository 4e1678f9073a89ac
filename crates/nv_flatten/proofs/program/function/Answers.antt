use Rattle.std.proofs.Common.{refl}
use Rattle.nv_ast.specs.ProgramView.{fun_tree}
use Rattle.nv_flatten_values.specs.inner.WholeView.{whole_in}
use Rattle.nv_flatten.proofs.Making.{if-ok, made-found, placed-found}
use Rattle.nv_flatten.proofs.Bounding.{narrow-found, small-found, empty-made}
use Rattle.nv_flatten.proofs.program.function.Goals as goal

pub returns-in-Some-clause-made : goal.returns-in-Some-clause-made
returns-in-Some-clause-made c =
    if-ok c.flat_function.result _ _ (λ fun m. λ g e. made-found (whole_in c.args.t.now) c.args.name.now c.flat_function.new.names (fun_tree c.in-Some.f.now) g fun c.in-Some.ensures.0 m e) c.flat_function.ensures.made

pub returns-in-Some-clause-placed : goal.returns-in-Some-clause-placed
returns-in-Some-clause-placed c =
    if-ok c.flat_function.result _ _ (λ fun same. placed-found (whole_in c.args.t.now) c.args.name.now (fun_tree c.in-Some.f.now) _ fun c.in-Some.ensures.0 c.in-Some.ensures.1 same) c.flat_function.ensures.group

pub returns-in-Some-clause-narrow : goal.returns-in-Some-clause-narrow
returns-in-Some-clause-narrow c =
    if-ok c.flat_function.result _ _ (λ fun m. narrow-found (whole_in c.args.t.now) c.args.name.now c.flat_function.new.names (fun_tree c.in-Some.f.now) fun c.in-Some.ensures.0 (m c.args.name.now c.in-Some.ensures.1)) c.flat_function.ensures.narrow

pub returns-in-Some-clause-small : goal.returns-in-Some-clause-small
returns-in-Some-clause-small c =
    if-ok c.flat_function.result _ _ (λ fun m. λ g e. small-found (whole_in c.args.t.now) c.args.name.now c.flat_function.new.names (fun_tree c.in-Some.f.now) g fun c.in-Some.ensures.0 (m c.args.name.now c.in-Some.ensures.1) e) c.flat_function.ensures.small

pub returns-in-None-clause-narrow : goal.returns-in-None-clause-narrow
returns-in-None-clause-narrow c =
    empty-made (whole_in c.args.t.now) c.args.names.now c.args.name.now _ _ c.in-None.ensures (record { group = refl; params = c.new.ensures.items; body = (c.new-in-None.result, refl, c.new-in-None.ensures.items) })
