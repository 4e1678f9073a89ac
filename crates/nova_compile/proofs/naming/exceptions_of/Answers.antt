use Rattle.std.proofs.Common.{ap, ◌∙◌, map}
use Rattle.nv_ast.specs.ProgramView.{decl_tree}
use Rattle.nova_compile.specs.Naming.{exceptions_in}
use Rattle.nova_compile.proofs.Named.{exceptions-few}
use Rattle.nova_compile.proofs.naming.exceptions_of.Goals as goal

pub returns-clause-exceptions : goal.returns-clause-exceptions
returns-clause-exceptions c = c.in_ok-list.ensures ∙ ap (λ ds. exceptions_in c.args.text.now (map decl_tree ds)) c.deref.ensures.value

pub returns-clause-few : goal.returns-clause-few
returns-clause-few c = exceptions-few c.args.text.now c.args.program.now c.in_ok-list.list.items (c.in_ok-list.ensures ∙ ap (λ ds. exceptions_in c.args.text.now (map decl_tree ds)) c.deref.ensures.value)
