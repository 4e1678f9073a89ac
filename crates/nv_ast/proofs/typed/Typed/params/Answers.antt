use Rattle.std.proofs.Common.{◌≤◌, sym, subst}
use Rattle.nv_ast.specs.TypedView.{typed_program}
use Rattle.nv_ast.proofs.MainWords.{main_narrow}
use Rattle.nv_ast.proofs.typed.Typed.params.Goals as goal

pub returns-clause-narrow : goal.returns-clause-narrow
returns-clause-narrow c =
    let t = c.args.self.now in
    subst (λ n. n ≤ 8) (sym t.wide) (main_narrow (typed_program t) t.typed)
