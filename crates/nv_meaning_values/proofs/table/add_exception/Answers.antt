use Rattle.std.proofs.Common.{◌∙◌, ap, sym, map, ◌++◌, ◌∷◌, [], append-nil, length, length-append, arith}
use Rattle.nv_ast.specs.Exceptions.{exceptions}
use Rattle.nv_ast.specs.ProgramView.{decl_tree}
use Rattle.nv_meaning_values.specs.inner.Tables.{exceptions_in}
use Rattle.nv_meaning_values.proofs.NameIndices.{names-push}
use Rattle.nv_meaning_values.proofs.table.add_exception.Goals as goal

pub returns-in_ok-push-in-Exception-clause-names : goal.returns-in_ok-push-in-Exception-clause-names
returns-in_ok-push-in-Exception-clause-names c =
    ap (λ l. map (λ x. x.now) l) c.in_ok-push-in-Exception.ensures.items ∙ names-push c.args.exceptions.now.items _
    ∙ sym (ap (λ d. map (λ x. x.now) c.args.exceptions.now.items ++ exceptions_in (decl_tree d ∷ [])) c.in-Exception.is)

pub returns-in_ok-push-in-Exception-clause-count : goal.returns-in_ok-push-in-Exception-clause-count
returns-in_ok-push-in-Exception-clause-count c =
    let e = ap (λ d. exceptions (d ∷ [])) c.in-Exception.is in
    let l = ap length c.in_ok-push-in-Exception.ensures.items ∙ length-append c.args.exceptions.now.items _ in
    omega arith

pub returns-in-Group-clause-names : goal.returns-in-Group-clause-names
returns-in-Group-clause-names c = sym (ap (λ d. map (λ x. x.now) c.args.exceptions.now.items ++ exceptions_in (decl_tree d ∷ [])) c.in-Group.is ∙ append-nil (map (λ x. x.now) c.args.exceptions.now.items))

pub returns-in-Group-clause-count : goal.returns-in-Group-clause-count
returns-in-Group-clause-count c = let e = ap (λ d. exceptions (d ∷ [])) c.in-Group.is in omega arith

pub returns-in-Layout-clause-names : goal.returns-in-Layout-clause-names
returns-in-Layout-clause-names c = sym (ap (λ d. map (λ x. x.now) c.args.exceptions.now.items ++ exceptions_in (decl_tree d ∷ [])) c.in-Layout.is ∙ append-nil (map (λ x. x.now) c.args.exceptions.now.items))

pub returns-in-Layout-clause-count : goal.returns-in-Layout-clause-count
returns-in-Layout-clause-count c = let e = ap (λ d. exceptions (d ∷ [])) c.in-Layout.is in omega arith
