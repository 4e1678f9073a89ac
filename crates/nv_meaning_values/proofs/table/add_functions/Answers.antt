use Rattle.std.proofs.Common.{◌≡◌, ◌∙◌, ap, sym, subst, map, ◌++◌, ◌∷◌, [], append-nil, OnOk}
use Rattle.nv_ast.specs.ProgramView.{fun_tree, decl_tree}
use Rattle.nv_meaning_values.specs.inner.Tables.{functions_in}
use Rattle.nv_meaning_values.proofs.table.add_functions.Goals as goal

pub returns-in-Group : goal.returns-in-Group
returns-in-Group c =
    let e = ap (λ d. functions_in (decl_tree d ∷ [])) c.in-Group.is ∙ append-nil (map fun_tree c.in-Group.group.items) ∙ ap (λ l. map fun_tree l) (sym c.deref.ensures.value) in
    subst (λ l. OnOk c.add_group.result (map (λ f. fun_tree f.now) c.add_group.new.functions.items ≡ map (λ f. fun_tree f.now) c.args.functions.now.items ++ l)) (sym e) c.add_group.ensures

pub returns-in-Layout : goal.returns-in-Layout
returns-in-Layout c = sym (ap (λ d. map (λ f. fun_tree f.now) c.args.functions.now.items ++ functions_in (decl_tree d ∷ [])) c.in-Layout.is ∙ append-nil (map (λ f. fun_tree f.now) c.args.functions.now.items))

pub returns-in-Exception : goal.returns-in-Exception
returns-in-Exception c = sym (ap (λ d. map (λ f. fun_tree f.now) c.args.functions.now.items ++ functions_in (decl_tree d ∷ [])) c.in-Exception.is ∙ append-nil (map (λ f. fun_tree f.now) c.args.functions.now.items))
