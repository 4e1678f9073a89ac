use Rattle.std.proofs.Common.{◌∙◌, ap, sym, ◌++◌, ◌∷◌, [], append-nil}
use Rattle.nv_ast.specs.ProgramView.{decl_tree}
use Rattle.nv_meaning_values.specs.inner.Tables.{layouts_in, layout_pairs}
use Rattle.nv_meaning_values.proofs.NameIndices.{pairs-push}
use Rattle.nv_meaning_values.proofs.table.add_layout.Goals as goal

pub returns-in_ok-push-in-Layout : goal.returns-in_ok-push-in-Layout
returns-in_ok-push-in-Layout c =
    ap layout_pairs c.in_ok-push-in-Layout.ensures.items ∙ pairs-push c.args.layouts.now.items _
    ∙ sym (ap (λ d. layout_pairs c.args.layouts.now.items ++ layouts_in (decl_tree d ∷ [])) c.in-Layout.is)

pub returns-in-Group : goal.returns-in-Group
returns-in-Group c = sym (ap (λ d. layout_pairs c.args.layouts.now.items ++ layouts_in (decl_tree d ∷ [])) c.in-Group.is ∙ append-nil (layout_pairs c.args.layouts.now.items))

pub returns-in-Exception : goal.returns-in-Exception
returns-in-Exception c = sym (ap (λ d. layout_pairs c.args.layouts.now.items ++ layouts_in (decl_tree d ∷ [])) c.in-Exception.is ∙ append-nil (layout_pairs c.args.layouts.now.items))
