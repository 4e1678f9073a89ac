use Rattle.std.proofs.Common.{◌<◌, ◌++◌, ◌∷◌, [], ◌∙◌, ap, sym, length, arith}
use Rattle.nv_ast.specs.declared.tree.Pat.{Pat}
use Rattle.nv_ast.specs.PatternView.{pattern_tree}
use Rattle.nv_ast.specs.Scope.{names_in}
use Rattle.nv_ast.proofs.Items.{added_step}
use Rattle.nv_types_table.specs.inner.Named.{plain_names}
use Rattle.nv_types_table.proofs.Found.{plain-append}
use Rattle.nv_types_table.proofs.PatternNames.{names_more}
use Rattle.nv_types_table.proofs.names.+names.Goals as goal

pub add_all_names-loop-p-preserved : goal.add_all_names-loop-p-preserved
add_all_names-loop-p-preserved t c =
    let h : c.loop-p.p-index < length c.args.ps.now = omega arith in
    added_step _ _ _ _ _ _ c.in_ok-add_names.ensures c.loop-p.invariant (names_more c.args.ps.now c.loop-p.p-index c.p-item.result h c.p-item.is)

pub add_names-returns-in_ok-push-in-Name : goal.add_names-returns-in_ok-push-in-Name
add_names-returns-in_ok-push-in-Name t c =
    let old = plain_names c.args.names.now.items in
    ap plain_names c.in_ok-push-in-Name.ensures.items ∙ plain-append c.args.names.now.items (_ ∷ []) ∙ ap (λ (p : Pat). old ++ names_in (pattern_tree p)) (sym c.in-Name.is)
