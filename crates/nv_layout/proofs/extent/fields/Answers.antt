use Rattle.std.proofs.Common.{◌∙◌, ◌++◌, ap, sym, subst, arith}
use Rattle.nv_ast.specs.Outline.{size, bit_fields}
use Rattle.nv_layout.specs.OutlineView.{outline_tree}
use Rattle.nv_layout.specs.FieldList.{field_pairs}
use Rattle.nv_layout.proofs.Within.{Inside, outline_inside, all_lie}
use Rattle.nv_layout.proofs.extent.fields.Goals as goal

pub returns-clause-inside : goal.returns-clause-inside
returns-clause-inside c =
    let t = outline_tree c.args.l.now in
    all_lie (size t) c.place.new.found.items (subst (Inside (size t)) (sym (c.in_ok-place.ensures.added ∙ ap (λ l. field_pairs l ++ bit_fields 0 t) c.new-found.ensures.items)) (outline_inside (size t) 0 t c.requires.sound (omega arith)))
