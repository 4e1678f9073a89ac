use Rattle.std.proofs.Common.{◌≡◌, ◌∙◌, ◌∷◌, ◌++◌, [], ◌<◌, ◌≤◌, length, take, ap, sym, arith}
use Rattle.std.proofs.lemmas.List.{take_all}
use Rattle.nv_layout.specs.OutlineView.{outline_tree, layouts_of}
use Rattle.nv_layout.proofs.Lists.{trees_of, trees-append, trees_more, same_all, layouts-append, layouts_more, same_named}
use Rattle.nv_layout.proofs.record.+copy.Goals as goal

pub copy_all-loop-o-preserved : goal.copy_all-loop-o-preserved
copy_all-loop-o-preserved t c =
    let h : c.loop-o.o-index < length c.args.os.now = omega arith in
    let o = c.in_ok-copy.field-0 in
    ap trees_of c.in_ok-push.ensures.items
    ∙ trees-append c.loop-o.copies.items (o ∷ [])
    ∙ ap (λ l. l ++ outline_tree o ∷ []) c.loop-o.invariant
    ∙ ap (λ x. trees_of (take c.loop-o.o-index c.args.os.now) ++ x ∷ []) c.in_ok-copy.ensures
    ∙ sym (trees_more c.args.os.now c.loop-o.o-index c.o-item.result h c.o-item.is)

pub copy_all-returns : goal.copy_all-returns
copy_all-returns t c =
    let h : length c.args.os.now ≤ c.loop-o.o-index = omega arith in
    same_all c.loop-o.copies.items c.args.os.now (c.loop-o.invariant ∙ ap trees_of (take_all c.loop-o.o-index c.args.os.now h))

pub copy_named-loop-f-preserved : goal.copy_named-loop-f-preserved
copy_named-loop-f-preserved t c =
    let h : c.loop-f.f-index < length c.args.fs.now = omega arith in
    let x = c.in_ok-clone.field-0 in
    let o = c.in_ok-o.o in
    let p = c.f-item.result in
    let before = layouts_of (take c.loop-f.f-index c.args.fs.now) in
    let cloned : x ≡ p.0 = c.in_ok-clone.ensures.cases in
    ap layouts_of c.in_ok-push.ensures.items
    ∙ layouts-append c.loop-f.copies.items ((x, o) ∷ [])
    ∙ ap (λ l. l ++ (x, outline_tree o) ∷ []) c.loop-f.invariant
    ∙ ap (λ y. before ++ (y, outline_tree o) ∷ []) cloned
    ∙ ap (λ y. before ++ (p.0, y) ∷ []) c.in_ok-o.ensures
    ∙ sym (layouts_more c.args.fs.now c.loop-f.f-index p h c.f-item.is)

pub copy_named-returns : goal.copy_named-returns
copy_named-returns t c =
    let h : length c.args.fs.now ≤ c.loop-f.f-index = omega arith in
    same_named c.loop-f.copies.items c.args.fs.now (c.loop-f.invariant ∙ ap layouts_of (take_all c.loop-f.f-index c.args.fs.now h))
