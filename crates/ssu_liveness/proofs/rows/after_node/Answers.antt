use Rattle.std.proofs.Common.{◌≡◌, ◌∷◌, [], refl, sym, ap, subst, ◌∙◌}
use Rattle.ssu_ir.specs.declared.node.SsuNode.{SsuNode}
use Rattle.ssu_ir.specs.declared.node.SsuNode.TheVariants.{If as Forked, Clone as Cloned, Write as Written}
use Rattle.ssu_ir.specs.Slots.{node_of}
use Rattle.ssu_ir.proofs.Trees.{arity}
use Rattle.ssu_liveness.specs.inner.Live.{add_all, behind, Takes}
use Rattle.ssu_liveness.proofs.RowSteps.{takes-two, takes-as, without-nothing}
use Rattle.ssu_liveness.proofs.rows.after_node.Goals as goal

pub returns-in_ok-add_each-in-If : goal.returns-in_ok-add_each-in-If
returns-in_ok-add_each-in-If c =
    let old = c.args.rows.now.items in
    let new = c.take_row-in-If.new.rows.items in
    let a = c.take_row-first.result.items in
    let b = c.take_row-in-If.result.items in
    let n = Forked c.in-If.field-0 c.in-If.field-1 c.in-If.field-2 c.in-If.field-3 c.in-If.field-4 in
    subst (λ (m : SsuNode). Takes old new (λ rs. c.add_each.new.row.items ≡ behind (node_of m) rs) (arity (node_of m))) (sym c.in-If.is)
    (takes-as old new (λ rs. rs ≡ a ∷ b ∷ []) (λ rs. c.add_each.new.row.items ≡ behind (node_of n) rs) 2 2 refl
    (λ rs e. c.in_ok-add_each-in-If.ensures ∙ ap (λ xs. add_all xs a) c.deref-in-If.ensures.value ∙ ap (λ r. behind (node_of n) r) (sym e))
    (takes-two old c.take_row-first.new.rows.items new a b c.take_row-first.ensures c.take_row-in-If.ensures))

pub returns-in-Clone : goal.returns-in-Clone
returns-in-Clone c =
    let old = c.args.rows.now.items in
    let new = c.take_row-in-Clone.new.rows.items in
    let a = c.take_row-in-Clone.result.items in
    let n = Cloned c.in-Clone.field-0 c.in-Clone.field-1 c.in-Clone.field-2 in
    subst (λ (m : SsuNode). Takes old new (λ rs. a ≡ behind (node_of m) rs) (arity (node_of m))) (sym c.in-Clone.is)
    (takes-as old new (λ rs. rs ≡ a ∷ []) (λ rs. a ≡ behind (node_of n) rs) 1 1 refl
    (λ rs e. sym (without-nothing a) ∙ ap (λ r. behind (node_of n) r) (sym e)) c.take_row-in-Clone.ensures)

pub returns-in-Write : goal.returns-in-Write
returns-in-Write c =
    let old = c.args.rows.now.items in
    let new = c.take_row-in-Write.new.rows.items in
    let a = c.take_row-in-Write.result.items in
    let n = Written c.in-Write.field-0 c.in-Write.field-1 c.in-Write.field-2 c.in-Write.field-3 in
    subst (λ (m : SsuNode). Takes old new (λ rs. a ≡ behind (node_of m) rs) (arity (node_of m))) (sym c.in-Write.is)
    (takes-as old new (λ rs. rs ≡ a ∷ []) (λ rs. a ≡ behind (node_of n) rs) 1 1 refl
    (λ rs e. sym (without-nothing a) ∙ ap (λ r. behind (node_of n) r) (sym e)) c.take_row-in-Write.ensures)
