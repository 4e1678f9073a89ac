use Rattle.std.proofs.Common.{◌+◌, Some, length, refl, sym, ap, ◌∙◌}
use Rattle.std.specs.List.{range_with_len}
use Rattle.flow_ir.specs.Substitution.{look}
use Rattle.flow_ir.proofs.Renaming.{renamed_at, all_at}
use Rattle.flow_merge.specs.inner.Copied.{numbered, all_named}
use Rattle.flow_merge.proofs.Walk.{along_let, along_read, along_write, along_if, along_negated, along_first, along_second, along_inside, room_inside, jump_copied, halt_copied, prim_at}
use Rattle.flow_merge.proofs.copying.+copied.Goals as goal

pub spine-preserved-in-Let : goal.spine-preserved-in-Let
spine-preserved-in-Let t c =
    along_let c.in-Let.x c.in_ok-y-in-Let.y c.in-Let.p c.renamed_prim-q.result _ _ _ _ _ _ _ c.spine.invariant c.in-Let.is c.deref-cur.ensures (prim_at c.in-Let.p c.renamed_prim-q.ensures c.deref.ensures.value) c.in_ok-y-in-Let.ensures.first c.in_ok-y-in-Let.ensures.next
    c.in_ok-set-in-Let.ensures.names c.in_ok-set-in-Let.ensures.saved c.in_ok-push-in-Let.ensures.items

pub spine-preserved-in-Read : goal.spine-preserved-in-Read
spine-preserved-in-Read t c =
    along_read c.in-Read.m c.in-Read.xs c.in_ok-from_slice-in-Read.field-0 c.in-Read.a c.renamed-at.result _ _ _ _ _ _ _ c.spine.invariant c.in-Read.is c.deref-cur-in-Read.ensures (renamed_at c.in-Read.a c.renamed-at.ensures c.deref-in-Read.ensures.value)
    (c.in_ok-from_slice-in-Read.ensures.ok ∙ c.deref-in-Read-3.ensures.value ∙ c.in_ok-ys-in-Read.ensures.numbers ∙ ap (λ l. range_with_len c.spine.fresh (length l)) c.deref-in-Read-2.ensures)
    (c.in_ok-ys-in-Read.ensures.next ∙ ap (λ l. c.spine.fresh + length l) c.deref-in-Read-2.ensures) (c.in_ok-ys-in-Read.ensures.names ∙ ap (numbered (look c.spine.names.items) c.spine.fresh) c.deref-in-Read-2.ensures) c.in_ok-ys-in-Read.ensures.saved c.in_ok-push-in-Read.ensures.items

pub spine-preserved-in-Write : goal.spine-preserved-in-Write
spine-preserved-in-Write t c =
    along_write c.in-Write.m c.in-Write.a c.renamed.result c.in-Write.bs c.in_ok-words-in-Write.words _ _ _ _ c.spine.invariant c.in-Write.is c.deref-cur-in-Write.ensures (renamed_at c.in-Write.a c.renamed.ensures c.deref-in-Write-3.ensures.value)
    (all_at c.in_ok-words-in-Write.ensures c.deref-in-Write.ensures.value c.deref-in-Write-2.ensures) c.in_ok-push-in-Write.ensures.items

pub spine-preserved-in-Some-true : goal.spine-preserved-in-Some-true
spine-preserved-in-Some-true t c =
    along_first c.in-If.c c.in-If.a c.in-If.b c.renamed-x.result c.renamed-y.result _ _ _ _ _ c.spine.invariant c.in-If.is c.deref-cur-in-Some-true.ensures (renamed_at c.in-If.a c.renamed-x.ensures c.deref-in-If.ensures.value) (renamed_at c.in-If.b c.renamed-y.ensures c.deref-in-If-2.ensures.value)
    (sym c.folded.ensures ∙ c.in-Some-true.is ∙ ap Some c.in-Some-true.field-0-test)

pub spine-preserved-in-Some-false : goal.spine-preserved-in-Some-false
spine-preserved-in-Some-false t c =
    along_second c.in-If.c c.in-If.a c.in-If.b c.renamed-x.result c.renamed-y.result _ _ _ _ _ c.spine.invariant c.in-If.is c.deref-cur-in-Some-false.ensures (renamed_at c.in-If.a c.renamed-x.ensures c.deref-in-If.ensures.value) (renamed_at c.in-If.b c.renamed-y.ensures c.deref-in-If-2.ensures.value)
    (sym c.folded.ensures ∙ c.in-Some-false.is ∙ ap Some c.in-Some-false.field-0-test)

pub spine-preserved-then-is_heavier : goal.spine-preserved-then-is_heavier
spine-preserved-then-is_heavier t c =
    along_negated c.in-If.c c.negated.result c.in-If.a c.in-If.b c.renamed-x.result c.renamed-y.result _ _ _ _ c.deref-then-is_heavier.result.now _ c.in_ok-u-in-None.u _ _ _ c.spine.invariant c.in-If.is c.deref-then-is_heavier.ensures c.deref-cur-then-is_heavier.ensures
    (renamed_at c.in-If.a c.renamed-x.ensures c.deref-in-If.ensures.value) (renamed_at c.in-If.b c.renamed-y.ensures c.deref-in-If-2.ensures.value) c.in_ok-u-in-None.ensures.names c.in_ok-u-in-None.ensures.tree c.negated.ensures c.in_ok-push-in-None.ensures.items

pub spine-preserved-else-is_heavier : goal.spine-preserved-else-is_heavier
spine-preserved-else-is_heavier t c =
    along_if c.in-If.c c.in-If.a c.in-If.b c.renamed-x.result c.renamed-y.result _ _ _ _ c.deref-else-is_heavier.result.now _ c.in_ok-u-in-None-2.u _ _ _ c.spine.invariant c.in-If.is c.deref-else-is_heavier.ensures c.deref-cur-else-is_heavier.ensures
    (renamed_at c.in-If.a c.renamed-x.ensures c.deref-in-If.ensures.value) (renamed_at c.in-If.b c.renamed-y.ensures c.deref-in-If-2.ensures.value) c.in_ok-u-in-None-2.ensures.names c.in_ok-u-in-None-2.ensures.tree c.in_ok-push-in-None-2.ensures.items

pub returns-in-None-inside-clause-tree : goal.returns-in-None-inside-clause-tree
returns-in-None-inside-clause-tree t c =
    jump_copied c.in-Jump.l c.in_ok-to-in-None-inside.to c.in-Jump.bs c.in_ok-words-in-Jump.words.items c.in_ok-join-in-None-inside.field-0 c.spine.invariant c.in-Jump.is (all_at c.in_ok-words-in-Jump.ensures c.deref-in-Jump.ensures.value c.deref-in-Jump-2.ensures.value)
    c.in_ok-to-in-None-inside.ensures.0 c.in_ok-to-in-None-inside.ensures.1 c.in_ok-to-in-None-inside.ensures.2 c.in_ok-join-in-None-inside.ensures

pub returns-in-Halt-clause-tree : goal.returns-in-Halt-clause-tree
returns-in-Halt-clause-tree t c =
    halt_copied c.in-Halt.e c.in-Halt.bs c.in_ok-words-in-Halt.words.items c.in_ok-join-in-Halt.field-0 c.spine.invariant c.in-Halt.is (all_at c.in_ok-words-in-Halt.ensures c.deref-in-Halt.ensures.value c.deref-in-Halt-2.ensures) c.in_ok-join-in-Halt.ensures

pub spine-smaller : goal.spine-smaller
spine-smaller t c = room_inside c.args.labels.now c.in-Jump.l c.in-Some.own c.spine.rank c.in-Some.m.now c.spine.cur.now c.in-Some.m.now.body c.in-Some.ensures.0 refl c.in-Some.ensures.1

pub spine-preserved : goal.spine-preserved
spine-preserved t c =
    along_inside c.in-Jump.l c.in-Some.own c.in-Jump.bs c.in_ok-words-in-Jump.words.items c.in-Some.m.now c.in-Some.m.now.body (look c.set_operands.new.names.items) c.set_operands.new.saved.items c.spine.invariant c.in-Jump.is
    (all_at c.in_ok-words-in-Jump.ensures c.deref-in-Jump.ensures.value c.deref-in-Jump-2.ensures.value) c.in-Some.ensures.0 c.in-Some.ensures.1 refl
    (c.in_ok-set_operands-in-Some.ensures.names ∙ ap (λ l. all_named (look c.spine.names.items) l c.deref-in-Some-2.result.now) c.deref-in-Some.ensures.value ∙ ap (all_named (look c.spine.names.items) c.in-Some.m.now.params.items) c.deref-in-Some-2.ensures.value) c.in_ok-set_operands-in-Some.ensures.saved
