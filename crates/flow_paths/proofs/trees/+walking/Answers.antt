use Rattle.std.proofs.Common.{Some, sym, ap, ◌∙◌}
use Rattle.flow_paths.specs.Decided.{decided}
use Rattle.flow_paths.proofs.Along.{along_let, along_read, along_write, along_if, along_first, along_second}
use Rattle.flow_paths.proofs.trees.+walking.Goals as goal

pub walked_steps-spine-preserved-in-Let : goal.walked_steps-spine-preserved-in-Let
walked_steps-spine-preserved-in-Let t c = along_let c.in-Let.x c.in-Let.p _ _ _ _ _ c.spine.invariant c.in-Let.is c.deref-cur.ensures c.in_ok-push_step-in-Let.ensures c.in_ok-define-in-Let.ensures

pub walked_steps-spine-preserved-in-Read : goal.walked_steps-spine-preserved-in-Read
walked_steps-spine-preserved-in-Read t c =
    along_read c.in-Read.m c.in-Read.xs c.in_ok-short_numbers-in-Read.field-0 c.in-Read.a _ _ _ _ _ c.spine.invariant c.in-Read.is c.deref-cur-in-Read.ensures c.in_ok-push_step-in-Read.ensures (c.in_ok-short_numbers-in-Read.ensures ∙ c.deref.ensures) c.in_ok-access-in-Read.ensures

pub walked_steps-spine-preserved-in-Write : goal.walked_steps-spine-preserved-in-Write
walked_steps-spine-preserved-in-Write t c =
    along_write c.in-Write.m c.in-Write.a c.in-Write.bs c.in_ok-short_atoms-in-Write.field-0 _ _ _ _ _ c.spine.invariant c.in-Write.is c.deref-cur-in-Write.ensures c.in_ok-push_step-in-Write.ensures (c.in_ok-short_atoms-in-Write.ensures ∙ c.deref-in-Write.ensures) c.in_ok-access-in-Write.ensures

pub walked_steps-spine-preserved-in-Some-true : goal.walked_steps-spine-preserved-in-Some-true
walked_steps-spine-preserved-in-Some-true t c =
    along_first c.in-If.c c.in-If.a c.in-If.b _ _ _ _ _ c.spine.invariant c.in-If.is c.deref-cur-in-Some-true.ensures
    (sym (ap (λ l. decided l c.in-If.c c.in-If.a c.in-If.b) c.deref-in-If.ensures.value) ∙ sym c.decided.ensures ∙ c.in-Some-true.is ∙ ap Some c.in-Some-true.field-0-test)

pub walked_steps-spine-preserved-in-Some-false : goal.walked_steps-spine-preserved-in-Some-false
walked_steps-spine-preserved-in-Some-false t c =
    along_second c.in-If.c c.in-If.a c.in-If.b _ _ _ _ _ c.spine.invariant c.in-If.is c.deref-cur-in-Some-false.ensures
    (sym (ap (λ l. decided l c.in-If.c c.in-If.a c.in-If.b) c.deref-in-If.ensures.value) ∙ sym c.decided.ensures ∙ c.in-Some-false.is ∙ ap Some c.in-Some-false.field-0-test)

pub walked_steps-spine-preserved : goal.walked_steps-spine-preserved
walked_steps-spine-preserved t c =
    along_if c.in-If.c c.negated.result c.in-If.a c.in-If.b _ _ _ _ c.deref-in-None.result.now _ c.in_ok-u-in-None.u _ _ _ c.spine.invariant c.in-If.is c.deref-in-None.ensures c.deref-cur-in-None.ensures
    (sym (ap (λ l. decided l c.in-If.c c.in-If.a c.in-If.b) c.deref-in-If.ensures.value) ∙ sym c.decided.ensures ∙ c.in-None.is) c.in_ok-u-in-None.ensures.tree c.in_ok-u-in-None.ensures.above
    c.in_ok-tell-in-None.ensures c.negated.ensures c.in_ok-push_step-in-None.ensures
