use Rattle.std.proofs.Common.{ap, ◌∙◌}
use Rattle.cps_lower.specs.inner.Lowered.{next_variable}
use Rattle.cps_lower.proofs.Scans.{behind_let, behind_fetch, behind_store, behind_if, behind_bind, behind_try}
use Rattle.cps_lower.proofs.scan.+variable_after.Goals as goal

pub spine-preserved-in-Let : goal.spine-preserved-in-Let
spine-preserved-in-Let t c = behind_let _ _ _ _ _ _ c.spine.invariant c.in-Let.is c.deref-cur.ensures c.in_ok-next-in-Let.ensures

pub spine-preserved-in-Fetch : goal.spine-preserved-in-Fetch
spine-preserved-in-Fetch t c =
    behind_fetch _ _ _ _ _ _ _ _ c.spine.invariant c.in-Fetch.is c.deref-cur-in-Fetch.ensures (c.in_ok-variable_above-in-Fetch.ensures ∙ ap next_variable c.deref.ensures) c.greater-next.ensures

pub spine-preserved-in-Store : goal.spine-preserved-in-Store
spine-preserved-in-Store t c = behind_store _ _ _ _ _ _ c.spine.invariant c.in-Store.is c.deref-cur-in-Store.ensures

pub spine-preserved-in-If : goal.spine-preserved-in-If
spine-preserved-in-If t c = behind_if _ _ _ _ _ _ _ _ _ _ c.spine.invariant c.in-If.is c.deref-in-If.ensures c.deref-cur-in-If.ensures c.in_ok-next-in-If.ensures

pub spine-preserved-in-Bind : goal.spine-preserved-in-Bind
spine-preserved-in-Bind t c =
    behind_bind _ _ _ _ _ _ _ _ _ _ c.spine.invariant c.in-Bind.is c.deref-in-Bind.ensures c.deref-cur-in-Bind.ensures (c.in_ok-variable_above-in-Bind.ensures ∙ ap next_variable c.deref-in-Bind-2.ensures.value) c.greater.ensures c.in_ok-next-in-Bind.ensures

pub spine-preserved : goal.spine-preserved
spine-preserved t c =
    behind_try _ _ _ _ _ _ _ _ _ _ _ c.spine.invariant c.in-Try.is c.deref-in-Try.ensures c.deref-cur-in-Try.ensures (c.in_ok-variable_above-in-Try.ensures ∙ ap next_variable c.deref-in-Try-2.ensures) c.greater-in-Try.ensures c.in_ok-next-in-Try.ensures
