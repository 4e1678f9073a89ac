use Rattle.std.proofs.Common.{sym, ◌∙◌}
use Rattle.cps_lower.proofs.Scans.{looks_let, looks_fetch, looks_store, looks_if, looks_bind, looks_try, found_if, found_try}
use Rattle.cps_lower.proofs.scan.+hands_on.Goals as goal

pub spine-preserved-in-Let : goal.spine-preserved-in-Let
spine-preserved-in-Let t c = looks_let _ _ _ _ _ c.spine.invariant c.in-Let.is c.deref-cur.ensures

pub spine-preserved-in-Fetch : goal.spine-preserved-in-Fetch
spine-preserved-in-Fetch t c = looks_fetch _ _ _ _ _ _ c.spine.invariant c.in-Fetch.is c.deref-cur-in-Fetch.ensures

pub spine-preserved-in-Store : goal.spine-preserved-in-Store
spine-preserved-in-Store t c = looks_store _ _ _ _ _ _ c.spine.invariant c.in-Store.is c.deref-cur-in-Store.ensures

pub returns-then-hands_on : goal.returns-then-hands_on
returns-then-hands_on t c = found_if _ _ _ _ _ _ _ _ c.spine.invariant c.in-If.is c.deref.ensures (sym c.hands_on.ensures ∙ c.if-hands_on.true)

pub spine-preserved-in-If : goal.spine-preserved-in-If
spine-preserved-in-If t c =
    looks_if _ _ _ _ _ _ _ _ _ c.spine.invariant c.in-If.is c.deref.ensures c.deref-cur-in-If.ensures (sym c.hands_on.ensures ∙ c.if-hands_on.false)

pub spine-preserved-in-Bind : goal.spine-preserved-in-Bind
spine-preserved-in-Bind t c = looks_bind _ _ _ _ _ _ c.spine.invariant c.in-Bind.is c.deref-cur-in-Bind.ensures

pub returns-then-hands_on-2 : goal.returns-then-hands_on-2
returns-then-hands_on-2 t c = found_try _ _ _ _ _ _ _ c.spine.invariant c.in-Try.is c.deref-in-Try.ensures (sym c.hands_on-in-Try.ensures ∙ c.if-hands_on-2.true)

pub spine-preserved : goal.spine-preserved
spine-preserved t c =
    looks_try _ _ _ _ _ _ _ _ c.spine.invariant c.in-Try.is c.deref-in-Try.ensures c.deref-cur-in-Try.ensures (sym c.hands_on-in-Try.ensures ∙ c.if-hands_on-2.false)
