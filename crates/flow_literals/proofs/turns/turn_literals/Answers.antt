use Rattle.flow_literals.proofs.Walks.{turn_let, turn_read, turn_write}
use Rattle.flow_literals.proofs.turns.turn_literals.Goals as goal

pub spine-preserved-in-Let : goal.spine-preserved-in-Let
spine-preserved-in-Let c = turn_let c.in-Let.field-0 c.in-Let.p _ _ _ _ c.spine.invariant c.in-Let.is c.deref-cur.ensures c.in_ok-note_prim-in-Let.ensures

pub spine-preserved-in-Read : goal.spine-preserved-in-Read
spine-preserved-in-Read c = turn_read c.in-Read.m c.in-Read.field-1 c.in-Read.a _ _ _ _ c.spine.invariant c.in-Read.is c.deref-cur-in-Read.ensures c.in_ok-note_address-in-Read.ensures

pub spine-preserved-in-Write : goal.spine-preserved-in-Write
spine-preserved-in-Write c = turn_write c.in-Write.m c.in-Write.a c.in-Write.field-2 _ _ _ _ c.spine.invariant c.in-Write.is c.deref-cur-in-Write.ensures c.in_ok-note_address-in-Write.ensures
