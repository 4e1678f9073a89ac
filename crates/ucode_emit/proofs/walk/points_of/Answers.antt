use Rattle.ucode_emit.proofs.Walked.{entries_known}
use Rattle.ucode_emit.proofs.walk.points_of.Goals as goal

pub returns : goal.returns
returns c = record {
  point_ids = c.in_ok-point_ids.ensures.marks;
  there = c.in_ok-point_ids.ensures.there;
  entries = entries_known c.args.s.now c.in_ok-point_ids.point_ids.items c.deref.result.now c.in_ok-entries.entries.items c.in_ok-point_ids.ensures.marks c.deref.ensures.value c.in_ok-entries.ensures;
  sequences = c.in_ok-sequences.ensures;
}
