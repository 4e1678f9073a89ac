use Rattle.std.proofs.Common.{◌≡◌, false}
use Rattle.nova_replay.specs.Replaying.{IsReplay, moment}
use Rattle.nova_replay.proofs.copying.copy.Given as goal

-- the records so far were replayed
abbrev pub invariant-loop : goal.invariant-loop
invariant-loop g l = record {
  replay : IsReplay l.plan (moment l.initial.reader.position l.initial.writer.state l.initial.state)
      (g.R.Read.remaining l.initial.reader.input) (g.R.Read.remaining l.reader.input)
      (g.W.Write.contents l.initial.writer.output) (g.W.Write.contents l.writer.output)
      (moment l.reader.position l.writer.state l.state);
  going : l.reader.ended ≡ false;
}
