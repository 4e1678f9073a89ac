use Rattle.ucode_emit.specs.inner.Pending.{number}
use Rattle.ucode_emit.proofs.Keeping.{counted-take}
use Rattle.ucode_emit.proofs.pending.Pending.take.Goals as goal

pub returns-clause-counted : goal.returns-clause-counted
returns-clause-counted c =
    counted-take c.args.self.now.sources.items c.set_source.new.sources.items c.args.self.now.readers.items c.read_less.new.readers.items (number c.args.t) c.args.s
    c.requires.counted c.read_less.ensures.within c.requires.source c.set_source.ensures.entry c.read_less.ensures.entry
