use Rattle.ucode_emit.specs.inner.Pending.{number}
use Rattle.ucode_emit.proofs.Keeping.{counted-add}
use Rattle.ucode_emit.proofs.pending.Pending.add.Goals as goal

pub returns-clause-counted : goal.returns-clause-counted
returns-clause-counted c =
    counted-add c.args.self.now.sources.items c.set_source.new.sources.items c.args.self.now.readers.items c.read_more.new.readers.items (number c.args.t) c.args.s
    c.requires.counted c.read_more.ensures.within c.set_source.ensures.within c.requires.first c.set_source.ensures.entry c.read_more.ensures.entry
