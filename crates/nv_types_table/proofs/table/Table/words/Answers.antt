use Rattle.nv_types_table.proofs.Growing.{grows_after}
use Rattle.nv_types_table.proofs.table.Table.words.Goals as goal

pub returns-clause-grows : goal.returns-clause-grows
returns-clause-grows c = grows_after c.args.self.now _ c.tuple.new.self c.tuple.result c.in_ok-list.ensures.grows c.tuple.ensures.grows
