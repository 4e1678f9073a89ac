use Rattle.std.proofs.Common.{ap}
use Rattle.nv_types_table.specs.inner.Store.{Store}
use Rattle.nv_types_table.proofs.FieldWalks.{name_found, name_missing}
use Rattle.nv_types_table.proofs.table.Table.number_of.Goals as goal

pub returns-clause-there : goal.returns-clause-there
returns-clause-there c = name_found c.self.inside.names.keys c.args.name c.args.self.now.names c.get_index_of.result (ap (λ (s : Store). s.names) c.self.view_is) c.get_index_of.ensures.index

pub returns-clause-absent : goal.returns-clause-absent
returns-clause-absent c = name_missing c.self.inside.names.keys c.args.name.now c.args.self.now.names c.get_index_of.result (ap (λ (s : Store). s.names) c.self.view_is) c.get_index_of.ensures.found
