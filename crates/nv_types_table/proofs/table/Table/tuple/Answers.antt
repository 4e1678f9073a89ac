use Rattle.nv_types_table.proofs.Making.{made_tuple}
use Rattle.nv_types_table.proofs.There.{same_parts}
use Rattle.nv_types_table.proofs.table.Table.tuple.Goals as goal

pub returns-clause-made : goal.returns-clause-made
returns-clause-made c = λ ts h.
    made_tuple c.args.self.now _ c.number.result _ c.number.ensures.there c.number.ensures.grows ts (same_parts c.args.self.now c.part_number-parts.ensures.store c.args.parts _ c.part_number-parts.ensures.same ts h)
