use Rattle.nv_types_table.proofs.Making.{made_part}
use Rattle.nv_types_table.proofs.There.{same_type, same_parts}
use Rattle.nv_types_table.proofs.table.Table.part.Goals as goal

pub returns-clause-made : goal.returns-clause-made
returns-clause-made c = λ u us h k.
    made_part c.args.self.now _ c.number.result _ _ c.number.ensures.there c.number.ensures.grows u us
    (same_type c.args.self.now c.part_number-t.ensures.store c.args.t _ c.part_number-t.ensures.same u h)
    (same_parts c.args.self.now c.part_number-t.ensures.store c.args.rest _ c.part_number-rest.ensures.same us k)
