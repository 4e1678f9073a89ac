use Rattle.nv_types_table.proofs.RowMaking.{made_both}
use Rattle.nv_types_table.proofs.There.{same_row}
use Rattle.nv_types_table.proofs.table.Table.both.Goals as goal

pub returns-clause-made : goal.returns-clause-made
returns-clause-made c = λ t u h k.
    made_both c.args.self.now _ c.number.result _ _ c.number.ensures.there c.number.ensures.grows t u
    (same_row c.args.self.now c.args.left _ c.part_number-left.ensures.same t h)
    (same_row c.args.self.now c.args.right _ c.part_number-right.ensures.same u k)
