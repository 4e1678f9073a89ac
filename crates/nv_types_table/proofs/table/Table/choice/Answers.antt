use Rattle.nv_types_table.proofs.Making.{made_choice}
use Rattle.nv_types_table.proofs.There.{same_forms}
use Rattle.nv_types_table.proofs.table.Table.choice.Goals as goal

pub returns-clause-form : goal.returns-clause-form
returns-clause-form c = λ fs h.
    made_choice c.args.self.now _ c.number.result _ c.number.ensures.there c.number.ensures.grows fs (same_forms c.args.self.now c.part_number-alternatives.ensures.store c.args.alternatives _ c.part_number-alternatives.ensures.same fs h)
