use Rattle.nv_types_scopes.proofs.Holding.{Keeps-table}
use Rattle.nv_types_scopes.proofs.Shaping.{shape_front}
use Rattle.nv_types_scopes.proofs.functions.Checker.in_front.Goals as goal

pub returns-clause-joined : goal.returns-clause-joined
returns-clause-joined c = λ o os h j.
    shape_front c.args.self.now.table c.both_joined.new.self c.args.first c.args.rest _ o os h j
    c.saturating_add.ensures c.saturating_add-2.ensures c.max.ensures
    (λ fs gs. c.in_ok-forms.ensures.of_forms fs gs) (λ ts us. c.in_ok-forms.ensures.of_types ts us)

pub returns-clause-keeps : goal.returns-clause-keeps
returns-clause-keeps c = Keeps-table c.args.self.now c.both_joined.new.self c.in_ok-forms.ensures.grows
