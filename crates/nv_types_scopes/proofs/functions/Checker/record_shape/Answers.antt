use Rattle.nv_types_table.specs.inner.Named.{named}
use Rattle.nv_types_scopes.proofs.Holding.{Keeps-trans}
use Rattle.nv_types_scopes.proofs.Shaping.{members_stay, parts_shape}
use Rattle.nv_types_scopes.proofs.functions.Checker.record_shape.Goals as goal

pub returns-clause-shaped : goal.returns-clause-shaped
returns-clause-shaped c = λ os h.
    let a = c.args.self.now.table in
    let b = c.forms_of.new.self.table in
    parts_shape b c.types_of.new.self.table _ os c.in_ok-types_of.ensures.keeps.declared.grows (c.total_bits.ensures a os h) (c.total_fields.ensures.parts a os h) c.highest.result (c.highest.ensures a os h) c.saturating_add.ensures
    (c.in_ok-forms_of.ensures.made os h) (c.in_ok-types_of.ensures.made os (members_stay a b c.in_ok-forms_of.ensures.keeps.declared.grows (named c.args.members.now) os h))

pub returns-clause-keeps : goal.returns-clause-keeps
returns-clause-keeps c = Keeps-trans c.args.self.now c.forms_of.new.self c.types_of.new.self c.in_ok-forms_of.ensures.keeps c.in_ok-types_of.ensures.keeps
