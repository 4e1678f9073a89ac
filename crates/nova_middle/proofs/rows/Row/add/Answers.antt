use Rattle.std.proofs.Common.{sym, ap, ◌∙◌}
use Rattle.nv_base.specs.Sets.{is_in}
use Rattle.nova_middle.proofs.Members.{different_pushed}
use Rattle.nova_middle.proofs.rows.Row.add.Goals as goal

pub invariant_of-self : goal.invariant_of-self
invariant_of-self c = record { once = different_pushed _ c.args.self.now.xs.items _ c.args.x c.push.ensures.items c.args.self.now.once (ap (is_in c.args.x) (sym c.deref.ensures.value) ∙ sym c.is_among.ensures ∙ c.if-not-is_among.true) }
