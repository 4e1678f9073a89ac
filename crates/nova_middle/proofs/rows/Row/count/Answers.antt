use Rattle.std.proofs.Common.{sym, ◌∙◌}
use Rattle.nv_base.proofs.Sets.{different-all}
use Rattle.nova_middle.proofs.rows.Row.count.Goals as goal

pub returns : goal.returns
returns c = c.len.ensures ∙ c.args.self.now.xs.ok.0 ∙ sym (different-all c.args.self.now.xs.items c.args.self.now.once)
