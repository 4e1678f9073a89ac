use Rattle.std.proofs.Common.{refl}
use Rattle.nv_types_table.proofs.Growing.{Extends-trans}
use Rattle.nv_types_scopes.proofs.Holding.{Keeps-table}
use Rattle.nv_types_scopes.proofs.Shaping.{inner_made}
use Rattle.nv_types_scopes.proofs.functions.Checker.inner_member.Goals as goal

pub returns-clause-made : goal.returns-clause-made
returns-clause-made c = λ o h.
    inner_made c.args.self.now.table c.record_of.new.self c.record_of-2.new.self c.args.shape _ o c.in_ok-record_of.ensures.grows c.in_ok-record_of-2.ensures.grows h refl refl refl c.in_ok-record_of.ensures.form c.in_ok-record_of-2.ensures.made

pub returns-clause-keeps : goal.returns-clause-keeps
returns-clause-keeps c = Keeps-table c.args.self.now c.record_of-2.new.self (Extends-trans c.args.self.now.table c.record_of.new.self c.record_of-2.new.self c.in_ok-record_of.ensures.grows c.in_ok-record_of-2.ensures.grows)
