use Rattle.nv_types_scopes.proofs.Holding.{Keeps-table}
use Rattle.nv_types_scopes.proofs.TextWalk.{unpacked_found, unpacked_absent}
use Rattle.nv_types_scopes.proofs.functions.Checker.unpacked_text.Goals as goal

pub returns-in_ok-t-in-Some : goal.returns-in_ok-t-in-Some
returns-in_ok-t-in-Some c =
    unpacked_found c.args.self.now _ c.args.span c.args.layout.now c.in-Some.shape c.in_ok-t-in-Some.t c.without_excess.result c.in-Some.ensures (Keeps-table c.args.self.now c.record_of.new.self c.in_ok-t-in-Some.ensures.grows)
    c.in_ok-t-in-Some.ensures.made c.without_excess.ensures.judged c.without_excess.ensures.same

pub returns-in-None : goal.returns-in-None
returns-in-None c = unpacked_absent c.args.self.now c.args.span c.args.layout.now c.in-None.ensures
