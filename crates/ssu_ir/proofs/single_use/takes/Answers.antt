use Rattle.std.proofs.Common.{◌∙◌, sym, ap, Some, None, eqb}
use Rattle.ssu_ir.specs.Single.{takes_as_many}
use Rattle.ssu_ir.proofs.Keeps.{view_at, some_from, none_from}
use Rattle.ssu_ir.proofs.single_use.takes.Goals as goal

pub returns-in-Some : goal.returns-in-Some
returns-in-Some c = ap (λ n. eqb n c.args.n) (c.len.ensures ∙ c.in-Some.l.now.params.ok.0) ∙ sym (ap (takes_as_many c.args.n) (view_at c.args.s.now _ c.args.l (Some c.in-Some.l.now) c.deref.ensures.value (some_from _ _ _ _ c.in-Some.ensures.lookup.0 c.in-Some.ensures.lookup.1)))

pub returns-in-None : goal.returns-in-None
returns-in-None c = sym (ap (takes_as_many c.args.n) (view_at c.args.s.now _ c.args.l None c.deref.ensures.value (none_from _ _ c.in-None.ensures.lookup.0)))
