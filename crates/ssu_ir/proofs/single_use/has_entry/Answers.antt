use Rattle.std.proofs.Common.{◌∙◌, sym, ap, Some, None, leb}
use Rattle.ssu_ir.specs.Single.{is_entry}
use Rattle.ssu_ir.proofs.Keeps.{view_at}
use Rattle.ssu_ir.proofs.single_use.has_entry.Goals as goal

pub returns-in-Some : goal.returns-in-Some
returns-in-Some c = ap (λ n. leb n 8) (c.len.ensures ∙ c.in-Some.l.now.params.ok.0) ∙ sym (ap is_entry (view_at c.args.s.now _ 0 (Some c.in-Some.l.now) c.deref.ensures.value c.in-Some.ensures.value))

pub returns-in-None : goal.returns-in-None
returns-in-None c = sym (ap is_entry (view_at c.args.s.now _ 0 None c.deref.ensures.value c.in-None.ensures.value))
