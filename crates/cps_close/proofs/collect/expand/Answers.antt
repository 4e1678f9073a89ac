use Rattle.std.proofs.Common.{map, ◌++◌, reverse, ap, ◌∙◌}
use Rattle.cps_ir.specs.View.{term_view, label_view}
use Rattle.cps_ir.proofs.Views.{view-Fix}
use Rattle.cps_close.specs.inner.Pending.{InTerm, part_view, parts_of}
use Rattle.cps_close.proofs.Opening.{opened-fix}
use Rattle.cps_close.proofs.collect.expand.Goals as goal

pub returns-in_ok-expand_all-in-Fix : goal.returns-in_ok-expand_all-in-Fix
returns-in_ok-expand_all-in-Fix c =
    opened-fix c.args.t.now c.in-Fix.rest.value c.in-Fix.conts.items c.args.pending.now.items c.push-in-Fix.new.self.items c.expand_all.new.pending.items _ (ap term_view c.in-Fix.is ∙ view-Fix c.in-Fix.conts c.in-Fix.rest) c.in_ok-push-in-Fix.ensures.items (ap (λ t. InTerm (term_view t)) c.deref-in-Fix.ensures)
    (c.in_ok-expand_all-in-Fix.ensures ∙ ap (λ l. map part_view c.push-in-Fix.new.self.items ++ parts_of (reverse (map label_view l))) c.deref-in-Fix-2.ensures.value)
