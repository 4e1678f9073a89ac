use Rattle.std.proofs.Common.{map, ◌++◌, [], ◌∷◌, refl, sym, ap, ◌∙◌}
use Rattle.std.proofs.lemmas.Iterator.Adapters.{YieldsList-from_rev_slice}
use Rattle.std.proofs.lemmas.Iterator.Consumers.{YieldsList-end}
use Rattle.std.proofs.lemmas.List.{map-append}
use Rattle.cps_ir.specs.View.{Seen, label_view}
use Rattle.cps_ir.proofs.Views.{view-Cont}
use Rattle.cps_close.specs.inner.Pending.{InTerm, part_view, parts_of}
use Rattle.cps_close.proofs.Opening.{pushed-label, yielded-all}
use Rattle.cps_close.proofs.collect.expand_all.Goals as goal

pub loop-c-preserved : goal.loop-c-preserved
loop-c-preserved c =
    pushed-label (map part_view c.args.pending.now.items) (map (λ d. label_view d.now) c.loop-c.yielded) c.loop-c.pending.items c.push.new.self.items c.push-in-loop-c.new.self.items _ _ (label_view c.in-Some.c.now) c.loop-c.invariant c.in_ok-push.ensures.items c.in_ok-push-2.ensures.items refl (ap (λ (s : Seen). InTerm s.body) (sym (view-Cont c.in-Some.c.now)))
    ∙ ap (λ l. map part_view c.args.pending.now.items ++ parts_of l) (sym (map-append (λ d. label_view d.now) c.loop-c.yielded (c.in-Some.c ∷ [])))

pub returns : goal.returns
returns c =
    let all = YieldsList-end (YieldsList-from_rev_slice c.args.conts.now cc) c.loop-c.yielded _ c.loop-c.yielded_by _ _ c.in-None.is c.next.ensures.steps in
    c.loop-c.invariant ∙ ap (λ l. map part_view c.args.pending.now.items ++ parts_of l) (yielded-all c.loop-c.yielded c.args.conts.now all.0)
