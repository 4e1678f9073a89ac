use Rattle.std.proofs.Common.{◌+◌, ◌++◌, ap, ◌∙◌}
use Rattle.cps_inline.specs.inner.Inlined.{moved_handlers}
use Rattle.cps_inline.proofs.Along.{same_place}
use Rattle.cps_inline.proofs.copying.context_of_call.Goals as goal

pub returns-clause-view : goal.returns-clause-view
returns-clause-view c =
    same_place c.args.first c.in_ok-to.to (c.args.base + c.args.k) c.in_ok-handlers_after.field-0.items (moved_handlers c.args.base c.args.hs.now ++ c.args.place.now.handlers.items) c.in_ok-to.ensures
    (c.in_ok-handlers_after.ensures ∙ ap (λ l. l ++ c.deref.result.now) c.in_ok-own.ensures ∙ ap (λ l. moved_handlers c.args.base c.args.hs.now ++ l) c.deref.ensures.value)
