use Rattle.std.proofs.Common.{[], ◌∷◌, ◌++◌, sym, ap, ◌∙◌}
use Rattle.std.proofs.lemmas.List.{append-nil}
use Rattle.place_plan.specs.declared.place.Pass.{Pass}
use Rattle.place_plan.proofs.parts.spill_entry.Goals as goal

pub returns : goal.returns
returns c = λ s l. record {
  homes = c.in_ok-slot_homes.ensures;
  firsts = sym (append-nil c.args.parts.now.firsts.items);
  serves = sym (append-nil c.args.parts.now.serves.items);
  passes = c.in_ok-push.ensures.items ∙ ap (λ (p : Pass). c.args.parts.now.passes.items ++ p ∷ []) (c.entry_pass.ensures l);
}
