use Rattle.std.proofs.Common.{◌≡◌, ◌∙◌, ◌<◌, ap, sym, true, length}
use Rattle.nv_meaning_values.specs.Running.{innermost, is_own}
use Rattle.nv_meaning_values.specs.Callers.{calls_of}
use Rattle.nv_meaning_values.proofs.Above.{replaced, entered, own-there}
use Rattle.nv_meaning_values.proofs.callers.enter.Goals as goal

pub returns-then-has_group-clause-called : goal.returns-then-has_group-clause-called
returns-then-has_group-clause-called c =
    let xs = c.args.callers.now.items in
    let own : is_own (innermost (calls_of xs)) c.args.f.group ≡ true =
    ap (λ l. is_own (innermost (calls_of l)) c.args.f.group) (sym c.deref.ensures.value)
    ∙ ap (λ o. is_own o c.args.f.group) (sym c.last.ensures)
    ∙ sym c.has_group.ensures
    ∙ c.if-has_group.true in
    let some : 0 < length xs = own-there xs c.args.f.group own in
    ap calls_of (c.put_last.ensures some) ∙ replaced xs c.args.f some ∙ entered true xs c.args.f own
