use Rattle.std.proofs.Common.{◌∙◌, ◌++◌, ◌∷◌, [], ℕ, map, ap, get_or, arith}
use Rattle.std.proofs.lemmas.List.{map-append}
use Rattle.place_plan.specs.Uses as pure
use Rattle.bank_prog_form.specs.inner.Form.{value_view}
use Rattle.bank_prog_form.proofs.Tabled.{numbered-more, numbered-all}
use Rattle.bank_prog_form.proofs.tables.params.Goals as goal

pub loop-i-preserved : goal.loop-i-preserved
loop-i-preserved c =
    numbered-more c.args.k (pure.Parameter c.args.l) c.loop-i.i c.args.xs.now 0 (map value_view c.loop-i.values.items) (map value_view c.push.new.self.items) (pure.numbered c.args.k (pure.Parameter c.args.l) 0 c.args.xs.now)
    (omega arith)
    (ap (map value_view) c.in_ok-push.ensures.items ∙ map-append value_view c.loop-i.values.items (_ ∷ [])
    ∙ ap (λ (z : ℕ). map value_view c.loop-i.values.items ++ record { point = c.args.k; var = get_or c.args.xs.now c.loop-i.i 0; origin = pure.Parameter c.args.l z } ∷ []) c.in_ok-short.ensures)
    c.loop-i.invariant

pub returns : goal.returns
returns c = numbered-all c.args.k (pure.Parameter c.args.l) c.loop-i.i c.args.xs.now (map value_view c.loop-i.values.items) (pure.numbered c.args.k (pure.Parameter c.args.l) 0 c.args.xs.now) (omega arith) c.loop-i.invariant
