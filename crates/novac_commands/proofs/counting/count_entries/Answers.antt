use Rattle.std.proofs.Common.{◌≡◌, ℕ, ◌^◌, ◌<◌, List, take, Ok, ap, sym, ◌∙◌, subst}
use Rattle.std.specs.Prelude.{All}
use Rattle.nv_base.specs.declared.outcome.Outcome.{Outcome}
use Rattle.novac_machine.specs.Machine.{full_text}
use Rattle.ssu_ir.specs.Meaning.{ssu_meaning}
use Rattle.ssu_ir.specs.View.{labels_view}
use Rattle.place_weights.specs.WeightsText.{count_limit, weights_text}
use Rattle.novac_commands.specs.Counting.{AreCounted}
use Rattle.novac_commands.proofs.Counts.{counts-small, are-counted, printed-full}
use Rattle.novac_commands.proofs.counting.count_entries.Goals as goal

pub print_counts-requires : goal.print_counts-requires
print_counts-requires c =
    subst (λ (l : List ℕ). All (λ x. x < 2 ^ 32) l) (sym c.deref.ensures.value) (counts-small (labels_view c.args.form.now) _ _ c.args.jumps c.enter.new.counts.items c.in_ok-outcome.ensures.counts c.requires.jumps)

pub returns-clause-prints : goal.returns-clause-prints
returns-clause-prints c =
    subst (λ (a : List ℕ). c.in_ok-text.text.items ≡ full_text (ssu_meaning (labels_view c.args.form.now) a c.args.job.packet c.args.jumps)) c.list-args.ensures.words
    (printed-full (labels_view c.args.form.now) c.list-args.result.now c.args.job.packet c.args.jumps c.in_ok-outcome.outcome c.enter.new.p c.enter.new.log c.in_ok-log.log c.in_ok-text.text.items
    c.requires.single c.in_ok-text.ensures c.in_ok-outcome.ensures.outcome c.in_ok-outcome.ensures.packet c.in_ok-outcome.ensures.log c.in_ok-log.ensures)

pub returns-clause-counts : goal.returns-clause-counts
returns-clause-counts c =
    subst (λ (a : List ℕ). AreCounted (labels_view c.args.form.now) a c.args.job.packet c.args.jumps c.in_ok-counts-2.counts.items) c.list-args.ensures.words
    (are-counted (labels_view c.args.form.now) c.list-args.result.now c.args.job.packet c.args.jumps c.enter.new.counts.items c.in_ok-counts-2.counts.items c.in_ok-outcome.ensures.counts
    (c.in_ok-counts-2.ensures ∙ ap (λ (l : List ℕ). weights_text (take count_limit l)) c.deref.ensures.value)
    (λ g. c.enter.ensures.going (c.in_ok-outcome.was ∙ ap (λ (x : Outcome). Ok x) (c.in_ok-outcome.ensures.outcome ∙ g))))
