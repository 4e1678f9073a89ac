use Rattle.std.proofs.Common.{sym, ap, ◌∙◌, length}
use Rattle.std.proofs.lemmas.List.{length-replicate}
use Rattle.zo_cert.proofs.ReadPieces.{ones_start, ones_more, ones_all}
use Rattle.zo_cert.proofs.OnesLemmas.{ones_parts, no_ones}
use Rattle.zo_cert.proofs.report_reader.ones_of.Goals as goal

pub loop-part-init : goal.loop-part-init
loop-part-init c = ones_start _ c.in_ok-on.on.items c.args.columns c.in_ok-on.ensures (ap length c.in_ok-on.ensures ∙ length-replicate _ _)

pub loop-part-preserved : goal.loop-part-preserved
loop-part-preserved c =
    ones_more _ _ _ _ c.loop-part.on.items c.args.columns _ c.in-Some-column_of.column c.loop-part.invariant c.in-Some.ensures c.in-Some-column_of.ensures.some.0 c.in-Some-column_of.ensures.some.1 c.in-Some-column_of.ensures.some.2

pub returns-clause-some : goal.returns-clause-some
returns-clause-some c = ones_all _ _ _ _ _ _ c.loop-part.invariant c.in_default.ensures.0 (sym c.of-parts.ensures ∙ c.if-not-next_is.ensures)

pub returns-then-not-next_is-clause-none : goal.returns-then-not-next_is-clause-none
returns-then-not-next_is-clause-none c = λ k. c.if-not-next_is.ensures _ (c.of-parts.ensures ∙ ones_parts _ _ c.requires k)

pub returns-in_default-column_of-clause-none : goal.returns-in_default-column_of-clause-none
returns-in_default-column_of-clause-none c =
    no_ones c.args.columns _ _ _ _ _ _ _ c.requires c.loop-part.invariant c.in-Some.ensures (sym c.of-parts.ensures ∙ c.if-not-next_is.ensures) c.in_default-column_of.ensures.none
