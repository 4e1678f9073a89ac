use Rattle.std.proofs.Common.{◌∙◌, sym}
use Rattle.std.proofs.lemmas.Bool.{false≢true}
use Rattle.uc_contexts.specs.Marked.{IsShared}
use Rattle.uc_contexts.proofs.Sharing.{not-next, none-shared}
use Rattle.uc_contexts.proofs.compare.first_shared.Goals as goal

pub loop-a-preserved : goal.loop-a-preserved
loop-a-preserved c = not-next (IsShared c.args.footprints.now c.args.m) c.loop-a.a c.loop-a.invariant (λ s. false≢true (sym c.if-is_shared.false ∙ c.is_shared.ensures.1 s))

pub returns-clause-none : goal.returns-clause-none
returns-clause-none c = none-shared c.args.footprints.now c.args.m c.end_of_writes-a-end.result c.loop-a.a c.end_of_writes-a-end.ensures c.loop-a-test.false c.loop-a.invariant
