use Rattle.std.proofs.Common.{◌+◌, ◌<◌, get_or, length, arith}
use Rattle.std.proofs.lemmas.Option.{slice_get-get_or}
use Rattle.uc_peep_facts.specs.inner.Operands.{IsUntargeted}
use Rattle.uc_peep_facts.proofs.Putting.{formed-rest, last-rest, put-all, put-more}
use Rattle.uc_peep_facts.proofs.idle_targets.untarget_all.Goals as goal

pub untargeted_at-requires-clause-formed : goal.untargeted_at-requires-clause-formed
untargeted_at-requires-clause-formed c = formed-rest _ c.args.draft.now c.loop-x.draft c.loop-x.x c.index-draft-x.result c.requires.lawful (let a = c.loop-x.auto.draft in let lt = c.loop-x-test.true in omega arith) c.loop-x.invariant

pub untargeted_at-requires-clause-last : goal.untargeted_at-requires-clause-last
untargeted_at-requires-clause-last c = λ le.
    last-rest _ c.args.draft.now c.loop-x.draft c.loop-x.x c.index-draft-x.result c.requires.lawful (let a = c.loop-x.auto.draft in let lt = c.loop-x-test.true in omega arith)
    (let s = c.requires.sets in omega arith) c.loop-x.invariant

pub loop-x-preserved : goal.loop-x-preserved
loop-x-preserved c =
    let lt : c.loop-x.x < length c.loop-x.draft = let a = c.loop-x.auto.draft in let t = c.loop-x-test.true in omega arith in
    put-more (λ x i j. IsUntargeted (get_or c.args.sets.now (x + 1) 0) i j) c.args.draft.now c.loop-x.draft c.loop-x.x (get_or c.loop-x.draft c.loop-x.x c.index-draft-x.result) c.untargeted_at.result
    (slice_get-get_or c.loop-x.draft c.loop-x.x c.index-draft-x.result lt)
    c.untargeted_at.ensures
    c.loop-x.invariant

pub returns : goal.returns
returns c = put-all _ c.args.draft.now c.loop-x.draft c.loop-x.x (let a = c.loop-x.auto.draft in let le = c.loop-x-test.false in omega arith) c.loop-x.invariant
