use Rattle.std.proofs.Common.{◌<◌, get_or, length, arith}
use Rattle.std.proofs.lemmas.Option.{slice_get-get_or}
use Rattle.uc_isa.specs.declared.instruction.Instr.TheVariants.{Halt}
use Rattle.uc_peep_facts.proofs.Saved.{paid-all, paid-more, paid-none}
use Rattle.uc_peep_facts.proofs.paid.is_paid.Goals as goal

pub loop-x-init : goal.loop-x-init
loop-x-init c = paid-none c.args.code.now c.args.draft.now c.args.started.now

pub loop-x-preserved : goal.loop-x-preserved
loop-x-preserved c =
    let lt : c.loop-x.x < length c.args.code.now = c.loop-x-test.true in
    paid-more c.args.code.now c.args.draft.now c.args.started.now c.loop-x.x c.loop-x.credit c.in-Some.n (get_or c.args.code.now c.loop-x.x (Halt 0 0)) (get_or c.args.draft.now c.loop-x.x (Halt 0 0))
    (slice_get-get_or c.args.code.now c.loop-x.x (Halt 0 0) lt)
    (slice_get-get_or c.args.draft.now c.loop-x.x (Halt 0 0) (let s = c.requires.size in omega arith))
    c.in-Some.ensures c.loop-x.invariant

pub returns : goal.returns
returns c = λ _. paid-all c.args.code.now c.args.draft.now c.args.started.now c.loop-x.x c.loop-x.credit c.loop-x-test.false c.requires.size c.loop-x.invariant
