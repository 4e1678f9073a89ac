use Rattle.std.proofs.Common.{◌≡◌, ◌<◌, length, ap, arith}
use Rattle.std.proofs.lemmas.Option.{slice_get_within}
use borrow.Author.Count.{below_more}
use Rattle.uc_isa.specs.Lawful.{IsLawfulPlace}
use Rattle.uc_isa.proofs.rules.lint.Goals as goal

pub loop-place-preserved : goal.loop-place-preserved
loop-place-preserved c = below_more (IsLawfulPlace c.args.c.now.list) c.loop-place.place c.loop-place.invariant c.in_default.ensures.lawful

pub returns-clause-lawful : goal.returns-clause-lawful
returns-clause-lawful c = λ place i is.
    let inside : place < length c.args.c.now.list = slice_get_within c.args.c.now.list place i is in
    let same : length c.list.result.now ≡ length c.args.c.now.list = ap length c.list.ensures.list in
    c.loop-place.invariant place (omega arith) i is
