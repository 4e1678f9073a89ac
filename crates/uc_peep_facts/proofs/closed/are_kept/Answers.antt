use Rattle.std.proofs.Common.{◌≡◌, ◌∙◌, ◌<◌, length, Some, arith, refl, sym, subst}
use Rattle.std.specs.Prelude.{slice_get}
use Rattle.std.proofs.lemmas.Option.{slice_get_read}
use Rattle.uc_isa.specs.Program.{IsFormed, IsLawfulWithin}
use Rattle.uc_isa.specs.Resources.{IsNext}
use Rattle.uc_peep.proofs.Sweeps.{lawful-here}
use Rattle.uc_peep_facts.proofs.Ways.{kept-all, kept-more, none-first}
use Rattle.uc_peep_facts.proofs.closed.are_kept.Goals as goal

pub facts_after-out-requires : goal.facts_after-out-requires
facts_after-out-requires c = subst IsFormed (sym c.index-code-x.is) (lawful-here c.args.code.now _ c.loop-x.x c.index-code-x.result c.requires.lawful refl c.loop-x-test.true).formed

pub all_arrive-requires-clause-lawful : goal.all_arrive-requires-clause-lawful
all_arrive-requires-clause-lawful c =
    subst (IsLawfulWithin (length c.args.table.now) c.loop-x.x) (sym c.index-code-x-in-loop-x.is)
    (lawful-here c.args.code.now (length c.args.table.now) c.loop-x.x c.index-code-x-in-loop-x.result c.requires.lawful c.requires.table (let t = c.requires.table in let lt = c.loop-x-test.true in omega arith))

pub loop-x-preserved : goal.loop-x-preserved
loop-x-preserved c =
    let at : slice_get c.args.code.now c.loop-x.x ≡ Some c.index-code-x.result = slice_get_read c.args.code.now _ c.loop-x.x c.index-code-x.result refl c.loop-x-test.true c.index-code-x.is in
    let again : slice_get c.args.code.now c.loop-x.x ≡ Some c.index-code-x-in-loop-x.result = slice_get_read c.args.code.now _ c.loop-x.x c.index-code-x-in-loop-x.result refl c.loop-x-test.true c.index-code-x-in-loop-x.is in
    let both : Some c.index-code-x-in-loop-x.result ≡ Some c.index-code-x.result = sym again ∙ at in
    let same : c.index-code-x-in-loop-x.result ≡ c.index-code-x.result = cc in
    let inside : c.loop-x.x < length c.args.table.now = let t = c.requires.table in let lt = c.loop-x-test.true in omega arith in
    kept-more c.args.code.now c.args.table.now c.loop-x.x c.index-code-x.result c.facts_after-out.result c.index-table-x.result at
    (slice_get_read c.args.table.now _ c.loop-x.x c.index-table-x.result refl inside c.index-table-x.is)
    c.facts_after-out.ensures
    (λ y next. c.all_arrive.ensures c.if-not-all_arrive.false y (subst (λ i. IsNext i c.loop-x.x y) (sym same) next))
    c.loop-x.invariant

pub returns : goal.returns
returns c = λ _.
    kept-all c.args.code.now c.args.table.now c.loop-x.x c.loop-x-test.false
    (none-first c.args.table.now c.index-table-0.result (slice_get_read c.args.table.now _ 0 c.index-table-0.result refl (let t = c.requires.table in let s = c.requires.lawful.some in omega arith) c.index-table-0.is) (sym c.len.ensures ∙ c.if-len-ne0.false))
    c.loop-x.invariant
