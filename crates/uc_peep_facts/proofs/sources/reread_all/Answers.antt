use Rattle.std.proofs.Common.{◌≡◌, ◌<◌, get_or, length, Some, refl, ap, arith, sym, subst}
use Rattle.std.specs.Prelude.{slice_get}
use Rattle.std.proofs.lemmas.Option.{slice_get-get_or, slice_get_read}
use Rattle.uc_peep_facts.specs.inner.Operands.{IsReread}
use Rattle.uc_peep_facts.specs.Facts.{known_at, known_of}
use Rattle.uc_peep_facts.proofs.Putting.{formed-rest, put-all, put-more}
use Rattle.uc_peep_facts.proofs.sources.reread_all.Goals as goal

pub reread-requires : goal.reread-requires
reread-requires c = formed-rest _ c.args.draft.now c.loop-x.draft c.loop-x.x c.index-draft-x.result c.requires.lawful (let a = c.loop-x.auto.draft in let lt = c.loop-x-test.true in omega arith) c.loop-x.invariant

pub loop-x-preserved : goal.loop-x-preserved
loop-x-preserved c =
    let lt : c.loop-x.x < length c.loop-x.draft = let a = c.loop-x.auto.draft in let t = c.loop-x-test.true in omega arith in
    let at-table : slice_get c.args.table.now c.loop-x.x ≡ Some c.index-table-x.result =
    slice_get_read c.args.table.now _ c.loop-x.x c.index-table-x.result refl (let a = c.loop-x.auto.draft in let t = c.loop-x-test.true in let s = c.requires.table in omega arith) c.index-table-x.is in
    put-more (λ x i j. IsReread (known_at c.args.table.now x) i j) c.args.draft.now c.loop-x.draft c.loop-x.x (get_or c.loop-x.draft c.loop-x.x c.index-draft-x.result) c.reread.result
    (slice_get-get_or c.loop-x.draft c.loop-x.x c.index-draft-x.result lt)
    (subst (λ l. IsReread l (get_or c.loop-x.draft c.loop-x.x c.index-draft-x.result) c.reread.result) (sym (ap known_of at-table)) c.reread.ensures)
    c.loop-x.invariant

pub returns : goal.returns
returns c = put-all _ c.args.draft.now c.loop-x.draft c.loop-x.x (let a = c.loop-x.auto.draft in let le = c.loop-x-test.false in omega arith) c.loop-x.invariant
