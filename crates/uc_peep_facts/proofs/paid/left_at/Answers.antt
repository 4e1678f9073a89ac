use Rattle.std.proofs.Common.{refl, arith}
use Rattle.std.proofs.lemmas.Option.{slice_get_read}
use Rattle.uc_peep_facts.proofs.Saved.{paid-by}
use Rattle.uc_peep_facts.proofs.paid.left_at.Goals as goal

pub returns : goal.returns
returns c =
    paid-by c.args.code.now c.args.draft.now c.args.started.now c.args.x c.args.credit c.in_label-saved.result c.weight-old.result c.weight-new.result c.index-code-x.result c.index-draft-x.result
    (slice_get_read c.args.code.now _ c.args.x c.index-code-x.result refl c.requires.inside c.index-code-x.is)
    (slice_get_read c.args.draft.now _ c.args.x c.index-draft-x.result refl (let s = c.requires.size in let i = c.requires.inside in omega arith) c.index-draft-x.is)
    c.weight-old.ensures.weight c.weight-new.ensures.weight c.in_label-saved.ensures c.requires.few c.weight-old.ensures.small c.left.result c.left.ensures
