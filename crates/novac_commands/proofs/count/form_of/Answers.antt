use Rattle.nova_compile.proofs.Formed.{form-of}
use Rattle.novac_commands.proofs.OneSource.{pass-front}
use Rattle.novac_commands.proofs.count.form_of.Goals as goal

pub returns-in_ok-form-in-Ok-clause-form : goal.returns-in_ok-form-in-Ok-clause-form
returns-in_ok-form-in-Ok-clause-form c =
    form-of _ c.in-Ok.flat.funs.items c.in-Ok.flat.main _ c.in-Ok.flat.formed c.in-Ok.ensures.kept c.in-Ok.ensures.wide c.in-Ok.ensures.bulk
    c.in_ok-form-in-Ok.ensures.single c.in_ok-form-in-Ok.ensures.kept c.in_ok-form-in-Ok.ensures.peak c.in_ok-form-in-Ok.ensures.size c.in_ok-form-in-Ok.ensures.code c.in_ok-form-in-Ok.ensures.made

pub returns-in-Err-clause-refused : goal.returns-in-Err-clause-refused
returns-in-Err-clause-refused c = pass-front c.args.bytes.now c.in-Err.error c.refusal_of.result c.in-Err.ensures.refused c.refusal_of.ensures
