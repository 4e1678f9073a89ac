use Rattle.nv_ast.specs.TypedView.{typed_program}
use Rattle.nova_compile.proofs.Objects.{banked-parts, error-report}
use Rattle.nova_actions.proofs.compiled.compile.Goals as goal

pub returns-in-Ok : goal.returns-in-Ok
returns-in-Ok c =
    banked-parts (typed_program c.in-Ok.compiled.typed) c.args.words.slots c.args.w.now c.args.words.budget c.args.words.store c.in-Ok.compiled c.requires.words.store c.in-Ok.ensures.short c.in-Ok.ensures.banks

pub push_error-requires : goal.push_error-requires
push_error-requires c = error-report c.args.bytes.now c.args.words.slots c.args.w.now c.args.words.budget c.args.words.store c.in-Err.error c.in-Err.ensures.refused
