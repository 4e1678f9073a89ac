use Rattle.std.proofs.Common.{arith}
use Rattle.nv_ast.specs.Grammar.{no_decl}
use Rattle.nv_text_parser.proofs.DeclRules.{decls_step, highest_decl_push, exceptions_push}
use Rattle.nv_text_parser.specs.inner.Failing.{read_none, read_next, no_memory}
use Rattle.nv_text_parser.proofs.Sequence.{read_many_fails, item_fails}
use Rattle.nv_text_parser.proofs.DeclPhrases.{decls_listed, some_left}
use Rattle.nv_text_parser.proofs.program.declarations.Goals as goal

pub loop-rest-init : goal.loop-rest-init
loop-rest-init c = rw c.new-found.ensures.items (record { read = no_decl; items = read_none; low = omega arith; few = omega arith })

pub loop-rest-preserved : goal.loop-rest-preserved
loop-rest-preserved c = record {
  read = decls_step _ _ _ _ _ _ c.loop-rest.invariant.read c.in-Ok.ensures.read c.in-Ok-push.ensures.items;
  items = read_next c.loop-rest.invariant.items c.in-Ok.ensures.answers;
  low = highest_decl_push _ _ _ c.in-Ok-push.ensures.items c.loop-rest.invariant.low c.in-Ok.ensures.low;
  few = omega (arith, exceptions_push _ _ _ c.in-Ok-push.ensures.items, c.loop-rest.invariant.few, c.in-Ok.ensures.few);
}

pub returns-in-Err-clause-fails : goal.returns-in-Err-clause-fails
returns-in-Err-clause-fails c =
    read_many_fails decls_listed (omega arith) c.loop-rest.invariant.items (item_fails decls_listed (omega arith) (some_left _ c.loop-rest-test.ensures) c.in-Err.ensures.answers)

pub returns-in-Err-push-clause-fails : goal.returns-in-Err-push-clause-fails
returns-in-Err-push-clause-fails c =
    no_memory
