use Rattle.std.proofs.Common.{◌≡◌, ◌∷◌, ◌++◌, [], ap, ◌∙◌, arith, length, List}
use Rattle.nv_ast.specs.declared.tree.Fun.{Fun}
use Rattle.nv_text_parser.proofs.DeclRules.{funs_start, funs_step, highest_fun_one, highest_fun_push}
use Rattle.nv_ast.specs.declared.token.Sort.TheVariants.{Key}
use Rattle.nv_text_parser.specs.inner.Failing.{read_none, read_next, no_memory}
use Rattle.nv_text_parser.proofs.Sequence.{carries_anything, one_reads, one_then, then_reads, read_many_reads, read_many_fails, item_fails, many_ends}
use Rattle.nv_text_parser.proofs.DeclPhrases.{funs_listed, and_goes_on, no_fun_here}
use Rattle.nv_text_parser.proofs.program.more_functions.Goals as goal

pub loop-after-init : goal.loop-after-init
loop-after-init c =
    let one : c.push.new.self.items ≡ c.args.first ∷ [] = c.in-Ok.ensures.items ∙ ap (λ (z : List Fun). z ++ c.args.first ∷ []) c.new-functions.ensures.items in
    record {
      read = funs_start _ _ _ one;
      items = read_none;
      low = highest_fun_one _ _ one c.requires;
      shorter = omega arith;
    }

pub loop-after-preserved : goal.loop-after-preserved
loop-after-preserved c = record {
  read = funs_step _ _ _ _ _ _ _ _ _ c.loop-after.invariant.read c.in-Some.ensures c.in-Ok-function.ensures.read c.in-Ok-push.ensures.items;
  items = read_next c.loop-after.invariant.items (then_reads carries_anything (one_reads (λ x. Key 3) _ _ tt c.in-Some.ensures) c.in-Ok-function.ensures.answers);
  low = highest_fun_push _ _ _ c.in-Ok-push.ensures.items c.loop-after.invariant.low c.in-Ok-function.ensures.low;
  shorter = omega (arith, c.loop-after.invariant.shorter, c.in-Ok-function.ensures.shorter, ap length c.in-Some.ensures);
}

pub returns-in-Err-clause-answers : goal.returns-in-Err-clause-answers
returns-in-Err-clause-answers c =
    no_memory

pub returns-in-Err-push-clause-answers : goal.returns-in-Err-push-clause-answers
returns-in-Err-push-clause-answers c =
    no_memory

pub returns-in-Err-function-clause-answers : goal.returns-in-Err-function-clause-answers
returns-in-Err-function-clause-answers c =
    read_many_fails funs_listed (omega arith) c.loop-after.invariant.items (item_fails funs_listed (omega arith) (and_goes_on c.in-Some.ensures) (one_then (λ x. Key 3) _ tt c.in-Some.ensures c.in-Err-function.ensures.answers))

pub returns-clause-answers : goal.returns-clause-answers
returns-clause-answers c =
    read_many_reads funs_listed (omega arith) c.loop-after.invariant.items (many_ends (no_fun_here _ _ c.in_default.ensures))
