use Rattle.std.proofs.Common.{◌≤◌, length}
use Rattle.std.specs.Prelude.{map}
use Rattle.nv_ast.specs.Height.{highest_fun}
use Rattle.nv_ast.specs.ProgramView.{fun_tree}
use Rattle.nv_text_parser.specs.inner.Failing.{Anything, ReadMany}
use Rattle.nv_text_parser.specs.inner.Lists.{FunsAfter}
use Rattle.nv_text_parser.specs.inner.Phrases.{NextFun}
use Rattle.nv_text_parser.proofs.program.more_functions.Given as goal

abbrev pub invariant-loop-after : goal.invariant-loop-after
invariant-loop-after l = record {
  read : FunsAfter (fun_tree l.fn.first) (map fun_tree l.functions.items) l.fn.tokens l.rest;
  items : ReadMany NextFun Anything 100 l.fn.tokens l.rest;
  low : highest_fun (map fun_tree l.functions.items) ≤ 100;
  shorter : length l.rest ≤ length l.fn.tokens;
}

abbrev pub decreases-loop-after : goal.decreases-loop-after
decreases-loop-after l = length l.rest
