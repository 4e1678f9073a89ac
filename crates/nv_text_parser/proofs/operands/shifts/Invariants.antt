use Rattle.std.proofs.Common.{◌≡◌, ◌≤◌, length, List}
use Rattle.nv_ast.specs.declared.token.Token.{Token}
use Rattle.nv_ast.specs.Tree.{Tree}
use Rattle.nv_ast.specs.Grammar.{IsRest}
use Rattle.nv_ast.specs.Height.{height, pattern_inside}
use Rattle.nv_ast.specs.ExprView.{tree_of}
use Rattle.nv_text_parser.specs.inner.Follow.{Above}
use Rattle.nv_text_parser.specs.inner.ExprPhrases.{ARest, Onward}
use Rattle.nv_text_parser.proofs.operands.shifts.Given as goal

abbrev pub invariant-loop-op : goal.invariant-loop-op
invariant-loop-op l = record {
  onward : Onward (ARest 1 (tree_of l.left)) (ARest 1 (tree_of l.fn.first)) (Above 3) l.room l.rest l.fn.tokens;
  read : (e : Tree) (k : List Token) → IsRest 1 (tree_of l.left) e l.rest k → IsRest 1 (tree_of l.fn.first) e l.fn.tokens k;
  measured : l.highest ≡ height (tree_of l.left);
  low : l.highest ≤ l.room;
  inside : pattern_inside (tree_of l.left) ≤ 100;
  shorter : length l.rest ≤ length l.fn.tokens;
}

abbrev pub decreases-loop-op : goal.decreases-loop-op
decreases-loop-op l = length l.rest
