use Rattle.std.proofs.Common.{◌≡◌, ◌≤◌, length, List}
use Rattle.nv_ast.specs.declared.token.Token.{Token}
use Rattle.nv_ast.specs.Tree.{Tree}
use Rattle.nv_ast.specs.Grammar.{IsDots}
use Rattle.nv_ast.specs.Height.{height, pattern_inside}
use Rattle.nv_ast.specs.ExprView.{tree_of}
use Rattle.nv_text_parser.specs.inner.Follow.{Above}
use Rattle.nv_text_parser.specs.inner.ExprPhrases.{SomeDots, Onward}
use Rattle.nv_text_parser.proofs.operands.dots.Given as goal

abbrev pub invariant-loop-after : goal.invariant-loop-after
invariant-loop-after l = record {
  onward : Onward (SomeDots (tree_of l.left)) (SomeDots (tree_of l.fn.first)) (Above 1) l.room l.rest l.fn.tokens;
  read : (e : Tree) (k : List Token) → IsDots (tree_of l.left) e l.rest k → IsDots (tree_of l.fn.first) e l.fn.tokens k;
  measured : l.highest ≡ height (tree_of l.left);
  low : l.highest ≤ l.room;
  inside : pattern_inside (tree_of l.left) ≤ 100;
  shorter : length l.rest ≤ length l.fn.tokens;
}

abbrev pub decreases-loop-after : goal.decreases-loop-after
decreases-loop-after l = length l.rest
