-- Each call reads tokens, or goes on to a part over the same.
use Rattle.std.proofs.Common.{◌≡◌, ◌≤◌, ◌+◌, ◌*◌, length, List}
use Rattle.nv_ast.specs.declared.token.Token.{Token}
use Rattle.nv_ast.specs.Tree.{Tree}
use Rattle.nv_ast.specs.Grammar.{IsRest}
use Rattle.nv_ast.specs.Height.{height, highest, highest_named, highest_statement, pattern_inside, pattern_inside_all, pattern_inside_named, pattern_inside_statements}
use Rattle.nv_ast.specs.ExprView.{tree_of, statement_tree, list_trees, list_named_trees, list_statements}
use Rattle.nv_text_parser.specs.inner.Follow.{Above}
use Rattle.nv_text_parser.specs.inner.Failing.{ReadMany}
use Rattle.nv_text_parser.specs.inner.ExprPhrases.{NextExpr, NextMember, ABody, ARest, Onward}
use Rattle.nv_text_parser.specs.inner.Lists.{ExprsAfter, MembersAfter, StatementsAfter}
use Rattle.nv_text_parser.proofs.+expressions.Given as goal

abbrev pub decreases-operands::high_atom : goal.decreases-operands::high_atom
decreases-operands::high_atom l = 32 * length l.tokens.now + 1

abbrev pub decreases-operands::fetch : goal.decreases-operands::fetch
decreases-operands::fetch l = 32 * length l.tokens.now + 0

abbrev pub decreases-operands::named : goal.decreases-operands::named
decreases-operands::named l = 32 * length l.tokens.now + 1

abbrev pub decreases-operands::atom : goal.decreases-operands::atom
decreases-operands::atom l = 32 * length l.tokens.now + 2

abbrev pub decreases-operands::una : goal.decreases-operands::una
decreases-operands::una l = 32 * length l.tokens.now + 3

abbrev pub decreases-expressions::tail : goal.decreases-expressions::tail
decreases-expressions::tail l = 32 * length l.tokens.now + 14

abbrev pub decreases-expressions::store : goal.decreases-expressions::store
decreases-expressions::store l = 32 * length l.tokens.now + 15

abbrev pub decreases-expressions::statement : goal.decreases-expressions::statement
decreases-expressions::statement l = 32 * length l.tokens.now + 16

abbrev pub decreases-expressions::block : goal.decreases-expressions::block
decreases-expressions::block l = 32 * length l.tokens.now + 17

abbrev pub decreases-expressions::expr : goal.decreases-expressions::expr
decreases-expressions::expr l = 32 * length l.tokens.now + 18

abbrev pub decreases-expressions::args : goal.decreases-expressions::args
decreases-expressions::args l = 32 * length l.tokens.now + 19

abbrev pub decreases-expressions::if_else : goal.decreases-expressions::if_else
decreases-expressions::if_else l = 32 * length l.tokens.now + 20

abbrev pub decreases-expressions::raise : goal.decreases-expressions::raise
decreases-expressions::raise l = 32 * length l.tokens.now + 20

abbrev pub decreases-expressions::try_handle : goal.decreases-expressions::try_handle
decreases-expressions::try_handle l = 32 * length l.tokens.now + 20

abbrev pub decreases-operands::invert : goal.decreases-operands::invert
decreases-operands::invert l = 32 * length l.tokens.now + 20

abbrev pub decreases-operands::negate : goal.decreases-operands::negate
decreases-operands::negate l = 32 * length l.tokens.now + 20

abbrev pub decreases-operands::unpack : goal.decreases-operands::unpack
decreases-operands::unpack l = 32 * length l.tokens.now + 20

abbrev pub decreases-operands::pack : goal.decreases-operands::pack
decreases-operands::pack l = 32 * length l.tokens.now + 20

abbrev pub decreases-operands::bracket : goal.decreases-operands::bracket
decreases-operands::bracket l = 32 * length l.tokens.now + 20

abbrev pub decreases-operands::record_text : goal.decreases-operands::record_text
decreases-operands::record_text l = 32 * length l.tokens.now + 20

abbrev pub decreases-expressions::more_exprs : goal.decreases-expressions::more_exprs
decreases-expressions::more_exprs l = 32 * length l.tokens.now + 20

abbrev pub decreases-operands::more_members : goal.decreases-operands::more_members
decreases-operands::more_members l = 32 * length l.tokens.now + 20

abbrev pub decreases-expressions::more_statements : goal.decreases-expressions::more_statements
decreases-expressions::more_statements l = 32 * length l.tokens.now + 20

abbrev pub decreases-operands::chain : goal.decreases-operands::chain
decreases-operands::chain l = 32 * length l.tokens.now + 20

abbrev pub decreases-operands::comparison : goal.decreases-operands::comparison
decreases-operands::comparison l = 32 * length l.tokens.now + 20

abbrev pub decreases-operands::level : goal.decreases-operands::level
decreases-operands::level l = 32 * length l.tokens.now + l.l + 4

abbrev pub invariant-expressions::more_exprs-loop-after : goal.invariant-expressions::more_exprs-loop-after
invariant-expressions::more_exprs-loop-after l = record {
  items : ReadMany NextExpr (Above 9) l.room l.fn.tokens l.rest;
  read : ExprsAfter (tree_of l.fn.first) (list_trees l.exprs.items) l.fn.tokens l.rest;
  measured : l.highest ≡ highest (list_trees l.exprs.items);
  low : l.highest ≤ l.room;
  inside : pattern_inside_all (list_trees l.exprs.items) ≤ 100;
  shorter : length l.rest ≤ length l.fn.tokens;
}

abbrev pub decreases-expressions::more_exprs-loop-after : goal.decreases-expressions::more_exprs-loop-after
decreases-expressions::more_exprs-loop-after l = length l.rest

abbrev pub invariant-operands::more_members-loop-after : goal.invariant-operands::more_members-loop-after
invariant-operands::more_members-loop-after l = record {
  items : ReadMany NextMember (Above 9) l.room l.fn.tokens l.rest;
  read : MembersAfter l.fn.name (tree_of l.fn.first) (list_named_trees l.members.items) l.fn.tokens l.rest;
  measured : l.highest ≡ highest_named (list_named_trees l.members.items);
  low : l.highest ≤ l.room;
  inside : pattern_inside_named (list_named_trees l.members.items) ≤ 100;
  shorter : length l.rest ≤ length l.fn.tokens;
}

abbrev pub decreases-operands::more_members-loop-after : goal.decreases-operands::more_members-loop-after
decreases-operands::more_members-loop-after l = length l.rest

abbrev pub invariant-expressions::more_statements-loop-alloc : goal.invariant-expressions::more_statements-loop-alloc
invariant-expressions::more_statements-loop-alloc l = record {
  onward : Onward ABody ABody (Above 9) l.room l.rest l.fn.tokens;
  read : StatementsAfter (statement_tree l.fn.first) (list_statements l.statements.items) l.fn.tokens l.rest;
  measured : l.highest ≡ highest_statement (list_statements l.statements.items);
  low : l.highest ≤ l.room;
  inside : pattern_inside_statements (list_statements l.statements.items) ≤ 100;
  shorter : length l.rest ≤ length l.fn.tokens;
}

abbrev pub decreases-expressions::more_statements-loop-alloc : goal.decreases-expressions::more_statements-loop-alloc
decreases-expressions::more_statements-loop-alloc l = length l.rest

abbrev pub invariant-operands::chain-loop-op : goal.invariant-operands::chain-loop-op
invariant-operands::chain-loop-op l = record {
  onward : Onward (ARest l.l (tree_of l.left)) (ARest l.l (tree_of l.fn.first)) (Above (l.l + 2)) l.room l.rest l.fn.tokens;
  read : (e : Tree) (k : List Token) → IsRest l.l (tree_of l.left) e l.rest k → IsRest l.l (tree_of l.fn.first) e l.fn.tokens k;
  measured : l.highest ≡ height (tree_of l.left);
  low : l.highest ≤ l.room;
  inside : pattern_inside (tree_of l.left) ≤ 100;
  shorter : length l.rest ≤ length l.fn.tokens;
}

abbrev pub decreases-operands::chain-loop-op : goal.decreases-operands::chain-loop-op
decreases-operands::chain-loop-op l = length l.rest

abbrev pub decreases-expressions::enclosed : goal.decreases-expressions::enclosed
decreases-expressions::enclosed l = 32 * length l.tokens.now + 1
