-- Each call reads tokens, or goes on to a part over the same.
use Rattle.std.proofs.Common.{◌≡◌, ◌≤◌, ◌+◌, ◌*◌, length}
use Rattle.nv_ast.specs.Height.{highest_pattern}
use Rattle.nv_ast.specs.PatternView.{pattern_tree, list_patterns}
use Rattle.nv_text_parser.specs.inner.Failing.{Anything, ReadMany}
use Rattle.nv_text_parser.specs.inner.Lists.{PatternsAfter}
use Rattle.nv_text_parser.specs.inner.Phrases.{NextPattern}
use Rattle.nv_text_parser.proofs.patterns.+patterns.Given as goal

abbrev pub decreases-pattern : goal.decreases-pattern
decreases-pattern l = 8 * length l.tokens.now + 1

abbrev pub decreases-tuple_pattern : goal.decreases-tuple_pattern
decreases-tuple_pattern l = 8 * length l.tokens.now + 2

abbrev pub decreases-more_patterns : goal.decreases-more_patterns
decreases-more_patterns l = 8 * length l.tokens.now + 2

abbrev pub invariant-more_patterns-loop-after : goal.invariant-more_patterns-loop-after
invariant-more_patterns-loop-after l = record {
  read : PatternsAfter (pattern_tree l.fn.first) (list_patterns l.patterns.items) l.fn.tokens l.rest;
  items : ReadMany NextPattern Anything l.room l.fn.tokens l.rest;
  measured : l.highest ≡ highest_pattern (list_patterns l.patterns.items);
  low : l.highest ≤ l.room;
  shorter : length l.rest ≤ length l.fn.tokens;
}

abbrev pub decreases-more_patterns-loop-after : goal.decreases-more_patterns-loop-after
decreases-more_patterns-loop-after l = length l.rest
