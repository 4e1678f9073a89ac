-- Each call reads tokens, or goes on to a part over the same.
use Rattle.std.proofs.Common.{◌≡◌, ◌≤◌, ◌+◌, ◌*◌, length}
use Rattle.nv_ast.specs.Height.{highest_type, highest_named_type}
use Rattle.nv_ast.specs.TypeView.{type_tree, list_types, list_named_types}
use Rattle.nv_text_parser.specs.inner.Failing.{ReadMany}
use Rattle.nv_text_parser.specs.inner.Follow.{Above}
use Rattle.nv_text_parser.specs.inner.Lists.{TypesAfter, NamedTypesAfter}
use Rattle.nv_text_parser.specs.inner.Phrases.{NextType, NextNamedType}
use Rattle.nv_text_parser.proofs.types.+types.Given as goal

abbrev pub decreases-type_text : goal.decreases-type_text
decreases-type_text l = 8 * length l.tokens.now + 1

abbrev pub decreases-tuple_type : goal.decreases-tuple_type
decreases-tuple_type l = 8 * length l.tokens.now + 2

abbrev pub decreases-record_type : goal.decreases-record_type
decreases-record_type l = 8 * length l.tokens.now + 2

abbrev pub decreases-more_types : goal.decreases-more_types
decreases-more_types l = 8 * length l.tokens.now + 2

abbrev pub decreases-more_named_types : goal.decreases-more_named_types
decreases-more_named_types l = 8 * length l.tokens.now + 2

abbrev pub invariant-more_types-loop-after : goal.invariant-more_types-loop-after
invariant-more_types-loop-after l = record {
  read : TypesAfter (type_tree l.fn.first) (list_types l.types.items) l.fn.tokens l.rest;
  items : ReadMany NextType (Above 0) l.room l.fn.tokens l.rest;
  measured : l.highest ≡ highest_type (list_types l.types.items);
  low : l.highest ≤ l.room;
  shorter : length l.rest ≤ length l.fn.tokens;
}

abbrev pub decreases-more_types-loop-after : goal.decreases-more_types-loop-after
decreases-more_types-loop-after l = length l.rest

abbrev pub invariant-more_named_types-loop-after : goal.invariant-more_named_types-loop-after
invariant-more_named_types-loop-after l = record {
  read : NamedTypesAfter l.fn.name (type_tree l.fn.first) (list_named_types l.types.items) l.fn.tokens l.rest;
  items : ReadMany NextNamedType (Above 0) l.room l.fn.tokens l.rest;
  measured : l.highest ≡ highest_named_type (list_named_types l.types.items);
  low : l.highest ≤ l.room;
  shorter : length l.rest ≤ length l.fn.tokens;
}

abbrev pub decreases-more_named_types-loop-after : goal.decreases-more_named_types-loop-after
decreases-more_named_types-loop-after l = length l.rest
