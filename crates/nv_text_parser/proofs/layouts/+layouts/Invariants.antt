-- Each call reads tokens, or goes on to a part over the same.
use Rattle.std.proofs.Common.{◌≡◌, ◌≤◌, ◌+◌, ◌*◌, length}
use Rattle.nv_ast.specs.Height.{highest_layout, highest_field}
use Rattle.nv_ast.specs.LayoutView.{layout_tree, field_tree, list_layouts, list_fields}
use Rattle.nv_text_parser.specs.inner.Failing.{Anything, ReadMany}
use Rattle.nv_text_parser.specs.inner.Follow.{Above}
use Rattle.nv_text_parser.specs.inner.Phrases.{NextLayout, NextField, NextAlternative}
use Rattle.nv_text_parser.specs.inner.Lists.{LayoutsAfter, FieldsAfter, AlternativesAfter}
use Rattle.nv_text_parser.proofs.layouts.+layouts.Given as goal

abbrev pub decreases-layout_atom : goal.decreases-layout_atom
decreases-layout_atom l = 8 * length l.tokens.now + 1

abbrev pub decreases-layout : goal.decreases-layout
decreases-layout l = 8 * length l.tokens.now + 2

abbrev pub decreases-alternative : goal.decreases-alternative
decreases-alternative l = 8 * length l.tokens.now + 3

abbrev pub decreases-alternative_field : goal.decreases-alternative_field
decreases-alternative_field l = 8 * length l.tokens.now + 4

abbrev pub decreases-field : goal.decreases-field
decreases-field l = 8 * length l.tokens.now + 5

abbrev pub decreases-overlay : goal.decreases-overlay
decreases-overlay l = 8 * length l.tokens.now + 7

abbrev pub decreases-parts : goal.decreases-parts
decreases-parts l = 8 * length l.tokens.now + 7

abbrev pub decreases-more_layouts : goal.decreases-more_layouts
decreases-more_layouts l = 8 * length l.tokens.now + 7

abbrev pub decreases-more_fields : goal.decreases-more_fields
decreases-more_fields l = 8 * length l.tokens.now + 7

abbrev pub decreases-more_alternatives : goal.decreases-more_alternatives
decreases-more_alternatives l = 8 * length l.tokens.now + 7

abbrev pub invariant-more_layouts-loop-after : goal.invariant-more_layouts-loop-after
invariant-more_layouts-loop-after l = record {
  read : LayoutsAfter (layout_tree l.fn.first) (list_layouts l.layouts.items) l.fn.tokens l.rest;
  items : ReadMany NextLayout Anything l.room l.fn.tokens l.rest;
  measured : l.highest ≡ highest_layout (list_layouts l.layouts.items);
  low : l.highest ≤ l.room;
  shorter : length l.rest ≤ length l.fn.tokens;
}

abbrev pub decreases-more_layouts-loop-after : goal.decreases-more_layouts-loop-after
decreases-more_layouts-loop-after l = length l.rest

abbrev pub invariant-more_fields-loop-after : goal.invariant-more_fields-loop-after
invariant-more_fields-loop-after l = record {
  read : FieldsAfter l.fn.name (field_tree l.fn.first) (list_fields l.fields.items) l.fn.tokens l.rest;
  items : ReadMany NextField (Above 0) l.room l.fn.tokens l.rest;
  measured : l.highest ≡ highest_field (list_fields l.fields.items);
  low : l.highest ≤ l.room;
  shorter : length l.rest ≤ length l.fn.tokens;
}

abbrev pub decreases-more_fields-loop-after : goal.decreases-more_fields-loop-after
decreases-more_fields-loop-after l = length l.rest

abbrev pub invariant-more_alternatives-loop-after : goal.invariant-more_alternatives-loop-after
invariant-more_alternatives-loop-after l = record {
  read : AlternativesAfter l.fn.name (field_tree l.fn.first) (list_fields l.alternatives.items) l.fn.tokens l.rest;
  items : ReadMany NextAlternative (Above 0) l.room l.fn.tokens l.rest;
  measured : l.highest ≡ highest_field (list_fields l.alternatives.items);
  low : l.highest ≤ l.room;
  shorter : length l.rest ≤ length l.fn.tokens;
}

abbrev pub decreases-more_alternatives-loop-after : goal.decreases-more_alternatives-loop-after
decreases-more_alternatives-loop-after l = length l.rest
