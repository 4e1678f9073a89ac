use Rattle.std.proofs.Common.{◌≡◌, ◌+◌, ◌*◌, [], take}
use Rattle.nv_ast.specs.Faults.{types_faults, named_types_faults}
use Rattle.nv_ast.specs.Height.{type_height, highest_type, highest_named_type}
use Rattle.nv_ast.specs.Scope.{Known}
use Rattle.nv_ast.specs.Types.{types_of, named_types_of}
use Rattle.nv_ast.specs.TypeView.{type_tree, list_types, list_named_types}
use Rattle.nv_types_table.specs.inner.Named.{named}
use Rattle.nv_types_table.specs.inner.Store.{AreTypes, AreFields}
use Rattle.nv_types_scopes.specs.inner.Standing.{Holds, Keeps}
use Rattle.nv_types_scopes.proofs.functions.Checker.+type_text.Given as goal

abbrev pub invariant-type_texts-loop-text : goal.invariant-type_texts-loop-text
invariant-type_texts-loop-text l = record {
  keeps : Keeps l.initial.self l.self;
  none : (k : Known) → Holds l.initial.self k → types_faults k.layouts (list_types (take l.text-index l.texts)) ≡ [];
  typed : (k : Known) → Holds l.initial.self k → AreTypes l.self.table l.types.items (types_of k.layouts (list_types (take l.text-index l.texts)));
}

abbrev pub invariant-named_texts-loop-text : goal.invariant-named_texts-loop-text
invariant-named_texts-loop-text l = record {
  keeps : Keeps l.initial.self l.self;
  none : (k : Known) → Holds l.initial.self k → named_types_faults k.layouts (list_named_types (take l.text-index l.texts)) ≡ [];
  typed : (k : Known) → Holds l.initial.self k → AreFields l.self.table (named l.types.items) (named_types_of k.layouts (list_named_types (take l.text-index l.texts)));
}

abbrev pub decreases-type_text : goal.decreases-type_text
decreases-type_text l = 2 * type_height (type_tree l.text.now)

abbrev pub decreases-type_texts : goal.decreases-type_texts
decreases-type_texts l = 2 * highest_type (list_types l.texts.now) + 1

abbrev pub decreases-named_texts : goal.decreases-named_texts
decreases-named_texts l = 2 * highest_named_type (list_named_types l.texts.now) + 1
