use Rattle.std.proofs.Common.{◌≡◌, take}
use Rattle.nv_ast.specs.Types.{types_of, named_types_of}
use Rattle.nv_ast.specs.TypeView.{list_types, list_named_types}
use Rattle.nv_meaning.specs.inner.Blanks.{blanks, named_blanks}
use Rattle.nv_meaning_values.specs.inner.TableView.{declared_in}
use Rattle.nv_meaning_values.specs.inner.View.{list_values, list_named_values}
use Rattle.nv_meaning.proofs.arguments.+blank.Given as goal

abbrev pub invariant-blank_parts-loop-ty : goal.invariant-blank_parts-loop-ty
invariant-blank_parts-loop-ty l = list_values l.vs.items ≡ blanks (types_of (declared_in l.t).layouts (list_types (take l.ty-index l.tys)))

abbrev pub invariant-blank_fields-loop-ty : goal.invariant-blank_fields-loop-ty
invariant-blank_fields-loop-ty l = list_named_values l.fields.items ≡ named_blanks (named_types_of (declared_in l.t).layouts (list_named_types (take l.ty-index l.tys)))
