use Rattle.std.proofs.Common.{◌+◌, ◌*◌, drop}
use Rattle.nv_types_table.specs.inner.Knowing.{ArePacked}
use Rattle.nv_types_table.proofs.FieldPacking.{PackSo}
use Rattle.nv_types_scopes.proofs.packing.+pack.Given as goal

abbrev pub decreases-can_pack : goal.decreases-can_pack
decreases-can_pack l = 4 * l.form + 3

abbrev pub decreases-packs : goal.decreases-packs
decreases-packs l = 4 * l.form + 2

abbrev pub decreases-can_pack_all : goal.decreases-can_pack_all
decreases-can_pack_all l = 4 * l.forms + 1

abbrev pub decreases-can_pack_choice : goal.decreases-can_pack_choice
decreases-can_pack_choice l = 4 * l.forms + 1

abbrev pub decreases-can_pack_one : goal.decreases-can_pack_one
decreases-can_pack_one l = 4 * l.forms

abbrev pub invariant-can_pack_all-loop-i : goal.invariant-can_pack_all-loop-i
invariant-can_pack_all-loop-i l = record {
  known : ArePacked l.table l.known.keys;
  so : PackSo l.table l.fn.forms l.fn.fields (drop l.i l.forms.items) (drop l.i l.fields.items);
}
