use Rattle.std.proofs.Common.{sym, subst, refl, ℕ, Option, Some}
use Rattle.nv_ast.specs.Typing.{field_ty}
use Rattle.nv_types_table.specs.inner.Store.{IsValue}
use Rattle.nv_types_table.proofs.FieldWalks.{field_value, no_record_field, no_such_field}
use Rattle.nv_types_table.proofs.record_fields.field_type.Goals as goal

pub returns-in_err-number : goal.returns-in_err-number
returns-in_err-number c = λ u h.
    subst (λ (r : Option ℕ). IsValue c.args.table.now r (field_ty c.args.name.now (Some u))) (sym c.from_residual.ensures) (no_such_field c.args.table.now c.args.name.now (c.in_err-number.ensures.absent refl) c.args.t u h)

pub returns-in_err-fields : goal.returns-in_err-fields
returns-in_err-fields c = λ u h.
    subst (λ (r : Option ℕ). IsValue c.args.table.now r (field_ty c.args.name.now (Some u))) (sym c.from_residual-in_err-fields.ensures)
    (no_record_field c.args.table.now c.args.name.now c.args.t (sym c.in_err-fields.ensures.value) u h)

pub returns : goal.returns
returns c =
    field_value c.args.table.now c.in_ok-fields.ensures.store c.args.name.now c.in_ok-number.number c.args.t c.in_ok-fields.fields c.field_in.result c.in_ok-number.ensures.there (sym c.in_ok-fields.ensures.value) c.field_in.ensures.found
