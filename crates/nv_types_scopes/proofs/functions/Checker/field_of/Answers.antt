use Rattle.std.proofs.Common.{ℕ, sym, subst, Option, None}
use Rattle.nv_ast.specs.Types.{Ty}
use Rattle.nv_ast.specs.Typing.{field_ty}
use Rattle.nv_types_table.specs.inner.Store.{IsValue}
use Rattle.nv_types_scopes.proofs.WalkTests.{field_some, field_none}
use Rattle.nv_types_scopes.proofs.functions.Checker.field_of.Goals as goal

pub returns-in-Some : goal.returns-in-Some
returns-in-Some c =
    subst (λ (o : Option ℕ). (u : Option Ty) → IsValue c.args.self.now.table o u → IsValue c.args.self.now.table c.field_type.result (field_ty c.args.name.now u)) (sym c.in-Some.is)
    (field_some c.args.self.now.table c.args.name.now c.in-Some.t c.field_type.result c.field_type.ensures)

pub returns-in-None : goal.returns-in-None
returns-in-None c =
    subst (λ (o : Option ℕ). (u : Option Ty) → IsValue c.args.self.now.table o u → IsValue c.args.self.now.table None (field_ty c.args.name.now u)) (sym c.in-None.is)
    (field_none c.args.self.now.table c.args.name.now)
