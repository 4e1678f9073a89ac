use Rattle.std.proofs.Common.{ℕ, sym, subst, Option, Some, None}
use Rattle.nv_types_scopes.specs.declared.expected.Expected.TheVariants.{Value, Typed}
use Rattle.nv_types_scopes.specs.inner.Walk.{ExpectsNext}
use Rattle.nv_types_scopes.proofs.WalkLists.{next_value, next_none, next_some}
use Rattle.nv_types_scopes.proofs.functions.Checker.next_expected.Goals as goal

pub returns-in_default : goal.returns-in_default
returns-in_default c = subst (λ (o : Option ℕ). ExpectsNext c.args.self.now.table o Value None) (sym c.in_default.is) (next_value c.args.self.now.table)

pub returns-in-Some-first_part : goal.returns-in-Some-first_part
returns-in-Some-first_part c =
    let s = c.args.self.now.table in
    subst (λ (o : Option ℕ). ExpectsNext c.args.self.now.table o (Typed c.in-Some-first_part.t) (Some c.in-Some-first_part.rest)) (sym c.in-Some.is)
    (next_some s c.first_part.ensures.store c.in-Some.list c.in-Some-first_part.t c.in-Some-first_part.rest (sym c.in-Some-first_part.ensures.value))

pub returns-in-None : goal.returns-in-None
returns-in-None c = subst (λ (o : Option ℕ). ExpectsNext c.args.self.now.table o Value None) (sym c.in-Some.is) (next_none c.args.self.now.table c.in-Some.list (sym c.in-None.ensures.value))
