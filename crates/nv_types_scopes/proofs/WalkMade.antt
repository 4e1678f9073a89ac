-- A record that is made of fields.
use Rattle.std.proofs.Common.{◌≡◌, subst, ℕ, List, Option, None, Some, Result}
use Rattle.nv_ast.specs.declared.token.Span.{Span}
use Rattle.nv_ast.specs.Types.{Ty, RecordTy, NamedTys}
use Rattle.nv_ast.specs.Faults.{Expected as ExpectedTree, field_twice}
use Rattle.nv_types_table.specs.declared.error.TypeError.{TypeError}
use Rattle.nv_types_scopes.specs.declared.expected.Expected.{Expected}
use Rattle.nv_types_table.specs.inner.Faulty.{Judges, first}
use Rattle.nv_types_table.specs.inner.Store.{Store, Extends, IsType, IsValue, AreFields, field_names}
use Rattle.nv_types_scopes.specs.inner.Judging.{IsExpected, judged_faults}
use Rattle.nv_types_scopes.proofs.Holding.{wanted_stays}

pub made_judged : {T : Type 0} (old new : Store) (s : Span) (expected : Expected) (is : List (List ℕ × ℕ)) (t : ℕ) (twice : Option ℕ) (r : Result T TypeError) → Extends old new
    → ((ts : NamedTys) → AreFields old is ts → IsType new t (RecordTy ts)) → ((ts : NamedTys) → AreFields old is ts → twice ≡ first (field_twice (field_names ts)))
    → ((w : ExpectedTree) (u : Option Ty) → IsExpected new expected w → IsValue new (Some t) u → Judges (judged_faults s w u None twice) r)
    → (w : ExpectedTree) (ts : NamedTys) → IsExpected old expected w → AreFields old is ts → Judges (judged_faults s w (Some (RecordTy ts)) None (first (field_twice (field_names ts)))) r
made_judged old new s expected is t twice r grows made twice_is judged w ts wants h =
    subst (λ (m : Option ℕ). Judges (judged_faults s w (Some (RecordTy ts)) None m) r) (twice_is ts h) (judged w (Some (RecordTy ts)) (wanted_stays old new grows expected w wants) (made ts h))
