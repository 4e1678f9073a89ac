-- Small choices of the walk that are made before a node is judged.
use Rattle.std.proofs.Common.{◌≡◌, ◌∙◌, refl, ap, sym, ℕ, Bool, List, Option, None, Some}
use Rattle.std.specs.Prelude.{option_to_list}
use Rattle.nv_ast.specs.Types.{Ty}
use Rattle.nv_ast.specs.Typing.{field_ty}
use Rattle.nv_ast.specs.Tests.{where_true, has_twice}
use Rattle.nv_ast.specs.Faults.{field_twice}
use Rattle.nv_types_table.specs.inner.Faulty.{first}
use Rattle.nv_types_table.specs.inner.Store.{Store, IsType, IsValue}

pub field_some : (s : Store) (x : List ℕ) (i : ℕ) (r : Option ℕ) → ((u : Ty) → IsType s i u → IsValue s r (field_ty x (Some u))) → (u : Option Ty) → IsValue s (Some i) u → IsValue s r (field_ty x u)
field_some s x i r h (Some u) is = h u is
field_some s x i r h None is = absurd is

pub field_none : (s : Store) (x : List ℕ) (u : Option Ty) → IsValue s None u → IsValue s None (field_ty x u)
field_none s x None is = tt
field_none s x (Some u) is = absurd is

first_only : (o : Option ℕ) → first (option_to_list o) ≡ o
first_only None = refl
first_only (Some x) = refl

pub kind_twice : (o : Option ℕ) (b : Bool) (names : List (List ℕ)) → option_to_list o ≡ where_true b 18 → b ≡ has_twice names → o ≡ first (field_twice names)
kind_twice o b names e f = sym (first_only o) ∙ ap (λ (l : List ℕ). first l) e ∙ ap (λ (c : Bool). first (where_true {A = ℕ} c 18)) f
