-- Things that are looked up by name.
use Rattle.std.proofs.Common.{◌≡◌, refl, ap, ℕ, cond, List, [], ◌∷◌, ◌++◌, Some, bytes_eq}
use Rattle.std.specs.Borrow.{Bor}
use Rattle.std.specs.Map.{lookup}
use Rattle.nv_ast.specs.Tests.{look_up}
use Rattle.nv_types_table.specs.inner.Named.{named}

pub look_up-named : {T : Type 0} (x : List ℕ) (es : List (Bor (List ℕ) × T)) → lookup (λ k. bytes_eq x k.now) es ≡ look_up x (named es)
look_up-named x [] = refl
look_up-named x (e ∷ es) = ap (λ r. cond (bytes_eq x e.0.now) (Some e.1) r) (look_up-named x es)

pub named-append : {T : Type 0} (xs ys : List (Bor (List ℕ) × T)) → named (xs ++ ys) ≡ named xs ++ named ys
named-append [] ys = refl
named-append (x ∷ xs) ys = ap (λ l. (x.0.now, x.1) ∷ l) (named-append xs ys)
