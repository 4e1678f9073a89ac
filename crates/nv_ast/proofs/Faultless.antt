-- Faults that aren't there.
use Rattle.std.proofs.Common.{◌≡◌, refl, ℕ, Bool, true, false, List, [], ◌∷◌, ◌++◌}
use Rattle.nv_ast.specs.declared.token.Span.{Span}
use Rattle.nv_ast.specs.Tests.{where_true}
use Rattle.nv_ast.specs.Faults.{at_span}

not_empty : {A : Type 0} (x : A) (xs : List A) → x ∷ xs ≡ [] → ⊥
not_empty x xs e = cc

pub no_front : {A : Type 0} (xs ys : List A) → xs ++ ys ≡ [] → xs ≡ []
no_front [] ys e = refl
no_front (x ∷ xs) ys e = absurd (not_empty x (xs ++ ys) e)

pub no_rest : {A : Type 0} (xs ys : List A) → xs ++ ys ≡ [] → ys ≡ []
no_rest [] ys e = e
no_rest (x ∷ xs) ys e = absurd (not_empty x (xs ++ ys) e)

pub no_kinds : (s : Span) (kinds : List ℕ) → at_span s kinds ≡ [] → kinds ≡ []
no_kinds s [] e = refl
no_kinds s (x ∷ xs) e = absurd (not_empty (x, s) (at_span s xs) e)

pub not_where : {A : Type 0} (b : Bool) (x : A) → where_true b x ≡ [] → b ≡ false
not_where true x e = absurd (not_empty x [] e)
not_where false x e = refl
