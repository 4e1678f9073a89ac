-- First faults of some faults and then others, at one span.
use Rattle.std.proofs.Common.{◌≡◌, refl, ap, sym, subst, ℕ, List, [], ◌∷◌, ◌++◌, Result}
use Rattle.nv_ast.specs.declared.token.Span.{Span}
use Rattle.nv_ast.specs.Faults.{Fault as FaultAt, at_span}
use Rattle.nv_types_table.specs.declared.error.TypeError.{TypeError}
use Rattle.nv_types_table.specs.declared.error.TypeError.TheVariants.{NoMemory, Fault, TooLarge}
use Rattle.nv_types_table.specs.inner.Faulty.{IsFirstOf, Judges}

pub first_append : (a b : List FaultAt) (e : TypeError) → IsFirstOf a e → IsFirstOf (a ++ b) e
first_append a b NoMemory h = tt
first_append a b (Fault kind s) h = (h.0 ++ b, ap (λ l. l ++ b) h.1)
first_append a b (TooLarge n) h = h

pub judges_behind : {T : Type 0} (a b : List FaultAt) (r : Result T TypeError) → a ≡ [] → Judges b r → Judges (a ++ b) r
judges_behind a b r none h = subst (λ l. Judges (l ++ b) r) (sym none) h

pub at_span-append : (s : Span) (xs ys : List ℕ) → at_span s (xs ++ ys) ≡ at_span s xs ++ at_span s ys
at_span-append s [] ys = refl
at_span-append s (x ∷ xs) ys = ap (λ l. (x, s) ∷ l) (at_span-append s xs ys)

-- the first of some kinds and then others
pub first_kind : (s : Span) (xs ys : List ℕ) (e : TypeError) → IsFirstOf (at_span s xs) e → IsFirstOf (at_span s (xs ++ ys)) e
first_kind s xs ys e h = subst (λ l. IsFirstOf l e) (sym (at_span-append s xs ys)) (first_append (at_span s xs) (at_span s ys) e h)

pub then_kinds : {T : Type 0} (s : Span) (xs ys : List ℕ) (r : Result T TypeError) → at_span s xs ≡ [] → Judges (at_span s ys) r → Judges (at_span s (xs ++ ys)) r
then_kinds s xs ys r none h = subst (λ l. Judges l r) (sym (at_span-append s xs ys)) (judges_behind (at_span s xs) (at_span s ys) r none h)
