-- The stack of variables, as it grows and shrinks.
use Rattle.std.proofs.Common.{◌≡◌, ◌∙◌, refl, ap, sym, subst, ℕ, Bool, true, false, cond, List, [], ◌∷◌, ◌++◌, map, reverse, Option, Some, bytes_eq}
use Rattle.std.proofs.lemmas.List.{reverse-append}
use Rattle.std.specs.Borrow.{Bor}
use Rattle.std.specs.Map.{lookup}
use Rattle.std.specs.Cmp.Lexicographic.{nat_list_eq_equiv, bytes_decides}
use Rattle.nv_ast.specs.Tests.{look_up}
use Rattle.nv_types_scopes.specs.declared.scope.Binding.{Binding}
use Rattle.nv_types_scopes.specs.inner.Stack.{bound_pair, bindings, Hides, IsScope}

newest_first : (stack : List Binding) (b : Binding) → reverse (stack ++ b ∷ []) ≡ b ∷ reverse stack
newest_first stack b = reverse-append stack (b ∷ [])

pub bindings-push : (stack : List Binding) (b : Binding) → bindings (stack ++ b ∷ []) ≡ bound_pair b ∷ bindings stack
bindings-push stack b = ap (map bound_pair) (newest_first stack b)

pub IsScope-push : (stack : List Binding) (seen more : List (Bor (List ℕ) × ℕ)) (b : Binding)
    → IsScope stack seen
    → b.hidden ≡ look_up b.name.now (bindings stack)
    → ((x : List ℕ) → lookup (λ k. bytes_eq x k.now) more ≡ cond (bytes_eq b.name.now x) (Some b.bound) (lookup (λ k. bytes_eq x k.now) seen))
    → IsScope (stack ++ b ∷ []) more
IsScope-push stack seen more b is hidden after = record {
  hides = subst Hides (sym (newest_first stack b)) (hidden, is.hides);
  seen_first = λ x.
      after x
      ∙ ap (λ t. cond t (Some b.bound) (lookup (λ k. bytes_eq x k.now) seen)) (nat_list_eq_equiv.symm b.name.now x)
      ∙ ap (cond (bytes_eq x b.name.now) (Some b.bound)) (is.seen_first x)
      ∙ ap (look_up x) (sym (bindings-push stack b));
}

hidden_again : (x y : List ℕ) (t : ℕ) (hidden : Option ℕ) (older : List (List ℕ × ℕ)) (b : Bool) → bytes_eq y x ≡ b → hidden ≡ look_up y older → cond b hidden (look_up x ((y, t) ∷ older)) ≡ look_up x older
hidden_again x y t hidden older true e h = h ∙ ap (λ z. look_up z older) ((bytes_decides y x).0 e)
hidden_again x y t hidden older false e h = ap (λ c. cond c (Some t) (look_up x older)) (nat_list_eq_equiv.symm x y ∙ e)

pub IsScope-pop : (stack : List Binding) (seen less : List (Bor (List ℕ) × ℕ)) (b : Binding)
    → IsScope (stack ++ b ∷ []) seen
    → ((x : List ℕ) → lookup (λ k. bytes_eq x k.now) less ≡ cond (bytes_eq b.name.now x) b.hidden (lookup (λ k. bytes_eq x k.now) seen))
    → IsScope stack less
IsScope-pop stack seen less b is after =
    let all = subst Hides (newest_first stack b) is.hides in
    record {
      hides = all.1;
      seen_first = λ x.
          after x
          ∙ ap (cond (bytes_eq b.name.now x) b.hidden) (is.seen_first x ∙ ap (look_up x) (bindings-push stack b))
          ∙ hidden_again x b.name.now b.bound b.hidden (bindings stack) (bytes_eq b.name.now x) refl all.0;
    }

-- the newest variable is seen
pub newest_seen : (stack : List Binding) (seen : List (Bor (List ℕ) × ℕ)) (b : Binding) → IsScope (stack ++ b ∷ []) seen → lookup (λ k. bytes_eq b.name.now k.now) seen ≡ Some b.bound
newest_seen stack seen b is =
    is.seen_first b.name.now
    ∙ ap (look_up b.name.now) (bindings-push stack b)
    ∙ ap (λ c. cond c (Some b.bound) (look_up b.name.now (bindings stack))) ((bytes_decides b.name.now b.name.now).1 refl)
