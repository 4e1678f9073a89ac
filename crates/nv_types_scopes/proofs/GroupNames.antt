-- The walk over a group's names.
use Rattle.std.proofs.Common.{◌≡◌, ◌∙◌, refl, ap, sym, subst, ℕ, Bool, true, false, cond, ◌||◌, List, [], ◌∷◌, ◌++◌, bytes_eq}
use Rattle.std.specs.Borrow.{Bor}
use Rattle.std.specs.List.{list_any}
use Rattle.std.proofs.lemmas.List.Folds.{list_any-append}
use Rattle.std.proofs.lemmas.Bool.{or_left, or_right}
use Rattle.nv_ast.specs.declared.token.Span.{Span}
use Rattle.nv_ast.specs.Tree.{FunTree}
use Rattle.nv_ast.specs.Tests.{is_among, where_true}
use Rattle.nv_ast.specs.Faults.{Fault as FaultAt, at_span, declared_before, name_faults}
use Rattle.nv_types_table.specs.declared.error.TypeError.{TypeError}
use Rattle.nv_types_table.specs.declared.error.TypeError.TheVariants.{NoMemory, Fault, TooLarge}
use Rattle.nv_types_table.specs.inner.Faulty.{IsFirstOf}
use Rattle.nv_ast.proofs.Faultless.{no_kinds, not_where}
use Rattle.nv_types_table.proofs.Firsts.{first_append}

abbrev pub among_keys : List ℕ → List (Bor (List ℕ)) → Bool
among_keys x keys = list_any (λ k. bytes_eq x k.now) keys

-- some names were seen: those of earlier groups, and the group's own so far
pub record Seen (known : List (List ℕ)) (keys : List (Bor (List ℕ))) (all rest : List FunTree) : Type 0 where
  pub seen : List (List ℕ)
  pub same : (x : List ℕ) → is_among x seen ≡ (among_keys x keys || is_among x known)
  pub left : name_faults known all ≡ name_faults seen rest

pub seen_start : (known : List (List ℕ)) (all : List FunTree) → Seen known [] all all
seen_start known all = record { seen = known; same = λ x. refl; left = refl }

nothing_first : (e : TypeError) (faults : List FaultAt) → IsFirstOf [] e → IsFirstOf faults e
nothing_first NoMemory faults h = tt
nothing_first (Fault kind s) faults h = absurd (clash (kind, s) h.0 h.1)
  where
    clash : (x : FaultAt) (xs : List FaultAt) → [] ≡ x ∷ xs → ⊥
    clash x xs q = cc
nothing_first (TooLarge n) faults h = absurd h

-- where a name was seen, the fault is the first
pub seen_fault : (known : List (List ℕ)) (keys : List (Bor (List ℕ))) (all rest : List FunTree) (f : FunTree) (found : Bool) (e : TypeError)
    → Seen known keys all (f ∷ rest) → (found ≡ true → (among_keys f.name keys || is_among f.name known) ≡ true) → IsFirstOf (at_span f.span (where_true found 2)) e → IsFirstOf (name_faults known all) e
seen_fault known keys all rest f false e s h first = nothing_first e (name_faults known all) first
seen_fault known keys all rest f true e s h first =
    let here : IsFirstOf (at_span f.span (declared_before f.name s.seen)) e = subst (λ b. IsFirstOf (at_span f.span (where_true b 2)) e) (sym (s.same f.name ∙ h refl)) first in
    subst (λ l. IsFirstOf l e) (sym s.left) (first_append (at_span f.span (declared_before f.name s.seen)) (name_faults (f.name ∷ s.seen) rest) e here)

or_turned : (p q r : Bool) → (p || (q || r)) ≡ ((q || (p || false)) || r)
or_turned true true r = refl
or_turned true false r = refl
or_turned false true r = refl
or_turned false false r = refl

pub seen_more : (known : List (List ℕ)) (keys more : List (Bor (List ℕ))) (all rest : List FunTree) (f : FunTree) (name : Bor (List ℕ)) → name.now ≡ f.name
    → Seen known keys all (f ∷ rest) → among_keys f.name keys ≡ false → is_among f.name known ≡ false → more ≡ keys ++ name ∷ [] → Seen known more all rest
seen_more known keys more all rest f name is s fresh unknown e = record {
  seen = f.name ∷ s.seen;
  same = λ x.
      ap (λ b. bytes_eq x f.name || b) (s.same x)
      ∙ or_turned (bytes_eq x f.name) (among_keys x keys) (is_among x known)
      ∙ ap (λ y. (among_keys x keys || (bytes_eq x y || false)) || is_among x known) (sym is)
      ∙ ap (λ b. b || is_among x known) (sym (ap (among_keys x) e ∙ list_any-append (λ (k : Bor (List ℕ)). bytes_eq x k.now) keys (name ∷ [])));
  left = s.left ∙ ap (λ b. at_span f.span (where_true b 2) ++ name_faults (f.name ∷ s.seen) rest) (s.same f.name ∙ ap (λ b. b || is_among f.name known) fresh ∙ unknown);
}

-- a name of an earlier function
pub seen_earlier : (known : List (List ℕ)) (keys : List (Bor (List ℕ))) (all rest : List FunTree) (f : FunTree) (found : Bool) (e : TypeError)
    → Seen known keys all (f ∷ rest) → found ≡ is_among f.name known → IsFirstOf (at_span f.span (where_true found 2)) e → IsFirstOf (name_faults known all) e
seen_earlier known keys all rest f found e s is first =
    seen_fault known keys all rest f found e s (λ yes_. or_right (among_keys f.name keys) (is_among f.name known) (sym is ∙ yes_)) first

-- a name of the same group
pub seen_again : (known : List (List ℕ)) (keys : List (Bor (List ℕ))) (all rest : List FunTree) (f : FunTree) (found : Bool) (e : TypeError)
    → Seen known keys all (f ∷ rest) → found ≡ among_keys f.name keys → IsFirstOf (at_span f.span (where_true found 2)) e → IsFirstOf (name_faults known all) e
seen_again known keys all rest f found e s is first =
    seen_fault known keys all rest f found e s (λ yes_. or_left (among_keys f.name keys) (is_among f.name known) (sym is ∙ yes_)) first

pub not_found : (s : Span) (b : Bool) → at_span s (where_true b 2) ≡ [] → b ≡ false
not_found s b e = not_where b 2 (no_kinds s (where_true b 2) e)

pub fresh_keys : (b : Bool) (more keys plus : List (Bor (List ℕ))) → b ≡ false → more ≡ cond b keys plus → more ≡ plus
fresh_keys b more keys plus fresh e = e ∙ ap (λ t. cond t keys plus) fresh
