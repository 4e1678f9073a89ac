-- Names of layouts one after another: those of the first were seen, the others are left.
use Rattle.std.proofs.Common.{◌≡◌, ◌∙◌, refl, ap, sym, subst, ℕ, ◌≤◌, Bool, true, false, List, [], ◌∷◌, ◌++◌, append_assoc, append-nil, length, drop}
use Rattle.std.proofs.Math.ListN.{drop_of_length-le}
use Rattle.nv_ast.specs.declared.token.Span.{Span}
use Rattle.nv_ast.specs.Tests.{where_true, has_twice}
use Rattle.nv_ast.specs.Faults.{at_span}
use Rattle.nv_ast.specs.Outline.{OutlineTrees, no_outlines, outline_and}
use Rattle.nv_ast.specs.Types.{record_forms, joined_forms}
use Rattle.nv_types_table.specs.declared.error.TypeError.{TypeError}
use Rattle.nv_types_table.specs.declared.error.TypeError.TheVariants.{NoMemory, Fault, TooLarge}
use Rattle.nv_types_table.specs.declared.shapes.Shape.{Shape}
use Rattle.nv_types_table.specs.inner.Faulty.{IsFirstOf}
use Rattle.nv_types_table.specs.inner.Layouts.{AreShapes}
use Rattle.nv_types_table.specs.inner.Store.{Store, form_names, AreNamed, AreSeen}
use Rattle.nv_types_table.proofs.FieldWalks.{forms_named, seen_none}
use Rattle.nv_types_scopes.proofs.Shaping.{names_then}
use Rattle.nv_ast.proofs.Twice.{twice_before}

abbrev pub SharedSo : Store → List Shape → List Shape → List ℕ → Type 0
SharedSo s shapes left seen = (os : OutlineTrees) → AreShapes s shapes os
    → (xs : List (List ℕ)) × (ps : OutlineTrees) × (form_names (joined_forms os) ≡ xs ++ form_names (joined_forms ps)) × AreShapes s left ps × AreSeen s seen xs

pub shared_start : (s : Store) (shapes : List Shape) (seen : List ℕ) → seen ≡ [] → SharedSo s shapes shapes seen
shared_start s shapes seen empty os h = ([], os, refl, h, subst (λ l. AreSeen s l []) (sym empty) (seen_none s))

-- the first layout that is left, and the others
abbrev NextSo : Store → Shape → List Shape → List ℕ → List (List ℕ) → Type 0
NextSo s m ms seen names = (xs ns ys : List (List ℕ)) × (ps : OutlineTrees) × (names ≡ (xs ++ ns) ++ ys) × (ys ≡ form_names (joined_forms ps)) × AreNamed s m.forms ns × AreShapes s ms ps × AreSeen s seen xs

next_left : (s : Store) (shapes left ms : List Shape) (m : Shape) (seen : List ℕ) → left ≡ m ∷ ms → SharedSo s shapes left seen → (os : OutlineTrees) → AreShapes s shapes os → NextSo s m ms seen (form_names (joined_forms os))
next_left s shapes left ms m seen e so os h = let v = so os h in by v.0 v.1 v.2 (subst (λ (l : List Shape). AreShapes s l v.1) e v.3) v.4
  where
    by : (xs : List (List ℕ)) (ps : OutlineTrees) → form_names (joined_forms os) ≡ xs ++ form_names (joined_forms ps) → AreShapes s (m ∷ ms) ps → AreSeen s seen xs → NextSo s m ms seen (form_names (joined_forms os))
    by xs no_outlines is k old = absurd k
    by xs (outline_and o ps) is k old = (
      xs,
      form_names (record_forms o),
      form_names (joined_forms ps),
      ps,
      is ∙ ap (λ l. xs ++ l) (names_then (record_forms o) (joined_forms ps)) ∙ sym (append_assoc xs (form_names (record_forms o)) (form_names (joined_forms ps))),
      refl,
      forms_named s m.forms (record_forms o) k.0.of_forms,
      k.1,
      old,
    )

pub shared_more : (s : Store) (shapes left ms : List Shape) (m : Shape) (seen new : List ℕ) → left ≡ m ∷ ms → SharedSo s shapes left seen
    → ((xs names : List (List ℕ)) → AreSeen s seen xs → AreNamed s m.forms names → AreSeen s new (xs ++ names)) → SharedSo s shapes ms new
shared_more s shapes left ms m seen new e so meets os h =
    let v = next_left s shapes left ms m seen e so os h in
    (v.0 ++ v.1, v.3, v.4 ∙ ap (λ l. (v.0 ++ v.1) ++ l) v.5, v.7, meets v.0 v.1 v.8 v.6)

-- a name that is met again is there twice
pub shared_met : (s : Store) (shapes left ms : List Shape) (m : Shape) (seen : List ℕ) → left ≡ m ∷ ms → SharedSo s shapes left seen
    → ((xs names : List (List ℕ)) → AreSeen s seen xs → AreNamed s m.forms names → true ≡ has_twice (xs ++ names)) → (os : OutlineTrees) → AreShapes s shapes os → has_twice (form_names (joined_forms os)) ≡ true
shared_met s shapes left ms m seen e so meets os h =
    let v = next_left s shapes left ms m seen e so os h in
    ap has_twice v.4 ∙ twice_before (v.0 ++ v.1) v.2 (sym (meets v.0 v.1 v.8 v.6))

-- so it is a fault of them all
pub shared_fault : (p : Span) (found twice : Bool) (e : TypeError) → (found ≡ true → twice ≡ true) → IsFirstOf (at_span p (where_true found 5)) e → IsFirstOf (at_span p (where_true twice 5)) e
shared_fault p true twice e more h = subst (λ b. IsFirstOf (at_span p (where_true b 5)) e) (sym (more refl)) h
shared_fault p false twice NoMemory more h = tt
shared_fault p false twice (Fault kind s) more h = cc
shared_fault p false twice (TooLarge n) more h = h

-- where no layout is left, no name is there twice
pub shared_end : (s : Store) (shapes : List Shape) (n : ℕ) (seen : List ℕ) → length shapes ≤ n → SharedSo s shapes (drop n shapes) seen → (os : OutlineTrees) → AreShapes s shapes os → has_twice (form_names (joined_forms os)) ≡ false
shared_end s shapes n seen past so os h = let v = so os h in by v.0 v.1 v.2 (subst (λ (l : List Shape). AreShapes s l v.1) (drop_of_length-le shapes past) v.3) v.4
  where
    by : (xs : List (List ℕ)) (ps : OutlineTrees) → form_names (joined_forms os) ≡ xs ++ form_names (joined_forms ps) → AreShapes s [] ps → AreSeen s seen xs → has_twice (form_names (joined_forms os)) ≡ false
    by xs (outline_and o ps) is k old = absurd k
    by xs no_outlines is k old = ap has_twice (is ∙ append-nil xs) ∙ old.once
