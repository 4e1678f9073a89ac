-- Main after all declarations.
use Rattle.std.proofs.Common.{◌≡◌, ◌∙◌, ap, sym, subst, ℕ, min, Bool, true, false, cond, List, [], ◌∷◌, Option, None, Some, is_some, bytes_eq, arith}
use Rattle.std.proofs.lemmas.Option.{none-some, same_Some}
use Rattle.nv_ast.specs.Tests.{is_among, value_at, look_up}
use Rattle.nv_ast.specs.Types.{Tys, total_named_words}
use Rattle.nv_ast.specs.Scope.{Signature, callable, plain_tys}
use Rattle.nv_ast.specs.Faults.{main_name}
use Rattle.nv_ast.specs.Sizes.{GroupNumbers, signature_words}
use Rattle.nv_ast.proofs.TypeWords.{plain_words}
use Rattle.nv_types_table.specs.declared.cost.Cost.{Cost}
use Rattle.nv_types_table.specs.declared.table.Facts.{Facts}
use Rattle.nv_types_scopes.specs.declared.functions.Function.{Function}
use Rattle.nv_types_scopes.specs.declared.functions.Checker.{Checker}
use Rattle.nv_types_table.specs.inner.Cells.{still}
use Rattle.nv_types_table.specs.inner.Knowing.{AreKnown}
use Rattle.nv_types_table.specs.inner.Store.{IsParts}
use Rattle.nv_types_scopes.specs.inner.Standing.{Alike, IsFunction}
use Rattle.nv_types.specs.inner.Finding.{FindsMain}
use Rattle.nv_types_scopes.proofs.Alikes.{Both, alike_at, among_look_up}
use Rattle.nv_types_scopes.proofs.Groups.{known_names, own_none}

value_alike : (f : Cost → ℕ) (costs : List (List ℕ × Cost)) (sizes : GroupNumbers) → Alike (λ (cost : Cost) n. f cost ≡ still n) costs sizes → (x : List ℕ) (cost : Cost) → look_up x costs ≡ Some cost → f cost ≡ still (value_at 0 x sizes)
value_alike f [] [] h x cost e = absurd (none-some cost e)
value_alike f [] (s ∷ sizes) h x cost e = absurd h
value_alike f (c ∷ costs) [] h x cost e = absurd h
value_alike f ((y, c) ∷ costs) ((z, n) ∷ sizes) h x cost e =
    subst (λ w. f cost ≡ still (value_at 0 x ((w, n) ∷ sizes))) h.0 (by (bytes_eq x y) (λ q. value_alike f costs sizes h.2 x cost q) e)
  where
    by : (t : Bool) → (look_up x costs ≡ Some cost → f cost ≡ still (value_at 0 x sizes)) → cond t (Some c) (look_up x costs) ≡ Some cost → f cost ≡ still (cond t n (value_at 0 x sizes))
    by true rest q = ap f (sym (same_Some c cost q)) ∙ h.1
    by false rest q = rest q

pub no_function : (c : Checker) → look_up main_name c.functions ≡ None → FindsMain c None
no_function c e = record {
  found = λ k is. sym (ap (is_among main_name) (sym (known_names c k is)) ∙ sym (among_look_up main_name c.functions) ∙ ap is_some e);
  sized = λ k sizes needs is counts. tt;
  needed = λ k sizes needs is counts. tt;
  of_params = λ k is. tt;
}

pub no_cost : (c : Checker) → look_up main_name c.costs ≡ None → FindsMain c None
no_cost c e = record {
  found = λ k is. sym (ap (is_among main_name) (sym (is.all_counted ∙ known_names c k is)) ∙ sym (among_look_up main_name c.costs) ∙ ap is_some e);
  sized = λ k sizes needs is counts. tt;
  needed = λ k sizes needs is counts. tt;
  of_params = λ k is. tt;
}

twice_still : (a n : ℕ) → a ≡ still n → min a 4294967295 ≡ min n 4294967295
twice_still a n e = omega (arith, e)

words_to_eight : (a n : ℕ) → a ≡ still n → min a 8 ≡ min n 8
words_to_eight a n e = omega (arith, e)

main_params : (c : Checker) (g : Function) (facts : Facts) → ((us : Tys) → IsParts c.table g.params us → AreKnown facts us) → (s : Option Signature) → Both (IsFunction c.table) (Some g) s → min facts.words 8 ≡ min (signature_words s) 8
main_params c g facts knows (Some s) is = words_to_eight facts.words (total_named_words s.params) ((knows (plain_tys s.params) is.of_params).of_words ∙ ap still (plain_words s.params))
main_params c g facts knows None is = absurd is

pub main_found : (c : Checker) (g : Function) (cost : Cost) (facts : Facts) (expanded params : ℕ) → look_up main_name c.functions ≡ Some g → look_up main_name c.costs ≡ Some cost → ((us : Tys) → IsParts c.table g.params us → AreKnown facts us)
    → expanded ≡ min cost.size 4294967295 → params ≡ min facts.words 8 → FindsMain c (Some (record { expanded = expanded; need = cost.need; params = params }))
main_found c g cost facts expanded params e f knows x y = record {
  found = λ k is. sym (ap (is_among main_name) (sym (known_names c k is)) ∙ sym (among_look_up main_name c.functions) ∙ ap is_some e);
  sized = λ k sizes needs is counts. x ∙ twice_still cost.size (value_at 0 main_name sizes) (value_alike (λ (z : Cost). z.size) c.costs sizes counts.of_sizes main_name cost f);
  needed = λ k sizes needs is counts. value_alike (λ (z : Cost). z.need) c.costs needs counts.of_needs main_name cost f;
  of_params = λ k is.
      y ∙ main_params c g facts knows (look_up main_name k.functions)
      (subst (λ l. Both (IsFunction c.table) (Some g) (look_up main_name l)) (own_none k is.no_own)
      (subst (λ o. Both (IsFunction c.table) o (look_up main_name (callable k))) e (alike_at (IsFunction c.table) c.functions (callable k) is.holds.of_functions main_name)));
}
