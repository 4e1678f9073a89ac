-- A field that is looked for by its name.
use Rattle.std.proofs.Common.{◌≡◌, ◌∙◌, ap, ℕ, ◌+◌, ◌<◌, ◌≤◌, Bool, true, false, if◌then◌else◌, bytes_eq, List, drop, length, get_or}
use Rattle.std.proofs.lemmas.List.{drop_all}
use Rattle.nv_base.specs.declared.term.Atom.TheVariants.{Lit}
use Rattle.nv_flatten_values.specs.inner.Symbols.{Word, field_named}
use Rattle.nv_flatten_values.specs.inner.View.{Named, view, list_named_symbols}
use Rattle.nv_flatten_values.specs.inner.Reads.{has_symbol}
use Rattle.nv_ast.proofs.Items.{next_item}

module _ (x : List ℕ) (xs : List Named) (i : ℕ) where
  pub has-there : (p : Named) → i < length xs → p ≡ get_or xs i p → bytes_eq x p.0.now ≡ true → has_symbol x (list_named_symbols (drop i xs)) ≡ true
  has-there p h e b = ap (λ l. has_symbol x (list_named_symbols l)) (next_item xs i p h e) ∙ ap (λ (t : Bool). if t then true else has_symbol x (list_named_symbols (drop (i + 1) xs))) b

  pub named-there : (p : Named) → i < length xs → p ≡ get_or xs i p → bytes_eq x p.0.now ≡ true → field_named x (list_named_symbols (drop i xs)) ≡ view p.1
  named-there p h e b = ap (λ l. field_named x (list_named_symbols l)) (next_item xs i p h e) ∙ ap (λ (t : Bool). if t then view p.1 else field_named x (list_named_symbols (drop (i + 1) xs))) b

  pub has-later : (p : Named) → i < length xs → p ≡ get_or xs i p → bytes_eq x p.0.now ≡ false → has_symbol x (list_named_symbols (drop i xs)) ≡ has_symbol x (list_named_symbols (drop (i + 1) xs))
  has-later p h e b = ap (λ l. has_symbol x (list_named_symbols l)) (next_item xs i p h e) ∙ ap (λ (t : Bool). if t then true else has_symbol x (list_named_symbols (drop (i + 1) xs))) b

  pub named-later : (p : Named) → i < length xs → p ≡ get_or xs i p → bytes_eq x p.0.now ≡ false → field_named x (list_named_symbols (drop i xs)) ≡ field_named x (list_named_symbols (drop (i + 1) xs))
  named-later p h e b = ap (λ l. field_named x (list_named_symbols l)) (next_item xs i p h e) ∙ ap (λ (t : Bool). if t then view p.1 else field_named x (list_named_symbols (drop (i + 1) xs))) b

  pub has-nowhere : length xs ≤ i → has_symbol x (list_named_symbols (drop i xs)) ≡ false
  has-nowhere h = ap (λ l. has_symbol x (list_named_symbols l)) (drop_all i xs h)

  pub named-nowhere : length xs ≤ i → field_named x (list_named_symbols (drop i xs)) ≡ Word (Lit 0)
  named-nowhere h = ap (λ l. field_named x (list_named_symbols l)) (drop_all i xs h)
