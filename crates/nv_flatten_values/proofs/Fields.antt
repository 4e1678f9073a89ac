-- The field of a name, among fields of which some are looked at already.
use Rattle.std.proofs.Common.{◌≡◌, ◌∙◌, ap, sym, ℕ, true, false, List, ◌∷◌, bytes_eq, if◌then◌else◌}
use Rattle.nv_flatten_values.specs.inner.Symbols.{field_named}
use Rattle.nv_flatten_values.specs.inner.View.{Named, view, list_named_symbols}

pub field-found : (x : List ℕ) (all rest rest' : List Named) (f : Named) → rest ≡ f ∷ rest' → field_named x (list_named_symbols rest) ≡ field_named x (list_named_symbols all) → bytes_eq x f.0.now ≡ true → view f.1 ≡ field_named x (list_named_symbols all)
field-found x all rest rest' f is e h = sym (ap (λ b. if b then view f.1 else field_named x (list_named_symbols rest')) h) ∙ ap (λ l. field_named x (list_named_symbols l)) (sym is) ∙ e

pub field-passed : (x : List ℕ) (all rest rest' : List Named) (f : Named) → rest ≡ f ∷ rest' → field_named x (list_named_symbols rest) ≡ field_named x (list_named_symbols all) → bytes_eq x f.0.now ≡ false → field_named x (list_named_symbols rest') ≡ field_named x (list_named_symbols all)
field-passed x all rest rest' f is e h = sym (ap (λ b. if b then view f.1 else field_named x (list_named_symbols rest')) h) ∙ ap (λ l. field_named x (list_named_symbols l)) (sym is) ∙ e
