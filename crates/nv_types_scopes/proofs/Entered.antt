-- A declaration under a name, whether or not it is new.
use Rattle.std.proofs.Common.{◌≡◌, refl, ap, ℕ, Bool, true, false, List, [], ◌∷◌, bytes_eq, if◌then◌else◌}
use Rattle.std.specs.Borrow.{Bor}
use Rattle.indexmap.specs.IndexMap.{insert_entry}
use Rattle.nv_types_table.specs.inner.Named.{named}

pub named-insert : {T : Type 0} (es : List (Bor (List ℕ) × T)) (x : Bor (List ℕ)) (v : T) → named (insert_entry (λ j k. bytes_eq j.now k.now) es x v) ≡ insert_entry bytes_eq (named es) x.now v
named-insert [] x v = refl
named-insert (e ∷ es) x v = by (bytes_eq x.now e.0.now) (named-insert es x v)
  where
    by : (b : Bool) → named (insert_entry (λ j k. bytes_eq j.now k.now) es x v) ≡ insert_entry bytes_eq (named es) x.now v
        → named (if b then (e.0, v) ∷ es else e ∷ insert_entry (λ j k. bytes_eq j.now k.now) es x v) ≡ (if b then (e.0.now, v) ∷ named es else (e.0.now, e.1) ∷ insert_entry bytes_eq (named es) x.now v)
    by true h = refl
    by false h = ap (λ l. (e.0.now, e.1) ∷ l) h
