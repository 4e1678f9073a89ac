-- Different keys have different numbers.
use Rattle.std.proofs.Common.{◌≡◌, ◌∙◌, refl, sym, ap, ℕ, zero, suc, false, List, [], ◌∷◌, map, Some, bytes_eq, Bor}
use Rattle.std.specs.Prelude.{slice_get}
use Rattle.std.specs.List.{AllByRecursion, IsDistinct}
use Rattle.std.proofs.lemmas.Bool.{false≢true}
use Rattle.std.proofs.lemmas.Slice.Eq.{bytes_eq-Decides}
use Rattle.std.proofs.lemmas.Option.{same_Some}
use Rattle.nv_flatten_values.specs.inner.Bounded.{AreOnce}

no-later : (k : Bor (List ℕ)) (ks : List (Bor (List ℕ))) → AllByRecursion (λ y. bytes_eq k.now y.now ≡ false) ks → (i : ℕ) → slice_get (map (λ y. y.now) ks) i ≡ Some k.now → ⊥
no-later k [] a i e = cc
no-later k (y ∷ ks) a zero e = false≢true (sym a.0 ∙ (bytes_eq-Decides k.now y.now).1 (sym (same_Some _ _ e)))
no-later k (y ∷ ks) a (suc i) e = no-later k ks a.1 i e

pub named-once : (ks : List (Bor (List ℕ))) → IsDistinct (λ a b. bytes_eq a.now b.now) ks → AreOnce (map (λ y. y.now) ks)
unfolding IsDistinct
named-once [] d i j f e h = absurd (cc)
named-once (k ∷ ks) d zero zero f e h = refl
named-once (k ∷ ks) d zero (suc j) f e h = absurd (no-later k ks d.0 j (h ∙ sym e))
named-once (k ∷ ks) d (suc i) zero f e h = absurd (no-later k ks d.0 i (e ∙ sym h))
named-once (k ∷ ks) d (suc i) (suc j) f e h = ap suc (named-once ks d.1 i j f e h)
