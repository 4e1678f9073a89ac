-- Places: when two are one.
use Rattle.std.proofs.Common.{◌≡◌, true, false, refl, sym, ap, ◌∙◌}
use Rattle.std.proofs.lemmas.Bool.{eqb-true, eq-eqb, false≢true, false_from_ne_true}
use Rattle.place_plan.specs.declared.place.Place.{Place}
use Rattle.place_plan.specs.declared.place.Place.TheVariants.{A, B, L, LD, S, SD, Slot}
use Rattle.place_plan.specs.Places.{same_place}

pub same_place-true : (p q : Place) → same_place p q ≡ true → p ≡ q
same_place-true (A i) (A j) e = ap A (eqb-true i j e)
same_place-true (A i) (B j) e = absurd (false≢true e)
same_place-true (A i) (L j) e = absurd (false≢true e)
same_place-true (A i) (LD j) e = absurd (false≢true e)
same_place-true (A i) (S j) e = absurd (false≢true e)
same_place-true (A i) (SD j) e = absurd (false≢true e)
same_place-true (A i) (Slot j) e = absurd (false≢true e)
same_place-true (B i) (A j) e = absurd (false≢true e)
same_place-true (B i) (B j) e = ap B (eqb-true i j e)
same_place-true (B i) (L j) e = absurd (false≢true e)
same_place-true (B i) (LD j) e = absurd (false≢true e)
same_place-true (B i) (S j) e = absurd (false≢true e)
same_place-true (B i) (SD j) e = absurd (false≢true e)
same_place-true (B i) (Slot j) e = absurd (false≢true e)
same_place-true (L i) (A j) e = absurd (false≢true e)
same_place-true (L i) (B j) e = absurd (false≢true e)
same_place-true (L i) (L j) e = ap L (eqb-true i j e)
same_place-true (L i) (LD j) e = absurd (false≢true e)
same_place-true (L i) (S j) e = absurd (false≢true e)
same_place-true (L i) (SD j) e = absurd (false≢true e)
same_place-true (L i) (Slot j) e = absurd (false≢true e)
same_place-true (LD i) (A j) e = absurd (false≢true e)
same_place-true (LD i) (B j) e = absurd (false≢true e)
same_place-true (LD i) (L j) e = absurd (false≢true e)
same_place-true (LD i) (LD j) e = ap LD (eqb-true i j e)
same_place-true (LD i) (S j) e = absurd (false≢true e)
same_place-true (LD i) (SD j) e = absurd (false≢true e)
same_place-true (LD i) (Slot j) e = absurd (false≢true e)
same_place-true (S i) (A j) e = absurd (false≢true e)
same_place-true (S i) (B j) e = absurd (false≢true e)
same_place-true (S i) (L j) e = absurd (false≢true e)
same_place-true (S i) (LD j) e = absurd (false≢true e)
same_place-true (S i) (S j) e = ap S (eqb-true i j e)
same_place-true (S i) (SD j) e = absurd (false≢true e)
same_place-true (S i) (Slot j) e = absurd (false≢true e)
same_place-true (SD i) (A j) e = absurd (false≢true e)
same_place-true (SD i) (B j) e = absurd (false≢true e)
same_place-true (SD i) (L j) e = absurd (false≢true e)
same_place-true (SD i) (LD j) e = absurd (false≢true e)
same_place-true (SD i) (S j) e = absurd (false≢true e)
same_place-true (SD i) (SD j) e = ap SD (eqb-true i j e)
same_place-true (SD i) (Slot j) e = absurd (false≢true e)
same_place-true (Slot i) (A j) e = absurd (false≢true e)
same_place-true (Slot i) (B j) e = absurd (false≢true e)
same_place-true (Slot i) (L j) e = absurd (false≢true e)
same_place-true (Slot i) (LD j) e = absurd (false≢true e)
same_place-true (Slot i) (S j) e = absurd (false≢true e)
same_place-true (Slot i) (SD j) e = absurd (false≢true e)
same_place-true (Slot i) (Slot j) e = ap Slot (eqb-true i j e)

pub same_place-itself : (p : Place) → same_place p p ≡ true
same_place-itself (A i) = eq-eqb i i refl
same_place-itself (B i) = eq-eqb i i refl
same_place-itself (L i) = eq-eqb i i refl
same_place-itself (LD i) = eq-eqb i i refl
same_place-itself (S i) = eq-eqb i i refl
same_place-itself (SD i) = eq-eqb i i refl
same_place-itself (Slot i) = eq-eqb i i refl

pub same_place-from : (p q : Place) → p ≡ q → same_place p q ≡ true
same_place-from p q e = ap (λ (x : Place). same_place p x) (sym e) ∙ same_place-itself p

pub same_place-false : (p q : Place) → (p ≡ q → ⊥) → same_place p q ≡ false
same_place-false p q h = false_from_ne_true (same_place p q) (λ e. h (same_place-true p q e))
