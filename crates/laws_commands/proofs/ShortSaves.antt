-- What two saves leave.
use Rattle.std.proofs.Common.{◌≡◌, ◌≢◌, ◌∙◌, refl, sym, subst, ℕ, List, [], ◌∷◌, Some, inl, inr, arith}
use Rattle.std.specs.Prelude.{Contains, ⊤}
use Rattle.nv_outside.specs.Holding.{Holding, Replaced, SameElsewhere}
use Rattle.novac_machine.specs.Saving.{AreSaved, file, IsCut, IsSameBut}
use Rattle.laws_commands.specs.Saves.{TwoSaves}

first_of : (a b : List ℕ) → Contains (a ∷ b ∷ []) a
first_of a b = (0, omega arith, refl)

second_of : (a b : List ℕ) → Contains (a ∷ b ∷ []) b
second_of a b = (1, omega arith, refl)

only_of : (a : List ℕ) → Contains (a ∷ []) a
only_of a = (0, omega arith, refl)

other_than : (names : List (List ℕ)) (name other : List ℕ) → Contains names name → (Contains names other → ⊥) → other ≢ name
other_than names name other there not e = not (subst (Contains names) (sym e) there)

-- a save, and then what leaves every name but the second
after_first : (old between new : Holding) (a b x : List ℕ) → a ≢ b → Replaced old between a x → SameElsewhere between new b → (new a ≡ Some x) × IsSameBut (a ∷ b ∷ []) old new
after_first old between new a b x apart saved same = (
  same a apart ∙ saved.here,
  λ other not. same other (other_than (a ∷ b ∷ []) b other (second_of a b) not) ∙ saved.elsewhere other (other_than (a ∷ b ∷ []) a other (first_of a b) not),
)

both : (old new : Holding) (a b x y : List ℕ) → a ≢ b → AreSaved (file a x ∷ file b y ∷ []) old new → (new a ≡ Some x) × (new b ≡ Some y) × IsSameBut (a ∷ b ∷ []) old new
both old new a b x y apart (between, saved, (last, next, e)) =
    let told = after_first old between last a b x apart saved next.elsewhere in
    subst (λ (h : Holding). (h a ≡ Some x) × (h b ≡ Some y) × IsSameBut (a ∷ b ∷ []) old h) (sym e) (told.0, next.here, told.1)

second : (old new : Holding) (a b x y : List ℕ) → a ≢ b → IsCut ⊤ (file a x ∷ file b y ∷ []) old new (λ name. name ≡ b) → (new a ≡ Some x) × IsSameBut (a ∷ b ∷ []) old new
second old new a b x y apart (inl (e, same)) = absurd (apart e)
second old new a b x y apart (inr (between, saved, inl (e, same))) = after_first old between new a b x apart (saved tt) (same tt)
second old new a b x y apart (inr (between, saved, inr (last, next, h))) = absurd h

first : (old new : Holding) (a b x y : List ℕ) → a ≢ b → IsCut ⊤ (file a x ∷ file b y ∷ []) old new (λ name. name ≡ a) → IsSameBut (a ∷ []) old new
first old new a b x y apart (inl (e, same)) = λ other not. same tt other (other_than (a ∷ []) a other (only_of a) not)
first old new a b x y apart (inr (between, saved, inl (e, same))) = absurd (apart (sym e))
first old new a b x y apart (inr (between, saved, inr (last, next, h))) = absurd h

pub two_saves : TwoSaves
two_saves = record { both = both; second = second; first = first }
