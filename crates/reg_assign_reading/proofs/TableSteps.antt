-- A table that is made from the last element of a list to the first has of each key the first element with that key.
use Rattle.std.proofs.Common.{◌≡◌, ℕ, nat_eq, ◌+◌, ◌<◌, Bool, true, false, cond, if◌then◌else◌, Option, Some, List, [], ◌∷◌, length, get_or, drop, refl, sym, ap, ◌∙◌}
use Rattle.std.proofs.lemmas.List.{at_drop_more}
use Rattle.place_plan.specs.Uses.{Value}
use Rattle.bank_prog.specs.Weighted.{point_in}
use Rattle.reg_assign_reading.specs.inner.Chosen.{value_in}

pub found-more : {V X : Type 0} (look : List V → X) (known : Option V → X) (value : V → X) (test : V → Bool) (xs : List V) (i j : ℕ) (d : V) (o o' : Option V) → j ≡ i + 1 → i < length xs
    → ((v : V) (rest : List V) → look (v ∷ rest) ≡ (if test v then value v else look rest)) → ((v : V) → known (Some v) ≡ value v)
    → o' ≡ cond (test (get_or xs i d)) (Some (get_or xs i d)) o → known o ≡ look (drop j xs) → known o' ≡ look (drop i xs)
found-more look known value test xs i j d o o' e l step found made before =
    let v = get_or xs i d in
    ap known made ∙ pick (test v)
    ∙ sym (at_drop_more look xs i d l ∙ step v (drop (i + 1) xs) ∙ ap (λ n. if test v then value v else look (drop n xs)) (sym e))
  where
    pick : (b : Bool) → known (cond b (Some (get_or xs i d)) o) ≡ (if b then value (get_or xs i d) else look (drop j xs))
    pick true = found (get_or xs i d)
    pick false = before

-- a field of a choice
pub if-field : {V X : Type 0} (field : V → X) (b : Bool) (v w : V) → field (if b then v else w) ≡ (if b then field v else field w)
if-field field true v w = refl
if-field field false v w = refl

-- the point of the first value of a variable
pub point-in-value : (vs : List Value) (x : ℕ) → point_in vs x ≡ (value_in vs x).point
point-in-value [] x = refl
point-in-value (v ∷ vs) x =
    ap (λ n. if nat_eq v.var x then v.point else n) (point-in-value vs x) ∙ sym (if-field (λ (u : Value). u.point) (nat_eq v.var x) v (value_in vs x))
