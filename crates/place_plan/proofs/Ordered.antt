-- The lists of a placement that fits are in order.
use Rattle.std.proofs.Common.{◌≡◌, ℕ, zero, suc, ◌<◌, ◌≤◌, List, [], ◌∷◌, ◌++◌, map, length, get_or, refl, sym, ap, subst, ◌∙◌, arith}
use Rattle.std.specs.Prelude.{⊤}
use Rattle.std.specs.List.Sorted.{IsNonDecreasingBy}
use Rattle.std.proofs.lemmas.List.{map-append}
use Rattle.ssu_ir.specs.Tree.{Label, Lit, Una, Bin, Clone, Read, Write, Does, Forks, Ends}
use Rattle.ssu_ir.specs.Points.{PointKind, Entry, At, Point, points}
use Rattle.place_plan.specs.declared.place.Serve.{Serve}
use Rattle.place_plan.specs.Plan.{Plan}
use Rattle.place_plan.specs.Uses.{Access, accesses, accesses_from, place_accesses, Role, place_roles, Use, uses, uses_at, uses_from}
use Rattle.place_plan.specs.Fits.{Rises, Fits, at_operand, use_operand}
use Rattle.place_plan.specs.Order.{IsInOrder}
use Rattle.place_plan.proofs.Sound.{Each, each-append}
use Rattle.place_plan.proofs.Spilled.{each-weaker}
use Rattle.place_plan.proofs.Fitting.{FromOperand, uses-from-operand, uses-from-point}

-- ---- accesses

-- rising, and from k on
pub record RisesFrom (k : ℕ) (xs : List ℕ) : Type 0 where
  pub rise : Rises xs
  pub low : Each (λ x. k ≤ x) xs

pub rises-cons : (k : ℕ) (xs : List ℕ) → RisesFrom (suc k) xs → RisesFrom k (k ∷ xs)
rises-cons k [] h = record { rise = tt; low = (omega arith, tt) }
rises-cons k (x ∷ xs) h = let l = h.low.0 in record { rise = (omega arith, h.rise); low = (omega arith, each-weaker (λ y. suc k ≤ y) (λ y. k ≤ y) (x ∷ xs) (λ y m. omega arith) h.low) }

pub rises-later : (k : ℕ) (xs : List ℕ) → RisesFrom (suc k) xs → RisesFrom k xs
rises-later k xs h = record { rise = h.rise; low = each-weaker (λ y. suc k ≤ y) (λ y. k ≤ y) xs (λ y m. omega arith) h.low }

abbrev access-points : List Access → List ℕ
access-points as' = map (λ a. a.point) as'

accesses-rise : (k : ℕ) (ps : List Point) → RisesFrom k (access-points (accesses_from k ps))
accesses-rise k [] = record { rise = tt; low = tt }
accesses-rise k (p ∷ ps) = pick p.place (accesses-rise (suc k) ps)
  where
    pick : (q : PointKind) → RisesFrom (suc k) (access-points (accesses_from (suc k) ps)) → RisesFrom k (access-points (place_accesses k q ++ accesses_from (suc k) ps))
    pick (Entry l xs) h = rises-later k (access-points (accesses_from (suc k) ps)) h
    pick (At (Does (Lit x v))) h = rises-later k (access-points (accesses_from (suc k) ps)) h
    pick (At (Does (Una x op y))) h = rises-later k (access-points (accesses_from (suc k) ps)) h
    pick (At (Does (Bin x op y z))) h = rises-later k (access-points (accesses_from (suc k) ps)) h
    pick (At (Does (Clone xs y))) h = rises-later k (access-points (accesses_from (suc k) ps)) h
    pick (At (Does (Read m xs y))) h = rises-cons k (access-points (accesses_from (suc k) ps)) h
    pick (At (Does (Write m y xs))) h = rises-cons k (access-points (accesses_from (suc k) ps)) h
    pick (At (Forks c x y)) h = rises-later k (access-points (accesses_from (suc k) ps)) h
    pick (At (Ends l)) h = rises-later k (access-points (accesses_from (suc k) ps)) h

-- ---- uses

-- no later one is below an earlier
abbrev Climbs : List ℕ → Type 0
Climbs [] = ⊤
Climbs (x ∷ xs) = Each (λ y. x ≤ y) xs × Climbs xs

climbs-append : (xs ys : List ℕ) → Climbs xs → Climbs ys → Each (λ x. Each (λ y. x ≤ y) ys) xs → Climbs (xs ++ ys)
climbs-append [] ys a b h = b
climbs-append (x ∷ xs) ys a b h = (each-append (λ y. x ≤ y) xs ys a.0 h.0, climbs-append xs ys a.1 b h.1)

abbrev use-points : List Use → List ℕ
use-points us = map (λ u. u.point) us

each-map : (P : ℕ → Type 0) (us : List Use) → Each (λ u. P u.point) us → Each P (use-points us)
each-map P [] h = tt
each-map P (u ∷ us) h = (h.0, each-map P us h.1)

uses-at-point : (k i : ℕ) (xs : List ℕ) (rs : List Role) → Each (λ x. x ≡ k) (use-points (uses_at k i xs rs))
uses-at-point k i xs rs = each-map (λ x. x ≡ k) (uses_at k i xs rs) (each-weaker (FromOperand k i) (λ u. u.point ≡ k) (uses_at k i xs rs) (λ u f. f.here) (uses-from-operand k i xs rs))

climb-at : (k i : ℕ) (xs : List ℕ) (rs : List Role) → Climbs (use-points (uses_at k i xs rs))
climb-at k i [] rs = tt
climb-at k i (x ∷ xs) [] = tt
climb-at k i (x ∷ xs) (r ∷ rs) = (
  each-weaker (λ y. y ≡ k) (λ y. k ≤ y) (use-points (uses_at k (suc i) xs rs)) (λ y e. omega (arith, e)) (uses-at-point k (suc i) xs rs),
  climb-at k (suc i) xs rs,
)

uses-climb : (k : ℕ) (ps : List Point) → Climbs (use-points (uses_from k ps))
uses-climb k [] = tt
uses-climb k (p ∷ ps) =
    let here = uses_at k 0 p.uses (place_roles p.place) in
    let later = use-points (uses_from (suc k) ps) in
    let low : Each (λ y. suc k ≤ y) later = each-map (λ y. suc k ≤ y) (uses_from (suc k) ps) (uses-from-point (suc k) ps) in
    subst Climbs (sym (map-append (λ (u : Use). u.point) here (uses_from (suc k) ps)))
    (climbs-append (use-points here) later (climb-at k 0 p.uses (place_roles p.place)) (uses-climb (suc k) ps)
    (each-weaker (λ x. x ≡ k) (λ x. Each (λ y. x ≤ y) later) (use-points here)
    (λ x e. each-weaker (λ y. suc k ≤ y) (λ y. x ≤ y) later (λ y m. omega (arith, m, e)) low)
    (uses-at-point k 0 p.uses (place_roles p.place))))

serve-points : (ss : List Serve) → map (λ (o : ℕ × ℕ). o.0) (map at_operand ss) ≡ map (λ s. s.point) ss
serve-points [] = refl
serve-points (s ∷ ss) = ap (λ xs. s.point ∷ xs) (serve-points ss)

operand-points : (us : List Use) → map (λ (o : ℕ × ℕ). o.0) (map use_operand us) ≡ use-points us
operand-points [] = refl
operand-points (u ∷ us) = ap (λ xs. u.point ∷ xs) (operand-points us)

lowest : (x : ℕ) (ss : List Serve) → Each (λ y. x ≤ y) (map (λ s. s.point) ss) → (j : ℕ) (d : Serve) → j < length ss → x ≤ (get_or ss j d).point
lowest x [] e j d lt = absurd (omega (arith, lt))
lowest x (s ∷ ss) e zero d lt = e.0
lowest x (s ∷ ss) e (suc j) d lt = lowest x ss e.1 j d (omega (arith, lt))

never-falls : (ss : List Serve) → Climbs (map (λ s. s.point) ss) → IsNonDecreasingBy (λ s. s.point) ss
never-falls [] c i j d le lt = absurd (omega (arith, lt))
never-falls (s ∷ ss) c zero zero d le lt = omega arith
never-falls (s ∷ ss) c zero (suc j) d le lt = lowest s.point ss c.0 j d (omega (arith, lt))
never-falls (s ∷ ss) c (suc i) zero d le lt = absurd (omega (arith, le))
never-falls (s ∷ ss) c (suc i) (suc j) d le lt = never-falls ss c.1 i j d (omega (arith, le)) (omega (arith, lt))

-- ---- the lists

pub lists-in-order : (labels : List Label) (p : Plan) → Rises (map (λ h. h.var) p.homes) → map (λ f. f.point) p.firsts ≡ map (λ a. a.point) (accesses labels)
    → map at_operand p.serves ≡ map use_operand (uses labels) → Rises (map (λ q. q.point) p.passes) → IsInOrder p
lists-in-order labels p homes firsts serves passes = record {
  homes = homes;
  firsts = subst Rises (sym firsts) (accesses-rise 0 (points labels)).rise;
  serves = never-falls p.serves (subst Climbs (sym (sym (serve-points p.serves) ∙ ap (map (λ (o : ℕ × ℕ). o.0)) serves ∙ operand-points (uses labels))) (uses-climb 0 (points labels)));
  passes = passes;
}

pub fits-in-order : (labels : List Label) (p : Plan) → Fits labels p → IsInOrder p
fits-in-order labels p f = lists-in-order labels p f.homes.rise f.firsts f.serves f.passes.rise
