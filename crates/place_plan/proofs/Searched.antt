-- Lists that rise by a key: what a search by halves finds in them.
use Rattle.std.proofs.Common.{◌≡◌, ◌≢◌, ℕ, zero, suc, ◌<◌, ◌≤◌, Bool, true, false, ltb, leb, ◌&&◌, ◌||◌, List, [], ◌∷◌, map, take, drop, length, get_or, Ok, Err, if◌then◌else◌, refl, sym, ap, ◌∙◌, ⊎_elim, arith, ne_of_lt}
use Rattle.std.specs.Prelude.{nat_eq}
use Rattle.std.specs.List.Sorted.{IsBinarySearchResult, IsNonDecreasingBy, IsPartitionPoint}
use Rattle.std.specs.Ordering.{nat_cmp, ordering_index}
use Rattle.std.proofs.lemmas.Cmp.{ranked}
use Rattle.std.proofs.lemmas.Bool.{eq-eqb, ne_eqb, ltb-true, leb-false, cases_lt}
use Rattle.std.proofs.lemmas.Bool.Decides.{nat_tests, eqb_tells}
use Rattle.nv_base.specs.Sets.{is_in}
use Rattle.place_plan.specs.declared.place.Home.{Home as KeptHome}
use Rattle.place_plan.specs.declared.place.Serve.{Serve}
use Rattle.place_plan.specs.Fits.{Rises}
use Rattle.place_plan.specs.Plan.{home_view, serve_in}
use Rattle.ssu_ir.proofs.Lists.{same-order}

module _ {V : Type 0} (key : V → ℕ) where
  rises-first : (v : V) (l : List V) → Rises (map key (v ∷ l)) → (j : ℕ) (d : V) → j < length l → key v < key (get_or l j d)
  rises-first v [] r j d lt = absurd (omega (arith, lt))
  rises-first v (w ∷ l) r zero d lt = r.0
  rises-first v (w ∷ l) r (suc j) d lt = let z : j < length l = omega (arith, lt) in let y = rises-first w l r.1 j d z in omega (arith, r.0, y)

  rises-rest : (v : V) (l : List V) → Rises (map key (v ∷ l)) → Rises (map key l)
  rises-rest v [] r = tt
  rises-rest v (w ∷ l) r = r.1

  pub never-down : (l : List V) → Rises (map key l) → IsNonDecreasingBy key l
  never-down [] r i j d le lt = absurd (omega (arith, lt))
  never-down (v ∷ l) r zero zero d le lt = omega arith
  never-down (v ∷ l) r zero (suc j) d le lt = let z : j < length l = omega (arith, lt) in let y = rises-first v l r j d z in omega (arith, y)
  never-down (v ∷ l) r (suc i) zero d le lt = absurd (omega (arith, le))
  never-down (v ∷ l) r (suc i) (suc j) d le lt = never-down l (rises-rest v l r) i j d (omega (arith, le)) (omega (arith, lt))

  -- a look-up of the first element with a key: what it gives of that element, or of none
  module _ {X : Type 0} (look : List V → X) (x : ℕ) (give : V → X) (step : (v : V) (l : List V) → look (v ∷ l) ≡ (if nat_eq (key v) x then give v else look l)) where
    past : (v : V) (l : List V) → key v ≢ x → look (v ∷ l) ≡ look l
    past v l n = step v l ∙ ⊎_elim (λ p. absurd (n p.1)) (λ p. ap (λ b. if b then give v else look l) p.0) (eqb_tells (key v) x)

    at : (v : V) (l : List V) → key v ≡ x → look (v ∷ l) ≡ give v
    at v l e = step v l ∙ ap (λ b. if b then give v else look l) (eq-eqb (key v) x e)

    found : (l : List V) (i : ℕ) (d : V) → Rises (map key l) → i < length l → key (get_or l i d) ≡ x → look l ≡ give (get_or l i d)
    found [] i d r lt e = absurd (omega (arith, lt))
    found (v ∷ l) zero d r lt e = at v l e
    found (v ∷ l) (suc i) d r lt e =
        let z : i < length l = omega (arith, lt) in
        let y : key v < x = let w = rises-first v l r i d z in omega (arith, w, e) in
        past v l (ne_of_lt y) ∙ found l i d (rises-rest v l r) z e

    pub missed : (l : List V) → ((k : ℕ) (d : V) → k < length l → key (get_or l k d) ≢ x) → look l ≡ look []
    missed [] h = refl
    missed (v ∷ l) h = past v l (λ e. h 0 v (omega arith) e) ∙ missed l (λ k d lt e. h (suc k) d (omega (arith, lt)) e)

    module _ (l : List V) (rise : Rises (map key l)) where
      comparisons-rise : IsNonDecreasingBy (λ v. ordering_index (nat_cmp (key v) x)) l
      comparisons-rise i j d le lt = let z = never-down l rise i j d le lt in grind (arith, nat_tests, z)

      pub found-at : (i : ℕ) (d : V) → i < length l → IsBinarySearchResult (λ v. nat_cmp (key v) x) l (Ok i) → look l ≡ give (get_or l i d)
      found-at i d lt equal = found l i d rise lt (ranked _ x _ (sym (equal d)))

      pub found-nowhere : (i : ℕ) → IsBinarySearchResult (λ v. nat_cmp (key v) x) l (Err i) → look l ≡ look []
      found-nowhere i parted =
          let both = parted comparisons-rise in
          missed l (λ k d lt e. ⊎_elim
          (λ (z : k < i). let y = ranked _ x _ (sym (both.0 k d (omega arith) z)) in omega (arith, y, e))
          (λ (z : i ≤ k). let y = ranked _ x _ (sym (both.1 k d z lt)) in omega (arith, y, e))
          (cases_lt k i))

-- ---- homes

pub home-vars : (l : List KeptHome) → map (λ h. h.var) (map home_view l) ≡ map (λ h. h.var) l
home-vars [] = refl
home-vars (h ∷ l) = ap (λ xs. h.var ∷ xs) (home-vars l)

pub listed : (x : ℕ) (h : KeptHome) (l : List KeptHome) → is_in x (map (λ h. h.var) (map home_view (h ∷ l))) ≡ (if nat_eq h.var x then true else is_in x (map (λ h. h.var) (map home_view l)))
listed x h l = ap (λ b. b || is_in x (map (λ h. h.var) (map home_view l))) (same-order x h.var) ∙ pick (nat_eq h.var x) (is_in x (map (λ h. h.var) (map home_view l)))
  where
    pick : (a b : Bool) → (a || b) ≡ (if a then true else b)
    pick true b = refl
    pick false b = refl

-- ---- uses by points that never fall

pub drop-orderly : {V : Type 0} (key : V → ℕ) (l : List V) (n : ℕ) → IsNonDecreasingBy key l → IsNonDecreasingBy key (drop n l)
drop-orderly key l zero o = o
drop-orderly key [] (suc n) o = λ i j d le lt. absurd (omega (arith, lt))
drop-orderly key (v ∷ l) (suc n) o = drop-orderly key l n (λ i j d le lt. o (suc i) (suc j) d (omega (arith, le)) (omega (arith, lt)))

module _ (k i : ℕ) where
  other : (s : Serve) (l : List Serve) → s.point ≢ k → serve_in (s ∷ l) k i ≡ serve_in l k i
  other s l n = ap (λ b. if b && nat_eq s.operand i then s else serve_in l k i) (ne_eqb s.point k n)

  none-there : (l : List Serve) → ((j : ℕ) (d : Serve) → j < length l → k < (get_or l j d).point) → serve_in [] k i ≡ serve_in l k i
  none-there [] h = refl
  none-there (s ∷ l) h = none-there l (λ j d lt. h (suc j) d (omega (arith, lt))) ∙ sym (other s l (λ e. let z = h 0 s (omega arith) in omega (arith, z, e)))

  pub skip-earlier : (l : List Serve) (n : ℕ) → n ≤ length l → ((j : ℕ) (d : Serve) → j < n → (get_or l j d).point < k) → serve_in (drop n l) k i ≡ serve_in l k i
  skip-earlier l zero le h = refl
  skip-earlier [] (suc n) le h = absurd (omega (arith, le))
  skip-earlier (s ∷ l) (suc n) le h =
      skip-earlier l n (omega (arith, le)) (λ j d lt. h (suc j) d (omega (arith, lt))) ∙ sym (other s l (λ e. let z = h 0 s (omega arith) in omega (arith, z, e)))

  pub skip-later : (l : List Serve) (n : ℕ) → ((j : ℕ) (d : Serve) → n ≤ j → j < length l → k < (get_or l j d).point) → serve_in (take n l) k i ≡ serve_in l k i
  skip-later l zero h = none-there l (λ j d lt. h j d (omega arith) lt)
  skip-later [] (suc n) h = refl
  skip-later (s ∷ l) (suc n) h = ap (λ (r : Serve). if nat_eq s.point k && nat_eq s.operand i then s else r) (skip-later l n (λ j d le lt. h (suc j) d (omega (arith, le)) (omega (arith, lt))))

  pub narrowed : (l : List Serve) (n m : ℕ) → n ≤ length l → IsPartitionPoint (λ (s : Serve). ltb s.point k ≡ true) (λ (s : Serve). ltb s.point k ≡ false) l n
      → IsPartitionPoint (λ (s : Serve). leb s.point k ≡ true) (λ (s : Serve). leb s.point k ≡ false) (drop n l) m → serve_in (take m (drop n l)) k i ≡ serve_in l k i
  narrowed l n m le p q =
      skip-later (drop n l) m (λ j d a b. leb-false _ k (q.1 j d a b)) ∙ skip-earlier l n le (λ j d lt. ltb-true _ k (p.0 j d (omega arith) lt))
