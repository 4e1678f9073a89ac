-- The values of a row that were looked at have numbers, and the numbers that were seen are theirs.
use Rattle.std.proofs.Common.{◌≡◌, ℕ, ◌+◌, ◌<◌, true, false, nat_eq, ◌||◌, ⊎_elim, Option, Some, List, [], ◌∷◌, ◌++◌, length, get_or, take, drop, refl, sym, ap, subst, ◌∙◌}
use Rattle.std.proofs.lemmas.Bool.{or_cases, or_left, or_right, false≢true, eq-eqb}
use Rattle.std.specs.Prelude.{All}
use Rattle.std.proofs.lemmas.List.{get_or-map, length-map, map-append, take_more, take-append-drop}
use Rattle.std.proofs.lemmas.List.Elements.{All-get_or, All-push}
use Rattle.nv_base.specs.Sets.{is_in}
use Rattle.nv_base.proofs.Sets.{in-append, same-number}
use Rattle.ssu_liveness.specs.LiveRows.{Kept, items_of}
use Rattle.ssu_liveness.proofs.Marks.{is-among, not-earlier}
use Rattle.ssu_liveness.proofs.Scoped.{in-itself, in-last, join-different}
use Rattle.reg_assign_numbers.specs.Rows.{HasNumbers}

pub record Told (number : ℕ → Option ℕ) (n : ℕ) (row seen : List ℕ) : Type 0 where
  pub row_ : HasNumbers number n row
  pub seen_ : (x k : ℕ) → is_in x row ≡ true → number x ≡ Some k → is_in k seen ≡ true
  pub of_seen : (k : ℕ) → is_in k seen ≡ true → (x : ℕ) × (is_in x row ≡ true) × (number x ≡ Some k)

pub told-none : (number : ℕ → Option ℕ) (n : ℕ) → Told number n [] []
told-none number n = record {
  row_ = record { once = refl; given = λ x h. absurd (false≢true h); apart = λ x y k h i ne e f. false≢true h };
  seen_ = λ x k h e. absurd (false≢true h);
  of_seen = λ k h. absurd (false≢true h);
}

-- a number that a value before has was seen
not-new : (number : ℕ → Option ℕ) (n : ℕ) (row seen : List ℕ) (x k y m : ℕ) → number x ≡ Some k → is_in k seen ≡ false → Told number n row seen → is_in y row ≡ true → number x ≡ Some m → number y ≡ Some m → ⊥
not-new number n row seen x k y m e free t i f g =
    let both : Some m ≡ Some k = sym f ∙ e in
    let same : m ≡ k = cc in
    false≢true (sym free ∙ t.seen_ y k i (g ∙ ap Some same))

in-one : (z x : ℕ) → is_in z (x ∷ []) ≡ true → nat_eq z x ≡ true
in-one z x h = ⊎_elim (λ (a : nat_eq z x ≡ true). a) (λ (b : is_in z [] ≡ true). absurd (false≢true b)) (or_cases (nat_eq z x) (is_in z []) h)

pub told-more : (number : ℕ → Option ℕ) (n : ℕ) (row seen : List ℕ) (x k : ℕ) → number x ≡ Some k → k < n → is_in k seen ≡ false → Told number n row seen → Told number n (row ++ x ∷ []) (seen ++ k ∷ [])
told-more number n row seen x k e l free t =
    let there : (z : ℕ) → is_in z (row ++ x ∷ []) ≡ true → (is_in z row || nat_eq z x) ≡ true = λ z h. sym (in-last z row x) ∙ h in
    record {
      row_ = record {
        once = join-different row (x ∷ []) t.row_.once refl (λ z a b. not-new number n row seen x k z k e free t a e (ap number (same-number z x (in-one z x b)) ∙ e));
        given = λ z h. ⊎_elim
            (λ (a : is_in z row ≡ true). t.row_.given z a)
            (λ (q : nat_eq z x ≡ true). (k, ap number (same-number z x q) ∙ e, l))
            (or_cases (is_in z row) (nat_eq z x) (there z h));
        apart = λ w y m h i ne f g. ⊎_elim
            (λ (a : is_in w row ≡ true). ⊎_elim
            (λ (b : is_in y row ≡ true). t.row_.apart w y m a b ne f g)
            (λ (q : nat_eq y x ≡ true). not-new number n row seen x k w m e free t a (ap number (sym (same-number y x q)) ∙ g) f)
            (or_cases (is_in y row) (nat_eq y x) (there y i)))
            (λ (p : nat_eq w x ≡ true). ⊎_elim
            (λ (b : is_in y row ≡ true). not-new number n row seen x k y m e free t b (ap number (sym (same-number w x p)) ∙ f) g)
            (λ (q : nat_eq y x ≡ true). ne (same-number w x p ∙ sym (same-number y x q)))
            (or_cases (is_in y row) (nat_eq y x) (there y i)))
            (or_cases (is_in w row) (nat_eq w x) (there w h));
      };
      seen_ = λ z m h f. ⊎_elim
          (λ (a : is_in z row ≡ true). in-last m seen k ∙ or_left (is_in m seen) (nat_eq m k) (t.seen_ z m a f))
          (λ (q : nat_eq z x ≡ true).
          let both : Some m ≡ Some k = sym f ∙ ap number (same-number z x q) ∙ e in
          let same : m ≡ k = cc in
          in-last m seen k ∙ or_right (is_in m seen) (nat_eq m k) (eq-eqb m k same))
          (or_cases (is_in z row) (nat_eq z x) (there z h));
      of_seen = λ m h. ⊎_elim
          (λ (a : is_in m seen ≡ true). let o = t.of_seen m a in (o.0, in-last o.0 row x ∙ or_left (is_in o.0 row) (nat_eq o.0 x) o.1, o.2))
          (λ (q : nat_eq m k ≡ true). (x, in-last x row x ∙ or_right (is_in x row) (nat_eq x x) (in-itself x), e ∙ ap Some (sym (same-number m k q))))
          (or_cases (is_in m seen) (nat_eq m k) (sym (in-last m seen k) ∙ h));
    }

pub told-step : (number : ℕ → Option ℕ) (n : ℕ) (row seen : List ℕ) (i k : ℕ) → i < length row → number (get_or row i 0) ≡ Some k → k < n → is_in k seen ≡ false → Told number n (take i row) seen → Told number n (take (i + 1) row) (seen ++ k ∷ [])
told-step number n row seen i k l e below free t =
    subst (λ (r : List ℕ). Told number n r (seen ++ k ∷ [])) (sym (take_more row i 0 l))
    (told-more number n (take i row) seen (get_or row i 0) k e below free t)

in-taken : (y : ℕ) (row : List ℕ) (i : ℕ) → is_in y (take i row) ≡ true → is_in y row ≡ true
in-taken y row i h = ap (is_in y) (sym (take-append-drop i row)) ∙ in-append y (take i row) (drop i row) ∙ or_left (is_in y (take i row)) (is_in y (drop i row)) h

-- a value with no number below n but such as was seen, and so the row, has no numbers of its own
pub told-stops : (number : ℕ → Option ℕ) (n : ℕ) (row seen : List ℕ) (i : ℕ) → i < length row → ((k : ℕ) → number (get_or row i 0) ≡ Some k → k < n → is_in k seen ≡ true) → Told number n (take i row) seen → HasNumbers number n row → ⊥
told-stops number n row seen i l none t h =
    let x : ℕ = get_or row i 0 in
    let g = h.given x (is-among row i l) in
    let o = t.of_seen g.0 (none g.0 g.1 g.2) in
    h.apart x o.0 g.0 (is-among row i l) (in-taken o.0 row i o.1)
    (λ e. false≢true (sym (not-earlier row i l h.once) ∙ ap (λ z. is_in z (take i row)) e ∙ o.1)) g.1 o.2

-- what holds of each row holds of one
pub holds-at : (P : List ℕ → Type 0) (vs : List Kept) (i : ℕ) (v : Kept) (row : List ℕ) → i < length vs → v ≡ get_or vs i v → row ≡ v.items → All P (items_of vs) → P row
holds-at P vs i v row l e d h =
    subst P (get_or-map (λ (w : Kept). w.items) vs i v [] l ∙ ap (λ (w : Kept). w.items) (sym e) ∙ sym d)
    (All-get_or P (items_of vs) i [] (subst (λ n. i < n) (sym (length-map vs (λ (w : Kept). w.items))) l) h)

-- and what holds of those before it and of it holds of all up to it
pub holds-more : (P : List ℕ → Type 0) (vs : List Kept) (i : ℕ) (v : Kept) (row : List ℕ) → i < length vs → v ≡ get_or vs i v → row ≡ v.items → All P (items_of (take i vs)) → P row → All P (items_of (take (i + 1) vs))
holds-more P vs i v row l e d h p =
    subst (All P) (sym (ap items_of (take_more vs i v l) ∙ map-append (λ (w : Kept). w.items) (take i vs) (get_or vs i v ∷ [])))
    (All-push P (items_of (take i vs)) (get_or vs i v).items h (subst P (d ∙ ap (λ (w : Kept). w.items) e) p))
