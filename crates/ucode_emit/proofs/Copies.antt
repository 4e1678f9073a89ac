-- What single moves leave, and what the copies after a definition do.
use Rattle.std.proofs.Common.{◌≡◌, ℕ, nat_eq, Bool, true, false, ◌||◌, List, [], ◌∷◌, ◌++◌, Option, if◌then◌else◌, refl, sym, ap, ◌∙◌, subst, ⊎_elim}
use Rattle.std.specs.List.{list_any}
use Rattle.std.proofs.lemmas.Bool.{or_cases, or_left, or_right, or_parts, false≢true, eq-eqb}
use Rattle.nv_base.specs.Sets.{is_in}
use Rattle.nv_base.proofs.Sets.{same-number}
use Rattle.place_plan.specs.declared.place.Place.{Place}
use Rattle.place_plan.specs.declared.place.Place.TheVariants.{S}
use Rattle.place_plan.specs.Places.{same_place}
use Rattle.place_plan.specs.Plan.{Plan, home, pass}
use Rattle.place_plan.specs.Fits.{is_slot, has_place}
use Rattle.place_plan.proofs.Places.{same_place-true, same_place-itself, same_place-from}
use Rattle.ssu_liveness.proofs.Scoped.{in-itself}
use Rattle.ucode_emit.specs.Moves.{Move, Words, put, one_by_one}
use Rattle.ucode_emit.proofs.MoveSteps.{put-other}
use Rattle.ucode_emit.specs.Pieces.{named, copied, all_copied, copies, all_copies}

-- ---- one word

put-if : (b : Bool) (w v u : ℕ) → w ≡ u → v ≡ u → (if b then w else v) ≡ u
put-if true w v u h g = h
put-if false w v u h g = g

-- a place that has this word has it still
pub put_keeps : (e : Words) (p q : Place) (w u : ℕ) → w ≡ u → e q ≡ u → put e p w q ≡ u
put_keeps e p q w u h g = put-if (same_place q p) w (e q) u h g

pub put_here : (e : Words) (p : Place) (w : ℕ) → put e p w p ≡ w
put_here e p w = ap (λ b. if b then w else e p) (same_place-itself p)

-- ---- lists of places

pub place_head : (q : Place) (qs : List Place) → has_place q (q ∷ qs) ≡ true
place_head q qs = or_left (same_place q q) (has_place q qs) (same_place-itself q)

pub not_head : (r q : Place) (qs : List Place) → has_place r (q ∷ qs) ≡ false → r ≡ q → ⊥
not_head r q qs h e = false≢true (sym ((or_parts (same_place r q) (has_place r qs) h).0) ∙ same_place-from r q e)

-- ---- moves one after the other

pub one_append : (a b : List Move) (e : Words) → one_by_one (a ++ b) e ≡ one_by_one b (one_by_one a e)
one_append [] b e = refl
one_append (m ∷ a) b e = one_append a b (put e m.1 (e m.0))

-- ---- copies of one word

-- to a place, by way of a write register where it is a slot
abbrev pub copied_by : Bool → Option ℕ → Place → Place → List Move
copied_by b s from q = if b then (from, S (named s)) ∷ (S (named s), q) ∷ [] else (from, q) ∷ []

-- whoever has the word keeps it
by_keeps : (b : Bool) (s : Option ℕ) (from q r : Place) (e : Words) (w : ℕ) → e from ≡ w → e r ≡ w → one_by_one (copied_by b s from q) e r ≡ w
by_keeps true s from q r e w h g =
    let e' = put e (S (named s)) (e from) in
    put_keeps e' q r (e' (S (named s))) w (put_here e (S (named s)) (e from) ∙ h) (put_keeps e (S (named s)) r (e from) w h g)
by_keeps false s from q r e w h g = put_keeps e q r (e from) w h g

by_brings : (b : Bool) (s : Option ℕ) (from q : Place) (e : Words) (w : ℕ) → e from ≡ w → one_by_one (copied_by b s from q) e q ≡ w
by_brings true s from q e w h =
    let e' = put e (S (named s)) (e from) in
    put_here e' q (e' (S (named s))) ∙ (put_here e (S (named s)) (e from) ∙ h)
by_brings false s from q e w h = put_here e q (e from) ∙ h

by_spares : (b : Bool) (s : Option ℕ) (from q r : Place) (e : Words) → (r ≡ q → ⊥) → (b ≡ true → r ≡ S (named s) → ⊥) → one_by_one (copied_by b s from q) e r ≡ e r
by_spares true s from q r e h g =
    let e' = put e (S (named s)) (e from) in
    put-other e' q r (e' (S (named s))) h ∙ put-other e (S (named s)) r (e from) (g refl)
by_spares false s from q r e h g = put-other e q r (e from) h

pub all_keep : (s : Option ℕ) (from : Place) (qs : List Place) (r : Place) (e : Words) (w : ℕ) → e from ≡ w → e r ≡ w → one_by_one (all_copied s from qs) e r ≡ w
all_keep s from [] r e w h g = g
all_keep s from (q ∷ qs) r e w h g =
    let e' = one_by_one (copied s from q) e in
    ap (λ (f : Words). f r) (one_append (copied s from q) (all_copied s from qs) e)
    ∙ all_keep s from qs r e' w (by_keeps (is_slot q) s from q from e w h h) (by_keeps (is_slot q) s from q r e w h g)

pub all_bring : (s : Option ℕ) (from : Place) (qs : List Place) (r : Place) (e : Words) (w : ℕ) → e from ≡ w → has_place r qs ≡ true → one_by_one (all_copied s from qs) e r ≡ w
all_bring s from [] r e w h g = absurd (false≢true g)
all_bring s from (q ∷ qs) r e w h g =
    let e' = one_by_one (copied s from q) e in
    let h' : e' from ≡ w = by_keeps (is_slot q) s from q from e w h h in
    ap (λ (f : Words). f r) (one_append (copied s from q) (all_copied s from qs) e)
    ∙ ⊎_elim
    (λ (k : same_place r q ≡ true).
    all_keep s from qs r e' w h' (subst (λ z. e' z ≡ w) (sym (same_place-true r q k)) (by_brings (is_slot q) s from q e w h)))
    (λ (k : has_place r qs ≡ true). all_bring s from qs r e' w h' k)
    (or_cases (same_place r q) (has_place r qs) g)

pub all_spare : (s : Option ℕ) (from : Place) (qs : List Place) (r : Place) (e : Words) → has_place r qs ≡ false → (list_any is_slot qs ≡ true → r ≡ S (named s) → ⊥) → one_by_one (all_copied s from qs) e r ≡ e r
all_spare s from [] r e h g = refl
all_spare s from (q ∷ qs) r e h g =
    let e' = one_by_one (copied s from q) e in
    ap (λ (f : Words). f r) (one_append (copied s from q) (all_copied s from qs) e)
    ∙ (all_spare s from qs r e' ((or_parts (same_place r q) (has_place r qs) h).1) (λ k. g (or_right (is_slot q) (list_any is_slot qs) k))
    ∙ by_spares (is_slot q) s from q r e (not_head r q qs h) (λ k. g (or_left (is_slot q) (list_any is_slot qs) k)))

-- ---- copies of the values of a point

-- the copies of a value go nowhere near this place
pub record Safe (p : Plan) (k : ℕ) (y : ℕ) (r : Place) : Type 0 where
  pub target : has_place r (home p y).copied ≡ false
  pub through : list_any is_slot (home p y).copied ≡ true → r ≡ S (named (pass p k).s) → ⊥

keep_one : (b : Bool) (p : Plan) (k : ℕ) (x y : ℕ) (r : Place) (w : ℕ) (e : Words) → nat_eq y x ≡ b → e (home p x).defined ≡ w → e r ≡ w
    → ((y ≡ x → ⊥) → Safe p k y r × Safe p k y (home p x).defined) → (one_by_one (copies p k y) e (home p x).defined ≡ w) × (one_by_one (copies p k y) e r ≡ w)
keep_one true p k x y r w e b h g s =
    let same : y ≡ x = same-number y x b in
    let h' : e (home p y).defined ≡ w = subst (λ z. e (home p z).defined ≡ w) (sym same) h in (
      all_keep (pass p k).s (home p y).defined (home p y).copied (home p x).defined e w h' h,
      all_keep (pass p k).s (home p y).defined (home p y).copied r e w h' g,
    )
keep_one false p k x y r w e b h g s =
    let t = s (λ q. false≢true (sym b ∙ eq-eqb y x q)) in (
      all_spare (pass p k).s (home p y).defined (home p y).copied (home p x).defined e t.1.target t.1.through ∙ h,
      all_spare (pass p k).s (home p y).defined (home p y).copied r e t.0.target t.0.through ∙ g,
    )

pub copies_spare : (p : Plan) (k : ℕ) (xs : List ℕ) (r : Place) (e : Words) → ((y : ℕ) → is_in y xs ≡ true → Safe p k y r) → one_by_one (all_copies p k xs) e r ≡ e r
copies_spare p k [] r e h = refl
copies_spare p k (x ∷ xs) r e h =
    let e' = one_by_one (copies p k x) e in
    let s = h x (or_left (nat_eq x x) (is_in x xs) (in-itself x)) in
    ap (λ (f : Words). f r) (one_append (copies p k x) (all_copies p k xs) e)
    ∙ (copies_spare p k xs r e' (λ y g. h y (or_right (nat_eq y x) (is_in y xs) g))
    ∙ all_spare (pass p k).s (home p x).defined (home p x).copied r e s.target s.through)

-- a word that a value's home has stays in it
pub copies_keep : (p : Plan) (k : ℕ) (x : ℕ) (r : Place) (w : ℕ) (xs : List ℕ) (e : Words) → e (home p x).defined ≡ w → e r ≡ w
    → ((y : ℕ) → is_in y xs ≡ true → (y ≡ x → ⊥) → Safe p k y r × Safe p k y (home p x).defined) → one_by_one (all_copies p k xs) e r ≡ w
copies_keep p k x r w [] e h g s = g
copies_keep p k x r w (y ∷ xs) e h g s =
    let e' = one_by_one (copies p k y) e in
    let step = keep_one (nat_eq y x) p k x y r w e refl h g (λ n. s y (or_left (nat_eq y y) (is_in y xs) (in-itself y)) n) in
    ap (λ (f : Words). f r) (one_append (copies p k y) (all_copies p k xs) e)
    ∙ copies_keep p k x r w xs e' step.0 step.1 (λ z i n. s z (or_right (nat_eq z y) (is_in z xs) i) n)

bring_first : (b : Bool) (p : Plan) (k : ℕ) (x y : ℕ) (r : Place) (w : ℕ) (xs : List ℕ) (e : Words) → nat_eq x y ≡ b → (nat_eq x y || is_in x xs) ≡ true → e (home p x).defined ≡ w → has_place r (home p x).copied ≡ true
    → ((z : ℕ) → is_in z (y ∷ xs) ≡ true → (z ≡ x → ⊥) → Safe p k z r × Safe p k z (home p x).defined)
    → (is_in x xs ≡ true → one_by_one (copies p k y) e (home p x).defined ≡ w → one_by_one (all_copies p k xs) (one_by_one (copies p k y) e) r ≡ w)
    → one_by_one (all_copies p k xs) (one_by_one (copies p k y) e) r ≡ w
bring_first true p k x y r w xs e b i h g s rest =
    let same : x ≡ y = same-number x y b in
    let h' : e (home p y).defined ≡ w = subst (λ z. e (home p z).defined ≡ w) same h in
    let g' : has_place r (home p y).copied ≡ true = subst (λ z. has_place r (home p z).copied ≡ true) same g in
    copies_keep p k x r w xs (one_by_one (copies p k y) e)
    (all_keep (pass p k).s (home p y).defined (home p y).copied (home p x).defined e w h' h)
    (all_bring (pass p k).s (home p y).defined (home p y).copied r e w h' g')
    (λ z l n. s z (or_right (nat_eq z y) (is_in z xs) l) n)
bring_first false p k x y r w xs e b i h g s rest =
    let there : is_in x xs ≡ true = sym (ap (λ c. c || is_in x xs) b) ∙ i in
    let t = s y (or_left (nat_eq y y) (is_in y xs) (in-itself y)) (λ q. false≢true (sym b ∙ eq-eqb x y (sym q))) in
    rest there (all_spare (pass p k).s (home p y).defined (home p y).copied (home p x).defined e t.1.target t.1.through ∙ h)

-- the word of a value comes to each place that it is copied to
pub copies_bring : (p : Plan) (k : ℕ) (x : ℕ) (r : Place) (w : ℕ) (xs : List ℕ) (e : Words) → is_in x xs ≡ true → e (home p x).defined ≡ w → has_place r (home p x).copied ≡ true
    → ((y : ℕ) → is_in y xs ≡ true → (y ≡ x → ⊥) → Safe p k y r × Safe p k y (home p x).defined) → one_by_one (all_copies p k xs) e r ≡ w
copies_bring p k x r w [] e i h g s = absurd (false≢true i)
copies_bring p k x r w (y ∷ xs) e i h g s =
    ap (λ (f : Words). f r) (one_append (copies p k y) (all_copies p k xs) e)
    ∙ bring_first (nat_eq x y) p k x y r w xs e refl i h g s (λ j h'. copies_bring p k x r w xs (one_by_one (copies p k y) e) j h' g (λ z l n. s z (or_right (nat_eq z y) (is_in z xs) l) n))
