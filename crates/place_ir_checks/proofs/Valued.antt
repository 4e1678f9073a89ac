-- The homes that values want, as they are tested and as the rules say them.
use Rattle.std.proofs.Common.{◌≡◌, ℕ, zero, suc, ◌+◌, ◌-◌, ◌<◌, ◌≤◌, Bool, true, false, not, ◌&&◌, ◌||◌, nat_eq, inl, inr, ⊎_elim, List, [], ◌∷◌, ◌++◌, Option, Some, None, length, map, filter, count_by, refl, sym, ap, subst, ◌∙◌, arith, take, drop, if◌then◌else◌}
use Rattle.std.specs.Prelude.{nat_le, nat_lt, ◌==◌, cond}
use Rattle.std.specs.List.{list_all, list_any}
use Rattle.std.proofs.lemmas.Bool.{and_parts, and_from, or_cases, or_left, or_right, false≢true, lt-ltb, ltb-true, le-leb, eq-eqb, not-true, not_from_false}
use Rattle.std.proofs.lemmas.List.Sums.{length-filter, sum_by-cons}
use Rattle.nv_base.specs.declared.term.Mem.{Mem}
use Rattle.nv_base.specs.Sets.{is_in}
use Rattle.nv_base.proofs.Sets.{same-number}
use Rattle.ssu_ir.specs.Tree.{Label}
use Rattle.ssu_ir.specs.Points as pure
use Rattle.ssu_ir.specs.Points.{PointKind as Spot, Entry, At}
use Rattle.ssu_ir.proofs.Searches.{or-false}
use Rattle.ssu_ir.proofs.Lists.{same-order}
use Rattle.place_plan.specs.declared.place.Place.{Place}
use Rattle.place_plan.specs.declared.place.Place.TheVariants.{A, B, L, LD, S, SD, Slot}
use Rattle.place_plan.specs.Places.{same_place}
use Rattle.place_plan.specs.Plan.{Plan, home, first}
use Rattle.place_plan.specs.Uses.{ValueOrigin, Parameter, Result, Fetched, Value, numbered, place_values, Use, uses, uses_of, is_used}
use Rattle.place_plan.specs.Fits.{read_place, IsGeneral, is_slot, same_bank, word_register, is_early, maybe, AreFills, AreCopies, IsPutEarly, IsHome, IsHoused, is_sort_homed, wants_home}
use Rattle.place_ir_checks.specs.inner.NodeLookups.{place_node}
use Rattle.place_ir_checks.specs.inner.Checks.{can_be_home, rank, is_of, used, is_early_of, is_word_at, next_fits, words_fit, fill_fits, fills_fit, copies_match, copies_fit, is_put_early, is_general_home, has_home, param_fits, fetched_fits, fetched_fit, origin_fits, value_fits}
use Rattle.place_plan.proofs.Places.{same_place-true, same_place-from}
use Rattle.place_plan.proofs.Sound.{Each}
use Rattle.place_plan.proofs.Spilled.{each-all, all-each}

-- ---- tests of each element

pub each-of : {X : Type 0} (f : X → Bool) (xs : List X) → list_all f xs ≡ true → Each (λ x. f x ≡ true) xs
each-of f [] e = tt
each-of f (x ∷ xs) e = let p = and_parts (f x) (list_all f xs) e in (p.0, each-of f xs p.1)

pub of-each : {X : Type 0} (f : X → Bool) (xs : List X) → Each (λ x. f x ≡ true) xs → list_all f xs ≡ true
of-each f [] h = refl
of-each f (x ∷ xs) h = and_from (f x) (list_all f xs) h.0 (of-each f xs h.1)

pub used-is : (us : List Use) (x : ℕ) → used us x ≡ is_in x (map (λ u. u.value) us)
used-is [] x = refl
used-is (u ∷ us) x = ap (λ b. b || used us x) (same-order u.value x) ∙ ap (λ b. nat_eq x u.value || b) (used-is us x)

-- ---- general registers and slots

pub general-from : (p : Plan) (q : Place) → can_be_home p.slots q ≡ true → IsGeneral p q
general-from p (A k) e = ltb-true k 15 e
general-from p (B k) e = ltb-true k 15 e
general-from p (Slot k) e = ltb-true k p.slots e
general-from p (L k) e = absurd (false≢true e)
general-from p (LD k) e = absurd (false≢true e)
general-from p (S k) e = absurd (false≢true e)
general-from p (SD k) e = absurd (false≢true e)

pub general-to : (p : Plan) (q : Place) → IsGeneral p q → can_be_home p.slots q ≡ true
general-to p (A k) h = lt-ltb k 15 h
general-to p (B k) h = lt-ltb k 15 h
general-to p (Slot k) h = lt-ltb k p.slots h
general-to p (L k) h = absurd h
general-to p (LD k) h = absurd h
general-to p (S k) h = absurd h
general-to p (SD k) h = absurd h

-- ---- copies into general registers and slots

-- one of the copies, by itself
abbrev IsFill : Plan → Place → Place → Type 0
IsFill p d q = IsGeneral p q × (same_bank q d ≡ false)

fill-parts : (p : Plan) (d q : Place) (last : ℕ) → fill_fits p.slots d last q ≡ true → IsFill p d q
fill-parts p d q last e =
    let a = and_parts (nat_lt last (rank q)) (can_be_home p.slots q && not (same_bank q d)) e in
    let b = and_parts (can_be_home p.slots q) (not (same_bank q d)) a.1 in
    (general-from p q b.0, not-true (same_bank q d) b.1)

fills-each : (p : Plan) (d : Place) (last : ℕ) (qs : List Place) → fills_fit p.slots d last qs ≡ true → Each (IsFill p d) qs
fills-each p d last [] e = tt
fills-each p d last (q ∷ qs) e = let a = and_parts (fill_fits p.slots d last q) (fills_fit p.slots d (rank q) qs) e in (fill-parts p d q last a.0, fills-each p d (rank q) qs a.1)

-- what is copied past this rank
risen : (p : Plan) (d q : Place) (last : ℕ) (qs : List Place) → fills_fit p.slots d last (q ∷ qs) ≡ true → last < rank q
risen p d q last qs e =
    let a = and_parts (fill_fits p.slots d last q) (fills_fit p.slots d (rank q) qs) e in
    ltb-true last (rank q) (and_parts (nat_lt last (rank q)) (can_be_home p.slots q && not (same_bank q d)) a.0).0

past-slots : (p : Plan) (d : Place) (qs : List Place) → fills_fit p.slots d 3 qs ≡ true → qs ≡ []
past-slots p d [] e = refl
past-slots p d (A k ∷ qs) e = let l = risen p d (A k) 3 qs e in absurd (omega arith)
past-slots p d (B k ∷ qs) e = let l = risen p d (B k) 3 qs e in absurd (omega arith)
past-slots p d (Slot k ∷ qs) e = let l = risen p d (Slot k) 3 qs e in absurd (omega arith)
past-slots p d (L k ∷ qs) e = let l = risen p d (L k) 3 qs e in absurd (omega arith)
past-slots p d (LD k ∷ qs) e = let l = risen p d (LD k) 3 qs e in absurd (omega arith)
past-slots p d (S k ∷ qs) e = let l = risen p d (S k) 3 qs e in absurd (omega arith)
past-slots p d (SD k ∷ qs) e = let l = risen p d (SD k) 3 qs e in absurd (omega arith)

rest-fits : (p : Plan) (d q : Place) (last : ℕ) (qs : List Place) → fills_fit p.slots d last (q ∷ qs) ≡ true → fills_fit p.slots d (rank q) qs ≡ true
rest-fits p d q last qs e = (and_parts (fill_fits p.slots d last q) (fills_fit p.slots d (rank q) qs) e).1

past-second : (p : Plan) (d : Place) (qs : List Place) → fills_fit p.slots d 2 qs ≡ true → (o : Option ℕ) × (qs ≡ maybe Slot o)
past-second p d [] e = (None, refl)
past-second p d (A k ∷ qs) e = let l = risen p d (A k) 2 qs e in absurd (omega arith)
past-second p d (B k ∷ qs) e = let l = risen p d (B k) 2 qs e in absurd (omega arith)
past-second p d (Slot k ∷ qs) e = (Some k, ap (λ l. Slot k ∷ l) (past-slots p d qs (rest-fits p d (Slot k) 2 qs e)))
past-second p d (L k ∷ qs) e = let l = risen p d (L k) 2 qs e in absurd (omega arith)
past-second p d (LD k ∷ qs) e = let l = risen p d (LD k) 2 qs e in absurd (omega arith)
past-second p d (S k ∷ qs) e = let l = risen p d (S k) 2 qs e in absurd (omega arith)
past-second p d (SD k ∷ qs) e = let l = risen p d (SD k) 2 qs e in absurd (omega arith)

abbrev Two : List Place → Type 0
Two qs = (b : Option ℕ) × ((o : Option ℕ) × (qs ≡ maybe B b ++ maybe Slot o))

past-first : (p : Plan) (d : Place) (qs : List Place) → fills_fit p.slots d 1 qs ≡ true → Two qs
past-first p d [] e = (None, (None, refl))
past-first p d (A k ∷ qs) e = let l = risen p d (A k) 1 qs e in absurd (omega arith)
past-first p d (B k ∷ qs) e = let w = past-second p d qs (rest-fits p d (B k) 1 qs e) in (Some k, (w.0, ap (λ l. B k ∷ l) w.1))
past-first p d (Slot k ∷ qs) e = (None, (Some k, ap (λ l. Slot k ∷ l) (past-slots p d qs (rest-fits p d (Slot k) 1 qs e))))
past-first p d (L k ∷ qs) e = let l = risen p d (L k) 1 qs e in absurd (omega arith)
past-first p d (LD k ∷ qs) e = let l = risen p d (LD k) 1 qs e in absurd (omega arith)
past-first p d (S k ∷ qs) e = let l = risen p d (S k) 1 qs e in absurd (omega arith)
past-first p d (SD k ∷ qs) e = let l = risen p d (SD k) 1 qs e in absurd (omega arith)

abbrev Three : List Place → Type 0
Three qs = (a : Option ℕ) × ((b : Option ℕ) × ((o : Option ℕ) × (qs ≡ maybe A a ++ (maybe B b ++ maybe Slot o))))

past-none : (p : Plan) (d : Place) (qs : List Place) → fills_fit p.slots d 0 qs ≡ true → Three qs
past-none p d [] e = (None, (None, (None, refl)))
past-none p d (A k ∷ qs) e = let w = past-first p d qs (rest-fits p d (A k) 0 qs e) in (Some k, (w.0, (w.1.0, ap (λ l. A k ∷ l) w.1.1)))
past-none p d (B k ∷ qs) e = let w = past-second p d qs (rest-fits p d (B k) 0 qs e) in (None, (Some k, (w.0, ap (λ l. B k ∷ l) w.1)))
past-none p d (Slot k ∷ qs) e = (None, (None, (Some k, ap (λ l. Slot k ∷ l) (past-slots p d qs (rest-fits p d (Slot k) 0 qs e)))))
past-none p d (L k ∷ qs) e = let l = risen p d (L k) 0 qs e in absurd (omega arith)
past-none p d (LD k ∷ qs) e = let l = risen p d (LD k) 0 qs e in absurd (omega arith)
past-none p d (S k ∷ qs) e = let l = risen p d (S k) 0 qs e in absurd (omega arith)
past-none p d (SD k ∷ qs) e = let l = risen p d (SD k) 0 qs e in absurd (omega arith)

each-left-part : (P Q : Place → Type 0) (qs : List Place) → Each (λ q. P q × Q q) qs → Each P qs
each-left-part P Q [] h = tt
each-left-part P Q (q ∷ qs) h = (h.0.0, each-left-part P Q qs h.1)

each-right-part : (P Q : Place → Type 0) (qs : List Place) → Each (λ q. P q × Q q) qs → Each Q qs
each-right-part P Q [] h = tt
each-right-part P Q (q ∷ qs) h = (h.0.1, each-right-part P Q qs h.1)

each-both : (P Q : Place → Type 0) (qs : List Place) → Each P qs → Each Q qs → Each (λ q. P q × Q q) qs
each-both P Q [] h g = tt
each-both P Q (q ∷ qs) h g = ((h.0, g.0), each-both P Q qs h.1 g.1)

pub fills-from : (p : Plan) (d : Place) (qs : List Place) → fills_fit p.slots d 0 qs ≡ true → AreFills p d qs
fills-from p d qs e =
    let w = past-none p d qs e in
    let h = fills-each p d 0 qs e in
    record {
      a = w.0;
      b = w.1.0;
      slot = w.1.1.0;
      in_order = w.1.1.1;
      general = each-all (IsGeneral p) qs (each-left-part (IsGeneral p) (λ q. same_bank q d ≡ false) qs h);
      elsewhere = each-all (λ q. same_bank q d ≡ false) qs (each-right-part (IsGeneral p) (λ q. same_bank q d ≡ false) qs h);
    }

fill-one : (p : Plan) (d q : Place) (last : ℕ) → last < rank q → IsFill p d q → fill_fits p.slots d last q ≡ true
fill-one p d q last l h = and_from (nat_lt last (rank q)) (can_be_home p.slots q && not (same_bank q d)) (lt-ltb last (rank q) l) (and_from (can_be_home p.slots q) (not (same_bank q d)) (general-to p q h.0) (not_from_false (same_bank q d) h.1))

slot-fits : (p : Plan) (d : Place) (last : ℕ) (o : Option ℕ) → last ≤ 2 → Each (IsFill p d) (maybe Slot o) → fills_fit p.slots d last (maybe Slot o) ≡ true
slot-fits p d last None l h = refl
slot-fits p d last (Some k) l h = and_from (fill_fits p.slots d last (Slot k)) true (fill-one p d (Slot k) last (omega arith) h.0) refl

second-fits : (p : Plan) (d : Place) (last : ℕ) (b o : Option ℕ) → last ≤ 1 → Each (IsFill p d) (maybe B b ++ maybe Slot o) → fills_fit p.slots d last (maybe B b ++ maybe Slot o) ≡ true
second-fits p d last None o l h = slot-fits p d last o (omega arith) h
second-fits p d last (Some k) o l h = and_from (fill_fits p.slots d last (B k)) (fills_fit p.slots d 2 (maybe Slot o)) (fill-one p d (B k) last (omega arith) h.0) (slot-fits p d 2 o (omega arith) h.1)

first-fits : (p : Plan) (d : Place) (a b o : Option ℕ) → Each (IsFill p d) (maybe A a ++ (maybe B b ++ maybe Slot o)) → fills_fit p.slots d 0 (maybe A a ++ (maybe B b ++ maybe Slot o)) ≡ true
first-fits p d None b o h = second-fits p d 0 b o (omega arith) h
first-fits p d (Some k) b o h = and_from (fill_fits p.slots d 0 (A k)) (fills_fit p.slots d 1 (maybe B b ++ maybe Slot o)) (fill-one p d (A k) 0 (omega arith) h.0) (second-fits p d 1 b o (omega arith) h.1)

pub fills-to : (p : Plan) (d : Place) (qs : List Place) → AreFills p d qs → fills_fit p.slots d 0 qs ≡ true
fills-to p d qs h =
    let all = each-both (IsGeneral p) (λ q. same_bank q d ≡ false) qs (all-each (IsGeneral p) qs h.general) (all-each (λ q. same_bank q d ≡ false) qs h.elsewhere) in
    let P : List Place → Type 0 = λ l. fills_fit p.slots d 0 l ≡ true in
    subst P (sym h.in_order) (first-fits p d h.a h.b h.slot (subst (Each (IsFill p d)) h.in_order all))

-- ---- copies into write registers

-- the early uses of a value among these
abbrev pub early-of : Plan → ℕ → List Use → List Use
early-of p x us = filter (is_early p) (filter (λ u. nat_eq u.value x) us)

early-cons : (p : Plan) (x : ℕ) (u : Use) (us : List Use) → early-of p x (u ∷ us) ≡ (if is_early_of p x u then u ∷ early-of p x us else early-of p x us)
early-cons p x u us = pick (nat_eq u.value x) (is_early p u) refl refl
  where
    pick : (a b : Bool) → nat_eq u.value x ≡ a → is_early p u ≡ b → early-of p x (u ∷ us) ≡ (if is_early_of p x u then u ∷ early-of p x us else early-of p x us)
    pick true true e f = grind (arith, e, f)
    pick true false e f = grind (arith, e, f)
    pick false b e f = grind (arith, e, f)

words-from : (p : Plan) (x : ℕ) (qs : List Place) (us : List Use) → words_fit p x qs us ≡ true → qs ≡ map (word_register p) (early-of p x us)
words-from p x [] [] e = refl
words-from p x (q ∷ qs) [] e = absurd (omega (arith, same-number (length (q ∷ qs)) 0 e))
words-from p x qs (u ∷ us) e = step (is_early_of p x u) qs (λ rs. words-from p x rs us) e ∙ ap (map (word_register p)) (sym (early-cons p x u us))
  where
    step : (b : Bool) (rs : List Place) → ((ts : List Place) → words_fit p x ts us ≡ true → ts ≡ map (word_register p) (early-of p x us)) → (if b then next_fits (word_register p u) rs (λ rest. words_fit p x rest us) else words_fit p x rs us) ≡ true → rs ≡ map (word_register p) (if b then u ∷ early-of p x us else early-of p x us)
    step true [] f g = absurd (false≢true g)
    step true (r ∷ rs) f g =
        let a = and_parts (same_place r (word_register p u)) (words_fit p x rs us) g in
        ap (λ w. w ∷ rs) (same_place-true r (word_register p u) a.0) ∙ ap (λ l. word_register p u ∷ l) (f rs a.1)
    step false rs f g = f rs g

words-to : (p : Plan) (x : ℕ) (us : List Use) → words_fit p x (map (word_register p) (early-of p x us)) us ≡ true
words-to p x [] = refl
words-to p x (u ∷ us) = subst (λ l. words_fit p x (map (word_register p) l) (u ∷ us) ≡ true) (sym (early-cons p x u us)) (step (is_early_of p x u) (words-to p x us))
  where
    step : (b : Bool) → words_fit p x (map (word_register p) (early-of p x us)) us ≡ true → (if b then next_fits (word_register p u) (map (word_register p) (if b then u ∷ early-of p x us else early-of p x us)) (λ rest. words_fit p x rest us) else words_fit p x (map (word_register p) (if b then u ∷ early-of p x us else early-of p x us)) us) ≡ true
    step true h = and_from (same_place (word_register p u) (word_register p u)) (words_fit p x (map (word_register p) (early-of p x us)) us) (same_place-from (word_register p u) (word_register p u) refl) h
    step false h = h

length-early : (p : Plan) (x : ℕ) (us : List Use) → length (early-of p x us) ≡ count_by (is_early_of p x) us
length-early p x [] = refl
length-early p x (u ∷ us) = ap length (early-cons p x u us) ∙ step (is_early_of p x u) (length-early p x us) ∙ sym (sum_by-cons (λ v. cond (is_early_of p x v) 1 0) u us)
  where
    step : (b : Bool) → length (early-of p x us) ≡ count_by (is_early_of p x) us → length (if b then u ∷ early-of p x us else early-of p x us) ≡ cond b 1 0 + count_by (is_early_of p x) us
    step true h = omega (arith, h)
    step false h = omega (arith, h)

length-words : (p : Plan) (us : List Use) → length (map (word_register p) us) ≡ length us
length-words p [] = refl
length-words p (u ∷ us) = ap suc (length-words p us)

take-and-drop : (n : ℕ) (qs : List Place) → take n qs ++ drop n qs ≡ qs
take-and-drop zero [] = refl
take-and-drop zero (q ∷ qs) = refl
take-and-drop (suc n) [] = refl
take-and-drop (suc n) (q ∷ qs) = ap (λ l. q ∷ l) (take-and-drop n qs)

length-two : (a b : List Place) → length (a ++ b) ≡ length a + length b
length-two [] b = omega arith
length-two (q ∷ a) b = omega (arith, length-two a b)

take-first : (a b : List Place) (n : ℕ) → n ≡ length a → take n (a ++ b) ≡ a
take-first [] [] zero e = refl
take-first [] (q ∷ b) zero e = refl
take-first [] b (suc n) e = absurd (omega arith)
take-first (q ∷ a) b zero e = absurd (omega arith)
take-first (q ∷ a) b (suc n) e = ap (λ l. q ∷ l) (take-first a b n (omega arith))

drop-first : (a b : List Place) (n : ℕ) → n ≡ length a → drop n (a ++ b) ≡ b
drop-first [] [] zero e = refl
drop-first [] (q ∷ b) zero e = refl
drop-first [] b (suc n) e = absurd (omega arith)
drop-first (q ∷ a) b zero e = absurd (omega arith)
drop-first (q ∷ a) b (suc n) e = drop-first a b n (omega arith)

-- ---- copies

length-none : (qs : List Place) → nat_eq (length qs) 0 ≡ true → qs ≡ []
length-none [] e = refl
length-none (q ∷ qs) e = absurd (omega (arith, same-number (length (q ∷ qs)) 0 e))

pub copies-from : (labels : List Label) (p : Plan) (x : ℕ) → copies_fit (uses labels) p x ≡ true → AreCopies labels p x (home p x)
copies-from labels p x e =
    let us = uses labels in
    let h = home p x in
    let a = and_parts ((length h.copied == 0) || (used us x && not (is_slot h.defined))) (copies_match us p x h.copied) e in
    let n = count_by (is_early_of p x) us in
    let b = and_parts (nat_le n (length h.copied)) (fills_fit p.slots h.defined 0 (take (length h.copied - n) h.copied) && words_fit p x (drop (length h.copied - n) h.copied) us) a.1 in
    let c = and_parts (fills_fit p.slots h.defined 0 (take (length h.copied - n) h.copied)) (words_fit p x (drop (length h.copied - n) h.copied) us) b.1 in
    record {
      fills = take (length h.copied - n) h.copied;
      are = fills-from p h.defined (take (length h.copied - n) h.copied) c.0;
      copied = sym (take-and-drop (length h.copied - n) h.copied) ∙ ap (λ l. take (length h.copied - n) h.copied ++ l) (words-from p x (drop (length h.copied - n) h.copied) us c.1);
      unused = λ f. ⊎_elim
          (λ (g : (length h.copied == 0) ≡ true). length-none h.copied g)
          (λ (g : (used us x && not (is_slot h.defined)) ≡ true). absurd (false≢true (sym (used-is us x ∙ f) ∙ (and_parts (used us x) (not (is_slot h.defined)) g).0)))
          (or_cases (length h.copied == 0) (used us x && not (is_slot h.defined)) a.0);
      from_slot = λ f. ⊎_elim
          (λ (g : (length h.copied == 0) ≡ true). length-none h.copied g)
          (λ (g : (used us x && not (is_slot h.defined)) ≡ true). absurd (false≢true (sym (not-true (is_slot h.defined) (and_parts (used us x) (not (is_slot h.defined)) g).1) ∙ f)))
          (or_cases (length h.copied == 0) (used us x && not (is_slot h.defined)) a.0);
    }

pub copies-to : (labels : List Label) (p : Plan) (x : ℕ) → AreCopies labels p x (home p x) → copies_fit (uses labels) p x ≡ true
copies-to labels p x w =
    let us = uses labels in
    let h = home p x in
    let n = count_by (is_early_of p x) us in
    let words = map (word_register p) (early-of p x us) in
    let many : length words ≡ n = length-words p (early-of p x us) ∙ length-early p x us in
    let both : length h.copied ≡ length w.fills + n = ap length w.copied ∙ length-two w.fills words ∙ ap (λ m. length w.fills + m) many in
    let fill : length h.copied - n ≡ length w.fills = omega arith in
    let taken : take (length h.copied - n) h.copied ≡ w.fills = ap (take (length h.copied - n)) w.copied ∙ take-first w.fills words (length h.copied - n) fill in
    let dropped : drop (length h.copied - n) h.copied ≡ words = ap (drop (length h.copied - n)) w.copied ∙ drop-first w.fills words (length h.copied - n) fill in
    and_from ((length h.copied == 0) || (used us x && not (is_slot h.defined))) (copies_match us p x h.copied)
    (empty-or (used us x) (is_slot h.defined) refl refl)
    (and_from (nat_le n (length h.copied)) (fills_fit p.slots h.defined 0 (take (length h.copied - n) h.copied) && words_fit p x (drop (length h.copied - n) h.copied) us) (le-leb n (length h.copied) (omega arith))
    (and_from (fills_fit p.slots h.defined 0 (take (length h.copied - n) h.copied)) (words_fit p x (drop (length h.copied - n) h.copied) us)
    (ap (fills_fit p.slots h.defined 0) taken ∙ fills-to p h.defined w.fills w.are)
    (ap (λ l. words_fit p x l us) dropped ∙ words-to p x us)))
  where
    empty-or : (a b : Bool) → used (uses labels) x ≡ a → is_slot (home p x).defined ≡ b → ((length (home p x).copied == 0) || (used (uses labels) x && not (is_slot (home p x).defined))) ≡ true
    empty-or false b f g = or_left (length (home p x).copied == 0) (used (uses labels) x && not (is_slot (home p x).defined)) (eq-eqb (length (home p x).copied) 0 (ap length (w.unused (sym (used-is (uses labels) x) ∙ f))))
    empty-or true true f g = or_left (length (home p x).copied == 0) (used (uses labels) x && not (is_slot (home p x).defined)) (eq-eqb (length (home p x).copied) 0 (ap length (w.from_slot g)))
    empty-or true false f g = or_right (length (home p x).copied == 0) (used (uses labels) x && not (is_slot (home p x).defined)) (and_from (used (uses labels) x) (not (is_slot (home p x).defined)) f (not_from_false (is_slot (home p x).defined) g))

-- ---- results that are put early

pub any-filter : (f g : Use → Bool) (us : List Use) → list_any (λ u. f u && g u) us ≡ list_any g (filter f us)
any-filter f g [] = refl
any-filter f g (u ∷ us) = pick (f u) refl (any-filter f g us)
  where
    pick : (b : Bool) → f u ≡ b → list_any (λ v. f v && g v) us ≡ list_any g (filter f us) → ((f u && g u) || list_any (λ v. f v && g v) us) ≡ list_any g (filter f (u ∷ us))
    pick true e h = grind (arith, e, h)
    pick false e h = grind (arith, e, h)

and-assoc : (a b c : Bool) → ((a && b) && c) ≡ (a && (b && c))
and-assoc true b c = refl
and-assoc false b c = refl

-- a word that is put early at a place
abbrev put-at : Plan → Place → Use → Bool
put-at p q u = is_early p u && same_place q (word_register p u)

any-word : (p : Plan) (x : ℕ) (q : Place) (us : List Use) → list_any (is_word_at p x q) us ≡ list_any (put-at p q) (filter (λ u. nat_eq u.value x) us)
any-word p x q us = regroup us ∙ any-filter (λ u. nat_eq u.value x) (put-at p q) us
  where
    regroup : (vs : List Use) → list_any (is_word_at p x q) vs ≡ list_any (λ u. nat_eq u.value x && put-at p q u) vs
    regroup [] = refl
    regroup (v ∷ vs) = ap (λ b. b || list_any (is_word_at p x q) vs) (and-assoc (nat_eq v.value x) (is_early p v) (same_place q (word_register p v))) ∙ ap (λ b. (nat_eq v.value x && put-at p q v) || b) (regroup vs)

one-use : (us : List Use) → length us ≡ 1 → (u : Use) × (us ≡ u ∷ [])
one-use [] e = absurd (omega arith)
one-use (u ∷ []) e = (u, refl)
one-use (u ∷ v ∷ us) e = absurd (omega arith)

pub early-from : (labels : List Label) (p : Plan) (x : ℕ) → is_put_early (uses labels) p x ≡ true → IsPutEarly labels p x (home p x)
early-from labels p x e =
    let us = uses labels in
    let h = home p x in
    let a = and_parts (length h.copied == 0) ((count_by (is_of x) us == 1) && list_any (is_word_at p x h.defined) us) e in
    let b = and_parts (count_by (is_of x) us == 1) (list_any (is_word_at p x h.defined) us) a.1 in
    let w = one-use (uses_of labels x) (length-filter (λ u. nat_eq u.value x) us ∙ same-number (count_by (is_of x) us) 1 b.0) in
    let g : list_any (put-at p h.defined) (w.0 ∷ []) ≡ true = ap (list_any (put-at p h.defined)) (sym w.1) ∙ sym (any-word p x h.defined us) ∙ b.1 in
    let c = and_parts (is_early p w.0) (same_place h.defined (word_register p w.0)) (or-false (put-at p h.defined w.0) ∙ g) in
    record { use_ = w.0; one = w.1; early = c.0; at = same_place-true h.defined (word_register p w.0) c.1; copied = length-none h.copied a.0 }

pub early-to : (labels : List Label) (p : Plan) (x : ℕ) → IsPutEarly labels p x (home p x) → is_put_early (uses labels) p x ≡ true
early-to labels p x w =
    let us = uses labels in
    let h = home p x in
    and_from (length h.copied == 0) ((count_by (is_of x) us == 1) && list_any (is_word_at p x h.defined) us) (eq-eqb (length h.copied) 0 (ap length w.copied))
    (and_from (count_by (is_of x) us == 1) (list_any (is_word_at p x h.defined) us) (eq-eqb (count_by (is_of x) us) 1 (sym (length-filter (λ u. nat_eq u.value x) us) ∙ ap length w.one))
    (any-word p x h.defined us ∙ ap (list_any (put-at p h.defined)) w.one
    ∙ or_left (put-at p h.defined w.use_) false (and_from (is_early p w.use_) (same_place h.defined (word_register p w.use_)) w.early (same_place-from h.defined (word_register p w.use_) w.at))))

-- ---- a value's home

general-home-from : (labels : List Label) (p : Plan) (x : ℕ) → is_general_home (uses labels) p x ≡ true → IsGeneral p (home p x).defined × AreCopies labels p x (home p x)
general-home-from labels p x e = let a = and_parts (can_be_home p.slots (home p x).defined) (copies_fit (uses labels) p x) e in (general-from p (home p x).defined a.0, copies-from labels p x a.1)

general-home-to : (labels : List Label) (p : Plan) (x : ℕ) → IsGeneral p (home p x).defined × AreCopies labels p x (home p x) → is_general_home (uses labels) p x ≡ true
general-home-to labels p x h = and_from (can_be_home p.slots (home p x).defined) (copies_fit (uses labels) p x) (general-to p (home p x).defined h.0) (copies-to labels p x h.1)

-- a value that wants a home has one, as it should be
pub record IsPlaced (labels : List Label) (p : Plan) (v : Value) : Type 0 where
  pub has : wants_home labels v ≡ true → has_home p v.var ≡ true
  pub housed : IsHoused labels p v

origin-from : (labels : List Label) (p : Plan) (k x : ℕ) (s : ValueOrigin) → origin_fits (uses labels) p k x s ≡ true → (is_sort_homed (is_used labels x) s ≡ true → has_home p x ≡ true) × IsHome labels p (record { point = k; var = x; origin = s }) (home p x) s
origin-from labels p k x (Parameter l i) e = let a = and_parts (has_home p x) (is_general_home (uses labels) p x) e in (λ g. a.0, general-home-from labels p x a.1)
origin-from labels p k x Result e =
    let a = and_parts (has_home p x) (is_general_home (uses labels) p x || is_put_early (uses labels) p x) e in
    (λ g. a.0, ⊎_elim (λ (b : is_general_home (uses labels) p x ≡ true). inl (general-home-from labels p x b)) (λ (b : is_put_early (uses labels) p x ≡ true). inr (early-from labels p x b)) (or_cases (is_general_home (uses labels) p x) (is_put_early (uses labels) p x) a.1))
origin-from labels p k x (Fetched m i) e =
    let rest = same_place (home p x).defined (read_place m (first p k + i)) && copies_fit (uses labels) p x in
    let has : is_used labels x ≡ true → (has_home p x && rest) ≡ true = λ g. ⊎_elim
    (λ (b : not (used (uses labels) x) ≡ true). absurd (false≢true (sym (not-true (used (uses labels) x) b) ∙ used-is (uses labels) x ∙ g)))
    (λ (b : (has_home p x && rest) ≡ true). b)
    (or_cases (not (used (uses labels) x)) (has_home p x && rest) e) in (
      λ g. (and_parts (has_home p x) rest (has g)).0,
      λ g.
          let a = and_parts (has_home p x) rest (has g) in
          let b = and_parts (same_place (home p x).defined (read_place m (first p k + i))) (copies_fit (uses labels) p x) a.1 in
          (same_place-true (home p x).defined (read_place m (first p k + i)) b.0, copies-from labels p x b.1),
    )

origin-to : (labels : List Label) (p : Plan) (k x : ℕ) (s : ValueOrigin) → (is_sort_homed (is_used labels x) s ≡ true → has_home p x ≡ true) → IsHome labels p (record { point = k; var = x; origin = s }) (home p x) s → origin_fits (uses labels) p k x s ≡ true
origin-to labels p k x (Parameter l i) h g = and_from (has_home p x) (is_general_home (uses labels) p x) (h refl) (general-home-to labels p x g)
origin-to labels p k x Result h g =
    and_from (has_home p x) (is_general_home (uses labels) p x || is_put_early (uses labels) p x) (h refl)
    (⊎_elim
    (λ (b : IsGeneral p (home p x).defined × AreCopies labels p x (home p x)). or_left (is_general_home (uses labels) p x) (is_put_early (uses labels) p x) (general-home-to labels p x b))
    (λ (b : IsPutEarly labels p x (home p x)). or_right (is_general_home (uses labels) p x) (is_put_early (uses labels) p x) (early-to labels p x b))
    g)
origin-to labels p k x (Fetched m i) h g = pick (used (uses labels) x) refl
  where
    pick : (b : Bool) → used (uses labels) x ≡ b → fetched_fits (uses labels) p m (first p k) i x ≡ true
    pick false f = or_left (not (used (uses labels) x)) (has_home p x && (same_place (home p x).defined (read_place m (first p k + i)) && copies_fit (uses labels) p x)) (not_from_false (used (uses labels) x) f)
    pick true f =
        let w = g (sym (used-is (uses labels) x) ∙ f) in
        or_right (not (used (uses labels) x)) (has_home p x && (same_place (home p x).defined (read_place m (first p k + i)) && copies_fit (uses labels) p x))
        (and_from (has_home p x) (same_place (home p x).defined (read_place m (first p k + i)) && copies_fit (uses labels) p x) (h (sym (used-is (uses labels) x) ∙ f))
        (and_from (same_place (home p x).defined (read_place m (first p k + i))) (copies_fit (uses labels) p x) (same_place-from (home p x).defined (read_place m (first p k + i)) w.0) (copies-to labels p x w.1)))

pub placed-from : (labels : List Label) (p : Plan) (v : Value) → value_fits (uses labels) p v ≡ true → IsPlaced labels p v
placed-from labels p v e = let w = origin-from labels p v.point v.var v.origin e in record { has = w.0; housed = w.1 }

pub placed-to : (labels : List Label) (p : Plan) (v : Value) → IsPlaced labels p v → value_fits (uses labels) p v ≡ true
placed-to labels p v h = origin-to labels p v.point v.var v.origin h.has h.housed

-- ---- as the values of a place are gone over

pub fetched-all : (us : List Use) (p : Plan) (k : ℕ) (m : Mem) (i : ℕ) (xs : List ℕ) → fetched_fit us p m (first p k) i xs ≡ list_all (value_fits us p) (numbered k (Fetched m) i xs)
fetched-all us p k m i [] = refl
fetched-all us p k m i (x ∷ xs) = ap (λ b. fetched_fits us p m (first p k) i x && b) (fetched-all us p k m (suc i) xs)

pub params-all : (us : List Use) (p : Plan) (k l i : ℕ) (xs : List ℕ) → list_all (param_fits us p) xs ≡ list_all (value_fits us p) (numbered k (Parameter l) i xs)
params-all us p k l i [] = refl
params-all us p k l i (x ∷ xs) = ap (λ b. param_fits us p x && b) (params-all us p k l (suc i) xs)

pub entry-values : (us : List Use) (p : Plan) (k : ℕ) (q : Spot) → None ≡ place_node q → list_all (param_fits us p) (pure.place_values q) ≡ list_all (value_fits us p) (place_values k q)
entry-values us p k (Entry l ps) e = params-all us p k l 0 ps
entry-values us p k (At n) e = absurd (cc)
