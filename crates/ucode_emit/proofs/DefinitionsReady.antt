-- Behind the copies of the values that a point defines, all stands ready for the next one.
use Rattle.std.proofs.Common.{◌≡◌, ℕ, zero, suc, ◌+◌, ◌<◌, ◌≤◌, nat_eq, nat_lt, nat_le, true, false, ◌&&◌, ◌||◌, List, [], ◌∷◌, ◌++◌, map, Option, Some, None, refl, sym, ap, ◌∙◌, subst, inl, inr, ⊎_elim, slice_get, arith}
use Rattle.std.specs.Prelude.{is_some}
use Rattle.std.specs.List.{AllByRecursion, list_any}
use Rattle.std.proofs.lemmas.Bool.{and_parts, and_from, or_cases, or_left, or_right, or_parts, false≢true, cases_Bool, eq-eqb, leb-true, lt-ltb, le-leb, false_from_ne_true}
use Rattle.std.proofs.lemmas.Option.{none-some, same_Some}
use Rattle.nv_base.specs.Sets.{is_in}
use Rattle.nv_base.specs.Words.{Env}
use Rattle.nv_base.proofs.Sets.{same-number, within-right}
use Rattle.ssu_ir.specs.Tree.{Label}
use Rattle.ssu_ir.specs.Points.{Point, points}
use Rattle.place_plan.specs.declared.place.Place.{Place}
use Rattle.place_plan.specs.declared.place.Place.TheVariants.{S}
use Rattle.place_plan.specs.Places.{same_place}
use Rattle.place_plan.specs.Plan.{Plan, home, pass}
use Rattle.place_plan.specs.Uses.{Value, place_values as values_at, Use, uses, uses_of, is_used}
use Rattle.place_plan.specs.Fits.{Waits, same_use, point_values, comes_to_slot, is_result, maybe, is_general, is_slot, is_write_register, is_read_register, word_register, is_early, IsPutEarly, general_places, has_place, none_shared}
use Rattle.place_plan.proofs.Places.{same_place-from}
use Rattle.place_plan.proofs.Fitting.{vars-of-place}
use Rattle.ucode_emit.specs.Moves.{Words, one_by_one}
use Rattle.ucode_emit.specs.Pieces.{named, all_copies}
use Rattle.ucode_emit.specs.inner.Ready.{Ready, WaitsAt, lasting}
use Rattle.ucode_emit.specs.inner.Layers.{Placed}
use Rattle.ucode_emit.proofs.PointsLabels.{formed_at, below_at}
use Rattle.ucode_emit.proofs.PointsUses.{use_at, one_value, at_in, use_of, used_by}
use Rattle.ucode_emit.proofs.PointsUsed.{EmittedPoint}
use Rattle.ucode_emit.proofs.Copies.{place_head, Safe, copies_spare, copies_keep, copies_bring}
use Rattle.ucode_emit.proofs.DefinitionsHomes.{general_is, general_not_written, general_not_read, read_not_written, read_place_is, place_filter, none_both, Early, early_register, ThereIn, uses_of_each, filter_get, Settled, in_general, put_early, fetched_to, settled_at, settled_above, Target, fill, word, targets, early_copied, unused_bare, Lasts, in_place, in_read, IsOwn, lasts_from}

-- ---- what waits, and what is held

-- the values that a point defines
pub spot_vars : (labels : List Label) (k : ℕ) (q r : Point) (xs : List ℕ) → EmittedPoint labels k q r xs → point_values k q ≡ xs
spot_vars labels k q r xs s = vars-of-place k q.place ∙ s.values

pub waits_from : (labels : List Label) (p : Plan) (k : ℕ) (q : Point) (u : Use) → (i : ℕ) × (slice_get (uses labels) i ≡ Some u) → is_early p u ≡ true
    → is_in u.value (q.above ++ point_values k q) ≡ true → k < u.point → u.point ≤ k + q.below → Waits labels p k q u
waits_from labels p k q u t e d a b = record {
  there = t;
  waiting =
      and_from (is_early p u) (is_in u.value (q.above ++ point_values k q) && (nat_lt k u.point && nat_le u.point (k + q.below))) e
      (and_from (is_in u.value (q.above ++ point_values k q)) (nat_lt k u.point && nat_le u.point (k + q.below)) d
      (and_from (nat_lt k u.point) (nat_le u.point (k + q.below)) (lt-ltb k u.point a) (le-leb u.point (k + q.below) b)));
}

-- a use of a value that is defined here stands below, and so the value is held
pub record UsedBelow (labels : List Label) (k : ℕ) (q r : Point) (u : Use) : Type 0 where
  pub under : k < u.point
  pub within : u.point ≤ k + q.below
  pub held : is_in u.value r.before ≡ true

pub used_below : (labels : List Label) (p : Plan) (k : ℕ) (q r : Point) (xs : List ℕ) (i : ℕ) (u : Use) → Placed labels p → EmittedPoint labels k q r xs → slice_get (uses labels) i ≡ Some u → is_in u.value xs ≡ true → UsedBelow labels k q r u
used_below labels p k q r xs i u h s e x =
    let a = use_at labels i u e in
    let used : is_in u.value a.point_.uses ≡ true = at_in u.value a.point_.uses u.operand a.operand in
    let f = formed_at labels u.point a.point_ h.single a.at in
    let b = below_at labels k u.point q a.point_ u.value h.single s.emit_context a.at (ap (is_in u.value) s.values ∙ x) (f.uses u.value used) in record {
      under = b.under;
      within = b.within;
      held = sym (ap (is_in u.value) s.same) ∙ b.after used;
    }

pub held_below : (labels : List Label) (p : Plan) (k : ℕ) (q r : Point) (xs : List ℕ) (y : ℕ) → Placed labels p → EmittedPoint labels k q r xs → is_in y xs ≡ true → is_used labels y ≡ true → is_in y r.before ≡ true
held_below labels p k q r xs y h s i u =
    let d = use_of labels y u in
    let x : is_in d.it.value xs ≡ true = ap (λ z. is_in z xs) d.value ∙ i in
    sym (ap (λ z. is_in z r.before) d.value) ∙ (used_below labels p k q r xs d.place d.it h s d.there x).held

pub early_waits : (labels : List Label) (p : Plan) (k : ℕ) (q r : Point) (xs : List ℕ) (y : ℕ) (u : Use) → Placed labels p → EmittedPoint labels k q r xs → is_in y xs ≡ true → Early labels p y u → Waits labels p k q u
early_waits labels p k q r xs y u h s i e =
    let x : is_in u.value xs ≡ true = ap (λ z. is_in z xs) e.value ∙ i in
    let b = used_below labels p k q r xs e.place u h s e.there x in
    waits_from labels p k q u (e.place, e.there) e.early (within-right q.above (point_values k q) u.value (ap (is_in u.value) (spot_vars labels k q r xs s) ∙ x)) b.under b.within

-- what waits at the next point waits after this one
pub waits_on : (labels : List Label) (p : Plan) (k : ℕ) (q r : Point) (xs : List ℕ) (u : Use) → EmittedPoint labels k q r xs → WaitsAt labels p (suc k) r u → Waits labels p k q u
waits_on labels p k q r xs u s w =
    let same : r.above ≡ q.above ++ point_values k q = s.above_it ∙ ap (λ l. q.above ++ l) (sym (spot_vars labels k q r xs s)) in
    let a : suc k ≤ u.point = leb-true (suc k) u.point w.emit_context in
    let b : u.point ≤ suc k + r.below = leb-true u.point (suc k + r.below) w.below in
    let c : q.below ≡ suc r.below = s.below_it in
    waits_from labels p k q u w.there w.early (sym (ap (is_in u.value) same) ∙ w.defined) (omega arith) (omega arith)

waits_early : (labels : List Label) (p : Plan) (k : ℕ) (q : Point) (u : Use) → Waits labels p k q u → is_early p u ≡ true
waits_early labels p k q u w = (and_parts (is_early p u) (is_in u.value (q.above ++ point_values k q) && (nat_lt k u.point && nat_le u.point (k + q.below))) w.waiting).0

pub waits_register : (labels : List Label) (p : Plan) (k : ℕ) (q : Point) (u : Use) → Placed labels p → Waits labels p k q u → is_write_register (word_register p u) ≡ true
waits_register labels p k q u h w = early_register labels p w.there.0 u h w.there.1 (waits_early labels p k q u w)

-- words of two values wait in different registers
pub waits_apart : (labels : List Label) (p : Plan) (k : ℕ) (q : Point) (u v : Use) → Placed labels p → slice_get (points labels) k ≡ Some q → Waits labels p k q u → Waits labels p k q v → (u.value ≡ v.value → ⊥) → word_register p u ≡ word_register p v → ⊥
waits_apart labels p k q u v h e a b n same =
    let other : same_use u v ≡ false =
    false_from_ne_true (same_use u v)
    (λ t.
    let d = and_parts (nat_eq u.point v.point) (nat_eq u.operand v.operand) t in
    n (one_value labels a.there.0 b.there.0 u v a.there.1 b.there.1 (same-number u.point v.point d.0) (same-number u.operand v.operand d.1))) in
    (h.fits.points k q e).waiting.apart u v a b other same

-- ---- the write register for slots

some_named : (o : Option ℕ) (r : Place) → is_some o ≡ true → has_place r (maybe S o) ≡ false → r ≡ S (named o) → ⊥
some_named (Some n) r i h e = false≢true (sym ((or_parts (same_place r (S n)) false h).0) ∙ same_place-from r (S n) e)
some_named None r i h e = false≢true i

comes-emit_context : (labels : List Label) (p : Plan) (v : Value) → is_used labels v.var ≡ true → list_any is_slot (home p v.var).copied ≡ true → comes_to_slot labels p v ≡ true
comes-emit_context labels p v u c =
    and_from (is_used labels v.var) (list_any is_slot (home p v.var).copied || (is_result v.origin && is_slot (home p v.var).defined)) u (or_left (list_any is_slot (home p v.var).copied) (is_result v.origin && is_slot (home p v.var).defined) c)

any_comes : (labels : List Label) (p : Plan) (vs : List Value) (y : ℕ) → is_in y (map (λ v. v.var) vs) ≡ true → is_used labels y ≡ true → list_any is_slot (home p y).copied ≡ true → list_any (comes_to_slot labels p) vs ≡ true
any_comes labels p [] y i u c = absurd (false≢true i)
any_comes labels p (v ∷ vs) y i u c =
    ⊎_elim
    (λ (e : nat_eq y v.var ≡ true).
    let same : y ≡ v.var = same-number y v.var e in
    or_left (comes_to_slot labels p v) (list_any (comes_to_slot labels p) vs)
    (comes-emit_context labels p v (subst (λ z. is_used labels z ≡ true) same u) (subst (λ z. list_any is_slot (home p z).copied ≡ true) same c)))
    (λ (e : is_in y (map (λ v. v.var) vs) ≡ true). or_right (comes_to_slot labels p v) (list_any (comes_to_slot labels p) vs) (any_comes labels p vs y e u c))
    (or_cases (nat_eq y v.var) (is_in y (map (λ v. v.var) vs)) i)

-- no early word waits in it
pub waits_through : (labels : List Label) (p : Plan) (k : ℕ) (q : Point) (u : Use) → Placed labels p → slice_get (points labels) k ≡ Some q → Waits labels p k q u → list_any (comes_to_slot labels p) (values_at k q.place) ≡ true
    → word_register p u ≡ S (named (pass p k).s) → ⊥
waits_through labels p k q u h e w c =
    let f = h.fits.points k q e in
    some_named (pass p k).s (word_register p u) (f.passes.writes c) (f.waiting.read_through u w)

-- ---- copies of one value leave the places of another alone

safe_bare : (p : Plan) (k y : ℕ) (r : Place) → (home p y).copied ≡ [] → Safe p k y r
safe_bare p k y r e = record { target = ap (has_place r) e; through = λ c. absurd (false≢true (sym (ap (list_any is_slot) e) ∙ c)) }

safe_if : (labels : List Label) (p : Plan) (k y : ℕ) (r : Place) → Placed labels p → (is_used labels y ≡ true → Safe p k y r) → Safe p k y r
safe_if labels p k y r h f =
    ⊎_elim (λ (u : is_used labels y ≡ true). f u) (λ (u : is_used labels y ≡ false). safe_bare p k y r (unused_bare labels p y h u)) (cases_Bool (is_used labels y))

settled_spot : (labels : List Label) (p : Plan) (k : ℕ) (q r : Point) (xs : List ℕ) (y : ℕ) → Placed labels p → EmittedPoint labels k q r xs → is_in y xs ≡ true → is_used labels y ≡ true → Settled labels p y
settled_spot labels p k q r xs y h s i u = settled_at labels p k q y h s.emit_context (ap (is_in y) s.values ∙ i) u

-- a place that no copy goes to
safe_off : (labels : List Label) (p : Plan) (k y : ℕ) (t : Place) → Settled labels p y → (Target labels p y t → has_place t (home p y).copied ≡ true → ⊥) → (list_any is_slot (home p y).copied ≡ true → t ≡ S (named (pass p k).s) → ⊥) → Safe p k y t
safe_off labels p k y t d f g = record { target = false_from_ne_true (has_place t (home p y).copied) (λ c. f (targets labels p y t d c) c); through = g }

off_general : (labels : List Label) (p : Plan) (x y : ℕ) (t : Place) → Placed labels p → is_general t ≡ true → has_place t (general_places p x) ≡ true → none_shared (general_places p x) (general_places p y) ≡ true
    → Target labels p y t → has_place t (home p y).copied ≡ true → ⊥
off_general labels p x y t h g m n (fill i) c =
    none_both t (general_places p x) (general_places p y) n m
    (place_filter is_general t ((home p y).defined ∷ (home p y).copied) (or_right (same_place t (home p y).defined) (has_place t (home p y).copied) c) g)
off_general labels p x y t h g m n (word u e same) c = general_not_written t g (ap is_write_register same ∙ early_register labels p e.place u h e.there e.early)

off_read : (labels : List Label) (p : Plan) (y : ℕ) (t : Place) → Placed labels p → is_read_register t ≡ true → Target labels p y t → ⊥
off_read labels p y t h g (fill i) = general_not_read t (general_is p t i) g
off_read labels p y t h g (word u e same) = read_not_written t g (ap is_write_register same ∙ early_register labels p e.place u h e.there e.early)

general_no_s : (t : Place) (n : ℕ) → is_general t ≡ true → t ≡ S n → ⊥
general_no_s t n g e = false≢true (sym (ap is_general e) ∙ g)

read_no_s : (t : Place) (n : ℕ) → is_read_register t ≡ true → t ≡ S n → ⊥
read_no_s t n g e = false≢true (sym (ap is_read_register e) ∙ g)

pub safe_general : (labels : List Label) (p : Plan) (k : ℕ) (q r : Point) (xs : List ℕ) (x y : ℕ) (t : Place) → Placed labels p → EmittedPoint labels k q r xs → is_in x r.before ≡ true → is_in y xs ≡ true → (y ≡ x → ⊥)
    → is_general t ≡ true → has_place t (general_places p x) ≡ true → Safe p k y t
safe_general labels p k q r xs x y t h s b i n g m =
    safe_if labels p k y t h
    (λ u.
    let held = held_below labels p k q r xs y h s i u in
    let apart = (h.fits.points (suc k) r s.next).held.general x y b held (λ e. n (sym e)) in
    safe_off labels p k y t (settled_spot labels p k q r xs y h s i u) (off_general labels p x y t h g m apart) (λ c. general_no_s t (named (pass p k).s) g))

pub safe_read : (labels : List Label) (p : Plan) (k : ℕ) (q r : Point) (xs : List ℕ) (y : ℕ) (t : Place) → Placed labels p → EmittedPoint labels k q r xs → is_in y xs ≡ true → is_read_register t ≡ true → Safe p k y t
safe_read labels p k q r xs y t h s i g =
    safe_if labels p k y t h
    (λ u. safe_off labels p k y t (settled_spot labels p k q r xs y h s i u) (λ d c. off_read labels p y t h g d) (λ c. read_no_s t (named (pass p k).s) g))

off_word : (labels : List Label) (p : Plan) (k : ℕ) (q r : Point) (xs : List ℕ) (y : ℕ) (v : Use) → Placed labels p → EmittedPoint labels k q r xs → is_in y xs ≡ true → (y ≡ v.value → ⊥) → Waits labels p k q v → Target labels p y (word_register p v) → ⊥
off_word labels p k q r xs y v h s i n w (fill g) = general_not_written (word_register p v) (general_is p (word_register p v) g) (waits_register labels p k q v h w)
off_word labels p k q r xs y v h s i n w (word u e same) =
    waits_apart labels p k q v u h s.emit_context w (early_waits labels p k q r xs y u h s i e) (λ k. n (sym e.value ∙ sym k)) same

pub safe_word : (labels : List Label) (p : Plan) (k : ℕ) (q r : Point) (xs : List ℕ) (y : ℕ) (v : Use) → Placed labels p → EmittedPoint labels k q r xs → is_in y xs ≡ true → (y ≡ v.value → ⊥) → Waits labels p k q v → Safe p k y (word_register p v)
safe_word labels p k q r xs y v h s i n w =
    safe_if labels p k y (word_register p v) h
    (λ u.
    safe_off labels p k y (word_register p v) (settled_spot labels p k q r xs y h s i u) (λ d c. off_word labels p k q r xs y v h s i n w d)
    (λ c. waits_through labels p k q v h s.emit_context w (any_comes labels p (values_at k q.place) y (ap (is_in y) (spot_vars labels k q r xs s) ∙ i) u c)))

first_only : (u v : Use) (j : ℕ) → slice_get (v ∷ []) j ≡ Some u → u ≡ v
first_only u v zero g = sym (same_Some v u g)
first_only u v (suc j) g = absurd (none-some u g)

one_early : (labels : List Label) (p : Plan) (x : ℕ) (us : List Use) (u : Use) → us ≡ u ∷ [] → is_early p u ≡ true → AllByRecursion (λ v. ThereIn (uses labels) v × (nat_eq v.value x ≡ true)) us → Early labels p x u
one_early labels p x us u e g a =
    let d = subst (AllByRecursion (λ v. ThereIn (uses labels) v × (nat_eq v.value x ≡ true))) e a in
    record { place = d.0.0.0; there = d.0.0.1; early = g; value = same-number u.value x d.0.1 }

only_one : (us : List Use) (u v : Use) (j : ℕ) → us ≡ v ∷ [] → slice_get us j ≡ Some u → u ≡ v
only_one us u v j e g = first_only u v j (sym (ap (λ l. slice_get l j) e) ∙ g)

-- the word that is put early
pub early_use : (labels : List Label) (p : Plan) (x : ℕ) (g : IsPutEarly labels p x (home p x)) → Early labels p x g.use_
early_use labels p x g = one_early labels p x (uses_of labels x) g.use_ g.one g.early (uses_of_each labels x)

pub safe_defined : (labels : List Label) (p : Plan) (k : ℕ) (q r : Point) (xs : List ℕ) (x y : ℕ) → Placed labels p → EmittedPoint labels k q r xs → is_in x xs ≡ true → is_in x r.before ≡ true → Settled labels p x → is_in y xs ≡ true → (y ≡ x → ⊥) → Safe p k y (home p x).defined
safe_defined labels p k q r xs x y h s j b (in_general g c) i n =
    let k' : is_general (home p x).defined ≡ true = general_is p (home p x).defined g in
    safe_general labels p k q r xs x y (home p x).defined h s b i n k'
    (place_filter is_general (home p x).defined ((home p x).defined ∷ (home p x).copied) (place_head (home p x).defined (home p x).copied) k')
safe_defined labels p k q r xs x y h s j b (put_early g) i n =
    let e = early_use labels p x g in
    subst (Safe p k y) (sym g.at) (safe_word labels p k q r xs y g.use_ h s i (λ z. n (z ∙ e.value)) (early_waits labels p k q r xs x g.use_ h s j e))
safe_defined labels p k q r xs x y h s j b (fetched_to m l e c) i n =
    safe_read labels p k q r xs y (home p x).defined h s i (ap is_read_register e ∙ read_place_is m l)

safe_lasting : (labels : List Label) (p : Plan) (k : ℕ) (q r : Point) (xs : List ℕ) (x y : ℕ) (t : Place) → Placed labels p → EmittedPoint labels k q r xs → is_in x r.before ≡ true → is_in y xs ≡ true → (y ≡ x → ⊥) → Lasts labels p x t → Safe p k y t
safe_lasting labels p k q r xs x y t h s b i n (in_place g m) = safe_general labels p k q r xs x y t h s b i n g m
safe_lasting labels p k q r xs x y t h s b i n (in_read g m) = safe_read labels p k q r xs y t h s i g

-- ---- before the copies, and after them

-- the values that are defined here have their words where they are defined; the others that are held on have them wherever they last; and
-- the early words of others are in their registers
pub record Brought (labels : List Label) (p : Plan) (k : ℕ) (r : Point) (xs : List ℕ) (env : Env) (e : Words) : Type 0 where
  pub defined : (x : ℕ) → is_in x xs ≡ true → is_used labels x ≡ true → e (home p x).defined ≡ env x
  pub held : (x : ℕ) → is_in x r.before ≡ true → is_in x xs ≡ false → (t : Place) → has_place t (lasting labels p x) ≡ true → e t ≡ env x
  pub early : (u : Use) → WaitsAt labels p (suc k) r u → is_in u.value xs ≡ false → e (word_register p u) ≡ env u.value

absent_other : (x y : ℕ) (xs : List ℕ) → is_in x xs ≡ false → is_in y xs ≡ true → y ≡ x → ⊥
absent_other x y xs f i e = false≢true (sym f ∙ subst (λ z. is_in z xs ≡ true) e i)

own_word : (labels : List Label) (p : Plan) (k : ℕ) (xs : List ℕ) (x : ℕ) (t : Place) (w : ℕ) (e : Words) → is_in x xs ≡ true → e (home p x).defined ≡ w
    → ((y : ℕ) → is_in y xs ≡ true → (y ≡ x → ⊥) → Safe p k y t × Safe p k y (home p x).defined) → IsOwn p x t → one_by_one (all_copies p k xs) e t ≡ w
own_word labels p k xs x t w e i h s o =
    ⊎_elim
    (λ (d : t ≡ (home p x).defined). copies_keep p k x t w xs e h (ap e d ∙ h) s)
    (λ (d : has_place t (home p x).copied ≡ true). copies_bring p k x t w xs e i h d s)
    o

held_there : (labels : List Label) (p : Plan) (k : ℕ) (q r : Point) (xs : List ℕ) (env : Env) (e : Words) → Placed labels p → EmittedPoint labels k q r xs → Brought labels p k r xs env e
    → (x : ℕ) → is_in x r.before ≡ true → (t : Place) → has_place t (lasting labels p x) ≡ true → one_by_one (all_copies p k xs) e t ≡ env x
held_there labels p k q r xs env e h s b x i t m =
    let u = s.used_it x i in
    let d = settled_above labels p (suc k) r x h s.next (s.known x i) u in
    let l = lasts_from labels p x t (λ v. d) m in
    ⊎_elim
    (λ (j : is_in x xs ≡ true).
    own_word labels p k xs x t (env x) e j (b.defined x j u)
    (λ y v n. (safe_lasting labels p k q r xs x y t h s i v n l.0, safe_defined labels p k q r xs x y h s j i d v n)) l.1)
    (λ (j : is_in x xs ≡ false).
    copies_spare p k xs t e (λ y v. safe_lasting labels p k q r xs x y t h s i v (absent_other x y xs j v) l.0) ∙ b.held x i j t m)
    (cases_Bool (is_in x xs))

-- where the one use is early, it is that one
early_only : (labels : List Label) (p : Plan) (x : ℕ) (u : Use) (g : IsPutEarly labels p x (home p x)) → Early labels p x u → u ≡ g.use_
early_only labels p x u g e =
    let a = filter_get (λ u. nat_eq u.value x) (uses labels) e.place u e.there (eq-eqb u.value x e.value) in
    only_one (uses_of labels x) u g.use_ a.0 g.one a.1

early_own : (labels : List Label) (p : Plan) (x : ℕ) (u : Use) → Settled labels p x → Early labels p x u → IsOwn p x (word_register p u)
early_own labels p x u (in_general g c) e = inr (early_copied labels p x u c e)
early_own labels p x u (put_early g) e = inl (ap (word_register p) (early_only labels p x u g e) ∙ sym g.at)
early_own labels p x u (fetched_to m l d c) e = inr (early_copied labels p x u c e)

early_there : (labels : List Label) (p : Plan) (k : ℕ) (q r : Point) (xs : List ℕ) (env : Env) (e : Words) → Placed labels p → EmittedPoint labels k q r xs → Brought labels p k r xs env e
    → (u : Use) → WaitsAt labels p (suc k) r u → one_by_one (all_copies p k xs) e (word_register p u) ≡ env u.value
early_there labels p k q r xs env e h s b u w =
    let behind = waits_on labels p k q r xs u s w in
    ⊎_elim
    (λ (j : is_in u.value xs ≡ true).
    let used = used_by (uses labels) w.there.0 u w.there.1 in
    let held = held_below labels p k q r xs u.value h s j used in
    let d = settled_spot labels p k q r xs u.value h s j used in
    let it : Early labels p u.value u = record { place = w.there.0; there = w.there.1; early = w.early; value = refl } in
    own_word labels p k xs u.value (word_register p u) (env u.value) e j (b.defined u.value j used)
    (λ y v n. (safe_word labels p k q r xs y u h s v n behind, safe_defined labels p k q r xs u.value y h s j held d v n)) (early_own labels p u.value u d it))
    (λ (j : is_in u.value xs ≡ false).
    copies_spare p k xs (word_register p u) e (λ y v. safe_word labels p k q r xs y u h s v (absent_other u.value y xs j v) behind) ∙ b.early u w j)
    (cases_Bool (is_in u.value xs))

pub ready_behind : (labels : List Label) (p : Plan) (k : ℕ) (q r : Point) (xs : List ℕ) (env : Env) (e : Words) → Placed labels p → EmittedPoint labels k q r xs → Brought labels p k r xs env e
    → Ready labels p (suc k) r env (one_by_one (all_copies p k xs) e)
ready_behind labels p k q r xs env e h s b = record { held = held_there labels p k q r xs env e h s b; early = early_there labels p k q r xs env e h s b }
