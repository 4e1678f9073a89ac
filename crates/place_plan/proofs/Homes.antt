-- Homes of the values that want one, by rising variable, are found under their variables.
use Rattle.std.proofs.Common.{◌≡◌, ℕ, Bool, true, false, not, nat_eq, if◌then◌else◌, ◌||◌, ◌&&◌, ⊎_elim, List, [], ◌∷◌, map, filter, refl, sym, ap, ◌∙◌}
use Rattle.std.specs.Prelude.{All, Contains, slice_get}
use Rattle.std.specs.List.{list_all}
use Rattle.std.proofs.lemmas.List.Elements.{All-contains}
use Rattle.std.proofs.lemmas.Bool.{and_parts, or_cases, or_left, or_right, false≢true, not-true}
use Rattle.nv_base.specs.Sets.{is_in, all_different, Within}
use Rattle.nv_base.proofs.Sets.{same-number}
use Rattle.ssu_ir.specs.Tree.{Label}
use Rattle.ssu_ir.specs.Points.{points}
use Rattle.ssu_ir.specs.Single.{all_defined, is_entry, is_single, single}
use Rattle.place_plan.specs.Plan.{Home, home_in}
use Rattle.place_plan.specs.Uses.{ValueOrigin, Parameter, Result, Fetched, Value, values}
use Rattle.place_plan.specs.Fits.{wants_home, Rises}
use Rattle.ssu_liveness.specs.inner.Numbers.{Numbers, values_among}
use Rattle.place_plan.specs.inner.Spilled.{slot_number, origin_home, value_home, IsAtHome, AreSpilled}
use Rattle.ssu_liveness.proofs.Scoped.{in-itself}
use Rattle.ssu_liveness.proofs.Numbering.{places-of-labels, different-labels}
use Rattle.place_plan.proofs.Sound.{Each}
use Rattle.place_plan.proofs.Spilled.{each-all, all-each, each-weaker, each-apply}
use Rattle.place_plan.proofs.Fitting.{values-are}

pub home-var : (n x : ℕ) (origin : ValueOrigin) → (origin_home n x origin).var ≡ x
home-var n x (Parameter l i) = refl
home-var n x Result = refl
home-var n x (Fetched m i) = refl

-- ---- values differ by their variables

out-of : (x : ℕ) (vs : List Value) → is_in x (map (λ v. v.var) vs) ≡ false → Each (λ v. x ≡ v.var → ⊥) vs
out-of x [] e = tt
out-of x (v ∷ vs) e = (
  λ same. false≢true (sym e ∙ or_left (nat_eq x v.var) (is_in x (map (λ v. v.var) vs)) (ap (nat_eq x) (sym same) ∙ in-itself x)),
  out-of x vs (rest (nat_eq x v.var) e),
)
  where
    rest : (b : Bool) → (b || is_in x (map (λ v. v.var) vs)) ≡ false → is_in x (map (λ v. v.var) vs) ≡ false
    rest true f = absurd (false≢true (sym f))
    rest false f = f

abbrev pub IsAlone : List Value → Value → Type 0
IsAlone vs v = Each (λ w. w.var ≡ v.var → w ≡ v) vs

pub alone : (vs : List Value) → all_different (map (λ v. v.var) vs) ≡ true → Each (IsAlone vs) vs
alone [] h = tt
alone (v ∷ vs) h =
    let p = and_parts (not (is_in v.var (map (λ (w : Value). w.var) vs))) (all_different (map (λ (w : Value). w.var) vs)) h in
    let out : Each (λ (w : Value). v.var ≡ w.var → ⊥) vs = out-of v.var vs (not-true (is_in v.var (map (λ (w : Value). w.var) vs)) p.0) in (
      (λ e. refl, each-weaker (λ (w : Value). v.var ≡ w.var → ⊥) (λ (w : Value). w.var ≡ v.var → w ≡ v) vs (λ w n e. absurd (n (sym e))) out),
      each-apply (IsAlone vs) (IsAlone (v ∷ vs)) vs
          (each-weaker (λ (w : Value). v.var ≡ w.var → ⊥) (λ (u : Value). IsAlone vs u → IsAlone (v ∷ vs) u) vs (λ u n a. (λ e. absurd (n e), a)) out)
          (alone vs p.1),
    )

-- ---- homes

each-made : (number : Numbers) (Q : Home → Type 0) (f : Value → Bool) (vs : List Value) → Each (λ v. Q (value_home number v)) vs → Each Q (map (value_home number) (filter f vs))
each-made number Q f [] h = tt
each-made number Q f (v ∷ vs) h = pick (f v) (each-made number Q f vs h.1)
  where
    pick : (b : Bool) → Each Q (map (value_home number) (filter f vs)) → Each Q (map (value_home number) (if b then v ∷ filter f vs else filter f vs))
    pick true rest = (h.0, rest)
    pick false rest = rest

pub wanted-each : (f : Value → Bool) (vs : List Value) → Each (λ v. f v ≡ true → is_in v.var (map (λ w. w.var) (filter f vs)) ≡ true) vs
wanted-each f [] = tt
wanted-each f (v ∷ vs) = (
  λ e. first (f v) e,
  each-weaker (λ (w : Value). f w ≡ true → is_in w.var (map (λ (u : Value). u.var) (filter f vs)) ≡ true) (λ (w : Value). f w ≡ true → is_in w.var (map (λ (u : Value). u.var) (filter f (v ∷ vs))) ≡ true) vs
      (λ w h e. later w (f v) (h e)) (wanted-each f vs),
)
  where
    first : (b : Bool) → b ≡ true → is_in v.var (map (λ w. w.var) (if b then v ∷ filter f vs else filter f vs)) ≡ true
    first true e = or_left (nat_eq v.var v.var) (is_in v.var (map (λ (w : Value). w.var) (filter f vs))) (in-itself v.var)
    first false e = absurd (false≢true e)

    later : (w : Value) (b : Bool) → is_in w.var (map (λ u. u.var) (filter f vs)) ≡ true → is_in w.var (map (λ u. u.var) (if b then v ∷ filter f vs else filter f vs)) ≡ true
    later w true e = or_right (nat_eq w.var v.var) (is_in w.var (map (λ (u : Value). u.var) (filter f vs))) e
    later w false e = e

pub found-home : (homes : List Home) (x : ℕ) (it : Home) → Each (λ h. h.var ≡ x → h ≡ it) homes → is_in x (map (λ h. h.var) homes) ≡ true → home_in homes x ≡ it
found-home [] x it h e = absurd (false≢true e)
found-home (d ∷ homes) x it h e = pick (nat_eq d.var x) refl (λ a. found-home homes x it h.1 a)
  where
    pick : (b : Bool) → nat_eq d.var x ≡ b → (is_in x (map (λ h. h.var) homes) ≡ true → home_in homes x ≡ it) → (if b then d else home_in homes x) ≡ it
    pick true f rest = h.0 (same-number d.var x f)
    pick false f rest = ⊎_elim
        (λ (a : nat_eq x d.var ≡ true). absurd (false≢true (sym f ∙ ap (λ y. nat_eq y x) (sym (same-number x d.var a)) ∙ in-itself x)))
        rest
        (or_cases (nat_eq x d.var) (is_in x (map (λ h. h.var) homes)) e)

pub homes-are-spilled : (labels : List Label) (number : Numbers) (homes : List Home) → single labels ≡ true → Rises (map (λ h. h.var) homes)
    → Within (map (λ v. v.var) (filter (wants_home labels) (values labels))) (map (λ h. h.var) homes) → Within (map (λ h. h.var) homes) (map (λ v. v.var) (filter (wants_home labels) (values labels)))
    → All (Contains (map (value_home number) (filter (wants_home labels) (values labels)))) homes → AreSpilled labels number homes
homes-are-spilled labels number homes form rise each only from =
    let vs = values labels in
    let built = map (value_home number) (filter (wants_home labels) vs) in
    let a = and_parts (is_entry (slice_get labels 0)) (all_different (all_defined labels) && list_all (is_single labels) labels) form in
    let b = and_parts (all_different (all_defined labels)) (list_all (is_single labels) labels) a.1 in
    let once : all_different (map (λ (v : Value). v.var) vs) ≡ true =
    ap all_different (values-are 0 (points labels)) ∙ ap (λ ps. all_different (values_among ps)) (places-of-labels 0 labels) ∙ different-labels 0 labels b.0 in
    let one : (v : Value) → IsAlone vs v → Each (λ (h : Home). h.var ≡ v.var → h ≡ value_home number v) homes = λ v k.
    each-weaker (Contains built) (λ (h : Home). h.var ≡ v.var → h ≡ value_home number v) homes
    (λ h c. All-contains (λ (d : Home). d.var ≡ v.var → d ≡ value_home number v) built h
    (each-all (λ (d : Home). d.var ≡ v.var → d ≡ value_home number v) built
    (each-made number (λ (d : Home). d.var ≡ v.var → d ≡ value_home number v) (wants_home labels) vs
    (each-weaker (λ (w : Value). w.var ≡ v.var → w ≡ v) (λ (w : Value). (value_home number w).var ≡ v.var → value_home number w ≡ value_home number v) vs
    (λ w q e. ap (value_home number) (q (sym (home-var (slot_number number w.var) w.var w.origin) ∙ e))) k)))
    c)
    (all-each (Contains built) homes from) in
    record {
      rise = rise;
      each = each-all (IsAtHome labels number homes) vs
          (each-apply (λ (v : Value). wants_home labels v ≡ true → is_in v.var (map (λ (w : Value). w.var) (filter (wants_home labels) vs)) ≡ true) (IsAtHome labels number homes) vs
          (each-weaker (IsAlone vs) (λ (v : Value). (wants_home labels v ≡ true → is_in v.var (map (λ (w : Value). w.var) (filter (wants_home labels) vs)) ≡ true) → IsAtHome labels number homes v) vs
          (λ v k w e. (found-home homes v.var (value_home number v) (one v k) (each v.var (w e)), each v.var (w e)))
          (alone vs once))
          (wanted-each (wants_home labels) vs));
      only = only;
    }
