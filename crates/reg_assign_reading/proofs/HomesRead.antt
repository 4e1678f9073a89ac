-- Homes of the values that want one, by rising variable, are those that are read off.
use Rattle.std.proofs.Common.{◌≡◌, ℕ, if◌then◌else◌, Bool, true, false, nat_eq, Option, Some, None, List, [], ◌∷◌, map, filter, refl, sym, ap, subst, ◌∙◌}
use Rattle.std.specs.Prelude.{All, Contains}
use Rattle.std.specs.List.{flat_map}
use Rattle.std.specs.List.Sorted.{IsPermutation, IsNonDecreasingBy}
use Rattle.std.proofs.lemmas.List.Elements.{All-contains, All-contains_itself}
use Rattle.std.proofs.lemmas.List.Sorted.{IsPermutation-map, All-permutation, list_any-IsPermutation}
use Rattle.nv_base.specs.Sets.{is_in, all_different, Within}
use Rattle.ssu_ir.specs.Tree.{Label}
use Rattle.ssu_ir.specs.Single.{single}
use Rattle.place_plan.specs.declared.place.Home.{Home as KeptHome}
use Rattle.place_plan.specs.Plan.{Home, home_in, home_view}
use Rattle.place_plan.specs.Uses.{ValueOrigin, Parameter, Result, Fetched, Value, values}
use Rattle.place_plan.specs.Fits.{wants_home}
use Rattle.place_plan.proofs.Sound.{Each}
use Rattle.place_plan.proofs.Spilled.{each-all, all-each, each-weaker, each-apply}
use Rattle.place_plan.proofs.Homes.{IsAlone, alone, wanted-each, found-home}
use Rattle.place_plan.proofs.Joined.{values-different, different-kept, rises, still-different}
use Rattle.bank_prog_form.specs.declared.column.Bank.{Bank}
use Rattle.bank_prog.specs.Meaning.{Chosen}
use Rattle.bank_prog_form.proofs.Loops.{flat-filter}
use Rattle.reg_assign_reading.specs.ReadOff.{Numbers, def_bank, put_home, origin_home, value_home, IsAtHome, AreRead}
use Rattle.reg_assign_reading.specs.inner.Reading.{preferred_home}

-- ---- a home has the variable of its value

put-var : (labels : List Label) (on : Chosen) (numbers : Numbers) (x : ℕ) (o : Option Bank) → (put_home labels on numbers x o).var ≡ x
put-var labels on numbers x (Some h) = refl
put-var labels on numbers x None = refl

origin-var : (labels : List Label) (on : Chosen) (numbers : Numbers) (k x : ℕ) (origin : ValueOrigin) → (origin_home labels on numbers k x origin).var ≡ x
origin-var labels on numbers k x (Parameter l i) = put-var labels on numbers x (def_bank on x)
origin-var labels on numbers k x Result = put-var labels on numbers x (def_bank on x)
origin-var labels on numbers k x (Fetched m i) = refl

-- ---- homes that are made from values

-- of each value its home, which has its variable
record Makes (make : Value → Home) : Type 0 where
  var : (v : Value) → (make v).var ≡ v.var

each-made : (make : Value → Home) (Q : Home → Type 0) (f : Value → Bool) (vs : List Value) → Each (λ v. Q (make v)) vs → Each Q (map make (filter f vs))
each-made make Q f [] h = tt
each-made make Q f (v ∷ vs) h = pick (f v) (each-made make Q f vs h.1)
  where
    pick : (b : Bool) → Each Q (map make (filter f vs)) → Each Q (map make (if b then v ∷ filter f vs else filter f vs))
    pick true rest = (h.0, rest)
    pick false rest = rest

-- the home of each value that wants one is found under its variable
abbrev IsFound : (Value → Bool) → (Value → Home) → List Home → Value → Type 0
IsFound wants make hs v = wants v ≡ true → (home_in hs v.var ≡ make v) × (is_in v.var (map (λ h. h.var) hs) ≡ true)

made-found : (wants : Value → Bool) (make : Value → Home) (vs : List Value) (hs : List Home) → Makes make → all_different (map (λ v. v.var) vs) ≡ true → Within (map (λ v. v.var) (filter wants vs)) (map (λ h. h.var) hs) → All (Contains (map make (filter wants vs))) hs → Each (IsFound wants make hs) vs
made-found wants make vs hs m once each from =
    let built = map make (filter wants vs) in
    let one : (v : Value) → IsAlone vs v → Each (λ (h : Home). h.var ≡ v.var → h ≡ make v) hs = λ v k.
    each-weaker (Contains built) (λ (h : Home). h.var ≡ v.var → h ≡ make v) hs
    (λ h c. All-contains (λ (d : Home). d.var ≡ v.var → d ≡ make v) built h
    (each-all (λ (d : Home). d.var ≡ v.var → d ≡ make v) built
    (each-made make (λ (d : Home). d.var ≡ v.var → d ≡ make v) wants vs
    (each-weaker (λ (w : Value). w.var ≡ v.var → w ≡ v) (λ (w : Value). (make w).var ≡ v.var → make w ≡ make v) vs
    (λ w q e. ap make (q (sym (m.var w) ∙ e))) k)))
    c)
    (all-each (Contains built) hs from) in
    each-apply (λ (v : Value). wants v ≡ true → is_in v.var (map (λ (w : Value). w.var) (filter wants vs)) ≡ true) (IsFound wants make hs) vs
    (each-weaker (IsAlone vs) (λ (v : Value). (wants v ≡ true → is_in v.var (map (λ (w : Value). w.var) (filter wants vs)) ≡ true) → IsFound wants make hs v) vs
    (λ v k w e. (found-home hs v.var (make v) (one v k) (each v.var (w e)), each v.var (w e)))
    (alone vs once))
    (wanted-each wants vs)

-- ---- by rising variable

vars-made : (make : Value → Home) (vs : List Value) → Makes make → map (λ h. h.var) (map make vs) ≡ map (λ v. v.var) vs
vars-made make [] m = refl
vars-made make (v ∷ vs) m = ap (λ x. x ∷ map (λ (h : Home). h.var) (map make vs)) (m.var v) ∙ ap (λ l. v.var ∷ l) (vars-made make vs m)

pub homes-read : (labels : List Label) (on : Chosen) (numbers : Numbers) (built sorted : List KeptHome) → single labels ≡ true → map home_view built ≡ flat_map (preferred_home labels on numbers) (values labels) → IsPermutation built sorted → IsNonDecreasingBy (λ h. h.var) sorted
    → AreRead labels on numbers (map home_view sorted)
homes-read labels on numbers built sorted form e p n =
    let make = value_home labels on numbers in
    let wanted = filter (wants_home labels) (values labels) in
    let made = map make wanted in
    let hs = map home_view sorted in
    let vars = map (λ (h : Home). h.var) hs in
    let m : Makes make = record { var = λ v. origin-var labels on numbers v.point v.var v.origin } in
    let all : map home_view built ≡ made = e ∙ flat-filter (wants_home labels) make (values labels) in
    let perm : IsPermutation made hs = subst (λ (l : List Home). IsPermutation l hs) all (IsPermutation-map home_view built sorted p) in
    let moved : IsPermutation (map (λ (v : Value). v.var) wanted) vars = subst (λ l. IsPermutation l vars) (vars-made make wanted m) (IsPermutation-map (λ (h : Home). h.var) made hs perm) in
    let same : (x : ℕ) → is_in x (map (λ (v : Value). v.var) wanted) ≡ is_in x vars = λ x. list_any-IsPermutation (λ y. nat_eq x y) (map (λ (v : Value). v.var) wanted) vars moved in
    let once : all_different (map (λ (v : Value). v.var) (values labels)) ≡ true = values-different labels form in
    record {
      rise = rises sorted n (still-different (map (λ (v : Value). v.var) wanted) vars moved (different-kept (wants_home labels) (values labels) once));
      each = each-all (IsAtHome labels on numbers hs) (values labels)
          (made-found (wants_home labels) make (values labels) hs m once (λ x f. sym (same x) ∙ f) (All-permutation (Contains made) made hs perm (All-contains_itself made)));
      only = λ x f. same x ∙ f;
    }
