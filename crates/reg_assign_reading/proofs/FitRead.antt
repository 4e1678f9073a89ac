-- What is known of a form and of the plan that is read off a choice of columns: its homes, and the values that its uses and points name.
use Rattle.std.proofs.Common.{◌≡◌, ℕ, suc, ◌<◌, Bool, true, false, nat_eq, inl, inr, ⊎_elim, Some, List, [], ◌∷◌, if◌then◌else◌, map, filter, refl, sym, ap, subst, ◌∙◌, arith}
use Rattle.std.specs.Prelude.{slice_get}
use Rattle.std.specs.List.{list_any}
use Rattle.std.proofs.lemmas.List.Elements.{All-contains}
use Rattle.std.proofs.lemmas.Bool.{or_cases, or_left, or_right, false≢true, false_from_ne_true}
use Rattle.nv_base.specs.Sets.{is_in, all_different, Within}
use Rattle.nv_base.proofs.Sets.{same-number}
use Rattle.ssu_ir.specs.Tree.{Label, Lit, Una, Bin, Clone, Read, Write, Does, Forks, Ends}
use Rattle.ssu_ir.specs.Points.{PointKind as Spot, Entry, At, Point, points}
use Rattle.ssu_ir.specs.Single.{single}
use Rattle.place_plan.specs.declared.place.Place.{Place}
use Rattle.place_plan.specs.Plan.{Home, home_in}
use Rattle.place_plan.specs.Uses.{Access, accesses, ValueOrigin, Parameter, Result, Fetched, Value, numbered, place_values, values, Role, place_roles, Use, uses_at, uses, is_used}
use Rattle.place_plan.specs.Fits.{is_result, is_sort_homed, wants_home, AreHomes}
use Rattle.ssu_liveness.specs.inner.Numbers.{values_among}
use Rattle.ssu_liveness.proofs.Scoped.{in-itself}
use Rattle.place_plan.proofs.Sound.{Each, entry_params, place_results, Sound, uses_among, sound-points}
use Rattle.place_plan.proofs.Spilled.{all-each, each-at, param_vars, params-wanted, used-wanted}
use Rattle.place_plan.proofs.Fitting.{each-uses, apart-from, uses-are, values-are, entries-in, each-values}
use Rattle.place_plan.proofs.Joined.{values-different}
use Rattle.bank_prog_form.specs.declared.column.Bank.{Bank}
use Rattle.bank_prog_form.specs.declared.column.Column.TheVariants.{Def, First}
use Rattle.bank_prog_form.specs.Columns.{eight, may_begin, is_fetched}
use Rattle.bank_prog_form.specs.Rows.{homes}
use Rattle.bank_prog.specs.Meaning.{Chosen}
use Rattle.reg_assign_reading.specs.inner.Facts.{OnlyThere, ValueFacts, AccessFacts, UseFacts, Facts}
use Rattle.reg_assign_reading.specs.ReadOff.{Numbers, begins, origin_place, place_in, value_home, IsAtHome, AreRead, AreNumbered, read_off}
use Rattle.reg_assign_reading.proofs.Counts.{In, contained-in, in-kept, each-in}
use Rattle.reg_assign_reading.proofs.FactsThere.{there}
use Rattle.reg_assign_reading.proofs.FactsValues.{same-value}
use Rattle.reg_assign_reading.proofs.CostValues.{vars-in}
use Rattle.reg_assign_reading.proofs.ReadParts.{eight-low, FirstsThere, begins-at, IsFound, serves-found}
use Rattle.reg_assign_reading.proofs.FitWords.{IsEarlySame, early-same}
use Rattle.reg_assign_reading.proofs.FitHomes.{is_home_bank}

-- ---- columns that are there

access-point : (a : Access) (as' : List Access) → In a as' → is_in a.point (map (λ b. b.point) as') ≡ true
access-point a [] i = absurd i
access-point a (b ∷ as') i = ⊎_elim
    (λ (e : b ≡ a). or_left (nat_eq a.point b.point) (is_in a.point (map (λ (c : Access). c.point) as')) (subst (λ (c : Access). nat_eq a.point c.point ≡ true) (sym e) (in-itself a.point)))
    (λ (j : In a as'). or_right (nat_eq a.point b.point) (is_in a.point (map (λ (c : Access). c.point) as')) (access-point a as' j))
    i

pub firsts-there : (labels : List Label) (on : Chosen) → OnlyThere labels on → FirstsThere labels on
firsts-there labels on only k f e =
    let t = there labels on (First k f) only e in
    let low = each-in (λ r. r < 8) f eight eight-low (in-kept (may_begin t.access.mem t.access.words) f eight t.begins).0 in
    (low, subst (λ n. is_in n (map (λ (a : Access). a.point) (accesses labels)) ≡ true) t.point (access-point t.access (accesses labels) t.there))

bank-home : (h : Bank) → In h homes → is_home_bank h ≡ true
bank-home h i = each-in (λ g. is_home_bank g ≡ true) h homes (refl, (refl, (refl, tt))) i

-- a value is first put into none of the other banks
pub other-banks : (labels : List Label) (on : Chosen) → OnlyThere labels on → (x : ℕ) (h : Bank) → is_home_bank h ≡ false → on (Def x h) ≡ false
other-banks labels on only x h e = false_from_ne_true (on (Def x h)) (λ d.
    let t = there labels on (Def x h) only d in
    false≢true (sym e ∙ bank-home h t.4))

-- ---- lists

pub any-in : {X : Type 0} (f : X → Bool) (xs : List X) → list_any f xs ≡ true → (x : X) × In x xs × (f x ≡ true)
any-in f [] e = absurd (false≢true e)
any-in f (x ∷ xs) e = ⊎_elim
    (λ (a : f x ≡ true). (x, inl refl, a))
    (λ (b : list_any f xs ≡ true). let w = any-in f xs b in (w.0, inr w.1, w.2))
    (or_cases (f x) (list_any f xs) e)

-- ---- values

-- a value that wants a home
pub record IsValue (labels : List Label) (x : ℕ) : Type 0 where
  pub value : Value
  pub among : In value (values labels)
  pub wants : wants_home labels value ≡ true
  pub var : value.var ≡ x

pub value-of : (labels : List Label) (x : ℕ) → is_in x (map (λ v. v.var) (filter (wants_home labels) (values labels))) ≡ true → IsValue labels x
value-of labels x e =
    let w = vars-in x (filter (wants_home labels) (values labels)) e in
    let k = in-kept (wants_home labels) w.0 (values labels) w.1 in
    record { value = w.0; among = k.0; wants = k.1; var = w.2 }

-- the place of a read value
place-here : (on : Chosen) (v w : Value) (b : Bool) (q : Place) → (b ≡ true → w ≡ v) → (b ≡ false → q ≡ origin_place on v.point v.origin) → (if b then origin_place on w.point w.origin else q) ≡ origin_place on v.point v.origin
place-here on v w true q f g = ap (λ (z : Value). origin_place on z.point z.origin) (f refl)
place-here on v w false q f g = g refl

place-among : (on : Chosen) (v : Value) (vs : List Value) → ((w : Value) → In w vs → w.var ≡ v.var → w ≡ v) → In v vs → place_in on vs v.var ≡ origin_place on v.point v.origin
place-among on v [] one i = absurd i
place-among on v (w ∷ vs) one i = place-here on v w (nat_eq w.var v.var) (place_in on vs v.var)
    (λ e. one w (inl refl) (same-number w.var v.var e))
    (λ e. ⊎_elim
    (λ (s : w ≡ v). absurd (false≢true (sym e ∙ subst (λ (z : Value). nat_eq z.var v.var ≡ true) (sym s) (in-itself v.var))))
    (λ (j : In v vs). place-among on v vs (λ z k f. one z (inr k) f) j)
    i)

pub place-found : (on : Chosen) (vs : List Value) (v : Value) → all_different (map (λ w. w.var) vs) ≡ true → In v vs → place_in on vs v.var ≡ origin_place on v.point v.origin
place-found on vs v d i = place-among on v vs (λ w j e. same-value vs v w d i j e) i

-- ---- homes

pub homes-are : (labels : List Label) (slots : ℕ) (on : Chosen) (numbers : Numbers) (hs : List Home) → AreRead labels on numbers hs → AreHomes labels (read_off labels slots on numbers hs)
homes-are labels slots on numbers hs r = record {
  rise = r.rise;
  each = λ x e.
      let v = value-of labels x e in
      let at = All-contains (IsAtHome labels on numbers hs) (values labels) v.value r.each (contained-in v.value (values labels) v.among) v.wants in
      subst (λ y. is_in y (map (λ (h : Home). h.var) hs) ≡ true) v.var at.1;
  only = r.only;
}

-- ---- results

abbrev pub IsResultUsed : List Label → Value → Type 0
IsResultUsed labels v = is_result v.origin ≡ true → is_used labels v.var ≡ true

numbered-used : (labels : List Label) (k : ℕ) (origin : ℕ → ValueOrigin) (i : ℕ) (xs : List ℕ) → ((j : ℕ) → is_result (origin j) ≡ false) → Each (IsResultUsed labels) (numbered k origin i xs)
numbered-used labels k origin i [] h = tt
numbered-used labels k origin i (x ∷ xs) h = (λ e. absurd (false≢true (sym (h i) ∙ e)), numbered-used labels k origin (suc i) xs h)

result-used : (labels : List Label) (x : ℕ) → ((y : ℕ) → is_in y (x ∷ []) ≡ true → is_used labels y ≡ true) → is_used labels x ≡ true
result-used labels x h = h x (or_left (nat_eq x x) false (in-itself x))

place-used : (labels : List Label) (k : ℕ) (q : Spot) → ((x : ℕ) → is_in x (place_results q) ≡ true → is_used labels x ≡ true) → Each (IsResultUsed labels) (place_values k q)
place-used labels k (Entry l ps) h = numbered-used labels k (Parameter l) 0 ps (λ j. refl)
place-used labels k (At (Does (Lit x v))) h = (λ e. result-used labels x h, tt)
place-used labels k (At (Does (Una x op y))) h = (λ e. result-used labels x h, tt)
place-used labels k (At (Does (Bin x op y z))) h = (λ e. result-used labels x h, tt)
place-used labels k (At (Does (Clone xs y))) h = tt
place-used labels k (At (Does (Read m xs y))) h = numbered-used labels k (Fetched m) 0 xs (λ j. refl)
place-used labels k (At (Does (Write m y xs))) h = tt
place-used labels k (At (Forks c x y)) h = tt
place-used labels k (At (Ends l)) h = tt

-- ---- what is known

-- a form, a choice of columns and the plan that is read off it
pub record Reading (labels : List Label) (slots : ℕ) (on : Chosen) (numbers : Numbers) (hs : List Home) : Type 0 where
  pub facts : Facts labels slots on
  pub only : OnlyThere labels on
  pub read : AreRead labels on numbers hs
  pub numbered : AreNumbered labels slots on numbers
  pub different : all_different (map (λ v. v.var) (values labels)) ≡ true
  -- the live values at points, and those that are used
  pub held : (k : ℕ) (q : Point) → slice_get (points labels) k ≡ Some q → (x : ℕ) → is_in x q.before ≡ true → IsValue labels x
  pub used : Each (λ u. IsValue labels u.value) (uses labels)
  pub use_facts : Each (UseFacts labels on) (uses labels)
  pub found : Each (IsFound labels on numbers (uses labels)) (uses labels)
  pub early : Each (IsEarlySame labels slots on numbers hs) (uses labels)
  pub firsts : FirstsThere labels on
  -- every result is used
  pub results : Each (IsResultUsed labels) (values labels)

pub value-facts-of : (labels : List Label) (slots : ℕ) (on : Chosen) (numbers : Numbers) (hs : List Home) → Reading labels slots on numbers hs → (v : Value) → In v (values labels) → ValueFacts labels on v
value-facts-of labels slots on numbers hs g v i = All-contains (ValueFacts labels on) (values labels) v g.facts.values (contained-in v (values labels) i)

pub home-is : (labels : List Label) (slots : ℕ) (on : Chosen) (numbers : Numbers) (hs : List Home) → Reading labels slots on numbers hs → (v : Value) → In v (values labels) → wants_home labels v ≡ true → home_in hs v.var ≡ value_home labels on numbers v
home-is labels slots on numbers hs g v i w = (All-contains (IsAtHome labels on numbers hs) (values labels) v g.read.each (contained-in v (values labels) i) w).0

pub use-facts-of : (labels : List Label) (slots : ℕ) (on : Chosen) (numbers : Numbers) (hs : List Home) → Reading labels slots on numbers hs → (u : Use) → In u (uses labels) → UseFacts labels on u
use-facts-of labels slots on numbers hs g u i = each-in (UseFacts labels on) u (uses labels) g.use_facts i

-- the access at a point begins where it is said to
pub begins-of : (labels : List Label) (slots : ℕ) (on : Chosen) (numbers : Numbers) (hs : List Home) → Reading labels slots on numbers hs → (k f : ℕ) → on (First k f) ≡ true → begins on k ≡ f
begins-of labels slots on numbers hs g k f e = begins-at labels on g.firsts (all-each (AccessFacts on) (accesses labels) g.facts.accesses) k f e

-- a value that isn't read, or is used, wants a home
pub unread-wants : (b : Bool) (origin : ValueOrigin) → is_fetched origin ≡ false → is_sort_homed b origin ≡ true
unread-wants b (Parameter l i) e = refl
unread-wants b Result e = refl
unread-wants b (Fetched m i) e = absurd (false≢true (sym e))

each-used : (P : ℕ → Type 0) (k i : ℕ) (xs : List ℕ) (rs : List Role) → ((x : ℕ) → is_in x xs ≡ true → P x) → Each (λ u. P u.value) (uses_at k i xs rs)
each-used P k i [] rs h = tt
each-used P k i (x ∷ xs) [] h = tt
each-used P k i (x ∷ xs) (r ∷ rs) h = (
  h x (or_left (nat_eq x x) (is_in x xs) (in-itself x)),
  each-used P k (suc i) xs rs (λ y e. h y (or_right (nat_eq y x) (is_in y xs) e)),
)

held-values : (labels : List Label) → single labels ≡ true → (k : ℕ) (q : Point) → slice_get (points labels) k ≡ Some q → (x : ℕ) → is_in x q.before ≡ true → IsValue labels x
held-values labels form k q e x b =
    let ps = points labels in
    let vs = values_among (map (λ (p : Point). p.place) ps) in
    let us = uses_among ps in
    let sound : Each (Sound labels vs us) ps = sound-points labels form in
    let entries : Each (λ (p : Point). Within (entry_params p.place) (param_vars (values labels))) ps = entries-in 0 ps in
    value-of labels x (⊎_elim
    (λ (h : is_in x (entry_params q.place) ≡ true). params-wanted labels (values labels) x (each-at (λ (p : Point). Within (entry_params p.place) (param_vars (values labels))) ps k q entries e x h))
    (λ (h : (is_in x vs ≡ true) × (is_in x us ≡ true)). used-wanted labels (values labels) x (ap (λ l. is_in x l) (values-are 0 ps) ∙ h.0) (ap (λ l. is_in x l) (uses-are labels vs us 0 ps sound) ∙ h.1))
    ((each-at (Sound labels vs us) ps k q sound e).from x b))

used-values : (labels : List Label) → single labels ≡ true → Each (λ u. IsValue labels u.value) (uses labels)
used-values labels form =
    let ps = points labels in
    let vs = values_among (map (λ (p : Point). p.place) ps) in
    let us = uses_among ps in
    each-uses (λ (u : Use). IsValue labels u.value) ps 0 (λ i m q e f.
    let same : i ≡ m = omega arith in
    let at : slice_get ps m ≡ Some q = subst (λ n. slice_get ps n ≡ Some q) same f in
    each-used (IsValue labels) m 0 q.uses (place_roles q.place) (λ x h. held-values labels form m q at x ((each-at (Sound labels vs us) ps m q (sound-points labels form) at).uses_held x h)))

results-used : (labels : List Label) → single labels ≡ true → Each (IsResultUsed labels) (values labels)
results-used labels form =
    let ps = points labels in
    let vs = values_among (map (λ (p : Point). p.place) ps) in
    let us = uses_among ps in
    let sound : Each (Sound labels vs us) ps = sound-points labels form in
    each-values (IsResultUsed labels) ps 0 (λ i m q e f.
    let same : i ≡ m = omega arith in
    let at : slice_get ps m ≡ Some q = subst (λ n. slice_get ps n ≡ Some q) same f in
    place-used labels m q.place (λ x h. ap (λ l. is_in x l) (uses-are labels vs us 0 ps sound) ∙ (each-at (Sound labels vs us) ps m q sound at).results x h))

pub result-used-of : (labels : List Label) (slots : ℕ) (on : Chosen) (numbers : Numbers) (hs : List Home) → Reading labels slots on numbers hs → (v : Value) → In v (values labels) → is_result v.origin ≡ true → is_used labels v.var ≡ true
result-used-of labels slots on numbers hs g v i = each-in (IsResultUsed labels) v (values labels) g.results i

pub reading-of : (labels : List Label) (slots : ℕ) (on : Chosen) (numbers : Numbers) (hs : List Home) → single labels ≡ true → OnlyThere labels on → Facts labels slots on → AreRead labels on numbers hs → AreNumbered labels slots on numbers → Reading labels slots on numbers hs
reading-of labels slots on numbers hs form only facts read numbered =
    let uses_facts = all-each (UseFacts labels on) (uses labels) facts.uses in
    let found = serves-found labels on numbers (uses labels) (apart-from 0 (points labels)) in
    record {
      facts = facts;
      only = only;
      read = read;
      numbered = numbered;
      different = values-different labels form;
      held = held-values labels form;
      used = used-values labels form;
      use_facts = uses_facts;
      found = found;
      early = early-same labels slots on numbers hs uses_facts found;
      firsts = firsts-there labels on only;
      results = results-used labels form;
    }
