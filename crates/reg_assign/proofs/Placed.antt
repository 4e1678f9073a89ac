-- What the code puts together is the placement that is read off.
use Rattle.std.proofs.Common.{◌≡◌, ℕ, if◌then◌else◌, suc, ◌+◌, ◌<◌, ◌≤◌, Bool, true, false, nat_eq, Option, Some, None, List, [], ◌∷◌, ◌++◌, length, map, drop, filter, get_or, refl, sym, ap, ◌∙◌, append_assoc}
use Rattle.std.specs.List.{flat_map}
use Rattle.std.specs.List.Sorted.{IsPermutation, IsNonDecreasingBy}
use Rattle.std.proofs.lemmas.List.{at_drop_more, at_drop_all, append-nil}
use Rattle.ssu_ir.specs.Tree.{Label}
use Rattle.ssu_ir.specs.Points.{Point, points}
use Rattle.ssu_ir.specs.Single.{single}
use Rattle.place_plan.specs.declared.place.Place.{Place}
use Rattle.place_plan.specs.declared.place.First.{First as KeptFirst}
use Rattle.place_plan.specs.declared.place.Serve.{Serve}
use Rattle.place_plan.specs.declared.place.Pass.{Pass}
use Rattle.place_plan.specs.declared.place.Home.{Home as KeptHome}
use Rattle.place_plan.specs.declared.place.Placement.{Placement}
use Rattle.place_plan.specs.Plan.{Home, Plan, home_view}
use Rattle.place_plan.specs.Uses.{Value, accesses, Use, uses, uses_of}
use Rattle.place_plan.specs.inner.UseViews.{use_view}
use Rattle.bank_prog_form.specs.declared.column.Bank.TheVariants.{A, B, M}
use Rattle.bank_prog_form.specs.declared.form.Value.{Value as KeptValue}
use Rattle.bank_prog_form.specs.Columns.{each_point}
use Rattle.bank_prog.specs.Meaning.{Chosen}
use Rattle.bank_prog_form.specs.inner.Form.{value_view, access_view, summary_view, parts}
use Rattle.bank_prog_form.proofs.Loops.{each-parts, flat-filter}
use Rattle.reg_assign.specs.declared.given.AssignmentInputs.{AssignmentInputs}
use Rattle.reg_assign_reading.specs.ReadOff.{Numbers, goes_early, word_place, origin_place, place_in, fill_at, fills_of, copies_of, access_first, use_serve, pass_l, pass_s, pass_by, passes_from, read_off, IsReadOff}
use Rattle.reg_assign.specs.inner.AssignmentInputs.{labels_in, says_in, numbers_in}
use Rattle.reg_assign_reading.specs.inner.Reading.{known_place, place_noted, early_word, preferred_home, part_pass}
use Rattle.reg_assign_reading.proofs.HomesRead.{homes-read}

-- ---- where values come

-- the place that is noted, or else another
abbrev pub place_then : Option Place → Place → Place
place_then (Some p) q = p
place_then None q = q

noted-then : (on : Chosen) (v : Value) (vs : List Value) (x : ℕ) (o : Option Place) → place_then (place_noted o v.var (origin_place on v.point v.origin) x) (place_in on vs x) ≡ place_then o (place_in on (v ∷ vs) x)
noted-then on v vs x (Some p) = refl
noted-then on v vs x None = pick (nat_eq v.var x)
  where
    pick : (b : Bool) → place_then (if b then Some (origin_place on v.point v.origin) else None) (place_in on vs x) ≡ (if b then origin_place on v.point v.origin else place_in on vs x)
    pick true = refl
    pick false = refl

pub places-more : (on : Chosen) (vs : List KeptValue) (i : ℕ) (d : KeptValue) (x : ℕ) (old new : Option Place) (q goal : Place) → i < length vs
    → new ≡ place_noted old (get_or vs i d).var q x → q ≡ origin_place on (get_or vs i d).point (value_view (get_or vs i d)).origin
    → place_then old (place_in on (map value_view (drop i vs)) x) ≡ goal → place_then new (place_in on (map value_view (drop (i + 1) vs)) x) ≡ goal
places-more on vs i d x old new q goal l e f h =
    let rest = map value_view (drop (i + 1) vs) in
    ap (λ o. place_then o (place_in on rest x)) (e ∙ ap (λ p. place_noted old (get_or vs i d).var p x) f)
    ∙ noted-then on (value_view (get_or vs i d)) rest x old
    ∙ sym (at_drop_more (λ ws. place_then old (place_in on (map value_view ws) x)) vs i d l) ∙ h

known-then : (o : Option Place) → place_then o (known_place None) ≡ known_place o
known-then (Some p) = refl
known-then None = refl

pub places-all : (on : Chosen) (vs : List KeptValue) (i x : ℕ) (o : Option Place) (goal : Place) → length vs ≤ i → place_then o (place_in on (map value_view (drop i vs)) x) ≡ goal → known_place o ≡ goal
places-all on vs i x o goal l h = sym (known-then o) ∙ sym (at_drop_all (λ ws. place_then o (place_in on (map value_view ws) x)) vs i l) ∙ h

-- ---- an element for each, by its view

pub map-more : {V W X : Type 0} (f : W → X) (view : V → W) (xs : List V) (i : ℕ) (d : V) (out out' : List X) (y : X) (goal : List X) → i < length xs → out' ≡ out ++ y ∷ [] → y ≡ f (view (get_or xs i d))
    → out ++ map f (map view (drop i xs)) ≡ goal → out' ++ map f (map view (drop (i + 1) xs)) ≡ goal
map-more f view xs i d out out' y goal l e made h =
    ap (λ o. o ++ map f (map view (drop (i + 1) xs))) (e ∙ ap (λ z. out ++ z ∷ []) made) ∙ append_assoc out (f (view (get_or xs i d)) ∷ []) (map f (map view (drop (i + 1) xs)))
    ∙ sym (at_drop_more (λ ys. out ++ map f (map view ys)) xs i d l) ∙ h

pub map-all : {V W X : Type 0} (f : W → X) (view : V → W) (xs : List V) (i : ℕ) (out goal : List X) → length xs ≤ i → out ++ map f (map view (drop i xs)) ≡ goal → out ≡ goal
map-all f view xs i out goal l h = sym (append-nil out) ∙ sym (at_drop_all (λ ys. out ++ map f (map view ys)) xs i l) ∙ h

-- ---- accesses

abbrev a_first : ℕ → ℕ → KeptFirst
a_first k f = record { point = k; first = f }

pub first-same : (k f g : ℕ) → f ≡ g → a_first k f ≡ a_first k g
first-same k f g e = ap (a_first k) e

-- ---- copies

pub copies-made : (labels : List Label) (on : Chosen) (numbers : Numbers) (x : ℕ) (a b m all : List Place) (us : List Use) → a ≡ [] ++ fill_at on numbers x A → b ≡ a ++ fill_at on numbers x B → m ≡ b ++ fill_at on numbers x M → us ≡ uses_of labels x
    → all ≡ m ++ flat_map (early_word on) us → all ≡ copies_of labels on numbers x
copies-made labels on numbers x a b m all us p q r e h =
    let fa = fill_at on numbers x A in
    let fb = fill_at on numbers x B in
    let fm = fill_at on numbers x M in
    h ∙ ap (λ l. l ++ flat_map (early_word on) us) (r ∙ ap (λ l. l ++ fm) (q ∙ ap (λ l. l ++ fb) p) ∙ append_assoc fa fb fm)
    ∙ ap (λ l. fills_of on numbers x ++ l) (flat-filter (goes_early on) (word_place on) us ∙ ap (λ l. map (word_place on) (filter (goes_early on) l)) e)

-- ---- passes

passes-points : (on : Chosen) (k : ℕ) (ps : List Point) → each_point (λ k q. pass_by k (pass_l on k) (pass_s on k)) k ps ≡ passes_from on k ps
passes-points on k [] = refl
passes-points on k (q ∷ ps) = ap (λ l. pass_by k (pass_l on k) (pass_s on k) ++ l) (passes-points on (suc k) ps)

parts-passes : (labels : List Label) (on : Chosen) → flat_map (part_pass on) (parts labels) ≡ passes_from on 0 (points labels)
parts-passes labels on = each-parts (part_pass on) (λ k q. pass_by k (pass_l on k) (pass_s on k)) (λ k q. refl) 0 (points labels) ∙ passes-points on 0 (points labels)

-- ---- the whole

abbrev a_plan : ℕ → List Home → List KeptFirst → List Serve → List Pass → Plan
a_plan slots hs firsts serves passes = record { slots = slots; homes = hs; firsts = firsts; serves = serves; passes = passes }

plan-is : (labels : List Label) (slots n : ℕ) (on : Chosen) (numbers : Numbers) (hs : List Home) (firsts : List KeptFirst) (serves : List Serve) (passes : List Pass)
    → n ≡ slots → firsts ≡ map (access_first on) (accesses labels) → serves ≡ map (use_serve labels on numbers) (uses labels) → passes ≡ passes_from on 0 (points labels)
    → a_plan n hs firsts serves passes ≡ read_off labels slots on numbers hs
plan-is labels slots n on numbers hs firsts serves passes d e f g =
    ap (λ m. a_plan m hs firsts serves passes) d
    ∙ ap (λ l. a_plan slots hs l serves passes) e
    ∙ ap (λ l. a_plan slots hs (map (access_first on) (accesses labels)) l passes) f
    ∙ ap (λ l. a_plan slots hs (map (access_first on) (accesses labels)) (map (use_serve labels on numbers) (uses labels)) l) g

pub is-read-off : (g : AssignmentInputs) (slots : ℕ) (built : List KeptHome) (p : Placement) → single (labels_in g) ≡ true → p.slots ≡ slots
    → map home_view built ≡ flat_map (preferred_home (labels_in g) (says_in g) (numbers_in g)) (map value_view g.reading.bank.now.form.tables.values.items) → IsPermutation built p.homes.items → IsNonDecreasingBy (λ h. h.var) p.homes.items
    → p.firsts.items ≡ map (access_first (says_in g)) (map access_view g.reading.bank.now.form.tables.accesses.items)
    → p.serves.items ≡ map (use_serve (labels_in g) (says_in g) (numbers_in g)) (map use_view g.reading.bank.now.form.tables.uses.items)
    → p.passes.items ≡ flat_map (part_pass (says_in g)) (map summary_view g.reading.bank.now.form.tables.summaries.items)
    → IsReadOff (labels_in g) slots (says_in g) (numbers_in g) p
is-read-off g slots built p form n homes perm up firsts serves passes =
    let labels = labels_in g in
    let on = says_in g in
    let numbers = numbers_in g in
    let right = g.reading.bank.now.form.right in
    record {
      homes = homes-read labels on numbers built p.homes.items form (homes ∙ ap (flat_map (preferred_home labels on numbers)) right.values) perm up;
      same = plan-is labels slots p.slots on numbers (map home_view p.homes.items) p.firsts.items p.serves.items p.passes.items n
          (firsts ∙ ap (map (access_first on)) right.accesses)
          (serves ∙ ap (map (use_serve labels on numbers)) right.uses)
          (passes ∙ ap (flat_map (part_pass on)) right.summaries ∙ parts-passes labels on);
    }
