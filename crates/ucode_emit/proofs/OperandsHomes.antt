-- Where the words of a point's operands are, before they are fetched.
use Rattle.std.proofs.Common.{◌≡◌, ℕ, suc, ◌+◌, ◌<◌, ◌≤◌, nat_eq, true, false, not, ◌||◌, List, [], ◌∷◌, ◌++◌, map, length, Some, refl, sym, ap, ◌∙◌, subst, ⊎_elim, slice_get, arith}
use Rattle.std.specs.Prelude.{⊤, is_some}
use Rattle.std.specs.List.{AllByRecursion, list_any}
use Rattle.std.proofs.lemmas.Bool.{and_parts, or_cases, or_left, not-true, false≢true, eq-eqb}
use Rattle.std.proofs.lemmas.List.Folds.{list_any-append}
use Rattle.std.proofs.lemmas.Map.Keys.{any_passes_from_place}
use Rattle.nv_base.specs.declared.term.Mem.{Mem}
use Rattle.nv_base.specs.declared.term.Mem.TheVariants.{Sram, Sdram, Scratch}
use Rattle.nv_base.specs.Sets.{is_in, Within}
use Rattle.nv_base.specs.Words.{Env}
use Rattle.nv_base.proofs.Sets.{within-left}
use Rattle.ssu_ir.specs.Tree.{Lit, Una, Bin, Clone, Read, Write, Tree, Do, If, End, Label, Does, Forks, Ends, step_uses}
use Rattle.ssu_ir.specs.Points.{Names, names_after, used, PointKind as PointPlace, Entry, At, Point, points, place_values}
use Rattle.ssu_ir.proofs.Liveness.{filter_from, filter_in}
use Rattle.place_plan.specs.declared.place.Place.{Place}
use Rattle.place_plan.specs.declared.place.Place.TheVariants.{A, B, L, LD, S, SD, Slot}
use Rattle.place_plan.specs.Places.{same_place}
use Rattle.place_plan.specs.Plan.{Plan, home, first, pass}
use Rattle.place_plan.specs.Uses.{place_accesses, Value, ValueOrigin, Parameter, Result, Fetched, numbered, place_values as values_at, place_roles, Use, uses_at, uses, uses_of, is_used}
use Rattle.place_plan.specs.Fits.{read_place, IsGeneral, is_general, is_slot, is_write_register, is_read_register, served, AreCopies, IsPutEarly, IsHome, IsHoused, is_home, IsServed, stays, general_places, kept_register, read_places, has_place}
use Rattle.place_plan.proofs.Places.{same_place-true, same_place-from}
use Rattle.place_plan.proofs.Fitting.{vars-of-place}
use Rattle.ucode_emit.specs.Moves.{Words, temporary}
use Rattle.ucode_emit.specs.inner.Ready.{Ready, lasting}
use Rattle.ucode_emit.specs.inner.Layers.{Placed, PointsAt, root_point}
use Rattle.ucode_emit.proofs.PointsEach.{EachFrom, each_map, each_both, each_here, all_of}
use Rattle.ucode_emit.proofs.PointsLabels.{formed_at, labels_above}
use Rattle.ucode_emit.proofs.PointsUses.{each_there}
use Rattle.ucode_emit.proofs.PointsUsed.{used_there, root_at, root_above, root_before}
use Rattle.ucode_emit.proofs.DefinitionsHomes.{general_not_read, read_not_written, read_place_is, place_right, place_filter, ThereIn, filter_get, Settled, in_general, put_early, fetched_to, settled_above, Target, fill, word, targets, served_at, early_register, value_of, housed_each, general_is}
use Rattle.ucode_emit.proofs.DefinitionsReady.{early_use}
use Rattle.ucode_emit.proofs.DefinitionsDirect.{FirstFits, access_at, first_bound}
use Rattle.ucode_emit.proofs.EntriesMoves.{uses_each}

-- ---- the read registers of values are among the machine's eight

abbrev pub SortFits : Plan → ℕ → ValueOrigin → Type 0
SortFits p k (Parameter l i) = ⊤
SortFits p k Result = ⊤
SortFits p k (Fetched m i) = first p k + i < 8

abbrev pub ValueFits : Plan → Value → Type 0
ValueFits p v = SortFits p v.point v.origin

fetched_fit : (p : Plan) (k : ℕ) (m : Mem) (j : ℕ) (xs : List ℕ) → first p k + (j + length xs) ≤ 8 → AllByRecursion (ValueFits p) (numbered k (Fetched m) j xs)
fetched_fit p k m j [] h = tt
fetched_fit p k m j (x ∷ xs) h = (omega arith, fetched_fit p k m (suc j) xs (omega arith))

params_fit : (p : Plan) (k l j : ℕ) (xs : List ℕ) → AllByRecursion (ValueFits p) (numbered k (Parameter l) j xs)
params_fit p k l j [] = tt
params_fit p k l j (x ∷ xs) = (tt, params_fit p k l (suc j) xs)

values_fit : (p : Plan) (k : ℕ) (q : PointPlace) → AllByRecursion (FirstFits p) (place_accesses k q) → AllByRecursion (ValueFits p) (values_at k q)
values_fit p k (Entry l ps) h = params_fit p k l 0 ps
values_fit p k (At (Does (Lit x v))) h = (tt, tt)
values_fit p k (At (Does (Una x op y))) h = (tt, tt)
values_fit p k (At (Does (Bin x op y z))) h = (tt, tt)
values_fit p k (At (Does (Clone xs y))) h = tt
values_fit p k (At (Does (Read m xs y))) h =
    let b : first p k + length xs ≤ 8 = first_bound m (length xs) (first p k) h.0 in
    fetched_fit p k m 0 xs (omega arith)
values_fit p k (At (Does (Write m y xs))) h = tt
values_fit p k (At (Forks c x y)) h = tt
values_fit p k (At (Ends l)) h = tt

-- a read register of the machine, or none
abbrev pub IsBounded : Place → Type 0
IsBounded (A k) = ⊤
IsBounded (B k) = ⊤
IsBounded (L k) = k < 8
IsBounded (LD k) = k < 8
IsBounded (S k) = ⊤
IsBounded (SD k) = ⊤
IsBounded (Slot k) = ⊤

other_bounded : (r : Place) → (is_read_register r ≡ true → ⊥) → IsBounded r
other_bounded (A k) h = tt
other_bounded (B k) h = tt
other_bounded (L k) h = absurd (h refl)
other_bounded (LD k) h = absurd (h refl)
other_bounded (S k) h = tt
other_bounded (SD k) h = tt
other_bounded (Slot k) h = tt

read_bounded : (m : Mem) (k : ℕ) → k < 8 → IsBounded (read_place m k)
read_bounded Sram k h = h
read_bounded Sdram k h = h
read_bounded Scratch k h = h

general_bounded : (p : Plan) (r : Place) → IsGeneral p r → IsBounded r
general_bounded p r g = other_bounded r (λ c. general_not_read r (general_is p r g) c)

bounded_sort : (labels : List Label) (p : Plan) (v : Value) (s : ValueOrigin) → Placed labels p → IsHome labels p v (home p v.var) s → SortFits p v.point s → is_used labels v.var ≡ true → IsBounded (home p v.var).defined
bounded_sort labels p v (Parameter l i) h g f u = general_bounded p (home p v.var).defined g.0
bounded_sort labels p v Result h g f u =
    ⊎_elim (λ (c : IsGeneral p (home p v.var).defined × AreCopies labels p v.var (home p v.var)). general_bounded p (home p v.var).defined c.0)
    (λ (c : IsPutEarly labels p v.var (home p v.var)).
    let w = early_use labels p v.var c in
    let r : is_write_register (home p v.var).defined ≡ true = ap is_write_register c.at ∙ early_register labels p w.place c.use_ h w.there w.early in
    other_bounded (home p v.var).defined (λ z. read_not_written (home p v.var).defined z r))
    g
bounded_sort labels p v (Fetched m i) h g f u = subst IsBounded (sym (g u).0) (read_bounded m (first p v.point + i) f)

abbrev BoundedIfUsed : List Label → Plan → ℕ → Type 0
BoundedIfUsed labels p x = is_used labels x ≡ true → IsBounded (home p x).defined

all_and : {X : Type 0} (P Q : X → Type 0) (xs : List X) → AllByRecursion P xs → AllByRecursion Q xs → AllByRecursion (λ x. P x × Q x) xs
all_and P Q [] h g = tt
all_and P Q (x ∷ xs) h g = ((h.0, g.0), all_and P Q xs h.1 g.1)

bounded_here : (labels : List Label) (p : Plan) (k : ℕ) (q : Point) → Placed labels p → AllByRecursion (IsHoused labels p) (values_at k q.place) → slice_get (points labels) k ≡ Some q
    → (x : ℕ) → is_in x (place_values q.place) ≡ true → BoundedIfUsed labels p x
bounded_here labels p k q h a e x i =
    let fits = values_fit p k q.place (access_at labels p k q h e) in
    let both = all_and (IsHoused labels p) (ValueFits p) (values_at k q.place) a fits in
    let v = value_of (λ w. IsHoused labels p w × ValueFits p w) (values_at k q.place) x both (ap (is_in x) (vars-of-place k q.place) ∙ i) in
    subst (BoundedIfUsed labels p) v.2 (bounded_sort labels p v.0 v.0.origin h v.1.0 v.1.1)

abbrev AreBounded : List Label → Plan → ℕ → Point → Type 0
AreBounded labels p k q = (x : ℕ) → is_in x (place_values q.place) ≡ true → BoundedIfUsed labels p x

bounded_values : (labels : List Label) (p : Plan) → Placed labels p → EachFrom (AreBounded labels p) 0 (points labels)
bounded_values labels p h =
    let F = λ (k : ℕ) (q : Point). AllByRecursion (IsHoused labels p) (values_at k q.place) in
    let G = λ (k : ℕ) (q : Point). slice_get (points labels) k ≡ Some q in
    each_map (λ k q. F k q × G k q) (AreBounded labels p) 0 (points labels) (λ k q d. bounded_here labels p k q h d.0 d.1) (each_both F G 0 (points labels) (housed_each labels p h) (each_there (points labels)))

bounded_above : (labels : List Label) (p : Plan) (k : ℕ) (q : Point) (x : ℕ) → Placed labels p → slice_get (points labels) k ≡ Some q → is_in x q.above ≡ true → BoundedIfUsed labels p x
bounded_above labels p k q x h e =
    each_here (λ k q. (x : ℕ) → is_in x q.above ≡ true → BoundedIfUsed labels p x) (points labels) k q (labels_above (BoundedIfUsed labels p) 0 0 labels (bounded_values labels p h)) e x

-- ---- what is live at a point

pub record EmitContext (labels : List Label) (k : ℕ) (q : Point) : Type 0 where
  pub at : slice_get (points labels) k ≡ Some q
  pub uses : Within q.uses q.before
  pub known : Within q.before q.above
  pub used_it : (x : ℕ) → is_in x q.before ≡ true → is_used labels x ≡ true

root_uses : (of : Names) (above : List ℕ) (t : Tree) → Within (root_point of above t).uses (used of t)
root_uses of above (Do s t) x i = within-left (map of (step_uses s)) (used (names_after of s) t) x i
root_uses of above (If c y z t u) x i = within-left (of y ∷ of z ∷ []) (used of t ++ used of u) x i
root_uses of above (End l) x i = i

pub here_at : (labels : List Label) (p : Plan) (k : ℕ) (of : Names) (above : List ℕ) (t : Tree) → Placed labels p → PointsAt labels k of above t → EmitContext labels k (root_point of above t)
here_at labels p k of above t h a =
    let q = root_point of above t in
    let e = root_at labels k of above t a in
    let split = λ (x : ℕ) (i : is_in x q.before ≡ true). filter_from (λ z. is_in z (used of t)) above x (sym (ap (is_in x) (root_before of above t)) ∙ i) in record {
      at = e;
      uses = λ x i.
          let known : is_in x above ≡ true = sym (ap (is_in x) (root_above of above t)) ∙ (formed_at labels k q h.single e).uses x i in
          ap (is_in x) (root_before of above t) ∙ filter_in (λ z. is_in z (used of t)) above x known (root_uses of above t x i);
      known = λ x i. ap (is_in x) (root_above of above t) ∙ (split x i).0;
      used_it = λ x i. used_there labels k of above t a x (split x i).1;
    }

pub settled_held : (labels : List Label) (p : Plan) (k : ℕ) (q : Point) (x : ℕ) → Placed labels p → EmitContext labels k q → is_in x q.before ≡ true → Settled labels p x
settled_held labels p k q x h s i = settled_above labels p k q x h s.at (s.known x i) (s.used_it x i)

-- ---- homes from which words are served

-- a place from which a word can be moved, but the compiler's own register
abbrev pub CanServe : ℕ → Place → Type 0
CanServe slots (A k) = k < 15
CanServe slots (B k) = k < 15
CanServe slots (L k) = k < 8
CanServe slots (LD k) = k < 8
CanServe slots (S k) = ⊥
CanServe slots (SD k) = ⊥
CanServe slots (Slot k) = k < slots

pub serves_spare : (slots : ℕ) (r : Place) → CanServe slots r → r ≡ temporary → ⊥
serves_spare slots r c e = let n : 15 < 15 = subst (CanServe slots) e c in omega arith

general_serves : (p : Plan) (r : Place) → IsGeneral p r → CanServe p.slots r
general_serves p (A k) h = h
general_serves p (B k) h = h
general_serves p (Slot k) h = h
general_serves p (L k) h = absurd h
general_serves p (LD k) h = absurd h
general_serves p (S k) h = absurd h
general_serves p (SD k) h = absurd h

read_serves : (slots : ℕ) (r : Place) → is_read_register r ≡ true → IsBounded r → CanServe slots r
read_serves slots (A k) e h = absurd (false≢true e)
read_serves slots (B k) e h = absurd (false≢true e)
read_serves slots (L k) e h = h
read_serves slots (LD k) e h = h
read_serves slots (S k) e h = absurd (false≢true e)
read_serves slots (SD k) e h = absurd (false≢true e)
read_serves slots (Slot k) e h = absurd (false≢true e)

-- a home is where its value is defined, and it can be read, or it is a general place to which the value is copied
data Kind (p : Plan) (x : ℕ) (r : Place) : Type 0 where
  general : IsGeneral p r → Kind p x r
  fetched : is_read_register r ≡ true → r ≡ (home p x).defined → Kind p x r

-- where a value is defined, or one that it is copied to
kind_defined : (labels : List Label) (p : Plan) (x : ℕ) (r : Place) → Placed labels p → Settled labels p x → is_write_register r ≡ false → r ≡ (home p x).defined → Kind p x r
kind_defined labels p x r h (in_general g c) w e = general (subst (IsGeneral p) (sym e) g)
kind_defined labels p x r h (put_early g) w e =
    let d = early_use labels p x g in
    absurd (false≢true (sym w ∙ (ap is_write_register (e ∙ g.at) ∙ early_register labels p d.place g.use_ h d.there d.early)))
kind_defined labels p x r h (fetched_to m k d c) w e = fetched (ap is_read_register (e ∙ d) ∙ read_place_is m k) e

kind_copied : (labels : List Label) (p : Plan) (x : ℕ) (r : Place) → Placed labels p → is_write_register r ≡ false → Target labels p x r → Kind p x r
kind_copied labels p x r h w (fill g) = general g
kind_copied labels p x r h w (word u e same) = absurd (false≢true (sym w ∙ (ap is_write_register same ∙ early_register labels p e.place u h e.there e.early)))

kind_of : (labels : List Label) (p : Plan) (x : ℕ) (r : Place) → Placed labels p → Settled labels p x → is_home p x r ≡ true → Kind p x r
kind_of labels p x r h s i =
    let d = and_parts (not (is_write_register r)) (same_place r (home p x).defined || list_any (same_place r) (home p x).copied) i in
    let w = not-true (is_write_register r) d.0 in
    ⊎_elim
    (λ (k : same_place r (home p x).defined ≡ true). kind_defined labels p x r h s w (same_place-true r (home p x).defined k))
    (λ (k : list_any (same_place r) (home p x).copied ≡ true). kind_copied labels p x r h w (targets labels p x r s k))
    (or_cases (same_place r (home p x).defined) (list_any (same_place r) (home p x).copied) d.1)

kind_serves : (p : Plan) (x : ℕ) (r : Place) → IsBounded (home p x).defined → Kind p x r → CanServe p.slots r
kind_serves p x r b (general g) = general_serves p r g
kind_serves p x r b (fetched f e) = read_serves p.slots r f (subst IsBounded (sym e) b)

place_left : (r : Place) (a b : List Place) → has_place r a ≡ true → has_place r (a ++ b) ≡ true
place_left r a b h = list_any-append (same_place r) a b ∙ or_left (has_place r a) (has_place r b) h

-- a home has its value in one of its places
home_listed : (p : Plan) (x : ℕ) (r : Place) → is_home p x r ≡ true → has_place r ((home p x).defined ∷ (home p x).copied) ≡ true
home_listed p x r i = (and_parts (not (is_write_register r)) (same_place r (home p x).defined || list_any (same_place r) (home p x).copied) i).1

kind_lasts : (labels : List Label) (p : Plan) (x : ℕ) (r : Place) → has_place r ((home p x).defined ∷ (home p x).copied) ≡ true → (is_read_register r ≡ true → stays labels p x ≡ true) → Kind p x r → has_place r (lasting labels p x) ≡ true
kind_lasts labels p x r i f (general g) =
    place_left r (general_places p x) (read_places labels p x) (place_filter is_general r ((home p x).defined ∷ (home p x).copied) i (general_is p r g))
kind_lasts labels p x r i f (fetched g e) =
    let one : has_place r (kept_register labels p x true) ≡ true = or_left (same_place r (home p x).defined) false (same_place-from r (home p x).defined e) in
    place_right r (general_places p x) (read_places labels p x) (ap (λ b. has_place r (kept_register labels p x b)) (f g) ∙ one)

-- where a use of a value is served from a read register, it stays there
use_stays : (labels : List Label) (p : Plan) (u : Use) → ThereIn (uses labels) u → is_read_register (served p u).from ≡ true → stays labels p u.value ≡ true
use_stays labels p u t h =
    let a = filter_get (λ v. nat_eq v.value u.value) (uses labels) t.0 u t.1 (eq-eqb u.value u.value refl) in
    any_passes_from_place (λ v. is_read_register (served p v).from) (uses_of labels u.value) a.0 u a.1 h

-- ---- a word that is served from a home

pub record Source (labels : List Label) (p : Plan) (q : Point) (x : ℕ) (from : Place) : Type 0 where
  pub held : is_in x q.before ≡ true
  pub lasts : has_place from (lasting labels p x) ≡ true
  pub serves : CanServe p.slots from

pub source_word : (labels : List Label) (p : Plan) (k : ℕ) (q : Point) (x : ℕ) (from : Place) (env : Env) (e : Words) → Source labels p q x from → Ready labels p k q env e → e from ≡ env x
source_word labels p k q x from env e s d = d.held x s.held from s.lasts

pub source_of : (labels : List Label) (p : Plan) (k : ℕ) (q : Point) (u : Use) → Placed labels p → EmitContext labels k q → ThereIn (uses labels) u → is_in u.value q.uses ≡ true → is_home p u.value (served p u).from ≡ true
    → Source labels p q u.value (served p u).from
source_of labels p k q u h s t i g =
    let r = (served p u).from in
    let b = s.uses u.value i in
    let d = settled_held labels p k q u.value h s b in
    let kind = kind_of labels p u.value r h d g in record {
      held = b;
      lasts = kind_lasts labels p u.value r (home_listed p u.value r g) (λ c. use_stays labels p u t c) kind;
      serves = kind_serves p u.value r (bounded_above labels p k q u.value h s.at (s.known u.value b) (s.used_it u.value b)) kind;
    }

-- ---- the uses of a point

-- it is served, it is one of the form's uses, and where it is served from a slot there is a register for it
abbrev pub IsEmitContext : List Label → Plan → ℕ → Use → Type 0
IsEmitContext labels p k u = (IsServed labels p u × ThereIn (uses labels) u) × (is_slot (served p u).from ≡ true → is_some (pass p k).l ≡ true)

pub uses_here : (labels : List Label) (p : Plan) (k : ℕ) (q : Point) → Placed labels p → slice_get (points labels) k ≡ Some q → AllByRecursion (IsEmitContext labels p k) (uses_at k 0 q.uses (place_roles q.place))
uses_here labels p k q h e =
    let P = λ (u : Use). IsServed labels p u × ThereIn (uses labels) u in
    let us = uses_at k 0 q.uses (place_roles q.place) in
    let all = all_of P (uses labels) (λ i u g. (served_at labels p i u h g, (i, g))) in
    all_and P (λ u. is_slot (served p u).from ≡ true → is_some (pass p k).l ≡ true) us
    (each_here (λ j r. AllByRecursion P (uses_at j 0 r.uses (place_roles r.place))) (points labels) k q (uses_each P 0 (points labels) all) e)
    (all_of (λ u. is_slot (served p u).from ≡ true → is_some (pass p k).l ≡ true) us
    (λ i u g c. (h.fits.points k q e).passes.reads (any_passes_from_place (λ v. is_slot (served p v).from) us i u g c)))
