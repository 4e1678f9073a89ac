-- Parts of one point, value by value and word by word.
use Rattle.std.proofs.Common.{◌≡◌, ℕ, zero, suc, ◌+◌, ◌<◌, Some, None, List, [], ◌∷◌, ◌++◌, length, map, get_or, drop, refl, sym, ap, subst, ◌∙◌, append_assoc, arith}
use Rattle.std.specs.Prelude.{slice_get, All}
use Rattle.std.proofs.lemmas.List.{drop_more}
use Rattle.ssu_ir.specs.declared.node.SsuLabel.{SsuLabel}
use Rattle.ssu_ir.specs.declared.ssu.Ssu.{Ssu}
use Rattle.ssu_ir.specs.Tree.{Tree, Label, Ends, Halt}
use Rattle.ssu_ir.specs.Points.{Names, PointKind as PointPlace, Entry, At}
use Rattle.ssu_ir.specs.View.{with_bodies}
use Rattle.place_plan.specs.declared.place.Place.{Place}
use Rattle.place_plan.specs.declared.place.Serve.{Serve}
use Rattle.place_plan.specs.Uses.{Role}
use Rattle.place_plan.specs.Fits.{param_at, label_param}
use Rattle.ssu_liveness.specs.inner.Numbers.{Numbers}
use Rattle.place_plan.specs.inner.Spilled.{role_at}
use Rattle.place_plan.specs.declared.parts.SpillInputs.{SpillInputs}
use Rattle.place_plan.specs.declared.parts.Parts.{Parts}
use Rattle.ssu_liveness.specs.declared.point_ids.PointId.{PointId}
use Rattle.ssu_liveness.specs.inner.PointIds.{params_of, kind_of_point}
use Rattle.place_plan.proofs.Sound.{Each}
use Rattle.place_plan.proofs.Spilled.{all-each}
use Rattle.place_plan.specs.inner.Parts.{IsShort, Adds, serve_of, word_serves}

next-of : (xs : List ℕ) (i x : ℕ) → i < length xs → x ≡ get_or xs i x → drop i xs ≡ x ∷ drop (i + 1) xs
next-of xs i x l e = drop_more xs i x l ∙ ap (λ y. y ∷ drop (i + 1) xs) (sym e)

-- what comes next goes after the others
step-more : {X : Type 0} (old new here rest whole goal : List X) → new ≡ old ++ here → whole ≡ here ++ rest → old ++ whole ≡ goal → new ++ rest ≡ goal
step-more old new here rest whole goal n w h = ap (λ m. m ++ rest) n ∙ append_assoc old here rest ∙ ap (λ m. old ++ m) (sym w) ∙ h

-- ---- serves

pub word-more : (labels : List Label) (number : Numbers) (of : Names) (k first : ℕ) (role : ℕ → Role) (at : Place) (old new goal : List Serve) (xs : List ℕ) (i x j : ℕ) → i < length xs → x ≡ get_or xs i x → j ≡ first + i → at ≡ role_at labels number (first + i) (role i)
    → new ≡ old ++ serve_of number of k j x at ∷ [] → old ++ word_serves labels number of k (first + i) i role (drop i xs) ≡ goal → new ++ word_serves labels number of k (first + (i + 1)) (i + 1) role (drop (i + 1) xs) ≡ goal
word-more labels number of k first role at old new goal xs i x j l e g a n h =
    let here : Serve = serve_of number of k (first + i) x (role_at labels number (first + i) (role i)) in
    let next : suc i ≡ i + 1 = omega arith in
    let write_through : suc (first + i) ≡ first + (i + 1) = omega arith in
    step-more old new (here ∷ []) (word_serves labels number of k (first + (i + 1)) (i + 1) role (drop (i + 1) xs)) (word_serves labels number of k (first + i) i role (drop i xs)) goal
    (n ∙ ap (λ o. old ++ serve_of number of k o x at ∷ []) g ∙ ap (λ (q : Place). old ++ serve_of number of k (first + i) x q ∷ []) a)
    (ap (word_serves labels number of k (first + i) i role) (next-of xs i x l e)
    ∙ ap (λ o. here ∷ word_serves labels number of k o (suc i) role (drop (i + 1) xs)) write_through
    ∙ ap (λ o. here ∷ word_serves labels number of k (first + (i + 1)) o role (drop (i + 1) xs)) next)
    h

-- ---- parameters of a label, as they are kept

param-there : (ls : List SsuLabel) (ts : List Tree) (l i : ℕ) → label_param (slice_get (with_bodies ls ts) l) i ≡ param_at (slice_get (params_of (slice_get ls l)) i)
param-there [] ts l i = refl
param-there (m ∷ ls) [] zero i = refl
param-there (m ∷ ls) (t ∷ ts) zero i = refl
param-there (m ∷ ls) [] (suc l) i = param-there ls [] l i
param-there (m ∷ ls) (t ∷ ts) (suc l) i = param-there ls ts l i

pub param-some : (ls : List SsuLabel) (ts : List Tree) (l i n : ℕ) (m : SsuLabel) → slice_get ls l ≡ Some m → n ≡ param_at (slice_get m.params.items i) → n ≡ label_param (slice_get (with_bodies ls ts) l) i
param-some ls ts l i n m e f = f ∙ ap (λ p. param_at (slice_get (params_of p) i)) (sym e) ∙ sym (param-there ls ts l i)

pub param-none : (ls : List SsuLabel) (ts : List Tree) (l i : ℕ) → slice_get ls l ≡ None → 0 ≡ label_param (slice_get (with_bodies ls ts) l) i
param-none ls ts l i e = ap (λ p. param_at (slice_get (params_of p) i)) (sym e) ∙ sym (param-there ls ts l i)

-- ---- points

each-in : {X Y : Type 0} (P : Y → Type 0) (f : X → Y) (xs : List X) (k : ℕ) (d : X) → Each P (map f xs) → k < length xs → P (f (get_or xs k d))
each-in P f [] k d h l = absurd (omega arith)
each-in P f (x ∷ xs) zero d h l = h.0
each-in P f (x ∷ xs) (suc k) d h l = each-in P f xs k d h.1 (omega arith)

pub point_id-short : (s : Ssu) (point_ids : List PointId) (k : ℕ) (d : PointId) → All IsShort (map (kind_of_point s) point_ids) → k < length point_ids → IsShort (kind_of_point s (get_or point_ids k d))
point_id-short s point_ids k d h l = each-in IsShort (kind_of_point s) point_ids k d (all-each IsShort (map (kind_of_point s) point_ids) h) l

-- a node that isn't there gives nothing, as an entry without parameters
pub nothing-there : (labels : List Label) (given : SpillInputs) (k l : ℕ) (q : PointPlace) (old new : Parts) → q ≡ At (Ends (Halt 0 [])) → Adds labels given k (Entry l []) old new → Adds labels given k q old new
nothing-there labels given k l q old new e a =
    subst (λ (w : PointPlace). Adds labels given k w old new) (sym e) (record { homes = a.homes; firsts = a.firsts; serves = a.serves; passes = a.passes })

pub param-index : (xs : List ℕ) (i : ℕ) → param_at (slice_get xs i) ≡ get_or xs i 0
param-index [] i = refl
param-index (x ∷ xs) zero = refl
param-index (x ∷ xs) (suc i) = param-index xs i
