-- The placement that has every value in a slot has it nowhere else.
use Rattle.std.proofs.Common.{ℕ, suc, Bool, true, false, nat_eq, if◌then◌else◌, List, [], ◌∷◌, map, refl, sym, subst}
use Rattle.std.specs.Prelude.{All}
use Rattle.std.specs.List.Sorted.{IsPermutation}
use Rattle.std.proofs.lemmas.List.Elements.{All-head, All-tail}
use Rattle.std.proofs.lemmas.List.Sorted.{IsPermutation-map, All-permutation}
use Rattle.nv_base.specs.declared.term.Mem.{Mem}
use Rattle.nv_base.specs.declared.term.Mem.TheVariants.{Sram, Sdram, Scratch}
use Rattle.ssu_ir.specs.Tree.{Label, Lit, Una, Bin, Clone, Read, Write, Does, Forks, Ends}
use Rattle.ssu_ir.specs.Points.{Names, PointKind, Entry, At}
use Rattle.place_plan.specs.declared.place.Home.{Home as KeptHome}
use Rattle.place_plan.specs.declared.place.Serve.{Serve}
use Rattle.place_plan.specs.declared.parts.SpillInputs.{SpillInputs}
use Rattle.place_plan.specs.declared.parts.Parts.{Parts}
use Rattle.place_plan.specs.Plan.{Home, home_in, home_view}
use Rattle.place_plan.specs.InSlots.{IsInSlot, IsFromSlot}
use Rattle.place_plan.specs.Uses.{Fetched, Use, uses_at, place_roles}
use Rattle.ssu_liveness.specs.inner.Numbers.{Numbers}
use Rattle.place_plan.specs.inner.Spilled.{slot_number, origin_home, use_serve}
use Rattle.place_plan.specs.inner.Parts.{gather, number_of, names_of, used_of, place_names, slot_home, fetched_home, fetched_homes, homes_at, serves_at, AreGathered}
use Rattle.place_plan.proofs.Sound.{Each, each-append}
use Rattle.place_plan.proofs.Spilled.{each-all}

mapped-in-slots : (number : Numbers) (xs : List ℕ) → Each IsInSlot (map (slot_home number) xs)
mapped-in-slots number [] = tt
mapped-in-slots number (x ∷ xs) = (refl, mapped-in-slots number xs)

word-in-slot : (number : Numbers) (m : Mem) (i x : ℕ) (b : Bool) → Each IsInSlot (if b then origin_home (slot_number number x) x (Fetched m i) ∷ [] else [])
word-in-slot number Sram i x true = (refl, tt)
word-in-slot number Sdram i x true = (refl, tt)
word-in-slot number Scratch i x true = (refl, tt)
word-in-slot number m i x false = tt

words-in-slots : (number : Numbers) (used : ℕ → Bool) (m : Mem) (i : ℕ) (xs : List ℕ) → Each IsInSlot (fetched_homes number used m i xs)
words-in-slots number used m i [] = tt
words-in-slots number used m i (x ∷ xs) = each-append IsInSlot (fetched_home number used m i x) (fetched_homes number used m (suc i) xs) (word-in-slot number m i x (used x)) (words-in-slots number used m (suc i) xs)

place-in-slots : (number : Numbers) (used : ℕ → Bool) (k : ℕ) (q : PointKind) → Each IsInSlot (homes_at number used k q)
place-in-slots number used k (Entry l ps) = mapped-in-slots number ps
place-in-slots number used k (At (Does (Lit x v))) = (refl, tt)
place-in-slots number used k (At (Does (Una x op y))) = (refl, tt)
place-in-slots number used k (At (Does (Bin x op y z))) = (refl, tt)
place-in-slots number used k (At (Does (Clone xs y))) = tt
place-in-slots number used k (At (Does (Read m xs y))) = words-in-slots number used m 0 xs
place-in-slots number used k (At (Does (Write m y xs))) = tt
place-in-slots number used k (At (Forks c x y)) = tt
place-in-slots number used k (At (Ends l)) = tt

gathered-in-slots : (number : Numbers) (used : ℕ → Bool) (k : ℕ) (qs : List PointKind) → Each IsInSlot (gather (homes_at number used) k qs)
gathered-in-slots number used k [] = tt
gathered-in-slots number used k (q ∷ qs) = each-append IsInSlot (homes_at number used k q) (gather (homes_at number used) (suc k) qs) (place-in-slots number used k q) (gathered-in-slots number used (suc k) qs)

pub placed-in-slots : (labels : List Label) (given : SpillInputs) (places : List PointKind) (parts : Parts) (sorted : List KeptHome) → AreGathered labels given places parts → IsPermutation parts.homes.items sorted → All IsInSlot (map home_view sorted)
placed-in-slots labels given places parts sorted g perm =
    let made = gather (homes_at (number_of given) (used_of given)) 0 places in
    let homes = map home_view sorted in
    let moved : IsPermutation made homes = subst (λ (l : List Home). IsPermutation l homes) g.homes (IsPermutation-map home_view parts.homes.items sorted perm) in
    All-permutation IsInSlot made homes moved (each-all IsInSlot made (gathered-in-slots (number_of given) (used_of given) 0 places))

-- ---- uses

mapped-from-slots : (labels : List Label) (number : Numbers) (us : List Use) → Each IsFromSlot (map (use_serve labels number) us)
mapped-from-slots labels number [] = tt
mapped-from-slots labels number (u ∷ us) = (refl, mapped-from-slots labels number us)

gathered-from-slots : (labels : List Label) (number : Numbers) (of : Names) (k : ℕ) (qs : List PointKind) → Each IsFromSlot (gather (serves_at labels number of) k qs)
gathered-from-slots labels number of k [] = tt
gathered-from-slots labels number of k (q ∷ qs) =
    each-append IsFromSlot (serves_at labels number of k q) (gather (serves_at labels number of) (suc k) qs) (mapped-from-slots labels number (uses_at k 0 (map of (place_names q)) (place_roles q))) (gathered-from-slots labels number of (suc k) qs)

pub served-from-slots : (labels : List Label) (given : SpillInputs) (places : List PointKind) (parts : Parts) → AreGathered labels given places parts → All IsFromSlot parts.serves.items
served-from-slots labels given places parts g =
    let made = gather (serves_at labels (number_of given) (names_of given)) 0 places in
    subst (λ (l : List Serve). All IsFromSlot l) (sym g.serves) (each-all IsFromSlot made (gathered-from-slots labels (number_of given) (names_of given) 0 places))

-- ---- homes by variables

-- of every variable, also of one that has no home
home-or : (h rest : Home) (b : Bool) → IsInSlot h → IsInSlot rest → IsInSlot (if b then h else rest)
home-or h rest true a c = a
home-or h rest false a c = c

pub home-in-slot : (homes : List Home) (x : ℕ) → All IsInSlot homes → IsInSlot (home_in homes x)
home-in-slot [] x a = refl
home-in-slot (h ∷ hs) x a = home-or h (home_in hs x) (nat_eq h.var x) (All-head IsInSlot h hs a) (home-in-slot hs x (All-tail IsInSlot h hs a))
