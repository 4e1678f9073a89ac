-- The values and the operands of each point can be numbered in a byte.
use Rattle.std.proofs.Common.{◌≡◌, ℕ, zero, suc, ◌≤◌, true, Option, Some, None, List, [], ◌∷◌, ◌++◌, length, map, refl, subst, arith}
use Rattle.std.specs.Prelude.{slice_get, nat_le, All}
use Rattle.std.proofs.lemmas.Bool.{and_parts, leb-true, false≢true}
use Rattle.nv_base.specs.Access.{can_move}
use Rattle.nv_base.specs.declared.term.Mem.{Mem}
use Rattle.nv_base.specs.declared.term.Mem.TheVariants.{Sram, Sdram, Scratch}
use Rattle.nv_base.proofs.Sets.{same-number}
use Rattle.ssu_ir.specs.Tree.{Lit, Una, Bin, Clone, Read, Write, Jump, Halt, Tree, Do, If, End, Label, Does, Forks, Ends, step_values}
use Rattle.ssu_ir.specs.Points as pure
use Rattle.ssu_ir.specs.Points.{Names, own, names_after, PointKind, Entry, At, Point, tree_points, points_from, points}
use Rattle.ssu_ir.specs.Measures.{most_held, peak}
use Rattle.ssu_ir.specs.Single.{takes_as_many, single}
use Rattle.ssu_liveness.specs.inner.Numbers.{values_among}
use Rattle.place_plan.specs.inner.Parts.{IsShort}
use Rattle.place_plan.proofs.Sound.{Each, each-append, entry_params, place_ok, Sound, uses_among, sound-points}
use Rattle.place_plan.proofs.Spilled.{each-all, each-right}
use Rattle.place_plan.proofs.Slotted.{first-fits}

-- no more are held than at most
held-few : (n : ℕ) (ps : List Point) → most_held ps ≤ n → Each (λ q. length q.before ≤ n) ps
held-few n [] l = tt
held-few n (p ∷ ps) l = (omega arith, held-few n ps (omega arith))

-- so labels have no more parameters
params-few : (n k : ℕ) (ls : List Label) → Each (λ q. length q.before ≤ n) (points_from k ls) → (i : ℕ) (l : Label) → slice_get ls i ≡ Some l → length l.params ≤ n
params-few n k [] h i l e = absurd (cc)
params-few n k (m ∷ ls) h zero l e = let same : m ≡ l = cc in subst (λ (w : Label). length w.params ≤ n) same h.0
params-few n k (m ∷ ls) h (suc i) l e = params-few n (suc k) ls (each-right (λ q. length q.before ≤ n) (pure.label_points k m) (points_from (suc k) ls) h) i l e

nodes-few : (n : ℕ) (of : Names) (above : List ℕ) (t : Tree) → Each (λ q. length (entry_params q.place) ≤ n) (tree_points of above t)
nodes-few n of above (Do s t) = (omega arith, nodes-few n (names_after of s) (above ++ step_values s) t)
nodes-few n of above (If c x y t u) = (omega arith, each-append (λ q. length (entry_params q.place) ≤ n) (tree_points of above t) (tree_points of above u) (nodes-few n of above t) (nodes-few n of above u))
nodes-few n of above (End l) = (omega arith, tt)

entries-few : (n k : ℕ) (ls : List Label) → Each (λ q. length q.before ≤ n) (points_from k ls) → Each (λ q. length (entry_params q.place) ≤ n) (points_from k ls)
entries-few n k [] h = tt
entries-few n k (l ∷ ls) h = (
  h.0,
  each-append (λ q. length (entry_params q.place) ≤ n) (tree_points own l.params l.body) (points_from (suc k) ls) (nodes-few n own l.params l.body)
      (entries-few n (suc k) ls (each-right (λ q. length q.before ≤ n) (pure.label_points k l) (points_from (suc k) ls) h)),
)

moved-few : (m : Mem) (n : ℕ) → can_move m n ≡ true → n ≤ 8
moved-few Sram n h = let w = first-fits Sram n 0 refl h in omega arith
moved-few Sdram n h = let w = first-fits Sdram n 0 refl h in omega arith
moved-few Scratch n h = let w = first-fits Scratch n 0 refl h in omega arith

jumped-few : (n m : ℕ) (o : Option Label) → ((l : Label) → o ≡ Some l → length l.params ≤ n) → takes_as_many m o ≡ true → m ≤ n
jumped-few n m (Some l) h e = let same = same-number (length l.params) m e in let few = h l refl in omega arith
jumped-few n m None h e = absurd (false≢true e)

place-short : (labels : List Label) (n : ℕ) (q : PointKind) → n ≤ 128 → ((i : ℕ) (l : Label) → slice_get labels i ≡ Some l → length l.params ≤ n) → length (entry_params q) ≤ n → place_ok labels q ≡ true → IsShort q
place-short labels n (Entry l ps) b few h ok = record { values = omega arith; uses = omega arith }
place-short labels n (At (Does (Lit x v))) b few h ok = record { values = omega arith; uses = omega arith }
place-short labels n (At (Does (Una x op y))) b few h ok = record { values = omega arith; uses = omega arith }
place-short labels n (At (Does (Bin x op y z))) b few h ok = record { values = omega arith; uses = omega arith }
place-short labels n (At (Does (Clone xs y))) b few h ok = record { values = omega arith; uses = omega arith }
place-short labels n (At (Does (Read m xs y))) b few h ok = let w = moved-few m (length xs) ok in record { values = omega arith; uses = omega arith }
place-short labels n (At (Does (Write m y xs))) b few h ok = let w = moved-few m (length xs) ok in record { values = omega arith; uses = omega arith }
place-short labels n (At (Forks c x y)) b few h ok = record { values = omega arith; uses = omega arith }
place-short labels n (At (Ends (Jump l xs))) b few h ok =
    let w = jumped-few n (length xs) (slice_get labels l) (few l) (and_parts (nat_le 1 l) (takes_as_many (length xs) (slice_get labels l)) ok).1 in
    record { values = omega arith; uses = omega arith }
place-short labels n (At (Ends (Halt e xs))) b few h ok = let w = leb-true (length xs) 8 ok in record { values = omega arith; uses = omega arith }

each-short : (labels : List Label) (vs us : List ℕ) (n : ℕ) (ps : List Point) → n ≤ 128 → ((i : ℕ) (l : Label) → slice_get labels i ≡ Some l → length l.params ≤ n)
    → Each (λ q. length (entry_params q.place) ≤ n) ps → Each (Sound labels vs us) ps → Each IsShort (map (λ q. q.place) ps)
each-short labels vs us n [] b few h s = tt
each-short labels vs us n (q ∷ ps) b few h s = (place-short labels n q.place b few h.0 s.0.node, each-short labels vs us n ps b few h.1 s.1)

pub short-at-points : (labels : List Label) (n : ℕ) → single labels ≡ true → peak labels ≤ n → n ≤ 128 → All IsShort (map (λ p. p.place) (points labels))
short-at-points labels n form l b =
    let ps = points labels in
    let vs = values_among (map (λ (q : Point). q.place) ps) in
    let us = uses_among ps in
    let held : Each (λ (q : Point). length q.before ≤ n) ps = held-few n ps l in
    each-all IsShort (map (λ (q : Point). q.place) ps) (each-short labels vs us n ps b (params-few n 0 labels held) (entries-few n 0 labels held) (sound-points labels form))
