-- A form whose program fits is small: each value that isn't read and each use has three columns at least, a read has at most eight
-- values, and each point has sixteen rows for the read registers alone.
use Rattle.std.proofs.Common.{◌≡◌, ℕ, zero, suc, ◌+◌, ◌*◌, ◌^◌, ◌≤◌, Bool, true, false, List, [], ◌∷◌, ◌++◌, length, filter, refl, sym, ap, subst, ◌∙◌, arith}
use Rattle.std.specs.List.{flat_map}
use Rattle.std.proofs.lemmas.List.{length-append, length-map}
use Rattle.std.proofs.lemmas.Grind.{flat_map-append}
use Rattle.nv_base.proofs.Operands.{is_access, access_eight}
use Rattle.ssu_ir.specs.Measures.{size, point_size, total}
use Rattle.ssu_ir.specs.Points.{PointKind, Entry, At, Point, points}
use Rattle.ssu_ir.specs.Points as pure
use Rattle.ssu_ir.specs.Single.{single, is_step}
use Rattle.ssu_ir.specs.Tree.{Step, Lit, Una, Bin, Clone, Read, Write, Label, Does, Forks, Ends}
use Rattle.ssu_ir.proofs.PointLemmas.{total-from}
use Rattle.place_plan.specs.Uses.{Parameter, values, values_from, numbered, place_values, Role, Operand, Address, Written, Argument, Ending, Use, uses, uses_from, uses_at, place_roles, accesses}
use Rattle.place_plan.proofs.Sound.{Each, Sound, place_ok, sound-points}
use Rattle.bank_prog_form.specs.declared.column.Column.TheVariants.{Serve}
use Rattle.bank_prog_form.specs.Columns.{Priced, each_point, def_columns, fill_columns, first_columns, has_bank, services, origin_of, is_fetched, srv_columns, all_dirs, all_stays, all_ears, all_pas_l, all_pas_s, priced, columns}
use Rattle.bank_prog_form.specs.Rows.{Line, one_choice, homes_cover, operand_banks, capacity, read_owners, fill_owners, write_owners, adjacency, passes, lines}
use Rattle.bank_prog_form.specs.Program.{rows, row_of, number_of}

-- ---- values

parameters-defs : (k l i : ℕ) (xs : List ℕ) → length (flat_map def_columns (numbered k (Parameter l) i xs)) ≡ 3 * length xs
parameters-defs k l i [] = refl
parameters-defs k zero i (x ∷ xs) = omega (arith, parameters-defs k zero (suc i) xs)
parameters-defs k (suc l) i (x ∷ xs) = omega (arith, parameters-defs k (suc l) (suc i) xs)

step-defs : (k : ℕ) (s : Step) → is_step s ≡ true → 3 * length (pure.place_values (At (Does s))) ≤ 24 + length (flat_map def_columns (place_values k (At (Does s))))
step-defs k (Lit x v) h = omega arith
step-defs k (Una x op y) h = omega arith
step-defs k (Bin x op y z) h = omega arith
step-defs k (Clone xs y) h = omega arith
step-defs k (Read m xs y) h = omega (arith, access_eight m (length xs) (is_access m (length xs) h))
step-defs k (Write m y xs) h = omega arith

place-defs : (labels : List Label) (k : ℕ) (q : PointKind) → place_ok labels q ≡ true → 3 * length (pure.place_values q) ≤ 24 + length (flat_map def_columns (place_values k q))
place-defs labels k (Entry l params) h = omega (arith, parameters-defs k l 0 params)
place-defs labels k (At (Does s)) h = step-defs k s h
place-defs labels k (At (Forks c x y)) h = omega arith
place-defs labels k (At (Ends l)) h = omega arith

-- ---- uses

three-services : (fetched : Bool) (r : Role) → 3 ≤ length (filter (λ s. has_bank fetched s.from) (services r))
three-services true Operand = omega arith
three-services true Address = omega arith
three-services true (Written m i) = omega arith
three-services true (Argument l i) = omega arith
three-services true (Ending i) = omega arith
three-services false Operand = omega arith
three-services false Address = omega arith
three-services false (Written m i) = omega arith
three-services false (Argument l i) = omega arith
three-services false (Ending i) = omega arith

use-columns : (labels : List Label) (u : Use) → 3 ≤ length (srv_columns labels u)
use-columns labels u =
    let b = is_fetched (origin_of labels u.value) in
    subst (λ n. 3 ≤ n) (sym (length-map (filter (λ s. has_bank b s.from) (services u.role)) (λ s. (Serve u.point u.operand s.from s.at, s.cost)))) (three-services b u.role)

uses-columns : (labels : List Label) (k i : ℕ) (xs : List ℕ) (rs : List Role) → length rs ≡ length xs → 3 * length xs ≤ length (flat_map (srv_columns labels) (uses_at k i xs rs))
uses-columns labels k i [] rs e = omega arith
uses-columns labels k i (x ∷ xs) [] e = omega (arith, e)
uses-columns labels k i (x ∷ xs) (r ∷ rs) e =
    let u : Use = record { point = k; operand = i; value = x; role = r } in
    let rest = uses_at k (suc i) xs rs in
    omega (arith, uses-columns labels k (suc i) xs rs (omega (arith, e)), use-columns labels u, length-append (srv_columns labels u) (flat_map (srv_columns labels) rest))

-- ---- points

flat-parts : {X : Type 0} (f : X → List Priced) (a b : List X) → length (flat_map f (a ++ b)) ≡ length (flat_map f a) + length (flat_map f b)
flat-parts f a b = ap length (flat_map-append f a b) ∙ length-append (flat_map f a) (flat_map f b)

sizes-columns : (labels : List Label) (vs us : List ℕ) (k : ℕ) (ps : List Point) → Each (Sound labels vs us) ps
    → 3 * total point_size ps ≤ 27 * length ps + (length (flat_map def_columns (values_from k ps)) + length (flat_map (srv_columns labels) (uses_from k ps)))
sizes-columns labels vs us k [] h = omega arith
sizes-columns labels vs us k (q ∷ ps) h =
    omega (
      arith,
      sizes-columns labels vs us (suc k) ps h.1,
      place-defs labels k q.place h.0.node,
      uses-columns labels k 0 q.uses (place_roles q.place) h.0.many,
      flat-parts def_columns (place_values k q.place) (values_from (suc k) ps),
      flat-parts (srv_columns labels) (uses_at k 0 q.uses (place_roles q.place)) (uses_from (suc k) ps),
    )

owner-rows : (labels : List Label) (k : ℕ) (ps : List Point) → 16 * length ps ≤ length (each_point (read_owners labels) k ps)
owner-rows labels k [] = omega arith
owner-rows labels k (q ∷ ps) =
    let sixteen : length (read_owners labels k q) ≡ 16 = refl in
    omega (arith, owner-rows labels (suc k) ps, sixteen, length-append (read_owners labels k q) (each_point (read_owners labels) (suc k) ps))

-- ---- the whole

left-part : {X : Type 0} (a b : List X) → length a ≤ length (a ++ b)
left-part a b = omega (arith, length-append a b)

right-part : {X : Type 0} (a b : List X) → length b ≤ length (a ++ b)
right-part a b = omega (arith, length-append a b)

more-columns : (defs dirs fills stays ears firsts srvs ls ss : List Priced) → length defs + length srvs ≤ length (defs ++ (dirs ++ (fills ++ (stays ++ (ears ++ (firsts ++ (srvs ++ (ls ++ ss))))))))
more-columns defs dirs fills stays ears firsts srvs ls ss =
    let r1 = srvs ++ (ls ++ ss) in
    let r2 = firsts ++ r1 in
    let r3 = ears ++ r2 in
    let r4 = stays ++ r3 in
    let r5 = fills ++ r4 in
    let r6 = dirs ++ r5 in
    omega (arith, left-part srvs (ls ++ ss), right-part firsts r1, right-part ears r2, right-part stays r3, right-part fills r4, right-part dirs r5, length-append defs r6)

columns-bound : (labels : List Label) → length (flat_map def_columns (values labels)) + length (flat_map (srv_columns labels) (uses labels)) ≤ length (columns labels)
columns-bound labels =
    subst (λ n. length (flat_map def_columns (values labels)) + length (flat_map (srv_columns labels) (uses labels)) ≤ n) (sym (length-map (priced labels) (λ c. c.0)))
    (more-columns (flat_map def_columns (values labels)) (all_dirs labels) (flat_map (fill_columns labels) (values labels)) (all_stays labels) (all_ears labels)
    (flat_map first_columns (accesses labels)) (flat_map (srv_columns labels) (uses labels)) (all_pas_l labels) (all_pas_s labels))

more-lines : (choice covers operands room reads fills writes begins slots : List Line) → length reads ≤ length (choice ++ (covers ++ (operands ++ (room ++ ((reads ++ (fills ++ writes)) ++ (begins ++ slots))))))
more-lines choice covers operands room reads fills writes begins slots =
    let owned = reads ++ (fills ++ writes) in
    let r1 = owned ++ (begins ++ slots) in
    let r2 = room ++ r1 in
    let r3 = operands ++ r2 in
    let r4 = covers ++ r3 in
    omega (arith, left-part reads (fills ++ writes), left-part owned (begins ++ slots), right-part room r1, right-part operands r2, right-part covers r3, right-part choice r4)

rows-bound : (labels : List Label) (slots : ℕ) → 16 * length (points labels) ≤ length (rows labels slots)
rows-bound labels slots =
    let most = more-lines (one_choice labels) (homes_cover labels) (operand_banks labels) (capacity labels slots)
    (each_point (read_owners labels) 0 (points labels)) (each_point (fill_owners labels) 0 (points labels)) (each_point (write_owners labels) 0 (points labels))
    (adjacency labels) (passes labels) in
    omega (arith, owner-rows labels 0 (points labels), most, length-map (lines labels slots) (row_of (number_of labels)))

pub size-few : (labels : List Label) (slots : ℕ) → single labels ≡ true → length (columns labels) ≤ 2 ^ 26 → length (rows labels slots) ≤ 2 ^ 26 → size labels ≤ 2 ^ 26
size-few labels slots h c r =
    let all = total-from 0 labels in
    omega (arith, all, c, r, columns-bound labels, rows-bound labels slots, sizes-columns labels _ _ 0 (points labels) (sound-points labels h))
