-- What a point uses: the values of the names of its node, and the use that is made of each.
use Rattle.std.proofs.Common.{◌≡◌, ℕ, zero, suc, ◌+◌, ◌≤◌, true, ◌&&◌, nat_eq, List, [], ◌∷◌, ◌++◌, Some, length, map, refl, sym, ap, subst, ◌∙◌, arith, take, drop}
use Rattle.std.specs.Prelude.{slice_get, slice_index_or, nat_le}
use Rattle.std.specs.List.{list_all}
use Rattle.std.proofs.lemmas.Bool.{and_parts, and_from, le-leb, leb-true}
use Rattle.std.proofs.lemmas.List.{map-append}
use Rattle.nv_base.specs.declared.term.Mem.{Mem}
use Rattle.nv_base.specs.Sets.{all_different}
use Rattle.nv_base.proofs.Sets.{same-number}
use Rattle.ssu_ir.specs.Tree.{Lit, Una, Bin, Clone, Read, Write, Jump, Halt, Tree, Do, If, End, Label, Does, Forks, Ends, step_values, step_clones, step_uses, last_uses, node_uses}
use Rattle.ssu_ir.specs.Points.{Names, own, names_after, PointKind, Entry, At, Point, tree_points, points_from, points}
use Rattle.ssu_ir.specs.Single.{defined, all_defined, step_names, all_known, is_scoped, fresh_after, is_entry, is_single, single}
use Rattle.ssu_ir.proofs.Liveness.{uses-named}
use Rattle.place_plan.specs.declared.place.Serve.{Serve}
use Rattle.place_plan.specs.Uses.{Role, Address, Written, Argument, Ending, roles, place_roles, Use, uses_at, uses_from, uses}
use Rattle.place_plan.specs.Fits.{at_operand, use_operand}
use Rattle.place_plan.specs.Plan.{Plan}
use Rattle.ssu_liveness.specs.inner.Live.{value_by, source_among}
use Rattle.place_ir_checks.specs.inner.NodeLookups.{write_role, nowhere, point_at, place_at, place_node, value_in, operand_name, operand_role, found_use}
use Rattle.place_ir_checks.specs.inner.Checks.{found, uses_at as use_count, is_for, are_for, begins, serves_fit}
use Rattle.ssu_liveness.proofs.Scoped.{Scope, scope-do, scope-first, scope-second, all-in, map-same, split-different, in-itself}
use Rattle.ssu_liveness.proofs.Kept.{trees, Sourced, sourced-tail, scope-of-label}
use Rattle.place_plan.proofs.Sound.{Each, each-append}
use Rattle.place_plan.proofs.Fitting.{each-uses}
use Rattle.place_plan.proofs.Spilled.{each-at}

-- ---- the values of the names

-- the names that a place uses
abbrev pub names_of : PointKind → List ℕ
names_of (Entry l ps) = []
names_of (At n) = node_uses n

abbrev pub Named : Names → Point → Type 0
Named value q = q.uses ≡ map value (names_of q.place)

named-tree : (of value : Names) (above known fresh : List ℕ) (t : Tree) → Scope of value above known fresh t → Each (Named value) (tree_points of above t)
named-tree of value above known fresh (Do s t) c =
    let sc = and_parts (all_known known (step_names s)) (is_scoped (known ++ (step_values s ++ step_clones s)) t) c.scoped in (
      map-same of value (step_uses s) (λ y f. c.same y (all-in known (step_names s) y sc.0 (uses-named s y f))),
      named-tree (names_after of s) value (above ++ step_values s) (known ++ (step_values s ++ step_clones s)) (fresh_after fresh s) t (scope-do of value above known fresh s t c),
    )
named-tree of value above known fresh (If d v w t u) c =
    let sc = and_parts (all_known known (v ∷ w ∷ [])) (is_scoped known t && is_scoped known u) c.scoped in (
      map-same of value (v ∷ w ∷ []) (λ y f. c.same y (all-in known (v ∷ w ∷ []) y sc.0 f)),
      each-append (Named value) (tree_points of above t) (tree_points of above u)
          (named-tree of value above known [] t (scope-first of value above known fresh d v w t u c))
          (named-tree of value above known [] u (scope-second of value above known fresh d v w t u c)),
    )
named-tree of value above known fresh (End l) c = (map-same of value (last_uses l) (λ y f. c.same y (all-in known (last_uses l) y c.scoped f)), tt)

named-labels : (labels : List Label) (value : Names) (k : ℕ) (ls : List Label) → list_all (is_single labels) ls ≡ true → all_different (all_defined ls) ≡ true → Sourced value ls → Each (Named value) (points_from k ls)
named-labels labels value k [] a d h = tt
named-labels labels value k (l ∷ ls) a d h =
    let p = and_parts (is_single labels l) (list_all (is_single labels) ls) a in
    let e = split-different l.params (defined l.body ++ all_defined ls) d in
    let f = split-different (defined l.body) (all_defined ls) e.1 in (
      refl,
      each-append (Named value) (tree_points own l.params l.body) (points_from (suc k) ls)
          (named-tree own value l.params l.params l.params l.body (scope-of-label labels value l ls p.0 d h))
          (named-labels labels value (suc k) ls p.1 f.1 (sourced-tail value l ls d h)),
    )

trees-map : (ls : List Label) → map (λ l. l.body) ls ≡ trees ls
trees-map [] = refl
trees-map (l ∷ ls) = ap (λ ts. l.body ∷ ts) (trees-map ls)

pub named-points : (labels : List Label) → single labels ≡ true → Each (Named (value_in labels)) (points labels)
named-points labels h =
    let a = and_parts (is_entry (slice_get labels 0)) (all_different (all_defined labels) && list_all (is_single labels) labels) h in
    let b = and_parts (all_different (all_defined labels)) (list_all (is_single labels) labels) a.1 in
    named-labels labels (value_in labels) 0 labels b.1 b.0 (λ z w. ap (λ ts. value_by (source_among ts) z) (trees-map labels))

-- ---- the uses of a place

-- a use of each of these names, from operand i on
abbrev pub made : ℕ → ℕ → Names → (ℕ → Role) → List ℕ → List Use
made k i value role [] = []
made k i value role (x ∷ xs) = record { point = k; operand = i; value = value x; role = role i } ∷ made k (suc i) value role xs

made-roles : (k i : ℕ) (value : Names) (role : ℕ → Role) (xs : List ℕ) → uses_at k i (map value xs) (roles role i xs) ≡ made k i value role xs
made-roles k i value role [] = refl
made-roles k i value role (x ∷ xs) = ap (λ us. record { point = k; operand = i; value = value x; role = role i } ∷ us) (made-roles k (suc i) value role xs)

made-words : (k i : ℕ) (value : Names) (m : Mem) (xs : List ℕ) → uses_at k (suc i) (map value xs) (roles (Written m) i xs) ≡ made k (suc i) value (write_role m) xs
made-words k i value m [] = refl
made-words k i value m (x ∷ xs) = ap (λ us. record { point = k; operand = suc i; value = value x; role = Written m i } ∷ us) (made-words k (suc i) value m xs)

pub made-place : (k : ℕ) (value : Names) (q : PointKind) → uses_at k 0 (map value (names_of q)) (place_roles q) ≡ made k 0 value (operand_role (place_node q)) (names_of q)
made-place k value (Entry l ps) = refl
made-place k value (At (Does (Lit x v))) = refl
made-place k value (At (Does (Una x op y))) = refl
made-place k value (At (Does (Bin x op y z))) = refl
made-place k value (At (Does (Clone xs y))) = refl
made-place k value (At (Does (Read m xs y))) = refl
made-place k value (At (Does (Write m y xs))) = ap (λ us. record { point = k; operand = 0; value = value y; role = Address } ∷ us) (made-words k 0 value m xs)
made-place k value (At (Forks c x y)) = refl
made-place k value (At (Ends (Jump l xs))) = made-roles k 0 value (Argument l) xs
made-place k value (At (Ends (Halt e xs))) = made-roles k 0 value Ending xs

-- the uses of a point whose uses are those of its names
pub made-point : (k : ℕ) (value : Names) (q : Point) → Named value q → uses_at k 0 q.uses (place_roles q.place) ≡ made k 0 value (operand_role (place_node q.place)) (names_of q.place)
made-point k value q h = ap (λ xs. uses_at k 0 xs (place_roles q.place)) h ∙ made-place k value q.place

pub many-names : (q : PointKind) → use_count (place_node q) ≡ length (names_of q)
many-names (Entry l ps) = refl
many-names (At n) = refl

-- ---- serves that are for the uses, in order

pub record IsPair (s : Serve) (k i : ℕ) : Type 0 where
  pub point : s.point ≡ k
  pub operand : s.operand ≡ i

pair-parts : (s : Serve) (k i : ℕ) → is_for k i s ≡ true → IsPair s k i
pair-parts s k i e = let p = and_parts (nat_eq s.point k) (nat_eq s.operand i) e in record { point = same-number s.point k p.0; operand = same-number s.operand i p.1 }

pair-for : (s : Serve) (k i : ℕ) → IsPair s k i → is_for k i s ≡ true
pair-for s k i h = and_from (nat_eq s.point k) (nat_eq s.operand i) (ap (λ n. nat_eq n k) h.point ∙ in-itself k) (ap (λ n. nat_eq n i) h.operand ∙ in-itself i)

pair-operand : (s : Serve) (k i : ℕ) → IsPair s k i → at_operand s ≡ (k, i)
pair-operand s k i h = ap (λ n. (n, s.operand)) h.point ∙ ap (λ n. (k, n)) h.operand

pub operand-pair : (s : Serve) (u : Use) → at_operand s ≡ use_operand u → IsPair s u.point u.operand
operand-pair s u e = record { point = ap (λ p. p.0) e; operand = ap (λ p. p.1) e }

for-names : (k i : ℕ) (value : Names) (role : ℕ → Role) (xs : List ℕ) (ss : List Serve) → length ss ≡ length xs → are_for k i ss ≡ true → map at_operand ss ≡ map use_operand (made k i value role xs)
for-names k i value role [] [] l e = refl
for-names k i value role [] (s ∷ ss) l e = absurd (omega arith)
for-names k i value role (x ∷ xs) [] l e = absurd (omega arith)
for-names k i value role (x ∷ xs) (s ∷ ss) l e =
    let p = and_parts (is_for k i s) (are_for k (suc i) ss) e in
    ap (λ a. a ∷ map at_operand ss) (pair-operand s k i (pair-parts s k i p.0)) ∙ ap (λ as'. (k, i) ∷ as') (for-names k (suc i) value role xs ss (omega arith) p.1)

-- serves that begin with those of some names
record Begins (k i : ℕ) (xs : List ℕ) (ss : List Serve) (rest : List (ℕ × ℕ)) : Type 0 where
  enough : length xs ≤ length ss
  are : are_for k i (take (length xs) ss) ≡ true
  others : map at_operand (drop (length xs) ss) ≡ rest

begins-names : (k i : ℕ) (value : Names) (role : ℕ → Role) (xs : List ℕ) (ss : List Serve) (rest : List (ℕ × ℕ)) → map at_operand ss ≡ map use_operand (made k i value role xs) ++ rest → Begins k i xs ss rest
begins-names k i value role [] ss rest e = record { enough = omega arith; are = refl; others = e }
begins-names k i value role (x ∷ xs) [] rest e = absurd (cc)
begins-names k i value role (x ∷ xs) (s ∷ ss) rest e =
    let first : at_operand s ≡ (k, i) = cc in
    let more' : map at_operand ss ≡ map use_operand (made k (suc i) value role xs) ++ rest = cc in
    let w = begins-names k (suc i) value role xs ss rest more' in
    record {
      enough = let l = w.enough in omega arith;
      are = and_from (is_for k i s) (are_for k (suc i) (take (length xs) ss)) (pair-for s k i (record { point = ap (λ p. p.0) first; operand = ap (λ p. p.1) first })) w.are;
      others = w.others;
    }

take-length : (n : ℕ) (ss : List Serve) → n ≤ length ss → length (take n ss) ≡ n
take-length zero ss l = refl
take-length (suc n) [] l = absurd (omega arith)
take-length (suc n) (s ∷ ss) l = ap suc (take-length n ss (omega arith))

take-drop : (n : ℕ) (ss : List Serve) → map at_operand (take n ss) ++ map at_operand (drop n ss) ≡ map at_operand ss
take-drop zero ss = refl
take-drop (suc n) [] = refl
take-drop (suc n) (s ∷ ss) = ap (λ l. at_operand s ∷ l) (take-drop n ss)

-- the uses of a point, before others
uses-parts : (k : ℕ) (value : Names) (q : Point) (qs : List Point) → Named value q
    → map use_operand (uses_from k (q ∷ qs)) ≡ map use_operand (made k 0 value (operand_role (place_node q.place)) (names_of q.place)) ++ map use_operand (uses_from (suc k) qs)
uses-parts k value q qs h =
    map-append use_operand (uses_at k 0 q.uses (place_roles q.place)) (uses_from (suc k) qs) ∙ ap (λ us. map use_operand us ++ map use_operand (uses_from (suc k) qs)) (made-point k value q h)

length-zero : (ss : List Serve) → nat_eq (length ss) 0 ≡ true → ss ≡ []
length-zero [] e = refl
length-zero (s ∷ ss) e = absurd (omega (arith, same-number (length (s ∷ ss)) 0 e))

pub serves-listed : (value : Names) (k : ℕ) (qs : List Point) (ss : List Serve) → Each (Named value) qs → serves_fit ss k qs ≡ true → map at_operand ss ≡ map use_operand (uses_from k qs)
serves-listed value k [] ss h e = ap (map at_operand) (length-zero ss e)
serves-listed value k (q ∷ qs) ss h e =
    let n = use_count (place_node q.place) in
    let p = and_parts (begins k n ss) (serves_fit (drop n ss) (suc k) qs) e in
    let b = and_parts (nat_le n (length ss)) (are_for k 0 (take n ss)) p.0 in
    let many = many-names q.place in
    let l : n ≤ length ss = leb-true n (length ss) b.0 in
    sym (take-drop n ss)
    ∙ ap (λ a. a ++ map at_operand (drop n ss)) (for-names k 0 value (operand_role (place_node q.place)) (names_of q.place) (take n ss) (take-length n ss l ∙ many) b.1)
    ∙ ap (λ a. map use_operand (made k 0 value (operand_role (place_node q.place)) (names_of q.place)) ++ a) (serves-listed value (suc k) qs (drop n ss) h.1 p.1)
    ∙ sym (uses-parts k value q qs h.0)

pub listed-serves : (value : Names) (k : ℕ) (qs : List Point) (ss : List Serve) → Each (Named value) qs → map at_operand ss ≡ map use_operand (uses_from k qs) → serves_fit ss k qs ≡ true
listed-serves value k [] [] h e = refl
listed-serves value k [] (s ∷ ss) h e = absurd (cc)
listed-serves value k (q ∷ qs) ss h e =
    let n = use_count (place_node q.place) in
    let w = begins-names k 0 value (operand_role (place_node q.place)) (names_of q.place) ss (map use_operand (uses_from (suc k) qs)) (e ∙ uses-parts k value q qs h.0) in
    let P : ℕ → Type 0 = λ m. (begins k m ss && serves_fit (drop m ss) (suc k) qs) ≡ true in
    subst P (sym (many-names q.place))
    (and_from (begins k (length (names_of q.place)) ss) (serves_fit (drop (length (names_of q.place)) ss) (suc k) qs)
    (and_from (nat_le (length (names_of q.place)) (length ss)) (are_for k 0 (take (length (names_of q.place)) ss)) (le-leb (length (names_of q.place)) (length ss) w.enough) w.are)
    (listed-serves value (suc k) qs (drop (length (names_of q.place)) ss) h.1 w.others))

-- ---- the uses that serves are for

-- a serve of this use's operand is for this use
abbrev pub Recovers : List Label → Use → Type 0
Recovers labels u = (s : Serve) → at_operand s ≡ use_operand u → found_use labels s ≡ u

abbrev use-for : List Label → ℕ → ℕ → Use
use-for labels k i = record { point = k; operand = i; value = value_in labels (operand_name (place_node (place_at labels k)) i); role = operand_role (place_node (place_at labels k)) i }

pub named-operand : (q : PointKind) (i : ℕ) → operand_name (place_node q) i ≡ slice_index_or (names_of q) i 0
named-operand (Entry l ps) i = refl
named-operand (At n) i = refl

recovers-made : (labels : List Label) (k i : ℕ) (q : PointKind) (xs : List ℕ) → place_at labels k ≡ q → ((d n : ℕ) → n ≡ i + d → slice_index_or (names_of q) n 0 ≡ slice_index_or xs d 0)
    → Each (Recovers labels) (made k i (value_in labels) (operand_role (place_node q)) xs)
recovers-made labels k i q [] e h = tt
recovers-made labels k i q (x ∷ xs) e h = (
  λ s f.
      ap (λ n. use-for labels n s.operand) (ap (λ p. p.0) f)
      ∙ ap (λ n. use-for labels k n) (ap (λ p. p.1) f)
      ∙ ap (λ w. record { point = k; operand = i; value = value_in labels (operand_name (place_node w) i); role = operand_role (place_node w) i }) e
      ∙ ap (λ y. record { point = k; operand = i; value = value_in labels y; role = operand_role (place_node q) i }) (named-operand q i ∙ h 0 i (omega arith)),
  recovers-made labels k (suc i) q xs e (λ d n g. h (suc d) n (omega arith)),
)

pub point-there : (labels : List Label) (k : ℕ) (q : Point) → slice_get (points labels) k ≡ Some q → point_at labels k ≡ q
point-there labels k q e = found-there (points labels) k e
  where
    found-there : (ps : List Point) (i : ℕ) → slice_get ps i ≡ Some q → slice_index_or ps i nowhere ≡ q
    found-there [] i f = absurd (cc)
    found-there (p ∷ ps) zero f = let g : p ≡ q = cc in g
    found-there (p ∷ ps) (suc i) f = found-there ps i f

pub named-at : (value : Names) (ps : List Point) (k : ℕ) (q : Point) → Each (Named value) ps → slice_get ps k ≡ Some q → Named value q
named-at value ps k q h e = each-at (Named value) ps k q h e

recovers-uses : (labels : List Label) → single labels ≡ true → Each (Recovers labels) (uses labels)
recovers-uses labels h =
    each-uses (Recovers labels) (points labels) 0
    (λ i m q e f.
    let here : m ≡ i = omega arith in
    let at : place_at labels m ≡ q.place = ap (λ n. place_at labels n) here ∙ ap (λ (w : Point). w.place) (point-there labels i q f) in
    let named = named-at (value_in labels) (points labels) i q (named-points labels h) f in
    let P : List Use → Type 0 = Each (Recovers labels) in
    subst P (sym (made-point m (value_in labels) q named)) (recovers-made labels m 0 q.place (names_of q.place) at (λ d n g. let same : n ≡ d = omega arith in ap (λ z. slice_index_or (names_of q.place) z 0) same)))

recovered : (labels : List Label) (ss : List Serve) (us : List Use) → Each (Recovers labels) us → map at_operand ss ≡ map use_operand us → map (found_use labels) ss ≡ us
recovered labels [] [] h e = refl
recovered labels [] (u ∷ us) h e = absurd (cc)
recovered labels (s ∷ ss) [] h e = absurd (cc)
recovered labels (s ∷ ss) (u ∷ us) h e =
    let first : at_operand s ≡ use_operand u = cc in
    let rest : map at_operand ss ≡ map use_operand us = cc in
    ap (λ a. a ∷ map (found_use labels) ss) (h.0 s first) ∙ ap (λ l. u ∷ l) (recovered labels ss us h.1 rest)

-- where the serves are those of the uses, they are found for the uses
pub found-uses : (labels : List Label) (p : Plan) → single labels ≡ true → map at_operand p.serves ≡ map use_operand (uses labels) → found labels p ≡ uses labels
found-uses labels p h e = recovered labels p.serves (uses labels) (recovers-uses labels h) e
