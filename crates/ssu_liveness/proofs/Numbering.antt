-- Along the points of a form in single use, values get numbers that differ wherever two are held.
use Rattle.std.proofs.Common.{◌≡◌, ℕ, zero, suc, ◌+◌, ◌<◌, ◌≤◌, Bool, true, false, ◌&&◌, ⊎_elim, Option, Some, None, List, [], ◌∷◌, ◌++◌, length, get_or, drop, refl, sym, ap, subst, ◌∙◌, append_assoc, arith}
use Rattle.std.specs.Prelude.{slice_get, map}
use Rattle.std.specs.List.{list_all, AllZip}
use Rattle.std.proofs.lemmas.List.{map-append, drop_more, drop_all}
use Rattle.std.proofs.lemmas.Bool.{and_parts, and_from, false≢true, false_from_ne_true, cases_Bool}
use Rattle.nv_base.specs.Sets.{is_in, all_different}
use Rattle.ssu_ir.specs.Tree.{Tree, Do, If, End, Label, step_values, step_clones, step_uses}
use Rattle.ssu_ir.specs.Points.{Names, own, names_after, used, PointKind, Entry, place_values, label_points, points_from, points, Point}
use Rattle.ssu_ir.specs.Single.{defined, all_defined, is_single, fresh_after, single}
use Rattle.ssu_liveness.specs.inner.Live.{root_row, tree_rows, labels_rows, value_by, source_among}
use Rattle.ssu_ir.specs.Slots.{bare_all}
use Rattle.ssu_ir.specs.View.{placed_of, labels_view}
use Rattle.ssu_liveness.specs.inner.PointIds.{tree_places, kind_of_point}
use Rattle.ssu_liveness.specs.declared.point_ids.PointId.{PointId}
use Rattle.ssu_ir.specs.declared.ssu.Ssu.{Ssu}
use Rattle.ssu_ir.proofs.Liveness.{in-left, in-right}
use Rattle.ssu_liveness.specs.LiveRows.{IsRow, Kept, items_of}
use Rattle.ssu_liveness.specs.inner.Numbers.{Numbers, HasBelow, Numbered, Group, row_at, group_row, groups, values_among, Chain}
use Rattle.ssu_liveness.specs.inner.Numbers as inner
use Rattle.ssu_liveness.proofs.Scoped.{Scope, scope-do, scope-first, scope-second, in-either, split-different, join-different}
use Rattle.ssu_liveness.proofs.SpotSteps.{places-of-points}
use Rattle.ssu_liveness.proofs.Kept.{row-from, row-to, Sourced, scope-of-label, sourced-tail, rows-of-whole, whole-parts}

-- a row of at most n values: those of another row that pass a test
pub record IsKept (keep : ℕ → Bool) (n : ℕ) (row whole : List ℕ) : Type 0 where
  pub members : (x : ℕ) → is_in x row ≡ (keep x && is_in x whole)
  pub short : length row ≤ n

-- the values of a row that pass a test have numbers below n, no two the same
pub record Spread (keep : ℕ → Bool) (n : ℕ) (row : List ℕ) (number : Numbers) : Type 0 where
  pub given : (x : ℕ) → keep x ≡ true → is_in x row ≡ true → HasBelow number x n
  pub apart : (x y m : ℕ) → keep x ≡ true → keep y ≡ true → is_in x row ≡ true → is_in y row ≡ true → (x ≡ y → ⊥) → number x ≡ Some m → number y ≡ Some m → ⊥

-- numbers that were given stay
pub record Keeps (old new : Numbers) : Type 0 where
  pub still : (z n : ℕ) → old z ≡ Some n → new z ≡ Some n

same-some : (m n : ℕ) (o : Option ℕ) → o ≡ Some m → o ≡ Some n → m ≡ n
same-some m n o e f = let both : Some m ≡ Some n = sym e ∙ f in cc

spread-along : (keep : ℕ → Bool) (n : ℕ) (row : List ℕ) (old new : Numbers) → Keeps old new → Spread keep n row old → Spread keep n row new
spread-along keep n row old new k s = record {
  given = λ x t h. let b = s.given x t h in record { it = b.it; has = k.still x b.it b.has; below = b.below };
  apart = λ x y m t u h i ne e f.
      let p = s.given x t h in
      let q = s.given y u i in
      let a = same-some p.it m (new x) (k.still x p.it p.has) e in
      let b = same-some q.it m (new y) (k.still y q.it q.has) f in
      s.apart x y m t u h i ne (p.has ∙ ap (λ j. Some j) a) (q.has ∙ ap (λ j. Some j) b);
}

spread-within : (keep : ℕ → Bool) (n : ℕ) (big small : List ℕ) (number : Numbers) → ((y : ℕ) → is_in y small ≡ true → is_in y big ≡ true) → Spread keep n big number → Spread keep n small number
spread-within keep n big small number h s = record {
  given = λ x t e. s.given x t (h x e);
  apart = λ x y m t u e f ne a b. s.apart x y m t u (h x e) (h y f) ne a b;
}

spread-nothing : (keep : ℕ → Bool) (n : ℕ) (number : Numbers) → Spread keep n [] number
spread-nothing keep n number = record { given = λ x t e. absurd (false≢true e); apart = λ x y m t u e f ne a b. false≢true e }

-- a group is numbered where what it doesn't define was in a row before
spread-over : (keep : ℕ → Bool) (n : ℕ) (vs here row whole : List ℕ) (old new : Numbers) → IsKept keep n row whole → Numbered old vs row new → ((y : ℕ) → is_in y whole ≡ true → is_in y vs ≡ false → is_in y here ≡ true) → Spread keep n here old → Spread keep n whole new
spread-over keep n vs here row whole old new k d came s =
    let inside : (y : ℕ) → keep y ≡ true → is_in y whole ≡ true → is_in y row ≡ true = λ y t h. k.members y ∙ and_from (keep y) (is_in y whole) t h in
    let raised : (y : ℕ) → HasBelow new y (length row) → HasBelow new y n = λ y b.
    let l : b.it < length row = b.below in
    let few : length row ≤ n = k.short in
    record { it = b.it; has = b.has; below = omega arith } in
    record {
      given = λ y t h. ⊎_elim
          (λ (v : is_in y vs ≡ true). raised y (d.given y v (inside y t h)))
          (λ (out : is_in y vs ≡ false). let b = s.given y t (came y h out) in record { it = b.it; has = d.still y b.it b.has; below = b.below })
          (cases_Bool (is_in y vs));
      apart = λ x y m t u h i ne e f. ⊎_elim
          (λ (v : is_in x vs ≡ true). d.apart x y m v (inside x t h) (inside y u i) ne e f)
          (λ (out : is_in x vs ≡ false). ⊎_elim
          (λ (w : is_in y vs ≡ true). d.apart y x m w (inside y u i) (inside x t h) (λ q. ne (sym q)) f e)
          (λ (out' : is_in y vs ≡ false). s.apart x y m t u (came x h out) (came y i out') ne (sym (d.kept x out) ∙ e) (sym (d.kept y out') ∙ f))
          (cases_Bool (is_in y vs)))
          (cases_Bool (is_in x vs));
    }

chain-keeps : (old new : Numbers) (gs : List Group) → Chain old gs new → Keeps old new
chain-keeps o w hs inner.last = record { still = λ z n e. e }
chain-keeps o w hs (inner.next {old} {new} mid {g} {gs} d c) = let k = chain-keeps mid new gs c in record { still = λ z n e. k.still z n (d.still z n e) }

-- what the chain asks first
record First (old new : Numbers) (g : Group) (gs : List Group) : Type 0 where
  mid : Numbers
  numbered : Numbered old g.0 g.1 mid
  rest : Chain mid gs new

first-of : (old new : Numbers) (hs : List Group) (g : Group) (gs : List Group) → hs ≡ g ∷ gs → Chain old hs new → First old new g gs
first-of o w hs g gs e inner.last = absurd (cc)
first-of o w hs h rest e (inner.next {old} {new} mid {g} {gs} d c) =
    let a : g ≡ h = cc in
    let b : gs ≡ rest = cc in
    record { mid = mid; numbered = subst (λ (q : Group). Numbered old q.0 q.1 mid) a d; rest = subst (λ (q : List Group). Chain mid q new) b c }

root-kept : (keep : ℕ → Bool) (n : ℕ) (of : Names) (t : Tree) (ws rows : List (List ℕ)) → AllZip (IsKept keep n) rows (tree_rows of t ++ ws) → IsKept keep n (row_at rows) (root_row of t)
root-kept keep n of (Do s t) ws [] z = absurd z
root-kept keep n of (Do s t) ws (r ∷ rows) z = z.0
root-kept keep n of (If c x y t u) ws [] z = absurd z
root-kept keep n of (If c x y t u) ws (r ∷ rows) z = z.0
root-kept keep n of (End l) ws [] z = absurd z
root-kept keep n of (End l) ws (r ∷ rows) z = z.0

-- the values of each of these rows that pass a test
pub record AllSpread (keep : ℕ → Bool) (n : ℕ) (number : Numbers) (rows : List (List ℕ)) : Type 0 where
  pub each : (row : List ℕ) → (i : ℕ) → slice_get rows i ≡ Some row → Spread keep n row number

all-spread-cons : (keep : ℕ → Bool) (n : ℕ) (number : Numbers) (row : List ℕ) (rows : List (List ℕ)) → Spread keep n row number → AllSpread keep n number rows → AllSpread keep n number (row ∷ rows)
all-spread-cons keep n number row rows a h = record { each = λ r i e. pick i r e }
  where
    pick : (i : ℕ) (r : List ℕ) → slice_get (row ∷ rows) i ≡ Some r → Spread keep n r number
    pick zero r e = let same : row ≡ r = cc in subst (λ (q : List ℕ). Spread keep n q number) same a
    pick (suc i) r e = h.each r i e

all-spread-append : (keep : ℕ → Bool) (n : ℕ) (number : Numbers) (a b : List (List ℕ)) → AllSpread keep n number a → AllSpread keep n number b → AllSpread keep n number (a ++ b)
all-spread-append keep n number [] b h g = g
all-spread-append keep n number (r ∷ a) b h g = all-spread-cons keep n number r (a ++ b) (h.each r zero refl) (all-spread-append keep n number a b (record { each = λ q i e. h.each q (suc i) e }) g)

-- after a tree, where these rows are still to come
record Behind (keep : ℕ → Bool) (n : ℕ) (value : Names) (t : Tree) (old new : Numbers) (qs : List PointKind) (ws : List (List ℕ)) : Type 0 where
  mid : Numbers
  rows : List (List ℕ)
  zip : AllZip (IsKept keep n) rows ws
  rest : Chain mid (groups qs rows) new
  keeps : Keeps old mid
  others : (z : ℕ) → is_in z (defined t) ≡ false → mid z ≡ old z
  spread : AllSpread keep n new (tree_rows value t)

numbers-of-tree : (keep : ℕ → Bool) (n : ℕ) (of value : Names) (above known fresh : List ℕ) (t : Tree) (qs : List PointKind) (ws rows : List (List ℕ)) (old new : Numbers) → Scope of value above known fresh t → AllZip (IsKept keep n) rows (tree_rows value t ++ ws)
    → Spread keep n (root_row value t) old → ((z : ℕ) → is_in z (defined t) ≡ true → old z ≡ None) → Chain old (groups (tree_places t ++ qs) rows) new → Behind keep n value t old new qs ws
numbers-of-tree keep n of value above known fresh (Do s t) qs ws [] old new c zip sp none chain = absurd zip
numbers-of-tree keep n of value above known fresh (Do s t) qs ws (r ∷ rs) old new c zip sp none chain =
    let vs = step_values s in
    let here = root_row value (Do s t) in
    let below = root_row value t in
    let first = first-of old new (groups (tree_places (Do s t) ++ qs) (r ∷ rs)) (vs, row_at rs) (groups (tree_places t ++ qs) rs) refl chain in
    let d = first.numbered in
    let mid = first.mid in
    let cs = scope-do of value above known fresh s t c in
    let split = split-different vs (step_clones s ++ defined t) c.once in
    let came : (y : ℕ) → is_in y below ≡ true → is_in y vs ≡ false → is_in y here ≡ true = λ y h out.
    let w = row-from (names_after of s) value (above ++ vs) (known ++ (vs ++ step_clones s)) (fresh_after fresh s) t y cs h in
    let up = ⊎_elim (λ (a : is_in y above ≡ true). a) (λ (v : is_in y vs ≡ true). absurd (false≢true (sym out ∙ v))) (in-either y above vs w.above_) in
    row-to of value above known fresh (Do s t) y c up (in-right y (map of (step_uses s)) (used (names_after of s) t) w.used_) in
    let next : Spread keep n below mid = spread-over keep n vs here (row_at rs) below old mid (root-kept keep n value t ws rs zip.1) d came sp in
    let rest-in : (z : ℕ) → is_in z (defined t) ≡ true → is_in z (step_clones s ++ defined t) ≡ true = λ z e. in-right z (step_clones s) (defined t) e in
    let none' : (z : ℕ) → is_in z (defined t) ≡ true → mid z ≡ None = λ z e.
    d.kept z (false_from_ne_true (is_in z vs) (λ v. split.2 z v (rest-in z e))) ∙ none z (in-right z vs (step_clones s ++ defined t) (rest-in z e)) in
    let b = numbers-of-tree keep n (names_after of s) value (above ++ vs) (known ++ (vs ++ step_clones s)) (fresh_after fresh s) t qs ws rs mid new cs zip.1 next none' first.rest in
    let k = chain-keeps old new (groups (tree_places (Do s t) ++ qs) (r ∷ rs)) chain in
    record {
      mid = b.mid;
      rows = b.rows;
      zip = b.zip;
      rest = b.rest;
      keeps = record { still = λ z m e. b.keeps.still z m (d.still z m e) };
      others = λ z e.
          b.others z (false_from_ne_true (is_in z (defined t)) (λ f. false≢true (sym e ∙ in-right z vs (step_clones s ++ defined t) (rest-in z f))))
          ∙ d.kept z (false_from_ne_true (is_in z vs) (λ f. false≢true (sym e ∙ in-left z vs (step_clones s ++ defined t) f)));
      spread = all-spread-cons keep n new here (tree_rows value t) (spread-along keep n here old new k sp) b.spread;
    }
numbers-of-tree keep n of value above known fresh (If q v w t u) qs ws [] old new c zip sp none chain = absurd zip
numbers-of-tree keep n of value above known fresh (If q v w t u) qs ws (r ∷ rs) old new c zip sp none chain =
    let here = root_row value (If q v w t u) in
    let pt = tree_places t in
    let pu = tree_places u in
    let rt = tree_rows value t in
    let ru = tree_rows value u in
    let first = first-of old new (groups (tree_places (If q v w t u) ++ qs) (r ∷ rs)) ([], row_at rs) (groups ((pt ++ pu) ++ qs) rs) refl chain in
    let d = first.numbered in
    let c1 = scope-first of value above known fresh q v w t u c in
    let c2 = scope-second of value above known fresh q v w t u c in
    let split = split-different (defined t) (defined u) c.once in
    let came1 : (y : ℕ) → is_in y (root_row value t) ≡ true → is_in y here ≡ true = λ y h.
    let k = row-from of value above known [] t y c1 h in
    row-to of value above known fresh (If q v w t u) y c k.above_ (in-right y (map of (v ∷ w ∷ [])) (used of t ++ used of u) (in-left y (used of t) (used of u) k.used_)) in
    let came2 : (y : ℕ) → is_in y (root_row value u) ≡ true → is_in y here ≡ true = λ y h.
    let k = row-from of value above known [] u y c2 h in
    row-to of value above known fresh (If q v w t u) y c k.above_ (in-right y (map of (v ∷ w ∷ [])) (used of t ++ used of u) (in-right y (used of t) (used of u) k.used_)) in
    let k0 : Keeps old first.mid = record { still = d.still } in
    let arms : AllZip (IsKept keep n) rs (rt ++ (ru ++ ws)) = subst (λ (ls : List (List ℕ)). AllZip (IsKept keep n) rs ls) (append_assoc rt ru ws) zip.1 in
    let b1 = numbers-of-tree keep n of value above known [] t (pu ++ qs) (ru ++ ws) rs first.mid new c1 arms
    (spread-along keep n (root_row value t) old first.mid k0 (spread-within keep n here (root_row value t) old came1 sp))
    (λ z e. d.kept z refl ∙ none z (in-left z (defined t) (defined u) e))
    (subst (λ (ps : List PointKind). Chain first.mid (groups ps rs) new) (append_assoc pt pu qs) first.rest) in
    let k1 : Keeps old b1.mid = record { still = λ z m e. b1.keeps.still z m (d.still z m e) } in
    let b2 = numbers-of-tree keep n of value above known [] u qs ws b1.rows b1.mid new c2 b1.zip
    (spread-along keep n (root_row value u) old b1.mid k1 (spread-within keep n here (root_row value u) old came2 sp))
    (λ z e. b1.others z (false_from_ne_true (is_in z (defined t)) (λ f. split.2 z f e)) ∙ d.kept z refl ∙ none z (in-right z (defined t) (defined u) e))
    b1.rest in
    let k = chain-keeps old new (groups (tree_places (If q v w t u) ++ qs) (r ∷ rs)) chain in
    record {
      mid = b2.mid;
      rows = b2.rows;
      zip = b2.zip;
      rest = b2.rest;
      keeps = record { still = λ z m e. b2.keeps.still z m (k1.still z m e) };
      others = λ z e.
          b2.others z (false_from_ne_true (is_in z (defined u)) (λ f. false≢true (sym e ∙ in-right z (defined t) (defined u) f)))
          ∙ b1.others z (false_from_ne_true (is_in z (defined t)) (λ f. false≢true (sym e ∙ in-left z (defined t) (defined u) f)))
          ∙ d.kept z refl;
      spread = all-spread-cons keep n new here (rt ++ ru) (spread-along keep n here old new k sp) (all-spread-append keep n new rt ru b1.spread b2.spread);
    }
numbers-of-tree keep n of value above known fresh (End l) qs ws [] old new c zip sp none chain = absurd zip
numbers-of-tree keep n of value above known fresh (End l) qs ws (r ∷ rs) old new c zip sp none chain =
    let here = root_row value (End l) in
    let first = first-of old new (groups (tree_places (End l) ++ qs) (r ∷ rs)) ([], row_at rs) (groups qs rs) refl chain in
    let d = first.numbered in
    let k = chain-keeps old new (groups (tree_places (End l) ++ qs) (r ∷ rs)) chain in
    record {
      mid = first.mid;
      rows = rs;
      zip = zip.1;
      rest = first.rest;
      keeps = record { still = d.still };
      others = λ z e. d.kept z refl;
      spread = all-spread-cons keep n new here [] (spread-along keep n here old new k sp) (record { each = λ q i e. absurd (cc) });
    }

-- ---- labels

abbrev pub labels_places : ℕ → List Label → List PointKind
labels_places k [] = []
labels_places k (l ∷ ls) = Entry k l.params ∷ (tree_places l.body ++ labels_places (suc k) ls)

pub places-of-labels : (k : ℕ) (ls : List Label) → map (λ p. p.place) (points_from k ls) ≡ labels_places k ls
places-of-labels k [] = refl
places-of-labels k (l ∷ ls) =
    map-append (λ p. p.place) (label_points k l) (points_from (suc k) ls)
    ∙ ap (λ m. Entry k l.params ∷ (m ++ map (λ p. p.place) (points_from (suc k) ls))) (places-of-points own l.params l.body)
    ∙ ap (λ m. Entry k l.params ∷ (tree_places l.body ++ m)) (places-of-labels (suc k) ls)

numbers-of-labels : (keep : ℕ → Bool) (n : ℕ) (labels : List Label) (value : Names) (k : ℕ) (ls : List Label) (rows : List (List ℕ)) (old new : Numbers) → list_all (is_single labels) ls ≡ true → all_different (all_defined ls) ≡ true → Sourced value ls → AllZip (IsKept keep n) rows (labels_rows value ls)
    → ((z : ℕ) → is_in z (all_defined ls) ≡ true → old z ≡ None) → Chain old (groups (labels_places k ls) rows) new → AllSpread keep n new (labels_rows value ls)
numbers-of-labels keep n labels value k [] rows old new a dd h zip none chain = record { each = λ r i e. absurd (cc) }
numbers-of-labels keep n labels value k (l ∷ ls) [] old new a dd h zip none chain = absurd zip
numbers-of-labels keep n labels value k (l ∷ ls) (r ∷ rs) old new a dd h zip none chain =
    let p = and_parts (is_single labels l) (list_all (is_single labels) ls) a in
    let s1 = split-different l.params (defined l.body ++ all_defined ls) dd in
    let s2 = split-different (defined l.body) (all_defined ls) s1.1 in
    let c = scope-of-label labels value l ls p.0 dd h in
    let qs = labels_places (suc k) ls in
    let ws = labels_rows value ls in
    let first = first-of old new (groups (labels_places k (l ∷ ls)) (r ∷ rs)) (l.params, r) (groups (tree_places l.body ++ qs) rs) refl chain in
    let d = first.numbered in
    let sp : Spread keep n l.params first.mid = spread-over keep n l.params [] r l.params old first.mid zip.0 d (λ y e out. absurd (false≢true (sym out ∙ e))) (spread-nothing keep n old) in
    let within : (y : ℕ) → is_in y (root_row value l.body) ≡ true → is_in y l.params ≡ true = λ y e. (row-from own value l.params l.params l.params l.body y c e).above_ in
    let b = numbers-of-tree keep n own value l.params l.params l.params l.body qs ws rs first.mid new c zip.1 (spread-within keep n l.params (root_row value l.body) first.mid within sp)
    (λ z e. d.kept z (false_from_ne_true (is_in z l.params) (λ f. s1.2 z f (in-left z (defined l.body) (all_defined ls) e))) ∙ none z (in-right z l.params (defined l.body ++ all_defined ls) (in-left z (defined l.body) (all_defined ls) e)))
    first.rest in
    let rest = numbers-of-labels keep n labels value (suc k) ls b.rows b.mid new p.1 s2.1 (sourced-tail value l ls dd h) b.zip
    (λ z e.
    b.others z (false_from_ne_true (is_in z (defined l.body)) (λ f. s2.2 z f e))
    ∙ d.kept z (false_from_ne_true (is_in z l.params) (λ f. s1.2 z f (in-right z (defined l.body) (all_defined ls) e)))
    ∙ none z (in-right z l.params (defined l.body ++ all_defined ls) (in-right z (defined l.body) (all_defined ls) e)))
    b.rest in
    let k1 : Keeps first.mid new = chain-keeps first.mid new (groups (tree_places l.body ++ qs) rs) first.rest in
    all-spread-cons keep n new l.params (tree_rows value l.body ++ ws) (spread-along keep n l.params first.mid new k1 sp) (all-spread-append keep n new (tree_rows value l.body) ws b.spread rest)

-- ---- over all points, one by one

pub record Giving (s : Ssu) (point_ids : List PointId) (rows : List Kept) (k : ℕ) (old now : Numbers) : Type 0 where
  pub chain : (new : Numbers) → Chain now (groups (map (kind_of_point s) (drop k point_ids)) (items_of (drop k rows))) new → Chain old (groups (map (kind_of_point s) point_ids) (items_of rows)) new
  pub once : all_different (values_among (map (kind_of_point s) (drop k point_ids))) ≡ true
  pub fresh : (z : ℕ) → is_in z (values_among (map (kind_of_point s) (drop k point_ids))) ≡ true → now z ≡ None

pub giving-none : (s : Ssu) (point_ids : List PointId) (rows : List Kept) (old : Numbers) → all_different (values_among (map (kind_of_point s) point_ids)) ≡ true → ((z : ℕ) → old z ≡ None) → Giving s point_ids rows 0 old old
giving-none s point_ids rows old d none = record { chain = λ new c. c; once = d; fresh = λ z e. none z }

pub first-point_id : (point_ids : List PointId) (k : ℕ) (x : PointId) → k < length point_ids → x ≡ get_or point_ids k x → drop k point_ids ≡ x ∷ drop (k + 1) point_ids
first-point_id point_ids k x l e = drop_more point_ids k x l ∙ ap (λ (y : PointId). y ∷ drop (k + 1) point_ids) (sym e)

pub giving-once : (s : Ssu) (point_ids : List PointId) (rows : List Kept) (k : ℕ) (old now : Numbers) (x : PointId) → k < length point_ids → x ≡ get_or point_ids k x → Giving s point_ids rows k old now → all_different (place_values (kind_of_point s x)) ≡ true
giving-once s point_ids rows k old now x l e g =
    (split-different (place_values (kind_of_point s x)) (values_among (map (kind_of_point s) (drop (k + 1) point_ids))) (subst (λ (ys : List PointId). all_different (values_among (map (kind_of_point s) ys)) ≡ true) (first-point_id point_ids k x l e) g.once)).0

pub giving-fresh : (s : Ssu) (point_ids : List PointId) (rows : List Kept) (k : ℕ) (old now : Numbers) (x : PointId) → k < length point_ids → x ≡ get_or point_ids k x → Giving s point_ids rows k old now → (z : ℕ) → is_in z (place_values (kind_of_point s x)) ≡ true → now z ≡ None
giving-fresh s point_ids rows k old now x l e g z h =
    g.fresh z (subst (λ (ys : List PointId). is_in z (values_among (map (kind_of_point s) ys)) ≡ true) (sym (first-point_id point_ids k x l e)) (in-left z (place_values (kind_of_point s x)) (values_among (map (kind_of_point s) (drop (k + 1) point_ids))) h))

some-row : (rows : List Kept) (k : ℕ) → k < length rows → (r : Kept) × (drop k rows ≡ r ∷ drop (k + 1) rows)
some-row [] k l = absurd (omega arith)
some-row (r ∷ rows) zero l = (r, refl)
some-row (r ∷ rows) (suc k) l =
    let w = some-row rows k (omega arith) in
    let e : suc (k + 1) ≡ suc k + 1 = omega arith in
    (w.0, w.1 ∙ ap (λ n. w.0 ∷ drop n (r ∷ rows)) e)

pub giving-more : (s : Ssu) (point_ids : List PointId) (rows : List Kept) (k : ℕ) (old now later : Numbers) (x : PointId) → k < length point_ids → x ≡ get_or point_ids k x → length rows ≡ length point_ids
    → Numbered now (place_values (kind_of_point s x)) (group_row (kind_of_point s x) (row_at (items_of (drop k rows))) (items_of (drop (k + 1) rows))) later → Giving s point_ids rows k old now → Giving s point_ids rows (k + 1) old later
giving-more s point_ids rows k old now later x l e w d g =
    let first = first-point_id point_ids k x l e in
    let row = some-row rows k (omega arith) in
    let vs = place_values (kind_of_point s x) in
    let rest = values_among (map (kind_of_point s) (drop (k + 1) point_ids)) in
    let split = split-different vs rest (subst (λ (ys : List PointId). all_different (values_among (map (kind_of_point s) ys)) ≡ true) first g.once) in
    let d' : Numbered now vs (group_row (kind_of_point s x) row.0.items (items_of (drop (k + 1) rows))) later =
    subst (λ (q : List Kept). Numbered now vs (group_row (kind_of_point s x) (row_at (items_of q)) (items_of (drop (k + 1) rows))) later) row.1 d in
    record {
      chain = λ new c. g.chain new
          (subst (λ (ys : List PointId). Chain now (groups (map (kind_of_point s) ys) (items_of (drop k rows))) new) (sym first)
          (subst (λ (q : List Kept). Chain now (groups (map (kind_of_point s) (x ∷ drop (k + 1) point_ids)) (items_of q)) new) (sym row.1) (inner.next later d' c)));
      once = split.1;
      fresh = λ z h.
          d.kept z (false_from_ne_true (is_in z vs) (λ f. split.2 z f h))
          ∙ g.fresh z (subst (λ (ys : List PointId). is_in z (values_among (map (kind_of_point s) ys)) ≡ true) (sym first) (in-right z vs rest h));
    }

pub giving-all : (s : Ssu) (point_ids : List PointId) (rows : List Kept) (k : ℕ) (old now : Numbers) → length point_ids ≤ k → ((z : ℕ) → old z ≡ None) → Giving s point_ids rows k old now → inner.AreNumbered (groups (map (kind_of_point s) point_ids) (items_of rows)) now
giving-all s point_ids rows k old now l none g = record {
  old = old;
  none = none;
  chain = g.chain now (subst (λ (ys : List PointId). Chain now (groups (map (kind_of_point s) ys) (items_of (drop k rows))) now) (sym (drop_all k point_ids l)) inner.last);
}

-- ---- the values of a form in single use are different

pub values_among-append : (a b : List PointKind) → values_among (a ++ b) ≡ values_among a ++ values_among b
values_among-append [] b = refl
values_among-append (q ∷ a) b = ap (λ l. place_values q ++ l) (values_among-append a b) ∙ sym (append_assoc (place_values q) (values_among a) (values_among b))

defined-value : (t : Tree) (z : ℕ) → is_in z (values_among (tree_places t)) ≡ true → is_in z (defined t) ≡ true
defined-value (Do s t) z e = ⊎_elim
    (λ (a : is_in z (step_values s) ≡ true). in-left z (step_values s) (step_clones s ++ defined t) a)
    (λ (b : is_in z (values_among (tree_places t)) ≡ true). in-right z (step_values s) (step_clones s ++ defined t) (in-right z (step_clones s) (defined t) (defined-value t z b)))
    (in-either z (step_values s) (values_among (tree_places t)) e)
defined-value (If c x y t u) z e = ⊎_elim
    (λ (a : is_in z (values_among (tree_places t)) ≡ true). in-left z (defined t) (defined u) (defined-value t z a))
    (λ (b : is_in z (values_among (tree_places u)) ≡ true). in-right z (defined t) (defined u) (defined-value u z b))
    (in-either z (values_among (tree_places t)) (values_among (tree_places u)) (ap (λ l. is_in z l) (sym (values_among-append (tree_places t) (tree_places u))) ∙ e))
defined-value (End l) z e = absurd (false≢true e)

different-values : (t : Tree) → all_different (defined t) ≡ true → all_different (values_among (tree_places t)) ≡ true
different-values (Do s t) h =
    let p = split-different (step_values s) (step_clones s ++ defined t) h in
    let q = split-different (step_clones s) (defined t) p.1 in
    join-different (step_values s) (values_among (tree_places t)) p.0 (different-values t q.1)
    (λ z e f. p.2 z e (in-right z (step_clones s) (defined t) (defined-value t z f)))
different-values (If c x y t u) h =
    let p = split-different (defined t) (defined u) h in
    ap (λ l. all_different l) (values_among-append (tree_places t) (tree_places u))
    ∙ join-different (values_among (tree_places t)) (values_among (tree_places u)) (different-values t p.0) (different-values u p.1)
    (λ z e f. p.2 z (defined-value t z e) (defined-value u z f))
different-values (End l) h = refl

labels-value : (k : ℕ) (ls : List Label) (z : ℕ) → is_in z (values_among (labels_places k ls)) ≡ true → is_in z (all_defined ls) ≡ true
labels-value k [] z e = absurd (false≢true e)
labels-value k (l ∷ ls) z e = ⊎_elim
    (λ (a : is_in z l.params ≡ true). in-left z l.params (defined l.body ++ all_defined ls) a)
    (λ (b : is_in z (values_among (tree_places l.body ++ labels_places (suc k) ls)) ≡ true). in-right z l.params (defined l.body ++ all_defined ls) (⊎_elim
    (λ (p : is_in z (values_among (tree_places l.body)) ≡ true). in-left z (defined l.body) (all_defined ls) (defined-value l.body z p))
    (λ (q : is_in z (values_among (labels_places (suc k) ls)) ≡ true). in-right z (defined l.body) (all_defined ls) (labels-value (suc k) ls z q))
    (in-either z (values_among (tree_places l.body)) (values_among (labels_places (suc k) ls)) (ap (λ m. is_in z m) (sym (values_among-append (tree_places l.body) (labels_places (suc k) ls))) ∙ b))))
    (in-either z l.params (values_among (tree_places l.body ++ labels_places (suc k) ls)) e)

pub different-labels : (k : ℕ) (ls : List Label) → all_different (all_defined ls) ≡ true → all_different (values_among (labels_places k ls)) ≡ true
different-labels k [] h = refl
different-labels k (l ∷ ls) h =
    let p = split-different l.params (defined l.body ++ all_defined ls) h in
    let q = split-different (defined l.body) (all_defined ls) p.1 in
    let rest = values_among-append (tree_places l.body) (labels_places (suc k) ls) in
    let inside : all_different (values_among (tree_places l.body ++ labels_places (suc k) ls)) ≡ true =
    ap (λ m. all_different m) rest ∙ join-different (values_among (tree_places l.body)) (values_among (labels_places (suc k) ls)) (different-values l.body q.0) (different-labels (suc k) ls q.1)
    (λ z e f. q.2 z (defined-value l.body z e) (labels-value (suc k) ls z f)) in
    join-different l.params (values_among (tree_places l.body ++ labels_places (suc k) ls)) p.0 inside
    (λ z e f. p.2 z e (⊎_elim
    (λ (a : is_in z (values_among (tree_places l.body)) ≡ true). in-left z (defined l.body) (all_defined ls) (defined-value l.body z a))
    (λ (b : is_in z (values_among (labels_places (suc k) ls)) ≡ true). in-right z (defined l.body) (all_defined ls) (labels-value (suc k) ls z b))
    (in-either z (values_among (tree_places l.body)) (values_among (labels_places (suc k) ls)) (ap (λ m. is_in z m) (sym rest) ∙ f))))

-- ---- what the numbers of all points are good for

zip-get : (rows : List (List ℕ)) (ps : List Point) (k : ℕ) (q : Point) → AllZip IsRow rows ps → slice_get ps k ≡ Some q → (row : List ℕ) × (slice_get rows k ≡ Some row) × IsRow row q
zip-get [] [] k q h e = absurd (cc)
zip-get [] (p ∷ ps) k q h e = absurd h
zip-get (r ∷ rows) [] k q h e = absurd h
zip-get (r ∷ rows) (p ∷ ps) zero q h e = let same : p ≡ q = cc in (r, refl, subst (λ (w : Point). IsRow r w) same h.0)
zip-get (r ∷ rows) (p ∷ ps) (suc k) q h e = zip-get rows ps k q h.1 e

-- those live values at a point and pass a test have numbers below n, no two the same, where rows of at most n of them were numbered
pub numbers-spread : (keep : ℕ → Bool) (n : ℕ) (s : Ssu) (source : ℕ → Option ℕ) (number : Numbers) (rows : List (List ℕ)) → single (labels_view s) ≡ true → ((z : ℕ) → source z ≡ source_among (bare_all (placed_of s)) z)
    → AllZip (IsKept keep n) rows (labels_rows (value_by source) (labels_view s)) → inner.AreNumbered (groups (map (λ p. p.place) (points (labels_view s))) rows) number
    → (k : ℕ) (q : Point) → slice_get (points (labels_view s)) k ≡ Some q → Spread keep n q.before number
numbers-spread keep n s source number rows h e zip a k q f =
    let view = labels_view s in
    let value = value_by source in
    let whole = rows-of-whole s source (labels_rows value view) h e refl in
    let w = whole-parts s source h e in
    let chain : Chain a.old (groups (labels_places 0 view) rows) number = subst (λ (ps : List PointKind). Chain a.old (groups ps rows) number) (places-of-labels 0 view) a.chain in
    let all' = numbers-of-labels keep n view value 0 view rows a.old number w.singles w.different w.sourced zip (λ z d. a.none z) chain in
    let at = zip-get (labels_rows value view) (points view) k q whole f in
    spread-within keep n at.0 q.before number (λ y d. at.2.members y ∙ d) (all'.each at.0 k at.1)
