-- Rows of reads: what is held after a read is live at the next point.
use Rattle.std.proofs.Common.{◌≡◌, ℕ, zero, suc, ◌+◌, ◌<◌, ◌≤◌, Bool, true, false, if◌then◌else◌, List, [], ◌∷◌, ◌++◌, map, length, drop, get_or, refl, sym, ap, subst, ◌∙◌, append_assoc, arith, pos, neg_ℤ}
use Rattle.std.specs.List.{flat_map, AllZip}
use Rattle.std.proofs.lemmas.Bool.{false≢true}
use Rattle.std.proofs.lemmas.List.{at_drop_more, at_drop_all, append-nil, drop_all, map-append}
use Rattle.nv_base.specs.Sets.{is_in, all_different, Within, without}
use Rattle.zo_model.specs.declared.program.Row.{Row}
use Rattle.zo_model.specs.Contents.{RowContents, row_contents}
use Rattle.ssu_ir.specs.Tree.{Lit, Una, Bin, Clone, Read, Write, Tree, Do, If, End, Label, Does, Forks, Ends, step_values}
use Rattle.ssu_ir.specs.Points.{Names, own, names_after, live_of, PointKind, Entry, At, Point, tree_points, points_from, points}
use Rattle.ssu_liveness.specs.LiveRows.{Kept, IsRow, items_of}
use Rattle.place_plan.specs.Uses as pure
use Rattle.place_plan.specs.Uses.{reads_at}
use Rattle.place_plan.specs.Fits.{point_values}
use Rattle.bank_prog_form.specs.declared.column.Column.{Column}
use Rattle.bank_prog_form.specs.Columns.{each_point, eight}
use Rattle.bank_prog_form.specs.Rows.{at_most, stays_at, covering, is_sdram, access_owners, fill_owners}
use Rattle.bank_prog_form.specs.Program.{Numbers, row_of}
use Rattle.bank_prog_form.specs.inner.Adds.{Adds, add_each}
use Rattle.bank_prog_form.specs.inner.Form as form
use Rattle.bank_prog_form.specs.inner.Form.{Part, part_of}
use Rattle.bank_prog_form.specs.inner.Owners.{value_stays, other, part_fills, first_row, rest, fills}
use Rattle.bank_prog_form.proofs.RowTerms.{terms-alone}
use Rattle.bank_prog_form.proofs.Order.{ordered, each-append}

-- ---- the loop

pub rest-drop : (j : ℕ) (vs : List Kept) → rest (items_of (drop j vs)) ≡ items_of (drop (j + 1) vs)
rest-drop zero [] = refl
rest-drop zero (v ∷ vs) = refl
rest-drop (suc j) [] = ap items_of (sym (drop_all (suc j + 1) [] (omega arith)))
rest-drop (suc j) (v ∷ vs) = let n : suc j + 1 ≡ suc (j + 1) = omega arith in rest-drop j vs ∙ ap (λ m. items_of (drop m (v ∷ vs))) (sym n)

pub fills-more : {V : Type 0} (number : Numbers) (labels : List Label) (view : V → Part) (xs : List V) (i : ℕ) (d : V) (now : List (List ℕ)) (rows rows' : List Row) (goal : List RowContents) → i < length xs
    → Adds number rows rows' (part_fills labels (view (get_or xs i d)) (first_row now)) → map row_contents rows ++ map (row_of number) (fills labels (map view (drop i xs)) now) ≡ goal
    → map row_contents rows' ++ map (row_of number) (fills labels (map view (drop (i + 1) xs)) (rest now)) ≡ goal
fills-more number labels view xs i d now rows rows' goal l e h =
    let here = part_fills labels (view (get_or xs i d)) (first_row now) in
    let later = fills labels (map view (drop (i + 1) xs)) (rest now) in
    ap (λ o. o ++ map (row_of number) later) e ∙ append_assoc (map row_contents rows) (map (row_of number) here) (map (row_of number) later)
    ∙ ap (λ o. map row_contents rows ++ o) (sym (map-append (row_of number) here later))
    ∙ sym (at_drop_more (λ ys. map row_contents rows ++ map (row_of number) (fills labels (map view ys) now)) xs i d l) ∙ h

pub fills-all : {V : Type 0} (number : Numbers) (labels : List Label) (view : V → Part) (xs : List V) (i : ℕ) (now : List (List ℕ)) (rows : List Row) (goal : List RowContents) → length xs ≤ i
    → map row_contents rows ++ map (row_of number) (fills labels (map view (drop i xs)) now) ≡ goal → map row_contents rows ≡ goal
fills-all number labels view xs i now rows goal l h =
    sym (append-nil (map row_contents rows)) ∙ sym (at_drop_all (λ ys. map row_contents rows ++ map (row_of number) (fills labels (map view ys) now)) xs i l) ∙ h

-- ---- what is held after a read

abbrev pub is_read : PointKind → Bool
is_read (Entry l ps) = false
is_read (At (Does (Lit x v))) = false
is_read (At (Does (Una x op y))) = false
is_read (At (Does (Bin x op y z))) = false
is_read (At (Does (Clone xs y))) = false
is_read (At (Does (Read m xs y))) = true
is_read (At (Does (Write m y xs))) = false
is_read (At (Forks c x y)) = false
is_read (At (Ends l)) = false

abbrev pub After : List ℕ → List Point → Type 0
After after [] = ⊥
After after (q ∷ ps) = after ≡ q.before

abbrev pub Chained : List Point → Type 0
Chained [] = Unit {0}
Chained (q ∷ ps) = (is_read q.place ≡ true → After q.after ps) × Chained ps

head-after : (of : Names) (above : List ℕ) (t : Tree) (ps : List Point) → After (live_of of above t) (tree_points of above t ++ ps)
head-after of above (Do s t) ps = refl
head-after of above (If c x y t u) ps = refl
head-after of above (End l) ps = refl

tree-chained : (of : Names) (above : List ℕ) (t : Tree) (ps : List Point) → Chained ps → Chained (tree_points of above t ++ ps)
tree-chained of above (Do s t) ps h = ((λ e. head-after (names_after of s) (above ++ step_values s) t ps), tree-chained (names_after of s) (above ++ step_values s) t ps h)
tree-chained of above (If c x y t u) ps h = (
  (λ e. absurd (false≢true e)),
  subst Chained (sym (append_assoc (tree_points of above t) (tree_points of above u) ps)) (tree-chained of above t (tree_points of above u ++ ps) (tree-chained of above u ps h)),
)
tree-chained of above (End l) ps h = ((λ e. absurd (false≢true e)), h)

pub labels-chained : (k : ℕ) (ls : List Label) → Chained (points_from k ls)
labels-chained k [] = tt
labels-chained k (l ∷ ls) = ((λ e. absurd (false≢true e)), tree-chained own l.params l.body (points_from (suc k) ls) (labels-chained (suc k) ls))

-- ---- without the values of the read

gone-flat : (g : ℕ → List Column) (gone xs : List ℕ) → flat_map g (flat_map (other gone) xs) ≡ flat_map (λ x. if is_in x gone then [] else g x) xs
gone-flat g gone [] = refl
gone-flat g gone (x ∷ xs) = pick (is_in x gone) (gone-flat g gone xs)
  where
    pick : (b : Bool) → flat_map g (flat_map (other gone) xs) ≡ flat_map (λ x. if is_in x gone then [] else g x) xs
        → flat_map g ((if b then [] else x ∷ []) ++ flat_map (other gone) xs) ≡ (if b then [] else g x) ++ flat_map (λ x. if is_in x gone then [] else g x) xs
    pick true h = h
    pick false h = ap (λ ys. g x ++ ys) h

gone-without : (g : ℕ → List Column) (gone xs : List ℕ) → flat_map g (without xs gone) ≡ flat_map (λ x. if is_in x gone then [] else g x) xs
gone-without g gone [] = refl
gone-without g gone (x ∷ xs) = pick (is_in x gone) (gone-without g gone xs)
  where
    pick : (b : Bool) → flat_map g (without xs gone) ≡ flat_map (λ x. if is_in x gone then [] else g x) xs
        → flat_map g (if b then without xs gone else x ∷ without xs gone) ≡ (if b then [] else g x) ++ flat_map (λ x. if is_in x gone then [] else g x) xs
    pick true h = h
    pick false h = ap (λ ys. g x ++ ys) h

-- a row has these values, each once
pub record Similar (row xs : List ℕ) : Type 0 where
  pub once : all_different row ≡ true
  pub within : Within row xs
  pub count : length xs ≡ length row

owner-same : (number : Numbers) (labels : List Label) (gone row xs : List ℕ) (a : pure.Access) (r : ℕ) → Similar row xs
    → row_of number (at_most 1 (stays_at labels (is_sdram a.mem) r (flat_map (other gone) row) ++ covering r a)) ≡ row_of number (at_most 1 (stays_at labels (is_sdram a.mem) r (without xs gone) ++ covering r a))
owner-same number labels gone row xs a r h =
    let m = neg_ℤ (pos 1) in
    let g = value_stays labels (is_sdram a.mem) r in
    let g' = λ (x : ℕ). if is_in x gone then [] else g x in
    let more = covering r a in
    ap (λ cs. row_of number (at_most 1 (cs ++ more))) (gone-flat g gone row)
    ∙ ap (λ ts. record { terms = ts; least = m })
    (terms-alone number m (flat_map g' row ++ more) ∙ each-append number m (flat_map g' row) more [] ∙ ordered number m g' row xs (add_each number m more []) h.once h.within h.count
    ∙ sym (each-append number m (flat_map g' xs) more []) ∙ sym (terms-alone number m (flat_map g' xs ++ more)))
    ∙ ap (λ cs. row_of number (at_most 1 (cs ++ more))) (sym (gone-without g gone xs))

access-same : (number : Numbers) (labels : List Label) (gone row xs : List ℕ) (a : pure.Access) (rs : List ℕ) → Similar row xs
    → map (row_of number) (map (λ r. at_most 1 (stays_at labels (is_sdram a.mem) r (flat_map (other gone) row) ++ covering r a)) rs)
    ≡ map (row_of number) (map (λ r. at_most 1 (stays_at labels (is_sdram a.mem) r (without xs gone) ++ covering r a)) rs)
access-same number labels gone row xs a [] h = refl
access-same number labels gone row xs a (r ∷ rs) h =
    ap (λ z. z ∷ map (row_of number) (map (λ r. at_most 1 (stays_at labels (is_sdram a.mem) r (flat_map (other gone) row) ++ covering r a)) rs)) (owner-same number labels gone row xs a r h)
    ∙ ap (λ zs. row_of number (at_most 1 (stays_at labels (is_sdram a.mem) r (without xs gone) ++ covering r a)) ∷ zs) (access-same number labels gone row xs a rs h)

reads-same : (number : Numbers) (labels : List Label) (gone row xs : List ℕ) (as' : List pure.Access) → Similar row xs
    → map (row_of number) (flat_map (access_owners labels (flat_map (other gone) row)) as') ≡ map (row_of number) (flat_map (access_owners labels (without xs gone)) as')
reads-same number labels gone row xs [] h = refl
reads-same number labels gone row xs (a ∷ as') h =
    map-append (row_of number) (access_owners labels (flat_map (other gone) row) a) (flat_map (access_owners labels (flat_map (other gone) row)) as')
    ∙ ap (λ zs. zs ++ map (row_of number) (flat_map (access_owners labels (flat_map (other gone) row)) as')) (access-same number labels gone row xs a eight h)
    ∙ ap (λ zs. map (row_of number) (access_owners labels (without xs gone) a) ++ zs) (reads-same number labels gone row xs as' h)
    ∙ sym (map-append (row_of number) (access_owners labels (without xs gone) a) (flat_map (access_owners labels (without xs gone)) as'))

place-same : (number : Numbers) (labels : List Label) (k : ℕ) (gone row xs : List ℕ) (q : PointKind) → (is_read q ≡ true → Similar row xs)
    → map (row_of number) (flat_map (access_owners labels (flat_map (other gone) row)) (reads_at k q)) ≡ map (row_of number) (flat_map (access_owners labels (without xs gone)) (reads_at k q))
place-same number labels k gone row xs (Entry l ps) h = refl
place-same number labels k gone row xs (At (Does (Lit x v))) h = refl
place-same number labels k gone row xs (At (Does (Una x op y))) h = refl
place-same number labels k gone row xs (At (Does (Bin x op y z))) h = refl
place-same number labels k gone row xs (At (Does (Clone ys y))) h = refl
place-same number labels k gone row xs (At (Does (Read m ys y))) h = reads-same number labels gone row xs (reads_at k (At (Does (Read m ys y)))) (h refl)
place-same number labels k gone row xs (At (Does (Write m y ys))) h = refl
place-same number labels k gone row xs (At (Forks c x y)) h = refl
place-same number labels k gone row xs (At (Ends l)) h = refl

similar : (after : List ℕ) (rows : List (List ℕ)) (ps : List Point) → AllZip IsRow rows ps → After after ps → Similar (first_row rows) after
similar after [] [] h a = absurd a
similar after [] (q ∷ ps) h a = absurd h
similar after (r ∷ rows) [] h a = absurd a
similar after (r ∷ rows) (q ∷ ps) h a = record {
  once = h.0.once;
  within = λ x e. ap (is_in x) a ∙ sym (h.0.members x) ∙ e;
  count = ap length a ∙ sym h.0.count;
}

points-same : (number : Numbers) (labels : List Label) (k : ℕ) (rows : List (List ℕ)) (ps : List Point) → AllZip IsRow rows ps → Chained ps
    → map (row_of number) (fills labels (each_point (λ k q. part_of k q ∷ []) k ps) (rest rows)) ≡ map (row_of number) (each_point (fill_owners labels) k ps)
points-same number labels k [] [] h c = refl
points-same number labels k [] (q ∷ ps) h c = absurd h
points-same number labels k (r ∷ rows) [] h c = refl
points-same number labels k (r ∷ rows) (q ∷ ps) h c =
    let later = fills labels (each_point (λ k q. part_of k q ∷ []) (suc k) ps) (rest rows) in
    map-append (row_of number) (part_fills labels (part_of k q) (first_row rows)) later
    ∙ ap (λ zs. zs ++ map (row_of number) later) (place-same number labels k (point_values k q) (first_row rows) q.after q.place (λ e. similar q.after rows ps h.1 (c.0 e)))
    ∙ ap (λ zs. map (row_of number) (fill_owners labels k q) ++ zs) (points-same number labels (suc k) rows ps h.1 c.1)
    ∙ sym (map-append (row_of number) (fill_owners labels k q) (each_point (fill_owners labels) (suc k) ps))

pub all-fills : (number : Numbers) (labels : List Label) (rows : List (List ℕ)) → AllZip IsRow rows (points labels) → map (row_of number) (fills labels (form.parts labels) (rest rows)) ≡ map (row_of number) (each_point (fill_owners labels) 0 (points labels))
all-fills number labels rows h = points-same number labels 0 rows (points labels) h (labels-chained 0 labels)
