-- Rows of owners, point by point.
use Rattle.std.proofs.Common.{◌≡◌, ℕ, suc, ◌+◌, ◌<◌, ◌≤◌, true, false, List, [], ◌∷◌, ◌++◌, map, length, drop, get_or, refl, sym, ap, ◌∙◌, append_assoc, arith}
use Rattle.std.specs.List.{flat_map, AllZip}
use Rattle.std.proofs.lemmas.List.{at_drop_more, at_drop_all, append-nil, map-append}
use Rattle.zo_model.specs.declared.program.Row.{Row}
use Rattle.zo_model.specs.Contents.{RowContents, row_contents}
use Rattle.ssu_ir.specs.Tree.{Label}
use Rattle.ssu_ir.specs.Points.{Point}
use Rattle.ssu_liveness.specs.LiveRows.{Kept, IsRow, items_of}
use Rattle.bank_prog_form.specs.declared.column.Column.TheVariants.{ReadVia}
use Rattle.bank_prog_form.specs.Columns.{each_point, eight}
use Rattle.bank_prog_form.specs.Rows.{Line, at_most, stays_at, read_owners}
use Rattle.bank_prog_form.specs.Program.{Numbers, row_of}
use Rattle.bank_prog_form.specs.inner.Adds.{Adds}
use Rattle.bank_prog_form.specs.inner.Owners.{value_stays, read_owner, sdram_owner, row_owners, each_row}
use Rattle.bank_prog_form.proofs.Order.{row-ordered, alone-ordered}

pub rows-more : (number : Numbers) (f : ℕ → List ℕ → List Line) (vs : List Kept) (i : ℕ) (d : Kept) (rows rows' : List Row) (goal : List RowContents) → i < length vs
    → Adds number rows rows' (f i (get_or vs i d).items) → map row_contents rows ++ map (row_of number) (each_row f i (items_of (drop i vs))) ≡ goal
    → map row_contents rows' ++ map (row_of number) (each_row f (i + 1) (items_of (drop (i + 1) vs))) ≡ goal
rows-more number f vs i d rows rows' goal l e h =
    let n : i + 1 ≡ suc i = omega arith in
    let here = f i (get_or vs i d).items in
    let rest = each_row f (suc i) (items_of (drop (i + 1) vs)) in
    ap (λ m. map row_contents rows' ++ map (row_of number) (each_row f m (items_of (drop (i + 1) vs)))) n
    ∙ ap (λ o. o ++ map (row_of number) rest) e ∙ append_assoc (map row_contents rows) (map (row_of number) here) (map (row_of number) rest)
    ∙ ap (λ o. map row_contents rows ++ o) (sym (map-append (row_of number) here rest))
    ∙ sym (at_drop_more (λ ys. map row_contents rows ++ map (row_of number) (each_row f i (items_of ys))) vs i d l) ∙ h

pub rows-all : (number : Numbers) (f : ℕ → List ℕ → List Line) (vs : List Kept) (i : ℕ) (rows : List Row) (goal : List RowContents) → length vs ≤ i
    → map row_contents rows ++ map (row_of number) (each_row f i (items_of (drop i vs))) ≡ goal → map row_contents rows ≡ goal
rows-all number f vs i rows goal l h = sym (append-nil (map row_contents rows)) ∙ sym (at_drop_all (λ ys. map row_contents rows ++ map (row_of number) (each_row f i (items_of ys))) vs i l) ∙ h

-- ---- in any order

owners-same : (number : Numbers) (labels : List Label) (k : ℕ) (row : List ℕ) (q : Point) (rs : List ℕ) → IsRow row q
    → map (row_of number) (flat_map (read_owner labels k row) rs) ≡ map (row_of number) (map (λ r. at_most 1 (stays_at labels false r q.before ++ ReadVia k r ∷ [])) rs)
owners-same number labels k row q [] h = refl
owners-same number labels k row q (r ∷ rs) h =
    ap (λ z. z ∷ map (row_of number) (flat_map (read_owner labels k row) rs)) (row-ordered number 1 (value_stays labels false r) (ReadVia k r ∷ []) row q h)
    ∙ ap (λ zs. row_of number (at_most 1 (stays_at labels false r q.before ++ ReadVia k r ∷ [])) ∷ zs) (owners-same number labels k row q rs h)

sdram-same : (number : Numbers) (labels : List Label) (row : List ℕ) (q : Point) (rs : List ℕ) → IsRow row q
    → map (row_of number) (flat_map (sdram_owner labels row) rs) ≡ map (row_of number) (map (λ r. at_most 1 (stays_at labels true r q.before)) rs)
sdram-same number labels row q [] h = refl
sdram-same number labels row q (r ∷ rs) h =
    ap (λ z. z ∷ map (row_of number) (flat_map (sdram_owner labels row) rs)) (alone-ordered number 1 (value_stays labels true r) row q h)
    ∙ ap (λ zs. row_of number (at_most 1 (stays_at labels true r q.before)) ∷ zs) (sdram-same number labels row q rs h)

point-same : (number : Numbers) (labels : List Label) (k : ℕ) (row : List ℕ) (q : Point) → IsRow row q → map (row_of number) (row_owners labels k row) ≡ map (row_of number) (read_owners labels k q)
point-same number labels k row q h =
    map-append (row_of number) (flat_map (read_owner labels k row) eight) (flat_map (sdram_owner labels row) eight)
    ∙ ap (λ zs. zs ++ map (row_of number) (flat_map (sdram_owner labels row) eight)) (owners-same number labels k row q eight h)
    ∙ ap (λ zs. map (row_of number) (map (λ r. at_most 1 (stays_at labels false r q.before ++ ReadVia k r ∷ [])) eight) ++ zs) (sdram-same number labels row q eight h)
    ∙ sym (map-append (row_of number) (map (λ r. at_most 1 (stays_at labels false r q.before ++ ReadVia k r ∷ [])) eight) (map (λ r. at_most 1 (stays_at labels true r q.before)) eight))

pub all-owners : (number : Numbers) (labels : List Label) (k : ℕ) (rows : List (List ℕ)) (ps : List Point) → AllZip IsRow rows ps
    → map (row_of number) (each_row (row_owners labels) k rows) ≡ map (row_of number) (each_point (read_owners labels) k ps)
all-owners number labels k [] [] h = refl
all-owners number labels k [] (q ∷ ps) h = absurd h
all-owners number labels k (r ∷ rows) [] h = absurd h
all-owners number labels k (r ∷ rows) (q ∷ ps) h =
    map-append (row_of number) (row_owners labels k r) (each_row (row_owners labels) (suc k) rows) ∙ ap (λ zs. zs ++ map (row_of number) (each_row (row_owners labels) (suc k) rows)) (point-same number labels k r q h.0)
    ∙ ap (λ zs. map (row_of number) (read_owners labels k q) ++ zs) (all-owners number labels (suc k) rows ps h.1)
    ∙ sym (map-append (row_of number) (read_owners labels k q) (each_point (read_owners labels) (suc k) ps))
