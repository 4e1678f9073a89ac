-- Numbers that were found by hints are those that a placement asks for.
use Rattle.std.proofs.Common.{◌≡◌, ℕ, suc, nat_eq, Bool, true, Option, List, [], ◌∷◌, length, map, filter, refl, ap, ◌∙◌}
use Rattle.std.specs.Prelude.{All}
use Rattle.std.specs.HashMap.{get}
use Rattle.std.specs.List.{AllZip}
use Rattle.std.proofs.lemmas.Bool.{and_from}
use Rattle.nv_base.specs.Sets.{is_in}
use Rattle.ssu_ir.specs.Points.{Point, points}
use Rattle.ssu_ir.specs.Single.{single}
use Rattle.ssu_liveness.specs.LiveRows.{IsRowOf, HaveNumbers, items_of}
use Rattle.ssu_liveness.proofs.Kept.{rows-of-whole}
use Rattle.place_plan.proofs.Sound.{Each}
use Rattle.place_plan.proofs.Spilled.{each-all, all-each}
use Rattle.bank_prog_form.specs.declared.column.Bank.{Bank}
use Rattle.reg_assign_reading.specs.declared.reading.Reading.{Reading}
use Rattle.reg_assign_reading.specs.ReadOff.{has_home}
use Rattle.reg_assign_reading.specs.inner.Reading.{says, labels_of}
use Rattle.reg_assign_reading.proofs.Numbered.{rows-kept}
use Rattle.reg_assign_numbers.specs.Rows.{HasNumbers}

-- ---- from rows to points

point-numbers : (keep : ℕ → Bool) (number : ℕ → Option ℕ) (n : ℕ) (row : List ℕ) (q : Point) → IsRowOf keep row q → HasNumbers number n row → HaveNumbers keep number n q
point-numbers keep number n row q r h =
    let there : (x : ℕ) → keep x ≡ true → is_in x q.before ≡ true → is_in x row ≡ true = λ x k i. r.members x ∙ and_from (keep x) (is_in x q.before) k i in
    record {
      given = λ x k i. h.given x (there x k i);
      apart = λ x y m k l i j ne e f. h.apart x y m (there x k i) (there y l j) ne e f;
    }

each-numbers : (keep : ℕ → Bool) (number : ℕ → Option ℕ) (n : ℕ) (rows : List (List ℕ)) (ps : List Point) → AllZip (IsRowOf keep) rows ps → Each (HasNumbers number n) rows → Each (HaveNumbers keep number n) ps
each-numbers keep number n [] [] z h = tt
each-numbers keep number n [] (q ∷ ps) z h = absurd z
each-numbers keep number n (r ∷ rows) [] z h = tt
each-numbers keep number n (r ∷ rows) (q ∷ ps) z h = (point-numbers keep number n r q z.0 h.0, each-numbers keep number n rows ps z.1 h.1)

pub all-numbers : (keep : ℕ → Bool) (number : ℕ → Option ℕ) (n : ℕ) (rows : List (List ℕ)) (ps : List Point) → AllZip (IsRowOf keep) rows ps → All (HasNumbers number n) rows → All (HaveNumbers keep number n) ps
all-numbers keep number n rows ps z h = each-all (HaveNumbers keep number n) ps (each-numbers keep number n rows ps z (all-each (HasNumbers number n) rows h))

-- ---- as many rows as points

pub zip-length : {X Y : Type 0} (R : X → Y → Type 0) (xs : List X) (ys : List Y) → AllZip R xs ys → length xs ≡ length ys
zip-length R [] [] h = refl
zip-length R [] (y ∷ ys) h = absurd h
zip-length R (x ∷ xs) [] h = absurd h
zip-length R (x ∷ xs) (y ∷ ys) h = ap suc (zip-length R xs ys h.1)

-- ---- the rows of a bank

-- the live values at each point that have a home in the bank
abbrev pub home_rows : Reading → Bank → List (List ℕ)
home_rows r h = map (filter (λ x. has_home (says r) x h)) (items_of r.bank.now.form.live.items)

pub rows-in : (r : Reading) (h : Bank) → single (labels_of r) ≡ true → AllZip (IsRowOf (λ x. has_home (says r) x h)) (home_rows r h) (points (labels_of r))
rows-in r h form =
    let f = r.bank.now.form in
    rows-kept (λ x. has_home (says r) x h) (items_of f.live.items) (points (labels_of r)) (rows-of-whole f.ssu.now (get nat_eq f.copies) (items_of f.live.items) form f.sources f.rows)
