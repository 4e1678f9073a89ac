-- Only columns that are there have a number; a vector that is made over the columns says of each what it was made from.
use Rattle.std.proofs.Common.{◌≡◌, ℕ, zero, suc, ◌+◌, ◌<◌, Bool, true, false, if◌then◌else◌, List, [], ◌∷◌, length, map, Some, refl, sym, ap, ◌∙◌, arith}
use Rattle.std.specs.Prelude.{slice_index_or}
use Rattle.std.specs.List.{Contains}
use Rattle.std.proofs.lemmas.Bool.{false≢true}
use Rattle.ssu_ir.specs.Tree.{Label}
use Rattle.zo_model.specs.Program.{vector}
use Rattle.bank_prog_form.specs.declared.column.Column.{Column}
use Rattle.bank_prog_form.specs.Columns.{columns}
use Rattle.bank_prog.specs.Meaning.{number_on, on}
use Rattle.bank_prog_form.specs.Program.{same_column, number_in}
use Rattle.bank_prog_form.proofs.Keys.{column-true}
use Rattle.bank_prog_form.proofs.Itself.{column-itself}

number-there : (x : ℕ → Bool) (j : ℕ) (ds : List Column) (c : Column) → number_on x (number_in j ds c) ≡ true → Contains ds c
number-there x j [] c e = absurd (false≢true e)
number-there x j (d ∷ ds) c e = pick (same_column d c) refl (number-there x (suc j) ds c) e
  where
    pick : (b : Bool) → same_column d c ≡ b → (number_on x (number_in (suc j) ds c) ≡ true → Contains ds c) → number_on x (if b then Some j else number_in (suc j) ds c) ≡ true → Contains (d ∷ ds) c
    pick true q h g = (0, omega arith, column-true d c q)
    pick false q h g = let m = h g in let l : m.0 < length ds = m.1 in (suc m.0, omega arith, m.2)

pub on-there : (labels : List Label) (x : ℕ → Bool) (c : Column) → on labels x c ≡ true → Contains (columns labels) c
on-there labels x c e = number-there x 0 (columns labels) c e

chosen-number : (f : Column → Bool) (y : ℕ → Bool) (j : ℕ) (ds : List Column) (c : Column) → ((i : ℕ) → y (j + i) ≡ vector (map f ds) i) → Contains ds c → number_on y (number_in j ds c) ≡ f c
chosen-number f y j [] c h m = absurd (omega (arith, m.1))
chosen-number f y j (d ∷ ds) c h m =
    pick (same_column d c) refl
    (λ k l e. chosen-number f y (suc j) ds c (λ i. let n : suc j + i ≡ j + suc i = omega arith in ap y n ∙ h (suc i)) (k, l, e)) m.0 m.1 m.2
  where
    pick : (b : Bool) → same_column d c ≡ b → ((k : ℕ) → k < length ds → slice_index_or ds k c ≡ c → number_on y (number_in (suc j) ds c) ≡ f c)
        → (k : ℕ) → k < length (d ∷ ds) → slice_index_or (d ∷ ds) k c ≡ c → number_on y (if b then Some j else number_in (suc j) ds c) ≡ f c
    pick true q r k l e = let z : j ≡ j + 0 = omega arith in ap y z ∙ h 0 ∙ ap f (column-true d c q)
    pick false q r zero l e = absurd (false≢true (sym q ∙ ap (same_column d) (sym e) ∙ column-itself d))
    pick false q r (suc k) l e = r k (omega (arith, l)) e

pub chosen-on : (labels : List Label) (f : Column → Bool) (c : Column) → Contains (columns labels) c → on labels (vector (map f (columns labels))) c ≡ f c
chosen-on labels f c m =
    chosen-number f (vector (map f (columns labels))) 0 (columns labels) c (λ i. let n : 0 + i ≡ i = omega arith in ap (vector (map f (columns labels))) n) m
