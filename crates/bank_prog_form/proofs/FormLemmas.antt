-- What the tables of a form say.
use Rattle.std.proofs.Common.{◌≡◌, ℕ, suc, Bool, true, false, not, cond, ◌||◌, ◌==◌, nat_eq, List, [], ◌∷◌, map, length, refl, sym, ap, ◌∙◌, rules, tests}
use Rattle.std.specs.List.{filter}
use Rattle.std.proofs.lemmas.Bool.{false≢true}
use Rattle.nv_base.specs.Sets.{is_in}
use Rattle.place_plan.specs.Uses.{Use}
use Rattle.zo_model.specs.Contents.{Contents, RowContents}
use Rattle.bank_prog_form.specs.declared.column.Column.{Column}
use Rattle.bank_prog_form.specs.Rows.{Line}
use Rattle.bank_prog_form.specs.Program.{Numbers, row_of}
use Rattle.bank_prog_form.proofs.RowTerms.{terms-alike}
use Rattle.ssu_ir.proofs.Lists.{same-order}

some-length : (n : ℕ) → not (suc n == 0) ≡ true
some-length n = search (tests, rules)

pub used-of : (us : List Use) (x : ℕ) → not (length (filter (λ u. nat_eq u.value x) us) == 0) ≡ is_in x (map (λ u. u.value) us)
used-of [] x = refl
used-of (u ∷ us) x = pick (nat_eq u.value x) (nat_eq x u.value) (same-order u.value x) (used-of us x)
  where
    pick : (b a : Bool) → b ≡ a → not (length (filter (λ u. nat_eq u.value x) us) == 0) ≡ is_in x (map (λ u. u.value) us)
        → not (length (cond b (u ∷ filter (λ u. nat_eq u.value x) us) (filter (λ u. nat_eq u.value x) us)) == 0) ≡ (a || is_in x (map (λ u. u.value) us))
    pick true true e h = some-length (length (filter (λ u. nat_eq u.value x) us))
    pick false false e h = h
    pick true false e h = absurd (false≢true (sym e))
    pick false true e h = absurd (false≢true e)

-- two functions that number alike give the same rows
pub rows-alike : (number number' : Numbers) → ((c : Column) → number c ≡ number' c) → (ls : List Line) → map (row_of number) ls ≡ map (row_of number') ls
rows-alike number number' h [] = refl
rows-alike number number' h (l ∷ ls) =
    ap (λ ts. record { terms = ts; least = l.least } ∷ map (row_of number) ls) (terms-alike number number' h l.terms) ∙ ap (λ rs. row_of number' l ∷ rs) (rows-alike number number' h ls)

pub same-program : (costs costs' : List ℕ) (rows rows' : List RowContents) → costs ≡ costs' → rows ≡ rows' → ◌≡◌ {A = Contents} (record { costs = costs; rows = rows }) (record { costs = costs'; rows = rows' })
same-program costs costs' rows rows' h g = ap (λ cs. record { costs = cs; rows = rows }) h ∙ ap (λ rs. record { costs = costs'; rows = rs }) g
