-- A row over the columns' numbers says what its line says by name.
use Rattle.std.proofs.Common.{◌≡◌, ◌↔◌, ℕ, nat_eq, nat_lt, Bool, true, false, if◌then◌else◌, List, [], ◌∷◌, map, Option, Some, None, ℤ, ◌+ℤ◌, ◌≤ℤ◌, All, refl, sym, ap, subst, ◌∙◌}
use Rattle.std.proofs.Math.IntN.{+ℤ_idl, +ℤ_assoc}
use Rattle.std.proofs.lemmas.List.Elements.{All-nil, All-cons, All-head, All-tail}
use Rattle.nv_base.proofs.Sets.{same-number}
use Rattle.ssu_ir.specs.Tree.{Label}
use Rattle.zo_model.specs.declared.program.Row.{Row}
use Rattle.zo_model.specs.declared.program.ZeroOne.{ZeroOne}
use Rattle.zo_model.specs.Contents.{RowContents, row_contents, contents}
use Rattle.zo_model.specs.Program.{total, where_one, terms_sum, Meets, Feasible}
use Rattle.bank_prog_form.specs.declared.column.Column.{Column}
use Rattle.bank_prog.specs.Meaning.{number_on, on, named_sum, Holds}
use Rattle.bank_prog_form.specs.Program.{Numbers, Terms, add_term, add_named, terms_of, row_of, number_of}
use Rattle.bank_prog.specs.Weighted.{weighted_program}
use Rattle.bank_prog_form.specs.Rows.{Line, lines}
use Rattle.bank_prog_form.proofs.RowTerms.{crossed}

-- ---- sums

both-where : (b : Bool) (a c : ℤ) → where_one b (a +ℤ c) ≡ (where_one b a +ℤ where_one b c)
both-where true a c = refl
both-where false a c = refl

term-sum : (x : ℕ → Bool) (j : ℕ) (a : ℤ) (ts : Terms) → total (λ t. where_one (x t.0) t.1) (add_term j a ts) ≡ (where_one (x j) a +ℤ total (λ t. where_one (x t.0) t.1) ts)
term-sum x j a [] = refl
term-sum x j a (t ∷ ts) = pick (nat_lt j t.0) (nat_eq j t.0) refl (term-sum x j a ts)
  where
    pick : (b e : Bool) → nat_eq j t.0 ≡ e → total (λ t. where_one (x t.0) t.1) (add_term j a ts) ≡ (where_one (x j) a +ℤ total (λ t. where_one (x t.0) t.1) ts)
        → total (λ t. where_one (x t.0) t.1) (if b then (j, a) ∷ t ∷ ts else (if e then (j, a +ℤ t.1) ∷ ts else t ∷ add_term j a ts)) ≡ (where_one (x j) a +ℤ (where_one (x t.0) t.1 +ℤ total (λ t. where_one (x t.0) t.1) ts))
    pick true e q h = refl
    pick false true q h =
        ap (λ s. s +ℤ total (λ t. where_one (x t.0) t.1) ts) (both-where (x j) a t.1 ∙ ap (λ (k : ℕ). where_one (x j) a +ℤ where_one (x k) t.1) (same-number j t.0 q))
        ∙ +ℤ_assoc (where_one (x j) a) (where_one (x t.0) t.1) (total (λ t. where_one (x t.0) t.1) ts)
    pick false false q h =
        ap (λ s. where_one (x t.0) t.1 +ℤ s) h ∙ crossed (where_one (x t.0) t.1) (where_one (x j) a) (total (λ t. where_one (x t.0) t.1) ts)

named-term : (x : ℕ → Bool) (o : Option ℕ) (a : ℤ) (ts : Terms) → total (λ t. where_one (x t.0) t.1) (add_named o a ts) ≡ (where_one (number_on x o) a +ℤ total (λ t. where_one (x t.0) t.1) ts)
named-term x None a ts = sym (+ℤ_idl (total (λ t. where_one (x t.0) t.1) ts))
named-term x (Some j) a ts = term-sum x j a ts

sum-by-name : (number : Numbers) (x : ℕ → Bool) (ts : List (Column × ℤ)) → total (λ t. where_one (x t.0) t.1) (terms_of number ts) ≡ named_sum (λ c. number_on x (number c)) ts
sum-by-name number x [] = refl
sum-by-name number x (t ∷ ts) = named-term x (number t.0) t.1 (terms_of number ts) ∙ ap (λ s. where_one (number_on x (number t.0)) t.1 +ℤ s) (sum-by-name number x ts)

-- ---- rows

-- a row meets its least, by what it contains
abbrev Reaches : (ℕ → Bool) → RowContents → Type 0
Reaches x c = c.least ≤ℤ total (λ t. where_one (x t.0) t.1) c.terms

meets-reaches : (x : ℕ → Bool) (r : Row) → Meets x r ↔ Reaches x (row_contents r)
unfolding terms_sum
meets-reaches x r = ((λ h. h), (λ h. h))

reaches-holds : (number : Numbers) (x : ℕ → Bool) (l : Line) → Reaches x (row_of number l) ↔ Holds (λ c. number_on x (number c)) l
reaches-holds number x l = (
  (λ h. subst (λ s. l.least ≤ℤ s) (sum-by-name number x l.terms) h),
  (λ h. subst (λ s. l.least ≤ℤ s) (sym (sum-by-name number x l.terms)) h),
)

row-holds : (number : Numbers) (x : ℕ → Bool) (r : Row) (l : Line) → row_contents r ≡ row_of number l → Meets x r ↔ Holds (λ c. number_on x (number c)) l
row-holds number x r l e = (
  (λ h. (reaches-holds number x l).0 (subst (Reaches x) e ((meets-reaches x r).0 h))),
  (λ h. (meets-reaches x r).1 (subst (Reaches x) (sym e) ((reaches-holds number x l).1 h))),
)

rows-hold : (number : Numbers) (x : ℕ → Bool) (rs : List Row) (ls : List Line) → map row_contents rs ≡ map (row_of number) ls → All (Meets x) rs ↔ All (Holds (λ c. number_on x (number c))) ls
rows-hold number x [] [] e = ((λ h. All-nil (Holds (λ c. number_on x (number c)))), (λ h. All-nil (Meets x)))
rows-hold number x [] (l ∷ ls) e = absurd (cc)
rows-hold number x (r ∷ rs) [] e = absurd (cc)
rows-hold number x (r ∷ rs) (l ∷ ls) e =
    let first : row_contents r ≡ row_of number l = cc in
    let rest : map row_contents rs ≡ map (row_of number) ls = cc in
    let here = row-holds number x r l first in
    let there = rows-hold number x rs ls rest in (
      (λ h. All-cons (Holds (λ c. number_on x (number c))) l ls (here.0 (All-head (Meets x) r rs h)) (there.0 (All-tail (Meets x) r rs h))),
      (λ h. All-cons (Meets x) r rs (here.1 (All-head (Holds (λ c. number_on x (number c))) l ls h)) (there.1 (All-tail (Holds (λ c. number_on x (number c))) l ls h))),
    )

pub feasible-by-name : (z : ZeroOne) (labels : List Label) (slots : ℕ) (ws : List ℕ) (x : ℕ → Bool) → contents z ≡ weighted_program labels slots ws → Feasible z x ↔ All (Holds (on labels x)) (lines labels slots)
feasible-by-name z labels slots ws x e = rows-hold (number_of labels) x z.rows.items (lines labels slots) (ap (λ c. c.rows) e)
