-- A line whose columns all differ, each with 1 or -1, gives a row within the limits of 0-1 programs.
use Rattle.std.proofs.Common.{◌≡◌, ℕ, suc, ◌+◌, ◌^◌, ◌<◌, ◌≤◌, Bool, true, false, nat_eq, nat_lt, if◌then◌else◌, List, [], ◌∷◌, ◌++◌, map, length, Option, Some, None, ℤ, pos, neg_ℤ, ◌+ℤ◌, All, ◌⊎◌, inl, inr, ⊎_elim, refl, sym, ap, subst, ◌∙◌, arith}
use Rattle.std.proofs.lemmas.Bool.{false≢true, false_from_ne_true}
use Rattle.std.proofs.lemmas.Int.{ints}
use Rattle.std.proofs.lemmas.List.{append-nil}
use Rattle.std.proofs.lemmas.List.Elements.{All-nil, All-cons}
use Rattle.nv_base.proofs.Sets.{same-number}
use Rattle.place_plan.proofs.Sound.{Each}
use Rattle.place_plan.proofs.Spilled.{each-all, each-weaker}
use Rattle.zo_model.specs.Program.{AtMost, Rise, IsCoefficient}
use Rattle.zo_model.specs.ProgramText.{IsRowText}
use Rattle.bank_prog_form.specs.declared.column.Column.{Column}
use Rattle.bank_prog_form.specs.Rows.{Line, plus, minus, at_least, at_most, covers, exactly_one}
use Rattle.bank_prog_form.specs.Program.{Numbers, Terms, same_column, number_in, add_term, add_named, terms_of, row_of}
use Rattle.bank_prog_form.specs.inner.Adds.{Rising}
use Rattle.bank_prog_form.proofs.RowTerms.{rising-named}
use Rattle.bank_prog_form.proofs.Keys.{column-true}
use Rattle.bank_prog_form.proofs.Itself.{column-itself}

-- no two of these columns are the same
abbrev pub Differ : List Column → Type 0
Differ [] = Unit {0}
Differ (c ∷ cs) = Each (λ d. same_column c d ≡ false) cs × Differ cs

-- no two terms have the same column
abbrev Lone : List (Column × ℤ) → Type 0
Lone [] = Unit {0}
Lone (t ∷ ts) = Each (λ u. same_column t.0 u.0 ≡ false) ts × Lone ts

abbrev IsOne : ℤ → Type 0
IsOne a = (a ≡ pos 1) ⊎ (a ≡ neg_ℤ (pos 1))

pub record IsPlain (l : Line) : Type 0 where
  pub lone : Lone l.terms
  pub ones : Each (λ t. IsOne t.1) l.terms
  pub least : AtMost 128 l.least

-- ---- lines

each-signed : (P : Column → Type 0) (cs ds : List Column) → Each P (cs ++ ds) → Each (λ t. P t.0) (map plus cs ++ map minus ds)
each-signed P [] [] h = tt
each-signed P [] (d ∷ ds) h = (h.0, each-signed P [] ds h.1)
each-signed P (c ∷ cs) ds h = (h.0, each-signed P cs ds h.1)

lone-signed : (cs ds : List Column) → Differ (cs ++ ds) → Lone (map plus cs ++ map minus ds)
lone-signed [] [] h = tt
lone-signed [] (d ∷ ds) h = (each-signed (λ e. same_column d e ≡ false) [] ds h.0, lone-signed [] ds h.1)
lone-signed (c ∷ cs) ds h = (each-signed (λ e. same_column c e ≡ false) cs ds h.0, lone-signed cs ds h.1)

ones-signed : (cs ds : List Column) → Each (λ t. IsOne t.1) (map plus cs ++ map minus ds)
ones-signed [] [] = tt
ones-signed [] (d ∷ ds) = (inr refl, ones-signed [] ds)
ones-signed (c ∷ cs) ds = (inl refl, ones-signed cs ds)

least-small : (n : ℕ) → n ≤ 128 → AtMost 128 (pos n)
least-small n h = record { low = omega (arith, ints, h); high = omega (arith, ints, h) }

most-small : (n : ℕ) → n ≤ 128 → AtMost 128 (neg_ℤ (pos n))
most-small n h = record { low = omega (arith, ints, h); high = omega (arith, ints, h) }

pub covers-plain : (cs ds : List Column) → Differ (cs ++ ds) → IsPlain (covers cs ds)
covers-plain cs ds h = record { lone = lone-signed cs ds h; ones = ones-signed cs ds; least = least-small 0 (omega arith) }

pub most-plain : (n : ℕ) (cs : List Column) → n ≤ 128 → Differ cs → IsPlain (at_most n cs)
most-plain n cs l h = record { lone = lone-signed [] cs h; ones = ones-signed [] cs; least = most-small n l }

pub least-plain : (n : ℕ) (cs : List Column) → n ≤ 128 → Differ cs → IsPlain (at_least n cs)
least-plain n cs l h = record {
  lone = subst Lone (append-nil (map plus cs)) (lone-signed cs [] (subst Differ (sym (append-nil cs)) h));
  ones = subst (Each (λ t. IsOne t.1)) (append-nil (map plus cs)) (ones-signed cs []);
  least = least-small n l;
}

pub one-plain : (cs : List Column) → Differ cs → Each IsPlain (exactly_one cs)
one-plain cs h = (least-plain 1 cs (omega arith) h, (most-plain 1 cs (omega arith) h, tt))

-- ---- numbers

number-below : (j : ℕ) (ds : List Column) (c : Column) (i : ℕ) → number_in j ds c ≡ Some i → (j ≤ i) × (i < j + length ds)
number-below j [] c i e = absurd (cc)
number-below j (d ∷ ds) c i e = pick (same_column d c) (number-below (suc j) ds c i) e
  where
    pick : (b : Bool) → (number_in (suc j) ds c ≡ Some i → (suc j ≤ i) × (i < suc j + length ds)) → (if b then Some j else number_in (suc j) ds c) ≡ Some i → (j ≤ i) × (i < j + length (d ∷ ds))
    pick true r q = let s : j ≡ i = cc in (omega (arith, s), omega (arith, s))
    pick false r q = let m = r q in (omega (arith, m.0), omega (arith, m.1))

-- a number belongs to one column
number-once : (j : ℕ) (bs : List Column) (c d : Column) (i : ℕ) → number_in j bs c ≡ Some i → number_in j bs d ≡ Some i → c ≡ d
number-once j [] c d i e f = absurd (cc)
number-once j (b ∷ bs) c d i e f = pick (same_column b c) (same_column b d) refl refl (number-once (suc j) bs c d i) e f
  where
    pick : (p q : Bool) → same_column b c ≡ p → same_column b d ≡ q → (number_in (suc j) bs c ≡ Some i → number_in (suc j) bs d ≡ Some i → c ≡ d)
        → (if p then Some j else number_in (suc j) bs c) ≡ Some i → (if q then Some j else number_in (suc j) bs d) ≡ Some i → c ≡ d
    pick true true s t r x y = sym (column-true b c s) ∙ column-true b d t
    pick true false s t r x y = let z : j ≡ i = cc in let m = number-below (suc j) bs d i y in absurd (omega (arith, z, m.0))
    pick false true s t r x y = let z : j ≡ i = cc in let m = number-below (suc j) bs c i x in absurd (omega (arith, z, m.0))
    pick false false s t r x y = r x y

-- ---- terms

each-add : (P : ℕ → Type 0) (j : ℕ) (a : ℤ) (us : Terms) → P j → Each (λ u. P u.0) us → Each (λ u. P u.0) (add_term j a us)
each-add P j a [] p h = (p, tt)
each-add P j a (u ∷ us) p h = pick (nat_lt j u.0) (nat_eq j u.0) p h (each-add P j a us p h.1)
  where
    pick : (b e : Bool) → P j → P u.0 × Each (λ u. P u.0) us → Each (λ u. P u.0) (add_term j a us) → Each (λ u. P u.0) (if b then (j, a) ∷ u ∷ us else (if e then (j, a +ℤ u.1) ∷ us else u ∷ add_term j a us))
    pick true e q g r = (q, g)
    pick false true q g r = (q, g.1)
    pick false false q g r = (g.0, r)

each-named : (P : ℕ → Type 0) (o : Option ℕ) (a : ℤ) (us : Terms) → ((j : ℕ) → o ≡ Some j → P j) → Each (λ u. P u.0) us → Each (λ u. P u.0) (add_named o a us)
each-named P None a us f h = h
each-named P (Some j) a us f h = each-add P j a us (f j refl) h

-- what holds of the numbers of the columns holds of the numbers of the terms
each-terms : (P : ℕ → Type 0) (Q : Column → Type 0) (number : Numbers) (ts : List (Column × ℤ)) → ((c : Column) (j : ℕ) → Q c → number c ≡ Some j → P j) → Each (λ t. Q t.0) ts → Each (λ u. P u.0) (terms_of number ts)
each-terms P Q number [] f h = tt
each-terms P Q number (t ∷ ts) f h = each-named P (number t.0) t.1 (terms_of number ts) (λ j e. f t.0 j h.0 e) (each-terms P Q number ts f h.1)

any-column : (ts : List (Column × ℤ)) → Each (λ t. Unit {0}) ts
any-column [] = tt
any-column (t ∷ ts) = (tt, any-column ts)

terms-below : (cs : List Column) (ts : List (Column × ℤ)) → Each (λ u. u.0 < length cs) (terms_of (number_in 0 cs) ts)
terms-below cs ts =
    each-terms (λ j. j < length cs) (λ c. Unit {0}) (number_in 0 cs) ts
    (λ c j u e. let m = number-below 0 cs c j e in omega (arith, m.1)) (any-column ts)

terms-lack : (cs : List Column) (c : Column) (j : ℕ) (ts : List (Column × ℤ)) → number_in 0 cs c ≡ Some j → Each (λ t. same_column c t.0 ≡ false) ts → Each (λ u. nat_eq j u.0 ≡ false) (terms_of (number_in 0 cs) ts)
terms-lack cs c j ts e h =
    each-terms (λ i. nat_eq j i ≡ false) (λ d. same_column c d ≡ false) (number_in 0 cs) ts
    (λ d i n f. false_from_ne_true (nat_eq j i) (λ q.
    let same = number-once 0 cs c d j e (f ∙ ap (λ z. Some z) (sym (same-number j i q))) in
    false≢true (sym n ∙ ap (same_column c) (sym same) ∙ column-itself c))) h

ones-add : (j : ℕ) (a : ℤ) (us : Terms) → IsOne a → Each (λ u. nat_eq j u.0 ≡ false) us → Each (λ u. IsOne u.1) us → Each (λ u. IsOne u.1) (add_term j a us)
ones-add j a [] o l h = (o, tt)
ones-add j a (u ∷ us) o l h = pick (nat_lt j u.0) (nat_eq j u.0) l.0 o h (ones-add j a us o l.1 h.1)
  where
    pick : (b e : Bool) → e ≡ false → IsOne a → IsOne u.1 × Each (λ u. IsOne u.1) us → Each (λ u. IsOne u.1) (add_term j a us)
        → Each (λ u. IsOne u.1) (if b then (j, a) ∷ u ∷ us else (if e then (j, a +ℤ u.1) ∷ us else u ∷ add_term j a us))
    pick true e n q g r = (q, g)
    pick false true n q g r = absurd (false≢true (sym n))
    pick false false n q g r = (g.0, r)

ones-named : (o : Option ℕ) (a : ℤ) (us : Terms) → IsOne a → ((j : ℕ) → o ≡ Some j → Each (λ u. nat_eq j u.0 ≡ false) us) → Each (λ u. IsOne u.1) us → Each (λ u. IsOne u.1) (add_named o a us)
ones-named None a us o l h = h
ones-named (Some j) a us o l h = ones-add j a us o (l j refl) h

ones-terms : (cs : List Column) (ts : List (Column × ℤ)) → Lone ts → Each (λ t. IsOne t.1) ts → Each (λ u. IsOne u.1) (terms_of (number_in 0 cs) ts)
ones-terms cs [] l o = tt
ones-terms cs (t ∷ ts) l o = ones-named (number_in 0 cs t.0) t.1 (terms_of (number_in 0 cs) ts) o.0 (λ j e. terms-lack cs t.0 j ts e l.0) (ones-terms cs ts l.1 o.1)

rising-terms : (number : Numbers) (ts : List (Column × ℤ)) → Rising 0 (terms_of number ts)
rising-terms number [] = tt
rising-terms number (t ∷ ts) = rising-named (number t.0) t.1 (terms_of number ts) (rising-terms number ts)

rise-from : (lo n : ℕ) (us : Terms) → Rising lo us → Each (λ u. u.0 < n) us → Rise lo n us
rise-from lo n [] r b = tt
rise-from lo n (u ∷ us) r b = (r.0, b.0, rise-from (suc u.0) n us r.1 b.1)

-- ---- rows

plus-fits : IsCoefficient (pos 1)
plus-fits = record { low = omega (arith, ints); high = omega (arith, ints); not_zero = λ e. omega (arith, ints, e) }

minus-fits : IsCoefficient (neg_ℤ (pos 1))
minus-fits = record { low = omega (arith, ints); high = omega (arith, ints); not_zero = λ e. omega (arith, ints, e) }

one-fits : (a : ℤ) → IsOne a → IsCoefficient a
one-fits a h = ⊎_elim (λ (e : a ≡ pos 1). subst IsCoefficient (sym e) plus-fits) (λ (e : a ≡ neg_ℤ (pos 1)). subst IsCoefficient (sym e) minus-fits) h

wider : (a : ℤ) → AtMost 128 a → AtMost (2 ^ 30) a
wider a h = record { low = omega (arith, ints, h.low); high = omega (arith, ints, h.high) }

row-fits : (cs : List Column) (l : Line) → length cs ≤ 2 ^ 26 → IsPlain l → IsRowText (length cs) (row_of (number_in 0 cs) l)
row-fits cs l n h =
    let us = terms_of (number_in 0 cs) l.terms in
    record {
      terms_fit = record {
        few = n;
        rise = rise-from 0 (length cs) us (rising-terms (number_in 0 cs) l.terms) (terms-below cs l.terms);
        coefficients_fit = each-all (λ t. IsCoefficient t.1) us (each-weaker (λ t. IsOne t.1) (λ t. IsCoefficient t.1) us (λ t o. one-fits t.1 o) (ones-terms cs l.terms h.lone h.ones));
      };
      least_fits = wider l.least h.least;
    }

pub rows-fit : (cs : List Column) (ls : List Line) → length cs ≤ 2 ^ 26 → Each IsPlain ls → All (IsRowText (length cs)) (map (row_of (number_in 0 cs)) ls)
rows-fit cs [] n h = All-nil (IsRowText (length cs))
rows-fit cs (l ∷ ls) n h = All-cons (IsRowText (length cs)) (row_of (number_in 0 cs) l) (map (row_of (number_in 0 cs)) ls) (row-fits cs l n h.0) (rows-fit cs ls n h.1)
