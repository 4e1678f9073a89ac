-- Rows over the live values at a point don't depend on their order.
use Rattle.std.proofs.Common.{◌≡◌, ℕ, suc, true, false, not, ◌||◌, nat_eq, ◌⊎◌, inl, inr, ⊎_elim, List, [], ◌∷◌, ◌++◌, map, length, length-append, refl, sym, ap, ◌∙◌, arith, ℤ, pos, neg_ℤ}
use Rattle.std.specs.List.{flat_map, AllZip}
use Rattle.std.proofs.lemmas.Grind.{flat_map-append}
use Rattle.std.proofs.lemmas.Bool.{and_parts, or_cases, false≢true, not-true}
use Rattle.std.proofs.lemmas.List.{map-append}
use Rattle.nv_base.specs.Sets.{is_in, all_different, Within}
use Rattle.nv_base.proofs.Sets.{same-number}
use Rattle.ssu_ir.specs.Points.{Point}
use Rattle.ssu_ir.proofs.Liveness.{in-left, in-right}
use Rattle.ssu_liveness.specs.LiveRows.{IsRow}
use Rattle.ssu_liveness.proofs.Scoped.{in-itself, in-either}
use Rattle.bank_prog_form.specs.declared.column.Column.{Column}
use Rattle.bank_prog_form.specs.declared.column.Bank.{Bank}
use Rattle.bank_prog_form.specs.declared.column.Bank.TheVariants.{A, B, M}
use Rattle.bank_prog_form.specs.Columns.{each_point}
use Rattle.bank_prog_form.specs.Rows.{at_most, home, live_in, room_lines}
use Rattle.bank_prog_form.specs.Program.{Numbers, Terms, add_named, row_of}
use Rattle.bank_prog_form.specs.inner.Adds.{add_each}
use Rattle.bank_prog_form.proofs.RowTerms.{named-swap, terms-alone}

-- ---- columns change places

pub each-append : (number : Numbers) (a : ℤ) (cs ds : List Column) (ts : Terms) → add_each number a (cs ++ ds) ts ≡ add_each number a cs (add_each number a ds ts)
each-append number a [] ds ts = refl
each-append number a (c ∷ cs) ds ts = ap (add_named (number c) a) (each-append number a cs ds ts)

each-front : (number : Numbers) (a : ℤ) (cs : List Column) (c : Column) (ts : Terms) → add_each number a cs (add_named (number c) a ts) ≡ add_named (number c) a (add_each number a cs ts)
each-front number a [] c ts = refl
each-front number a (d ∷ cs) c ts = ap (add_named (number d) a) (each-front number a cs c ts) ∙ named-swap (number d) (number c) a a (add_each number a cs ts)

each-cross : (number : Numbers) (a : ℤ) (cs ds : List Column) (ts : Terms) → add_each number a cs (add_each number a ds ts) ≡ add_each number a ds (add_each number a cs ts)
each-cross number a cs [] ts = refl
each-cross number a cs (d ∷ ds) ts = each-front number a cs d (add_each number a ds ts) ∙ ap (add_named (number d) a) (each-cross number a cs ds ts)

-- ---- a value is somewhere in a list

pub record Found (x : ℕ) (ys : List ℕ) : Type 0 where
  pub front : List ℕ
  pub back : List ℕ
  pub whole : ys ≡ front ++ x ∷ back

find : (x : ℕ) (ys : List ℕ) → is_in x ys ≡ true → Found x ys
find x [] e = absurd (false≢true e)
find x (y ∷ ys) e = pick (or_cases (nat_eq x y) (is_in x ys) e) (find x ys)
  where
    pick : (nat_eq x y ≡ true) ⊎ (is_in x ys ≡ true) → (is_in x ys ≡ true → Found x ys) → Found x (y ∷ ys)
    pick (inl h) rest = record { front = []; back = ys; whole = ap (λ z. z ∷ ys) (sym (same-number x y h)) }
    pick (inr h) rest = let f = rest h in record { front = y ∷ f.front; back = f.back; whole = ap (λ zs. y ∷ zs) f.whole }

-- what isn't x is elsewhere
elsewhere : (x z : ℕ) (xs front back : List ℕ) → is_in x xs ≡ false → is_in z xs ≡ true → is_in z (front ++ x ∷ back) ≡ true → is_in z (front ++ back) ≡ true
elsewhere x z xs front back n h e = pick (in-either z front (x ∷ back) e)
  where
    here : nat_eq z x ≡ true → is_in z (front ++ back) ≡ true
    here q = absurd (false≢true (sym n ∙ ap (λ y. is_in y xs) (sym (same-number z x q)) ∙ h))

    pick : (is_in z front ≡ true) ⊎ (is_in z (x ∷ back) ≡ true) → is_in z (front ++ back) ≡ true
    pick (inl q) = in-left z front back q
    pick (inr q) = ⊎_elim here (λ (r : is_in z back ≡ true). in-right z front back r) (or_cases (nat_eq z x) (is_in z back) q)

-- ---- the same values in another order

pub ordered : (number : Numbers) (a : ℤ) (g : ℕ → List Column) (xs ys : List ℕ) (ts : Terms) → all_different xs ≡ true → Within xs ys → length ys ≡ length xs
    → add_each number a (flat_map g xs) ts ≡ add_each number a (flat_map g ys) ts
ordered number a g [] [] ts d w n = refl
ordered number a g [] (y ∷ ys) ts d w n = absurd (omega (arith, n))
ordered number a g (x ∷ xs) ys ts d w n =
    let p = and_parts (not (is_in x xs)) (all_different xs) d in
    let f = find x ys (w x (ap (λ b. b || is_in x xs) (in-itself x))) in
    let within : Within xs (f.front ++ f.back) = λ z h. elsewhere x z xs f.front f.back (not-true (is_in x xs) p.0) h (ap (is_in z) (sym f.whole) ∙ w z (in-right z (x ∷ []) xs h)) in
    let count : length (f.front ++ f.back) ≡ length xs = omega (arith, n, ap length f.whole, length-append f.front f.back, length-append f.front (x ∷ f.back)) in
    let rest = ordered number a g xs (f.front ++ f.back) ts p.1 within count in
    each-append number a (g x) (flat_map g xs) ts ∙ ap (add_each number a (g x)) (rest ∙ ap (λ cs. add_each number a cs ts) (flat_map-append g f.front f.back) ∙ each-append number a (flat_map g f.front) (flat_map g f.back) ts)
    ∙ each-cross number a (g x) (flat_map g f.front) (add_each number a (flat_map g f.back) ts)
    ∙ ap (add_each number a (flat_map g f.front)) (sym (each-append number a (g x) (flat_map g f.back) ts))
    ∙ sym (each-append number a (flat_map g f.front) (g x ++ flat_map g f.back) ts)
    ∙ ap (λ cs. add_each number a cs ts) (sym (flat_map-append g f.front (x ∷ f.back)) ∙ ap (flat_map g) (sym f.whole))

-- ---- rows of live values

-- at most n of some columns of these values, and some more
pub row-ordered : (number : Numbers) (n : ℕ) (g : ℕ → List Column) (more : List Column) (row : List ℕ) (q : Point) → IsRow row q
    → row_of number (at_most n (flat_map g row ++ more)) ≡ row_of number (at_most n (flat_map g q.before ++ more))
row-ordered number n g more row q h =
    let a = neg_ℤ (pos 1) in
    let same = terms-alone number a (flat_map g row ++ more) ∙ each-append number a (flat_map g row) more []
    ∙ ordered number a g row q.before (add_each number a more []) h.once (λ x e. sym (h.members x) ∙ e) (sym h.count)
    ∙ sym (each-append number a (flat_map g q.before) more []) ∙ sym (terms-alone number a (flat_map g q.before ++ more)) in
    ap (λ ts. record { terms = ts; least = neg_ℤ (pos n) }) same

pub alone-ordered : (number : Numbers) (n : ℕ) (g : ℕ → List Column) (row : List ℕ) (q : Point) → IsRow row q → row_of number (at_most n (flat_map g row)) ≡ row_of number (at_most n (flat_map g q.before))
alone-ordered number n g row q r =
    let a = neg_ℤ (pos 1) in
    let same = terms-alone number a (flat_map g row) ∙ ordered number a g row q.before [] r.once (λ x e. sym (r.members x) ∙ e) (sym r.count) ∙ sym (terms-alone number a (flat_map g q.before)) in
    ap (λ ts. record { terms = ts; least = neg_ℤ (pos n) }) same

home-row : (number : Numbers) (n : ℕ) (h : Bank) (row : List ℕ) (q : Point) → IsRow row q → row_of number (at_most n (live_in row h)) ≡ row_of number (at_most n (live_in q.before h))
home-row number n h row q r =
    let a = neg_ℤ (pos 1) in
    let same = terms-alone number a (live_in row h) ∙ ordered number a (λ x. home x h) row q.before [] r.once (λ x e. sym (r.members x) ∙ e) (sym r.count) ∙ sym (terms-alone number a (live_in q.before h)) in
    ap (λ ts. record { terms = ts; least = neg_ℤ (pos n) }) same

rooms : (number : Numbers) (slots : ℕ) (row : List ℕ) (q : Point) → IsRow row q → map (row_of number) (room_lines slots row) ≡ map (row_of number) (room_lines slots q.before)
rooms number slots row q h =
    ap (λ z. z ∷ row_of number (at_most 15 (live_in row B)) ∷ row_of number (at_most slots (live_in row M)) ∷ []) (home-row number 15 A row q h)
    ∙ ap (λ z. row_of number (at_most 15 (live_in q.before A)) ∷ z ∷ row_of number (at_most slots (live_in row M)) ∷ []) (home-row number 15 B row q h)
    ∙ ap (λ z. row_of number (at_most 15 (live_in q.before A)) ∷ row_of number (at_most 15 (live_in q.before B)) ∷ z ∷ []) (home-row number slots M row q h)

pub all-rooms : (number : Numbers) (slots k : ℕ) (rows : List (List ℕ)) (ps : List Point) → AllZip IsRow rows ps
    → map (row_of number) (flat_map (room_lines slots) rows) ≡ map (row_of number) (each_point (λ k q. room_lines slots q.before) k ps)
all-rooms number slots k [] [] h = refl
all-rooms number slots k [] (q ∷ ps) h = absurd h
all-rooms number slots k (r ∷ rows) [] h = absurd h
all-rooms number slots k (r ∷ rows) (q ∷ ps) h =
    map-append (row_of number) (room_lines slots r) (flat_map (room_lines slots) rows) ∙ ap (λ zs. zs ++ map (row_of number) (flat_map (room_lines slots) rows)) (rooms number slots r q h.0)
    ∙ ap (λ zs. map (row_of number) (room_lines slots q.before) ++ zs) (all-rooms number slots (suc k) rows ps h.1)
    ∙ sym (map-append (row_of number) (room_lines slots q.before) (each_point (λ k q. room_lines slots q.before) (suc k) ps))
