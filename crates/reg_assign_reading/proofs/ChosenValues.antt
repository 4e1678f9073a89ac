-- The lines of a value hold for a placement that fits: its first place, its copies, its stay and the slots that it comes to.
use Rattle.std.proofs.Common.{◌≡◌, ℕ, zero, suc, ◌+◌, ◌<◌, ◌≤◌, nat_eq, Bool, true, false, not, ◌&&◌, ◌||◌, ◌⊎◌, inl, inr, ⊎_elim, Option, Some, None, List, [], ◌∷◌, ◌++◌, map, refl, sym, ap, subst, ◌∙◌, arith}
use Rattle.std.specs.Prelude.{is_some}
use Rattle.std.specs.List.{flat_map, list_any}
use Rattle.std.proofs.lemmas.Bool.{false≢true, and_parts, and_from, or_left, or_right, not-true}
use Rattle.nv_base.specs.declared.term.Mem.{Mem}
use Rattle.ssu_ir.specs.Tree.{Label}
use Rattle.zo_model.specs.Program.{cost_where}
use Rattle.place_plan.specs.declared.place.Place.{Place}
use Rattle.place_plan.specs.declared.place.Place.TheVariants as place
use Rattle.place_plan.specs.Plan.{Plan, home, first, pass}
use Rattle.place_plan.specs.Uses.{ValueOrigin, Parameter, Result, Fetched, Value, values, place_values, Use, uses_of, is_used}
use Rattle.place_plan.specs.Fits.{IsGeneral, is_slot, is_write_register, word_register, is_early, early_uses, AreCopies, IsPutEarly, is_result, same_bank, comes_to_slot, IsEighth, Fits, stays}
use Rattle.ssu_liveness.proofs.Scoped.{in-itself}
use Rattle.place_plan.proofs.Sound.{Each, each-append}
use Rattle.bank_prog_form.specs.declared.column.Bank.{Bank}
use Rattle.bank_prog_form.specs.declared.column.Bank.TheVariants.{A, B, M}
use Rattle.bank_prog_form.specs.declared.column.Column.{Column}
use Rattle.bank_prog_form.specs.declared.column.Column.TheVariants.{Def, Fill, Stay, EarlyWrite, First, WriteVia}
use Rattle.bank_prog_form.specs.Columns.{is_fetched, eight, place_words, beginnings, origin_beginnings}
use Rattle.bank_prog_form.specs.Rows.{at_most, covers, exactly_one, homes, def, home as home_columns, dir, ear, is_parameter, is_written, in_register, fill, word_from_register, copy_lines, copy_cover, parameter_choice, result_choice, stay_begins, slot_written, result_written, value_written}
use Rattle.bank_prog.specs.Meaning.{Chosen, Holds}
use Rattle.bank_prog_rows.proofs.PlainLines.{mapped-each}
use Rattle.bank_prog_form.proofs.Keys.{bank-true}
use Rattle.bank_prog_form.proofs.Itself.{bank-itself}
use Rattle.reg_assign_reading.specs.inner.Facts.{count}
use Rattle.reg_assign_reading.specs.inner.Chosen.{value_at, bank_of, is_in_bank, goes_there, names}
use Rattle.reg_assign_reading.proofs.Counts.{In, kept-in, map-in, in-right, some-counted, count-append, each-in, each-from}
use Rattle.reg_assign_reading.proofs.FactsPoints.{below-eight}
use Rattle.reg_assign_reading.proofs.FactsValues.{used-of, on-one}
use Rattle.reg_assign_reading.proofs.ChosenHolds.{covers-hold, most-holds, one-holds, flat-each, if-each, only-most, counted-one, one-most}
use Rattle.reg_assign_reading.proofs.ChosenForm.{Placed, chosen-on, value-there, Housing, housing, put-writes, copies-are, IsCopy}
use Rattle.reg_assign_reading.proofs.ChosenThere.{ValuePoint, value-access, place_access, def-there, first-there, pas-s-there}
use Rattle.reg_assign_reading.proofs.ChosenSource.{no-write-home, write-bank, in-any-place, none-in}
use Rattle.reg_assign_reading.proofs.ChosenServes.{dir-one, dir-none, ear-at, ear-on, general-not-write}
use Rattle.reg_assign_reading.proofs.FitRead.{any-in}

-- ---- counts

pub small-covers : (on : Chosen) (cs ds : List Column) → count on ds ≤ 1 → (1 ≤ count on ds → 1 ≤ count on cs) → Holds on (covers cs ds)
small-covers on cs ds h f = covers-hold on cs ds (by (count on ds) refl h f)
  where
    by : (n : ℕ) → count on ds ≡ n → count on ds ≤ 1 → (1 ≤ count on ds → 1 ≤ count on cs) → count on ds ≤ count on cs
    by zero e l g = omega (arith, e)
    by (suc n) e l g = let c = g (omega (arith, e)) in omega (arith, c, l)

-- a column covers another
pub covers-column : (on : Chosen) (cs : List Column) (d : Column) → (on d ≡ true → 1 ≤ count on cs) → Holds on (covers cs (d ∷ []))
covers-column on cs d f = small-covers on cs (d ∷ []) (one-most on d) (λ h. f (on-one on d h))

pub two-most : (on : Chosen) (c d : Column) → (on c ≡ true → on d ≡ true → ⊥) → count on (c ∷ d ∷ []) ≤ 1
two-most on c d n = by (on c) refl (on d) refl
  where
    by : (a : Bool) → on c ≡ a → (b : Bool) → on d ≡ b → cost_where a 1 + (cost_where b 1 + 0) ≤ 1
    by true e true f = absurd (n e f)
    by true e false f = omega arith
    by false e true f = omega arith
    by false e false f = omega arith

flat-none : {X : Type 0} (on : Chosen) (f : X → List Column) (xs : List X) → ((x : X) → In x xs → count on (f x) ≡ 0) → count on (flat_map f xs) ≡ 0
flat-none on f [] h = refl
flat-none on f (x ∷ xs) h =
    let a = count-append on (f x) (flat_map f xs) in
    let z = h x (inl refl) in
    let ih = flat-none on f xs (λ y i. h y (inr i)) in
    omega (arith, a, z, ih)

-- ---- where a value is first put

abbrev tally : Place → List Bank → ℕ
tally q [] = 0
tally q (h ∷ hs) = cost_where (is_in_bank h q) 1 + tally q hs

general-tally : (p : Plan) (q : Place) → IsGeneral p q → tally q homes ≡ 1
general-tally p (place.A k) g = refl
general-tally p (place.B k) g = refl
general-tally p (place.Slot k) g = refl
general-tally p (place.L k) g = absurd g
general-tally p (place.LD k) g = absurd g
general-tally p (place.S k) g = absurd g
general-tally p (place.SD k) g = absurd g

write-tally : (q : Place) → is_write_register q ≡ true → tally q homes ≡ 0
write-tally (place.A k) e = absurd (false≢true e)
write-tally (place.B k) e = absurd (false≢true e)
write-tally (place.L k) e = absurd (false≢true e)
write-tally (place.LD k) e = absurd (false≢true e)
write-tally (place.S k) e = refl
write-tally (place.SD k) e = refl
write-tally (place.Slot k) e = absurd (false≢true e)

def-on : (labels : List Label) (p : Plan) (on : Chosen) (v : Value) (h : Bank) → Placed labels p on → In v (values labels) → is_fetched v.origin ≡ false → In h homes → on (Def v.var h) ≡ is_in_bank h (home p v.var).defined
def-on labels p on v h g i n j = g.is.same (Def v.var h) (def-there labels v h i n j)

defs-counted : (on : Chosen) (x : ℕ) (q : Place) (hs : List Bank) → ((h : Bank) → In h hs → on (Def x h) ≡ is_in_bank h q) → count on (map (Def x) hs) ≡ tally q hs
defs-counted on x q [] f = refl
defs-counted on x q (h ∷ hs) f =
    ap (λ b. cost_where b 1 + count on (map (Def x) hs)) (f h (inl refl))
    ∙ ap (λ n. cost_where (is_in_bank h q) 1 + n) (defs-counted on x q hs (λ j i. f j (inr i)))

def-count : (labels : List Label) (p : Plan) (on : Chosen) (v : Value) → Placed labels p on → In v (values labels) → is_fetched v.origin ≡ false → count on (def v.var) ≡ tally (home p v.var).defined homes
def-count labels p on v g i n = defs-counted on v.var (home p v.var).defined homes (λ h j. def-on labels p on v h g i n j)

pub unfetched : (s : ValueOrigin) → is_parameter s ≡ true → is_fetched s ≡ false
unfetched (Parameter l i) e = refl
unfetched Result e = refl
unfetched (Fetched m i) e = absurd (false≢true e)

pub result-unfetched : (s : ValueOrigin) → is_result s ≡ true → is_fetched s ≡ false
result-unfetched (Parameter l i) e = refl
result-unfetched Result e = refl
result-unfetched (Fetched m i) e = absurd (false≢true e)

not-both : (s : ValueOrigin) {P : Type 0} → is_parameter s ≡ true → s ≡ Result → P
not-both s e f = absurd (false≢true (ap is_parameter (sym f) ∙ e))

not-read : (s : ValueOrigin) (m : Mem) (i : ℕ) {P : Type 0} → is_fetched s ≡ false → s ≡ Fetched m i → P
not-read s m i e f = absurd (false≢true (sym e ∙ ap is_fetched f))

housing-of : (labels : List Label) (p : Plan) (v : Value) → Fits labels p → In v (values labels) → is_fetched v.origin ≡ false → Housing labels p v
housing-of labels p v f i n = housing labels p v f i (λ e. absurd (false≢true (sym n ∙ e)))

parameter-once : (labels : List Label) (p : Plan) (on : Chosen) (v : Value) → Placed labels p on → In v (values labels) → is_parameter v.origin ≡ true → count on (def v.var) ≡ 1
parameter-once labels p on v g i e = by (housing-of labels p v g.fits i n)
  where
    n : is_fetched v.origin ≡ false
    n = unfetched v.origin e

    by : Housing labels p v → count on (def v.var) ≡ 1
    by (Housing.put_general m d c) = def-count labels p on v g i n ∙ general-tally p (home p v.var).defined d
    by (Housing.put_read m k r d c) = not-read v.origin m k n r
    by (Housing.put_early r w) = not-both v.origin e r

pub parameter-lines : (labels : List Label) (p : Plan) (on : Chosen) (v : Value) → Placed labels p on → In v (values labels) → Each (Holds on) (parameter_choice v)
parameter-lines labels p on v g i = if-each (Holds on) (is_parameter v.origin) (exactly_one (def v.var)) (λ e. one-holds on (def v.var) (parameter-once labels p on v g i e))

no-dirs : (labels : List Label) (p : Plan) (on : Chosen) (x : ℕ) → Placed labels p on → goes_there p x ≡ false → count on (flat_map dir (uses_of labels x)) ≡ 0
no-dirs labels p on x g n = flat-none on dir (uses_of labels x) (λ u j.
    let w = used-of labels u x j in
    dir-none labels p on u g w.0 (subst (λ y. goes_there p y ≡ false) (sym w.1) n))

one-dir : (labels : List Label) (p : Plan) (on : Chosen) (v : Value) → Placed labels p on → IsPutEarly labels p v.var (home p v.var) → count on (flat_map dir (uses_of labels v.var)) ≡ 1
one-dir labels p on v g w =
    let j : In w.use_ (uses_of labels v.var) = subst (λ us. In w.use_ us) (sym w.one) (inl refl) in
    let u = used-of labels w.use_ v.var j in
    let there : goes_there p w.use_.value ≡ true = subst (λ y. goes_there p y ≡ true) (sym u.1) (put-writes labels p v.var (home p v.var) g.fits w) in
    let d = dir-one labels p on w.use_ g u.0 w.early there in
    let a = count-append on (dir w.use_) [] in
    let s : count on (flat_map dir (uses_of labels v.var)) ≡ count on (dir w.use_ ++ []) = ap (λ us. count on (flat_map dir us)) w.one in
    omega (arith, s, a, d)

result-once : (labels : List Label) (p : Plan) (on : Chosen) (v : Value) → Placed labels p on → In v (values labels) → is_result v.origin ≡ true → count on (def v.var ++ flat_map dir (uses_of labels v.var)) ≡ 1
result-once labels p on v g i e = by (housing-of labels p v g.fits i n)
  where
    n : is_fetched v.origin ≡ false
    n = result-unfetched v.origin e

    by : Housing labels p v → count on (def v.var ++ flat_map dir (uses_of labels v.var)) ≡ 1
    by (Housing.put_general m d c) =
        let a = count-append on (def v.var) (flat_map dir (uses_of labels v.var)) in
        let t : count on (def v.var) ≡ 1 = def-count labels p on v g i n ∙ general-tally p (home p v.var).defined d in
        let z = no-dirs labels p on v.var g (general-not-write p (home p v.var).defined d) in
        omega (arith, a, t, z)
    by (Housing.put_read m k r d c) = not-read v.origin m k n r
    by (Housing.put_early r w) =
        let a = count-append on (def v.var) (flat_map dir (uses_of labels v.var)) in
        let t : count on (def v.var) ≡ 0 = def-count labels p on v g i n ∙ write-tally (home p v.var).defined (put-writes labels p v.var (home p v.var) g.fits w) in
        let o = one-dir labels p on v g w in
        omega (arith, a, t, o)

pub result-lines : (labels : List Label) (p : Plan) (on : Chosen) (v : Value) → Placed labels p on → In v (values labels) → Each (Holds on) (result_choice labels v)
result-lines labels p on v g i = if-each (Holds on) (is_result v.origin) (exactly_one (def v.var ++ flat_map dir (uses_of labels v.var))) (λ e. one-holds on (def v.var ++ flat_map dir (uses_of labels v.var)) (result-once labels p on v g i e))

-- ---- copies

record Copy (p : Plan) (x : ℕ) (h : Bank) : Type 0 where
  at : Place
  there : In at (home p x).copied
  bank : bank_of at ≡ h

fill-copy : (labels : List Label) (p : Plan) (on : Chosen) (x : ℕ) (h : Bank) → Placed labels p on → on (Fill x h) ≡ true → Copy p x h
fill-copy labels p on x h g e =
    let w = any-in (is_in_bank h) (home p x).copied (chosen-on labels p on g (Fill x h) e) in
    record { at = w.0; there = w.1; bank = sym (bank-true h (bank_of w.0) w.2) }

same-bank-of : (p : Plan) (q r : Place) → IsGeneral p q → bank_of q ≡ bank_of r → same_bank q r ≡ true
same-bank-of p (place.A i) (place.A j) g e = refl
same-bank-of p (place.A i) _ g e = absurd (cc)
same-bank-of p (place.B i) (place.B j) g e = refl
same-bank-of p (place.B i) _ g e = absurd (cc)
same-bank-of p (place.Slot i) (place.Slot j) g e = refl
same-bank-of p (place.Slot i) _ g e = absurd (cc)
same-bank-of p (place.L i) r g e = absurd g
same-bank-of p (place.LD i) r g e = absurd g
same-bank-of p (place.S i) r g e = absurd g
same-bank-of p (place.SD i) r g e = absurd g

-- a copy in a bank, of a value that isn't there already
copied-elsewhere : (labels : List Label) (p : Plan) (x : ℕ) (h : Bank) → Fits labels p → AreCopies labels p x (home p x) → In h homes → Copy p x h → bank_of (home p x).defined ≡ h → ⊥
copied-elsewhere labels p x h f c i w e = by (each-in (IsCopy p (home p x).defined) w.at (home p x).copied (copies-are labels p x (home p x) f c) w.there)
  where
    by : IsCopy p (home p x).defined w.at → ⊥
    by (IsCopy.copy_general g n) = false≢true (sym n ∙ same-bank-of p w.at (home p x).defined g (w.bank ∙ sym e))
    by (IsCopy.copy_word r) = no-write-home (subst (λ z. In z homes) (sym w.bank ∙ write-bank w.at r) i)

once-home : (labels : List Label) (p : Plan) (on : Chosen) (v : Value) (h : Bank) → Placed labels p on → In v (values labels) → is_fetched v.origin ≡ false → In h homes → Holds on (at_most 1 (home_columns v.var h))
once-home labels p on v h g i n j = most-holds on 1 (home_columns v.var h) (two-most on (Def v.var h) (Fill v.var h) (λ e f.
    by (housing-of labels p v g.fits i n) (fill-copy labels p on v.var h g f) (sym (bank-true h (bank_of (home p v.var).defined) (chosen-on labels p on g (Def v.var h) e)))))
  where
    by : Housing labels p v → Copy p v.var h → bank_of (home p v.var).defined ≡ h → ⊥
    by (Housing.put_general m d c) w e = copied-elsewhere labels p v.var h g.fits c j w e
    by (Housing.put_read m k r d c) w e = not-read v.origin m k n r
    by (Housing.put_early r w') w e = none-in w.at (home p v.var).copied w'.copied w.there

register-bank : (p : Plan) (q : Place) → IsGeneral p q → (is_slot q ≡ true → ⊥) → (bank_of q ≡ A) ⊎ (bank_of q ≡ B)
register-bank p (place.A k) g n = inl refl
register-bank p (place.B k) g n = inr refl
register-bank p (place.Slot k) g n = absurd (n refl)
register-bank p (place.L k) g n = absurd g
register-bank p (place.LD k) g n = absurd g
register-bank p (place.S k) g n = absurd g
register-bank p (place.SD k) g n = absurd g

pub in-bank : (h : Bank) (q : Place) → bank_of q ≡ h → is_in_bank h q ≡ true
in-bank h q e = subst (λ z. is_in_bank z q ≡ true) e (bank-itself (bank_of q))

-- a value with a copy is first put into a register
copied-register : (labels : List Label) (p : Plan) (on : Chosen) (v : Value) (q : Place) → Placed labels p on → In v (values labels) → is_fetched v.origin ≡ false → In q (home p v.var).copied → 1 ≤ count on (in_register v.var)
copied-register labels p on v q g i n j = by (housing-of labels p v g.fits i n)
  where
    on-in : (h : Bank) → In h homes → bank_of (home p v.var).defined ≡ h → on (Def v.var h) ≡ true
    on-in h k e = def-on labels p on v h g i n k ∙ in-bank h (home p v.var).defined e

    by : Housing labels p v → 1 ≤ count on (in_register v.var)
    by (Housing.put_general m d c) = ⊎_elim
        (λ (e : bank_of (home p v.var).defined ≡ A). some-counted on (Def v.var A) (in_register v.var) (inl refl) (on-in A (inl refl) e))
        (λ (e : bank_of (home p v.var).defined ≡ B). some-counted on (Def v.var B) (in_register v.var) (inr (inl refl)) (on-in B (inr (inl refl)) e))
        (register-bank p (home p v.var).defined d (λ s. none-in q (home p v.var).copied (c.from_slot s) j))
    by (Housing.put_read m k r d c) = not-read v.origin m k n r
    by (Housing.put_early r w) = none-in q (home p v.var).copied w.copied j

fill-from-register : (labels : List Label) (p : Plan) (on : Chosen) (v : Value) (h : Bank) → Placed labels p on → In v (values labels) → is_fetched v.origin ≡ false → Holds on (covers (in_register v.var) (fill v.var h))
fill-from-register labels p on v h g i n = covers-column on (in_register v.var) (Fill v.var h) (λ e.
    let w = fill-copy labels p on v.var h g e in
    copied-register labels p on v w.at g i n w.there)

-- the word of a use that waits is among the copies
word-copied : (labels : List Label) (p : Plan) (v : Value) (u : Use) → Fits labels p → In v (values labels) → is_fetched v.origin ≡ false → In u (uses_of labels v.var) → is_early p u ≡ true → goes_there p v.var ≡ false → In (word_register p u) (home p v.var).copied
word-copied labels p v u f i n j e t = by (housing-of labels p v f i n)
  where
    by : Housing labels p v → In (word_register p u) (home p v.var).copied
    by (Housing.put_general m d c) =
        subst (In (word_register p u)) (sym c.copied) (in-right (word_register p u) c.fills (map (word_register p) (early_uses labels p v.var))
        (map-in (word_register p) u (early_uses labels p v.var) (kept-in (is_early p) u (uses_of labels v.var) j e)))
    by (Housing.put_read m k r d c) = not-read v.origin m k n r
    by (Housing.put_early r w) = absurd (false≢true (sym t ∙ put-writes labels p v.var (home p v.var) f w))

word-line : (labels : List Label) (p : Plan) (on : Chosen) (v : Value) (u : Use) → Placed labels p on → In v (values labels) → is_fetched v.origin ≡ false → In u (uses_of labels v.var) → Holds on (covers (in_register v.var) (ear u))
word-line labels p on v u g i n j =
    let w = used-of labels u v.var j in
    small-covers on (in_register v.var) (ear u) (only-most on (EarlyWrite u.point u.operand) (first p u.point) eight (ear-at labels p on u g w.0) refl) (λ h.
    let c = counted-one on (EarlyWrite u.point u.operand) eight h in
    let e = ear-on labels p on u g w.0 c.0 c.2 in
    copied-register labels p on v (word_register p u) g i n (word-copied labels p v u g.fits i n j e.0 (subst (λ x. goes_there p x ≡ false) w.1 e.1)))

pub copy-cover-holds : (labels : List Label) (p : Plan) (on : Chosen) (v : Value) → Placed labels p on → In v (values labels) → Each (Holds on) (copy_cover labels v)
copy-cover-holds labels p on v g i = if-each (Holds on) (is_used labels v.var && not (is_fetched v.origin)) (copy_lines labels v.var) (λ e.
    let n = not-true (is_fetched v.origin) (and_parts (is_used labels v.var) (not (is_fetched v.origin)) e).1 in
    let words = flat_map (word_from_register v.var) (uses_of labels v.var) in
    each-append (Holds on) (map (λ h. at_most 1 (home_columns v.var h)) homes) (map (λ h. covers (in_register v.var) (fill v.var h)) homes ++ words)
    (mapped-each (Holds on) (λ h. at_most 1 (home_columns v.var h)) homes (each-from _ homes (λ h j. once-home labels p on v h g i n j)))
    (each-append (Holds on) (map (λ h. covers (in_register v.var) (fill v.var h)) homes) words
    (mapped-each (Holds on) (λ h. covers (in_register v.var) (fill v.var h)) homes (each-from _ homes (λ h j. fill-from-register labels p on v h g i n)))
    (flat-each (Holds on) (word_from_register v.var) (uses_of labels v.var) (each-from _ (uses_of labels v.var) (λ u j.
    if-each (Holds on) (is_written u.role) (covers (in_register v.var) (ear u) ∷ []) (λ r. (word-line labels p on v u g i n j, tt)))))))

-- ---- read values that stay

origin-begin : (n f : ℕ) (s : ValueOrigin) → In f (origin_beginnings n s) → (m : Mem) × (i : ℕ) × (s ≡ Fetched m i) × In f (beginnings m n)
origin-begin n f (Parameter l j) i = absurd i
origin-begin n f Result i = absurd i
origin-begin n f (Fetched m j) i = (m, j, refl, i)

stay-first : (labels : List Label) (p : Plan) (on : Chosen) (v : Value) (f : ℕ) (w : ValuePoint labels v) → Placed labels p on → In v (values labels) → In f (origin_beginnings (place_words w.point.place) v.origin) → on (Stay v.var f) ≡ true → on (First v.point f) ≡ true
stay-first labels p on v f w g i b e =
    let s = origin-begin (place_words w.point.place) f v.origin b in
    let a = place_access v.point s.0 w.point.place in
    let c = and_parts (nat_eq (first p (value_at labels v.var).point) f) (stays labels p v.var) (chosen-on labels p on g (Stay v.var f) e) in
    g.is.same (First v.point f) (first-there labels a f (value-access labels v s.0 s.1 w s.2) s.3)
    ∙ subst (λ (z : Value). nat_eq (first p z.point) f ≡ true) (value-there labels v g.form i) c.0

pub stay-lines : (labels : List Label) (p : Plan) (on : Chosen) (v : Value) (w : ValuePoint labels v) → Placed labels p on → In v (values labels) → Each (Holds on) (stay_begins labels (place_words w.point.place) v)
stay-lines labels p on v w g i =
    let n = place_words w.point.place in
    if-each (Holds on) (is_used labels v.var) (map (λ f. covers (First v.point f ∷ []) (Stay v.var f ∷ [])) (origin_beginnings n v.origin)) (λ u.
    mapped-each (Holds on) (λ f. covers (First v.point f ∷ []) (Stay v.var f ∷ [])) (origin_beginnings n v.origin) (each-from _ (origin_beginnings n v.origin) (λ f b.
    covers-column on (First v.point f ∷ []) (Stay v.var f) (λ e. some-counted on (First v.point f) (First v.point f ∷ []) (inl refl) (stay-first labels p on v f w g i b e)))))

-- ---- values that come to slots

pub slot-bank : (q : Place) → bank_of q ≡ M → is_slot q ≡ true
slot-bank (place.Slot k) e = refl
slot-bank _ e = absurd (cc)

pub named-register : (o : Option ℕ) → IsEighth o → is_some o ≡ true → (r : ℕ) × (r < 8) × (names o r ≡ true)
named-register (Some r) h e = (r, h, in-itself r)
named-register None h e = absurd (false≢true e)

comes-counted : (labels : List Label) (p : Plan) (on : Chosen) (v : Value) (w : ValuePoint labels v) → Placed labels p on → comes_to_slot labels p v ≡ true → 1 ≤ count on (map (WriteVia v.point) eight)
comes-counted labels p on v w g e =
    let at = g.fits.points v.point w.point w.at in
    let some = at.passes.writes (any-value (comes_to_slot labels p) v (place_values v.point w.point.place) w.here e) in
    let r = named-register (pass p v.point).s at.passes.written some in
    some-counted on (WriteVia v.point r.0) (map (WriteVia v.point) eight) (map-in (WriteVia v.point) r.0 eight (below-eight r.0 r.1))
    (g.is.same (WriteVia v.point r.0) (pas-s-there labels v.point w.point r.0 w.at (at.passes.writes_only some) r.1) ∙ r.2)
  where
    any-value : (f : Value → Bool) (v : Value) (vs : List Value) → In v vs → f v ≡ true → list_any f vs ≡ true
    any-value f v [] i e = absurd i
    any-value f v (z ∷ vs) i e = ⊎_elim
        (λ (a : z ≡ v). or_left (f z) (list_any f vs) (subst (λ y. f y ≡ true) (sym a) e))
        (λ (j : In v vs). or_right (f z) (list_any f vs) (any-value f v vs j e))
        i

fill-comes : (labels : List Label) (p : Plan) (on : Chosen) (v : Value) → Placed labels p on → is_used labels v.var ≡ true → on (Fill v.var M) ≡ true → comes_to_slot labels p v ≡ true
fill-comes labels p on v g u e =
    let c = fill-copy labels p on v.var M g e in
    let copied = list_any is_slot (home p v.var).copied in
    let defined = is_result v.origin && is_slot (home p v.var).defined in
    and_from (is_used labels v.var) (copied || defined) u (or_left copied defined (in-any-place is_slot c.at (home p v.var).copied c.there (slot-bank c.at c.bank)))

def-comes : (labels : List Label) (p : Plan) (on : Chosen) (v : Value) → Placed labels p on → is_used labels v.var ≡ true → is_result v.origin ≡ true → on (Def v.var M) ≡ true → comes_to_slot labels p v ≡ true
def-comes labels p on v g u r e =
    let copied = list_any is_slot (home p v.var).copied in
    let slot = slot-bank (home p v.var).defined (sym (bank-true M (bank_of (home p v.var).defined) (chosen-on labels p on g (Def v.var M) e))) in
    let defined = is_result v.origin && is_slot (home p v.var).defined in
    and_from (is_used labels v.var) (copied || defined) u (or_right copied defined (and_from (is_result v.origin) (is_slot (home p v.var).defined) r slot))

pub written-lines : (labels : List Label) (p : Plan) (on : Chosen) (v : Value) (w : ValuePoint labels v) → Placed labels p on → Each (Holds on) (value_written labels v)
written-lines labels p on v w g = if-each (Holds on) (is_used labels v.var) (slot_written v.point (Fill v.var M) ∷ result_written v) (λ u. (
  covers-column on (map (WriteVia v.point) eight) (Fill v.var M) (λ e. comes-counted labels p on v w g (fill-comes labels p on v g u e)),
  if-each (Holds on) (is_result v.origin) (slot_written v.point (Def v.var M) ∷ []) (λ r.
      (covers-column on (map (WriteVia v.point) eight) (Def v.var M) (λ e. comes-counted labels p on v w g (def-comes labels p on v g u r e)), tt)),
))
