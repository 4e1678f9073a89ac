-- What the homes of a placement that fits cost: the columns of the values and those of the words that are copied early.
use Rattle.std.proofs.Common.{◌≡◌, ℕ, zero, suc, ◌+◌, Bool, true, false, not, ◌&&◌, ◌||◌, if◌then◌else◌, Option, Some, None, List, [], ◌∷◌, ◌++◌, map, filter, refl, sym, ap, subst, inl, inr, ◌∙◌, arith}
use Rattle.std.specs.List.{flat_map, list_any}
use Rattle.std.proofs.lemmas.Bool.{false≢true, false_from_ne_true}
use Rattle.nv_base.specs.Sets.{is_in}
use Rattle.ssu_ir.specs.Tree.{Label}
use Rattle.ssu_ir.specs.Single.{single}
use Rattle.place_plan.specs.declared.place.Place.{Place}
use Rattle.place_plan.specs.declared.place.Place.TheVariants as place
use Rattle.place_plan.specs.Costs.{entry_cost, result_cost, defined_cost, copied_cost, all_copied_cost, values_cost}
use Rattle.place_plan.specs.Plan.{Plan, home, first}
use Rattle.place_plan.specs.Uses.{ValueOrigin, Parameter, Result, Fetched, Value, values, Use, uses, uses_of, is_used}
use Rattle.place_plan.specs.Fits.{IsGeneral, is_write_register, word_register, is_early, early_uses, maybe, AreCopies, IsPutEarly, is_sort_homed, wants_home, Fits}
use Rattle.place_plan.proofs.Sound.{Each}
use Rattle.place_plan.proofs.Joined.{values-different}
use Rattle.zo_model.specs.Program.{cost_where}
use Rattle.bank_prog_form.specs.declared.column.Bank.TheVariants.{A, B, M}
use Rattle.bank_prog_form.specs.declared.column.Column.TheVariants.{Fill}
use Rattle.bank_prog_form.specs.Columns.{is_fetched, origin_defs, def_columns, fill_columns}
use Rattle.bank_prog_form.specs.Rows.{is_parameter}
use Rattle.bank_prog.specs.Meaning.{named_cost}
use Rattle.reg_assign_reading.specs.inner.Chosen.{is_in_bank, waits, goes_there, chosen}
use Rattle.reg_assign_reading.proofs.Counts.{In, in-kept, each-from}
use Rattle.reg_assign_reading.proofs.FactsValues.{same-value, used-of}
use Rattle.reg_assign_reading.proofs.FitHomes.{uses-none}
use Rattle.bank_prog.proofs.UseSums.{sum_of}
use Rattle.reg_assign_reading.proofs.CostSums.{cost-append}
use Rattle.reg_assign_reading.proofs.CostValues.{copied-append, missing, vars-in}
use Rattle.reg_assign_reading.proofs.ChosenForm.{Housing, put_general, put_read, put_early, housing, put-writes, word-writes, words-write}
use Rattle.reg_assign_reading.proofs.ChosenServes.{general-not-write, read-not-write, parameter-general}

-- ---- the definition

entry-sum : (p : Plan) (q : Place) → IsGeneral p q → cost_where (is_in_bank A q) 0 + (cost_where (is_in_bank B q) 1 + (cost_where (is_in_bank M q) 17 + 0)) ≡ entry_cost q
entry-sum p (place.A k) g = refl
entry-sum p (place.B k) g = refl
entry-sum p (place.Slot k) g = refl
entry-sum p (place.L k) g = absurd g
entry-sum p (place.LD k) g = absurd g
entry-sum p (place.S k) g = absurd g
entry-sum p (place.SD k) g = absurd g

free-sum : (a b m : Bool) → cost_where a 0 + (cost_where b 0 + (cost_where m 0 + 0)) ≡ 0
free-sum true true true = refl
free-sum true true false = refl
free-sum true false true = refl
free-sum true false false = refl
free-sum false true true = refl
free-sum false true false = refl
free-sum false false true = refl
free-sum false false false = refl

result-sum : (q : Place) → cost_where (is_in_bank A q) 0 + (cost_where (is_in_bank B q) 0 + (cost_where (is_in_bank M q) 16 + 0)) ≡ result_cost q
result-sum (place.A k) = refl
result-sum (place.B k) = refl
result-sum (place.Slot k) = refl
result-sum (place.L k) = refl
result-sum (place.LD k) = refl
result-sum (place.S k) = refl
result-sum (place.SD k) = refl

defs-cost : (labels : List Label) (p : Plan) (x : ℕ) (s : ValueOrigin) → (is_parameter s ≡ true → IsGeneral p (home p x).defined) → named_cost (chosen labels p) (origin_defs x s) ≡ defined_cost s (home p x).defined
defs-cost labels p x (Parameter zero i) g = entry-sum p (home p x).defined (g refl)
defs-cost labels p x (Parameter (suc l) i) g = free-sum (is_in_bank A (home p x).defined) (is_in_bank B (home p x).defined) (is_in_bank M (home p x).defined)
defs-cost labels p x Result g = result-sum (home p x).defined
defs-cost labels p x (Fetched m i) g = refl

-- ---- copies

-- what the columns of copies into banks cost, where these are the copies
abbrev fills_price : List Place → ℕ
fills_price qs = cost_where (list_any (is_in_bank A) qs) 1 + (cost_where (list_any (is_in_bank B) qs) 1 + (cost_where (list_any (is_in_bank M) qs) 17 + 0))

fills-sum : (a b m : Option ℕ) → fills_price (maybe place.A a ++ (maybe place.B b ++ maybe place.Slot m)) ≡ all_copied_cost (maybe place.A a ++ (maybe place.B b ++ maybe place.Slot m))
fills-sum (Some i) (Some j) (Some k) = refl
fills-sum (Some i) (Some j) None = refl
fills-sum (Some i) None (Some k) = refl
fills-sum (Some i) None None = refl
fills-sum None (Some j) (Some k) = refl
fills-sum None (Some j) None = refl
fills-sum None None (Some k) = refl
fills-sum None None None = refl

any-append : (f : Place → Bool) (a b : List Place) → list_any f b ≡ false → list_any f (a ++ b) ≡ list_any f a
any-append f [] b e = e
any-append f (q ∷ a) b e = ap (λ c. f q || c) (any-append f a b e)

none-written : (f : Place → Bool) (qs : List Place) → ((q : Place) → is_write_register q ≡ true → f q ≡ false) → Each (λ q. is_write_register q ≡ true) qs → list_any f qs ≡ false
none-written f [] n h = refl
none-written f (q ∷ qs) n h = ap (λ c. c || list_any f qs) (n q h.0) ∙ none-written f qs n h.1

not-in-a : (q : Place) → is_write_register q ≡ true → is_in_bank A q ≡ false
not-in-a (place.A k) e = absurd (false≢true e)
not-in-a (place.B k) e = refl
not-in-a (place.L k) e = refl
not-in-a (place.LD k) e = refl
not-in-a (place.S k) e = refl
not-in-a (place.SD k) e = refl
not-in-a (place.Slot k) e = refl

not-in-b : (q : Place) → is_write_register q ≡ true → is_in_bank B q ≡ false
not-in-b (place.A k) e = refl
not-in-b (place.B k) e = absurd (false≢true e)
not-in-b (place.L k) e = refl
not-in-b (place.LD k) e = refl
not-in-b (place.S k) e = refl
not-in-b (place.SD k) e = refl
not-in-b (place.Slot k) e = refl

not-in-m : (q : Place) → is_write_register q ≡ true → is_in_bank M q ≡ false
not-in-m (place.A k) e = refl
not-in-m (place.B k) e = refl
not-in-m (place.L k) e = refl
not-in-m (place.LD k) e = refl
not-in-m (place.S k) e = refl
not-in-m (place.SD k) e = refl
not-in-m (place.Slot k) e = absurd (false≢true e)

price-append : (qs ws : List Place) → Each (λ q. is_write_register q ≡ true) ws → fills_price (qs ++ ws) ≡ fills_price qs
price-append qs ws h =
    ap (λ b. cost_where b 1 + (cost_where (list_any (is_in_bank B) (qs ++ ws)) 1 + (cost_where (list_any (is_in_bank M) (qs ++ ws)) 17 + 0))) (any-append (is_in_bank A) qs ws (none-written (is_in_bank A) ws not-in-a h))
    ∙ ap (λ b. cost_where (list_any (is_in_bank A) qs) 1 + (cost_where b 1 + (cost_where (list_any (is_in_bank M) (qs ++ ws)) 17 + 0))) (any-append (is_in_bank B) qs ws (none-written (is_in_bank B) ws not-in-b h))
    ∙ ap (λ b. cost_where (list_any (is_in_bank A) qs) 1 + (cost_where (list_any (is_in_bank B) qs) 1 + (cost_where b 17 + 0))) (any-append (is_in_bank M) qs ws (none-written (is_in_bank M) ws not-in-m h))

-- ---- words that are copied early

-- what the word of a use costs
abbrev pub early_price : Plan → Use → ℕ
early_price p u = cost_where (waits p u.point u.operand && not (goes_there p u.value)) 1

copied-write : (q : Place) → is_write_register q ≡ true → copied_cost q ≡ 1
copied-write (place.A k) e = refl
copied-write (place.B k) e = refl
copied-write (place.L k) e = refl
copied-write (place.LD k) e = refl
copied-write (place.S k) e = refl
copied-write (place.SD k) e = refl
copied-write (place.Slot k) e = absurd (false≢true e)

-- the word of a use that is put early is put into a write register, and isn't put there by the definition
record IsCopied (p : Plan) (u : Use) : Type 0 where
  place_ : is_early p u ≡ true → is_write_register (word_register p u) ≡ true
  apart : goes_there p u.value ≡ false

words-sum : (p : Plan) (us : List Use) → Each (IsCopied p) us → all_copied_cost (map (word_register p) (filter (is_early p) us)) ≡ sum_of (early_price p) us
words-sum p [] h = refl
words-sum p (u ∷ us) h = by (is_early p u) refl (words-sum p us h.1)
  where
    by : (b : Bool) → is_early p u ≡ b → all_copied_cost (map (word_register p) (filter (is_early p) us)) ≡ sum_of (early_price p) us
        → all_copied_cost (map (word_register p) (if b then u ∷ filter (is_early p) us else filter (is_early p) us)) ≡ early_price p u + sum_of (early_price p) us
    by true e ih =
        let c = copied-write (word_register p u) (h.0.place_ e) in
        let d : early_price p u ≡ 1 = ap (λ a. cost_where (a && not (goes_there p u.value)) 1) e ∙ ap (λ a. cost_where (true && not a) 1) h.0.apart in
        omega (arith, c, d, ih)
    by false e ih =
        let d : early_price p u ≡ 0 = ap (λ a. cost_where (a && not (goes_there p u.value)) 1) e in
        omega (arith, d, ih)

stays-apart : (b : Bool) → cost_where (b && not true) 1 ≡ 0
stays-apart true = refl
stays-apart false = refl

-- ---- a value

-- what the copies of a value cost, by columns
abbrev copies_price : List Label → Plan → Value → ℕ
copies_price labels p v = named_cost (chosen labels p) (fill_columns labels v) + sum_of (early_price p) (uses_of labels v.var)

unused-price : (labels : List Label) (p : Plan) (v : Value) → is_used labels v.var ≡ false → copies_price labels p v ≡ 0
unused-price labels p v e =
    let a : named_cost (chosen labels p) (fill_columns labels v) ≡ 0 = ap (λ b. named_cost (chosen labels p) (if b then (Fill v.var A, 1) ∷ (Fill v.var B, 1) ∷ (Fill v.var M, 17) ∷ [] else [])) e in
    let b : sum_of (early_price p) (uses_of labels v.var) ≡ 0 = ap (sum_of (early_price p)) (uses-none v.var (uses labels) e) in
    omega (arith, a, b)

used-fills : (labels : List Label) (p : Plan) (v : Value) → is_used labels v.var ≡ true → named_cost (chosen labels p) (fill_columns labels v) ≡ fills_price (home p v.var).copied
used-fills labels p v e = ap (λ b. named_cost (chosen labels p) (if b then (Fill v.var A, 1) ∷ (Fill v.var B, 1) ∷ (Fill v.var M, 17) ∷ [] else [])) e

copies-sum : (labels : List Label) (p : Plan) (v : Value) → Fits labels p → AreCopies labels p v.var (home p v.var) → goes_there p v.var ≡ false → copies_price labels p v ≡ all_copied_cost (home p v.var).copied
copies-sum labels p v f c g = by (is_used labels v.var) refl
  where
    by : (b : Bool) → is_used labels v.var ≡ b → copies_price labels p v ≡ all_copied_cost (home p v.var).copied
    by false e = unused-price labels p v e ∙ ap all_copied_cost (sym (c.unused e))
    by true e =
        let words = map (word_register p) (early_uses labels p v.var) in
        let a : fills_price c.fills ≡ all_copied_cost c.fills = subst (λ qs. fills_price qs ≡ all_copied_cost qs) (sym c.are.in_order) (fills-sum c.are.a c.are.b c.are.slot) in
        let b = used-fills labels p v e ∙ ap fills_price c.copied ∙ price-append c.fills words (words-write labels p v.var f) ∙ a in
        let d : all_copied_cost words ≡ sum_of (early_price p) (uses_of labels v.var) = words-sum p (uses_of labels v.var) (each-from (IsCopied p) (uses_of labels v.var) (λ u i.
        let w = used-of labels u v.var i in
        record { place_ = λ o. word-writes labels p u f w.0 o; apart = ap (goes_there p) w.1 ∙ g })) in
        let h = copied-append c.fills words in
        let k = ap all_copied_cost c.copied in
        omega (arith, b, d, h, k)

early-sum : (labels : List Label) (p : Plan) (v : Value) → Fits labels p → IsPutEarly labels p v.var (home p v.var) → copies_price labels p v ≡ all_copied_cost (home p v.var).copied
early-sum labels p v f e = by (is_used labels v.var) refl
  where
    by : (b : Bool) → is_used labels v.var ≡ b → copies_price labels p v ≡ all_copied_cost (home p v.var).copied
    by false o = unused-price labels p v o ∙ ap all_copied_cost (sym e.copied)
    by true o =
        let u = e.use_ in
        let i : In u (uses_of labels v.var) = subst (λ us. In u us) (sym e.one) (inl refl) in
        let w = used-of labels u v.var i in
        let there : goes_there p u.value ≡ true = ap (goes_there p) w.1 ∙ put-writes labels p v.var (home p v.var) f e in
        let a : early_price p u ≡ 0 = ap (λ b. cost_where (waits p u.point u.operand && not b) 1) there ∙ stays-apart (waits p u.point u.operand) in
        let b : sum_of (early_price p) (uses_of labels v.var) ≡ early_price p u + 0 = ap (sum_of (early_price p)) e.one in
        let c : named_cost (chosen labels p) (fill_columns labels v) ≡ 0 = used-fills labels p v o ∙ ap fills_price e.copied in
        let d : all_copied_cost (home p v.var).copied ≡ 0 = ap all_copied_cost e.copied in
        omega (arith, a, b, c, d)

housed-sum : (labels : List Label) (p : Plan) (v : Value) → Fits labels p → Housing labels p v → copies_price labels p v ≡ all_copied_cost (home p v.var).copied
housed-sum labels p v f (put_general u g c) = copies-sum labels p v f c (general-not-write p (home p v.var).defined g)
housed-sum labels p v f (put_read m i s d c) = copies-sum labels p v f c (ap is_write_register d ∙ read-not-write m (first p v.point + i))
housed-sum labels p v f (put_early s e) = early-sum labels p v f e

-- a read value without a use has no home
homeless : (labels : List Label) (p : Plan) (v : Value) → single labels ≡ true → Fits labels p → In v (values labels) → is_fetched v.origin ≡ true → is_used labels v.var ≡ false → all_copied_cost (home p v.var).copied ≡ 0
homeless labels p v s f i r u = missing p.homes v.var (false_from_ne_true (is_in v.var (map (λ h. h.var) p.homes)) (λ t.
    let n = vars-in v.var (filter (wants_home labels) (values labels)) (f.homes.only v.var t) in
    let k = in-kept (wants_home labels) n.0 (values labels) n.1 in
    let same : n.0 ≡ v = same-value (values labels) v n.0 (values-different labels s) i k.0 n.2 in
    false≢true (sym (unwanted v.origin r) ∙ subst (λ z. wants_home labels z ≡ true) same k.1)))
  where
    unwanted : (s : ValueOrigin) → is_fetched s ≡ true → is_sort_homed (is_used labels v.var) s ≡ false
    unwanted (Parameter l i) e = absurd (false≢true e)
    unwanted Result e = absurd (false≢true e)
    unwanted (Fetched m i) e = u

value-copies : (labels : List Label) (p : Plan) (v : Value) → single labels ≡ true → Fits labels p → In v (values labels) → copies_price labels p v ≡ all_copied_cost (home p v.var).copied
value-copies labels p v s f i = by (is_fetched v.origin) (is_used labels v.var) refl refl
  where
    by : (a b : Bool) → is_fetched v.origin ≡ a → is_used labels v.var ≡ b → copies_price labels p v ≡ all_copied_cost (home p v.var).copied
    by true false e o = unused-price labels p v o ∙ sym (homeless labels p v s f i e o)
    by true true e o = housed-sum labels p v f (housing labels p v f i (λ r. o))
    by false b e o = housed-sum labels p v f (housing labels p v f i (λ r. absurd (false≢true (sym e ∙ r))))

value-definition : (labels : List Label) (p : Plan) (v : Value) → Fits labels p → In v (values labels) → named_cost (chosen labels p) (def_columns v) ≡ defined_cost v.origin (home p v.var).defined
value-definition labels p v f i = defs-cost labels p v.var v.origin (parameter-general labels p v f i)

pub values-priced : (labels : List Label) (p : Plan) (vs : List Value) → single labels ≡ true → Fits labels p → ((v : Value) → In v vs → In v (values labels))
    → values_cost p vs ≡ named_cost (chosen labels p) (flat_map def_columns vs) + (named_cost (chosen labels p) (flat_map (fill_columns labels) vs) + sum_of (λ v. sum_of (early_price p) (uses_of labels v.var)) vs)
values-priced labels p [] s f h = refl
values-priced labels p (v ∷ vs) s f h =
    let i = h v (inl refl) in
    let a = value-definition labels p v f i in
    let b = value-copies labels p v s f i in
    let ih = values-priced labels p vs s f (λ w j. h w (inr j)) in
    let c = cost-append (chosen labels p) (def_columns v) (flat_map def_columns vs) in
    let d = cost-append (chosen labels p) (fill_columns labels v) (flat_map (fill_columns labels) vs) in
    omega (arith, a, b, ih, c, d)
