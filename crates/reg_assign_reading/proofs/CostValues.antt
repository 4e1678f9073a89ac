-- What the homes of the plan that is read off cost: no more than the columns that put the values there.
use Rattle.std.proofs.Common.{◌≡◌, ℕ, zero, suc, ◌+◌, ◌≤◌, nat_eq, Bool, true, false, ◌||◌, if◌then◌else◌, Option, Some, None, List, [], ◌∷◌, ◌++◌, map, filter, refl, sym, ap, subst, inl, inr, ⊎_elim, ◌∙◌, arith, le_of_eq}
use Rattle.std.specs.List.{flat_map, list_any}
use Rattle.std.proofs.lemmas.List.Elements.{All-contains}
use Rattle.std.proofs.lemmas.Bool.{false≢true, false_from_ne_true, or_cases, or_left, or_right}
use Rattle.nv_base.specs.Sets.{is_in, all_different}
use Rattle.nv_base.proofs.Sets.{same-number}
use Rattle.nv_base.specs.declared.term.Mem.{Mem}
use Rattle.nv_base.specs.declared.term.Mem.TheVariants.{Sram, Sdram, Scratch}
use Rattle.ssu_ir.specs.Tree.{Label}
use Rattle.place_plan.specs.declared.place.Place.{Place}
use Rattle.place_plan.specs.declared.place.Place.TheVariants as place
use Rattle.place_plan.specs.Costs.{defined_cost, result_cost, copied_cost, all_copied_cost, value_cost, values_cost}
use Rattle.place_plan.specs.Plan.{Home, home_in}
use Rattle.place_plan.specs.Uses.{ValueOrigin, Parameter, Result, Fetched, Value, values, Role, Operand, Address, Written, Argument, Ending, Use, uses, uses_of, is_used}
use Rattle.place_plan.specs.Fits.{is_result, write_place, is_sort_homed, wants_home}
use Rattle.ssu_liveness.proofs.Scoped.{in-itself}
use Rattle.place_plan.proofs.Sound.{Each}
use Rattle.zo_model.specs.Program.{cost_where}
use Rattle.bank_prog_form.specs.declared.column.Bank.{Bank}
use Rattle.bank_prog_form.specs.declared.column.Bank.TheVariants.{A, B, M, T, L, A15, W}
use Rattle.bank_prog_form.specs.declared.column.Column.{Column}
use Rattle.bank_prog_form.specs.declared.column.Column.TheVariants.{Def, DirectWrite, Fill, Serve}
use Rattle.bank_prog_form.specs.declared.column.Service.{Service}
use Rattle.bank_prog_form.specs.Columns.{origin_of, is_fetched, eight, origin_defs, def_columns, fill_columns, services}
use Rattle.bank_prog_form.specs.Rows.{homes, def, dir, ear, srv, early, is_parameter, is_written}
use Rattle.bank_prog.specs.Meaning.{Chosen, named_cost}
use Rattle.reg_assign_reading.specs.inner.Facts.{count, in_bank, IsIn, ValueFacts, UseFacts}
use Rattle.reg_assign_reading.specs.ReadOff.{Numbers, begins, goes_early, def_bank, home_place, word_place, fills_of, words_of, copies_of, first_word, put_home, origin_home, IsAtHome, AreRead, read_off}
use Rattle.reg_assign_reading.proofs.Counts.{In, contained-in, in-either, in-map, in-kept, in-if, map-in, each-in, some-counted, counted-some, each-from}
use Rattle.reg_assign_reading.proofs.FactsValues.{same-value, used-of}
use Rattle.reg_assign_reading.proofs.FactsPoints.{flat-in}
use Rattle.reg_assign_reading.proofs.FitHomes.{def-bank-some, def-bank-none, is_home_bank}
use Rattle.bank_prog.proofs.UseSums.{sum_of}
use Rattle.reg_assign_reading.proofs.CostSums.{cost-append, cost-one}
use Rattle.reg_assign_reading.proofs.CostUses.{word-written, written-role, early-written}
use Rattle.reg_assign_reading.proofs.FitWords.{early-written as goes-written}

-- ---- a word that is copied early

abbrev pub early_price : Chosen → Use → ℕ
early_price on u = cost_where (list_any on (ear u)) 1

copied-write : (m : Mem) (n : ℕ) → copied_cost (write_place m n) ≡ 1
copied-write Sram n = refl
copied-write Sdram n = refl
copied-write Scratch n = refl

result-write : (m : Mem) (n : ℕ) → result_cost (write_place m n) ≡ 0
result-write Sram n = refl
result-write Sdram n = refl
result-write Scratch n = refl

any-in : (on : Chosen) (c : Column) (cs : List Column) → In c cs → on c ≡ true → list_any on cs ≡ true
any-in on c [] i e = absurd i
any-in on c (d ∷ cs) i e = ⊎_elim
    (λ (s : d ≡ c). or_left (on d) (list_any on cs) (ap on s ∙ e))
    (λ (j : In c cs). or_right (on d) (list_any on cs) (any-in on c cs j e))
    i

pub in-any : (on : Chosen) (cs : List Column) → list_any on cs ≡ true → (c : Column) × In c cs × (on c ≡ true)
in-any on [] e = absurd (false≢true e)
in-any on (d ∷ cs) e = ⊎_elim
    (λ (f : on d ≡ true). (d, inl refl, f))
    (λ (f : list_any on cs ≡ true). let w = in-any on cs f in (w.0, inr w.1, w.2))
    (or_cases (on d) (list_any on cs) e)

-- none of the words of a value is put early by its definition
abbrev NoDirs : Chosen → Use → Type 0
NoDirs on u = (f : ℕ) → on (DirectWrite u.point u.operand f) ≡ true → ⊥

early-eared : (on : Chosen) (u : Use) → NoDirs on u → goes_early on u ≡ true → list_any on (ear u) ≡ true
early-eared on u n e =
    let w = in-any on (early u) e in
    let b = in-if w.0 (is_written u.role) (dir u ++ ear u) w.1 in
    ⊎_elim
    (λ (d : In w.0 (dir u)). let m = in-map w.0 (DirectWrite u.point u.operand) eight d in absurd (n m.0 (ap on m.2 ∙ w.2)))
    (λ (r : In w.0 (ear u)). any-in on w.0 (ear u) r w.2)
    (in-either w.0 (dir u) (ear u) b.1)

word-price : (on : Chosen) (u : Use) → NoDirs on u → goes_early on u ≡ true → copied_cost (word_place on u) ≤ early_price on u
word-price on u n e =
    let w = written-role u.role (goes-written on u e) in
    let c : copied_cost (word_place on u) ≡ 1 = ap copied_cost (word-written on u w.0 w.1 w.2) ∙ copied-write w.0 (begins on u.point + w.1) in
    let d : early_price on u ≡ 1 = ap (λ b. cost_where b 1) (early-eared on u n e) in
    omega (arith, c, d)

words-price : (on : Chosen) (us : List Use) → Each (NoDirs on) us → all_copied_cost (map (word_place on) (filter (goes_early on) us)) ≤ sum_of (early_price on) us
words-price on [] h = omega arith
words-price on (u ∷ us) h = by (words-price on us h.1) (goes_early on u) refl
  where
    by : all_copied_cost (map (word_place on) (filter (goes_early on) us)) ≤ sum_of (early_price on) us → (b : Bool) → goes_early on u ≡ b → all_copied_cost (map (word_place on) (if b then u ∷ filter (goes_early on) us else filter (goes_early on) us)) ≤ early_price on u + sum_of (early_price on) us
    by ih true e = let p = word-price on u h.0 e in omega (arith, ih, p)
    by ih false e = omega (arith, ih)

-- ---- copies into banks

pub copied-append : (a b : List Place) → all_copied_cost (a ++ b) ≡ all_copied_cost a + all_copied_cost b
copied-append [] b = omega arith
copied-append (q ∷ a) b = let ih = copied-append a b in omega (arith, ih)

three-fills : (a b m : Bool) (i j k : ℕ) → all_copied_cost ((if a then place.A i ∷ [] else []) ++ ((if b then place.B j ∷ [] else []) ++ (if m then place.Slot k ∷ [] else []))) ≤ cost_where a 1 + (cost_where b 1 + (cost_where m 17 + 0))
three-fills true true true i j k = le_of_eq refl
three-fills true true false i j k = le_of_eq refl
three-fills true false true i j k = le_of_eq refl
three-fills true false false i j k = le_of_eq refl
three-fills false true true i j k = le_of_eq refl
three-fills false true false i j k = le_of_eq refl
three-fills false false true i j k = le_of_eq refl
three-fills false false false i j k = le_of_eq refl

no-fills : (a b m : Bool) (i j k : ℕ) → a ≡ false → b ≡ false → m ≡ false → all_copied_cost ((if a then place.A i ∷ [] else []) ++ ((if b then place.B j ∷ [] else []) ++ (if m then place.Slot k ∷ [] else []))) ≡ 0
no-fills true b m i j k e f g = absurd (false≢true (sym e))
no-fills false true m i j k e f g = absurd (false≢true (sym f))
no-fills false false true i j k e f g = absurd (false≢true (sym g))
no-fills false false false i j k e f g = refl

fills-price : (labels : List Label) (on : Chosen) (numbers : Numbers) (v : Value) → ValueFacts labels on v → all_copied_cost (fills_of on numbers v.var) ≤ named_cost on (fill_columns labels v)
fills-price labels on numbers v f = by (is_used labels v.var) refl
  where
    by : (b : Bool) → is_used labels v.var ≡ b → all_copied_cost (fills_of on numbers v.var) ≤ named_cost on (if b then (Fill v.var A, 1) ∷ (Fill v.var B, 1) ∷ (Fill v.var M, 17) ∷ [] else [])
    by true e = three-fills (on (Fill v.var A)) (on (Fill v.var B)) (on (Fill v.var M)) (numbers A v.var) (numbers B v.var) (numbers M v.var)
    by false e =
        let n = no-fills (on (Fill v.var A)) (on (Fill v.var B)) (on (Fill v.var M)) (numbers A v.var) (numbers B v.var) (numbers M v.var) (f.unused e A) (f.unused e B) (f.unused e M) in
        omega (arith, n)

copies-price : (labels : List Label) (on : Chosen) (numbers : Numbers) (v : Value) → ValueFacts labels on v → Each (NoDirs on) (uses_of labels v.var) → all_copied_cost (copies_of labels on numbers v.var) ≤ named_cost on (fill_columns labels v) + sum_of (early_price on) (uses_of labels v.var)
copies-price labels on numbers v f n =
    let a = fills-price labels on numbers v f in
    let b = words-price on (uses_of labels v.var) n in
    let c = copied-append (fills_of on numbers v.var) (words_of labels on v.var) in
    omega (arith, a, b, c)

-- ---- the definition

abbrev defs_price : Chosen → ℕ → ValueOrigin → ℕ
defs_price on x s = named_cost on (origin_defs x s)

def-price : (on : Chosen) (numbers : Numbers) (x : ℕ) (s : ValueOrigin) (h : Bank) → is_fetched s ≡ false → is_home_bank h ≡ true → on (Def x h) ≡ true → defined_cost s (home_place numbers h x) ≤ defs_price on x s
def-price on numbers x (Parameter zero i) A n j e = cost-one on (Def x A, 0) (origin_defs x (Parameter zero i)) (inl refl) e
def-price on numbers x (Parameter zero i) B n j e = cost-one on (Def x B, 1) (origin_defs x (Parameter zero i)) (inr (inl refl)) e
def-price on numbers x (Parameter zero i) M n j e = cost-one on (Def x M, 17) (origin_defs x (Parameter zero i)) (inr (inr (inl refl))) e
def-price on numbers x (Parameter (suc l) i) h n j e = omega arith
def-price on numbers x Result A n j e = cost-one on (Def x A, 0) (origin_defs x Result) (inl refl) e
def-price on numbers x Result B n j e = cost-one on (Def x B, 0) (origin_defs x Result) (inr (inl refl)) e
def-price on numbers x Result M n j e = cost-one on (Def x M, 16) (origin_defs x Result) (inr (inr (inl refl))) e
def-price on numbers x (Fetched m i) h n j e = absurd (false≢true (sym n))
def-price on numbers x s T n j e = absurd (false≢true j)
def-price on numbers x s L n j e = absurd (false≢true j)
def-price on numbers x s A15 n j e = absurd (false≢true j)
def-price on numbers x s W n j e = absurd (false≢true j)

pub home-in : (h : Bank) → is_home_bank h ≡ true → In h homes
home-in A e = inl refl
home-in B e = inr (inl refl)
home-in M e = inr (inr (inl refl))
home-in T e = absurd (false≢true e)
home-in L e = absurd (false≢true e)
home-in A15 e = absurd (false≢true e)
home-in W e = absurd (false≢true e)

def-counted : (on : Chosen) (x : ℕ) (h : Bank) → In h homes → on (Def x h) ≡ true → 1 ≤ count on (def x)
def-counted on x h i e = some-counted on (Def x h) (def x) (map-in (Def x) h homes i) e

-- ---- a result that its definition puts into the write register of its use

abbrev sources : List Bank
sources = A ∷ B ∷ T ∷ M ∷ []

source-of : (r : Role) → Each (λ (s : Service). In s.from sources) (services r)
source-of Operand =
    let a : In A sources = inl refl in
    let b : In B sources = inr (inl refl) in
    let t : In T sources = inr (inr (inl refl)) in
    let n : In M sources = inr (inr (inr (inl refl))) in
    (a, (b, (t, (n, (n, (b, (t, tt)))))))
source-of Address =
    let a : In A sources = inl refl in
    let b : In B sources = inr (inl refl) in
    let t : In T sources = inr (inr (inl refl)) in
    let n : In M sources = inr (inr (inr (inl refl))) in
    (a, (b, (t, (n, tt))))
source-of (Written m i) =
    let a : In A sources = inl refl in
    let b : In B sources = inr (inl refl) in
    let t : In T sources = inr (inr (inl refl)) in
    let n : In M sources = inr (inr (inr (inl refl))) in
    (a, (b, (t, (n, tt))))
source-of (Argument l i) =
    let a : In A sources = inl refl in
    let b : In B sources = inr (inl refl) in
    let t : In T sources = inr (inr (inl refl)) in
    let n : In M sources = inr (inr (inr (inl refl))) in
    (a, (a, (a, (b, (b, (b, (t, (t, (t, (n, (n, (n, tt))))))))))))
source-of (Ending i) =
    let a : In A sources = inl refl in
    let b : In B sources = inr (inl refl) in
    let t : In T sources = inr (inr (inl refl)) in
    let n : In M sources = inr (inr (inr (inl refl))) in
    (a, (b, (t, (n, tt))))

-- where a value is nowhere first put, and it is a result, it is in no bank
nowhere : (labels : List Label) (on : Chosen) (v : Value) → ValueFacts labels on v → v.origin ≡ Result → count on (def v.var) ≡ 0 → (h : Bank) → In h homes → in_bank on h v.var ≡ true → ⊥
nowhere labels on v f e z h i b = ⊎_elim
    (λ (d : on (Def v.var h) ≡ true). let c = def-counted on v.var h i d in absurd (omega (arith, c, z)))
    (λ (g : on (Fill v.var h) ≡ true). ⊎_elim
    (λ (d : on (Def v.var A) ≡ true). let c = def-counted on v.var A (inl refl) d in absurd (omega (arith, c, z)))
    (λ (d : on (Def v.var B) ≡ true). let c = def-counted on v.var B (inr (inl refl)) d in absurd (omega (arith, c, z)))
    (or_cases (on (Def v.var A)) (on (Def v.var B)) (f.filled (ap is_fetched e) h g)))
    (or_cases (on (Def v.var h)) (on (Fill v.var h)) b)

not-from : (labels : List Label) (on : Chosen) (v : Value) (x : ℕ) (h : Bank) → ValueFacts labels on v → v.origin ≡ Result → count on (def v.var) ≡ 0 → x ≡ v.var → In h sources → IsIn labels on x h → ⊥
not-from labels on v x A f e z s i j = nowhere labels on v f e z A (inl refl) (subst (λ y. in_bank on A y ≡ true) s j)
not-from labels on v x B f e z s i j = nowhere labels on v f e z B (inr (inl refl)) (subst (λ y. in_bank on B y ≡ true) s j)
not-from labels on v x M f e z s i j = nowhere labels on v f e z M (inr (inr (inl refl))) (subst (λ y. in_bank on M y ≡ true) s j)
not-from labels on v x T f e z s i j = false≢true (sym (ap is_fetched (ap (origin_of labels) s ∙ f.origin ∙ e)) ∙ j.0)
not-from labels on v x L f e z s i j = no-l i
  where
    no-l : In L sources → ⊥
    no-l (inl e) = absurd (cc)
    no-l (inr (inl e)) = absurd (cc)
    no-l (inr (inr (inl e))) = absurd (cc)
    no-l (inr (inr (inr (inl e)))) = absurd (cc)
    no-l (inr (inr (inr (inr e)))) = e
not-from labels on v x A15 f e z s i j = no-a15 i
  where
    no-a15 : In A15 sources → ⊥
    no-a15 (inl e) = absurd (cc)
    no-a15 (inr (inl e)) = absurd (cc)
    no-a15 (inr (inr (inl e))) = absurd (cc)
    no-a15 (inr (inr (inr (inl e)))) = absurd (cc)
    no-a15 (inr (inr (inr (inr e)))) = e
not-from labels on v x W f e z s i j = no-w i
  where
    no-w : In W sources → ⊥
    no-w (inl e) = absurd (cc)
    no-w (inr (inl e)) = absurd (cc)
    no-w (inr (inr (inl e))) = absurd (cc)
    no-w (inr (inr (inr (inl e)))) = absurd (cc)
    no-w (inr (inr (inr (inr e)))) = e

none-served : (labels : List Label) (on : Chosen) (v : Value) (u : Use) → ValueFacts labels on v → UseFacts labels on u → v.origin ≡ Result → count on (def v.var) ≡ 0 → u.value ≡ v.var → 1 ≤ count on (srv u) → ⊥
none-served labels on v u f g e z s l =
    let w = counted-some on (srv u) l in
    let t = in-map w.0 (λ (s : Service). Serve u.point u.operand s.from s.at) (services u.role) w.1 in
    let i = each-in (λ (s : Service). In s.from sources) t.0 (services u.role) (source-of u.role) t.1 in
    not-from labels on v u.value t.0.from f e z s i (g.served t.0.from t.0.at (ap on t.2 ∙ w.2))

word-free : (on : Chosen) (u : Use) → is_written u.role ≡ true → result_cost (word_place on u) ≡ 0
word-free on u e =
    let w = written-role u.role e in
    ap result_cost (word-written on u w.0 w.1 w.2) ∙ result-write w.0 (begins on u.point + w.1)

first-free : (on : Chosen) (us : List Use) → ((u : Use) → In u us → is_written u.role ≡ true) → 1 ≤ count on (flat_map dir us) → result_cost (first_word on us) ≡ 0
first-free on [] h l = absurd (omega (arith, l))
first-free on (u ∷ us) h l = word-free on u (h u (inl refl))

-- where nothing serves a use, its word is put early
early-left : (m n : ℕ) → m + n ≡ 1 → (1 ≤ m → ⊥) → 1 ≤ n
early-left zero n e h = omega (arith, e)
early-left (suc m) n e h = absurd (h (omega arith))

-- ---- the whole

-- what a value's home costs, by how it comes
abbrev home_price : ValueOrigin → Home → ℕ
home_price s h = defined_cost s h.defined + all_copied_cost h.copied

abbrev value_price : List Label → Chosen → Value → ℕ
value_price labels on v = named_cost on (def_columns v) + (named_cost on (fill_columns labels v) + sum_of (early_price on) (uses_of labels v.var))

other-dirs : (labels : List Label) (on : Chosen) (v : Value) → ValueFacts labels on v → ((u : Use) → In u (uses labels) → UseFacts labels on u) → is_result v.origin ≡ false → Each (NoDirs on) (uses_of labels v.var)
other-dirs labels on v f g n = each-from (NoDirs on) (uses_of labels v.var) (λ u i k e.
    let w = used-of labels u v.var i in
    let r = (g u w.0).of_result k e in
    false≢true (sym n ∙ ap is_result (sym (ap (origin_of labels) w.1 ∙ f.origin)) ∙ r))

-- where a column of this kind is on, its run begins at one of the eight
abbrev pub Eighths : List Label → Chosen → Type 0
Eighths labels on = (u : Use) → In u (uses labels) → (k : ℕ) → on (DirectWrite u.point u.operand k) ≡ true → In k eight

housed-dirs : (labels : List Label) (on : Chosen) (v : Value) (h : Bank) → ValueFacts labels on v → v.origin ≡ Result → In h homes → on (Def v.var h) ≡ true → Eighths labels on → Each (NoDirs on) (uses_of labels v.var)
housed-dirs labels on v h f e i d g = each-from (NoDirs on) (uses_of labels v.var) (λ u j k o.
    let w = used-of labels u v.var j in
    let one = f.result (ap is_result e) in
    let a = def-counted on v.var h i d in
    let member = flat-in dir u (DirectWrite u.point u.operand k) (uses_of labels v.var) j (map-in (DirectWrite u.point u.operand) k eight (g u w.0 k o)) in
    let below = some-counted on (DirectWrite u.point u.operand k) (flat_map dir (uses_of labels v.var)) member o in
    absurd (omega (arith, one, a, below)))

-- where its definition puts it
put-price : (labels : List Label) (on : Chosen) (numbers : Numbers) (v : Value) (h : Bank) → ValueFacts labels on v → is_fetched v.origin ≡ false → def_bank on v.var ≡ Some h → Each (NoDirs on) (uses_of labels v.var) → home_price v.origin (put_home labels on numbers v.var (Some h)) ≤ value_price labels on v
put-price labels on numbers v h f unread e n =
    let d = def-bank-some on v.var h e in
    let a = def-price on numbers v.var v.origin h unread d.1 d.0 in
    let b = copies-price labels on numbers v f n in
    omega (arith, a, b)

parameter-price : (labels : List Label) (on : Chosen) (numbers : Numbers) (v : Value) (o : Option Bank) → ValueFacts labels on v → ((u : Use) → In u (uses labels) → UseFacts labels on u) → is_parameter v.origin ≡ true → is_fetched v.origin ≡ false → is_result v.origin ≡ false → def_bank on v.var ≡ o → home_price v.origin (put_home labels on numbers v.var o) ≤ value_price labels on v
parameter-price labels on numbers v (Some h) f g p unread r e = put-price labels on numbers v h f unread e (other-dirs labels on v f g r)
parameter-price labels on numbers v None f g p unread r e =
    let a = def-bank-none on v.var e in
    let b = f.parameter p in
    absurd (omega (arith, a, b))

result-price : (labels : List Label) (on : Chosen) (numbers : Numbers) (v : Value) (o : Option Bank) → ValueFacts labels on v → ((u : Use) → In u (uses labels) → UseFacts labels on u) → Eighths labels on → v.origin ≡ Result → def_bank on v.var ≡ o → home_price Result (put_home labels on numbers v.var o) ≤ value_price labels on v
result-price labels on numbers v (Some h) f g i r e =
    let d = def-bank-some on v.var h e in
    let p = put-price labels on numbers v h f (ap is_fetched r) e (housed-dirs labels on v h f r (home-in h d.1) d.0 i) in
    subst (λ s. home_price s (put_home labels on numbers v.var (Some h)) ≤ value_price labels on v) r p
result-price labels on numbers v None f g i r e =
    let z = def-bank-none on v.var e in
    let one = f.result (ap is_result r) in
    let words = λ (u : Use) (j : In u (uses_of labels v.var)).
    let w = used-of labels u v.var j in
    let once = (g u w.0).once in
    early-written on u (early-left (count on (srv u)) (count on (early u)) once (λ l. none-served labels on v u f (g u w.0) r z w.1 l)) in
    let free = first-free on (uses_of labels v.var) words (omega (arith, z, one)) in
    omega (arith, free)

fetched-price : (labels : List Label) (on : Chosen) (numbers : Numbers) (v : Value) (m : Mem) (i : ℕ) (q : Place) → ValueFacts labels on v → ((u : Use) → In u (uses labels) → UseFacts labels on u) → v.origin ≡ Fetched m i → 0 + all_copied_cost (copies_of labels on numbers v.var) ≤ value_price labels on v
fetched-price labels on numbers v m i q f g e =
    let c = copies-price labels on numbers v f (other-dirs labels on v f g (ap is_result e)) in
    omega (arith, c)

sorted-price : (labels : List Label) (on : Chosen) (numbers : Numbers) (v : Value) (s : ValueOrigin) → v.origin ≡ s → ValueFacts labels on v → ((u : Use) → In u (uses labels) → UseFacts labels on u) → Eighths labels on → home_price s (origin_home labels on numbers v.point v.var s) ≤ value_price labels on v
sorted-price labels on numbers v (Parameter l i) e f g h =
    subst (λ s. home_price s (put_home labels on numbers v.var (def_bank on v.var)) ≤ value_price labels on v) e
    (parameter-price labels on numbers v (def_bank on v.var) f g (ap is_parameter e) (ap is_fetched e) (ap is_result e) refl)
sorted-price labels on numbers v Result e f g h = result-price labels on numbers v (def_bank on v.var) f g h e refl
sorted-price labels on numbers v (Fetched m i) e f g h = fetched-price labels on numbers v m i (place.Slot 0) f g e

-- a value without a home costs nothing
pub missing : (hs : List Home) (x : ℕ) → is_in x (map (λ h. h.var) hs) ≡ false → all_copied_cost (home_in hs x).copied ≡ 0
missing [] x e = refl
missing (h ∷ hs) x e = by (nat_eq x h.var) (nat_eq h.var x) refl refl (is_in x (map (λ h. h.var) hs)) refl e (λ n. missing hs x n)
  where
    by : (a b : Bool) → nat_eq x h.var ≡ a → nat_eq h.var x ≡ b → (c : Bool) → is_in x (map (λ h. h.var) hs) ≡ c → (a || c) ≡ false → (is_in x (map (λ h. h.var) hs) ≡ false → all_copied_cost (home_in hs x).copied ≡ 0) → all_copied_cost (if b then h else home_in hs x).copied ≡ 0
    by true b p q c r n f = absurd (false≢true (sym n))
    by false b p q true r n f = absurd (false≢true (sym n))
    by false true p q false r n f = absurd (false≢true (sym p ∙ subst (λ y. nat_eq x y ≡ true) (sym (same-number h.var x q)) (in-itself x)))
    by false false p q false r n f = f r

pub vars-in : (x : ℕ) (vs : List Value) → is_in x (map (λ v. v.var) vs) ≡ true → (v : Value) × In v vs × (v.var ≡ x)
vars-in x [] e = absurd (false≢true e)
vars-in x (v ∷ vs) e = ⊎_elim
    (λ (f : nat_eq x v.var ≡ true). (v, inl refl, sym (same-number x v.var f)))
    (λ (f : is_in x (map (λ v. v.var) vs) ≡ true). let w = vars-in x vs f in (w.0, inr w.1, w.2))
    (or_cases (nat_eq x v.var) (is_in x (map (λ v. v.var) vs)) e)

unwanted-price : (labels : List Label) (slots : ℕ) (on : Chosen) (numbers : Numbers) (hs : List Home) (v : Value) (s : ValueOrigin) → v.origin ≡ s → AreRead labels on numbers hs → all_different (map (λ v. v.var) (values labels)) ≡ true → In v (values labels) → wants_home labels v ≡ false → home_price s (home_in hs v.var) ≡ 0
unwanted-price labels slots on numbers hs v (Parameter l i) e r d j w = absurd (false≢true (sym w ∙ ap (is_sort_homed (is_used labels v.var)) e))
unwanted-price labels slots on numbers hs v Result e r d j w = absurd (false≢true (sym w ∙ ap (is_sort_homed (is_used labels v.var)) e))
unwanted-price labels slots on numbers hs v (Fetched m i) e r d j w =
    let out = missing hs v.var (false_from_ne_true (is_in v.var (map (λ h. h.var) hs)) (λ t.
    let n = vars-in v.var (filter (wants_home labels) (values labels)) (r.only v.var t) in
    let k = in-kept (wants_home labels) n.0 (values labels) n.1 in
    let same : n.0 ≡ v = same-value (values labels) v n.0 d j k.0 n.2 in
    false≢true (sym w ∙ subst (λ z. wants_home labels z ≡ true) same k.1))) in
    omega (arith, out)

value-bounded : (labels : List Label) (slots : ℕ) (on : Chosen) (numbers : Numbers) (hs : List Home) (v : Value) → AreRead labels on numbers hs → all_different (map (λ v. v.var) (values labels)) ≡ true → In v (values labels) → ValueFacts labels on v → ((u : Use) → In u (uses labels) → UseFacts labels on u) → Eighths labels on → value_cost (read_off labels slots on numbers hs) v ≤ value_price labels on v
value-bounded labels slots on numbers hs v r d i f g h = by (wants_home labels v) refl
  where
    by : (b : Bool) → wants_home labels v ≡ b → home_price v.origin (home_in hs v.var) ≤ value_price labels on v
    by true w =
        let at = All-contains (IsAtHome labels on numbers hs) (values labels) v r.each (contained-in v (values labels) i) w in
        subst (λ z. home_price v.origin z ≤ value_price labels on v) (sym at.0) (sorted-price labels on numbers v v.origin refl f g h)
    by false w = let z = unwanted-price labels slots on numbers hs v v.origin refl r d i w in omega (arith, z)

pub values-bounded : (labels : List Label) (slots : ℕ) (on : Chosen) (numbers : Numbers) (hs : List Home) (vs : List Value) → AreRead labels on numbers hs → all_different (map (λ v. v.var) (values labels)) ≡ true → ((v : Value) → In v vs → In v (values labels) × ValueFacts labels on v) → ((u : Use) → In u (uses labels) → UseFacts labels on u) → Eighths labels on
    → values_cost (read_off labels slots on numbers hs) vs ≤ named_cost on (flat_map def_columns vs) + (named_cost on (flat_map (fill_columns labels) vs) + sum_of (λ v. sum_of (early_price on) (uses_of labels v.var)) vs)
values-bounded labels slots on numbers hs [] r d f g h = omega arith
values-bounded labels slots on numbers hs (v ∷ vs) r d f g h =
    let here = f v (inl refl) in
    let a = value-bounded labels slots on numbers hs v r d here.0 here.1 g h in
    let ih = values-bounded labels slots on numbers hs vs r d (λ w i. f w (inr i)) g h in
    let b = cost-append on (def_columns v) (flat_map def_columns vs) in
    let c = cost-append on (fill_columns labels v) (flat_map (fill_columns labels) vs) in
    omega (arith, a, ih, b, c)
