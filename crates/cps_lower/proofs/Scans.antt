-- The scans of code, node by node.
use Rattle.std.proofs.Common.{◌≡◌, ℕ, zero, suc, ◌+◌, ◌≤◌, max, true, false, ◌||◌, List, [], ◌∷◌, ◌++◌, sym, ap, ◌∙◌, arith}
use Rattle.nv_base.specs.declared.term.Atom.{Atom}
use Rattle.nv_base.specs.declared.term.Cmp.{Cmp}
use Rattle.nv_base.specs.declared.term.Mem.{Mem}
use Rattle.nv_base.specs.declared.term.Primitive.{Primitive}
use Rattle.flat_ir.specs.Formed.{defined}
use Rattle.flat_ir.specs.declared.flat.Flat.{Flat, size-Flat}
use Rattle.flat_ir.specs.declared.flat.Flat.TheVariants.{Let', Fetch', Store', If', Bind', Try'}
use Rattle.flat_ir.specs.declared.flat.Flat.TheViews.{deep-Let', deep-Fetch', deep-Store', deep-If', deep-Bind', deep-Try'}
use Rattle.flat_ir.specs.declared.flat.FlatFun.{FlatFun}
use Rattle.cps_lower.specs.inner.Lowered.{next_variable, variables, hands_on}

-- ---- last calls

-- what is found in all of the code is found in the rest
pub record Looks (funs : List FlatFun) (own : ℕ) (t cur : Flat) : Type 0 where
  pub hands : hands_on funs own t ≡ hands_on funs own cur
  pub size : size-Flat cur ≤ size-Flat t

looks_on : {funs : List FlatFun} {own : ℕ} {t cur : Flat} (rest : Flat) → Looks funs own t cur → hands_on funs own cur ≡ hands_on funs own rest → size-Flat rest ≤ size-Flat cur → Looks funs own t rest
looks_on rest l e size = record { hands = l.hands ∙ e; size = let le = l.size in omega arith }

pub looks_let : {funs : List FlatFun} {own : ℕ} {t cur : Flat} (x : ℕ) (a : Primitive) (q : _) (r rest : Flat) → Looks funs own t cur → cur ≡ Let' x a q r → rest ≡ r → Looks funs own t rest
looks_let {funs = funs} {own = own} x a q r rest l is e =
    looks_on rest l (ap (hands_on funs own) is ∙ ap (hands_on funs own) (sym e)) (omega (arith, ap size-Flat is, ap size-Flat e, deep-Let' x a q r))

pub looks_fetch : {funs : List FlatFun} {own : ℕ} {t cur : Flat} (o : Mem) (xs : _) (a : Atom) (q : _) (r rest : Flat) → Looks funs own t cur → cur ≡ Fetch' o xs a q r → rest ≡ r → Looks funs own t rest
looks_fetch {funs = funs} {own = own} o xs a q r rest l is e =
    looks_on rest l (ap (hands_on funs own) is ∙ ap (hands_on funs own) (sym e)) (omega (arith, ap size-Flat is, ap size-Flat e, deep-Fetch' o xs a q r))

pub looks_store : {funs : List FlatFun} {own : ℕ} {t cur : Flat} (o : Mem) (a : Atom) (bs : _) (q : _) (r rest : Flat) → Looks funs own t cur → cur ≡ Store' o a bs q r → rest ≡ r → Looks funs own t rest
looks_store {funs = funs} {own = own} o a bs q r rest l is e =
    looks_on rest l (ap (hands_on funs own) is ∙ ap (hands_on funs own) (sym e)) (omega (arith, ap size-Flat is, ap size-Flat e, deep-Store' o a bs q r))

pub looks_if : {funs : List FlatFun} {own : ℕ} {t cur : Flat} (c : Cmp) (a b : Atom) (q q' : _) (f r part rest : Flat) → Looks funs own t cur → cur ≡ If' c a b q f q' r → part ≡ f → rest ≡ r → hands_on funs own part ≡ false → Looks funs own t rest
looks_if {funs = funs} {own = own} c a b q q' f r part rest l is e e' none =
    looks_on rest l (ap (hands_on funs own) is ∙ ap (λ v. hands_on funs own v || hands_on funs own r) (sym e) ∙ ap (λ v. v || hands_on funs own r) none ∙ ap (hands_on funs own) (sym e'))
    (omega (arith, ap size-Flat is, ap size-Flat e', deep-If' c a b q f q' r))

pub looks_bind : {funs : List FlatFun} {own : ℕ} {t cur : Flat} (xs : _) (q q' : _) (f r rest : Flat) → Looks funs own t cur → cur ≡ Bind' xs q f q' r → rest ≡ r → Looks funs own t rest
looks_bind {funs = funs} {own = own} xs q q' f r rest l is e =
    looks_on rest l (ap (hands_on funs own) is ∙ ap (hands_on funs own) (sym e)) (omega (arith, ap size-Flat is, ap size-Flat e, deep-Bind' xs q f q' r))

pub looks_try : {funs : List FlatFun} {own : ℕ} {t cur : Flat} (x : ℕ) (xs : _) (q q' : _) (f r part rest : Flat) → Looks funs own t cur → cur ≡ Try' q f x xs q' r → part ≡ f → rest ≡ r → hands_on funs own part ≡ false → Looks funs own t rest
looks_try {funs = funs} {own = own} x xs q q' f r part rest l is e e' none =
    looks_on rest l (ap (hands_on funs own) is ∙ ap (λ v. hands_on funs own v || hands_on funs own r) (sym e) ∙ ap (λ v. v || hands_on funs own r) none ∙ ap (hands_on funs own) (sym e'))
    (omega (arith, ap size-Flat is, ap size-Flat e', deep-Try' q f x xs q' r))

-- where the first part has one
pub found_if : {funs : List FlatFun} {own : ℕ} {t cur : Flat} (c : Cmp) (a b : Atom) (q q' : _) (f r part : Flat) → Looks funs own t cur → cur ≡ If' c a b q f q' r → part ≡ f → hands_on funs own part ≡ true → true ≡ hands_on funs own t
found_if {funs = funs} {own = own} c a b q q' f r part l is e some =
    sym (l.hands ∙ ap (hands_on funs own) is ∙ ap (λ v. hands_on funs own v || hands_on funs own r) (sym e) ∙ ap (λ v. v || hands_on funs own r) some)

pub found_try : {funs : List FlatFun} {own : ℕ} {t cur : Flat} (x : ℕ) (xs : _) (q q' : _) (f r part : Flat) → Looks funs own t cur → cur ≡ Try' q f x xs q' r → part ≡ f → hands_on funs own part ≡ true → true ≡ hands_on funs own t
found_try {funs = funs} {own = own} x xs q q' f r part l is e some =
    sym (l.hands ∙ ap (hands_on funs own) is ∙ ap (λ v. hands_on funs own v || hands_on funs own r) (sym e) ∙ ap (λ v. v || hands_on funs own r) some)

-- ---- the first variable after all

max-assoc : (a b c : ℕ) → max a (max b c) ≡ max (max a b) c
max-assoc a b c = omega arith

pub next-append : (xs ys : List ℕ) → next_variable (xs ++ ys) ≡ max (next_variable xs) (next_variable ys)
next-append [] ys = omega arith
next-append (x ∷ xs) ys = ap (λ n. max (x + 1) n) (next-append xs ys) ∙ max-assoc (x + 1) (next_variable xs) (next_variable ys)

-- the first one after the number so far and the rest is the one after the least and all of the code
pub record Behind (least : ℕ) (t : Flat) (next : ℕ) (cur : Flat) : Type 0 where
  pub value : max next (next_variable (defined cur)) ≡ max least (next_variable (defined t))
  pub size : size-Flat cur ≤ size-Flat t

behind_on : {least next : ℕ} {t cur : Flat} (next' : ℕ) (rest : Flat) → Behind least t next cur → max next' (next_variable (defined rest)) ≡ max next (next_variable (defined cur)) → size-Flat rest ≤ size-Flat cur → Behind least t next' rest
behind_on next' rest b e size = record { value = e ∙ b.value; size = let le = b.size in omega arith }

-- with what a node defines before the rest
behind_more : (next new next' rest cur : ℕ) → cur ≡ max new rest → next' ≡ max next new → max next' rest ≡ max next cur
behind_more next new next' rest cur e f = omega arith

pub behind_let : {least next : ℕ} {t cur : Flat} (x : ℕ) (a : Primitive) (q : _) (r rest : Flat) (next' : ℕ) → Behind least t next cur → cur ≡ Let' x a q r → rest ≡ r → next' ≡ max next (x + 1) → Behind least t next' rest
behind_let {next = next} {cur = cur} x a q r rest next' b is e en =
    behind_on next' rest b
    (behind_more next (x + 1) next' (next_variable (defined rest)) (next_variable (defined cur)) (ap (λ v. next_variable (defined v)) is ∙ ap (λ v. max (x + 1) (next_variable (defined v))) (sym e)) en)
    (omega (arith, ap size-Flat is, ap size-Flat e, deep-Let' x a q r))

pub behind_fetch : {least next : ℕ} {t cur : Flat} (o : Mem) (xs : _) (a : Atom) (q : _) (r rest : Flat) (new next' : ℕ) → Behind least t next cur → cur ≡ Fetch' o xs a q r → rest ≡ r → new ≡ next_variable xs.items → next' ≡ max next new → Behind least t next' rest
behind_fetch {next = next} {cur = cur} o xs a q r rest new next' b is e ew en =
    behind_on next' rest b
    (behind_more next new next' (next_variable (defined rest)) (next_variable (defined cur))
    (ap (λ v. next_variable (defined v)) is ∙ next-append xs.items (defined r) ∙ ap (λ v. max (next_variable xs.items) (next_variable (defined v))) (sym e) ∙ ap (λ n. max n (next_variable (defined rest))) (sym ew)) en)
    (omega (arith, ap size-Flat is, ap size-Flat e, deep-Fetch' o xs a q r))

pub behind_store : {least next : ℕ} {t cur : Flat} (o : Mem) (a : Atom) (bs : _) (q : _) (r rest : Flat) → Behind least t next cur → cur ≡ Store' o a bs q r → rest ≡ r → Behind least t next rest
behind_store {next = next} o a bs q r rest b is e =
    behind_on next rest b (ap (λ v. max next (next_variable (defined v))) e ∙ sym (ap (λ v. max next (next_variable (defined v))) is)) (omega (arith, ap size-Flat is, ap size-Flat e, deep-Store' o a bs q r))

pub behind_if : {least next : ℕ} {t cur : Flat} (c : Cmp) (a b : Atom) (q q' : _) (f r part rest : Flat) (next' : ℕ) → Behind least t next cur → cur ≡ If' c a b q f q' r → part ≡ f → rest ≡ r → next' ≡ max next (next_variable (defined part)) → Behind least t next' rest
behind_if {next = next} {cur = cur} c a b q q' f r part rest next' h is e e' en =
    behind_on next' rest h
    (behind_more next (next_variable (defined part)) next' (next_variable (defined rest)) (next_variable (defined cur))
    (ap (λ v. next_variable (defined v)) is ∙ next-append (defined f) (defined r) ∙ ap (λ v. max (next_variable (defined v)) (next_variable (defined r))) (sym e) ∙ ap (λ v. max (next_variable (defined part)) (next_variable (defined v))) (sym e')) en)
    (omega (arith, ap size-Flat is, ap size-Flat e', deep-If' c a b q f q' r))

-- a first part and the variables of a label
behind_parts : (next part new wide next' rest cur : ℕ) → cur ≡ max part (max new rest) → wide ≡ max next new → next' ≡ max wide part → max next' rest ≡ max next cur
behind_parts next part new wide next' rest cur e f g = omega arith

parts_next : (a b c : List ℕ) → next_variable (a ++ (b ++ c)) ≡ max (next_variable a) (max (next_variable b) (next_variable c))
parts_next a b c = next-append a (b ++ c) ∙ ap (λ n. max (next_variable a) n) (next-append b c)

pub behind_bind : {least next : ℕ} {t cur : Flat} (xs : _) (q q' : _) (f r part rest : Flat) (new wide next' : ℕ) → Behind least t next cur → cur ≡ Bind' xs q f q' r → part ≡ f → rest ≡ r → new ≡ next_variable xs.items → wide ≡ max next new → next' ≡ max wide (next_variable (defined part)) → Behind least t next' rest
behind_bind {next = next} {cur = cur} xs q q' f r part rest new wide next' h is e e' ew eg en =
    behind_on next' rest h
    (behind_parts next (next_variable (defined part)) new wide next' (next_variable (defined rest)) (next_variable (defined cur))
    (ap (λ v. next_variable (defined v)) is ∙ parts_next (defined f) xs.items (defined r) ∙ ap (λ v. max (next_variable (defined v)) (max (next_variable xs.items) (next_variable (defined r)))) (sym e)
    ∙ ap (λ v. max (next_variable (defined part)) (max (next_variable xs.items) (next_variable (defined v)))) (sym e') ∙ ap (λ n. max (next_variable (defined part)) (max n (next_variable (defined rest)))) (sym ew)) eg en)
    (omega (arith, ap size-Flat is, ap size-Flat e', deep-Bind' xs q f q' r))

pub behind_try : {least next : ℕ} {t cur : Flat} (x : ℕ) (xs : _) (q q' : _) (f r part rest : Flat) (new wide next' : ℕ) → Behind least t next cur → cur ≡ Try' q f x xs q' r → part ≡ f → rest ≡ r → new ≡ next_variable xs.items → wide ≡ max next new → next' ≡ max wide (next_variable (defined part)) → Behind least t next' rest
behind_try {next = next} {cur = cur} x xs q q' f r part rest new wide next' h is e e' ew eg en =
    behind_on next' rest h
    (behind_parts next (next_variable (defined part)) new wide next' (next_variable (defined rest)) (next_variable (defined cur))
    (ap (λ v. next_variable (defined v)) is ∙ parts_next (defined f) xs.items (defined r) ∙ ap (λ v. max (next_variable (defined v)) (max (next_variable xs.items) (next_variable (defined r)))) (sym e)
    ∙ ap (λ v. max (next_variable (defined part)) (max (next_variable xs.items) (next_variable (defined v)))) (sym e') ∙ ap (λ n. max (next_variable (defined part)) (max n (next_variable (defined rest)))) (sym ew)) eg en)
    (omega (arith, ap size-Flat is, ap size-Flat e', deep-Try' q f x xs q' r))

-- ---- variables one after another

pub variables-push : (i m : ℕ) → variables i (suc m) ≡ variables i m ++ (i + m) ∷ []
variables-push i zero = let e : i ≡ i + 0 = omega arith in ap (λ n. n ∷ []) e
variables-push i (suc m) =
    let e : i + 1 + m ≡ i + suc m = omega arith in
    ap (λ l. i ∷ l) (variables-push (i + 1) m ∙ ap (λ n. variables (i + 1) m ++ n ∷ []) e)
