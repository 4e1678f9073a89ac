-- A flow is at most as wide as its function. A jump's words are as many as its label's parameters, so where the label begins is as wide.
use Rattle.std.proofs.Common.{◌≡◌, ℕ, zero, suc, ◌+◌, ◌≤◌, max, Bool, true, false, nat_eq, List, [], ◌∷◌, ◌++◌, Option, Some, refl, sym, subst, ◌∙◌, if◌then◌else◌, length, length-append, slice_get, arith}
use Rattle.std.proofs.lemmas.Bool.{eqb-true, false≢true}
use Rattle.nv_base.specs.declared.term.Atom.{Atom}
use Rattle.nv_base.specs.Words.{prim_vars}
use Rattle.nv_base.specs.Sets.{without, different, Within}
use Rattle.nv_base.specs.Measures.{operands_wide, let_wide, entry_wide, Widths}
use Rattle.nv_base.proofs.Sets.{same-number, different-below, different-all, within-behind_same, within-without_same, within-both}
use Rattle.nv_base.proofs.Measures.{operands-more, let-more}
use Rattle.cps_ir.proofs.Widths.{greatest-of}
use Rattle.cps_ir.specs.Term.{Term, Let, Read, Write, If, Fix, Call, Return, Throw, Jump, Halt, Labels, none, label, Fun}
use Rattle.cps_ir.specs.View.{Seen}
use Rattle.cps_ir.specs.Formed.{Scoped, scoped, arity, takes, takes_as_many, is_function}
use Rattle.cps_ir.specs.Wide.{Wants, with_wants, wants, labels_want, inside, nowhere, term_wide, labels_wide, function_wide, greatest_wide, widths_within, main_wide}
use Rattle.cps_ir.specs.Wide as before
use Rattle.flow_ir.specs.Tree as flow
use Rattle.flow_ir.specs.Wide.{live, tree_wide, label_wide}
use Rattle.flow_ir.specs.Wide as behind
use Rattle.cps_ir.specs.Callless.{only_jumps}
use Rattle.cps_close.specs.inner.Closed.{Table, labels_in, labels_of_all, needed, operands, tree_of, with_wanted, closed, IsTable}
use Rattle.flow_ir.proofs.Members.{in-left, in-right}
use Rattle.cps_close.proofs.Places.{Setting, Place, Places, let-place, read-place, write-place, first-place, second-place, rest-place, label-places, body-place, other-places, label-here}
use Rattle.cps_close.proofs.Settles.{Settled, AllSettled, jump-takes, live-needed}
use Rattle.cps_close.proofs.Tables.{closed-from}
use Rattle.cps_close.proofs.Reached.{setting, place-of, kept-reached, all-settled}
use Rattle.cps_close.proofs.Closes.{AllSeen, seen-join, seen-at, length-operands, closed-needed, some-label}

-- ---- the greatest of two

max-both : (a b m : ℕ) → a ≤ m → b ≤ m → max a b ≤ m
max-both a b m h g = omega arith

max-first : (a b m : ℕ) → max a b ≤ m → a ≤ m
max-first a b m h = omega arith

max-second : (a b m : ℕ) → max a b ≤ m → b ≤ m
max-second a b m h = omega arith

at-most : (a b m : ℕ) → a ≤ b → b ≤ m → a ≤ m
at-most a b m h g = omega arith

-- ---- jumps

operands-alone : (as' : List Atom) → operands_wide [] as' ≤ length as' + 1
operands-alone [] = let h : 0 ≤ 0 + 1 = omega arith in h
operands-alone (a ∷ as') = let h : 0 + (length (a ∷ as') + 1) ≤ length (a ∷ as') + 1 = omega arith in h

-- where a label in scope begins is at most so wide
abbrev pub Entries : Table → Scoped → ℕ → Type 0
Entries tab ss m = (l k : ℕ) → takes ss l k ≡ true → k + length (needed tab l) + 1 ≤ m

entry-at : (tab : Table) (b : Bool) (l k n c m : ℕ) (o : Option ℕ) → nat_eq n l ≡ b → c + length (needed tab n) + 1 ≤ m → (takes_as_many k o ≡ true → k + length (needed tab l) + 1 ≤ m) → takes_as_many k (if b then Some c else o) ≡ true
    → k + length (needed tab l) + 1 ≤ m
entry-at tab true l k n c m o same h g e =
    let many : c ≡ k = eqb-true c k e in
    subst (λ z. k + length (needed tab z) + 1 ≤ m) (same-number n l same) (subst (λ z. z + length (needed tab n) + 1 ≤ m) many h)
entry-at tab false l k n c m o same h g e = g e

few-needed : (labels : List flow.Label) (tab : Table) (c : Seen) (held : List ℕ) → Settled labels tab c → Within (needed tab c.label) held → length (needed tab c.label) ≤ different held
few-needed labels tab c held s h = omega (arith, different-all (needed tab c.label) s.single, different-below (needed tab c.label) held h)

entries-fix : (labels : List flow.Label) (s : Setting) → AllSettled labels s → (ls : Labels) (ss all : Scoped) (phi alone : Wants) (held known : List ℕ) (funs : List Fun) (w : Widths) (own m : ℕ) → Places s all phi alone held known ls → labels_wide funs w own phi held ls ≤ m
    → Entries s.tab ss m → Entries s.tab (scoped ls ++ ss) m
entries-fix labels s h none ss all phi alone held known funs w own m p le g l k e = g l k e
entries-fix labels s h (label n xs t ls) ss all phi alone held known funs w own m p le g l k e =
    let there = label-here s all phi alone held known n xs t ls p in
    let few = few-needed labels s.tab (record { label = n; params = xs; body = t }) held (h (record { label = n; params = xs; body = t }) there.0 there.1) p.least.0 in
    let outer = max-first (max (entry_wide held (length xs)) (term_wide funs w own phi t)) (labels_wide funs w own phi held ls) m le in
    let entry : different held + (length xs + 1) ≤ m = max-first (entry_wide held (length xs)) (term_wide funs w own phi t) m outer in
    let here : length xs + length (needed s.tab n) + 1 ≤ m = omega (arith, few, entry) in
    entry-at s.tab (nat_eq n l) l k n (length xs) m (arity l (scoped ls ++ ss)) refl here
    (entries-fix labels s h ls ss all phi alone held known funs w own m (other-places s all phi alone held known n xs t ls p) (max-second (max (entry_wide held (length xs)) (term_wide funs w own phi t)) (labels_wide funs w own phi held ls) m le) g l k) e

-- ---- trees

pub tree-narrow : (labels : List flow.Label) (s : Setting) → AllSettled labels s → (funs : List Fun) (w : Widths) (own m : ℕ) (t : Term) (ss : Scoped) (phi : Wants) (known : List ℕ) → Place s ss phi known t → Entries s.tab ss m → term_wide funs w own phi t ≤ m
    → tree_wide (tree_of s.tab t) ≤ m
tree-narrow labels s h funs w own m (Let x a t) ss phi known p g le =
    let place = let-place s ss phi known x a t p in
    let extra = let-more (prim_vars a ++ without (live (tree_of s.tab t)) (x ∷ [])) (prim_vars a ++ without (wants phi t) (x ∷ [])) (live-needed s (Let x a t) ss phi known p) in
    max-both (let_wide (prim_vars a ++ without (live (tree_of s.tab t)) (x ∷ []))) (tree_wide (tree_of s.tab t)) m
    (at-most (let_wide (prim_vars a ++ without (live (tree_of s.tab t)) (x ∷ []))) (let_wide (prim_vars a ++ without (wants phi t) (x ∷ []))) m extra (max-first (let_wide (prim_vars a ++ without (wants phi t) (x ∷ []))) (term_wide funs w own phi t) m le))
    (tree-narrow labels s h funs w own m t ss phi (x ∷ known) place g (max-second (let_wide (prim_vars a ++ without (wants phi t) (x ∷ []))) (term_wide funs w own phi t) m le))
tree-narrow labels s h funs w own m (Read o xs a t) ss phi known p g le =
    let place = read-place s ss phi known o xs a t p in
    let inner = live-needed s t ss phi (xs ++ known) place in
    let first = max-first (max (operands_wide (without (wants phi t) xs) (a ∷ [])) (different (xs ++ wants phi t))) (term_wide funs w own phi t) m le in
    let held = operands-more (without (live (tree_of s.tab t)) xs) (without (wants phi t) xs) (a ∷ []) (within-without_same (live (tree_of s.tab t)) (wants phi t) xs inner) in
    let all = different-below (xs ++ live (tree_of s.tab t)) (xs ++ wants phi t) (within-behind_same xs (live (tree_of s.tab t)) (wants phi t) inner) in
    max-both (max (operands_wide (without (live (tree_of s.tab t)) xs) (a ∷ [])) (different (xs ++ live (tree_of s.tab t)))) (tree_wide (tree_of s.tab t)) m
    (max-both (operands_wide (without (live (tree_of s.tab t)) xs) (a ∷ [])) (different (xs ++ live (tree_of s.tab t))) m
    (at-most (operands_wide (without (live (tree_of s.tab t)) xs) (a ∷ [])) (operands_wide (without (wants phi t) xs) (a ∷ [])) m held (max-first (operands_wide (without (wants phi t) xs) (a ∷ [])) (different (xs ++ wants phi t)) m first))
    (at-most (different (xs ++ live (tree_of s.tab t))) (different (xs ++ wants phi t)) m all (max-second (operands_wide (without (wants phi t) xs) (a ∷ [])) (different (xs ++ wants phi t)) m first)))
    (tree-narrow labels s h funs w own m t ss phi (xs ++ known) place g (max-second (max (operands_wide (without (wants phi t) xs) (a ∷ [])) (different (xs ++ wants phi t))) (term_wide funs w own phi t) m le))
tree-narrow labels s h funs w own m (Write o a bs t) ss phi known p g le =
    let place = write-place s ss phi known o a bs t p in
    max-both (operands_wide (live (tree_of s.tab t)) (a ∷ bs)) (tree_wide (tree_of s.tab t)) m
    (at-most (operands_wide (live (tree_of s.tab t)) (a ∷ bs)) (operands_wide (wants phi t) (a ∷ bs)) m (operands-more (live (tree_of s.tab t)) (wants phi t) (a ∷ bs) (live-needed s t ss phi known place))
    (max-first (operands_wide (wants phi t) (a ∷ bs)) (term_wide funs w own phi t) m le))
    (tree-narrow labels s h funs w own m t ss phi known place g (max-second (operands_wide (wants phi t) (a ∷ bs)) (term_wide funs w own phi t) m le))
tree-narrow labels s h funs w own m (If c a b t u) ss phi known p g le =
    let one = first-place s ss phi known c a b t u p in
    let two = second-place s ss phi known c a b t u p in
    let here = operands_wide (wants phi t ++ wants phi u) (a ∷ b ∷ []) in
    let within : Within (live (tree_of s.tab t) ++ live (tree_of s.tab u)) (wants phi t ++ wants phi u) =
    within-both (live (tree_of s.tab t)) (live (tree_of s.tab u)) (wants phi t ++ wants phi u) (λ y e. in-left y (wants phi t) (wants phi u) (live-needed s t ss phi known one y e)) (λ y e. in-right y (wants phi t) (wants phi u) (live-needed s u ss phi known two y e)) in
    let rest = max-second (operands_wide (wants phi t ++ wants phi u) (a ∷ b ∷ [])) (max (term_wide funs w own phi t) (term_wide funs w own phi u)) m le in
    max-both (operands_wide (live (tree_of s.tab t) ++ live (tree_of s.tab u)) (a ∷ b ∷ [])) (max (tree_wide (tree_of s.tab t)) (tree_wide (tree_of s.tab u))) m
    (at-most (operands_wide (live (tree_of s.tab t) ++ live (tree_of s.tab u)) (a ∷ b ∷ [])) (operands_wide (wants phi t ++ wants phi u) (a ∷ b ∷ [])) m
    (operands-more (live (tree_of s.tab t) ++ live (tree_of s.tab u)) (wants phi t ++ wants phi u) (a ∷ b ∷ []) within) (max-first (operands_wide (wants phi t ++ wants phi u) (a ∷ b ∷ [])) (max (term_wide funs w own phi t) (term_wide funs w own phi u)) m le))
    (max-both (tree_wide (tree_of s.tab t)) (tree_wide (tree_of s.tab u)) m (tree-narrow labels s h funs w own m t ss phi known one g (max-first (term_wide funs w own phi t) (term_wide funs w own phi u) m rest))
    (tree-narrow labels s h funs w own m u ss phi known two g (max-second (term_wide funs w own phi t) (term_wide funs w own phi u) m rest)))
tree-narrow labels s h funs w own m (Fix ls t) ss phi known p g le =
    let held = labels_want (with_wants phi ls []) ls in
    tree-narrow labels s h funs w own m t (scoped ls ++ ss) (inside phi ls) known (rest-place s ss phi known ls t p)
    (entries-fix labels s h ls ss (scoped ls ++ ss) (inside phi ls) (with_wants phi ls []) (labels_want (with_wants phi ls []) ls) known funs w own m (label-places s ss phi known ls t p)
    (max-first (labels_wide funs w own (inside phi ls) (labels_want (with_wants phi ls []) ls) ls) (term_wide funs w own (inside phi ls) t) m le) g)
    (max-second (labels_wide funs w own (inside phi ls) (labels_want (with_wants phi ls []) ls) ls) (term_wide funs w own (inside phi ls) t) m le)
tree-narrow labels s h funs w own m (Call f bs k hs) ss phi known p g le = absurd (false≢true p.jumps)
tree-narrow labels s h funs w own m (Return bs) ss phi known p g le = absurd (false≢true p.jumps)
tree-narrow labels s h funs w own m (Throw k bs) ss phi known p g le = absurd (false≢true p.jumps)
tree-narrow labels s h funs w own m (Jump l bs) ss phi known p g le =
    let entry = g l (length bs) (jump-takes s ss phi known l bs p) in
    let done : operands_wide [] (bs ++ operands (needed s.tab l)) ≤ m = omega (arith, operands-alone (bs ++ operands (needed s.tab l)), length-append bs (operands (needed s.tab l)), length-operands (needed s.tab l), entry) in
    done
tree-narrow labels s h funs w own m (Halt k bs) ss phi known p g le = le

-- ---- labels

pub record Narrow (tab : Table) (m : ℕ) (c : Seen) : Type 0 where
  pub by : label_wide (with_wanted tab c (needed tab c.label)) ≤ m

mutual
  labels-narrow : (labels : List flow.Label) (s : Setting) → AllSettled labels s → (funs : List Fun) (w : Widths) (own m : ℕ) (t : Term) (ss : Scoped) (phi : Wants) (known : List ℕ) → Place s ss phi known t → Entries s.tab ss m → term_wide funs w own phi t ≤ m
      → AllSeen (Narrow s.tab m) (labels_in t)
  labels-narrow labels s h funs w own m (Let x a t) ss phi known p g le =
      labels-narrow labels s h funs w own m t ss phi (x ∷ known) (let-place s ss phi known x a t p) g (max-second (let_wide (prim_vars a ++ without (wants phi t) (x ∷ []))) (term_wide funs w own phi t) m le)
  labels-narrow labels s h funs w own m (Read o xs a t) ss phi known p g le =
      labels-narrow labels s h funs w own m t ss phi (xs ++ known) (read-place s ss phi known o xs a t p) g
      (max-second (max (operands_wide (without (wants phi t) xs) (a ∷ [])) (different (xs ++ wants phi t))) (term_wide funs w own phi t) m le)
  labels-narrow labels s h funs w own m (Write o a bs t) ss phi known p g le =
      labels-narrow labels s h funs w own m t ss phi known (write-place s ss phi known o a bs t p) g (max-second (operands_wide (wants phi t) (a ∷ bs)) (term_wide funs w own phi t) m le)
  labels-narrow labels s h funs w own m (If c a b t u) ss phi known p g le =
      let rest = max-second (operands_wide (wants phi t ++ wants phi u) (a ∷ b ∷ [])) (max (term_wide funs w own phi t) (term_wide funs w own phi u)) m le in
      seen-join (Narrow s.tab m) (labels_in t) (labels_in u)
      (labels-narrow labels s h funs w own m t ss phi known (first-place s ss phi known c a b t u p) g (max-first (term_wide funs w own phi t) (term_wide funs w own phi u) m rest))
      (labels-narrow labels s h funs w own m u ss phi known (second-place s ss phi known c a b t u p) g (max-second (term_wide funs w own phi t) (term_wide funs w own phi u) m rest))
  labels-narrow labels s h funs w own m (Fix ls t) ss phi known p g le =
      let places = label-places s ss phi known ls t p in
      let first = max-first (labels_wide funs w own (inside phi ls) (labels_want (with_wants phi ls []) ls) ls) (term_wide funs w own (inside phi ls) t) m le in
      let second = max-second (labels_wide funs w own (inside phi ls) (labels_want (with_wants phi ls []) ls) ls) (term_wide funs w own (inside phi ls) t) m le in
      let now = entries-fix labels s h ls ss (scoped ls ++ ss) (inside phi ls) (with_wants phi ls []) (labels_want (with_wants phi ls []) ls) known funs w own m places first g in
      seen-join (Narrow s.tab m) (labels_of_all ls) (labels_in t)
      (all-narrow labels s h funs w own m ls (scoped ls ++ ss) (inside phi ls) (with_wants phi ls []) (labels_want (with_wants phi ls []) ls) known places now first)
      (labels-narrow labels s h funs w own m t (scoped ls ++ ss) (inside phi ls) known (rest-place s ss phi known ls t p) now second)
  labels-narrow labels s h funs w own m (Call f bs k hs) ss phi known p g le = refl
  labels-narrow labels s h funs w own m (Return bs) ss phi known p g le = refl
  labels-narrow labels s h funs w own m (Throw k bs) ss phi known p g le = refl
  labels-narrow labels s h funs w own m (Jump l bs) ss phi known p g le = refl
  labels-narrow labels s h funs w own m (Halt k bs) ss phi known p g le = refl

  all-narrow : (labels : List flow.Label) (s : Setting) → AllSettled labels s → (funs : List Fun) (w : Widths) (own m : ℕ) (ls : Labels) (ss : Scoped) (phi alone : Wants) (held known : List ℕ) → Places s ss phi alone held known ls → Entries s.tab ss m
      → labels_wide funs w own phi held ls ≤ m → AllSeen (Narrow s.tab m) (labels_of_all ls)
  all-narrow labels s h funs w own m none ss phi alone held known p g le = refl
  all-narrow labels s h funs w own m (label n xs t ls) ss phi alone held known p g le =
      let body = body-place s ss phi alone held known n xs t ls p in
      let there = label-here s ss phi alone held known n xs t ls p in
      let few = few-needed labels s.tab (record { label = n; params = xs; body = t }) held (h (record { label = n; params = xs; body = t }) there.0 there.1) p.least.0 in
      let outer = max-first (max (entry_wide held (length xs)) (term_wide funs w own phi t)) (labels_wide funs w own phi held ls) m le in
      let entry : different held + (length xs + 1) ≤ m = max-first (entry_wide held (length xs)) (term_wide funs w own phi t) m outer in
      let inner = max-second (entry_wide held (length xs)) (term_wide funs w own phi t) m outer in
      let count = length-append xs (needed s.tab n) in
      let begins : 0 + (length (xs ++ needed s.tab n) + 1) ≤ m = omega (arith, few, entry, count) in
      seen-join (Narrow s.tab m) (labels_in t) (record { label = n; params = xs; body = t } ∷ labels_of_all ls) (labels-narrow labels s h funs w own m t ss phi (xs ++ known) body g inner) (
        record { by = max-both (entry_wide [] (length (xs ++ needed s.tab n))) (tree_wide (tree_of s.tab t)) m begins (tree-narrow labels s h funs w own m t ss phi (xs ++ known) body g inner) },
        all-narrow labels s h funs w own m ls ss phi alone held known (other-places s ss phi alone held known n xs t ls p) g (max-second (max (entry_wide held (length xs)) (term_wide funs w own phi t)) (labels_wide funs w own phi held ls) m le),
      )

-- ---- the flow

wide-at : (ls : List flow.Label) (m : ℕ) → ((i : ℕ) (l : flow.Label) → slice_get ls i ≡ Some l → label_wide l ≤ m) → behind.wide ls ≤ m
wide-at [] m h = omega arith
wide-at (l ∷ ls) m h = max-both (label_wide l) (behind.wide ls) m (h 0 l refl) (wide-at ls m (λ i k e. h (suc i) k e))

no-entries : (tab : Table) (m : ℕ) → Entries tab [] m
no-entries tab m l k e = absurd (false≢true e)

flow-at : (funs : List Fun) (w : Widths) (f : Fun) (tab : Table) → is_function funs f ≡ true → only_jumps f.body ≡ true → IsTable (labels_in f.body) tab → (i : ℕ) (l : flow.Label) → slice_get (closed tab f) i ≡ Some l → label_wide l ≤ function_wide funs w f
flow-at funs w f tab e j t zero l q =
    let k = kept-reached funs f tab e j t.reached in
    let m = function_wide funs w f in
    let refl' : function_wide funs w f ≤ function_wide funs w f = omega arith in
    let first = max-first (entry_wide [] (length f.params)) (term_wide funs w f.group nowhere f.body) (function_wide funs w f) refl' in
    let second = max-second (entry_wide [] (length f.params)) (term_wide funs w f.group nowhere f.body) (function_wide funs w f) refl' in
    subst (λ z. label_wide z ≤ function_wide funs w f) (some-label (record { params = f.params; body = tree_of tab f.body }) l q)
    (max-both (entry_wide [] (length f.params)) (tree_wide (tree_of tab f.body)) (function_wide funs w f) first
    (tree-narrow (closed tab f) (setting funs f tab) (all-settled funs f tab e j t) funs w f.group (function_wide funs w f) f.body [] nowhere f.params (place-of funs f tab e j k.least) (no-entries tab (function_wide funs w f)) second))
flow-at funs w f tab e j t (suc i) l q =
    let k = kept-reached funs f tab e j t.reached in
    let refl' : function_wide funs w f ≤ function_wide funs w f = omega arith in
    let second = max-second (entry_wide [] (length f.params)) (term_wide funs w f.group nowhere f.body) (function_wide funs w f) refl' in
    let all = labels-narrow (closed tab f) (setting funs f tab) (all-settled funs f tab e j t) funs w f.group (function_wide funs w f) f.body [] nowhere f.params (place-of funs f tab e j k.least) (no-entries tab (function_wide funs w f)) second in
    let from = closed-from tab (labels_in f.body) tab.lists i l q in
    let one = seen-at (Narrow tab (function_wide funs w f)) (labels_in f.body) i from.0 all from.1 in
    let here = closed-needed funs f tab e j t i from.0 from.1 in
    let same : with_wanted tab from.0 (needed tab from.0.label) ≡ l = some-label (with_wanted tab from.0 (needed tab from.0.label)) l (sym here ∙ q) in
    subst (λ z. label_wide z ≤ function_wide funs w f) same one.by

-- the flow of a program's main function is at most as wide as the program
pub flow-narrow : (funs : List Fun) (main : ℕ) (f : Fun) (tab : Table) → slice_get funs main ≡ Some f → is_function funs f ≡ true → only_jumps f.body ≡ true → IsTable (labels_in f.body) tab → behind.wide (closed tab f) ≤ before.wide funs main
flow-narrow funs main f tab here e j t =
    let w = widths_within funs f.group in
    let le : behind.wide (closed tab f) ≤ function_wide funs (widths_within funs f.group) f = wide-at (closed tab f) (function_wide funs (widths_within funs f.group) f) (flow-at funs (widths_within funs f.group) f tab e j t) in
    subst (λ o. behind.wide (closed tab f) ≤ main_wide funs o) (sym here)
    (at-most (behind.wide (closed tab f)) (function_wide funs (widths_within funs f.group) f) (greatest_wide funs (widths_within funs f.group) f.group funs) le (greatest-of funs (widths_within funs f.group) funs main f here))
