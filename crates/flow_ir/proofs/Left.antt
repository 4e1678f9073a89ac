-- What is left of a flow means the same, is formed, and is neither wider nor larger.
use Rattle.std.proofs.Common.{◌≡◌, ℕ, zero, suc, ◌+◌, ◌<◌, ◌≤◌, max, Bool, true, false, ◌&&◌, ◌||◌, if◌then◌else◌, List, [], ◌∷◌, ◌++◌, length, map, Option, Some, None, slice_get, nat_le, ⊎_elim, refl, sym, ap, subst, ◌∙◌, arith}
use Rattle.std.specs.List.{list_all}
use Rattle.std.proofs.lemmas.Bool.{and_parts, and_from, cases_eq, not-true, false≢true}
use Rattle.std.proofs.lemmas.Bool.Decides.{nat_tests}
use Rattle.std.proofs.lemmas.Option.{none-some, same_Some, slice_get_within}
use Rattle.nv_base.specs.Memories.{Memories}
use Rattle.nv_base.specs.Meanings.{FullOutcome}
use Rattle.nv_base.specs.Measures.{Bulk, IsAtMost, nothing, both, a_label, a_node, let_wide, operands_wide, entry_wide}
use Rattle.nv_base.specs.Sets.{different, without, all_different, all_vars}
use Rattle.nv_base.specs.Access.{is_known, all_known, is_primitive, can_move, is_address}
use Rattle.nv_base.specs.Words.{Env, assigned, assigned_all, atom_word, atom_words, atom_vars, prim_word, prim_vars, compares}
use Rattle.nv_base.specs.World.{World, begun}
use Rattle.nv_base.proofs.Kept.{IsKept, kept-read, kept-write, kept-if}
use Rattle.nv_base.proofs.Measures.{most-refl, most-trans, most-behind}
use Rattle.flow_ir.specs.Tree.{Tree, Let, Read, Write, If, Jump, Halt, Label}
use Rattle.flow_ir.specs.Formed.{defined, takes_as_many, is_formed, is_label, is_entry, is_flow}
use Rattle.flow_ir.specs.Meaning.{Next, does, blank, enter, run, flow_meaning, flow_params, params_of}
use Rattle.flow_ir.specs.View.{label_view}
use Rattle.flow_ir.specs.declared.flow.Label.{Label as DeclaredLabel}
use Rattle.flow_ir.specs.Wide.{live, tree_wide, label_wide, wide}
use Rattle.flow_ir.specs.Bulk.{tree_bulk, bulk}
use Rattle.flow_ir.specs.inner.Pruned.{is_out, goes_on, all_go_on, rank, renumbered, relabelled, left, IsPruned}

-- ---- numbers

pub rank-out : (out : List Bool) (i : ℕ) → is_out out i ≡ true → rank out (suc i) ≡ rank out i
rank-out out i e = ap (λ c. if c then rank out i else suc (rank out i)) e

pub rank-in : (out : List Bool) (i : ℕ) → is_out out i ≡ false → rank out (suc i) ≡ suc (rank out i)
rank-in out i e = ap (λ c. if c then rank out i else suc (rank out i)) e

grows-at : (c : Bool) (n : ℕ) → n ≤ (if c then n else suc n)
grows-at true n = omega arith
grows-at false n = omega arith

rank-more : (out : List Bool) (k i : ℕ) → i ≤ k → rank out i ≤ rank out k
rank-more out zero i le = let e : i ≡ 0 = omega arith in let same : rank out i ≡ rank out 0 = ap (rank out) e in omega arith
rank-more out (suc k) i le =
    ⊎_elim (λ (e : i ≡ suc k). let same : rank out i ≡ rank out (suc k) = ap (rank out) e in omega arith)
    (λ (ne : i ≡ suc k → ⊥).
    let front : rank out i ≤ rank out k = rank-more out k i (omega arith) in
    let step : rank out k ≤ rank out (suc k) = grows-at (is_out out k) (rank out k) in
    omega (arith, front, step))
    (cases_eq i (suc k))

-- ---- labels by their numbers

head-at : (c : Bool) (n : ℕ) (x : Label) (xs ys : List Label) → c ≡ false → n ≡ 0 → slice_get (if c then xs else x ∷ ys) n ≡ Some x
head-at true n x xs ys e z = absurd (false≢true (sym e))
head-at false n x xs ys e z = ap (slice_get (x ∷ ys)) z

skip-at : (c : Bool) (n : ℕ) (x : Label) (xs ys : List Label) (o : Option Label) → (c ≡ true → slice_get xs n ≡ o) → (c ≡ false → (m : ℕ) × (n ≡ suc m) × (slice_get ys m ≡ o)) → slice_get (if c then xs else x ∷ ys) n ≡ o
skip-at true n x xs ys o f g = f refl
skip-at false n x xs ys o f g = let h = g refl in ap (slice_get (x ∷ ys)) h.1 ∙ h.2

one-less : (n : ℕ) → 1 ≤ n → (m : ℕ) × (n ≡ suc m)
one-less zero le = absurd (omega arith)
one-less (suc m) le = (m, refl)

pub left-at : (out : List Bool) (to : ℕ → ℕ) (gs : List Label) (i j k n : ℕ) (l : Label) → slice_get gs j ≡ Some l → k ≡ i + j → is_out out k ≡ false → rank out k ≡ n + rank out i → slice_get (left out to i gs) n ≡ Some (relabelled to l)
left-at out to [] i j k n l e at stays r = absurd (none-some l e)
left-at out to (g ∷ gs) i zero k n l e at stays r =
    let here : k ≡ i = omega arith in
    let same : g ≡ l = same_Some g l e in
    let first : n ≡ 0 = (let q : rank out k ≡ rank out i = ap (rank out) here in omega (arith, q, r)) in
    head-at (is_out out i) n (relabelled to g) (left out to (suc i) gs) (left out to (suc i) gs) (subst (λ x. is_out out x ≡ false) here stays) first
    ∙ ap (λ x. Some (relabelled to x)) same
left-at out to (g ∷ gs) i (suc j) k n l e at stays r =
    skip-at (is_out out i) n (relabelled to g) (left out to (suc i) gs) (left out to (suc i) gs) (Some (relabelled to l))
    (λ c. let s = rank-out out i c in left-at out to gs (suc i) j k n l e (omega arith) stays (omega (arith, s, r)))
    (λ c.
    let s = rank-in out i c in
    let more : rank out (suc i) ≤ rank out k = rank-more out k (suc i) (omega arith) in
    let p = one-less n (omega (arith, s, r, more)) in
    let q = p.1 in
    (p.0, p.1, left-at out to gs (suc i) j k p.0 l e (omega arith) stays (omega (arith, s, r, q))))

or-second : (a b : Bool) → a ≡ false → (a || b) ≡ true → b ≡ true
or-second true b e h = absurd (false≢true (sym e))
or-second false b e h = h

pub goes-at : (out : List Bool) (gs : List Label) (i j k : ℕ) (l : Label) → all_go_on out i gs ≡ true → slice_get gs j ≡ Some l → k ≡ i + j → is_out out k ≡ false → goes_on out l.body ≡ true
goes-at out [] i j k l h e at stays = absurd (none-some l e)
goes-at out (g ∷ gs) i zero k l h e at stays =
    let here : k ≡ i = omega arith in
    let same : g ≡ l = same_Some g l e in
    let parts = and_parts (is_out out i || goes_on out g.body) (all_go_on out (suc i) gs) h in
    subst (λ x. goes_on out x.body ≡ true) same (or-second (is_out out i) (goes_on out g.body) (subst (λ x. is_out out x ≡ false) here stays) parts.0)
goes-at out (g ∷ gs) i (suc j) k l h e at stays =
    goes-at out gs (suc i) j k l (and_parts (is_out out i || goes_on out g.body) (all_go_on out (suc i) gs) h).1 e (omega arith) stays

there-at : (o : Option Label) (n : ℕ) → takes_as_many n o ≡ true → (x : Label) × (o ≡ Some x)
there-at (Some x) n e = (x, refl)
there-at None n e = absurd (false≢true e)

entry-at : (o : Option Label) → is_entry o ≡ true → (x : Label) × (o ≡ Some x)
entry-at (Some x) e = (x, refl)
entry-at None e = absurd (false≢true e)

test-at : (test : Label → Bool) (gs : List Label) (l : ℕ) (x : Label) → list_all test gs ≡ true → slice_get gs l ≡ Some x → test x ≡ true
test-at test [] l x h e = absurd (none-some x e)
test-at test (g ∷ gs) zero x h e = let same : g ≡ x = same_Some g x e in subst (λ z. test z ≡ true) same (and_parts (test g) (list_all test gs) h).0
test-at test (g ∷ gs) (suc l) x h e = test-at test gs l x (and_parts (test g) (list_all test gs) h).1 e

all-if : (test : Label → Bool) (c : Bool) (x : Label) (xs : List Label) → (c ≡ false → test x ≡ true) → list_all test xs ≡ true → list_all test (if c then xs else x ∷ xs) ≡ true
all-if test true x xs f h = h
all-if test false x xs f h = and_from (test x) (list_all test xs) (f refl) h

-- ---- what the numbers don't change

defined-same : (to : ℕ → ℕ) (t : Tree) → defined (renumbered to t) ≡ defined t
defined-same to (Let x a t) = ap (λ l. x ∷ l) (defined-same to t)
defined-same to (Read m xs a t) = ap (λ l. xs ++ l) (defined-same to t)
defined-same to (Write m a bs t) = defined-same to t
defined-same to (If c a b t u) = ap (λ l. l ++ defined (renumbered to u)) (defined-same to t) ∙ ap (λ l. defined t ++ l) (defined-same to u)
defined-same to (Jump l bs) = refl
defined-same to (Halt e bs) = refl

live-same : (to : ℕ → ℕ) (t : Tree) → live (renumbered to t) ≡ live t
live-same to (Let x a t) = ap (λ l. prim_vars a ++ without l (x ∷ [])) (live-same to t)
live-same to (Read m xs a t) = ap (λ l. atom_vars a ++ without l xs) (live-same to t)
live-same to (Write m a bs t) = ap (λ l. all_vars (a ∷ bs) ++ l) (live-same to t)
live-same to (If c a b t u) =
    ap (λ l. all_vars (a ∷ b ∷ []) ++ (l ++ live (renumbered to u))) (live-same to t) ∙ ap (λ l. all_vars (a ∷ b ∷ []) ++ (live t ++ l)) (live-same to u)
live-same to (Jump l bs) = refl
live-same to (Halt e bs) = refl

wide-same : (to : ℕ → ℕ) (t : Tree) → tree_wide (renumbered to t) ≡ tree_wide t
wide-same to (Let x a t) =
    ap (λ l. max (let_wide (prim_vars a ++ without l (x ∷ []))) (tree_wide (renumbered to t))) (live-same to t)
    ∙ ap (λ n. max (let_wide (prim_vars a ++ without (live t) (x ∷ []))) n) (wide-same to t)
wide-same to (Read m xs a t) =
    ap (λ l. max (max (operands_wide (without l xs) (a ∷ [])) (different (xs ++ l))) (tree_wide (renumbered to t))) (live-same to t)
    ∙ ap (λ n. max (max (operands_wide (without (live t) xs) (a ∷ [])) (different (xs ++ live t))) n) (wide-same to t)
wide-same to (Write m a bs t) =
    ap (λ l. max (operands_wide l (a ∷ bs)) (tree_wide (renumbered to t))) (live-same to t) ∙ ap (λ n. max (operands_wide (live t) (a ∷ bs)) n) (wide-same to t)
wide-same to (If c a b t u) =
    ap (λ l. max (operands_wide (l ++ live (renumbered to u)) (a ∷ b ∷ [])) (max (tree_wide (renumbered to t)) (tree_wide (renumbered to u)))) (live-same to t)
    ∙ ap (λ l. max (operands_wide (live t ++ l) (a ∷ b ∷ [])) (max (tree_wide (renumbered to t)) (tree_wide (renumbered to u)))) (live-same to u)
    ∙ ap (λ n. max (operands_wide (live t ++ live u) (a ∷ b ∷ [])) (max n (tree_wide (renumbered to u)))) (wide-same to t)
    ∙ ap (λ n. max (operands_wide (live t ++ live u) (a ∷ b ∷ [])) (max (tree_wide t) n)) (wide-same to u)
wide-same to (Jump l bs) = refl
wide-same to (Halt e bs) = refl

bulk-same : (to : ℕ → ℕ) (t : Tree) → tree_bulk (renumbered to t) ≡ tree_bulk t
bulk-same to (Let x a t) = ap (λ b. both (a_node 1 2) b) (bulk-same to t)
bulk-same to (Read m xs a t) = ap (λ b. both (a_node (length xs) 1) b) (bulk-same to t)
bulk-same to (Write m a bs t) = ap (λ b. both (a_node 0 (1 + length bs)) b) (bulk-same to t)
bulk-same to (If c a b t u) = ap (λ n. both (a_node 0 2) (both n (tree_bulk (renumbered to u)))) (bulk-same to t) ∙ ap (λ n. both (a_node 0 2) (both (tree_bulk t) n)) (bulk-same to u)
bulk-same to (Jump l bs) = refl
bulk-same to (Halt e bs) = refl

-- ---- measures

wide-if : (c : Bool) (x l : Label) (xs : List Label) (n : ℕ) → label_wide x ≡ label_wide l → wide xs ≤ n → wide (if c then xs else x ∷ xs) ≤ max (label_wide l) n
wide-if true x l xs n e le = omega (arith, le)
wide-if false x l xs n e le = omega (arith, e, le)

wide-left : (out : List Bool) (to : ℕ → ℕ) (i : ℕ) (gs : List Label) → wide (left out to i gs) ≤ wide gs
wide-left out to i [] = omega arith
wide-left out to i (g ∷ gs) =
    wide-if (is_out out i) (relabelled to g) g (left out to (suc i) gs) (wide gs) (ap (λ n. max (entry_wide [] (length g.params)) n) (wide-same to g.body)) (wide-left out to (suc i) gs)

bulk-more : (a b : Bulk) → IsAtMost b (both a b)
bulk-more a b = record { labels = omega arith; jumps = omega arith; nodes = omega arith; defined = omega arith; used = omega arith }

bulk-if : (c : Bool) (x l : Label) (xs : List Label) (b : Bulk) → tree_bulk x.body ≡ tree_bulk l.body → IsAtMost (bulk xs) b → IsAtMost (bulk (if c then xs else x ∷ xs)) (both (both a_label (tree_bulk l.body)) b)
bulk-if true x l xs b e h = most-trans (bulk xs) b (both (both a_label (tree_bulk l.body)) b) h (bulk-more (both a_label (tree_bulk l.body)) b)
bulk-if false x l xs b e h =
    subst (λ n. IsAtMost (both (both a_label n) (bulk xs)) (both (both a_label (tree_bulk l.body)) b)) (sym e) (most-behind (both a_label (tree_bulk l.body)) (bulk xs) b h)

bulk-left : (out : List Bool) (to : ℕ → ℕ) (i : ℕ) (gs : List Label) → IsAtMost (bulk (left out to i gs)) (bulk gs)
bulk-left out to i [] = most-refl nothing
bulk-left out to i (g ∷ gs) = bulk-if (is_out out i) (relabelled to g) g (left out to (suc i) gs) (bulk gs) (bulk-same to g.body) (bulk-left out to (suc i) gs)

-- ---- flows

abbrev Equal : World → FullOutcome → FullOutcome → Type 0
Equal w r s = r ≡ s

equal-kept : IsKept Equal
equal-kept = record { same = λ w r e. refl; later = λ m at ws p w r s h. h }

fourth : (a b c d : Bool) → (a && (b && (c && d))) ≡ true → d ≡ true
fourth a b c d e = (and_parts c d (and_parts b (c && d) (and_parts a (b && (c && d)) e).1).1).1

module _ (out : List Bool) (to : ℕ → ℕ) (ls : List Label) (formed : is_flow ls ≡ true) (first : is_out out 0 ≡ false) (closed : all_go_on out 0 ls ≡ true) (ranked : (i : ℕ) → i < length ls → to i ≡ rank out i) where
  found : (l : ℕ) (x : Label) → slice_get ls l ≡ Some x → is_out out l ≡ false → slice_get (left out to 0 ls) (to l) ≡ Some (relabelled to x)
  found l x e stays =
      let r : to l ≡ rank out l = ranked l (slice_get_within ls l x e) in
      let none : rank out 0 ≡ 0 = refl in
      left-at out to ls 0 l l (to l) x e (omega arith) stays (omega (arith, r, none))

  label-formed : (l : ℕ) (x : Label) → slice_get ls l ≡ Some x → is_formed ls x.params x.body ≡ true
  label-formed l x e =
      (and_parts (is_formed ls x.params x.body) (all_different (x.params ++ defined x.body)) (test-at (is_label ls) ls l x (and_parts (list_all (is_label ls) ls) (is_entry (slice_get ls 0)) formed).0 e)).0

  entry : (x : Label) × (slice_get ls 0 ≡ Some x)
  entry = entry-at (slice_get ls 0) (and_parts (list_all (is_label ls) ls) (is_entry (slice_get ls 0)) formed).1

  to-first : to 0 ≡ 0
  to-first = ranked 0 (slice_get_within ls 0 entry.0 entry.1)

  found-first : slice_get (left out to 0 ls) 0 ≡ Some (relabelled to entry.0)
  found-first = ap (slice_get (left out to 0 ls)) (sym to-first) ∙ found 0 entry.0 entry.1 first

  -- ---- meaning

  abbrev Nexts : Next → Next → Type 0
  Nexts f g = (l : ℕ) (x : Label) → slice_get ls l ≡ Some x → is_out out l ≡ false → (ws : List ℕ) (w : World) → g (to l) ws w ≡ f l ws w

  does-left : (f g : Next) → Nexts f g → (t : Tree) (known : List ℕ) → is_formed ls known t ≡ true → goes_on out t ≡ true → (env : Env) (w : World) → does g (renumbered to t) env w ≡ does f t env w
  does-left f g h (Let x a t) known e go env w = does-left f g h t (x ∷ known) (and_parts (is_primitive known a) (is_formed ls (x ∷ known) t) e).1 go (assigned env x (prim_word env a)) w
  does-left f g h (Read m xs a t) known e go env w =
      kept-read Equal equal-kept m (atom_word env a) (length xs) w (λ ws. does g (renumbered to t) (assigned_all env xs ws) w) (λ ws. does f t (assigned_all env xs ws) w)
      (λ ws. does-left f g h t (xs ++ known) (fourth (is_known known a) (can_move m (length xs)) (is_address m a (length xs)) (is_formed ls (xs ++ known) t) e) go (assigned_all env xs ws) w)
  does-left f g h (Write m a bs t) known e go env w =
      kept-write Equal equal-kept m (atom_word env a) (atom_words env bs) w (λ v. does g (renumbered to t) env v) (λ v. does f t env v)
      (λ v. does-left f g h t known (fourth (all_known known bs) (can_move m (length bs)) (is_address m a (length bs)) (is_formed ls known t) (and_parts (is_known known a) (all_known known bs && (can_move m (length bs) && (is_address m a (length bs) && is_formed ls known t))) e).1) go env v)
  does-left f g h (If c a b t u) known e go env w =
      let parts = and_parts (goes_on out t) (goes_on out u) go in
      let two = and_parts (is_formed ls known t) (is_formed ls known u) (and_parts (is_known known b) (is_formed ls known t && is_formed ls known u) (and_parts (is_known known a) (is_known known b && (is_formed ls known t && is_formed ls known u)) e).1).1 in
      kept-if Equal equal-kept (compares c (atom_word env a) (atom_word env b)) w (does g (renumbered to t) env w) (does g (renumbered to u) env w) (does f t env w) (does f u env w)
      (does-left f g h t known two.0 parts.0 env w) (does-left f g h u known two.1 parts.1 env w)
  does-left f g h (Jump l bs) known e go env w =
      let takes = (and_parts (nat_le 1 l) (takes_as_many (length bs) (slice_get ls l)) (and_parts (all_known known bs) (nat_le 1 l && takes_as_many (length bs) (slice_get ls l)) e).1).1 in
      let there = there-at (slice_get ls l) (length bs) takes in
      h l there.0 there.1 (not-true (is_out out l) go) (atom_words env bs) w
  does-left f g h (Halt k bs) known e go env w = refl

  enter-left : (f g : Next) → Nexts f g → (l : ℕ) (x : Label) → slice_get ls l ≡ Some x → is_out out l ≡ false → (ws : List ℕ) (w : World) → enter g (slice_get (left out to 0 ls) (to l)) ws w ≡ enter f (slice_get ls l) ws w
  enter-left f g h l x e stays ws w =
      ap (λ o. enter g o ws w) (found l x e stays)
      ∙ does-left f g h x.body x.params (label-formed l x e) (goes-at out ls 0 l l x closed e (omega arith) stays) (assigned_all blank x.params ws) w
      ∙ sym (ap (λ o. enter f o ws w) e)

  run-left : (n : ℕ) → Nexts (run ls n) (run (left out to 0 ls) n)
  run-left zero l x e stays ws w = refl
  run-left (suc n) l x e stays ws w = enter-left (run ls n) (run (left out to 0 ls) n) (run-left n) l x e stays ws w

  means-left : (args : List ℕ) (p : Memories) (n : ℕ) → flow_meaning ls args p n ≡ flow_meaning (left out to 0 ls) args p n
  means-left args p n =
      sym
      (ap (λ i. enter (run (left out to 0 ls) n) (slice_get (left out to 0 ls) i) args (begun p)) (sym to-first)
      ∙ enter-left (run ls n) (run (left out to 0 ls) n) (run-left n) 0 entry.0 entry.1 first args (begun p))

  params-left : flow_params (left out to 0 ls) ≡ flow_params ls
  params-left = ap params_of found-first ∙ sym (ap params_of entry.1)

  -- ---- formed

  to-positive : (l : ℕ) (x : Label) → slice_get ls l ≡ Some x → nat_le 1 l ≡ true → nat_le 1 (to l) ≡ true
  to-positive l x e le =
      let r : to l ≡ rank out l = ranked l (slice_get_within ls l x e) in
      let one : rank out 1 ≡ 1 = rank-in out 0 first in
      let more : rank out 1 ≤ rank out l = rank-more out l 1 (grind (arith, nat_tests)) in
      let least : 1 ≤ to l = omega (arith, r, one, more) in
      grind (arith, nat_tests)

  formed-left : (t : Tree) (known : List ℕ) → is_formed ls known t ≡ true → goes_on out t ≡ true → is_formed (left out to 0 ls) known (renumbered to t) ≡ true
  formed-left (Let x a t) known e go =
      let parts = and_parts (is_primitive known a) (is_formed ls (x ∷ known) t) e in
      and_from (is_primitive known a) (is_formed (left out to 0 ls) (x ∷ known) (renumbered to t)) parts.0 (formed-left t (x ∷ known) parts.1 go)
  formed-left (Read m xs a t) known e go =
      let ms = left out to 0 ls in
      let p1 = and_parts (is_known known a) (can_move m (length xs) && (is_address m a (length xs) && is_formed ls (xs ++ known) t)) e in
      let p2 = and_parts (can_move m (length xs)) (is_address m a (length xs) && is_formed ls (xs ++ known) t) p1.1 in
      let p3 = and_parts (is_address m a (length xs)) (is_formed ls (xs ++ known) t) p2.1 in
      and_from (is_known known a) (can_move m (length xs) && (is_address m a (length xs) && is_formed ms (xs ++ known) (renumbered to t))) p1.0
      (and_from (can_move m (length xs)) (is_address m a (length xs) && is_formed ms (xs ++ known) (renumbered to t)) p2.0
      (and_from (is_address m a (length xs)) (is_formed ms (xs ++ known) (renumbered to t)) p3.0 (formed-left t (xs ++ known) p3.1 go)))
  formed-left (Write m a bs t) known e go =
      let ms = left out to 0 ls in
      let p0 = and_parts (is_known known a) (all_known known bs && (can_move m (length bs) && (is_address m a (length bs) && is_formed ls known t))) e in
      let p1 = and_parts (all_known known bs) (can_move m (length bs) && (is_address m a (length bs) && is_formed ls known t)) p0.1 in
      let p2 = and_parts (can_move m (length bs)) (is_address m a (length bs) && is_formed ls known t) p1.1 in
      let p3 = and_parts (is_address m a (length bs)) (is_formed ls known t) p2.1 in
      and_from (is_known known a) (all_known known bs && (can_move m (length bs) && (is_address m a (length bs) && is_formed ms known (renumbered to t)))) p0.0
      (and_from (all_known known bs) (can_move m (length bs) && (is_address m a (length bs) && is_formed ms known (renumbered to t))) p1.0
      (and_from (can_move m (length bs)) (is_address m a (length bs) && is_formed ms known (renumbered to t)) p2.0
      (and_from (is_address m a (length bs)) (is_formed ms known (renumbered to t)) p3.0 (formed-left t known p3.1 go))))
  formed-left (If c a b t u) known e go =
      let ms = left out to 0 ls in
      let parts = and_parts (goes_on out t) (goes_on out u) go in
      let p0 = and_parts (is_known known a) (is_known known b && (is_formed ls known t && is_formed ls known u)) e in
      let p1 = and_parts (is_known known b) (is_formed ls known t && is_formed ls known u) p0.1 in
      let p2 = and_parts (is_formed ls known t) (is_formed ls known u) p1.1 in
      and_from (is_known known a) (is_known known b && (is_formed ms known (renumbered to t) && is_formed ms known (renumbered to u))) p0.0
      (and_from (is_known known b) (is_formed ms known (renumbered to t) && is_formed ms known (renumbered to u)) p1.0
      (and_from (is_formed ms known (renumbered to t)) (is_formed ms known (renumbered to u)) (formed-left t known p2.0 parts.0) (formed-left u known p2.1 parts.1)))
  formed-left (Jump l bs) known e go =
      let ms = left out to 0 ls in
      let p0 = and_parts (all_known known bs) (nat_le 1 l && takes_as_many (length bs) (slice_get ls l)) e in
      let p1 = and_parts (nat_le 1 l) (takes_as_many (length bs) (slice_get ls l)) p0.1 in
      let there = there-at (slice_get ls l) (length bs) p1.1 in
      and_from (all_known known bs) (nat_le 1 (to l) && takes_as_many (length bs) (slice_get ms (to l))) p0.0
      (and_from (nat_le 1 (to l)) (takes_as_many (length bs) (slice_get ms (to l))) (to-positive l there.0 there.1 p1.0)
      (ap (takes_as_many (length bs)) (found l there.0 there.1 (not-true (is_out out l) go)) ∙ sym (ap (takes_as_many (length bs)) there.1) ∙ p1.1))
  formed-left (Halt k bs) known e go = e

  label-left : (g : Label) → is_label ls g ≡ true → goes_on out g.body ≡ true → is_label (left out to 0 ls) (relabelled to g) ≡ true
  label-left g e go =
      let parts = and_parts (is_formed ls g.params g.body) (all_different (g.params ++ defined g.body)) e in
      and_from (is_formed (left out to 0 ls) g.params (renumbered to g.body)) (all_different (g.params ++ defined (renumbered to g.body))) (formed-left g.body g.params parts.0 go)
      (ap (λ l. all_different (g.params ++ l)) (defined-same to g.body) ∙ parts.1)

  labels-left : (i : ℕ) (gs : List Label) → list_all (is_label ls) gs ≡ true → all_go_on out i gs ≡ true → list_all (is_label (left out to 0 ls)) (left out to i gs) ≡ true
  labels-left i [] e go = refl
  labels-left i (g ∷ gs) e go =
      let parts = and_parts (is_label ls g) (list_all (is_label ls) gs) e in
      let ways = and_parts (is_out out i || goes_on out g.body) (all_go_on out (suc i) gs) go in
      all-if (is_label (left out to 0 ls)) (is_out out i) (relabelled to g) (left out to (suc i) gs)
      (λ c. label-left g parts.0 (or-second (is_out out i) (goes_on out g.body) c ways.0)) (labels-left (suc i) gs parts.1 ways.1)

  flow-left : is_flow (left out to 0 ls) ≡ true
  flow-left =
      let parts = and_parts (list_all (is_label ls) ls) (is_entry (slice_get ls 0)) formed in
      and_from (list_all (is_label (left out to 0 ls)) (left out to 0 ls)) (is_entry (slice_get (left out to 0 ls) 0)) (labels-left 0 ls parts.0 closed)
      (ap is_entry found-first ∙ sym (ap is_entry entry.1) ∙ parts.1)

-- ---- each property

pub pruned-at : (xs ys : List DeclaredLabel) (ms : List Label) → IsPruned (map label_view xs) ms → xs ≡ ys → IsPruned (map label_view ys) ms
pruned-at xs ys ms h e = subst (λ l. IsPruned (map label_view l) ms) e h

pub pruned-formed : (ls ms : List Label) → is_flow ls ≡ true → IsPruned ls ms → is_flow ms ≡ true
pruned-formed ls ms e h = ap is_flow h.labels ∙ flow-left h.out h.to ls e h.first h.closed h.ranked

pub pruned-params : (ls ms : List Label) → is_flow ls ≡ true → IsPruned ls ms → flow_params ms ≡ flow_params ls
pruned-params ls ms e h = ap flow_params h.labels ∙ params-left h.out h.to ls e h.first h.closed h.ranked

pub pruned-means : (ls ms : List Label) → is_flow ls ≡ true → IsPruned ls ms → (args : List ℕ) (p : Memories) (n : ℕ) → flow_meaning ls args p n ≡ flow_meaning ms args p n
pruned-means ls ms e h args p n = means-left h.out h.to ls e h.first h.closed h.ranked args p n ∙ sym (ap (λ l. flow_meaning l args p n) h.labels)

pub pruned-wide : (ls ms : List Label) → IsPruned ls ms → wide ms ≤ wide ls
pruned-wide ls ms h = subst (λ l. wide l ≤ wide ls) (sym h.labels) (wide-left h.out h.to 0 ls)

pub pruned-bulk : (ls ms : List Label) → IsPruned ls ms → IsAtMost (bulk ms) (bulk ls)
pruned-bulk ls ms h = subst (λ l. IsAtMost (bulk l) (bulk ls)) (sym h.labels) (bulk-left h.out h.to 0 ls)
