-- The tests of single use, node by node and label by label.
use Rattle.std.proofs.Common.{◌≡◌, ℕ, zero, suc, ◌+◌, ◌<◌, ◌≤◌, min, ltb, Option, Some, None, option_map, slice_get, Bool, true, false, not, ◌&&◌, ◌||◌, ◌⊎◌, List, [], ◌∷◌, ◌++◌, length, map, take, get_or, refl, sym, ap, ◌∙◌, subst, ⊎_elim, arith}
use Rattle.std.specs.List.{list_all}
use Rattle.std.proofs.lemmas.Bool.{and_left, false≢true, ltb-true, ltb-false}
use Rattle.std.proofs.lemmas.List.{take_more, take_all, map-append}
use Rattle.std.proofs.lemmas.List.Folds.{list_all-append, list_all-map, list_all_at}
use Rattle.std.proofs.lemmas.Option.{slice_get-map}
use Rattle.nv_base.specs.declared.term.Cmp.{Cmp}
use Rattle.nv_base.specs.Sets.{is_in, all_different}
use Rattle.nv_base.proofs.Sets.{in-append}
use Rattle.ssu_ir.specs.declared.node.SsuNode.{SsuNode}
use Rattle.ssu_ir.specs.declared.node.SsuLabel.{SsuLabel}
use Rattle.ssu_ir.specs.declared.ssu.Ssu.{Ssu}
use Rattle.ssu_ir.specs.Tree.{Step, Last, Tree, Label, Node, last_uses, node_values, Do, If, End, Does, Forks, Ends}
use Rattle.ssu_ir.specs.Slots.{node_of, successors_of, Slots, slot, bodies}
use Rattle.ssu_ir.specs.View.{labels_view}
use Rattle.ssu_ir.specs.Single.{defined, all_defined, is_step, is_last, step_names, names, fresh_after}
use Rattle.ssu_ir.specs.inner.Checks.{node_names, node_defs, times_in, step_kept, is_kept, node_clones, node_fresh_after, defs_kept, node_alone}
use Rattle.ssu_ir.specs.inner.Under.{tree_at, HasTree, AllHave, label_of}
use Rattle.ssu_ir.proofs.Rules.{none-new}
use Rattle.ssu_ir.proofs.Unders.{NoKids, OneKid, TwoKids, no_kids, one_kid, two_kids, shape, labels-viewed}
use Rattle.ssu_ir.proofs.Searches.{times-append}

-- ---- parts in another order

arrange-one : (a d w b r : Bool) → ((a && ((d && w) && b)) && r) ≡ ((a && (d && b)) && (w && r))
arrange-one true true true b r = refl
arrange-one true true false true r = refl
arrange-one true true false false r = refl
arrange-one true false w b r = refl
arrange-one false d w b r = refl

arrange-two : (a d w v b r : Bool) → ((a && ((d && (w && v)) && b)) && r) ≡ ((a && (d && b)) && (w && (v && r)))
arrange-two true true true true b r = refl
arrange-two true true true false true r = refl
arrange-two true true true false false r = refl
arrange-two true true false v true r = refl
arrange-two true true false v false r = refl
arrange-two true false w v b r = refl
arrange-two false d w v b r = refl

arrange-end : (a d w b : Bool) → w ≡ true → (a && ((d && w) && b)) ≡ (a && (d && b))
arrange-end a true true b e = refl
arrange-end a false w b e = refl
arrange-end a true false b e = absurd (false≢true e)

both-new : (p q r s : Bool) → (not (p || q) && (r && s)) ≡ ((not p && r) && (not q && s))
both-new true q r s = refl
both-new false true true s = refl
both-new false true false s = refl
both-new false false r s = refl

pub new-append : (xs a b : List ℕ) → list_all (λ x. not (is_in x (a ++ b))) xs ≡ (list_all (λ x. not (is_in x a)) xs && list_all (λ x. not (is_in x b)) xs)
new-append [] a b = refl
new-append (x ∷ xs) a b =
    ap (λ c. not c && list_all (λ y. not (is_in y (a ++ b))) xs) (in-append x a b)
    ∙ ap (λ c. not (is_in x a || is_in x b) && c) (new-append xs a b)
    ∙ both-new (is_in x a) (is_in x b) (list_all (λ y. not (is_in y a)) xs) (list_all (λ y. not (is_in y b)) xs)

and-same : (b : Bool) → b ≡ (true && (b && true))
and-same true = refl
and-same false = refl

different-step : (p q r s t : Bool) → (not (p || q) && (r && (s && t))) ≡ ((not p && r) && (s && (not q && t)))
different-step true q r s t = refl
different-step false true true true t = refl
different-step false true true false t = refl
different-step false true false s t = refl
different-step false false r s t = refl

pub different-append : (a b : List ℕ) → all_different (a ++ b) ≡ (all_different a && (all_different b && list_all (λ x. not (is_in x b)) a))
different-append [] b = and-same (all_different b)
different-append (x ∷ a) b =
    ap (λ c. not c && all_different (a ++ b)) (in-append x a b)
    ∙ ap (λ c. not (is_in x a || is_in x b) && c) (different-append a b)
    ∙ different-step (is_in x a) (is_in x b) (all_different a) (all_different b) (list_all (λ y. not (is_in y b)) a)

-- ---- of several parts

pub second_failing : (a b c h : Bool) → a ≡ true → b ≡ false → (a && (b && c)) ≡ h → false ≡ h
second_failing true true c h d e f = absurd (false≢true (sym e))
second_failing true false c h d e f = f
second_failing false b c h d e f = absurd (false≢true d)

pub two_passing : (a b c h r : Bool) → a ≡ true → b ≡ true → r ≡ c → (a && (b && c)) ≡ h → r ≡ h
two_passing true true c h r d e k f = k ∙ f
two_passing true false c h r d e k f = absurd (false≢true e)
two_passing false b c h r d e k f = absurd (false≢true d)

pub third_failing : (a b c d h : Bool) → a ≡ true → b ≡ true → c ≡ false → (a && (b && (c && d))) ≡ h → false ≡ h
third_failing true true true d h e f g k = absurd (false≢true (sym g))
third_failing true true false d h e f g k = k
third_failing true false c d h e f g k = absurd (false≢true f)
third_failing false b c d h e f g k = absurd (false≢true e)

pub three_passing : (a b c d h r : Bool) → a ≡ true → b ≡ true → c ≡ true → r ≡ d → (a && (b && (c && d))) ≡ h → r ≡ h
three_passing true true true d h r e f g k l = k ∙ l
three_passing true true false d h r e f g k l = absurd (false≢true g)
three_passing true false c d h r e f g k l = absurd (false≢true f)
three_passing false b c d h r e f g k l = absurd (false≢true e)

-- ---- what a node defines

pub defs-node : (h : Node) → node_defs h ≡ node_values h ++ node_clones h
defs-node (Does s) = refl
defs-node (Forks c x y) = refl
defs-node (Ends l) = refl

pub all-defs : (p : ℕ → Bool) (h : Node) → list_all p (node_defs h) ≡ (list_all p (node_values h) && list_all p (node_clones h))
all-defs p h = ap (list_all p) (defs-node h) ∙ list_all-append p (node_values h) (node_clones h)

-- ---- the tests of a tree by its first node

kept-end : (labels : List Label) (known : ℕ → Bool) (fresh : List ℕ) (h : Node) (l : Last) (T : Tree) → h ≡ Ends l → T ≡ End l → is_kept labels known fresh T ≡ node_alone labels known h
kept-end labels known fresh h l T e d =
    ap (is_kept labels known fresh) d
    ∙ arrange-end (is_last labels l) (all_different (last_uses l)) (list_all (λ x. not (is_in x [])) (last_uses l)) (list_all known (last_uses l)) (none-new (last_uses l))
    ∙ ap (node_alone labels known) (sym e)

kept-do : (labels : List Label) (known : ℕ → Bool) (fresh : List ℕ) (h : Node) (s : Step) (t T : Tree) → h ≡ Does s → T ≡ Do s t
    → is_kept labels known fresh T
    ≡ (node_alone labels known h && (list_all (λ x. not (is_in x (names t))) (node_names h) && (defs_kept labels fresh h t && is_kept labels known (node_fresh_after fresh h) t)))
kept-do labels known fresh h s t T e d =
    ap (is_kept labels known fresh) d
    ∙ arrange-one (is_step s) (all_different (step_names s)) (list_all (λ x. not (is_in x (names t))) (step_names s)) (list_all known (step_names s)) (step_kept labels fresh s t && is_kept labels known (fresh_after fresh s) t)
    ∙ ap (λ m. node_alone labels known m && (list_all (λ x. not (is_in x (names t))) (node_names m) && (defs_kept labels fresh m t && is_kept labels known (node_fresh_after fresh m) t))) (sym e)

kept-if : (labels : List Label) (known : ℕ → Bool) (fresh : List ℕ) (h : Node) (c : Cmp) (a b : ℕ) (t u T : Tree) → h ≡ Forks c a b → T ≡ If c a b t u
    → is_kept labels known fresh T
    ≡ (node_alone labels known h && (list_all (λ x. not (is_in x (names t))) (node_names h) && (list_all (λ x. not (is_in x (names u))) (node_names h) && (is_kept labels known [] t && is_kept labels known [] u))))
kept-if labels known fresh h c a b t u T e d =
    ap (is_kept labels known fresh) d
    ∙ ap (λ w. ((all_different (a ∷ b ∷ []) && w) && list_all known (a ∷ b ∷ [])) && (is_kept labels known [] t && is_kept labels known [] u)) (new-append (a ∷ b ∷ []) (names t) (names u))
    ∙ arrange-two true (all_different (a ∷ b ∷ [])) (list_all (λ x. not (is_in x (names t))) (a ∷ b ∷ [])) (list_all (λ x. not (is_in x (names u))) (a ∷ b ∷ [])) (list_all known (a ∷ b ∷ [])) (is_kept labels known [] t && is_kept labels known [] u)
    ∙ ap (λ m. node_alone labels known m && (list_all (λ x. not (is_in x (names t))) (node_names m) && (list_all (λ x. not (is_in x (names u))) (node_names m) && (is_kept labels known [] t && is_kept labels known [] u)))) (sym e)

pub kept_here : (labels : List Label) (known : ℕ → Bool) (fresh : List ℕ) (slots : Slots) (i : ℕ) (n : SsuNode) → HasTree slots i → slot slots i ≡ Some n → node_alone labels known (node_of n) ≡ false → false ≡ is_kept labels known fresh (tree_at slots i)
kept_here labels known fresh slots i n h f z =
    ⊎_elim
    (λ (o : NoKids slots i n). sym (kept-end labels known fresh (node_of n) o.l (tree_at slots i) o.is o.tree ∙ z))
    (λ (r : ((k : ℕ) × OneKid slots i n k) ⊎ ((j : ℕ) × ((k : ℕ) × TwoKids slots i n j k))).
    ⊎_elim
    (λ (p : (k : ℕ) × OneKid slots i n k).
    let o = p.1 in
    sym (kept-do labels known fresh (node_of n) o.s (tree_at slots p.0) (tree_at slots i) o.is o.tree ∙ and_left (node_alone labels known (node_of n)) _ z))
    (λ (p : (j : ℕ) × ((k : ℕ) × TwoKids slots i n j k)).
    let o = p.1.1 in
    sym (kept-if labels known fresh (node_of n) o.c o.x o.y (tree_at slots p.0) (tree_at slots p.1.0) (tree_at slots i) o.is o.tree ∙ and_left (node_alone labels known (node_of n)) _ z))
    r)
    (shape slots i n h f)

pub kept_none : (labels : List Label) (known : ℕ → Bool) (fresh : List ℕ) (slots : Slots) (i : ℕ) (n : SsuNode) → HasTree slots i → slot slots i ≡ Some n → [] ≡ successors_of n → node_alone labels known (node_of n) ≡ true → true ≡ is_kept labels known fresh (tree_at slots i)
kept_none labels known fresh slots i n h f e z = let o = no_kids slots i n h f e in sym (kept-end labels known fresh (node_of n) o.l (tree_at slots i) o.is o.tree ∙ z)

pub kept_one : (labels : List Label) (known : ℕ → Bool) (fresh : List ℕ) (slots : Slots) (i : ℕ) (n : SsuNode) (k : ℕ) → HasTree slots i → slot slots i ≡ Some n → k ∷ [] ≡ successors_of n → node_alone labels known (node_of n) ≡ true
    → (list_all (λ x. not (is_in x (names (tree_at slots k)))) (node_names (node_of n))
    && (defs_kept labels fresh (node_of n) (tree_at slots k) && is_kept labels known (node_fresh_after fresh (node_of n)) (tree_at slots k)))
    ≡ is_kept labels known fresh (tree_at slots i)
kept_one labels known fresh slots i n k h f e z =
    let o = one_kid slots i n k h f e in
    sym
    (kept-do labels known fresh (node_of n) o.s (tree_at slots k) (tree_at slots i) o.is o.tree
    ∙ ap
    (λ b.
    b
    && (list_all (λ x. not (is_in x (names (tree_at slots k)))) (node_names (node_of n))
    && (defs_kept labels fresh (node_of n) (tree_at slots k) && is_kept labels known (node_fresh_after fresh (node_of n)) (tree_at slots k))))
    z)

pub kept_two : (labels : List Label) (known : ℕ → Bool) (fresh : List ℕ) (slots : Slots) (i : ℕ) (n : SsuNode) (j k : ℕ) → HasTree slots i → slot slots i ≡ Some n → j ∷ k ∷ [] ≡ successors_of n → node_alone labels known (node_of n) ≡ true
    → (list_all (λ x. not (is_in x (names (tree_at slots j)))) (node_names (node_of n))
    && (list_all (λ x. not (is_in x (names (tree_at slots k)))) (node_names (node_of n)) && (is_kept labels known [] (tree_at slots j) && is_kept labels known [] (tree_at slots k))))
    ≡ is_kept labels known fresh (tree_at slots i)
kept_two labels known fresh slots i n j k h f e z =
    let o = two_kids slots i n j k h f e in
    sym
    (kept-if labels known fresh (node_of n) o.c o.x o.y (tree_at slots j) (tree_at slots k) (tree_at slots i) o.is o.tree
    ∙ ap
    (λ b.
    b
    && (list_all (λ x. not (is_in x (names (tree_at slots j)))) (node_names (node_of n))
    && (list_all (λ x. not (is_in x (names (tree_at slots k)))) (node_names (node_of n)) && (is_kept labels known [] (tree_at slots j) && is_kept labels known [] (tree_at slots k)))))
    z)

-- ---- labels in a row

have-at : (slots : Slots) (ls : List SsuLabel) (i : ℕ) (d : SsuLabel) → AllHave slots (bodies ls) → i < length ls → HasTree slots (get_or ls i d).body.0
have-at slots [] i d h l = absurd (omega arith)
have-at slots (m ∷ ls) zero d h l = h.0
have-at slots (m ∷ ls) (suc i) d h l = have-at slots ls i d h.1 (omega arith)

-- an item of a loop over the labels: of the list itself
index_in : (ls its : List SsuLabel) (i : ℕ) → its ≡ ls → i < length its → i < length ls
index_in ls its i e h = subst (λ (l : List SsuLabel). i < length l) e h

item_in : (ls its : List SsuLabel) (i : ℕ) (r : SsuLabel) → its ≡ ls → r ≡ get_or its i r → r ≡ get_or ls i r
item_in ls its i r e h = h ∙ ap (λ l. get_or l i r) e

pub have_item : (slots : Slots) (ls its : List SsuLabel) (i : ℕ) (r : SsuLabel) → AllHave slots (bodies ls) → its ≡ ls → i < length its → r ≡ get_or its i r → HasTree slots r.body.0
have_item slots ls its i r h s l e = let P : SsuLabel → Type 0 = λ m. HasTree slots m.body.0 in subst P (sym (item_in ls its i r s e)) (have-at slots ls i r h (index_in ls its i s l))

pub defined-append : (x : ℕ) (a b : List Label) → times_in x (all_defined (a ++ b)) ≡ times_in x (all_defined a) + times_in x (all_defined b)
defined-append x [] b = omega arith
defined-append x (l ∷ a) b =
    omega (
      arith,
      times-append x l.params (defined l.body ++ all_defined (a ++ b)),
      times-append x (defined l.body) (all_defined (a ++ b)),
      times-append x l.params (defined l.body ++ all_defined a),
      times-append x (defined l.body) (all_defined a),
      defined-append x a b,
    )

labels-more : (slots : Slots) (ls : List SsuLabel) (i : ℕ) (r : SsuLabel) → i < length ls → r ≡ get_or ls i r → map (label_of slots) (take (i + 1) ls) ≡ map (label_of slots) (take i ls) ++ label_of slots r ∷ []
labels-more slots ls i r l e =
    ap (map (label_of slots)) (take_more ls i r l ∙ ap (λ m. take i ls ++ m ∷ []) (sym e)) ∙ map-append (label_of slots) (take i ls) (r ∷ [])

pub times_more : (x : ℕ) (slots : Slots) (ls its : List SsuLabel) (i : ℕ) (r : SsuLabel) → its ≡ ls → i < length its → r ≡ get_or its i r
    → times_in x (all_defined (map (label_of slots) (take i ls))) + (times_in x r.params.items + times_in x (defined (tree_at slots r.body.0))) ≡ times_in x (all_defined (map (label_of slots) (take (i + 1) ls)))
times_more x slots ls its i r s l e =
    let a : times_in x (all_defined (map (label_of slots) (take (i + 1) ls))) ≡ times_in x (all_defined (map (label_of slots) (take i ls))) + times_in x (all_defined (label_of slots r ∷ [])) =
    ap (λ v. times_in x (all_defined v)) (labels-more slots ls i r (index_in ls its i s l) (item_in ls its i r s e)) ∙ defined-append x (map (label_of slots) (take i ls)) (label_of slots r ∷ []) in
    let n : times_in x (all_defined []) ≡ 0 = refl in
    omega (arith, a, n, times-append x r.params.items (defined (tree_at slots r.body.0) ++ []), times-append x (defined (tree_at slots r.body.0)) [])

pub times_all : (x : ℕ) (s : Ssu) (its : List SsuLabel) (i n : ℕ) → its ≡ s.labels.items → length its ≤ i → n ≡ min 255 (times_in x (all_defined (map (label_of s.nodes.slots) (take i s.labels.items)))) → n ≡ min 255 (times_in x (all_defined (labels_view s)))
times_all x s its i n e l h =
    h ∙ ap (λ v. min 255 (times_in x (all_defined v))) (ap (map (label_of s.nodes.slots)) (take_all i s.labels.items (subst (λ (k : List SsuLabel). length k ≤ i) e l)) ∙ sym (labels-viewed s))

pub kept_more : (p : Label → Bool) (slots : Slots) (ls its : List SsuLabel) (i : ℕ) (r : SsuLabel) → its ≡ ls → i < length its → r ≡ get_or its i r → list_all p (map (label_of slots) (take i ls)) ≡ true → p (label_of slots r) ≡ true
    → list_all p (map (label_of slots) (take (i + 1) ls)) ≡ true
kept_more p slots ls its i r s l e a b =
    ap (list_all p) (labels-more slots ls i r (index_in ls its i s l) (item_in ls its i r s e))
    ∙ list_all-append p (map (label_of slots) (take i ls)) (label_of slots r ∷ [])
    ∙ ap (λ c. c && (p (label_of slots r) && true)) a
    ∙ ap (λ c. c && true) b

pub kept_all : (p : Label → Bool) (s : Ssu) (its : List SsuLabel) (i : ℕ) → its ≡ s.labels.items → length its ≤ i → list_all p (map (label_of s.nodes.slots) (take i s.labels.items)) ≡ true → true ≡ list_all p (labels_view s)
kept_all p s its i e l h =
    sym h ∙ ap (list_all p) (ap (map (label_of s.nodes.slots)) (take_all i s.labels.items (subst (λ (k : List SsuLabel). length k ≤ i) e l)) ∙ sym (labels-viewed s))

pub not_kept : (p : Label → Bool) (s : Ssu) (its : List SsuLabel) (i : ℕ) (r : SsuLabel) → its ≡ s.labels.items → i < length its → r ≡ get_or its i r → p (label_of s.nodes.slots r) ≡ false → false ≡ list_all p (labels_view s)
not_kept p s its i r f l e b =
    sym
    (ap (list_all p) (labels-viewed s)
    ∙ list_all-map p (label_of s.nodes.slots) s.labels.items
    ∙ list_all_at (λ m. p (label_of s.nodes.slots m)) s.labels.items i r (index_in s.labels.items its i f l)
    (ap (λ m. p (label_of s.nodes.slots m)) (sym (item_in s.labels.items its i r f e)) ∙ b))

-- ---- one label

pub view_at : (s : Ssu) (its : List SsuLabel) (i : ℕ) (o : Option SsuLabel) → its ≡ s.labels.items → o ≡ slice_get its i → slice_get (labels_view s) i ≡ option_map (label_of s.nodes.slots) o
view_at s its i o e h =
    ap (λ v. slice_get v i) (labels-viewed s)
    ∙ slice_get-map (label_of s.nodes.slots) s.labels.items i
    ∙ ap (option_map (label_of s.nodes.slots)) (ap (λ l. slice_get l i) (sym e) ∙ sym h)

some-from : (its : List SsuLabel) (i : ℕ) (m d : SsuLabel) → i < length its → m ≡ get_or its i d → Some m ≡ slice_get its i
some-from [] i m d l e = absurd (omega arith)
some-from (x ∷ xs) zero m d l e = ap (λ y. Some y) e
some-from (x ∷ xs) (suc i) m d l e = some-from xs i m d (omega arith) e

pub some_from : (its : List SsuLabel) (i : ℕ) (m d : SsuLabel) → true ≡ ltb i (length its) → m ≡ get_or its i d → Some m ≡ slice_get its i
some_from its i m d l e = some-from its i m d (ltb-true i (length its) (sym l)) e

none-from : (its : List SsuLabel) (i : ℕ) → length its ≤ i → None ≡ slice_get its i
none-from [] i l = refl
none-from (x ∷ xs) zero l = absurd (omega arith)
none-from (x ∷ xs) (suc i) l = none-from xs i (omega arith)

pub none_from : (its : List SsuLabel) (i : ℕ) → false ≡ ltb i (length its) → None ≡ slice_get its i
none_from its i l = none-from its i (ltb-false i (length its) (sym l))
