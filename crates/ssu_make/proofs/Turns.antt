-- One turn of each loop, and the nodes that are added.
use Rattle.std.proofs.Common.{◌≡◌, ℕ, zero, suc, ◌+◌, ◌<◌, nat_lt, List, [], ◌∷◌, ◌++◌, map, refl, sym, ap, subst, ◌∙◌, length, get_or, drop, reverse, append_assoc, arith}
use Rattle.std.specs.Borrow.{Bor}
use Rattle.std.specs.List.{range_with_len}
use Rattle.std.proofs.lemmas.List.{append-nil, at_drop_more, reverse-append}
use Rattle.nv_base.specs.declared.term.Atom.{Atom}
use Rattle.nv_base.specs.declared.term.Cmp.{Cmp}
use Rattle.flow_ir.specs.declared.flow.Tree.{Tree as Boxed}
use Rattle.flow_ir.specs.Tree.{Tree, Let, Read, Write, If, Jump, Halt}
use Rattle.flow_ir.specs.View.{tree_view}
use Rattle.flow_ir.specs.Formed.{defined}
use Rattle.ssu_ir.specs.declared.build.SsuBuild.{SsuBuild}
use Rattle.ssu_ir.specs.declared.node.SsuNode.{SsuNode}
use Rattle.ssu_ir.specs.Build.{Holds, CanTake, Grown}
use Rattle.ssu_ir.specs.Slots.{over, node_of, successors_of}
use Rattle.ssu_ir.specs.Tree as ssu
use Rattle.ssu_make.specs.Uses.{Counts, here, occurs, all_uses}
use Rattle.ssu_make.specs.Made.{name, names, taken, all_taken, literals, atom_literal, clone_step, clones}
use Rattle.ssu_make.specs.inner.Making.{HasRoots, IsRoot, AreRoots, Becomes, Joined, Adds, tops, successor_list, node_operands, node_defined}
use Rattle.ssu_make.proofs.Along.{same-everywhere, Named, LiteralsOn, ClonesOn, weight, weights, sum_uses, defined_in, Surveys}

-- ---- lists

pub drop-step : {X Y : Type 0} (F : List X → Y) (xs : List X) (i : ℕ) (d x : X) → i < length xs → x ≡ get_or xs i d → F (drop i xs) ≡ F (x ∷ drop (i + 1) xs)
drop-step F xs i d x lt e = at_drop_more F xs i d lt ∙ ap (λ z. F (z ∷ drop (i + 1) xs)) (sym e)

pub range-last : (n a : ℕ) → range_with_len a (n + 1) ≡ range_with_len a n ++ (a + n) ∷ []
range-last zero a = let e : a ≡ a + 0 = omega arith in ap (λ z. z ∷ []) e
range-last (suc n) a = let k : suc n + 1 ≡ suc (n + 1) = omega arith in let e : a + 1 + n ≡ a + suc n = omega arith in ap (range_with_len a) k ∙ ap (λ l. a ∷ l) (range-last n (a + 1) ∙ ap (λ z. range_with_len (a + 1) n ++ z ∷ []) e)

-- ---- builders

pub can-take-one : (b : SsuBuild) (n : SsuNode) (i : ℕ) → IsRoot b i → successors_of n ≡ i ∷ [] → CanTake b n
can-take-one b n i r e = record { taken = (i, r.tree) ∷ []; rest = r.rest; children = sym e; holds = r.holds }

pub can-take-two : (b : SsuBuild) (n : SsuNode) (i j : ℕ) → AreRoots b i j → successors_of n ≡ i ∷ j ∷ [] → CanTake b n
can-take-two b n i j r e = record { taken = (i, r.first) ∷ (j, r.second) ∷ []; rest = r.rest; children = sym e; holds = r.holds }

pub can-take-none : (b : SsuBuild) (n : SsuNode) → HasRoots b → successors_of n ≡ [] → CanTake b n
can-take-none b n r e = record { taken = []; rest = r.roots; children = sym e; holds = r.holds }

pub becomes-node : (old new : SsuBuild) (n : SsuNode) (i id : ℕ) (s : ssu.Step) → Grown old new n id → node_of n ≡ ssu.Does s → successors_of n ≡ i ∷ [] → Becomes old new i id (ssu.Do s)
becomes-node old new n i id s g e k = record {
  by = λ t rest h. subst (λ m. Holds new ((id, over m (t ∷ [])) ∷ rest)) e (g ((i, t) ∷ []) rest (sym k) h);
}

pub joined-node : (old new : SsuBuild) (n : SsuNode) (i j id : ℕ) (c : Cmp) (x y : ℕ) → Grown old new n id → node_of n ≡ ssu.Forks c x y → successors_of n ≡ i ∷ j ∷ [] → Joined old new i j id (ssu.If c x y)
joined-node old new n i j id c x y g e k = record {
  by = λ t u rest h. subst (λ m. Holds new ((id, over m (t ∷ u ∷ [])) ∷ rest)) e (g ((i, t) ∷ (j, u) ∷ []) rest (sym k) h);
}

pub adds-node : (old new : SsuBuild) (n : SsuNode) (id : ℕ) (l : ssu.Last) → Grown old new n id → node_of n ≡ ssu.Ends l → successors_of n ≡ [] → Adds old new id (ssu.End l)
adds-node old new n id l g e k = record { by = λ rest h. subst (λ m. Holds new ((id, over m []) ∷ rest)) e (g [] rest (sym k) h) }

pub becomes-root : (old new : SsuBuild) (i j : ℕ) (f : ssu.Tree → ssu.Tree) → Becomes old new i j f → IsRoot old i → IsRoot new j
becomes-root old new i j f b r = record { tree = f r.tree; rest = r.rest; holds = b.by r.tree r.rest r.holds }

pub joined-root : (old new : SsuBuild) (i j k : ℕ) (f : ssu.Tree → ssu.Tree → ssu.Tree) → Joined old new i j k f → AreRoots old i j → IsRoot new k
joined-root old new i j k f b r = record { tree = f r.first r.second; rest = r.rest; holds = b.by r.first r.second r.rest r.holds }

pub adds-root : (old new : SsuBuild) (i : ℕ) (t : ssu.Tree) → Adds old new i t → HasRoots old → IsRoot new i
adds-root old new i t b r = record { tree = t; rest = r.roots; holds = b.by r.roots r.holds }

pub becomes-trans : (a b c : SsuBuild) (i j k : ℕ) (f g : ssu.Tree → ssu.Tree) → Becomes a b i j f → Becomes b c j k g → Becomes a c i k (λ t. g (f t))
becomes-trans a b c i j k f g p q = record { by = λ t rest h. q.by (f t) rest (p.by t rest h) }

pub joined-becomes : (a b c : SsuBuild) (i j k m : ℕ) (f : ssu.Tree → ssu.Tree → ssu.Tree) (g : ssu.Tree → ssu.Tree) → Joined a b i j k f → Becomes b c k m g → Joined a c i j m (λ t u. g (f t u))
joined-becomes a b c i j k m f g p q = record { by = λ t u rest h. q.by (f t u) rest (p.by t u rest h) }

pub adds-becomes : (a b c : SsuBuild) (i j : ℕ) (t : ssu.Tree) (g : ssu.Tree → ssu.Tree) → Adds a b i t → Becomes b c i j g → Adds a c j (g t)
adds-becomes a b c i j t g p q = record { by = λ rest h. q.by t rest (p.by rest h) }

-- ---- names of operands

pub named-more : (base r now now' : Counts) (n d d' i j : ℕ) (list : List Atom) (dflt a : Atom) (v v' : List ℕ) (z : ℕ) → Named base r n list i v now d → i ≡ j + 1 → a ≡ get_or list j dflt → z ≡ name base now d a → v' ≡ v ++ z ∷ []
    → ((y : ℕ) → now' y ≡ here a y + now y) → d' ≡ d + taken a → Named base r n list j v' now' d'
named-more base r now now' n d d' i j list dflt a v v' z h ei ea ez ev en ed =
    let lt : j < length list = let s = h.small in omega (arith, ei, s) in
    let rest = drop (j + 1) list in
    let back : drop i list ≡ rest = ap (λ k. drop k list) ei in
    let counts : now ≡ (λ y. occurs rest y + r y) = same-everywhere now (λ y. occurs rest y + r y) (λ y. h.counts y ∙ ap (λ l. occurs l y + r y) back) in
    let first : d ≡ n + all_taken rest = h.fresh ∙ ap (λ l. n + all_taken l) back in
    let one : z ≡ name base (λ y. occurs rest y + r y) (n + all_taken rest) a = ez ∙ ap (λ f. name base f d a) counts ∙ ap (λ k. name base (λ y. occurs rest y + r y) k a) first in
    record {
      small = omega arith;
      named = ap reverse ev ∙ reverse-append v (z ∷ []) ∙ ap (λ l. z ∷ l) (h.named ∙ ap (names base r n) back) ∙ ap (λ w. w ∷ names base r n rest) one ∙ sym (drop-step (names base r n) list j dflt a lt ea);
      counts = λ y. en y ∙ ap (λ k. here a y + k) (h.counts y ∙ ap (λ l. occurs l y + r y) back) ∙ sym (drop-step (λ l. occurs l y + r y) list j dflt a lt ea ∙ (let s : here a y + occurs rest y + r y ≡ here a y + (occurs rest y + r y) = omega arith in s));
      fresh = ed ∙ ap (λ k. k + taken a) first ∙ (let s : n + all_taken rest + taken a ≡ n + (taken a + all_taken rest) = omega arith in s) ∙ sym (drop-step (λ l. n + all_taken l) list j dflt a lt ea);
    }

-- ---- literals and clones

pub literals-more : (old mid new : SsuBuild) (from id id' first n n' i j : ℕ) (list : List Atom) (dflt a : Atom) → LiteralsOn old mid from id first n list i → i ≡ j + 1 → a ≡ get_or list j dflt → Becomes mid new id id' (atom_literal n a) → n' ≡ n + taken a
    → LiteralsOn old new from id' first n' list j
literals-more old mid new from id id' first n n' i j list dflt a h ei ea b en =
    let lt : j < length list = let s = h.small in omega (arith, ei, s) in
    let rest = drop (j + 1) list in
    let back : drop i list ≡ rest = ap (λ k. drop k list) ei in
    let at : n ≡ first + all_taken rest = h.next ∙ ap (λ l. first + all_taken l) back in
    let whole : (λ t. atom_literal n a (literals first (drop i list) t)) ≡ literals first (drop j list) =
    ap (λ l. λ t. atom_literal n a (literals first l t)) back ∙ ap (λ k. λ t. atom_literal k a (literals first rest t)) at ∙ sym (drop-step (λ l. literals first l) list j dflt a lt ea) in
    record {
      small = omega arith;
      root = becomes-root mid new id id' (atom_literal n a) b h.root;
      becomes = subst (Becomes old new from id') whole (becomes-trans old mid new from id id' (literals first (drop i list)) (atom_literal n a) h.becomes b);
      next = en ∙ ap (λ k. k + taken a) at ∙ (let s : first + all_taken rest + taken a ≡ first + (taken a + all_taken rest) = omega arith in s) ∙ sym (drop-step (λ l. first + all_taken l) list j dflt a lt ea);
    }

pub clones-more : (old mid new : SsuBuild) (from id id' : ℕ) (base r : Counts) (i j : ℕ) (xs : List ℕ) (dflt x : ℕ) → ClonesOn old mid from id base r xs i → i ≡ j + 1 → x ≡ get_or xs j dflt
    → Becomes mid new id id' (clone_step (nat_lt 1 (r x)) (base x) (r x)) → ClonesOn old new from id' base r xs j
clones-more old mid new from id id' base r i j xs dflt x h ei ea b =
    let lt : j < length xs = let s = h.small in omega (arith, ei, s) in
    let rest = drop (j + 1) xs in
    let back : drop i xs ≡ rest = ap (λ k. drop k xs) ei in
    let f = clone_step (nat_lt 1 (r x)) (base x) (r x) in
    let whole : (λ t. f (clones base r (drop i xs) t)) ≡ clones base r (drop j xs) =
    ap (λ l. λ t. f (clones base r l t)) back ∙ sym (drop-step (λ l. clones base r l) xs j dflt x lt ea) in
    record {
      small = omega arith;
      root = becomes-root mid new id id' f b h.root;
      becomes = subst (Becomes old new from id') whole (becomes-trans old mid new from id id' (clones base r (drop i xs)) f h.becomes b);
    }

-- ---- along a tree

pub tops-last : (ss : List (Bor Boxed)) (s : Bor Boxed) → tops (ss ++ s ∷ []) ≡ tree_view s.now ∷ tops ss
tops-last ss s = ap reverse (map-last ss s) ∙ reverse-append (map (λ t. tree_view t.now) ss) (tree_view s.now ∷ [])
  where
    map-last : (ss : List (Bor Boxed)) (s : Bor Boxed) → map (λ t. tree_view t.now) (ss ++ s ∷ []) ≡ map (λ t. tree_view t.now) ss ++ tree_view s.now ∷ []
    map-last [] s = refl
    map-last (x ∷ ss) s = ap (λ l. tree_view x.now ∷ l) (map-last ss s)

-- ---- a survey

uses-append : (a b : List Tree) (y : ℕ) → sum_uses (a ++ b) y ≡ sum_uses a y + sum_uses b y
unfolding sum_uses
uses-append [] b y = omega arith
uses-append (t ∷ a) b y = omega (arith, uses-append a b y)

defined-append : (a b : List Tree) → defined_in (a ++ b) ≡ defined_in a ++ defined_in b
unfolding defined_in
defined-append [] b = refl
defined-append (t ∷ a) b = ap (λ l. defined t ++ l) (defined-append a b) ∙ sym (append_assoc (defined t) (defined_in a) (defined_in b))

weights-append : (a b : List Tree) → weights (a ++ b) ≡ weights a + weights b
unfolding weights
weights-append [] b = omega arith
weights-append (t ∷ a) b = omega (arith, weights-append a b)

uses-successor_list : (t : Tree) (y : ℕ) → all_uses t y ≡ occurs (node_operands t) y + sum_uses (successor_list t) y
unfolding sum_uses
uses-successor_list (Let x p t) y = omega arith
uses-successor_list (Read m xs a t) y = omega arith
uses-successor_list (Write m a bs t) y = omega arith
uses-successor_list (If c a b t u) y = omega arith
uses-successor_list (Jump l bs) y = omega arith
uses-successor_list (Halt e bs) y = omega arith

defined-successor_list : (t : Tree) → defined t ≡ node_defined t ++ defined_in (successor_list t)
unfolding defined_in
defined-successor_list (Let x p t) = ap (λ l. x ∷ l) (sym (append-nil (defined t)))
defined-successor_list (Read m xs a t) = ap (λ l. xs ++ l) (sym (append-nil (defined t)))
defined-successor_list (Write m a bs t) = sym (append-nil (defined t))
defined-successor_list (If c a b t u) = ap (λ l. defined t ++ l) (sym (append-nil (defined u)))
defined-successor_list (Jump l bs) = refl
defined-successor_list (Halt e bs) = refl

weights-successor_list : (t : Tree) → weights (successor_list t) < weight t
unfolding weight weights
weights-successor_list (Let x p t) = omega arith
weights-successor_list (Read m xs a t) = omega arith
weights-successor_list (Write m a bs t) = omega arith
weights-successor_list (If c a b t u) = omega arith
weights-successor_list (Jump l bs) = omega arith
weights-successor_list (Halt e bs) = omega arith

pub surveys-start : (t : Tree) (before : List ℕ) (now : Counts) → ((y : ℕ) → now y ≡ 0) → Surveys t before (t ∷ []) now before
unfolding sum_uses defined_in
surveys-start t before now none = record { counts = λ y. omega (arith, none y); found = ap (λ l. before ++ l) (append-nil (defined t)) }

pub surveys-step : (t : Tree) (before : List ℕ) (s : Tree) (rest work : List Tree) (now now' : Counts) (all all' : List ℕ) → Surveys t before (s ∷ rest) now all → work ≡ successor_list s ++ rest → ((y : ℕ) → now' y ≡ occurs (node_operands s) y + now y) → all' ≡ all ++ node_defined s
    → Surveys t before work now' all'
unfolding sum_uses defined_in
surveys-step t before s rest work now now' all all' h ew en ea = record {
  counts = λ y.
      let a = h.counts y in
      let b = ap (λ l. sum_uses l y) ew ∙ uses-append (successor_list s) rest y in
      omega (arith, a, b, en y, uses-successor_list s y);
  found =
      ap (λ l. l ++ defined_in work) ea ∙ append_assoc all (node_defined s) (defined_in work)
      ∙ ap (λ l. all ++ (node_defined s ++ l)) (ap defined_in ew ∙ defined-append (successor_list s) rest)
      ∙ ap (λ l. all ++ l) (sym (append_assoc (node_defined s) (defined_in (successor_list s)) (defined_in rest)) ∙ ap (λ l. l ++ defined_in rest) (sym (defined-successor_list s))) ∙ h.found;
}

pub surveys-less : (s : Tree) (rest work : List Tree) → work ≡ successor_list s ++ rest → weights work < weights (s ∷ rest)
unfolding weights
surveys-less s rest work e = let a = ap weights e ∙ weights-append (successor_list s) rest in let b = weights-successor_list s in omega (arith, a, b)

pub surveys-end : (t : Tree) (before : List ℕ) (now : Counts) (all : List ℕ) → Surveys t before [] now all → ((y : ℕ) → now y ≡ all_uses t y) × (all ≡ before ++ defined t)
unfolding sum_uses defined_in
surveys-end t before now all h = (λ y. omega (arith, h.counts y), sym (append-nil all) ∙ h.found)
