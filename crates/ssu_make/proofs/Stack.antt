-- Trees of a flow that were made and wait on a stack.
use Rattle.std.proofs.Common.{◌≡◌, ℕ, ◌+◌, ◌<◌, List, [], ◌∷◌, ◌++◌, refl, sym, ap, subst, ◌∙◌, length, reverse, Result, Ok, Err, IfOk, arith}
use Rattle.std.specs.Borrow.{Bor}
use Rattle.std.proofs.lemmas.List.{reverse-append, length-reverse}
use Rattle.nv_base.specs.declared.term.Atom.{Atom}
use Rattle.nv_base.specs.declared.term.Primitive.{Primitive}
use Rattle.nv_base.specs.declared.term.Mem.{Mem}
use Rattle.nv_base.specs.declared.term.Cmp.{Cmp}
use Rattle.nv_base.specs.declared.error.NoMemory.{NoMemory}
use Rattle.flow_ir.specs.declared.flow.Tree.{Tree as Boxed}
use Rattle.flow_ir.specs.Tree.{Tree, Let, Read, Write, If}
use Rattle.flow_ir.specs.View.{tree_view}
use Rattle.ssu_ir.specs.declared.build.SsuBuild.{SsuBuild}
use Rattle.ssu_ir.specs.Build.{Holds}
use Rattle.ssu_ir.specs.Tree as ssu
use Rattle.ssu_make.specs.declared.tree.Part.{Part}
use Rattle.ssu_make.specs.Uses.{Counts, occurs, operands, outside, uses}
use Rattle.ssu_make.specs.Made.{all_taken, most, spent, made, made_let, made_read, made_write, made_if}
use Rattle.ssu_make.specs.inner.Making.{counted, HasRoots, IsRoot, AreRoots, Becomes, Joined, MadeTo, successor_list, tops, Builds, next_after, roots_of, AreCounted, Stacked, CanMake, IsOver}
use Rattle.ssu_make.proofs.Along.{same-everywhere, OnWay}
use Rattle.ssu_make.proofs.Turns.{tops-last}

-- ---- stacks of parts

pub part-last : (old new : List Part) (part : Part) → old ≡ new ++ part ∷ [] → reverse old ≡ part ∷ reverse new
part-last old new part e = ap reverse e ∙ reverse-append new (part ∷ [])

counted-some : (t : Tree) (ts : List Tree) (parts : List Part) → AreCounted (t ∷ ts) parts → 0 < length parts
counted-some t ts [] h = absurd h
counted-some t ts (part ∷ parts) h = omega arith

some-reversed : (parts : List Part) → 0 < length (reverse parts) → 0 < length parts
some-reversed parts lt = let e = length-reverse parts in omega (arith, lt, e)

pub has-one : (base : Counts) (n : ℕ) (t : Tree) (ts : List Tree) (old new : SsuBuild) (d : ℕ) (parts : List Part) → Stacked base n (t ∷ ts) old new d (reverse parts) → 0 < length parts
has-one base n t ts old new d parts s = some-reversed parts (counted-some t ts (reverse parts) s.counts)

-- ---- roots

pub roots-of-stack : (base : Counts) (n : ℕ) (ts : List Tree) (old new : SsuBuild) (d : ℕ) (parts : List Part) → HasRoots old → Stacked base n ts old new d parts → HasRoots new
roots-of-stack base n ts old new d parts h s = record { roots = roots_of base n ts parts ++ h.roots; holds = s.adds h.roots h.holds }

pub top-root : (base : Counts) (n : ℕ) (t : Tree) (ts : List Tree) (old new : SsuBuild) (d : ℕ) (parts left : List Part) (part : Part) → HasRoots old → Stacked base n (t ∷ ts) old new d (reverse parts) → parts ≡ left ++ part ∷ [] → IsRoot new part.root.0
top-root base n t ts old new d parts left part h s e = record {
  tree = made base (next_after n ts) t;
  rest = roots_of base n ts (reverse left) ++ h.roots;
  holds = subst (λ ps. Holds new (roots_of base n (t ∷ ts) ps ++ h.roots)) (part-last parts left part e) (s.adds h.roots h.holds);
}

pub top-roots : (base : Counts) (n : ℕ) (t u : Tree) (ts : List Tree) (old new : SsuBuild) (d : ℕ) (parts mid left : List Part) (first second : Part) → HasRoots old → Stacked base n (t ∷ u ∷ ts) old new d (reverse parts) → parts ≡ mid ++ first ∷ [] → mid ≡ left ++ second ∷ []
    → AreRoots new first.root.0 second.root.0
top-roots base n t u ts old new d parts mid left first second h s e f = record {
  first = made base (next_after n (u ∷ ts)) t;
  second = made base (next_after n ts) u;
  rest = roots_of base n ts (reverse left) ++ h.roots;
  holds = subst (λ ps. Holds new (roots_of base n (t ∷ u ∷ ts) ps ++ h.roots)) (part-last parts mid first e ∙ ap (λ l. first ∷ l) (part-last mid left second f)) (s.adds h.roots h.holds);
}

pub can-none : (base : Counts) (v : Tree) (b : SsuBuild) (d : ℕ) (parts : List Part) → CanMake base v b d parts → HasRoots b
can-none base v b d parts c = roots-of-stack base c.first (successor_list v ++ c.rest) c.old b d (reverse parts) c.roots c.stacked

pub can-one : (base : Counts) (v k : Tree) (b : SsuBuild) (d : ℕ) (parts left : List Part) (part : Part) → CanMake base v b d parts → successor_list v ≡ k ∷ [] → parts ≡ left ++ part ∷ [] → IsRoot b part.root.0
can-one base v k b d parts left part c e f = top-root base c.first k c.rest c.old b d parts left part c.roots (subst (λ l. Stacked base c.first (l ++ c.rest) c.old b d (reverse parts)) e c.stacked) f

pub can-two : (base : Counts) (v k l : Tree) (b : SsuBuild) (d : ℕ) (parts mid left : List Part) (first second : Part) → CanMake base v b d parts → successor_list v ≡ k ∷ l ∷ [] → parts ≡ mid ++ first ∷ [] → mid ≡ left ++ second ∷ [] → AreRoots b first.root.0 second.root.0
can-two base v k l b d parts mid left first second c e f g = top-roots base c.first k l c.rest c.old b d parts mid left first second c.roots (subst (λ z. Stacked base c.first (z ++ c.rest) c.old b d (reverse parts)) e c.stacked) f g

-- ---- a node over what follows it

pub as-read : (v : Tree) (w : Mem) (xs l : List ℕ) (a : Atom) (k : Tree) → v ≡ Read w xs a k → l ≡ xs → v ≡ Read w l a k
as-read v w xs l a k is e = is ∙ ap (λ q. Read w q a k) (sym e)

pub as-write : (v : Tree) (w : Mem) (a : Atom) (bs l : List Atom) (k : Tree) → v ≡ Write w a bs k → l ≡ bs → v ≡ Write w a l k
as-write v w a bs l k is e = is ∙ ap (λ q. Write w a q k) (sym e)

pub with-three : (r : Result Part NoMemory) (P Q R S : Part → Type 0) → ((x : Part) → P x → Q x → R x → S x) → IfOk r P → IfOk r Q → IfOk r R → IfOk r S
with-three (Ok x) P Q R S f p q z = f x p q z
with-three (Err e) P Q R S f p q z = tt

over-one : (base : Counts) (n : ℕ) (t k : Tree) (ts : List Tree) (old mid new : SsuBuild) (d d' : ℕ) (parts : List Part) (top part : Part) (f : ssu.Tree → ssu.Tree) → Stacked base n (k ∷ ts) old mid d (top ∷ parts) → Becomes mid new top.root.0 part.root.0 f
    → f (made base (next_after n ts) k) ≡ made base (next_after n ts) t → ((y : ℕ) → counted part.counts y ≡ uses t y) → d' ≡ next_after n ts + spent t → Stacked base n (t ∷ ts) old new d' (part ∷ parts)
over-one base n t k ts old mid new d d' parts top part f s b e c g = record {
  adds = λ rest h. subst (λ z. Holds new ((part.root.0, z) ∷ (roots_of base n ts parts ++ rest))) e (b.by (made base (next_after n ts) k) (roots_of base n ts parts ++ rest) (s.adds rest h));
  counts = (c, s.counts.1);
  fresh = g;
}

over-two : (base : Counts) (n : ℕ) (t k l : Tree) (ts : List Tree) (old mid new : SsuBuild) (d d' : ℕ) (parts : List Part) (top next part : Part) (f : ssu.Tree → ssu.Tree → ssu.Tree) → Stacked base n (k ∷ l ∷ ts) old mid d (top ∷ next ∷ parts)
    → Joined mid new top.root.0 next.root.0 part.root.0 f → f (made base (next_after n ts + spent l) k) (made base (next_after n ts) l) ≡ made base (next_after n ts) t → ((y : ℕ) → counted part.counts y ≡ uses t y) → d' ≡ next_after n ts + spent t
    → Stacked base n (t ∷ ts) old new d' (part ∷ parts)
over-two base n t k l ts old mid new d d' parts top next part f s b e c g = record {
  adds = λ rest h. subst (λ z. Holds new ((part.root.0, z) ∷ (roots_of base n ts parts ++ rest))) e (b.by (made base (next_after n ts + spent l) k) (made base (next_after n ts) l) (roots_of base n ts parts ++ rest) (s.adds rest h));
  counts = (c, s.counts.1.1);
  fresh = g;
}

pub over-let : (base : Counts) (d d' : ℕ) (v k : Tree) (mid new : SsuBuild) (parts left : List Part) (top part : Part) (x : ℕ) (p : Primitive) → v ≡ Let x p k → parts ≡ left ++ top ∷ [] → Becomes mid new top.root.0 part.root.0 (made_let base d x p (counted top.counts))
    → ((y : ℕ) → counted part.counts y ≡ occurs (operands p) y + outside (x ∷ []) (counted top.counts) y) → d' ≡ d + all_taken (operands p) → IsOver base v mid new d d' parts left part
over-let base d d' v k mid new parts left top part x p is e b ec ed = subst (λ z. IsOver base z mid new d d' parts left part) (sym is) (record {
  by = λ old n ts s'.
      let s : Stacked base n (k ∷ ts) old mid d (top ∷ reverse left) = subst (Stacked base n (k ∷ ts) old mid d) (part-last parts left top e) s' in
      let m = next_after n ts in
      let r : counted top.counts ≡ uses k = same-everywhere (counted top.counts) (uses k) s.counts.0 in
      over-one base n (Let x p k) k ts old mid new d d' (reverse left) top part (made_let base d x p (counted top.counts)) s b
      (ap (λ q. made_let base q x p (counted top.counts) (made base m k)) s.fresh ∙ ap (λ q. made_let base (m + spent k) x p q (made base m k)) r)
      (λ y. ec y ∙ ap (λ q. occurs (operands p) y + outside (x ∷ []) q y) r) (let a = s.fresh in omega (arith, ed, a));
})

pub over-read : (base : Counts) (d d' : ℕ) (v k : Tree) (mid new : SsuBuild) (parts left : List Part) (top part : Part) (w : Mem) (xs : List ℕ) (a : Atom) → v ≡ Read w xs a k → parts ≡ left ++ top ∷ [] → Becomes mid new top.root.0 part.root.0 (made_read base d w xs a (counted top.counts))
    → ((y : ℕ) → counted part.counts y ≡ occurs (a ∷ []) y + outside xs (counted top.counts) y) → d' ≡ d + all_taken (a ∷ []) → IsOver base v mid new d d' parts left part
over-read base d d' v k mid new parts left top part w xs a is e b ec ed = subst (λ z. IsOver base z mid new d d' parts left part) (sym is) (record {
  by = λ old n ts s'.
      let s : Stacked base n (k ∷ ts) old mid d (top ∷ reverse left) = subst (Stacked base n (k ∷ ts) old mid d) (part-last parts left top e) s' in
      let m = next_after n ts in
      let r : counted top.counts ≡ uses k = same-everywhere (counted top.counts) (uses k) s.counts.0 in
      over-one base n (Read w xs a k) k ts old mid new d d' (reverse left) top part (made_read base d w xs a (counted top.counts)) s b
      (ap (λ q. made_read base q w xs a (counted top.counts) (made base m k)) s.fresh ∙ ap (λ q. made_read base (m + spent k) w xs a q (made base m k)) r)
      (λ y. ec y ∙ ap (λ q. occurs (a ∷ []) y + outside xs q y) r) (let g = s.fresh in omega (arith, ed, g));
})

pub over-write : (base : Counts) (d d' : ℕ) (v k : Tree) (mid new : SsuBuild) (parts left : List Part) (top part : Part) (w : Mem) (a : Atom) (bs : List Atom) → v ≡ Write w a bs k → parts ≡ left ++ top ∷ [] → Becomes mid new top.root.0 part.root.0 (made_write base d w a bs (counted top.counts))
    → ((y : ℕ) → counted part.counts y ≡ occurs (a ∷ bs) y + counted top.counts y) → d' ≡ d + all_taken (a ∷ bs) → IsOver base v mid new d d' parts left part
over-write base d d' v k mid new parts left top part w a bs is e b ec ed = subst (λ z. IsOver base z mid new d d' parts left part) (sym is) (record {
  by = λ old n ts s'.
      let s : Stacked base n (k ∷ ts) old mid d (top ∷ reverse left) = subst (Stacked base n (k ∷ ts) old mid d) (part-last parts left top e) s' in
      let m = next_after n ts in
      let r : counted top.counts ≡ uses k = same-everywhere (counted top.counts) (uses k) s.counts.0 in
      over-one base n (Write w a bs k) k ts old mid new d d' (reverse left) top part (made_write base d w a bs (counted top.counts)) s b
      (ap (λ q. made_write base q w a bs (counted top.counts) (made base m k)) s.fresh ∙ ap (λ q. made_write base (m + spent k) w a bs q (made base m k)) r)
      (λ y. ec y ∙ ap (λ q. occurs (a ∷ bs) y + q y) r) (let g = s.fresh in omega (arith, ed, g));
})

pub over-if : (base : Counts) (d d' : ℕ) (v k l : Tree) (mid new : SsuBuild) (parts between left : List Part) (top next part : Part) (c : Cmp) (a b : Atom) → v ≡ If c a b k l → parts ≡ between ++ top ∷ [] → between ≡ left ++ next ∷ []
    → Joined mid new top.root.0 next.root.0 part.root.0 (made_if base d c a b (most (counted top.counts) (counted next.counts))) → ((y : ℕ) → counted part.counts y ≡ occurs (a ∷ b ∷ []) y + most (counted top.counts) (counted next.counts) y) → d' ≡ d + all_taken (a ∷ b ∷ [])
    → IsOver base v mid new d d' parts left part
over-if base d d' v k l mid new parts between left top next part c a b is e f j ec ed = subst (λ z. IsOver base z mid new d d' parts left part) (sym is) (record {
  by = λ old n ts s'.
      let s : Stacked base n (k ∷ l ∷ ts) old mid d (top ∷ next ∷ reverse left) = subst (Stacked base n (k ∷ l ∷ ts) old mid d) (part-last parts between top e ∙ ap (λ z. top ∷ z) (part-last between left next f)) s' in
      let m = next_after n ts in
      let r : counted top.counts ≡ uses k = same-everywhere (counted top.counts) (uses k) s.counts.0 in
      let r' : counted next.counts ≡ uses l = same-everywhere (counted next.counts) (uses l) s.counts.1.0 in
      let both : most (counted top.counts) (counted next.counts) ≡ most (uses k) (uses l) = ap (λ q. most q (counted next.counts)) r ∙ ap (λ q. most (uses k) q) r' in
      let at : d ≡ m + (spent l + spent k) = s.fresh ∙ (let z : m + spent l + spent k ≡ m + (spent l + spent k) = omega arith in z) in
      over-two base n (If c a b k l) k l ts old mid new d d' (reverse left) top next part (made_if base d c a b (most (counted top.counts) (counted next.counts))) s j
      (ap (λ q. made_if base q c a b (most (counted top.counts) (counted next.counts)) (made base (m + spent l) k) (made base m l)) at ∙ ap (λ q. made_if base (m + (spent l + spent k)) c a b q (made base (m + spent l) k) (made base m l)) both)
      (λ y. ec y ∙ ap (λ q. occurs (a ∷ b ∷ []) y + q y) both) (omega (arith, ed, at));
})

-- ---- the nodes of a tree, and back

pub builds-step : (t : Tree) (order order' work work' : List (Bor Boxed)) (s : Bor Boxed) (stack : List Tree) → Builds (tops order) (tops work) t → work ≡ work' ++ s ∷ [] → order' ≡ order ++ s ∷ [] → stack ≡ successor_list (tree_view s.now) ++ tops work' → Builds (tops order') stack t
builds-step t order order' work work' s stack h e f g =
    subst (λ l. Builds l stack t) (sym (ap tops f ∙ tops-last order s)) (tops work', g, subst (λ l. Builds (tops order) l t) (ap tops e ∙ tops-last work' s) h)

pub way-can : (base : Counts) (n d : ℕ) (t : Tree) (order order' : List (Bor Boxed)) (s : Bor Boxed) (old mid : SsuBuild) (parts : List Part) → OnWay base n t order old mid d parts → order ≡ order' ++ s ∷ [] → CanMake base (tree_view s.now) mid d parts
way-can base n d t order order' s old mid parts w e =
    let b = subst (λ l. Builds l w.stack t) (ap tops e ∙ tops-last order' s) w.builds in
    record { old = old; roots = w.roots; first = n; rest = b.0; stacked = subst (λ l. Stacked base n l old mid d (reverse parts)) b.1 w.stacked }

pub way-step : (base : Counts) (n d d' : ℕ) (t : Tree) (order order' : List (Bor Boxed)) (s : Bor Boxed) (old mid new : SsuBuild) (parts left parts' : List Part) (part : Part) → OnWay base n t order old mid d parts → order ≡ order' ++ s ∷ []
    → IsOver base (tree_view s.now) mid new d d' parts left part → parts' ≡ left ++ part ∷ [] → OnWay base n t order' old new d' parts'
way-step base n d d' t order order' s old mid new parts left parts' part w e o f =
    let b = subst (λ l. Builds l w.stack t) (ap tops e ∙ tops-last order' s) w.builds in
    record {
      stack = tree_view s.now ∷ b.0;
      builds = b.2;
      roots = w.roots;
      stacked = subst (Stacked base n (tree_view s.now ∷ b.0) old new d') (sym (part-last parts' left part f)) (o.by old n b.0 (subst (λ l. Stacked base n l old mid d (reverse parts)) b.1 w.stacked));
    }

pub way-start : (base : Counts) (n : ℕ) (t : Tree) (order : List (Bor Boxed)) (old : SsuBuild) (parts : List Part) → HasRoots old → Builds (tops order) [] t → parts ≡ [] → OnWay base n t order old old n parts
way-start base n t order old parts h b e = record {
  stack = [];
  builds = b;
  roots = h;
  stacked = subst (λ l. Stacked base n [] old old n (reverse l)) (sym e) (record { adds = λ rest g. g; counts = tt; fresh = refl });
}

way-last : (base : Counts) (n d : ℕ) (t : Tree) (order : List (Bor Boxed)) (old new : SsuBuild) (parts : List Part) → OnWay base n t order old new d parts → order ≡ [] → Stacked base n (t ∷ []) old new d (reverse parts)
way-last base n d t order old new parts w e =
    let b : w.stack ≡ t ∷ [] = subst (λ l. Builds (tops l) w.stack t) e w.builds in
    subst (λ l. Stacked base n l old new d (reverse parts)) b w.stacked

pub way-some : (base : Counts) (n d : ℕ) (t : Tree) (order : List (Bor Boxed)) (old new : SsuBuild) (parts : List Part) → OnWay base n t order old new d parts → order ≡ [] → 0 < length parts
way-some base n d t order old new parts w e = has-one base n t [] old new d parts (way-last base n d t order old new parts w e)

pub way-end : (base : Counts) (n d : ℕ) (t : Tree) (order : List (Bor Boxed)) (old new : SsuBuild) (parts left : List Part) (part : Part) → OnWay base n t order old new d parts → order ≡ [] → parts ≡ left ++ part ∷ [] → MadeTo base n t old new d part
way-end base n d t order old new parts left part w e f =
    let s : Stacked base n (t ∷ []) old new d (part ∷ reverse left) = subst (Stacked base n (t ∷ []) old new d) (part-last parts left part f) (way-last base n d t order old new parts w e) in
    record { adds = record { by = λ rest h. s.adds rest h }; counts = s.counts.0; fresh = s.fresh }
