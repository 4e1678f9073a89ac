-- The spine of a tree, step by step, where decided choices are made.
use Rattle.std.proofs.Common.{◌≡◌, ℕ, ◌≤◌, true, false, Some, None, List, [], ◌∷◌, ◌++◌, refl, sym, ap, ◌∙◌, append_assoc, arith}
use Rattle.nv_base.specs.declared.term.Atom.{Atom}
use Rattle.nv_base.specs.declared.term.Cmp.{Cmp}
use Rattle.nv_base.specs.declared.term.Mem.{Mem}
use Rattle.nv_base.specs.declared.term.Primitive.{Primitive}
use Rattle.nv_base.specs.Words.{negated}
use Rattle.flow_ir.specs.Tree as pure
use Rattle.flow_ir.specs.Spine.{put, put_all}
use Rattle.flow_ir.specs.View.{tree_view}
use Rattle.flow_ir.specs.declared.spine.Step.{Step}
use Rattle.flow_ir.specs.declared.spine.Step.TheVariants as step
use Rattle.flow_ir.specs.declared.flow.Tree.{Tree, size-Tree}
use Rattle.flow_ir.specs.declared.flow.Tree.TheVariants.{Let', Read', Write', If'}
use Rattle.flow_ir.specs.declared.flow.Tree.TheViews.{deep-Let', deep-Read', deep-Write', deep-If'}
use Rattle.flow_ir.proofs.Steps.{put_last}
use Rattle.flow_ir.proofs.Mentions.{smaller}
use Rattle.flow_paths.specs.declared.facts.Fact.{Fact}
use Rattle.flow_paths.specs.Decided.{decided, told, accessed, defined}
use Rattle.flow_paths.specs.inner.Walked.{chosen, walked}

pub record Along (t cur : Tree) (old ss : List Step) (above now : List Fact) : Type 0 where
  pub tree : put_all ss (walked now (tree_view cur)) ≡ put_all old (walked above (tree_view t))
  pub more : List Fact
  pub front : now ≡ above ++ more
  pub size : size-Tree cur ≤ size-Tree t

pub along_start : (t : Tree) (old : List Step) (above : List Fact) → Along t t old old above above
along_start t old above = record { tree = refl; more = []; front = sym (nil above); size = omega arith }
  where
    nil : (l : List Fact) → l ++ [] ≡ l
    nil [] = refl
    nil (k ∷ l) = ap (λ m. k ∷ m) (nil l)

-- a step, and what is known below it
along_on : {t cur : Tree} {old ss : List Step} {above now : List Fact} (s : Step) (ss' : List Step) (rest : Tree) (fs now' : List Fact) → Along t cur old ss above now → now' ≡ now ++ fs → ss' ≡ ss ++ s ∷ [] → walked now (tree_view cur) ≡ put s (walked (now ++ fs) (tree_view rest)) → size-Tree rest ≤ size-Tree cur → Along t rest old ss' above now'
along_on {ss = ss} {above = above} {now = now} s ss' rest fs now' on same push tree size = record {
  tree = ap (λ l. put_all ss' (walked l (tree_view rest))) same ∙ sym (put_last ss' ss s _ _ push tree) ∙ on.tree;
  more = on.more ++ fs;
  front = same ∙ ap (λ l. l ++ fs) on.front ∙ append_assoc above on.more fs;
  size = let le = on.size in omega (arith, le, size);
}

pub along_let : {t cur : Tree} {old ss : List Step} {above now : List Fact} (x : ℕ) (p : Primitive) (q : _) (r rest : Tree) (ss' : List Step) (now' : List Fact) → Along t cur old ss above now → cur ≡ Let' x p q r → rest ≡ r → ss' ≡ ss ++ step.Let x p ∷ [] → now' ≡ now ++ defined now x p → Along t rest old ss' above now'
along_let {cur = cur} {now = now} x p q r rest ss' now' on is e push same =
    along_on (step.Let x p) ss' rest (defined now x p) now' on same push
    (ap (λ u. walked now (tree_view u)) is ∙ ap (λ u. pure.Let x p (walked (now ++ defined now x p) (tree_view u))) (sym e))
    (smaller cur (Let' x p q r) rest r is e (omega (arith, deep-Let' x p q r)))

pub along_read : {t cur : Tree} {old ss : List Step} {above now : List Fact} (m : Mem) (xs : _) (ys : _) (a : Atom) (q : _) (r rest : Tree) (ss' : List Step) (now' : List Fact) → Along t cur old ss above now → cur ≡ Read' m xs a q r → rest ≡ r → ss' ≡ ss ++ step.Read m ys a ∷ [] → ys.items ≡ xs.items → now' ≡ now ++ accessed a → Along t rest old ss' above now'
along_read {cur = cur} {now = now} m xs ys a q r rest ss' now' on is e push items same =
    along_on (step.Read m ys a) ss' rest (accessed a) now' on same push
    (ap (λ u. walked now (tree_view u)) is ∙ ap (λ u. pure.Read m xs.items a (walked (now ++ accessed a) (tree_view u))) (sym e) ∙ ap (λ l. pure.Read m l a (walked (now ++ accessed a) (tree_view rest))) (sym items))
    (smaller cur (Read' m xs a q r) rest r is e (omega (arith, deep-Read' m xs a q r)))

pub along_write : {t cur : Tree} {old ss : List Step} {above now : List Fact} (m : Mem) (a : Atom) (bs : _) (cs : _) (q : _) (r rest : Tree) (ss' : List Step) (now' : List Fact) → Along t cur old ss above now → cur ≡ Write' m a bs q r → rest ≡ r → ss' ≡ ss ++ step.Write m a cs ∷ [] → cs.items ≡ bs.items → now' ≡ now ++ accessed a → Along t rest old ss' above now'
along_write {cur = cur} {now = now} m a bs cs q r rest ss' now' on is e push items same =
    along_on (step.Write m a cs) ss' rest (accessed a) now' on same push
    (ap (λ u. walked now (tree_view u)) is ∙ ap (λ u. pure.Write m a bs.items (walked (now ++ accessed a) (tree_view u))) (sym e) ∙ ap (λ l. pure.Write m a l (walked (now ++ accessed a) (tree_view rest))) (sym items))
    (smaller cur (Write' m a bs q r) rest r is e (omega (arith, deep-Write' m a bs q r)))

pub along_if : {t cur : Tree} {old ss : List Step} {above now : List Fact} (c n : Cmp) (a b : Atom) (q q' : _) (f r part rest u : Tree) (ss' : List Step) (kept now' : List Fact) → Along t cur old ss above now → cur ≡ If' c a b q f q' r → part ≡ f → rest ≡ r → decided now c a b ≡ None → tree_view u ≡ walked (now ++ told now c a b) (tree_view part) → kept ≡ now → now' ≡ kept ++ told kept n a b → n ≡ negated c → ss' ≡ ss ++ step.If c a b u ∷ [] → Along t rest old ss' above now'
along_if {cur = cur} {now = now} c n a b q q' f r part rest u ss' kept now' on is ef e undecided made same more turned push =
    along_on (step.If c a b u) ss' rest (told now (negated c) a b) now' on (more ∙ ap (λ l. l ++ told l n a b) same ∙ ap (λ k. now ++ told now k a b) turned) push
    (ap (λ v. walked now (tree_view v)) is ∙ ap (λ o. chosen o (walked now (tree_view f)) (walked now (tree_view r)) (pure.If c a b (walked (now ++ told now c a b) (tree_view f)) (walked (now ++ told now (negated c) a b) (tree_view r)))) undecided
    ∙ ap (λ v. pure.If c a b (walked (now ++ told now c a b) (tree_view v)) (walked (now ++ told now (negated c) a b) (tree_view r))) (sym ef)
    ∙ ap (λ v. pure.If c a b (walked (now ++ told now c a b) (tree_view part)) (walked (now ++ told now (negated c) a b) (tree_view v))) (sym e)
    ∙ ap (λ v. pure.If c a b v (walked (now ++ told now (negated c) a b) (tree_view rest))) (sym made))
    (smaller cur (If' c a b q f q' r) rest r is e (omega (arith, deep-If' c a b q f q' r)))

-- a choice that is made
along_arm : {t cur : Tree} {old ss : List Step} {above now : List Fact} (rest : Tree) → Along t cur old ss above now → walked now (tree_view cur) ≡ walked now (tree_view rest) → size-Tree rest ≤ size-Tree cur → Along t rest old ss above now
along_arm {ss = ss} rest on same size = record { tree = ap (put_all ss) (sym same) ∙ on.tree; more = on.more; front = on.front; size = let le = on.size in omega (arith, le, size) }

pub along_first : {t cur : Tree} {old ss : List Step} {above now : List Fact} (c : Cmp) (a b : Atom) (q q' : _) (f r rest : Tree) → Along t cur old ss above now → cur ≡ If' c a b q f q' r → rest ≡ f → decided now c a b ≡ Some true → Along t rest old ss above now
along_first {cur = cur} {now = now} c a b q q' f r rest on is e made =
    along_arm rest on
    (ap (λ v. walked now (tree_view v)) is ∙ ap (λ o. chosen o (walked now (tree_view f)) (walked now (tree_view r)) (pure.If c a b (walked (now ++ told now c a b) (tree_view f)) (walked (now ++ told now (negated c) a b) (tree_view r)))) made ∙ ap (λ v. walked now (tree_view v)) (sym e))
    (smaller cur (If' c a b q f q' r) rest f is e (omega (arith, deep-If' c a b q f q' r)))

pub along_second : {t cur : Tree} {old ss : List Step} {above now : List Fact} (c : Cmp) (a b : Atom) (q q' : _) (f r rest : Tree) → Along t cur old ss above now → cur ≡ If' c a b q f q' r → rest ≡ r → decided now c a b ≡ Some false → Along t rest old ss above now
along_second {cur = cur} {now = now} c a b q q' f r rest on is e made =
    along_arm rest on
    (ap (λ v. walked now (tree_view v)) is ∙ ap (λ o. chosen o (walked now (tree_view f)) (walked now (tree_view r)) (pure.If c a b (walked (now ++ told now c a b) (tree_view f)) (walked (now ++ told now (negated c) a b) (tree_view r)))) made ∙ ap (λ v. walked now (tree_view v)) (sym e))
    (smaller cur (If' c a b q f q' r) rest r is e (omega (arith, deep-If' c a b q f q' r)))
