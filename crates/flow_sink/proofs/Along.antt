-- The spine of a tree, step by step, where its values are shared.
use Rattle.std.proofs.Common.{◌≡◌, ℕ, ◌≤◌, List, [], ◌∷◌, ◌++◌, refl, sym, ap, ◌∙◌, map, append_assoc, arith}
use Rattle.std.proofs.lemmas.List.{map_push}
use Rattle.nv_base.specs.declared.term.Atom.{Atom}
use Rattle.nv_base.specs.declared.term.Cmp.{Cmp}
use Rattle.nv_base.specs.declared.term.Mem.{Mem}
use Rattle.nv_base.specs.declared.term.Primitive.{Primitive}
use Rattle.flow_ir.specs.Tree as pure
use Rattle.flow_ir.specs.Spine.{put, put_all}
use Rattle.flow_ir.specs.View.{tree_view}
use Rattle.flow_ir.specs.declared.spine.Step.{Step}
use Rattle.flow_ir.specs.declared.spine.Step.TheVariants as step
use Rattle.flow_ir.specs.declared.flow.Tree.{Tree, size-Tree}
use Rattle.flow_ir.specs.declared.flow.Tree.TheVariants.{Let', Read', Write', If'}
use Rattle.flow_ir.specs.declared.flow.Tree.TheViews.{deep-Let', deep-Read', deep-Write', deep-If'}
use Rattle.flow_ir.proofs.Steps.{put_last}
use Rattle.flow_ir.proofs.Mentions.{smaller}
use Rattle.flow_sink.specs.declared.known.Known.{Known}
use Rattle.flow_sink.specs.inner.Above.{entries, answer, shared}

pub record Along (t cur : Tree) (old ss : List Step) (above now : List Known) : Type 0 where
  pub tree : put_all ss (shared (entries now) (tree_view cur)) ≡ put_all old (shared (entries above) (tree_view t))
  pub more : List Known
  pub front : now ≡ above ++ more
  pub size : size-Tree cur ≤ size-Tree t

pub along_start : (t : Tree) (old : List Step) (above : List Known) → Along t t old old above above
along_start t old above = record { tree = refl; more = []; front = sym (nil above); size = omega arith }
  where
    nil : (l : List Known) → l ++ [] ≡ l
    nil [] = refl
    nil (k ∷ l) = ap (λ m. k ∷ m) (nil l)

-- a step that adds nothing above
along_on : {t cur : Tree} {old ss : List Step} {above now : List Known} (s : Step) (ss' : List Step) (rest : Tree) (now' : List Known) → Along t cur old ss above now → now' ≡ now → ss' ≡ ss ++ s ∷ [] → shared (entries now) (tree_view cur) ≡ put s (shared (entries now) (tree_view rest)) → size-Tree rest ≤ size-Tree cur → Along t rest old ss' above now'
along_on {ss = ss} {now = now} s ss' rest now' on same push tree size = record {
  tree = ap (λ l. put_all ss' (shared (entries l) (tree_view rest))) same ∙ sym (put_last ss' ss s _ _ push tree) ∙ on.tree;
  more = on.more;
  front = same ∙ on.front;
  size = let le = on.size in omega arith;
}

pub along_let : {t cur : Tree} {old ss : List Step} {above now : List Known} (x : ℕ) (p : Primitive) (q : _) (r rest : Tree) (ss' : List Step) (now' : List Known) → Along t cur old ss above now → cur ≡ Let' x p q r → rest ≡ r → ss' ≡ ss ++ step.Let x (answer (entries now) p) ∷ []
    → (k : Known) × (now' ≡ now ++ k ∷ []) × (k.prim ≡ p) × (k.variable ≡ x) → Along t rest old ss' above now'
along_let {cur = cur} {ss = ss} {above = above} {now = now} x p q r rest ss' now' on is e push k =
    let added : entries now' ≡ entries now ++ (p, x) ∷ [] = ap entries k.1 ∙ map_push (λ k. (k.prim, k.variable)) now k.0 ∙ ap (λ y. entries now ++ (y, k.0.variable) ∷ []) k.2 ∙ ap (λ y. entries now ++ (p, y) ∷ []) k.3 in
    record {
      tree =
          sym (put_last ss' ss (step.Let x (answer (entries now) p)) _ _ push
          (ap (λ u. shared (entries now) (tree_view u)) is ∙ ap (λ u. pure.Let x (answer (entries now) p) (shared (entries now ++ (p, x) ∷ []) (tree_view u))) (sym e) ∙ ap (λ l. pure.Let x (answer (entries now) p) (shared l (tree_view rest))) (sym added)))
          ∙ on.tree;
      more = on.more ++ k.0 ∷ [];
      front = k.1 ∙ ap (λ l. l ++ k.0 ∷ []) on.front ∙ append_assoc above on.more (k.0 ∷ []);
      size = let le = on.size in let less = smaller cur (Let' x p q r) rest r is e (omega (arith, deep-Let' x p q r)) in omega arith;
    }

pub along_read : {t cur : Tree} {old ss : List Step} {above now : List Known} (m : Mem) (xs : _) (ys : _) (a : Atom) (q : _) (r rest : Tree) (ss' : List Step) → Along t cur old ss above now → cur ≡ Read' m xs a q r → rest ≡ r → ss' ≡ ss ++ step.Read m ys a ∷ [] → ys.items ≡ xs.items → Along t rest old ss' above now
along_read {cur = cur} {now = now} m xs ys a q r rest ss' on is e push same =
    along_on (step.Read m ys a) ss' rest now on refl push
    (ap (λ u. shared (entries now) (tree_view u)) is ∙ ap (λ u. pure.Read m xs.items a (shared (entries now) (tree_view u))) (sym e) ∙ ap (λ l. pure.Read m l a (shared (entries now) (tree_view rest))) (sym same))
    (smaller cur (Read' m xs a q r) rest r is e (omega (arith, deep-Read' m xs a q r)))

pub along_write : {t cur : Tree} {old ss : List Step} {above now : List Known} (m : Mem) (a : Atom) (bs : _) (cs : _) (q : _) (r rest : Tree) (ss' : List Step) → Along t cur old ss above now → cur ≡ Write' m a bs q r → rest ≡ r → ss' ≡ ss ++ step.Write m a cs ∷ [] → cs.items ≡ bs.items → Along t rest old ss' above now
along_write {cur = cur} {now = now} m a bs cs q r rest ss' on is e push same =
    along_on (step.Write m a cs) ss' rest now on refl push
    (ap (λ u. shared (entries now) (tree_view u)) is ∙ ap (λ u. pure.Write m a bs.items (shared (entries now) (tree_view u))) (sym e) ∙ ap (λ l. pure.Write m a l (shared (entries now) (tree_view rest))) (sym same))
    (smaller cur (Write' m a bs q r) rest r is e (omega (arith, deep-Write' m a bs q r)))

pub along_if : {t cur : Tree} {old ss : List Step} {above now : List Known} (c : Cmp) (a b : Atom) (q q' : _) (f r part rest u : Tree) (ss' : List Step) (now' : List Known) → Along t cur old ss above now → cur ≡ If' c a b q f q' r → part ≡ f → rest ≡ r → tree_view u ≡ shared (entries now) (tree_view part) → now' ≡ now → ss' ≡ ss ++ step.If c a b u ∷ [] → Along t rest old ss' above now'
along_if {cur = cur} {now = now} c a b q q' f r part rest u ss' now' on is ef e made same push =
    along_on (step.If c a b u) ss' rest now' on same push
    (ap (λ v. shared (entries now) (tree_view v)) is ∙ ap (λ v. pure.If c a b (shared (entries now) (tree_view v)) (shared (entries now) (tree_view r))) (sym ef) ∙ ap (λ v. pure.If c a b (shared (entries now) (tree_view part)) (shared (entries now) (tree_view v))) (sym e)
    ∙ ap (λ v. pure.If c a b v (shared (entries now) (tree_view rest))) (sym made))
    (smaller cur (If' c a b q f q' r) rest r is e (omega (arith, deep-If' c a b q f q' r)))
