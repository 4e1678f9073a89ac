-- The spine of a tree of the flow, step by step, where its jumps get new numbers.
use Rattle.std.proofs.Common.{◌≡◌, ℕ, ◌≤◌, Bool, List, [], ◌∷◌, ◌++◌, sym, ap, ◌∙◌, arith}
use Rattle.nv_base.specs.declared.term.Atom.{Atom}
use Rattle.nv_base.specs.declared.term.Cmp.{Cmp}
use Rattle.nv_base.specs.declared.term.Mem.{Mem}
use Rattle.nv_base.specs.declared.term.Primitive.{Primitive}
use Rattle.flow_ir.specs.Tree as pure
use Rattle.flow_ir.specs.Spine.{put, put_all}
use Rattle.flow_ir.specs.View.{tree_view}
use Rattle.flow_ir.specs.declared.spine.Step.{Step}
use Rattle.flow_ir.specs.declared.spine.Step.TheVariants as step
use Rattle.flow_ir.specs.declared.flow.Tree.{Tree, size-Tree}
use Rattle.flow_ir.specs.declared.flow.Tree.TheVariants.{Let', Read', Write', If'}
use Rattle.flow_ir.specs.declared.flow.Tree.TheViews.{deep-Let', deep-Read', deep-Write', deep-If'}
use Rattle.flow_ir.proofs.Steps.{put_last}
use Rattle.flow_ir.proofs.Mentions.{smaller}
use Rattle.flow_ir.specs.inner.Pruned.{goes_on, renumbered}

-- ---- a tree with new numbers

pub record Made (to : ℕ → ℕ) (t cur : Tree) (old ss : List Step) : Type 0 where
  pub tree : put_all ss (renumbered to (tree_view cur)) ≡ put_all old (renumbered to (tree_view t))
  pub size : size-Tree cur ≤ size-Tree t

made-step : {to : ℕ → ℕ} {t cur : Tree} {old ss : List Step} (s : Step) (ss' : List Step) (rest : Tree) → Made to t cur old ss → ss' ≡ ss ++ s ∷ [] → renumbered to (tree_view cur) ≡ put s (renumbered to (tree_view rest)) → size-Tree rest ≤ size-Tree cur → Made to t rest old ss'
made-step {ss = ss} s ss' rest on push tree size = record { tree = sym (put_last ss' ss s _ _ push tree) ∙ on.tree; size = let le = on.size in omega arith }

pub made-let : {to : ℕ → ℕ} {t cur : Tree} {old ss : List Step} (x : ℕ) (p : Primitive) (q : _) (r rest : Tree) (ss' : List Step) → Made to t cur old ss → cur ≡ Let' x p q r → rest ≡ r → ss' ≡ ss ++ step.Let x p ∷ [] → Made to t rest old ss'
made-let {to = to} {cur = cur} x p q r rest ss' on is e push =
    made-step (step.Let x p) ss' rest on push (ap (λ u. renumbered to (tree_view u)) is ∙ ap (λ u. pure.Let x p (renumbered to (tree_view u))) (sym e))
    (smaller cur (Let' x p q r) rest r is e (omega (arith, deep-Let' x p q r)))

pub made-read : {to : ℕ → ℕ} {t cur : Tree} {old ss : List Step} (m : Mem) (xs : _) (ys : _) (a : Atom) (q : _) (r rest : Tree) (ss' : List Step) → Made to t cur old ss → cur ≡ Read' m xs a q r → rest ≡ r → ss' ≡ ss ++ step.Read m ys a ∷ [] → ys.items ≡ xs.items → Made to t rest old ss'
made-read {to = to} {cur = cur} m xs ys a q r rest ss' on is e push same =
    made-step (step.Read m ys a) ss' rest on push
    (ap (λ u. renumbered to (tree_view u)) is ∙ ap (λ u. pure.Read m xs.items a (renumbered to (tree_view u))) (sym e) ∙ ap (λ l. pure.Read m l a (renumbered to (tree_view rest))) (sym same))
    (smaller cur (Read' m xs a q r) rest r is e (omega (arith, deep-Read' m xs a q r)))

pub made-write : {to : ℕ → ℕ} {t cur : Tree} {old ss : List Step} (m : Mem) (a : Atom) (bs : _) (cs : _) (q : _) (r rest : Tree) (ss' : List Step) → Made to t cur old ss → cur ≡ Write' m a bs q r → rest ≡ r → ss' ≡ ss ++ step.Write m a cs ∷ [] → cs.items ≡ bs.items → Made to t rest old ss'
made-write {to = to} {cur = cur} m a bs cs q r rest ss' on is e push same =
    made-step (step.Write m a cs) ss' rest on push
    (ap (λ u. renumbered to (tree_view u)) is ∙ ap (λ u. pure.Write m a bs.items (renumbered to (tree_view u))) (sym e) ∙ ap (λ l. pure.Write m a l (renumbered to (tree_view rest))) (sym same))
    (smaller cur (Write' m a bs q r) rest r is e (omega (arith, deep-Write' m a bs q r)))

pub made-if : {to : ℕ → ℕ} {t cur : Tree} {old ss : List Step} (c : Cmp) (a b : Atom) (q q' : _) (f r part rest u : Tree) (ss' : List Step) → Made to t cur old ss → cur ≡ If' c a b q f q' r → part ≡ f → rest ≡ r → tree_view u ≡ renumbered to (tree_view part) → ss' ≡ ss ++ step.If c a b u ∷ [] → Made to t rest old ss'
made-if {to = to} {cur = cur} c a b q q' f r part rest u ss' on is ef e made push =
    made-step (step.If c a b u) ss' rest on push
    (ap (λ v. renumbered to (tree_view v)) is ∙ ap (λ v. pure.If c a b (renumbered to (tree_view v)) (renumbered to (tree_view r))) (sym ef) ∙ ap (λ v. pure.If c a b (renumbered to (tree_view part)) (renumbered to (tree_view v))) (sym e)
    ∙ ap (λ v. pure.If c a b v (renumbered to (tree_view rest))) (sym made))
    (smaller cur (If' c a b q f q' r) rest r is e (omega (arith, deep-If' c a b q f q' r)))

-- ---- whether a tree goes on to labels that are there

pub record Still (out : List Bool) (t cur : Tree) : Type 0 where
  pub same : goes_on out (tree_view cur) ≡ goes_on out (tree_view t)
  pub size : size-Tree cur ≤ size-Tree t
