-- The spine of a term, step by step: what was added so far, and what the rest adds.
use Rattle.std.proofs.Common.{◌≡◌, ℕ, ◌≤◌, List, [], ◌∷◌, ◌++◌, sym, ap, ◌∙◌, arith, rules, Box}
use Rattle.nv_base.specs.declared.term.Atom.{Atom}
use Rattle.nv_base.specs.declared.term.Cmp.{Cmp}
use Rattle.nv_base.specs.declared.term.Mem.{Mem}
use Rattle.nv_base.specs.declared.term.Primitive.{Primitive}
use Rattle.cps_ir.specs.declared.term.Term.{Term, size-Term, the_lemmas}
use Rattle.cps_ir.specs.declared.term.Term as node
use Rattle.cps_ir.specs.View.{term_view}
use Rattle.cps_ir.proofs.Views.{view-Let, view-Read, view-Write, view-If}
use Rattle.std.specs.declared.alloc.Global.{Global}
use Rattle.flow_ir.specs.declared.flow.Tree.{Tree as FlowTree}
use Rattle.flow_ir.specs.declared.spine.Step.{Step}
use Rattle.flow_ir.specs.declared.spine.Step.TheVariants as step
use Rattle.flow_ir.specs.Spine.{put, put_all}
use Rattle.flow_ir.specs.Tree as flow
use Rattle.flow_ir.specs.View.{tree_view}
use Rattle.flow_ir.proofs.Steps.{put_last}
use Rattle.cps_close.specs.inner.Closed.{Table, tree_of}

-- ---- lists

-- what is in the list and what `of` adds of the rest is what was in it and what `of` adds of all
pub record Adds (of : Term → List ℕ) (t cur : Term) (old now : List ℕ) : Type 0 where
  pub all : now ++ of cur ≡ old ++ of t
  pub size : size-Term cur ≤ size-Term t

-- ---- trees

pub record On (tab : Table) (t cur : Term) (old ss : List Step) : Type 0 where
  pub tree : put_all ss (tree_of tab (term_view cur)) ≡ put_all old (tree_of tab (term_view t))
  pub size : size-Term cur ≤ size-Term t

pub on-step : {tab : Table} {t cur : Term} {old ss : List Step} (s : Step) (ss' : List Step) (rest : Term) → On tab t cur old ss → ss' ≡ ss ++ s ∷ [] → tree_of tab (term_view cur) ≡ put s (tree_of tab (term_view rest)) → size-Term rest ≤ size-Term cur → On tab t rest old ss'
on-step {ss = ss} s ss' rest on push tree size = record { tree = sym (put_last ss' ss s _ _ push tree) ∙ on.tree; size = let le = on.size in omega arith }

behind-Let : (x : ℕ) (a : Primitive) (r : Box Term Global) → size-Term r.value ≤ size-Term (node.Let x a r)
behind-Let x a r = search (rules, the_lemmas)

behind-Read : (m : Mem) (xs : _) (a : Atom) (r : Box Term Global) → size-Term r.value ≤ size-Term (node.Read m xs a r)
behind-Read m xs a r = search (rules, the_lemmas)

behind-Write : (m : Mem) (a : Atom) (bs : _) (r : Box Term Global) → size-Term r.value ≤ size-Term (node.Write m a bs r)
behind-Write m a bs r = search (rules, the_lemmas)

behind-If : (c : Cmp) (a b : Atom) (f r : Box Term Global) → size-Term r.value ≤ size-Term (node.If c a b f r)
behind-If c a b f r = search (rules, the_lemmas)

smaller : (cur next rest inner : Term) → cur ≡ next → rest ≡ inner → size-Term inner ≤ size-Term next → size-Term rest ≤ size-Term cur
smaller cur next rest inner is e le = let a = ap size-Term is in let b = ap size-Term e in omega (arith, a, b, le)

pub on-let : {tab : Table} {t cur : Term} {old ss : List Step} (x : ℕ) (a : Primitive) (r : Box Term Global) (rest : Term) (ss' : List Step) → On tab t cur old ss → cur ≡ node.Let x a r → rest ≡ r.value → ss' ≡ ss ++ step.Let x a ∷ [] → On tab t rest old ss'
on-let {tab = tab} {cur = cur} x a r rest ss' on is e push =
    on-step (step.Let x a) ss' rest on push (ap (λ u. tree_of tab (term_view u)) is ∙ ap (tree_of tab) (view-Let x a r) ∙ ap (λ u. flow.Let x a (tree_of tab (term_view u))) (sym e))
    (smaller cur (node.Let x a r) rest r.value is e (behind-Let x a r))

pub on-read : {tab : Table} {t cur : Term} {old ss : List Step} (m : Mem) (xs : _) (ys : _) (a : Atom) (r : Box Term Global) (rest : Term) (ss' : List Step) → On tab t cur old ss → cur ≡ node.Read m xs a r → rest ≡ r.value → ss' ≡ ss ++ step.Read m ys a ∷ [] → ys.items ≡ xs.items → On tab t rest old ss'
on-read {tab = tab} {cur = cur} m xs ys a r rest ss' on is e push same =
    on-step (step.Read m ys a) ss' rest on push
    (ap (λ u. tree_of tab (term_view u)) is ∙ ap (tree_of tab) (view-Read m xs a r) ∙ ap (λ u. flow.Read m xs.items a (tree_of tab (term_view u))) (sym e) ∙ ap (λ l. flow.Read m l a (tree_of tab (term_view rest))) (sym same))
    (smaller cur (node.Read m xs a r) rest r.value is e (behind-Read m xs a r))

pub on-write : {tab : Table} {t cur : Term} {old ss : List Step} (m : Mem) (a : Atom) (bs : _) (ds : _) (r : Box Term Global) (rest : Term) (ss' : List Step) → On tab t cur old ss → cur ≡ node.Write m a bs r → rest ≡ r.value → ss' ≡ ss ++ step.Write m a ds ∷ [] → ds.items ≡ bs.items → On tab t rest old ss'
on-write {tab = tab} {cur = cur} m a bs ds r rest ss' on is e push same =
    on-step (step.Write m a ds) ss' rest on push
    (ap (λ u. tree_of tab (term_view u)) is ∙ ap (tree_of tab) (view-Write m a bs r) ∙ ap (λ u. flow.Write m a bs.items (tree_of tab (term_view u))) (sym e) ∙ ap (λ l. flow.Write m a l (tree_of tab (term_view rest))) (sym same))
    (smaller cur (node.Write m a bs r) rest r.value is e (behind-Write m a bs r))

pub on-if : {tab : Table} {t cur : Term} {old ss : List Step} (c : Cmp) (a b : Atom) (f r : Box Term Global) (part rest : Term) (u : FlowTree) (ss' : List Step) → On tab t cur old ss → cur ≡ node.If c a b f r → part ≡ f.value → rest ≡ r.value → tree_view u ≡ tree_of tab (term_view part) → ss' ≡ ss ++ step.If c a b u ∷ [] → On tab t rest old ss'
on-if {tab = tab} {cur = cur} c a b f r part rest u ss' on is e e' made push =
    on-step (step.If c a b u) ss' rest on push
    (ap (λ v. tree_of tab (term_view v)) is ∙ ap (tree_of tab) (view-If c a b f r) ∙ ap (λ v. flow.If c a b (tree_of tab (term_view v)) (tree_of tab (term_view r.value))) (sym e) ∙ ap (λ v. flow.If c a b (tree_of tab (term_view part)) (tree_of tab (term_view v))) (sym e')
    ∙ ap (λ v. flow.If c a b v (tree_of tab (term_view rest))) (sym made))
    (smaller cur (node.If c a b f r) rest r.value is e' (behind-If c a b f r))
