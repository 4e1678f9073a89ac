-- The spine of a tree, node by node.
use Rattle.std.proofs.Common.{◌≡◌, ℕ, ◌≤◌, List, [], ◌∷◌, ◌++◌, ⊎_elim, sym, ap, subst, arith}
use Rattle.std.specs.declared.vec.Vec.{Vec}
use Rattle.std.specs.declared.alloc.Global.{Global}
use Rattle.nv_base.specs.Sets.{all_vars}
use Rattle.nv_base.specs.Words.{HasPrimCount}
use Rattle.smallvec.specs.SmallVec.{SmallVec}
use Rattle.nv_base.specs.declared.term.Atom.{Atom}
use Rattle.nv_base.specs.declared.term.Cmp.{Cmp}
use Rattle.nv_base.specs.declared.term.Mem.{Mem}
use Rattle.nv_base.specs.declared.term.Primitive.{Primitive}
use Rattle.flow_ir.specs.Tree as pure
use Rattle.flow_ir.specs.View.{tree_view}
use Rattle.flow_ir.specs.declared.spine.Step.{Step}
use Rattle.flow_ir.specs.declared.spine.Step.TheVariants as step
use Rattle.flow_ir.specs.declared.flow.Tree.{Tree, size-Tree}
use Rattle.flow_ir.specs.declared.flow.Tree.TheVariants.{Let', Read', Write', If', Jump, Halt}
use Rattle.flow_ir.specs.declared.flow.Tree.TheViews.{deep-Let', deep-Read', deep-Write', deep-If'}
use Rattle.cps_rules.specs.Rules.{Answers, IsAnswered}
use Rattle.flow_ir.specs.Substitution.{Names, renamed, all_renamed, prim_renamed, AreNamed}
use Rattle.cps_rules.specs.inner.Marks.{Set, Adds}
use Rattle.cps_rules.specs.inner.Way.{IsFolded, IsScoped, IsDone, kept_all}
use Rattle.cps_rules.proofs.Down.{On, on_start, on_push, on_same, goes_let, goes_read, goes_write, goes_if, done_last, last_jump, last_halt}
use Rattle.cps_rules.proofs.Answered.{AllSound}
use Rattle.flow_ir.proofs.Members.{in-left}
use Rattle.flow_ir.specs.Formed.{defined}
use Rattle.flow_ir.specs.Wide.{uses}

-- where the spine has come, and that it gets shorter
pub record Along (A : Answers) (t : Tree) (σ0 : Names) (M0 : Set) (cur : Tree) (σ : Names) (M : Set) (ss : List Step) : Type 0 where
  pub on : On A (tree_view t) σ0 M0 (tree_view cur) σ M ss
  pub size : size-Tree cur ≤ size-Tree t

pub along_start : (A : Answers) (t : Tree) (σ : Names) (M : Set) → IsScoped σ M (tree_view t) → Along A t σ M t σ M []
along_start A t σ M scoped = record { on = on_start A (tree_view t) σ M scoped; size = omega arith }

shorter : (t cur node rest part : Tree) → cur ≡ node → rest ≡ part → size-Tree part ≤ size-Tree node → size-Tree cur ≤ size-Tree t → size-Tree rest ≤ size-Tree t
shorter t cur node rest part is e less le = omega (arith, ap size-Tree is, ap size-Tree e)

here : {A : Answers} {w : pure.Tree} {σ0 σ : Names} {M0 M : Set} {ss : List Step} (cur node : Tree) → cur ≡ node → On A w σ0 M0 (tree_view cur) σ M ss → On A w σ0 M0 (tree_view node) σ M ss
here {A} {w} {σ0} {σ} {M0} {M} {ss} cur node is on = subst (λ v. On A w σ0 M0 (tree_view v) σ M ss) is on

next : {A : Answers} {w : pure.Tree} {σ0 σ : Names} {M0 M : Set} {ss : List Step} (rest part : Tree) → rest ≡ part → On A w σ0 M0 (tree_view part) σ M ss → On A w σ0 M0 (tree_view rest) σ M ss
next {A} {w} {σ0} {σ} {M0} {M} {ss} rest part e on = subst (λ v. On A w σ0 M0 (tree_view v) σ M ss) (sym e) on

let_goes : {A : Answers} {w : pure.Tree} {σ0 σ : Names} {M0 M : Set} {ss : List Step} (x : ℕ) (p : Primitive) (rest : pure.Tree) (τ : Names) (ss' : List Step) → AllSound A → On A w σ0 M0 (pure.Let x p rest) σ M ss → IsFolded A x p σ τ ss ss' → On A w σ0 M0 rest τ M ss'
let_goes {A} {w} {σ0} {σ} {M0} {M} {ss} x p rest τ ss' sound on f =
    ⊎_elim (λ h. on_same sound τ h.0 ss' on (subst (λ q. IsAnswered A (prim_renamed σ p) q) h.1 f.answered) h.2 h.3)
    (λ h. on_push rest τ M (step.Let x f.answer) ss' on (goes_let f.answer on.scoped f.answered h.0 h.1) h.2) f.how

pub along_let : {A : Answers} {t cur : Tree} {σ0 σ : Names} {M0 M : Set} {ss : List Step} (x : ℕ) (p : Primitive) (q : _) (r rest : Tree) (τ : Names) (ss' : List Step) → AllSound A → Along A t σ0 M0 cur σ M ss → cur ≡ Let' x p q r → rest ≡ r → IsFolded A x p σ τ ss ss' → Along A t σ0 M0 rest τ M ss'
along_let {A} {t} {cur} x p q r rest τ ss' sound on is e f =
    record { on = next rest r e (let_goes x p (tree_view r) τ ss' sound (here cur (Let' x p q r) is on.on) f); size = shorter t cur (Let' x p q r) rest r is e (omega (arith, deep-Let' x p q r)) on.size }

pub along_read : {A : Answers} {t cur : Tree} {σ0 σ : Names} {M0 M : Set} {ss : List Step} (m : Mem) (xs ys : SmallVec ℕ) (a b : Atom) (q : _) (r rest : Tree) (τ : Names) (ss' : List Step) → Along A t σ0 M0 cur σ M ss → cur ≡ Read' m xs a q r → rest ≡ r → ys.items ≡ xs.items → b ≡ renamed σ a → ss' ≡ ss ++ step.Read m ys b ∷ [] → AreNamed σ xs.items τ → Along A t σ0 M0 rest τ M ss'
along_read {A} {t} {cur} {M = M} m xs ys a b q r rest τ ss' on is e ey eb push named =
    let at = here cur (Read' m xs a q r) is on.on in
    record { on = next rest r e (on_push (tree_view r) τ M (step.Read m ys b) ss' at (goes_read ys b at.scoped named ey eb) push); size = shorter t cur (Read' m xs a q r) rest r is e (omega (arith, deep-Read' m xs a q r)) on.size }

pub along_write : {A : Answers} {t cur : Tree} {σ0 σ : Names} {M0 M : Set} {ss : List Step} (m : Mem) (a b : Atom) (bs cs : SmallVec Atom) (q : _) (r rest : Tree) (ss' : List Step) → Along A t σ0 M0 cur σ M ss → cur ≡ Write' m a bs q r → rest ≡ r → b ≡ renamed σ a → cs.items ≡ all_renamed σ bs.items → ss' ≡ ss ++ step.Write m b cs ∷ [] → Along A t σ0 M0 rest σ M ss'
along_write {A} {t} {cur} {σ = σ} {M = M} m a b bs cs q r rest ss' on is e eb ec push =
    let at = here cur (Write' m a bs q r) is on.on in
    record { on = next rest r e (on_push (tree_view r) σ M (step.Write m b cs) ss' at (goes_write b cs at.scoped eb ec) push); size = shorter t cur (Write' m a bs q r) rest r is e (omega (arith, deep-Write' m a bs q r)) on.size }

pub along_if : {A : Answers} {t cur : Tree} {σ0 σ : Names} {M0 M : Set} {ss : List Step} (c : Cmp) (a b x y : Atom) (q q' : _) (f r part rest u : Tree) (τ : Names) (N : Set) (ss' : List Step) → AllSound A → Along A t σ0 M0 cur σ M ss → cur ≡ If' c a b q f q' r → part ≡ f → rest ≡ r → x ≡ renamed σ a → y ≡ renamed σ b → IsDone A (tree_view part) σ τ M N (tree_view u) → ss' ≡ ss ++ step.If c x y u ∷ [] → Along A t σ0 M0 rest τ N ss'
along_if {A} {t} {cur} {σ = σ} {M = M} c a b x y q q' f r part rest u τ N ss' sound on is ef e ex ey done push =
    let at = here cur (If' c a b q f q' r) is on.on in
    let inner = subst (λ v. IsDone A (tree_view v) σ τ M N (tree_view u)) ef done in
    record { on = next rest r e (on_push (tree_view r) τ N (step.If c x y u) ss' at (goes_if x y u sound at.scoped ex ey inner) push); size = shorter t cur (If' c a b q f q' r) rest r is e (omega (arith, deep-If' c a b q f q' r)) on.size }

-- the primitive of a `Let` has a count, if it is a shift
pub let_count : {A : Answers} {t cur : Tree} {σ0 σ : Names} {M0 M : Set} {ss : List Step} (x : ℕ) (p : Primitive) (q : _) (r : Tree) → Along A t σ0 M0 cur σ M ss → cur ≡ Let' x p q r → HasPrimCount p
let_count x p q r on is = let at = here _ (Let' x p q r) is on.on in at.scoped.fits.1

-- the first part of an `If` may be simplified
pub part_scoped : {A : Answers} {t cur : Tree} {σ0 σ : Names} {M0 M : Set} {ss : List Step} (c : Cmp) (a b : Atom) (q q' : _) (f r part : Tree) → Along A t σ0 M0 cur σ M ss → cur ≡ If' c a b q f q' r → part ≡ f → IsScoped σ M (tree_view part)
part_scoped {σ = σ} {M = M} c a b q q' f r part on is ef =
    let at = here _ (If' c a b q f q' r) is on.on in
    subst (λ v. IsScoped σ M (tree_view v)) (sym ef)
    (record {
      known = at.scoped.known;
      fits = at.scoped.fits.1;
      own = at.scoped.own;
      unmarked = λ y i. at.scoped.unmarked y (in-left y (defined (tree_view f)) (defined (tree_view r)) i);
    })

-- ---- the last node

pub jump_done : {A : Answers} {t cur : Tree} {σ0 σ : Names} {M0 M N O : Set} {ss : List Step} (l : ℕ) (bs : Vec Atom Global) (cs : List Atom) (u : Tree) → Along A t σ0 M0 cur σ M ss → cur ≡ Jump l bs → cs ≡ all_renamed σ bs.items → Adds (all_vars cs) M N → tree_view u ≡ kept_all N ss (pure.Jump l cs) → Adds (uses (tree_view u)) N O → IsDone A (tree_view t) σ0 σ M0 O (tree_view u)
jump_done {N = N} {O = O} l bs cs u on is e added tree marked = done_last (pure.Jump l cs) (tree_view u) N O (here _ (Jump l bs) is on.on) (last_jump cs e) tt added tree marked

pub halt_done : {A : Answers} {t cur : Tree} {σ0 σ : Names} {M0 M N O : Set} {ss : List Step} (n : ℕ) (bs : SmallVec Atom) (cs : List Atom) (u : Tree) → Along A t σ0 M0 cur σ M ss → cur ≡ Halt n bs → cs ≡ all_renamed σ bs.items → Adds (all_vars cs) M N → tree_view u ≡ kept_all N ss (pure.Halt n cs) → Adds (uses (tree_view u)) N O → IsDone A (tree_view t) σ0 σ M0 O (tree_view u)
halt_done {N = N} {O = O} n bs cs u on is e added tree marked = done_last (pure.Halt n cs) (tree_view u) N O (here _ (Halt n bs) is on.on) (last_halt cs e) tt added tree marked

-- ---- what references tell

pub adds_at : {S T : Set} {xs ys : List Atom} → Adds (all_vars xs) S T → xs ≡ ys → Adds (all_vars ys) S T
adds_at {S} {T} h e = subst (λ l. Adds (all_vars l) S T) e h
