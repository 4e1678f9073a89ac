-- The spine of a copy, node by node, and through the labels that stand in the place of jumps.
use Rattle.std.proofs.Common.{◌≡◌, ℕ, zero, suc, ◌+◌, ◌*◌, ◌<◌, ◌≤◌, max, true, false, List, [], ◌∷◌, ◌++◌, Some, map, refl, sym, ap, subst, ◌∙◌, length, slice_get, arith}
use Rattle.std.specs.List.{range_with_len}
use Rattle.std.specs.declared.vec.Vec.{Vec}
use Rattle.std.specs.declared.alloc.Global.{Global}
use Rattle.std.proofs.lemmas.List.{length-map}
use Rattle.std.proofs.lemmas.Option.{none-some, same_Some}
use Rattle.smallvec.specs.SmallVec.{SmallVec}
use Rattle.nv_base.specs.declared.term.Atom.{Atom}
use Rattle.nv_base.specs.declared.term.Atom.TheVariants.{Var}
use Rattle.nv_base.specs.declared.term.Cmp.{Cmp}
use Rattle.nv_base.specs.declared.term.Mem.{Mem}
use Rattle.nv_base.specs.declared.term.Primitive.{Primitive}
use Rattle.nv_base.specs.Words.{negated}
use Rattle.flow_ir.proofs.Steps.{put_last}
use Rattle.flow_ir.specs.Spine.{put, put_all}
use Rattle.flow_ir.specs.Tree as pure
use Rattle.flow_ir.specs.View.{tree_view, label_view}
use Rattle.flow_ir.specs.declared.flow.Label.{Label}
use Rattle.flow_ir.specs.declared.flow.Tree.{Tree, size-Tree}
use Rattle.flow_ir.specs.declared.flow.Tree.TheVariants.{Let', Read', Write', If', Jump, Halt}
use Rattle.flow_ir.specs.declared.flow.Tree.TheViews.{deep-Let', deep-Read', deep-Write', deep-If'}
use Rattle.flow_ir.specs.declared.spine.Step.{Step}
use Rattle.flow_ir.specs.declared.spine.Step.TheVariants as step
use Rattle.flow_ir.specs.Substitution.{Names, renamed, all_renamed, prim_renamed, look}
use Rattle.flow_ir.proofs.Mentions.{smaller}
use Rattle.flow_merge.specs.inner.Copied.{named, all_named, numbered, undone, folded, Numbering, Copied, kept, read, write, choice, swapped, first, second, jump, halt, inside}

-- ---- how far there is to go

abbrev pub deepest : List Label → ℕ
deepest [] = 0
deepest (l ∷ ls) = max (size-Tree l.body) (deepest ls)

pub deepest_at : (ls : List Label) (i : ℕ) (m : Label) → slice_get ls i ≡ Some m → size-Tree m.body ≤ deepest ls
deepest_at [] i m e = absurd (none-some m e)
deepest_at (l ∷ ls) zero m e = let same : size-Tree l.body ≡ size-Tree m.body = ap (λ (k : Label). size-Tree k.body) (same_Some l m e) in omega arith
deepest_at (l ∷ ls) (suc i) m e = let le = deepest_at ls i m e in omega arith

-- the labels of lower ranks, and a tree
abbrev pub room : List Label → ℕ → Tree → ℕ
room ls rank t = rank * (deepest ls + 1) + size-Tree t

lower_times : (r rank d : ℕ) → r < rank → r * (d + 1) + (d + 1) ≤ rank * (d + 1)
lower_times r zero d lt = absurd (omega arith)
lower_times zero (suc rank) d lt = grind arith
lower_times (suc r) (suc rank) d lt = let le = lower_times r rank d (omega arith) in grind arith

pub room_inside : (ls : List Label) (l r rank : ℕ) (m : Label) (cur body : Tree) → slice_get ls l ≡ Some m → body ≡ m.body → r < rank → room ls r body < room ls rank cur
room_inside ls l r rank m cur body at e lt =
    let le = deepest_at ls l m at in
    let same = ap size-Tree e in
    let times = lower_times r rank (deepest ls) lt in
    omega (arith, le, same, times)

-- ---- where the spine has come

pub record Along (ls : List Label) (to : Numbering) (t : Tree) (rank0 : ℕ) (σ0 : Names) (n0 : ℕ) (cur : Tree) (rank : ℕ) (σ : Names) (n : ℕ) (saved : List (ℕ × Atom)) (ss : List Step) : Type 0 where
  pub on : (v : pure.Tree) (k : ℕ) → Copied (map label_view ls) to σ n (tree_view cur) v k → Copied (map label_view ls) to σ0 n0 (tree_view t) (put_all ss v) k
  pub near : room ls rank cur ≤ room ls rank0 t
  pub back : undone saved σ ≡ σ0

pub along_start : (ls : List Label) (to : Numbering) (t : Tree) (rank : ℕ) (σ : Names) (n : ℕ) → Along ls to t rank σ n t rank σ n [] []
along_start ls to t rank σ n = record { on = λ v k c. c; near = omega arith; back = refl }

-- what follows a node is copied after its copy
pub along_step : {ls : List Label} {to : Numbering} {t cur : Tree} {rank0 rank n0 n : ℕ} {σ0 σ : Names} {saved : List (ℕ × Atom)} {ss : List Step} (s : Step) (rest : Tree) (τ : Names) (n' : ℕ) (saved' : List (ℕ × Atom)) (ss' : List Step)
    → Along ls to t rank0 σ0 n0 cur rank σ n saved ss → ss' ≡ ss ++ s ∷ [] → ((v : pure.Tree) (k : ℕ) → Copied (map label_view ls) to τ n' (tree_view rest) v k → Copied (map label_view ls) to σ n (tree_view cur) (put s v) k) → size-Tree rest ≤ size-Tree cur
    → undone saved' τ ≡ undone saved σ → Along ls to t rank0 σ0 n0 rest rank τ n' saved' ss'
along_step {ls} {to} {t} {n0 = n0} {σ0 = σ0} {ss = ss} s rest τ n' saved' ss' on push copy less back = record {
  on = λ v k c. subst (λ z. Copied (map label_view ls) to σ0 n0 (tree_view t) z k) (put_last ss' ss s v (put s v) push refl) (on.on (put s v) k (copy v k c));
  near = let le = on.near in omega arith;
  back = back ∙ on.back;
}

-- the spine goes on without a step
pub along_on : {ls : List Label} {to : Numbering} {t cur : Tree} {rank0 rank n0 n : ℕ} {σ0 σ : Names} {saved : List (ℕ × Atom)} {ss : List Step} (rest : Tree) (rank' : ℕ) (τ : Names) (saved' : List (ℕ × Atom))
    → Along ls to t rank0 σ0 n0 cur rank σ n saved ss → ((v : pure.Tree) (k : ℕ) → Copied (map label_view ls) to τ n (tree_view rest) v k → Copied (map label_view ls) to σ n (tree_view cur) v k) → room ls rank' rest ≤ room ls rank cur
    → undone saved' τ ≡ undone saved σ → Along ls to t rank0 σ0 n0 rest rank' τ n saved' ss
along_on {ss = ss} rest rank' τ saved' on copy less back = record { on = λ v k c. on.on v k (copy v k c); near = let le = on.near in omega arith; back = back ∙ on.back }

-- ---- each node

pub along_let : {ls : List Label} {to : Numbering} {t cur : Tree} {rank0 rank n0 n : ℕ} {σ0 σ : Names} {saved : List (ℕ × Atom)} {ss : List Step} (x y : ℕ) (p p' : Primitive) (q : _) (r rest : Tree) (τ : Names) (n' : ℕ) (saved' : List (ℕ × Atom)) (ss' : List Step)
    → Along ls to t rank0 σ0 n0 cur rank σ n saved ss → cur ≡ Let' x p q r → rest ≡ r → p' ≡ prim_renamed σ p → y ≡ n → n' ≡ n + 1 → τ ≡ named σ x (Var y) → undone saved' τ ≡ undone saved σ → ss' ≡ ss ++ step.Let y p' ∷ []
    → Along ls to t rank0 σ0 n0 rest rank τ n' saved' ss'
along_let {ls} {to} {cur = cur} {n = n} {σ = σ} x y p p' q r rest τ n' saved' ss' on is e ep ey en et back push =
    let L = map label_view ls in
    along_step (step.Let y p') rest τ n' saved' ss' on push
    (λ v k c.
    let c1 : Copied L to τ n' (tree_view r) v k = subst (λ z. Copied L to τ n' (tree_view z) v k) e c in
    let c2 : Copied L to (named σ x (Var n)) n' (tree_view r) v k = subst (λ z. Copied L to z n' (tree_view r) v k) (et ∙ ap (λ z. named σ x (Var z)) ey) c1 in
    let c3 : Copied L to (named σ x (Var n)) (n + 1) (tree_view r) v k = subst (λ z. Copied L to (named σ x (Var n)) z (tree_view r) v k) en c2 in
    let d1 : Copied L to σ n (pure.Let x p (tree_view r)) (pure.Let y (prim_renamed σ p) v) k = subst (λ z. Copied L to σ n (pure.Let x p (tree_view r)) (pure.Let z (prim_renamed σ p) v) k) (sym ey) (kept σ n k x p (tree_view r) v c3) in
    let d2 : Copied L to σ n (pure.Let x p (tree_view r)) (pure.Let y p' v) k = subst (λ z. Copied L to σ n (pure.Let x p (tree_view r)) (pure.Let y z v) k) (sym ep) d1 in
    subst (λ z. Copied L to σ n (tree_view z) (pure.Let y p' v) k) (sym is) d2)
    (smaller cur (Let' x p q r) rest r is e (omega (arith, deep-Let' x p q r))) back

pub along_read : {ls : List Label} {to : Numbering} {t cur : Tree} {rank0 rank n0 n : ℕ} {σ0 σ : Names} {saved : List (ℕ × Atom)} {ss : List Step} (m : Mem) (xs ys : SmallVec ℕ) (a b : Atom) (q : _) (r rest : Tree) (τ : Names) (n' : ℕ) (saved' : List (ℕ × Atom)) (ss' : List Step)
    → Along ls to t rank0 σ0 n0 cur rank σ n saved ss → cur ≡ Read' m xs a q r → rest ≡ r → b ≡ renamed σ a → ys.items ≡ range_with_len n (length xs.items) → n' ≡ n + length xs.items → τ ≡ numbered σ n xs.items → undone saved' τ ≡ undone saved σ
    → ss' ≡ ss ++ step.Read m ys b ∷ [] → Along ls to t rank0 σ0 n0 rest rank τ n' saved' ss'
along_read {ls} {to} {cur = cur} {n = n} {σ = σ} m xs ys a b q r rest τ n' saved' ss' on is e eb ey en et back push =
    let L = map label_view ls in
    let zs = range_with_len n (length xs.items) in
    along_step (step.Read m ys b) rest τ n' saved' ss' on push
    (λ v k c.
    let c1 : Copied L to τ n' (tree_view r) v k = subst (λ z. Copied L to τ n' (tree_view z) v k) e c in
    let c2 : Copied L to (numbered σ n xs.items) n' (tree_view r) v k = subst (λ z. Copied L to z n' (tree_view r) v k) et c1 in
    let c3 : Copied L to (numbered σ n xs.items) (n + length xs.items) (tree_view r) v k = subst (λ z. Copied L to (numbered σ n xs.items) z (tree_view r) v k) en c2 in
    let d1 : Copied L to σ n (pure.Read m xs.items a (tree_view r)) (pure.Read m ys.items (renamed σ a) v) k = subst (λ z. Copied L to σ n (pure.Read m xs.items a (tree_view r)) (pure.Read m z (renamed σ a) v) k) (sym ey) (read σ n k m xs.items a (tree_view r) v c3) in
    let d2 : Copied L to σ n (pure.Read m xs.items a (tree_view r)) (pure.Read m ys.items b v) k = subst (λ z. Copied L to σ n (pure.Read m xs.items a (tree_view r)) (pure.Read m ys.items z v) k) (sym eb) d1 in
    subst (λ z. Copied L to σ n (tree_view z) (pure.Read m ys.items b v) k) (sym is) d2)
    (smaller cur (Read' m xs a q r) rest r is e (omega (arith, deep-Read' m xs a q r))) back

pub along_write : {ls : List Label} {to : Numbering} {t cur : Tree} {rank0 rank n0 n : ℕ} {σ0 σ : Names} {saved : List (ℕ × Atom)} {ss : List Step} (m : Mem) (a b : Atom) (bs cs : SmallVec Atom) (q : _) (r rest : Tree) (ss' : List Step)
    → Along ls to t rank0 σ0 n0 cur rank σ n saved ss → cur ≡ Write' m a bs q r → rest ≡ r → b ≡ renamed σ a → cs.items ≡ all_renamed σ bs.items → ss' ≡ ss ++ step.Write m b cs ∷ [] → Along ls to t rank0 σ0 n0 rest rank σ n saved ss'
along_write {ls} {to} {cur = cur} {n = n} {σ = σ} {saved = saved} m a b bs cs q r rest ss' on is e eb ec push =
    let L = map label_view ls in
    along_step (step.Write m b cs) rest σ n saved ss' on push
    (λ v k c.
    let c1 : Copied L to σ n (tree_view r) v k = subst (λ z. Copied L to σ n (tree_view z) v k) e c in
    let d1 : Copied L to σ n (pure.Write m a bs.items (tree_view r)) (pure.Write m b (all_renamed σ bs.items) v) k = subst (λ z. Copied L to σ n (pure.Write m a bs.items (tree_view r)) (pure.Write m z (all_renamed σ bs.items) v) k) (sym eb) (write σ n k m a bs.items (tree_view r) v c1) in
    let d2 : Copied L to σ n (pure.Write m a bs.items (tree_view r)) (pure.Write m b cs.items v) k = subst (λ z. Copied L to σ n (pure.Write m a bs.items (tree_view r)) (pure.Write m b z v) k) (sym ec) d1 in
    subst (λ z. Copied L to σ n (tree_view z) (pure.Write m b cs.items v) k) (sym is) d2)
    (smaller cur (Write' m a bs q r) rest r is e (omega (arith, deep-Write' m a bs q r))) refl

-- the first part of an `If` is copied, and names are as before
pub along_if : {ls : List Label} {to : Numbering} {t cur : Tree} {rank0 rank n0 n : ℕ} {σ0 σ : Names} {saved : List (ℕ × Atom)} {ss : List Step} (c : Cmp) (a b x y : Atom) (q q' : _) (f r part rest u : Tree) (τ : Names) (j : ℕ) (ss' : List Step)
    → Along ls to t rank0 σ0 n0 cur rank σ n saved ss → cur ≡ If' c a b q f q' r → part ≡ f → rest ≡ r → x ≡ renamed σ a → y ≡ renamed σ b → τ ≡ σ → Copied (map label_view ls) to σ n (tree_view part) (tree_view u) j → ss' ≡ ss ++ step.If c x y u ∷ []
    → Along ls to t rank0 σ0 n0 rest rank τ j saved ss'
along_if {ls} {to} {cur = cur} {n = n} {σ = σ} {saved = saved} c a b x y q q' f r part rest u τ j ss' on is ef e ex ey et copied push =
    let L = map label_view ls in
    let w = pure.If c a b (tree_view f) (tree_view r) in
    along_step (step.If c x y u) rest τ j saved ss' on push
    (λ v k d.
    let d1 : Copied L to τ j (tree_view r) v k = subst (λ z. Copied L to τ j (tree_view z) v k) e d in
    let d2 : Copied L to σ j (tree_view r) v k = subst (λ z. Copied L to z j (tree_view r) v k) et d1 in
    let left : Copied L to σ n (tree_view f) (tree_view u) j = subst (λ z. Copied L to σ n (tree_view z) (tree_view u) j) ef copied in
    let g1 : Copied L to σ n w (pure.If c x (renamed σ b) (tree_view u) v) k = subst (λ z. Copied L to σ n w (pure.If c z (renamed σ b) (tree_view u) v) k) (sym ex) (choice σ n j k c a b (tree_view f) (tree_view r) (tree_view u) v left d2) in
    let g2 : Copied L to σ n w (pure.If c x y (tree_view u) v) k = subst (λ z. Copied L to σ n w (pure.If c x z (tree_view u) v) k) (sym ey) g1 in
    subst (λ z. Copied L to σ n (tree_view z) (pure.If c x y (tree_view u) v) k) (sym is) g2)
    (smaller cur (If' c a b q f q' r) rest r is e (omega (arith, deep-If' c a b q f q' r))) (ap (undone saved) et)

-- the second part is copied, and the first one is the rest
pub along_negated : {ls : List Label} {to : Numbering} {t cur : Tree} {rank0 rank n0 n : ℕ} {σ0 σ : Names} {saved : List (ℕ × Atom)} {ss : List Step} (c c' : Cmp) (a b x y : Atom) (q q' : _) (f r part rest u : Tree) (τ : Names) (j : ℕ) (ss' : List Step)
    → Along ls to t rank0 σ0 n0 cur rank σ n saved ss → cur ≡ If' c a b q f q' r → part ≡ r → rest ≡ f → x ≡ renamed σ a → y ≡ renamed σ b → τ ≡ σ → Copied (map label_view ls) to σ n (tree_view part) (tree_view u) j → c' ≡ negated c → ss' ≡ ss ++ step.If c' x y u ∷ []
    → Along ls to t rank0 σ0 n0 rest rank τ j saved ss'
along_negated {ls} {to} {cur = cur} {n = n} {σ = σ} {saved = saved} c c' a b x y q q' f r part rest u τ j ss' on is ef e ex ey et copied ec push =
    let L = map label_view ls in
    let w = pure.If c a b (tree_view f) (tree_view r) in
    along_step (step.If c' x y u) rest τ j saved ss' on push
    (λ v k d.
    let d1 : Copied L to τ j (tree_view f) v k = subst (λ z. Copied L to τ j (tree_view z) v k) e d in
    let d2 : Copied L to σ j (tree_view f) v k = subst (λ z. Copied L to z j (tree_view f) v k) et d1 in
    let left : Copied L to σ n (tree_view r) (tree_view u) j = subst (λ z. Copied L to σ n (tree_view z) (tree_view u) j) ef copied in
    let g1 : Copied L to σ n w (pure.If (negated c) x (renamed σ b) (tree_view u) v) k = subst (λ z. Copied L to σ n w (pure.If (negated c) z (renamed σ b) (tree_view u) v) k) (sym ex) (swapped σ n j k c a b (tree_view f) (tree_view r) v (tree_view u) left d2) in
    let g2 : Copied L to σ n w (pure.If (negated c) x y (tree_view u) v) k = subst (λ z. Copied L to σ n w (pure.If (negated c) x z (tree_view u) v) k) (sym ey) g1 in
    let g3 : Copied L to σ n w (pure.If c' x y (tree_view u) v) k = subst (λ z. Copied L to σ n w (pure.If z x y (tree_view u) v) k) (sym ec) g2 in
    subst (λ z. Copied L to σ n (tree_view z) (pure.If c' x y (tree_view u) v) k) (sym is) g3)
    (smaller cur (If' c a b q f q' r) rest f is e (omega (arith, deep-If' c a b q f q' r))) (ap (undone saved) et)

pub along_first : {ls : List Label} {to : Numbering} {t cur : Tree} {rank0 rank n0 n : ℕ} {σ0 σ : Names} {saved : List (ℕ × Atom)} {ss : List Step} (c : Cmp) (a b x y : Atom) (q q' : _) (f r rest : Tree)
    → Along ls to t rank0 σ0 n0 cur rank σ n saved ss → cur ≡ If' c a b q f q' r → rest ≡ f → x ≡ renamed σ a → y ≡ renamed σ b → folded c x y ≡ Some true → Along ls to t rank0 σ0 n0 rest rank σ n saved ss
along_first {ls} {to} {cur = cur} {rank = rank} {n = n} {σ = σ} {saved = saved} c a b x y q q' f r rest on is e ex ey holds =
    let L = map label_view ls in
    along_on rest rank σ saved on
    (λ v k d.
    let d1 : Copied L to σ n (tree_view f) v k = subst (λ z. Copied L to σ n (tree_view z) v k) e d in
    subst (λ z. Copied L to σ n (tree_view z) v k) (sym is) (first σ n k c a b (tree_view f) (tree_view r) v (ap (folded c (renamed σ a)) (sym ey) ∙ ap (λ z. folded c z y) (sym ex) ∙ holds) d1))
    (let less = smaller cur (If' c a b q f q' r) rest f is e (omega (arith, deep-If' c a b q f q' r)) in omega arith) refl

pub along_second : {ls : List Label} {to : Numbering} {t cur : Tree} {rank0 rank n0 n : ℕ} {σ0 σ : Names} {saved : List (ℕ × Atom)} {ss : List Step} (c : Cmp) (a b x y : Atom) (q q' : _) (f r rest : Tree)
    → Along ls to t rank0 σ0 n0 cur rank σ n saved ss → cur ≡ If' c a b q f q' r → rest ≡ r → x ≡ renamed σ a → y ≡ renamed σ b → folded c x y ≡ Some false → Along ls to t rank0 σ0 n0 rest rank σ n saved ss
along_second {ls} {to} {cur = cur} {rank = rank} {n = n} {σ = σ} {saved = saved} c a b x y q q' f r rest on is e ex ey fails =
    let L = map label_view ls in
    along_on rest rank σ saved on
    (λ v k d.
    let d1 : Copied L to σ n (tree_view r) v k = subst (λ z. Copied L to σ n (tree_view z) v k) e d in
    subst (λ z. Copied L to σ n (tree_view z) v k) (sym is) (second σ n k c a b (tree_view f) (tree_view r) v (ap (folded c (renamed σ a)) (sym ey) ∙ ap (λ z. folded c z y) (sym ex) ∙ fails) d1))
    (let less = smaller cur (If' c a b q f q' r) rest r is e (omega (arith, deep-If' c a b q f q' r)) in omega arith) refl

viewed_at : (ls : List Label) (i : ℕ) (m : Label) → slice_get ls i ≡ Some m → slice_get (map label_view ls) i ≡ Some (label_view m)
viewed_at [] i m e = absurd (none-some m e)
viewed_at (l ∷ ls) zero m e = ap (λ k. Some (label_view k)) (same_Some l m e)
viewed_at (l ∷ ls) (suc i) m e = viewed_at ls i m e

pub along_inside : {ls : List Label} {to : Numbering} {t cur : Tree} {rank0 rank n0 n : ℕ} {σ0 σ : Names} {saved : List (ℕ × Atom)} {ss : List Step} (l own : ℕ) (bs : Vec Atom Global) (words : List Atom) (m : Label) (rest : Tree) (τ : Names) (saved' : List (ℕ × Atom))
    → Along ls to t rank0 σ0 n0 cur rank σ n saved ss → cur ≡ Jump l bs → words ≡ all_renamed σ bs.items → slice_get ls l ≡ Some m → own < rank → rest ≡ m.body → τ ≡ all_named σ m.params.items words → undone saved' τ ≡ undone saved σ
    → Along ls to t rank0 σ0 n0 rest own τ n saved' ss
along_inside {ls} {to} {cur = cur} {rank = rank} {n = n} {σ = σ} l own bs words m rest τ saved' on is ew at lt e et back =
    let L = map label_view ls in
    along_on rest own τ saved' on
    (λ v k d.
    let d1 : Copied L to τ n (tree_view m.body) v k = subst (λ z. Copied L to τ n (tree_view z) v k) e d in
    let d2 : Copied L to (all_named σ m.params.items (all_renamed σ bs.items)) n (tree_view m.body) v k = subst (λ z. Copied L to z n (tree_view m.body) v k) (et ∙ ap (all_named σ m.params.items) ew) d1 in
    subst (λ z. Copied L to σ n (tree_view z) v k) (sym is) (inside σ n k l bs.items (label_view m) v (viewed_at ls l m at) d2))
    (let less = room_inside ls l own rank m cur rest at e lt in omega arith) back

-- ---- the last node

pub jump_copied : {ls : List Label} {to : Numbering} {t cur : Tree} {rank0 rank n0 n : ℕ} {σ0 σ : Names} {saved : List (ℕ × Atom)} {ss : List Step} (l l' : ℕ) (bs : Vec Atom Global) (words : List Atom) (u : Tree)
    → Along ls to t rank0 σ0 n0 cur rank σ n saved ss → cur ≡ Jump l bs → words ≡ all_renamed σ bs.items → l < length ls → to.stays l ≡ true → l' ≡ to.to l → tree_view u ≡ put_all ss (pure.Jump l' words) → Copied (map label_view ls) to σ0 n0 (tree_view t) (tree_view u) n
jump_copied {ls} {to} {t} {n0 = n0} {n = n} {σ0 = σ0} {σ = σ} {ss = ss} l l' bs words u on is ew lt stays el tree =
    let L = map label_view ls in
    let len : length L ≡ length ls = length-map ls label_view in
    let d : Copied L to σ n (pure.Jump l bs.items) (pure.Jump l' (all_renamed σ bs.items)) n = subst (λ z. Copied L to σ n (pure.Jump l bs.items) (pure.Jump z (all_renamed σ bs.items)) n) (sym el) (jump σ n l bs.items (omega (arith, len, lt)) stays) in
    let d1 : Copied L to σ n (pure.Jump l bs.items) (pure.Jump l' words) n = subst (λ z. Copied L to σ n (pure.Jump l bs.items) (pure.Jump l' z) n) (sym ew) d in
    subst (λ z. Copied L to σ0 n0 (tree_view t) z n) (sym tree) (on.on (pure.Jump l' words) n (subst (λ z. Copied L to σ n (tree_view z) (pure.Jump l' words) n) (sym is) d1))

pub halt_copied : {ls : List Label} {to : Numbering} {t cur : Tree} {rank0 rank n0 n : ℕ} {σ0 σ : Names} {saved : List (ℕ × Atom)} {ss : List Step} (x : ℕ) (bs : SmallVec Atom) (words : List Atom) (u : Tree)
    → Along ls to t rank0 σ0 n0 cur rank σ n saved ss → cur ≡ Halt x bs → words ≡ all_renamed σ bs.items → tree_view u ≡ put_all ss (pure.Halt x words) → Copied (map label_view ls) to σ0 n0 (tree_view t) (tree_view u) n
halt_copied {ls} {to} {t} {n0 = n0} {n = n} {σ0 = σ0} {σ = σ} {ss = ss} x bs words u on is ew tree =
    let L = map label_view ls in
    let d : Copied L to σ n (pure.Halt x bs.items) (pure.Halt x words) n = subst (λ z. Copied L to σ n (pure.Halt x bs.items) (pure.Halt x z) n) (sym ew) (halt σ n x bs.items) in
    subst (λ z. Copied L to σ0 n0 (tree_view t) z n) (sym tree) (on.on (pure.Halt x words) n (subst (λ z. Copied L to σ n (tree_view z) (pure.Halt x words) n) (sym is) d))

-- ---- what references tell

pub prim_at : {l l' : List Atom} {q : Primitive} (p : Primitive) → q ≡ prim_renamed (look l) p → l ≡ l' → q ≡ prim_renamed (look l') p
prim_at p e f = e ∙ ap (λ v. prim_renamed (look v) p) f
