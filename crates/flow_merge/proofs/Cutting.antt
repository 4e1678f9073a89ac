-- The spine of a pruned tree, and words that stay, one by one.
use Rattle.std.proofs.Common.{◌≡◌, ℕ, ◌+◌, ◌<◌, ◌≤◌, Bool, true, false, List, [], ◌∷◌, ◌++◌, refl, sym, ap, subst, ◌∙◌, length, slice_get, get_or, take, drop, if◌then◌else◌, arith}
use Rattle.std.specs.declared.vec.Vec.{Vec}
use Rattle.std.specs.declared.alloc.Global.{Global}
use Rattle.std.proofs.lemmas.Bool.{false≢true, false_from_ne_true}
use Rattle.std.proofs.lemmas.List.{drop_all, drop_more, take_more, append_assoc}
use Rattle.smallvec.specs.SmallVec.{SmallVec}
use Rattle.nv_base.specs.declared.term.Atom.{Atom}
use Rattle.nv_base.specs.Sets.{is_in, without}
use Rattle.nv_base.proofs.Sets.{same-number}
use Rattle.flow_ir.proofs.Steps.{put_last}
use Rattle.flow_ir.specs.Spine.{put, put_all}
use Rattle.flow_ir.specs.Tree as pure
use Rattle.flow_ir.specs.View.{tree_view}
use Rattle.flow_ir.specs.declared.flow.Tree.{Tree, size-Tree}
use Rattle.flow_ir.specs.declared.flow.Tree.TheVariants.{Let', Read', Write', If', Jump, Halt}
use Rattle.flow_ir.specs.declared.flow.Tree.TheViews.{deep-Let', deep-Read', deep-Write', deep-If'}
use Rattle.flow_ir.specs.declared.spine.Step.{Step}
use Rattle.flow_ir.specs.declared.spine.Step.TheVariants as step
use Rattle.flow_ir.proofs.Members.{either, first-or-rest}
use Rattle.flow_ir.proofs.Mentions.{smaller}
use Rattle.flow_merge.specs.inner.Pruned.{kept_words, params_in, pruned, Clear}
use Rattle.flow_merge.proofs.Keeping.{without_last}

-- ---- trees

pub record Cut (labels : List pure.Label) (gone : ℕ → List ℕ) (t cur : Tree) (ss : List Step) : Type 0 where
  pub whole : put_all ss (pruned labels gone (tree_view cur)) ≡ pruned labels gone (tree_view t)
  pub size : size-Tree cur ≤ size-Tree t

cut_on : {labels : List pure.Label} {gone : ℕ → List ℕ} {t cur : Tree} {ss : List Step} (s : Step) (rest : Tree) (ss' : List Step) → Cut labels gone t cur ss → ss' ≡ ss ++ s ∷ [] → put s (pruned labels gone (tree_view rest)) ≡ pruned labels gone (tree_view cur) → size-Tree rest ≤ size-Tree cur → Cut labels gone t rest ss'
cut_on {labels} {gone} {t} {cur} {ss} s rest ss' h push e le = record {
  whole = sym (put_last ss' ss s (pruned labels gone (tree_view rest)) (put s (pruned labels gone (tree_view rest))) push refl) ∙ ap (put_all ss) e ∙ h.whole;
  size = let more = h.size in omega arith;
}

pub cut_let : {labels : List pure.Label} {gone : ℕ → List ℕ} {t cur : Tree} {ss : List Step} (x : ℕ) (p : _) (q : _) (r rest : Tree) (ss' : List Step) → Cut labels gone t cur ss → cur ≡ Let' x p q r → rest ≡ r → ss' ≡ ss ++ step.Let x p ∷ [] → Cut labels gone t rest ss'
cut_let {labels} {gone} {cur = cur} x p q r rest ss' h is e push =
    cut_on (step.Let x p) rest ss' h push (ap (λ z. pure.Let x p (pruned labels gone (tree_view z))) e ∙ sym (ap (λ z. pruned labels gone (tree_view z)) is)) (smaller cur (Let' x p q r) rest r is e (omega (arith, deep-Let' x p q r)))

pub cut_read : {labels : List pure.Label} {gone : ℕ → List ℕ} {t cur : Tree} {ss : List Step} (m : _) (xs ys : SmallVec ℕ) (a : _) (q : _) (r rest : Tree) (ss' : List Step) → Cut labels gone t cur ss → cur ≡ Read' m xs a q r → rest ≡ r → ys.items ≡ xs.items → ss' ≡ ss ++ step.Read m ys a ∷ [] → Cut labels gone t rest ss'
cut_read {labels} {gone} {cur = cur} m xs ys a q r rest ss' h is e ey push =
    cut_on (step.Read m ys a) rest ss' h push (ap (λ z. pure.Read m z a (pruned labels gone (tree_view rest))) ey ∙ ap (λ z. pure.Read m xs.items a (pruned labels gone (tree_view z))) e ∙ sym (ap (λ z. pruned labels gone (tree_view z)) is))
    (smaller cur (Read' m xs a q r) rest r is e (omega (arith, deep-Read' m xs a q r)))

pub cut_write : {labels : List pure.Label} {gone : ℕ → List ℕ} {t cur : Tree} {ss : List Step} (m : _) (a : _) (bs cs : SmallVec Atom) (q : _) (r rest : Tree) (ss' : List Step) → Cut labels gone t cur ss → cur ≡ Write' m a bs q r → rest ≡ r → cs.items ≡ bs.items → ss' ≡ ss ++ step.Write m a cs ∷ [] → Cut labels gone t rest ss'
cut_write {labels} {gone} {cur = cur} m a bs cs q r rest ss' h is e ec push =
    cut_on (step.Write m a cs) rest ss' h push (ap (λ z. pure.Write m a z (pruned labels gone (tree_view rest))) ec ∙ ap (λ z. pure.Write m a bs.items (pruned labels gone (tree_view z))) e ∙ sym (ap (λ z. pruned labels gone (tree_view z)) is))
    (smaller cur (Write' m a bs q r) rest r is e (omega (arith, deep-Write' m a bs q r)))

pub cut_if : {labels : List pure.Label} {gone : ℕ → List ℕ} {t cur : Tree} {ss : List Step} (c a b : _) (q q' : _) (f r part rest u : Tree) (ss' : List Step) → Cut labels gone t cur ss → cur ≡ If' c a b q f q' r → part ≡ f → rest ≡ r → tree_view u ≡ pruned labels gone (tree_view part) → ss' ≡ ss ++ step.If c a b u ∷ [] → Cut labels gone t rest ss'
cut_if {labels} {gone} {cur = cur} c a b q q' f r part rest u ss' h is ef e eu push =
    cut_on (step.If c a b u) rest ss' h push
    (ap (λ z. pure.If c a b z (pruned labels gone (tree_view rest))) (eu ∙ ap (λ z. pruned labels gone (tree_view z)) ef) ∙ ap (λ z. pure.If c a b (pruned labels gone (tree_view f)) (pruned labels gone (tree_view z))) e ∙ sym (ap (λ z. pruned labels gone (tree_view z)) is))
    (smaller cur (If' c a b q f q' r) rest r is e (omega (arith, deep-If' c a b q f q' r)))

pub cut_jump : {labels : List pure.Label} {gone : ℕ → List ℕ} {t cur : Tree} {ss : List Step} (l : ℕ) (bs : Vec Atom Global) (words : List Atom) (u : Tree) → Cut labels gone t cur ss → cur ≡ Jump l bs → words ≡ kept_words (gone l) (params_in (slice_get labels l)) bs.items → tree_view u ≡ put_all ss (pure.Jump l words) → tree_view u ≡ pruned labels gone (tree_view t)
cut_jump {labels} {gone} {ss = ss} l bs words u h is e tree = tree ∙ ap (λ z. put_all ss (pure.Jump l z)) e ∙ ap (put_all ss) (sym (ap (λ z. pruned labels gone (tree_view z)) is)) ∙ h.whole

pub cut_halt : {labels : List pure.Label} {gone : ℕ → List ℕ} {t cur : Tree} {ss : List Step} (n : ℕ) (bs : SmallVec Atom) (words : List Atom) (u : Tree) → Cut labels gone t cur ss → cur ≡ Halt n bs → words ≡ bs.items → tree_view u ≡ put_all ss (pure.Halt n words) → tree_view u ≡ pruned labels gone (tree_view t)
cut_halt {labels} {gone} {ss = ss} n bs words u h is e tree = tree ∙ ap (λ z. put_all ss (pure.Halt n z)) e ∙ ap (put_all ss) (sym (ap (λ z. pruned labels gone (tree_view z)) is)) ∙ h.whole

-- ---- words and parameters, one by one

words_some : (g : Bool) (vs vs' ks : List Atom) (b : Atom) → (g ≡ true → vs' ≡ vs) → (g ≡ false → vs' ≡ vs ++ b ∷ []) → vs' ++ ks ≡ vs ++ (if g then ks else b ∷ ks)
words_some true vs vs' ks b f h = ap (λ v. v ++ ks) (f refl)
words_some false vs vs' ks b f h = ap (λ v. v ++ ks) (h refl) ∙ append_assoc vs (b ∷ []) ks

-- there is a word for the parameter
pub words_more : (gone params : List ℕ) (words vs vs' whole : List Atom) (i d p : ℕ) (b c : Atom) → i < length params → p ≡ get_or params i d → i < length words → b ≡ get_or words i c → (is_in p gone ≡ true → vs' ≡ vs) → (is_in p gone ≡ false → vs' ≡ vs ++ b ∷ []) → vs ++ kept_words gone (drop i params) (drop i words) ≡ whole → vs' ++ kept_words gone (drop (i + 1) params) (drop (i + 1) words) ≡ whole
words_more gone params words vs vs' whole i d p b c lt is more ib gone_one stays_one h =
    let ks = kept_words gone (drop (i + 1) params) (drop (i + 1) words) in
    let step : kept_words gone (drop i params) (drop i words) ≡ (if is_in p gone then ks else b ∷ ks) =
    ap (λ l. kept_words gone l (drop i words)) (drop_more params i d lt ∙ ap (λ z. z ∷ drop (i + 1) params) (sym is)) ∙ ap (λ l. kept_words gone (p ∷ drop (i + 1) params) l) (drop_more words i c more ∙ ap (λ z. z ∷ drop (i + 1) words) (sym ib)) in
    words_some (is_in p gone) vs vs' ks b gone_one stays_one ∙ ap (λ l. vs ++ l) (sym step) ∙ h

-- there is none
pub words_end : (gone params : List ℕ) (words vs whole : List Atom) (i d : ℕ) → i < length params → length words ≤ i → vs ++ kept_words gone (drop i params) (drop i words) ≡ whole → vs ++ kept_words gone (drop (i + 1) params) (drop (i + 1) words) ≡ whole
words_end gone params words vs whole i d lt le h =
    let none = drop_all i words le in
    let more = drop_all (i + 1) words (omega arith) in
    ap (λ l. vs ++ l) (empty (drop (i + 1) params) (drop (i + 1) words) more ∙ sym (empty (drop i params) (drop i words) none)) ∙ h
  where
    empty : (ps : List ℕ) (bs : List Atom) → bs ≡ [] → kept_words gone ps bs ≡ []
    empty [] bs e = refl
    empty (p ∷ ps) bs e = ap (kept_words gone (p ∷ ps)) e

without_one : (g : Bool) (p : ℕ) (xs vs vs' : List ℕ) → (g ≡ true → vs' ≡ vs) → (g ≡ false → vs' ≡ vs ++ p ∷ []) → vs ≡ xs → vs' ≡ xs ++ (if g then [] else p ∷ [])
without_one true p xs vs vs' f h e = f refl ∙ e ∙ no_more xs
  where
    no_more : (xs : List ℕ) → xs ≡ xs ++ []
    no_more [] = refl
    no_more (x ∷ xs) = ap (λ l. x ∷ l) (no_more xs)
without_one false p xs vs vs' f h e = h refl ∙ ap (λ l. l ++ p ∷ []) e

pub params_more : (gone params vs vs' : List ℕ) (i d p : ℕ) → i < length params → p ≡ get_or params i d → (is_in p gone ≡ true → vs' ≡ vs) → (is_in p gone ≡ false → vs' ≡ vs ++ p ∷ []) → vs ≡ without (take i params) gone → vs' ≡ without (take (i + 1) params) gone
params_more gone params vs vs' i d p lt is f h e =
    let front : take (i + 1) params ≡ take i params ++ p ∷ [] = take_more params i d lt ∙ ap (λ z. take i params ++ z ∷ []) (sym is) in
    without_one (is_in p gone) p (without (take i params) gone) vs vs' f h e ∙ sym (without_last (take i params) p gone) ∙ sym (ap (λ l. without l gone) front)

pub clear_more : (gone us : List ℕ) (i d x : ℕ) (b : Bool) → i < length gone → x ≡ get_or gone i d → b ≡ is_in x us → b ≡ false → ((y : ℕ) → is_in y (take i gone) ≡ true → is_in y us ≡ false) → (y : ℕ) → is_in y (take (i + 1) gone) ≡ true → is_in y us ≡ false
clear_more gone us i d x b lt is eb fails h =
    λ y k.
    let front : take (i + 1) gone ≡ take i gone ++ x ∷ [] = take_more gone i d lt ∙ ap (λ z. take i gone ++ z ∷ []) (sym is) in
    either y (take i gone) (x ∷ []) (sym (ap (is_in y) front) ∙ k) (λ q. h y q)
    (λ q. first-or-rest y x [] q (λ e. subst (λ z. is_in z us ≡ false) (sym (same-number y x e)) (sym eb ∙ fails)) (λ e. absurd (false≢true e)))

-- where no parameter that goes is used, none of those that are used goes
pub clear_all : (gone us : List ℕ) → ((y : ℕ) → is_in y gone ≡ true → is_in y us ≡ false) → Clear gone us
clear_all gone us h = λ y i. false_from_ne_true (is_in y gone) (λ k. false≢true (sym (h y k) ∙ i))
