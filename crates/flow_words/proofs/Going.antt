-- The spine of a walk, node by node.
use Rattle.std.proofs.Common.{◌≡◌, ℕ, ◌+◌, ◌<◌, ◌≤◌, Bool, true, false, not, nat_eq, nat_lt, ◌&&◌, Some, None, List, [], ◌∷◌, ◌++◌, refl, sym, ap, subst, ◌∙◌, length, take, get_or, if◌then◌else◌, arith}
use Rattle.std.specs.List.{list_all}
use Rattle.std.specs.declared.vec.Vec.{Vec}
use Rattle.std.specs.declared.alloc.Global.{Global}
use Rattle.std.proofs.Math.Path.{fun_ext}
use Rattle.std.proofs.lemmas.Bool.{and_parts, and_from, not-true}
use Rattle.std.proofs.lemmas.Bool.Decides.{nat_tests}
use Rattle.std.proofs.lemmas.List.{take_more}
use Rattle.smallvec.specs.SmallVec.{SmallVec}
use Rattle.nv_base.specs.declared.term.Atom.{Atom}
use Rattle.nv_base.specs.declared.term.Atom.TheVariants.{Var, Lit}
use Rattle.nv_base.specs.declared.term.Una.TheVariants.{Shr, Rol}
use Rattle.nv_base.specs.declared.term.Bin.TheVariants.{Add}
use Rattle.nv_base.specs.declared.term.Primitive.{Primitive}
use Rattle.nv_base.specs.declared.term.Primitive.TheVariants.{Same, Una as UnaOf, Bin as BinOf}
use Rattle.nv_base.specs.Access as access
use Rattle.nv_base.specs.Words.{HasPrimCount}
use Rattle.nv_base.proofs.Operands.{count_of_known}
use Rattle.nv_base.proofs.Sets.{same-number}
use Rattle.flow_ir.proofs.Mentions.{smaller}
use Rattle.flow_ir.proofs.Steps.{put_last}
use Rattle.flow_ir.specs.Spine.{put_all}
use Rattle.flow_ir.specs.Tree as pure
use Rattle.flow_ir.specs.View.{tree_view}
use Rattle.flow_ir.specs.declared.flow.Tree.{Tree, size-Tree}
use Rattle.flow_ir.specs.declared.flow.Tree.TheVariants.{Let', Read', Write', If', Jump, Halt}
use Rattle.flow_ir.specs.declared.flow.Tree.TheViews.{deep-Let', deep-Read', deep-Write', deep-If'}
use Rattle.flow_ir.specs.declared.spine.Step.TheVariants as step
use Rattle.flow_words.specs.declared.state.Known.{Known}
use Rattle.flow_words.specs.declared.walk.State.{State}
use Rattle.flow_words.specs.Definitions.{of_prim}
use Rattle.flow_words.specs.Tables.{Table, look, nothing, itself, with_known, with_all, is_old, is_old_prim, is_settled}
use Rattle.flow_words.specs.Bits.{IsNeeded}
use Rattle.flow_words.specs.Sums.{twice, IsFolded}
use Rattle.flow_words.specs.inner.Undone.{undone, IsSet}
use Rattle.flow_words.specs.inner.Reduced.{HasWord, AreNew, IsReduced, Reduced, extra, kept, read, write, choice, jump, halt}
use Rattle.flow_words.specs.inner.Placed.{Place, place, IsPlaced, IsExtra, IsKept, IsFoldedBy, IsChosen, IsEntered, AreEntered, Goes, IsDone}
use Rattle.flow_words.proofs.Folding.{folded_word, sum_folded}

old_count : (base : ℕ) (p : Primitive) → is_old_prim base p ≡ true → HasPrimCount p
old_count base (Same a) e = tt
old_count base (UnaOf op a) e = count_of_known [] (UnaOf op (Lit 0)) (and_from (access.has_count op) true (and_parts (access.has_count op) (is_old base a) e).0 refl)
old_count base (BinOf op a b) e = tt

-- ---- what was known is known again

pub as_set : (T U : Table) (x : ℕ) (k : Known) → IsSet T x k U → U ≡ with_known T x k
as_set T U x k h = fun_ext (λ y. h.at y)

back_at : (b : Bool) (T : Table) (x y : ℕ) (k : Known) → nat_eq y x ≡ b → (if b then T x else (if b then k else T y)) ≡ T y
back_at true T x y k e = ap T (sym (same-number y x e))
back_at false T x y k e = refl

known_back : (T : Table) (x : ℕ) (k : Known) → with_known (with_known T x k) x (T x) ≡ T
known_back T x k = fun_ext (λ y. back_at (nat_eq y x) T x y k refl)

undone_set : (ss : List (ℕ × Known)) (T : Table) (x : ℕ) (k : Known) → undone (ss ++ (x, T x) ∷ []) (with_known T x k) ≡ undone ss T
undone_set [] T x k = known_back T x k
undone_set (s ∷ ss) T x k = ap (λ U. with_known U s.0 s.1) (undone_set ss T x k)

undone_last : (ss : List (ℕ × Known)) (s : ℕ × Known) (T : Table) → undone (ss ++ s ∷ []) T ≡ undone ss (with_known T s.0 s.1)
undone_last [] s T = refl
undone_last (t ∷ ss) s T = ap (λ U. with_known U t.0 t.1) (undone_last ss s T)

pub saved_one : (ss ss' : List (ℕ × Known)) (T U : Table) (x : ℕ) (old k : Known) → old ≡ T x → ss' ≡ ss ++ (x, old) ∷ [] → IsSet T x k U → undone ss' U ≡ undone ss T
saved_one ss ss' T U x old k e push h =
    ap (λ l. undone l U) (push ∙ ap (λ v. ss ++ (x, v) ∷ []) e) ∙ ap (undone (ss ++ (x, T x) ∷ [])) (as_set T U x k h) ∙ undone_set ss T x k

pub restored_one : (ss more : List (ℕ × Known)) (s : ℕ × Known) (T U : Table) → ss ≡ more ++ s ∷ [] → IsSet T s.0 s.1 U → undone more U ≡ undone ss T
restored_one ss more s T U e h = ap (undone more) (as_set T U s.0 s.1 h) ∙ sym (undone_last more s T) ∙ ap (λ l. undone l T) (sym e)

-- ---- variables that come into scope

all_last : (xs : List ℕ) (x : ℕ) (T : Table) → with_all T (xs ++ x ∷ []) ≡ with_known (with_all T xs) x (itself x)
all_last [] x T = refl
all_last (y ∷ xs) x T = all_last xs x (with_known T y (itself y))

new_last : (base : ℕ) (xs : List ℕ) (x : ℕ) (T : Table) → AreNew base T xs → x < base → (with_all T xs x).live ≡ false → AreNew base T (xs ++ x ∷ [])
new_last base [] x T h lt dead = (lt, dead, tt)
new_last base (y ∷ xs) x T h lt dead = (h.0, h.1, new_last base xs x (with_known T y (itself y)) h.2 lt dead)

pub none_entered : (v : Place) → AreEntered [] v v
none_entered v = record { base = refl; fresh = refl; before = refl; table = refl; sound = λ s. (s, tt) }

pub entered_more : {v w : Place} (xs : List ℕ) (i d : ℕ) (u : Place) → i < length xs → AreEntered (take i xs) v w → IsEntered (get_or xs i d) w u → AreEntered (take (i + 1) xs) v u
entered_more {v} {w} xs i d u lt h k =
    let x = get_or xs i d in
    let ys = take i xs in
    let front : take (i + 1) xs ≡ ys ++ x ∷ [] = take_more xs i d lt in
    subst (λ l. AreEntered l v u) (sym front)
    (record {
      base = k.base ∙ h.base;
      fresh = k.fresh ∙ h.fresh;
      before = k.before ∙ h.before;
      table = k.table ∙ ap (λ T. with_known T x (itself x)) h.table ∙ sym (all_last ys x v.table);
      sound = λ s.
          let one = k.sound s in
          let all = h.sound one.0 in
          (all.0, new_last v.base ys x v.table all.1 (subst (λ n. x < n) h.base one.1) (ap (λ (T : Table). (T x).live) (sym h.table) ∙ one.2));
    })

-- ---- steps

pub go_start : {P : Table → Primitive → Type 0} (v : Place) (t : pure.Tree) → Goes P v t v t
go_start v t = record { base = refl; before = refl; sound = λ s. s; on = λ s r k h. (r, h, refl) }

pub go_on : {P : Table → Primitive → Type 0} {v w x : Place} {t u r : pure.Tree} → Goes P v t w u → Goes P w u x r → Goes P v t x r
go_on {P} {v} {w} {x} {t} {u} {r} g h = record {
  base = h.base ∙ g.base;
  before = h.before ∙ g.before;
  sound = λ s. g.sound (h.sound s);
  on = λ s z k red.
      let second = h.on s z k (subst (λ b. Reduced P b x.table x.fresh r z k) (sym g.base) red) in
      let first = g.on (h.sound s) second.0 k (subst (λ b. Reduced P b w.table w.fresh u second.0 k) g.base second.1) in
      (first.0, first.1, second.2 ∙ first.2);
}

pub go_extra : {P : Table → Primitive → Type 0} {v w : Place} (n : ℕ) (q : Primitive) (t : pure.Tree) → IsExtra n q v w → P v.table q → Goes P v t w t
go_extra {P} {v} {w} n q t h p = record {
  base = h.base;
  before = h.before;
  sound = λ s. (h.sound s).0;
  on = λ s r k red.
      let facts = h.sound s in
      let first = h.first in
      let le : v.base ≤ v.fresh = subst (λ m. v.base ≤ m) first facts.1 in
      let dead : (v.table v.fresh).live ≡ false = subst (λ m. (v.table m).live ≡ false) first facts.2 in
      let here : Reduced P v.base (with_known v.table v.fresh (of_prim v.table q)) (v.fresh + 1) t r k =
      subst (λ m. Reduced P v.base (with_known v.table m (of_prim v.table q)) (v.fresh + 1) t r k) first (subst (λ m. Reduced P v.base (with_known v.table n (of_prim v.table q)) m t r k) h.fresh (subst (λ T. Reduced P v.base T w.fresh t r k) h.table red)) in
      let after = ap (λ m. pure.Let m q r) (sym first) in
      (pure.Let v.fresh q r, extra v.table v.fresh k q t r le dead facts.3 p here, sym (put_last w.steps v.steps (step.Let n q) r (pure.Let v.fresh q r) h.steps after));
}

pub go_kept : {P : Table → Primitive → Type 0} {v w : Place} (x : ℕ) (p q : Primitive) (rest : pure.Tree) → IsKept x q v w → P v.table q → (w.sound ≡ true → is_old_prim v.base p ≡ true) → (w.sound ≡ true → HasWord v.table p q) → Goes P v (pure.Let x p rest) w rest
go_kept {P} {v} {w} x p q rest h fine old same = record {
  base = h.base;
  before = h.before;
  sound = λ s. (h.sound s).0;
  on = λ s r k red.
      let facts = h.sound s in
      let here : Reduced P v.base (with_known v.table x (of_prim v.table q)) v.fresh rest r k = subst (λ m. Reduced P v.base (with_known v.table x (of_prim v.table q)) m rest r k) h.fresh (subst (λ T. Reduced P v.base T w.fresh rest r k) h.table red) in
      (pure.Let x q r, kept v.table v.fresh k x p q rest r facts.1 facts.2 facts.3 fine (old s) (same s) here, sym (put_last w.steps v.steps (step.Let x q) r (pure.Let x q r) h.steps refl));
}

-- a primitive has its own word
pub same_word : (T : Table) (p : Primitive) → HasWord T p p
same_word T p = record { word = λ env words holds. refl }

-- the outcome of checks
abbrev pub judged : Place → Bool → Place
judged v r = record v { sound = r }

-- a check more
abbrev pub checked : Place → Bool → Place
checked v b = record v { sound = v.sound && b }

pub check_of : (v : Place) (b : Bool) → (checked v b).sound ≡ true → (v.sound ≡ true) × (b ≡ true)
check_of v b s = let parts = and_parts v.sound b s in (parts.0, parts.1)

pub go_checked : {P : Table → Primitive → Type 0} (v : Place) (b : Bool) (t : pure.Tree) → Goes P v t (checked v b) t
go_checked v b t = record { base = refl; before = refl; sound = λ s. (check_of v b s).0; on = λ s r k h. (r, h, refl) }

-- what a definition's checks tell
pub put_sound : (T : Table) (x : ℕ) (q : Primitive) (ks items : List Known) (before may after : Bool) → ks ≡ items → may ≡ (not (look ks x).live && is_settled (look ks) q) → after ≡ (before && may) → after ≡ true → (before ≡ true) × ((look items x).live ≡ false) × (is_settled (look items) q ≡ true)
put_sound T x q ks items before may after e m a s =
    let whole = and_parts before may (sym a ∙ s) in
    let parts = and_parts (not (look items x).live) (is_settled (look items) q) (sym (m ∙ ap (λ l. not (look l x).live && is_settled (look l) q) e) ∙ whole.1) in
    (whole.0, not-true (look items x).live parts.0, parts.1)

pub own_put : {w : Place} (v : Place) (r : Bool) (x : ℕ) (q : Primitive) → r ≡ (v.sound && nat_lt x v.base) → IsPlaced x q (judged v r) w → IsKept x q v w
own_put {w} v r x q e h = record {
  base = h.base;
  fresh = h.fresh;
  before = h.before;
  table = h.table;
  steps = h.steps;
  sound = λ s.
      let facts = h.sound s in
      let parts = and_parts v.sound (nat_lt x v.base) (sym e ∙ facts.0) in
      let below = parts.1 in
      let less : x < v.base = grind (arith, nat_tests) in
      (parts.0, less, facts.1, facts.2);
}

-- ---- definitions

go_folded : {v w : Place} (x : ℕ) (p : Primitive) (s : Atom) (rest : pure.Tree) → IsFoldedBy x s v w → twice v.table p ≡ Some s → (w.sound ≡ true → is_old_prim v.base p ≡ true) → Goes IsFolded v (pure.Let x p rest) w rest
go_folded {v} {w} x p s rest h e old =
    let T = v.table in
    let turn = UnaOf (Rol 16) s in
    let sum = BinOf Add s (Var h.turned) in
    let last = UnaOf (Shr 16) (Var h.sum) in
    let one = with_known T h.turned (of_prim T turn) in
    let base : h.third.base ≡ v.base = h.two.base ∙ h.one.base in
    let table : h.third.table ≡ with_known one h.sum (of_prim one sum) = h.two.table ∙ ap (λ U. with_known U h.sum (of_prim U sum)) h.one.table in
    let first = go_extra h.turned turn (pure.Let x p rest) h.one refl in
    let second = go_extra h.sum sum (pure.Let x p rest) h.two (subst (λ U. IsFolded U sum) (sym h.one.table) (sum_folded T s h.turned)) in
    let third = go_kept x p last rest h.own refl (λ z. subst (λ b. is_old_prim b p ≡ true) (sym base) (old z))
    (λ z.
    let two = h.two.sound (h.own.sound z).0 in
    let dead = (h.one.sound two.0).2 in
    let gone : (one h.sum).live ≡ false = ap (λ (U : Table). (U h.sum).live) (sym h.one.table) ∙ two.2 in
    subst (λ U. HasWord U p last) (sym table) (folded_word T p s h.turned h.sum e dead gone)) in
    go_on first (go_on second third)

-- after the check of a definition's operands
pub let_folded : {w : Place} (v : Place) (r : Bool) (x : ℕ) (p : Primitive) (s : Atom) → r ≡ (v.sound && is_old_prim v.base p) → IsFoldedBy x s (judged v r) w → twice v.table p ≡ Some s → (rest : pure.Tree) → Goes IsFolded v (pure.Let x p rest) w rest
let_folded {w} v r x p s same given e rest =
    let b = is_old_prim v.base p in
    let h = subst (λ z. IsFoldedBy x s (judged v z) w) same given in
    let sound : w.sound ≡ true → (checked v b).sound ≡ true = λ z. (h.one.sound (h.two.sound (h.own.sound z).0).0).0 in
    go_on (go_checked v b (pure.Let x p rest)) (go_folded x p s rest h e (λ z. (check_of v b (sound z)).1))

pub let_kept : {w : Place} (v : Place) (r : Bool) (x : ℕ) (p : Primitive) → r ≡ (v.sound && is_old_prim v.base p) → IsKept x p (judged v r) w → twice v.table p ≡ None → (rest : pure.Tree) → Goes IsFolded v (pure.Let x p rest) w rest
let_kept {w} v r x p same given e rest =
    let b = is_old_prim v.base p in
    let h = subst (λ z. IsKept x p (judged v z) w) same given in
    go_on (go_checked v b (pure.Let x p rest)) (go_kept x p p rest h e (λ z. (check_of v b (h.sound z).0).1) (λ z. same_word v.table p))

-- after the definitions that a primitive is made of
pub let_sliced : {mid w : Place} (v : Place) (r : Bool) (x : ℕ) (p : Primitive) → r ≡ (v.sound && is_old_prim v.base p) → ((t : pure.Tree) → Goes IsNeeded (judged v r) t mid t) → IsChosen x p mid w → (rest : pure.Tree) → Goes IsNeeded v (pure.Let x p rest) w rest
let_sliced {mid} {w} v r x p same given h rest =
    let b = is_old_prim v.base p in
    let extras : (t : pure.Tree) → Goes IsNeeded (checked v b) t mid t = λ t. subst (λ z. Goes IsNeeded (judged v z) t mid t) same (given t) in
    let whole = pure.Let x p rest in
    let old : w.sound ≡ true → b ≡ true = λ z. (check_of v b ((extras whole).sound (h.own.sound z).0)).1 in
    go_on (go_checked v b whole)
    (go_on (extras whole) (go_kept x p h.made rest h.own h.needed (λ z. subst (λ n. is_old_prim n p ≡ true) (sym (extras whole).base) (old z)) (λ z. h.word (old_count v.base p (old z)))))

-- ---- the spine

pub record Along (P : Table → Primitive → Type 0) (v0 : Place) (t : Tree) (v : Place) (cur : Tree) : Type 0 where
  pub goes : Goes P v0 (tree_view t) v (tree_view cur)
  pub size : size-Tree cur ≤ size-Tree t

pub along_start : {P : Table → Primitive → Type 0} (v : Place) (t : Tree) → Along P v t v t
along_start v t = record { goes = go_start v (tree_view t); size = omega arith }

along_on : {P : Table → Primitive → Type 0} {v0 v w : Place} {t cur rest : Tree} → Along P v0 t v cur → Goes P v (tree_view cur) w (tree_view rest) → size-Tree rest ≤ size-Tree cur → Along P v0 t w rest
along_on h g le = record { goes = go_on h.goes g; size = let more = h.size in omega (arith, more, le) }

pub along_let : {P : Table → Primitive → Type 0} {v0 v w : Place} {t cur : Tree} (x : ℕ) (p : Primitive) (q : _) (r rest : Tree) → Along P v0 t v cur → cur ≡ Let' x p q r → rest ≡ r → ((u : pure.Tree) → Goes P v (pure.Let x p u) w u) → Along P v0 t w rest
along_let {P} {v0} {v} {w} {t} {cur} x p q r rest h is e step' =
    let g : Goes P v (tree_view cur) w (tree_view rest) =
    subst (λ z. Goes P v (tree_view z) w (tree_view rest)) (sym is) (subst (λ z. Goes P v (pure.Let x p (tree_view r)) w (tree_view z)) (sym e) (step' (tree_view r))) in
    along_on h g (smaller cur (Let' x p q r) rest r is e (omega (arith, deep-Let' x p q r)))

go_read : {P : Table → Primitive → Type 0} (v u w : Place) (m : _) (xs : List ℕ) (ys : SmallVec ℕ) (a : Atom) (rest : pure.Tree) → AreEntered xs (record (checked v (is_old v.base a)) { steps = [] }) u → ys.items ≡ xs → w ≡ record u { steps = v.steps ++ step.Read m ys a ∷ [] } → Goes P v (pure.Read m xs a rest) w rest
go_read {P} v u w m xs ys a rest h ey ew = record {
  base = ap (λ (x : Place). x.base) ew ∙ h.base;
  before = ap (λ (x : Place). x.before) ew ∙ h.before;
  sound = λ s. (check_of v (is_old v.base a) (h.sound (sym (ap (λ (x : Place). x.sound) ew) ∙ s)).0).0;
  on = λ s r k red.
      let facts = h.sound (sym (ap (λ (x : Place). x.sound) ew) ∙ s) in
      let old = (check_of v (is_old v.base a) facts.0).1 in
      let here : Reduced P v.base (with_all v.table xs) v.fresh rest r k =
      subst (λ m. Reduced P v.base (with_all v.table xs) m rest r k) (ap (λ (x : Place). x.fresh) ew ∙ h.fresh) (subst (λ T. Reduced P v.base T w.fresh rest r k) (ap (λ (x : Place). x.table) ew ∙ h.table) red) in (
        pure.Read m xs a r,
        read v.table v.fresh k m xs a rest r old facts.1 here,
        sym (put_last w.steps v.steps (step.Read m ys a) r (pure.Read m xs a r) (ap (λ (x : Place). x.steps) ew) (ap (λ l. pure.Read m l a r) (sym ey))),
      );
}

pub along_read : {P : Table → Primitive → Type 0} {v0 v : Place} {t cur : Tree} (u w : Place) (m : _) (xs ys : SmallVec ℕ) (a : Atom) (q : _) (r rest : Tree) (ok : Bool) → Along P v0 t v cur → cur ≡ Read' m xs a q r → rest ≡ r → ok ≡ (v.sound && is_old v.base a) → AreEntered xs.items (record v { sound = ok; steps = [] }) u → ys.items ≡ xs.items → w ≡ record u { steps = v.steps ++ step.Read m ys a ∷ [] } → Along P v0 t w rest
along_read {P} {v0} {v} {t} {cur} u w m xs ys a q r rest ok h is e same given ey ew =
    let entered : AreEntered xs.items (record (checked v (is_old v.base a)) { steps = [] }) u = subst (λ z. AreEntered xs.items (record v { sound = z; steps = [] }) u) same given in
    along_on h (subst (λ z. Goes P v (tree_view z) w (tree_view rest)) (sym is) (subst (λ z. Goes P v (pure.Read m xs.items a (tree_view r)) w (tree_view z)) (sym e) (go_read v u w m xs.items ys a (tree_view r) entered ey ew)))
    (smaller cur (Read' m xs a q r) rest r is e (omega (arith, deep-Read' m xs a q r)))

go_write : {P : Table → Primitive → Type 0} (v w : Place) (m : _) (a : Atom) (bs : List Atom) (cs : SmallVec Atom) (rest : pure.Tree) → cs.items ≡ bs → w ≡ record (checked (checked v (is_old v.base a)) (list_all (is_old v.base) bs)) { steps = v.steps ++ step.Write m a cs ∷ [] } → Goes P v (pure.Write m a bs rest) w rest
go_write {P} v w m a bs cs rest ec ew =
    let one = is_old v.base a in
    let two = list_all (is_old v.base) bs in
    let facts : w.sound ≡ true → (v.sound ≡ true) × (one ≡ true) × (two ≡ true) = λ s.
    let second = check_of (checked v one) two (sym (ap (λ (x : Place). x.sound) ew) ∙ s) in
    let first = check_of v one second.0 in
    (first.0, first.1, second.1) in
    record {
      base = ap (λ (x : Place). x.base) ew;
      before = ap (λ (x : Place). x.before) ew;
      sound = λ s. (facts s).0;
      on = λ s r k red.
          let here : Reduced P v.base v.table v.fresh rest r k = subst (λ m. Reduced P v.base v.table m rest r k) (ap (λ (x : Place). x.fresh) ew) (subst (λ T. Reduced P v.base T w.fresh rest r k) (ap (λ (x : Place). x.table) ew) red) in (
            pure.Write m a bs r,
            write v.table v.fresh k m a bs rest r (facts s).1 (facts s).2 here,
            sym (put_last w.steps v.steps (step.Write m a cs) r (pure.Write m a bs r) (ap (λ (x : Place). x.steps) ew) (ap (λ l. pure.Write m a l r) (sym ec))),
          );
    }

pub along_write : {P : Table → Primitive → Type 0} {v0 v : Place} {t cur : Tree} (w : Place) (m : _) (a : Atom) (bs cs : SmallVec Atom) (q : _) (r rest : Tree) (ok : Bool) → Along P v0 t v cur → cur ≡ Write' m a bs q r → rest ≡ r → cs.items ≡ bs.items → ok ≡ ((v.sound && is_old v.base a) && list_all (is_old v.base) bs.items) → w ≡ record v { sound = ok; steps = v.steps ++ step.Write m a cs ∷ [] } → Along P v0 t w rest
along_write {P} {v0} {v} {t} {cur} w m a bs cs q r rest ok h is e ec same given =
    let ew : w ≡ record (checked (checked v (is_old v.base a)) (list_all (is_old v.base) bs.items)) { steps = v.steps ++ step.Write m a cs ∷ [] } = given ∙ ap (λ z. record v { sound = z; steps = v.steps ++ step.Write m a cs ∷ [] }) same in
    along_on h (subst (λ z. Goes P v (tree_view z) w (tree_view rest)) (sym is) (subst (λ z. Goes P v (pure.Write m a bs.items (tree_view r)) w (tree_view z)) (sym e) (go_write v w m a bs.items cs (tree_view r) ec ew)))
    (smaller cur (Write' m a bs q r) rest r is e (omega (arith, deep-Write' m a bs q r)))

-- the first arm is done from the state s to the state z
go_if : {P : Table → Primitive → Type 0} (v : Place) (s z : State) (w : Place) (c : _) (a b : Atom) (first : pure.Tree) (u : Tree) (rest : pure.Tree) → IsDone P s first (tree_view u) z
    → s.base ≡ v.base → look s.table.items ≡ v.table → s.fresh ≡ v.fresh → s.sound ≡ (checked (checked v (is_old v.base a)) (is_old v.base b)).sound
    → w.base ≡ z.base → w.table ≡ look z.table.items → w.before ≡ v.before → w.fresh ≡ z.fresh → w.sound ≡ z.sound → w.steps ≡ v.steps ++ step.If c a b u ∷ [] → Goes P v (pure.If c a b first rest) w rest
go_if {P} v s z w c a b first u rest h sb st sf ss wb wt wbefore wf ws wsteps =
    let one = is_old v.base a in
    let two = is_old v.base b in
    let facts : w.sound ≡ true → (v.sound ≡ true) × (one ≡ true) × (two ≡ true) = λ e.
    let second = check_of (checked v one) two (sym ss ∙ h.sound (sym ws ∙ e)) in
    let first' = check_of v one second.0 in
    (first'.0, first'.1, second.1) in
    record {
      base = wb ∙ h.base ∙ sb;
      before = wbefore;
      sound = λ e. (facts e).0;
      on = λ e r k red.
          let right : Reduced P v.base v.table z.fresh rest r k = subst (λ m. Reduced P v.base v.table m rest r k) wf (subst (λ T. Reduced P v.base T w.fresh rest r k) (wt ∙ h.table ∙ st) red) in
          let left : Reduced P v.base v.table v.fresh first (tree_view u) z.fresh =
          subst (λ m. Reduced P v.base v.table m first (tree_view u) z.fresh) sf (subst (λ T. Reduced P v.base T s.fresh first (tree_view u) z.fresh) st (subst (λ n. Reduced P n (look s.table.items) s.fresh first (tree_view u) z.fresh) sb (h.tree (sym ws ∙ e)))) in (
            pure.If c a b (tree_view u) r,
            choice v.table v.fresh z.fresh k c a b first rest (tree_view u) r (facts e).1 (facts e).2 left right,
            sym (put_last w.steps v.steps (step.If c a b u) r (pure.If c a b (tree_view u) r) wsteps refl),
          );
    }

pub along_if : {P : Table → Primitive → Type 0} {v0 v : Place} {t cur : Tree} (s z : State) (w : Place) (c : _) (a b : Atom) (q q' : _) (f r part rest u : Tree) → Along P v0 t v cur → cur ≡ If' c a b q f q' r → part ≡ f → rest ≡ r → IsDone P s (tree_view part) (tree_view u) z
    → s.base ≡ v.base → look s.table.items ≡ v.table → s.fresh ≡ v.fresh → s.sound ≡ (checked (checked v (is_old v.base a)) (is_old v.base b)).sound
    → w.base ≡ z.base → w.table ≡ look z.table.items → w.before ≡ v.before → w.fresh ≡ z.fresh → w.sound ≡ z.sound → w.steps ≡ v.steps ++ step.If c a b u ∷ [] → Along P v0 t w rest
along_if {P} {v0} {v} {t} {cur} s z w c a b q q' f r part rest u h is ef e done sb st sf ss wb wt wbefore wf ws wsteps =
    let g = go_if v s z w c a b (tree_view part) u (tree_view r) done sb st sf ss wb wt wbefore wf ws wsteps in
    along_on h (subst (λ y. Goes P v (tree_view y) w (tree_view rest)) (sym is) (subst (λ y. Goes P v (pure.If c a b (tree_view f) (tree_view r)) w (tree_view y)) (sym e) (subst (λ y. Goes P v (pure.If c a b (tree_view y) (tree_view r)) w (tree_view r)) ef g)))
    (smaller cur (If' c a b q f q' r) rest r is e (omega (arith, deep-If' c a b q f q' r)))

-- ---- ends

end_done : {P : Table → Primitive → Type 0} (s0 z : State) (v : Place) (t cur : Tree) (last : pure.Tree) (u : Tree) → Along P (place s0 [] []) t v cur → tree_view cur ≡ last → z.base ≡ v.base → look z.table.items ≡ v.before → z.fresh ≡ v.fresh
    → (z.sound ≡ true → (v.sound ≡ true) × Reduced P v.base v.table v.fresh last last v.fresh) → tree_view u ≡ put_all v.steps last → IsDone P s0 (tree_view t) (tree_view u) z
end_done {P} s0 z v t cur last u h is zb zt zf zs tree = record {
  base = zb ∙ h.goes.base;
  table = zt ∙ h.goes.before;
  sound = λ e. h.goes.sound (zs e).0;
  tree = λ e.
      let T = look s0.table.items in
      let facts = zs e in
      let red : Reduced P s0.base v.table v.fresh (tree_view cur) last v.fresh = subst (λ y. Reduced P s0.base v.table v.fresh y last v.fresh) (sym is) (subst (λ b. Reduced P b v.table v.fresh last last v.fresh) h.goes.base facts.1) in
      let all = h.goes.on facts.0 last v.fresh red in
      subst (λ y. Reduced P s0.base T s0.fresh (tree_view t) y z.fresh) (sym (tree ∙ all.2)) (subst (λ m. Reduced P s0.base T s0.fresh (tree_view t) all.0 m) (sym zf) all.1);
}

pub jump_done : {P : Table → Primitive → Type 0} (s0 z : State) (v : Place) (t cur : Tree) (l : ℕ) (bs : Vec Atom Global) (words : List Atom) (u : Tree) → Along P (place s0 [] []) t v cur → cur ≡ Jump l bs → words ≡ bs.items → z.base ≡ v.base → look z.table.items ≡ v.before → z.fresh ≡ v.fresh
    → z.sound ≡ (checked v (list_all (is_old v.base) bs.items)).sound → tree_view u ≡ put_all v.steps (pure.Jump l words) → IsDone P s0 (tree_view t) (tree_view u) z
jump_done s0 z v t cur l bs words u h is ew zb zt zf zs tree =
    end_done s0 z v t cur (pure.Jump l bs.items) u h (ap tree_view is) zb zt zf
    (λ e. let facts = check_of v (list_all (is_old v.base) bs.items) (sym zs ∙ e) in (facts.0, jump v.table v.fresh l bs.items facts.1)) (tree ∙ ap (λ y. put_all v.steps (pure.Jump l y)) ew)

pub halt_done : {P : Table → Primitive → Type 0} (s0 z : State) (v : Place) (t cur : Tree) (n : ℕ) (bs : SmallVec Atom) (words : List Atom) (u : Tree) → Along P (place s0 [] []) t v cur → cur ≡ Halt n bs → words ≡ bs.items → z.base ≡ v.base → look z.table.items ≡ v.before → z.fresh ≡ v.fresh
    → z.sound ≡ (checked v (list_all (is_old v.base) bs.items)).sound → tree_view u ≡ put_all v.steps (pure.Halt n words) → IsDone P s0 (tree_view t) (tree_view u) z
halt_done s0 z v t cur n bs words u h is ew zb zt zf zs tree =
    end_done s0 z v t cur (pure.Halt n bs.items) u h (ap tree_view is) zb zt zf
    (λ e. let facts = check_of v (list_all (is_old v.base) bs.items) (sym zs ∙ e) in (facts.0, halt v.table v.fresh n bs.items facts.1)) (tree ∙ ap (λ y. put_all v.steps (pure.Halt n y)) ew)

-- ---- labels

look_nothing : (ks : List Known) → ks ≡ [] → look ks ≡ nothing
look_nothing ks e = ap look e

pub label_done : {P : Table → Primitive → Type 0} (l m : pure.Label) (s0 s1 s2 : State) (ss0 ss1 : List (ℕ × Known)) (xs : List ℕ) → s0.fresh ≡ s0.base → s0.table.items ≡ [] → AreEntered xs (place s0 ss0 []) (place s1 ss1 []) → xs ≡ l.params → IsDone P s1 l.body m.body s2 → s2.sound ≡ true → m.params ≡ l.params → IsReduced P l m
label_done {P} l m s0 s1 s2 ss0 ss1 xs fresh table entered ex done sound params =
    let start : look s0.table.items ≡ nothing = look_nothing s0.table.items table in
    let facts = entered.sound (done.sound sound) in
    record {
      base = s0.base;
      next = s2.fresh;
      params = params;
      new = subst (AreNew s0.base nothing) ex (subst (λ T. AreNew s0.base T xs) start facts.1);
      body = subst (λ T. Reduced P s0.base T s0.base l.body m.body s2.fresh) (entered.table ∙ ap (λ T. with_all T xs) start ∙ ap (with_all nothing) ex)
          (subst (λ n. Reduced P s0.base (look s1.table.items) n l.body m.body s2.fresh) (entered.fresh ∙ fresh) (subst (λ n. Reduced P n (look s1.table.items) s1.fresh l.body m.body s2.fresh) entered.base (done.tree sound)));
    }
