-- Loops over trees and lists, turn by turn.
use Rattle.std.proofs.Common.{◌≡◌, ℕ, ◌+◌, ◌<◌, ◌≤◌, nat_eq, nat_lt, Bool, true, false, List, [], ◌∷◌, ◌++◌, map, refl, sym, ap, subst, ◌∙◌, length, get_or, take, drop, slice_index_or, if◌then◌else◌, arith}
use Rattle.std.specs.declared.vec.Vec.{Vec}
use Rattle.std.specs.declared.alloc.Global.{Global}
use Rattle.std.proofs.lemmas.Bool.{false≢true, ltb-true, ltb-false}
use Rattle.std.proofs.lemmas.List.{drop_all, drop_more, take_more, take_all, append_assoc, append-nil}
use Rattle.smallvec.specs.SmallVec.{SmallVec}
use Rattle.nv_base.specs.declared.term.Atom.{Atom}
use Rattle.nv_base.specs.declared.term.Atom.TheVariants.{Var, Lit}
use Rattle.nv_base.specs.Sets.{is_in, Within}
use Rattle.nv_base.proofs.Sets.{same-number}
use Rattle.flow_ir.specs.Formed.{defined}
use Rattle.flow_ir.specs.Spine.{put, put_all}
use Rattle.flow_ir.specs.Tree as pure
use Rattle.flow_ir.specs.View.{tree_view}
use Rattle.flow_ir.specs.declared.flow.Tree.{Tree, size-Tree}
use Rattle.flow_ir.specs.declared.flow.Tree.TheVariants.{Let', Read', Write', If', Jump, Halt}
use Rattle.flow_ir.specs.declared.flow.Tree.TheViews.{deep-Let', deep-Read', deep-Write', deep-If'}
use Rattle.flow_ir.specs.declared.spine.Step.{Step}
use Rattle.flow_ir.specs.declared.spine.Step.TheVariants as step
use Rattle.flow_ir.proofs.Members.{either, first-or-rest}
use Rattle.flow_ir.proofs.Mentions.{smaller}
use Rattle.flow_ir.proofs.Steps.{put_last}
use Rattle.flow_literals.specs.Turns.{prim_literals, address_literals, test_literals, goes_back, only, turn_literals}
use Rattle.flow_literals.specs.inner.Hoisted.{AreBelow, name_at, held, test_at, address_at, prim_at, hoisted}

-- ---- whether a tree jumps to a label

pub record Back (l : ℕ) (t cur : Tree) : Type 0 where
  pub same : goes_back l (tree_view cur) ≡ goes_back l (tree_view t)
  pub size : size-Tree cur ≤ size-Tree t

-- ---- literals that a turn loads

pub record Turn (l : ℕ) (t cur : Tree) (found : List ℕ) : Type 0 where
  pub same : found ++ turn_literals l (tree_view cur) ≡ turn_literals l (tree_view t)
  pub size : size-Tree cur ≤ size-Tree t

turn_on : {l : ℕ} {t cur : Tree} {found : List ℕ} (front found' : List ℕ) (rest : Tree) → Turn l t cur found → found' ≡ found ++ front → turn_literals l (tree_view cur) ≡ front ++ turn_literals l (tree_view rest) → size-Tree rest ≤ size-Tree cur → Turn l t rest found'
turn_on {l} {t} {cur} {found} front found' rest h push e le = record {
  same = ap (λ v. v ++ turn_literals l (tree_view rest)) push ∙ append_assoc found front (turn_literals l (tree_view rest)) ∙ ap (λ v. found ++ v) (sym e) ∙ h.same;
  size = let more = h.size in omega arith;
}

pub turn_let : {l : ℕ} {t cur : Tree} {found : List ℕ} (x : ℕ) (p : _) (q : _) (r rest : Tree) (found' : List ℕ) → Turn l t cur found → cur ≡ Let' x p q r → rest ≡ r → found' ≡ found ++ prim_literals p → Turn l t rest found'
turn_let {l} {cur = cur} x p q r rest found' h is e push =
    turn_on (prim_literals p) found' rest h push (ap (λ z. turn_literals l (tree_view z)) is ∙ ap (λ z. prim_literals p ++ turn_literals l (tree_view z)) (sym e)) (smaller cur (Let' x p q r) rest r is e (omega (arith, deep-Let' x p q r)))

pub turn_read : {l : ℕ} {t cur : Tree} {found : List ℕ} (m : _) (xs : SmallVec ℕ) (a : _) (q : _) (r rest : Tree) (found' : List ℕ) → Turn l t cur found → cur ≡ Read' m xs a q r → rest ≡ r → found' ≡ found ++ address_literals m a → Turn l t rest found'
turn_read {l} {cur = cur} m xs a q r rest found' h is e push =
    turn_on (address_literals m a) found' rest h push (ap (λ z. turn_literals l (tree_view z)) is ∙ ap (λ z. address_literals m a ++ turn_literals l (tree_view z)) (sym e)) (smaller cur (Read' m xs a q r) rest r is e (omega (arith, deep-Read' m xs a q r)))

pub turn_write : {l : ℕ} {t cur : Tree} {found : List ℕ} (m : _) (a : _) (bs : SmallVec Atom) (q : _) (r rest : Tree) (found' : List ℕ) → Turn l t cur found → cur ≡ Write' m a bs q r → rest ≡ r → found' ≡ found ++ address_literals m a → Turn l t rest found'
turn_write {l} {cur = cur} m a bs q r rest found' h is e push =
    turn_on (address_literals m a) found' rest h push (ap (λ z. turn_literals l (tree_view z)) is ∙ ap (λ z. address_literals m a ++ turn_literals l (tree_view z)) (sym e)) (smaller cur (Write' m a bs q r) rest r is e (omega (arith, deep-Write' m a bs q r)))

only_second : (g : Bool) (a b : List ℕ) → only false g a b ≡ b
only_second true a b = refl
only_second false a b = refl

module _ {l : ℕ} {t cur : Tree} {found : List ℕ} (c a b : _) (q q' : _) (f r : Tree) (found' : List ℕ) (h : Turn l t cur found) (is : cur ≡ If' c a b q f q' r) (push : found' ≡ found ++ (test_literals c a ++ test_literals c b)) where
  turn_arms : turn_literals l (tree_view cur) ≡ (test_literals c a ++ test_literals c b) ++ only (goes_back l (tree_view f)) (goes_back l (tree_view r)) (turn_literals l (tree_view f)) (turn_literals l (tree_view r))
  turn_arms = ap (λ z. turn_literals l (tree_view z)) is

  -- the first arm alone goes back
  pub turn_first : (first second rest : Tree) (g k : Bool) → first ≡ f → second ≡ r → rest ≡ f → g ≡ goes_back l (tree_view first) → g ≡ true → k ≡ goes_back l (tree_view second) → k ≡ false → Turn l t rest found'
  turn_first first second rest g k ef er e eg holds ek fails =
      let one : goes_back l (tree_view f) ≡ true = sym (ap (λ z. goes_back l (tree_view z)) ef) ∙ sym eg ∙ holds in
      let two : goes_back l (tree_view r) ≡ false = sym (ap (λ z. goes_back l (tree_view z)) er) ∙ sym ek ∙ fails in
      turn_on (test_literals c a ++ test_literals c b) found' rest h push
      (turn_arms ∙ ap (λ z. (test_literals c a ++ test_literals c b) ++ only z (goes_back l (tree_view r)) (turn_literals l (tree_view f)) (turn_literals l (tree_view r))) one ∙ ap (λ z. (test_literals c a ++ test_literals c b) ++ only true z (turn_literals l (tree_view f)) (turn_literals l (tree_view r))) two
      ∙ ap (λ z. (test_literals c a ++ test_literals c b) ++ turn_literals l (tree_view z)) (sym e)) (smaller cur (If' c a b q f q' r) rest f is e (omega (arith, deep-If' c a b q f q' r)))

  -- the first arm doesn't
  pub turn_second : (first rest : Tree) (g : Bool) → first ≡ f → rest ≡ r → g ≡ goes_back l (tree_view first) → g ≡ false → Turn l t rest found'
  turn_second first rest g ef e eg fails =
      let one : goes_back l (tree_view f) ≡ false = sym (ap (λ z. goes_back l (tree_view z)) ef) ∙ sym eg ∙ fails in
      turn_on (test_literals c a ++ test_literals c b) found' rest h push
      (turn_arms ∙ ap (λ z. (test_literals c a ++ test_literals c b) ++ only z (goes_back l (tree_view r)) (turn_literals l (tree_view f)) (turn_literals l (tree_view r))) one ∙ ap (λ z. (test_literals c a ++ test_literals c b) ++ z) (only_second (goes_back l (tree_view r)) (turn_literals l (tree_view f)) (turn_literals l (tree_view r)))
      ∙ ap (λ z. (test_literals c a ++ test_literals c b) ++ turn_literals l (tree_view z)) (sym e)) (smaller cur (If' c a b q f q' r) rest r is e (omega (arith, deep-If' c a b q f q' r)))

  -- both do
  pub turn_both : (first second : Tree) (g k : Bool) → first ≡ f → second ≡ r → g ≡ goes_back l (tree_view first) → g ≡ true → k ≡ goes_back l (tree_view second) → k ≡ true → found' ≡ turn_literals l (tree_view t)
  turn_both first second g k ef er eg holds ek too =
      let one : goes_back l (tree_view f) ≡ true = sym (ap (λ z. goes_back l (tree_view z)) ef) ∙ sym eg ∙ holds in
      let two : goes_back l (tree_view r) ≡ true = sym (ap (λ z. goes_back l (tree_view z)) er) ∙ sym ek ∙ too in
      push ∙ ap (λ v. found ++ v)
      (sym (turn_arms ∙ ap (λ z. (test_literals c a ++ test_literals c b) ++ only z (goes_back l (tree_view r)) (turn_literals l (tree_view f)) (turn_literals l (tree_view r))) one ∙ ap (λ z. (test_literals c a ++ test_literals c b) ++ only true z (turn_literals l (tree_view f)) (turn_literals l (tree_view r))) two ∙ append-nil (test_literals c a ++ test_literals c b))) ∙ h.same

pub turn_end : {l : ℕ} {t cur : Tree} {found : List ℕ} → Turn l t cur found → turn_literals l (tree_view cur) ≡ [] → found ≡ turn_literals l (tree_view t)
turn_end {found = found} h e = sym (append-nil found) ∙ ap (λ v. found ++ v) (sym e) ∙ h.same

-- ---- numbers above variables

pub record Above (n : ℕ) (t cur : Tree) : Type 0 where
  pub all : (m : ℕ) → n ≤ m → AreBelow m (defined (tree_view cur)) → AreBelow m (defined (tree_view t))
  pub size : size-Tree cur ≤ size-Tree t

above_on : {n : ℕ} {t cur : Tree} (n' : ℕ) (rest : Tree) → Above n t cur → n ≤ n' → ((m : ℕ) → n' ≤ m → AreBelow m (defined (tree_view rest)) → AreBelow m (defined (tree_view cur))) → size-Tree rest ≤ size-Tree cur → Above n' t rest
above_on n' rest h le more small = record { all = λ m lt below. h.all m (omega arith) (more m lt below); size = let whole = h.size in omega arith }

pub above_let : {n : ℕ} {t cur : Tree} (x : ℕ) (p : _) (q : _) (r rest : Tree) (n' : ℕ) → Above n t cur → cur ≡ Let' x p q r → rest ≡ r → n ≤ n' → x < n' → Above n' t rest
above_let {cur = cur} x p q r rest n' h is e le lt =
    above_on n' rest h le
    (λ m big below. subst (λ z. AreBelow m (defined (tree_view z))) (sym is) (λ y i. first-or-rest y x (defined (tree_view r)) i (λ s. let same = same-number y x s in omega arith) (λ k. below y (subst (λ z. is_in y (defined (tree_view z)) ≡ true) (sym e) k))))
    (smaller cur (Let' x p q r) rest r is e (omega (arith, deep-Let' x p q r)))

pub above_read : {n : ℕ} {t cur : Tree} (m : _) (xs : SmallVec ℕ) (a : _) (q : _) (r rest : Tree) (vs : List ℕ) (n' : ℕ) → Above n t cur → cur ≡ Read' m xs a q r → rest ≡ r → vs ≡ xs.items → n ≤ n' → AreBelow n' vs → Above n' t rest
above_read {cur = cur} m xs a q r rest vs n' h is e same le below =
    above_on n' rest h le
    (λ k big others. subst (λ z. AreBelow k (defined (tree_view z))) (sym is)
    (λ y i. either y xs.items (defined (tree_view r)) i (λ s. let lt = below y (subst (λ l. is_in y l ≡ true) (sym same) s) in omega arith) (λ s. others y (subst (λ z. is_in y (defined (tree_view z)) ≡ true) (sym e) s))))
    (smaller cur (Read' m xs a q r) rest r is e (omega (arith, deep-Read' m xs a q r)))

pub above_write : {n : ℕ} {t cur : Tree} (m : _) (a : _) (bs : SmallVec Atom) (q : _) (r rest : Tree) → Above n t cur → cur ≡ Write' m a bs q r → rest ≡ r → Above n t rest
above_write {n} {cur = cur} m a bs q r rest h is e =
    above_on n rest h (omega arith) (λ k big others. subst (λ z. AreBelow k (defined (tree_view z))) (sym is) (subst (λ z. AreBelow k (defined (tree_view z))) e others)) (smaller cur (Write' m a bs q r) rest r is e (omega (arith, deep-Write' m a bs q r)))

pub above_if : {n : ℕ} {t cur : Tree} (c a b : _) (q q' : _) (f r part rest : Tree) (n' : ℕ) → Above n t cur → cur ≡ If' c a b q f q' r → part ≡ f → rest ≡ r → n ≤ n' → AreBelow n' (defined (tree_view part)) → Above n' t rest
above_if {cur = cur} c a b q q' f r part rest n' h is ef e le below =
    above_on n' rest h le
    (λ k big others. subst (λ z. AreBelow k (defined (tree_view z))) (sym is)
    (λ y i. either y (defined (tree_view f)) (defined (tree_view r)) i (λ s. let lt = below y (subst (λ z. is_in y (defined (tree_view z)) ≡ true) (sym ef) s) in omega arith) (λ s. others y (subst (λ z. is_in y (defined (tree_view z)) ≡ true) (sym e) s))))
    (smaller cur (If' c a b q f q' r) rest r is e (omega (arith, deep-If' c a b q f q' r)))

pub above_end : {n : ℕ} {t cur : Tree} → Above n t cur → defined (tree_view cur) ≡ [] → AreBelow n (defined (tree_view t))
above_end {n} h e = h.all n (omega arith) (λ y i. absurd (false≢true (ap (is_in y) (sym e) ∙ i)))

-- ---- lists

pub below_more : (xs : List ℕ) (i d x n m : ℕ) → i < length xs → x ≡ get_or xs i d → n ≤ m → x < m → AreBelow n (take i xs) → AreBelow m (take (i + 1) xs)
below_more xs i d x n m lt is le less h =
    let front : take (i + 1) xs ≡ take i xs ++ x ∷ [] = take_more xs i d lt ∙ ap (λ z. take i xs ++ z ∷ []) (sym is) in
    λ y k. either y (take i xs) (x ∷ []) (sym (ap (is_in y) front) ∙ k) (λ s. let small = h y s in omega arith) (λ s. first-or-rest y x [] s (λ q. let same = same-number y x q in omega arith) (λ q. absurd (false≢true q)))

pub below_end : (xs : List ℕ) (i n : ℕ) → length xs ≤ i → AreBelow n (take i xs) → AreBelow n xs
below_end xs i n le h = subst (AreBelow n) (take_all i xs le) h

pub within_more : (xs row : List ℕ) (i d x : ℕ) → i < length xs → x ≡ get_or xs i d → is_in x row ≡ true → Within (take i xs) row → Within (take (i + 1) xs) row
within_more xs row i d x lt is found h =
    let front : take (i + 1) xs ≡ take i xs ++ x ∷ [] = take_more xs i d lt ∙ ap (λ z. take i xs ++ z ∷ []) (sym is) in
    λ y k. either y (take i xs) (x ∷ []) (sym (ap (is_in y) front) ∙ k) (λ s. h y s) (λ s. first-or-rest y x [] s (λ q. subst (λ z. is_in z row ≡ true) (sym (same-number y x q)) found) (λ q. absurd (false≢true q)))

held_nothing : (ws : List ℕ) (v : ℕ) → held ws [] v ≡ Lit v
held_nothing [] v = refl
held_nothing (w ∷ ws) v = refl

other_at : (b : Bool) (names : List ℕ) (i v w : ℕ) (ws : List ℕ) → nat_lt i (length names) ≡ b → nat_eq v w ≡ false → held (w ∷ ws) (drop i names) v ≡ held ws (drop (i + 1) names) v
other_at true names i v w ws e fails = ap (λ l. held (w ∷ ws) l v) (drop_more names i 0 (ltb-true i (length names) e)) ∙ ap (λ z. if z then Var (get_or names i 0) else held ws (drop (i + 1) names) v) fails
other_at false names i v w ws e fails =
    let le : length names ≤ i = ltb-false i (length names) e in
    ap (λ l. held (w ∷ ws) l v) (drop_all i names le) ∙ sym (ap (λ l. held ws l v) (drop_all (i + 1) names (omega arith)) ∙ held_nothing ws v)

pub held_more : (row names : List ℕ) (i d v w : ℕ) → i < length row → w ≡ get_or row i d → nat_eq v w ≡ false → held (drop i row) (drop i names) v ≡ held row names v → held (drop (i + 1) row) (drop (i + 1) names) v ≡ held row names v
held_more row names i d v w lt is fails h =
    sym (ap (λ l. held l (drop i names) v) (drop_more row i d lt ∙ ap (λ z. z ∷ drop (i + 1) row) (sym is)) ∙ other_at (nat_lt i (length names)) names i v w (drop (i + 1) row) refl fails) ∙ h

here_at : (b : Bool) (names : List ℕ) (i v w : ℕ) (ws : List ℕ) → nat_lt i (length names) ≡ b → nat_eq v w ≡ true → (if b then Var (slice_index_or names i 0) else Lit v) ≡ held (w ∷ ws) (drop i names) v
here_at true names i v w ws e holds = sym (ap (λ l. held (w ∷ ws) l v) (drop_more names i 0 (ltb-true i (length names) e)) ∙ ap (λ z. if z then Var (get_or names i 0) else held ws (drop (i + 1) names) v) holds)
here_at false names i v w ws e holds = sym (ap (λ l. held (w ∷ ws) l v) (drop_all i names (ltb-false i (length names) e)))

pub held_here : (row names : List ℕ) (i d v w : ℕ) → i < length row → w ≡ get_or row i d → nat_eq v w ≡ true → held (drop i row) (drop i names) v ≡ held row names v → name_at names i v ≡ held row names v
held_here row names i d v w lt is holds h = here_at (nat_lt i (length names)) names i v w (drop (i + 1) row) refl holds ∙ sym (ap (λ l. held l (drop i names) v) (drop_more row i d lt ∙ ap (λ z. z ∷ drop (i + 1) row) (sym is))) ∙ h

pub held_end : (row names : List ℕ) (i v : ℕ) → length row ≤ i → held (drop i row) (drop i names) v ≡ held row names v → Lit v ≡ held row names v
held_end row names i v le h = sym (ap (λ l. held l (drop i names) v) (drop_all i row le)) ∙ h

-- ---- trees

pub record Hoist (heads : ℕ → List ℕ) (own : ℕ → Atom) (t cur : Tree) (ss : List Step) : Type 0 where
  pub whole : put_all ss (hoisted heads own (tree_view cur)) ≡ hoisted heads own (tree_view t)
  pub size : size-Tree cur ≤ size-Tree t

hoist_on : {heads : ℕ → List ℕ} {own : ℕ → Atom} {t cur : Tree} {ss : List Step} (s : Step) (rest : Tree) (ss' : List Step) → Hoist heads own t cur ss → ss' ≡ ss ++ s ∷ [] → put s (hoisted heads own (tree_view rest)) ≡ hoisted heads own (tree_view cur) → size-Tree rest ≤ size-Tree cur → Hoist heads own t rest ss'
hoist_on {heads} {own} {t} {cur} {ss} s rest ss' h push e le = record {
  whole = sym (put_last ss' ss s (hoisted heads own (tree_view rest)) (put s (hoisted heads own (tree_view rest))) push refl) ∙ ap (put_all ss) e ∙ h.whole;
  size = let more = h.size in omega arith;
}

pub hoist_let : {heads : ℕ → List ℕ} {own : ℕ → Atom} {t cur : Tree} {ss : List Step} (x : ℕ) (p p' : _) (q : _) (r rest : Tree) (ss' : List Step) → Hoist heads own t cur ss → cur ≡ Let' x p q r → rest ≡ r → p' ≡ prim_at own p → ss' ≡ ss ++ step.Let x p' ∷ [] → Hoist heads own t rest ss'
hoist_let {heads} {own} {cur = cur} x p p' q r rest ss' h is e ep push =
    hoist_on (step.Let x p') rest ss' h push (ap (λ z. pure.Let x z (hoisted heads own (tree_view rest))) ep ∙ ap (λ z. pure.Let x (prim_at own p) (hoisted heads own (tree_view z))) e ∙ sym (ap (λ z. hoisted heads own (tree_view z)) is))
    (smaller cur (Let' x p q r) rest r is e (omega (arith, deep-Let' x p q r)))

pub hoist_read : {heads : ℕ → List ℕ} {own : ℕ → Atom} {t cur : Tree} {ss : List Step} (m : _) (xs ys : SmallVec ℕ) (a a' : Atom) (q : _) (r rest : Tree) (ss' : List Step) → Hoist heads own t cur ss → cur ≡ Read' m xs a q r → rest ≡ r → ys.items ≡ xs.items → a' ≡ address_at own m a → ss' ≡ ss ++ step.Read m ys a' ∷ [] → Hoist heads own t rest ss'
hoist_read {heads} {own} {cur = cur} m xs ys a a' q r rest ss' h is e ey ea push =
    hoist_on (step.Read m ys a') rest ss' h push
    (ap (λ z. pure.Read m z a' (hoisted heads own (tree_view rest))) ey ∙ ap (λ z. pure.Read m xs.items z (hoisted heads own (tree_view rest))) ea ∙ ap (λ z. pure.Read m xs.items (address_at own m a) (hoisted heads own (tree_view z))) e ∙ sym (ap (λ z. hoisted heads own (tree_view z)) is))
    (smaller cur (Read' m xs a q r) rest r is e (omega (arith, deep-Read' m xs a q r)))

pub hoist_write : {heads : ℕ → List ℕ} {own : ℕ → Atom} {t cur : Tree} {ss : List Step} (m : _) (a a' : Atom) (bs cs : SmallVec Atom) (q : _) (r rest : Tree) (ss' : List Step) → Hoist heads own t cur ss → cur ≡ Write' m a bs q r → rest ≡ r → cs.items ≡ bs.items → a' ≡ address_at own m a → ss' ≡ ss ++ step.Write m a' cs ∷ [] → Hoist heads own t rest ss'
hoist_write {heads} {own} {cur = cur} m a a' bs cs q r rest ss' h is e ec ea push =
    hoist_on (step.Write m a' cs) rest ss' h push
    (ap (λ z. pure.Write m a' z (hoisted heads own (tree_view rest))) ec ∙ ap (λ z. pure.Write m z bs.items (hoisted heads own (tree_view rest))) ea ∙ ap (λ z. pure.Write m (address_at own m a) bs.items (hoisted heads own (tree_view z))) e ∙ sym (ap (λ z. hoisted heads own (tree_view z)) is))
    (smaller cur (Write' m a bs q r) rest r is e (omega (arith, deep-Write' m a bs q r)))

pub hoist_if : {heads : ℕ → List ℕ} {own : ℕ → Atom} {t cur : Tree} {ss : List Step} (c : _) (a b a' b' : Atom) (q q' : _) (f r part rest u : Tree) (ss' : List Step) → Hoist heads own t cur ss → cur ≡ If' c a b q f q' r → part ≡ f → rest ≡ r → tree_view u ≡ hoisted heads own (tree_view part) → a' ≡ test_at own c a → b' ≡ test_at own c b → ss' ≡ ss ++ step.If c a' b' u ∷ [] → Hoist heads own t rest ss'
hoist_if {heads} {own} {cur = cur} c a b a' b' q q' f r part rest u ss' h is ef e eu ea eb push =
    hoist_on (step.If c a' b' u) rest ss' h push
    (ap (λ z. pure.If c a' b' z (hoisted heads own (tree_view rest))) (eu ∙ ap (λ z. hoisted heads own (tree_view z)) ef) ∙ ap (λ z. pure.If c z b' (hoisted heads own (tree_view f)) (hoisted heads own (tree_view rest))) ea
    ∙ ap (λ z. pure.If c (test_at own c a) z (hoisted heads own (tree_view f)) (hoisted heads own (tree_view rest))) eb ∙ ap (λ z. pure.If c (test_at own c a) (test_at own c b) (hoisted heads own (tree_view f)) (hoisted heads own (tree_view z))) e
    ∙ sym (ap (λ z. hoisted heads own (tree_view z)) is))
    (smaller cur (If' c a b q f q' r) rest r is e (omega (arith, deep-If' c a b q f q' r)))

pub hoist_jump : {heads : ℕ → List ℕ} {own : ℕ → Atom} {t cur : Tree} {ss : List Step} (l : ℕ) (bs : Vec Atom Global) (words : List Atom) (u : Tree) → Hoist heads own t cur ss → cur ≡ Jump l bs → words ≡ map own (heads l) ++ bs.items → tree_view u ≡ put_all ss (pure.Jump l words) → tree_view u ≡ hoisted heads own (tree_view t)
hoist_jump {heads} {own} {ss = ss} l bs words u h is e tree = tree ∙ ap (λ z. put_all ss (pure.Jump l z)) e ∙ ap (put_all ss) (sym (ap (λ z. hoisted heads own (tree_view z)) is)) ∙ h.whole

pub hoist_halt : {heads : ℕ → List ℕ} {own : ℕ → Atom} {t cur : Tree} {ss : List Step} (n : ℕ) (bs : SmallVec Atom) (words : List Atom) (u : Tree) → Hoist heads own t cur ss → cur ≡ Halt n bs → words ≡ bs.items → tree_view u ≡ put_all ss (pure.Halt n words) → tree_view u ≡ hoisted heads own (tree_view t)
hoist_halt {heads} {own} {ss = ss} n bs words u h is e tree = tree ∙ ap (λ z. put_all ss (pure.Halt n z)) e ∙ ap (put_all ss) (sym (ap (λ z. hoisted heads own (tree_view z)) is)) ∙ h.whole
