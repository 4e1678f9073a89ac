-- What the loops keep.
use Rattle.std.proofs.Common.{◌≡◌, ℕ, zero, suc, ◌+◌, ◌-◌, ◌<◌, ◌≤◌, max, Bool, true, false, nat_eq, ◌||◌, List, [], ◌∷◌, ◌++◌, refl, sym, ap, subst, ◌∙◌, ⊎_elim, if◌then◌else◌, length, drop, take, reverse, arith}
use Rattle.std.specs.Borrow.{Bor}
use Rattle.std.proofs.lemmas.Bool.{false≢true, or_cases, cases_eq, cases_Bool}
use Rattle.std.proofs.lemmas.List.{take_all}
use Rattle.nv_base.specs.declared.term.Atom.{Atom}
use Rattle.nv_base.specs.Sets.{is_in}
use Rattle.nv_base.proofs.Sets.{in-append, same-number}
use Rattle.flow_ir.specs.declared.flow.Tree.{Tree as Boxed}
use Rattle.flow_ir.specs.Tree.{Tree, Let, Read, Write, If, Jump, Halt, Label}
use Rattle.flow_ir.specs.Formed.{defined}
use Rattle.ssu_ir.specs.declared.build.SsuBuild.{SsuBuild}
use Rattle.ssu_ir.specs.declared.node.SsuLabel.{SsuLabel}
use Rattle.ssu_ir.specs.Build.{Rooted, Holds, ids, trees_of}
use Rattle.ssu_ir.specs.Slots.{bodies}
use Rattle.ssu_ir.specs.View.{with_bodies}
use Rattle.ssu_ir.specs.Tree as ssu
use Rattle.ssu_make.specs.declared.tree.Part.{Part}
use Rattle.ssu_make.specs.Uses.{Counts, occurs, all_uses}
use Rattle.ssu_make.specs.Made.{names, all_taken, literals, clones, IsMade}
use Rattle.ssu_make.specs.inner.Making.{HasRoots, IsRoot, Becomes, tops, Builds, Stacked}

-- ---- functions that are equal everywhere

pub same-everywhere : {A B : Type 0} (f g : A → B) → ((x : A) → f x ≡ g x) → f ≡ g
same-everywhere f g h = λ i. λ x. h x i

-- ---- numbers of variables

-- numbers raised to others at the variables that are done
pub record Raised (first other now : Counts) (done : List ℕ) : Type 0 where
  pub least : (y : ℕ) → first y ≤ now y
  pub greatest : (y : ℕ) → now y ≤ max (first y) (other y)
  pub reached : (y : ℕ) → is_in y done ≡ true → other y ≤ now y

raised-at : (b : Bool) (x y : ℕ) (first other now next : Counts) → nat_eq y x ≡ b → first y ≤ now y → now y ≤ max (first y) (other y) → next y ≡ (if b then max (other x) (now y) else now y)
    → (first y ≤ next y) × (next y ≤ max (first y) (other y)) × (now y ≤ next y) × (b ≡ true → other y ≤ next y)
raised-at true x y first other now next e p q h =
    let same : other x ≡ other y = ap other (sym (same-number y x e)) in
    (omega (arith, h, same), omega (arith, h, same), omega (arith, h), λ f. omega (arith, h, same))
raised-at false x y first other now next e p q h = (omega (arith, h), omega (arith, h), omega (arith, h), λ f. absurd (false≢true f))

pub raised-more : (x : ℕ) (done : List ℕ) (first other now next : Counts) → Raised first other now done → ((y : ℕ) → next y ≡ (if nat_eq y x then max (other x) (now y) else now y)) → Raised first other next (done ++ x ∷ [])
raised-more x done first other now next h e = record {
  least = λ y. (raised-at (nat_eq y x) x y first other now next refl (h.least y) (h.greatest y) (e y)).0;
  greatest = λ y. (raised-at (nat_eq y x) x y first other now next refl (h.least y) (h.greatest y) (e y)).1;
  reached = λ y i.
      let at = raised-at (nat_eq y x) x y first other now next refl (h.least y) (h.greatest y) (e y) in
      ⊎_elim (λ (p : is_in y done ≡ true). let a = h.reached y p in let b = at.2 in omega arith)
      (λ (p : (nat_eq y x || false) ≡ true). ⊎_elim (λ (q : nat_eq y x ≡ true). at.3 q) (λ (q : false ≡ true). absurd (false≢true q)) (or_cases (nat_eq y x) false p)) (or_cases (is_in y done) (nat_eq y x || false) (sym (in-append y done (x ∷ [])) ∙ i));
}

pub raised-all : (keys : List ℕ) (first other now : Counts) → ((y : ℕ) → 0 < other y → is_in y keys ≡ true) → Raised first other now keys → (y : ℕ) → now y ≡ max (first y) (other y)
raised-all keys first other now listed h y =
    let a = h.least y in
    let b = h.greatest y in
    ⊎_elim (λ (p : is_in y keys ≡ true). let c = h.reached y p in omega arith)
    (λ (p : is_in y keys ≡ false). ⊎_elim (λ (q : other y ≡ 0). omega arith) (λ (q : other y ≡ 0 → ⊥). absurd (false≢true (sym p ∙ listed y (positive (other y) q)))) (cases_eq (other y) 0)) (cases_Bool (is_in y keys))
  where
    positive : (n : ℕ) → (n ≡ 0 → ⊥) → 0 < n
    positive zero ne = absurd (ne refl)
    positive (suc n) ne = omega arith

-- ---- names of operands, from the last one on

pub record Named (base r : Counts) (n : ℕ) (list : List Atom) (i : ℕ) (v : List ℕ) (now : Counts) (d : ℕ) : Type 0 where
  pub small : i ≤ length list
  pub named : reverse v ≡ names base r n (drop i list)
  pub counts : (y : ℕ) → now y ≡ occurs (drop i list) y + r y
  pub fresh : d ≡ n + all_taken (drop i list)

-- ---- literals and clones, from the last one on

pub record LiteralsOn (old new : SsuBuild) (from id first n : ℕ) (list : List Atom) (i : ℕ) : Type 0 where
  pub small : i ≤ length list
  pub root : IsRoot new id
  pub becomes : Becomes old new from id (literals first (drop i list))
  pub next : n ≡ first + all_taken (drop i list)

pub record ClonesOn (old new : SsuBuild) (from id : ℕ) (base r : Counts) (xs : List ℕ) (i : ℕ) : Type 0 where
  pub small : i ≤ length xs
  pub root : IsRoot new id
  pub becomes : Becomes old new from id (clones base r (drop i xs))

-- ---- along a tree

pub record OnWay (base : Counts) (n : ℕ) (t : Tree) (order : List (Bor Boxed)) (old new : SsuBuild) (d : ℕ) (parts : List Part) : Type 0 where
  pub stack : List Tree
  pub builds : Builds (tops order) stack t
  pub roots : HasRoots old
  pub stacked : Stacked base n stack old new d (reverse parts)

-- ---- a survey

unfoldable pub weight : Tree → ℕ
weight (Let x p t) = 1 + weight t
weight (Read m xs a t) = 1 + weight t
weight (Write m a bs t) = 1 + weight t
weight (If c a b t u) = 1 + (weight t + weight u)
weight (Jump l bs) = 1
weight (Halt e bs) = 1

unfoldable pub weights : List Tree → ℕ
weights [] = 0
weights (t ∷ ts) = weight t + weights ts

unfoldable pub sum_uses : List Tree → Counts
sum_uses [] y = 0
sum_uses (t ∷ ts) y = all_uses t y + sum_uses ts y

unfoldable pub defined_in : List Tree → List ℕ
defined_in [] = []
defined_in (t ∷ ts) = defined t ++ defined_in ts

pub record Surveys (t : Tree) (before : List ℕ) (work : List Tree) (now : Counts) (all : List ℕ) : Type 0 where
  pub counts : (y : ℕ) → now y + sum_uses work y ≡ all_uses t y
  pub found : all ++ defined_in work ≡ before ++ defined t

-- ---- labels

-- labels in order, each under new names, from c to d
abbrev pub AllMadeTo : ℕ → ℕ → List Label → List ssu.Label → Type 0
AllMadeTo c d [] [] = c ≡ d
AllMadeTo c d [] (s ∷ ss) = ⊥
AllMadeTo c d (l ∷ ls) [] = ⊥
AllMadeTo c d (l ∷ ls) (s ∷ ss) = (e : ℕ) × IsMade c e l s × AllMadeTo e d ls ss

pub record LabelsOn (ls : List Label) (ss : List SsuLabel) (b : SsuBuild) (d : ℕ) : Type 0 where
  pub roots : List Rooted
  pub holds : Holds b roots
  pub at_bodies : ids roots ≡ bodies ss
  pub made : AllMadeTo 0 d ls (with_bodies ss (trees_of roots))

pub words-rest : (ys : List ℕ) → take (length ys - 1) (drop 1 ys) ≡ drop 1 ys
words-rest [] = refl
words-rest (y ∷ ys) = take_all (suc (length ys) - 1) ys (omega arith)

pub literals-start : (b : SsuBuild) (root first : ℕ) (list : List Atom) → IsRoot b root → LiteralsOn b b root root first first list (length list)
literals-start b root first list r = record {
  small = omega arith;
  root = r;
  becomes = subst (λ l. Becomes b b root root (literals first l)) (sym (drop-all list)) (record { by = λ t rest h. h });
  next = let e : first ≡ first + 0 = omega arith in e ∙ sym (ap (λ l. first + all_taken l) (drop-all list));
}
  where
    drop-all : {X : Type 0} (xs : List X) → drop (length xs) xs ≡ []
    drop-all [] = refl
    drop-all (x ∷ xs) = drop-all xs

pub clones-start : (b : SsuBuild) (root : ℕ) (base r : Counts) (xs : List ℕ) → IsRoot b root → ClonesOn b b root root base r xs (length xs)
clones-start b root base r xs h = record {
  small = omega arith;
  root = h;
  becomes = subst (λ l. Becomes b b root root (clones base r l)) (sym (drop-all xs)) (record { by = λ t rest k. k });
}
  where
    drop-all : {X : Type 0} (xs : List X) → drop (length xs) xs ≡ []
    drop-all [] = refl
    drop-all (x ∷ xs) = drop-all xs
