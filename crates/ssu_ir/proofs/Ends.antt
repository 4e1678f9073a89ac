-- Bounds of variables.
use Rattle.std.proofs.Common.{◌≡◌, ℕ, ◌+◌, ◌<◌, ◌≤◌, List, All, length, take, get_or, sym, ap, ◌∙◌, subst, arith}
use Rattle.std.proofs.lemmas.List.{take_all}
use Rattle.std.proofs.lemmas.List.Elements.{All-more, All-weaker, All-append, All-same}
use Rattle.ssu_ir.specs.declared.node.SsuLabel.{SsuLabel}
use Rattle.ssu_ir.specs.Tree.{Node, node_values}
use Rattle.ssu_ir.specs.inner.Checks.{node_clones, node_defs}
use Rattle.ssu_ir.proofs.Keeps.{defs-node}

pub wider : (m n : ℕ) (xs : List ℕ) → m ≤ n → All (λ x. x < m) xs → All (λ x. x < n) xs
wider m n xs l h = All-weaker (λ x. x < m) (λ x. x < n) (λ x a. omega (arith, a, l)) xs h

-- one number more
pub below-more : (xs : List ℕ) (i m n x : ℕ) → i < length xs → x ≡ get_or xs i 0 → All (λ y. y < m) (take i xs) → m ≤ n → x < n → All (λ y. y < n) (take (i + 1) xs)
below-more xs i m n x l e h le lt = let here : get_or xs i 0 < n = omega (arith, e, lt) in All-more (λ y. y < n) xs i 0 l (wider m n (take i xs) le h) here

pub below-all : (xs : List ℕ) (i m : ℕ) → length xs ≤ i → All (λ y. y < m) (take i xs) → All (λ y. y < m) xs
below-all xs i m l h = All-same (λ y. y < m) xs (take i xs) (sym (take_all i xs l)) h

abbrev ParamsBelow : ℕ → SsuLabel → Type 0
ParamsBelow n l = All (λ x. x < n) l.params.items

-- one label more
pub params-more : (ls its : List SsuLabel) (i m n : ℕ) (r : SsuLabel) (xs : List ℕ) → its ≡ ls → i < length its → r ≡ get_or its i r → xs ≡ r.params.items → All (λ (l : SsuLabel). All (λ x. x < m) l.params.items) (take i ls)
    → m ≤ n → All (λ x. x < n) xs → All (λ (l : SsuLabel). All (λ x. x < n) l.params.items) (take (i + 1) ls)
params-more ls its i m n r xs same l is e h le lt =
    let inside : i < length ls = subst (λ (k : List SsuLabel). i < length k) same l in
    let here : r ≡ get_or ls i r = is ∙ ap (λ (k : List SsuLabel). get_or k i r) same in
    All-more (ParamsBelow n) ls i r inside (All-weaker (ParamsBelow m) (ParamsBelow n) (λ k a. wider m n k.params.items le a) (take i ls) h)
    (subst (ParamsBelow n) here (subst (λ (k : List ℕ). All (λ x. x < n) k) e lt))

pub params-all : (ls its : List SsuLabel) (i m : ℕ) → its ≡ ls → length its ≤ i → All (λ (l : SsuLabel). All (λ x. x < m) l.params.items) (take i ls) → All (λ (l : SsuLabel). All (λ x. x < m) l.params.items) ls
params-all ls its i m same l h =
    let past : length ls ≤ i = subst (λ (k : List SsuLabel). length k ≤ i) same l in
    subst (λ (k : List SsuLabel). All (ParamsBelow m) k) (take_all i ls past) h

-- what a node defines, in its two parts
pub node-below : (h : Node) (m n : ℕ) (xs ys : List ℕ) → xs ≡ node_values h → ys ≡ node_clones h → All (λ x. x < m) xs → m ≤ n → All (λ x. x < n) ys → All (λ x. x < n) (node_defs h)
node-below h m n xs ys e d a le b =
    let P : List ℕ → Type 0 = λ k. All (λ x. x < n) k in
    subst P (sym (defs-node h)) (All-append (λ x. x < n) (node_values h) (node_clones h) (subst P e (wider m n xs le a)) (subst P d b))
