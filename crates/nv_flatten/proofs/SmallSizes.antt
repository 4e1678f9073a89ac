-- The sizes of a program's groups: each function has its part of its group's, and different functions have together at most all of it.
use Rattle.std.proofs.Common.{◌≡◌, ◌∙◌, refl, sym, ap, subst, ℕ, suc, ◌+◌, ◌≤◌, Bool, true, false, List, [], ◌∷◌, Some, bytes_eq, arith, if◌then◌else◌}
use Rattle.std.specs.Prelude.{slice_get}
use Rattle.std.proofs.lemmas.Slice.Eq.{bytes_eq-Decides}
use Rattle.std.proofs.lemmas.Option.{same_Some}
use Rattle.nv_ast.specs.Tests.{value_at}
use Rattle.nv_ast.specs.Tree.{FunTree, DeclTree, LayoutDecl, ExceptionDecl, GroupDecl, ProgramTree}
use Rattle.nv_ast.specs.Sizes.{GroupNumbers, param_words, body_vars, expanded, group_size, sizes_behind}
use Rattle.nv_ast.specs.Scope.{Known, nothing_known, known_after}
use Rattle.nv_ast.specs.Faults.{program_faults}
use Rattle.nv_meaning.specs.Meaning.{function_in}
use Rattle.nv_flatten_values.specs.inner.Whole.{whole_of, group_of}
use Rattle.nv_flatten_values.specs.inner.Simulation.{Names}
use Rattle.nv_flatten.proofs.GroupWalk.{Group, IsIn, group_in, number_of, with_group, numbers_behind, stands-in, number-in}

-- ---- the parts of a group's size, one for each function
abbrev pub part : GroupNumbers → Known → FunTree → ℕ
part sizes k f = 1 + (param_words k f + expanded sizes k (body_vars k f) f.body)

abbrev pub parts_of : GroupNumbers → Known → List FunTree → GroupNumbers
parts_of sizes k [] = []
parts_of sizes k (f ∷ fs) = (f.name, part sizes k f) ∷ parts_of sizes k fs

abbrev pub total_of : GroupNumbers → ℕ
total_of [] = 0
total_of ((x, n) ∷ parts) = n + total_of parts

pub parts-total : (sizes : GroupNumbers) (k : Known) (fs : List FunTree) → group_size sizes k fs ≡ total_of (parts_of sizes k fs)
parts-total sizes k [] = refl
parts-total sizes k (f ∷ fs) = ap (λ n. part sizes k f + n) (parts-total sizes k fs)

-- a function that is found has its part
pub part-found : (sizes : GroupNumbers) (k : Known) (fs : List FunTree) (f : List ℕ) (g : FunTree) → function_in fs f ≡ Some g → value_at 0 f (parts_of sizes k fs) ≡ part sizes k g
part-found sizes k [] f g e = absurd (cc)
part-found sizes k (d ∷ fs) f g e = by (bytes_eq f d.name) refl (λ q. part-found sizes k fs f g q)
  where
    by : (b : Bool) → bytes_eq f d.name ≡ b → (function_in fs f ≡ Some g → value_at 0 f (parts_of sizes k fs) ≡ part sizes k g) → value_at 0 f (parts_of sizes k (d ∷ fs)) ≡ part sizes k g
    by true q next = ap (λ b. if b then part sizes k d else value_at 0 f (parts_of sizes k fs)) q ∙ ap (part sizes k) (same_Some _ _ (sym (ap (λ b. if b then Some d else function_in fs f) q) ∙ e))
    by false q next = ap (λ b. if b then part sizes k d else value_at 0 f (parts_of sizes k fs)) q ∙ next (sym (ap (λ b. if b then Some d else function_in fs f) q) ∙ e)

-- one number is at most all together
choice-below : (b : Bool) (n m r : ℕ) → m ≤ r → (if b then n else m) ≤ n + r
choice-below true n m r h = omega arith
choice-below false n m r h = omega arith

pub value-below : (parts : GroupNumbers) (x : List ℕ) → value_at 0 x parts ≤ total_of parts
value-below [] x = omega arith
value-below ((y, n) ∷ parts) x = choice-below (bytes_eq x y) n (value_at 0 x parts) (total_of parts) (value-below parts x)

-- ---- the numbers of some names together

-- no name stands in two places
abbrev pub NoTwice : Names → Type 0
NoTwice names = (i j : ℕ) (f : List ℕ) → slice_get names i ≡ Some f → slice_get names j ≡ Some f → i ≡ j

abbrev pub picked : GroupNumbers → Names → ℕ
picked parts [] = 0
picked parts (x ∷ xs) = value_at 0 x parts + picked parts xs

-- one name among them, with a number
abbrev hits : List ℕ → ℕ → Names → ℕ
hits y n [] = 0
hits y n (x ∷ xs) = (if bytes_eq x y then n else 0) + hits y n xs

hits-none : (y : List ℕ) (n : ℕ) (xs : Names) → ((i : ℕ) → slice_get xs i ≡ Some y → ⊥) → hits y n xs ≡ 0
hits-none y n [] new = refl
hits-none y n (x ∷ xs) new = by (bytes_eq x y) refl (hits-none y n xs (λ i e. new (suc i) e))
  where
    by : (b : Bool) → bytes_eq x y ≡ b → hits y n xs ≡ 0 → (if bytes_eq x y then n else 0) + hits y n xs ≡ 0
    by true q rest = absurd (new 0 (ap (λ z. Some z) ((bytes_eq-Decides x y).0 q)))
    by false q rest = let e : (if bytes_eq x y then n else 0) ≡ 0 = ap (λ b. if b then n else 0) q in omega arith

-- of names without a second one it counts at most once
hits-once : (y : List ℕ) (n : ℕ) (xs : Names) → NoTwice xs → hits y n xs ≤ n
hits-once y n [] once = omega arith
hits-once y n (x ∷ xs) once = by (bytes_eq x y) refl (hits-once y n xs tail)
  where
    tail : NoTwice xs
    tail i j f a b = let e : suc i ≡ suc j = once (suc i) (suc j) f a b in omega arith

    by : (b : Bool) → bytes_eq x y ≡ b → hits y n xs ≤ n → (if bytes_eq x y then n else 0) + hits y n xs ≤ n
    by true q rest =
        let e : (if bytes_eq x y then n else 0) ≡ n = ap (λ b. if b then n else 0) q in
        let same : x ≡ y = (bytes_eq-Decides x y).0 q in
        let none : hits y n xs ≡ 0 = hits-none y n xs (λ i there. let z : 0 ≡ suc i = once 0 (suc i) y (ap (λ z. Some z) same) there in omega arith) in
        omega arith
    by false q rest = let e : (if bytes_eq x y then n else 0) ≡ 0 = ap (λ b. if b then n else 0) q in omega arith

choice-split : (b : Bool) (n m r s : ℕ) → r ≤ s → (if b then n else m) + r ≤ (if b then n else 0) + (m + s)
choice-split true n m r s h = omega arith
choice-split false n m r s h = omega arith

picked-split : (y : List ℕ) (n : ℕ) (parts : GroupNumbers) (xs : Names) → picked ((y, n) ∷ parts) xs ≤ hits y n xs + picked parts xs
picked-split y n parts [] = omega arith
picked-split y n parts (x ∷ xs) =
    let rest = picked-split y n parts xs in
    let first = choice-split (bytes_eq x y) n (value_at 0 x parts) (picked ((y, n) ∷ parts) xs) (hits y n xs + picked parts xs) rest in
    omega (arith, first)

picked-none : (xs : Names) → picked [] xs ≡ 0
picked-none [] = refl
picked-none (x ∷ xs) = let e = picked-none xs in omega arith

-- different names have together at most all
pub picked-below : (parts : GroupNumbers) (xs : Names) → NoTwice xs → picked parts xs ≤ total_of parts
picked-below [] xs once = let e = picked-none xs in omega arith
picked-below ((y, n) ∷ parts) xs once =
    let split = picked-split y n parts xs in
    let first = hits-once y n xs once in
    let rest = picked-below parts xs once in
    omega (arith, split, first, rest)

-- ---- of a whole program
abbrev pub size_at : ProgramTree → ℕ → Group
size_at = group_in group_size

abbrev pub size_of_group : ProgramTree → ℕ → ℕ
size_of_group t i = number_of group_size (size_at t i)

abbrev pub group_parts : ProgramTree → ℕ → GroupNumbers
group_parts t i = parts_of (size_at t i).before (size_at t i).known (size_at t i).funs

pub group-total : (t : ProgramTree) (i : ℕ) → size_of_group t i ≡ total_of (group_parts t i)
group-total t i = parts-total (size_at t i).before (size_at t i).known (size_at t i).funs

pub sized : (t : ProgramTree) → program_faults t ≡ [] → (f : List ℕ) (g : FunTree) → function_in (whole_of t).declared.functions f ≡ Some g → IsIn (whole_of t) group_size (size_at t) f g
sized t h f g found = stands-in group_size t h f g found

-- a group with a function has a size of at least 1
pub size-there : (t : ProgramTree) → program_faults t ≡ [] → (f : List ℕ) (g : FunTree) (m : ℕ) → function_in (whole_of t).declared.functions f ≡ Some g → group_of (whole_of t) f ≡ Some m → 1 ≤ size_of_group t m
size-there t h f g m found grouped =
    let n = sized t h f g found in
    let d = size_at t n.own in
    let here : value_at 0 f (group_parts t n.own) ≡ part d.before d.known g = part-found d.before d.known d.funs f g n.found in
    let below = value-below (group_parts t n.own) f in
    let total = group-total t n.own in
    let some : 1 ≤ size_of_group t n.own = omega (arith, here, below, total) in
    subst (λ i. 1 ≤ size_of_group t i) (same_Some _ _ (sym n.grouped ∙ grouped)) some

sizes-same : (sizes : GroupNumbers) (k : Known) (ds : List DeclTree) → sizes_behind sizes k ds ≡ numbers_behind group_size sizes k ds
sizes-same sizes k [] = refl
sizes-same sizes k (LayoutDecl x l s ∷ ds) = sizes-same sizes (known_after k (LayoutDecl x l s)) ds
sizes-same sizes k (ExceptionDecl x ts s ∷ ds) = sizes-same sizes (known_after k (ExceptionDecl x ts s)) ds
sizes-same sizes k (GroupDecl fs ∷ ds) = sizes-same (with_group group_size sizes k fs) (known_after k (GroupDecl fs)) ds

-- the size of a function among all sizes is that of its group
pub size-of : (t : ProgramTree) → program_faults t ≡ [] → (f : List ℕ) (g : FunTree) → function_in (whole_of t).declared.functions f ≡ Some g → (m : ℕ) → group_of (whole_of t) f ≡ Some m → value_at 0 f (sizes_behind [] nothing_known t.decls) ≡ size_of_group t m
size-of t h f g found m grouped = ap (value_at 0 f) (sizes-same [] nothing_known t.decls) ∙ number-in group_size t h f g found m grouped
