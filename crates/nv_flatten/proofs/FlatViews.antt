-- What the walk says, at equal trees, scopes, steps, numbers, symbolic values and code.
use Rattle.std.proofs.Common.{◌≡◌, sym, subst, ℕ, List, [], Option, IfOk, OnOk, Result, Ok, Err}
use Rattle.nv_base.specs.declared.term.Atom.{Atom}
use Rattle.nv_base.specs.declared.term.Cmp.{Cmp}
use Rattle.nv_ast.specs.Tree.{Tree, StatementTree}
use Rattle.flat_ir.specs.declared.flat.Flat.{Flat}
use Rattle.flat_ir.specs.declared.spine.Step.{Step}
use Rattle.nv_flatten_values.specs.inner.Symbols.{Symbol, SymbolScope}
use Rattle.nv_flatten_values.specs.inner.View.{Named, scope_of}
use Rattle.nv_flatten_values.specs.inner.Whole.{Whole}
use Rattle.nv_flatten_values.specs.inner.Simulation.{Names}
use Rattle.nv_flatten.specs.inner.Flat.{IsFlatValue, IsFlatStatement, IsFlatTest, IsFlatEnd}

-- what follows for a value, where there is one
pub mapped : {X E : Type 0} {P Q : X → Type 0} (r : Result X E) → ((x : X) → P x → Q x) → IfOk r P → IfOk r Q
mapped (Ok x) f h = f x h
mapped (Err e) f h = tt {0}

-- what holds anyway, also where there is a value
pub held : {X E : Type 0} {P : Type 0} (r : Result X E) → P → OnOk r P
held (Ok x) p = p
held (Err e) p = tt {0}

-- ---- values
pub value-tree : (w : Whole) (old names : Names) (low high : ℕ) (scope : SymbolScope) (e e' : Tree) (ss : List Step) (s : Symbol) → e' ≡ e → IsFlatValue w old names low high scope e ss s → IsFlatValue w old names low high scope e' ss s
value-tree w old names low high scope e e' ss s same f = subst (λ k. IsFlatValue w old names low high scope k ss s) (sym same) f

pub value-in : (w : Whole) (old names : Names) (low high : ℕ) (l l' : List Named) (e : Tree) (ss : List Step) (s : Symbol) → l ≡ l' → IsFlatValue w old names low high (scope_of l []) e ss s → IsFlatValue w old names low high (scope_of l' []) e ss s
value-in w old names low high l l' e ss s same f = subst (λ k. IsFlatValue w old names low high (scope_of k []) e ss s) same f

pub value-as : (w : Whole) (old names : Names) (low high high' : ℕ) (scope : SymbolScope) (e : Tree) (ss ss' : List Step) (s s' : Symbol) → high' ≡ high → ss' ≡ ss → s' ≡ s → IsFlatValue w old names low high scope e ss s → IsFlatValue w old names low high' scope e ss' s'
value-as w old names low high high' scope e ss ss' s s' n steps is f =
    subst (λ k. IsFlatValue w old names low k scope e ss' s') (sym n) (subst (λ k. IsFlatValue w old names low high scope e k s') (sym steps) (subst (λ k. IsFlatValue w old names low high scope e ss k) (sym is) f))

-- ---- statements
pub statement-as : (w : Whole) (old names : Names) (low high : ℕ) (scope : SymbolScope) (st st' : StatementTree) (ss : List Step) (inner inner' : SymbolScope) → st' ≡ st → inner' ≡ inner → IsFlatStatement w old names low high scope st ss inner → IsFlatStatement w old names low high scope st' ss inner'
statement-as w old names low high scope st st' ss inner inner' same is f = subst (λ k. IsFlatStatement w old names low high scope k ss inner') (sym same) (subst (λ k. IsFlatStatement w old names low high scope st ss k) (sym is) f)

-- ---- conditions
pub test-tree : (w : Whole) (old names : Names) (low high : ℕ) (scope : SymbolScope) (e e' : Tree) (ss : List Step) (c : Cmp) (x y : Atom) → e' ≡ e → IsFlatTest w old names low high scope e ss c x y → IsFlatTest w old names low high scope e' ss c x y
test-tree w old names low high scope e e' ss c x y same f = subst (λ k. IsFlatTest w old names low high scope k ss c x y) (sym same) f

pub test-as : (w : Whole) (old names : Names) (low high : ℕ) (scope : SymbolScope) (e : Tree) (ss : List Step) (c : Cmp) (x x' y : Atom) → x' ≡ x → IsFlatTest w old names low high scope e ss c x y → IsFlatTest w old names low high scope e ss c x' y
test-as w old names low high scope e ss c x x' y is f = subst (λ k. IsFlatTest w old names low high scope e ss c k y) (sym is) f

-- ---- code
pub end-tree : (w : Whole) (old names : Names) (low high : ℕ) (scope : SymbolScope) (e e' : Tree) (t : Flat) (o : Option Symbol) → e' ≡ e → IsFlatEnd w old names low high scope e t o → IsFlatEnd w old names low high scope e' t o
end-tree w old names low high scope e e' t o same f = subst (λ k. IsFlatEnd w old names low high scope k t o) (sym same) f

pub end-in : (w : Whole) (old names : Names) (low high : ℕ) (l l' : List Named) (e : Tree) (t : Flat) (o : Option Symbol) → l ≡ l' → IsFlatEnd w old names low high (scope_of l []) e t o → IsFlatEnd w old names low high (scope_of l' []) e t o
end-in w old names low high l l' e t o same f = subst (λ k. IsFlatEnd w old names low high (scope_of k []) e t o) same f

pub end-code : (w : Whole) (old names : Names) (low high : ℕ) (scope : SymbolScope) (e : Tree) (t t' : Flat) (o : Option Symbol) → t' ≡ t → IsFlatEnd w old names low high scope e t o → IsFlatEnd w old names low high scope e t' o
end-code w old names low high scope e t t' o same f = subst (λ k. IsFlatEnd w old names low high scope e k o) (sym same) f

pub end-as : (w : Whole) (old names : Names) (low high : ℕ) (scope : SymbolScope) (e : Tree) (t : Flat) (o o' : Option Symbol) → o' ≡ o → IsFlatEnd w old names low high scope e t o → IsFlatEnd w old names low high scope e t o'
end-as w old names low high scope e t o o' is f = subst (λ k. IsFlatEnd w old names low high scope e t k) (sym is) f
