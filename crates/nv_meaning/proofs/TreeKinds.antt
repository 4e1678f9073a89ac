-- An expression of one operand, by its tree.
use Rattle.std.proofs.Common.{◌≡◌, ℕ, ◌+◌, ◌⊎◌, inl, inr, refl, sym, subst, List, Box, Global, Result as Answer}
use Rattle.nv_base.specs.declared.term.Mem.{Mem}
use Rattle.nv_ast.specs.declared.tree.ShiftOp.{ShiftOp}
use Rattle.nv_ast.specs.declared.tree.Expr.{Expr, out-Expr}
use Rattle.nv_ast.specs.declared.tree.Kind.TheViews as kinds
use Rattle.nv_ast.specs.ExprView.{tree_of}
use Rattle.nv_ast.specs.Tree.{Tree, DotTree, InvertTree, NegateTree, ShiftTree, UnpackTree, PackTree, FetchTree}
use Rattle.nv_ast.proofs.TreeKinds.{dot-is, invert-is, negate-is, shift-is, unpack-is, pack-is, fetch-is}
use Rattle.nv_meaning_values.specs.Values.{Scope}
use Rattle.nv_meaning_values.specs.Running.{Running, and_then}
use Rattle.nv_meaning.specs.Meaning.{Declared, Calls, eval}
use Rattle.nv_meaning.specs.inner.Operand.{made_of}
use Rattle.nv_meaning.specs.declared.step.Step.{Step}
use Rattle.nv_meaning_values.specs.declared.stop.Interruption.{Interruption}
use Rattle.nv_meaning.specs.inner.Ran.{At, IsStep, RanStep}
use Rattle.nv_meaning.specs.inner.Weight.{weight}
use Rattle.nv_meaning.proofs.Moments.{ran-as}
use Rattle.nv_meaning.proofs.Arms.{step-as}

-- what an expression of one operand comes to
abbrev pub IsOperand : Tree → Tree → Type 0
IsOperand t u = (d : Declared) (call : Calls) (s : Scope) (now : Running) → eval d call t s now ≡ and_then (eval d call u s now) (λ v last. made_of d t v last)

pub of-operand : (d : Declared) (a b : At) (answer : Answer Step Interruption) (s : Scope) (t t' u : Tree) → t ≡ t' → IsOperand t' u → RanStep d a b answer (λ call now. and_then (eval d call u s now) (λ v last. made_of d t v last)) → RanStep d a b answer (λ call now. eval d call t s now)
of-operand d a b answer s t t' u h operand r = ran-as d a b (λ call now last. IsStep call answer last (and_then (eval d call u s now) (λ v last. made_of d t v last))) (λ call now last. IsStep call answer last (eval d call t s now))
    (λ call grows x y same p. step-as call answer y (and_then (eval d call u s x) (λ v last. made_of d t v last)) (eval d call t s x) (subst (λ k. eval d call k s x ≡ and_then (eval d call u s x) (λ v last. made_of d k v last)) (sym h) (operand d call s x)) p) r

-- an expression of one operand, by its kind
abbrev pub HasOperand : Expr → Box Expr Global → Type 0
HasOperand e a =
    ((x : List ℕ) × ((out-Expr e).kind ≡ kinds.Dot a x))
    ⊎ (((out-Expr e).kind ≡ kinds.Invert a)
    ⊎ (((out-Expr e).kind ≡ kinds.Negate a)
    ⊎ (((op : ShiftOp) × (n : ℕ) × ((out-Expr e).kind ≡ kinds.Shift op a n))
    ⊎ (((x : List ℕ) × ((out-Expr e).kind ≡ kinds.Unpack x a))
    ⊎ (((x : List ℕ) × ((out-Expr e).kind ≡ kinds.Pack x a))
    ⊎ ((m : Mem) × (n : ℕ) × ((out-Expr e).kind ≡ kinds.Fetch m n a)))))))

-- a tree that has an operand, and weighs one more
abbrev pub OverOperand : Tree → Tree → Type 0
OverOperand t u = (t' : Tree) × (t ≡ t') × IsOperand t' u × (weight t' ≡ 1 + weight u)

pub over-operand : (e : Expr) (a : Box Expr Global) (a' : Expr) → HasOperand e a → a' ≡ a.value → OverOperand (tree_of e) (tree_of a')
over-operand e a a' (inl (x, h)) ha = (DotTree (out-Expr e).span (tree_of a') x, dot-is e a x a' h ha, (λ d call s now. refl), refl)
over-operand e a a' (inr (inl h)) ha = (InvertTree (out-Expr e).span (tree_of a'), invert-is e a a' h ha, (λ d call s now. refl), refl)
over-operand e a a' (inr (inr (inl h))) ha = (NegateTree (out-Expr e).span (tree_of a'), negate-is e a a' h ha, (λ d call s now. refl), refl)
over-operand e a a' (inr (inr (inr (inl (op, n, h))))) ha = (ShiftTree (out-Expr e).span op (tree_of a') n, shift-is e op a n a' h ha, (λ d call s now. refl), refl)
over-operand e a a' (inr (inr (inr (inr (inl (x, h)))))) ha = (UnpackTree (out-Expr e).span x (tree_of a'), unpack-is e x a a' h ha, (λ d call s now. refl), refl)
over-operand e a a' (inr (inr (inr (inr (inr (inl (x, h))))))) ha = (PackTree (out-Expr e).span x (tree_of a'), pack-is e x a a' h ha, (λ d call s now. refl), refl)
over-operand e a a' (inr (inr (inr (inr (inr (inr (m, n, h))))))) ha = (FetchTree (out-Expr e).span m n (tree_of a'), fetch-is e m n a a' h ha, (λ d call s now. refl), refl)
