-- Scratch addresses that are numbers.
use Rattle.std.proofs.Common.{◌≡◌, ◌∙◌, refl, ap, sym, ⊎_elim, ℕ, ◌+◌, ◌<◌, ◌≤◌, min, nat_lt, nat_le, Bool, true, not, [], arith}
use Rattle.std.proofs.lemmas.Bool.{cases_lt, lt-ltb, le-ltb, le-leb, lt-leb}
use Rattle.nv_base.specs.declared.term.Mem.{Mem}
use Rattle.nv_base.specs.declared.term.Mem.TheVariants.{Sram, Sdram, Scratch}
use Rattle.nv_ast.specs.declared.token.Span.{Span}
use Rattle.nv_ast.specs.declared.tree.Expr.{Expr, out-Expr}
use Rattle.nv_ast.specs.declared.tree.Kind.{Kind}
use Rattle.nv_ast.specs.declared.tree.Kind.TheVariants.{Number}
use Rattle.nv_ast.specs.ExprView.{kind_tree, tree_of}
use Rattle.nv_ast.specs.Tree.{Tree}
use Rattle.nv_ast.specs.Tests.{where_true}
use Rattle.nv_ast.specs.Faults.{wrong_scratch}
use Rattle.nv_types_table.specs.inner.Cells.{most}

reach_test : (s x : ℕ) → s ≡ min x most → not (nat_le s 512) ≡ nat_lt 512 x
reach_test s x e =
    ⊎_elim (λ (high : 512 < s). ap not (lt-leb s 512 high) ∙ sym (lt-ltb 512 x (omega (arith, e, high))))
    (λ (low : s ≤ 512). ap not (le-leb s 512 low) ∙ sym (le-ltb 512 x (omega (arith, e, low))))
    (cases_lt 512 s)

pub reach_number : (m : Mem) (e : Expr) (at n s : ℕ) → m ≡ Scratch → (out-Expr e).kind ≡ Number at → s ≡ min (at + n) most → where_true {A = ℕ} (not (nat_le s 512)) 20 ≡ wrong_scratch m (tree_of e) n
reach_number m e at n s scratch is sum =
    ap (λ (b : Bool). where_true {A = ℕ} b 20) (reach_test s (at + n) sum)
    ∙ ap (λ (k : Kind). wrong_scratch Scratch (kind_tree k (out-Expr e).span) n) (sym is)
    ∙ ap (λ (x : Mem). wrong_scratch x (tree_of e) n) (sym scratch)

reach_kind : (k : Kind) (s : Span) (n : ℕ) → ((at : ℕ) → k ≡ Number at → ⊥) → where_true {A = ℕ} true 20 ≡ wrong_scratch Scratch (kind_tree k s) n
reach_kind (Number at) s n other = absurd (other at refl)
reach_kind _ s n other = refl

pub reach_other : (m : Mem) (e : Expr) (n : ℕ) → m ≡ Scratch → ((at : ℕ) → (out-Expr e).kind ≡ Number at → ⊥) → where_true {A = ℕ} true 20 ≡ wrong_scratch m (tree_of e) n
reach_other m e n scratch other = reach_kind (out-Expr e).kind (out-Expr e).span n other ∙ ap (λ (x : Mem). wrong_scratch x (tree_of e) n) (sym scratch)

pub reach_elsewhere : (m : Mem) (t : Tree) (n : ℕ) → (m ≡ Scratch → ⊥) → [] ≡ wrong_scratch m t n
reach_elsewhere Sram t n other = refl
reach_elsewhere Sdram t n other = refl
reach_elsewhere Scratch t n other = absurd (other refl)
