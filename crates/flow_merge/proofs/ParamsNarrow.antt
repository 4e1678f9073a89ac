-- A pruned tree is neither wider nor larger.
use Rattle.std.proofs.Common.{◌≡◌, ℕ, ◌+◌, ◌≤◌, List, [], ◌∷◌, ◌++◌, refl, ap, ◌∙◌, length, slice_get, arith}
use Rattle.nv_base.specs.declared.term.Atom.{Atom}
use Rattle.nv_base.specs.Words.{atom_vars, prim_vars}
use Rattle.nv_base.specs.Sets.{all_vars, without, Within}
use Rattle.nv_base.specs.Measures.{operands_wide, let_wide, a_node, both}
use Rattle.nv_base.proofs.Measures.{operands-more}
use Rattle.nv_base.proofs.Sets.{different-below, within-behind_same, within-without_same, within-both}
use Rattle.flow_ir.specs.Tree.{Tree, Let, Read, Write, If, Jump, Halt, Label}
use Rattle.flow_ir.specs.Wide.{live, tree_wide}
use Rattle.flow_ir.specs.Bulk.{tree_bulk}
use Rattle.flow_ir.proofs.Members.{in-left, in-right}
use Rattle.flow_merge.specs.inner.Pruned.{kept_words, params_in, pruned}
use Rattle.flow_merge.proofs.Keeping.{kept_within, kept_shorter}

let_less : (a b : List ℕ) → Within a b → let_wide a ≤ let_wide b
let_less a b h = let le = different-below a b h in omega arith

handed_less : (ks bs : List Atom) → length ks ≤ length bs → operands_wide [] ks ≤ operands_wide [] bs
handed_less [] bs le = omega arith
handed_less (k ∷ ks) [] le = absurd (omega arith)
handed_less (k ∷ ks) (b ∷ bs) le = omega arith

module _ (labels : List Label) (gone : ℕ → List ℕ) where
  live_less : (t : Tree) → Within (live (pruned labels gone t)) (live t)
  live_less (Let x p t) =
      let u = pruned labels gone t in within-behind_same (prim_vars p) (without (live u) (x ∷ [])) (without (live t) (x ∷ [])) (within-without_same (live u) (live t) (x ∷ []) (live_less t))
  live_less (Read m xs a t) = let u = pruned labels gone t in within-behind_same (atom_vars a) (without (live u) xs) (without (live t) xs) (within-without_same (live u) (live t) xs (live_less t))
  live_less (Write m a bs t) = within-behind_same (all_vars (a ∷ bs)) (live (pruned labels gone t)) (live t) (live_less t)
  live_less (If c a b t1 t2) =
      let u1 = pruned labels gone t1 in
      let u2 = pruned labels gone t2 in
      within-behind_same (all_vars (a ∷ b ∷ [])) (live u1 ++ live u2) (live t1 ++ live t2) (both_less (live u1) (live u2) (live t1) (live t2) (live_less t1) (live_less t2))
    where
      both_less : (a b c d : List ℕ) → Within a c → Within b d → Within (a ++ b) (c ++ d)
      both_less a b c d p q = within-both a b (c ++ d) (λ y i. in-left y c d (p y i)) (λ y i. in-right y c d (q y i))
  live_less (Jump l bs) = kept_within (gone l) (params_in (slice_get labels l)) bs
  live_less (Halt e bs) = λ y i. i

  pub wide_less : (t : Tree) → tree_wide (pruned labels gone t) ≤ tree_wide t
  wide_less (Let x p t) =
      let u = pruned labels gone t in
      let le = wide_less t in
      let here = let_less (prim_vars p ++ without (live u) (x ∷ [])) (prim_vars p ++ without (live t) (x ∷ [])) (live_less (Let x p t)) in
      omega arith
  wide_less (Read m xs a t) =
      let u = pruned labels gone t in
      let le = wide_less t in
      let here = operands-more (without (live u) xs) (without (live t) xs) (a ∷ []) (within-without_same (live u) (live t) xs (live_less t)) in
      let after = different-below (xs ++ live u) (xs ++ live t) (within-behind_same xs (live u) (live t) (live_less t)) in
      omega arith
  wide_less (Write m a bs t) = let le = wide_less t in let here = operands-more (live (pruned labels gone t)) (live t) (a ∷ bs) (live_less t) in omega arith
  wide_less (If c a b t1 t2) =
      let u1 = pruned labels gone t1 in
      let u2 = pruned labels gone t2 in
      let one = wide_less t1 in
      let two = wide_less t2 in
      let here = operands-more (live u1 ++ live u2) (live t1 ++ live t2) (a ∷ b ∷ []) (within-both (live u1) (live u2) (live t1 ++ live t2) (λ y i. in-left y (live t1) (live t2) (live_less t1 y i)) (λ y i. in-right y (live t1) (live t2) (live_less t2 y i))) in
      omega arith
  wide_less (Jump l bs) = let ps = params_in (slice_get labels l) in handed_less (kept_words (gone l) ps bs) bs (kept_shorter (gone l) ps bs)
  wide_less (Halt e bs) = omega arith

  pub same_bulk : (t : Tree) → tree_bulk (pruned labels gone t) ≡ tree_bulk t
  same_bulk (Let x p t) = ap (both (a_node 1 2)) (same_bulk t)
  same_bulk (Read m xs a t) = ap (both (a_node (length xs) 1)) (same_bulk t)
  same_bulk (Write m a bs t) = ap (both (a_node 0 (1 + length bs))) (same_bulk t)
  same_bulk (If c a b t u) = ap (λ z. both (a_node 0 2) (both z (tree_bulk (pruned labels gone u)))) (same_bulk t) ∙ ap (λ z. both (a_node 0 2) (both (tree_bulk t) z)) (same_bulk u)
  same_bulk (Jump l bs) = refl
  same_bulk (Halt e bs) = refl
