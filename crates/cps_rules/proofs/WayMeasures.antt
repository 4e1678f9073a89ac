-- A simplified tree is neither wider nor larger.
use Rattle.std.proofs.Common.{◌≡◌, ℕ, ◌+◌, ◌≤◌, true, List, [], ◌∷◌, ◌++◌, sym, subst, length, arith}
use Rattle.std.proofs.lemmas.Bool.{false≢true}
use Rattle.nv_base.specs.declared.term.Atom.TheVariants.{Var}
use Rattle.nv_base.specs.Words.{atom_vars, prim_vars}
use Rattle.nv_base.specs.Sets.{is_in, without, Within}
use Rattle.nv_base.specs.Measures.{Bulk, a_node, a_jump, both, IsAtMost}
use Rattle.nv_base.proofs.Measures.{most-refl, most-both, most-behind}
use Rattle.flow_ir.specs.Tree.{Tree, Let}
use Rattle.flow_ir.specs.Wide.{live, tree_wide}
use Rattle.flow_ir.specs.Bulk.{tree_bulk}
use Rattle.cps_rules.specs.Rules.{Answers}
use Rattle.flow_ir.specs.Substitution.{Names}
use Rattle.cps_rules.specs.inner.Way.{Simplified, same, kept, dropped, read, write, choice, jump, halt}
use Rattle.flow_ir.proofs.Members.{in-first}
use Rattle.flow_ir.proofs.Renaming.{image, image_of, image_both, all_length, let_image, fewer, operands_image}
use Rattle.cps_rules.proofs.Way.{live_image, behind_read}
use Rattle.cps_rules.proofs.Answered.{AllSound}

-- ---- widths

own_image : (σ : Names) (xs : List ℕ) → ((y : ℕ) → is_in y xs ≡ true → σ y ≡ Var y) → Within xs (image σ xs)
own_image σ xs own = λ y e. image_of σ xs y y e (subst (λ a. is_in y (atom_vars a) ≡ true) (sym (own y e)) (in-first y []))

pub not_wider : (A : Answers) → AllSound A → (σ : Names) (t u : Tree) → Simplified A σ t u → tree_wide u ≤ tree_wide t
not_wider A sound σ t u (same x p a t' u' answered at rest) = let le = not_wider A sound σ t' u' rest in omega arith
not_wider A sound σ t u (kept x p q t' u' answered other at rest) =
    let le = not_wider A sound σ t' u' rest in
    let here = let_image σ (prim_vars q ++ without (live u') (x ∷ [])) (prim_vars p ++ without (live t') (x ∷ [])) (live_image A sound σ (Let x p t') (Let x q u') (kept x p q t' u' answered other at rest)) in
    omega arith
not_wider A sound σ t u (dropped x p q t' u' answered at unused rest) = let le = not_wider A sound σ t' u' rest in omega arith
not_wider A sound σ t u (read m xs a t' u' own rest) =
    let le = not_wider A sound σ t' u' rest in
    let live_le = live_image A sound σ t' u' rest in
    let here = operands_image σ (without (live u') xs) (without (live t') xs) (a ∷ []) (behind_read σ xs (live u') (live t') own live_le) in
    let behind = fewer σ (xs ++ live u') (xs ++ live t') (image_both σ xs (live u') xs (live t') (own_image σ xs own) live_le) in
    omega arith
not_wider A sound σ t u (write m a bs t' u' rest) =
    let le = not_wider A sound σ t' u' rest in
    let here = operands_image σ (live u') (live t') (a ∷ bs) (live_image A sound σ t' u' rest) in
    omega arith
not_wider A sound σ t u (choice c a b t1 t2 u1 u2 left right) =
    let le1 = not_wider A sound σ t1 u1 left in
    let le2 = not_wider A sound σ t2 u2 right in
    let here = operands_image σ (live u1 ++ live u2) (live t1 ++ live t2) (a ∷ b ∷ []) (image_both σ (live u1) (live u2) (live t1) (live t2) (live_image A sound σ t1 u1 left) (live_image A sound σ t2 u2 right)) in
    omega arith
not_wider A sound σ t u (jump l bs) = operands_image σ [] [] bs (λ y e. absurd (false≢true e))
not_wider A sound σ t u (halt n bs) = operands_image σ [] [] bs (λ y e. absurd (false≢true e))

-- ---- bulk

most_more : (a b c : Bulk) → IsAtMost a b → IsAtMost a (both c b)
most_more a b c h = record { labels = omega (arith, h.labels); jumps = omega (arith, h.jumps); nodes = omega (arith, h.nodes); defined = omega (arith, h.defined); used = omega (arith, h.used) }

pub not_larger : (A : Answers) (σ : Names) (t u : Tree) → Simplified A σ t u → IsAtMost (tree_bulk u) (tree_bulk t)
not_larger A σ t u (same x p a t' u' answered at rest) = most_more (tree_bulk u') (tree_bulk t') (a_node 1 2) (not_larger A σ t' u' rest)
not_larger A σ t u (kept x p q t' u' answered other at rest) = most-behind (a_node 1 2) (tree_bulk u') (tree_bulk t') (not_larger A σ t' u' rest)
not_larger A σ t u (dropped x p q t' u' answered at unused rest) = most_more (tree_bulk u') (tree_bulk t') (a_node 1 2) (not_larger A σ t' u' rest)
not_larger A σ t u (read m xs a t' u' own rest) = most-behind (a_node (length xs) 1) (tree_bulk u') (tree_bulk t') (not_larger A σ t' u' rest)
not_larger A σ t u (write m a bs t' u' rest) =
    subst (λ n. IsAtMost (both (a_node 0 (1 + n)) (tree_bulk u')) (both (a_node 0 (1 + length bs)) (tree_bulk t'))) (sym (all_length σ bs))
    (most-behind (a_node 0 (1 + length bs)) (tree_bulk u') (tree_bulk t') (not_larger A σ t' u' rest))
not_larger A σ t u (choice c a b t1 t2 u1 u2 left right) =
    most-behind (a_node 0 2) (both (tree_bulk u1) (tree_bulk u2)) (both (tree_bulk t1) (tree_bulk t2))
    (most-both (tree_bulk u1) (tree_bulk t1) (tree_bulk u2) (tree_bulk t2) (not_larger A σ t1 u1 left) (not_larger A σ t2 u2 right))
not_larger A σ t u (jump l bs) = most-refl a_jump
not_larger A σ t u (halt n bs) = most-refl a_jump
