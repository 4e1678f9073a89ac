-- In a tree whose definitions sank none sinks.
use Rattle.std.proofs.Common.{◌≡◌, ℕ, false, nat_eq, List, ◌∷◌, ◌++◌, refl, ◌∙◌}
use Rattle.std.proofs.lemmas.Bool.{or_parts, false_from_ne_true}
use Rattle.nv_base.specs.declared.term.Primitive.{Primitive}
use Rattle.nv_base.specs.Words.{prim_vars}
use Rattle.nv_base.specs.Sets.{is_in}
use Rattle.flow_ir.specs.Formed.{defined}
use Rattle.flow_ir.specs.Tree.{Tree, Let, Read, Write, If, Jump, Halt}
use Rattle.flow_ir.specs.Wide.{uses}
use Rattle.flow_ir.specs.inner.Scoped.{Apart, Fits}
use Rattle.flow_ir.proofs.Members.{in-first, in-not-out, out-both}
use Rattle.flow_sink.specs.Sunk.{IsSunk}
use Rattle.flow_sink.specs.inner.Sinking.{placed, lowered, sunk}
use Rattle.flow_sink.proofs.Lowering.{at_if, placed_at, sinks_lowered}
use Rattle.flow_sink.proofs.Means.{far_below}

still_placed : (x : ℕ) (p : Primitive) (t u : Tree) → IsSunk t → IsSunk u → IsSunk (placed x p t u)
still_placed x p t u h k = placed_at IsSunk x p t u (λ s. k) (λ s. (s, h))

pub still_sunk : (x : ℕ) (p : Primitive) (t : Tree) → IsSunk t → Apart (prim_vars p) (defined t) → IsSunk (lowered x p t)
still_sunk x p (Let z q t) h o =
    let unused : is_in z (prim_vars p) ≡ false = false_from_ne_true (is_in z (prim_vars p)) (λ i. in-not-out z (z ∷ defined t) (in-first z (defined t)) (o z i)) in
    (sinks_lowered x p z t unused ∙ h.0, still_sunk x p t h.1 (λ y i. (or_parts (nat_eq y z) (is_in y (defined t)) (o y i)).1))
still_sunk x p (Read m xs a t) h o = still_sunk x p t h (λ y i. (out-both y xs (defined t) (o y i)).1)
still_sunk x p (Write m a bs t) h o = still_sunk x p t h o
still_sunk x p (If c a b t u) h o =
    let t' = placed x p t (lowered x p t) in
    let u' = placed x p u (lowered x p u) in
    at_if IsSunk (is_in x (uses t)) (If c a b t' u) (If c a b t u')
    (λ i. (still_placed x p t (lowered x p t) h.0 (still_sunk x p t h.0 (λ y j. (out-both y (defined t) (defined u) (o y j)).0)), h.1))
    (λ i. (h.0, still_placed x p u (lowered x p u) h.1 (still_sunk x p u h.1 (λ y j. (out-both y (defined t) (defined u) (o y j)).1))))
still_sunk x p (Jump l bs) h o = (refl, tt)
still_sunk x p (Halt e bs) h o = (refl, tt)

pub all_sank : (t : Tree) (known : List ℕ) → Fits known t → IsSunk (sunk t)
all_sank (Let x p t) known fits = let below = all_sank t (x ∷ known) fits.3 in still_placed x p (sunk t) (lowered x p (sunk t)) below (still_sunk x p (sunk t) below (far_below x p t known fits).1)
all_sank (Read m xs a t) known fits = all_sank t (xs ++ known) fits.2
all_sank (Write m a bs t) known fits = all_sank t known fits.1
all_sank (If c a b t u) known fits = (all_sank t known fits.1, all_sank u known fits.2)
all_sank (Jump l bs) known fits = tt
all_sank (Halt e bs) known fits = tt
