use Rattle.std.proofs.Common.{◌<◌, All, ap, inl, inr, subst, ◌∙◌, arith}
use Rattle.slab.proofs.SlabLemmas.{Contains-cons_cases, Contains-entries}
use Rattle.ssu_ir.specs.declared.node.SsuNode.{SsuNode}
use Rattle.ssu_ir.specs.Slots.{node_of}
use Rattle.ssu_ir.specs.inner.Checks.{node_defs}
use Rattle.ssu_ir.proofs.Ends.{wider}
use Rattle.ssu_ir.proofs.places.nodes_end.Goals as goal

pub loop-n-init : goal.loop-n-init
loop-n-init c =
    let left = c.into_iter-n-iterator.ensures.into_iter_gives ∙ c.iter-n-items.ensures.rest in (
      tt,
      tt,
      λ key m found. inl (rw left ((Contains-entries c.args.s.now.nodes key m).1 found)),
      omega arith,
    )

pub loop-n-preserved : goal.loop-n-preserved
loop-n-preserved c =
    let at = c.in-Some.ensures.steps in (
      tt,
      tt,
      λ key m found. elim (c.loop-n.invariant.2 key m found) [
        | inl there ↦ elim (Contains-cons_cases _ _ _ (rw at at there)) [
          | inl same ↦ inr (subst (λ (k : SsuNode). All (λ x. x < c.node_end-most.result) (node_defs (node_of k))) (ap (λ e. e.1) same) c.node_end-most.ensures.defined)
          | inr rest ↦ inl rest
        ]
        | inr below ↦ inr (wider c.loop-n.most c.node_end-most.result (node_defs (node_of m)) c.node_end-most.ensures.least below)
      ],
      omega (arith, c.loop-n.invariant.3, c.node_end-most.ensures.least),
    )
