-- Steps that only compute: one more variable beside what is kept.
use Rattle.std.proofs.Common.{ℕ, ◌+◌, ◌≤◌, List, [], ◌∷◌, ◌++◌, length, arith}
use Rattle.nv_base.specs.declared.term.Primitive.{Primitive}
use Rattle.nv_base.specs.Words.{prim_vars}
use Rattle.flat_ir.specs.declared.flat.FlatFun.{FlatFun}
use Rattle.flat_ir.specs.declared.spine.Step.TheVariants.{Let}
use Rattle.flat_ir.specs.Wide.{Widths}
use Rattle.nv_flatten_values.specs.inner.Narrow.{IsWithin, NarrowSteps}
use Rattle.nv_flatten_values.proofs.Within.{itself, into-left, together, grows-by}
use Rattle.nv_flatten_values.proofs.NarrowSteps.{recast, beside, let-step}

module _ (funs : List FlatFun) (widths : Widths) (own : ℕ) where
  -- a primitive of kept variables, all of which stay wanted
  pub one-more : (x : ℕ) (a : Primitive) (kept : List ℕ) (m : ℕ) → IsWithin (prim_vars a) kept → length kept + 3 ≤ m → NarrowSteps funs widths own (Let x a ∷ []) kept [] (x ∷ kept) m
  one-more x a kept m inside le =
      let all : IsWithin (prim_vars a ++ kept) kept = together (prim_vars a) kept kept inside itself in
      recast funs widths own (Let x a ∷ []) (prim_vars a ++ kept) (prim_vars a ++ kept) (x ∷ kept) kept [] (x ∷ kept) (length kept) 3 m
      (beside funs widths own kept (Let x a ∷ []) (prim_vars a) (prim_vars a) (x ∷ []) 3 (let-step funs widths own x a)) all
      (grows-by kept [] (prim_vars a ++ kept) (length kept) (into-left (prim_vars a ++ kept) kept [] all) (omega arith)) itself le
