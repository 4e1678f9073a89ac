-- Flat functions of a group together, each within the part of the function that it is made of.
use Rattle.std.proofs.Common.{◌≡◌, sym, subst, ℕ, suc, ◌+◌, ◌-◌, ◌*◌, ◌≤◌, Bool, true, false, ◌==◌, List, [], ◌∷◌, refl, if◌then◌else◌, Some, arith}
use Rattle.std.specs.Prelude.{slice_get}
use Rattle.std.proofs.lemmas.Bool.{eqb-true}
use Rattle.std.proofs.lemmas.Option.{same_Some}
use Rattle.nv_ast.specs.Tests.{value_at}
use Rattle.nv_ast.specs.Sizes.{GroupNumbers}
use Rattle.flat_ir.specs.declared.flat.FlatFun.{FlatFun}
use Rattle.nv_base.specs.Measures.{Bulk, nothing, a_label, a_jump, both, IsAtMost, of_size}
use Rattle.flat_ir.specs.Bulk.{Bulks, function_bulk, sum_bulk}
use Rattle.nv_flatten_values.specs.inner.Simulation.{Names}
use Rattle.nv_flatten_values.specs.inner.Small.{of_parts, uses}
use Rattle.nv_flatten.proofs.SmallSizes.{picked}

-- what a group of this size may have, besides the label and the jump of a call of it
abbrev pub of_group : ℕ → Bulk
of_group n = record { labels = n - 1; jumps = n - 1; nodes = n; defined = n; used = 2 * n }

pub group-none : (n : ℕ) → IsAtMost nothing (of_group n)
group-none n = record { labels = omega arith; jumps = omega arith; nodes = omega arith; defined = omega arith; used = omega arith }

pub group-more : (m n : ℕ) → m ≤ n → IsAtMost (of_group m) (of_group n)
group-more m n h = record { labels = omega arith; jumps = omega arith; nodes = omega arith; defined = omega arith; used = omega arith }

-- with that label and that jump it is within the size of the call
pub group-called : (m n : ℕ) → 1 ≤ m → m ≤ n → IsAtMost (both (both a_label a_jump) (of_group m)) (of_parts n)
group-called m n h le = record { labels = omega arith; jumps = omega arith; nodes = omega arith; defined = omega arith; used = omega arith }

pub group-begun : (b : Bulk) (m n : ℕ) → 1 ≤ m → m ≤ n → IsAtMost b (both (both a_label a_jump) (of_group m)) → IsAtMost b (of_size n)
group-begun b m n h le a = record {
  labels = omega (arith, a.labels);
  jumps = omega (arith, a.jumps);
  nodes = omega (arith, a.nodes);
  defined = omega (arith, a.defined);
  used = omega (arith, a.used);
}

pub size-none : (n : ℕ) → IsAtMost nothing (of_size n)
size-none n = record { labels = omega arith; jumps = omega arith; nodes = omega arith; defined = omega arith; used = omega arith }

-- a function whose body is within its size is with a label, and another label and a jump, within its part
pub function-within : (b : Bulk) (u params e : ℕ) → IsAtMost (both b (both a_label (uses u))) (of_parts e) → IsAtMost (both (both a_label a_jump) (both a_label b)) (of_parts (1 + (params + e)))
function-within b u params e a = record {
  labels = omega (arith, a.labels);
  jumps = omega (arith, a.jumps);
  nodes = omega (arith, a.nodes);
  defined = omega (arith, a.defined);
  used = omega (arith, a.used);
}

-- one more function, or one of another group
add-one : (b : Bool) (f s : Bulk) (p q : ℕ) → (b ≡ true → IsAtMost (both (both a_label a_jump) f) (of_parts p)) → IsAtMost s (of_group q) → IsAtMost (both (if b then f else nothing) s) (of_group (p + q))
add-one true f s p q h r =
    let a = h refl in
    record {
      labels = omega (arith, a.labels, r.labels);
      jumps = omega (arith, a.jumps, r.jumps);
      nodes = omega (arith, a.nodes, r.nodes);
      defined = omega (arith, a.defined, r.defined);
      used = omega (arith, a.used, r.used);
    }
add-one false f s p q h r = record {
  labels = omega (arith, r.labels);
  jumps = omega (arith, r.jumps);
  nodes = omega (arith, r.nodes);
  defined = omega (arith, r.defined);
  used = omega (arith, r.used);
}

-- a flat function stands at the place of its function's name; those of the group are within the parts of their names, with a label and a jump each
abbrev IsWithinPart : List FlatFun → Bulks → ℕ → GroupNumbers → Names → ℕ → FlatFun → Type 0
IsWithinPart funs w group parts names i fun = (f : List ℕ) × (slice_get names i ≡ Some f) × (fun.group ≡ group → IsAtMost (both (both a_label a_jump) (function_bulk funs w fun)) (of_parts (value_at 0 f parts)))

no-name : (f : List ℕ) → slice_get {X = List ℕ} [] 0 ≡ Some f → ⊥
no-name f e = cc

pub group-sum : (funs : List FlatFun) (w : Bulks) (group : ℕ) (parts : GroupNumbers) (names : Names) (fs : List FlatFun) → ((i : ℕ) (fun : FlatFun) → slice_get fs i ≡ Some fun → IsWithinPart funs w group parts names i fun)
    → IsAtMost (sum_bulk funs w group fs) (of_group (picked parts names))
group-sum funs w group parts names [] h = group-none (picked parts names)
group-sum funs w group parts [] (fun ∷ fs) h = let r = h 0 fun refl in absurd (no-name r.0 r.1)
group-sum funs w group parts (x ∷ names) (fun ∷ fs) h =
    let r = h 0 fun refl in
    let same : x ≡ r.0 = same_Some _ _ r.1 in
    add-one (fun.group == group) (function_bulk funs w fun) (sum_bulk funs w group fs) (value_at 0 x parts) (picked parts names)
    (λ e. subst (λ y. IsAtMost (both (both a_label a_jump) (function_bulk funs w fun)) (of_parts (value_at 0 y parts))) (sym same) (r.2 (eqb-true fun.group group e)))
    (group-sum funs w group parts names fs (λ i d e. h (suc i) d e))
