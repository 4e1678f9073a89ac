-- The bulks of groups are the least that bound their functions together.
use Rattle.std.proofs.Common.{◌≡◌, ℕ, zero, suc, ◌+◌, ◌-◌, ◌≤◌, ◌<◌, Bool, true, false, nat_lt, ◌==◌, List, [], ◌∷◌, sym, subst, if◌then◌else◌, Option, Some, None, length, slice_get, arith}
use Rattle.std.proofs.lemmas.Bool.{ltb-true, eqb-true}
use Rattle.nv_base.proofs.Measures.{most-refl, most-trans, most-none, most-both, most-behind, most-if}
use Rattle.flat_ir.specs.declared.flat.Flat.{Flat}
use Rattle.flat_ir.specs.declared.flat.Flat.TheVariants.{Let', Fetch', Store', If', Bind', Call, Raise, Try', Give}
use Rattle.flat_ir.specs.declared.flat.FlatFun.{FlatFun}
use Rattle.nv_base.specs.Measures.{nothing, a_label, a_jump, a_node, both, IsAtMost}
use Rattle.flat_ir.specs.Bulk.{Bulks, return_bulk, call_bulk, code_bulk, function_bulk, sum_bulk, bulks_within, group_bulk, main_bulk, bulk, AreBulks}

-- the first gives each group below this one at most what the second gives it
abbrev pub Less : ℕ → Bulks → Bulks → Type 0
Less own v w = (g : ℕ) → g < own → IsAtMost (v g) (w g)

call-mono : (v w : Bulks) (own : ℕ) (last : Bool) (o : Option FlatFun) → Less own v w → IsAtMost (call_bulk v own last o) (call_bulk w own last o)
call-mono v w own last (Some f) h =
    most-if (nat_lt f.group own) (both (return_bulk last) (v f.group)) (both (return_bulk last) (w f.group))
    (λ e. most-both (return_bulk last) (return_bulk last) (v f.group) (w f.group) (most-refl (return_bulk last)) (h f.group (ltb-true f.group own e)))
call-mono v w own last None h = most-refl nothing

pub code-mono : (funs : List FlatFun) (v w : Bulks) (own : ℕ) → Less own v w → (last : Bool) (t : Flat) → IsAtMost (code_bulk funs v own last t) (code_bulk funs w own last t)
code-mono funs v w own h last (Let' x a q t) = most-behind (a_node 1 2) (code_bulk funs v own last t) (code_bulk funs w own last t) (code-mono funs v w own h last t)
code-mono funs v w own h last (Fetch' m xs a q t) = most-behind (a_node (length xs.items) 1) (code_bulk funs v own last t) (code_bulk funs w own last t) (code-mono funs v w own h last t)
code-mono funs v w own h last (Store' m a bs q t) = most-behind (a_node 0 (1 + length bs.items)) (code_bulk funs v own last t) (code_bulk funs w own last t) (code-mono funs v w own h last t)
code-mono funs v w own h last (If' c a b q t r u) =
    most-behind (a_node 0 2) (both (code_bulk funs v own last t) (code_bulk funs v own last u)) (both (code_bulk funs w own last t) (code_bulk funs w own last u))
    (most-both (code_bulk funs v own last t) (code_bulk funs w own last t) (code_bulk funs v own last u) (code_bulk funs w own last u) (code-mono funs v w own h last t) (code-mono funs v w own h last u))
code-mono funs v w own h last (Bind' xs q t r u) =
    most-both (both a_label (code_bulk funs v own false t)) (both a_label (code_bulk funs w own false t)) (code_bulk funs v own last u) (code_bulk funs w own last u)
    (most-behind a_label (code_bulk funs v own false t) (code_bulk funs w own false t) (code-mono funs v w own h false t)) (code-mono funs v w own h last u)
code-mono funs v w own h last (Call f bs) = most-behind a_jump (call_bulk v own last (slice_get funs f)) (call_bulk w own last (slice_get funs f)) (call-mono v w own last (slice_get funs f) h)
code-mono funs v w own h last (Raise k bs) = most-refl a_jump
code-mono funs v w own h last (Try' q t k xs r u) =
    most-both (both a_label (code_bulk funs v own last t)) (both a_label (code_bulk funs w own last t)) (code_bulk funs v own last u) (code_bulk funs w own last u)
    (most-behind a_label (code_bulk funs v own last t) (code_bulk funs w own last t) (code-mono funs v w own h last t)) (code-mono funs v w own h last u)
code-mono funs v w own h last (Give bs) = most-refl a_jump

pub function-mono : (funs : List FlatFun) (v w : Bulks) (f : FlatFun) → Less f.group v w → IsAtMost (function_bulk funs v f) (function_bulk funs w f)
function-mono funs v w f h = most-behind a_label (code_bulk funs v f.group true f.body) (code_bulk funs w f.group true f.body) (code-mono funs v w f.group h true f.body)

-- the functions of a group, among any functions
pub sum-mono : (funs : List FlatFun) (v w : Bulks) (group : ℕ) (fs : List FlatFun) → Less group v w → IsAtMost (sum_bulk funs v group fs) (sum_bulk funs w group fs)
sum-mono funs v w group [] h = most-refl nothing
sum-mono funs v w group (f ∷ fs) h =
    most-both (if f.group == group then function_bulk funs v f else nothing) (if f.group == group then function_bulk funs w f else nothing) (sum_bulk funs v group fs) (sum_bulk funs w group fs)
    (most-if (f.group == group) (function_bulk funs v f) (function_bulk funs w f) (λ e. function-mono funs v w f (subst (λ g. Less g v w) (sym (eqb-true f.group group e)) h))) (sum-mono funs v w group fs h)

-- ---- a bound of the functions of each group bounds the groups

pub bounded : (funs : List FlatFun) (w : Bulks) → AreBulks funs w → (n group : ℕ) → IsAtMost (bulks_within funs n group) (w group)
bounded funs w h zero group = most-none (w group)
bounded funs w h (suc n) group =
    most-trans (sum_bulk funs (bulks_within funs n) group funs) (sum_bulk funs w group funs) (w group) (sum-mono funs (bulks_within funs n) w group funs (λ g le. bounded funs w h n g)) (h.by group)

pub main-bounded : (funs : List FlatFun) (w : Bulks) (main : ℕ) (f : FlatFun) → AreBulks funs w → slice_get funs main ≡ Some f → IsAtMost (bulk funs main) (both (both a_label a_jump) (w f.group))
main-bounded funs w main f h s =
    subst (λ o. IsAtMost (main_bulk funs o) (both (both a_label a_jump) (w f.group))) (sym s)
    (most-behind (both a_label a_jump) (group_bulk funs f.group) (w f.group) (bounded funs w h (suc f.group) f.group))

-- ---- more steps are enough

deeper : (funs : List FlatFun) (n group : ℕ) → IsAtMost (bulks_within funs n group) (bulks_within funs (suc n) group)
deeper funs zero group = most-none (bulks_within funs 1 group)
deeper funs (suc n) group = sum-mono funs (bulks_within funs n) (bulks_within funs (suc n)) group funs (λ g le. deeper funs n g)

much-deeper : (funs : List FlatFun) (k n group : ℕ) → IsAtMost (bulks_within funs n group) (bulks_within funs (n + k) group)
much-deeper funs zero n group = let same : n ≡ n + 0 = omega arith in subst (λ m. IsAtMost (bulks_within funs n group) (bulks_within funs m group)) same (most-refl (bulks_within funs n group))
much-deeper funs (suc k) n group =
    let same : suc (n + k) ≡ n + suc k = omega arith in
    subst (λ m. IsAtMost (bulks_within funs n group) (bulks_within funs m group)) same
    (most-trans (bulks_within funs n group) (bulks_within funs (n + k) group) (bulks_within funs (suc (n + k)) group) (much-deeper funs k n group) (deeper funs (n + k) group))

pub deep-enough : (funs : List FlatFun) (n m group : ℕ) → n ≤ m → IsAtMost (bulks_within funs n group) (bulks_within funs m group)
deep-enough funs n m group le =
    let same : n + (m - n) ≡ m = omega arith in subst (λ k. IsAtMost (bulks_within funs n group) (bulks_within funs k group)) same (much-deeper funs (m - n) n group)

-- the bulks of the groups are themselves such a bound
pub groups-are-bulks : (funs : List FlatFun) → AreBulks funs (group_bulk funs)
groups-are-bulks funs = record { by = λ group. sum-mono funs (group_bulk funs) (bulks_within funs group) group funs (λ g le. deep-enough funs (suc g) group g (omega arith)) }
