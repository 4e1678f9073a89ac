-- The bulks of groups are the least that bound their functions together.
use Rattle.std.proofs.Common.{◌≡◌, ℕ, zero, suc, ◌+◌, ◌-◌, ◌≤◌, ◌<◌, nat_lt, ◌==◌, List, [], ◌∷◌, sym, subst, if◌then◌else◌, Option, Some, None, length, slice_get, arith}
use Rattle.std.proofs.lemmas.Bool.{ltb-true, eqb-true}
use Rattle.nv_base.specs.Measures.{Bulks, nothing, a_label, a_jump, a_node, both, IsAtMost}
use Rattle.nv_base.proofs.Measures.{most-refl, most-trans, most-none, most-both, most-behind, most-if}
use Rattle.cps_ir.specs.Term.{Term, Let, Read, Write, If, Fix, Call, Return, Throw, Jump, Halt, Labels, none, label, Fun}
use Rattle.cps_ir.specs.Bulk.{call_bulk, term_bulk, labels_bulk, function_bulk, sum_bulk, bulks_within, group_bulk, main_bulk, bulk, AreBulks}

-- the first gives each group below this one at most what the second gives it
abbrev pub Less : ℕ → Bulks → Bulks → Type 0
Less own v w = (g : ℕ) → g < own → IsAtMost (v g) (w g)

call-mono : (v w : Bulks) (own : ℕ) (o : Option Fun) → Less own v w → IsAtMost (call_bulk v own o) (call_bulk w own o)
call-mono v w own (Some f) h = most-if (nat_lt f.group own) (v f.group) (w f.group) (λ e. h f.group (ltb-true f.group own e))
call-mono v w own None h = most-refl nothing

mutual
  pub term-mono : (funs : List Fun) (v w : Bulks) (own : ℕ) → Less own v w → (t : Term) → IsAtMost (term_bulk funs v own t) (term_bulk funs w own t)
  term-mono funs v w own h (Let x a t) = most-behind (a_node 1 2) (term_bulk funs v own t) (term_bulk funs w own t) (term-mono funs v w own h t)
  term-mono funs v w own h (Read m xs a t) = most-behind (a_node (length xs) 1) (term_bulk funs v own t) (term_bulk funs w own t) (term-mono funs v w own h t)
  term-mono funs v w own h (Write m a bs t) = most-behind (a_node 0 (1 + length bs)) (term_bulk funs v own t) (term_bulk funs w own t) (term-mono funs v w own h t)
  term-mono funs v w own h (If c a b t u) =
      most-behind (a_node 0 2) (both (term_bulk funs v own t) (term_bulk funs v own u)) (both (term_bulk funs w own t) (term_bulk funs w own u))
      (most-both (term_bulk funs v own t) (term_bulk funs w own t) (term_bulk funs v own u) (term_bulk funs w own u) (term-mono funs v w own h t) (term-mono funs v w own h u))
  term-mono funs v w own h (Fix ls t) =
      most-both (labels_bulk funs v own ls) (labels_bulk funs w own ls) (term_bulk funs v own t) (term_bulk funs w own t) (labels-mono funs v w own h ls) (term-mono funs v w own h t)
  term-mono funs v w own h (Call f bs k hs) = most-behind a_jump (call_bulk v own (slice_get funs f)) (call_bulk w own (slice_get funs f)) (call-mono v w own (slice_get funs f) h)
  term-mono funs v w own h (Return bs) = most-refl a_jump
  term-mono funs v w own h (Throw e bs) = most-refl a_jump
  term-mono funs v w own h (Jump l bs) = most-refl a_jump
  term-mono funs v w own h (Halt e bs) = most-refl a_jump

  labels-mono : (funs : List Fun) (v w : Bulks) (own : ℕ) → Less own v w → (ls : Labels) → IsAtMost (labels_bulk funs v own ls) (labels_bulk funs w own ls)
  labels-mono funs v w own h none = most-refl nothing
  labels-mono funs v w own h (label l xs t ls) =
      most-both (both a_label (term_bulk funs v own t)) (both a_label (term_bulk funs w own t)) (labels_bulk funs v own ls) (labels_bulk funs w own ls)
      (most-behind a_label (term_bulk funs v own t) (term_bulk funs w own t) (term-mono funs v w own h t)) (labels-mono funs v w own h ls)

pub function-mono : (funs : List Fun) (v w : Bulks) (f : Fun) → Less f.group v w → IsAtMost (function_bulk funs v f) (function_bulk funs w f)
function-mono funs v w f h = most-behind a_label (term_bulk funs v f.group f.body) (term_bulk funs w f.group f.body) (term-mono funs v w f.group h f.body)

-- the functions of a group, among any functions
pub sum-mono : (funs : List Fun) (v w : Bulks) (group : ℕ) (fs : List Fun) → Less group v w → IsAtMost (sum_bulk funs v group fs) (sum_bulk funs w group fs)
sum-mono funs v w group [] h = most-refl nothing
sum-mono funs v w group (f ∷ fs) h =
    most-both (if f.group == group then function_bulk funs v f else nothing) (if f.group == group then function_bulk funs w f else nothing) (sum_bulk funs v group fs) (sum_bulk funs w group fs)
    (most-if (f.group == group) (function_bulk funs v f) (function_bulk funs w f) (λ e. function-mono funs v w f (subst (λ g. Less g v w) (sym (eqb-true f.group group e)) h))) (sum-mono funs v w group fs h)

-- ---- a bound of the functions of each group bounds the groups

pub bounded : (funs : List Fun) (w : Bulks) → AreBulks funs w → (n group : ℕ) → IsAtMost (bulks_within funs n group) (w group)
bounded funs w h zero group = most-none (w group)
bounded funs w h (suc n) group =
    most-trans (sum_bulk funs (bulks_within funs n) group funs) (sum_bulk funs w group funs) (w group) (sum-mono funs (bulks_within funs n) w group funs (λ g le. bounded funs w h n g)) (h.by group)

pub main-bounded : (funs : List Fun) (w : Bulks) (main : ℕ) (f : Fun) → AreBulks funs w → slice_get funs main ≡ Some f → IsAtMost (bulk funs main) (both (both a_label a_jump) (w f.group))
main-bounded funs w main f h s =
    subst (λ o. IsAtMost (main_bulk funs o) (both (both a_label a_jump) (w f.group))) (sym s)
    (most-behind (both a_label a_jump) (group_bulk funs f.group) (w f.group) (bounded funs w h (suc f.group) f.group))

-- ---- more steps are enough

deeper : (funs : List Fun) (n group : ℕ) → IsAtMost (bulks_within funs n group) (bulks_within funs (suc n) group)
deeper funs zero group = most-none (bulks_within funs 1 group)
deeper funs (suc n) group = sum-mono funs (bulks_within funs n) (bulks_within funs (suc n)) group funs (λ g le. deeper funs n g)

much-deeper : (funs : List Fun) (k n group : ℕ) → IsAtMost (bulks_within funs n group) (bulks_within funs (n + k) group)
much-deeper funs zero n group = let same : n ≡ n + 0 = omega arith in subst (λ m. IsAtMost (bulks_within funs n group) (bulks_within funs m group)) same (most-refl (bulks_within funs n group))
much-deeper funs (suc k) n group =
    let same : suc (n + k) ≡ n + suc k = omega arith in
    subst (λ m. IsAtMost (bulks_within funs n group) (bulks_within funs m group)) same
    (most-trans (bulks_within funs n group) (bulks_within funs (n + k) group) (bulks_within funs (suc (n + k)) group) (much-deeper funs k n group) (deeper funs (n + k) group))

pub deep-enough : (funs : List Fun) (n m group : ℕ) → n ≤ m → IsAtMost (bulks_within funs n group) (bulks_within funs m group)
deep-enough funs n m group le =
    let same : n + (m - n) ≡ m = omega arith in subst (λ k. IsAtMost (bulks_within funs n group) (bulks_within funs k group)) same (much-deeper funs (m - n) n group)

-- the bulks of the groups are themselves such a bound
pub groups-are-bulks : (funs : List Fun) → AreBulks funs (group_bulk funs)
groups-are-bulks funs = record { by = λ group. sum-mono funs (group_bulk funs) (bulks_within funs group) group funs (λ g le. deep-enough funs (suc g) group g (omega arith)) }
