-- The widths of groups are the least that bound each function.
use Rattle.std.proofs.Common.{◌≡◌, ℕ, zero, suc, ◌+◌, ◌-◌, ◌≤◌, ◌<◌, max, Bool, true, false, nat_lt, ◌==◌, List, [], ◌∷◌, ◌++◌, refl, sym, subst, if◌then◌else◌, Option, Some, None, length, slice_get, arith}
use Rattle.std.proofs.lemmas.Bool.{ltb-true, eqb-true, eq-eqb}
use Rattle.nv_base.specs.Words.{prim_vars}
use Rattle.nv_base.proofs.Measures.{max-mono, max-same}
use Rattle.flat_ir.specs.declared.flat.Flat.{Flat}
use Rattle.flat_ir.specs.declared.flat.Flat.TheVariants.{Let', Fetch', Store', If', Bind', Call, Raise, Try', Give}
use Rattle.flat_ir.specs.declared.flat.FlatFun.{FlatFun}
use Rattle.nv_base.specs.Sets.{different, without}
use Rattle.nv_base.specs.Measures.{operands_wide, let_wide, entry_wide}
use Rattle.flat_ir.specs.Wide.{live, Widths, call_wide, code_wide, function_wide, greatest_wide, widths_within, group_wide, main_wide, wide, AreWidths}

-- the first gives each group below this one at most what the second gives it
abbrev pub Less : ℕ → Widths → Widths → Type 0
Less own v w = (g : ℕ) → g < own → v g ≤ w g

call-at : (b : Bool) (m n : ℕ) → (b ≡ true → m ≤ n) → (if b then m else 0) ≤ (if b then n else 0)
call-at true m n h = h refl
call-at false m n h = omega arith

call-mono : (v w : Widths) (own held : ℕ) (o : Option FlatFun) → Less own v w → call_wide v own held o ≤ call_wide w own held o
call-mono v w own held (Some f) h =
    call-at (nat_lt f.group own) (held + max (v f.group) (f.results + 1)) (held + max (w f.group) (f.results + 1)) (λ e. let le : v f.group ≤ w f.group = h f.group (ltb-true f.group own e) in omega arith)
call-mono v w own held None h = omega arith

pub code-mono : (funs : List FlatFun) (v w : Widths) (own : ℕ) → Less own v w → (outside : List ℕ) (t : Flat) → code_wide funs v own outside t ≤ code_wide funs w own outside t
code-mono funs v w own h outside (Let' x a q t) = max-same (let_wide (outside ++ (prim_vars a ++ without (live t) (x ∷ [])))) _ _ (code-mono funs v w own h outside t)
code-mono funs v w own h outside (Fetch' m xs a q t) =
    max-same (max (operands_wide (outside ++ without (live t) xs.items) (a ∷ [])) (different (outside ++ (xs.items ++ live t)))) _ _ (code-mono funs v w own h outside t)
code-mono funs v w own h outside (Store' m a bs q t) = max-same (operands_wide (outside ++ live t) (a ∷ bs.items)) _ _ (code-mono funs v w own h outside t)
code-mono funs v w own h outside (If' c a b q t r u) =
    max-same (operands_wide (outside ++ (live t ++ live u)) (a ∷ b ∷ [])) _ _
    (max-mono (code_wide funs v own outside t) (code_wide funs w own outside t) (code_wide funs v own outside u) (code_wide funs w own outside u) (code-mono funs v w own h outside t) (code-mono funs v w own h outside u))
code-mono funs v w own h outside (Bind' xs q t r u) =
    let held = outside ++ without (live u) xs.items in
    max-mono (max (code_wide funs v own held t) (entry_wide held (length xs.items))) (max (code_wide funs w own held t) (entry_wide held (length xs.items))) (code_wide funs v own outside u) (code_wide funs w own outside u)
    (max-mono (code_wide funs v own held t) (code_wide funs w own held t) (entry_wide held (length xs.items)) (entry_wide held (length xs.items)) (code-mono funs v w own h held t) (omega arith)) (code-mono funs v w own h outside u)
code-mono funs v w own h outside (Call f bs) =
    max-same (operands_wide outside bs.items) (call_wide v own (different outside) (slice_get funs f)) (call_wide w own (different outside) (slice_get funs f)) (call-mono v w own (different outside) (slice_get funs f) h)
code-mono funs v w own h outside (Raise k bs) = omega arith
code-mono funs v w own h outside (Try' q t k xs r u) =
    let held = outside ++ without (live u) xs.items in
    max-mono (max (code_wide funs v own held t) (entry_wide held (length xs.items))) (max (code_wide funs w own held t) (entry_wide held (length xs.items))) (code_wide funs v own outside u) (code_wide funs w own outside u)
    (max-mono (code_wide funs v own held t) (code_wide funs w own held t) (entry_wide held (length xs.items)) (entry_wide held (length xs.items)) (code-mono funs v w own h held t) (omega arith)) (code-mono funs v w own h outside u)
code-mono funs v w own h outside (Give bs) = omega arith

pub function-mono : (funs : List FlatFun) (v w : Widths) (f : FlatFun) → Less f.group v w → function_wide funs v f ≤ function_wide funs w f
function-mono funs v w f h = max-same (entry_wide [] (length f.params.items)) _ _ (code-mono funs v w f.group h [] f.body)

-- ---- groups

greatest-at : (b : Bool) (m n r k : ℕ) → (b ≡ true → m ≤ k) → r ≤ k → max (if b then m else 0) r ≤ k
greatest-at true m n r k h le = let first = h refl in omega arith
greatest-at false m n r k h le = omega arith

-- each function of the group is at most so wide
greatest-below : (funs : List FlatFun) (v : Widths) (group k : ℕ) (fs : List FlatFun) → ((i : ℕ) (f : FlatFun) → slice_get fs i ≡ Some f → f.group ≡ group → function_wide funs v f ≤ k) → greatest_wide funs v group fs ≤ k
greatest-below funs v group k [] h = omega arith
greatest-below funs v group k (f ∷ fs) h =
    greatest-at (f.group == group) (function_wide funs v f) 0 (greatest_wide funs v group fs) k (λ e. h 0 f refl (eqb-true f.group group e)) (greatest-below funs v group k fs (λ i g s e. h (suc i) g s e))

first-at : (b : Bool) (m r : ℕ) → b ≡ true → m ≤ max (if b then m else 0) r
first-at true m r e = omega arith
first-at false m r e = cc

rest-at : (m n r : ℕ) → m ≤ r → m ≤ max n r
rest-at m n r le = omega arith

-- a function of the group is at most as wide as the greatest
greatest-of : (funs : List FlatFun) (v : Widths) (fs : List FlatFun) (i : ℕ) (f : FlatFun) → slice_get fs i ≡ Some f → function_wide funs v f ≤ greatest_wide funs v f.group fs
greatest-of funs v [] i f s = cc
greatest-of funs v (g ∷ fs) zero f s =
    let same : g ≡ f = cc in
    subst (λ (h : FlatFun). function_wide funs v h ≤ greatest_wide funs v h.group (g ∷ fs)) same (first-at (g.group == g.group) (function_wide funs v g) (greatest_wide funs v g.group fs) (eq-eqb g.group g.group refl))
greatest-of funs v (g ∷ fs) (suc i) f s = rest-at (function_wide funs v f) (if g.group == f.group then function_wide funs v g else 0) (greatest_wide funs v f.group fs) (greatest-of funs v fs i f s)

-- ---- a bound of each function bounds the groups

pub bounded : (funs : List FlatFun) (w : Widths) → AreWidths funs w → (n group : ℕ) → widths_within funs n group ≤ w group
bounded funs w h zero group = omega arith
bounded funs w h (suc n) group =
    greatest-below funs (widths_within funs n) group (w group) funs
    (λ i f s e.
    let mono : function_wide funs (widths_within funs n) f ≤ function_wide funs w f = function-mono funs (widths_within funs n) w f (λ g le. bounded funs w h n g) in
    let own : function_wide funs w f ≤ w f.group = h.by i f s in
    let here : function_wide funs (widths_within funs n) f ≤ w f.group = omega arith in
    subst (λ g. function_wide funs (widths_within funs n) f ≤ w g) e here)

pub main-bounded : (funs : List FlatFun) (w : Widths) (main : ℕ) (f : FlatFun) → AreWidths funs w → slice_get funs main ≡ Some f → wide funs main ≤ w f.group
main-bounded funs w main f h s = subst (λ o. main_wide funs o ≤ w f.group) (sym s) (bounded funs w h (suc f.group) f.group)

-- ---- more steps are enough

deeper : (funs : List FlatFun) (n group : ℕ) → widths_within funs n group ≤ widths_within funs (suc n) group
deeper funs zero group = omega arith
deeper funs (suc n) group =
    greatest-below funs (widths_within funs n) group (widths_within funs (suc (suc n)) group) funs
    (λ i f s e.
    let mono : function_wide funs (widths_within funs n) f ≤ function_wide funs (widths_within funs (suc n)) f = function-mono funs (widths_within funs n) (widths_within funs (suc n)) f (λ g le. deeper funs n g) in
    let top : function_wide funs (widths_within funs (suc n)) f ≤ greatest_wide funs (widths_within funs (suc n)) f.group funs = greatest-of funs (widths_within funs (suc n)) funs i f s in
    let here : function_wide funs (widths_within funs n) f ≤ greatest_wide funs (widths_within funs (suc n)) f.group funs = omega arith in
    subst (λ g. function_wide funs (widths_within funs n) f ≤ greatest_wide funs (widths_within funs (suc n)) g funs) e here)

much-deeper : (funs : List FlatFun) (k n group : ℕ) → widths_within funs n group ≤ widths_within funs (n + k) group
much-deeper funs zero n group = let same : n ≡ n + 0 = omega arith in subst (λ m. widths_within funs n group ≤ widths_within funs m group) same (omega arith)
much-deeper funs (suc k) n group =
    let less : widths_within funs n group ≤ widths_within funs (n + k) group = much-deeper funs k n group in
    let step : widths_within funs (n + k) group ≤ widths_within funs (suc (n + k)) group = deeper funs (n + k) group in
    let both' : widths_within funs n group ≤ widths_within funs (suc (n + k)) group = omega (arith, less, step) in
    let same : suc (n + k) ≡ n + suc k = omega arith in
    subst (λ m. widths_within funs n group ≤ widths_within funs m group) same both'

pub deep-enough : (funs : List FlatFun) (n m group : ℕ) → n ≤ m → widths_within funs n group ≤ widths_within funs m group
deep-enough funs n m group le =
    let same : n + (m - n) ≡ m = omega arith in subst (λ k. widths_within funs n group ≤ widths_within funs k group) same (much-deeper funs (m - n) n group)

-- the widths of the groups are themselves such a bound
pub groups-are-widths : (funs : List FlatFun) → AreWidths funs (group_wide funs)
groups-are-widths funs = record {
  by = λ i f s.
      let mono : function_wide funs (group_wide funs) f ≤ function_wide funs (widths_within funs f.group) f =
      function-mono funs (group_wide funs) (widths_within funs f.group) f (λ g le. deep-enough funs (suc g) f.group g (omega arith))
      in
      let top : function_wide funs (widths_within funs f.group) f ≤ greatest_wide funs (widths_within funs f.group) f.group funs = greatest-of funs (widths_within funs f.group) funs i f s in
      let all : function_wide funs (group_wide funs) f ≤ greatest_wide funs (widths_within funs f.group) f.group funs = omega arith in
      all;
}
