-- The widths of groups are the least that bound each function.
use Rattle.std.proofs.Common.{◌≡◌, ℕ, zero, suc, ◌+◌, ◌-◌, ◌≤◌, ◌<◌, max, Bool, true, false, nat_lt, ◌==◌, List, [], ◌∷◌, ◌++◌, refl, sym, subst, if◌then◌else◌, Option, Some, None, length, slice_get, arith}
use Rattle.std.proofs.lemmas.Bool.{ltb-true, eqb-true, eq-eqb}
use Rattle.nv_base.specs.Words.{prim_vars}
use Rattle.nv_base.specs.Sets.{different, without}
use Rattle.nv_base.specs.Measures.{operands_wide, let_wide, entry_wide, Widths}
use Rattle.nv_base.proofs.Measures.{max-mono, max-same}
use Rattle.cps_ir.specs.Term.{Term, Let, Read, Write, If, Fix, Call, Return, Throw, Jump, Halt, Labels, none, label, Fun}
use Rattle.cps_ir.specs.Wide.{Wants, with_wants, kept, wants, labels_want, inside, nowhere, call_wide, term_wide, labels_wide, function_wide, greatest_wide, widths_within, group_wide, main_wide, wide, AreWidths}

-- the first gives each group below this one at most what the second gives it
abbrev pub Less : ℕ → Widths → Widths → Type 0
Less own v w = (g : ℕ) → g < own → v g ≤ w g

call-at : (b : Bool) (m n : ℕ) → (b ≡ true → m ≤ n) → (if b then m else 0) ≤ (if b then n else 0)
call-at true m n h = h refl
call-at false m n h = omega arith

call-mono : (v w : Widths) (own held : ℕ) (o : Option Fun) → Less own v w → call_wide v own held o ≤ call_wide w own held o
call-mono v w own held (Some f) h = call-at (nat_lt f.group own) (held + v f.group) (held + w f.group) (λ e. let le : v f.group ≤ w f.group = h f.group (ltb-true f.group own e) in omega arith)
call-mono v w own held None h = omega arith

mutual
  pub term-mono : (funs : List Fun) (v w : Widths) (own : ℕ) → Less own v w → (phi : Wants) (t : Term) → term_wide funs v own phi t ≤ term_wide funs w own phi t
  term-mono funs v w own h phi (Let x a t) = max-same (let_wide (prim_vars a ++ without (wants phi t) (x ∷ []))) _ _ (term-mono funs v w own h phi t)
  term-mono funs v w own h phi (Read m xs a t) = max-same (max (operands_wide (without (wants phi t) xs) (a ∷ [])) (different (xs ++ wants phi t))) _ _ (term-mono funs v w own h phi t)
  term-mono funs v w own h phi (Write m a bs t) = max-same (operands_wide (wants phi t) (a ∷ bs)) _ _ (term-mono funs v w own h phi t)
  term-mono funs v w own h phi (If c a b t u) =
      max-same (operands_wide (wants phi t ++ wants phi u) (a ∷ b ∷ [])) _ _
      (max-mono (term_wide funs v own phi t) (term_wide funs w own phi t) (term_wide funs v own phi u) (term_wide funs w own phi u) (term-mono funs v w own h phi t) (term-mono funs v w own h phi u))
  term-mono funs v w own h phi (Fix ls t) =
      let held = labels_want (with_wants phi ls []) ls in
      max-mono (labels_wide funs v own (inside phi ls) held ls) (labels_wide funs w own (inside phi ls) held ls) (term_wide funs v own (inside phi ls) t) (term_wide funs w own (inside phi ls) t)
      (labels-mono funs v w own h (inside phi ls) held ls) (term-mono funs v w own h (inside phi ls) t)
  term-mono funs v w own h phi (Call f bs k hs) =
      max-same (operands_wide (kept phi k hs) bs) (call_wide v own (different (kept phi k hs)) (slice_get funs f)) (call_wide w own (different (kept phi k hs)) (slice_get funs f))
      (call-mono v w own (different (kept phi k hs)) (slice_get funs f) h)
  term-mono funs v w own h phi (Return bs) = omega arith
  term-mono funs v w own h phi (Throw e bs) = omega arith
  term-mono funs v w own h phi (Jump l bs) = omega arith
  term-mono funs v w own h phi (Halt e bs) = omega arith

  labels-mono : (funs : List Fun) (v w : Widths) (own : ℕ) → Less own v w → (phi : Wants) (held : List ℕ) (ls : Labels) → labels_wide funs v own phi held ls ≤ labels_wide funs w own phi held ls
  labels-mono funs v w own h phi held none = omega arith
  labels-mono funs v w own h phi held (label l xs t ls) =
      max-mono (max (entry_wide held (length xs)) (term_wide funs v own phi t)) (max (entry_wide held (length xs)) (term_wide funs w own phi t)) (labels_wide funs v own phi held ls) (labels_wide funs w own phi held ls)
      (max-same (entry_wide held (length xs)) (term_wide funs v own phi t) (term_wide funs w own phi t) (term-mono funs v w own h phi t)) (labels-mono funs v w own h phi held ls)

pub function-mono : (funs : List Fun) (v w : Widths) (f : Fun) → Less f.group v w → function_wide funs v f ≤ function_wide funs w f
function-mono funs v w f h = max-same (entry_wide [] (length f.params)) _ _ (term-mono funs v w f.group h nowhere f.body)

-- ---- groups

greatest-at : (b : Bool) (m n r k : ℕ) → (b ≡ true → m ≤ k) → r ≤ k → max (if b then m else 0) r ≤ k
greatest-at true m n r k h le = let first = h refl in omega arith
greatest-at false m n r k h le = omega arith

-- each function of the group is at most so wide
greatest-below : (funs : List Fun) (v : Widths) (group k : ℕ) (fs : List Fun) → ((i : ℕ) (f : Fun) → slice_get fs i ≡ Some f → f.group ≡ group → function_wide funs v f ≤ k) → greatest_wide funs v group fs ≤ k
greatest-below funs v group k [] h = omega arith
greatest-below funs v group k (f ∷ fs) h =
    greatest-at (f.group == group) (function_wide funs v f) 0 (greatest_wide funs v group fs) k (λ e. h 0 f refl (eqb-true f.group group e)) (greatest-below funs v group k fs (λ i g s e. h (suc i) g s e))

first-at : (b : Bool) (m r : ℕ) → b ≡ true → m ≤ max (if b then m else 0) r
first-at true m r e = omega arith
first-at false m r e = cc

pub rest-at : (m n r : ℕ) → m ≤ r → m ≤ max n r
rest-at m n r le = omega arith

-- a function of the group is at most as wide as the greatest
pub greatest-of : (funs : List Fun) (v : Widths) (fs : List Fun) (i : ℕ) (f : Fun) → slice_get fs i ≡ Some f → function_wide funs v f ≤ greatest_wide funs v f.group fs
greatest-of funs v [] i f s = cc
greatest-of funs v (g ∷ fs) zero f s =
    let same : g ≡ f = cc in
    subst (λ (h : Fun). function_wide funs v h ≤ greatest_wide funs v h.group (g ∷ fs)) same (first-at (g.group == g.group) (function_wide funs v g) (greatest_wide funs v g.group fs) (eq-eqb g.group g.group refl))
greatest-of funs v (g ∷ fs) (suc i) f s = rest-at (function_wide funs v f) (if g.group == f.group then function_wide funs v g else 0) (greatest_wide funs v f.group fs) (greatest-of funs v fs i f s)

-- ---- a bound of each function bounds the groups

pub bounded : (funs : List Fun) (w : Widths) → AreWidths funs w → (n group : ℕ) → widths_within funs n group ≤ w group
bounded funs w h zero group = omega arith
bounded funs w h (suc n) group =
    greatest-below funs (widths_within funs n) group (w group) funs
    (λ i f s e.
    let mono : function_wide funs (widths_within funs n) f ≤ function_wide funs w f = function-mono funs (widths_within funs n) w f (λ g le. bounded funs w h n g) in
    let own : function_wide funs w f ≤ w f.group = h.by i f s in
    let here : function_wide funs (widths_within funs n) f ≤ w f.group = omega arith in
    subst (λ g. function_wide funs (widths_within funs n) f ≤ w g) e here)

pub main-bounded : (funs : List Fun) (w : Widths) (main : ℕ) (f : Fun) → AreWidths funs w → slice_get funs main ≡ Some f → wide funs main ≤ w f.group
main-bounded funs w main f h s = subst (λ o. main_wide funs o ≤ w f.group) (sym s) (bounded funs w h (suc f.group) f.group)

-- ---- more steps are enough

deeper : (funs : List Fun) (n group : ℕ) → widths_within funs n group ≤ widths_within funs (suc n) group
deeper funs zero group = omega arith
deeper funs (suc n) group =
    greatest-below funs (widths_within funs n) group (widths_within funs (suc (suc n)) group) funs
    (λ i f s e.
    let mono : function_wide funs (widths_within funs n) f ≤ function_wide funs (widths_within funs (suc n)) f = function-mono funs (widths_within funs n) (widths_within funs (suc n)) f (λ g le. deeper funs n g) in
    let top : function_wide funs (widths_within funs (suc n)) f ≤ greatest_wide funs (widths_within funs (suc n)) f.group funs = greatest-of funs (widths_within funs (suc n)) funs i f s in
    let here : function_wide funs (widths_within funs n) f ≤ greatest_wide funs (widths_within funs (suc n)) f.group funs = omega arith in
    subst (λ g. function_wide funs (widths_within funs n) f ≤ greatest_wide funs (widths_within funs (suc n)) g funs) e here)

much-deeper : (funs : List Fun) (k n group : ℕ) → widths_within funs n group ≤ widths_within funs (n + k) group
much-deeper funs zero n group = let same : n ≡ n + 0 = omega arith in subst (λ m. widths_within funs n group ≤ widths_within funs m group) same (omega arith)
much-deeper funs (suc k) n group =
    let less : widths_within funs n group ≤ widths_within funs (n + k) group = much-deeper funs k n group in
    let step : widths_within funs (n + k) group ≤ widths_within funs (suc (n + k)) group = deeper funs (n + k) group in
    let both' : widths_within funs n group ≤ widths_within funs (suc (n + k)) group = omega (arith, less, step) in
    let same : suc (n + k) ≡ n + suc k = omega arith in
    subst (λ m. widths_within funs n group ≤ widths_within funs m group) same both'

pub deep-enough : (funs : List Fun) (n m group : ℕ) → n ≤ m → widths_within funs n group ≤ widths_within funs m group
deep-enough funs n m group le =
    let same : n + (m - n) ≡ m = omega arith in subst (λ k. widths_within funs n group ≤ widths_within funs k group) same (much-deeper funs (m - n) n group)

-- the widths of the groups are themselves such a bound
pub groups-are-widths : (funs : List Fun) → AreWidths funs (group_wide funs)
groups-are-widths funs = record {
  by = λ i f s.
      let mono : function_wide funs (group_wide funs) f ≤ function_wide funs (widths_within funs f.group) f =
      function-mono funs (group_wide funs) (widths_within funs f.group) f (λ g le. deep-enough funs (suc g) f.group g (omega arith))
      in
      let top : function_wide funs (widths_within funs f.group) f ≤ greatest_wide funs (widths_within funs f.group) f.group funs = greatest-of funs (widths_within funs f.group) funs i f s in
      let all : function_wide funs (group_wide funs) f ≤ greatest_wide funs (widths_within funs f.group) f.group funs = omega arith in
      all;
}
