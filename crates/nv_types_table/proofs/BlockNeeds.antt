-- The needs of a block's steps, one after another.
use Rattle.std.proofs.Common.{◌≡◌, ◌∙◌, refl, ap, sym, subst, ℕ, ◌+◌, ◌-◌, ◌<◌, ◌≤◌, min, max, Bool, true, false, cond, List, ◌∷◌, ◌++◌, take, drop, length, get_or, Option, None, Some, arith, append_assoc, append-nil, nat_lt, suc, add-one, []}
use Rattle.std.specs.Prelude.{◌↔◌, IsTrue, option_map}
use Rattle.std.specs.Borrow.{Bor}
use Rattle.std.specs.List.{list_any}
use Rattle.std.proofs.lemmas.Bool.{false≢true, lt-ltb, le-ltb, ltb-true}
use Rattle.std.proofs.Math.Seq.{drop-cons}
use Rattle.std.proofs.lemmas.List.{drop_all}
use Rattle.nv_ast.specs.declared.tree.Pat.{Pat}
use Rattle.nv_ast.specs.PatternView.{pattern_tree}
use Rattle.nv_ast.specs.Tests.{is_among}
use Rattle.nv_ast.specs.Scope.{names_in}
use Rattle.nv_ast.specs.Sizes.{pending, Lets}
use Rattle.nv_ast.proofs.Items.{take_item}
use Rattle.nv_types_table.specs.declared.needs.Step.{Step}
use Rattle.nv_types_table.specs.declared.needs.OpenNeed.{OpenNeed}
use Rattle.nv_types_table.specs.inner.Cells.{most, still}
use Rattle.nv_types_table.specs.inner.Needs.{IsEnd, pattern_lets, step_lets, held_for, held_at, block_needs}

-- the lets of some steps
abbrev pub lets_of : List Step → Lets
lets_of [] = []
lets_of (s ∷ ss) = step_lets s ++ lets_of ss

lets-append : (xs : List Step) (s : Step) → lets_of (xs ++ s ∷ []) ≡ lets_of xs ++ step_lets s
lets-append [] s = append-nil (step_lets s)
lets-append (x ∷ xs) s = ap (λ l. step_lets x ++ l) (lets-append xs s) ∙ sym (append_assoc (step_lets x) (lets_of xs) (step_lets s))

pub lets_more : (xs : List Step) (i : ℕ) (s : Step) → i < length xs → s ≡ get_or xs i s → lets_of (take (i + 1) xs) ≡ lets_of (take i xs) ++ step_lets s
lets_more xs i s h e = ap lets_of (take_item xs i s h e) ∙ lets-append (take i xs) s

pub pending-append : (xs ys : Lets) (w : List (List ℕ)) → pending (xs ++ ys) w ≡ pending xs w + pending ys w
pending-append [] ys w = omega arith
pending-append ((names, n) ∷ xs) ys w = omega (arith, pending-append xs ys w)

pub held-append : (xs ys : List OpenNeed) (at : ℕ) → held_for (xs ++ ys) at ≡ held_for xs at + held_for ys at
held-append [] ys at = omega arith
held-append (x ∷ xs) ys at = omega (arith, held-append xs ys at)

-- what is held is what lets hold
abbrev pub HoldsLets : ℕ → List (List ℕ) → Lets → List OpenNeed → Type 0
HoldsLets first xs lets held = (at : ℕ) → held_for held at ≡ pending lets (drop (at - first) xs)

pub no_lets : (first : ℕ) (xs : List (List ℕ)) → HoldsLets first xs [] []
no_lets first xs at = refl

same_test : (b : Bool) (at until : ℕ) → (IsTrue b ↔ (at < until)) → b ≡ nat_lt at until
same_test true at until h = sym (lt-ltb at until (h.0 refl))
same_test false at until h = by (nat_lt at until) refl
  where
    by : (c : Bool) → nat_lt at until ≡ c → false ≡ c
    by false e = refl
    by true e = absurd (false≢true (h.1 (ltb-true at until e)))

-- one more let is held
pub holds_more : (first : ℕ) (xs : List (List ℕ)) (lets : Lets) (held : List OpenNeed) (names : List (List ℕ)) (h : OpenNeed)
    → HoldsLets first xs lets held → IsEnd first xs names h.until → HoldsLets first xs (lets ++ (names, h.words) ∷ []) (held ++ h ∷ [])
holds_more first xs lets held names h was is at =
    let w = drop (at - first) xs in
    let one : held_for (h ∷ []) at ≡ pending ((names, h.words) ∷ []) w = ap (λ b. cond b h.words 0 + 0) (sym (same_test (list_any (λ x. is_among x w) names) at h.until (is at))) in
    held-append held (h ∷ []) at ∙ ap (λ n. n + held_for (h ∷ []) at) (was at) ∙ ap (λ n. pending lets w + n) one ∙ sym (pending-append lets ((names, h.words) ∷ []) w)

-- how far the walk over the steps has come: with what is left, the greatest need is that of all
abbrev pub NeedSo : ℕ → List (List ℕ) → List Step → ℕ → ℕ → ℕ → ℕ → Type 0
NeedSo first xs steps i last need greatest = max greatest (block_needs xs first (lets_of (take i steps)) (drop i steps) last need) ≡ block_needs xs first [] steps last need

at_step : (xs : List Step) (i : ℕ) (s : Step) → i < length xs → s ≡ get_or xs i s → drop i xs ≡ s ∷ drop (i + 1) xs
at_step xs i s h e = drop-cons xs i s h ∙ ap (λ q. q ∷ drop (suc i) xs) (sym e) ∙ ap (λ k. s ∷ drop k xs) (sym (add-one i))

pub need_start : (first : ℕ) (xs : List (List ℕ)) (steps : List Step) (last need : ℕ) → NeedSo first xs steps 0 last need 0
need_start first xs steps last need = max_none (block_needs xs first [] steps last need)
  where
    max_none : (n : ℕ) → max 0 n ≡ n
    max_none n = omega arith

pub need_step : (first : ℕ) (xs : List (List ℕ)) (steps : List Step) (i : ℕ) (s : Step) (last need greatest waiting new : ℕ) (held : List OpenNeed)
    → i < length steps → s ≡ get_or steps i s → HoldsLets first xs (lets_of (take i steps)) held → NeedSo first xs steps i last need greatest
    → waiting ≡ still (held_for held s.before) → new ≡ max greatest (min (waiting + s.need) most)
    → NeedSo first xs steps (i + 1) last need new
need_step first xs steps i s last need greatest waiting new held lt e holds was w n =
    let lets = lets_of (take i steps) in
    let left = block_needs xs first (lets ++ step_lets s) (drop (i + 1) steps) last need in
    let here : waiting ≡ held_at first xs lets s.before = w ∙ ap still (holds s.before) in
    let one : block_needs xs first lets (drop i steps) last need ≡ max (still (held_at first xs lets s.before + s.need)) left = ap (λ l. block_needs xs first lets l last need) (at_step steps i s lt e) in
    let next : block_needs xs first (lets_of (take (i + 1) steps)) (drop (i + 1) steps) last need ≡ left = ap (λ l. block_needs xs first l (drop (i + 1) steps) last need) (lets_more steps i s lt e) in
    ap (λ b. max new b) next ∙ grouped greatest (held_at first xs lets s.before) waiting s.need new left (block_needs xs first lets (drop i steps) last need) here n one ∙ was
  where
    grouped : (g h v m b l whole : ℕ) → v ≡ h → b ≡ max g (min (v + m) most) → whole ≡ max (min (h + m) most) l → max b l ≡ max g whole
    grouped g h v m b l whole p q r = omega (arith, p, q, r)

pub need_end : (first : ℕ) (xs : List (List ℕ)) (steps : List Step) (i last need greatest waiting : ℕ) (held : List OpenNeed)
    → length steps ≤ i → HoldsLets first xs (lets_of (take i steps)) held → NeedSo first xs steps i last need greatest
    → waiting ≡ still (held_for held last) → max greatest (min (waiting + need) most) ≡ block_needs xs first [] steps last need
need_end first xs steps i last need greatest waiting held past holds was w =
    let lets = lets_of (take i steps) in
    let here : waiting ≡ held_at first xs lets last = w ∙ ap still (holds last) in
    let one : block_needs xs first lets (drop i steps) last need ≡ still (held_at first xs lets last + need) = ap (λ l. block_needs xs first lets l last need) (drop_all i steps past) in
    ap (λ n. max greatest (min (n + need) most)) here ∙ ap (λ n. max greatest n) (sym one) ∙ was

-- one more step: a let is held, anything else is not
pub let_held : (first : ℕ) (xs : List (List ℕ)) (steps : List Step) (i : ℕ) (s : Step) (held new : List OpenNeed) (p : Bor Pat) (until : ℕ)
    → i < length steps → s ≡ get_or steps i s → s.pattern ≡ Some p → HoldsLets first xs (lets_of (take i steps)) held → IsEnd first xs (names_in (pattern_tree p.now)) until
    → new ≡ held ++ record { words = s.words; until = until } ∷ [] → HoldsLets first xs (lets_of (take (i + 1) steps)) new
let_held first xs steps i s held new p until lt e is was end_is fresh =
    let lets = lets_of (take i steps) in
    let h : OpenNeed = record { words = s.words; until = until } in
    let one : step_lets s ≡ (names_in (pattern_tree p.now), s.words) ∷ [] = ap (λ (o : Option (Bor Pat)). pattern_lets (option_map (λ (q : Bor Pat). q.now) o) s.words) is in
    let whole : lets_of (take (i + 1) steps) ≡ lets ++ (names_in (pattern_tree p.now), s.words) ∷ [] = lets_more steps i s lt e ∙ ap (λ l. lets ++ l) one in
    subst (λ (l : Lets). HoldsLets first xs l new) (sym whole)
    (subst (λ (hs : List OpenNeed). HoldsLets first xs (lets ++ (names_in (pattern_tree p.now), s.words) ∷ []) hs) (sym fresh)
    (holds_more first xs lets held (names_in (pattern_tree p.now)) h was end_is))

pub no_let_held : (first : ℕ) (xs : List (List ℕ)) (steps : List Step) (i : ℕ) (s : Step) (held : List OpenNeed)
    → i < length steps → s ≡ get_or steps i s → s.pattern ≡ None → HoldsLets first xs (lets_of (take i steps)) held → HoldsLets first xs (lets_of (take (i + 1) steps)) held
no_let_held first xs steps i s held lt e is was =
    let lets = lets_of (take i steps) in
    let one : step_lets s ≡ [] = ap (λ (o : Option (Bor Pat)). pattern_lets (option_map (λ (q : Bor Pat). q.now) o) s.words) is in
    let whole : lets_of (take (i + 1) steps) ≡ lets = lets_more steps i s lt e ∙ ap (λ l. lets ++ l) one ∙ append-nil lets in
    subst (λ (l : Lets). HoldsLets first xs l held) (sym whole) was

-- ---- what is held for a place, one let after another
pub held_more : (xs : List OpenNeed) (i : ℕ) (h : OpenNeed) (at : ℕ) → i < length xs → h ≡ get_or xs i h → held_for (take (i + 1) xs) at ≡ held_for (take i xs) at + held_for (h ∷ []) at
held_more xs i h at lt e = ap (λ l. held_for l at) (take_item xs i h lt e) ∙ held-append (take i xs) (h ∷ []) at

pub held_then : (hs : List OpenNeed) (i : ℕ) (h d : OpenNeed) (at words new : ℕ) → i < length hs → h ≡ get_or hs i h → words ≡ still (held_for (take i hs) at) → at < h.until → new ≡ min (words + h.words) most → new ≡ still (held_for (take (i + 1) hs) at)
held_then hs i h d at words new lt e before live after =
    let one : held_for (h ∷ []) at ≡ h.words + 0 = ap (λ b. cond b h.words 0 + 0) (lt-ltb at h.until live) in
    omega (arith, held_more hs i h at lt e, one, before, after)

pub held_else : (hs : List OpenNeed) (i : ℕ) (h d : OpenNeed) (at words : ℕ) → i < length hs → h ≡ get_or hs i h → words ≡ still (held_for (take i hs) at) → h.until ≤ at → words ≡ still (held_for (take (i + 1) hs) at)
held_else hs i h d at words lt e before dead =
    let one : held_for (h ∷ []) at ≡ 0 + 0 = ap (λ b. cond b h.words 0 + 0) (le-ltb at h.until dead) in
    omega (arith, held_more hs i h at lt e, one, before)
