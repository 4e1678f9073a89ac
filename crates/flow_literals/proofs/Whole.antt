-- Labels that take literals make a flow that is as the first one.
use Rattle.std.proofs.Common.{◌≡◌, ℕ, zero, suc, ◌+◌, ◌<◌, nat_le, true, false, ◌&&◌, List, [], ◌∷◌, ◌++◌, Some, map, refl, sym, ap, subst, ◌∙◌, length, slice_get, get_or, take, arith}
use Rattle.std.specs.List.{list_all, range_with_len}
use Rattle.std.specs.declared.vec.Vec.{Vec}
use Rattle.std.specs.declared.alloc.Global.{Global}
use Rattle.std.proofs.lemmas.Bool.{and_parts, and_from, false≢true, false_from_ne_true, eqb-true, eq-eqb}
use Rattle.std.proofs.lemmas.List.{map_more, length-map, length-take-le, map_push, length-append, append_assoc}
use Rattle.std.proofs.lemmas.List.FromFn.{length-range_with_len}
use Rattle.nv_base.specs.declared.term.Atom.{Atom}
use Rattle.nv_base.specs.Meanings.{AreEqual}
use Rattle.nv_base.specs.Sets.{is_in, all_different}
use Rattle.nv_base.specs.Words.{word, assigned_all}
use Rattle.nv_base.specs.World.{World, begun}
use Rattle.nv_base.proofs.Sets.{within-left, within-right}
use Rattle.flow_ir.specs.Formed.{defined, is_formed, is_label, is_entry, is_flow, takes_as_many}
use Rattle.flow_ir.specs.Meaning.{Next, does, blank, enter, run, flow_meaning, flow_params}
use Rattle.flow_ir.specs.Tree.{Label}
use Rattle.flow_ir.specs.View.{label_view}
use Rattle.flow_ir.specs.declared.flow.Label.{Label as FlowLabel}
use Rattle.flow_ir.proofs.Members.{different-join, in-not-out, out-join}
use Rattle.flow_literals.proofs.Ranges.{below_range, range_different}
use Rattle.flow_literals.specs.Turns.{AreHeld}
use Rattle.flow_literals.specs.inner.Hoisted.{held, hoisted, heads_of, IsRow, AreRows, IsHoisted, AreHoisted}
use Rattle.flow_literals.proofs.Standing.{held_free, held_known, entry_stands, entry_agrees}
use Rattle.flow_literals.proofs.Same.{does_same}
use Rattle.flow_literals.proofs.Formed.{same_defined, hoisted_formed}
use Rattle.flow_literals.proofs.Turning.{all_held}

module _ (labels : List Label) (formed : list_all (is_label labels) labels ≡ true) (heads : ℕ → List ℕ) where
  -- ---- meaning

  label_same : (f g : Next) → ((l : ℕ) (ws : List ℕ) (w : World) → g l (map word (heads l) ++ ws) w ≡ f l ws w) → (h : ℕ) (l m : Label) → is_label labels l ≡ true → IsHoisted heads h l m → (ws : List ℕ) (w : World) → enter g (Some m) (map word (heads h) ++ ws) w ≡ enter f (Some l) ws w
  label_same f g jumps h l m e p ws w =
      let n = length (heads h) in
      let names = range_with_len p.base n in
      let own = held (heads h) names in
      let vs = map word (heads h) ++ ws in
      let start = assigned_all blank (names ++ l.params) vs in
      let parts = and_parts (is_formed labels l.params l.body) (all_different (l.params ++ defined l.body)) e in
      ap (λ ys. does g m.body (assigned_all blank ys vs) w) p.params ∙ ap (λ t. does g t start w) p.body
      ∙ does_same labels heads f g jumps p.base own (held_free (heads h) p.base n) l.body l.params (assigned_all blank l.params ws) start w parts.0 p.defined_below (entry_agrees (heads h) l.params ws p.base blank blank) (entry_stands (heads h) l.params ws p.base blank p.params_below)

  enter_same : (f g : Next) → ((l : ℕ) (ws : List ℕ) (w : World) → g l (map word (heads l) ++ ws) w ≡ f l ws w) → (i : ℕ) (ls ms : List Label) → list_all (is_label labels) ls ≡ true → AreHoisted heads i ls ms → (j h : ℕ) → h ≡ i + j → (ws : List ℕ) (w : World) → enter g (slice_get ms j) (map word (heads h) ++ ws) w ≡ enter f (slice_get ls j) ws w
  enter_same f g jumps i [] [] e a j h is ws w = refl
  enter_same f g jumps i [] (m ∷ ms) e a j h is ws w = absurd a
  enter_same f g jumps i (l ∷ ls) [] e a j h is ws w = absurd a
  enter_same f g jumps i (l ∷ ls) (m ∷ ms) e a zero h is ws w =
      let here : i ≡ h = omega arith in
      let parts = and_parts (is_label labels l) (list_all (is_label labels) ls) e in
      label_same f g jumps h l m parts.0 (subst (λ k. IsHoisted heads k l m) here a.0) ws w
  enter_same f g jumps i (l ∷ ls) (m ∷ ms) e a (suc j) h is ws w =
      let parts = and_parts (is_label labels l) (list_all (is_label labels) ls) e in enter_same f g jumps (suc i) ls ms parts.1 a.1 j h (omega arith) ws w

  -- ---- parameters

  first_params : (i : ℕ) (l m : Label) → heads i ≡ [] → IsHoisted heads i l m → m.params ≡ l.params
  first_params i l m none p = p.params ∙ ap (λ vs. range_with_len p.base (length vs) ++ l.params) none

  pub same_params : (i : ℕ) (ls ms : List Label) → heads i ≡ [] → AreHoisted heads i ls ms → flow_params ms ≡ flow_params ls
  same_params i [] [] none a = refl
  same_params i [] (m ∷ ms) none a = absurd a
  same_params i (l ∷ ls) [] none a = absurd a
  same_params i (l ∷ ls) (m ∷ ms) none a = ap length (first_params i l m none a.0)

  same_entry : (i : ℕ) (ls ms : List Label) → heads i ≡ [] → AreHoisted heads i ls ms → is_entry (slice_get ms 0) ≡ is_entry (slice_get ls 0)
  same_entry i [] [] none a = refl
  same_entry i [] (m ∷ ms) none a = absurd a
  same_entry i (l ∷ ls) [] none a = absurd a
  same_entry i (l ∷ ls) (m ∷ ms) none a = ap (λ xs. nat_le (length xs) 8) (first_params i l m none a.0)

  heads_at : (i : ℕ) (ls ms : List Label) → AreHoisted heads i ls ms → (j h : ℕ) → h ≡ i + j → (own : ℕ → Atom) (bs : List Atom) → takes_as_many (length bs) (slice_get ls j) ≡ true → takes_as_many (length (map own (heads h) ++ bs)) (slice_get ms j) ≡ true
  heads_at i [] [] a j h e own bs takes = absurd (false≢true takes)
  heads_at i [] (m ∷ ms) a j h e own bs takes = absurd a
  heads_at i (l ∷ ls) [] a j h e own bs takes = absurd a
  heads_at i (l ∷ ls) (m ∷ ms) a zero h e own bs takes =
      let here : i ≡ h = omega arith in
      let p : IsHoisted heads h l m = subst (λ k. IsHoisted heads k l m) here a.0 in
      let n = length (heads h) in
      let many = eqb-true (length l.params) (length bs) takes in
      let left = ap length p.params ∙ length-append (range_with_len p.base n) l.params in
      let names = length-range_with_len p.base n in
      let right = length-append (map own (heads h)) bs in
      let words = length-map (heads h) own in
      eq-eqb (length m.params) (length (map own (heads h) ++ bs)) (omega (arith, many, left, names, right, words))
  heads_at i (l ∷ ls) (m ∷ ms) a (suc j) h e own bs takes = heads_at (suc i) ls ms a.1 j h (omega arith) own bs takes

  -- ---- formed

  label_formed : (news : List Label) → ((own : ℕ → Atom) (l : ℕ) (bs : List Atom) → takes_as_many (length bs) (slice_get labels l) ≡ true → takes_as_many (length (map own (heads l) ++ bs)) (slice_get news l) ≡ true) → (i : ℕ) (l m : Label) → is_label labels l ≡ true → IsHoisted heads i l m → is_label news m ≡ true
  label_formed news takes i l m e p =
      let n = length (heads i) in
      let ps = l.params in
      let names = range_with_len p.base n in
      let own = held (heads i) names in
      let u = hoisted heads own l.body in
      let ds = defined l.body in
      let parts = and_parts (is_formed labels ps l.body) (all_different (ps ++ ds)) e in
      let body : is_formed news (names ++ ps) u ≡ true = hoisted_formed labels news heads own (takes own) l.body ps (names ++ ps) parts.0 (within-right names ps) (λ v. held_known (heads i) names (names ++ ps) v (within-left names ps)) in
      let out : (y : ℕ) → is_in y names ≡ true → is_in y (ps ++ ds) ≡ false =
      λ y k. out-join y ps ds (false_from_ne_true (is_in y ps) (λ q. in-not-out y names k (below_range n y p.base (p.params_below y q)))) (false_from_ne_true (is_in y ds) (λ q. in-not-out y names k (below_range n y p.base (p.defined_below y q)))) in
      let different : all_different ((names ++ ps) ++ defined u) ≡ true =
      ap (λ ys. all_different ((names ++ ps) ++ ys)) (same_defined heads own l.body) ∙ ap all_different (append_assoc names ps ds) ∙ different-join names (ps ++ ds) (range_different n p.base) parts.1 out in
      ap (λ ys. is_formed news ys m.body && all_different (ys ++ defined m.body)) p.params ∙ ap (λ t. is_formed news (names ++ ps) t && all_different ((names ++ ps) ++ defined t)) p.body
      ∙ and_from (is_formed news (names ++ ps) u) (all_different ((names ++ ps) ++ defined u)) body different

  labels_formed : (news : List Label) → ((own : ℕ → Atom) (l : ℕ) (bs : List Atom) → takes_as_many (length bs) (slice_get labels l) ≡ true → takes_as_many (length (map own (heads l) ++ bs)) (slice_get news l) ≡ true) → (i : ℕ) (ls ms : List Label) → list_all (is_label labels) ls ≡ true → AreHoisted heads i ls ms → list_all (is_label news) ms ≡ true
  labels_formed news takes i [] [] e a = refl
  labels_formed news takes i [] (m ∷ ms) e a = absurd a
  labels_formed news takes i (l ∷ ls) [] e a = absurd a
  labels_formed news takes i (l ∷ ls) (m ∷ ms) e a =
      let parts = and_parts (is_label labels l) (list_all (is_label labels) ls) e in
      and_from (is_label news m) (list_all (is_label news) ms) (label_formed news takes i l m parts.0 a.0) (labels_formed news takes (suc i) ls ms parts.1 a.1)

module _ (labels news : List Label) (good : is_flow labels ≡ true) (heads : ℕ → List ℕ) (none : heads 0 ≡ []) (a : AreHoisted heads 0 labels news) where
  each : list_all (is_label labels) labels ≡ true
  each = (and_parts (list_all (is_label labels) labels) (is_entry (slice_get labels 0)) good).0

  pub flow_formed : is_flow news ≡ true
  flow_formed =
      let parts = and_parts (list_all (is_label labels) labels) (is_entry (slice_get labels 0)) good in
      and_from (list_all (is_label news) news) (is_entry (slice_get news 0))
      (labels_formed labels each heads news (λ own l bs takes. let first : l ≡ 0 + l = omega arith in heads_at labels each heads 0 labels news a l l first own bs takes) 0 labels news parts.0 a) (same_entry labels each heads 0 labels news none a ∙ parts.1)

  run_same : (n l : ℕ) (ws : List ℕ) (w : World) → run news n l (map word (heads l) ++ ws) w ≡ run labels n l ws w
  run_same zero l ws w = refl
  run_same (suc n) l ws w = let first : l ≡ 0 + l = omega arith in enter_same labels each heads (run labels n) (run news n) (run_same n) 0 labels news each a l l first ws w

  pub flow_same : AreEqual (flow_params labels) (flow_meaning labels) (flow_meaning news)
  flow_same =
      λ args p arguments sizes n.
      sym (ap (λ vs. enter (run news n) (slice_get news 0) (map word vs ++ args) (begun p)) (sym none) ∙ enter_same labels each heads (run labels n) (run news n) (run_same n) 0 labels news each a 0 0 refl args (begun p))

  pub flow_params_same : flow_params news ≡ flow_params labels
  flow_params_same = same_params labels each heads 0 labels news none a

-- ---- the table

pub first_row : (literals params : ℕ) (labels : List Label) (rs : List (Vec ℕ Global)) → AreRows literals params 0 labels rs → heads_of rs 0 ≡ []
first_row literals params [] [] r = refl
first_row literals params [] (row ∷ rs) r = absurd r
first_row literals params (l ∷ ls) [] r = absurd r
first_row literals params (l ∷ ls) (row ∷ rs) r = r.0.first refl

pub flow_held : (literals params : ℕ) (labels news : List Label) (rs : List (Vec ℕ Global)) → AreHoisted (heads_of rs) 0 labels news → AreRows literals params 0 labels rs → AreHeld literals params labels news
flow_held literals params labels news rs a r =
    λ l before after one was found. all_held literals params (heads_of rs) 0 labels news rs a r (λ j k e. let same : k ≡ j = omega arith in ap (λ z. heads_of rs z) same) l l before after (omega arith) one was found

-- ---- the call

pub hoisted_at : (xs ys : List FlowLabel) (rs qs : List (Vec ℕ Global)) (ms : List Label) → AreHoisted (heads_of rs) 0 (map label_view xs) ms → xs ≡ ys → rs ≡ qs → AreHoisted (heads_of qs) 0 (map label_view ys) ms
hoisted_at xs ys rs qs ms h e f = subst (λ l. AreHoisted (heads_of qs) 0 (map label_view l) ms) e (subst (λ r. AreHoisted (heads_of r) 0 (map label_view xs) ms) f h)

pub rows_at : (literals params : ℕ) (xs ys : List FlowLabel) (rs : List (Vec ℕ Global)) → AreRows literals params 0 (map label_view xs) rs → xs ≡ ys → AreRows literals params 0 (map label_view ys) rs
rows_at literals params xs ys rs h e = subst (λ l. AreRows literals params 0 (map label_view l) rs) e h

-- ---- one label more

push_label : (heads : ℕ → List ℕ) (i j : ℕ) (ls ms : List Label) (l m : Label) → AreHoisted heads i ls ms → j ≡ i + length ls → IsHoisted heads j l m → AreHoisted heads i (ls ++ l ∷ []) (ms ++ m ∷ [])
push_label heads i j [] [] l m a e p = let here : j ≡ i = omega arith in (subst (λ k. IsHoisted heads k l m) here p, tt)
push_label heads i j [] (n ∷ ms) l m a e p = absurd a
push_label heads i j (k ∷ ls) [] l m a e p = absurd a
push_label heads i j (k ∷ ls) (n ∷ ms) l m a e p = (a.0, push_label heads (suc i) j ls ms l m a.1 (omega arith) p)

push_row : (literals params i j : ℕ) (ls : List Label) (rs : List (Vec ℕ Global)) (l : Label) (r : Vec ℕ Global) → AreRows literals params i ls rs → j ≡ i + length ls → IsRow literals params j l r → AreRows literals params i (ls ++ l ∷ []) (rs ++ r ∷ [])
push_row literals params i j [] [] l r a e p = let here : j ≡ i = omega arith in (subst (λ k. IsRow literals params k l r) here p, tt)
push_row literals params i j [] (s ∷ rs) l r a e p = absurd a
push_row literals params i j (k ∷ ls) [] l r a e p = absurd a
push_row literals params i j (k ∷ ls) (s ∷ rs) l r a e p = (a.0, push_row literals params (suc i) j ls rs l r a.1 (omega arith) p)

front_next : (labels : List FlowLabel) (i : ℕ) (d l : FlowLabel) → i < length labels → l ≡ get_or labels i d → map label_view (take (i + 1) labels) ≡ map label_view (take i labels) ++ label_view l ∷ []
front_next labels i d l lt e = map_more label_view labels i d lt ∙ ap (λ v. map label_view (take i labels) ++ label_view v ∷ []) (sym e)

pub label_next : (heads : ℕ → List ℕ) (labels : List FlowLabel) (i j : ℕ) (d l m : FlowLabel) (ms ms' : List FlowLabel) → i < length labels → j ≡ i → l ≡ get_or labels i d → AreHoisted heads 0 (map label_view (take i labels)) (map label_view ms) → IsHoisted heads j (label_view l) (label_view m)
    → ms' ≡ ms ++ m ∷ [] → AreHoisted heads 0 (map label_view (take (i + 1) labels)) (map label_view ms')
label_next heads labels i j d l m ms ms' lt same e a p push =
    let back : map label_view ms' ≡ map label_view ms ++ label_view m ∷ [] = ap (map label_view) push ∙ map_push label_view ms m in
    let len : length (map label_view (take i labels)) ≡ i = length-map (take i labels) label_view ∙ length-take-le i labels (omega arith) in
    subst (λ v. AreHoisted heads 0 v (map label_view ms')) (sym (front_next labels i d l lt e))
    (subst (AreHoisted heads 0 (map label_view (take i labels) ++ label_view l ∷ [])) (sym back) (push_label heads 0 j (map label_view (take i labels)) (map label_view ms) (label_view l) (label_view m) a (omega (arith, len)) p))

pub row_next : (literals params : ℕ) (labels : List FlowLabel) (i j : ℕ) (d l : FlowLabel) (r : Vec ℕ Global) (rs rs' : List (Vec ℕ Global)) → i < length labels → j ≡ i → l ≡ get_or labels i d → AreRows literals params 0 (map label_view (take i labels)) rs → IsRow literals params j (label_view l) r
    → rs' ≡ rs ++ r ∷ [] → AreRows literals params 0 (map label_view (take (i + 1) labels)) rs'
row_next literals params labels i j d l r rs rs' lt same e a p push =
    let len : length (map label_view (take i labels)) ≡ i = length-map (take i labels) label_view ∙ length-take-le i labels (omega arith) in
    subst (λ v. AreRows literals params 0 v rs') (sym (front_next labels i d l lt e))
    (subst (AreRows literals params 0 (map label_view (take i labels) ++ label_view l ∷ [])) (sym push) (push_row literals params 0 j (map label_view (take i labels)) rs (label_view l) r a (omega (arith, len)) p))
