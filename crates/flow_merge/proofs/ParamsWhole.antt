-- Pruned labels make a flow that is as the first one.
use Rattle.std.proofs.Common.{◌≡◌, ℕ, zero, suc, ◌+◌, ◌<◌, ◌≤◌, nat_le, true, ◌&&◌, List, [], ◌∷◌, ◌++◌, Option, Some, None, map, refl, sym, ap, subst, ◌∙◌, length, slice_get, get_or, take, arith}
use Rattle.std.specs.List.{list_all}
use Rattle.std.proofs.lemmas.Bool.{and_parts, and_from, false≢true, eqb-true, eq-eqb}
use Rattle.std.proofs.lemmas.List.{map_more, length-map, length-take-le, map_push}
use Rattle.nv_base.specs.declared.term.Atom.{Atom}
use Rattle.nv_base.specs.Meanings.{AreEqual}
use Rattle.nv_base.specs.Measures.{IsAtMost, a_label, both}
use Rattle.nv_base.specs.Sets.{all_different, without}
use Rattle.nv_base.specs.Words.{assigned_all}
use Rattle.nv_base.specs.World.{World, begun}
use Rattle.nv_base.proofs.Measures.{most-refl}
use Rattle.flow_ir.specs.Bulk.{bulk, tree_bulk}
use Rattle.flow_ir.specs.Formed.{defined, is_formed, is_label, is_entry, is_flow, takes_as_many}
use Rattle.flow_ir.specs.Meaning.{Next, does, blank, enter, run, flow_meaning, flow_params, params_of}
use Rattle.flow_ir.specs.Tree.{Label}
use Rattle.flow_ir.specs.View.{label_view}
use Rattle.flow_ir.specs.Wide.{tree_wide, wide, uses}
use Rattle.flow_ir.specs.declared.flow.Label.{Label as FlowLabel}
use Rattle.flow_ir.proofs.Members.{different-parts, different-join, stays, stayed}
use Rattle.flow_merge.specs.inner.Pruned.{kept_words, params_in, pruned, Clear, IsPruned, ArePruned}
use Rattle.flow_merge.proofs.Keeping.{kept_length, kept_all, without_none, without_shorter, without_different}
use Rattle.flow_merge.proofs.Same.{does_same, entry_agrees}
use Rattle.flow_merge.proofs.ParamsFormed.{same_defined, pruned_formed}
use Rattle.flow_merge.proofs.ParamsNarrow.{wide_less, same_bulk}

module _ (labels : List Label) (gone : ℕ → List ℕ) where
  -- ---- meaning

  body_clear : (h : ℕ) (l m : Label) → IsPruned labels gone h l m → Clear (gone h) (uses (pruned labels gone l.body))
  body_clear h l m p = subst (λ t. Clear (gone h) (uses t)) p.body p.clear

  label_same : (f g : Next) → ((l : ℕ) (ws : List ℕ) (w : World) → g l (kept_words (gone l) (params_in (slice_get labels l)) ws) w ≡ f l ws w) → (h : ℕ) (l m : Label) → IsPruned labels gone h l m → (ws : List ℕ) (w : World) → enter g (Some m) (kept_words (gone h) l.params ws) w ≡ enter f (Some l) ws w
  label_same f g jumps h l m p ws w =
      let ks = kept_words (gone h) l.params ws in
      let xs = without l.params (gone h) in
      ap (λ ys. does g m.body (assigned_all blank ys ks) w) p.params ∙ ap (λ t. does g t (assigned_all blank xs ks) w) p.body
      ∙ does_same labels gone f g jumps (gone h) l.body (assigned_all blank l.params ws) (assigned_all blank xs ks) w (body_clear h l m p) (entry_agrees (gone h) l.params ws blank blank (λ y o. refl))

  enter_same : (f g : Next) → ((l : ℕ) (ws : List ℕ) (w : World) → g l (kept_words (gone l) (params_in (slice_get labels l)) ws) w ≡ f l ws w) → (i : ℕ) (ls ms : List Label) → ArePruned labels gone i ls ms → (j h : ℕ) → h ≡ i + j → (ws : List ℕ) (w : World)
      → enter g (slice_get ms j) (kept_words (gone h) (params_in (slice_get ls j)) ws) w ≡ enter f (slice_get ls j) ws w
  enter_same f g jumps i [] [] a j h e ws w = refl
  enter_same f g jumps i [] (m ∷ ms) a j h e ws w = absurd a
  enter_same f g jumps i (l ∷ ls) [] a j h e ws w = absurd a
  enter_same f g jumps i (l ∷ ls) (m ∷ ms) a zero h e ws w = let here : i ≡ h = omega arith in label_same f g jumps h l m (subst (λ k. IsPruned labels gone k l m) here a.0) ws w
  enter_same f g jumps i (l ∷ ls) (m ∷ ms) a (suc j) h e ws w = enter_same f g jumps (suc i) ls ms a.1 j h (omega arith) ws w

  -- ---- parameters

  pub same_params : (i : ℕ) (ls ms : List Label) → gone i ≡ [] → ArePruned labels gone i ls ms → flow_params ms ≡ flow_params ls
  same_params i [] [] none a = refl
  same_params i [] (m ∷ ms) none a = absurd a
  same_params i (l ∷ ls) [] none a = absurd a
  same_params i (l ∷ ls) (m ∷ ms) none a = ap length (a.0.params ∙ ap (without l.params) none ∙ without_none l.params)

  same_entry : (i : ℕ) (ls ms : List Label) → gone i ≡ [] → ArePruned labels gone i ls ms → is_entry (slice_get ms 0) ≡ is_entry (slice_get ls 0)
  same_entry i [] [] none a = refl
  same_entry i [] (m ∷ ms) none a = absurd a
  same_entry i (l ∷ ls) [] none a = absurd a
  same_entry i (l ∷ ls) (m ∷ ms) none a = ap (λ xs. nat_le (length xs) 8) (a.0.params ∙ ap (without l.params) none ∙ without_none l.params)

  heads_at : (i : ℕ) (ls ms : List Label) → ArePruned labels gone i ls ms → (j h : ℕ) → h ≡ i + j → (bs : List Atom) → takes_as_many (length bs) (slice_get ls j) ≡ true → takes_as_many (length (kept_words (gone h) (params_in (slice_get ls j)) bs)) (slice_get ms j) ≡ true
  heads_at i [] [] a j h e bs takes = absurd (false≢true takes)
  heads_at i [] (m ∷ ms) a j h e bs takes = absurd a
  heads_at i (l ∷ ls) [] a j h e bs takes = absurd a
  heads_at i (l ∷ ls) (m ∷ ms) a zero h e bs takes =
      let here : i ≡ h = omega arith in
      let p : IsPruned labels gone h l m = subst (λ k. IsPruned labels gone k l m) here a.0 in
      let ks = kept_words (gone h) l.params bs in
      eq-eqb (length m.params) (length ks) (ap length p.params ∙ sym (kept_length (gone h) l.params bs (eqb-true (length l.params) (length bs) takes)))
  heads_at i (l ∷ ls) (m ∷ ms) a (suc j) h e bs takes = heads_at (suc i) ls ms a.1 j h (omega arith) bs takes

  -- ---- formed

  label_formed : (news : List Label) → ((l : ℕ) (bs : List Atom) → takes_as_many (length bs) (slice_get labels l) ≡ true → takes_as_many (length (kept_words (gone l) (params_in (slice_get labels l)) bs)) (slice_get news l) ≡ true) → (i : ℕ) (l m : Label) → is_label labels l ≡ true → IsPruned labels gone i l m → is_label news m ≡ true
  label_formed news heads i l m e p =
      let parts = and_parts (is_formed labels l.params l.body) (all_different (l.params ++ defined l.body)) e in
      let once = different-parts l.params (defined l.body) parts.1 in
      let xs = without l.params (gone i) in
      let u = pruned labels gone l.body in
      let formed : is_formed news xs u ≡ true = pruned_formed labels news gone heads (gone i) l.body l.params xs parts.0 (λ y k o. stays y l.params (gone i) k o) (body_clear i l m p) in
      let different : all_different (xs ++ defined u) ≡ true =
      ap (λ ys. all_different (xs ++ ys)) (same_defined labels gone l.body) ∙ different-join xs (defined l.body) (without_different l.params (gone i) once.0) once.1 (λ y k. once.2 y (stayed y l.params (gone i) k).0) in
      ap (λ ys. is_formed news ys m.body && all_different (ys ++ defined m.body)) p.params ∙ ap (λ t. is_formed news xs t && all_different (xs ++ defined t)) p.body ∙ and_from (is_formed news xs u) (all_different (xs ++ defined u)) formed different

  labels_formed : (news : List Label) → ((l : ℕ) (bs : List Atom) → takes_as_many (length bs) (slice_get labels l) ≡ true → takes_as_many (length (kept_words (gone l) (params_in (slice_get labels l)) bs)) (slice_get news l) ≡ true) → (i : ℕ) (ls ms : List Label) → list_all (is_label labels) ls ≡ true → ArePruned labels gone i ls ms
      → list_all (is_label news) ms ≡ true
  labels_formed news heads i [] [] e a = refl
  labels_formed news heads i [] (m ∷ ms) e a = absurd a
  labels_formed news heads i (l ∷ ls) [] e a = absurd a
  labels_formed news heads i (l ∷ ls) (m ∷ ms) e a =
      let parts = and_parts (is_label labels l) (list_all (is_label labels) ls) e in
      and_from (is_label news m) (list_all (is_label news) ms) (label_formed news heads i l m parts.0 a.0) (labels_formed news heads (suc i) ls ms parts.1 a.1)

  -- ---- measures

  pub flow_wide : (i : ℕ) (ls ms : List Label) → ArePruned labels gone i ls ms → wide ms ≤ wide ls
  flow_wide i [] [] a = omega arith
  flow_wide i [] (m ∷ ms) a = absurd a
  flow_wide i (l ∷ ls) [] a = absurd a
  flow_wide i (l ∷ ls) (m ∷ ms) a =
      let body = wide_less labels gone l.body in
      let same = ap tree_wide a.0.body in
      let few = without_shorter l.params (gone i) in
      let long = ap length a.0.params in
      let others = flow_wide (suc i) ls ms a.1 in
      omega arith

  pub flow_bulk : (i : ℕ) (ls ms : List Label) → ArePruned labels gone i ls ms → bulk ms ≡ bulk ls
  flow_bulk i [] [] a = refl
  flow_bulk i [] (m ∷ ms) a = absurd a
  flow_bulk i (l ∷ ls) [] a = absurd a
  flow_bulk i (l ∷ ls) (m ∷ ms) a =
      ap (λ z. both (both a_label z) (bulk ms)) (ap tree_bulk a.0.body ∙ same_bulk labels gone l.body) ∙ ap (both (both a_label (tree_bulk l.body))) (flow_bulk (suc i) ls ms a.1)

module _ (labels news : List Label) (gone : ℕ → List ℕ) (none : gone 0 ≡ []) (a : ArePruned labels gone 0 labels news) where
  pub flow_formed : is_flow labels ≡ true → is_flow news ≡ true
  flow_formed e =
      let parts = and_parts (list_all (is_label labels) labels) (is_entry (slice_get labels 0)) e in
      and_from (list_all (is_label news) news) (is_entry (slice_get news 0)) (labels_formed labels gone news (λ l bs takes. let first : l ≡ 0 + l = omega arith in heads_at labels gone 0 labels news a l l first bs takes) 0 labels news parts.0 a)
      (same_entry labels gone 0 labels news none a ∙ parts.1)

  run_same : (n l : ℕ) (ws : List ℕ) (w : World) → run news n l (kept_words (gone l) (params_in (slice_get labels l)) ws) w ≡ run labels n l ws w
  run_same zero l ws w = refl
  run_same (suc n) l ws w = let first : l ≡ 0 + l = omega arith in enter_same labels gone (run labels n) (run news n) (run_same n) 0 labels news a l l first ws w

  params_many : (o : Option Label) → length (params_in o) ≡ params_of o
  params_many (Some l) = refl
  params_many None = refl

  pub flow_same : AreEqual (flow_params labels) (flow_meaning labels) (flow_meaning news)
  flow_same =
      λ args p arguments sizes n.
      let ps = params_in (slice_get labels 0) in
      let all : kept_words (gone 0) ps args ≡ args = ap (λ g. kept_words g ps args) none ∙ kept_all ps args (arguments.0 ∙ sym (params_many (slice_get labels 0))) in
      sym (ap (λ ws. enter (run news n) (slice_get news 0) ws (begun p)) (sym all) ∙ enter_same labels gone (run labels n) (run news n) (run_same n) 0 labels news a 0 0 refl args (begun p))

-- ---- the call

pub pruned_at : (xs ys : List FlowLabel) (gone : ℕ → List ℕ) (ms : List Label) → ArePruned (map label_view xs) gone 0 (map label_view xs) ms → xs ≡ ys → ArePruned (map label_view ys) gone 0 (map label_view ys) ms
pruned_at xs ys gone ms h e = subst (λ l. ArePruned (map label_view l) gone 0 (map label_view l) ms) e h

pub most_same : (ls ms : List Label) → bulk ms ≡ bulk ls → IsAtMost (bulk ms) (bulk ls)
most_same ls ms e = subst (λ b. IsAtMost b (bulk ls)) (sym e) (most-refl (bulk ls))

-- ---- one label more

push_label : (labels : List Label) (gone : ℕ → List ℕ) (i j : ℕ) (ls ms : List Label) (l m : Label) → ArePruned labels gone i ls ms → j ≡ i + length ls → IsPruned labels gone j l m → ArePruned labels gone i (ls ++ l ∷ []) (ms ++ m ∷ [])
push_label labels gone i j [] [] l m a e p = let here : j ≡ i = omega arith in (subst (λ k. IsPruned labels gone k l m) here p, tt)
push_label labels gone i j [] (n ∷ ms) l m a e p = absurd a
push_label labels gone i j (k ∷ ls) [] l m a e p = absurd a
push_label labels gone i j (k ∷ ls) (n ∷ ms) l m a e p = (a.0, push_label labels gone (suc i) j ls ms l m a.1 (omega arith) p)

pub label_next : (whole : List Label) (gone : ℕ → List ℕ) (labels : List FlowLabel) (i j : ℕ) (d l m : FlowLabel) (ms ms' : List FlowLabel) → i < length labels → j ≡ i → l ≡ get_or labels i d → ArePruned whole gone 0 (map label_view (take i labels)) (map label_view ms) → IsPruned whole gone j (label_view l) (label_view m)
    → ms' ≡ ms ++ m ∷ [] → ArePruned whole gone 0 (map label_view (take (i + 1) labels)) (map label_view ms')
label_next whole gone labels i j d l m ms ms' lt same e a p push =
    let front : map label_view (take (i + 1) labels) ≡ map label_view (take i labels) ++ label_view l ∷ [] = map_more label_view labels i d lt ∙ ap (λ v. map label_view (take i labels) ++ label_view v ∷ []) (sym e) in
    let back : map label_view ms' ≡ map label_view ms ++ label_view m ∷ [] = ap (map label_view) push ∙ map_push label_view ms m in
    let len : length (map label_view (take i labels)) ≡ i = length-map (take i labels) label_view ∙ length-take-le i labels (omega arith) in
    subst (λ v. ArePruned whole gone 0 v (map label_view ms')) (sym front) (subst (ArePruned whole gone 0 (map label_view (take i labels) ++ label_view l ∷ [])) (sym back) (push_label whole gone 0 j (map label_view (take i labels)) (map label_view ms) (label_view l) (label_view m) a (omega (arith, len)) p))
