-- Simplified labels make a flow that is as the first one.
use Rattle.std.proofs.Common.{◌≡◌, ℕ, zero, suc, ◌+◌, ◌<◌, ◌≤◌, ◌==◌, nat_le, true, false, ◌&&◌, if◌then◌else◌, List, [], ◌∷◌, ◌++◌, map, Some, refl, sym, ap, subst, ◌∙◌, length, All, get_or, take, arith}
use Rattle.std.specs.Prelude.{slice_get, ⊤}
use Rattle.std.specs.List.{list_all}
use Rattle.std.proofs.lemmas.Bool.{and_parts, and_from, false≢true}
use Rattle.std.proofs.lemmas.List.{map_more, map_push}
use Rattle.std.proofs.lemmas.List.Elements.{All-nil, All-cons}
use Rattle.nv_base.specs.declared.term.Atom.TheVariants.{Var}
use Rattle.nv_base.specs.Memories.{HasSizes}
use Rattle.nv_base.specs.Meanings.{AreEqual}
use Rattle.nv_base.specs.Measures.{IsAtMost, a_label, nothing, both, entry_wide}
use Rattle.nv_base.specs.Sets.{is_in, all_different, Within}
use Rattle.nv_base.specs.Words.{IsWord, atom_word, atom_vars, assigned_all}
use Rattle.nv_base.specs.World.{World, begun}
use Rattle.nv_base.proofs.Environments.{assigned-all-env, blank-env}
use Rattle.nv_base.proofs.Measures.{most-refl, most-both, most-behind}
use Rattle.nv_base.proofs.Sets.{same-number}
use Rattle.flow_ir.specs.Bulk.{bulk, tree_bulk}
use Rattle.flow_ir.specs.Formed.{defined, is_formed, is_label, is_entry, is_flow, takes_as_many}
use Rattle.flow_ir.specs.Meaning.{Next, does, blank, enter, run, flow_meaning, flow_params}
use Rattle.flow_ir.specs.Tree.{Label}
use Rattle.flow_ir.specs.View.{label_view}
use Rattle.flow_ir.specs.Wide.{live, wide}
use Rattle.flow_ir.specs.declared.flow.Label.{Label as FlowLabel}
use Rattle.cps_rules.specs.Rules.{Answers}
use Rattle.cps_rules.specs.Simplified.{IsTidy, AreTidy}
use Rattle.flow_ir.specs.Substitution.{Names, AreNamed}
use Rattle.cps_rules.specs.inner.Marks.{Set}
use Rattle.cps_rules.specs.inner.Way.{IsScoped, IsDone, IsLabelDone, AreDone}
use Rattle.cps_rules.proofs.Means.{AreOwn, means}
use Rattle.flow_ir.proofs.Members.{first-or-rest, different-parts, different-join}
use Rattle.flow_ir.proofs.Scopes.{label_fits, fits_apart, fits_live}
use Rattle.flow_ir.proofs.Renaming.{image_within, image_own}
use Rattle.flow_ir.specs.inner.Scoped.{IsScopedLabel}
use Rattle.cps_rules.proofs.Way.{live_image, fewer_defined, still_different, not_in}
use Rattle.cps_rules.proofs.WayFormed.{still_formed, tidy_used}
use Rattle.cps_rules.proofs.WayMeasures.{not_wider, not_larger}
use Rattle.cps_rules.proofs.Answered.{AllSound}

-- ---- labels in scope

abbrev pub AllScoped : List Label → Type 0
AllScoped [] = ⊤
AllScoped (l ∷ ls) = IsScopedLabel l × AllScoped ls

pub all_scoped : (labels ls : List Label) → list_all (is_label labels) ls ≡ true → AllScoped ls
all_scoped labels [] e = tt
all_scoped labels (l ∷ ls) e = let parts = and_parts (is_label labels l) (list_all (is_label labels) ls) e in (label_fits labels l parts.0, all_scoped labels ls parts.1)

pub scoped_at : (labels : List FlowLabel) (i : ℕ) (d : FlowLabel) → i < length labels → AllScoped (map label_view labels) → IsScopedLabel (label_view (get_or labels i d))
scoped_at [] i d lt h = absurd (omega arith)
scoped_at (l ∷ ls) zero d lt h = h.0
scoped_at (l ∷ ls) (suc i) d lt h = scoped_at ls i d (omega arith) h.1

pub item_scoped : (labels : List FlowLabel) (i : ℕ) (d l : FlowLabel) → i < length labels → l ≡ get_or labels i d → AllScoped (map label_view labels) → IsScopedLabel (label_view l)
item_scoped labels i d l lt e h = subst (λ k. IsScopedLabel (label_view k)) (sym e) (scoped_at labels i d lt h)

own_params : (xs : List ℕ) (σ : Names) → ((x : ℕ) → is_in x xs ≡ true → σ x ≡ Var x) → AreOwn xs σ
own_params xs σ own =
    λ x i y j.
    first-or-rest y x [] (subst (λ a. is_in y (atom_vars a) ≡ true) (own x i) j) (λ p. subst (λ z. is_in z xs ≡ true) (sym (same-number y x p)) i) (λ p. absurd (false≢true p))

named_itself : {σ τ : Names} {xs : List ℕ} → AreNamed σ xs τ → (x : ℕ) → is_in x xs ≡ true → τ x ≡ Var x
named_itself {σ} h x i = h.at x ∙ ap (λ g. if g then Var x else σ x) i

-- a label's body with the parameters named and no marks
pub label_scoped : {σ τ : Names} {M : Set} (l : Label) → IsScopedLabel l → AreNamed σ l.params τ → ((x : ℕ) → M x ≡ false) → IsScoped τ M l.body
label_scoped {τ = τ} l fits named unmarked = record { known = l.params; fits = fits; own = own_params l.params τ (named_itself named); unmarked = λ y i. unmarked y }

pub label_done : {A : Answers} {σ τ ρ : Names} {M N : Set} (l m : Label) → IsScopedLabel l → AreNamed σ l.params τ → IsDone A l.body τ ρ M N m.body → m.params ≡ l.params → IsLabelDone A l m
label_done {ρ = ρ} l m fits named done e = record {
  params = e;
  names = ρ;
  own = λ x i. done.named x (fits_apart l.params l.body fits x i) ∙ named_itself named x i;
  simplified = done.simplified;
  used = done.used;
}

pub done_push : (A : Answers) (ls ms : List Label) (l m : Label) → AreDone A ls ms → IsLabelDone A l m → AreDone A (ls ++ l ∷ []) (ms ++ m ∷ [])
done_push A [] [] l m h d = (d, tt)
done_push A [] (n ∷ ms) l m h d = absurd h
done_push A (k ∷ ls) [] l m h d = absurd h
done_push A (k ∷ ls) (n ∷ ms) l m h d = (h.0, done_push A ls ms l m h.1 d)

-- one label more
pub done_next : (A : Answers) (labels : List FlowLabel) (i : ℕ) (d l m : FlowLabel) (ms ms' : List FlowLabel) → i < length labels → l ≡ get_or labels i d → AreDone A (map label_view (take i labels)) (map label_view ms) → IsLabelDone A (label_view l) (label_view m) → ms' ≡ ms ++ m ∷ [] → AreDone A (map label_view (take (i + 1) labels)) (map label_view ms')
done_next A labels i d l m ms ms' lt e h k push =
    let front : map label_view (take (i + 1) labels) ≡ map label_view (take i labels) ++ label_view l ∷ [] = map_more label_view labels i d lt ∙ ap (λ v. map label_view (take i labels) ++ label_view v ∷ []) (sym e) in
    let back : map label_view ms' ≡ map label_view ms ++ label_view m ∷ [] = ap (map label_view) push ∙ map_push label_view ms m in
    subst (λ v. AreDone A v (map label_view ms')) (sym front) (subst (AreDone A (map label_view (take i labels) ++ label_view l ∷ [])) (sym back) (done_push A (map label_view (take i labels)) (map label_view ms) (label_view l) (label_view m) h k))

-- ---- parameters

pub heads : (A : Answers) (ls ms : List Label) → AreDone A ls ms → (n i : ℕ) → takes_as_many n (slice_get ms i) ≡ takes_as_many n (slice_get ls i)
heads A [] [] h n i = refl
heads A [] (m ∷ ms) h n i = absurd h
heads A (l ∷ ls) [] h n i = absurd h
heads A (l ∷ ls) (m ∷ ms) h n zero = ap (λ xs. length xs == n) h.0.params
heads A (l ∷ ls) (m ∷ ms) h n (suc i) = heads A ls ms h.1 n i

pub same_entry : (A : Answers) (ls ms : List Label) → AreDone A ls ms → is_entry (slice_get ms 0) ≡ is_entry (slice_get ls 0)
same_entry A [] [] h = refl
same_entry A [] (m ∷ ms) h = absurd h
same_entry A (l ∷ ls) [] h = absurd h
same_entry A (l ∷ ls) (m ∷ ms) h = ap (λ xs. nat_le (length xs) 8) h.0.params

pub same_params : (A : Answers) (ls ms : List Label) → AreDone A ls ms → flow_params ms ≡ flow_params ls
same_params A [] [] h = refl
same_params A [] (m ∷ ms) h = absurd h
same_params A (l ∷ ls) [] h = absurd h
same_params A (l ∷ ls) (m ∷ ms) h = ap length h.0.params

-- ---- formed

module _ (A : Answers) (sound : AllSound A) where
  live_params : (l m : Label) → IsScopedLabel l → IsLabelDone A l m → Within (live m.body) l.params
  live_params l m fits done =
      λ y e.
      image_own done.names l.params done.own y
      (image_within done.names (live l.body) l.params (fits_live l.params l.body fits) y (live_image A sound done.names l.body m.body done.simplified y e))

  label_formed : (labels labels' : List Label) → ((n i : ℕ) → takes_as_many n (slice_get labels' i) ≡ takes_as_many n (slice_get labels i)) → (l m : Label) → is_label labels l ≡ true → IsLabelDone A l m → is_label labels' m ≡ true
  label_formed labels labels' same l m e done =
      let parts = and_parts (is_formed labels l.params l.body) (all_different (l.params ++ defined l.body)) e in
      let once = different-parts l.params (defined l.body) parts.1 in
      let formed : is_formed labels' l.params m.body ≡ true =
      still_formed A sound done.names labels labels' (λ n i h. same n i ∙ h) l.body m.body l.params l.params done.simplified parts.0 (live_params l m (label_fits labels l e) done) in
      let different : all_different (l.params ++ defined m.body) ≡ true =
      different-join l.params (defined m.body) once.0 (still_different A done.names l.body m.body done.simplified once.1)
      (λ y i. not_in y (defined m.body) (defined l.body) (fewer_defined A done.names l.body m.body done.simplified) (once.2 y i)) in
      subst (λ xs. (is_formed labels' xs m.body && all_different (xs ++ defined m.body)) ≡ true) (sym done.params)
      (and_from (is_formed labels' l.params m.body) (all_different (l.params ++ defined m.body)) formed different)

  labels_formed : (labels labels' : List Label) → ((n i : ℕ) → takes_as_many n (slice_get labels' i) ≡ takes_as_many n (slice_get labels i)) → (ls ms : List Label) → list_all (is_label labels) ls ≡ true → AreDone A ls ms → list_all (is_label labels') ms ≡ true
  labels_formed labels labels' same [] [] e h = refl
  labels_formed labels labels' same [] (m ∷ ms) e h = absurd h
  labels_formed labels labels' same (l ∷ ls) [] e h = absurd h
  labels_formed labels labels' same (l ∷ ls) (m ∷ ms) e h =
      let parts = and_parts (is_label labels l) (list_all (is_label labels) ls) e in
      and_from (is_label labels' m) (list_all (is_label labels') ms) (label_formed labels labels' same l m parts.0 h.0) (labels_formed labels labels' same ls ms parts.1 h.1)

  pub flow_formed : (ls ms : List Label) → is_flow ls ≡ true → AreDone A ls ms → is_flow ms ≡ true
  flow_formed ls ms e h =
      let parts = and_parts (list_all (is_label ls) ls) (is_entry (slice_get ls 0)) e in
      and_from (list_all (is_label ms) ms) (is_entry (slice_get ms 0)) (labels_formed ls ms (heads A ls ms h) ls ms parts.0 h) (same_entry A ls ms h ∙ parts.1)

  -- ---- meaning

  label_means : (f g : Next) → ((l : ℕ) (ws : List ℕ) (w : World) → All IsWord ws → HasSizes w.packet → g l ws w ≡ f l ws w) → (l m : Label) → IsScopedLabel l → IsLabelDone A l m → (ws : List ℕ) (w : World) → All IsWord ws → HasSizes w.packet → enter g (Some m) ws w ≡ enter f (Some l) ws w
  label_means f g jumps l m fits done ws w words sizes =
      let env = assigned_all blank l.params ws in
      ap (λ xs. does g m.body (assigned_all blank xs ws) w) done.params
      ∙ means A sound done.names f g jumps l.body m.body l.params done.simplified fits (own_params l.params done.names done.own) env env w (record { at = λ x i. ap (atom_word env) (done.own x i) })
      (assigned-all-env blank l.params ws blank-env words) sizes

  enter_means : (f g : Next) → ((l : ℕ) (ws : List ℕ) (w : World) → All IsWord ws → HasSizes w.packet → g l ws w ≡ f l ws w) → (ls ms : List Label) → AllScoped ls → AreDone A ls ms → (i : ℕ) (ws : List ℕ) (w : World) → All IsWord ws → HasSizes w.packet → enter g (slice_get ms i) ws w ≡ enter f (slice_get ls i) ws w
  enter_means f g jumps [] [] fits h i ws w words sizes = refl
  enter_means f g jumps [] (m ∷ ms) fits h i ws w words sizes = absurd h
  enter_means f g jumps (l ∷ ls) [] fits h i ws w words sizes = absurd h
  enter_means f g jumps (l ∷ ls) (m ∷ ms) fits h zero ws w words sizes = label_means f g jumps l m fits.0 h.0 ws w words sizes
  enter_means f g jumps (l ∷ ls) (m ∷ ms) fits h (suc i) ws w words sizes = enter_means f g jumps ls ms fits.1 h.1 i ws w words sizes

  run_means : (ls ms : List Label) → AllScoped ls → AreDone A ls ms → (n l : ℕ) (ws : List ℕ) (w : World) → All IsWord ws → HasSizes w.packet → run ms n l ws w ≡ run ls n l ws w
  run_means ls ms fits h zero l ws w words sizes = refl
  run_means ls ms fits h (suc n) l ws w words sizes = enter_means (run ls n) (run ms n) (run_means ls ms fits h n) ls ms fits h l ws w words sizes

  pub flow_means : (ls ms : List Label) → is_flow ls ≡ true → AreDone A ls ms → AreEqual (flow_params ls) (flow_meaning ls) (flow_meaning ms)
  flow_means ls ms e h =
      λ args p arguments sizes n.
      let fits = all_scoped ls ls (and_parts (list_all (is_label ls) ls) (is_entry (slice_get ls 0)) e).0 in
      sym (enter_means (run ls n) (run ms n) (run_means ls ms fits h n) ls ms fits h 0 args (begun p) arguments.1 sizes)

  -- ---- measures

  pub flow_wide : (ls ms : List Label) → AreDone A ls ms → wide ms ≤ wide ls
  flow_wide [] [] h = omega arith
  flow_wide [] (m ∷ ms) h = absurd h
  flow_wide (l ∷ ls) [] h = absurd h
  flow_wide (l ∷ ls) (m ∷ ms) h =
      let here = not_wider A sound h.0.names l.body m.body h.0.simplified in
      let first = ap (λ xs. entry_wide [] (length xs)) h.0.params in
      let others = flow_wide ls ms h.1 in
      omega arith

pub flow_bulk : (A : Answers) (ls ms : List Label) → AreDone A ls ms → IsAtMost (bulk ms) (bulk ls)
flow_bulk A [] [] h = most-refl nothing
flow_bulk A [] (m ∷ ms) h = absurd h
flow_bulk A (l ∷ ls) [] h = absurd h
flow_bulk A (l ∷ ls) (m ∷ ms) h =
    most-both (both a_label (tree_bulk m.body)) (both a_label (tree_bulk l.body)) (bulk ms) (bulk ls)
    (most-behind a_label (tree_bulk m.body) (tree_bulk l.body) (not_larger A h.0.names l.body m.body h.0.simplified)) (flow_bulk A ls ms h.1)

-- ---- what stands in labels

labels_tidy : (A : Answers) (labels ls ms : List Label) → list_all (is_label labels) ls ≡ true → AreDone A ls ms → AreTidy ms
labels_tidy A labels [] [] e h = All-nil (λ l. IsTidy l.body)
labels_tidy A labels [] (m ∷ ms) e h = absurd h
labels_tidy A labels (l ∷ ls) [] e h = absurd h
labels_tidy A labels (l ∷ ls) (m ∷ ms) e h =
    let parts = and_parts (is_label labels l) (list_all (is_label labels) ls) e in
    let once = different-parts l.params (defined l.body) (and_parts (is_formed labels l.params l.body) (all_different (l.params ++ defined l.body)) parts.0).1 in
    All-cons (λ k. IsTidy k.body) m ms (tidy_used m.body (still_different A h.0.names l.body m.body h.0.simplified once.1) h.0.used) (labels_tidy A labels ls ms parts.1 h.1)

pub flow_tidy : (A : Answers) (ls ms : List Label) → is_flow ls ≡ true → AreDone A ls ms → AreTidy ms
flow_tidy A ls ms e h = labels_tidy A ls ls ms (and_parts (list_all (is_label ls) ls) (is_entry (slice_get ls 0)) e).0 h

-- ---- the call

pub done_at : (A : Answers) (xs ys zs : List FlowLabel) → AreDone A (map label_view xs) (map label_view zs) → xs ≡ ys → AreDone A (map label_view ys) (map label_view zs)
done_at A xs ys zs h e = subst (λ l. AreDone A (map label_view l) (map label_view zs)) e h
