-- Reduced labels make a flow that is as the first one.
use Rattle.std.proofs.Common.{◌≡◌, ℕ, zero, suc, ◌+◌, ◌<◌, ◌==◌, nat_le, true, ◌&&◌, List, [], ◌∷◌, ◌++◌, map, Some, refl, sym, ap, subst, ◌∙◌, length, All, get_or, take, slice_get}
use Rattle.std.specs.List.{list_all}
use Rattle.std.proofs.lemmas.Bool.{and_parts, and_from}
use Rattle.std.proofs.lemmas.List.{map_more, map_push}
use Rattle.std.proofs.lemmas.List.Elements.{All-nil, All-cons}
use Rattle.nv_base.specs.declared.term.Primitive.{Primitive}
use Rattle.nv_base.specs.Memories.{Memories, HasSizes}
use Rattle.nv_base.specs.Meanings.{AreArguments, AreEqual, Meaning}
use Rattle.nv_base.specs.Sets.{all_different}
use Rattle.nv_base.specs.Words.{IsWord, assigned_all}
use Rattle.nv_base.specs.World.{World, begun}
use Rattle.nv_base.proofs.Environments.{assigned-all-env, blank-env}
use Rattle.flow_ir.specs.Formed.{defined, is_formed, is_label, is_entry, is_flow, takes_as_many}
use Rattle.flow_ir.specs.Meaning.{Next, does, blank, enter, run, flow_meaning, flow_params}
use Rattle.flow_ir.specs.Tree.{Label}
use Rattle.flow_ir.specs.View.{label_view}
use Rattle.flow_ir.specs.declared.flow.Label.{Label as FlowLabel}
use Rattle.flow_ir.proofs.Members.{in-left}
use Rattle.flow_words.specs.Tables.{Table, nothing, with_all}
use Rattle.flow_words.specs.Definitions.{EachDefinition}
use Rattle.flow_words.specs.inner.Reduced.{IsReduced, AreReduced, Reduced, extra, kept, read, write, choice, jump, halt}
use Rattle.flow_words.proofs.Closing.{closed_nothing, closed_all}
use Rattle.flow_words.proofs.Holding.{holds_nothing, holds_all}
use Rattle.flow_words.proofs.Means.{means}
use Rattle.flow_words.proofs.Formed.{InScope, scope_all, reduced_formed, defines, defined_below, new_below, below_both, mixed_front, mixed_different}

module _ (P : Table → Primitive → Type 0) where
  -- ---- parameters

  pub heads : (ls ms : List Label) → AreReduced P ls ms → (n i : ℕ) → takes_as_many n (slice_get ms i) ≡ takes_as_many n (slice_get ls i)
  heads [] [] h n i = refl
  heads [] (m ∷ ms) h n i = absurd h
  heads (l ∷ ls) [] h n i = absurd h
  heads (l ∷ ls) (m ∷ ms) h n zero = ap (λ xs. length xs == n) h.0.params
  heads (l ∷ ls) (m ∷ ms) h n (suc i) = heads ls ms h.1 n i

  same_entry : (ls ms : List Label) → AreReduced P ls ms → is_entry (slice_get ms 0) ≡ is_entry (slice_get ls 0)
  same_entry [] [] h = refl
  same_entry [] (m ∷ ms) h = absurd h
  same_entry (l ∷ ls) [] h = absurd h
  same_entry (l ∷ ls) (m ∷ ms) h = ap (λ xs. nat_le (length xs) 8) h.0.params

  pub same_params : (ls ms : List Label) → AreReduced P ls ms → flow_params ms ≡ flow_params ls
  same_params [] [] h = refl
  same_params [] (m ∷ ms) h = absurd h
  same_params (l ∷ ls) [] h = absurd h
  same_params (l ∷ ls) (m ∷ ms) h = ap length h.0.params

  -- ---- formed

  nothing_scoped : InScope nothing []
  nothing_scoped = λ y alive. alive

  label_formed : (labels news : List Label) → ((n i : ℕ) → takes_as_many n (slice_get news i) ≡ takes_as_many n (slice_get labels i)) → (l m : Label) → is_label labels l ≡ true → IsReduced P l m → is_label news m ≡ true
  label_formed labels news same l m e done =
      let ps = l.params in
      let T = with_all nothing ps in
      let parts = and_parts (is_formed labels ps l.body) (all_different (ps ++ defined l.body)) e in
      let formed : is_formed news (ps ++ []) m.body ≡ true =
      reduced_formed P done.base labels news same T done.base done.next l.body m.body done.body ps (ps ++ []) parts.0 (λ y i. in-left y ps [] i) (scope_all nothing ps [] nothing_scoped) in
      let here : is_formed news ps m.body ≡ true = sym (ap (λ xs. is_formed news xs m.body) (append_none ps)) ∙ formed in
      let mixed = mixed_front done.base done.next ps (defined l.body) (defined m.body) (defines T done.base done.next l.body m.body done.body) in
      let below = below_both done.base ps (defined l.body) (new_below done.base nothing ps done.new) (defined_below T done.base done.next l.body m.body done.body) in
      let different = mixed_different done.base done.next (ps ++ defined l.body) (ps ++ defined m.body) mixed below parts.1 in
      subst (λ xs. (is_formed news xs m.body && all_different (xs ++ defined m.body)) ≡ true) (sym done.params) (and_from (is_formed news ps m.body) (all_different (ps ++ defined m.body)) here different)
    where
      append_none : (xs : List ℕ) → xs ++ [] ≡ xs
      append_none [] = refl
      append_none (x ∷ xs) = ap (λ l. x ∷ l) (append_none xs)

  labels_formed : (labels news : List Label) → ((n i : ℕ) → takes_as_many n (slice_get news i) ≡ takes_as_many n (slice_get labels i)) → (ls ms : List Label) → list_all (is_label labels) ls ≡ true → AreReduced P ls ms → list_all (is_label news) ms ≡ true
  labels_formed labels news same [] [] e h = refl
  labels_formed labels news same [] (m ∷ ms) e h = absurd h
  labels_formed labels news same (l ∷ ls) [] e h = absurd h
  labels_formed labels news same (l ∷ ls) (m ∷ ms) e h =
      let parts = and_parts (is_label labels l) (list_all (is_label labels) ls) e in
      and_from (is_label news m) (list_all (is_label news) ms) (label_formed labels news same l m parts.0 h.0) (labels_formed labels news same ls ms parts.1 h.1)

  pub flow_formed : (ls ms : List Label) → is_flow ls ≡ true → AreReduced P ls ms → is_flow ms ≡ true
  flow_formed ls ms e h =
      let parts = and_parts (list_all (is_label ls) ls) (is_entry (slice_get ls 0)) e in
      and_from (list_all (is_label ms) ms) (is_entry (slice_get ms 0)) (labels_formed ls ms (heads ls ms h) ls ms parts.0 h) (same_entry ls ms h ∙ parts.1)

  -- ---- meaning

  label_means : (f g : Next) → ((l : ℕ) (ws : List ℕ) (w : World) → All IsWord ws → HasSizes w.packet → g l ws w ≡ f l ws w) → (l m : Label) → IsReduced P l m → (ws : List ℕ) (w : World) → All IsWord ws → HasSizes w.packet → enter g (Some m) ws w ≡ enter f (Some l) ws w
  label_means f g jumps l m done ws w words sizes =
      let env = assigned_all blank l.params ws in
      ap (λ xs. does g m.body (assigned_all blank xs ws) w) done.params
      ∙ means P done.base f g jumps (with_all nothing l.params) done.base done.next l.body m.body done.body env env w (λ y lt. refl) (closed_all nothing l.params closed_nothing)
      (holds_all done.base nothing l.params ws blank closed_nothing (holds_nothing blank) done.new) (assigned-all-env blank l.params ws blank-env words) sizes

  enter_means : (f g : Next) → ((l : ℕ) (ws : List ℕ) (w : World) → All IsWord ws → HasSizes w.packet → g l ws w ≡ f l ws w) → (ls ms : List Label) → AreReduced P ls ms → (i : ℕ) (ws : List ℕ) (w : World) → All IsWord ws → HasSizes w.packet → enter g (slice_get ms i) ws w ≡ enter f (slice_get ls i) ws w
  enter_means f g jumps [] [] h i ws w words sizes = refl
  enter_means f g jumps [] (m ∷ ms) h i ws w words sizes = absurd h
  enter_means f g jumps (l ∷ ls) [] h i ws w words sizes = absurd h
  enter_means f g jumps (l ∷ ls) (m ∷ ms) h zero ws w words sizes = label_means f g jumps l m h.0 ws w words sizes
  enter_means f g jumps (l ∷ ls) (m ∷ ms) h (suc i) ws w words sizes = enter_means f g jumps ls ms h.1 i ws w words sizes

  run_means : (ls ms : List Label) → AreReduced P ls ms → (n l : ℕ) (ws : List ℕ) (w : World) → All IsWord ws → HasSizes w.packet → run ms n l ws w ≡ run ls n l ws w
  run_means ls ms h zero l ws w words sizes = refl
  run_means ls ms h (suc n) l ws w words sizes = enter_means (run ls n) (run ms n) (run_means ls ms h n) ls ms h l ws w words sizes

  pub flow_means : (ls ms : List Label) → AreReduced P ls ms → AreEqual (flow_params ls) (flow_meaning ls) (flow_meaning ms)
  flow_means ls ms h = λ args p arguments sizes n. sym (enter_means (run ls n) (run ms n) (run_means ls ms h n) ls ms h 0 args (begun p) arguments.1 sizes)

  -- ---- what each definition is

  each_defined : {base : ℕ} (T : Table) (n k : ℕ) (t u : _) → Reduced P base T n t u k → EachDefinition P T u
  each_defined T n k t u (extra T' n' k' q t' u' le dead settled p rest) = (p, each_defined _ (n + 1) k t' u' rest)
  each_defined T n k t u (kept T' n' k' x p q t' u' lt dead settled fine old same rest) = (fine, each_defined _ n k t' u' rest)
  each_defined T n k t u (read T' n' k' m xs a t' u' old fresh rest) = each_defined _ n k t' u' rest
  each_defined T n k t u (write T' n' k' m a bs t' u' old olds rest) = each_defined T n k t' u' rest
  each_defined T n k t u (choice T' n' j k' c a b t1 t2 u1 u2 olda oldb left right) = (each_defined T n j t1 u1 left, each_defined T j k t2 u2 right)
  each_defined T n k t u (jump T' n' l bs olds) = tt
  each_defined T n k t u (halt T' n' e bs olds) = tt

  pub all_defined : (ls ms : List Label) → AreReduced P ls ms → All (λ l. EachDefinition P (with_all nothing l.params) l.body) ms
  all_defined [] [] h = All-nil (λ l. EachDefinition P (with_all nothing l.params) l.body)
  all_defined [] (m ∷ ms) h = absurd h
  all_defined (l ∷ ls) [] h = absurd h
  all_defined (l ∷ ls) (m ∷ ms) h =
      All-cons (λ l. EachDefinition P (with_all nothing l.params) l.body) m ms
      (subst (λ xs. EachDefinition P (with_all nothing xs) m.body) (sym h.0.params) (each_defined (with_all nothing l.params) h.0.base h.0.next l.body m.body h.0.body)) (all_defined ls ms h.1)

  -- ---- one label more

  reduced_push : (ls ms : List Label) (l m : Label) → AreReduced P ls ms → IsReduced P l m → AreReduced P (ls ++ l ∷ []) (ms ++ m ∷ [])
  reduced_push [] [] l m h d = (d, tt)
  reduced_push [] (n ∷ ms) l m h d = absurd h
  reduced_push (k ∷ ls) [] l m h d = absurd h
  reduced_push (k ∷ ls) (n ∷ ms) l m h d = (h.0, reduced_push ls ms l m h.1 d)

  pub reduced_next : (labels : List FlowLabel) (i : ℕ) (d l m : FlowLabel) (ms ms' : List FlowLabel) → i < length labels → l ≡ get_or labels i d → AreReduced P (map label_view (take i labels)) (map label_view ms) → IsReduced P (label_view l) (label_view m) → ms' ≡ ms ++ m ∷ [] → AreReduced P (map label_view (take (i + 1) labels)) (map label_view ms')
  reduced_next labels i d l m ms ms' lt e h k push =
      let front : map label_view (take (i + 1) labels) ≡ map label_view (take i labels) ++ label_view l ∷ [] = map_more label_view labels i d lt ∙ ap (λ v. map label_view (take i labels) ++ label_view v ∷ []) (sym e) in
      let back : map label_view ms' ≡ map label_view ms ++ label_view m ∷ [] = ap (map label_view) push ∙ map_push label_view ms m in
      subst (λ v. AreReduced P v (map label_view ms')) (sym front) (subst (AreReduced P (map label_view (take i labels) ++ label_view l ∷ [])) (sym back) (reduced_push (map label_view (take i labels)) (map label_view ms) (label_view l) (label_view m) h k))

  -- ---- the call

  pub reduced_at : (xs ys zs : List FlowLabel) → AreReduced P (map label_view xs) (map label_view zs) → xs ≡ ys → AreReduced P (map label_view ys) (map label_view zs)
  reduced_at xs ys zs h e = subst (λ l. AreReduced P (map label_view l) (map label_view zs)) e h

-- one pass after another
pub then_equal : (a b : ℕ) (m n k : List ℕ → Memories → Meaning) → AreEqual a m n → b ≡ a → AreEqual b n k → AreEqual a m k
then_equal a b m n k e same g = λ args p arguments sizes i. e args p arguments sizes i ∙ g args p (subst (λ z. AreArguments z args) (sym same) arguments) sizes i
