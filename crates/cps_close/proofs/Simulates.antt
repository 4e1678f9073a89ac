-- A closed term does what the term does, at each number of jumps.
use Rattle.std.proofs.Common.{◌≡◌, ℕ, zero, suc, Bool, true, false, nat_eq, List, [], ◌∷◌, ◌++◌, Option, Some, None, refl, sym, ap, subst, ◌∙◌, ⊎_elim, if◌then◌else◌, length, slice_get}
use Rattle.std.proofs.lemmas.Bool.{or_cases, false≢true, eqb-true}
use Rattle.std.proofs.lemmas.Option.{none-some, same_Some}
use Rattle.nv_base.specs.Memories.{Memories}
use Rattle.nv_base.specs.Meanings.{FullOutcome}
use Rattle.nv_base.specs.Words.{Env, assigned, assigned_all, atom_word, atom_words, prim_word, atom_vars, prim_vars, compares}
use Rattle.nv_base.specs.World.{World, begun, over, ended, read_words, write_words}
use Rattle.nv_base.specs.Sets.{is_in, all_vars, without, Within, AgreeOn}
use Rattle.nv_base.proofs.Kept.{IsKept, kept-read, kept-write, kept-if}
use Rattle.nv_base.proofs.Operands.{atom-same, atoms-same, prim-same}
use Rattle.nv_base.proofs.Sets.{same-number, in-append, agree-left, agree-right, agree-behind, agree-all, within-left, within-right}
use Rattle.nv_base.proofs.WordLemmas.{length-words}
use Rattle.cps_ir.specs.Term as cps
use Rattle.cps_ir.specs.View.{Seen}
use Rattle.cps_ir.specs.Formed.{Scoped, scoped, arity, takes, takes_as_many}
use Rattle.cps_ir.specs.Meaning.{Scope, Top, Bound, Frames, Bottom, Body, ToLabel, label_in, at_body, enter_label, cps_meaning, enter_fun}
use Rattle.cps_ir.specs.Meaning as cps_run
use Rattle.flow_ir.specs.Tree as flow
use Rattle.flow_ir.specs.Wide.{live}
use Rattle.flow_ir.specs.Meaning.{flow_meaning}
use Rattle.flow_ir.specs.Meaning as flow_run
use Rattle.flow_ir.specs.inner.Scoped.{Apart}
use Rattle.cps_close.specs.inner.Closed.{Table, needed, number, operands, tree_of}
use Rattle.cps_close.proofs.Ready.{LabelReady, Ready, AllReady, Along}
use Rattle.cps_close.proofs.Envs.{unassigned, unassigned-all, assigned-append, assigned-operands, words-append}

-- ---- labels in scope

module _ (labels : List flow.Label) (tab : Table) where
  pub along-more : (sc : Scope) (ss : Scoped) (known known' : List ℕ) (env env' : Env) → Within known known' → AgreeOn known env env' → Along labels tab sc ss known env → Along labels tab sc ss known' env'
  along-more Top ss known known' env env' p q h = h
  along-more (Bound ls inner sc) ss known known' env env' p q h =
      (h.0, h.1, record { scopes = h.2.scopes; ready = h.2.ready; within = λ x e. p x (h.2.within x e); agrees = λ x e. h.2.agrees x e ∙ q x (h.2.within x e) }, h.3)

  ready-at : (b : Bool) (l k : ℕ) (here : Body) (ls : cps.Labels) (ss : Scoped) (known : List ℕ) (found : Body) → nat_eq k l ≡ b → LabelReady labels tab known (record { label = k; params = here.params; body = here.term }) → Ready labels tab ss (here.params ++ known) here.term
      → (label_in l ls ≡ Some found → LabelReady labels tab known (record { label = l; params = found.params; body = found.term }) × Ready labels tab ss (found.params ++ known) found.term)
      → (if b then Some here else label_in l ls) ≡ Some found → LabelReady labels tab known (record { label = l; params = found.params; body = found.term }) × Ready labels tab ss (found.params ++ known) found.term
  ready-at true l k here ls ss known found same r g h e =
      subst (λ (b : Body). LabelReady labels tab known (record { label = l; params = b.params; body = b.term }) × Ready labels tab ss (b.params ++ known) b.term) (same_Some here found e)
      (subst (λ m. LabelReady labels tab known (record { label = m; params = here.params; body = here.term })) (same-number k l same) r, g)
  ready-at false l k here ls ss known found same r g h e = h e

  pub ready-in : (ls : cps.Labels) (l : ℕ) (ss : Scoped) (known : List ℕ) (found : Body) → AllReady labels tab ss known ls → label_in l ls ≡ Some found
      → LabelReady labels tab known (record { label = l; params = found.params; body = found.term }) × Ready labels tab ss (found.params ++ known) found.term
  ready-in cps.none l ss known found r e = absurd (none-some found e)
  ready-in (cps.label k xs t ls) l ss known found r e = ready-at (nat_eq k l) l k (record { params = xs; term = t }) ls ss known found refl r.0 r.1 (ready-in ls l ss known found r.2) e

-- how many words the label of a number takes
abbrev pub arity_of : Option Body → Option ℕ → Option ℕ
arity_of (Some b) other = Some (length b.params)
arity_of None other = other

arity-at : (b : Bool) (l : ℕ) (here : Body) (ls : cps.Labels) (ss : Scoped) (o : Option Body) → (label_in l ls ≡ o → arity l (scoped ls ++ ss) ≡ (arity_of o (arity l ss)))
    → (if b then Some here else label_in l ls) ≡ o → (if b then Some (length here.params) else arity l (scoped ls ++ ss)) ≡ arity_of o (arity l ss)
arity-at true l here ls ss o h e = ap (λ p. arity_of p (arity l ss)) e
arity-at false l here ls ss o h e = h e

pub arity-in : (ls : cps.Labels) (l : ℕ) (ss : Scoped) (o : Option Body) → label_in l ls ≡ o → arity l (scoped ls ++ ss) ≡ arity_of o (arity l ss)
arity-in cps.none l ss o e = ap (λ p. arity_of p (arity l ss)) e
arity-in (cps.label k xs t ls) l ss o e = arity-at (nat_eq k l) l (record { params = xs; term = t }) ls ss o (arity-in ls l ss o) e

as-many : (n : ℕ) (b : Body) (other : Option ℕ) → takes_as_many n (arity_of (Some b) other) ≡ true → length b.params ≡ n
as-many n b other e = eqb-true (length b.params) n e

-- ---- a step

abbrev Equal : World → FullOutcome → FullOutcome → Type 0
Equal w r s = r ≡ s

equal-kept : IsKept Equal
equal-kept = record { same = λ w r e. refl; later = λ m at ws p w r s h. h }

-- the words at a label are those of its parameters, and those that it wants of where the jump was
abbrev pub Follows : List flow.Label → Table → cps_run.Next → flow_run.Next → Type 0
Follows labels tab f g = (l : ℕ) (ws : List ℕ) (sc : Scope) (fr : Frames) (w : World) (ss : Scoped) (known : List ℕ) (env : Env) → Along labels tab sc ss known env → takes ss l (length ws) ≡ true
    → f (ToLabel l ws sc fr) w ≡ g (number tab l) (ws ++ atom_words env (operands (needed tab l))) w

module _ (labels : List flow.Label) (tab : Table) (f : cps_run.Next) (g : flow_run.Next) (h : Follows labels tab f g) where
  pub does-same : (t : cps.Term) (env env' : Env) (sc : Scope) (fr : Frames) (ss : Scoped) (known : List ℕ) (w : World) → Ready labels tab ss known t → Along labels tab sc ss known env → AgreeOn (live (tree_of tab t)) env env'
      → cps_run.does f t env sc fr w ≡ flow_run.does g (tree_of tab t) env' w
  does-same (cps.Let x a t) env env' sc fr ss known w r along q =
      let v = prim_word env a in
      does-same t (assigned env x v) (assigned env' x v) sc fr ss (x ∷ known) w r.1
      (along-more labels tab sc ss known (x ∷ known) env (assigned env x v) (within-right (x ∷ []) known) (unassigned known env x v r.0) along)
      (agree-behind (live (tree_of tab t)) (x ∷ []) (v ∷ []) env env' (agree-right (prim_vars a) (without (live (tree_of tab t)) (x ∷ [])) env env' q))
      ∙ ap (λ u. flow_run.does g (tree_of tab t) (assigned env' x u) w) (prim-same env env' a (agree-left (prim_vars a) (without (live (tree_of tab t)) (x ∷ [])) env env' q))
  does-same (cps.Read m xs a t) env env' sc fr ss known w r along q =
      kept-read Equal equal-kept m (atom_word env a) (length xs) w (λ ws. cps_run.does f t (assigned_all env xs ws) sc fr w) (λ ws. flow_run.does g (tree_of tab t) (assigned_all env' xs ws) w)
      (λ ws.
      does-same t (assigned_all env xs ws) (assigned_all env' xs ws) sc fr ss (xs ++ known) w r.1
      (along-more labels tab sc ss known (xs ++ known) env (assigned_all env xs ws) (within-right xs known) (unassigned-all xs ws known env r.0) along)
      (agree-behind (live (tree_of tab t)) xs ws env env' (agree-right (atom_vars a) (without (live (tree_of tab t)) xs) env env' q)))
      ∙ ap (λ at. read_words m at (length xs) w (λ ws. flow_run.does g (tree_of tab t) (assigned_all env' xs ws) w)) (atom-same env env' a (agree-left (atom_vars a) (without (live (tree_of tab t)) xs) env env' q))
  does-same (cps.Write m a bs t) env env' sc fr ss known w r along q =
      let here : AgreeOn (atom_vars a ++ all_vars bs) env env' = agree-left (all_vars (a ∷ bs)) (live (tree_of tab t)) env env' q in
      kept-write Equal equal-kept m (atom_word env a) (atom_words env bs) w (λ v. cps_run.does f t env sc fr v) (λ v. flow_run.does g (tree_of tab t) env' v)
      (λ v. does-same t env env' sc fr ss known v r along (agree-right (all_vars (a ∷ bs)) (live (tree_of tab t)) env env' q))
      ∙ ap (λ at. write_words m at (atom_words env bs) w (λ v. flow_run.does g (tree_of tab t) env' v)) (atom-same env env' a (agree-left (atom_vars a) (all_vars bs) env env' here))
      ∙ ap (λ ws. write_words m (atom_word env' a) ws w (λ v. flow_run.does g (tree_of tab t) env' v)) (atoms-same env env' bs (agree-right (atom_vars a) (all_vars bs) env env' here))
  does-same (cps.If c a b t u) env env' sc fr ss known w r along q =
      let lt = live (tree_of tab t) in
      let lu = live (tree_of tab u) in
      let here : AgreeOn (atom_vars a ++ (atom_vars b ++ [])) env env' = agree-left (all_vars (a ∷ b ∷ [])) (lt ++ lu) env env' q in
      let rest : AgreeOn (lt ++ lu) env env' = agree-right (all_vars (a ∷ b ∷ [])) (lt ++ lu) env env' q in
      let second : AgreeOn (atom_vars b ++ []) env env' = agree-right (atom_vars a) (atom_vars b ++ []) env env' here in
      kept-if Equal equal-kept (compares c (atom_word env a) (atom_word env b)) w (cps_run.does f t env sc fr w) (cps_run.does f u env sc fr w) (flow_run.does g (tree_of tab t) env' w) (flow_run.does g (tree_of tab u) env' w)
      (does-same t env env' sc fr ss known w r.0 along (agree-left lt lu env env' rest)) (does-same u env env' sc fr ss known w r.1 along (agree-right lt lu env env' rest))
      ∙ ap (λ v. if compares c v (atom_word env b) then flow_run.does g (tree_of tab t) env' w else flow_run.does g (tree_of tab u) env' w) (atom-same env env' a (agree-left (atom_vars a) (atom_vars b ++ []) env env' here))
      ∙ ap (λ v. if compares c (atom_word env' a) v then flow_run.does g (tree_of tab t) env' w else flow_run.does g (tree_of tab u) env' w) (atom-same env env' b (agree-left (atom_vars b) [] env env' second))
  does-same (cps.Fix ls t) env env' sc fr ss known w r along q =
      does-same t env env' (Bound ls env sc) fr (scoped ls ++ ss) known w r.1
      (ss, known, record { scopes = refl; ready = r.0; within = λ x e. e; agrees = λ x e. refl }, along) q
  does-same (cps.Call k bs o hs) env env' sc fr ss known w r along q = absurd r
  does-same (cps.Return bs) env env' sc fr ss known w r along q = absurd r
  does-same (cps.Throw e bs) env env' sc fr ss known w r along q = absurd r
  does-same (cps.Jump l bs) env env' sc fr ss known w r along q =
      h l (atom_words env bs) sc fr w ss known env along (subst (λ n. takes ss l n ≡ true) (sym (length-words env bs)) r)
      ∙ ap (λ ws. g (number tab l) ws w) (sym (words-append env bs (operands (needed tab l))) ∙ atoms-same env env' (bs ++ operands (needed tab l)) q)
  does-same (cps.Halt e bs) env env' sc fr ss known w r along q = ap (λ ws. over (ended e ws) w) (atoms-same env env' bs q)

  -- ---- at a label

  -- the words that its variables have there
  filled-at : (b : Bool) (y : ℕ) (xs vs ws before : List ℕ) (inner now : Env) → is_in y vs ≡ b → Apart xs before → Within vs before → AgreeOn before inner now → is_in y (xs ++ vs) ≡ true
      → assigned_all inner xs ws y ≡ (if b then now y else assigned_all cps_run.blank xs ws y)
  filled-at true y xs vs ws before inner now i apart inside q e = sym (unassigned-all xs ws before inner apart y (inside y i)) ∙ q y (inside y i)
  filled-at false y xs vs ws before inner now i apart inside q e =
      agree-all xs ws [] inner cps_run.blank (λ z k. absurd (false≢true k)) y
      (within-left xs [] y (⊎_elim (λ (p : is_in y xs ≡ true). p) (λ (p : is_in y vs ≡ true). absurd (false≢true (sym i ∙ p))) (or_cases (is_in y xs) (is_in y vs) (sym (in-append y xs vs) ∙ e))))

  filled : (c : Seen) (ws before : List ℕ) (inner now : Env) → LabelReady labels tab before c → length c.params ≡ length ws → AgreeOn before inner now
      → AgreeOn (live (tree_of tab c.body)) (assigned_all inner c.params ws) (assigned_all flow_run.blank (c.params ++ needed tab c.label) (ws ++ atom_words now (operands (needed tab c.label))))
  filled c ws before inner now r n q =
      λ y e.
      let vs = needed tab c.label in
      filled-at (is_in y vs) y c.params vs ws before inner now refl r.apart r.inside q (r.whole y e)
      ∙ sym (assigned-operands vs (assigned_all cps_run.blank c.params ws) now y)
      ∙ ap (λ (k : Env). k y) (sym (assigned-append c.params ws vs (atom_words now (operands vs)) cps_run.blank n))

  at-label : (c : Seen) (ls : cps.Labels) (ws before : List ℕ) (inner now : Env) (sc : Scope) (fr : Frames) (ss : Scoped) (w : World) → LabelReady labels tab before c → Ready labels tab ss (c.params ++ before) c.body
      → Along labels tab (Bound ls inner sc) ss (c.params ++ before) (assigned_all inner c.params ws) → length c.params ≡ length ws → AgreeOn before inner now
      → cps_run.does f c.body (assigned_all inner c.params ws) (Bound ls inner sc) fr w ≡ flow_run.enter g (slice_get labels (number tab c.label)) (ws ++ atom_words now (operands (needed tab c.label))) w
  at-label c ls ws before inner now sc fr ss w r body along n q =
      does-same c.body (assigned_all inner c.params ws) (assigned_all flow_run.blank (c.params ++ needed tab c.label) (ws ++ atom_words now (operands (needed tab c.label)))) (Bound ls inner sc) fr ss (c.params ++ before) w body along
      (filled c ws before inner now r n q)
      ∙ ap (λ o. flow_run.enter g o (ws ++ atom_words now (operands (needed tab c.label))) w) (sym r.found)

  -- at the labels of one level, if they are more at an outer one
  enter-at : (o : Option Body) (sc : Scope) (ls : cps.Labels) (inner : Env) (l : ℕ) (ws : List ℕ) (fr : Frames) (w : World) (outer : Scoped) (before : List ℕ) (now : Env) → label_in l ls ≡ o
      → AllReady labels tab (scoped ls ++ outer) before ls → Along labels tab sc outer before inner → AgreeOn before inner now → takes (scoped ls ++ outer) l (length ws) ≡ true
      → (takes outer l (length ws) ≡ true → enter_label f l ws sc fr w ≡ flow_run.enter g (slice_get labels (number tab l)) (ws ++ atom_words now (operands (needed tab l))) w)
      → at_body f o inner (Bound ls inner sc) ws fr w (enter_label f l ws sc fr w) ≡ flow_run.enter g (slice_get labels (number tab l)) (ws ++ atom_words now (operands (needed tab l))) w
  enter-at (Some b) sc ls inner l ws fr w outer before now e ready along q many next =
      let both = ready-in labels tab ls l (scoped ls ++ outer) before b ready e in
      let n : length b.params ≡ length ws = as-many (length ws) b (arity l outer) (subst (λ o. takes_as_many (length ws) o ≡ true) (arity-in ls l outer (Some b) e) many) in
      let apart : Apart b.params before = both.0.apart in
      at-label (record { label = l; params = b.params; body = b.term }) ls ws before inner now sc fr (scoped ls ++ outer) w both.0 both.1
      (outer, before, record { scopes = refl; ready = ready; within = within-right b.params before; agrees = unassigned-all b.params ws before inner apart }, along) n q
  enter-at None sc ls inner l ws fr w outer before now e ready along q many next = next (subst (λ o. takes_as_many (length ws) o ≡ true) (arity-in ls l outer None e) many)

  pub enter-same : (sc : Scope) (l : ℕ) (ws : List ℕ) (fr : Frames) (w : World) (ss : Scoped) (known : List ℕ) (env now : Env) → Along labels tab sc ss known env → AgreeOn known env now → takes ss l (length ws) ≡ true
      → enter_label f l ws sc fr w ≡ flow_run.enter g (slice_get labels (number tab l)) (ws ++ atom_words now (operands (needed tab l))) w
  enter-same Top l ws fr w ss known env now along q e = let bad : takes [] l (length ws) ≡ true = subst (λ z. takes z l (length ws) ≡ true) along e in absurd (false≢true bad)
  enter-same (Bound ls inner sc) l ws fr w ss known env now along q e =
      let level = along.2 in
      let agrees : AgreeOn along.1 inner now = λ x i. level.agrees x i ∙ q x (level.within x i) in
      enter-at (label_in l ls) sc ls inner l ws fr w along.0 along.1 now refl (subst (λ z. AllReady labels tab z along.1 ls) level.scopes level.ready) along.3 agrees
      (subst (λ z. takes z l (length ws) ≡ true) level.scopes e) (λ many. enter-same sc l ws fr w along.0 along.1 inner now along.3 agrees many)

-- ---- runs

pub run-same : (funs : List cps.Fun) (labels : List flow.Label) (tab : Table) (n : ℕ) → Follows labels tab (cps_run.run funs n) (flow_run.run labels n)
run-same funs labels tab zero l ws sc fr w ss known env along e = refl
run-same funs labels tab (suc n) l ws sc fr w ss known env along e =
    enter-same labels tab (cps_run.run funs n) (flow_run.run labels n) (run-same funs labels tab n) sc l ws fr w ss known env env along (λ x i. refl) e

pub meaning-same : (funs : List cps.Fun) (main : ℕ) (f : cps.Fun) (labels : List flow.Label) (tab : Table) → slice_get funs main ≡ Some f → slice_get labels 0 ≡ Some (record { params = f.params; body = tree_of tab f.body }) → Ready labels tab [] f.params f.body
    → (args : List ℕ) (p : Memories) (n : ℕ) → cps_meaning funs main args p n ≡ flow_meaning labels args p n
meaning-same funs main f labels tab here there ready args p n =
    ap (λ o. enter_fun (cps_run.run funs n) o args Bottom (begun p)) here
    ∙ does-same labels tab (cps_run.run funs n) (flow_run.run labels n) (run-same funs labels tab n) f.body (assigned_all cps_run.blank f.params args) (assigned_all flow_run.blank f.params args) Top Bottom [] f.params (begun p) ready refl (λ x i. refl)
    ∙ ap (λ o. flow_run.enter (flow_run.run labels n) o args (begun p)) (sym there)
