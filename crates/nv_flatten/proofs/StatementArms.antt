-- Statements, and blocks.
use Rattle.std.proofs.Common.{◌≡◌, ◌∙◌, refl, ap, sym, subst, ℕ, ◌≤◌, true, if◌then◌else◌, List, [], ◌∷◌, ◌++◌, append_assoc, append-nil, length, Option, Some, None, arith}
use Rattle.nv_base.specs.declared.term.Atom.{Atom}
use Rattle.nv_base.specs.declared.term.Mem.{Mem}
use Rattle.nv_base.specs.Words.{Env, atom_word, atom_words}
use Rattle.nv_base.specs.Memories.{Memories, HasSizes, stored}
use Rattle.nv_base.proofs.MemoryLemmas.{stored-sizes}
use Rattle.nv_ast.specs.declared.token.Span.{Span}
use Rattle.nv_ast.specs.declared.tree.Stmt.{Stmt}
use Rattle.nv_ast.specs.ExprView.{list_statements, statement_tree}
use Rattle.nv_ast.specs.Tree.{Tree, BlockTree, PatternTree, StatementTree, LetStatement, StoreStatement, StatementTrees, no_statements, statement_and}
use Rattle.nv_ast.specs.Types.{Ty, WordTy, words, words_of_value}
use Rattle.nv_ast.specs.Scope.{Context, inside, with_vars, bind, bind_value, names_in}
use Rattle.nv_ast.specs.Typing.{type_at, vars_after, vars_behind}
use Rattle.nv_ast.specs.Faults.{Fault, Expected, faults, statement_faults, statements_faults, node_faults, at_span, a_value, anything, of_type, expected_stored, variable_twice, not_fitting, can_move, wrong_access, wrong_scratch}
use Rattle.nv_meaning.specs.Values.{Value, Scope, word_of, words_of, matched}
use Rattle.nv_meaning.specs.Running.{made_by, Running, Result, Gives, Raises, Halts, Stated, GoesOn, StopsAt, and_further, then_stated, after_store, store}
use Rattle.nv_meaning.proofs.Grows.{plain-append}
use Rattle.nv_meaning.specs.Meaning.{eval, run_one, run_all}
use Rattle.flat_ir.specs.Running as flat
use Rattle.flat_ir.specs.Meaning as code
use Rattle.flat_ir.specs.Spine.{Act, step_does, steps_do}
use Rattle.flat_ir.specs.declared.spine.Step.{Step}
use Rattle.nv_flatten_values.specs.inner.Symbols.{Symbol, SymbolScope, operands, value_in, Fits, word_operand, ScopeFits, scope_in, vars_of, bound}
use Rattle.nv_flatten_values.specs.inner.Runs.{flat_run, onward}
use Rattle.nv_flatten_values.specs.inner.Whole.{Whole, Stands}
use Rattle.nv_flatten_values.specs.inner.Simulation.{Names, Extends, Done, IsValue, IsStated, onward_stated}
use Rattle.nv_flatten_values.proofs.Keeping.{scope-later, keeps-value, keeps-scope, keeps-scope_fits, begins-then, begins-done, done-then, words-fit, are-words, extends-itself, extends-then}
use Rattle.nv_flatten_values.proofs.Fresh.{bound-values, bound-types, bound-fits, bound-older}
use Rattle.nv_flatten_values.proofs.NoFaults.{value-has-type}
use Rattle.nv_flatten_values.proofs.Following.{onward-stated, onward-further, steps-then, stands-inside, fewer, word-of}
use Rattle.nv_flatten.proofs.AccessArms.{operands-count}
use Rattle.nv_base.proofs.WordLemmas.{length-words}
use Rattle.nv_ast.proofs.Faultless.{no_front, no_rest, no_kinds}
use Rattle.nv_layout.proofs.Sound.{where_not}

-- ---- what follows a statement
onward-alone : (r : Stated) (next : Scope → Running → flat.Result) (never : Value → Running → flat.Result) → onward_stated (and_further r (λ m now. GoesOn m now)) next never ≡ onward_stated r next never
onward-alone (GoesOn m now) next never = refl
onward-alone (StopsAt how) next never = refl

onward-then_stated : (r : Result) (k : Value → Running → Stated) (next : Scope → Running → flat.Result) (never : Value → Running → flat.Result) → onward_stated (then_stated r k) next never ≡ onward r (λ v now. onward_stated (k v now) next never)
onward-then_stated (Gives v now) k next never = refl
onward-then_stated (Raises j vs now) k next never = refl
onward-then_stated (Halts how now) k next never = refl

-- ---- a let
module _ (w : Whole) (names : Names) (low high : ℕ) (scope : SymbolScope) (sp : Span) (q : PatternTree) (e : Tree) (steps : List Step) (s : Symbol) where
  abbrev the_let : StatementTrees
  the_let = statement_and (LetStatement sp q e) no_statements

  let-clean : (p : Context) → statements_faults p the_let ≡ [] → faults p a_value e ≡ []
  let-clean p none =
      let fit = at_span sp (variable_twice (names_in q) ++ not_fitting q (type_at p.known p.vars e)) in
      no_front (faults p a_value e) fit (no_front (faults p a_value e ++ fit) [] none)

  pub let-stated : low ≤ high → IsValue w names low high scope e steps s → IsStated w names low high scope the_let steps (bound q s scope)
  let-stated le v = record {
    simulate = λ own p stands none o c env now begins rest next never same.
        let m = scope_in env scope in
        let k : Value → Running → Stated = λ x last. GoesOn (matched q x m) last in
        v.simulates.by own p a_value stands (let-clean p none) o c env now begins rest (λ x last. next (matched q x m) last)
        (λ new last done.
        same new last (record { sizes = done.sizes; keeps = done.keeps; fits = bound-fits new q s scope done.fits (keeps-scope_fits low env new scope done.keeps o begins.fits) })
        ∙ ap (λ z. next z last) (bound-values new q s scope ∙ ap (λ z. matched q (value_in new s) z) (keeps-scope low env new scope done.keeps o)))
        ∙ sym (onward-then_stated (eval w.declared c.call e m now) k next never)
        ∙ sym (onward-alone (then_stated (eval w.declared c.call e m now) k) next never);
    formed = λ own p stands none.
        let t = value-has-type p a_value e refl (let-clean p none) in
        ap (λ z. bind_value q z p.vars) t.1
        ∙ ap (bind q t.0) stands.vars
        ∙ ap (λ z. bind q z (vars_of scope)) (sym (v.formed.by own p a_value stands (let-clean p none) t.0 t.1))
        ∙ sym (bound-types q s scope);
    older = λ o. bound-older high q s scope (v.older o) (scope-later low high scope le o);
  }

-- ---- a store that may be
may-store : (sp : Span) (m' : Scope) (m : Mem) (at : ℕ) (ws : List ℕ) (now : Running) → can_move m (length ws) ≡ true → store sp m' m at ws now ≡ after_store sp m' m at ws (stored m at ws now.packet) now
may-store sp m' m at ws now e = ap (λ b. if b then after_store sp m' m at ws (stored m at ws now.packet) now else GoesOn m' now) e

-- the step of a store: the operands' words from an operand's address on
abbrev pub StoresTo : Mem → Atom → List Atom → Step → Type 0
StoresTo m a as' step = (call : code.Calls) (rest : Act) (env : Env) (now : flat.Running) → step_does call step rest env now ≡ flat.store m (atom_word env a) (atom_words env as') now (λ next. rest env next)

module _ (sp : Span) (low : ℕ) (scope : SymbolScope) (m : Mem) (at : ℕ) (ws : List ℕ) (env after : Env) (end : Running) (fit : Type 0) (m' : Scope) (rest : Act) (next : Scope → Running → flat.Result) (never : Value → Running → flat.Result) where
  written-any : (o : Option Memories) → ((q : Memories) → o ≡ Some q → HasSizes q) → Done low env after fit end → ScopeFits after scope → scope_in after scope ≡ m'
      → ((new : Env) (last : Running) → Done low env new (ScopeFits new scope) last → rest new (flat_run last) ≡ next (scope_in new scope) last)
      → flat.after_store m at ws o (flat_run end) (λ now. rest after now) ≡ onward_stated (after_store sp m' m at ws o end) next never
  written-any None sizes done fits is same = refl
  written-any (Some q) sizes done fits is same =
      let last : Running = record { calls = end.calls; packet = q; writes = end.writes ++ made_by sp end.chain m at ws ∷ []; chain = end.chain } in
      ap (λ l. rest after (record { calls = end.calls; packet = q; writes = l })) (sym (plain-append end.writes (made_by sp end.chain m at ws ∷ [])))
      ∙ same after last (record { sizes = sizes q refl; keeps = done.keeps; fits = fits }) ∙ ap (λ z. next z last) is

-- ---- the address, the value, the store
module _ (w : Whole) (names more : Names) (low mid high : ℕ) (scope : SymbolScope) (sp : Span) (m : Mem) (a e : Tree) (ss ts : List Step) (s u : Symbol) (step : Step) where
  abbrev the_store : StatementTrees
  the_store = statement_and (StoreStatement sp m a e) no_statements

  abbrev access_faults : Context → List Fault
  access_faults p = at_span sp (wrong_access m (words_of_value (type_at p.known p.vars e)) ++ wrong_scratch m a (words_of_value (type_at p.known p.vars e)))

  store-none : (p : Context) → statements_faults p the_store ≡ [] → faults p (of_type WordTy) a ++ (faults p expected_stored e ++ access_faults p) ≡ []
  store-none p none = no_front (faults p (of_type WordTy) a ++ (faults p expected_stored e ++ access_faults p)) [] none

  address-clean : (p : Context) → statements_faults p the_store ≡ [] → faults p (of_type WordTy) a ≡ []
  address-clean p none = no_front (faults p (of_type WordTy) a) (faults p expected_stored e ++ access_faults p) (store-none p none)

  behind-address : (p : Context) → statements_faults p the_store ≡ [] → faults p expected_stored e ++ access_faults p ≡ []
  behind-address p none = no_rest (faults p (of_type WordTy) a) (faults p expected_stored e ++ access_faults p) (store-none p none)

  value-clean : (p : Context) → statements_faults p the_store ≡ [] → faults p expected_stored e ≡ []
  value-clean p none = no_front (faults p expected_stored e) (access_faults p) (behind-address p none)

  moves-words : (p : Context) (t : Ty) → statements_faults p the_store ≡ [] → type_at p.known p.vars e ≡ Some t → can_move m (words t) ≡ true
  moves-words p t none is =
      let n = words_of_value (type_at p.known p.vars e) in
      let kinds = no_kinds sp (wrong_access m n ++ wrong_scratch m a n) (no_rest (faults p expected_stored e) (access_faults p) (behind-address p none)) in
      ap (λ o. can_move m (words_of_value o)) (sym is) ∙ (where_not (can_move m n) 19 (no_front (wrong_access m n) (wrong_scratch m a n) kinds))

  pub store-stated : StoresTo m (word_operand s) (operands u) step → Extends names more → low ≤ mid → mid ≤ high → IsValue w names low mid scope a ss s → IsValue w more mid high scope e ts u
      → IsStated w more low high scope the_store ((ss ++ ts) ++ step ∷ []) scope
  store-stated stores ext le le' v v' = record {
    simulate = λ own p stands none o c env now begins rest next never same.
        let z = scope_in env scope in
        let last_step = step ∷ [] in
        let right : Value → Value → Running → Stated = λ x y end. store sp z m (word_of x) (words_of y) end in
        let left : Value → Running → Stated = λ x last. then_stated (eval w.declared c.call e z last) (right x) in
        ap (λ l. steps_do c.fcall l rest env (flat_run now)) (append_assoc ss ts last_step)
        ∙ steps-then c.fcall ss (ts ++ last_step) rest env (flat_run now)
        ∙ v.simulates.by own p (of_type WordTy) stands (address-clean p none) o (fewer w names more ext c) env now begins (steps_do c.fcall (ts ++ last_step) rest) (λ x last. onward_stated (left x last) next never)
        (λ new last done.
        let x = value_in new s in
        steps-then c.fcall ts last_step rest new (flat_run last)
        ∙ v'.simulates.by own p expected_stored stands (value-clean p none) (scope-later low mid scope le o) c new last (begins-then low env new scope now last (Fits new s) o begins done) (steps_do c.fcall last_step rest) (λ y end. onward_stated (right x y end) next never)
        (λ after end done'.
        let kept = keeps-value mid new after s done'.keeps (v.older o) in
        let y = value_in after u in
        let at = atom_word after (word_operand s) in
        let spelled = words-fit after u done'.fits in
        let both = done-then low mid env new after (Fits new s) (Fits after u) last end le done done' in
        let t = value-has-type p expected_stored e refl (value-clean p none) in
        let count : length (words_of y) ≡ words t.0 = ap length spelled ∙ length-words after (operands u) ∙ operands-count u ∙ ap words (v'.formed.by own p expected_stored stands (value-clean p none) t.0 t.1) in
        let moves : can_move m (length (words_of y)) ≡ true = ap (can_move m) count ∙ moves-words p t.0 none t.1 in
        stores c.fcall rest after (flat_run end)
        ∙ ap (λ l. flat.store m at l (flat_run end) (λ now'. rest after now')) (sym spelled)
        ∙ written-any sp low scope m at (words_of y) env after end (Fits after u) z rest next never (stored m at (words_of y) end.packet)
        (λ q is. stored-sizes m at (words_of y) end.packet q done'.sizes (are-words after u done'.fits) is) both (keeps-scope_fits low env after scope both.keeps o begins.fits) (keeps-scope low env after scope both.keeps o) same
        ∙ ap (λ r. onward_stated r next never) (sym (may-store sp z m at (words_of y) end moves))
        ∙ ap (λ i. onward_stated (store sp z m i (words_of y) end) next never) (sym (word-of after s) ∙ ap word_of kept))
        ∙ sym (onward-then_stated (eval w.declared c.call e (scope_in new scope) last) (right x) next never)
        ∙ ap (λ y. onward_stated (then_stated (eval w.declared c.call e y last) (right x)) next never) (keeps-scope low env new scope done.keeps o))
        ∙ sym (onward-then_stated (eval w.declared c.call a z now) left next never)
        ∙ sym (onward-alone (then_stated (eval w.declared c.call a z now) left) next never);
    formed = λ own p stands none. stands.vars;
    older = λ o. scope-later low high scope (omega arith) o;
  }

-- ---- statements one after another
module _ (w : Whole) (names more : Names) (low mid high : ℕ) (scope inner : SymbolScope) where
  pub stated-none : IsStated w names low low scope no_statements [] scope
  stated-none = record {
    simulate = λ own p stands none o c env now begins rest next never same. same env now (begins-done low env scope now (ScopeFits env scope) begins begins.fits);
    formed = λ own p stands none. stands.vars;
    older = λ o. o;
  }

  pub stated-and : (st : StatementTree) (sts : StatementTrees) (ss ts : List Step) (behind : SymbolScope) → Extends names more → low ≤ mid → IsStated w names low mid scope (statement_and st no_statements) ss inner → IsStated w more mid high inner sts ts behind
      → IsStated w more low high scope (statement_and st sts) (ss ++ ts) behind
  stated-and st sts ss ts behind ext le v v' = record {
    simulate = λ own p stands none o c env now begins rest next never same.
        let one = run_one w.declared c.call st (scope_in env scope) now in
        let k : Scope → Running → Stated = λ m last. run_all w.declared c.call sts m last in
        steps-then c.fcall ss ts rest env (flat_run now)
        ∙ v.simulate own p stands (first-clean p none) o (fewer w names more ext c) env now begins (steps_do c.fcall ts rest) (λ m last. onward_stated (k m last) next never) never
        (λ new last done.
        v'.simulate own (with_vars (vars_after p.known p.vars st) p) (stands-behind own p stands none) (others-clean p none) (v.older o) c new last (record { sizes = done.sizes; fits = done.fits }) rest next never
        (λ after end done'. same after end (done-then low mid env new after (ScopeFits new inner) (ScopeFits after behind) last end le done done')))
        ∙ onward-alone one (λ m last. onward_stated (k m last) next never) never
        ∙ sym (onward-further one k next never);
    formed = λ own p stands none. v'.formed own (with_vars (vars_after p.known p.vars st) p) (stands-behind own p stands none) (others-clean p none);
    older = λ o. v'.older (v.older o);
  }
    where
      first-clean : (p : Context) → statements_faults p (statement_and st sts) ≡ [] → statements_faults p (statement_and st no_statements) ≡ []
      first-clean p none = append-nil (statement_faults p st) ∙ no_front (statement_faults p st) (statements_faults (with_vars (vars_after p.known p.vars st) p) sts) none

      others-clean : (p : Context) → statements_faults p (statement_and st sts) ≡ [] → statements_faults (with_vars (vars_after p.known p.vars st) p) sts ≡ []
      others-clean p none = no_rest (statement_faults p st) (statements_faults (with_vars (vars_after p.known p.vars st) p) sts) none

      stands-behind : (own : ℕ) (p : Context) → Stands w own scope p → statements_faults p (statement_and st sts) ≡ [] → Stands w own inner (with_vars (vars_after p.known p.vars st) p)
      stands-behind own p stands none = record { part = stands.part; vars = v.formed own p stands (first-clean p none) }

-- ---- the loop: what the statements so far came to, and the rest
module _ (w : Whole) (low : ℕ) (scope : SymbolScope) (sts : List Stmt) where
  abbrev pub Led : Names → ℕ → List Step → SymbolScope → List Stmt → Type 0
  Led names mid ss inner rest = (more : Names) (high : ℕ) (ts : List Step) (behind : SymbolScope) → Extends names more → mid ≤ high
      → IsStated w more mid high inner (list_statements rest) ts behind → IsStated w more low high scope (list_statements sts) (ss ++ ts) behind

  pub led-none : (names : Names) → Led names low [] scope sts
  led-none names more high ts behind ext le h = h

  pub led-more : (names names' : Names) (mid mid' : ℕ) (ss ts ss' : List Step) (inner inner' : SymbolScope) (rest rest' : List Stmt) (st : Stmt)
      → rest ≡ st ∷ rest' → mid ≤ mid' → Extends names names' → Led names mid ss inner rest → IsStated w names' mid mid' inner (statement_and (statement_tree st) no_statements) ts inner' → ss' ≡ ss ++ ts → Led names' mid' ss' inner' rest'
  led-more names names' mid mid' ss ts ss' inner inner' rest rest' st is le ext led v same more high us behind ext' le' h =
      let whole = led more high (ts ++ us) behind (extends-then names names' more ext ext') (omega arith)
      (subst (λ l. IsStated w more mid high inner (list_statements l) (ts ++ us) behind) (sym is) (stated-and w names' more mid mid' high inner inner' (statement_tree st) (list_statements rest') ts us behind ext' le v h)) in
      subst (λ l. IsStated w more low high scope (list_statements sts) (l ++ us) behind) (sym same)
      (subst (λ l. IsStated w more low high scope (list_statements sts) l behind) (sym (append_assoc ss ts us)) whole)

  pub led-all : (names : Names) (mid : ℕ) (ss : List Step) (inner : SymbolScope) (rest : List Stmt) → rest ≡ [] → Led names mid ss inner rest → IsStated w names low mid scope (list_statements sts) ss inner
  led-all names mid ss inner rest is led =
      let whole = led names mid [] inner (extends-itself names) (omega arith) (subst (λ l. IsStated w names mid mid inner (list_statements l) [] inner) (sym is) (stated-none w names names mid mid mid inner inner)) in
      subst (λ l. IsStated w names low mid scope (list_statements sts) l inner) (append-nil ss) whole

-- ---- a block
module _ (w : Whole) (names more : Names) (low mid high : ℕ) (scope inner : SymbolScope) (sp : Span) (sts : StatementTrees) (e : Tree) (ss ts : List Step) (s : Symbol) where
  pub block-value : Extends names more → low ≤ mid → IsStated w names low mid scope sts ss inner → IsValue w more mid high inner e ts s → IsValue w more low high scope (BlockTree sp sts e) (ss ++ ts) s
  block-value ext le v v' = record {
    simulates = record {
      by = λ own p wanted stands none o c env now begins rest next same.
          let k : Scope → Running → Result = λ m last. eval w.declared c.call e m last in
          steps-then c.fcall ss ts rest env (flat_run now)
          ∙ v.simulate own (inside p) (stands-inside w own scope p stands) (statements-clean p wanted none) o (fewer w names more ext c) env now begins (steps_do c.fcall ts rest) (λ m last. onward (k m last) next) next
          (λ new last done.
          v'.simulates.by own (with_vars (vars_behind p.known p.vars sts) p) anything (stands-behind own p wanted stands none) (last-clean p wanted none) (v.older o) c new last (record { sizes = done.sizes; fits = done.fits }) rest next
          (λ after end done'. same after end (done-then low mid env new after (ScopeFits new inner) (Fits after s) last end le done done')))
          ∙ sym (onward-stated (run_all w.declared c.call sts (scope_in env scope) now) k next);
    };
    formed = record { by = λ own p wanted stands none t is. v'.formed.by own (with_vars (vars_behind p.known p.vars sts) p) anything (stands-behind own p wanted stands none) (last-clean p wanted none) t is };
    older = λ o. v'.older (v.older o);
  }
    where
      statements-clean : (p : Context) (wanted : Expected) → faults p wanted (BlockTree sp sts e) ≡ [] → statements_faults (inside p) sts ≡ []
      statements-clean p wanted none = no_front (statements_faults (inside p) sts) (faults (with_vars (vars_behind p.known p.vars sts) p) anything e ++ node_faults p wanted (BlockTree sp sts e)) none

      last-clean : (p : Context) (wanted : Expected) → faults p wanted (BlockTree sp sts e) ≡ [] → faults (with_vars (vars_behind p.known p.vars sts) p) anything e ≡ []
      last-clean p wanted none =
          no_front (faults (with_vars (vars_behind p.known p.vars sts) p) anything e) (node_faults p wanted (BlockTree sp sts e))
          (no_rest (statements_faults (inside p) sts) (faults (with_vars (vars_behind p.known p.vars sts) p) anything e ++ node_faults p wanted (BlockTree sp sts e)) none)

      stands-behind : (own : ℕ) (p : Context) (wanted : Expected) → Stands w own scope p → faults p wanted (BlockTree sp sts e) ≡ [] → Stands w own inner (with_vars (vars_behind p.known p.vars sts) p)
      stands-behind own p wanted stands none = record { part = stands.part; vars = v.formed own (inside p) (stands-inside w own scope p stands) (statements-clean p wanted none) }
