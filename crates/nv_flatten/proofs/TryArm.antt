-- Code with a handler.
use Rattle.std.proofs.Common.{◌≡◌, ◌∙◌, refl, ap, sym, subst, ℕ, ◌+◌, ◌≤◌, ◌==◌, Bool, true, false, if◌then◌else◌, is_none, unwrap_or, List, [], ◌++◌, Option, Some, option_map, arith}
use Rattle.std.proofs.lemmas.Bool.{eqb-true}
use Rattle.std.specs.Option.{option_or}
use Rattle.nv_base.specs.Words.{Env, assigned_all}
use Rattle.nv_base.specs.Memories.{HasSizes}
use Rattle.nv_ast.specs.declared.token.Span.{Span}
use Rattle.nv_ast.specs.Tree.{Tree, TryTree, PatternTrees}
use Rattle.nv_ast.specs.Types.{Ty, Tys, no_tys, total_words}
use Rattle.nv_ast.specs.Tests.{look_up}
use Rattle.nv_ast.specs.Scope.{Context, inside, with_vars, bind_all, bind_raised, names_in_all}
use Rattle.nv_ast.specs.Typing.{type_at, or_ty}
use Rattle.nv_ast.specs.Faults.{Expected, anything, same_as, at_span, faults, node_faults, raised_kinds, variable_twice, wrong_number_of_patterns, not_all_fitting, unknown_exception}
use Rattle.nv_meaning.specs.Values.{Values, all_words, all_matched}
use Rattle.nv_meaning.specs.Running.{Running, Result, Gives, Raises, Halts, handled, exception_number}
use Rattle.nv_meaning.specs.Meaning.{eval}
use Rattle.flat_ir.specs.Running as flat
use Rattle.flat_ir.specs.Meaning as code
use Rattle.flat_ir.specs.declared.flat.Flat.{Flat}
use Rattle.nv_flatten_values.specs.inner.Symbols.{Symbol, Symbols, SymbolScope, form, vars_of, scope_in, ScopeOlder, all_fresh, all_bound, numbers_from}
use Rattle.nv_flatten_values.specs.inner.Runs.{flat_run, ended}
use Rattle.nv_flatten_values.specs.inner.Soundness.{ComesTo, AreWords, value_tys}
use Rattle.nv_flatten_values.specs.inner.Whole.{Whole, Stands, raised_tys, raised_or_none}
use Rattle.nv_flatten_values.specs.inner.Simulation.{Names, Extends, Begins, IsEnd}
use Rattle.nv_flatten_values.proofs.Keeping.{scope-later, keeps-scope, keeps-scope_fits, types-of-scope, scope-words}
use Rattle.nv_flatten_values.proofs.Fresh.{fresh-forms, all-fresh-older, numbers-keep, fresh-values, all-fresh-fit, all-bound-values, all-bound-types, all-bound-fit, all-bound-older}
use Rattle.nv_flatten_values.proofs.Sound.{typed-eval}
use Rattle.nv_flatten_values.proofs.NoFaults.{given}
use Rattle.nv_flatten_values.proofs.Following.{stands-inside}
use Rattle.nv_flatten.proofs.EndArms.{end-more, first-form}
use Rattle.nv_ast.proofs.Faultless.{no_front, no_rest, no_kinds, not_where}

-- what a handler does with a result of some type
module _ (w : Whole) (k : ℕ) (h : List ℕ → flat.Running → flat.Result) (handler : Values → Running → Result)
    (same : (vs : Values) (last : Running) → raised_tys w k ≡ Some (value_tys vs) → AreWords (all_words vs) → HasSizes last.packet → h (all_words vs) (flat_run last) ≡ ended (handler vs last)) where
  raised-run : (j : ℕ) (vs : Values) (last : Running) → raised_tys w j ≡ Some (value_tys vs) → AreWords (all_words vs) → HasSizes last.packet → (b : Bool) → (j == k) ≡ b
      → (if b then h (all_words vs) (flat_run last) else flat.Raises j (all_words vs) (flat_run last)) ≡ ended (if b then handler vs last else Raises j vs last)
  raised-run j vs last ty fit sizes true e = same vs last (subst (λ i. raised_tys w i ≡ Some (value_tys vs)) (eqb-true j k e) ty) fit sizes
  raised-run j vs last ty fit sizes false e = refl

  handled-run : (t : Option Ty) (r : Result) → ComesTo w t r → flat.handled k h (ended r) ≡ ended (handled k handler r)
  handled-run t (Gives v now) c = refl
  handled-run t (Raises j vs now) c = raised-run j vs now c.0 c.1 c.2 (j == k) refl
  handled-run t (Halts how now) c = refl

-- new variables with the words of an exception's values, taken apart by patterns
caught-values : (mid : ℕ) (env : Env) (ps : PatternTrees) (scope : SymbolScope) (second : Env → Running → flat.Result) (handler : _ → Running → Result) (vs : Values) (last : Running)
    → ScopeOlder mid scope → Begins env scope last → AreWords (all_words vs) → HasSizes last.packet
    → (ts : Tys) → value_tys vs ≡ ts
    → ((new : Env) (end : Running) → Begins new (all_bound ps (all_fresh mid ts) scope) end → second new end ≡ ended (handler (scope_in new (all_bound ps (all_fresh mid ts) scope)) end))
    → second (assigned_all env (numbers_from mid (total_words ts)) (all_words vs)) last ≡ ended (handler (all_matched ps vs (scope_in env scope)) last)
caught-values mid env ps scope second handler vs last older begins fit sizes ts e =
    subst (λ us. ((new : Env) (end : Running) → Begins new (all_bound ps (all_fresh mid us) scope) end → second new end ≡ ended (handler (scope_in new (all_bound ps (all_fresh mid us) scope)) end))
    → second (assigned_all env (numbers_from mid (total_words us)) (all_words vs)) last ≡ ended (handler (all_matched ps vs (scope_in env scope)) last)) e
    (λ same.
    let new : Env = assigned_all env (numbers_from mid (total_words (value_tys vs))) (all_words vs) in
    let keep = numbers-keep mid (total_words (value_tys vs)) env (all_words vs) in
    same new last (record { sizes = sizes; fits = all-bound-fit new ps (all_fresh mid (value_tys vs)) scope (all-fresh-fit mid env vs fit) (keeps-scope_fits mid env new scope keep older begins.fits) })
    ∙ ap (λ sc. ended (handler sc last)) (all-bound-values new ps (all_fresh mid (value_tys vs)) scope
    ∙ ap (λ us. all_matched ps us (scope_in new scope)) (fresh-values mid env vs)
    ∙ ap (λ sc. all_matched ps vs sc) (keeps-scope mid env new scope keep older)))

-- the exception of a try without faults
record IsCaught (w : Whole) (p : Context) (x : List ℕ) : Type 0 where
  pub types : Tys
  pub found : look_up x p.known.exceptions ≡ Some types
  pub raised : raised_or_none w (exception_number w.declared.exceptions x) ≡ types

module _ (w : Whole) (names : Names) (low mid high : ℕ) (scope : SymbolScope) (sp : Span) (a : Tree) (x : List ℕ) (ps : PatternTrees) (h : Tree) (first second : Flat) (o u : Option Symbol) where
  abbrev k : ℕ
  k = exception_number w.declared.exceptions x

  abbrev ts : Tys
  ts = raised_or_none w (exception_number w.declared.exceptions x)

  abbrev inner : SymbolScope
  inner = all_bound ps (all_fresh mid (raised_or_none w (exception_number w.declared.exceptions x))) scope

  none-body : (p : Context) (wanted : Expected) → faults p wanted (TryTree sp a x ps h) ≡ [] → faults (inside p) anything a ≡ []
  none-body p wanted none = no_front (faults (inside p) anything a) (at_span sp (raised_kinds p.known x ps) ++ (faults (with_vars (bind_raised ps (look_up x p.known.exceptions) p.vars) p) (same_as (type_at p.known p.vars a)) h ++ node_faults p wanted (TryTree sp a x ps h))) none

  none-rest : (p : Context) (wanted : Expected) → faults p wanted (TryTree sp a x ps h) ≡ [] → at_span sp (raised_kinds p.known x ps) ++ (faults (with_vars (bind_raised ps (look_up x p.known.exceptions) p.vars) p) (same_as (type_at p.known p.vars a)) h ++ node_faults p wanted (TryTree sp a x ps h)) ≡ []
  none-rest p wanted none = no_rest (faults (inside p) anything a) (at_span sp (raised_kinds p.known x ps) ++ (faults (with_vars (bind_raised ps (look_up x p.known.exceptions) p.vars) p) (same_as (type_at p.known p.vars a)) h ++ node_faults p wanted (TryTree sp a x ps h))) none

  none-handler : (p : Context) (wanted : Expected) → faults p wanted (TryTree sp a x ps h) ≡ [] → faults (with_vars (bind_raised ps (look_up x p.known.exceptions) p.vars) p) (same_as (type_at p.known p.vars a)) h ≡ []
  none-handler p wanted none = no_front (faults (with_vars (bind_raised ps (look_up x p.known.exceptions) p.vars) p) (same_as (type_at p.known p.vars a)) h) (node_faults p wanted (TryTree sp a x ps h))
      (no_rest (at_span sp (raised_kinds p.known x ps)) (faults (with_vars (bind_raised ps (look_up x p.known.exceptions) p.vars) p) (same_as (type_at p.known p.vars a)) h ++ node_faults p wanted (TryTree sp a x ps h)) (none-rest p wanted none))

  none-unknown : (p : Context) (wanted : Expected) → faults p wanted (TryTree sp a x ps h) ≡ [] → unknown_exception p.known x ≡ []
  none-unknown p wanted none =
      no_rest (not_all_fitting ps (look_up x p.known.exceptions)) (unknown_exception p.known x)
      (no_rest (wrong_number_of_patterns (look_up x p.known.exceptions) ps) (not_all_fitting ps (look_up x p.known.exceptions) ++ unknown_exception p.known x)
      (no_rest (variable_twice (names_in_all ps)) (wrong_number_of_patterns (look_up x p.known.exceptions) ps ++ (not_all_fitting ps (look_up x p.known.exceptions) ++ unknown_exception p.known x))
      (no_kinds sp (raised_kinds p.known x ps) (no_front (at_span sp (raised_kinds p.known x ps)) (faults (with_vars (bind_raised ps (look_up x p.known.exceptions) p.vars) p) (same_as (type_at p.known p.vars a)) h ++ node_faults p wanted (TryTree sp a x ps h)) (none-rest p wanted none)))))

  caught : (own : ℕ) (p : Context) (wanted : Expected) → Stands w own scope p → faults p wanted (TryTree sp a x ps h) ≡ [] → IsCaught w p x
  caught own p wanted stands none =
      let q = given (look_up x p.known.exceptions) (not_where (is_none (look_up x p.known.exceptions)) 17 (none-unknown p wanted none)) in
      record { types = q.0; found = q.1; raised = ap (λ r. unwrap_or r no_tys) (stands.part.exceptions x q.0 q.1) }

  stands-handler : (own : ℕ) (p : Context) (wanted : Expected) → Stands w own scope p → faults p wanted (TryTree sp a x ps h) ≡ [] → Stands w own inner (with_vars (bind_raised ps (look_up x p.known.exceptions) p.vars) p)
  stands-handler own p wanted stands none =
      let c = caught own p wanted stands none in
      record {
        part = stands.part;
        vars = ap (λ q. bind_raised ps q p.vars) c.found
            ∙ ap (λ vars. bind_all ps c.types vars) stands.vars
            ∙ ap (λ us. bind_all ps us (vars_of scope)) (sym c.raised ∙ sym (fresh-forms mid ts))
            ∙ sym (all-bound-types ps (all_fresh mid ts) scope);
      }

  inner-older : low ≤ mid → ScopeOlder low scope → ScopeOlder (mid + total_words ts) inner
  inner-older le older = all-bound-older (mid + total_words ts) ps (all_fresh mid ts) scope (all-fresh-older mid ts) (scope-later low (mid + total_words ts) scope (omega arith) older)

  caught-end : (t : Flat) → IsEnd w names low mid scope a first o → IsEnd w names (mid + total_words ts) high inner h second u → low ≤ mid
      → ((call : code.Calls) (env : Env) (now : flat.Running) → code.does call t env now ≡ flat.handled k (λ ws next. code.does call second (assigned_all env (numbers_from mid (total_words ts)) ws) next) (code.does call first env now))
      → IsEnd w names low high scope (TryTree sp a x ps h) t (option_or o u)
  caught-end t body handler le tries = record {
    simulates = λ own p wanted stands none older c env now begins.
        tries c.fcall env (flat_run now)
        ∙ ap (λ y. flat.handled k (λ ws next. code.does c.fcall second (assigned_all env (numbers_from mid (total_words ts)) ws) next) y) (body.simulates own (inside p) anything (stands-inside w own scope p stands) (none-body p wanted none) older c env now begins)
        ∙ handled-run w k (λ ws next. code.does c.fcall second (assigned_all env (numbers_from mid (total_words ts)) ws) next) (λ vs next. eval w.declared c.call h (all_matched ps vs (scope_in env scope)) next)
        (λ vs last ty fit sizes.
        caught-values mid env ps scope (λ new end. code.does c.fcall second new (flat_run end)) (λ sc end. eval w.declared c.call h sc end) vs last
        (scope-later low mid scope le older) (record { sizes = sizes; fits = begins.fits }) fit sizes ts (sym (ap (λ v. unwrap_or v no_tys) ty))
        (λ new end b. handler.simulates own (with_vars (bind_raised ps (look_up x p.known.exceptions) p.vars) p) (same_as (type_at p.known p.vars a)) (stands-handler own p wanted stands none) (none-handler p wanted none) (inner-older le older) c new end b))
        (type_at p.known p.vars a) (eval w.declared c.call a (scope_in env scope) now)
        (typed-eval w own c.call (inside p) anything a (scope_in env scope) now stands.part c.typed (stands.vars ∙ sym (types-of-scope env scope)) (scope-words env scope begins.fits) begins.sizes (none-body p wanted none));
    formed = λ own p wanted stands none.
        ap (λ q. or_ty q (type_at p.known (bind_raised ps (look_up x p.known.exceptions) p.vars) h)) (body.formed own (inside p) anything (stands-inside w own scope p stands) (none-body p wanted none))
        ∙ ap (λ q. or_ty (option_map form o) q) (handler.formed own (with_vars (bind_raised ps (look_up x p.known.exceptions) p.vars) p) (same_as (type_at p.known p.vars a)) (stands-handler own p wanted stands none) (none-handler p wanted none))
        ∙ sym (first-form o u);
  }

-- the numbers, the values and the scope as the code finds them
pub try-end : (w : Whole) (names later : Names) (low mid mid' high : ℕ) (scope within : SymbolScope) (sp : Span) (a : Tree) (x : List ℕ) (ps : PatternTrees) (h : Tree) (first second t : Flat) (o u : Option Symbol) (n : ℕ) (ss : Symbols)
    → IsEnd w names low mid scope a first o → IsEnd w later mid' high within h second u → Extends names later → low ≤ mid
    → n ≡ exception_number w.declared.exceptions x → ss ≡ all_fresh mid (raised_or_none w n) → mid' ≡ mid + total_words (raised_or_none w n) → within ≡ all_bound ps ss scope
    → ((call : code.Calls) (env : Env) (now : flat.Running) → code.does call t env now ≡ flat.handled n (λ ws next. code.does call second (assigned_all env (numbers_from mid (total_words (raised_or_none w n))) ws) next) (code.does call first env now))
    → IsEnd w later low high scope (TryTree sp a x ps h) t (option_or o u)
try-end w names later low mid mid' high scope within sp a x ps h first second t o u n ss body handler more le number values place is tries =
    let values' = values ∙ ap (λ i. all_fresh mid (raised_or_none w i)) number in
    let is' = is ∙ ap (λ l. all_bound ps l scope) values' in
    let place' = place ∙ ap (λ i. mid + total_words (raised_or_none w i)) number in
    let handler' = subst (λ l. IsEnd w later l high (all_bound ps (all_fresh mid (raised_or_none w (exception_number w.declared.exceptions x))) scope) h second u) place' (subst (λ sc. IsEnd w later mid' high sc h second u) is' handler) in
    caught-end w later low mid high scope sp a x ps h first second o u t (end-more w names later more low mid scope a first o body) handler' le
    (λ call env now. tries call env now ∙ ap (λ i. flat.handled i (λ ws next. code.does call second (assigned_all env (numbers_from mid (total_words (raised_or_none w i))) ws) next) (code.does call first env now)) number)
