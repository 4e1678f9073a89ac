-- A program and its flat program do the same, call by call.
use Rattle.std.proofs.Common.{◌≡◌, ◌∙◌, refl, sym, ap, subst, ℕ, zero, suc, ◌≤◌, true, false, ◌||◌, List, [], length, Option, Some, bytes_eq, arith, if◌then◌else◌}
use Rattle.std.specs.Prelude.{nat_lt, slice_get}
use Rattle.std.proofs.lemmas.Bool.{ltb-false, or_parts}
use Rattle.std.proofs.lemmas.Slice.Eq.{bytes_eq-Decides}
use Rattle.std.proofs.lemmas.Option.{same_Some}
use Rattle.std.proofs.lemmas.List.{take_all}
use Rattle.nv_base.specs.Words.{Env, assigned_all}
use Rattle.nv_base.specs.Memories.{Memories, HasSizes}
use Rattle.nv_base.specs.Meanings.{KeepsOutcomes, seen, AreEqual}
use Rattle.nv_base.specs.declared.outcome.Outcome.TheVariants as outcome
use Rattle.nv_base.proofs.Same.{same_seen}
use Rattle.nv_ast.specs.Tree.{FunTree, ProgramTree}
use Rattle.nv_ast.specs.Types.{Ty, Tys, type_of, named_types_of, words, total_words, total_named_words, some_named_bool}
use Rattle.nv_ast.specs.Sizes.{main_words}
use Rattle.nv_ast.specs.Scope.{Known, Context, plain_tys, param_vars, signature}
use Rattle.nv_ast.specs.Typing.{type_at}
use Rattle.nv_ast.specs.Faults.{Expected, same_as, named_types_faults, type_faults, type_names, variable_twice, wide_main, program_faults, main_name}
use Rattle.nv_meaning.specs.Values.{Values, values_from, words_of, all_words}
use Rattle.nv_meaning.specs.Running.{Chain, plain, Running, Result, Gives, Raises, Halts, taken, calling, back_to, closed, untraced}
use Rattle.nv_meaning.specs.Meaning.{Calls, eval, enter, entered, calls_within, function_in, group_in, groups_from, in_main, run_main, source}
use Rattle.flat_ir.specs.declared.flat.FlatFun.{FlatFun}
use Rattle.flat_ir.specs.Running as flat
use Rattle.flat_ir.specs.Meaning as code
use Rattle.nv_flatten_values.specs.inner.Symbols.{values_in, AllFit, all_fresh, numbers_from, scope_in}
use Rattle.nv_flatten_values.specs.inner.Runs.{flat_run, ended}
use Rattle.nv_flatten_values.specs.inner.Whole.{Whole, whole_of, raised_tys}
use Rattle.nv_flatten_values.specs.inner.Soundness.{AreWords, value_ty, value_tys, ComesTo, CallsTyped}
use Rattle.nv_flatten_values.specs.inner.Simulation.{Names, CallsAgree}
use Rattle.nv_flatten_values.specs.inner.Made.{params_in, entry, IsMade, AllMade, IsComplete}
use Rattle.flat_ir.specs.Reached as flattened
use Rattle.nv_flatten_values.proofs.Fresh.{fresh-values, all-fresh-fit, numbers-length}
use Rattle.nv_flatten_values.proofs.Sound.{typed-eval}
use Rattle.nv_flatten.proofs.Knowing.{function-named}
use Rattle.nv_flatten.proofs.Bodies.{IsBody, bodies, narrow-raised, has-main}
use Rattle.nv_flatten.proofs.Entering.{type-same, word-count, all-word-count, entered-types, entered-words, params-values, params-types, params-fit, params-older, arguments-scope, from-types, all-from-words}
use Rattle.nv_flatten.proofs.WellTypes.{right-of}
use Rattle.nv_ast.proofs.Faultless.{no_rest, no_kinds, not_where}
use Rattle.nv_ast.proofs.TypeWords.{plain_words, plain_bool}

-- ---- an expression without faults has a type that is right

retyped : (w : Whole) (o : Option Ty) (want : Ty) (r : Result) → ((t : Ty) → o ≡ Some t → t ≡ want) → ComesTo w o r → ComesTo w (Some want) r
retyped w o want (Gives v now) h c = (ap (λ t. Some t) (sym (h (value_ty v) c.0)), c.1, c.2)
retyped w o want (Raises k vs now) h c = c
retyped w o want (Halts how now) h c = c

-- ---- a function's body
abbrev pub body_place : Known → FunTree → Context
body_place k g = record { known = k; vars = param_vars (named_types_of k.layouts g.params) []; tail = true }

abbrev pub body_wanted : Known → FunTree → Expected
body_wanted k g = same_as (Some (type_of k.layouts g.result))

body-typed : (w : Whole) (f : List ℕ) (g : FunTree) → IsBody w f g → (call : Calls) → CallsTyped w call → (vs : Values) (now : Running) → value_tys vs ≡ plain_tys (params_in w g) → AreWords (all_words vs) → HasSizes now.packet
    → ComesTo w (Some (type_of w.declared.layouts g.result)) (eval w.declared call g.body (entered g.params vs []) now)
body-typed w f g b call typed vs now types are sizes =
    let p = body_place b.known g in
    let wanted = body_wanted b.known g in
    retyped w (type_at b.known p.vars g.body) (type_of w.declared.layouts g.result) (eval w.declared call g.body (entered g.params vs []) now)
    (λ t q. type-same t (type_of b.known.layouts g.result) (right-of p wanted g.body t b.none q) ∙ b.result)
    (typed-eval w b.own call p wanted g.body (entered g.params vs []) now b.part typed
    (ap (λ ts. param_vars ts []) b.params ∙ sym (entered-types w.declared.layouts g.params vs [] types))
    (entered-words g.params vs [] are (tt {0})) sizes b.none)

-- the assignment with which a body begins
abbrev start : Whole → FunTree → Values → Env
start w g vs = assigned_all code.blank (numbers_from 0 (total_named_words (params_in w g))) (all_words vs)

start-values : (w : Whole) (g : FunTree) (vs : Values) → value_tys vs ≡ plain_tys (params_in w g) → values_in (start w g vs) (all_fresh 0 (plain_tys (params_in w g))) ≡ vs
start-values w g vs types =
    subst (λ n. values_in (assigned_all code.blank (numbers_from 0 n) (all_words vs)) (all_fresh 0 (plain_tys (params_in w g))) ≡ vs) (plain_words (params_in w g))
    (subst (λ ts. values_in (assigned_all code.blank (numbers_from 0 (total_words ts)) (all_words vs)) (all_fresh 0 ts) ≡ vs) types (fresh-values 0 code.blank vs))

start-fits : (w : Whole) (g : FunTree) (vs : Values) → value_tys vs ≡ plain_tys (params_in w g) → AreWords (all_words vs) → AllFit (start w g vs) (all_fresh 0 (plain_tys (params_in w g)))
start-fits w g vs types are =
    subst (λ n. AllFit (assigned_all code.blank (numbers_from 0 n) (all_words vs)) (all_fresh 0 (plain_tys (params_in w g)))) (plain_words (params_in w g))
    (subst (λ ts. AllFit (assigned_all code.blank (numbers_from 0 (total_words ts)) (all_words vs)) (all_fresh 0 ts)) types (all-fresh-fit 0 code.blank vs are))

body-agrees : (w : Whole) (f : List ℕ) (g : FunTree) → IsBody w f g → (all : Names) (fun : FlatFun) → IsMade w all g fun
    → (call : Calls) (fcall : code.Calls) → CallsTyped w call → CallsAgree w all call fcall
    → (vs : Values) (now : Running) → value_tys vs ≡ plain_tys (params_in w g) → AreWords (all_words vs) → HasSizes now.packet
    → code.does fcall fun.body (assigned_all code.blank fun.params.items (all_words vs)) (flat_run now) ≡ ended (eval w.declared call g.body (entered g.params vs []) now)
body-agrees w f g b all fun m call fcall typed same vs now types are sizes =
    let env : Env = start w g vs in
    let behind : m.low ≡ total_named_words (params_in w g) = m.behind in
    let scopes : scope_in env (entry w g) ≡ entered g.params vs [] = params-values env 0 w.declared.layouts g.params [] ∙ ap (λ us. entered g.params us []) (start-values w g vs types) in
    ap (λ xs. code.does fcall fun.body (assigned_all code.blank xs (all_words vs)) (flat_run now)) m.params
    ∙ m.end.simulates b.own (body_place b.known g) (body_wanted b.known g)
    (record { part = b.part; vars = ap (λ ts. param_vars ts []) b.params ∙ sym (params-types 0 (params_in w g) []) })
    b.none
    (params-older m.low 0 (params_in w g) [] (omega arith) (tt {0}))
    (record { all = all; more = m.more; call = call; fcall = fcall; typed = typed; same = same })
    env now
    (record { sizes = sizes; fits = params-fit env 0 (params_in w g) [] (start-fits w g vs types are) (tt {0}) })
    ∙ ap (λ sc. ended (eval w.declared call g.body sc now)) scopes

-- ---- calls, by how deep they lie in one another
pub record Lock (w : Whole) (all : Names) (funs : List FlatFun) (depth : ℕ) : Type 0 where
  pub typed : CallsTyped w (calls_within depth w.declared)
  pub same : CallsAgree w all (calls_within depth w.declared) (code.calls_within depth funs)

abbrev AreBodies : Whole → Type 0
AreBodies w = (f : List ℕ) (g : FunTree) → function_in w.declared.functions f ≡ Some g → IsBody w f g

-- the run inside a call
abbrev inside : Whole → List ℕ → Running → Running
inside w f next = calling (f, group_in w.declared.functions next.chain.groups f) next

abbrev called : Whole → List ℕ → ℕ → Running → Running
called w f left now = inside w f (record { calls = left; packet = now.packet; writes = now.writes; chain = now.chain })

back-comes : (w : Whole) (o : Option Ty) (c : Chain) (r : Result) → ComesTo w o r → ComesTo w o (back_to c r)
back-comes w o c (Gives v now) h = h
back-comes w o c (Raises k vs now) h = h
back-comes w o c (Halts how now) h = h

back-ended : (c : Chain) (r : Result) → ended (back_to c r) ≡ ended r
back-ended c (Gives v now) = refl
back-ended c (Raises k vs now) = refl
back-ended c (Halts how now) = refl

deeper-typed : (w : Whole) → AreBodies w → (depth : ℕ) → CallsTyped w (calls_within depth w.declared) → CallsTyped w (calls_within (suc depth) w.declared)
deeper-typed w bs depth typed = record { typed = λ f g vs now found types are sizes. back-comes w _ now.chain _ (by f g vs now found types are sizes now.calls) }
  where
    by : (f : List ℕ) (g : FunTree) (vs : Values) (now : Running) → function_in w.declared.functions f ≡ Some g → value_tys vs ≡ plain_tys (params_in w g) → AreWords (all_words vs) → HasSizes now.packet
        → (n : ℕ) → ComesTo w (Some (type_of w.declared.layouts g.result)) (taken n now (λ next. enter w.declared (calls_within depth w.declared) (function_in w.declared.functions f) vs (inside w f next)))
    by f g vs now found types are sizes zero = tt {0}
    by f g vs now found types are sizes (suc left) =
        subst (λ o. ComesTo w (Some (type_of w.declared.layouts g.result)) (enter w.declared (calls_within depth w.declared) o vs (called w f left now))) (sym found)
        (body-typed w f g (bs f g found) (calls_within depth w.declared) typed vs (called w f left now) types are sizes)

deeper-same : (w : Whole) → AreBodies w → (all : Names) (funs : List FlatFun) → AllMade w all funs → (depth : ℕ) → Lock w all funs depth → CallsAgree w all (calls_within (suc depth) w.declared) (code.calls_within (suc depth) funs)
deeper-same w bs all funs made depth lock = record { agree = λ i f g vs now named found types are sizes. by i f g vs now named found types are sizes now.calls ∙ sym (back-ended now.chain _) }
  where
    by : (i : ℕ) (f : List ℕ) (g : FunTree) (vs : Values) (now : Running) → slice_get all i ≡ Some f → function_in w.declared.functions f ≡ Some g → value_tys vs ≡ plain_tys (params_in w g) → AreWords (all_words vs) → HasSizes now.packet
        → (n : ℕ) → flat.taken n (flat_run now) (λ next. code.enter (code.calls_within depth funs) (slice_get funs i) (all_words vs) next) ≡ ended (taken n now (λ next. enter w.declared (calls_within depth w.declared) (function_in w.declared.functions f) vs (inside w f next)))
    by i f g vs now named found types are sizes zero = refl
    by i f g vs now named found types are sizes (suc left) =
        let r = made.by i f g named found in
        ap (λ o. code.enter (code.calls_within depth funs) o (all_words vs) (flat_run (called w f left now))) r.1
        ∙ body-agrees w f g (bs f g found) all r.0 r.2 (calls_within depth w.declared) (code.calls_within depth funs) lock.typed lock.same vs (called w f left now) types are sizes
        ∙ sym (ap (λ o. ended (enter w.declared (calls_within depth w.declared) o vs (called w f left now))) found)

pub lockstep : (w : Whole) → AreBodies w → (all : Names) (funs : List FlatFun) → AllMade w all funs → (depth : ℕ) → Lock w all funs depth
lockstep w bs all funs made zero = record {
  typed = record { typed = λ f g vs now found types are sizes. tt {0} };
  same = record { agree = λ i f g vs now named found types are sizes. refl };
}
lockstep w bs all funs made (suc depth) =
    let l = lockstep w bs all funs made depth in
    record { typed = deeper-typed w bs depth l.typed; same = deeper-same w bs all funs made depth l }

-- ---- main
closed-same : (w : Whole) (t : Ty) → words t ≤ 8 → ((k : ℕ) (ts : Tys) → raised_tys w k ≡ Some ts → total_words ts ≤ 8) → (r : Result) → ComesTo w (Some t) r → untraced (closed r) ≡ flat.closed (ended r)
closed-same w t few narrow (Gives v now) c =
    let same : t ≡ value_ty v = same_Some _ _ c.0 in
    let count : length (words_of v) ≡ words t = word-count v ∙ ap words (sym same) in
    ap (λ ws. record { outcome = outcome.Ended ws; packet = now.packet; writes = plain now.writes }) (take_all 8 (words_of v) (omega arith))
closed-same w t few narrow (Raises k vs now) c =
    let count : length (all_words vs) ≡ total_words (value_tys vs) = all-word-count vs in
    let most : total_words (value_tys vs) ≤ 8 = narrow k (value_tys vs) c.0 in
    ap (λ ws. record { outcome = outcome.Raised k ws; packet = now.packet; writes = plain now.writes }) (take_all 8 (all_words vs) (omega arith))
closed-same w t few narrow (Halts how now) c = refl

-- main's parameters and result
pub record IsNarrow (w : Whole) (g : FunTree) : Type 0 where
  pub bools : some_named_bool (params_in w g) ≡ false
  pub params : total_named_words (params_in w g) ≤ 8
  pub result : words (type_of w.declared.layouts g.result) ≤ 8

pub main-narrow : (w : Whole) (g : FunTree) → IsBody w main_name g → function_in w.declared.functions main_name ≡ Some g → IsNarrow w g
main-narrow w g b found =
    let named : bytes_eq g.name main_name ≡ true = (bytes_eq-Decides g.name main_name).1 (sym ((bytes_eq-Decides main_name g.name).0 (function-named w.declared.functions main_name g found))) in
    let k = b.known.layouts in
    let last : (if bytes_eq g.name main_name then wide_main (signature k g) else []) ≡ [] =
    no_rest (variable_twice (type_names g.params)) _ (no_rest (type_faults k g.result) _ (no_rest (named_types_faults k g.params) _ (no_kinds g.span _ b.signed))) in
    let wide : wide_main (signature k g) ≡ [] = sym (ap (λ c. if c then wide_main (signature k g) else []) named) ∙ last in
    let rest : (some_named_bool (named_types_of k g.params) || nat_lt 8 (words (type_of k g.result))) ≡ false = (or_parts (nat_lt 8 (total_named_words (named_types_of k g.params))) _ (not_where {A = ℕ} _ 23 wide)).1 in
    record {
      params = subst (λ ts. total_named_words ts ≤ 8) b.params (ltb-false 8 (total_named_words (named_types_of k g.params)) ((or_parts (nat_lt 8 (total_named_words (named_types_of k g.params))) _ (not_where {A = ℕ} _ 23 wide)).0));
      bools = ap some_named_bool (sym b.params) ∙ (or_parts (some_named_bool (named_types_of k g.params)) _ rest).0;
      result = subst (λ t. words t ≤ 8) b.result (ltb-false 8 (words (type_of k g.result)) ((or_parts (some_named_bool (named_types_of k g.params)) _ rest).1));
    }

abbrev begun : ProgramTree → ℕ → Memories → Running
begun t n p = record { calls = n; packet = p; writes = []; chain = in_main (whole_of t).declared (groups_from 0 t.decls) }

main-same : (t : ProgramTree) → program_faults t ≡ [] → (all : Names) (funs : List FlatFun) → AllMade (whole_of t) all funs → (g : FunTree) (fun : FlatFun)
    → function_in (whole_of t).declared.functions main_name ≡ Some g → slice_get funs 0 ≡ Some fun → IsMade (whole_of t) all g fun
    → (args : List ℕ) (p : Memories) → length args ≡ total_named_words (params_in (whole_of t) g) → AreWords args → HasSizes p
    → (n : ℕ) → source t args p n ≡ code.flat_meaning funs 0 args p n
main-same t h all funs made g fun found there m args p count are sizes n =
    let w = whole_of t in
    let b = bodies t h main_name g found in
    let narrow = main-narrow w g b found in
    let lock = lockstep w (bodies t h) all funs made n in
    let vs : Values = values_from (plain_tys (params_in w g)) args in
    let types : value_tys vs ≡ plain_tys (params_in w g) = from-types (plain_tys (params_in w g)) args in
    let plain : total_words (plain_tys (params_in w g)) ≡ total_named_words (params_in w g) = plain_words (params_in w g) in
    let spelled : all_words vs ≡ args =
    all-from-words (plain_tys (params_in w g)) args (plain_bool (params_in w g) ∙ narrow.bools) (omega arith)
    ∙ take_all (total_words (plain_tys (params_in w g))) args (omega arith) in
    let fit : AreWords (all_words vs) = subst AreWords (sym spelled) are in
    let r : Result = eval w.declared (calls_within n w.declared) g.body (entered g.params vs []) (begun t n p) in
    let comes : ComesTo w (Some (type_of w.declared.layouts g.result)) r = body-typed w main_name g b (calls_within n w.declared) lock.typed vs (begun t n p) types fit sizes in
    ap (λ o. untraced (closed (run_main w.declared o args n (begun t n p)))) found
    ∙ ap (λ sc. untraced (closed (eval w.declared (calls_within n w.declared) g.body sc (begun t n p)))) (arguments-scope w.declared.layouts g.params args [])
    ∙ closed-same w (type_of w.declared.layouts g.result) narrow.result (narrow-raised t h) r comes
    ∙ sym (ap (λ o. flat.closed (code.enter (code.calls_within n funs) o args (flat_run (begun t n p)))) there
    ∙ ap (λ ws. flat.closed (code.does (code.calls_within n funs) fun.body (assigned_all code.blank fun.params.items ws) (flat_run (begun t n p)))) (sym spelled)
    ∙ ap flat.closed (body-agrees w main_name g b all fun m (calls_within n w.declared) (code.calls_within n funs) lock.typed lock.same vs (begun t n p) types fit sizes))

module _ (t : ProgramTree) (h : program_faults t ≡ []) (funs : List FlatFun) (complete : (g : FunTree) → function_in (whole_of t).declared.functions main_name ≡ Some g → IsComplete (whole_of t) main_name funs) where
  pub equal : AreEqual (main_words t) (source t) (code.flat_meaning funs 0)
  equal args p are sizes n =
      let m = has-main t h in
      let c = complete m.fun m.found in
      let r = c.made.by 0 main_name m.fun c.first m.found in
      main-same t h c.all funs c.made m.fun r.0 m.found r.1 r.2 args p (are.0 ∙ m.words) are.1 sizes n

  pub keeps : KeepsOutcomes (main_words t) (flattened.params_in funs 0) (source t) (code.flat_meaning funs 0)
  keeps =
      let m = has-main t h in
      let c = complete m.fun m.found in
      let r = c.made.by 0 main_name m.fun c.first m.found in
      record {
        arguments = m.words ∙ sym (ap flattened.params_of r.1 ∙ ap length r.2.params ∙ numbers-length 0 (total_named_words (params_in (whole_of t) m.fun)));
        same = λ args p are sizes. same_seen (source t args p) (code.flat_meaning funs 0 args p) (λ n. ap seen (equal args p are sizes n));
      }
