-- The flat program of a typed one is well formed.
use Rattle.std.proofs.Common.{◌≡◌, ◌∙◌, refl, sym, ap, subst, ℕ, ◌+◌, ◌<◌, ◌≤◌, true, List, [], ◌∷◌, ◌++◌, append-nil, length, Option, Some, None, arith}
use Rattle.std.specs.Prelude.{slice_get}
use Rattle.std.proofs.lemmas.Option.{same_Some, slice_get_within}
use Rattle.flat_ir.specs.declared.flat.FlatFun.{FlatFun}
use Rattle.nv_base.specs.Access.{all_known}
use Rattle.flat_ir.specs.Formed.{is_program}
use Rattle.nv_ast.specs.Tree.{FunTree, ProgramTree}
use Rattle.nv_ast.specs.Types.{Ty, NamedTys, no_named_tys, named_ty_and, type_of, words, total_named_words}
use Rattle.nv_ast.specs.Scope.{param_vars}
use Rattle.nv_ast.specs.Typing.{type_at}
use Rattle.nv_ast.specs.Faults.{program_faults, main_name}
use Rattle.nv_meaning.specs.Meaning.{function_in}
use Rattle.nv_flatten_values.specs.inner.Code.{variables}
use Rattle.nv_flatten_values.specs.inner.Symbols.{SymbolScope, fresh, named_fresh, numbers_from, params_bound}
use Rattle.nv_flatten_values.specs.inner.Whole.{Whole, whole_of, Stands}
use Rattle.nv_flatten_values.specs.inner.Simulation.{Names}
use Rattle.nv_flatten_values.specs.inner.Made.{params_in, entry, IsMade, IsPlaced, IsComplete}
use Rattle.flat_ir.specs.Reached.{AreReached}
use Rattle.nv_flatten_values.specs.inner.Well.{FunsMatch, ScopeKnown, GivesWords, IsWellFun}
use Rattle.nv_flatten_values.proofs.Fresh.{numbers-append, numbers-length, variables-append, fresh-operands}
use Rattle.nv_flatten_values.proofs.WellBasics.{knows-left, knows-right, knows-variables}
use Rattle.nv_flatten_values.proofs.WellProgram.{walked-fun, fun-names, program-formed}
use Rattle.nv_flatten_values.proofs.Naming.{slice-there}
use Rattle.nv_flatten.proofs.Bodies.{IsBody, bodies, narrow-raised, has-main}
use Rattle.nv_flatten.proofs.Entering.{type-same, params-types}
use Rattle.nv_flatten.proofs.Lockstep.{body_place, body_wanted, main-narrow}
use Rattle.nv_flatten.proofs.WellTypes.{right-of}

-- ---- the parameters are known in a body
params-known : (known : List ℕ) (n : ℕ) (ts : NamedTys) (scope : SymbolScope) → all_known known (variables (numbers_from n (total_named_words ts))) ≡ true → ScopeKnown known scope → ScopeKnown known (params_bound (named_fresh n ts) scope)
params-known known n no_named_tys scope e k = k
params-known known n (named_ty_and x t ts) scope e k =
    let first = variables (numbers_from n (words t)) in
    let rest = variables (numbers_from (n + words t) (total_named_words ts)) in
    let both : all_known known (first ++ rest) ≡ true =
    sym (ap (all_known known) (ap variables (numbers-append n (words t) (total_named_words ts)) ∙ variables-append (numbers_from n (words t)) (numbers_from (n + words t) (total_named_words ts)))) ∙ e in
    params-known known (n + words t) ts ((x, fresh n t) ∷ scope) (knows-right known first rest both) (ap (all_known known) (fresh-operands n t) ∙ knows-left known first rest both, k)

entry-known : (w : Whole) (g : FunTree) → ScopeKnown (numbers_from 0 (total_named_words (params_in w g))) (entry w g)
entry-known w g =
    let xs = numbers_from 0 (total_named_words (params_in w g)) in
    params-known xs 0 (params_in w g) [] (subst (λ l. all_known l (variables xs) ≡ true) (append-nil xs) (knows-variables xs [])) (tt {0})

-- ---- a function: its body gives the words of its result, where it has a value
words-given : (w : Whole) (f : List ℕ) (g : FunTree) (b : IsBody w f g) (n : ℕ) → n ≡ words (type_of w.declared.layouts g.result) → (o : Option Ty) → type_at b.known (body_place b.known g).vars g.body ≡ o → GivesWords n o
words-given w f g b n results None q = tt {0}
words-given w f g b n results (Some t) q =
    let same : t ≡ type_of w.declared.layouts g.result = type-same t (type_of b.known.layouts g.result) (right-of (body_place b.known g) (body_wanted b.known g) g.body t b.none q) ∙ b.result in
    ap words same ∙ sym results

made-well : (w : Whole) (f : List ℕ) (g : FunTree) → IsBody w f g → function_in w.declared.functions f ≡ Some g → (all : Names) (fun : FlatFun) → IsMade w all g fun → IsPlaced w f fun → IsWellFun w all fun
made-well w f g b found all fun m placed =
    let k : numbers_from 0 (total_named_words (params_in w g)) ≡ numbers_from 0 m.low = ap (numbers_from 0) (sym m.behind) in
    let stands : Stands w b.own (entry w g) (body_place b.known g) = record { part = b.part; vars = ap (λ ts. param_vars ts []) b.params ∙ sym (params-types 0 (params_in w g) []) } in
    fun-names w m.names all fun m.more
    (walked-fun w m.old m.names m.low m.high b.own (body_place b.known g) (body_wanted b.known g) (entry w g) g.body fun (placed.group g b.own found b.grouped) refl stands b.none (m.params ∙ k)
    (subst (λ xs. ScopeKnown xs (entry w g)) (sym m.params) (entry-known w g)) m.well
    (words-given w f g b fun.results m.results (type_at b.known (body_place b.known g).vars g.body) refl))

-- ---- the program
pub matched : (w : Whole) (main : List ℕ) (funs : List FlatFun) (c : IsComplete w main funs) → FunsMatch w c.all funs
matched w main funs c = record {
  found = λ i f g n named found at.
      let r = c.made.by i f g named found in
      record {
        fun = r.0;
        there = r.1;
        params = ap length r.2.params ∙ numbers-length 0 (total_named_words (params_in w g));
        results = r.2.results;
        group = (c.placed.by i f r.0 named r.1).group g n found at;
      };
}

pub all-well : (t : ProgramTree) → program_faults t ≡ [] → (main : List ℕ) (funs : List FlatFun) (c : IsComplete (whole_of t) main funs) (i : ℕ) (fun : FlatFun) → slice_get funs i ≡ Some fun → IsWellFun (whole_of t) c.all fun
all-well t h main funs c i fun here = by (function_in (whole_of t).declared.functions name.0) refl
  where
    name : (f : List ℕ) × (slice_get c.all i ≡ Some f)
    name = let below : i < length funs = slice_get_within funs i fun here in let many : length funs ≤ length c.all = c.many in slice-there c.all i (omega arith)

    placed : IsPlaced (whole_of t) name.0 fun
    placed = c.placed.by i name.0 fun name.1 here

    by : (o : Option FunTree) → function_in (whole_of t).declared.functions name.0 ≡ o → IsWellFun (whole_of t) c.all fun
    by None q = placed.absent q c.all
    by (Some g) q =
        let r = c.made.by i name.0 g name.1 q in
        let same : r.0 ≡ fun = same_Some _ _ (sym r.1 ∙ here) in
        made-well (whole_of t) name.0 g (bodies t h name.0 g q) q c.all fun (subst (IsMade (whole_of t) c.all g) same r.2) placed

abbrev pub IsCompleteMain : ProgramTree → List FlatFun → Type 0
IsCompleteMain t funs = (g : FunTree) → function_in (whole_of t).declared.functions main_name ≡ Some g → IsComplete (whole_of t) main_name funs

pub formed : (t : ProgramTree) → program_faults t ≡ [] → (funs : List FlatFun) → IsCompleteMain t funs → is_program funs 0 ≡ true
formed t h funs complete =
    let w = whole_of t in
    let m = has-main t h in
    let c = complete m.fun m.found in
    let r = c.made.by 0 main_name m.fun c.first m.found in
    let narrow = main-narrow w m.fun (bodies t h main_name m.fun m.found) m.found in
    let many : length r.0.params.items ≡ total_named_words (params_in w m.fun) = ap length r.2.params ∙ numbers-length 0 (total_named_words (params_in w m.fun)) in
    let few : total_named_words (params_in w m.fun) ≤ 8 = narrow.params in
    let given : r.0.results ≡ words (type_of w.declared.layouts m.fun.result) = r.2.results in
    let short : words (type_of w.declared.layouts m.fun.result) ≤ 8 = narrow.result in
    program-formed w c.all funs r.0 (matched w main_name funs c) (narrow-raised t h) (all-well t h main_name funs c) c.reached r.1 (omega arith) (omega arith)

pub all-reached : (t : ProgramTree) → program_faults t ≡ [] → (funs : List FlatFun) → IsCompleteMain t funs → AreReached funs 0
all-reached t h funs complete = let m = has-main t h in (complete m.fun m.found).reached
