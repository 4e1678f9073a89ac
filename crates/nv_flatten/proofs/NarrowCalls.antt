-- How wide calls, exceptions and handlers are, and what unpacks and packs.
use Rattle.std.proofs.Common.{◌≡◌, ℕ, ◌+◌, ◌≤◌, max, true, List, [], ◌++◌, refl, sym, ap, subst, ◌∙◌, length, Option, Some, None, option_map, slice_get, unwrap_or, arith}
use Rattle.std.proofs.lemmas.Option.{same_Some}
use Rattle.nv_ast.specs.declared.token.Span.{Span}
use Rattle.nv_ast.specs.Tree.{NamedLayout, Tree, CallTree, UnpackTree, PackTree, RaiseTree, TryTree, Trees, PatternTrees, FunTree}
use Rattle.nv_ast.specs.Tests.{look_up, value_at}
use Rattle.nv_ast.specs.Outline.{OutlineTree, outline}
use Rattle.nv_ast.specs.Types.{Ty, packed_ty, unpacked_ty, TupleTy, Tys, no_tys, words, total_words, words_of_value, type_of}
use Rattle.nv_ast.specs.Scope.{Signature, Context, inside, with_vars, callable, bind_all, bind_raised, names_in_all}
use Rattle.nv_ast.specs.Typing.{type_at}
use Rattle.nv_ast.specs.Faults.{Fault, Expected, anything, same_as, at_span, faults, list_faults, node_faults, expected_arguments, params_of, raised_kinds, unknown_function, not_in_tail, wrong_number, variable_twice, wrong_number_of_patterns, not_all_fitting, unknown_exception, expected_packed, expected_unpacked}
use Rattle.nv_ast.specs.Sizes.{words_at, words_all, raised_words, handler_vars, need, need_all, variables, variables_all}
use Rattle.nv_meaning.specs.Running.{exception_number}
use Rattle.nv_meaning.specs.Meaning.{function_in}
use Rattle.flat_ir.specs.declared.flat.Flat.{Flat}
use Rattle.flat_ir.specs.declared.flat.Flat.TheVariants.{Call, Raise, Try'}
use Rattle.flat_ir.specs.declared.flat.FlatFun.{FlatFun}
use Rattle.flat_ir.specs.declared.spine.Step.{Step}
use Rattle.flat_ir.specs.Spine.{AreNodes}
use Rattle.nv_base.specs.Sets.{all_vars}
use Rattle.nv_flatten_values.specs.inner.Symbols.{Symbol, Symbols, SymbolScope, form, operands, all_operands, all_fresh, numbers_from, vars_of, all_bound}
use Rattle.nv_flatten_values.specs.inner.Whole.{Whole, Stands, raised_or_none}
use Rattle.nv_flatten_values.specs.inner.Simulation.{Names, HasForm, AreValues}
use Rattle.nv_flatten_values.specs.inner.Narrow.{IsWithin, written, NarrowSteps, NarrowCode, AreNarrowLets, Room, IsNarrowValue, AreNarrowValues, IsNarrowEnd}
use Rattle.nv_flatten_values.proofs.Fresh.{fresh-forms, fresh-operands, all-bound-types, numbers-length}
use Rattle.nv_flatten_values.proofs.Sound.{arguments-are-values}
use Rattle.nv_flatten.proofs.WellTypes.{some-where, low-of}
use Rattle.nv_flatten_values.proofs.Within.{itself, of-none, into-left, into-right, through, behind-same, grows-not}
use Rattle.nv_flatten_values.proofs.NarrowSteps.{last, handled, recast, follow, joined, recast-code, raise-code, call-code, CallAtMost, try-code}
use Rattle.nv_flatten_values.proofs.NarrowFacts.{written-append, counted, counted-given, vars-of-variables, need-least}
use Rattle.nv_flatten.proofs.Bound.{written-all-bound}
use Rattle.nv_flatten.proofs.NarrowValues.{roomier}
use Rattle.nv_flatten.proofs.NarrowEnds.{arguments-counted}
use Rattle.nv_flatten_values.proofs.CallArms.{get-append}
use Rattle.nv_flatten_values.proofs.Following.{stands-inside}
use Rattle.nv_ast.proofs.Faultless.{no_front, no_rest, no_kinds}

module _ (w : Whole) (names others : Names) (low high : ℕ) (scope : SymbolScope) (sp : Span) (es : Trees) (ss : List Step) (us : Symbols) where
  -- arguments, and then code that takes their words
  arguments-code : (c : Room w names) (p : Context) (o : Option Tys) (t code : Flat) (all : ℕ) → AreNarrowValues w names scope es ss us → Stands w c.own scope p → list_faults (inside p) (expected_arguments o es) es ≡ []
      → words_all p.known p.vars es + need_all c.needs p.known p.vars es ≤ all → NarrowCode c.funs c.widths c.own t (all_vars (last t)) [] all → last t ≡ all_operands us → AreNodes ss t code
      → NarrowCode c.funs c.widths c.own code (written scope (variables_all es)) (written scope (variables_all es)) all
  arguments-code c p o t code all v stands none le d same nodes =
      let v0 = written scope (variables_all es) in
      let u0 = all_vars (all_operands us) in
      joined c.funs c.widths c.own ss t code v0 v0 u0 all
      (roomier c.funs c.widths c.own ss v0 v0 u0 (words_all p.known p.vars es + need_all c.needs p.known p.vars es) all
      (v.by c (inside p) (expected_arguments o es) (arguments-are-values o es) (stands-inside w c.own scope p stands) none) le)
      (recast-code c.funs c.widths c.own t (all_vars (last t)) [] u0 v0 0 all all d (subst (λ l. IsWithin (all_vars (last t)) (all_vars l)) same itself) (grows-not v0 [] (of-none v0)) (omega arith)) nodes

  pub raise-narrow : (x : List ℕ) (k : ℕ) (bs : _) (code : Flat) → AreValues w others low high scope es ss us → AreNarrowValues w names scope es ss us → last (Raise k bs) ≡ all_operands us → AreNodes ss (Raise k bs) code
      → IsNarrowEnd w names scope (RaiseTree sp x es) code
  raise-narrow x k bs code f v same nodes = record {
    by = λ c p wanted stands none.
        let o = look_up x p.known.exceptions in
        let first = no_front (list_faults (inside p) (expected_arguments o es) es) (node_faults p wanted (RaiseTree sp x es)) none in
        let many : length bs.items ≡ words_all p.known p.vars es = ap length same ∙ arguments-counted w others low high scope es ss us f c.own (inside p) (expected_arguments o es) (arguments-are-values o es) (stands-inside w c.own scope p stands) first in
        let all = need c.needs p.known p.vars (RaiseTree sp x es) in
        arguments-code c p o (Raise k bs) code all v stands first (omega arith) (raise-code c.funs c.widths c.own k bs all (omega arith)) same nodes;
  }

  -- a call's results, and the width of an earlier group's
  called : (c : Room w names) (f : List ℕ) (i : ℕ) (g : FunTree) (n all : ℕ) (o : Option FlatFun) → slice_get names i ≡ Some f → function_in w.declared.functions f ≡ Some g → slice_get c.funs i ≡ o → words (type_of w.declared.layouts g.result) ≡ n
      → max (value_at 0 f c.needs) (n + 1) ≤ all → CallAtMost c.funs c.widths c.own o all
  called c f i g n all None named found there results le = tt
  called c f i g n all (Some fun) named found there results le = λ earlier.
      let named' : slice_get c.all i ≡ Some f = ap (λ l. slice_get l i) c.more.1 ∙ get-append names c.more.0 i f named in
      let many : fun.results ≡ n = c.calls.results i f g fun named' found there ∙ results in
      let wide : c.widths fun.group ≤ value_at 0 f c.needs = c.calls.earlier i f g fun named' found there earlier in
      omega arith

  pub call-narrow : (f : List ℕ) (i : ℕ) (bs : _) (code : Flat) → AreValues w others low high scope es ss us → AreNarrowValues w names scope es ss us → slice_get names i ≡ Some f → last (Call i bs) ≡ all_operands us → AreNodes ss (Call i bs) code
      → IsNarrowEnd w names scope (CallTree sp f es) code
  call-narrow f i bs code t v named same nodes = record {
    by = λ c p wanted stands none.
        let o = params_of p.known f in
        let first = no_front (list_faults (inside p) (expected_arguments o es) es) (node_faults p wanted (CallTree sp f es)) none in
        let many : length bs.items ≡ words_all p.known p.vars es = ap length same ∙ arguments-counted w others low high scope es ss us t c.own (inside p) (expected_arguments o es) (arguments-are-values o es) (stands-inside w c.own scope p stands) first in
        let all = need c.needs p.known p.vars (CallTree sp f es) in
        let known = some-where (look_up f (callable p.known)) 11 (no_front (unknown_function p.known f) (not_in_tail p f ++ wrong_number o es) (low-of p wanted (CallTree sp f es) none)) in
        let callable' = stands.part.functions f known.0 known.1 in
        let n = words_at p.known p.vars (CallTree sp f es) in
        let results : words (type_of w.declared.layouts callable'.fun.result) ≡ n = ap (λ (s : Signature). words s.result) callable'.signed ∙ sym (ap (λ q. words_of_value (option_map (λ (s : Signature). s.result) q)) known.1) in
        arguments-code c p o (Call i bs) code all v stands first (omega arith)
        (call-code c.funs c.widths c.own i bs all (omega arith) (called c f i callable'.fun n all (slice_get c.funs i) named callable'.found refl results (omega arith))) same nodes;
  }

-- ---- a body with a handler
module _ (w : Whole) (names : Names) (scope : SymbolScope) (sp : Span) (a : Tree) (x : List ℕ) (ps : PatternTrees) (h : Tree) where
  abbrev pub around : Context → List Fault
  around p = at_span sp (raised_kinds p.known x ps)

  abbrev pub behind : Context → Context
  behind p = with_vars (bind_raised ps (look_up x p.known.exceptions) p.vars) p

  abbrev pub handler_faults : Context → List Fault
  handler_faults p = faults (behind p) (same_as (type_at p.known p.vars a)) h

  rest-none : (p : Context) (wanted : Expected) → faults p wanted (TryTree sp a x ps h) ≡ [] → around p ++ (handler_faults p ++ node_faults p wanted (TryTree sp a x ps h)) ≡ []
  rest-none p wanted none = no_rest (faults (inside p) anything a) (around p ++ (handler_faults p ++ node_faults p wanted (TryTree sp a x ps h))) none

  pub handler-none : (p : Context) (wanted : Expected) → faults p wanted (TryTree sp a x ps h) ≡ [] → handler_faults p ≡ []
  handler-none p wanted none = no_front (handler_faults p) (node_faults p wanted (TryTree sp a x ps h)) (no_rest (around p) (handler_faults p ++ node_faults p wanted (TryTree sp a x ps h)) (rest-none p wanted none))

  pub unknown-none : (p : Context) (wanted : Expected) → faults p wanted (TryTree sp a x ps h) ≡ [] → unknown_exception p.known x ≡ []
  unknown-none p wanted none =
      let o = look_up x p.known.exceptions in
      no_rest (not_all_fitting ps o) (unknown_exception p.known x)
      (no_rest (wrong_number_of_patterns o ps) (not_all_fitting ps o ++ unknown_exception p.known x)
      (no_rest (variable_twice (names_in_all ps)) (wrong_number_of_patterns o ps ++ (not_all_fitting ps o ++ unknown_exception p.known x))
      (no_kinds sp (raised_kinds p.known x ps) (no_front (around p) (handler_faults p ++ node_faults p wanted (TryTree sp a x ps h)) (rest-none p wanted none)))))

  pub try-narrow : (q r : _) (t u : Flat) (k n : ℕ) (xs : _) (inner : SymbolScope) → IsNarrowEnd w names scope a t → IsNarrowEnd w names inner h u
      → inner ≡ all_bound ps (all_fresh n (raised_or_none w (exception_number w.declared.exceptions x))) scope
      → handled (Try' q t k xs r u) ≡ numbers_from n (total_words (raised_or_none w (exception_number w.declared.exceptions x)))
      → IsNarrowEnd w names scope (TryTree sp a x ps h) (Try' q t k xs r u)
  try-narrow q r t u k n xs inner v e is made = record {
    by = λ c p wanted stands none.
        let known = some-where (look_up x p.known.exceptions) 17 (unknown-none p wanted none) in
        let raised : raised_or_none w (exception_number w.declared.exceptions x) ≡ known.0 = ap (λ o. unwrap_or o no_tys) (stands.part.exceptions x known.0 known.1) in
        let ts = raised_or_none w (exception_number w.declared.exceptions x) in
        let values = all_fresh n ts in
        let stands' : Stands w c.own inner (behind p) = record {
          part = stands.part;
          vars = ap (λ o. bind_raised ps o p.vars) known.1
              ∙ (ap (λ vars. bind_all ps known.0 vars) stands.vars
              ∙ (ap (λ us. bind_all ps us (vars_of scope)) (sym (fresh-forms n ts ∙ raised))
              ∙ (sym (all-bound-types ps values scope) ∙ ap vars_of (sym is))));
        } in
        let va = written scope (variables a) in
        let vh = written scope (variables h) in
        let v0 = written scope (variables a ++ variables h) in
        let vi = written inner (variables h) in
        let these : all_vars (all_operands values) ≡ xs.items = ap all_vars (fresh-operands n (TupleTy ts)) ∙ (vars-of-variables (numbers_from n (total_words ts)) ∙ sym made) in
        let inside' : IsWithin vi (xs.items ++ vh) = subst (λ l. IsWithin vi (l ++ vh)) these (subst (λ sc. IsWithin (written sc (variables h)) (all_vars (all_operands values) ++ vh)) (sym is) (written-all-bound ps values scope (variables h))) in
        let long : length xs.items ≡ raised_words (look_up x p.known.exceptions) = ap length made ∙ (numbers-length n (total_words ts) ∙ (ap total_words raised ∙ sym (ap raised_words known.1))) in
        let na = need c.needs p.known p.vars a in
        let nh = need c.needs p.known (handler_vars p.known p.vars x ps) h in
        let all = need c.needs p.known p.vars (TryTree sp a x ps h) in
        let same : v0 ≡ va ++ vh = written-append scope (variables a) (variables h) in
        subst (λ l. NarrowCode c.funs c.widths c.own (Try' q t k xs r u) l l all) (sym same)
        (try-code c.funs c.widths c.own q t k xs r u va vh (va ++ vh) na nh all
        (recast-code c.funs c.widths c.own t va va va (va ++ vh) 0 na na (v.by c (inside p) anything (stands-inside w c.own scope p stands) (no_front (faults (inside p) anything a) (around p ++ (handler_faults p ++ node_faults p wanted (TryTree sp a x ps h))) none)) itself (grows-not (va ++ vh) va (into-left va va vh itself)) (omega arith))
        (recast-code c.funs c.widths c.own u vi vi (xs.items ++ vh) (xs.items ++ (va ++ vh)) 0 nh nh (e.by c (behind p) (same_as (type_at p.known p.vars a)) stands' (handler-none p wanted none)) inside'
        (grows-not (xs.items ++ (va ++ vh)) vi (through inside' (behind-same xs.items vh (va ++ vh) (into-right vh va vh itself)))) (omega arith))
        (into-right vh va vh itself) (omega arith) (omega arith) (omega arith));
  }

-- ---- bits
layout-form : (f : OutlineTree → Ty) (o : Option OutlineTree) (u : OutlineTree) (t : Ty) → ((q : OutlineTree) → o ≡ Some q → u ≡ q) → option_map f o ≡ Some t → f u ≡ t
layout-form f None u t h e = cc
layout-form f (Some q) u t h e = ap f (h q refl) ∙ same_Some (f q) t e

pub unpack-form : (w : Whole) (scope : SymbolScope) (sp : Span) (l : List ℕ) (a : Tree) (r : Symbol) → form r ≡ unpacked_ty (outline w.declared.layouts (NamedLayout l)) → HasForm w scope (UnpackTree sp l a) r
unpack-form w scope sp l a r e = record { by = λ own p wanted stands none t is. e ∙ layout-form unpacked_ty (look_up l p.known.layouts) (outline w.declared.layouts (NamedLayout l)) t (λ q h. (stands.part.layouts l q h).0) is }

pub pack-form : (w : Whole) (scope : SymbolScope) (sp : Span) (l : List ℕ) (a : Tree) (r : Symbol) → form r ≡ packed_ty (outline w.declared.layouts (NamedLayout l)) → HasForm w scope (PackTree sp l a) r
pack-form w scope sp l a r e = record { by = λ own p wanted stands none t is. e ∙ layout-form packed_ty (look_up l p.known.layouts) (outline w.declared.layouts (NamedLayout l)) t (λ q h. (stands.part.layouts l q h).0) is }

module _ (w : Whole) (names : Names) (scope : SymbolScope) (sp : Span) (l : List ℕ) (a : Tree) (ss ts : List Step) (s r : Symbol) where
  -- the steps of the operand, and then steps that compute the words of the whole
  bits-steps : (c : Room w names) (p : Context) (all : ℕ) → NarrowSteps c.funs c.widths c.own ss (written scope (variables a)) (written scope (variables a)) (all_vars (operands s)) (need c.needs p.known p.vars a) → AreNarrowLets (operands s) ts (operands r)
      → need c.needs p.known p.vars a ≤ all → length (operands s) + (length (operands r) + 4) ≤ all → NarrowSteps c.funs c.widths c.own (ss ++ ts) (written scope (variables a)) (written scope (variables a)) (all_vars (operands r)) all
  bits-steps c p all v t p1 p2 =
      let v0 = written scope (variables a) in
      let m = length (operands s) + (length (operands r) + 4) in
      follow c.funs c.widths c.own ss ts v0 v0 (all_vars (operands s)) (all_vars (operands r)) all (roomier c.funs c.widths c.own ss v0 v0 (all_vars (operands s)) (need c.needs p.known p.vars a) all v p1)
      (recast c.funs c.widths c.own ts (all_vars (operands s)) [] (all_vars (operands r)) (all_vars (operands s)) v0 (all_vars (operands r)) 0 m all (t.by c.funs c.widths c.own) itself (grows-not v0 [] (of-none v0)) itself (omega arith))

  pub unpack-narrow : HasForm w scope a s → HasForm w scope (UnpackTree sp l a) r → IsNarrowValue w names scope a ss s → AreNarrowLets (operands s) ts (operands r) → IsNarrowValue w names scope (UnpackTree sp l a) (ss ++ ts) r
  unpack-narrow f g v t = record {
    by = λ c p wanted stands none.
        let right = expected_packed (look_up l p.known.layouts) in
        let first = no_front (faults (inside p) right a) (node_faults p wanted (UnpackTree sp l a)) none in
        let stands' = stands-inside w c.own scope p stands in
        let least : 2 + words_at p.known p.vars a ≤ need c.needs p.known p.vars a = need-least c.needs p.known p.vars a in
        let many : length (operands s) ≡ words_at p.known p.vars a = counted w scope a s f c.own (inside p) right stands' first (packed-value (look_up l p.known.layouts)) in
        let fields : length (operands r) ≡ words_at p.known p.vars (UnpackTree sp l a) = counted-given w scope (UnpackTree sp l a) r g c.own p wanted stands none refl in
        bits-steps c p (need c.needs p.known p.vars (UnpackTree sp l a)) (v.by c (inside p) right stands' first) t (omega arith) (omega arith);
  }
    where
      packed-value : (o : Option _) → (expected_packed o).value ≡ true
      packed-value None = refl
      packed-value (Some o) = refl

  pub pack-narrow : HasForm w scope a s → HasForm w scope (PackTree sp l a) r → IsNarrowValue w names scope a ss s → AreNarrowLets (operands s) ts (operands r) → IsNarrowValue w names scope (PackTree sp l a) (ss ++ ts) r
  pack-narrow f g v t = record {
    by = λ c p wanted stands none.
        let right = expected_unpacked (look_up l p.known.layouts) in
        let first = no_front (faults (inside p) right a) (node_faults p wanted (PackTree sp l a)) none in
        let stands' = stands-inside w c.own scope p stands in
        let least : 2 + words_at p.known p.vars a ≤ need c.needs p.known p.vars a = need-least c.needs p.known p.vars a in
        let many : length (operands s) ≡ words_at p.known p.vars a = counted w scope a s f c.own (inside p) right stands' first (unpacked-value (look_up l p.known.layouts)) in
        let packed : length (operands r) ≡ words_at p.known p.vars (PackTree sp l a) = counted-given w scope (PackTree sp l a) r g c.own p wanted stands none refl in
        bits-steps c p (need c.needs p.known p.vars (PackTree sp l a)) (v.by c (inside p) right stands' first) t (omega arith) (omega arith);
  }
    where
      unpacked-value : (o : Option _) → (expected_unpacked o).value ≡ true
      unpacked-value None = refl
      unpacked-value (Some o) = refl
