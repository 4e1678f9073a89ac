-- Calls, raises, blocks and named values are well formed where the parts are.
use Rattle.std.proofs.Common.{◌≡◌, ℕ, ◌+◌, ◌<◌, ◌≤◌, ◌==◌, Bool, true, false, not, nat_le, nat_lt, ◌&&◌, List, [], ◌∷◌, ◌++◌, refl, sym, ap, subst, ◌∙◌, Option, Some, None, option_map, length, slice_get, if◌then◌else◌, arith}
use Rattle.std.proofs.lemmas.Bool.{and_from, eq-eqb, le-leb, ltb-true}
use Rattle.nv_ast.specs.declared.token.Span.{Span}
use Rattle.nv_ast.specs.Tree.{Tree, ParenTree, CallTree, RaiseTree, BlockTree, StatementTrees, Trees}
use Rattle.nv_ast.specs.Tests.{is_among, names_of, look_up}
use Rattle.nv_ast.specs.Types.{Tys, words, total_words, total_named_words}
use Rattle.nv_ast.specs.Scope.{Context, inside, with_vars, callable, plain_tys, Signature}
use Rattle.nv_ast.specs.Typing.{type_at, types_at, vars_behind}
use Rattle.nv_ast.specs.Faults.{Expected, a_value, anything, expected_arguments, params_of, faults, list_faults, statements_faults, unknown_function, not_in_tail, wrong_number}
use Rattle.nv_meaning.specs.Running.{exception_number}
use Rattle.flat_ir.specs.declared.flat.Flat.{Flat}
use Rattle.flat_ir.specs.declared.flat.Flat.TheVariants.{Call, Raise}
use Rattle.flat_ir.specs.declared.spine.Step.{Step}
use Rattle.flat_ir.specs.declared.spine.Step.TheVariants.{Bind}
use Rattle.flat_ir.specs.Spine.{AreNodes}
use Rattle.nv_base.specs.Access.{all_known}
use Rattle.flat_ir.specs.Formed.{may_stand, can_call, is_formed, defined, raised}
use Rattle.nv_flatten_values.specs.inner.Code.{form_or_unit, variables}
use Rattle.nv_flatten_values.specs.inner.Symbols.{Symbol, Symbols, SymbolScope, operands, all_operands, form, forms, fresh, numbers_from, vars_of}
use Rattle.nv_flatten_values.specs.inner.Simulation.{Names, Extends}
use Rattle.nv_flatten_values.specs.inner.Whole.{Whole, Stands, raised_tys}
use Rattle.nv_flatten_values.specs.inner.Well.{ScopeKnown, Rises, WellSteps, Knows, GivesWords, IsLiteral, IsWellValue, AreWellValues, IsWellStated, IsWellEnd, steps_calls, AreCalled}
use Rattle.nv_flatten_values.proofs.Fresh.{fresh-operands, numbers-length}
use Rattle.nv_flatten_values.proofs.Sound.{arguments-typed}
use Rattle.nv_flatten_values.proofs.WellBasics.{knows-variables, all-operands-words, rises-append, rises-numbers, raised-both}
use Rattle.nv_flatten.proofs.WellTypes.{some-where, low-of, middle-of}
use Rattle.flat_ir.specs.Reached.{calls}
use Rattle.nv_flatten_values.proofs.WellNames.{called-more, code-called-more, code-called-then}
use Rattle.nv_flatten_values.proofs.WellSteps.{steps-names, code-behind, code-inner}
use Rattle.nv_flatten.proofs.WellArms.{stands-behind}
use Rattle.nv_flatten.proofs.WellEnds.{gives-words, raised-from-one}
use Rattle.nv_flatten_values.proofs.CallArms.{get-append}
use Rattle.nv_flatten_values.proofs.Following.{stands-inside}
use Rattle.nv_ast.proofs.Faultless.{no_front, no_rest, not_where}
use Rattle.nv_ast.proofs.TypeWords.{plain_words}

pub get-extended : {A : Type 0} (xs zs : List A) (i : ℕ) (x : A) → Extends xs zs → slice_get xs i ≡ Some x → slice_get zs i ≡ Some x
get-extended xs zs i x h e = ap (λ l. slice_get l i) h.1 ∙ get-append xs h.0 i x e

may-stand : (inside tail : Bool) (own group : ℕ) → (inside && not tail) ≡ false → (if inside then nat_le group own else nat_lt group own) ≡ true → may_stand tail own group ≡ true
may-stand true true own group n e = e
may-stand true false own group n e = cc
may-stand false true own group n e = let lt : group < own = ltb-true group own e in le-leb group own (omega arith)
may-stand false false own group n e = e

-- ---- a call
pub call-well : (w : Whole) (old names more : Names) (low high : ℕ) (scope : SymbolScope) (sp : Span) (f : List ℕ) (es : Trees) (ss : List Step) (vs : Symbols) (t : Flat) (i : ℕ) (bs : _) → AreNodes ss (Call i bs) t → bs.items ≡ all_operands vs
    → slice_get more i ≡ Some f → AreCalled names more (i ∷ []) → Extends names more → AreWellValues w old names low high scope es ss vs
    → ((own : ℕ) (p : Context) (wanted : List Expected) → Stands w own scope p → list_faults p wanted es ≡ [] → (ts : Tys) → types_at p.known p.vars es ≡ Some ts → forms vs ≡ ts) → IsWellEnd w old more low high scope (CallTree sp f es) t
call-well w old names more low high scope sp f es ss vs t i bs nodes same at new h a types = record {
  well = λ own p wanted st fl.
      let st' = stands-inside w own scope p st in
      let args = expected_arguments (params_of p.known f) es in
      let none : list_faults (inside p) args es ≡ [] = no_front (list_faults (inside p) args es) _ fl in
      let kinds = low-of p wanted (CallTree sp f es) fl in
      let found = some-where (look_up f (callable p.known)) 11 (no_front (unknown_function p.known f) _ kinds) in
      let rest = no_rest (unknown_function p.known f) _ kinds in
      let tailed : (is_among f (names_of p.known.own) && not p.tail) ≡ false = not_where (is_among f (names_of p.known.own) && not p.tail) 12 (no_front (not_in_tail p f) _ rest) in
      let number = no_rest (not_in_tail p f) _ rest in
      let g = found.0 in
      let target = st.part.functions f g found.1 in
      let pe : params_of p.known f ≡ Some (plain_tys g.params) = ap (option_map (λ (g : Signature). plain_tys g.params)) found.1 in
      let none' : list_faults (inside p) (expected_arguments (Some (plain_tys g.params)) es) es ≡ [] = subst (λ o. list_faults (inside p) (expected_arguments o es) es ≡ []) pe none in
      let number' : wrong_number (Some (plain_tys g.params)) es ≡ [] = subst (λ o. wrong_number o es ≡ []) pe number in
      let typed = arguments-typed (inside p) (plain_tys g.params) es none' number' in
      let tys : forms vs ≡ plain_tys g.params = types own (inside p) (expected_arguments (Some (plain_tys g.params)) es) st' none' (plain_tys g.params) typed in
      let many : length bs.items ≡ total_named_words g.params = ap length same ∙ all-operands-words vs ∙ ap total_words tys ∙ plain_words g.params in
      let o = type_at p.known p.vars (CallTree sp f es) in
      let result : o ≡ Some g.result = ap (option_map (λ (g : Signature). g.result)) found.1 in
      code-behind w more low high high own scope p.tail o ss (Knows (all_operands vs)) (Call i bs) t (steps-names w names more low high own scope ss (Knows (all_operands vs)) h (a.well own (inside p) args st' none refl)) nodes
      (λ l known k q n gw.
      let there = l.match.found i f target.fun target.group (get-extended more l.all i f l.more at) target.found target.numbered in
      let params : length there.fun.params.items ≡ length bs.items = there.params ∙ ap (λ (g : Signature). total_named_words g.params) target.signed ∙ sym many in
      let results : there.fun.results ≡ n = there.results ∙ ap (λ (g : Signature). words g.result) target.signed ∙ gives-words n o g.result result gw in
      let stands : may_stand p.tail own there.fun.group ≡ true =
      may-stand (is_among f (names_of p.known.own)) p.tail own there.fun.group tailed
      (subst (λ x. (if is_among f (names_of p.known.own) then nat_le x own else nat_lt x own) ≡ true) (sym there.group) target.earlier)
      in
      and_from (all_known known bs.items) (can_call own p.tail (length bs.items) n (slice_get l.funs i)) (subst (λ as'. all_known known as' ≡ true) (sym same) q)
      (ap (can_call own p.tail (length bs.items) n) there.there
      ∙ and_from (length there.fun.params.items == length bs.items) ((there.fun.results == n) && may_stand p.tail own there.fun.group) (eq-eqb (length there.fun.params.items) (length bs.items) params)
      (and_from (there.fun.results == n) (may_stand p.tail own there.fun.group) (eq-eqb there.fun.results n results) stands)))
      (omega arith) (tt {0});
  called = code-called-then old names more ss (Call i bs) t nodes a.called new;
}

-- ---- a raise
pub raise-well : (w : Whole) (old names : Names) (low high : ℕ) (scope : SymbolScope) (sp : Span) (x : List ℕ) (es : Trees) (ss : List Step) (vs : Symbols) (t : Flat) (k : ℕ) (bs : _) → AreNodes ss (Raise k bs) t → bs.items ≡ all_operands vs
    → k ≡ exception_number w.declared.exceptions x → AreWellValues w old names low high scope es ss vs
    → ((own : ℕ) (p : Context) (wanted : List Expected) → Stands w own scope p → list_faults p wanted es ≡ [] → (ts : Tys) → types_at p.known p.vars es ≡ Some ts → forms vs ≡ ts) → IsWellEnd w old names low high scope (RaiseTree sp x es) t
raise-well w old names low high scope sp x es ss vs t k bs nodes same number a types = record {
  well = λ own p wanted st fl.
      let st' = stands-inside w own scope p st in
      let ex = look_up x p.known.exceptions in
      let args = expected_arguments ex es in
      let none : list_faults (inside p) args es ≡ [] = no_front (list_faults (inside p) args es) _ fl in
      let counted : wrong_number ex es ≡ [] = low-of p wanted (RaiseTree sp x es) fl in
      let found = some-where ex 17 (middle-of p wanted (RaiseTree sp x es) fl) in
      let ts = found.0 in
      let raised-k : raised_tys w k ≡ Some ts = ap (raised_tys w) number ∙ st.part.exceptions x ts found.1 in
      let none' : list_faults (inside p) (expected_arguments (Some ts) es) es ≡ [] = subst (λ o. list_faults (inside p) (expected_arguments o es) es ≡ []) found.1 none in
      let counted' : wrong_number (Some ts) es ≡ [] = subst (λ o. wrong_number o es ≡ []) found.1 counted in
      let typed = arguments-typed (inside p) ts es none' counted' in
      let tys : forms vs ≡ ts = types own (inside p) (expected_arguments (Some ts) es) st' none' ts typed in
      let many : length bs.items ≡ total_words ts = ap length same ∙ all-operands-words vs ∙ ap total_words tys in
      code-behind w names low high high own scope p.tail None ss (Knows (all_operands vs)) (Raise k bs) t (a.well own (inside p) args st' none refl) nodes
      (λ l known ks q n gw.
      let short : total_words ts ≤ 8 = l.short k ts raised-k in
      and_from (all_known known bs.items) (nat_le 1 k && nat_le (length bs.items) 8) (subst (λ as'. all_known known as' ≡ true) (sym same) q)
      (and_from (nat_le 1 k) (nat_le (length bs.items) 8) (raised-from-one w k ts raised-k) (le-leb (length bs.items) 8 (omega arith))))
      (omega arith) ((ts, raised-k, many), tt {0});
  called = code-called-more old names ss (Raise k bs) t nodes a.called;
}

-- ---- the same words
pub paren-end-well : (w : Whole) (old names : Names) (low high : ℕ) (scope : SymbolScope) (sp : Span) (e : Tree) (t : Flat) → IsWellEnd w old names low high scope e t → IsWellEnd w old names low high scope (ParenTree sp e) t
paren-end-well w old names low high scope sp e t a = record { well = λ own p wanted st f. a.well own p a_value st (no_front (faults p a_value e) _ f); called = a.called }

pub block-end-well : (w : Whole) (old names more : Names) (low mid high : ℕ) (scope inner : SymbolScope) (sp : Span) (sts : StatementTrees) (e : Tree) (ss : List Step) (last t : Flat) → Extends names more → AreNodes ss last t
    → IsWellStated w old names low mid scope sts ss inner → ((own : ℕ) (p : Context) → Stands w own scope p → statements_faults p sts ≡ [] → vars_behind p.known p.vars sts ≡ vars_of inner) → IsWellEnd w names more mid high inner e last
    → IsWellEnd w old more low high scope (BlockTree sp sts e) t
block-end-well w old names more low mid high scope inner sp sts e ss last t h nodes a vars b = record {
  well = λ own p wanted st f.
      let st' = stands-inside w own scope p st in
      let none = no_front (statements_faults (inside p) sts) _ f in
      let rest = no_rest (statements_faults (inside p) sts) _ f in
      let behind = with_vars (vars_behind p.known p.vars sts) p in
      let first = steps-names w names more low mid own scope ss (λ known. ScopeKnown known inner) h (a.well own (inside p) st' none refl) in
      let second = b.well own behind anything (stands-behind w own scope inner p sts st (vars own (inside p) st' none)) (no_front (faults behind anything e) _ rest) in
      code-inner w more low mid high own scope inner p.tail (type_at p.known p.vars (BlockTree sp sts e)) ss (λ known. ScopeKnown known inner) last t first (λ known k q. q) second nodes;
  called = code-called-then old names more ss last t nodes a.called b.called;
}

-- ---- words that get names
named-words : (o : Option Symbol) → GivesWords (words (form_or_unit o)) (option_map form o)
named-words (Some s) = refl
named-words None = tt {0}

pub named-well : (w : Whole) (old names : Names) (low mid high : ℕ) (scope : SymbolScope) (e : Tree) (code : Flat) (o : Option Symbol) (ss : List Step) (v : Symbol) (ws : _) → ss ≡ Bind ws code ∷ []
    → ws.items ≡ numbers_from mid (words (form_or_unit o)) → v ≡ fresh mid (form_or_unit o) → mid + words (form_or_unit o) ≤ high
    → ((own : ℕ) (p : Context) (wanted : Expected) → Stands w own scope p → faults p wanted e ≡ [] → type_at p.known p.vars e ≡ option_map form o) → IsWellEnd w old names low mid scope e code → IsLiteral e v
    → IsWellValue w old names low high scope e ss v
named-well w old names low mid high scope e code o ss v ws last same new le types a literal = record {
  well = λ own p wanted st f t.
      let u = form_or_unit o in
      let n = words u in
      let body = a.well own p wanted st f in
      let many : length ws.items ≡ n = ap length same ∙ numbers-length mid n in
      let gives : GivesWords (length ws.items) (type_at p.known p.vars e) = subst (λ x. GivesWords (length ws.items) x) (sym (types own p wanted st f)) (subst (λ k. GivesWords k (option_map form o)) (sym many) (named-words o)) in
      subst (λ k. WellSteps w names low high own scope k (Knows (operands v))) (sym last)
      (record {
        formed = λ l known k. (
          and_from (is_formed l.funs own false (length ws.items) known code) true (subst (λ b. is_formed l.funs own b (length ws.items) known code ≡ true) t (body.formed l known k (length ws.items) gives)) refl,
          subst (λ as'. all_known (ws.items ++ known) as' ≡ true) (sym (ap operands new ∙ fresh-operands mid u))
              (subst (λ l. all_known (l ++ known) (variables (numbers_from mid n)) ≡ true) (sym same) (knows-variables (numbers_from mid n) known)),
        );
        rises = rises-append low high high (defined code ++ ws.items) []
            (rises-append low mid high (defined code) ws.items body.rises (subst (λ l. Rises mid l high) (sym same) (rises-numbers mid n high le))) (omega arith);
        raises = raised-both w (raised code) [] body.raises (tt {0});
      });
  literal = literal;
  called = subst (λ k. AreCalled old names (steps_calls k)) (sym last) (called-more old names (calls code) [] a.called);
}
