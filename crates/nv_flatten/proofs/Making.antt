-- Flat functions as they are put together.
use Rattle.std.proofs.Common.{◌≡◌, ◌∙◌, sym, ap, subst, ℕ, ◌+◌, List, [], append-nil, Option, Some, None, arith}
use Rattle.std.specs.Prelude.{Result, Ok, Err, IfOk}
use Rattle.std.proofs.lemmas.Option.{same_Some}
use Rattle.nv_ast.specs.Tree.{FunTree, NamedTypes}
use Rattle.nv_ast.specs.Types.{type_of, named_types_of, words, total_named_words}
use Rattle.nv_meaning.specs.Meaning.{function_in}
use Rattle.flat_ir.specs.declared.flat.FlatFun.{FlatFun}
use Rattle.nv_flatten_values.specs.inner.Symbols.{Symbol, SymbolScope, named_fresh, numbers_from, params_bound}
use Rattle.nv_flatten_values.specs.inner.Whole.{Whole, group_of}
use Rattle.nv_flatten_values.specs.inner.Simulation.{Names, IsEnd}
use Rattle.nv_flatten_values.specs.inner.Made.{IsMade, IsPlaced}
use Rattle.nv_flatten_values.specs.inner.Well.{IsWellEnd}

-- what holds where there is an answer
pub if-ok : {A E : Type 0} (r : Result A E) (P Q : A → Type 0) → ((a : A) → P a → Q a) → IfOk r P → IfOk r Q
if-ok (Ok a) P Q h p = h a p
if-ok (Err e) P Q h p = p

pub made-of : (w : Whole) (g : FunTree) (fun : FlatFun) (old names : Names) (low high : ℕ) (scope : SymbolScope) (form : Option Symbol) (types : NamedTypes) → types ≡ g.params
    → scope ≡ params_bound (named_fresh 0 (named_types_of w.declared.layouts types)) []
    → low ≡ 0 + total_named_words (named_types_of w.declared.layouts types)
    → fun.params.items ≡ numbers_from 0 (total_named_words (named_types_of w.declared.layouts types))
    → IsEnd w names low high scope g.body fun.body form → IsWellEnd w old names low high scope g.body fun.body
    → fun.results ≡ words (type_of w.declared.layouts g.result) → IsMade w names g fun
made-of w g fun old names low high scope form types same scopes lows params end well results =
    let n : total_named_words (named_types_of w.declared.layouts types) ≡ total_named_words (named_types_of w.declared.layouts g.params) = ap (λ ts. total_named_words (named_types_of w.declared.layouts ts)) same in
    record {
      names = names;
      more = ([], sym (append-nil names));
      low = low;
      high = high;
      form = form;
      params = params ∙ ap (numbers_from 0) n;
      behind = omega arith;
      end = subst (λ s. IsEnd w names low high s g.body fun.body form) (scopes ∙ ap (λ ts. params_bound (named_fresh 0 (named_types_of w.declared.layouts ts)) []) same) end;
      old = old;
      well = subst (λ s. IsWellEnd w old names low high s g.body fun.body) (scopes ∙ ap (λ ts. params_bound (named_fresh 0 (named_types_of w.declared.layouts ts)) []) same) well;
      results = results;
    }

-- the function that was found is the one that is made
pub made-found : (w : Whole) (name : List ℕ) (names : Names) (f g : FunTree) (fun : FlatFun) → function_in w.declared.functions name ≡ Some f → IsMade w names f fun → function_in w.declared.functions name ≡ Some g → IsMade w names g fun
made-found w name names f g fun found m e = subst (λ d. IsMade w names d fun) (same_Some _ _ (sym found ∙ e)) m

pub none-found : {A : Type 0} (o : Option FunTree) (g : FunTree) → o ≡ None → o ≡ Some g → A
none-found o g e f = absurd (no (sym e ∙ f))
  where
    no : None ≡ Some g → ⊥
    no h = cc

-- the function that was found is in its group
pub placed-found : (w : Whole) (name : List ℕ) (f : FunTree) (group : ℕ) (fun : FlatFun) → function_in w.declared.functions name ≡ Some f → group_of w name ≡ Some group → fun.group ≡ group → IsPlaced w name fun
placed-found w name f group fun found numbered same = record {
  group = λ g n e at. same ∙ same_Some _ _ (sym numbered ∙ at);
  absent = λ none. none-found (function_in w.declared.functions name) f none found;
}
