use Rattle.std.proofs.Common.{◌≡◌, ◌∙◌, [], ap, sym, subst, List, ℕ, Ok, Err}
use Rattle.std.specs.Borrow.{Bor}
use Rattle.std.proofs.lemmas.Result.{err_from_is_err_and}
use Rattle.nv_ast.specs.declared.tree.TyText.{TyText}
use Rattle.nv_ast.specs.TypeView.{list_named_types}
use Rattle.nv_ast.specs.ProgramView.{fun_tree}
use Rattle.nv_ast.specs.Tests.{names_of}
use Rattle.nv_ast.specs.Faults.{at_span, variable_twice}
use Rattle.nv_types_table.specs.inner.Faulty.{IsFirstOf}
use Rattle.nv_types_table.specs.inner.Named.{named, bound_types}
use Rattle.nv_types_table.specs.inner.Store.{AreTypes}
use Rattle.nv_types_scopes.specs.inner.Texts.{TypesNamed}
use Rattle.nv_types_scopes.proofs.Signing.{Listed, texts_read, sign_params_err, sign_result_err, sign_twice_err, sign_main_err, sign_ok, sign_no_memory}
use Rattle.nv_types.proofs.signatures.signature.Goals as goal

pub returns-in_err-params : goal.returns-in_err-params
returns-in_err-params c =
    let e = c.in_err-params.field-0.0 in
    let texts = subst (λ (l : List (List ℕ × TyText)). TypesNamed c.args.checker.now c.named_texts.new.self c.args.f.now.span (list_named_types l) (Err e)) c.deref.ensures.value c.in_err-params.ensures in
    let p = err_from_is_err_and c.from_residual.result c.from_residual.ensures.1 in
    rw (p.1, p.2) (sign_params_err c.args.checker.now c.named_texts.new.self c.named_texts.new.self (fun_tree c.args.f.now) e texts)

pub returns-in_err-result : goal.returns-in_err-result
returns-in_err-result c =
    let e = c.in_err-result.field-0.0 in
    let texts = subst (λ (l : List (List ℕ × TyText)). TypesNamed c.args.checker.now c.named_texts.new.self c.args.f.now.span (list_named_types l) (Ok c.in_ok-params.params)) c.deref.ensures.value c.in_ok-params.ensures in
    let p = err_from_is_err_and c.from_residual-in_err-result.result c.from_residual-in_err-result.ensures.1 in
    rw (p.1, p.2) (sign_result_err c.args.checker.now c.named_texts.new.self c.type_text.new.self c.type_text.new.self (fun_tree c.args.f.now) c.in_ok-params.params e texts c.in_err-result.ensures)

pub returns-in_err-without_twice_param : goal.returns-in_err-without_twice_param
returns-in_err-without_twice_param c =
    let e = c.in_err-without_twice_param.field-0.0 in
    let f = fun_tree c.args.f.now in
    let texts = subst (λ (l : List (List ℕ × TyText)). TypesNamed c.args.checker.now c.named_texts.new.self c.args.f.now.span (list_named_types l) (Ok c.in_ok-params.params)) c.deref.ensures.value c.in_ok-params.ensures in
    let read = texts_read c.args.checker.now c.named_texts.new.self c.type_text.new.self f c.in_ok-params.params c.in_ok-result.result texts c.in_ok-result.ensures in
    let twice = subst (λ (l : List (Bor (List ℕ) × ℕ)). IsFirstOf (at_span c.args.f.now.span (variable_twice (names_of (named l)))) e) c.deref-2.ensures.value c.in_err-without_twice_param.ensures in
    let p = err_from_is_err_and c.from_residual-in_err-without_twice_param.result c.from_residual-in_err-without_twice_param.ensures.1 in
    rw (p.1, p.2) (sign_twice_err c.args.checker.now c.type_text.new.self c.type_text.new.self f (named c.in_ok-params.params.items) c.in_ok-result.result e read twice)

pub returns-in_err-types : goal.returns-in_err-types
returns-in_err-types c =
    let p = err_from_is_err_and c.from_residual-in_err-types.result c.from_residual-in_err-types.ensures.1 in
    rw (p.1, p.2) (sign_no_memory c.args.checker.now c.type_text.new.self (fun_tree c.args.f.now))

pub returns-in_err-list : goal.returns-in_err-list
returns-in_err-list c =
    let p = err_from_is_err_and c.from_residual-in_err-list.result c.from_residual-in_err-list.ensures.1 in
    rw (p.1, p.2) (sign_no_memory c.args.checker.now _ (fun_tree c.args.f.now))

pub returns-in_err-fitting_main : goal.returns-in_err-fitting_main
returns-in_err-fitting_main c =
    let e = c.in_err-fitting_main.field-0.0 in
    let f = fun_tree c.args.f.now in
    let texts = subst (λ (l : List (List ℕ × TyText)). TypesNamed c.args.checker.now c.named_texts.new.self c.args.f.now.span (list_named_types l) (Ok c.in_ok-params.params)) c.deref.ensures.value c.in_ok-params.ensures in
    let read = texts_read c.args.checker.now c.named_texts.new.self c.type_text.new.self f c.in_ok-params.params c.in_ok-result.result texts c.in_ok-result.ensures in
    let twice = subst (λ (l : List (Bor (List ℕ) × ℕ)). at_span c.args.f.now.span (variable_twice (names_of (named l))) ≡ []) c.deref-2.ensures.value c.in_ok-without_twice_param.ensures in
    let same : c.deref-4.result.now ≡ bound_types (named c.in_ok-params.params.items) = c.deref-4.ensures.value ∙ c.in_ok-types.ensures ∙ ap (λ (l : List (Bor (List ℕ) × ℕ)). bound_types (named l)) c.deref-3.ensures.value in
    let listed : Listed c.type_text.new.self.table c.parts_of.new.self (named c.in_ok-params.params.items) c.in_ok-list.list = record { grows = c.in_ok-list.ensures.grows; made = λ ts h. c.in_ok-list.ensures.made ts (subst (λ (l : List ℕ). AreTypes c.type_text.new.self.table l ts) (sym same) h) } in
    let p = err_from_is_err_and c.from_residual-in_err-fitting_main.result c.from_residual-in_err-fitting_main.ensures.1 in
    rw (p.1, p.2) (sign_main_err (Unit {0}) c.args.checker.now c.type_text.new.self _ f (named c.in_ok-params.params.items) c.in_ok-result.result c.parts_of.new.self c.in_ok-list.list e read twice listed c.in_err-fitting_main.ensures)

pub returns-in_err-add : goal.returns-in_err-add
returns-in_err-add c =
    let p = err_from_is_err_and c.from_residual-in_err-add.result c.from_residual-in_err-add.ensures.1 in
    rw (p.1, p.2) (sign_no_memory c.args.checker.now _ (fun_tree c.args.f.now))

pub returns : goal.returns
returns c =
    let f = fun_tree c.args.f.now in
    let texts = subst (λ (l : List (List ℕ × TyText)). TypesNamed c.args.checker.now c.named_texts.new.self c.args.f.now.span (list_named_types l) (Ok c.in_ok-params.params)) c.deref.ensures.value c.in_ok-params.ensures in
    let read = texts_read c.args.checker.now c.named_texts.new.self c.type_text.new.self f c.in_ok-params.params c.in_ok-result.result texts c.in_ok-result.ensures in
    let twice = subst (λ (l : List (Bor (List ℕ) × ℕ)). at_span c.args.f.now.span (variable_twice (names_of (named l))) ≡ []) c.deref-2.ensures.value c.in_ok-without_twice_param.ensures in
    let same : c.deref-4.result.now ≡ bound_types (named c.in_ok-params.params.items) = c.deref-4.ensures.value ∙ c.in_ok-types.ensures ∙ ap (λ (l : List (Bor (List ℕ) × ℕ)). bound_types (named l)) c.deref-3.ensures.value in
    let listed : Listed c.type_text.new.self.table c.parts_of.new.self (named c.in_ok-params.params.items) c.in_ok-list.list = record { grows = c.in_ok-list.ensures.grows; made = λ ts h. c.in_ok-list.ensures.made ts (subst (λ (l : List ℕ). AreTypes c.type_text.new.self.table l ts) (sym same) h) } in
    sign_ok (Unit {0}) c.args.checker.now c.type_text.new.self f (named c.in_ok-params.params.items) c.in_ok-result.result c.parts_of.new.self c.in_ok-list.list c.add.new.self tt tt read twice listed c.in_ok-fitting_main.ensures c.in_ok-add.ensures.new_name
