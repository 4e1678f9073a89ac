use Rattle.std.proofs.Common.{◌≡◌, ◌∙◌, refl, ap, ℕ, List, ◌++◌, Some, None, Ok, []}
use Rattle.std.specs.Borrow.{Bor}
use Rattle.nv_ast.specs.PatternView.{pattern_tree}
use Rattle.nv_ast.specs.Scope.{names_in}
use Rattle.nv_types_table.specs.inner.Named.{plain_names}
use Rattle.nv_types_table.specs.declared.error.TypeError.TheVariants.{NoMemory}
use Rattle.nv_types_scopes.proofs.BlockLets.{let_at_err, let_wants_memory, let_fails_at_names, let_fails_at_fit, let_binds_none, let_binds_some, let_moved}
use Rattle.nv_types_scopes.proofs.functions.Checker.let_pattern.Goals as goal

names_are : (xs ys none : List (Bor (List ℕ))) (zs : List (List ℕ)) → xs ≡ ys → plain_names ys ≡ plain_names none ++ zs → none ≡ [] → plain_names xs ≡ zs
names_are xs ys none zs e f g = ap plain_names e ∙ f ∙ ap (λ (l : List (Bor (List ℕ))). plain_names l ++ zs) g

pub returns-in_err-add_names : goal.returns-in_err-add_names
returns-in_err-add_names c = let_at_err _ _ _ _ _ _ NoMemory c.from_residual.ensures.1 (let_wants_memory _ _ _ _ _)

pub returns-in_err-without_twice : goal.returns-in_err-without_twice
returns-in_err-without_twice c =
    let names = names_are _ _ _ (names_in (pattern_tree c.args.p.now)) c.deref.ensures.value c.in_ok-add_names.ensures c.new-names.ensures.items in
    let_at_err _ _ _ _ _ _ _ c.from_residual-in_err-without_twice.ensures.1 (let_fails_at_names _ _ _ _ _ _ _ names c.in_err-without_twice.ensures)

pub returns-in_err-fault_where : goal.returns-in_err-fault_where
returns-in_err-fault_where c =
    let names = names_are _ _ _ (names_in (pattern_tree c.args.p.now)) c.deref.ensures.value c.in_ok-add_names.ensures c.new-names.ensures.items in
    let_at_err _ _ _ _ _ _ _ c.from_residual-in_err-fault_where.ensures.1
    (let_moved _ _ _ _ _ c.args.value (Some c.in-Some.t) _ c.in-Some.is refl (let_fails_at_fit _ _ _ _ c.in-Some.t _ c.fits.result _ names c.in_ok-without_twice.ensures c.fits.ensures c.in_err-fault_where.ensures))

pub returns-in_err-bind : goal.returns-in_err-bind
returns-in_err-bind c = let_at_err _ _ _ _ _ _ NoMemory c.from_residual-in_err-bind.ensures.1 (let_wants_memory _ _ _ _ _)

pub returns-in_ok-bind : goal.returns-in_ok-bind
returns-in_ok-bind c =
    let names = names_are _ _ _ (names_in (pattern_tree c.args.p.now)) c.deref.ensures.value c.in_ok-add_names.ensures c.new-names.ensures.items in
    let_moved c.args.self.now c.bind.new.self c.bind.new.self c.args.span (pattern_tree c.args.p.now) c.args.value (Some c.in-Some.t) (Ok tt) c.in-Some.is refl
    (let_binds_some c.args.self.now c.bind.new.self c.args.span (pattern_tree c.args.p.now) c.in-Some.t (plain_names c.deref.result.now) c.fits.result tt names c.in_ok-without_twice.ensures c.fits.ensures c.in_ok-fault_where.ensures
    c.in_ok-bind.ensures.sees c.in_ok-bind.ensures.adds)

pub returns-in_default : goal.returns-in_default
returns-in_default c =
    let names = names_are _ _ _ (names_in (pattern_tree c.args.p.now)) c.deref.ensures.value c.in_ok-add_names.ensures c.new-names.ensures.items in
    let_moved c.args.self.now c.args.self.now c.args.self.now c.args.span (pattern_tree c.args.p.now) c.args.value None (Ok tt) c.in_default.is refl
    (let_binds_none c.args.self.now c.args.span (pattern_tree c.args.p.now) (plain_names c.deref.result.now) tt names c.in_ok-without_twice.ensures)
