use Rattle.std.proofs.Common.{◌≡◌, ◌∙◌, ◌≤◌, ◌<◌, ◌+◌, ap, sym, subst, drop, length, arith, List, ℕ, get_or}
use Rattle.nv_ast.specs.declared.tree.TyText.{TyText}
use Rattle.std.proofs.Math.ListN.{drop_of_length-le}
use Rattle.nv_ast.specs.Tests.{names_of}
use Rattle.nv_ast.proofs.Items.{next_item}
use Rattle.nv_types_scopes.proofs.Holding.{declared_refl}
use Rattle.nv_types_scopes.proofs.Params.{BindingSo, binding_start, binding_none, binding_end, binding_more, names_first}
use Rattle.nv_types_scopes.proofs.functions.Checker.bind_params.Goals as goal

pub loop-p-init : goal.loop-p-init
loop-p-init c = record { so = binding_start c.args.self.now (names_of c.args.f.now.params.items) c.args.types; keeps = declared_refl c.args.self.now }

pub returns-in_default-clause-sees : goal.returns-in_default-clause-sees
returns-in_default-clause-sees c =
    binding_none c.args.self.now c.loop-p.self (names_of c.args.f.now.params.items) (names_of (drop c.loop-p.p-index c.args.f.now.params.items)) c.args.types c.loop-p.list c.loop-p.invariant.so (sym c.in_default.ensures.value)

pub returns-in_default-clause-keeps : goal.returns-in_default-clause-keeps
returns-in_default-clause-keeps c = c.loop-p.invariant.keeps

pub loop-p-preserved : goal.loop-p-preserved
loop-p-preserved c =
    let i = c.loop-p.p-index in
    let ps = c.args.f.now.params.items in
    let p = c.p-item.result in
    let last = c.loop-p.invariant in
    let inside = subst (λ (l : List (List ℕ × TyText)). c.loop-p.p-index < length l) c.deref-p-items.ensures.value c.loop-p-test.true in
    let is = subst (λ (l : List (List ℕ × TyText)). c.p-item.result ≡ get_or l c.loop-p.p-index c.p-item.result) c.deref-p-items.ensures.value c.p-item.is in
    let so = subst (λ names. BindingSo c.args.self.now c.loop-p.self (names_of c.args.f.now.params.items) names c.args.types c.loop-p.list) (ap names_of (next_item ps i p inside is) ∙ names_first p (drop (i + 1) ps)) last.so in
    record {
      so = binding_more c.args.self.now c.loop-p.self c.bind.new.self (names_of ps) (names_of (drop (i + 1) ps)) p.0 c.args.types c.loop-p.list c.in-Some.t c.in-Some.rest c.in-Some.ensures.store so (sym c.in-Some.ensures.value) c.in_ok-bind.ensures;
      keeps = record { grows = last.keeps.grows; same_layouts = last.keeps.same_layouts; same_exceptions = last.keeps.same_exceptions; same_functions = last.keeps.same_functions; same_costs = last.keeps.same_costs };
    }

pub returns-clause-sees : goal.returns-clause-sees
returns-clause-sees c =
    let past : length c.args.f.now.params.items ≤ c.loop-p.p-index = omega arith in
    let so = subst (λ names. BindingSo c.args.self.now c.loop-p.self (names_of c.args.f.now.params.items) names c.args.types c.loop-p.list) (ap names_of (drop_of_length-le c.args.f.now.params.items past)) c.loop-p.invariant.so in
    binding_end c.args.self.now c.loop-p.self (names_of c.args.f.now.params.items) c.args.types c.loop-p.list so

pub returns-clause-keeps : goal.returns-clause-keeps
returns-clause-keeps c = c.loop-p.invariant.keeps
