use Rattle.std.proofs.Common.{sym, subst, refl, ℕ, Option, Some, Ok, Err}
use Rattle.std.proofs.lemmas.Result.{err_from_is_err_and}
use Rattle.nv_ast.specs.Types.{RecordTy, NamedTys}
use Rattle.nv_types_scopes.specs.declared.functions.TypedExpr.{TypedExpr}
use Rattle.nv_types_table.specs.inner.Named.{named}
use Rattle.nv_types_table.specs.inner.Store.{IsValue, AreFields, field_names}
use Rattle.nv_types_table.proofs.Growing.{Extends-trans}
use Rattle.nv_types_table.proofs.Staying.{fields_stay}
use Rattle.nv_types_scopes.proofs.Holding.{Keeps-table}
use Rattle.nv_types_scopes.proofs.WalkTests.{kind_twice}
use Rattle.nv_types_scopes.proofs.WalkMade.{made_judged}
use Rattle.nv_types_scopes.proofs.functions.Checker.made_record.Goals as goal

pub returns-in_err-list : goal.returns-in_err-list
returns-in_err-list c =
    let p = err_from_is_err_and c.from_residual.result c.from_residual.ensures.1 in
    rw (p.1, p.2) (record { judged = λ w ts wants h. tt; typed = λ ts h. tt; counted = λ ts h. tt; keeps = tt; writes = tt })

pub returns-in_err-t : goal.returns-in_err-t
returns-in_err-t c =
    let p = err_from_is_err_and c.from_residual-in_err-t.result c.from_residual-in_err-t.ensures.1 in
    rw (p.1, p.2) (record { judged = λ w ts wants h. tt; typed = λ ts h. tt; counted = λ ts h. tt; keeps = tt; writes = tt })

pub returns-in_err-repeats : goal.returns-in_err-repeats
returns-in_err-repeats c =
    let p = err_from_is_err_and c.from_residual-in_err-repeats.result c.from_residual-in_err-repeats.ensures.1 in
    rw (p.1, p.2) (record { judged = λ w ts wants h. tt; typed = λ ts h. tt; counted = λ ts h. tt; keeps = tt; writes = tt })

pub returns-in_err-judge : goal.returns-in_err-judge
returns-in_err-judge c =
    let p = err_from_is_err_and c.from_residual-in_err-judge.result c.from_residual-in_err-judge.ensures.1 in
    let grows = Extends-trans c.args.self.now.table c.fields_of.new.self c.record_of.new.self c.in_ok-list.ensures.grows c.in_ok-t.ensures.grows in
    let made = λ (ts : NamedTys) (h : AreFields c.args.self.now.table (named c.args.types.now) ts). c.in_ok-t.ensures.made ts (c.in_ok-list.ensures.made ts h) in
    let twice = λ (ts : NamedTys) (h : AreFields c.args.self.now.table (named c.args.types.now) ts).
    kind_twice c.kind_where-twice.result c.in_ok-repeats.repeats (field_names ts) c.kind_where-twice.ensures
    (c.in_ok-repeats.ensures.of_fields ts (fields_stay c.fields_of.new.self c.record_of.new.self c.in_ok-t.ensures.grows c.in_ok-list.list ts (c.in_ok-list.ensures.made ts h))) in
    rw (p.1, p.2) (record {
      judged = made_judged {T = TypedExpr} c.args.self.now.table c.record_of.new.self c.args.span c.args.expected (named c.args.types.now) c.in_ok-t.t c.kind_where-twice.result (Err c.in_err-judge.field-0.0) grows made twice c.in_err-judge.ensures;
      typed = λ ts h. tt;
      counted = λ ts h. tt;
      keeps = tt;
      writes = tt;
    })

pub returns : goal.returns
returns c =
    let grows = Extends-trans c.args.self.now.table c.fields_of.new.self c.record_of.new.self c.in_ok-list.ensures.grows c.in_ok-t.ensures.grows in
    let made = λ (ts : NamedTys) (h : AreFields c.args.self.now.table (named c.args.types.now) ts). c.in_ok-t.ensures.made ts (c.in_ok-list.ensures.made ts h) in
    let twice = λ (ts : NamedTys) (h : AreFields c.args.self.now.table (named c.args.types.now) ts).
    kind_twice c.kind_where-twice.result c.in_ok-repeats.repeats (field_names ts) c.kind_where-twice.ensures
    (c.in_ok-repeats.ensures.of_fields ts (fields_stay c.fields_of.new.self c.record_of.new.self c.in_ok-t.ensures.grows c.in_ok-list.list ts (c.in_ok-list.ensures.made ts h))) in
    record {
      judged = made_judged {T = TypedExpr} c.args.self.now.table c.record_of.new.self c.args.span c.args.expected (named c.args.types.now) c.in_ok-t.t c.kind_where-twice.result (Ok c.found.result) grows made twice c.in_ok-judge.ensures;
      typed = λ ts h. subst (λ (v : Option ℕ). IsValue c.record_of.new.self v (Some (RecordTy ts))) (sym c.found.ensures.same) (made ts h);
      counted = λ ts h. c.found.ensures.counted (Some (RecordTy ts)) (made ts h);
      keeps = Keeps-table c.args.self.now c.record_of.new.self grows;
      writes = refl;
    }
