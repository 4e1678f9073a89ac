use Rattle.std.proofs.lemmas.Result.{err_from_is_err_and}
use Rattle.nv_ast.specs.Types.{RecordTy}
use Rattle.nv_ast.specs.Faults.{too_large}
use Rattle.nv_types_table.specs.inner.Store.{field_names}
use Rattle.nv_types_table.proofs.Growing.{Extends-trans}
use Rattle.nv_types_scopes.proofs.Holding.{Keeps-table, on_ok}
use Rattle.nv_types_scopes.proofs.TextWalk.{twice_first, twice_then, same_number}
use Rattle.nv_types_scopes.proofs.functions.Checker.record_text.Goals as goal

pub returns-in_err-fault_where-clause-judged : goal.returns-in_err-fault_where-clause-judged
returns-in_err-fault_where-clause-judged c = λ ts h.
    let p = err_from_is_err_and c.from_residual-in_err-fault_where.result c.from_residual-in_err-fault_where.ensures.1 in
    let made = c.in_ok-list.ensures.made ts h in
    rw (p.1, p.2) (twice_first c.args.span c.in_ok-repeats_a_name.field-0 (field_names ts) (too_large (RecordTy ts)) c.in_err-fault_where.field-0.0 (c.in_ok-repeats_a_name.ensures.of_fields ts made) c.in_err-fault_where.ensures)

pub returns-clause-judged : goal.returns-clause-judged
returns-clause-judged c = λ ts h.
    let made = c.in_ok-list.ensures.made ts h in
    twice_then c.args.span c.in_ok-repeats_a_name.field-0 (field_names ts) (too_large (RecordTy ts)) c.without_excess.result (c.in_ok-repeats_a_name.ensures.of_fields ts made) c.in_ok-fault_where.ensures (c.without_excess.ensures.judged (RecordTy ts) (c.in_ok-t.ensures.made ts made))

pub returns-clause-typed : goal.returns-clause-typed
returns-clause-typed c = λ ts h.
    let made = c.in_ok-list.ensures.made ts h in
    same_number c.record_of.new.self c.in_ok-t.t (RecordTy ts) c.without_excess.result c.without_excess.ensures.same (c.in_ok-t.ensures.made ts made)

pub returns-clause-keeps : goal.returns-clause-keeps
returns-clause-keeps c =
    on_ok c.without_excess.result (Keeps-table c.args.self.now c.record_of.new.self (Extends-trans c.args.self.now.table c.fields_of.new.self c.record_of.new.self c.in_ok-list.ensures.grows c.in_ok-t.ensures.grows))
