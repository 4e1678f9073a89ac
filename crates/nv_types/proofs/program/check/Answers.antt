use Rattle.std.proofs.Common.{◌+◌, ◌*◌, ◌≤◌, arith, sym, subst}
use Rattle.std.proofs.lemmas.Result.{err_from_is_err_and}
use Rattle.nv_ast.specs.ProgramView.{program_of}
use Rattle.nv_ast.specs.Sizes.{expanded_size, room}
use Rattle.nv_types.proofs.BoundedRoom.{need_fits, room_exact, refused, too_large, accepted, bounded}
use Rattle.nv_types.proofs.OnlyRefusals.{accepted_fault, accepted_large, refused_accepted, refused_fault, refused_large}
use Rattle.nv_types.proofs.program.check.Goals as goal

pub returns-in_err-sizes-clause-refused : goal.returns-in_err-sizes-clause-refused
returns-in_err-sizes-clause-refused c =
    let p = err_from_is_err_and c.from_residual-in_err-sizes.result c.from_residual-in_err-sizes.ensures.1 in
    rw (p.1, p.2) (refused (program_of c.args.p) c.in_err-sizes.field-0.0 c.in_err-sizes.ensures.judged)

pub returns-in_err-fitting_size-clause-refused : goal.returns-in_err-fitting_size-clause-refused
returns-in_err-fitting_size-clause-refused c =
    let p = err_from_is_err_and c.from_residual-in_err-fitting_size.result c.from_residual-in_err-fitting_size.ensures.1 in
    rw (p.1, p.2) (too_large (program_of c.args.p) c.in_ok-sizes.sizes c.in_err-fitting_size.field-0.0 c.in_ok-sizes.ensures.judged c.in_ok-sizes.ensures.sized c.in_err-fitting_size.ensures.large)

pub overflow_cast-room : goal.overflow_cast-room
overflow_cast-room c =
    let n = need_fits (program_of c.args.p) c.in_ok-sizes.sizes c.in_ok-sizes.ensures.judged c.in_ok-sizes.ensures.sized c.in_ok-fitting_size.ensures.small in
    omega (arith, n)

pub overflow_add-room : goal.overflow_add-room
overflow_add-room c =
    let n = need_fits (program_of c.args.p) c.in_ok-sizes.sizes c.in_ok-sizes.ensures.judged c.in_ok-sizes.ensures.sized c.in_ok-fitting_size.ensures.small in
    omega (arith, n)

pub of-requires-clause-roomy : goal.of-requires-clause-roomy
of-requires-clause-roomy c =
    room_exact (program_of c.args.p) c.in_ok-sizes.sizes c.in_ok-sizes.ensures.judged c.in_ok-sizes.ensures.sized c.in_ok-fitting_size.ensures.small

-- ---- only what is so is told
pub returns-in_err-sizes-clause-only_accepted : goal.returns-in_err-sizes-clause-only_accepted
returns-in_err-sizes-clause-only_accepted c =
    let p = err_from_is_err_and c.from_residual-in_err-sizes.result c.from_residual-in_err-sizes.ensures.1 in
    rw (p.1, p.2) (λ a. refused_accepted (program_of c.args.p) c.in_err-sizes.field-0.0 (refused (program_of c.args.p) c.in_err-sizes.field-0.0 c.in_err-sizes.ensures.judged) a)

pub returns-in_err-sizes-clause-only_fault : goal.returns-in_err-sizes-clause-only_fault
returns-in_err-sizes-clause-only_fault c =
    let p = err_from_is_err_and c.from_residual-in_err-sizes.result c.from_residual-in_err-sizes.ensures.1 in
    rw (p.1, p.2) (λ kind place k. refused_fault (program_of c.args.p) c.in_err-sizes.field-0.0 (refused (program_of c.args.p) c.in_err-sizes.field-0.0 c.in_err-sizes.ensures.judged) kind place k)

pub returns-in_err-sizes-clause-only_too_large : goal.returns-in_err-sizes-clause-only_too_large
returns-in_err-sizes-clause-only_too_large c =
    let p = err_from_is_err_and c.from_residual-in_err-sizes.result c.from_residual-in_err-sizes.ensures.1 in
    rw (p.1, p.2) (λ t large. refused_large (program_of c.args.p) c.in_err-sizes.field-0.0 (refused (program_of c.args.p) c.in_err-sizes.field-0.0 c.in_err-sizes.ensures.judged) t large)

pub returns-in_err-fitting_size-clause-only_accepted : goal.returns-in_err-fitting_size-clause-only_accepted
returns-in_err-fitting_size-clause-only_accepted c =
    let p = err_from_is_err_and c.from_residual-in_err-fitting_size.result c.from_residual-in_err-fitting_size.ensures.1 in
    rw (p.1, p.2) (λ a. refused_accepted (program_of c.args.p) c.in_err-fitting_size.field-0.0 (too_large (program_of c.args.p) c.in_ok-sizes.sizes c.in_err-fitting_size.field-0.0 c.in_ok-sizes.ensures.judged c.in_ok-sizes.ensures.sized c.in_err-fitting_size.ensures.large) a)

pub returns-in_err-fitting_size-clause-only_fault : goal.returns-in_err-fitting_size-clause-only_fault
returns-in_err-fitting_size-clause-only_fault c =
    let p = err_from_is_err_and c.from_residual-in_err-fitting_size.result c.from_residual-in_err-fitting_size.ensures.1 in
    rw (p.1, p.2) (λ kind place k. refused_fault (program_of c.args.p) c.in_err-fitting_size.field-0.0 (too_large (program_of c.args.p) c.in_ok-sizes.sizes c.in_err-fitting_size.field-0.0 c.in_ok-sizes.ensures.judged c.in_ok-sizes.ensures.sized c.in_err-fitting_size.ensures.large) kind place k)

pub returns-in_err-fitting_size-clause-only_too_large : goal.returns-in_err-fitting_size-clause-only_too_large
returns-in_err-fitting_size-clause-only_too_large c =
    let p = err_from_is_err_and c.from_residual-in_err-fitting_size.result c.from_residual-in_err-fitting_size.ensures.1 in
    rw (p.1, p.2) (λ t large. refused_large (program_of c.args.p) c.in_err-fitting_size.field-0.0 (too_large (program_of c.args.p) c.in_ok-sizes.sizes c.in_err-fitting_size.field-0.0 c.in_ok-sizes.ensures.judged c.in_ok-sizes.ensures.sized c.in_err-fitting_size.ensures.large) t large)

pub returns-clause-only_fault : goal.returns-clause-only_fault
returns-clause-only_fault c = λ kind place k.
    accepted_fault (program_of c.args.p) kind place (accepted (program_of c.args.p) c.in_ok-sizes.sizes c.in_ok-sizes.ensures.judged c.in_ok-sizes.ensures.sized c.in_ok-fitting_size.ensures.small) k

pub returns-clause-only_too_large : goal.returns-clause-only_too_large
returns-clause-only_too_large c = λ t large.
    accepted_large (program_of c.args.p) (accepted (program_of c.args.p) c.in_ok-sizes.sizes c.in_ok-sizes.ensures.judged c.in_ok-sizes.ensures.sized c.in_ok-fitting_size.ensures.small) large

pub returns-clause-bounded : goal.returns-clause-bounded
returns-clause-bounded c =
    subst (λ p. room p ≤ 5 * expanded_size p + 8) (sym c.of.ensures)
    (bounded (program_of c.args.p) (accepted (program_of c.args.p) c.in_ok-sizes.sizes c.in_ok-sizes.ensures.judged c.in_ok-sizes.ensures.sized c.in_ok-fitting_size.ensures.small))
