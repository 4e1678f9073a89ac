use Rattle.std.proofs.Common.{refl, []}
use Rattle.std.proofs.lemmas.Result.{err_from_is_err_and}
use Rattle.nv_ast.specs.TypedView.{typed_program}
use Rattle.nv_meaning.specs.Meaning.{traced}
use Rattle.nv_meaning.specs.inner.Ran.{at, notes_of}
use Rattle.nv_meaning.proofs.Whole.{gives-outcome, gives-packet, gives-trail, gives-traced_front}
use Rattle.nv_meaning.proofs.program.traced.Goals as goal

pub returns-in_err-writes-clause-so_far : goal.returns-in_err-writes-clause-so_far
returns-in_err-writes-clause-so_far c =
    let p = err_from_is_err_and c.from_residual.result c.from_residual.ensures.1 in
    rw p.1 ([], (traced (typed_program c.args.t.now) c.args.args.now c.args.p.now c.args.n).writes, refl, refl, refl)

pub returns-clause-outcome : goal.returns-clause-outcome
returns-clause-outcome c = gives-outcome (at c.args.n c.args.p.now (notes_of c.in_ok-writes.writes c.args.log.now)) (at c.args.n c.run_both.new.p (notes_of c.run_both.new.log c.run_both.new.trace)) (traced (typed_program c.args.t.now) c.args.args.now c.args.p.now c.args.n) c.run_both.result c.run_both.ensures

pub returns-clause-packet : goal.returns-clause-packet
returns-clause-packet c = gives-packet (at c.args.n c.args.p.now (notes_of c.in_ok-writes.writes c.args.log.now)) (at c.args.n c.run_both.new.p (notes_of c.run_both.new.log c.run_both.new.trace)) (traced (typed_program c.args.t.now) c.args.args.now c.args.p.now c.args.n) c.run_both.result c.run_both.ensures

pub returns-clause-trace : goal.returns-clause-trace
returns-clause-trace c = gives-trail (at c.args.n c.args.p.now (notes_of c.in_ok-writes.writes c.args.log.now)) (at c.args.n c.run_both.new.p (notes_of c.run_both.new.log c.run_both.new.trace)) (traced (typed_program c.args.t.now) c.args.args.now c.args.p.now c.args.n) c.run_both.result c.run_both.ensures

pub returns-clause-so_far : goal.returns-clause-so_far
returns-clause-so_far c = gives-traced_front (at c.args.n c.args.p.now (notes_of c.in_ok-writes.writes c.args.log.now)) (at c.args.n c.run_both.new.p (notes_of c.run_both.new.log c.run_both.new.trace)) (traced (typed_program c.args.t.now) c.args.args.now c.args.p.now c.args.n) c.run_both.result c.run_both.ensures
