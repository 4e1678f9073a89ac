use Rattle.std.proofs.Common.{length, ◌∷◌, sym, ap, ◌∙◌, refl, arith}
use Rattle.std.proofs.lemmas.Bool.{false≢true}
use Rattle.std.proofs.lemmas.List.{length-append}
use Rattle.nv_memtext.proofs.TextLemmas.{has_more, gives_at_end, put_lengths}
use Rattle.nv_memtext.proofs.FaultLemmas.{bad_stretch, bad_short}
use Rattle.nv_memtext.proofs.read.read_stretches.Goals as goal

pub returns-in_default-stretch_of-clause-err : goal.returns-in_default-stretch_of-clause-err
returns-in_default-stretch_of-clause-err c = λ params bytes args h.
    bad_stretch params _ _ bytes _ _ _ _ args _ (c.loop-line.invariant.2 params bytes args h) c.in-Some.ensures.line c.in-Some.ensures.one c.in_default-stretch_of.ensures.none

pub loop-line-preserved : goal.loop-line-preserved
loop-line-preserved c = (
  omega (arith, ap length c.in-Some.ensures.line, length-append c.in-Some.line.now (10 ∷ c.next_line.new.self)),
  put_lengths c.in-Some-stretch_of.stretch.mem c.in-Some-stretch_of.stretch.at c.in-Some-stretch_of.stretch.words c.loop-line.packet c.put.new.packet c.args.sizes.now.sram c.args.sizes.now.sdram c.put.ensures c.loop-line.invariant.1,
  λ params bytes args h. has_more params _ _ bytes _ _ _ _ _ args _ _ (c.loop-line.invariant.2 params bytes args h) c.in-Some.ensures.line c.in-Some-stretch_of.ensures.some c.put.ensures,
)

pub returns-then-not-is_done-clause-err : goal.returns-then-not-is_done-clause-err
returns-then-not-is_done-clause-err c = λ params bytes args h.
    bad_short params _ _ bytes _ _ args _ (c.loop-line.invariant.2 params bytes args h) c.in_default.ensures.none (λ e. false≢true (c.if-not-is_done.ensures.1 (c.in_default.ensures.left ∙ e)))

pub returns-clause-ok : goal.returns-clause-ok
returns-clause-ok c = λ params bytes args h.
    gives_at_end params _ _ bytes _ _ args _ (c.loop-line.invariant.2 params bytes args h) (sym c.in_default.ensures.left ∙ c.if-not-is_done.ensures.0 refl)
