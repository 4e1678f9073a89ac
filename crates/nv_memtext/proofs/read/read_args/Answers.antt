use Rattle.std.proofs.Common.{length, sym, ap, ◌∙◌}
use Rattle.nv_memtext.proofs.FaultLemmas.{bad_short_args, bad_args}
use Rattle.nv_memtext.proofs.TextLemmas.{has_two}
use Rattle.nv_memtext.proofs.LineLemmas.{args_one}
use Rattle.nv_memtext.proofs.read.read_args.Goals as goal

pub returns-in_default-clause-err : goal.returns-in_default-clause-err
returns-in_default-clause-err c = λ bytes sram sdram h. bad_short_args c.args.params bytes _ sram sdram h c.in_default.ensures.none

pub returns-in_default-args_of-clause-err : goal.returns-in_default-args_of-clause-err
returns-in_default-args_of-clause-err c = λ bytes sram sdram h.
    bad_args c.args.params bytes _ _ _ sram sdram h c.in-Some.ensures.line c.in-Some.ensures.one (λ args spells number. c.in_default-args_of.ensures.none args spells)

pub returns-then-list-from-clause-err : goal.returns-then-list-from-clause-err
returns-then-list-from-clause-err c = λ bytes sram sdram h.
    bad_args c.args.params bytes _ _ _ sram sdram h c.in-Some.ensures.line c.in-Some.ensures.one (λ args spells number.
    c.if-list-from.true (ap length c.list.ensures.words ∙ (ap length (args_one _ _ _ c.in-Some-args_of.ensures.some spells) ∙ (number ∙ sym c.from.ensures))))

pub returns-clause-ok : goal.returns-clause-ok
returns-clause-ok c = λ bytes sram sdram h.
    has_two c.args.params sram sdram bytes _ _ _ _ h c.in-Some.ensures.line c.in-Some-args_of.ensures.some
    (sym (ap length c.list.ensures.words) ∙ (c.if-list-from.false ∙ c.from.ensures))
