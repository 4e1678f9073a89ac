use Rattle.std.proofs.Common.{List, length, refl, codes, ap, ◌∙◌, subst}
use Rattle.uc_isa.specs.Code.{CodeView}
use Rattle.uc_isa.specs.Lawful.{IsLawful}
use Rattle.uc_isa.specs.declared.instruction.Instr.{Instr}
use Rattle.novac_words.specs.Lines.{counted}
use Rattle.novac_machine.proofs.lint.lint_bytes.Goals as goal

pub returns-clause-ended : goal.returns-clause-ended
returns-clause-ended c = record {
  o = c.in_ok-object.object;
  object = c.in_ok-object.ensures.object;
  lawful = subst (λ (x : CodeView). IsLawful x.list) c.code-code.ensures c.in_ok-check_lawful.ensures.lawful;
  done = refl;
  line = c.in_ok-text.ensures ∙ ap (λ (l : List Instr). counted (codes "lawful ") (length l)) (c.list.ensures.list ∙ ap (λ (x : CodeView). x.list) c.code-code.ensures);
}
