use Rattle.std.proofs.Common.{◌≡◌, ℕ, length, ap, ◌∙◌, subst}
use Rattle.uc_isa.specs.Code.{CodeView}
use Rattle.uc_isa.specs.Lawful.{IsLawful}
use Rattle.uc_object.specs.Object.{code_of}
use Rattle.novac_words.specs.Lines.{peeped_text}
use Rattle.novac_machine.proofs.peep.peep_bytes.Goals as goal

pub shorter_object-requires : goal.shorter_object-requires
shorter_object-requires c = subst (λ (v : CodeView). IsLawful v.list) c.code-code.ensures c.in_ok-check_lawful.ensures.lawful

pub returns-clause-made : goal.returns-clause-made
returns-clause-made c =
    let before : length c.list.result.now ≡ length (code_of c.in_ok-object.object).list = ap length (c.list.ensures.list ∙ ap (λ (v : CodeView). v.list) c.code-code.ensures) in
    let after : length c.list-2.result.now ≡ length (code_of c.in_ok-shorter.shorter).list = ap length (c.list-2.ensures.list ∙ ap (λ (v : CodeView). v.list) c.code.ensures) in
    record {
      o = c.in_ok-object.object;
      object = c.in_ok-object.ensures.object;
      lawful = subst (λ (v : CodeView). IsLawful v.list) c.code-code.ensures c.in_ok-check_lawful.ensures.lawful;
      q = c.in_ok-shorter.shorter;
      peeped = c.in_ok-shorter.ensures;
      saved = c.in_ok-bytes.bytes.items;
      encoded = c.in_ok-bytes.ensures.object;
      done = c.in_ok-one.ensures.status;
      saves = c.in_ok-one.ensures.saves;
      told = c.in_ok-one.ensures.text ∙ c.in_ok-text.ensures ∙ ap (λ (n : ℕ). peeped_text n (length c.list-2.result.now)) before ∙ ap (λ (n : ℕ). peeped_text (length (code_of c.in_ok-object.object).list) n) after;
    }
