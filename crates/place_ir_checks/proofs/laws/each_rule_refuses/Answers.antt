use Rattle.std.proofs.Common.{refl}
use Rattle.std.proofs.lemmas.Bool.{false≢true}
use Rattle.place_ir_checks.proofs.Decided.{fits-to}
use Rattle.place_ir_checks.proofs.laws.each_rule_refuses.Goals as goal

pub returns-clause-few_slots : goal.returns-clause-few_slots
returns-clause-few_slots c = λ f. false≢true (fits-to _ _ refl f)

pub returns-clause-many_slots : goal.returns-clause-many_slots
returns-clause-many_slots c = λ f. false≢true (fits-to _ _ refl f)

pub returns-clause-no_pass : goal.returns-clause-no_pass
returns-clause-no_pass c = λ f. false≢true (fits-to _ _ refl f)

pub returns-clause-other_pass : goal.returns-clause-other_pass
returns-clause-other_pass c = λ f. false≢true (fits-to _ _ refl f)

pub returns-clause-pass_past : goal.returns-clause-pass_past
returns-clause-pass_past c = λ f. false≢true (fits-to _ _ refl f)

pub returns-clause-one_register : goal.returns-clause-one_register
returns-clause-one_register c = λ f. false≢true (fits-to _ _ refl f)

pub returns-clause-one_bank : goal.returns-clause-one_bank
returns-clause-one_bank c = λ f. false≢true (fits-to _ _ refl f)

pub returns-clause-own_register : goal.returns-clause-own_register
returns-clause-own_register c = λ f. false≢true (fits-to _ _ refl f)

pub returns-clause-read_register : goal.returns-clause-read_register
returns-clause-read_register c = λ f. false≢true (fits-to _ _ refl f)

pub returns-clause-no_home : goal.returns-clause-no_home
returns-clause-no_home c = λ f. false≢true (fits-to _ _ refl f)

pub returns-clause-no_serve : goal.returns-clause-no_serve
returns-clause-no_serve c = λ f. false≢true (fits-to _ _ refl f)

pub returns-clause-other_home : goal.returns-clause-other_home
returns-clause-other_home c = λ f. false≢true (fits-to _ _ refl f)

pub returns-clause-no_first : goal.returns-clause-no_first
returns-clause-no_first c = λ f. false≢true (fits-to _ _ refl f)

pub returns-clause-run_past : goal.returns-clause-run_past
returns-clause-run_past c = λ f. false≢true (fits-to _ _ refl f)

pub returns-clause-not_put : goal.returns-clause-not_put
returns-clause-not_put c = λ f. false≢true (fits-to _ _ refl f)

pub returns-clause-word_moved : goal.returns-clause-word_moved
returns-clause-word_moved c = λ f. false≢true (fits-to _ _ refl f)

pub returns-clause-word_waits : goal.returns-clause-word_waits
returns-clause-word_waits c = λ f. false≢true (fits-to _ _ refl f)

pub returns-clause-value_stays : goal.returns-clause-value_stays
returns-clause-value_stays c = λ f. false≢true (fits-to _ _ refl f)
