use Rattle.std.proofs.Common.{◌≡◌, rules, Some}
use Rattle.nova_middle.specs.Rules.{value_rule, operand_rule, nothing_rule}
use Rattle.nova_middle.proofs.Rest.{three, labels_at_rest}
use Rattle.nova_middle.proofs.Sound.{value_sound, operand_sound, nothing_sound}
use Rattle.nova_middle.proofs.rules.simplified.Goals as goal
use Rattle.flow_ir.proofs.Results.{if_ok_both}

pub new-values-requires-clause-sound : goal.new-values-requires-clause-sound
new-values-requires-clause-sound c = λ p q count h. value_sound p q count (let e : value_rule p ≡ Some q = search rules in e)

pub new-operands-requires-clause-sound : goal.new-operands-requires-clause-sound
new-operands-requires-clause-sound c = λ p q count h. operand_sound p q (let e : operand_rule p ≡ Some q = search rules in e)

pub new-nothings-requires-clause-sound : goal.new-nothings-requires-clause-sound
new-nothings-requires-clause-sound c = λ p q count h. nothing_sound p q (let e : nothing_rule p ≡ Some q = search rules in e)

pub returns-clause-rules : goal.returns-clause-rules
returns-clause-rules c =
    if_ok_both c.simplify.result _ _ _
    (λ g simple tidy. labels_at_rest _ _ _ simple tidy (three _ _ _ (λ p a h. let e : a ≡ value_rule p = search rules in e) (λ p a h. let e : a ≡ operand_rule p = search rules in e) (λ p a h. let e : a ≡ nothing_rule p = search rules in e)))
    c.simplify.ensures.simplified c.simplify.ensures.tidy
