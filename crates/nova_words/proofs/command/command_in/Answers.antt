use Rattle.std.proofs.Common.{rules, ◌≡◌, None}
use Rattle.nova_words.specs.declared.setting.Setting.TheVariants.{Help}
use Rattle.nova_words.proofs.Values.{no-last}
use Rattle.nova_words.proofs.command.command_in.Goals as goal

pub returns-then-is_some-clause-asks : goal.returns-then-is_some-clause-asks
returns-then-is_some-clause-asks c = λ none.
    let no : c.value.result ≡ None = no-last c.args.parts.now.given.items Help c.value.result none c.value.ensures.given in
    λ _. search rules
