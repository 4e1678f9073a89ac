use Rattle.std.proofs.Common.{◌≡◌, ◌++◌, drop}
use Rattle.nova_fmt.specs.Formatting.{formatted_from, formatted_text}
use Rattle.nova_fmt.proofs.formatter.formatted_tokens.Given as goal

abbrev pub invariant-loop-token : goal.invariant-loop-token
invariant-loop-token l = l.out.items ++ formatted_from l.text l.place.last l.place.level l.place.brackets.items l.place.at (drop l.token-index l.tokens) ≡ formatted_text l.text l.tokens
