use Rattle.std.proofs.Common.{All, take}
use Rattle.nova_memory.specs.Tokens.{IsBlank}
use Rattle.nova_memory.proofs.token.word_of.Given as goal

-- no byte so far is a blank
abbrev pub invariant-loop-at : goal.invariant-loop-at
invariant-loop-at l = All (λ c. IsBlank c → ⊥) (take l.at l.rest)
