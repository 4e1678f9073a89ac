use Rattle.std.proofs.Common.{MatchOption, take}
use Rattle.nova_words.specs.Values.{IsLastValue, IsNotGiven}
use Rattle.nova_words.proofs.parts.Parts.value.Given as goal

-- the last value so far
abbrev pub invariant-loop-given : goal.invariant-loop-given
invariant-loop-given l = let items = take l.given-index l.given-items in
    MatchOption l.last (IsNotGiven items l.setting) (λ value. IsLastValue items l.setting value.now)
