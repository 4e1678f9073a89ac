use Rattle.std.proofs.Common.{◌≢◌, All, take}
use Rattle.nova_words.specs.Limits.{name_of}
use Rattle.nova_words.proofs.verb.Verb.named.Given as goal

-- no verb so far has this name
abbrev pub invariant-loop-verb : goal.invariant-loop-verb
invariant-loop-verb l = All (λ verb. l.word ≢ name_of verb) (take l.verb-index l.verb-items)
