use Rattle.std.proofs.Common.{◌≡◌}
use Rattle.nova_words.specs.Limits.{HaveNoHelp}
use Rattle.nova_words.specs.Values.{AsksNone}
use Rattle.nova_words.proofs.parts.Parts.of.Given as goal

abbrev pub invariant-loop-word : goal.invariant-loop-word
invariant-loop-word l = (l.parts.verb ≡ l.verb) × (HaveNoHelp l.words → AsksNone l.parts)
