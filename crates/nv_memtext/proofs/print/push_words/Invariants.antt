use Rattle.std.proofs.Common.{◌≡◌, ◌++◌, ◌∷◌, take}
use Rattle.std.specs.List.{flat_map}
use Rattle.nv_lines.specs.Number.{hex_word}
use Rattle.nv_memtext.proofs.print.push_words.Given as goal

abbrev pub invariant-loop-word : goal.invariant-loop-word
invariant-loop-word l = l.out.items ≡ l.initial.out.items ++ flat_map (λ w. 32 ∷ hex_word w) (take l.word-index l.words)
