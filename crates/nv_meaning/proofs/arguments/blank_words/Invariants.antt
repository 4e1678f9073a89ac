use Rattle.std.proofs.Common.{◌≡◌, ◌-◌, ◌≤◌}
use Rattle.nv_ast.specs.Types.{word_parts}
use Rattle.nv_meaning.specs.inner.Blanks.{blanks}
use Rattle.nv_meaning_values.specs.inner.View.{list_values}
use Rattle.nv_meaning.proofs.arguments.blank_words.Given as goal

abbrev pub invariant-loop-done : goal.invariant-loop-done
invariant-loop-done l = (l.done ≤ l.n) × (list_values l.vs.items ≡ blanks (word_parts l.done))

abbrev pub decreases-loop-done : goal.decreases-loop-done
decreases-loop-done l = l.n - l.done
