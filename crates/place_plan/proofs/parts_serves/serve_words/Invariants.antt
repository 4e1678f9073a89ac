use Rattle.std.proofs.Common.{◌≡◌, ◌+◌, ◌++◌, drop}
use Rattle.ssu_ir.specs.View.{labels_view}
use Rattle.place_plan.specs.inner.Parts.{number_of, names_of, word_serves}
use Rattle.place_plan.specs.inner.Targets.{target_role}
use Rattle.place_plan.proofs.parts_serves.serve_words.Given as goal

abbrev pub invariant-loop-i : goal.invariant-loop-i
invariant-loop-i l =
    l.serves.items ++ word_serves (labels_view l.s) (number_of l.given) (names_of l.given) l.point (l.operand + l.i) l.i (target_role l.target) (drop l.i l.xs)
    ≡ l.fn.serves.items ++ word_serves (labels_view l.s) (number_of l.given) (names_of l.given) l.point l.operand 0 (target_role l.target) l.xs
