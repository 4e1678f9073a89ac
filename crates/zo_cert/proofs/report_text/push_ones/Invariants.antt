use Rattle.std.proofs.Common.{◌≡◌, ◌++◌, ◌∷◌, take, codes, decimal}
use Rattle.std.specs.List.{flat_map}
use Rattle.zo_cert.specs.ReportText.{ones_from}
use Rattle.zo_cert.proofs.report_text.push_ones.Given as goal

abbrev pub invariant-loop-column : goal.invariant-loop-column
invariant-loop-column l = l.out.items ≡ (l.fn.out.items ++ codes "x") ++ flat_map (λ j. 32 ∷ decimal j) (ones_from 0 (take l.column l.on))
