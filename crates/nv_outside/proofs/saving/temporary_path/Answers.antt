use Rattle.std.proofs.Common.{arith, ◌≡◌, ◌++◌, ℕ, List, codes, ap, ◌∙◌}
use Rattle.std.specs.Fmt.{decimal}
use Rattle.nv_outside.proofs.Beside.{beside-made}
use Rattle.nv_outside.proofs.saving.temporary_path.Goals as goal

pub returns-in-Ok-clause-beside : goal.returns-in-Ok-clause-beside
returns-in-Ok-clause-beside c =
    let folder = c.parts_of.result.0.now in
    let end = c.other_end-end.result.now in
    let path = c.write_path.new.path.bytes in
    let text : List ℕ = folder ++ (codes "/.novac-" ++ (decimal c.args.first ++ (codes "-" ++ (decimal c.args.number ++ (codes "." ++ end))))) in
    let at : path ≡ text = c.in-Ok.ensures ∙ ap (λ (b : List ℕ). b ++ text) c.new-path.ensures in
    beside-made c.args.name.now folder c.parts_of.result.1.now path c.args.first c.args.number end c.parts_of.ensures (omega arith) (omega arith) c.other_end-end.ensures.plain c.other_end-end.ensures.other at
