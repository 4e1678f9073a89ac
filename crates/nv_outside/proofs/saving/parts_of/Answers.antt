use Rattle.nv_outside.proofs.Beside.{in-split, in-none}
use Rattle.nv_outside.proofs.saving.parts_of.Goals as goal

pub returns-in-Some : goal.returns-in-Some
returns-in-Some c =
    let parts = c.in-Some.parts in
    let h = c.in-Some.ensures.cases in
    in-split c.args.path.now parts.0.now parts.1.now h.0 h.1 h.2 h.3 h.4

pub returns-in-None : goal.returns-in-None
returns-in-None c = in-none c.args.path.now c.in-None.ensures.cases
