use Rattle.std.proofs.Common.{◌∙◌, sym, ap}
use Rattle.nv_lines.specs.Line.{parts}
use Rattle.nv_lines.proofs.LineLemmas.{parts_at, parts_whole}
use Rattle.nv_lines.proofs.lines.Parts.next_part.Goals as goal

pub returns-in-Some : goal.returns-in-Some
returns-in-Some c =
    let e = rw c.in_ok-bytes.was at c.self.view_is in
    sym e ∙ ap parts c.in-Some.ensures.split ∙ parts_at _ _ c.in-Some.ensures.first

pub returns-in-None : goal.returns-in-None
returns-in-None c =
    let e = rw c.in_ok-bytes.was at c.self.view_is in
    sym e ∙ parts_whole _ c.in-None.ensures.none
