use Rattle.nv_lines.proofs.LineLemmas.{done_is}
use Rattle.nv_lines.proofs.lines.Parts.is_done.Goals as goal

pub returns : goal.returns
returns c = done_is c.self.inside.rest _ _ c.self.view_is c.is_none.ensures
