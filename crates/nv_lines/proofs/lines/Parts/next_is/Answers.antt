use Rattle.std.specs.Cmp.Lexicographic.{told_text}
use Rattle.nv_lines.proofs.LineLemmas.{name_next}
use Rattle.nv_lines.proofs.lines.Parts.next_is.Goals as goal

pub returns-in-Some : goal.returns-in-Some
returns-in-Some c = name_next _ _ c.in-Some.part.now _ _ c.in-Some.ensures (told_text _ _ _ c.eq.ensures)
