use Rattle.std.proofs.Common.{◌≡◌, ◌++◌, map, drop}
use Rattle.nv_lines.specs.Line.{text_of}
use Rattle.uc_asm.specs.Items.{item_line}
use Rattle.uc_asm.specs.Starts.{labelled, tagged_listing}
use Rattle.uc_asm.proofs.ListingLemmas.{FitBelow}
use Rattle.uc_asm.proofs.starts.print_tagged.Given as goal

-- what is written and the lines of the rest are the listing, and the numbers so far fit their fields
abbrev pub invariant-loop-place : goal.invariant-loop-place
invariant-loop-place l = (l.out.items ++ text_of (map item_line (labelled l.tagged.starts l.place (drop l.place l.list))) ≡ tagged_listing l.tagged) × FitBelow l.place l.list
