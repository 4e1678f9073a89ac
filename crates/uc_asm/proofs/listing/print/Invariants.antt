use Rattle.std.proofs.Common.{◌≡◌, ◌++◌, map, drop}
use Rattle.nv_lines.specs.Line.{text_of}
use Rattle.uc_asm.specs.Items.{instruction_line}
use Rattle.uc_asm.specs.Text.{listing}
use Rattle.uc_asm.proofs.ListingLemmas.{FitBelow}
use Rattle.uc_asm.proofs.listing.print.Given as goal

-- what is written and the lines of the rest are the listing, and the numbers so far fit their fields
abbrev pub invariant-loop-i : goal.invariant-loop-i
invariant-loop-i l = (l.out.items ++ text_of (map instruction_line (drop l.i-index l.list)) ≡ listing l.code) × FitBelow l.i-index l.list
