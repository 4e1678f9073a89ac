use Rattle.std.proofs.Common.{◌≡◌, true, []}
use Rattle.std.specs.Prelude.{All}
use Rattle.nova_texts.specs.Formatted.{IsFormattedFile}
use Rattle.nova_texts.proofs.format.format_sources.Given as goal

abbrev pub invariant-loop-name : goal.invariant-loop-name
invariant-loop-name g l = record {
  held : g.F.Files.held l.files ≡ g.F.Files.held l.fn.files;
  none : l.fn.words.is_check ≡ true → l.savings.items ≡ [];
  formatted : g.F.Files.tells → All (IsFormattedFile (g.F.Files.held l.fn.files)) l.savings.items;
}
