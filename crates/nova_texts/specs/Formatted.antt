-- What `fmt` saves.
use Rattle.std.specs.Prelude.{◌≡◌, ℕ, List, Some}
use Rattle.nv_outside.specs.Holding.{Holding}
use Rattle.nova_fmt.specs.Same.{IsFormatted}
use Rattle.nova_show.specs.Paths.{system_path}
use Rattle.nova_show.specs.Saving.{name_of}
use Rattle.nova_show.specs.declared.saving.Saving.{Saving}

-- what is held under the name, formatted
abbrev pub IsFormattedFile : Holding → Saving → Type 0
IsFormattedFile held s = (text : List ℕ) × (held (system_path (name_of s)) ≡ Some text) × IsFormatted text s.bytes.items
