-- Why a source is refused, as the commands tell it.
use Rattle.std.specs.Prelude.{ℕ, List}
use Rattle.nv_text.specs.Program.{FaultOf}
use Rattle.nv_text.specs.declared.error.TextError.TheVariants.{Char, Number, Name, Syntax, Deep}
use Rattle.nova_compile.specs.Sources.{IsUntyped, IsLarge}
use Rattle.novac_words.specs.declared.refusal.Refusal.{Refusal}
use Rattle.novac_words.specs.declared.refusal.Refusal.TheVariants.{SourceChar, SourceNumber, SourceName, SourceSyntax, SourceDeep, SourceType, SourceLarge}

-- the text has a fault at this place, or its program has a fault of its types or is too large
abbrev pub SourceRefuses : List ℕ → Refusal → Type 0
SourceRefuses text (SourceChar at) = FaultOf text (Char at)
SourceRefuses text (SourceNumber at) = FaultOf text (Number at)
SourceRefuses text (SourceName at) = FaultOf text (Name at)
SourceRefuses text (SourceSyntax at) = FaultOf text (Syntax at)
SourceRefuses text (SourceDeep at) = FaultOf text (Deep at)
SourceRefuses text (SourceType kind place) = IsUntyped text kind place
SourceRefuses text (SourceLarge size) = IsLarge text size
SourceRefuses text _ = ⊥
