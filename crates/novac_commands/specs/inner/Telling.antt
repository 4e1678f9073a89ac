-- How a refusal of the front end is told.
use Rattle.std.specs.Prelude.{◌≡◌}
use Rattle.nv_text.specs.declared.error.TextError.{TextError}
use Rattle.nv_text.specs.declared.error.TextError.TheVariants as text
use Rattle.nova_compile.specs.declared.error.FrontError.{FrontError}
use Rattle.nova_compile.specs.declared.error.FrontError.TheVariants as front
use Rattle.novac_words.specs.declared.refusal.Refusal.{Refusal}
use Rattle.novac_words.specs.declared.refusal.Refusal.TheVariants as refusal

-- how a fault of a text is told
abbrev pub IsSpelledAs : TextError → Refusal → Type 0
IsSpelledAs text.NoMemory e = e ≡ refusal.NoMemory
IsSpelledAs (text.Char at) e = e ≡ refusal.SourceChar at
IsSpelledAs (text.Number at) e = e ≡ refusal.SourceNumber at
IsSpelledAs (text.Name at) e = e ≡ refusal.SourceName at
IsSpelledAs (text.Syntax at) e = e ≡ refusal.SourceSyntax at
IsSpelledAs (text.Deep at) e = e ≡ refusal.SourceDeep at

-- how a refusal of the front end is told
abbrev pub IsToldAs : FrontError → Refusal → Type 0
IsToldAs front.NoMemory e = e ≡ refusal.NoMemory
IsToldAs (front.Text f) e = IsSpelledAs f e
IsToldAs (front.Fault kind place) e = e ≡ refusal.SourceType kind place
IsToldAs (front.TooLarge size) e = e ≡ refusal.SourceLarge size
