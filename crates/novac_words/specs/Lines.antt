-- The lines that say how a run of the program ended. Each ends with a line feed (10).
use Rattle.std.specs.Prelude.{ℕ, List, [], ◌∷◌, ◌++◌, codes, decimal}
use Rattle.nv_ast.specs.declared.token.Span.{Span}
use Rattle.zo_cert.specs.declared.report.Verdict.{Verdict}
use Rattle.zo_cert.specs.declared.report.Verdict.TheVariants as verdict
use Rattle.novac_words.specs.declared.status.Status.{Status}
use Rattle.novac_words.specs.declared.status.Status.TheVariants as status
use Rattle.novac_words.specs.declared.refusal.Refusal.{Refusal}
use Rattle.novac_words.specs.declared.refusal.Refusal.TheVariants.{NoMemory, ReadFault, TooLarge, SourceChar, SourceNumber, SourceName, SourceSyntax, SourceDeep, SourceType, SourceLarge, Syntax, Label, BadObject, BadMemoryText, BadReport, FalseReport, Unlawful, UnlawfulLine, StoreFull, BadWeights, BadSchedule, TraceParams, TraceWrite}

-- a text and a name
abbrev pub named : List ℕ → List ℕ → List ℕ
named text name = text ++ name ++ 10 ∷ []

-- a text and a number
abbrev pub counted : List ℕ → ℕ → List ℕ
counted text n = text ++ decimal n ++ 10 ∷ []

-- a text, a number and the number of a rule
abbrev pub ruled : List ℕ → ℕ → ℕ → List ℕ
ruled text n rule = text ++ decimal n ++ codes " rule " ++ decimal rule ++ 10 ∷ []

-- the kind of a fault of types, its first byte and the byte after its last one
abbrev pub type_text : ℕ → Span → List ℕ
type_text kind place = codes "type " ++ decimal kind ++ codes " at " ++ decimal place.first ++ codes " " ++ decimal place.after ++ 10 ∷ []

-- what a search found
abbrev pub verdict_name : Verdict → List ℕ
verdict_name verdict.Optimal = codes "optimal"
verdict_name verdict.Feasible = codes "feasible"
verdict_name verdict.Infeasible = codes "infeasible"
verdict_name verdict.Spent = codes "spent"

-- the number of instructions of a source's code, and the verdict on its banks with the cost
abbrev pub compiled_text : ℕ → Verdict → ℕ → List ℕ
compiled_text instructions found cost = codes "compiled " ++ decimal instructions ++ 32 ∷ verdict_name found ++ 32 ∷ decimal cost ++ 10 ∷ []

-- how many instructions code had, and how many it has without the needless ones
abbrev pub peeped_text : ℕ → ℕ → List ℕ
peeped_text before after = codes "peeped " ++ decimal before ++ 32 ∷ decimal after ++ 10 ∷ []

-- how many parameters code has, and how many words main of a source takes
abbrev pub trace_params_text : ℕ → ℕ → List ℕ
trace_params_text code main = codes "trace params " ++ decimal code ++ 32 ∷ decimal main ++ 10 ∷ []

-- where no choice of banks meets the rows, or none was found with so many branches
abbrev pub infeasible_text : List ℕ
infeasible_text = codes "infeasible" ++ 10 ∷ []

abbrev pub spent_text : ℕ → List ℕ
spent_text budget = counted (codes "budget ") budget

-- where the words are no command
abbrev pub usage_text : List ℕ
usage_text = codes "usage" ++ 10 ∷ []

-- where the file with this name couldn't be read, or written
abbrev pub cannot_read : List ℕ → List ℕ
cannot_read name = named (codes "cannot read ") name

abbrev pub cannot_write : List ℕ → List ℕ
cannot_write name = named (codes "cannot write ") name

-- why a command isn't done; memory exhaustion prints nothing
abbrev pub refusal_text : Refusal → List ℕ
refusal_text NoMemory = []
refusal_text (ReadFault name) = cannot_read name.now
refusal_text (TooLarge n) = counted (codes "too large ") n
refusal_text (SourceChar at) = counted (codes "syntax char at ") at
refusal_text (SourceNumber at) = counted (codes "syntax number at ") at
refusal_text (SourceName at) = counted (codes "syntax name at ") at
refusal_text (SourceSyntax at) = counted (codes "syntax syntax at ") at
refusal_text (SourceDeep at) = counted (codes "syntax deep at ") at
refusal_text (SourceType kind place) = type_text kind place
refusal_text (SourceLarge size) = counted (codes "too large ") size
refusal_text (Syntax n) = counted (codes "syntax text line ") n
refusal_text (Label n) = counted (codes "syntax label line ") n
refusal_text (BadObject n) = counted (codes "object ") n
refusal_text (BadMemoryText n) = counted (codes "memory line ") n
refusal_text (BadReport n) = counted (codes "report line ") n
refusal_text FalseReport = codes "report refused" ++ 10 ∷ []
refusal_text (Unlawful place rule) = ruled (codes "unlawful place ") place rule
refusal_text (UnlawfulLine n rule) = ruled (codes "unlawful line ") n rule
refusal_text (StoreFull n) = counted (codes "store ") n
refusal_text (BadWeights n) = counted (codes "weights line ") n
refusal_text (BadSchedule n) = counted (codes "schedule line ") n
refusal_text (TraceParams code main) = trace_params_text code main
refusal_text (TraceWrite n) = counted (codes "trace write ") n

-- the status of a command that isn't done
abbrev pub refusal_status : Refusal → Status
refusal_status NoMemory = status.NoMemory
refusal_status (ReadFault name) = status.ReadFault
refusal_status (TooLarge n) = status.TooLarge
refusal_status (SourceChar at) = status.Syntax
refusal_status (SourceNumber at) = status.Syntax
refusal_status (SourceName at) = status.Syntax
refusal_status (SourceSyntax at) = status.Syntax
refusal_status (SourceDeep at) = status.Syntax
refusal_status (SourceType kind place) = status.TypeFault
refusal_status (SourceLarge size) = status.TooLarge
refusal_status (Syntax n) = status.Syntax
refusal_status (Label n) = status.Syntax
refusal_status (BadObject n) = status.BadObject
refusal_status (BadMemoryText n) = status.BadMemoryText
refusal_status (BadReport n) = status.CertificateRefused
refusal_status FalseReport = status.CertificateRefused
refusal_status (Unlawful place rule) = status.Unlawful
refusal_status (UnlawfulLine n rule) = status.Unlawful
refusal_status (StoreFull n) = status.StoreFull
refusal_status (BadWeights n) = status.BadWeights
refusal_status (BadSchedule n) = status.BadSchedule
refusal_status (TraceParams code main) = status.Disagrees
refusal_status (TraceWrite n) = status.Disagrees

-- memory ran out, which has no cause that is told
abbrev pub IsUncaused : Refusal → Type 0
IsUncaused NoMemory = Unit {0}
IsUncaused _ = ⊥
