-- What the commands of the machine's side make of a short object.
use Rattle.std.specs.Prelude.{ℕ, List, [], ◌∷◌, ◌++◌, codes}
use Rattle.nv_lines.specs.Line.{text_of}
use Rattle.uc_isa.specs.Agrees.{Agrees, SourceMeaning}
use Rattle.uc_object.specs.Object.{code_of}
use Rattle.uc_object.specs.Worked.{sum_object}
use Rattle.uc_object.specs.declared.object.Object.{Object}
use Rattle.novac_words.specs.declared.refusal.Refusal.TheVariants.{BadObject}
use Rattle.novac_words.specs.declared.status.Status.TheVariants.{Done, StepsSpent}
use Rattle.novac_machine.specs.Assembly.{IsListed}
use Rattle.novac_machine.specs.Machine.{IsLinted, IsRun, IsBadObjectFor}
use Rattle.novac_machine.specs.Peeping.{IsWithoutNeedless}
use Rattle.novac_machine.specs.Scheduled.{IsScheduled}

-- the arguments 5 and 7
abbrev pub sum_memory : List ℕ
sum_memory = text_of (codes "memory 0 0" ∷ codes "args 00000005 00000007" ∷ [])

-- the object of the sum of two parameters has three instructions; its third step ends with 12. The empty file is no object
pub record SumCommands : Type 0 where
  pub lint : IsLinted sum_object Done (codes "lawful 3" ++ 10 ∷ [])
  pub run : IsRun sum_object sum_memory 3 Done (text_of (codes "ended 0000000c" ∷ codes "writes 0" ∷ codes "memory 0 0" ∷ []))
  pub going : IsRun sum_object sum_memory 2 StepsSpent (text_of (codes "going" ∷ codes "writes 0" ∷ codes "memory 0 0" ∷ []))
  pub dis : IsListed sum_object Done (text_of (codes "params 2" ∷ codes "un B0 COPY A1" ∷ codes "alu A0 ADD A0 B0" ∷ codes "halt 0 1" ∷ []))
  pub contexts : IsScheduled sum_object sum_memory (text_of (codes "contexts 1" ∷ codes "run 0 3" ∷ [])) Done (text_of (codes "context 0" ∷ codes "ended 0000000c" ∷ codes "writes 0" ∷ codes "disjoint" ∷ codes "memory 0 0" ∷ []))
  pub no_object : IsBadObjectFor [] (BadObject 0)

-- what `peep` saves does all that its object does
abbrev pub PeepKeeps : Type 0
PeepKeeps = (o q : Object) → IsWithoutNeedless o q → (params : ℕ) (source : SourceMeaning) → Agrees params source (code_of o) → Agrees params source (code_of q)
