-- What the command for needless instructions does, and why it refuses.
use Rattle.std.specs.Prelude.{◌≡◌, ◌↔◌, ℕ, List, [], ◌∷◌, length, ⊤}
use Rattle.uc_isa.specs.Agrees.{Agrees, SourceMeaning}
use Rattle.uc_isa.specs.Lawful.{IsLawful}
use Rattle.uc_object.specs.Object.{IsObject, code_of}
use Rattle.uc_object.specs.declared.object.Object.{Object}
use Rattle.uc_object.specs.declared.object.Object.TheVariants.{One, Two}
use Rattle.uc_peep.specs.Becomes.{IsKept}
use Rattle.uc_peep.specs.Needless.{HasNoNeedless}
use Rattle.uc_peep.specs.Rewrites.{IsWithout}
use Rattle.novac_words.specs.Lines.{peeped_text}
use Rattle.novac_words.specs.declared.status.Status.{Status}
use Rattle.novac_words.specs.declared.status.Status.TheVariants.{Done}
use Rattle.novac_machine.specs.Saving.{File, file}

-- where an object's labels start; of version 1 it tells none
abbrev pub starts_of : Object → List ℕ
starts_of (One c) = []
starts_of (Two t) = t.starts

-- the objects are of one version, and tell the same exceptions
abbrev pub IsAlike : Object → Object → Type 0
IsAlike (One c) (One d) = ⊤
IsAlike (Two t) (Two u) = u.exceptions ≡ t.exceptions
IsAlike _ _ = ⊥

-- The second object is the first with other code and starts. That code is lawful and no longer, does what the first does with the same
-- visits of the starts, and its moves cost no more, whatever the labels weigh; it is code of the same sources. It is the first code
-- without some of its straight instructions, and with copies that test an operand in the place of some that compare it. At no window
-- of it does one of the six rules for needless instructions have an answer.
pub record IsWithoutNeedless (o q : Object) : Type 0 where
  pub alike : IsAlike o q
  pub params : (code_of q).params ≡ (code_of o).params
  pub lawful : IsLawful (code_of q).list
  pub agrees : (params : ℕ) (source : SourceMeaning) → Agrees params source (code_of o) ↔ Agrees params source (code_of q)
  pub kept : IsKept (code_of o).list (starts_of o) (code_of q).list (starts_of q)
  pub without : IsWithout (code_of o).list (code_of q).list
  pub settled : HasNoNeedless (code_of q).list (starts_of q)

-- the bytes are an object of lawful code, which is saved without its needless instructions, and both lengths are told
pub record PeepMakes (bytes name : List ℕ) (status : Status) (files : List File) (line : List ℕ) : Type 0 where
  pub o : Object
  pub object : IsObject bytes o
  pub lawful : IsLawful (code_of o).list
  pub q : Object
  pub peeped : IsWithoutNeedless o q
  pub saved : List ℕ
  pub encoded : IsObject saved q
  pub done : status ≡ Done
  pub saves : files ≡ file name saved ∷ []
  pub told : line ≡ peeped_text (length (code_of o).list) (length (code_of q).list)
