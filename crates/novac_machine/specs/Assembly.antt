-- What the commands for assembly texts do, and why they refuse.
use Rattle.std.specs.Prelude.{◌≡◌, ℕ, List, [], ◌∷◌, codes, length}
use Rattle.uc_asm.specs.Labels.{IsCodeOf, IsLabelError, IsUnlawfulError}
use Rattle.uc_asm.specs.Starts.{object_listing}
use Rattle.uc_asm.specs.Text.{IsSyntaxError}
use Rattle.uc_isa.specs.Code.{CodeView}
use Rattle.uc_object.specs.Object.{IsCodeObject, IsObject}
use Rattle.uc_object.specs.declared.object.Object.{Object}
use Rattle.novac_words.specs.Lines.{counted}
use Rattle.novac_machine.specs.Saving.{File, file}
use Rattle.novac_words.specs.declared.status.Status.{Status}
use Rattle.novac_words.specs.declared.status.Status.TheVariants.{Done}
use Rattle.novac_words.specs.declared.refusal.Refusal.{Refusal}
use Rattle.novac_words.specs.declared.refusal.Refusal.TheVariants.{Syntax, Label, UnlawfulLine}

-- the text isn't of its form, or has a label declared twice or nowhere, or an instruction that breaks a rule
abbrev pub AsmRefuses : List ℕ → Refusal → Type 0
AsmRefuses text (Syntax n) = IsSyntaxError text n
AsmRefuses text (Label n) = IsLabelError text n
AsmRefuses text (UnlawfulLine n rule) = IsUnlawfulError text n rule
AsmRefuses text _ = ⊥

-- the text is that of some lawful code
pub record HasAssembly (text : List ℕ) : Type 0 where
  pub c : CodeView
  pub code : IsCodeOf text c

-- the object is that of the text's code alone, which has so many instructions
pub record IsAssembledTo (text object : List ℕ) (instructions : ℕ) : Type 0 where
  pub c : CodeView
  pub code : IsCodeOf text c
  pub encoded : IsCodeObject object c
  pub number : instructions ≡ length c.list

-- what `asm` makes of a text: the object of its code, whose length is told
pub record AsmMakes (text object_name : List ℕ) (status : Status) (files : List File) (line : List ℕ) : Type 0 where
  pub object : List ℕ
  pub instructions : ℕ
  pub assembled : IsAssembledTo text object instructions
  pub done : status ≡ Done
  pub saves : files ≡ file object_name object ∷ []
  pub told : line ≡ counted (codes "assembled ") instructions

-- the bytes are an object, whose listing is printed
pub record IsListed (bytes : List ℕ) (status : Status) (text : List ℕ) : Type 0 where
  pub o : Object
  pub object : IsObject bytes o
  pub done : status ≡ Done
  pub prints : text ≡ object_listing o
