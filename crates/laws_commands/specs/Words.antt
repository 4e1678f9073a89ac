-- Which commands some words are.
use Rattle.std.specs.Prelude.{◌≡◌, ℕ, List, [], ◌∷◌, Option, Some, None, codes, ⊤}
use Rattle.nv_outside.specs.Calls.{Load, Save}
use Rattle.nv_outside.specs.Holding.{Holding}
use Rattle.novac_words.specs.Command.{Command, Compile, Run, Asm, Dis, Gen, Peep, Counts, command_of, outputs_of}
use Rattle.novac_words.specs.Inputs.{input, inputs_of}
use Rattle.novac_words.specs.declared.refusal.Refusal.TheVariants.{TooLarge}
use Rattle.novac_commands.specs.Calling.{calls_of}
use Rattle.novac_commands.specs.Loading.{AreRead, IsUnread, StopsAt}

-- compile s o r, and these words
abbrev pub compile_with : List (List ℕ) → Option Command
compile_with options = command_of (codes "compile" ∷ codes "s" ∷ codes "o" ∷ codes "r" ∷ options)

-- the files are named once each, and options come in their order, each within its range
pub record CompileWords : Type 0 where
  pub plain : compile_with [] ≡ Some (Compile (codes "s") (codes "o") (codes "r") 128 2000 2048 None)
  pub some : compile_with (codes "slots=0" ∷ codes "store=9" ∷ []) ≡ Some (Compile (codes "s") (codes "o") (codes "r") 0 2000 9 None)
  pub all : compile_with (codes "slots=3" ∷ codes "budget=5" ∷ codes "store=9" ∷ codes "weights=w" ∷ []) ≡ Some (Compile (codes "s") (codes "o") (codes "r") 3 5 9 (Some (codes "w")))
  pub order : compile_with (codes "store=9" ∷ codes "slots=3" ∷ []) ≡ None
  pub twice : compile_with (codes "slots=3" ∷ codes "slots=3" ∷ []) ≡ None
  pub many : compile_with (codes "slots=129" ∷ []) ≡ None
  pub none : compile_with (codes "budget=0" ∷ []) ≡ None
  pub zeros : compile_with (codes "slots=03" ∷ []) ≡ None
  pub no_name : compile_with (codes "weights=" ∷ []) ≡ None
  pub same_file : compile_with (codes "weights=s" ∷ []) ≡ None
  pub same_output : command_of (codes "compile" ∷ codes "s" ∷ codes "o" ∷ codes "o" ∷ []) ≡ None
  pub options_as_names : command_of (codes "compile" ∷ codes "s" ∷ codes "o" ∷ codes "slots=3" ∷ []) ≡ Some (Compile (codes "s") (codes "o") (codes "slots=3") 128 2000 2048 None)

-- other commands; no words, a word too many and an empty name are none
pub record OtherWords : Type 0 where
  pub run : command_of (codes "run" ∷ codes "o" ∷ codes "m" ∷ codes "steps=100000000" ∷ []) ≡ Some (Run (codes "o") (codes "m") 100000000)
  pub no_step : command_of (codes "run" ∷ codes "o" ∷ codes "m" ∷ codes "steps=0" ∷ []) ≡ None
  pub no_steps : command_of (codes "run" ∷ codes "o" ∷ codes "m" ∷ []) ≡ None
  pub gen : command_of (codes "gen" ∷ codes "4294967295" ∷ codes "500" ∷ []) ≡ Some (Gen 4294967295 500)
  pub large : command_of (codes "gen" ∷ codes "0" ∷ codes "501" ∷ []) ≡ None
  pub dis : command_of (codes "dis" ∷ codes "o" ∷ []) ≡ Some (Dis (codes "o"))
  pub empty : command_of (codes "dis" ∷ [] ∷ []) ≡ None
  pub more : command_of (codes "dis" ∷ codes "o" ∷ codes "p" ∷ []) ≡ None
  pub nothing : command_of [] ≡ None
  pub capitals : command_of (codes "DIS" ∷ codes "o" ∷ []) ≡ None

-- what commands read, each at most so many bytes, and what they save
pub record FilesOfCommands : Type 0 where
  pub compile : inputs_of (Compile (codes "s") (codes "o") (codes "r") 128 2000 2048 (Some (codes "w"))) ≡ input (codes "s") 262144 ∷ input (codes "w") 16777216 ∷ []
  pub outputs : outputs_of (Compile (codes "s") (codes "o") (codes "r") 128 2000 2048 (Some (codes "w"))) ≡ codes "o" ∷ codes "r" ∷ []
  pub run : inputs_of (Run (codes "o") (codes "m") 1) ≡ input (codes "o") 17104847 ∷ input (codes "m") 4194304 ∷ []
  pub no_output : outputs_of (Run (codes "o") (codes "m") 1) ≡ []
  pub peep : outputs_of (Peep (codes "o") (codes "p")) ≡ codes "p" ∷ []
  pub counts : outputs_of (Counts (codes "s") (codes "m") (codes "w") 1) ≡ codes "w" ∷ []

-- each input is loaded, and then each output saved
pub record CallsOfCommands : Type 0 where
  pub asm : calls_of (Asm (codes "a") (codes "o")) ≡ Load (codes "a") ∷ Save (codes "o") ∷ []
  pub run : calls_of (Run (codes "o") (codes "m") 1) ≡ Load (codes "o") ∷ Load (codes "m") ∷ []

-- a store in which every file has two bytes
abbrev pub two_bytes : Holding
two_bytes name = Some (1 ∷ 2 ∷ [])

-- files of two bytes are read where each may have two; where the second may have one, reading stops there, and not at the first
pub record InputsAreRead : Type 0 where
  pub both : AreRead ⊤ two_bytes (input (codes "a") 2 ∷ input (codes "b") 2 ∷ []) ((1 ∷ 2 ∷ []) ∷ (1 ∷ 2 ∷ []) ∷ [])
  pub second : StopsAt ⊤ two_bytes (input (codes "a") 2 ∷ input (codes "b") 1 ∷ []) (IsUnread ⊤ two_bytes (λ _. ⊥) (TooLarge 1))
  pub not_first : StopsAt ⊤ two_bytes (input (codes "a") 2 ∷ input (codes "b") 1 ∷ []) (IsUnread ⊤ two_bytes (λ _. ⊥) (TooLarge 2)) → ⊥
