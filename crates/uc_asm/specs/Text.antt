-- Assembly text: line 1 has the number of parameters, each other line a label or an instruction.
use Rattle.std.specs.Prelude.{◌≡◌, ℕ, ◌≤◌, List, [], ◌∷◌, map}
use Rattle.nv_lines.specs.Line.{text_of}
use Rattle.nv_lines.specs.Format.{Begins, FirstFault}
use Rattle.uc_isa.specs.Code.{CodeView}
use Rattle.uc_asm.specs.Items.{Item, IsItem, count, item_line, instruction_line, params_line}

-- names have their form, and numbers fit their fields
abbrev pub AreItems : List Item → Type 0
AreItems [] = Unit {0}
AreItems (item ∷ items) = IsItem item × AreItems items

-- the lines are those of a text, with an instruction at least
pub record IsAssembly (ls : List (List ℕ)) (params : ℕ) (items : List Item) : Type 0 where
  pub lines : ls ≡ params_line params ∷ map item_line items
  pub few : params ≤ 8
  pub each : AreItems items
  pub some : 1 ≤ count items

pub record IsWhole (ls : List (List ℕ)) : Type 0 where
  pub params : ℕ
  pub items : List Item
  pub assembly : IsAssembly ls params items

-- the bytes are a text with these items
pub record Reads (bytes : List ℕ) (params : ℕ) (items : List Item) : Type 0 where
  pub ls : List (List ℕ)
  pub spelled : bytes ≡ text_of ls
  pub assembly : IsAssembly ls params items

-- line n is the first that isn't of the format
abbrev pub IsSyntaxError : List ℕ → ℕ → Type 0
IsSyntaxError bytes n = FirstFault (Begins IsWhole) IsWhole bytes n

-- the text of a code: no labels, and every target a place
abbrev pub listing : CodeView → List ℕ
listing c = text_of (params_line c.params ∷ map instruction_line c.list)
