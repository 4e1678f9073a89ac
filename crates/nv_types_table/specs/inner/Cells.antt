-- What a table knows of its cells.
use Rattle.std.specs.Prelude.{◌≡◌, ℕ, ◌+◌, ◌<◌, ◌==◌, min, max, Bool, true, false, ◌&&◌, ◌||◌, length, List, [], ◌∷◌, Some, slice_get, slice_index_or}
use Rattle.nv_types_table.specs.declared.table.Facts.{Facts}
use Rattle.nv_types_table.specs.declared.table.Cell.{Cell}
use Rattle.nv_types_table.specs.declared.table.Cell.TheVariants.{Word, Bool as BoolCell, NoParts, NoFields, Tuple, Record, Choice, Part, Field, Both}

-- the greatest number of a u64, at which sums stand still
abbrev pub most : ℕ
most = 18446744073709551615

-- a number that stands still at the greatest
abbrev pub still : ℕ → ℕ
still n = min n most

abbrev pub nothing : Facts
nothing = record { words = 0; height = 0; has_bool = false; words_alone = false }

abbrev pub fact_at : List Facts → ℕ → Facts
fact_at facts i = slice_index_or facts i nothing

-- of a tuple, a record or a choice of parts
abbrev pub over : Facts → Facts
over f = record { words = f.words; height = min (f.height + 1) most; has_bool = f.has_bool; words_alone = false }

-- of a list of one field
abbrev pub lone : Facts → Facts
lone f = record { words = f.words; height = f.height; has_bool = f.has_bool; words_alone = false }

-- of a list with one more in front, and of both of two lists
abbrev pub with_front : Bool → Facts → Facts → Facts
with_front is_word f rest = record { words = min (f.words + rest.words) most; height = max f.height rest.height; has_bool = f.has_bool || rest.has_bool; words_alone = is_word && rest.words_alone }

abbrev pub cell_facts : List Facts → Cell → Facts
cell_facts facts Word = record { words = 1; height = 1; has_bool = false; words_alone = false }
cell_facts facts BoolCell = record { words = 1; height = 1; has_bool = true; words_alone = false }
cell_facts facts NoParts = record { words = 0; height = 0; has_bool = false; words_alone = true }
cell_facts facts NoFields = nothing
cell_facts facts (Tuple parts) = over (fact_at facts parts)
cell_facts facts (Record fields) = over (fact_at facts fields)
cell_facts facts (Choice forms) = over (fact_at facts forms)
cell_facts facts (Part t rest) = with_front (t == 0) (fact_at facts t) (fact_at facts rest)
cell_facts facts (Field x t) = lone (fact_at facts t)
cell_facts facts (Both left right) = with_front false (fact_at facts left) (fact_at facts right)

-- the parts of a cell have lower numbers
abbrev pub AreBelow : ℕ → Cell → Type 0
AreBelow i Word = Unit {0}
AreBelow i BoolCell = Unit {0}
AreBelow i NoParts = Unit {0}
AreBelow i NoFields = Unit {0}
AreBelow i (Tuple parts) = parts < i
AreBelow i (Record fields) = fields < i
AreBelow i (Choice forms) = forms < i
AreBelow i (Part t rest) = (t < i) × (rest < i)
AreBelow i (Field x t) = t < i
AreBelow i (Both left right) = (left < i) × (right < i)

-- a table of cells with what is known of them
pub record IsTable (names : List (List ℕ)) (cells : List Cell) (facts : List Facts) : Type 0 where
  pub word : slice_get cells 0 ≡ Some Word
  pub bool : slice_get cells 1 ≡ Some BoolCell
  pub no_parts : slice_get cells 2 ≡ Some NoParts
  pub no_fields : slice_get cells 3 ≡ Some NoFields
  pub as_many : length facts ≡ length cells
  pub below : (i : ℕ) (c : Cell) → slice_get cells i ≡ Some c → AreBelow i c
  pub once : (i j : ℕ) (c : Cell) → slice_get cells i ≡ Some c → slice_get cells j ≡ Some c → i ≡ j
  pub one_name : (i j : ℕ) (x : List ℕ) → slice_get names i ≡ Some x → slice_get names j ≡ Some x → i ≡ j
  pub known : (i : ℕ) (c : Cell) → slice_get cells i ≡ Some c → slice_get facts i ≡ Some (cell_facts facts c)

-- the facts in a table's entries
abbrev pub facts_in : List (Cell × Facts) → List Facts
facts_in [] = []
facts_in (e ∷ es) = e.1 ∷ facts_in es
