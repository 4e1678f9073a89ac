-- what the definition of a leaf's bound gives of small programs
use Rattle.std.specs.Prelude.{◌≡◌, ℕ, List, [], ◌∷◌, Bool, true, false, ℤ, pos, Option, Some, None}
use Rattle.zo_model.specs.Contents.{Contents, RowContents, contents}
use Rattle.zo_model.specs.declared.program.ZeroOne.{ZeroOne}
use Rattle.zo_cert_tree.specs.Certificate.{bound}

-- of two columns at least `least` are 1
abbrev pub at_least : ℤ → ℕ → ℕ → RowContents
at_least least i j = record { terms = (i, pos 1) ∷ (j, pos 1) ∷ []; least = least }

-- three columns of cost 1; of each two at least one is 1
abbrev pub cover : Contents
cover = record { costs = 1 ∷ 1 ∷ 1 ∷ []; rows = at_least (pos 1) 0 1 ∷ at_least (pos 1) 1 2 ∷ at_least (pos 1) 0 2 ∷ [] }

-- a column of cost 3 and one of cost 2; both are 1, and one more
abbrev pub three_of_two : Contents
three_of_two = record { costs = 3 ∷ 2 ∷ []; rows = at_least (pos 3) 0 1 ∷ [] }

-- no column is fixed
abbrev pub free_columns : List (Option Bool)
free_columns = None ∷ None ∷ None ∷ []

-- half of each row: 3 over 2, so each cover costs 2 at least
abbrev pub CoverBound : Type 0
CoverBound = (z : ZeroOne) → contents z ≡ cover → bound z 2 ((0, 1) ∷ (1, 1) ∷ (2, 1) ∷ []) free_columns ≡ pos 3

-- half of two rows: 2 over 2
abbrev pub ShortCoverBound : Type 0
ShortCoverBound = (z : ZeroOne) → contents z ≡ cover → bound z 2 ((0, 1) ∷ (1, 1) ∷ []) free_columns ≡ pos 2

-- without the first column both its rows ask for the other one
abbrev pub CoverBoundBelowZero : Type 0
CoverBoundBelowZero = (z : ZeroOne) → contents z ≡ cover → bound z 1 ((0, 1) ∷ (2, 1) ∷ []) (Some false ∷ None ∷ None ∷ []) ≡ pos 2

-- with the first column, which costs 1, the row of the two others asks for one more
abbrev pub CoverBoundBelowOne : Type 0
CoverBoundBelowOne = (z : ZeroOne) → contents z ≡ cover → bound z 1 ((1, 1) ∷ []) (Some true ∷ None ∷ None ∷ []) ≡ pos 2

-- a row that asks for more than all its columns: a clash, over 0
abbrev pub ClashOfOneRow : Type 0
ClashOfOneRow = (z : ZeroOne) → contents z ≡ three_of_two → bound z 0 ((0, 1) ∷ []) (None ∷ None ∷ []) ≡ pos 1
