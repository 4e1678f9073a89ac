-- Texts of lines that each end with a line feed (10), and lines of parts that are parted by one space (32).
use Rattle.std.specs.Prelude.{ℕ, ◌≢◌, ◌==◌, List, [], ◌∷◌, ◌++◌}
use Rattle.std.specs.List.{flat_map, slice_split, join_with_byte}

-- no byte is c
abbrev pub Lacks : ℕ → List ℕ → Type 0
Lacks c [] = Unit {0}
Lacks c (b ∷ bs) = (b ≢ c) × Lacks c bs

-- none of these has the byte c
abbrev pub AllLack : ℕ → List (List ℕ) → Type 0
AllLack c [] = Unit {0}
AllLack c (x ∷ xs) = Lacks c x × AllLack c xs

-- the text of these lines, each with its line feed
abbrev pub text_of : List (List ℕ) → List ℕ
text_of ls = flat_map (λ l. l ++ 10 ∷ []) ls

-- the line of these parts, with one space between two
abbrev pub parted : List (List ℕ) → List ℕ
parted ps = join_with_byte 32 ps

-- the parts of a line: what stands between its spaces
abbrev pub parts : List ℕ → List (List ℕ)
parts line = slice_split (λ b. b == 32) line
