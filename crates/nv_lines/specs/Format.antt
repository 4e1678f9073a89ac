-- Formats of texts, and the first line that isn't of a format. A format says which lists of lines are whole texts, and
-- which begin one.
use Rattle.std.specs.Prelude.{◌≡◌, ℕ, ◌+◌, Bool, IsTrue, List, [], ◌∷◌, ◌++◌, length}
use Rattle.nv_lines.specs.Line.{Lacks, AllLack, text_of}

-- the bytes are a whole text of the format
pub record IsText (Whole : List (List ℕ) → Type 0) (bytes : List ℕ) : Type 0 where
  pub lines : List (List ℕ)
  pub spelled : bytes ≡ text_of lines
  pub whole : Whole lines

-- some whole text begins with these lines
pub record Begins (Whole : List (List ℕ) → Type 0) (front : List (List ℕ)) : Type 0 where
  pub more : List (List ℕ)
  pub whole : Whole (front ++ more)

-- whole texts begin one, fewer lines do where more do, and no line has a line feed in it
pub record IsFormat (Front Whole : List (List ℕ) → Type 0) : Type 0 where
  pub whole : (ls : List (List ℕ)) → Whole ls → Front ls
  pub fewer : (ls more : List (List ℕ)) → Front (ls ++ more) → Front ls
  pub lack : (ls : List (List ℕ)) → Front ls → AllLack 10 ls

-- Line n, counted from 1, is the first that isn't of the format: the lines before it begin a text, and with it they
-- don't; or the bytes end before its line feed, and are no whole text.
pub data FirstFault (Front Whole : List (List ℕ) → Type 0) (bytes : List ℕ) : ℕ → Type 0 where
  wrong : (front : List (List ℕ)) (line back : List ℕ) → bytes ≡ text_of front ++ (line ++ 10 ∷ back) → Lacks 10 line → Front front → ¬ Front (front ++ line ∷ []) → FirstFault Front Whole bytes (length front + 1)
  short : (front : List (List ℕ)) (last : List ℕ) → bytes ≡ text_of front ++ last → Lacks 10 last → Front front → ¬ IsText Whole bytes → FirstFault Front Whole bytes (length front + 1)

-- the format of the texts that pass a test
abbrev pub PassesLines : (List (List ℕ) → Bool) → List (List ℕ) → Type 0
PassesLines test ls = IsTrue (test ls)
