-- The head of a message: lines, of which one may tell the length of the content, and then a blank line.
use Rattle.std.specs.Prelude.{◌≡◌, ℕ, ◌-◌, ◌^◌, ◌==◌, ◌&&◌, Bool, true, false, not, if◌then◌else◌, nat_lt, nat_le, Option, Some, None, List, [], ◌∷◌, ◌++◌, length, take, drop, codes, fold}
use Rattle.std.specs.Option.{option_or}
use Rattle.std.specs.Char.{digit_value, is_ascii_whitespace}
use Rattle.std.specs.Str.{str_eq_ignore_ascii_case}
use Rattle.std.specs.Str.Parse.{digits_value}
use Rattle.std.specs.List.{list_all, prefix_len, suffix_len}
use Rattle.nv_lines.specs.Line.{Lacks, AllLack, text_of}

-- nothing stands on a line, or only the carriage return (13) of its end
abbrev pub is_blank : List ℕ → Bool
is_blank [] = true
is_blank (b ∷ []) = b == 13
is_blank (b ∷ c ∷ bs) = false

-- without the white space at the beginning, and at the end
abbrev pub without_front : List ℕ → List ℕ
without_front bs = drop (prefix_len is_ascii_whitespace bs) bs

abbrev pub without_back : List ℕ → List ℕ
without_back bs = take (length bs - suffix_len is_ascii_whitespace bs) bs

-- each is a decimal digit
abbrev pub are_digits : List ℕ → Bool
are_digits ds = list_all (λ d. nat_lt (digit_value d) 10) ds

-- the number below 2^64 that decimal digits write
abbrev pub number_in : List ℕ → Option ℕ
number_in ds = if nat_lt 0 (length ds) && (are_digits ds && nat_lt (digits_value 10 ds) (2 ^ 64)) then Some (digits_value 10 ds) else None

-- what stands before the first colon (58) of a line, or all of it, and what stands behind it
abbrev pub name_in : List ℕ → List ℕ
name_in [] = []
name_in (b ∷ bs) = if b == 58 then [] else b ∷ name_in bs

abbrev pub value_in : List ℕ → List ℕ
value_in [] = []
value_in (b ∷ bs) = if b == 58 then bs else value_in bs

-- a line of at most 64 bytes with the name `Content-Length`
abbrev pub is_length : List ℕ → Bool
is_length line = nat_le (length line) 64 && str_eq_ignore_ascii_case (name_in line) (codes "content-length")

-- the length that a line tells
abbrev pub length_in : List ℕ → Option ℕ
length_in line = if is_length line then number_in (without_back (without_front (value_in line))) else None

-- the last length that lines tell
abbrev pub last_length : List (List ℕ) → Option ℕ
last_length lines = fold (λ told line. option_or (length_in line) told) None lines

-- lines of a head before its blank one
pub record AreFilled (lines : List (List ℕ)) : Type 0 where
  pub lack : AllLack 10 lines
  pub filled : list_all (λ line. not (is_blank line)) lines ≡ true

-- a whole head, and the length that it tells
pub record IsHead (bytes : List ℕ) (told : Option ℕ) : Type 0 where
  pub lines : List (List ℕ)
  pub blank : List ℕ
  pub spelled : bytes ≡ text_of lines ++ (blank ++ 10 ∷ [])
  pub filled : AreFilled lines
  pub lacks : Lacks 10 blank
  pub ends : is_blank blank ≡ true
  pub says : told ≡ last_length lines
