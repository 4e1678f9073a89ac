-- The paths of temporary files.
use Rattle.std.proofs.Common.{arith, ◌≡◌, ◌≢◌, ◌++◌, ◌∷◌, [], ◌<◌, ◌^◌, inl, inr, ℕ, List, take, drop, All, Some, None, codes, refl, sym, ap, ◌∙◌, append_assoc, take-append-drop}
use Rattle.std.specs.Path.{slash, cur_dir}
use Rattle.std.specs.Fmt.{decimal}
use Rattle.std.specs.Str.Pattern.{RFindsChar}
use Rattle.std.specs.Str.Parse.{AllDigits, digits_value}
use Rattle.std.proofs.lemmas.Fmt.{digits_decimal}
use Rattle.std.proofs.lemmas.List.Elements.{All-append, All-cons, All-same, All-from_get_or, All-from_recursion}
use Rattle.std.proofs.lemmas.Str.Parse.{IsNumeralModel, numerals_by_value, tells_digits, not_in_digits}
use Rattle.std.proofs.lemmas.Str.Pattern.{NoCharPasses-char, drop_at_char}
use Rattle.nv_outside.specs.Steps.{IsIn, IsBeside}

-- a byte that is no slash
abbrev pub IsPlain : ℕ → Type 0
IsPlain byte = byte ≢ slash

numeral : IsNumeralModel (AllDigits 10) (digits_value 10)
numeral = numerals_by_value (AllDigits 10) tells_digits

pub decimal-plain : (n : ℕ) → n < 2 ^ 64 → All IsPlain (decimal n)
decimal-plain n small = All-from_get_or IsPlain (decimal n) 0 (not_in_digits numeral (decimal n) 47 (digits_decimal numeral n small) (λ range. omega (arith, range.0)))

-- where `rsplit_once` splits at the last slash
pub in-split : (path front back : List ℕ) (i j : ℕ) → RFindsChar 47 path (Some (i, j)) → front ≡ take i path → back ≡ drop j path → IsIn front back path
in-split path front back i j found at rest = (
  All-same IsPlain back (drop j path) rest (All-from_get_or IsPlain (drop j path) 0 (λ k in'. NoCharPasses-char 47 (drop j path) k found.0 (omega arith) in')),
  inl (rw (at, rest) (sym (take-append-drop i path) ∙ ap (λ (l : List ℕ). take i path ++ l) (drop_at_char 47 path i j found.1 (omega arith)))),
)

pub in-none : (path : List ℕ) → RFindsChar 47 path None → IsIn cur_dir path path
in-none path none = (All-from_get_or IsPlain path 0 (λ k in'. NoCharPasses-char 47 path k none (omega arith) in'), inr (refl, refl))

-- a path that is made of a folder, two numbers and an end which the name doesn't have
pub beside-made : (name folder own path : List ℕ) (first number : ℕ) (end : List ℕ) → IsIn folder own name → first < 2 ^ 64 → number < 2 ^ 64 → All IsPlain end → ((front : List ℕ) → own ≢ front ++ end)
    → path ≡ folder ++ (codes "/.novac-" ++ (decimal first ++ (codes "-" ++ (decimal number ++ (codes "." ++ end))))) → IsBeside name path
beside-made name folder own path first number end within small few plain other at =
    let prefix : List ℕ = 46 ∷ 110 ∷ 111 ∷ 118 ∷ 97 ∷ 99 ∷ 45 ∷ [] in
    let dashed : List ℕ = (45 ∷ []) ++ (decimal number ++ ((46 ∷ []) ++ end)) in
    let dotted : List ℕ = (46 ∷ []) ++ end in
    let plain-prefix : All IsPlain prefix = All-from_recursion IsPlain prefix ((λ e. omega arith), ((λ e. omega arith), ((λ e. omega arith), ((λ e. omega arith), ((λ e. omega arith), ((λ e. omega arith), ((λ e. omega arith), tt))))))) in
    let plain-dotted : All IsPlain dotted = All-cons IsPlain 46 end (λ e. omega arith) plain in
    let plain-number = All-append IsPlain (decimal number) dotted (decimal-plain number few) plain-dotted in
    let plain-dashed : All IsPlain dashed = All-cons IsPlain 45 (decimal number ++ dotted) (λ e. omega arith) plain-number in
    let plain-first = All-append IsPlain (decimal first) dashed (decimal-plain first small) plain-dashed in
    let last : List ℕ = 45 ∷ (decimal number ++ 46 ∷ []) in
    let whole : decimal first ++ dashed ≡ (decimal first ++ last) ++ end = ap (λ (l : List ℕ). decimal first ++ 45 ∷ l) (sym (append_assoc (decimal number) (46 ∷ []) end)) ∙ sym (append_assoc (decimal first) last end) in (
      folder,
      own,
      prefix ++ (decimal first ++ dashed),
      within,
      (All-append IsPlain prefix (decimal first ++ dashed) plain-prefix plain-first, inl at),
      λ e. other (prefix ++ (decimal first ++ last)) (e ∙ ap (λ (l : List ℕ). prefix ++ l) whole),
    )
