-- A formatted text.
use Rattle.std.specs.Prelude.{ℕ, ◌+◌, ◌-◌, List, [], ◌∷◌, ◌++◌, length, take, drop, get_or, min, ◌==◌, if◌then◌else◌}
use Rattle.nv_ast.specs.declared.token.Token.{Token}
use Rattle.nova_fmt.specs.declared.kind.Kind.{Kind}
use Rattle.nova_fmt.specs.declared.kind.Kind.TheVariants.{Start}
use Rattle.nova_fmt.specs.Kinds.{kind_of, hangs, opens, closes}
use Rattle.nova_fmt.specs.Gaps.{lines, comments, begins_line, blanks}

-- For each open bracket, from the outermost on, there is the level of the line on which it stands. That of the innermost:
abbrev pub outer_level : List ℕ → ℕ
outer_level brackets = get_or brackets (length brackets - 1) 0

-- the level inside the innermost bracket; levels end at 100
abbrev pub inner_level : List ℕ → ℕ
inner_level brackets = if length brackets == 0 then 0 else min (outer_level brackets) 98 + 1

-- The level of a line that begins with a token: a closing bracket's is that of the line of its opening one. A line has
-- one level more where it goes on with what the line before it began.
abbrev pub line_level : List ℕ → Kind → Kind → ℕ
line_level brackets last next =
    if closes next then outer_level brackets else inner_level brackets + (if hangs last next then 1 else 0)

-- the open brackets after a token on a line of this level
abbrev pub brackets_after : List ℕ → ℕ → Kind → List ℕ
brackets_after brackets level next = if opens next then brackets ++ level ∷ [] else (if closes next then take (length brackets - 1) brackets else brackets)

-- the bytes from a place to another one
abbrev pub part : List ℕ → ℕ → ℕ → List ℕ
part text from to = take (to - from) (drop from text)

-- the level of the line on which a token after this gap stands
abbrev pub level_here : Kind → ℕ → List ℕ → List (List ℕ) → Kind → ℕ
level_here last level brackets gap next = if begins_line last gap then line_level brackets last next else level

-- a token as it is spelled, and before it what stands there
abbrev pub formatted_token : Kind → ℕ → List ℕ → List (List ℕ) → Kind → List ℕ → List ℕ
formatted_token last level brackets gap next word =
    comments last (inner_level brackets) gap
    ++ (blanks last next (begins_line last gap) (level_here last level brackets gap next) ++ word)

-- The text from a place on, where these tokens follow. Before it stand a token of a kind, on a line of a level, and open
-- brackets.
abbrev pub formatted_from : List ℕ → Kind → ℕ → List ℕ → ℕ → List Token → List ℕ
formatted_from text last level brackets at [] = comments last (inner_level brackets) (lines (drop at text))
formatted_from text last level brackets at (t ∷ ts) =
    let gap = lines (part text at t.span.first) in
    let next = kind_of t.sort in
    let here = level_here last level brackets gap next in
    formatted_token last level brackets gap next (part text t.span.first t.span.after)
    ++ formatted_from text next here (brackets_after brackets here next) t.span.after ts

-- a text with these tokens, formatted
abbrev pub formatted_text : List ℕ → List Token → List ℕ
formatted_text text ts = formatted_from text Start 0 [] 0 ts
