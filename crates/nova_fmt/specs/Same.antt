-- What formatting keeps: tokens with their spellings, and between two of them the ends of lines and the comments.
use Rattle.std.specs.Prelude.{◌≡◌, ℕ, List, [], ◌∷◌, map, drop}
use Rattle.nv_ast.specs.declared.token.Token.{Token}
use Rattle.nv_text.specs.Tokens.{IsTokens}
use Rattle.nova_fmt.specs.Gaps.{lines}
use Rattle.nova_fmt.specs.Formatting.{part, formatted_text}

-- how a token of a text is spelled
abbrev pub spelling : List ℕ → Token → List ℕ
spelling text t = part text t.span.first t.span.after

-- what stands before each of these tokens and after the last one: lines of which each is empty or a comment
abbrev pub contents : List ℕ → ℕ → List Token → List (List (List ℕ))
contents text at [] = lines (drop at text) ∷ []
contents text at (t ∷ ts) = lines (part text at t.span.first) ∷ contents text t.span.after ts

-- The second text has the tokens of the first one with their spellings, and the same comments and ends of lines between
-- them. Formatting changes it no more.
pub record IsFormatted (text out : List ℕ) : Type 0 where
  pub tokens : List Token
  pub others : List Token
  pub of_text : IsTokens text tokens
  pub of_out : IsTokens out others
  pub sorts : map (λ (t : Token). t.sort) tokens ≡ map (λ (t : Token). t.sort) others
  pub spellings : map (spelling text) tokens ≡ map (spelling out) others
  pub between : contents text 0 tokens ≡ contents out 0 others
  pub again : formatted_text out others ≡ out
