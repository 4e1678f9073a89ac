-- The tokens with which an expression may begin.
use Rattle.std.specs.Prelude.{Bool, true, false, List, [], ◌∷◌, ◌==◌}
use Rattle.std.specs.List.{list_any}
use Rattle.nv_ast.specs.declared.token.Token.{Token}
use Rattle.nv_ast.specs.declared.token.Sort.{Sort}
use Rattle.nv_ast.specs.declared.token.Sort.TheVariants.{Word, Number, Key, Sign}

-- the keywords let, if, unpack, pack, raise, try, sram, sdram, scratch, true and false, the signs ~ ! ( {, names and numbers
abbrev pub sort_starts : Sort → Bool
sort_starts (Word x) = true
sort_starts (Number n) = true
sort_starts (Key n) = list_any (λ k. k == n) (4 ∷ 5 ∷ 7 ∷ 8 ∷ 9 ∷ 10 ∷ 12 ∷ 13 ∷ 14 ∷ 20 ∷ 21 ∷ [])
sort_starts (Sign n) = list_any (λ k. k == n) (5 ∷ 17 ∷ 24 ∷ 26 ∷ [])

abbrev pub starts_expr : List Token → Bool
starts_expr [] = false
starts_expr (t ∷ ts) = sort_starts t.sort
