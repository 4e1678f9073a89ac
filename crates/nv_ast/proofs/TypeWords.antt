-- The words and bools of types in a list.
use Rattle.std.proofs.Common.{◌≡◌, refl, ap, ℕ, zero, suc, ◌+◌, ◌||◌, arith}
use Rattle.nv_ast.specs.Types.{NamedTys, no_named_tys, named_ty_and, has_bool, some_bool, some_named_bool, words, total_words, total_named_words, word_parts}
use Rattle.nv_ast.specs.Scope.{plain_tys}

pub plain_bool : (ts : NamedTys) → some_bool (plain_tys ts) ≡ some_named_bool ts
plain_bool no_named_tys = refl
plain_bool (named_ty_and x t ts) = ap (λ b. has_bool t || b) (plain_bool ts)

pub plain_words : (ts : NamedTys) → total_words (plain_tys ts) ≡ total_named_words ts
plain_words no_named_tys = refl
plain_words (named_ty_and x t ts) = ap (λ n. words t + n) (plain_words ts)

-- n words
pub parts_words : (n : ℕ) → total_words (word_parts n) ≡ n
parts_words zero = refl
parts_words (suc n) = omega (arith, parts_words n)
