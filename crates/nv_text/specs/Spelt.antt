-- How each keyword and each sign of the grammar is spelled.
use Rattle.std.specs.Prelude.{ℕ, List, [], ◌∷◌, codes}
use Rattle.nv_base.specs.declared.term.Mem.TheVariants.{Sram, Sdram, Scratch}
use Rattle.nv_ast.specs.declared.token.Span.{Span}
use Rattle.nv_ast.specs.declared.token.Token.{Token}
use Rattle.nv_ast.specs.declared.token.Sort.{Sort}
use Rattle.nv_ast.specs.declared.token.Sort.TheVariants.{Key, Sign}
use Rattle.nv_ast.specs.declared.tree.Op.TheVariants.{Add, Sub, And, Or, Xor, Eq, Ne, Lt, Le, Gt, Ge, Both, Either}
use Rattle.nv_ast.specs.declared.tree.ShiftOp.TheVariants.{Left, Right, Rotate}
use Rattle.nv_ast.specs.Tokens.{sign_of, shift_sign_of, mem_key}
use Rattle.nv_ast.specs.Tokens.{key_layout, key_exception, key_fun, key_and, key_let, key_if, key_else, key_unpack, key_pack, key_raise, key_try, key_handle, key_sram, key_sdram, key_scratch, key_word, key_bool, key_packed, key_unpacked, key_overlay, key_true, key_false, key_any}
use Rattle.nv_ast.specs.Tokens.{sign_bar, sign_tilde, sign_bang, sign_arrow, sign_is, sign_semicolon, sign_colon, sign_comma, sign_dot, sign_open, sign_close, sign_open_brace, sign_close_brace, sign_open_bracket, sign_close_bracket, sign_join}
use Rattle.nv_text.specs.Spelling.{Spells}

-- a token of the grammar, at whatever span, and its bytes
pub record Spelt : Type 0 where
  pub token : Span → Token
  pub bytes : List ℕ

-- a token by its sort
abbrev pub sorted : Sort → Span → Token
sorted k s = record { span = s; sort = k }

abbrev pub spelt : (Span → Token) → List ℕ → Spelt
spelt t bytes = record { token = t; bytes = bytes }

-- the bytes spell each of these tokens
abbrev pub AreSpelt : List Spelt → Type 0
AreSpelt [] = Unit {0}
AreSpelt (p ∷ ps) = ((s : Span) → Spells p.bytes (p.token s).sort) × AreSpelt ps

abbrev pub spelt_keywords : List Spelt
spelt_keywords =
    spelt key_layout (codes "layout") ∷ spelt key_exception (codes "exception") ∷ spelt key_fun (codes "fun") ∷ spelt key_and (codes "and") ∷ spelt key_let (codes "let")
    ∷ spelt key_if (codes "if") ∷ spelt key_else (codes "else") ∷ spelt key_unpack (codes "unpack") ∷ spelt key_pack (codes "pack") ∷ spelt key_raise (codes "raise")
    ∷ spelt key_try (codes "try") ∷ spelt key_handle (codes "handle") ∷ spelt key_sram (codes "sram") ∷ spelt key_sdram (codes "sdram") ∷ spelt key_scratch (codes "scratch")
    ∷ spelt key_word (codes "word") ∷ spelt key_bool (codes "bool") ∷ spelt key_packed (codes "packed") ∷ spelt key_unpacked (codes "unpacked") ∷ spelt key_overlay (codes "overlay")
    ∷ spelt key_true (codes "true") ∷ spelt key_false (codes "false") ∷ spelt key_any (codes "_") ∷ []

abbrev pub spelt_signs : List Spelt
spelt_signs =
    spelt sign_bar (codes "|") ∷ spelt sign_tilde (codes "~") ∷ spelt sign_bang (codes "!") ∷ spelt sign_arrow (codes "<-") ∷ spelt sign_is (codes "=") ∷ spelt sign_semicolon (codes ";")
    ∷ spelt sign_colon (codes ":") ∷ spelt sign_comma (codes ",") ∷ spelt sign_dot (codes ".") ∷ spelt sign_open (codes "(") ∷ spelt sign_close (codes ")") ∷ spelt sign_open_brace (codes "{")
    ∷ spelt sign_close_brace (codes "}") ∷ spelt sign_open_bracket (codes "[") ∷ spelt sign_close_bracket (codes "]") ∷ spelt sign_join (codes "##") ∷ []

-- the signs of operators and shifts, and the keywords of memories
abbrev pub spelt_operators : List Spelt
spelt_operators =
    spelt (sorted (Sign (sign_of Add))) (codes "+") ∷ spelt (sorted (Sign (sign_of Sub))) (codes "-") ∷ spelt (sorted (Sign (sign_of And))) (codes "&") ∷ spelt (sorted (Sign (sign_of Or))) (codes "|")
    ∷ spelt (sorted (Sign (sign_of Xor))) (codes "^") ∷ spelt (sorted (Sign (sign_of Eq))) (codes "==") ∷ spelt (sorted (Sign (sign_of Ne))) (codes "!=") ∷ spelt (sorted (Sign (sign_of Lt))) (codes "<")
    ∷ spelt (sorted (Sign (sign_of Le))) (codes "<=") ∷ spelt (sorted (Sign (sign_of Gt))) (codes ">") ∷ spelt (sorted (Sign (sign_of Ge))) (codes ">=") ∷ spelt (sorted (Sign (sign_of Both))) (codes "&&")
    ∷ spelt (sorted (Sign (sign_of Either))) (codes "||") ∷ spelt (sorted (Sign (shift_sign_of Left))) (codes "<<") ∷ spelt (sorted (Sign (shift_sign_of Right))) (codes ">>")
    ∷ spelt (sorted (Sign (shift_sign_of Rotate))) (codes "<<<") ∷ spelt (sorted (Key (mem_key Sram))) (codes "sram") ∷ spelt (sorted (Key (mem_key Sdram))) (codes "sdram")
    ∷ spelt (sorted (Key (mem_key Scratch))) (codes "scratch") ∷ []
