-- A blank value with the words of a list is the value of its type.
use Rattle.std.proofs.Common.{◌≡◌, ◌∙◌, refl, ap, sym, ℕ, zero, suc, ◌+◌, List, [], drop, take, length, length-append, min}
use Rattle.nv_ast.specs.Bits.{number, packed}
use Rattle.nv_ast.specs.Outline.{OutlineTree, BitsOutline, GapOutline, PartsOutline, OverlayOutline, JoinedOutline, OutlineTrees, no_outlines, outline_and, NamedOutlines, no_named_outlines, named_outline_and, size}
use Rattle.nv_ast.specs.Types.{Ty, WordTy, BoolTy, TupleTy, RecordTy, Tys, no_tys, ty_and, NamedTys, no_named_tys, named_ty_and, words, total_words, total_named_words, Forms, no_forms, form_and, ◌+++◌, form_of, forms_of, joined_forms, record_forms, unpacked, unpacked_all}
use Rattle.nv_meaning_values.specs.Values.{Word, Tuple, Record, value_and, named_value_and, ◌++_fields◌, fields_of, words_of, all_words, all_named_words, value_from, values_from, named_values_from}
use Rattle.nv_meaning_values.specs.Packing.{value_at, parts_at, alternatives_at, joined_at}
use Rattle.nv_meaning.specs.inner.Blanks.{blank, blanks, named_blanks, filled, all_filled, fields_filled}
use Rattle.nv_meaning_values.proofs.Unpacking.{drop-nothing}

mutual
  pub blank-words : (t : Ty) → length (words_of (blank t)) ≡ words t
  blank-words WordTy = refl
  blank-words BoolTy = refl
  blank-words (TupleTy ts) = blanks-words ts
  blank-words (RecordTy ts) = named_blanks-words ts

  blanks-words : (ts : Tys) → length (all_words (blanks ts)) ≡ total_words ts
  blanks-words no_tys = refl
  blanks-words (ty_and t ts) = length-append (words_of (blank t)) (all_words (blanks ts)) ∙ ap (λ n. n + length (all_words (blanks ts))) (blank-words t) ∙ ap (λ n. words t + n) (blanks-words ts)

  named_blanks-words : (ts : NamedTys) → length (all_named_words (named_blanks ts)) ≡ total_named_words ts
  named_blanks-words no_named_tys = refl
  named_blanks-words (named_ty_and x t ts) = length-append (words_of (blank t)) (all_named_words (named_blanks ts)) ∙ ap (λ n. n + length (all_named_words (named_blanks ts))) (blank-words t) ∙ ap (λ n. words t + n) (named_blanks-words ts)

mutual
  pub blank-filled : (t : Ty) (ws : List ℕ) → filled (blank t) ws ≡ value_from t ws
  blank-filled WordTy ws = refl
  blank-filled BoolTy ws = refl
  blank-filled (TupleTy ts) ws = ap (λ vs. Tuple vs) (blanks-filled ts ws)
  blank-filled (RecordTy ts) ws = ap (λ vs. Record vs) (named_blanks-filled ts ws)

  blanks-filled : (ts : Tys) (ws : List ℕ) → all_filled (blanks ts) ws ≡ values_from ts ws
  blanks-filled no_tys ws = refl
  blanks-filled (ty_and t ts) ws = ap (λ v. value_and v (all_filled (blanks ts) (drop (length (words_of (blank t))) ws))) (blank-filled t ws) ∙ ap (λ n. value_and (value_from t ws) (all_filled (blanks ts) (drop n ws))) (blank-words t) ∙ ap (value_and (value_from t ws)) (blanks-filled ts (drop (words t) ws))

  pub named_blanks-filled : (ts : NamedTys) (ws : List ℕ) → fields_filled (named_blanks ts) ws ≡ named_values_from ts ws
  named_blanks-filled no_named_tys ws = refl
  named_blanks-filled (named_ty_and x t ts) ws = ap (λ v. named_value_and x v (fields_filled (named_blanks ts) (drop (length (words_of (blank t))) ws))) (blank-filled t ws) ∙ ap (λ n. named_value_and x (value_from t ws) (fields_filled (named_blanks ts) (drop n ws))) (blank-words t) ∙ ap (named_value_and x (value_from t ws)) (named_blanks-filled ts (drop (words t) ws))

-- ---- the record of a layout out of no bits
number-none : (n : ℕ) → number (take n []) ≡ 0
unfolding number
number-none zero = refl
number-none (suc n) = refl

pub packed-none : packed [] ≡ []
unfolding packed
packed-none = refl

forms-append : (fs gs : Forms) → named_blanks (unpacked_all (fs +++ gs)) ≡ named_blanks (unpacked_all fs) ++_fields named_blanks (unpacked_all gs)
forms-append no_forms gs = refl
forms-append (form_and x f fs) gs = ap (named_value_and x (blank (unpacked f))) (forms-append fs gs)

mutual
  pub blank-record : (o : OutlineTree) → value_at o [] ≡ blank (unpacked (form_of o))
  blank-record (BitsOutline n) = ap (λ w. Word w) (number-none (min n 32))
  blank-record (GapOutline n) = refl
  blank-record (PartsOutline fs) = ap (λ vs. Record vs) (parts-blank fs)
  blank-record (OverlayOutline fs) = ap (λ vs. Record vs) (alternatives-blank fs)
  blank-record (JoinedOutline os) = ap (λ vs. Record vs) (joined-blank os)

  parts-blank : (fs : NamedOutlines) → parts_at fs [] ≡ named_blanks (unpacked_all (forms_of fs))
  parts-blank no_named_outlines = refl
  parts-blank (named_outline_and x o os) = ap (λ v. named_value_and x v (parts_at os (drop (size o) []))) (blank-record o) ∙ ap (λ l. named_value_and x (blank (unpacked (form_of o))) (parts_at os l)) (drop-nothing (size o)) ∙ ap (named_value_and x (blank (unpacked (form_of o)))) (parts-blank os)

  alternatives-blank : (fs : NamedOutlines) → alternatives_at fs [] ≡ named_blanks (unpacked_all (forms_of fs))
  alternatives-blank no_named_outlines = refl
  alternatives-blank (named_outline_and x o os) = ap (λ v. named_value_and x v (alternatives_at os [])) (blank-record o) ∙ ap (named_value_and x (blank (unpacked (form_of o)))) (alternatives-blank os)

  -- the fields of one layout among those that are joined
  fields-blank : (o : OutlineTree) → fields_of (value_at o []) ≡ named_blanks (unpacked_all (record_forms o))
  fields-blank (BitsOutline n) = refl
  fields-blank (GapOutline n) = refl
  fields-blank (PartsOutline fs) = parts-blank fs
  fields-blank (OverlayOutline fs) = alternatives-blank fs
  fields-blank (JoinedOutline os) = joined-blank os

  joined-blank : (os : OutlineTrees) → joined_at os [] ≡ named_blanks (unpacked_all (joined_forms os))
  joined-blank no_outlines = refl
  joined-blank (outline_and o os) = ap (λ l. fields_of (value_at o []) ++_fields joined_at os l) (drop-nothing (size o)) ∙ ap (λ l. l ++_fields joined_at os []) (fields-blank o) ∙ ap (λ l. named_blanks (unpacked_all (record_forms o)) ++_fields l) (joined-blank os) ∙ sym (forms-append (record_forms o) (joined_forms os))
