-- The types and words of values: of parts of values, of what is unpacked, packed and matched.
use Rattle.std.proofs.Common.{◌≡◌, ℕ, zero, suc, ◌+◌, ◌*◌, ◌^◌, ◌<◌, ◌≤◌, ◌/◌, ◌%◌, ◌==◌, min, Bool, true, false, if◌then◌else◌, List, [], ◌∷◌, ◌++◌, All, length, take, drop, replicate, Some, is_none, bytes_eq, refl, sym, ap, ◌∙◌, subst, true≢false, arith, ne_eqb, pow_mono, length-take, lt_of_lt_of_le}
use Rattle.std.proofs.lemmas.List.Elements.{All-nil, All-cons, All-head, All-tail, All-append, All-take, All-drop, All-replicate}
use Rattle.nv_ast.specs.Bits.{bits, number, packed}
use Rattle.nv_ast.specs.Outline.{OutlineTree, BitsOutline, GapOutline, PartsOutline, OverlayOutline, JoinedOutline, OutlineTrees, no_outlines, outline_and, NamedOutlines, no_named_outlines, named_outline_and, size}
use Rattle.nv_ast.specs.Tests.{look_up}
use Rattle.nv_ast.specs.Tree.{PatternTree, NamePattern, AnyPattern, TuplePattern, PatternTrees, no_patterns, pattern_and}
use Rattle.nv_ast.specs.Types.{WordTy, TupleTy, RecordTy, ty_and, NamedTys, no_named_tys, named_ty_and, word_parts, words_ty, packed_words, packed_ty, unpacked_ty, Forms, no_forms, form_and, ◌+++◌, form_of, forms_of, joined_forms, record_forms, unpacked, unpacked_all}
use Rattle.nv_ast.specs.Scope.{bind, bind_all}
use Rattle.nv_ast.specs.Typing.{field_ty, fields_of as type_fields}
use Rattle.nv_meaning.specs.Values.{Value, Word, Truth, Tuple, Record, Values, no_values, value_and, NamedValues, no_named_values, named_value_and, words_of, all_words, all_named_words, word_values, words_value, word_of, fields_of, field_named, has_field, ◌++_fields◌, Scope, variable_in, matched, all_matched}
use Rattle.nv_meaning.specs.Packing.{value_at, parts_at, alternatives_at, joined_at, unpacked_value, bits_of, parts_bits, chosen_bits, joined_bits, words_of_bits, packed_value}
use Rattle.nv_flatten_values.specs.inner.Soundness.{value_ty, value_tys, named_value_tys, scope_tys, AreWords, ScopeWords}
use Rattle.nv_meaning.proofs.Writing.{length-words}

-- ---- words
pub no-words : AreWords []
no-words = All-nil (λ (w : ℕ). w < 2 ^ 32)

pub one-word : (x : ℕ) → x < 2 ^ 32 → AreWords (x ∷ [])
one-word x h = All-cons (λ (w : ℕ). w < 2 ^ 32) x [] h no-words

pub words-after : (xs ys : List ℕ) → AreWords xs → AreWords ys → AreWords (xs ++ ys)
words-after xs ys f g = All-append (λ (w : ℕ). w < 2 ^ 32) xs ys f g

pub words-apart : (xs ys : List ℕ) → AreWords (xs ++ ys) → AreWords xs × AreWords ys
words-apart [] ys h = (no-words, h)
words-apart (x ∷ xs) ys h =
    let rest = words-apart xs ys (All-tail (λ (w : ℕ). w < 2 ^ 32) x (xs ++ ys) h) in
    (All-cons (λ (w : ℕ). w < 2 ^ 32) x xs (All-head (λ (w : ℕ). w < 2 ^ 32) x (xs ++ ys) h) rest.0, rest.1)

pub truth-words : (b : Bool) → AreWords (words_of (Truth b))
truth-words true = one-word 1 (omega arith)
truth-words false = one-word 0 (omega arith)

-- the word of a value that is one
pub word-fits : (v : Value) → Some WordTy ≡ Some (value_ty v) → AreWords (words_of v) → word_of v < 2 ^ 32
word-fits (Word x) t h = All-head (λ (w : ℕ). w < 2 ^ 32) x [] h
word-fits (Truth b) t h = cc
word-fits (Tuple vs) t h = cc
word-fits (Record vs) t h = cc

-- ---- some words as a value
pub word-values-types : (ws : List ℕ) → value_tys (word_values ws) ≡ word_parts (length ws)
word-values-types [] = refl
word-values-types (x ∷ ws) = ap (ty_and WordTy) (word-values-types ws)

pub word-values-words : (ws : List ℕ) → all_words (word_values ws) ≡ ws
word-values-words [] = refl
word-values-words (x ∷ ws) = ap (λ l. x ∷ l) (word-values-words ws)

pub words-value-type : (ws : List ℕ) → value_ty (words_value ws) ≡ words_ty (length ws)
words-value-type [] = refl
words-value-type (x ∷ []) = refl
words-value-type (x ∷ y ∷ ws) =
    let other : (length (x ∷ y ∷ ws) == 1) ≡ false = ne_eqb (length (x ∷ y ∷ ws)) 1 (λ e. absurd (omega arith)) in
    subst (λ b. TupleTy (value_tys (word_values (x ∷ y ∷ ws))) ≡ (if b then WordTy else TupleTy (word_parts (length (x ∷ y ∷ ws))))) (sym other) (ap (λ l. TupleTy l) (word-values-types (x ∷ y ∷ ws)))

pub words-value-words : (ws : List ℕ) → words_of (words_value ws) ≡ ws
words-value-words [] = refl
words-value-words (x ∷ []) = refl
words-value-words (x ∷ y ∷ ws) = word-values-words (x ∷ y ∷ ws)

pub words-value-fits : (ws : List ℕ) → AreWords ws → AreWords (words_of (words_value ws))
words-value-fits ws h = subst AreWords (sym (words-value-words ws)) h

-- ---- variables
pub variable-type : (scope : Scope) (x : List ℕ) → is_none (look_up x (scope_tys scope)) ≡ false → look_up x (scope_tys scope) ≡ Some (value_ty (variable_in scope x))
variable-type [] x h = absurd (true≢false h)
variable-type ((y, v) ∷ scope) x h = by (bytes_eq x y) h (λ g. variable-type scope x g)
  where
    by : (b : Bool) → is_none (if b then Some (value_ty v) else look_up x (scope_tys scope)) ≡ false → (is_none (look_up x (scope_tys scope)) ≡ false → look_up x (scope_tys scope) ≡ Some (value_ty (variable_in scope x))) → (if b then Some (value_ty v) else look_up x (scope_tys scope)) ≡ Some (value_ty (if b then v else variable_in scope x))
    by true g r = refl
    by false g r = r g

pub variable-words : (scope : Scope) (x : List ℕ) → ScopeWords scope → AreWords (words_of (variable_in scope x))
variable-words [] x h = one-word 0 (omega arith)
variable-words ((y, v) ∷ scope) x h = by (bytes_eq x y) (variable-words scope x h.1)
  where
    by : (b : Bool) → AreWords (words_of (variable_in scope x)) → AreWords (words_of (if b then v else variable_in scope x))
    by true r = h.0
    by false r = r

-- ---- fields
member-type : (vs : NamedValues) (x : List ℕ) → is_none (look_up x (type_fields (named_value_tys vs))) ≡ false → look_up x (type_fields (named_value_tys vs)) ≡ Some (value_ty (field_named x vs))
member-type no_named_values x h = absurd (true≢false h)
member-type (named_value_and y v vs) x h = by (bytes_eq x y) h (λ g. member-type vs x g)
  where
    by : (b : Bool) → is_none (if b then Some (value_ty v) else look_up x (type_fields (named_value_tys vs))) ≡ false → (is_none (look_up x (type_fields (named_value_tys vs))) ≡ false → look_up x (type_fields (named_value_tys vs)) ≡ Some (value_ty (field_named x vs))) → (if b then Some (value_ty v) else look_up x (type_fields (named_value_tys vs))) ≡ Some (value_ty (if b then v else field_named x vs))
    by true g r = refl
    by false g r = r g

pub field-type : (v : Value) (x : List ℕ) → is_none (field_ty x (Some (value_ty v))) ≡ false → field_ty x (Some (value_ty v)) ≡ Some (value_ty (field_named x (fields_of v)))
field-type (Word n) x h = absurd (true≢false h)
field-type (Truth b) x h = absurd (true≢false h)
field-type (Tuple vs) x h = absurd (true≢false h)
field-type (Record vs) x h = member-type vs x h

member-words : (vs : NamedValues) (x : List ℕ) → AreWords (all_named_words vs) → AreWords (words_of (field_named x vs))
member-words no_named_values x h = one-word 0 (omega arith)
member-words (named_value_and y v vs) x h = let both = words-apart (words_of v) (all_named_words vs) h in by (bytes_eq x y) both.0 (member-words vs x both.1)
  where
    by : (b : Bool) → AreWords (words_of v) → AreWords (words_of (field_named x vs)) → AreWords (words_of (if b then v else field_named x vs))
    by true f r = f
    by false f r = r

pub field-words : (v : Value) (x : List ℕ) → AreWords (words_of v) → AreWords (words_of (field_named x (fields_of v)))
field-words (Word n) x h = one-word 0 (omega arith)
field-words (Truth b) x h = one-word 0 (omega arith)
field-words (Tuple vs) x h = one-word 0 (omega arith)
field-words (Record vs) x h = member-words vs x h

-- ---- patterns
mutual
  pub matched-types : (q : PatternTree) (v : Value) (scope : Scope) → scope_tys (matched q v scope) ≡ bind q (value_ty v) (scope_tys scope)
  matched-types (NamePattern x) v scope = refl
  matched-types AnyPattern v scope = refl
  matched-types (TuplePattern qs) (Word n) scope = refl
  matched-types (TuplePattern qs) (Truth b) scope = refl
  matched-types (TuplePattern qs) (Tuple vs) scope = all-matched-types qs vs scope
  matched-types (TuplePattern qs) (Record vs) scope = refl

  pub all-matched-types : (qs : PatternTrees) (vs : Values) (scope : Scope) → scope_tys (all_matched qs vs scope) ≡ bind_all qs (value_tys vs) (scope_tys scope)
  all-matched-types no_patterns vs scope = refl
  all-matched-types (pattern_and q qs) no_values scope = refl
  all-matched-types (pattern_and q qs) (value_and v vs) scope = all-matched-types qs vs (matched q v scope) ∙ ap (bind_all qs (value_tys vs)) (matched-types q v scope)

mutual
  pub matched-words : (q : PatternTree) (v : Value) (scope : Scope) → AreWords (words_of v) → ScopeWords scope → ScopeWords (matched q v scope)
  matched-words (NamePattern x) v scope h s = (h, s)
  matched-words AnyPattern v scope h s = s
  matched-words (TuplePattern qs) (Word n) scope h s = s
  matched-words (TuplePattern qs) (Truth b) scope h s = s
  matched-words (TuplePattern qs) (Tuple vs) scope h s = all-matched-words qs vs scope h s
  matched-words (TuplePattern qs) (Record vs) scope h s = s

  pub all-matched-words : (qs : PatternTrees) (vs : Values) (scope : Scope) → AreWords (all_words vs) → ScopeWords scope → ScopeWords (all_matched qs vs scope)
  all-matched-words no_patterns vs scope h s = s
  all-matched-words (pattern_and q qs) no_values scope h s = s
  all-matched-words (pattern_and q qs) (value_and v vs) scope h s =
      let both = words-apart (words_of v) (all_words vs) h in
      all-matched-words qs vs (matched q v scope) both.1 (matched-words q v scope both.0 s)

-- ---- bits
abbrev pub AreBits : List ℕ → Type 0
AreBits bs = All (λ b. b < 2) bs

bits-after : (xs ys : List ℕ) → AreBits xs → AreBits ys → AreBits (xs ++ ys)
bits-after xs ys f g = All-append (λ (b : ℕ). b < 2) xs ys f g

no-bits : AreBits []
no-bits = All-nil (λ (b : ℕ). b < 2)

pub bits-are : (k x : ℕ) → AreBits (bits k x)
unfolding bits
bits-are zero x = no-bits
bits-are (suc k) x = bits-after (bits k (x / 2)) (x % 2 ∷ []) (bits-are k (x / 2)) (All-cons (λ (b : ℕ). b < 2) (x % 2) [] (omega arith) no-bits)

pub packed-are : (ws : List ℕ) → AreBits (packed ws)
unfolding packed
packed-are [] = no-bits
packed-are (x ∷ ws) = bits-after (bits 32 x) (packed ws) (bits-are 32 x) (packed-are ws)

zeros-are : (n : ℕ) → AreBits (replicate n 0)
zeros-are n = All-replicate (λ (b : ℕ). b < 2) n 0 (omega arith)

bit-number : (b n m : ℕ) → b < 2 → m < n → b * n + m < 2 * n
bit-number zero n m h l = omega arith
bit-number (suc zero) n m h l = omega arith
bit-number (suc (suc b)) n m h l = absurd (omega arith)

pub number-below : (bs : List ℕ) → AreBits bs → number bs < 2 ^ length bs
unfolding number
number-below [] h = omega arith
number-below (b ∷ bs) h =
    let rest : number bs < 2 ^ length bs = number-below bs (All-tail (λ (b : ℕ). b < 2) b bs h) in
    let step : b * 2 ^ length bs + number bs < 2 * 2 ^ length bs = bit-number b (2 ^ length bs) (number bs) (All-head (λ (b : ℕ). b < 2) b bs h) rest in
    let power : 2 ^ suc (length bs) ≡ 2 * 2 ^ length bs = omega arith in
    subst (λ n. b * 2 ^ length bs + number bs < n) (sym power) step

pow-below : (n : ℕ) → n ≤ 32 → 2 ^ n ≤ 2 ^ 32
pow-below n h = pow_mono {i = n} {j = 32} h

pub taken-number : (n : ℕ) (bs : List ℕ) → n ≤ 32 → AreBits bs → number (take n bs) < 2 ^ 32
taken-number n bs le h =
    let short : length (take n bs) ≤ 32 = grind (arith, length-take) in
    let power : 2 ^ length (take n bs) ≤ 2 ^ 32 = pow-below (length (take n bs)) short in
    let below : number (take n bs) < 2 ^ length (take n bs) = number-below (take n bs) (All-take (λ (b : ℕ). b < 2) n bs h) in
    lt_of_lt_of_le below power

-- ---- what is unpacked
abbrev joined_tys : NamedTys → NamedTys → NamedTys
joined_tys no_named_tys us = us
joined_tys (named_ty_and x t ts) us = named_ty_and x t (joined_tys ts us)

fields-types : (vs us : NamedValues) → named_value_tys (vs ++_fields us) ≡ joined_tys (named_value_tys vs) (named_value_tys us)
fields-types no_named_values us = refl
fields-types (named_value_and x v vs) us = ap (named_ty_and x (value_ty v)) (fields-types vs us)

forms-types : (fs gs : Forms) → unpacked_all (fs +++ gs) ≡ joined_tys (unpacked_all fs) (unpacked_all gs)
forms-types no_forms gs = refl
forms-types (form_and x f fs) gs = ap (named_ty_and x (unpacked f)) (forms-types fs gs)

mutual
  pub value-at-type : (o : OutlineTree) (bs : List ℕ) → value_ty (value_at o bs) ≡ unpacked (form_of o)
  value-at-type (BitsOutline n) bs = refl
  value-at-type (GapOutline n) bs = refl
  value-at-type (PartsOutline fs) bs = ap (λ l. RecordTy l) (parts-types fs bs)
  value-at-type (OverlayOutline fs) bs = ap (λ l. RecordTy l) (alternatives-types fs bs)
  value-at-type (JoinedOutline os) bs = ap (λ l. RecordTy l) (joined-types os bs)

  parts-types : (fs : NamedOutlines) (bs : List ℕ) → named_value_tys (parts_at fs bs) ≡ unpacked_all (forms_of fs)
  parts-types no_named_outlines bs = refl
  parts-types (named_outline_and x o os) bs = ap (λ t. named_ty_and x t (named_value_tys (parts_at os (drop (size o) bs)))) (value-at-type o bs) ∙ ap (named_ty_and x (unpacked (form_of o))) (parts-types os (drop (size o) bs))

  alternatives-types : (fs : NamedOutlines) (bs : List ℕ) → named_value_tys (alternatives_at fs bs) ≡ unpacked_all (forms_of fs)
  alternatives-types no_named_outlines bs = refl
  alternatives-types (named_outline_and x o os) bs = ap (λ t. named_ty_and x t (named_value_tys (alternatives_at os bs))) (value-at-type o bs) ∙ ap (named_ty_and x (unpacked (form_of o))) (alternatives-types os bs)

  record-types : (o : OutlineTree) (bs : List ℕ) → named_value_tys (fields_of (value_at o bs)) ≡ unpacked_all (record_forms o)
  record-types (BitsOutline n) bs = refl
  record-types (GapOutline n) bs = refl
  record-types (PartsOutline fs) bs = parts-types fs bs
  record-types (OverlayOutline fs) bs = alternatives-types fs bs
  record-types (JoinedOutline os) bs = joined-types os bs

  joined-types : (os : OutlineTrees) (bs : List ℕ) → named_value_tys (joined_at os bs) ≡ unpacked_all (joined_forms os)
  joined-types no_outlines bs = refl
  joined-types (outline_and o os) bs =
      fields-types (fields_of (value_at o bs)) (joined_at os (drop (size o) bs))
      ∙ ap (λ l. joined_tys l (named_value_tys (joined_at os (drop (size o) bs)))) (record-types o bs)
      ∙ ap (joined_tys (unpacked_all (record_forms o))) (joined-types os (drop (size o) bs))
      ∙ sym (forms-types (record_forms o) (joined_forms os))

fields-words : (vs us : NamedValues) → AreWords (all_named_words vs) → AreWords (all_named_words us) → AreWords (all_named_words (vs ++_fields us))
fields-words no_named_values us f g = g
fields-words (named_value_and x v vs) us f g =
    let both = words-apart (words_of v) (all_named_words vs) f in
    words-after (words_of v) (all_named_words (vs ++_fields us)) both.0 (fields-words vs us both.1 g)

bits-behind : (n : ℕ) (bs : List ℕ) → AreBits bs → AreBits (drop n bs)
bits-behind n bs h = All-drop (λ (b : ℕ). b < 2) n bs h

mutual
  pub value-at-words : (o : OutlineTree) (bs : List ℕ) → AreBits bs → AreWords (words_of (value_at o bs))
  value-at-words (BitsOutline n) bs h = one-word (number (take (min n 32) bs)) (taken-number (min n 32) bs (omega arith) h)
  value-at-words (GapOutline n) bs h = no-words
  value-at-words (PartsOutline fs) bs h = parts-words fs bs h
  value-at-words (OverlayOutline fs) bs h = alternatives-words fs bs h
  value-at-words (JoinedOutline os) bs h = joined-words os bs h

  parts-words : (fs : NamedOutlines) (bs : List ℕ) → AreBits bs → AreWords (all_named_words (parts_at fs bs))
  parts-words no_named_outlines bs h = no-words
  parts-words (named_outline_and x o os) bs h =
      words-after (words_of (value_at o bs)) (all_named_words (parts_at os (drop (size o) bs))) (value-at-words o bs h) (parts-words os (drop (size o) bs) (bits-behind (size o) bs h))

  alternatives-words : (fs : NamedOutlines) (bs : List ℕ) → AreBits bs → AreWords (all_named_words (alternatives_at fs bs))
  alternatives-words no_named_outlines bs h = no-words
  alternatives-words (named_outline_and x o os) bs h =
      words-after (words_of (value_at o bs)) (all_named_words (alternatives_at os bs)) (value-at-words o bs h) (alternatives-words os bs h)

  record-words : (o : OutlineTree) (bs : List ℕ) → AreBits bs → AreWords (all_named_words (fields_of (value_at o bs)))
  record-words (BitsOutline n) bs h = no-words
  record-words (GapOutline n) bs h = no-words
  record-words (PartsOutline fs) bs h = parts-words fs bs h
  record-words (OverlayOutline fs) bs h = alternatives-words fs bs h
  record-words (JoinedOutline os) bs h = joined-words os bs h

  joined-words : (os : OutlineTrees) (bs : List ℕ) → AreBits bs → AreWords (all_named_words (joined_at os bs))
  joined-words no_outlines bs h = no-words
  joined-words (outline_and o os) bs h =
      fields-words (fields_of (value_at o bs)) (joined_at os (drop (size o) bs)) (record-words o bs h) (joined-words os (drop (size o) bs) (bits-behind (size o) bs h))

pub unpacked-type : (o : OutlineTree) (v : Value) → value_ty (unpacked_value o v) ≡ unpacked_ty o
unpacked-type o v = value-at-type o (packed (words_of v))

pub unpacked-words : (o : OutlineTree) (v : Value) → AreWords (words_of (unpacked_value o v))
unpacked-words o v = value-at-words o (packed (words_of v)) (packed-are (words_of v))

-- ---- what is packed
either-bits : (b : Bool) (xs ys : List ℕ) → AreBits xs → AreBits ys → AreBits (if b then xs else ys)
either-bits true xs ys f g = f
either-bits false xs ys f g = g

mutual
  pub bits-of-are : (o : OutlineTree) (v : Value) → AreBits (bits_of o v)
  bits-of-are (BitsOutline n) v = bits-are n (word_of v)
  bits-of-are (GapOutline n) v = zeros-are n
  bits-of-are (PartsOutline fs) v = parts-bits-are fs (fields_of v)
  bits-of-are (OverlayOutline fs) v = chosen-bits-are fs (fields_of v)
  bits-of-are (JoinedOutline os) v = joined-bits-are os v

  parts-bits-are : (fs : NamedOutlines) (vs : NamedValues) → AreBits (parts_bits fs vs)
  parts-bits-are no_named_outlines vs = no-bits
  parts-bits-are (named_outline_and x o os) vs = bits-after (bits_of o (field_named x vs)) (parts_bits os vs) (bits-of-are o (field_named x vs)) (parts-bits-are os vs)

  chosen-bits-are : (fs : NamedOutlines) (vs : NamedValues) → AreBits (chosen_bits fs vs)
  chosen-bits-are no_named_outlines vs = no-bits
  chosen-bits-are (named_outline_and x o os) vs = either-bits (has_field x vs) (bits_of o (field_named x vs)) (chosen_bits os vs) (bits-of-are o (field_named x vs)) (chosen-bits-are os vs)

  joined-bits-are : (os : OutlineTrees) (v : Value) → AreBits (joined_bits os v)
  joined-bits-are no_outlines v = no-bits
  joined-bits-are (outline_and o os) v = bits-after (bits_of o v) (joined_bits os v) (bits-of-are o v) (joined-bits-are os v)

pub words-of-bits-fit : (n : ℕ) (bs : List ℕ) → AreBits bs → AreWords (words_of_bits n bs)
words-of-bits-fit zero bs h = no-words
words-of-bits-fit (suc n) bs h =
    words-after (number (take 32 (bs ++ replicate 32 0)) ∷ []) (words_of_bits n (drop 32 bs)) (one-word (number (take 32 (bs ++ replicate 32 0))) (taken-number 32 (bs ++ replicate 32 0) (omega arith) (bits-after bs (replicate 32 0) h (zeros-are 32)))) (words-of-bits-fit n (drop 32 bs) (bits-behind 32 bs h))

pub packed-type : (o : OutlineTree) (v : Value) → value_ty (packed_value o v) ≡ packed_ty o
packed-type o v =
    words-value-type (words_of_bits (packed_words o) (bits_of o v)) ∙ ap words_ty (length-words (packed_words o) (bits_of o v))

pub packed-value-words : (o : OutlineTree) (v : Value) → AreWords (words_of (packed_value o v))
packed-value-words o v = words-value-fits (words_of_bits (packed_words o) (bits_of o v)) (words-of-bits-fit (packed_words o) (bits_of o v) (bits-of-are o v))
