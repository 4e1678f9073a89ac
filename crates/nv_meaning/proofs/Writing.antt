-- Writing the bits of a layout, from a place on.
use Rattle.std.proofs.Common.{◌≡◌, ◌∙◌, refl, ap, sym, subst, ℕ, zero, suc, ◌+◌, ◌-◌, ◌*◌, ◌/◌, ◌%◌, ◌^◌, ◌<◌, ◌≤◌, min, max, Bool, true, false, if◌then◌else◌, inl, inr, List, [], ◌∷◌, ◌++◌, take, drop, length, get_or, replicate, append_assoc, append-nil, add-one, length-append, length-drop, arith}
use Rattle.std.proofs.Math.Nat.{div-eq_of_lt}
use Rattle.std.proofs.Math.Seq.{take-append_seam, drop-append_seam}
use Rattle.std.proofs.lemmas.Bool.{cases_lt}
use Rattle.std.proofs.lemmas.List.{take-append-drop, take_all, drop-replicate, length-replicate, drop_all}
use Rattle.nv_ast.specs.Bits.{bits, number, packed, replaced}
use Rattle.nv_ast.specs.declared.tree.LayoutText.{LayoutText}
use Rattle.nv_ast.specs.LayoutView.{layout_tree, field_tree}
use Rattle.nv_ast.specs.Outline.{Layouts, OutlineTree, BitsOutline, GapOutline, PartsOutline, OverlayOutline, JoinedOutline, OutlineTrees, no_outlines, outline_and, NamedOutlines, no_named_outlines, named_outline_and, outline, field_outline, size, total_size, total_named_size, longest}
use Rattle.nv_layout.proofs.BitLists.{length-bits, bits-split, packed-append, packed-cons, length-packed, length-front, replaced-middle}
use Rattle.nv_meaning_values.specs.Values.{Value, NamedValues, word_of, fields_of, field_named, has_field}
use Rattle.nv_meaning_values.specs.Packing.{bits_of, parts_bits, chosen_bits, joined_bits, words_of_bits}
use Rattle.nv_meaning.specs.inner.Blanks.{IsBlankFrom}
use Rattle.nv_meaning.proofs.Packed.{replaced-more, replaced-zeros, replicate-split, blank-behind, number-word}
use Rattle.nv_meaning_values.proofs.Unpacking.{FieldItem, outlines_of, joined_of, drop-nothing}
use Rattle.nv_ast.proofs.Items.{take_item, next_item}

-- ---- no more bits than the size says
either-within : (b : Bool) (xs ys : List ℕ) (m n : ℕ) → length xs ≤ m → length ys ≤ n → length (if b then xs else ys) ≤ max m n
either-within true xs ys m n p q = omega arith
either-within false xs ys m n p q = omega arith

both-within : (xs ys : List ℕ) (m n : ℕ) → length xs ≤ m → length ys ≤ n → length (xs ++ ys) ≤ m + n
both-within xs ys m n p q = omega (arith, length-append xs ys)

mutual
  pub bits-within : (o : OutlineTree) (v : Value) → length (bits_of o v) ≤ size o
  bits-within (BitsOutline n) v = omega (arith, length-bits n (word_of v))
  bits-within (GapOutline n) v = let e : length (replicate {A = ℕ} n 0) ≡ n = length-replicate n 0 in omega arith
  bits-within (PartsOutline fs) v = parts-within fs (fields_of v)
  bits-within (OverlayOutline fs) v = chosen-within fs (fields_of v)
  bits-within (JoinedOutline os) v = joined-within os v

  pub parts-within : (fs : NamedOutlines) (vs : NamedValues) → length (parts_bits fs vs) ≤ total_named_size fs
  parts-within no_named_outlines vs = omega arith
  parts-within (named_outline_and x o os) vs = both-within (bits_of o (field_named x vs)) (parts_bits os vs) (size o) (total_named_size os) (bits-within o (field_named x vs)) (parts-within os vs)

  pub chosen-within : (fs : NamedOutlines) (vs : NamedValues) → length (chosen_bits fs vs) ≤ longest fs
  chosen-within no_named_outlines vs = omega arith
  chosen-within (named_outline_and x o os) vs = either-within (has_field x vs) (bits_of o (field_named x vs)) (chosen_bits os vs) (size o) (longest os) (bits-within o (field_named x vs)) (chosen-within os vs)

  pub joined-within : (os : OutlineTrees) (v : Value) → length (joined_bits os v) ≤ total_size os
  joined-within no_outlines v = omega arith
  joined-within (outline_and o os) v = both-within (bits_of o v) (joined_bits os v) (size o) (total_size os) (bits-within o v) (joined-within os v)

-- ---- one part more
module _ (known : Layouts) where
  parts_bits-append : (xs ys : List FieldItem) (vs : NamedValues) → parts_bits (outlines_of known (xs ++ ys)) vs ≡ parts_bits (outlines_of known xs) vs ++ parts_bits (outlines_of known ys) vs
  parts_bits-append [] ys vs = refl
  parts_bits-append (x ∷ xs) ys vs =
      ap (λ l. bits_of (field_outline known (field_tree x.1)) (field_named x.0 vs) ++ l) (parts_bits-append xs ys vs)
      ∙ sym (append_assoc (bits_of (field_outline known (field_tree x.1)) (field_named x.0 vs)) (parts_bits (outlines_of known xs) vs) (parts_bits (outlines_of known ys) vs))

  pub parts_bits-more : (xs : List FieldItem) (i : ℕ) (p : FieldItem) (vs : NamedValues) → i < length xs → p ≡ get_or xs i p → parts_bits (outlines_of known (take (i + 1) xs)) vs ≡ parts_bits (outlines_of known (take i xs)) vs ++ bits_of (field_outline known (field_tree p.1)) (field_named p.0 vs)
  parts_bits-more xs i p vs h e =
      ap (λ l. parts_bits (outlines_of known l) vs) (take_item xs i p h e) ∙ parts_bits-append (take i xs) (p ∷ []) vs
      ∙ ap (λ l. parts_bits (outlines_of known (take i xs)) vs ++ l) (append-nil (bits_of (field_outline known (field_tree p.1)) (field_named p.0 vs)))

  joined_bits-append : (xs ys : List LayoutText) (v : Value) → joined_bits (joined_of known (xs ++ ys)) v ≡ joined_bits (joined_of known xs) v ++ joined_bits (joined_of known ys) v
  joined_bits-append [] ys v = refl
  joined_bits-append (x ∷ xs) ys v =
      ap (λ l. bits_of (outline known (layout_tree x)) v ++ l) (joined_bits-append xs ys v)
      ∙ sym (append_assoc (bits_of (outline known (layout_tree x)) v) (joined_bits (joined_of known xs) v) (joined_bits (joined_of known ys) v))

  pub joined_bits-more : (xs : List LayoutText) (i : ℕ) (p : LayoutText) (v : Value) → i < length xs → p ≡ get_or xs i p → joined_bits (joined_of known (take (i + 1) xs)) v ≡ joined_bits (joined_of known (take i xs)) v ++ bits_of (outline known (layout_tree p)) v
  joined_bits-more xs i p v h e =
      ap (λ l. joined_bits (joined_of known l) v) (take_item xs i p h e) ∙ joined_bits-append (take i xs) (p ∷ []) v
      ∙ ap (λ l. joined_bits (joined_of known (take i xs)) v ++ l) (append-nil (bits_of (outline known (layout_tree p)) v))

  -- the first of the alternatives from the i-th on
  pub chosen-turn : (xs : List FieldItem) (i : ℕ) (p : FieldItem) (vs : NamedValues) → i < length xs → p ≡ get_or xs i p → chosen_bits (outlines_of known (drop i xs)) vs ≡ (if has_field p.0 vs then bits_of (field_outline known (field_tree p.1)) (field_named p.0 vs) else chosen_bits (outlines_of known (drop (i + 1) xs)) vs)
  chosen-turn xs i p vs h e = ap (λ l. chosen_bits (outlines_of known l) vs) (next_item xs i p h e)

pub written-more : (first place : ℕ) (old mid new xs ys whole : List ℕ) → first + length xs ≤ length old → place ≡ first + length xs → mid ≡ replaced first xs old → new ≡ replaced place ys mid → whole ≡ xs ++ ys → new ≡ replaced first whole old
written-more first place old mid new xs ys whole h a m n w =
    n ∙ ap (λ l. replaced place ys l) m ∙ ap (λ k. replaced k ys (replaced first xs old)) a ∙ replaced-more first xs ys old h ∙ ap (λ l. replaced first l old) (sym w)

pub behind-more : (first place new : ℕ) (xs ys whole : List ℕ) → place ≡ first + length xs → new ≡ place + length ys → whole ≡ xs ++ ys → new ≡ first + length whole
behind-more first place new xs ys whole a n w = let e : length whole ≡ length xs + length ys = ap length w ∙ length-append xs ys in omega arith

pub blank-after : (first place : ℕ) (old mid xs : List ℕ) → first + length xs ≤ length old → place ≡ first + length xs → mid ≡ replaced first xs old → IsBlankFrom first old → IsBlankFrom place mid
blank-after first place old mid xs h a m blank = subst (λ k. IsBlankFrom k mid) (sym a) (subst (λ l. IsBlankFrom (first + length xs) l) (sym m) (blank-behind first xs old h blank))

-- ---- the bits of a word
no-bits_zero : (w : ℕ) → bits 0 w ≡ []
unfolding bits
no-bits_zero w = refl

pub no-bits : (n w : ℕ) → n ≡ 0 → bits n w ≡ []
no-bits n w e = ap (λ k. bits k w) e ∙ no-bits_zero w

zeros-bits : (k : ℕ) → bits k 0 ≡ replicate k 0
unfolding bits
zeros-bits zero = refl
zeros-bits (suc k) = ap (λ l. l ++ 0 ∷ []) (zeros-bits k) ∙ sym (replicate-split k 1) ∙ ap (λ n. replicate n 0) (add-one k)

wide-bits : (n w : ℕ) → w < 2 ^ 32 → 32 ≤ n → bits n w ≡ replicate (n - 32) 0 ++ bits 32 w
wide-bits n w small h =
    let e : n ≡ n - 32 + 32 = omega arith in
    let z : w / 2 ^ 32 ≡ 0 = div-eq_of_lt small in
    ap (λ k. bits k w) e ∙ bits-split (n - 32) 32 w ∙ ap (λ k. bits (n - 32) k ++ bits 32 w) z ∙ ap (λ l. l ++ bits 32 w) (zeros-bits (n - 32))

-- the word's bits in the last places, where the places before them are blank
pub bits-written : (n w place : ℕ) (old new : List ℕ) → w < 2 ^ 32 → place + n ≤ length old → IsBlankFrom place old → new ≡ replaced (place + n - min n 32) (bits (min n 32) w) old → new ≡ replaced place (bits n w) old
bits-written n w place old new small inside blank h = elim (cases_lt n 32) [
  | inl few ↦
      let m : min n 32 ≡ n = omega arith in
      let p : place + n - n ≡ place = omega arith in
      h ∙ ap (λ k. replaced (place + n - k) (bits k w) old) m ∙ ap (λ k. replaced k (bits n w) old) p
  | inr many ↦
      let m : min n 32 ≡ 32 = omega arith in
      let long : length (replicate {A = ℕ} (n - 32) 0) ≡ n - 32 = length-replicate (n - 32) 0 in
      let p : place + n - 32 ≡ place + length (replicate {A = ℕ} (n - 32) 0) = omega arith in
      let fits : place + length (replicate {A = ℕ} (n - 32) 0) ≤ length old = omega arith in
      h ∙ ap (λ k. replaced (place + n - k) (bits k w) old) m ∙ ap (λ k. replaced k (bits 32 w) old) p
      ∙ ap (λ l. replaced (place + length (replicate {A = ℕ} (n - 32) 0)) (bits 32 w) l) (sym (replaced-zeros place (n - 32) old (omega arith) blank))
      ∙ replaced-more place (replicate (n - 32) 0) (bits 32 w) old fits
      ∙ ap (λ l. replaced place l old) (sym (wide-bits n w small many))
]

-- a field that was written into the words from one on
pub part-written : (ws sub new : List ℕ) (place b w : ℕ) → place / 32 ≤ length ws → place + b ≤ 32 * length ws → packed sub ≡ replaced (place % 32) (bits b w) (packed (drop (place / 32) ws)) → new ≡ take (place / 32) ws ++ sub → packed new ≡ replaced place (bits b w) (packed ws)
part-written ws sub new place b w h inside p n =
    let q : ℕ = place / 32 in
    let front : List ℕ = packed (take q ws) in
    let rest : List ℕ = packed (drop q ws) in
    let lf : length front ≡ 32 * q = length-front ws q h in
    let lb : length (bits b w) ≡ b = length-bits b w in
    let lr : length rest ≡ 32 * (length ws - q) = length-packed (drop q ws) ∙ ap (λ k. 32 * k) (length-drop q ws) in
    let e : place ≡ length front + place % 32 = omega arith in
    let whole : packed ws ≡ front ++ (rest ++ []) = ap packed (sym (take-append-drop q ws)) ∙ packed-append (take q ws) (drop q ws) ∙ ap (λ l. front ++ l) (sym (append-nil rest)) in
    ap packed n ∙ packed-append (take q ws) sub ∙ ap (λ l. front ++ l) (p ∙ sym (append-nil (replaced (place % 32) (bits b w) rest)))
    ∙ sym (replaced-middle front rest [] (bits b w) place (place % 32) e (omega arith))
    ∙ ap (λ l. replaced place (bits b w) l) (sym whole)

-- ---- the words of some bits
pad-take : (m k j : ℕ) (bs : List ℕ) → m ≤ length bs + k → m ≤ length bs + j → take m (bs ++ replicate k 0) ≡ take m (bs ++ replicate j 0)
pad-take zero k j bs p q = refl
pad-take (suc m) k j (b ∷ bs) p q = ap (λ l. b ∷ l) (pad-take m k j bs (omega arith) (omega arith))
pad-take (suc m) zero j [] p q = absurd (omega arith)
pad-take (suc m) (suc k) zero [] p q = absurd (omega arith)
pad-take (suc m) (suc k) (suc j) [] p q = ap (λ l. 0 ∷ l) (pad-take m k j [] (omega arith) (omega arith))

pad-drop : (m k j : ℕ) (bs : List ℕ) → length bs + k ≡ m + (length (drop m bs) + j) → drop m (bs ++ replicate k 0) ≡ drop m bs ++ replicate j 0
pad-drop zero k j bs e = let s : k ≡ j = omega arith in ap (λ n. bs ++ replicate n 0) s
pad-drop (suc m) k j (b ∷ bs) e = pad-drop m k j bs (omega arith)
pad-drop (suc m) zero j [] e = absurd (omega arith)
pad-drop (suc m) (suc k) j [] e =
    let z : length (drop {A = ℕ} m []) ≡ 0 = ap length (drop-nothing {A = ℕ} m) in
    pad-drop m k j [] (omega arith) ∙ ap (λ l. l ++ replicate j 0) (drop-nothing m)

pub words-from : (n : ℕ) (ws bs : List ℕ) → length ws ≡ n → ((i : ℕ) → get_or ws i 0 < 2 ^ 32) → length bs ≤ 32 * n → packed ws ≡ bs ++ replicate (32 * n - length bs) 0 → ws ≡ words_of_bits n bs
words-from zero [] bs l fits short p = refl
words-from zero (w ∷ ws) bs l fits short p = absurd (omega arith)
words-from (suc n) [] bs l fits short p = absurd (omega arith)
words-from (suc n) (w ∷ ws) bs l fits short p =
    let k : ℕ = 32 * suc n - length bs in
    let lb : length (bits 32 w) ≡ 32 = length-bits 32 w in
    let cut : bits 32 w ++ packed ws ≡ bs ++ replicate k 0 = sym (packed-cons w ws) ∙ p in
    let here : take 32 (bits 32 w ++ packed ws) ≡ bits 32 w = ap (λ m. take m (bits 32 w ++ packed ws)) (sym lb) ∙ take-append_seam (bits 32 w) (packed ws) in
    let there : drop 32 (bits 32 w ++ packed ws) ≡ packed ws = ap (λ m. drop m (bits 32 w ++ packed ws)) (sym lb) ∙ drop-append_seam (bits 32 w) (packed ws) in
    let first : bits 32 w ≡ take 32 (bs ++ replicate 32 0) = sym here ∙ ap (take 32) cut ∙ pad-take 32 k 32 bs (omega arith) (omega arith) in
    let ld : length (drop 32 bs) ≡ length bs - 32 = length-drop 32 bs in
    let rest : packed ws ≡ drop 32 bs ++ replicate (32 * n - length (drop 32 bs)) 0 = sym there ∙ ap (drop 32) cut ∙ pad-drop 32 k (32 * n - length (drop 32 bs)) bs (omega arith) in
    let head : w ≡ number (take 32 (bs ++ replicate 32 0)) = sym (number-word w (fits 0)) ∙ ap number first in
    ap (λ x. x ∷ ws) head ∙ ap (λ xs. number (take 32 (bs ++ replicate 32 0)) ∷ xs) (words-from n ws (drop 32 bs) (omega arith) (λ i. fits (suc i)) (omega arith) rest)

packed-zeros : (n : ℕ) → packed (replicate n 0) ≡ replicate (32 * n) 0
unfolding packed
packed-zeros zero = refl
packed-zeros (suc n) =
    let e : 32 + 32 * n ≡ 32 * suc n = omega arith in
    ap (λ l. l ++ packed (replicate n 0)) (zeros-bits 32) ∙ ap (λ l. replicate 32 0 ++ l) (packed-zeros n) ∙ sym (replicate-split 32 (32 * n)) ∙ ap (λ k. replicate k 0) e

pub blank-zeros : (n : ℕ) (ws : List ℕ) → ws ≡ replicate n 0 → IsBlankFrom 0 (packed ws)
blank-zeros n ws e =
    let z : packed ws ≡ replicate (32 * n) 0 = ap packed e ∙ packed-zeros n in
    let l : length (replicate {A = ℕ} (32 * n) 0) ≡ 32 * n = length-replicate (32 * n) 0 in
    let k : 32 * n ≡ length (packed ws) - 0 = omega (arith, ap length z) in
    z ∙ ap (λ m. replicate m 0) k

-- the words of a layout that was written into zeros
pub words-written : (n : ℕ) (old new bs : List ℕ) → old ≡ replicate n 0 → length new ≡ n → ((i : ℕ) → get_or new i 0 < 2 ^ 32) → length bs ≤ 32 * n → packed new ≡ replaced 0 bs (packed old) → new ≡ words_of_bits n bs
words-written n old new bs z l fits short p =
    let k : 0 + length bs ≡ length bs = omega arith in
    words-from n new bs l fits short
    (p ∙ ap (λ w. replaced 0 bs (packed w)) z ∙ ap (λ w. replaced 0 bs w) (packed-zeros n) ∙ ap (λ m. bs ++ drop m (replicate (32 * n) 0)) k ∙ ap (λ w. bs ++ w) (drop-replicate (length bs) (32 * n) 0))

-- ---- as many words as were asked for
pub length-words : (n : ℕ) (bs : List ℕ) → length (words_of_bits n bs) ≡ n
length-words zero bs = refl
length-words (suc n) bs = ap suc (length-words n (drop 32 bs))

-- a vector all of whose items were written
pub back-all : {A : Type 0} (new items : List A) (n : ℕ) → length new ≡ length items → n ≡ length items → take n (new ++ drop (length new) items) ≡ new
back-all new items n e f = ap (λ l. take n (new ++ l)) (drop_all (length new) items (omega arith)) ∙ ap (λ l. take n l) (append-nil new) ∙ take_all n new (omega arith)
