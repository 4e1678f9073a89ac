-- Lines without the blanks at their ends.
use Rattle.std.proofs.Common.{◌≡◌, ℕ, zero, suc, ◌+◌, ◌-◌, ◌<◌, Bool, true, false, List, [], ◌∷◌, ◌++◌, length, take, drop, eqb, refl, sym, ap, ◌∙◌, arith}
use Rattle.std.specs.Prelude.{cond, reverse, replicate, nat_lt}
use Rattle.std.specs.Char.{is_ascii_whitespace}
use Rattle.std.specs.List.{prefix_len, suffix_len}
use Rattle.std.proofs.lemmas.Bool.Decides.{nat_tests}
use Rattle.std.proofs.lemmas.List.{reverse-append, length-reverse, length-take-le, take_all}
use Rattle.std.proofs.lemmas.List.Folds.{prefix_len-append}
use Rattle.std.proofs.lemmas.List.Sums.{suffix_len-le-length}
use Rattle.nv_text.specs.Tokens.{OneLine}
use Rattle.nova_fmt.specs.Gaps.{without_end, trimmed}

-- one more element in front of those at the end that pass
suffix_cons : (p : ℕ → Bool) (b : ℕ) (bs : List ℕ) → suffix_len p (b ∷ bs) ≡ cond (eqb (suffix_len p bs) (length bs)) (length bs + cond (p b) 1 0) (suffix_len p bs)
suffix_cons p b bs =
    ap (prefix_len p) (reverse-append (b ∷ []) bs)
    ∙ prefix_len-append p (reverse bs) (b ∷ [])
    ∙ ap (λ n. cond (eqb (suffix_len p bs) n) (n + cond (p b) 1 0) (suffix_len p bs)) (length-reverse bs)

suffix_solid : (p : ℕ → Bool) (b : ℕ) (bs : List ℕ) → p b ≡ false → suffix_len p (b ∷ bs) ≡ suffix_len p bs
suffix_solid p b bs h =
    suffix_cons p b bs
    ∙ ap (λ t. cond (eqb (suffix_len p bs) (length bs)) (length bs + cond t 1 0) (suffix_len p bs)) h
    ∙ by_test (eqb (suffix_len p bs) (length bs)) refl
  where
    by_test : (t : Bool) → eqb (suffix_len p bs) (length bs) ≡ t → cond t (length bs + 0) (suffix_len p bs) ≡ suffix_len p bs
    by_test true e = grind (arith, nat_tests)
    by_test false e = refl

suffix_part : (p : ℕ → Bool) (b : ℕ) (bs : List ℕ) → suffix_len p bs < length bs → suffix_len p (b ∷ bs) ≡ suffix_len p bs
suffix_part p b bs h =
    let e : eqb (suffix_len p bs) (length bs) ≡ false = grind (arith, nat_tests) in
    suffix_cons p b bs ∙ ap (λ t. cond t (length bs + cond (p b) 1 0) (suffix_len p bs)) e

suffix_whole : (p : ℕ → Bool) (b : ℕ) (bs : List ℕ) → p b ≡ true → suffix_len p bs ≡ length bs → suffix_len p (b ∷ bs) ≡ length bs + 1
suffix_whole p b bs h g =
    let e : eqb (suffix_len p bs) (length bs) ≡ true = grind (arith, nat_tests) in
    suffix_cons p b bs
    ∙ ap (λ t. cond t (length bs + cond (p b) 1 0) (suffix_len p bs)) e
    ∙ ap (λ t. length bs + cond t 1 0) h

end_keeps : (b : ℕ) (bs : List ℕ) → suffix_len is_ascii_whitespace (b ∷ bs) ≡ suffix_len is_ascii_whitespace bs → without_end (b ∷ bs) ≡ b ∷ without_end bs
end_keeps b bs h =
    let e : length (b ∷ bs) - suffix_len is_ascii_whitespace (b ∷ bs) ≡ suc (length bs - suffix_len is_ascii_whitespace bs) = omega (arith, suffix_len-le-length is_ascii_whitespace bs) in
    ap (λ n. take n (b ∷ bs)) e

end_goes : (b : ℕ) (bs : List ℕ) → suffix_len is_ascii_whitespace (b ∷ bs) ≡ length bs + 1 → without_end (b ∷ bs) ≡ []
end_goes b bs h =
    let e : length (b ∷ bs) - suffix_len is_ascii_whitespace (b ∷ bs) ≡ 0 = omega arith in
    ap (λ n. take n (b ∷ bs)) e

-- no blank is left at the end
no_blank_end : (bs : List ℕ) → suffix_len is_ascii_whitespace (without_end bs) ≡ 0
no_blank_end [] = refl
no_blank_end (b ∷ bs) = by_first (is_ascii_whitespace b) refl (no_blank_end bs)
  where
    by_size : (t : Bool) → nat_lt (suffix_len is_ascii_whitespace bs) (length bs) ≡ t → is_ascii_whitespace b ≡ true → suffix_len is_ascii_whitespace (without_end bs) ≡ 0 → suffix_len is_ascii_whitespace (without_end (b ∷ bs)) ≡ 0
    by_size true g e h =
        let l : suffix_len is_ascii_whitespace bs < length bs = grind (arith, nat_tests) in
        let n : length (without_end bs) ≡ length bs - suffix_len is_ascii_whitespace bs = length-take-le (length bs - suffix_len is_ascii_whitespace bs) bs (omega arith) in
        ap (suffix_len is_ascii_whitespace) (end_keeps b bs (suffix_part is_ascii_whitespace b bs l))
        ∙ suffix_part is_ascii_whitespace b (without_end bs) (omega arith)
        ∙ h
    by_size false g e h =
        let l : suffix_len is_ascii_whitespace bs ≡ length bs = let m = suffix_len-le-length is_ascii_whitespace bs in grind (arith, nat_tests) in
        ap (suffix_len is_ascii_whitespace) (end_goes b bs (suffix_whole is_ascii_whitespace b bs e l))

    by_first : (t : Bool) → is_ascii_whitespace b ≡ t → suffix_len is_ascii_whitespace (without_end bs) ≡ 0 → suffix_len is_ascii_whitespace (without_end (b ∷ bs)) ≡ 0
    by_first true e h = by_size (nat_lt (suffix_len is_ascii_whitespace bs) (length bs)) refl e h
    by_first false e h =
        ap (suffix_len is_ascii_whitespace) (end_keeps b bs (suffix_solid is_ascii_whitespace b bs e))
        ∙ suffix_solid is_ascii_whitespace b (without_end bs) e
        ∙ h

end_again : (bs : List ℕ) → without_end (without_end bs) ≡ without_end bs
end_again bs =
    let e : length (without_end bs) - suffix_len is_ascii_whitespace (without_end bs) ≡ length (without_end bs) = omega (arith, no_blank_end bs) in
    take_all (length (without_end bs) - suffix_len is_ascii_whitespace (without_end bs)) (without_end bs) (omega arith)

-- a blank in front goes
pub trimmed_blank : (b : ℕ) (bs : List ℕ) → is_ascii_whitespace b ≡ true → trimmed (b ∷ bs) ≡ trimmed bs
trimmed_blank b bs h =
    let e : prefix_len is_ascii_whitespace (b ∷ bs) ≡ suc (prefix_len is_ascii_whitespace bs) = rw h (omega arith) in
    ap (λ n. without_end (drop n (b ∷ bs))) e

pub trimmed_spaces : (n : ℕ) (bs : List ℕ) → trimmed (replicate n 32 ++ bs) ≡ trimmed bs
trimmed_spaces zero bs = refl
trimmed_spaces (suc n) bs = trimmed_blank 32 (replicate n 32 ++ bs) refl ∙ trimmed_spaces n bs

-- two slashes in front stay
slashes : (l : List ℕ) → trimmed (47 ∷ 47 ∷ l) ≡ 47 ∷ 47 ∷ without_end l
slashes l =
    end_keeps 47 (47 ∷ l) (suffix_solid is_ascii_whitespace 47 (47 ∷ l) refl)
    ∙ ap (λ x. 47 ∷ x) (end_keeps 47 l (suffix_solid is_ascii_whitespace 47 l refl))

one_take : (n : ℕ) (l : List ℕ) → OneLine l → OneLine (take n l)
one_take zero [] h = tt
one_take zero (b ∷ l) h = tt
one_take (suc n) [] h = tt
one_take (suc n) (b ∷ l) h = (h.0, one_take n l h.1)

-- a comment without blanks at its end
pub record Comment (c : List ℕ) : Type 0 where
  pub line : List ℕ
  pub begins : c ≡ 47 ∷ 47 ∷ line
  pub one : OneLine line
  pub same : trimmed c ≡ c

pub trimmed_comment : (l : List ℕ) → OneLine l → Comment (trimmed (47 ∷ 47 ∷ l))
trimmed_comment l h = record {
  line = without_end l;
  begins = slashes l;
  one = one_take (length l - suffix_len is_ascii_whitespace l) l h;
  same = ap trimmed (slashes l) ∙ slashes (without_end l) ∙ ap (λ x. 47 ∷ 47 ∷ x) (end_again l) ∙ sym (slashes l);
}
