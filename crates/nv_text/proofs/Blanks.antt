-- Which bytes are a blank.
use Rattle.std.proofs.Common.{◌≡◌, ◌≢◌, ℕ, ◌+◌, ◌≤◌, Bool, true, false, List, [], ◌∷◌, ◌++◌, length, take, drop, refl, sym, ap, subst, ◌∙◌, arith, take-append-drop, length-take}
use Rattle.std.specs.List.{prefix_len}
use Rattle.std.proofs.lemmas.Bool.Decides.{nat_tests}
use Rattle.std.proofs.lemmas.List.Sums.{prefix_len-le-length}
use Rattle.nv_text.specs.declared.spelling.Class.TheVariants.{Line}
use Rattle.nv_text.specs.inner.Classes.{in_class}
use Rattle.nv_text.specs.Spelling.{Every}
use Rattle.nv_text.specs.Tokens.{is_space, OneLine, EndsLine, Blank, space, comment}
use Rattle.nv_text.proofs.Runs.{prefix_every, prefix_cons}

no_feed : (b : ℕ) → in_class Line b ≡ true → b ≢ 10
no_feed b h = grind (arith, nat_tests)

one_line : (w : List ℕ) → Every (in_class Line) w → OneLine w
one_line [] h = tt
one_line (b ∷ w) h = (no_feed b h.0, one_line w h.1)

ends_line : (us : List ℕ) → EndsLine (drop (prefix_len (in_class Line) us) us)
ends_line [] = tt
ends_line (b ∷ us) = by_first (in_class Line b) refl (ends_line us)
  where
    feed : (b : ℕ) → in_class Line b ≡ false → b ≡ 10
    feed b h = grind (arith, nat_tests)

    by_first : (t : Bool) → in_class Line b ≡ t → EndsLine (drop (prefix_len (in_class Line) us) us) → EndsLine (drop (prefix_len (in_class Line) (b ∷ us)) (b ∷ us))
    by_first true e f = rw (prefix_cons (in_class Line) b us e) f
    by_first false e f = let g = feed b e in rw e g

comment_sized : (us : List ℕ) (n : ℕ) → n ≡ prefix_len (in_class Line) us → Blank (47 ∷ 47 ∷ us) (2 + n)
comment_sized us n e =
    let within = prefix_len-le-length (in_class Line) us in
    let inside : n ≤ length us = omega arith in
    let size : length (take n us) ≡ n = omega (arith, length-take n us) in
    let all = prefix_every (in_class Line) us in
    let end_ = ends_line us in
    let whole : 47 ∷ 47 ∷ us ≡ 47 ∷ 47 ∷ (take n us ++ drop n us) = ap (λ s. 47 ∷ 47 ∷ s) (sym (take-append-drop n us)) in
    let b = comment {bytes = 47 ∷ 47 ∷ us} (take n us) (drop n us) whole (one_line (take n us) (rw e all)) (rw e end_) in
    subst (λ m. Blank (47 ∷ 47 ∷ us) (2 + m)) size b

-- a comment up to the end of its line
pub comment_front : (bytes us : List ℕ) (n : ℕ) → bytes ≡ 47 ∷ 47 ∷ us → n ≡ 2 + prefix_len (in_class Line) us → Blank bytes n
comment_front bytes us n e g = rw (e, g) (comment_sized us (prefix_len (in_class Line) us) refl)

-- a space in front
pub space_front : (bytes us : List ℕ) (b : ℕ) → bytes ≡ b ∷ us → is_space b ≡ true → Blank bytes 1
space_front bytes us b e h = rw e (space h)

-- no blank in front
pub no_blank : (bytes us : List ℕ) (b n : ℕ) → bytes ≡ b ∷ us → is_space b ≡ false → ((rest : List ℕ) → bytes ≡ 47 ∷ 47 ∷ rest → ⊥) → Blank bytes n → ⊥
no_blank bytes us b n e h none (space {b = c} f) = let g : c ≡ b = cc in let i : true ≡ false = sym f ∙ ap is_space g ∙ h in cc
no_blank bytes us b n e h none (comment line rest f o m) = none (line ++ rest) f

-- where nothing is left, no blank
pub no_blank_left : (n : ℕ) → Blank [] n → ⊥
no_blank_left n (comment line rest f o m) = cc

-- a comment's line is the only one
line_one : (l r m s : List ℕ) → l ++ r ≡ m ++ s → OneLine l → EndsLine r → OneLine m → EndsLine s → length l ≡ length m
line_one [] r [] s e a b c d = refl
line_one [] [] (x ∷ m) s e a b c d = let f : ⊥ = cc in absurd f
line_one [] (y ∷ r) (x ∷ m) s e a b c d = let f : x ≡ y = cc in absurd (c.0 (f ∙ b))
line_one (x ∷ l) r [] [] e a b c d = let f : ⊥ = cc in absurd f
line_one (x ∷ l) r [] (y ∷ s) e a b c d = let f : x ≡ y = cc in absurd (a.0 (f ∙ d))
line_one (x ∷ l) r (y ∷ m) s e a b c d = let f : l ++ r ≡ m ++ s = cc in let i = line_one l r m s f a.1 b c.1 d in omega arith

slash_no_space : (b : ℕ) → b ≡ 47 → is_space b ≡ true → ⊥
slash_no_space b e h = let f : false ≡ true = rw e at h in cc

-- the blank in front is one
pub blank_one : (bytes : List ℕ) (n m : ℕ) → Blank bytes n → Blank bytes m → n ≡ m
blank_one bytes n m (space f) (space g) = refl
blank_one bytes n m (space {b = b} f) (comment line rest e o d) = let h : b ≡ 47 = cc in absurd (slash_no_space b h f)
blank_one bytes n m (comment line rest e o d) (space {b = b} f) = let h : b ≡ 47 = cc in absurd (slash_no_space b h f)
blank_one bytes n m (comment l r e o d) (comment l' r' e' o' d') =
    let h : l ++ r ≡ l' ++ r' = cc in
    ap (λ k. 2 + k) (line_one l r l' r' h o d o' d')
