-- What stands between two tokens, as it is and as it is formatted.
use Rattle.std.proofs.Common.{◌≡◌, ◌≢◌, ℕ, zero, suc, ◌*◌, ◌<◌, Bool, true, false, List, [], ◌∷◌, ◌++◌, length, eqb, refl, sym, ap, subst, ◌∙◌, arith, append_assoc, append-nil, ◌⊎◌, inl, inr}
use Rattle.std.specs.Prelude.{replicate, map, if◌then◌else◌}
use Rattle.std.specs.Char.{is_ascii_whitespace}
use Rattle.std.specs.List.{onto_first, slice_split}
use Rattle.std.proofs.lemmas.Bool.{ne_eqb}
use Rattle.std.proofs.lemmas.Bool.Decides.{nat_tests}
use Rattle.std.proofs.lemmas.List.Splits.{slice_split-cons_no, length-slice_split}
use Rattle.nv_lines.specs.Line.{Lacks}
use Rattle.nv_text.specs.Tokens.{is_space, OneLine, EndsLine}
use Rattle.nova_fmt.specs.declared.kind.Kind.{Kind}
use Rattle.nova_fmt.specs.Kinds.{is_start, joined}
use Rattle.nova_fmt.specs.Gaps.{lines, trimmed, behind, below, more_lines, comments, blanks}
use Rattle.nova_fmt.proofs.Trimmed.{Comment, trimmed_comment, trimmed_blank, trimmed_spaces}
use Rattle.nova_fmt.proofs.Writing.{lines_at, lines_whole}

-- blanks, and what follows them
pub data Gap (rest : List ℕ) : List ℕ → Type 0 where
  none : Gap rest []
  space : {b : ℕ} {g : List ℕ} → is_space b ≡ true → Gap rest g → Gap rest (b ∷ g)
  comment : {bytes : List ℕ} (line g : List ℕ) → bytes ≡ 47 ∷ 47 ∷ (line ++ g) → OneLine line → EndsLine (g ++ rest) → Gap rest g → Gap rest bytes

-- empty or a comment
abbrev pub Clean : List ℕ → Type 0
Clean [] = Unit {0}
Clean (b ∷ bs) = Comment (b ∷ bs)

-- lines between two tokens, of which the last one is empty; or those at the end of the text
abbrev pub Good : Bool → List (List ℕ) → Type 0
Good is_last [] = ⊥
Good is_last (c ∷ []) = Clean c × ((c ≡ []) ⊎ (is_last ≡ true))
Good is_last (c ∷ d ∷ cs) = Clean c × Good is_last (d ∷ cs)

clean_comment : (c : List ℕ) → Comment c → Clean c
clean_comment [] h = tt
clean_comment (b ∷ bs) h = h

good_cons : (is_last : Bool) (c : List ℕ) (cs : List (List ℕ)) → Clean c → Good is_last cs → Good is_last (c ∷ cs)
good_cons is_last c [] h g = absurd g
good_cons is_last c (d ∷ cs) h g = (h, g)

good_tail : (is_last : Bool) (c : List ℕ) (cs : List (List ℕ)) → 0 < length cs → Good is_last (c ∷ cs) → Good is_last cs
good_tail is_last c [] h g = absurd (omega arith)
good_tail is_last c (d ∷ cs) h g = g.1

-- ---- the lines of a gap

parts_some : (g : List ℕ) → 0 < length (slice_split (λ b. eqb b 10) g)
parts_some g = omega (arith, length-slice_split (λ b. eqb b 10) g)

lines_some : (g : List ℕ) → 0 < length (lines g)
lines_some g = by_parts (slice_split (λ b. eqb b 10) g) (parts_some g)
  where
    by_parts : (ps : List (List ℕ)) → 0 < length ps → 0 < length (map trimmed ps)
    by_parts [] h = absurd (omega arith)
    by_parts (p ∷ ps) h = omega arith

lines_blank : (b : ℕ) (g : List ℕ) → b ≢ 10 → is_ascii_whitespace b ≡ true → lines (b ∷ g) ≡ lines g
lines_blank b g n h = ap (map trimmed) (slice_split-cons_no (λ c. eqb c 10) b g (ne_eqb b 10 n)) ∙ by_parts (slice_split (λ c. eqb c 10) g) (parts_some g)
  where
    by_parts : (ps : List (List ℕ)) → 0 < length ps → map trimmed (onto_first b ps) ≡ map trimmed ps
    by_parts [] l = absurd (omega arith)
    by_parts (p ∷ ps) l = ap (λ x. x ∷ map trimmed ps) (trimmed_blank b p h)

space_blank : (b : ℕ) → is_space b ≡ true → is_ascii_whitespace b ≡ true
space_blank b h = grind (arith, nat_tests)

one_lacks : (l : List ℕ) → OneLine l → Lacks 10 l
one_lacks [] h = tt
one_lacks (b ∷ l) h = (h.0, one_lacks l h.1)

slashes_lack : (l : List ℕ) → OneLine l → Lacks 10 (47 ∷ 47 ∷ l)
slashes_lack l h = ((λ e. absurd (omega arith)), ((λ e. absurd (omega arith)), one_lacks l h))

-- nothing follows
abbrev pub is_nil : List ℕ → Bool
is_nil [] = true
is_nil (b ∷ bs) = false

-- what follows begins with no line feed
abbrev pub NoFeed : List ℕ → Type 0
NoFeed [] = Unit {0}
NoFeed (b ∷ bs) = b ≢ 10

comment_good : (rest line g : List ℕ) → NoFeed rest → OneLine line → EndsLine (g ++ rest) → Good (is_nil rest) (lines g) → Good (is_nil rest) (lines (47 ∷ 47 ∷ (line ++ g)))
comment_good [] line [] n o e h =
    let s : lines (47 ∷ 47 ∷ (line ++ [])) ≡ trimmed (47 ∷ 47 ∷ line) ∷ [] = ap (λ x. lines (47 ∷ 47 ∷ x)) (append-nil line) ∙ lines_whole (47 ∷ 47 ∷ line) (slashes_lack line o) in
    subst (Good true) (sym s) (clean_comment (trimmed (47 ∷ 47 ∷ line)) (trimmed_comment line o), inr refl)
comment_good (b ∷ rest) line [] n o e h = absurd (n e)
comment_good rest line (b ∷ g) n o e h =
    let s : lines (47 ∷ 47 ∷ (line ++ b ∷ g)) ≡ trimmed (47 ∷ 47 ∷ line) ∷ lines g =
    ap (λ c. lines (47 ∷ 47 ∷ (line ++ c ∷ g))) e ∙ lines_at (47 ∷ 47 ∷ line) g (slashes_lack line o) in
    let t : lines (b ∷ g) ≡ [] ∷ lines g = ap (λ c. lines (c ∷ g)) e in
    let tail = good_tail (is_nil rest) [] (lines g) (lines_some g) (subst (Good (is_nil rest)) t h) in
    subst (Good (is_nil rest)) (sym s) (good_cons (is_nil rest) (trimmed (47 ∷ 47 ∷ line)) (lines g) (clean_comment (trimmed (47 ∷ 47 ∷ line)) (trimmed_comment line o)) tail)

space_good : (rest g : List ℕ) (b : ℕ) → is_space b ≡ true → Good (is_nil rest) (lines g) → Good (is_nil rest) (lines (b ∷ g))
space_good rest g b s h = by_feed (eqb b 10) refl
  where
    by_feed : (t : Bool) → eqb b 10 ≡ t → Good (is_nil rest) (lines (b ∷ g))
    by_feed true e =
        let f : b ≡ 10 = grind (arith, nat_tests) in
        subst (λ c. Good (is_nil rest) (lines (c ∷ g))) (sym f) (good_cons (is_nil rest) [] (lines g) tt h)
    by_feed false e =
        let f : b ≢ 10 = grind (arith, nat_tests) in
        subst (Good (is_nil rest)) (sym (lines_blank b g f (space_blank b s))) h

pub gap_lines : (rest g : List ℕ) → NoFeed rest → Gap rest g → Good (is_nil rest) (lines g)
gap_lines rest g n none = (tt, inl refl)
gap_lines rest g n (space {b = b} {g = t} h d) = space_good rest t b h (gap_lines rest t n d)
gap_lines rest g n (comment line t e o f d) = subst (λ x. Good (is_nil rest) (lines x)) (sym e) (comment_good rest line t n o f (gap_lines rest t n d))

-- ---- the lines as they are written

-- spaces before a line, but before no empty one
abbrev pub pad : ℕ → List ℕ → List ℕ
pad n [] = []
pad n (b ∷ bs) = replicate n 32 ++ b ∷ bs

abbrev indent_behind : Kind → ℕ
indent_behind last = if is_start last then 0 else 1

behind_pad : (last : Kind) (c : List ℕ) → behind last c ≡ pad (indent_behind last) c
behind_pad last [] = refl
behind_pad last (b ∷ bs) = by_start (is_start last)
  where
    by_start : (t : Bool) → (if t then [] else 32 ∷ []) ++ b ∷ bs ≡ replicate (if t then 0 else 1) 32 ++ b ∷ bs
    by_start true = refl
    by_start false = refl

below_pad : (level : ℕ) (c : List ℕ) → below level c ≡ pad (2 * level) c
below_pad level [] = refl
below_pad level (b ∷ bs) = refl

spaces_gap : (n : ℕ) (rest g : List ℕ) → Gap rest g → Gap rest (replicate n 32 ++ g)
spaces_gap zero rest g h = h
spaces_gap (suc n) rest g h = space refl (spaces_gap n rest g h)

pad_gap : (n : ℕ) (rest c g : List ℕ) → Clean c → EndsLine (g ++ rest) → Gap rest g → Gap rest (pad n c ++ g)
pad_gap n rest [] g h e d = d
pad_gap n rest (b ∷ bs) g h e d =
    subst (Gap rest) (sym (append_assoc (replicate n 32) (b ∷ bs) g)) (spaces_gap n rest ((b ∷ bs) ++ g) (comment h.line g (ap (λ x. x ++ g) h.begins) h.one e d))

spaces_lack : (n : ℕ) (c : List ℕ) → Lacks 10 c → Lacks 10 (replicate n 32 ++ c)
spaces_lack zero c h = h
spaces_lack (suc n) c h = ((λ e. absurd (omega arith)), spaces_lack n c h)

pad_lacks : (n : ℕ) (c : List ℕ) → Clean c → Lacks 10 (pad n c)
pad_lacks n [] h = tt
pad_lacks n (b ∷ bs) h = spaces_lack n (b ∷ bs) (subst (Lacks 10) (sym h.begins) (slashes_lack h.line h.one))

pad_trimmed : (n : ℕ) (c : List ℕ) → Clean c → trimmed (pad n c) ≡ c
pad_trimmed n [] h = refl
pad_trimmed n (b ∷ bs) h = trimmed_spaces n (b ∷ bs) ∙ h.same

spaces_lines : (n : ℕ) → lines (replicate n 32) ≡ [] ∷ []
spaces_lines zero = refl
spaces_lines (suc n) = lines_blank 32 (replicate n 32) (λ e. absurd (omega arith)) refl ∙ spaces_lines n

spaces_only : (n : ℕ) (rest : List ℕ) → Gap rest (replicate n 32)
spaces_only n rest = subst (Gap rest) (append-nil (replicate n 32)) (spaces_gap n rest [] none)

-- the rest of a gap from a line on, and the spaces before the token
abbrev written_lines : ℕ → List ℕ → ℕ → List (List ℕ) → ℕ → List ℕ
written_lines n c level cs m = pad n c ++ (more_lines level cs ++ replicate m 32)

written_more : (n : ℕ) (c : List ℕ) (level : ℕ) (d : List ℕ) (cs : List (List ℕ)) (m : ℕ) → written_lines n c level (d ∷ cs) m ≡ pad n c ++ 10 ∷ written_lines (2 * level) d level cs m
written_more n c level d cs m =
    ap (λ x. pad n c ++ 10 ∷ x) (append_assoc (below level d) (more_lines level cs) (replicate m 32) ∙ ap (λ x. x ++ (more_lines level cs ++ replicate m 32)) (below_pad level d))

-- at the end of the text no spaces stand
abbrev AtEnd : Bool → ℕ → List ℕ → Type 0
AtEnd is_last m rest = is_last ≡ true → (m ≡ 0) × (rest ≡ [])

written_gap : (is_last : Bool) (rest : List ℕ) (cs : List (List ℕ)) (n : ℕ) (c : List ℕ) (level m : ℕ) → AtEnd is_last m rest → Good is_last (c ∷ cs) → Gap rest (written_lines n c level cs m)
written_gap is_last rest [] n c level m a (h, inl e) = subst (λ x. Gap rest (pad n x ++ replicate m 32)) (sym e) (spaces_only m rest)
written_gap is_last rest [] n c level m a (h, inr e) =
    let (f, g) = a e in
    subst (λ k. Gap rest (pad n c ++ replicate k 32)) (sym f) (subst (λ r. Gap r (pad n c ++ [])) (sym g) (pad_gap n [] c [] h tt none))
written_gap is_last rest (d ∷ cs) n c level m a h =
    subst (Gap rest) (sym (written_more n c level d cs m)) (pad_gap n rest c (10 ∷ written_lines (2 * level) d level cs m) h.0 refl (space refl (written_gap is_last rest cs (2 * level) d level m a h.1)))

written_lines_are : (is_last : Bool) (cs : List (List ℕ)) (n : ℕ) (c : List ℕ) (level m : ℕ) → (is_last ≡ true → m ≡ 0) → Good is_last (c ∷ cs) → lines (written_lines n c level cs m) ≡ c ∷ cs
written_lines_are is_last [] n c level m a (h, inl e) =
    ap (λ x. lines (pad n x ++ replicate m 32)) e ∙ spaces_lines m ∙ ap (λ x. x ∷ []) (sym e)
written_lines_are is_last [] n c level m a (h, inr e) =
    ap (λ k. lines (pad n c ++ replicate k 32)) (a e)
    ∙ ap lines (append-nil (pad n c))
    ∙ lines_whole (pad n c) (pad_lacks n c h)
    ∙ ap (λ x. x ∷ []) (pad_trimmed n c h)
written_lines_are is_last (d ∷ cs) n c level m a h =
    ap lines (written_more n c level d cs m)
    ∙ lines_at (pad n c) (written_lines (2 * level) d level cs m) (pad_lacks n c h.0)
    ∙ ap (λ x. x ∷ lines (written_lines (2 * level) d level cs m)) (pad_trimmed n c h.0)
    ∙ ap (λ x. c ∷ x) (written_lines_are is_last cs (2 * level) d level m a h.1)

comments_are : (last : Kind) (level : ℕ) (c : List ℕ) (cs : List (List ℕ)) (m : ℕ) → comments last level (c ∷ cs) ++ replicate m 32 ≡ written_lines (indent_behind last) c level cs m
comments_are last level c cs m =
    append_assoc (behind last c) (more_lines level cs) (replicate m 32)
    ∙ ap (λ x. x ++ (more_lines level cs ++ replicate m 32)) (behind_pad last c)

-- the gap before a token, as it is written
pub written_before : (rest : List ℕ) (last : Kind) (level m : ℕ) (ls : List (List ℕ)) → Good false ls → Gap rest (comments last level ls ++ replicate m 32) × (lines (comments last level ls ++ replicate m 32) ≡ ls)
written_before rest last level m [] h = absurd h
written_before rest last level m (c ∷ cs) h = (
  subst (Gap rest) (sym (comments_are last level c cs m)) (written_gap false rest cs (indent_behind last) c level m (λ e. absurd (let i : ⊥ = cc in i)) h),
  ap lines (comments_are last level c cs m) ∙ written_lines_are false cs (indent_behind last) c level m (λ e. absurd (let i : ⊥ = cc in i)) h,
)

-- what stands behind the last token, as it is written
pub written_behind : (last : Kind) (level : ℕ) (ls : List (List ℕ)) → Good true ls → Gap [] (comments last level ls) × (lines (comments last level ls) ≡ ls)
written_behind last level [] h = absurd h
written_behind last level (c ∷ cs) h =
    let e : written_lines (indent_behind last) c level cs 0 ≡ comments last level (c ∷ cs) = sym (comments_are last level c cs 0) ∙ append-nil (comments last level (c ∷ cs)) in (
      subst (Gap []) e (written_gap true [] cs (indent_behind last) c level 0 (λ i. (refl, refl)) h),
      ap lines (sym e) ∙ written_lines_are true cs (indent_behind last) c level 0 (λ i. refl) h,
    )

-- the blanks before a token are spaces
pub blanks_are : (last next : Kind) (is_first : Bool) (level : ℕ) → (m : ℕ) × (blanks last next is_first level ≡ replicate m 32)
blanks_are last next true level = (2 * level, refl)
blanks_are last next false level = by_joined (joined last next)
  where
    by_joined : (t : Bool) → (m : ℕ) × (if◌then◌else◌ {A = List ℕ} t [] (32 ∷ []) ≡ replicate m 32)
    by_joined true = (0, refl)
    by_joined false = (1, refl)
