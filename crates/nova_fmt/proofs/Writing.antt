-- What the loops have written.
use Rattle.std.proofs.Common.{◌≡◌, ℕ, suc, ◌+◌, ◌-◌, ◌<◌, ◌≤◌, List, [], ◌∷◌, ◌++◌, length, get_or, drop, true, false, eqb, refl, sym, ap, ◌∙◌, append_assoc, arith}
use Rattle.std.specs.Prelude.{replicate, nat_lt, map, count_by}
use Rattle.std.specs.List.{onto_first, slice_split}
use Rattle.std.proofs.lemmas.List.{append-nil, at_drop_more, at_drop_all, length-map}
use Rattle.std.proofs.lemmas.List.Splits.{slice_split-cons_no, length-slice_split}
use Rattle.std.proofs.lemmas.Bool.{ne_eqb}
use Rattle.std.proofs.lemmas.Bool.Decides.{nat_tests}
use Rattle.nv_ast.specs.declared.token.Token.{Token}
use Rattle.nv_lines.specs.Line.{Lacks}
use Rattle.nova_fmt.specs.declared.kind.Kind.{Kind}
use Rattle.nova_fmt.specs.Kinds.{kind_of}
use Rattle.nova_fmt.specs.Gaps.{lines, trimmed, behind, below, more_lines, comments}
use Rattle.nova_fmt.specs.Formatting.{inner_level, part, level_here, brackets_after, formatted_token, formatted_from}

-- a line ends at the first line feed
cut_at : (front rest : List ℕ) → Lacks 10 front → slice_split (λ b. eqb b 10) (front ++ 10 ∷ rest) ≡ front ∷ slice_split (λ b. eqb b 10) rest
cut_at [] rest h = refl
cut_at (x ∷ xs) rest h = slice_split-cons_no (λ b. eqb b 10) x (xs ++ 10 ∷ rest) (ne_eqb x 10 h.0) ∙ ap (onto_first x) (cut_at xs rest h.1)

cut_whole : (line : List ℕ) → Lacks 10 line → slice_split (λ b. eqb b 10) line ≡ line ∷ []
cut_whole [] h = refl
cut_whole (x ∷ xs) h = slice_split-cons_no (λ b. eqb b 10) x xs (ne_eqb x 10 h.0) ∙ ap (onto_first x) (cut_whole xs h.1)

pub lines_at : (front rest : List ℕ) → Lacks 10 front → lines (front ++ 10 ∷ rest) ≡ trimmed front ∷ lines rest
lines_at front rest h = ap (map trimmed) (cut_at front rest h)

pub lines_whole : (line : List ℕ) → Lacks 10 line → lines line ≡ trimmed line ∷ []
lines_whole line h = ap (map trimmed) (cut_whole line h)

-- a gap has one line at least
lines_some : (gap : List ℕ) → length (lines gap) ≡ count_by (λ b. eqb b 10) gap + 1
lines_some gap = length-map (slice_split (λ b. eqb b 10) gap) trimmed ∙ length-slice_split (λ b. eqb b 10) gap

pub space_written : (old new : List ℕ) (n m : ℕ) (goal : List ℕ) → new ≡ old ++ 32 ∷ [] → 0 < n → m ≡ n - 1 → old ++ replicate n 32 ≡ goal → new ++ replicate m 32 ≡ goal
space_written old new n m goal w some e h =
    let f : n ≡ suc m = omega arith in
    ap (λ o. o ++ replicate m 32) w ∙ append_assoc old (32 ∷ []) (replicate m 32) ∙ sym (ap (λ k. old ++ replicate k 32) f) ∙ h

pub spaces_end : (out : List ℕ) (n : ℕ) (goal : List ℕ) → n ≤ 0 → out ++ replicate n 32 ≡ goal → out ≡ goal
spaces_end out n goal l h =
    let f : n ≡ 0 = omega arith in
    sym (append-nil out) ∙ sym (ap (λ k. out ++ replicate k 32) f) ∙ h

pub line_written : (level : ℕ) (bytes first more old new goal : List ℕ) → bytes ≡ first ++ 10 ∷ more → Lacks 10 first → new ≡ old ++ 10 ∷ below level (trimmed first) → old ++ more_lines level (lines bytes) ≡ goal → new ++ more_lines level (lines more) ≡ goal
line_written level bytes first more old new goal e l w h =
    ap (λ o. o ++ more_lines level (lines more)) w
    ∙ append_assoc old (10 ∷ below level (trimmed first)) (more_lines level (lines more))
    ∙ sym (ap (λ b. old ++ more_lines level (lines b)) e ∙ ap (λ ls. old ++ more_lines level ls) (lines_at first more l))
    ∙ h

pub last_written : (level : ℕ) (bytes old new goal : List ℕ) → Lacks 10 bytes → new ≡ old ++ 10 ∷ below level (trimmed bytes) → old ++ more_lines level (lines bytes) ≡ goal → new ≡ goal
last_written level bytes old new goal l w h =
    w
    ∙ ap (λ o. old ++ 10 ∷ o) (sym (append-nil (below level (trimmed bytes))))
    ∙ sym (ap (λ ls. old ++ more_lines level ls) (lines_whole bytes l))
    ∙ h

pub comments_more : (last : Kind) (level : ℕ) (gap first more old mid new : List ℕ) → gap ≡ first ++ 10 ∷ more → Lacks 10 first → mid ≡ old ++ behind last (trimmed first) → new ≡ mid ++ more_lines level (lines more) → new ≡ old ++ comments last level (lines gap)
comments_more last level gap first more old mid new e l w v =
    v
    ∙ ap (λ o. o ++ more_lines level (lines more)) w
    ∙ append_assoc old (behind last (trimmed first)) (more_lines level (lines more))
    ∙ sym (ap (λ b. old ++ comments last level (lines b)) e ∙ ap (λ ls. old ++ comments last level ls) (lines_at first more l))

pub comments_one : (last : Kind) (level : ℕ) (gap old new : List ℕ) → Lacks 10 gap → new ≡ old ++ behind last (trimmed gap) → new ≡ old ++ comments last level (lines gap)
comments_one last level gap old new l w =
    w
    ∙ ap (λ o. old ++ o) (sym (append-nil (behind last (trimmed gap))))
    ∙ sym (ap (λ ls. old ++ comments last level ls) (lines_whole gap l))

pub ends_more : (gap first more : List ℕ) → gap ≡ first ++ 10 ∷ more → Lacks 10 first → true ≡ nat_lt 1 (length (lines gap))
ends_more gap first more e l =
    let f : length (lines gap) ≡ suc (length (lines more)) = ap (λ b. length (lines b)) e ∙ ap length (lines_at first more l) in
    let g = lines_some more in
    grind (arith, nat_tests)

pub ends_one : (gap : List ℕ) → Lacks 10 gap → false ≡ nat_lt 1 (length (lines gap))
ends_one gap l = sym (ap (λ ls. nat_lt 1 (length ls)) (lines_whole gap l))

pub written_more : (text : List ℕ) (ts : List Token) (i : ℕ) (t : Token) (last last' : Kind) (level level' : ℕ) (brackets brackets' : List ℕ) (at at' : ℕ) (out out' goal : List ℕ) → i < length ts → t ≡ get_or ts i t
    → out' ≡ out ++ formatted_token last level brackets (lines (part text at t.span.first)) (kind_of t.sort) (part text t.span.first t.span.after)
    → last' ≡ kind_of t.sort → level' ≡ level_here last level brackets (lines (part text at t.span.first)) (kind_of t.sort)
    → brackets' ≡ brackets_after brackets (level_here last level brackets (lines (part text at t.span.first)) (kind_of t.sort)) (kind_of t.sort) → at' ≡ t.span.after
    → out ++ formatted_from text last level brackets at (drop i ts) ≡ goal
    → out' ++ formatted_from text last' level' brackets' at' (drop (i + 1) ts) ≡ goal
written_more text ts i t last last' level level' brackets brackets' at at' out out' goal l is w a b c d h =
    let ls = lines (part text at t.span.first) in
    let next = kind_of t.sort in
    let here = level_here last level brackets ls next in
    let token = formatted_token last level brackets ls next (part text t.span.first t.span.after) in
    let rest = formatted_from text next here (brackets_after brackets here next) t.span.after (drop (i + 1) ts) in
    let same : formatted_from text last' level' brackets' at' (drop (i + 1) ts) ≡ rest =
    ap (λ k. formatted_from text k level' brackets' at' (drop (i + 1) ts)) a
    ∙ ap (λ k. formatted_from text next k brackets' at' (drop (i + 1) ts)) b
    ∙ ap (λ k. formatted_from text next here k at' (drop (i + 1) ts)) c
    ∙ ap (λ k. formatted_from text next here (brackets_after brackets here next) k (drop (i + 1) ts)) d in
    let split : formatted_from text last level brackets at (drop i ts) ≡ token ++ rest =
    at_drop_more (formatted_from text last level brackets at) ts i t l ∙ ap (λ u. formatted_from text last level brackets at (u ∷ drop (i + 1) ts)) (sym is) in
    ap (λ o. o ++ formatted_from text last' level' brackets' at' (drop (i + 1) ts)) w
    ∙ ap (λ r. (out ++ token) ++ r) same
    ∙ append_assoc out token rest
    ∙ sym (ap (λ o. out ++ o) split)
    ∙ h

pub written_all : (text : List ℕ) (ts : List Token) (i : ℕ) (last : Kind) (level : ℕ) (brackets : List ℕ) (at : ℕ) (out out' goal : List ℕ) → length ts ≤ i
    → out' ≡ out ++ comments last (inner_level brackets) (lines (drop at text))
    → out ++ formatted_from text last level brackets at (drop i ts) ≡ goal
    → out' ≡ goal
written_all text ts i last level brackets at out out' goal l w h =
    w ∙ sym (ap (λ o. out ++ o) (at_drop_all (formatted_from text last level brackets at) ts i l)) ∙ h
