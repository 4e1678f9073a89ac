-- A formatted text has the text's tokens and what stands between them, and formatting changes it no more.
use Rattle.std.proofs.Common.{◌≡◌, ◌≢◌, ℕ, suc, ◌+◌, ◌-◌, ◌<◌, Bool, true, false, List, [], ◌∷◌, ◌++◌, length, take, drop, refl, sym, ap, subst, ◌∙◌, arith, append_assoc, append-nil, length-append, drop-drop, take-append-drop}
use Rattle.std.specs.Prelude.{map, nat_lt, ◌||◌, if◌then◌else◌, ◌==◌, ◌&&◌, nat_le, replicate}
use Rattle.std.proofs.lemmas.List.{take_at, drop_at, length-take-le}
use Rattle.nv_ast.specs.declared.token.Sort.{Sort}
use Rattle.nv_ast.specs.declared.token.Sort.TheVariants.{Word, Number, Key as KeySort, Sign}
use Rattle.nv_ast.specs.declared.token.Token.{Token}
use Rattle.nv_text.specs.Spelling.{Spells, Fits}
use Rattle.nv_text.specs.Tokens.{EndsLine, Blank, space as blank_space, comment as blank_comment, Longest, Reads, stop, skip, take_token, IsTokens}
use Rattle.nv_text.proofs.Bytes.{word_first, number_first, sign_first, sign_byte}
use Rattle.nv_text.specs.inner.Classes.{starts_word}
use Rattle.nova_fmt.specs.declared.kind.Kind.{Kind}
use Rattle.nova_fmt.specs.declared.kind.Kind.TheVariants.{Start, Name, Key, Operator, Not, Tilde, Mark, Dot, Open, Close, OpenBrace, CloseBrace, OpenSquare, CloseSquare}
use Rattle.nova_fmt.specs.Kinds.{kind_of, is_start, joined}
use Rattle.nova_fmt.specs.Gaps.{lines, comments, begins_line, blanks, more_lines}
use Rattle.nova_fmt.specs.Formatting.{inner_level, brackets_after, part, level_here, formatted_token, formatted_from, formatted_text}
use Rattle.nova_fmt.specs.Same.{spelling, contents, IsFormatted}
use Rattle.nova_fmt.proofs.Between.{Gap, none, space, comment, Good, NoFeed, is_nil, gap_lines, written_before, written_behind, blanks_are}
use Rattle.nova_fmt.proofs.Apart.{Apart, ends as apart_ends, spaced, token as apart_token_next, some_bytes, longest_apart}

-- a token with the lines before it
record Item : Type 0 where
  gap : List (List ℕ)
  sort : Sort
  word : List ℕ

-- bytes from a place on, cut into tokens and what stands before each, with the lines at the end
data Cut : ℕ → List ℕ → List Token → List Item → List (List ℕ) → Type 0 where
  ends : {p : ℕ} {bytes : List ℕ} {e : List (List ℕ)} → e ≡ lines bytes → Gap [] bytes → Cut p bytes [] [] e
  more : {p : ℕ} {bytes : List ℕ} {ts : List Token} {is : List Item} {e : List (List ℕ)} (g w rest : List ℕ) (ls : List (List ℕ)) (s : Sort) (first after : ℕ) → ls ≡ lines g → first ≡ p + length g → after ≡ first + length w → bytes ≡ g ++ (w ++ rest) → Gap (w ++ rest) g → Spells w s → Fits s → Longest (w ++ rest) s (length w) → Cut after rest ts is e → Cut p bytes (record { span = record { first = first; after = after }; sort = s } ∷ ts) (record { gap = ls; sort = s; word = w } ∷ is) e

-- ---- from what is read to what is cut

record Onto (n : ℕ) (bytes g rest : List ℕ) : Type 0 where
  front : List ℕ
  whole : bytes ≡ front ++ rest
  size : length front ≡ n + length g
  gap : Gap rest front

blank_onto : (rest bytes g : List ℕ) (n : ℕ) → Blank bytes n → drop n bytes ≡ g ++ rest → Gap rest g → Onto n bytes g rest
blank_onto rest bytes g n (blank_space {b = b} {bs = bs} h) e d = record {
  front = b ∷ g;
  whole = ap (λ x. b ∷ x) e;
  size = omega arith;
  gap = space h d;
}
blank_onto rest bytes g n (blank_comment line left f o m) e d =
    let i : left ≡ g ++ rest = sym (drop_at (47 ∷ 47 ∷ line) left (2 + length line) (omega arith)) ∙ ap (drop (2 + length line)) (sym f) ∙ e in
    record {
      front = 47 ∷ 47 ∷ (line ++ g);
      whole = f ∙ ap (λ x. 47 ∷ 47 ∷ (line ++ x)) i ∙ ap (λ x. 47 ∷ 47 ∷ x) (sym (append_assoc line g rest));
      size = omega (arith, length-append line g);
      gap = comment line g refl o (subst EndsLine i m) d;
    }

record Cuts (p : ℕ) (bytes : List ℕ) (ts : List Token) : Type 0 where
  items : List Item
  last : List (List ℕ)
  cut : Cut p bytes ts items last

skipped : {p n : ℕ} {bytes : List ℕ} {ts : List Token} {is : List Item} {e : List (List ℕ)} {q : ℕ} {left : List ℕ} → Cut q left ts is e → q ≡ p + n → left ≡ drop n bytes → Blank bytes n → Cuts p bytes ts
skipped {n = n} {bytes = bytes} {left = left} (ends i g) eq el b =
    let o = blank_onto [] bytes left n b (sym el ∙ sym (append-nil left)) g in
    let f : bytes ≡ o.front = o.whole ∙ append-nil o.front in
    record { items = []; last = lines bytes; cut = ends refl (subst (Gap []) (sym f) o.gap) }
skipped {p = p} {n = n} {bytes = bytes} (more {is = is} {e = e} g w rest ls s first after il ia ib ie d f h l c) eq el b =
    let o = blank_onto (w ++ rest) bytes g n b (sym el ∙ ie) d in
    let at : first ≡ p + length o.front = let z = o.size in omega arith in
    record {
      items = record { gap = lines o.front; sort = s; word = w } ∷ is;
      last = e;
      cut = more o.front w rest (lines o.front) s first after refl at ib o.whole o.gap f h l c;
    }

cut_of : {p q : ℕ} {bytes left : List ℕ} {ts : List Token} → Reads p bytes ts q left → left ≡ [] → Cuts p bytes ts
cut_of {p = p} {bytes = bytes} stop e = record { items = []; last = lines bytes; cut = ends refl (subst (Gap []) (sym e) none) }
cut_of (skip {p = p} {n = n} {bytes = bytes} b d) e =
    let c = cut_of d e in
    skipped c.cut refl refl b
cut_of (take_token {p = p} {n = n} {bytes = bytes} {ts = ts} {s = s} l f d) e =
    let c = cut_of d e in
    let whole : take n bytes ++ drop n bytes ≡ bytes = take-append-drop n bytes in
    let size : length (take n bytes) ≡ n = length-take-le n bytes l.within in
    let long : Longest (take n bytes ++ drop n bytes) s (length (take n bytes)) = subst (λ x. Longest x s (length (take n bytes))) (sym whole) (subst (λ m. Longest bytes s m) (sym size) l) in
    record {
      items = record { gap = lines []; sort = s; word = take n bytes } ∷ c.items;
      last = c.last;
      cut = more [] (take n bytes) (drop n bytes) (lines []) s p (p + n) refl (omega arith) (omega arith) (sym whole) none l.spells f long c.cut;
    }

-- ---- from what is cut to what is read

gap_reads : {rest left g : List ℕ} {ts : List Token} {p r q : ℕ} → Gap rest g → r ≡ p + length g → Reads r rest ts q left → Reads p (g ++ rest) ts q left
gap_reads {rest = rest} {left = left} {ts = ts} {p = p} {r = r} {q = q} none e d = let f : r ≡ p = omega arith in subst (λ k. Reads k rest ts q left) f d
gap_reads {rest = rest} {p = p} (space {b = b} {g = g} h c) e d =
    skip {n = 1} (blank_space h) (gap_reads {p = p + 1} c (omega arith) d)
gap_reads {rest = rest} {left = left} {ts = ts} {p = p} {q = q} (comment {bytes = bytes} line g f o m c) e d =
    let long : suc (suc (length (line ++ g))) ≡ 2 + length line + length g = omega (arith, length-append line g) in
    let size : length bytes ≡ 2 + length line + length g = ap length f ∙ long in
    let i = gap_reads {p = p + (2 + length line)} c (omega arith) d in
    let whole : bytes ++ rest ≡ 47 ∷ 47 ∷ (line ++ (g ++ rest)) = ap (λ x. x ++ rest) f ∙ ap (λ x. 47 ∷ 47 ∷ x) (append_assoc line g rest) in
    let behind : drop (2 + length line) (47 ∷ 47 ∷ (line ++ (g ++ rest))) ≡ g ++ rest = drop_at (47 ∷ 47 ∷ line) (g ++ rest) (2 + length line) (omega arith) in
    let j : Reads p (47 ∷ 47 ∷ (line ++ (g ++ rest))) ts q left = skip {n = 2 + length line} (blank_comment line (g ++ rest) refl o m) (subst (λ x. Reads (p + (2 + length line)) x ts q left) (sym behind) i) in
    subst (λ x. Reads p x ts q left) (sym whole) j

reads_of : {p q : ℕ} {bytes : List ℕ} {ts : List Token} {is : List Item} {e : List (List ℕ)} → Cut p bytes ts is e → q ≡ p + length bytes → Reads p bytes ts q []
reads_of {p = p} {q = q} {bytes = bytes} (ends i g) e = subst (λ x. Reads p x [] q []) (append-nil bytes) (gap_reads g e stop)
reads_of {p = p} {q = q} {bytes = bytes} (more {ts = ts} g w rest ls s first after il ia ib ie d f h l c) e =
    let size : length bytes ≡ length g + (length w + length rest) = ap length ie ∙ length-append g (w ++ rest) ∙ ap (λ k. length g + k) (length-append w rest) in
    let i : Reads after rest ts q [] = reads_of c (omega arith) in
    let behind : drop (length w) (w ++ rest) ≡ rest = drop_at w rest (length w) refl in
    let j : Reads first (w ++ rest) (record { span = record { first = first; after = first + length w }; sort = s } ∷ ts) q [] =
    take_token {n = length w} l h (subst (λ x. Reads (first + length w) x ts q []) (sym behind) (subst (λ k. Reads k rest ts q []) ib i)) in
    let k : Reads first (w ++ rest) (record { span = record { first = first; after = after }; sort = s } ∷ ts) q [] =
    subst (λ k. Reads first (w ++ rest) (record { span = record { first = first; after = k }; sort = s } ∷ ts) q []) (sym ib) j in
    subst (λ x. Reads p x (record { span = record { first = first; after = after }; sort = s } ∷ ts) q []) (sym ie) (gap_reads d ia k)

-- ---- what the cut says of the text and of the formatted one

gaps_of : List Item → List (List ℕ) → List (List (List ℕ))
gaps_of [] e = e ∷ []
gaps_of (i ∷ is) e = i.gap ∷ gaps_of is e

printed : Kind → ℕ → List ℕ → List Item → List (List ℕ) → List ℕ
printed last level brackets [] e = comments last (inner_level brackets) e
printed last level brackets (i ∷ is) e =
    let next = kind_of i.sort in
    let here = level_here last level brackets i.gap next in
    formatted_token last level brackets i.gap next i.word ++ printed next here (brackets_after brackets here next) is e

-- what the text has at this token
record Found (text g w rest : List ℕ) (p first after : ℕ) : Type 0 where
  gap_is : part text p first ≡ g
  word_is : part text first after ≡ w
  rest_is : drop after text ≡ rest

found : (text bytes g w rest : List ℕ) (p first after : ℕ) → drop p text ≡ bytes → first ≡ p + length g → after ≡ first + length w → bytes ≡ g ++ (w ++ rest) → Found text g w rest p first after
found text bytes g w rest p first after d ia ib ie =
    let here : drop p text ≡ g ++ (w ++ rest) = d ∙ ie in
    let at : drop first text ≡ w ++ rest = ap (λ k. drop k text) ia ∙ sym (drop-drop (length g) p text) ∙ ap (drop (length g)) here ∙ drop_at g (w ++ rest) (length g) refl in
    let behind : drop after text ≡ rest = ap (λ k. drop k text) ib ∙ sym (drop-drop (length w) first text) ∙ ap (drop (length w)) at ∙ drop_at w rest (length w) refl in
    record {
      gap_is = ap (take (first - p)) here ∙ take_at g (w ++ rest) (first - p) (omega arith);
      word_is = ap (take (after - first)) at ∙ take_at w rest (after - first) (omega arith);
      rest_is = behind;
    }

cut_sorts : {p : ℕ} {bytes : List ℕ} {ts : List Token} {is : List Item} {e : List (List ℕ)} → Cut p bytes ts is e → map (λ (t : Token). t.sort) ts ≡ map (λ (i : Item). i.sort) is
cut_sorts (ends i g) = refl
cut_sorts (more g w rest ls s first after il ia ib ie d f h l c) = ap (λ x. s ∷ x) (cut_sorts c)

cut_spellings : (text : List ℕ) {p : ℕ} {bytes : List ℕ} {ts : List Token} {is : List Item} {e : List (List ℕ)} → Cut p bytes ts is e → drop p text ≡ bytes → map (spelling text) ts ≡ map (λ (i : Item). i.word) is
cut_spellings text (ends i g) o = refl
cut_spellings text {p = p} {bytes = bytes} (more {ts = ts} {is = is} g w rest ls s first after il ia ib ie d f h l c) o =
    let h = found text bytes g w rest p first after o ia ib ie in
    ap (λ x. x ∷ map (spelling text) ts) h.word_is ∙ ap (λ x. w ∷ x) (cut_spellings text c h.rest_is)

cut_contents : (text : List ℕ) {p : ℕ} {bytes : List ℕ} {ts : List Token} {is : List Item} {e : List (List ℕ)} → Cut p bytes ts is e → drop p text ≡ bytes → contents text p ts ≡ gaps_of is e
unfolding gaps_of
cut_contents text (ends i g) o = ap (λ x. lines x ∷ []) o ∙ ap (λ x. x ∷ []) (sym i)
cut_contents text {p = p} {bytes = bytes} (more {ts = ts} g w rest ls s first after il ia ib ie d f h l c) o =
    let h = found text bytes g w rest p first after o ia ib ie in
    ap (λ x. lines x ∷ contents text after ts) h.gap_is ∙ ap (λ x. x ∷ contents text after ts) (sym il) ∙ ap (λ x. ls ∷ x) (cut_contents text c h.rest_is)

cut_formatted : (text : List ℕ) {p : ℕ} {bytes : List ℕ} {ts : List Token} {is : List Item} {e : List (List ℕ)} (last : Kind) (level : ℕ) (brackets : List ℕ) → Cut p bytes ts is e → drop p text ≡ bytes → formatted_from text last level brackets p ts ≡ printed last level brackets is e
unfolding printed
cut_formatted text last level brackets (ends i g) o = ap (λ x. comments last (inner_level brackets) (lines x)) o ∙ ap (comments last (inner_level brackets)) (sym i)
cut_formatted text {p = p} {bytes = bytes} last level brackets (more {ts = ts} {is = is} {e = e} g w rest ls s first after il ia ib ie d f h l c) o =
    let h = found text bytes g w rest p first after o ia ib ie in
    let same : lines (part text p first) ≡ ls = ap lines h.gap_is ∙ sym il in
    let next = kind_of s in
    let here : List (List ℕ) → ℕ = λ x. level_here last level brackets x next in
    ap (λ x. formatted_token last level brackets x next (part text first after) ++ formatted_from text next (here x) (brackets_after brackets (here x) next) after ts) same
    ∙ ap (λ x. formatted_token last level brackets ls next x ++ formatted_from text next (here ls) (brackets_after brackets (here ls) next) after ts) h.word_is
    ∙ ap (λ x. formatted_token last level brackets ls next w ++ x) (cut_formatted text next (here ls) (brackets_after brackets (here ls) next) c h.rest_is)

-- ---- the formatted text, cut

no_start_if : (t : Bool) (a b : Kind) → is_start a ≡ false → is_start b ≡ false → is_start (if t then a else b) ≡ false
no_start_if true a b h g = h
no_start_if false a b h g = g

kind_no_start : (s : Sort) → is_start (kind_of s) ≡ false
kind_no_start (Word x) = refl
kind_no_start (Number n) = refl
kind_no_start (KeySort n) = no_start_if (nat_lt n 12 || (n == 19)) Key Name refl refl
kind_no_start (Sign n) =
    no_start_if (n == 5) Tilde _ refl
    (no_start_if (n == 17) Not _ refl
    (no_start_if (nat_le 20 n && nat_le n 22) Mark _ refl
    (no_start_if (n == 23) Dot _ refl
    (no_start_if (n == 24) Open _ refl
    (no_start_if (n == 25) Close _ refl
    (no_start_if (n == 26) OpenBrace _ refl
    (no_start_if (n == 27) CloseBrace _ refl
    (no_start_if (n == 28) OpenSquare _ refl
    (no_start_if (n == 29) CloseSquare Operator refl refl)))))))))

letter_no_feed : (b : ℕ) → starts_word b ≡ true → b ≢ 10
letter_no_feed b h = λ e. let i : false ≡ true = rw e at h in cc

sign_no_feed : (b : ℕ) → sign_byte b ≡ true → b ≢ 10
sign_no_feed b h = λ e. let i : false ≡ true = rw e at h in cc

-- a token begins with no line feed
no_feed : (w rest : List ℕ) (s : Sort) → Spells w s → NoFeed (w ++ rest) × (is_nil (w ++ rest) ≡ false)
no_feed [] rest s f = absurd (some_bytes s f)
no_feed (b ∷ w) rest (Word x) f = (letter_no_feed b (word_first (b ∷ w) [] w b (sym (append-nil (b ∷ w))) f.0), refl)
no_feed (b ∷ w) rest (Number v) f = ((λ e. let h = number_first (b ∷ w) [] w b v (sym (append-nil (b ∷ w))) f in let i : false ≡ true = rw e at h in cc), refl)
no_feed (b ∷ w) rest (KeySort k) f = (letter_no_feed b (word_first (b ∷ w) [] w b (sym (append-nil (b ∷ w))) f.0), refl)
no_feed (b ∷ w) rest (Sign k) f = (sign_no_feed b (sign_first (b ∷ w) [] w b k (sym (append-nil (b ∷ w))) f), refl)

good_gap : (g w rest : List ℕ) (ls : List (List ℕ)) (s : Sort) → ls ≡ lines g → Gap (w ++ rest) g → Spells w s → Good false ls
good_gap g w rest ls s il d f =
    let h = no_feed w rest s f in
    subst (Good false) (sym il) (subst (λ t. Good t (lines g)) h.1 (gap_lines (w ++ rest) g h.0 d))

apart_end : (k : Kind) (level : ℕ) (e : List (List ℕ)) → is_start k ≡ false → Good true e → Apart k (comments k level e)
apart_end k level [] h g = absurd g
apart_end k level ([] ∷ []) h g = apart_ends
apart_end k level ([] ∷ d ∷ ds) h g = spaced refl
apart_end k level ((b ∷ bs) ∷ ds) h g = subst (λ t. Apart k (((if t then [] else 32 ∷ []) ++ b ∷ bs) ++ more_lines level ds)) (sym h) (spaced refl)

apart_token : (k : Kind) (level own : ℕ) (brackets : List ℕ) (ls : List (List ℕ)) (s : Sort) (w rest : List ℕ) → is_start k ≡ false → Good false ls → Spells w s → Apart k ((comments k level ls ++ (blanks k (kind_of s) (begins_line k ls) own ++ w)) ++ rest)
apart_token k level own brackets [] s w rest h g f = absurd g
apart_token k level own brackets ([] ∷ []) s w rest h g f =
    subst (λ t. Apart k ((blanks k (kind_of s) (t || false) own ++ w) ++ rest)) (sym h) (by_joined (joined k (kind_of s)) refl)
  where
    by_joined : (t : Bool) → joined k (kind_of s) ≡ t → Apart k (((if t then [] else 32 ∷ []) ++ w) ++ rest)
    by_joined true e = apart_token_next w rest s f e
    by_joined false e = spaced refl
apart_token k level own brackets ([] ∷ d ∷ ds) s w rest h g f = spaced refl
apart_token k level own brackets ((b ∷ bs) ∷ ds) s w rest h g f =
    subst (λ t. Apart k (((((if t then [] else 32 ∷ []) ++ b ∷ bs) ++ more_lines level ds) ++ (blanks k (kind_of s) (begins_line k ((b ∷ bs) ∷ ds)) own ++ w)) ++ rest)) (sym h) (spaced refl)

apart_of : {p : ℕ} {bytes : List ℕ} {ts : List Token} {is : List Item} {e : List (List ℕ)} → Cut p bytes ts is e → (k : Kind) (level : ℕ) (brackets : List ℕ) → is_start k ≡ false → Apart k (printed k level brackets is e)
unfolding printed
apart_of {bytes = bytes} (ends i g) k level brackets h = apart_end k (inner_level brackets) _ h (subst (Good true) (sym i) (gap_lines [] bytes tt g))
apart_of (more {is = is} {e = e} g w rest ls s first after il ia ib ie d f t l c) k level brackets h =
    let own = level_here k level brackets ls (kind_of s) in
    apart_token k (inner_level brackets) own brackets ls s w (printed (kind_of s) own (brackets_after brackets own (kind_of s)) is e) h (good_gap g w rest ls s il d f) f

record Recut (p : ℕ) (bytes : List ℕ) (is : List Item) (e : List (List ℕ)) : Type 0 where
  tokens : List Token
  cut : Cut p bytes tokens is e

word_some : (w : List ℕ) (s : Sort) → Spells w s → 0 < length w
word_some [] s f = absurd (some_bytes s f)
word_some (b ∷ w) s f = omega arith

-- one token of it
token_cut : (p : ℕ) (last : Kind) (level own : ℕ) (brackets : List ℕ) (ls : List (List ℕ)) (s : Sort) (w rest : List ℕ) (is : List Item) (e : List (List ℕ)) → Good false ls → Spells w s → Fits s → Apart (kind_of s) rest → ((q : ℕ) → Recut q rest is e) → Recut p ((comments last level ls ++ (blanks last (kind_of s) (begins_line last ls) own ++ w)) ++ rest) (record { gap = ls; sort = s; word = w } ∷ is) e
token_cut p last level own brackets ls s w rest is e good f t apart on =
    let (m, eb) = blanks_are last (kind_of s) (begins_line last ls) own in
    let front = comments last level ls ++ replicate m 32 in
    let gap = written_before (w ++ rest) last level m ls good in
    let whole : (comments last level ls ++ (blanks last (kind_of s) (begins_line last ls) own ++ w)) ++ rest ≡ front ++ (w ++ rest) =
    ap (λ x. (comments last level ls ++ (x ++ w)) ++ rest) eb
    ∙ ap (λ x. x ++ rest) (sym (append_assoc (comments last level ls) (replicate m 32) w))
    ∙ append_assoc front w rest in
    let first = p + length front in
    let after = first + length w in
    let c = on after in
    record {
      tokens = record { span = record { first = first; after = after }; sort = s } ∷ c.tokens;
      cut = more front w rest ls s first after (sym gap.1) refl refl whole gap.0 f t (longest_apart w rest s f (word_some w s f) apart) c.cut;
    }

recut : {p : ℕ} {bytes : List ℕ} {ts : List Token} {is : List Item} {e : List (List ℕ)} → Cut p bytes ts is e → (last : Kind) (level : ℕ) (brackets : List ℕ) (q : ℕ) → Recut q (printed last level brackets is e) is e
unfolding printed
recut {bytes = bytes} {e = e} (ends i g) last level brackets q =
    let h = written_behind last (inner_level brackets) e (subst (Good true) (sym i) (gap_lines [] bytes tt g)) in
    record { tokens = []; cut = ends (sym h.1) h.0 }
recut (more {is = is} {e = e} g w rest ls s first after il ia ib ie d f t l c) last level brackets q =
    let own = level_here last level brackets ls (kind_of s) in
    let then_ = brackets_after brackets own (kind_of s) in
    token_cut q last (inner_level brackets) own brackets ls s w (printed (kind_of s) own then_ is e) is e (good_gap g w rest ls s il d f) f t (apart_of c (kind_of s) own then_ (kind_no_start s)) (recut c (kind_of s) own then_)

-- ---- together

pub kept : (text out : List ℕ) (ts : List Token) → IsTokens text ts → out ≡ formatted_text text ts → IsFormatted text out
kept text out ts d is =
    let c = cut_of d refl in
    let r = recut c.cut Start 0 [] 0 in
    let same : formatted_text text ts ≡ printed Start 0 [] c.items c.last = cut_formatted text Start 0 [] c.cut refl in
    let made = printed Start 0 [] c.items c.last in
    let read : IsTokens made r.tokens = reads_of r.cut (omega arith) in
    let again : formatted_text made r.tokens ≡ made = cut_formatted made Start 0 [] r.cut refl in
    let whole : IsFormatted text made = record {
      tokens = ts;
      others = r.tokens;
      of_text = d;
      of_out = read;
      sorts = cut_sorts c.cut ∙ sym (cut_sorts r.cut);
      spellings = cut_spellings text c.cut refl ∙ sym (cut_spellings made r.cut refl);
      between = cut_contents text c.cut refl ∙ sym (cut_contents made r.cut refl);
      again = again;
    } in
    subst (IsFormatted text) (sym (is ∙ same)) whole
