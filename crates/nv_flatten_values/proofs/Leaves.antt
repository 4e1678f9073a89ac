-- One field of packed words.
use Rattle.std.proofs.Common.{◌≡◌, ◌∙◌, refl, ap, sym, subst, ℕ, suc, ◌+◌, ◌-◌, ◌/◌, ◌%◌, ◌^◌, ◌<◌, ◌≤◌, List, [], ◌∷◌, ◌++◌, length, get_or, add-one, arith}
use Rattle.std.proofs.lemmas.List.{get_or_default}
use Rattle.std.proofs.lemmas.List.Elements.{All-head, All-tail, All-get_or}
use Rattle.nv_base.specs.declared.term.Atom.{Atom}
use Rattle.nv_base.specs.declared.term.Atom.TheVariants.{Var}
use Rattle.nv_base.specs.declared.term.Bin.TheVariants.{Or}
use Rattle.nv_base.specs.declared.term.Primitive.TheVariants.{Bin as BinOf}
use Rattle.nv_base.specs.Words.{Env, atom_word, atom_words, shifted_left, shifted_right}
use Rattle.nv_ast.specs.Bits.{bits, number, packed, slice}
use Rattle.flat_ir.specs.declared.spine.Step.{Step}
use Rattle.flat_ir.specs.declared.spine.Step.TheVariants.{Let}
use Rattle.nv_flatten_values.specs.inner.Symbols.{IsOlder, AreOlder}
use Rattle.nv_flatten_values.specs.inner.Soundness.{AreWords}
use Rattle.nv_flatten_values.specs.inner.Reads.{Makes}
use Rattle.nv_flatten_values.proofs.Computing.{older-two, words-two, words-at, makes-of, makes-or}
use Rattle.nv_flatten_values.proofs.Cutting.{between-number, across-number, one-cut, two-cut, packed-two}
use Rattle.nv_base.proofs.WordLemmas.{length-words}
use Rattle.nv_flatten_values.proofs.SoundWords.{one-word}
use Rattle.nv_flatten_values.proofs.Following.{one-older}

-- over two words
pub across-makes : (word following high low : Atom) (first n from mid last end x : ℕ) (old m1 m2 new : List Step) → first ≤ 31 → n ≤ 32 → 33 ≤ first + n
    → Makes (1 ≤ 1) from mid (word ∷ []) old m1 high (λ ws. shifted_right (32 - n) (shifted_left first (get_or ws 0 0)))
    → Makes (1 ≤ 1) mid last (following ∷ []) m1 m2 low (λ ws. shifted_right (64 - first - n) (get_or ws 0 0))
    → x ≡ last → end ≡ last + 1 → new ≡ m2 ++ Let last (BinOf Or high low) ∷ []
    → Makes (1 ≤ 1) from end (word ∷ following ∷ []) old new (Var x) (λ ws. number (slice first n (packed ws)))
across-makes word following high low first n from mid last end x old m1 m2 new p q r m k is ends adds =
    let two : List Atom = word ∷ following ∷ [] in
    let f : List ℕ → ℕ = λ ws. shifted_right (32 - n) (shifted_left first (get_or ws 0 0)) in
    let g : List ℕ → ℕ = λ ws. shifted_right (64 - first - n) (get_or ws 1 0) in
    let left : Makes (1 ≤ 1) from mid two old m1 high f =
    makes-of (1 ≤ 1) (1 ≤ 1) from mid (word ∷ []) two old m1 high f f m (λ h. h)
    (λ o. one-older from word (All-head (IsOlder from) word (following ∷ []) o))
    (λ env ws. one-word (atom_word env word) (All-head (λ w. w < 2 ^ 32) (atom_word env word) (atom_word env following ∷ []) ws))
    (λ h env ws. refl) in
    let right : Makes (1 ≤ 1) mid last two m1 m2 low g =
    makes-of (1 ≤ 1) (1 ≤ 1) mid last (following ∷ []) two m1 m2 low (λ ws. shifted_right (64 - first - n) (get_or ws 0 0)) g k (λ h. h)
    (λ o. All-tail (IsOlder mid) word (following ∷ []) o)
    (λ env ws. All-tail (λ w. w < 2 ^ 32) (atom_word env word) (atom_word env following ∷ []) ws)
    (λ h env ws. refl) in
    let both : Makes (1 ≤ 1) from (last + 1) two old (m2 ++ Let last (BinOf Or high low) ∷ []) (Var last) (λ ws. number (slice first n (packed ws))) =
    makes-of (1 ≤ 1) (1 ≤ 1) from (last + 1) two two old (m2 ++ Let last (BinOf Or high low) ∷ []) (Var last) _ (λ ws. number (slice first n (packed ws)))
    (makes-or (1 ≤ 1) from mid last two old m1 m2 high low f g left right) (λ h. h) (λ o. o) (λ env ws. ws)
    (λ h env ws. across-number (atom_word env word) (atom_word env following) first n (All-head (λ w. w < 2 ^ 32) (atom_word env following) [] (All-tail (λ w. w < 2 ^ 32) (atom_word env word) (atom_word env following ∷ []) ws)) p q r
    ∙ ap (λ l. number (slice first n l)) (sym (packed-two (atom_word env word) (atom_word env following)))) in
    subst (λ (y : ℕ). Makes (1 ≤ 1) from end two old new (Var y) (λ ws. number (slice first n (packed ws)))) (sym is)
    (subst (λ (y : ℕ). Makes (1 ≤ 1) from y two old new (Var last) (λ ws. number (slice first n (packed ws)))) (sym ends)
    (subst (λ (ss : List Step). Makes (1 ≤ 1) from (last + 1) two old ss (Var last) (λ ws. number (slice first n (packed ws)))) (sym adds) both))

pub older-at : (low q : ℕ) (words : List Atom) (word : Atom) → word ≡ get_or words q word → q < length words → AreOlder low words → IsOlder low word
older-at low q words word e h o = subst (IsOlder low) (sym e) (All-get_or (IsOlder low) words q word h o)

pub words-small : (env : Env) (q : ℕ) (words : List Atom) (word : Atom) → word ≡ get_or words q word → q < length words → AreWords (atom_words env words) → atom_word env word < 2 ^ 32
words-small env q words word e h ws =
    let at : get_or (atom_words env words) q 0 ≡ atom_word env word = words-at env words q word h ∙ ap (atom_word env) (sym e) in
    let long : length (atom_words env words) ≡ length words = length-words env words in
    subst (λ w. w < 2 ^ 32) at (All-get_or (λ w. w < 2 ^ 32) (atom_words env words) q 0 (omega arith) ws)

pub word-is : (env : Env) (q : ℕ) (words : List Atom) (word : Atom) → word ≡ get_or words q word → q < length words → atom_word env word ≡ get_or (atom_words env words) q 0
word-is env q words word e h = sym (words-at env words q word h ∙ ap (atom_word env) (sym e))

-- a field in one of the words
pub one-makes : (fit : Type 0) (words : List Atom) (word a : Atom) (at n q s low high : ℕ) (old new : List Step) → q ≡ at / 32 → s ≡ at % 32 → s + n ≤ 32 → word ≡ get_or words q word → q < length words
    → Makes (1 ≤ 1) low high (word ∷ []) old new a (λ ws. shifted_right (32 - n) (shifted_left s (get_or ws 0 0)))
    → Makes fit low high words old new a (λ ws. number (slice at n (packed ws)))
one-makes fit words word a at n q s low high old new e f few is inside m =
    makes-of (1 ≤ 1) fit low high (word ∷ []) words old new a (λ ws. shifted_right (32 - n) (shifted_left s (get_or ws 0 0))) (λ ws. number (slice at n (packed ws))) m
    (λ h. (let t : 1 ≤ 1 = omega arith in t))
    (λ o. one-older low word (older-at low q words word is inside o))
    (λ env ws. one-word (atom_word env word) (words-small env q words word is inside ws))
    (λ h env ws.
    let long : length (atom_words env words) ≡ length words = length-words env words in
    between-number (atom_word env word) s n few
    ∙ ap (λ w. number (slice s n (bits 32 w))) (word-is env q words word is inside)
    ∙ ap number (sym (one-cut (atom_words env words) at n q s e f few (omega arith))))

-- a field over two of the words
pub two-makes : (fit : Type 0) (words : List Atom) (word following a : Atom) (at n q s low high : ℕ) (old new : List Step) → q ≡ at / 32 → s ≡ at % 32 → n ≤ 32 → word ≡ get_or words q word → following ≡ get_or words (suc q) following → suc q < length words
    → Makes (1 ≤ 1) low high (word ∷ following ∷ []) old new a (λ ws. number (slice s n (packed ws)))
    → Makes fit low high words old new a (λ ws. number (slice at n (packed ws)))
two-makes fit words word following a at n q s low high old new e f few is next inside m =
    let first : q < length words = omega arith in
    makes-of (1 ≤ 1) fit low high (word ∷ following ∷ []) words old new a (λ ws. number (slice s n (packed ws))) (λ ws. number (slice at n (packed ws))) m
    (λ h. (let t : 1 ≤ 1 = omega arith in t))
    (λ o. older-two low word following (older-at low q words word is first o) (older-at low (suc q) words following next inside o))
    (λ env ws. words-two (atom_word env word) (atom_word env following) (words-small env q words word is first ws) (words-small env (suc q) words following next inside ws))
    (λ h env ws.
    let long : length (atom_words env words) ≡ length words = length-words env words in
    ap (λ l. number (slice s n l)) (packed-two (atom_word env word) (atom_word env following))
    ∙ ap (λ w. number (slice s n (bits 32 w ++ bits 32 (atom_word env following)))) (word-is env q words word is first)
    ∙ ap (λ w. number (slice s n (bits 32 (get_or (atom_words env words) q 0) ++ bits 32 w))) (word-is env (suc q) words following next inside)
    ∙ ap number (sym (two-cut (atom_words env words) at n q s e f few (omega arith))))

-- the word after another one
pub item-next : (words : List Atom) (q : ℕ) (d : Atom) → suc q < length words → get_or words (q + 1) d ≡ get_or words (suc q) (get_or words (q + 1) d)
item-next words q d h = ap (λ k. get_or words k d) (add-one q) ∙ get_or_default words (suc q) d (get_or words (q + 1) d) h
