-- Bits that are written into words, some behind others.
use Rattle.std.proofs.Common.{◌≡◌, ◌∙◌, refl, ap, sym, subst, ℕ, zero, suc, ◌+◌, ◌-◌, ◌*◌, ◌/◌, ◌%◌, ◌<◌, ◌≤◌, ◌^◌, Bool, true, if◌then◌else◌, bytes_eq, List, [], ◌∷◌, ◌++◌, length, get_or, set, replicate, append_assoc, append-nil, length-set, arith, bit_or}
use Rattle.std.proofs.lemmas.List.Elements.{All-cons, All-head, All-tail, All-set, All-get_or}
use Rattle.std.specs.Int.Bits.{or_zero_l}
use Rattle.std.proofs.lemmas.Nat.{or_of_32}
use Rattle.nv_base.specs.declared.term.Atom.{Atom}
use Rattle.nv_base.specs.declared.term.Atom.TheVariants.{Var, Lit}
use Rattle.nv_base.specs.declared.term.Bin.TheVariants.{Or}
use Rattle.nv_base.specs.declared.term.Primitive.TheVariants.{Bin as BinOf}
use Rattle.nv_base.specs.Words.{Env, atom_word, atom_words, shifted_left, shifted_right}
use Rattle.nv_ast.specs.Bits.{bits, packed, replaced}
use Rattle.nv_layout.proofs.BitLists.{length-packed}
use Rattle.nv_meaning.specs.Values.{Value, word_of}
use Rattle.nv_meaning.specs.Values as meaning
use Rattle.nv_meaning.proofs.Packed.{replaced-zeros}
use Rattle.nv_meaning.proofs.Writing.{written-more, blank-after}
use Rattle.flat_ir.specs.declared.spine.Step.{Step}
use Rattle.flat_ir.specs.declared.spine.Step.TheVariants.{Let}
use Rattle.nv_flatten_values.specs.inner.Soundness.{AreWords}
use Rattle.nv_flatten_values.specs.inner.Symbols.{Symbol, Word, Truth, Tuple, Record, NamedSymbols, no_named_symbols, named_symbol_and, operands, value_in, named_values_in, Fits, IsOlder, AreOlder, word_operand, fields_of, field_named}
use Rattle.nv_flatten_values.specs.inner.Reads.{Makes, Writes, has_symbol}
use Rattle.nv_flatten_values.proofs.Keeping.{older-later, keeps-operand, keeps-operands, keeps-value, keeps-fit}
use Rattle.nv_flatten_values.proofs.Computing.{computes-none, computes-then, computes-so, older-two, words-two, makes-there, makes-let}
use Rattle.nv_flatten_values.proofs.Leaves.{older-at, words-small, word-is}
use Rattle.nv_flatten_values.proofs.Joining.{one-joined, two-joined}
use Rattle.nv_base.proofs.WordLemmas.{length-words}
use Rattle.nv_flatten_values.proofs.SoundWords.{one-word}
use Rattle.nv_flatten_values.proofs.ValueArms.{field-value, field-older, field-fits}
use Rattle.nv_flatten_values.proofs.Following.{one-older}

-- ---- parts of a value
pub fields-values : (env : Env) (s : Symbol) → meaning.fields_of (value_in env s) ≡ named_values_in env (fields_of s)
fields-values env (Word a) = refl
fields-values env (Truth a) = refl
fields-values env (Tuple ss) = refl
fields-values env (Record fs) = refl

has-value : (env : Env) (x : List ℕ) (fs : NamedSymbols) → meaning.has_field x (named_values_in env fs) ≡ has_symbol x fs
has-value env x no_named_symbols = refl
has-value env x (named_symbol_and y s fs) = ap (λ (b : Bool). if bytes_eq x y then true else b) (has-value env x fs)

pub part-there : (env : Env) (x : List ℕ) (s : Symbol) → meaning.has_field x (meaning.fields_of (value_in env s)) ≡ has_symbol x (fields_of s)
part-there env x s = ap (meaning.has_field x) (fields-values env s) ∙ has-value env x (fields_of s)

older-none : (n : ℕ) → AreOlder n (operands (Word (Lit 0)))
older-none n = one-older n (Lit 0) tt

zero-fits : 0 < 2 ^ 32
zero-fits = omega arith

-- ---- the word that a value is
pub word-value : (env : Env) (s : Symbol) → word_of (value_in env (Word (word_operand s))) ≡ word_of (value_in env s)
word-value env (Word a) = refl
word-value env (Truth a) = refl
word-value env (Tuple ss) = refl
word-value env (Record fs) = refl

pub word-older : (n : ℕ) (s : Symbol) → AreOlder n (operands s) → AreOlder n (operands (Word (word_operand s)))
word-older n (Word a) o = o
word-older n (Truth a) o = older-none n
word-older n (Tuple ss) o = older-none n
word-older n (Record fs) o = older-none n

pub word-fits : (env : Env) (s : Symbol) → Fits env s → Fits env (Word (word_operand s))
word-fits env (Word a) f = f
word-fits env (Truth a) f = zero-fits
word-fits env (Tuple ss) f = zero-fits
word-fits env (Record fs) f = zero-fits

-- ---- writing
-- zeros, where there are zeros
pub writes-none : (fit : Type 0) (low : ℕ) (s : Symbol) (steps : List Step) (words : List Atom) (at n : ℕ) (f : Value → List ℕ) → at + n ≤ 32 * length words → ((v : Value) → f v ≡ replicate n 0) → Writes fit low low s steps steps words words at f
writes-none fit low s steps words at n f h e = record {
  steps = [];
  added = sym (append-nil steps);
  later = omega arith;
  long = refl;
  older = λ o p. p;
  by = λ q o p env g small blank.
      let bs : List ℕ = packed (atom_words env words) in
      let l : length bs ≡ 32 * length words = length-packed (atom_words env words) ∙ ap (λ k. 32 * k) (length-words env words) in
      computes-none low env (λ last. (packed (atom_words last words) ≡ replaced at (f (value_in env s)) bs) × AreWords (atom_words last words))
      (sym (ap (λ b. replaced at b bs) (e (value_in env s)) ∙ replaced-zeros at n bs (omega arith) blank), small);
}

-- of a part, or by other names
pub writes-of : (fit fit' : Type 0) (low high : ℕ) (p s : Symbol) (old new : List Step) (before after : List Atom) (at : ℕ) (f g : Value → List ℕ) → Writes fit low high p old new before after at f → (fit' → fit)
    → (AreOlder low (operands s) → AreOlder low (operands p)) → ((env : Env) → Fits env s → Fits env p) → ((env : Env) → f (value_in env p) ≡ g (value_in env s)) → Writes fit' low high s old new before after at g
writes-of fit fit' low high p s old new before after at f g m q o h e = record {
  steps = m.steps;
  added = m.added;
  later = m.later;
  long = m.long;
  older = λ r b. m.older (o r) b;
  by = λ r t b env fits small blank. computes-so low m.steps env (λ last. (packed (atom_words last after) ≡ replaced at (f (value_in env p)) (packed (atom_words env before))) × AreWords (atom_words last after))
      (λ last. (packed (atom_words last after) ≡ replaced at (g (value_in env s)) (packed (atom_words env before))) × AreWords (atom_words last after))
      (m.by (q r) (o t) b env (h env fits) small blank) (λ last k d. (d.0 ∙ ap (λ l. replaced at l (packed (atom_words env before))) (e env), d.1));
}

-- one after the other
pub writes-then : (fit one two : Type 0) (low mid high : ℕ) (s : Symbol) (old middle new : List Step) (before between after : List Atom) (first at : ℕ) (f g h : Value → List ℕ)
    → Writes one low mid s old middle before between first f → Writes two mid high s middle new between after at g → (fit → one) → (fit → two)
    → ((env : Env) → at ≡ first + length (f (value_in env s))) → ((env : Env) → first + length (f (value_in env s)) ≤ 32 * length before) → ((v : Value) → h v ≡ f v ++ g v)
    → Writes fit low high s old new before after first h
writes-then fit one two low mid high s old middle new before between after first at f g h m n p q behind inside e =
    let ml : low ≤ mid = m.later in
    let nl : mid ≤ high = n.later in
    record {
      steps = m.steps ++ n.steps;
      added = n.added ∙ ap (λ ss. ss ++ n.steps) m.added ∙ append_assoc old m.steps n.steps;
      later = omega arith;
      long = n.long ∙ m.long;
      older = λ o b. n.older (older-later low mid (operands s) ml o) (m.older o b);
      by = λ r o b env fits small blank.
          let v : Value = value_in env s in
          let bs : List ℕ = packed (atom_words env before) in
          let lb : length bs ≡ 32 * length before = length-packed (atom_words env before) ∙ ap (λ k. 32 * k) (length-words env before) in
          let room : first + length (f v) ≤ length bs = (let i : first + length (f v) ≤ 32 * length before = inside env in omega arith) in
          let H : Env → Type 0 = λ last. (packed (atom_words last after) ≡ replaced first (h v) bs) × AreWords (atom_words last after) in
          computes-then low mid m.steps n.steps env (λ last. (packed (atom_words last between) ≡ replaced first (f v) bs) × AreWords (atom_words last between)) H ml (m.by (p r) o b env fits small blank)
          (λ e1 k1 h1.
          let same : value_in e1 s ≡ v = keeps-value low env e1 s k1 o in
          computes-so mid n.steps e1 (λ last. (packed (atom_words last after) ≡ replaced at (g (value_in e1 s)) (packed (atom_words e1 between))) × AreWords (atom_words last after)) H
          (n.by (q r) (older-later low mid (operands s) ml o) (m.older o b) e1 (keeps-fit low env e1 s k1 o fits) h1.1 (blank-after first at bs (packed (atom_words e1 between)) (f v) room (behind env) h1.0 blank))
          (λ e2 k2 h2.
          (written-more first at bs (packed (atom_words e1 between)) (packed (atom_words e2 after)) (f v) (g v) (h v) room (behind env) h1.0 (h2.0 ∙ ap (λ u. replaced at (g u) (packed (atom_words e1 between))) same) (e v), h2.1)));
    }

-- ---- the bits of a word
pub words-set : (env : Env) (as' : List Atom) (q : ℕ) (a : Atom) → atom_words env (set as' q a) ≡ set (atom_words env as') q (atom_word env a)
words-set env [] q a = refl
words-set env (b ∷ as') zero a = refl
words-set env (b ∷ as') (suc q) a = ap (λ l. atom_word env b ∷ l) (words-set env as' q a)

-- into one word
pub writes-one : (fit : Type 0) (low high : ℕ) (word a : Atom) (old new : List Step) (before after : List Atom) (at n q s : ℕ) → q ≡ at / 32 → s ≡ at % 32 → s + n ≤ 32 → q < length before
    → Makes (1 ≤ 1) low high (word ∷ before) old new a (λ ws. bit_or (get_or ws (suc q) 0) (shifted_right s (shifted_left (32 - n) (get_or ws 0 0))))
    → after ≡ set before q a → Writes fit low high (Word word) old new before after at (λ v. bits n (word_of v))
writes-one fit low high word a old new before after at n q s e f few inside m is =
    let ml : low ≤ high = m.later in
    record {
      steps = m.steps;
      added = m.added;
      later = ml;
      long = ap length is ∙ length-set before q a;
      older = λ o b. subst (λ as'. AreOlder high as') (sym is) (All-set (IsOlder high) before q a (m.older (All-cons (IsOlder low) word before (All-head (IsOlder low) word [] o) b)) (older-later low high before ml b));
      by = λ r o b env fits small blank.
          let ws : List ℕ = atom_words env before in
          let w : ℕ = atom_word env word in
          let y : ℕ = bit_or (get_or ws q 0) (shifted_right s (shifted_left (32 - n) w)) in
          let lw : length ws ≡ length before = length-words env before in
          computes-so low m.steps env (λ last. (atom_word last a ≡ y) × (atom_word last a < 2 ^ 32)) (λ last. (packed (atom_words last after) ≡ replaced at (bits n w) (packed ws)) × AreWords (atom_words last after))
          (m.by (omega arith) (All-cons (IsOlder low) word before (All-head (IsOlder low) word [] o) b) env (All-cons (λ w. w < 2 ^ 32) w ws fits small))
          (λ last k h.
          let kept : atom_words last before ≡ ws = keeps-operands low env last before k b in
          let new : atom_words last after ≡ set ws q y = ap (atom_words last) is ∙ words-set last before q a ∙ ap (λ l. set l q (atom_word last a)) kept ∙ ap (λ x. set ws q x) h.0 in (
            ap packed new ∙ one-joined ws w at n q s e f few (omega arith) blank,
            subst (λ l. AreWords l) (sym new) (All-set (λ w. w < 2 ^ 32) ws q y (subst (λ x. x < 2 ^ 32) h.0 h.1) small),
          ));
    }

-- into two words
pub writes-two : (fit : Type 0) (low mid high : ℕ) (word a c : Atom) (old middle new : List Step) (before after : List Atom) (at n q s : ℕ) → q ≡ at / 32 → s ≡ at % 32 → n ≤ 32 → 33 ≤ s + n → suc q < length before
    → Makes (1 ≤ 1) low mid (word ∷ before) old middle a (λ ws. bit_or (get_or ws (suc q) 0) (shifted_right s (shifted_left (32 - n) (get_or ws 0 0))))
    → Makes (1 ≤ 1) mid high (word ∷ []) middle new c (λ ws. shifted_left (64 - s - n) (get_or ws 0 0))
    → after ≡ set (set before q a) (suc q) c → Writes fit low high (Word word) old new before after at (λ v. bits n (word_of v))
writes-two fit low mid high word a c old middle new before after at n q s e f few over inside m k is =
    let ml : low ≤ mid = m.later in
    let kl : mid ≤ high = k.later in
    record {
      steps = m.steps ++ k.steps;
      added = k.added ∙ ap (λ ss. ss ++ k.steps) m.added ∙ append_assoc old m.steps k.steps;
      later = omega arith;
      long = ap length is ∙ length-set (set before q a) (suc q) c ∙ length-set before q a;
      older = λ o b. subst (λ as'. AreOlder high as') (sym is)
          (All-set (IsOlder high) (set before q a) (suc q) c (k.older (older-later low mid (word ∷ []) ml o))
          (All-set (IsOlder high) before q a (All-head (IsOlder high) a [] (older-later mid high (a ∷ []) kl (one-older mid a (m.older (All-cons (IsOlder low) word before (All-head (IsOlder low) word [] o) b))))) (older-later low high before (omega arith) b)));
      by = λ r o b env fits small blank.
          let ws : List ℕ = atom_words env before in
          let w : ℕ = atom_word env word in
          let y : ℕ = bit_or (get_or ws q 0) (shifted_right s (shifted_left (32 - n) w)) in
          let z : ℕ = shifted_left (64 - s - n) w in
          let lw : length ws ≡ length before = length-words env before in
          let oa : IsOlder mid a = m.older (All-cons (IsOlder low) word before (All-head (IsOlder low) word [] o) b) in
          let H : Env → Type 0 = λ last. (packed (atom_words last after) ≡ replaced at (bits n w) (packed ws)) × AreWords (atom_words last after) in
          computes-then low mid m.steps k.steps env (λ last. (atom_word last a ≡ y) × (atom_word last a < 2 ^ 32)) H ml
          (m.by (omega arith) (All-cons (IsOlder low) word before (All-head (IsOlder low) word [] o) b) env (All-cons (λ w. w < 2 ^ 32) w ws fits small))
          (λ e1 k1 h1.
          let same : atom_word e1 word ≡ w = keeps-operand low env e1 word k1 (All-head (IsOlder low) word [] o) in
          computes-so mid k.steps e1 (λ last. (atom_word last c ≡ shifted_left (64 - s - n) (atom_word e1 word)) × (atom_word last c < 2 ^ 32)) H
          (k.by (omega arith) (older-later low mid (word ∷ []) ml o) e1 (one-word (atom_word e1 word) (subst (λ x. x < 2 ^ 32) (sym same) fits)))
          (λ e2 k2 h2.
          let kept : atom_words e2 before ≡ ws = keeps-operands mid e1 e2 before k2 (older-later low mid before ml b) ∙ keeps-operands low env e1 before k1 b in
          let av : atom_word e2 a ≡ y = keeps-operand mid e1 e2 a k2 oa ∙ h1.0 in
          let cv : atom_word e2 c ≡ z = h2.0 ∙ ap (shifted_left (64 - s - n)) same in
          let new : atom_words e2 after ≡ set (set ws q y) (suc q) z =
          ap (atom_words e2) is ∙ words-set e2 (set before q a) (suc q) c ∙ ap (λ l. set l (suc q) (atom_word e2 c)) (words-set e2 before q a ∙ ap (λ l. set l q (atom_word e2 a)) kept ∙ ap (λ x. set ws q x) av) ∙ ap (λ x. set (set ws q y) (suc q) x) cv in (
            ap packed new ∙ two-joined ws w at n q s e f few over (omega arith) (All-get_or (λ w. w < 2 ^ 32) ws (suc q) 0 (omega arith) small) blank,
            subst (λ l. AreWords l) (sym new) (All-set (λ w. w < 2 ^ 32) (set ws q y) (suc q) z (subst (λ x. x < 2 ^ 32) cv h2.1) (All-set (λ w. w < 2 ^ 32) ws q y (subst (λ x. x < 2 ^ 32) h1.0 h1.1) small)),
          )));
    }

-- the word so far with more joined into it
pub joined-makes : (low mid high : ℕ) (word so_far more' a : Atom) (words : List Atom) (old middle new : List Step) (q : ℕ) (f : List ℕ → ℕ) → so_far ≡ get_or words q so_far → q < length words
    → Makes (1 ≤ 1) low mid (word ∷ []) old middle more' f → Makes (1 ≤ 1) mid high (so_far ∷ more' ∷ []) middle new a (λ ws. bit_or (get_or ws 0 0) (get_or ws 1 0))
    → Makes (1 ≤ 1) low high (word ∷ words) old new a (λ ws. bit_or (get_or ws (suc q) 0) (f (get_or ws 0 0 ∷ [])))
joined-makes low mid high word so_far more' a words old middle new q f is inside m n =
    let ml : low ≤ mid = m.later in
    let nl : mid ≤ high = n.later in
    record {
      steps = m.steps ++ n.steps;
      added = n.added ∙ ap (λ ss. ss ++ n.steps) m.added ∙ append_assoc old m.steps n.steps;
      later = omega arith;
      older = λ o. n.older (older-two mid so_far more' (All-head (IsOlder mid) so_far [] (older-later low mid (so_far ∷ []) ml (one-older low so_far (older-at low q words so_far is inside (All-tail (IsOlder low) word words o))))) (m.older (one-older low word (All-head (IsOlder low) word words o))));
      by = λ r o env small.
          let ws : List ℕ = atom_words env words in
          let w : ℕ = atom_word env word in
          let ow : IsOlder low word = All-head (IsOlder low) word words o in
          let os : IsOlder low so_far = older-at low q words so_far is inside (All-tail (IsOlder low) word words o) in
          let fw : w < 2 ^ 32 = All-head (λ w. w < 2 ^ 32) w ws small in
          let fs : atom_word env so_far < 2 ^ 32 = words-small env q words so_far is inside (All-tail (λ w. w < 2 ^ 32) w ws small) in
          let H : Env → Type 0 = λ last. (atom_word last a ≡ bit_or (get_or ws q 0) (f (w ∷ []))) × (atom_word last a < 2 ^ 32) in
          computes-then low mid m.steps n.steps env (λ last. (atom_word last more' ≡ f (w ∷ [])) × (atom_word last more' < 2 ^ 32)) H ml (m.by r (one-older low word ow) env (one-word w fw))
          (λ e1 k1 h1.
          let same : atom_word e1 so_far ≡ atom_word env so_far = keeps-operand low env e1 so_far k1 os in
          computes-so mid n.steps e1 (λ last. (atom_word last a ≡ bit_or (atom_word e1 so_far) (atom_word e1 more')) × (atom_word last a < 2 ^ 32)) H
          (n.by r (older-two mid so_far more' (All-head (IsOlder mid) so_far [] (older-later low mid (so_far ∷ []) ml (one-older low so_far os))) (m.older (one-older low word ow))) e1
          (words-two (atom_word e1 so_far) (atom_word e1 more') (subst (λ x. x < 2 ^ 32) (sym same) fs) h1.1))
          (λ e2 k2 h2. (h2.0 ∙ ap (λ x. bit_or x (atom_word e1 more')) (same ∙ word-is env q words so_far is inside) ∙ ap (λ x. bit_or (get_or ws q 0) x) h1.0, h2.1)));
    }

-- nothing so far
pub joined-none : (low : ℕ) (so_far more' : Atom) (steps : List Step) → so_far ≡ Lit 0 → Makes (1 ≤ 1) low low (so_far ∷ more' ∷ []) steps steps more' (λ ws. bit_or (get_or ws 0 0) (get_or ws 1 0))
joined-none low so_far more' steps is =
    makes-there (1 ≤ 1) low (so_far ∷ more' ∷ []) steps more' (λ ws. bit_or (get_or ws 0 0) (get_or ws 1 0))
    (λ o. All-head (IsOlder low) more' [] (All-tail (IsOlder low) so_far (more' ∷ []) o))
    (λ q env ws. (
      sym (ap (λ (a : Atom). bit_or (atom_word env a) (atom_word env more')) is ∙ or_zero_l (atom_word env more')),
      All-head (λ w. w < 2 ^ 32) (atom_word env more') [] (All-tail (λ w. w < 2 ^ 32) (atom_word env so_far) (atom_word env more' ∷ []) ws),
    ))

pub joined-some : (low high x : ℕ) (so_far more' : Atom) (old new : List Step) → x ≡ low → high ≡ low + 1 → new ≡ old ++ Let low (BinOf Or so_far more') ∷ []
    → Makes (1 ≤ 1) low high (so_far ∷ more' ∷ []) old new (Var x) (λ ws. bit_or (get_or ws 0 0) (get_or ws 1 0))
joined-some low high x so_far more' old new is later adds =
    subst (λ (y : ℕ). Makes (1 ≤ 1) low high (so_far ∷ more' ∷ []) old new (Var y) (λ ws. bit_or (get_or ws 0 0) (get_or ws 1 0))) (sym is)
    (subst (λ (y : ℕ). Makes (1 ≤ 1) low y (so_far ∷ more' ∷ []) old new (Var low) (λ ws. bit_or (get_or ws 0 0) (get_or ws 1 0))) (sym later)
    (subst (λ (ss : List Step). Makes (1 ≤ 1) low (low + 1) (so_far ∷ more' ∷ []) old ss (Var low) (λ ws. bit_or (get_or ws 0 0) (get_or ws 1 0))) (sym adds)
    (makes-let (1 ≤ 1) low (so_far ∷ more' ∷ []) old (BinOf Or so_far more') (λ ws. bit_or (get_or ws 0 0) (get_or ws 1 0))
    (λ q env ws. (
      refl,
      or_of_32 (atom_word env so_far) (atom_word env more') (All-head (λ w. w < 2 ^ 32) (atom_word env so_far) (atom_word env more' ∷ []) ws)
          (All-head (λ w. w < 2 ^ 32) (atom_word env more') [] (All-tail (λ w. w < 2 ^ 32) (atom_word env so_far) (atom_word env more' ∷ []) ws)),
    )))))

-- what is never asked for
pub writes-never : (fit : Type 0) (low : ℕ) (s : Symbol) (steps : List Step) (words : List Atom) (at : ℕ) (f : Value → List ℕ) → (fit → ⊥) → Writes fit low low s steps steps words words at f
writes-never fit low s steps words at f none = record {
  steps = [];
  added = sym (append-nil steps);
  later = omega arith;
  long = refl;
  older = λ o p. p;
  by = λ q o p env g small blank. absurd (none q);
}

-- of a field
pub part-writes : (fit fit' : Type 0) (low high : ℕ) (x : List ℕ) (p s : Symbol) (old new : List Step) (before after : List Atom) (at : ℕ) (f g : Value → List ℕ) → Writes fit low high p old new before after at f → (fit' → fit) → field_named x (fields_of s) ≡ p
    → ((env : Env) → f (meaning.field_named x (meaning.fields_of (value_in env s))) ≡ g (value_in env s)) → Writes fit' low high s old new before after at g
part-writes fit fit' low high x p s old new before after at f g m q is e =
    writes-of fit fit' low high p s old new before after at f g m q
    (λ o. subst (λ (r : Symbol). AreOlder low (operands r)) is (field-older low x s o))
    (λ env h. subst (λ (r : Symbol). Fits env r) is (field-fits env x s h))
    (λ env. ap (λ (r : Symbol). f (value_in env r)) (sym is) ∙ ap f (field-value env x s) ∙ e env)
