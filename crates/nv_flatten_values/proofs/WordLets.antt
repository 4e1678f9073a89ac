-- Steps that only compute words into words: well formed.
use Rattle.std.proofs.Common.{◌≡◌, ◌∙◌, refl, ap, sym, subst, ℕ, zero, suc, ◌+◌, ◌<◌, true, List, [], ◌∷◌, ◌++◌, length, get_or, set, replicate}
use Rattle.std.proofs.lemmas.Bool.{and_from}
use Rattle.nv_base.specs.declared.term.Atom.{Atom}
use Rattle.nv_base.specs.declared.term.Atom.TheVariants.{Var, Lit}
use Rattle.nv_base.specs.declared.term.Bin.TheVariants.{Or}
use Rattle.nv_base.specs.declared.term.Primitive.TheVariants.{Bin as BinOf}
use Rattle.flat_ir.specs.declared.spine.Step.{Step}
use Rattle.flat_ir.specs.declared.spine.Step.TheVariants.{Let}
use Rattle.nv_base.specs.Access.{is_known, all_known}
use Rattle.nv_flatten_values.specs.inner.Symbols.{Symbol, Word, operands, fields_of, field_named, word_operand, words_symbol}
use Rattle.nv_flatten_values.specs.inner.Well.{AreWellLets}
use Rattle.nv_flatten_values.specs.inner.Adds.{AddsLets, AddsWords}
use Rattle.nv_flatten_values.proofs.WellBasics.{knows-both, knows-left, knows-right, knows-one, knows-two, knows-first, knows-rest, knows-word, knows-field}
use Rattle.nv_flatten_values.proofs.Lets.{lets-so, known-at, adds-none, adds-then, adds-so, adds-define}
use Rattle.nv_flatten_values.proofs.PackedWords.{symbol-operands}

-- ---- a word
known-set : (known : List ℕ) (ws : List Atom) (q : ℕ) (a : Atom) → all_known known ws ≡ true → is_known known a ≡ true → all_known known (set ws q a) ≡ true
known-set known [] q a k f = refl
known-set known (b ∷ ws) zero a k f = and_from (is_known known a) (all_known known ws) f (knows-rest known b ws k)
known-set known (b ∷ ws) (suc q) a k f = and_from (is_known known b) (all_known known (set ws q a)) (knows-first known b ws k) (known-set known ws q a (knows-rest known b ws k) f)

-- two words joined
pub adds-more : (low : ℕ) (so_far more' : Atom) (steps : List Step) → AddsLets low low (so_far ∷ more' ∷ []) steps steps (more' ∷ [])
adds-more low so_far more' steps = adds-none low (so_far ∷ more' ∷ []) (more' ∷ []) steps (λ known k. knows-rest known so_far (more' ∷ []) k)

pub adds-or : (low high x : ℕ) (so_far more' : Atom) (old new : List Step) → x ≡ low → high ≡ low + 1 → new ≡ old ++ Let low (BinOf Or so_far more') ∷ [] → AddsLets low high (so_far ∷ more' ∷ []) old new (Var x ∷ [])
adds-or low high x so_far more' old new is later adds =
    adds-define low high x (so_far ∷ more' ∷ []) old new (BinOf Or so_far more') is later adds
    (λ known k. and_from (is_known known so_far) (is_known known more') (knows-first known so_far (more' ∷ []) k) (knows-first known more' [] (knows-rest known so_far (more' ∷ []) k)))

-- one of the words, joined with bits of a word
pub adds-joined : (low mid high : ℕ) (word so_far more' a : Atom) (words : List Atom) (old middle new : List Step) (q : ℕ) → so_far ≡ get_or words q so_far → q < length words
    → AddsLets low mid (word ∷ []) old middle (more' ∷ []) → AddsLets mid high (so_far ∷ more' ∷ []) middle new (a ∷ []) → AddsLets low high (word ∷ words) old new (a ∷ word ∷ words)
adds-joined low mid high word so_far more' a words old middle new q is inside m n =
    adds-then low mid high (word ∷ words) (more' ∷ word ∷ words) (a ∷ word ∷ words) old middle new
    (adds-so low mid (word ∷ []) (word ∷ words) (more' ∷ []) (more' ∷ word ∷ words) old middle m
    (λ known k. knows-one known word (knows-first known word words k))
    (λ known k f. and_from (is_known known more') (all_known known (word ∷ words)) (knows-first known more' [] f) k))
    (adds-so mid high (so_far ∷ more' ∷ []) (more' ∷ word ∷ words) (a ∷ []) (a ∷ word ∷ words) middle new n
    (λ known k. knows-two known so_far more' (known-at known words q so_far is inside (knows-rest known word words (knows-rest known more' (word ∷ words) k))) (knows-first known more' (word ∷ words) k))
    (λ known k f. and_from (is_known known a) (all_known known (word ∷ words)) (knows-first known a [] f) (knows-rest known more' (word ∷ words) k)))

pub adds-into : (low high : ℕ) (word a : Atom) (words after : List Atom) (old new : List Step) (q : ℕ) → AddsLets low high (word ∷ words) old new (a ∷ word ∷ words) → after ≡ set words q a → AddsLets low high (word ∷ words) old new after
adds-into low high word a words after old new q m is =
    subst (λ (as' : List Atom). AddsLets low high (word ∷ words) old new as') (sym is)
    (adds-so low high (word ∷ words) (word ∷ words) (a ∷ word ∷ words) (set words q a) old new m (λ known k. k)
    (λ known k f. known-set known words q a (knows-rest known word words k) (knows-first known a (word ∷ words) f)))

pub adds-into-two : (low mid high : ℕ) (word a c : Atom) (words after : List Atom) (old middle new : List Step) (q r : ℕ) → AddsLets low mid (word ∷ words) old middle (a ∷ word ∷ words) → AddsLets mid high (word ∷ []) middle new (c ∷ [])
    → after ≡ set (set words q a) r c → AddsLets low high (word ∷ words) old new after
adds-into-two low mid high word a c words after old middle new q r m n is =
    subst (λ (as' : List Atom). AddsLets low high (word ∷ words) old new as') (sym is)
    (adds-then low mid high (word ∷ words) (a ∷ word ∷ words) (set (set words q a) r c) old middle new m
    (adds-so mid high (word ∷ []) (a ∷ word ∷ words) (c ∷ []) (set (set words q a) r c) middle new n
    (λ known k. knows-one known word (knows-first known word words (knows-rest known a (word ∷ words) k)))
    (λ known k f. known-set known (set words q a) r c (known-set known words q a (knows-rest known word words (knows-rest known a (word ∷ words) k)) (knows-first known a (word ∷ words) k)) (knows-first known c [] f))))

-- ---- parts of a symbolic value
pub words-none : (low : ℕ) (s : Symbol) (steps : List Step) (words : List Atom) → AddsWords low low s steps steps words words
words-none low s steps words = adds-none low (operands s ++ words) words steps (λ known k. knows-right known (operands s) words k)

pub words-of-word : (low high : ℕ) (s : Symbol) (word : Atom) (old new : List Step) (before after : List Atom) → word ≡ word_operand s → AddsLets low high (word ∷ before) old new after → AddsWords low high s old new before after
words-of-word low high s word old new before after is m =
    adds-so low high (word ∷ before) (operands s ++ before) after after old new m
    (λ known k. and_from (is_known known word) (all_known known before)
    (subst (λ (a : Atom). is_known known a ≡ true) (sym is) (knows-word known s (knows-left known (operands s) before k))) (knows-right known (operands s) before k))
    (λ known k f. f)

pub words-of : (low high : ℕ) (s p : Symbol) (old new : List Step) (before after : List Atom) → AddsWords low high p old new before after → ((known : List ℕ) → all_known known (operands s) ≡ true → all_known known (operands p) ≡ true) → AddsWords low high s old new before after
words-of low high s p old new before after m h =
    adds-so low high (operands p ++ before) (operands s ++ before) after after old new m
    (λ known k. knows-both known (operands p) before (h known (knows-left known (operands s) before k)) (knows-right known (operands s) before k))
    (λ known k f. f)

pub words-of-part : (low high : ℕ) (s p : Symbol) (x : List ℕ) (old new : List Step) (before after : List Atom) → field_named x (fields_of s) ≡ p → AddsWords low high p old new before after → AddsWords low high s old new before after
words-of-part low high s p x old new before after is m =
    words-of low high s p old new before after m (λ known k. subst (λ (r : Symbol). all_known known (operands r) ≡ true) is (knows-field known x s k))

pub words-of-zero : (low high : ℕ) (s p : Symbol) (old new : List Step) (before after : List Atom) → p ≡ Word (Lit 0) → AddsWords low high p old new before after → AddsWords low high s old new before after
words-of-zero low high s p old new before after is m =
    words-of low high s p old new before after m (λ known k. subst (λ (r : Symbol). all_known known (operands r) ≡ true) (sym is) refl)

-- what has changed nothing before
pub words-from : (low low' high : ℕ) (s : Symbol) (old old' new : List Step) (before before' after : List Atom) → low ≡ low' → old ≡ old' → before ≡ before' → AddsWords low high s old new before after → AddsWords low' high s old' new before' after
words-from low low' high s old old' new before before' after e f g m =
    subst (λ (n : ℕ). AddsWords n high s old' new before' after) e
    (subst (λ (ss : List Step). AddsWords low high s ss new before' after) f
    (subst (λ (as' : List Atom). AddsWords low high s old new as' after) g m))

-- ---- the whole value
known-zeros : (known : List ℕ) (n : ℕ) → all_known known (replicate n (Lit 0)) ≡ true
known-zeros known zero = refl
known-zeros known (suc n) = known-zeros known n

pub lets-written : (low high n : ℕ) (s r : Symbol) (none steps : List Step) (before after : List Atom) → AddsWords low high s none steps before after → none ≡ [] → before ≡ replicate n (Lit 0) → r ≡ words_symbol after
    → AreWellLets low high (operands s) steps (operands r)
lets-written low high n s r none steps before after m noneis zeros is =
    let st : m.steps ≡ steps = sym (m.added ∙ ap (λ e. e ++ m.steps) noneis) in
    subst (λ (ss : List Step). AreWellLets low high (operands s) ss (operands r)) st
    (lets-so low high (operands s ++ before) (operands s) after (operands r) m.steps m.lets
    (λ known k. knows-both known (operands s) before k (subst (λ (as' : List Atom). all_known known as' ≡ true) (sym zeros) (known-zeros known n)))
    (λ known k f. subst (λ (as' : List Atom). all_known known as' ≡ true) (sym (ap operands is ∙ symbol-operands after)) f))

-- of an unknown layout
pub lets-empty : (low : ℕ) (s r : Symbol) (steps : List Step) → steps ≡ [] → r ≡ words_symbol [] → AreWellLets low low (operands s) steps (operands r)
lets-empty low s r steps none is = lets-written low low 0 s r steps steps [] [] (words-none low s steps []) none refl is
