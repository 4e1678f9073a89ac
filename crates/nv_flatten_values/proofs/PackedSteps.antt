-- How many the steps are that write a layout's fields, and how wide.
use Rattle.std.proofs.Common.{◌≡◌, ◌∙◌, refl, ap, sym, subst, ℕ, zero, suc, ◌+◌, ◌*◌, ◌/◌, ◌<◌, ◌≤◌, true, List, [], ◌∷◌, ◌++◌, append_assoc, append-nil, length, length-append, length-set, get_or, set, replicate, arith}
use Rattle.nv_base.specs.declared.term.Atom.{Atom}
use Rattle.nv_base.specs.declared.term.Atom.TheVariants.{Var, Lit}
use Rattle.nv_base.specs.declared.term.Bin.TheVariants.{Or}
use Rattle.nv_base.specs.declared.term.Primitive.TheVariants.{Bin as BinOf}
use Rattle.nv_base.specs.Words.{atom_vars}
use Rattle.nv_ast.specs.Outline.{OutlineTree, IsSound, size}
use Rattle.nv_ast.specs.Types.{form_of, can_pack}
use Rattle.flat_ir.specs.declared.flat.FlatFun.{FlatFun}
use Rattle.flat_ir.specs.declared.spine.Step.{Step}
use Rattle.flat_ir.specs.declared.spine.Step.TheVariants.{Let}
use Rattle.nv_base.specs.Sets.{all_vars}
use Rattle.flat_ir.specs.Wide.{Widths}
use Rattle.nv_flatten_values.specs.inner.Symbols.{Symbol, Word, operands, form, fields_of, field_named, word_operand, words_symbol}
use Rattle.nv_flatten_values.specs.inner.Narrow.{IsWithin, NarrowSteps, AreNarrowLets}
use Rattle.nv_flatten_values.specs.inner.Small.{PacksFew}
use Rattle.nv_flatten_values.specs.inner.Adds.{AddsWord}
use Rattle.nv_flatten_values.specs.inner.Written.{packed_layout, WritesFew}
use Rattle.nv_flatten_values.proofs.Within.{itself, of-none, one, both, unions, into-left, into-right, together, through, behind-same, grows-not, vars-length, one-operand, one-operand-back}
use Rattle.nv_flatten_values.proofs.NarrowSteps.{no-steps, recast, follow}
use Rattle.nv_flatten_values.proofs.WordSteps.{few-none, few-then, few-so, atom-length, word-none, word-define, within-at}
use Rattle.nv_flatten_values.proofs.NarrowFacts.{field-within, fields-within, word-operand-within}
use Rattle.nv_flatten_values.proofs.PackedFields.{layout-few, layout-fields, fields-fine}
use Rattle.nv_flatten_values.proofs.PackedWords.{symbol-operands}

-- less behind, and more room
less : (funs : List FlatFun) (widths : Widths) (own : ℕ) (ss : List Step) (v behind behind' : List ℕ) (m all : ℕ) → NarrowSteps funs widths own ss v [] behind m → IsWithin behind' behind → m ≤ all → NarrowSteps funs widths own ss v [] behind' all
less funs widths own ss v behind behind' m all n inside le = recast funs widths own ss v [] behind v [] behind' 0 m all n itself (grows-not [] [] itself) inside (omega arith)

-- two words joined
pub joined-none : (so_far more' : Atom) (steps : List Step) → AddsWord (so_far ∷ more' ∷ []) steps steps more' 3 1
joined-none so_far more' steps = word-none (so_far ∷ more' ∷ []) steps more' 3 1 (into-right (atom_vars more') (atom_vars so_far) (all_vars (more' ∷ [])) (one-operand more'))

pub joined-some : (so_far more' : Atom) (low x : ℕ) (old new : List Step) → x ≡ low → new ≡ old ++ Let low (BinOf Or so_far more') ∷ [] → AddsWord (so_far ∷ more' ∷ []) old new (Var x) 3 1
joined-some so_far more' low x old new is adds =
    word-define (so_far ∷ more' ∷ []) low x old new (BinOf Or so_far more') is adds (behind-same (atom_vars so_far) (atom_vars more') (all_vars (more' ∷ [])) (one-operand more'))

-- ---- words
vars-set : (ws : List Atom) (q : ℕ) (a : Atom) → IsWithin (all_vars (set ws q a)) (all_vars ws ++ atom_vars a)
vars-set [] q a = of-none (atom_vars a)
vars-set (b ∷ ws) zero a = unions (atom_vars a ∷ atom_vars b ∷ all_vars ws ∷ []) (both (one 0) (one 2)) (both (both (one 1) (one 2)) (one 0)) refl
vars-set (b ∷ ws) (suc q) a =
    through (behind-same (atom_vars b) (all_vars (set ws q a)) (all_vars ws ++ atom_vars a) (vars-set ws q a))
    (unions (atom_vars a ∷ atom_vars b ∷ all_vars ws ∷ []) (both (one 1) (both (one 2) (one 0))) (both (both (one 1) (one 2)) (one 0)) refl)

-- bits of a word, joined into one of the words
into-word : (word so_far high whole : Atom) (before : List Atom) (old mid new : List Step) (q : ℕ) → so_far ≡ get_or before q so_far → q < length before
    → (m : AddsWord (word ∷ []) old mid high 4 2) (j : AddsWord (so_far ∷ high ∷ []) mid new whole 3 1) (funs : List FlatFun) (widths : Widths) (own : ℕ) (kept : List ℕ) → IsWithin (all_vars (word ∷ [])) kept
    → NarrowSteps funs widths own (m.steps ++ j.steps) (kept ++ all_vars before) [] (kept ++ all_vars (set before q whole)) (length kept + (length before + 4))
into-word word so_far high whole before old mid new q is inside m j funs widths own kept h =
    let k0 : List ℕ = kept ++ all_vars before in
    let k1 : List ℕ = k0 ++ atom_vars high in
    let k2 : List ℕ = kept ++ all_vars (set before q whole) in
    let all : ℕ = length kept + (length before + 4) in
    let l0 : length k0 ≤ length kept + length before = omega (arith, length-append kept (all_vars before), vars-length before) in
    let l1 : length k1 ≤ length kept + (length before + 1) = omega (arith, length-append k0 (atom_vars high), atom-length high) in
    let there : IsWithin (atom_vars so_far) (all_vars before) = within-at before q so_far is inside in
    let needs : IsWithin (all_vars (so_far ∷ high ∷ [])) k1 =
    together (atom_vars so_far) (all_vars (high ∷ [])) k1 (into-left (atom_vars so_far) k0 (atom_vars high) (into-right (atom_vars so_far) kept (all_vars before) there))
    (into-right (all_vars (high ∷ [])) k0 (atom_vars high) (one-operand-back high)) in
    let behind : IsWithin k2 (k1 ++ atom_vars whole) =
    through (behind-same kept (all_vars (set before q whole)) (all_vars before ++ atom_vars whole) (vars-set before q whole))
    (unions (kept ∷ all_vars before ∷ atom_vars high ∷ atom_vars whole ∷ []) (both (one 0) (both (one 1) (one 3))) (both (both (both (one 0) (one 1)) (one 2)) (one 3)) refl) in
    follow funs widths own m.steps j.steps k0 [] k1 k2 all
    (less funs widths own m.steps k0 k1 k1 (length k0 + 4) all (m.narrow funs widths own k0 (into-left (all_vars (word ∷ [])) kept (all_vars before) h)) itself (omega arith))
    (less funs widths own j.steps k1 (k1 ++ atom_vars whole) k2 (length k1 + 3) all (j.narrow funs widths own k1 needs) behind (omega arith))

-- and the others in the next one
into-next : (word low : Atom) (before : List Atom) (old new : List Step) (q most : ℕ) (m : AddsWord (word ∷ []) old new low 3 most) (funs : List FlatFun) (widths : Widths) (own : ℕ) (kept : List ℕ) → IsWithin (all_vars (word ∷ [])) kept
    → NarrowSteps funs widths own m.steps (kept ++ all_vars before) [] (kept ++ all_vars (set before q low)) (length kept + (length before + 4))
into-next word low before old new q most m funs widths own kept h =
    let k0 : List ℕ = kept ++ all_vars before in
    let k1 : List ℕ = kept ++ all_vars (set before q low) in
    let l0 : length k0 ≤ length kept + length before = omega (arith, length-append kept (all_vars before), vars-length before) in
    let behind : IsWithin k1 (k0 ++ atom_vars low) =
    through (behind-same kept (all_vars (set before q low)) (all_vars before ++ atom_vars low) (vars-set before q low))
    (unions (kept ∷ all_vars before ∷ atom_vars low ∷ []) (both (one 0) (both (one 1) (one 2))) (both (both (one 0) (one 1)) (one 2)) refl) in
    less funs widths own m.steps k0 (k0 ++ atom_vars low) k1 (length k0 + 3) (length kept + (length before + 4)) (m.narrow funs widths own k0 (into-left (all_vars (word ∷ [])) kept (all_vars before) h)) behind (omega arith)

-- ---- fields, some behind others
pub writes-none : (fields : ℕ) (s : Symbol) (steps : List Step) (words : List Atom) (at behind : ℕ) → at / 32 ≤ behind / 32 → WritesFew fields s steps steps words words at behind
writes-none fields s steps words at behind le = record {
  steps = [];
  added = sym (append-nil steps);
  long = refl;
  narrow = λ funs widths own kept h. no-steps funs widths own (kept ++ all_vars words) [] (kept ++ all_vars words) (length kept + (length words + 4)) itself;
  across = 0;
  few = few-none (3 * fields + 2 * 0);
  some = omega arith;
  words = omega arith;
}

pub writes-one : (word so_far high whole : Atom) (before after : List Atom) (old mid new : List Step) (at behind q : ℕ) → so_far ≡ get_or before q so_far → q < length before
    → AddsWord (word ∷ []) old mid high 4 2 → AddsWord (so_far ∷ high ∷ []) mid new whole 3 1 → after ≡ set before q whole → at / 32 ≤ behind / 32 → WritesFew 1 (Word word) old new before after at behind
writes-one word so_far high whole before after old mid new at behind q is inside m j e le =
    subst (λ (as' : List Atom). WritesFew 1 (Word word) old new before as' at behind) (sym e)
    (record {
      steps = m.steps ++ j.steps;
      added = j.added ∙ ap (λ ss. ss ++ j.steps) m.added ∙ append_assoc old m.steps j.steps;
      long = length-set before q whole;
      narrow = λ funs widths own kept h. into-word word so_far high whole before old mid new q is inside m j funs widths own kept h;
      across = 0;
      few = few-then m.steps j.steps 2 1 (3 * 1 + 2 * 0) m.few j.few (omega arith);
      some = omega arith;
      words = omega arith;
    })

pub writes-two : (word so_far high whole low : Atom) (before after : List Atom) (old mid middle new : List Step) (at behind q r : ℕ) → so_far ≡ get_or before q so_far → q < length before
    → AddsWord (word ∷ []) old mid high 4 2 → AddsWord (so_far ∷ high ∷ []) mid middle whole 3 1 → AddsWord (word ∷ []) middle new low 3 1 → after ≡ set (set before q whole) r low → 1 + at / 32 ≤ behind / 32
    → WritesFew 1 (Word word) old new before after at behind
writes-two word so_far high whole low before after old mid middle new at behind q r is inside m j k e le =
    let long : length (set before q whole) ≡ length before = length-set before q whole in
    subst (λ (as' : List Atom). WritesFew 1 (Word word) old new before as' at behind) (sym e)
    (record {
      steps = (m.steps ++ j.steps) ++ k.steps;
      added = k.added ∙ ap (λ ss. ss ++ k.steps) (j.added ∙ ap (λ ss. ss ++ j.steps) m.added ∙ append_assoc old m.steps j.steps) ∙ append_assoc old (m.steps ++ j.steps) k.steps;
      long = length-set (set before q whole) r low ∙ long;
      narrow = λ funs widths own kept h.
          follow funs widths own (m.steps ++ j.steps) k.steps (kept ++ all_vars before) [] (kept ++ all_vars (set before q whole)) (kept ++ all_vars (set (set before q whole) r low)) (length kept + (length before + 4))
          (into-word word so_far high whole before old mid middle q is inside m j funs widths own kept h)
          (subst (λ n. NarrowSteps funs widths own k.steps (kept ++ all_vars (set before q whole)) [] (kept ++ all_vars (set (set before q whole) r low)) (length kept + (n + 4))) long
          (into-next word low (set before q whole) middle new r 1 k funs widths own kept h));
      across = 1;
      few = few-then (m.steps ++ j.steps) k.steps 3 1 (3 * 1 + 2 * 1) (few-then m.steps j.steps 2 1 3 m.few j.few (omega arith)) k.few (omega arith);
      some = omega arith;
      words = le;
    })

pub writes-then : (m n fields : ℕ) (s : Symbol) (old middle new : List Step) (before between after : List Atom) (first at behind : ℕ) → WritesFew m s old middle before between first at → WritesFew n s middle new between after at behind → fields ≡ m + n
    → WritesFew fields s old new before after first behind
writes-then m n fields s old middle new before between after first at behind a b e = record {
  steps = a.steps ++ b.steps;
  added = b.added ∙ ap (λ ss. ss ++ b.steps) a.added ∙ append_assoc old a.steps b.steps;
  long = b.long ∙ a.long;
  narrow = λ funs widths own kept h.
      follow funs widths own a.steps b.steps (kept ++ all_vars before) [] (kept ++ all_vars between) (kept ++ all_vars after) (length kept + (length before + 4)) (a.narrow funs widths own kept h)
      (subst (λ k. NarrowSteps funs widths own b.steps (kept ++ all_vars between) [] (kept ++ all_vars after) (length kept + (k + 4))) a.long (b.narrow funs widths own kept h));
  across = a.across + b.across;
  few = few-then a.steps b.steps (3 * m + 2 * a.across) (3 * n + 2 * b.across) (3 * fields + 2 * (a.across + b.across)) a.few b.few (omega (arith, e));
  some = omega (arith, e, a.some, b.some);
  words = omega (arith, a.words, b.words);
}

-- of a part, of at most so many fields
pub writes-of : (m n : ℕ) (p s : Symbol) (old new : List Step) (before after : List Atom) (at behind : ℕ) → WritesFew m p old new before after at behind → m ≤ n → IsWithin (all_vars (operands p)) (all_vars (operands s)) → WritesFew n s old new before after at behind
writes-of m n p s old new before after at behind a le inside = record {
  steps = a.steps;
  added = a.added;
  long = a.long;
  narrow = λ funs widths own kept h. a.narrow funs widths own kept (through inside h);
  across = a.across;
  few = few-so a.steps (3 * m + 2 * a.across) (3 * n + 2 * a.across) a.few (omega arith);
  some = omega (arith, a.some);
  words = a.words;
}

pub writes-at-most : (m n : ℕ) (s : Symbol) (old new : List Step) (before after : List Atom) (at behind : ℕ) → WritesFew m s old new before after at behind → m ≤ n → WritesFew n s old new before after at behind
writes-at-most m n s old new before after at behind a le = writes-of m n s s old new before after at behind a le itself

pub writes-word : (word : Atom) (s : Symbol) (old new : List Step) (before after : List Atom) (at behind : ℕ) → word ≡ word_operand s → WritesFew 1 (Word word) old new before after at behind → WritesFew 1 s old new before after at behind
writes-word word s old new before after at behind is a =
    writes-of 1 1 (Word word) s old new before after at behind a (omega arith)
    (subst (λ (b : Atom). IsWithin (all_vars (b ∷ [])) (all_vars (operands s))) (sym is) (through (one-operand-back (word_operand s)) (word-operand-within s)))

pub writes-part : (m n : ℕ) (x : List ℕ) (p s : Symbol) (old new : List Step) (before after : List Atom) (at behind : ℕ) → field_named x (fields_of s) ≡ p → WritesFew m p old new before after at behind → m ≤ n → WritesFew n s old new before after at behind
writes-part m n x p s old new before after at behind is a le =
    writes-of m n p s old new before after at behind a le (subst (λ (r : Symbol). IsWithin (all_vars (operands r)) (all_vars (operands s))) is (through (field-within x (fields_of s)) (fields-within s)))

pub writes-zero : (m n : ℕ) (p s : Symbol) (old new : List Step) (before after : List Atom) (at behind : ℕ) → p ≡ Word (Lit 0) → WritesFew m p old new before after at behind → m ≤ n → WritesFew n s old new before after at behind
writes-zero m n p s old new before after at behind is a le =
    writes-of m n p s old new before after at behind a le (subst (λ (r : Symbol). IsWithin (all_vars (operands r)) (all_vars (operands s))) (sym is) (of-none (all_vars (operands s))))

-- what has changed nothing before
pub writes-from : (m : ℕ) (s : Symbol) (old old' new : List Step) (before before' after : List Atom) (at behind : ℕ) → old ≡ old' → before ≡ before' → WritesFew m s old new before after at behind → WritesFew m s old' new before' after at behind
writes-from m s old old' new before before' after at behind f g a =
    subst (λ (ss : List Step). WritesFew m s ss new before' after at behind) f (subst (λ (as' : List Atom). WritesFew m s old new as' after at behind) g a)

-- ---- the whole value
zero-vars : (n : ℕ) → all_vars (replicate n (Lit 0)) ≡ []
zero-vars zero = refl
zero-vars (suc n) = zero-vars n

pub narrow-written : (m n : ℕ) (s r : Symbol) (none steps : List Step) (before after : List Atom) (at behind : ℕ) → WritesFew m s none steps before after at behind → none ≡ [] → before ≡ replicate n (Lit 0) → r ≡ words_symbol after
    → AreNarrowLets (operands s) steps (operands r)
narrow-written m n s r none steps before after at behind a noneis zeros is =
    let st : a.steps ≡ steps = sym (a.added ∙ ap (λ e. e ++ a.steps) noneis) in
    let found : operands r ≡ after = ap operands is ∙ symbol-operands after in
    let kept : List ℕ = all_vars (operands s) in
    let long : length (operands r) ≡ length before = ap length found ∙ a.long in
    let empty : all_vars before ≡ [] = ap all_vars zeros ∙ zero-vars n in
    let front : IsWithin (kept ++ all_vars before) kept = together kept (all_vars before) kept itself (subst (λ l. IsWithin l kept) (sym empty) (of-none kept)) in
    let back : IsWithin (all_vars (operands r)) (kept ++ all_vars after) = subst (λ (as' : List Atom). IsWithin (all_vars as') (kept ++ all_vars after)) (sym found) (into-right (all_vars after) kept (all_vars after) itself) in
    subst (λ (ss : List Step). AreNarrowLets (operands s) ss (operands r)) st
    (record {
      by = λ funs widths own.
          recast funs widths own a.steps (kept ++ all_vars before) [] (kept ++ all_vars after) kept [] (all_vars (operands r)) 0 (length kept + (length before + 4)) (length (operands s) + (length (operands r) + 4))
          (a.narrow funs widths own kept itself) front (grows-not [] [] itself) back (omega (arith, vars-length (operands s)));
    })

pub few-written : (o : OutlineTree) (s : Symbol) (none steps : List Step) (before after : List Atom) (behind : ℕ) → WritesFew (packed_layout o s) s none steps before after 0 behind → none ≡ [] → behind ≤ size o
    → IsSound o → can_pack (form_of o) (form s) ≡ true → PacksFew o (operands s) steps
few-written o s none steps before after behind a noneis inside sound can =
    let st : a.steps ≡ steps = sym (a.added ∙ ap (λ e. e ++ a.steps) noneis) in
    subst (λ (ss : List Step). PacksFew o (operands s) ss) st
    (record {
      fields = packed_layout o s;
      across = a.across;
      few = a.few;
      all = layout-few o 0 s;
      given = omega (arith, layout-fields o s, fields-fine o sound s can);
      some = a.some;
      words = omega (arith, a.words);
    })

-- of an unknown layout
pub narrow-empty : (s r : Symbol) (steps : List Step) → steps ≡ [] → r ≡ words_symbol [] → AreNarrowLets (operands s) steps (operands r)
narrow-empty s r steps none is = narrow-written 0 0 s r steps steps [] [] 0 0 (writes-none 0 s steps [] 0 0 (omega arith)) none refl is

pub few-empty : (o : OutlineTree) (s : Symbol) (steps : List Step) → steps ≡ [] → PacksFew o (operands s) steps
few-empty o s steps none = subst (λ (ss : List Step). PacksFew o (operands s) ss) (sym none) (record {
  fields = 0;
  across = 0;
  few = few-none (3 * 0 + 2 * 0);
  all = omega arith;
  given = omega arith;
  some = omega arith;
  words = omega arith;
})
