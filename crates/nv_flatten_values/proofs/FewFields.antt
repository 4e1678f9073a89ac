-- Fields that are read out of words, some behind others: how wide the steps are, and how many.
use Rattle.std.proofs.Common.{◌≡◌, ◌∙◌, ap, sym, subst, ℕ, ◌+◌, ◌*◌, ◌≤◌, List, [], ◌∷◌, ◌++◌, append_assoc, append-nil, length, length-append, arith}
use Rattle.nv_base.specs.declared.term.Atom.{Atom}
use Rattle.nv_base.specs.Words.{atom_vars}
use Rattle.flat_ir.specs.declared.spine.Step.{Step}
use Rattle.nv_base.specs.Sets.{all_vars}
use Rattle.nv_flatten_values.specs.inner.Symbols.{Symbol, Word, Record, NamedSymbols, no_named_symbols, named_symbol_and, operands, named_operands}
use Rattle.nv_flatten_values.specs.inner.View.{Named, list_named_symbols}
use Rattle.nv_flatten_values.specs.inner.Reads.{◌++_symbols◌}
use Rattle.nv_flatten_values.specs.inner.Narrow.{IsWithin, AreNarrowLets}
use Rattle.nv_flatten_values.specs.inner.Small.{AreFewLets}
use Rattle.nv_flatten_values.specs.inner.Adds.{AddsWord}
use Rattle.nv_flatten_values.specs.inner.FewReads.{ReadsFew}
use Rattle.nv_flatten_values.proofs.Within.{itself, together, into-left, into-right, grows-by, grows-not, all-vars-append, vars-length, one-operand-back}
use Rattle.nv_flatten_values.proofs.NarrowSteps.{no-steps, recast, follow, beside}
use Rattle.nv_flatten_values.proofs.WordSteps.{few-none, few-then}
use Rattle.nv_flatten_values.proofs.Reading.{operands-append}

-- the variables of operands, and of both parts of some
vars-left : (a b : List Atom) → IsWithin (all_vars a) (all_vars (a ++ b))
vars-left a b = subst (λ l. IsWithin (all_vars a) l) (sym (all-vars-append a b)) (into-left (all_vars a) (all_vars a) (all_vars b) itself)

vars-right : (a b : List Atom) → IsWithin (all_vars b) (all_vars (a ++ b))
vars-right a b = subst (λ l. IsWithin (all_vars b) l) (sym (all-vars-append a b)) (into-right (all_vars b) (all_vars a) (all_vars b) itself)

vars-both : (a b : List Atom) (c : List ℕ) → IsWithin (all_vars a) c → IsWithin (all_vars b) c → IsWithin (all_vars (a ++ b)) c
vars-both a b c p q = subst (λ l. IsWithin l c) (sym (all-vars-append a b)) (together (all_vars a) (all_vars b) c p q)

-- what comes after the fields
last-field : (before after : NamedSymbols) (x : List ℕ) (s : Symbol) → after ≡ before ++_symbols named_symbol_and x s no_named_symbols → named_operands after ≡ named_operands before ++ operands s
last-field before after x s is = ap named_operands is ∙ operands-append before (named_symbol_and x s no_named_symbols) ∙ ap (λ l. named_operands before ++ l) (append-nil (operands s))

pub reads-few-none : (words : List Atom) (steps : List Step) (fields : NamedSymbols) (n : ℕ) → ReadsFew words steps steps fields fields n
reads-few-none words steps fields n = record {
  steps = [];
  added = sym (append-nil steps);
  more = (let e : length (named_operands fields) ≤ length (named_operands fields) = omega arith in e);
  narrow = λ funs widths own. let all = all_vars (words ++ named_operands fields) in no-steps funs widths own all [] all (length words + (length (named_operands fields) + 4)) itself;
  few = few-none (4 * n);
}

-- some fields behind others
pub reads-few-turn : (words : List Atom) (old middle new : List Step) (before between after : NamedSymbols) (m n all : ℕ) → ReadsFew words old middle before between m → ReadsFew words middle new between after n → m + n ≡ all
    → ReadsFew words old new before after all
reads-few-turn words old middle new before between after m n all v w is = record {
  steps = v.steps ++ w.steps;
  added = w.added ∙ ap (λ ss. ss ++ w.steps) v.added ∙ append_assoc old v.steps w.steps;
  more = (let e : length (named_operands before) ≤ length (named_operands after) = omega (arith, v.more, w.more) in e);
  narrow = λ funs widths own.
      let from = all_vars (words ++ named_operands before) in
      let mid = all_vars (words ++ named_operands between) in
      let to = all_vars (words ++ named_operands after) in
      let room = length words + (length (named_operands after) + 4) in
      let less : 0 + (length words + (length (named_operands between) + 4)) ≤ room = omega (arith, w.more) in
      follow funs widths own v.steps w.steps from [] mid to room
      (recast funs widths own v.steps from [] mid from [] mid 0 (length words + (length (named_operands between) + 4)) room (v.narrow funs widths own) itself (grows-not [] [] itself) itself less)
      (w.narrow funs widths own);
  few = few-then v.steps w.steps (4 * m) (4 * n) (4 * all) v.few w.few (omega (arith, is));
}

-- a word
pub reads-few-word : (words : List Atom) (x : List ℕ) (a : Atom) (old new : List Step) (before after : NamedSymbols) → AddsWord words old new a 5 4 → after ≡ before ++_symbols named_symbol_and x (Word a) no_named_symbols
    → ReadsFew words old new before after 1
reads-few-word words x a old new before after v is =
    let as' = named_operands before in
    let bs = named_operands after in
    let behind : bs ≡ as' ++ a ∷ [] = last-field before after x (Word a) is in
    let long : length bs ≡ length as' + 1 = ap length behind ∙ length-append as' (a ∷ []) in
    record {
      steps = v.steps;
      added = v.added;
      more = (let e : length as' ≤ length bs = omega (arith, long) in e);
      narrow = λ funs widths own.
          let kept = all_vars (words ++ as') in
          let room = length words + (length bs + 4) in
          let le : 0 + (length kept + 5) ≤ room = omega (arith, long, vars-length (words ++ as'), length-append words as') in
          recast funs widths own v.steps kept [] (kept ++ atom_vars a) kept [] (all_vars (words ++ bs)) 0 (length kept + 5) room
          (v.narrow funs widths own kept (vars-left words as')) itself (grows-not [] [] itself)
          (vars-both words bs (kept ++ atom_vars a) (into-left (all_vars words) kept (atom_vars a) (vars-left words as'))
          (subst (λ l. IsWithin (all_vars l) (kept ++ atom_vars a)) (sym behind)
          (vars-both as' (a ∷ []) (kept ++ atom_vars a) (into-left (all_vars as') kept (atom_vars a) (vars-right words as')) (into-right (all_vars (a ∷ [])) kept (atom_vars a) (one-operand-back a)))))
          le;
      few = v.few;
    }

-- a record, whose fields were read beside the others
pub reads-few-inner : (words : List Atom) (x : List ℕ) (old new : List Step) (empty inner before after : NamedSymbols) (n : ℕ) → ReadsFew words old new empty inner n → empty ≡ no_named_symbols
    → after ≡ before ++_symbols named_symbol_and x (Record inner) no_named_symbols → ReadsFew words old new before after n
reads-few-inner words x old new empty inner before after n v none is =
    let as' = named_operands before in
    let bs = named_operands after in
    let cs = named_operands inner in
    let behind : bs ≡ as' ++ cs = last-field before after x (Record inner) is in
    let long : length bs ≡ length as' + length cs = ap length behind ∙ length-append as' cs in
    let front : words ++ named_operands empty ≡ words = ap (λ (b : NamedSymbols). words ++ named_operands b) none ∙ append-nil words in
    record {
      steps = v.steps;
      added = v.added;
      more = (let e : length as' ≤ length bs = omega (arith, long) in e);
      narrow = λ funs widths own.
          let f = all_vars as' in
          let from = all_vars (words ++ named_operands empty) in
          let to = all_vars (words ++ cs) in
          let k = length words + (length cs + 4) in
          let room = length words + (length bs + 4) in
          let le : length f + k ≤ room = omega (arith, long, vars-length as') in
          let same : length f ≤ length f = omega arith in
          recast funs widths own v.steps (from ++ f) f (to ++ f) (all_vars (words ++ as')) [] (all_vars (words ++ bs)) (length f) k room
          (beside funs widths own f v.steps from [] to k (v.narrow funs widths own))
          (together from f (all_vars (words ++ as')) (subst (λ l. IsWithin (all_vars l) (all_vars (words ++ as'))) (sym front) (vars-left words as')) (vars-right words as'))
          (grows-by f [] f (length f) (into-left f f [] itself) same)
          (vars-both words bs (to ++ f) (into-left (all_vars words) to f (vars-left words cs))
          (subst (λ l. IsWithin (all_vars l) (to ++ f)) (sym behind) (vars-both as' cs (to ++ f) (into-right f to f itself) (into-left (all_vars cs) to f (vars-right words cs)))))
          le;
      few = v.few;
    }

-- ---- the whole record
steps-alone : {none steps added : List Step} → steps ≡ none ++ added → none ≡ [] → added ≡ steps
steps-alone {none} {steps} {added} is empty = sym (is ∙ ap (λ e. e ++ added) empty)

pub few-record : (words : List Atom) (none steps : List Step) (empty inner : NamedSymbols) (n : ℕ) → ReadsFew words none steps empty inner n → none ≡ [] → AreFewLets steps (4 * n)
few-record words none steps empty inner n v start = subst (λ (ss : List Step). AreFewLets ss (4 * n)) (steps-alone v.added start) v.few

pub narrow-record : (words : List Atom) (none steps : List Step) (empty inner : NamedSymbols) (s : Symbol) (n : ℕ) → ReadsFew words none steps empty inner n → none ≡ [] → empty ≡ no_named_symbols → s ≡ Record inner
    → AreNarrowLets words steps (operands s)
narrow-record words none steps empty inner s n v start nothing is =
    let cs = named_operands inner in
    let front : words ++ named_operands empty ≡ words = ap (λ (b : NamedSymbols). words ++ named_operands b) nothing ∙ append-nil words in
    subst (λ (r : Symbol). AreNarrowLets words steps (operands r)) (sym is)
    (subst (λ (ss : List Step). AreNarrowLets words ss cs) (steps-alone v.added start) (record {
      by = λ funs widths own.
          let k = length words + (length cs + 4) in
          let le : 0 + k ≤ k = omega arith in
          recast funs widths own v.steps (all_vars (words ++ named_operands empty)) [] (all_vars (words ++ cs)) (all_vars words) [] (all_vars cs) 0 k k
          (v.narrow funs widths own) (subst (λ l. IsWithin (all_vars l) (all_vars words)) (sym front) itself) (grows-not [] [] itself) (vars-right words cs) le;
    }))

-- of an unknown layout
pub few-nothing : (steps : List Step) (n : ℕ) → steps ≡ [] → AreFewLets steps n
few-nothing steps n is = subst (λ (ss : List Step). AreFewLets ss n) (sym is) (few-none n)

pub narrow-nothing : (words : List Atom) (steps : List Step) (fields : List Named) (s : Symbol) → steps ≡ [] → fields ≡ [] → s ≡ Record (list_named_symbols fields) → AreNarrowLets words steps (operands s)
narrow-nothing words steps fields s f g h =
    narrow-record words steps steps (list_named_symbols fields) (list_named_symbols fields) s 0 (reads-few-none words steps (list_named_symbols fields) 0) f (ap list_named_symbols g) h
