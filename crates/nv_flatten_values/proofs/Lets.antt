-- Steps that only compute, some behind others: well formed.
use Rattle.std.proofs.Common.{◌≡◌, ◌∙◌, refl, ap, sym, subst, ℕ, zero, suc, ◌+◌, ◌<◌, ◌≤◌, true, nat_le, ◌&&◌, List, [], ◌∷◌, ◌++◌, append_assoc, append-nil, length, get_or, arith}
use Rattle.std.proofs.lemmas.Bool.{and_from, le-leb}
use Rattle.nv_base.specs.declared.term.Atom.{Atom}
use Rattle.nv_base.specs.declared.term.Atom.TheVariants.{Var}
use Rattle.nv_base.specs.declared.term.Bin.TheVariants.{Or}
use Rattle.nv_base.specs.declared.term.Primitive.{Primitive}
use Rattle.nv_base.specs.declared.term.Primitive.TheVariants.{Bin as BinOf}
use Rattle.nv_ast.specs.declared.tree.ShiftOp.{ShiftOp}
use Rattle.nv_ast.specs.declared.tree.ShiftOp.TheVariants.{Left, Right, Rotate}
use Rattle.flat_ir.specs.declared.spine.Step.{Step}
use Rattle.flat_ir.specs.declared.spine.Step.TheVariants.{Let}
use Rattle.nv_base.specs.Access.{is_known, all_known, is_primitive}
use Rattle.flat_ir.specs.Pieces.{known_behind, steps_formed, steps_defined, steps_raised}
use Rattle.flat_ir.proofs.Appended.{known-append, formed-append, defined-append, raised-append}
use Rattle.nv_flatten_values.specs.inner.Code.{shift_of}
use Rattle.nv_flatten_values.specs.inner.Symbols.{Symbol, Record, NamedSymbols, no_named_symbols, named_symbol_and, operands, named_operands}
use Rattle.nv_flatten_values.specs.inner.View.{Named, list_named_symbols}
use Rattle.nv_flatten_values.specs.inner.Reads.{◌++_symbols◌}
use Rattle.nv_flatten_values.specs.inner.Well.{Rises, AreWellLets}
use Rattle.nv_flatten_values.specs.inner.Adds.{AddsLets, AddsFields}
use Rattle.nv_flatten_values.proofs.WellBasics.{known-more, knows-both, knows-left, knows-right, knows-one, knows-two, knows-first, knows-rest, knows-new, rises-append}
use Rattle.nv_base.proofs.Operands.{atoms-more}

-- ---- steps alone
pub lets-none : (low : ℕ) (given found : List Atom) → ((known : List ℕ) → all_known known given ≡ true → all_known known found ≡ true) → AreWellLets low low given [] found
lets-none low given found h = record {
  formed = λ funs own known k. (refl, h known k);
  rises = (let e : low ≤ low = omega arith in e);
  raises = refl;
}

lets-one : (low : ℕ) (given : List Atom) (p : Primitive) → ((known : List ℕ) → all_known known given ≡ true → is_primitive known p ≡ true) → AreWellLets low (low + 1) given (Let low p ∷ []) (Var low ∷ [])
lets-one low given p h = record {
  formed = λ funs own known k. (and_from (is_primitive known p) true (h known k) refl, knows-new low known);
  rises = (let e : low ≤ low = omega arith in e, let f : suc low ≤ low + 1 = omega arith in f);
  raises = refl;
}

lets-then : (low mid high : ℕ) (given between found : List Atom) (ss ts : List Step) → AreWellLets low mid given ss between → AreWellLets mid high between ts found → AreWellLets low high given (ss ++ ts) found
lets-then low mid high given between found ss ts a b = record {
  formed = λ funs own known k.
      let first = a.formed funs own known k in
      let behind = known_behind known ss in
      let second = b.formed funs own behind first.1 in (
        formed-append funs own known ss ts ∙ and_from (steps_formed funs own known ss) (steps_formed funs own behind ts) first.0 second.0,
        subst (λ l. all_known l found ≡ true) (sym (known-append known ss ts)) second.1,
      );
  rises = subst (λ xs. Rises low xs high) (sym (defined-append ss ts)) (rises-append low mid high (steps_defined ss) (steps_defined ts) a.rises b.rises);
  raises = raised-append ss ts ∙ ap (λ l. l ++ steps_raised ts) a.raises ∙ b.raises;
}

pub lets-so : (low high : ℕ) (given given' found found' : List Atom) (ss : List Step) → AreWellLets low high given ss found → ((known : List ℕ) → all_known known given' ≡ true → all_known known given ≡ true)
    → ((known : List ℕ) → all_known known given' ≡ true → all_known known found ≡ true → all_known known found' ≡ true) → AreWellLets low high given' ss found'
lets-so low high given given' found found' ss a g h = record {
  formed = λ funs own known k.
      let f = a.formed funs own known (g known k) in
      (f.0, h (known_behind known ss) (atoms-more known (known_behind known ss) given' (known-more known ss) k) f.1);
  rises = a.rises;
  raises = a.raises;
}

-- ---- steps that were added
pub adds-none : (low : ℕ) (given found : List Atom) (steps : List Step) → ((known : List ℕ) → all_known known given ≡ true → all_known known found ≡ true) → AddsLets low low given steps steps found
adds-none low given found steps h = record { steps = []; added = sym (append-nil steps); lets = lets-none low given found h }

pub adds-then : (low mid high : ℕ) (given between found : List Atom) (old middle new : List Step) → AddsLets low mid given old middle between → AddsLets mid high between middle new found → AddsLets low high given old new found
adds-then low mid high given between found old middle new m n = record {
  steps = m.steps ++ n.steps;
  added = n.added ∙ ap (λ ss. ss ++ n.steps) m.added ∙ append_assoc old m.steps n.steps;
  lets = lets-then low mid high given between found m.steps n.steps m.lets n.lets;
}

pub adds-so : (low high : ℕ) (given given' found found' : List Atom) (old new : List Step) → AddsLets low high given old new found → ((known : List ℕ) → all_known known given' ≡ true → all_known known given ≡ true)
    → ((known : List ℕ) → all_known known given' ≡ true → all_known known found ≡ true → all_known known found' ≡ true) → AddsLets low high given' old new found'
adds-so low high given given' found found' old new m g h = record { steps = m.steps; added = m.added; lets = lets-so low high given given' found found' m.steps m.lets g h }

-- one of them
pub adds-define : (low high x : ℕ) (given : List Atom) (old new : List Step) (p : Primitive) → x ≡ low → high ≡ low + 1 → new ≡ old ++ Let low p ∷ [] → ((known : List ℕ) → all_known known given ≡ true → is_primitive known p ≡ true)
    → AddsLets low high given old new (Var x ∷ [])
adds-define low high x given old new p is later adds h =
    subst (λ (y : ℕ). AddsLets low high given old new (Var y ∷ [])) (sym is)
    (subst (λ (y : ℕ). AddsLets low y given old new (Var low ∷ [])) (sym later)
    (record { steps = Let low p ∷ []; added = adds; lets = lets-one low given p h }))

-- further words after the first ones, which stay known
pub adds-turn : (low mid high : ℕ) (ws xs ys zs : List Atom) (old middle new : List Step) → AddsLets low mid (ws ++ xs) old middle ys → AddsLets mid high (ws ++ ys) middle new zs → AddsLets low high (ws ++ xs) old new zs
adds-turn low mid high ws xs ys zs old middle new m n =
    adds-then low mid high (ws ++ xs) (ws ++ ys) zs old middle new
    (adds-so low mid (ws ++ xs) (ws ++ xs) ys (ws ++ ys) old middle m (λ known k. k) (λ known k f. knows-both known ws ys (knows-left known ws xs k) f)) n

-- ---- shifts
pub shift-primitive : (op : ShiftOp) (n : ℕ) (known : List ℕ) (a : Atom) → 1 ≤ n → n ≤ 31 → is_known known a ≡ true → is_primitive known (shift_of op n a) ≡ true
shift-primitive Left n known a low high e = and_from (nat_le 1 n && nat_le n 31) (is_known known a) (and_from (nat_le 1 n) (nat_le n 31) (le-leb 1 n low) (le-leb n 31 high)) e
shift-primitive Right n known a low high e = and_from (nat_le 1 n && nat_le n 31) (is_known known a) (and_from (nat_le 1 n) (nat_le n 31) (le-leb 1 n low) (le-leb n 31 high)) e
shift-primitive Rotate n known a low high e = and_from (nat_le 1 n && nat_le n 31) (is_known known a) (and_from (nat_le 1 n) (nat_le n 31) (le-leb 1 n low) (le-leb n 31 high)) e

pub adds-shift : (op : ShiftOp) (n : ℕ) (word a : Atom) (low high : ℕ) (old new : List Step) → n ≤ 31
    → (n ≡ 0 → (a ≡ word) × ((new ≡ old) × (high ≡ low))) → (1 ≤ n → n ≤ 31 → (a ≡ Var low) × ((new ≡ old ++ Let low (shift_of op n word) ∷ []) × (high ≡ low + 1)))
    → AddsLets low high (word ∷ []) old new (a ∷ [])
adds-shift op zero word a low high old new h none some =
    let r = none refl in
    subst (λ (b : Atom). AddsLets low high (word ∷ []) old new (b ∷ [])) (sym r.0)
    (subst (λ (ss : List Step). AddsLets low high (word ∷ []) old ss (word ∷ [])) (sym r.1.0)
    (subst (λ (k : ℕ). AddsLets low k (word ∷ []) old old (word ∷ [])) (sym r.1.1)
    (adds-none low (word ∷ []) (word ∷ []) old (λ known k. k))))
adds-shift op (suc n) word a low high old new h none some =
    let r = some (omega arith) h in
    subst (λ (b : Atom). AddsLets low high (word ∷ []) old new (b ∷ [])) (sym r.0)
    (adds-define low high low (word ∷ []) old new (shift_of op (suc n) word) refl r.1.1 r.1.0
    (λ known k. shift-primitive op (suc n) known word (omega arith) h (knows-first known word [] k)))

-- ---- reading
-- the number of some bits of two words
pub adds-across : (word following high low : Atom) (from mid last end x : ℕ) (old m1 m2 new : List Step) → AddsLets from mid (word ∷ []) old m1 (high ∷ []) → AddsLets mid last (following ∷ []) m1 m2 (low ∷ [])
    → x ≡ last → end ≡ last + 1 → new ≡ m2 ++ Let last (BinOf Or high low) ∷ [] → AddsLets from end (word ∷ following ∷ []) old new (Var x ∷ [])
adds-across word following high low from mid last end x old m1 m2 new m n is ends adds =
    let two : List Atom = word ∷ following ∷ [] in
    adds-then from mid end two (high ∷ following ∷ []) (Var x ∷ []) old m1 new
    (adds-so from mid (word ∷ []) two (high ∷ []) (high ∷ following ∷ []) old m1 m
    (λ known k. knows-one known word (knows-first known word (following ∷ []) k))
    (λ known k f. knows-two known high following (knows-first known high [] f) (knows-first known following [] (knows-rest known word (following ∷ []) k))))
    (adds-then mid last end (high ∷ following ∷ []) (high ∷ low ∷ []) (Var x ∷ []) m1 m2 new
    (adds-so mid last (following ∷ []) (high ∷ following ∷ []) (low ∷ []) (high ∷ low ∷ []) m1 m2 n
    (λ known k. knows-rest known high (following ∷ []) k)
    (λ known k f. knows-two known high low (knows-first known high (following ∷ []) k) (knows-first known low [] f)))
    (adds-define last end x (high ∷ low ∷ []) m2 new (BinOf Or high low) is ends adds
    (λ known k. and_from (is_known known high) (is_known known low) (knows-first known high (low ∷ []) k) (knows-first known low [] (knows-rest known high (low ∷ []) k)))))

-- one of some words
pub known-item : (known : List ℕ) (ws : List Atom) (q : ℕ) (d : Atom) → q < length ws → all_known known ws ≡ true → is_known known (get_or ws q d) ≡ true
known-item known [] q d h k = absurd (omega arith)
known-item known (a ∷ ws) zero d h k = knows-first known a ws k
known-item known (a ∷ ws) (suc q) d h k = known-item known ws q d (omega arith) (knows-rest known a ws k)

pub known-at : (known : List ℕ) (ws : List Atom) (q : ℕ) (a : Atom) → a ≡ get_or ws q a → q < length ws → all_known known ws ≡ true → is_known known a ≡ true
known-at known ws q a e h k = subst (λ (b : Atom). is_known known b ≡ true) (sym e) (known-item known ws q a h k)

pub adds-at : (ws : List Atom) (word : Atom) (found : List Atom) (q low high : ℕ) (old new : List Step) → word ≡ get_or ws q word → q < length ws → AddsLets low high (word ∷ []) old new found → AddsLets low high ws old new found
adds-at ws word found q low high old new is inside m = adds-so low high (word ∷ []) ws found found old new m (λ known k. knows-one known word (known-at known ws q word is inside k)) (λ known k f. f)

pub adds-at-two : (ws : List Atom) (word following : Atom) (found : List Atom) (q low high : ℕ) (old new : List Step) → word ≡ get_or ws q word → following ≡ get_or ws (suc q) following → suc q < length ws
    → AddsLets low high (word ∷ following ∷ []) old new found → AddsLets low high ws old new found
adds-at-two ws word following found q low high old new is next inside m =
    let first : q < length ws = omega arith in
    adds-so low high (word ∷ following ∷ []) ws found found old new m (λ known k. knows-two known word following (known-at known ws q word is first k) (known-at known ws (suc q) following next inside k)) (λ known k f. f)

-- fields
pub fields-none : (low : ℕ) (words : List Atom) (steps : List Step) (fields : NamedSymbols) → AddsFields low low words steps steps fields fields
fields-none low words steps fields = adds-none low (words ++ named_operands fields) (named_operands fields) steps (λ known k. knows-right known words (named_operands fields) k)

known-behind-fields : (known : List ℕ) (rs ss : NamedSymbols) → all_known known (named_operands rs) ≡ true → all_known known (named_operands ss) ≡ true → all_known known (named_operands (rs ++_symbols ss)) ≡ true
known-behind-fields known no_named_symbols ss e f = f
known-behind-fields known (named_symbol_and x r rs) ss e f =
    knows-both known (operands r) (named_operands (rs ++_symbols ss)) (knows-left known (operands r) (named_operands rs) e) (known-behind-fields known rs ss (knows-right known (operands r) (named_operands rs) e) f)

pub adds-field : (low high : ℕ) (words : List Atom) (x : List ℕ) (s : Symbol) (old new : List Step) (before after : NamedSymbols) → AddsLets low high words old new (operands s) → after ≡ before ++_symbols named_symbol_and x s no_named_symbols
    → AddsFields low high words old new before after
adds-field low high words x s old new before after m is =
    subst (λ (fs : NamedSymbols). AddsFields low high words old new before fs) (sym is)
    (adds-so low high words (words ++ named_operands before) (operands s) (named_operands (before ++_symbols named_symbol_and x s no_named_symbols)) old new m
    (λ known k. knows-left known words (named_operands before) k)
    (λ known k f. known-behind-fields known before (named_symbol_and x s no_named_symbols) (knows-right known words (named_operands before) k) (knows-both known (operands s) [] f refl)))

pub adds-inner : (low high : ℕ) (words : List Atom) (x : List ℕ) (old new : List Step) (empty inner before after : NamedSymbols) → AddsFields low high words old new empty inner → empty ≡ no_named_symbols
    → after ≡ before ++_symbols named_symbol_and x (Record inner) no_named_symbols → AddsFields low high words old new before after
adds-inner low high words x old new empty inner before after m none is =
    let n : AddsLets low high (words ++ []) old new (named_operands inner) = subst (λ (b : NamedSymbols). AddsFields low high words old new b inner) none m in
    adds-field low high words x (Record inner) old new before after
    (adds-so low high (words ++ []) words (named_operands inner) (named_operands inner) old new n (λ known k. knows-both known words [] k refl) (λ known k f. f)) is

-- the whole record
pub lets-record : (low high : ℕ) (words : List Atom) (none steps : List Step) (empty inner : NamedSymbols) (s : Symbol) → AddsFields low high words none steps empty inner → none ≡ [] → empty ≡ no_named_symbols → s ≡ Record inner
    → AreWellLets low high words steps (operands s)
lets-record low high words none steps empty inner s m noneis emptyis is =
    let st : m.steps ≡ steps = sym (m.added ∙ ap (λ e. e ++ m.steps) noneis) in
    subst (λ (ss : List Step). AreWellLets low high words ss (operands s)) st
    (lets-so low high (words ++ named_operands empty) words (named_operands inner) (operands s) m.steps m.lets
    (λ known k. knows-both known words (named_operands empty) k (ap (λ (b : NamedSymbols). all_known known (named_operands b)) emptyis))
    (λ known k f. subst (λ (r : Symbol). all_known known (operands r) ≡ true) (sym is) f))

-- of an unknown layout
pub lets-nothing : (low : ℕ) (words : List Atom) (steps : List Step) (fields : List Named) (s : Symbol) → steps ≡ [] → fields ≡ [] → s ≡ Record (list_named_symbols fields) → AreWellLets low low words steps (operands s)
lets-nothing low words steps fields s f g h =
    lets-record low low words steps steps (list_named_symbols fields) (list_named_symbols fields) s (fields-none low words steps (list_named_symbols fields)) f (ap list_named_symbols g) h
