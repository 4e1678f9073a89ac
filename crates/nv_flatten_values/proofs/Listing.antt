-- Symbolic values of new variables in lists: what is said of a list as far as a loop has come.
use Rattle.std.proofs.Common.{◌≡◌, ◌∙◌, refl, sym, ap, ℕ, zero, suc, ◌+◌, Bool, true, false, List, [], ◌∷◌, ◌++◌, take, bytes_eq, append_assoc, append-nil, arith, if◌then◌else◌, Vec, Global}
use Rattle.std.specs.Prelude.{◌==◌}
use Rattle.std.proofs.lemmas.Bool.{eqb-true}
use Rattle.nv_ast.specs.Tests.{value_at as found_at}
use Rattle.nv_ast.specs.Tree.{LayoutTree, NamedLayout, GapLayout, PartsLayout, JoinedLayout}
use Rattle.nv_ast.specs.Outline.{Layouts, OutlineTree, PartsOutline, no_named_outlines, outline}
use Rattle.nv_ast.specs.Types.{Ty, WordTy, TupleTy, Tys, no_tys, ty_and, NamedTys, no_named_tys, named_ty_and, words, total_named_words, word_parts, words_ty, Forms, no_forms, form_and, RecordForm, ◌+++◌, form_of, record_forms, unpacked, unpacked_all}
use Rattle.nv_meaning_values.specs.inner.Tables.{laid}
use Rattle.nv_flatten_values.specs.declared.symbol.Symbol as code
use Rattle.nv_flatten_values.specs.declared.symbol.Symbol.TheBlock.{hidden-the_row-Symbol-0, items_hidden-the_row-Symbol-0, hidden-the_row-Symbol-Record-0-2-1, items_hidden-the_row-Symbol-Record-0-2-1}
use Rattle.nv_flatten_values.specs.inner.Symbols.{Tuple, Record, Symbols, no_symbols, symbol_and, NamedSymbols, no_named_symbols, named_symbol_and, SymbolScope, fresh, all_fresh, named_fresh, numbers_from, params_bound}
use Rattle.nv_flatten_values.specs.inner.View.{view, list_symbols, list_named_symbols, Named, scope_of}
use Rattle.nv_flatten_values.specs.inner.Fields.{◌++_symbols◌}
use Rattle.nv_flatten_values.proofs.Rows.{symbols-row, fields-row}

-- ---- what a vector inside a symbolic value holds is the list of its items

pub tuple-view : (v : Vec code.Symbol Global) → view (code.Tuple v) ≡ Tuple (list_symbols v.items)
tuple-view v = ap Tuple (symbols-row (hidden-the_row-Symbol-0 v) ∙ ap list_symbols (items_hidden-the_row-Symbol-0 v))

pub record-view : (v : Vec Named Global) → view (code.Record v) ≡ Record (list_named_symbols v.items)
record-view v = ap Record (fields-row (hidden-the_row-Symbol-Record-0-2-1 v) ∙ ap list_named_symbols (items_hidden-the_row-Symbol-Record-0-2-1 v))

-- ---- numbers
numbers-then : (n a b : ℕ) → numbers_from n a ++ numbers_from (n + a) b ≡ numbers_from n (a + b)
numbers-then n zero b = let e : n + 0 ≡ n = omega arith in let z : b ≡ 0 + b = omega arith in ap (λ k. numbers_from k b) e ∙ ap (numbers_from n) z
numbers-then n (suc a) b =
    let e : n + suc a ≡ suc n + a = omega arith in
    let z : suc (a + b) ≡ suc a + b = omega arith in
    ap (λ k. n ∷ (numbers_from (suc n) a ++ numbers_from k b)) e ∙ ap (λ l. n ∷ l) (numbers-then (suc n) a b) ∙ ap (numbers_from n) z

-- what a turn adds to the numbers that are made
pub numbers-turn : (made new whole : List ℕ) (before after a b c : ℕ) → new ≡ made ++ numbers_from before a → after ≡ before + a → c ≡ a + b → made ++ numbers_from before c ≡ whole → new ++ numbers_from after b ≡ whole
numbers-turn made new whole before after a b c n f e h =
    ap (λ l. l ++ numbers_from after b) n
    ∙ ap (λ k. (made ++ numbers_from before a) ++ numbers_from k b) f
    ∙ append_assoc made (numbers_from before a) (numbers_from (before + a) b)
    ∙ ap (λ l. made ++ l) (numbers-then before a b)
    ∙ ap (λ k. made ++ numbers_from before k) (sym e)
    ∙ h

pub numbers-done : (made whole : List ℕ) (n c : ℕ) → c ≡ 0 → made ++ numbers_from n c ≡ whole → made ≡ whole
numbers-done made whole n c e h = sym (append-nil made) ∙ ap (λ k. made ++ numbers_from n k) (sym e) ∙ h

-- ---- symbolic values one after another
abbrev pub all_then : Symbols → Symbols → Symbols
all_then no_symbols ts = ts
all_then (symbol_and s ss) ts = symbol_and s (all_then ss ts)

all-none : (ss : Symbols) → all_then ss no_symbols ≡ ss
all-none no_symbols = refl
all-none (symbol_and s ss) = ap (symbol_and s) (all-none ss)

symbols-more : (done : List code.Symbol) (s : code.Symbol) (rest : Symbols) → all_then (list_symbols (done ++ s ∷ [])) rest ≡ all_then (list_symbols done) (symbol_and (view s) rest)
symbols-more [] s rest = refl
symbols-more (d ∷ done) s rest = ap (symbol_and (view d)) (symbols-more done s rest)

pub symbols-turn : (before after : ℕ) (t : Ty) (rest all : Tys) (done new : List code.Symbol) (s : code.Symbol) (whole : Symbols) → all ≡ ty_and t rest → view s ≡ fresh before t → after ≡ before + words t → new ≡ done ++ s ∷ []
    → all_then (list_symbols done) (all_fresh before all) ≡ whole → all_then (list_symbols new) (all_fresh after rest) ≡ whole
symbols-turn before after t rest all done new s whole e f g n h =
    ap (λ l. all_then (list_symbols l) (all_fresh after rest)) n
    ∙ symbols-more done s (all_fresh after rest)
    ∙ ap (λ v. all_then (list_symbols done) (symbol_and v (all_fresh after rest))) f
    ∙ ap (λ k. all_then (list_symbols done) (symbol_and (fresh before t) (all_fresh k rest))) g
    ∙ ap (λ ts. all_then (list_symbols done) (all_fresh before ts)) (sym e)
    ∙ h

pub symbols-done : (n : ℕ) (all : Tys) (done : List code.Symbol) (whole : Symbols) → all ≡ no_tys → all_then (list_symbols done) (all_fresh n all) ≡ whole → list_symbols done ≡ whole
symbols-done n all done whole e h = sym (all-none (list_symbols done)) ∙ ap (λ ts. all_then (list_symbols done) (all_fresh n ts)) (sym e) ∙ h

-- ---- the same with names
pub named-none : (ss : NamedSymbols) → ss ++_symbols no_named_symbols ≡ ss
named-none no_named_symbols = refl
named-none (named_symbol_and x s ss) = ap (named_symbol_and x s) (named-none ss)

pub named-assoc : (ss ts us : NamedSymbols) → (ss ++_symbols ts) ++_symbols us ≡ ss ++_symbols (ts ++_symbols us)
named-assoc no_named_symbols ts us = refl
named-assoc (named_symbol_and x s ss) ts us = ap (named_symbol_and x s) (named-assoc ss ts us)

named-more : (done : List Named) (d : Named) (rest : NamedSymbols) → list_named_symbols (done ++ d ∷ []) ++_symbols rest ≡ list_named_symbols done ++_symbols named_symbol_and d.0.now (view d.1) rest
named-more [] d rest = refl
named-more (x ∷ done) d rest = ap (named_symbol_and x.0.now (view x.1)) (named-more done d rest)

pub fields-turn : (before after : ℕ) (x : List ℕ) (t : Ty) (rest all : NamedTys) (done new : List Named) (d : Named) (whole : NamedSymbols) → all ≡ named_ty_and x t rest → d.0.now ≡ x → view d.1 ≡ fresh before t → after ≡ before + words t → new ≡ done ++ d ∷ []
    → list_named_symbols done ++_symbols named_fresh before all ≡ whole → list_named_symbols new ++_symbols named_fresh after rest ≡ whole
fields-turn before after x t rest all done new d whole e m f g n h =
    ap (λ l. list_named_symbols l ++_symbols named_fresh after rest) n
    ∙ named-more done d (named_fresh after rest)
    ∙ ap (λ y. list_named_symbols done ++_symbols named_symbol_and y (view d.1) (named_fresh after rest)) m
    ∙ ap (λ v. list_named_symbols done ++_symbols named_symbol_and x v (named_fresh after rest)) f
    ∙ ap (λ k. list_named_symbols done ++_symbols named_symbol_and x (fresh before t) (named_fresh k rest)) g
    ∙ ap (λ ts. list_named_symbols done ++_symbols named_fresh before ts) (sym e)
    ∙ h

pub fields-done : (n : ℕ) (all : NamedTys) (done : List Named) (whole : NamedSymbols) → all ≡ no_named_tys → list_named_symbols done ++_symbols named_fresh n all ≡ whole → list_named_symbols done ≡ whole
fields-done n all done whole e h = sym (named-none (list_named_symbols done)) ∙ ap (λ ts. list_named_symbols done ++_symbols named_fresh n ts) (sym e) ∙ h

-- nothing is added
pub fields-same : (n : ℕ) (done : List Named) (all : NamedTys) → all ≡ no_named_tys → list_named_symbols done ≡ list_named_symbols done ++_symbols named_fresh n all
fields-same n done all e = sym (named-none (list_named_symbols done)) ∙ ap (λ ts. list_named_symbols done ++_symbols named_fresh n ts) (sym e)

-- ---- the fields of joined layouts
abbrev pub tys_then : NamedTys → NamedTys → NamedTys
tys_then no_named_tys us = us
tys_then (named_ty_and x t ts) us = named_ty_and x t (tys_then ts us)

pub unpacked-then : (fs gs : Forms) → unpacked_all (fs +++ gs) ≡ tys_then (unpacked_all fs) (unpacked_all gs)
unpacked-then no_forms gs = refl
unpacked-then (form_and x f fs) gs = ap (named_ty_and x (unpacked f)) (unpacked-then fs gs)

pub words-then : (ts us : NamedTys) → total_named_words (tys_then ts us) ≡ total_named_words ts + total_named_words us
words-then no_named_tys us = omega arith
words-then (named_ty_and x t ts) us = let h = words-then ts us in omega arith

fresh-then : (n : ℕ) (ts us : NamedTys) → named_fresh n (tys_then ts us) ≡ named_fresh n ts ++_symbols named_fresh (n + total_named_words ts) us
fresh-then n no_named_tys us = let e : n ≡ n + 0 = omega arith in ap (λ k. named_fresh k us) e
fresh-then n (named_ty_and x t ts) us =
    let e : n + words t + total_named_words ts ≡ n + (words t + total_named_words ts) = omega arith in
    ap (named_symbol_and x (fresh n t)) (fresh-then (n + words t) ts us ∙ ap (λ k. named_fresh (n + words t) ts ++_symbols named_fresh k us) e)

pub joined-turn : (before after : ℕ) (ts rest all : NamedTys) (done new : List Named) (whole : NamedSymbols) → all ≡ tys_then ts rest → list_named_symbols new ≡ list_named_symbols done ++_symbols named_fresh before ts → after ≡ before + total_named_words ts
    → list_named_symbols done ++_symbols named_fresh before all ≡ whole → list_named_symbols new ++_symbols named_fresh after rest ≡ whole
joined-turn before after ts rest all done new whole e n g h =
    ap (λ l. l ++_symbols named_fresh after rest) n
    ∙ named-assoc (list_named_symbols done) (named_fresh before ts) (named_fresh after rest)
    ∙ ap (λ k. list_named_symbols done ++_symbols (named_fresh before ts ++_symbols named_fresh k rest)) g
    ∙ ap (λ l. list_named_symbols done ++_symbols l) (sym (fresh-then before ts rest))
    ∙ ap (λ us. list_named_symbols done ++_symbols named_fresh before us) (sym e)
    ∙ h

-- ---- the form of a layout is a record's
abbrev pub IsRecordForm : OutlineTree → Type 0
IsRecordForm o = form_of o ≡ RecordForm (record_forms o)

abbrev AreRecordForms : Layouts → Type 0
AreRecordForms [] = Unit {0}
AreRecordForms ((x, o) ∷ known) = IsRecordForm o × AreRecordForms known

either-form : (b : Bool) (o p : OutlineTree) → IsRecordForm o → IsRecordForm p → IsRecordForm (if b then o else p)
either-form true o p f g = f
either-form false o p f g = g

known-form : (known : Layouts) (x : List ℕ) → AreRecordForms known → IsRecordForm (found_at (PartsOutline no_named_outlines) x known)
known-form [] x h = refl
known-form ((y, o) ∷ known) x h = either-form (bytes_eq x y) o (found_at (PartsOutline no_named_outlines) x known) h.0 (known-form known x h.1)

outline-form : (known : Layouts) (l : LayoutTree) → AreRecordForms known → IsRecordForm (outline known l)
outline-form known (NamedLayout x) h = known-form known x h
outline-form known (GapLayout n) h = refl
outline-form known (PartsLayout fs) h = refl
outline-form known (JoinedLayout ls) h = refl

forms-more : (known : Layouts) (x : List ℕ) (o : OutlineTree) → AreRecordForms known → IsRecordForm o → AreRecordForms (known ++ (x, o) ∷ [])
forms-more [] x o h r = (r, tt {0})
forms-more ((y, p) ∷ known) x o h r = (h.0, forms-more known x o h.1 r)

laid-forms : (known : Layouts) (ls : List (List ℕ × LayoutTree)) → AreRecordForms known → AreRecordForms (laid known ls)
laid-forms known [] h = h
laid-forms known (l ∷ ls) h = laid-forms (known ++ (l.0, outline known l.1) ∷ []) ls (forms-more known l.0 (outline known l.1) h (outline-form known l.1 h))

first-forms : (n : ℕ) (known : Layouts) → AreRecordForms known → AreRecordForms (take n known)
first-forms zero known h = tt {0}
first-forms (suc n) [] h = tt {0}
first-forms (suc n) ((x, o) ∷ known) h = (h.0, first-forms n known h.1)

pub layout-form : (ls : List (List ℕ × LayoutTree)) (n : ℕ) (l : LayoutTree) → IsRecordForm (outline (take n (laid [] ls)) l)
layout-form ls n l = outline-form (take n (laid [] ls)) l (first-forms n (laid [] ls) (laid-forms [] ls (tt {0})))

-- ---- words

-- ---- parameters
scope-more : (done : List Named) (d : Named) (outer : SymbolScope) → scope_of (done ++ d ∷ []) outer ≡ (d.0.now, view d.1) ∷ scope_of done outer
scope-more [] d outer = refl
scope-more (x ∷ done) d outer = scope-more done d ((x.0.now, view x.1) ∷ outer)

pub params-turn : (before after : ℕ) (x : List ℕ) (t : Ty) (rest all : NamedTys) (done new : List Named) (d : Named) (whole : SymbolScope) → all ≡ named_ty_and x t rest → d.0.now ≡ x → view d.1 ≡ fresh before t → after ≡ before + words t → new ≡ done ++ d ∷ []
    → params_bound (named_fresh before all) (scope_of done []) ≡ whole → params_bound (named_fresh after rest) (scope_of new []) ≡ whole
params-turn before after x t rest all done new d whole e m f g n h =
    ap (λ l. params_bound (named_fresh after rest) (scope_of l [])) n
    ∙ ap (params_bound (named_fresh after rest)) (scope-more done d [])
    ∙ ap (λ y. params_bound (named_fresh after rest) ((y, view d.1) ∷ scope_of done [])) m
    ∙ ap (λ v. params_bound (named_fresh after rest) ((x, v) ∷ scope_of done [])) f
    ∙ ap (λ k. params_bound (named_fresh k rest) ((x, fresh before t) ∷ scope_of done [])) g
    ∙ ap (λ ts. params_bound (named_fresh before ts) (scope_of done [])) (sym e)
    ∙ h

pub params-done : (n : ℕ) (all : NamedTys) (scope whole : SymbolScope) → all ≡ no_named_tys → params_bound (named_fresh n all) scope ≡ whole → scope ≡ whole
params-done n all scope whole e h = ap (λ ts. params_bound (named_fresh n ts) scope) (sym e) ∙ h

pub words-tuple : (n : ℕ) → (n ≡ 1 → ⊥) → words_ty n ≡ TupleTy (word_parts n)
words-tuple n h = by (n == 1) refl
  where
    by : (b : Bool) → (n == 1) ≡ b → (if b then WordTy else TupleTy (word_parts n)) ≡ TupleTy (word_parts n)
    by true e = absurd (h (eqb-true n 1 e))
    by false e = refl
