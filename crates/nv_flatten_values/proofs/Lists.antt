-- Symbolic values in lists: what is said of a list as far as a loop has come.
use Rattle.std.proofs.Common.{◌≡◌, ◌∙◌, refl, ap, sym, ℕ, ◌+◌, ◌<◌, arith, List, [], ◌∷◌, ◌++◌, take, length, get_or, append_assoc, append-nil}
use Rattle.nv_base.specs.declared.term.Atom.{Atom}
use Rattle.nv_base.specs.declared.term.Atom.TheVariants.{Var}
use Rattle.nv_ast.specs.Types.{words, total_words, total_named_words}
use Rattle.nv_flatten_values.specs.declared.symbol.Symbol.{Symbol}
use Rattle.nv_flatten_values.specs.inner.Symbols.{no_symbols, symbol_and, no_named_symbols, named_symbol_and, operands, all_operands, named_operands, form, forms, named_forms, fresh, all_fresh, named_fresh, numbers_from, word_symbols}
use Rattle.nv_flatten_values.specs.inner.Symbols as symbols
use Rattle.nv_flatten_values.specs.inner.View.{Named, view, list_symbols, list_named_symbols}
use Rattle.nv_flatten_values.specs.inner.Code.{variables}
use Rattle.nv_flatten_values.proofs.Fresh.{numbers-append, variables-append}
use Rattle.nv_ast.proofs.Items.{take_item}

-- a copy that a loop makes
pub copied-item : {A : Type 0} (done new xs : List A) (i : ℕ) (x : A) → i < length xs → x ≡ get_or xs i x → done ≡ take i xs → new ≡ done ++ x ∷ [] → new ≡ take (i + 1) xs
copied-item done new xs i x h is e n = n ∙ ap (λ l. l ++ x ∷ []) e ∙ sym (take_item xs i x h is)

-- what a loop has moved after a list, and what is left
pub moved-item : {A : Type 0} (now new rest rest' all : List A) (x : A) → rest ≡ x ∷ rest' → new ≡ now ++ x ∷ [] → now ++ rest ≡ all → new ++ rest' ≡ all
moved-item now new rest rest' all x e n h = ap (λ l. l ++ rest') n ∙ append_assoc now (x ∷ []) rest' ∙ ap (λ l. now ++ l) (sym e) ∙ h

-- ---- copies
symbols_again : (xs ys : List Symbol) (x y : Symbol) → list_symbols xs ≡ list_symbols ys → view x ≡ view y → list_symbols (xs ++ x ∷ []) ≡ list_symbols (ys ++ y ∷ [])
symbols_again [] [] x y e f = ap (λ v. symbol_and v no_symbols) f
symbols_again [] (b ∷ ys) x y e f = cc
symbols_again (a ∷ xs) [] x y e f = cc
symbols_again (a ∷ xs) (b ∷ ys) x y e f =
    let h : view a ≡ view b = cc in
    let r : list_symbols (xs ++ x ∷ []) ≡ list_symbols (ys ++ y ∷ []) = symbols_again xs ys x y (cc) f in
    ap (λ v. symbol_and v (list_symbols (xs ++ x ∷ []))) h ∙ ap (symbol_and (view b)) r

pub symbols_copied : (done xs new : List Symbol) (i : ℕ) (v x : Symbol) → i < length xs → x ≡ get_or xs i x → list_symbols done ≡ list_symbols (take i xs) → view v ≡ view x → new ≡ done ++ v ∷ [] → list_symbols new ≡ list_symbols (take (i + 1) xs)
symbols_copied done xs new i v x h is e f n = ap list_symbols n ∙ symbols_again done (take i xs) v x e f ∙ ap list_symbols (sym (take_item xs i x h is))

fields_again : (xs ys : List Named) (x y : Named) → list_named_symbols xs ≡ list_named_symbols ys → x.0.now ≡ y.0.now → view x.1 ≡ view y.1 → list_named_symbols (xs ++ x ∷ []) ≡ list_named_symbols (ys ++ y ∷ [])
fields_again [] [] x y e g f = ap (λ n. named_symbol_and n (view x.1) no_named_symbols) g ∙ ap (λ v. named_symbol_and y.0.now v no_named_symbols) f
fields_again [] (b ∷ ys) x y e g f = cc
fields_again (a ∷ xs) [] x y e g f = cc
fields_again (a ∷ xs) (b ∷ ys) x y e g f =
    let n : a.0.now ≡ b.0.now = cc in
    let h : view a.1 ≡ view b.1 = cc in
    let r : list_named_symbols (xs ++ x ∷ []) ≡ list_named_symbols (ys ++ y ∷ []) = fields_again xs ys x y (cc) g f in
    ap (λ k. named_symbol_and k (view a.1) (list_named_symbols (xs ++ x ∷ []))) n ∙ ap (λ v. named_symbol_and b.0.now v (list_named_symbols (xs ++ x ∷ []))) h ∙ ap (named_symbol_and b.0.now (view b.1)) r

pub fields_copied : (done xs new : List Named) (i : ℕ) (v x : Named) → i < length xs → x ≡ get_or xs i x → list_named_symbols done ≡ list_named_symbols (take i xs) → v.0.now ≡ x.0.now → view v.1 ≡ view x.1 → new ≡ done ++ v ∷ [] → list_named_symbols new ≡ list_named_symbols (take (i + 1) xs)
fields_copied done xs new i v x h is e g f n = ap list_named_symbols n ∙ fields_again done (take i xs) v x e g f ∙ ap list_named_symbols (sym (take_item xs i x h is))

-- ---- operands
all_operands-append : (xs ys : List Symbol) → all_operands (list_symbols (xs ++ ys)) ≡ all_operands (list_symbols xs) ++ all_operands (list_symbols ys)
all_operands-append [] ys = refl
all_operands-append (x ∷ xs) ys = ap (λ l. operands (view x) ++ l) (all_operands-append xs ys) ∙ sym (append_assoc (operands (view x)) (all_operands (list_symbols xs)) (all_operands (list_symbols ys)))

pub operands_added : (old now new : List Atom) (xs : List Symbol) (i : ℕ) (x : Symbol) → i < length xs → x ≡ get_or xs i x → now ≡ old ++ all_operands (list_symbols (take i xs)) → new ≡ now ++ operands (view x) → new ≡ old ++ all_operands (list_symbols (take (i + 1) xs))
operands_added old now new xs i x h is e n =
    n ∙ ap (λ l. l ++ operands (view x)) e ∙ append_assoc old (all_operands (list_symbols (take i xs))) (operands (view x))
    ∙ ap (λ l. old ++ l) (ap (λ l. all_operands (list_symbols (take i xs)) ++ l) (sym (append-nil (operands (view x)))) ∙ sym (all_operands-append (take i xs) (x ∷ [])) ∙ ap (λ l. all_operands (list_symbols l)) (sym (take_item xs i x h is)))

named_operands-append : (xs ys : List Named) → named_operands (list_named_symbols (xs ++ ys)) ≡ named_operands (list_named_symbols xs) ++ named_operands (list_named_symbols ys)
named_operands-append [] ys = refl
named_operands-append (x ∷ xs) ys = ap (λ l. operands (view x.1) ++ l) (named_operands-append xs ys) ∙ sym (append_assoc (operands (view x.1)) (named_operands (list_named_symbols xs)) (named_operands (list_named_symbols ys)))

pub field_operands_added : (old now new : List Atom) (xs : List Named) (i : ℕ) (x : Named) → i < length xs → x ≡ get_or xs i x → now ≡ old ++ named_operands (list_named_symbols (take i xs)) → new ≡ now ++ operands (view x.1) → new ≡ old ++ named_operands (list_named_symbols (take (i + 1) xs))
field_operands_added old now new xs i x h is e n =
    n ∙ ap (λ l. l ++ operands (view x.1)) e ∙ append_assoc old (named_operands (list_named_symbols (take i xs))) (operands (view x.1))
    ∙ ap (λ l. old ++ l) (ap (λ l. named_operands (list_named_symbols (take i xs)) ++ l) (sym (append-nil (operands (view x.1)))) ∙ sym (named_operands-append (take i xs) (x ∷ [])) ∙ ap (λ l. named_operands (list_named_symbols l)) (sym (take_item xs i x h is)))

-- ---- words as symbolic values
words-again : (xs : List Symbol) (as' : List Atom) (a : Atom) → list_symbols xs ≡ word_symbols as' → list_symbols (xs ++ Symbol.Word a ∷ []) ≡ word_symbols (as' ++ a ∷ [])
words-again [] [] a e = refl
words-again [] (b ∷ as') a e = cc
words-again (x ∷ xs) [] a e = cc
words-again (x ∷ xs) (b ∷ as') a e =
    let h : view x ≡ symbols.Word b = cc in
    let r : list_symbols (xs ++ Symbol.Word a ∷ []) ≡ word_symbols (as' ++ a ∷ []) = words-again xs as' a (cc) in
    ap (λ v. symbol_and v (list_symbols (xs ++ Symbol.Word a ∷ []))) h ∙ ap (symbol_and (symbols.Word b)) r

pub words_listed : (done new : List Symbol) (as' : List Atom) (i : ℕ) (a : Atom) → i < length as' → a ≡ get_or as' i a → list_symbols done ≡ word_symbols (take i as') → new ≡ done ++ Symbol.Word a ∷ [] → list_symbols new ≡ word_symbols (take (i + 1) as')
words_listed done new as' i a h is e n = ap list_symbols n ∙ words-again done (take i as') a e ∙ ap word_symbols (sym (take_item as' i a h is))

-- ---- symbolic values of new variables
total-push : (xs : List Symbol) (x : Symbol) → total_words (forms (list_symbols (xs ++ x ∷ []))) ≡ total_words (forms (list_symbols xs)) + words (form (view x))
total-push [] x = omega arith
total-push (y ∷ xs) x = let r = total-push xs x in omega arith

fresh-push : (n : ℕ) (done xs : List Symbol) (s x : Symbol) → list_symbols done ≡ all_fresh n (forms (list_symbols xs)) → view s ≡ fresh (n + total_words (forms (list_symbols xs))) (form (view x)) → list_symbols (done ++ s ∷ []) ≡ all_fresh n (forms (list_symbols (xs ++ x ∷ [])))
fresh-push n [] [] s x e f = let z : n + 0 ≡ n = omega arith in ap (λ v. symbol_and v no_symbols) (f ∙ ap (λ m. fresh m (form (view x))) z)
fresh-push n [] (b ∷ xs) s x e f = cc
fresh-push n (a ∷ done) [] s x e f = cc
fresh-push n (a ∷ done) (b ∷ xs) s x e f =
    let h : view a ≡ fresh n (form (view b)) = cc in
    let k : list_symbols done ≡ all_fresh (n + words (form (view b))) (forms (list_symbols xs)) = cc in
    let z : n + (words (form (view b)) + total_words (forms (list_symbols xs))) ≡ n + words (form (view b)) + total_words (forms (list_symbols xs)) = omega arith in
    ap (λ v. symbol_and v (list_symbols (done ++ s ∷ []))) h ∙ ap (symbol_and (fresh n (form (view b)))) (fresh-push (n + words (form (view b))) done xs s x k (f ∙ ap (λ m. fresh m (form (view x))) z))

pub total-item : (xs : List Symbol) (i : ℕ) (x : Symbol) → i < length xs → x ≡ get_or xs i x → total_words (forms (list_symbols (take (i + 1) xs))) ≡ total_words (forms (list_symbols (take i xs))) + words (form (view x))
total-item xs i x h is = ap (λ l. total_words (forms (list_symbols l))) (take_item xs i x h is) ∙ total-push (take i xs) x

pub renewed_symbols : (n next : ℕ) (done xs new : List Symbol) (i : ℕ) (s x : Symbol) → i < length xs → x ≡ get_or xs i x → list_symbols done ≡ all_fresh n (forms (list_symbols (take i xs))) → next ≡ n + total_words (forms (list_symbols (take i xs))) → view s ≡ fresh next (form (view x)) → new ≡ done ++ s ∷ [] → list_symbols new ≡ all_fresh n (forms (list_symbols (take (i + 1) xs)))
renewed_symbols n next done xs new i s x h is e at f m =
    ap list_symbols m ∙ fresh-push n done (take i xs) s x e (f ∙ ap (λ k. fresh k (form (view x))) at) ∙ ap (λ l. all_fresh n (forms (list_symbols l))) (sym (take_item xs i x h is))

pub renewed_next : (n next later : ℕ) (xs : List Symbol) (i : ℕ) (x : Symbol) → i < length xs → x ≡ get_or xs i x → next ≡ n + total_words (forms (list_symbols (take i xs))) → later ≡ next + words (form (view x)) → later ≡ n + total_words (forms (list_symbols (take (i + 1) xs)))
renewed_next n next later xs i x h is at l = let t = total-item xs i x h is in omega arith

pub renewed_made : (n next : ℕ) (old now new : List ℕ) (xs : List Symbol) (i : ℕ) (x : Symbol) → i < length xs → x ≡ get_or xs i x → now ≡ old ++ numbers_from n (total_words (forms (list_symbols (take i xs)))) → next ≡ n + total_words (forms (list_symbols (take i xs))) → new ≡ now ++ numbers_from next (words (form (view x))) → new ≡ old ++ numbers_from n (total_words (forms (list_symbols (take (i + 1) xs))))
renewed_made n next old now new xs i x h is e at m =
    m ∙ ap (λ l. l ++ numbers_from next (words (form (view x)))) e ∙ append_assoc old (numbers_from n (total_words (forms (list_symbols (take i xs))))) (numbers_from next (words (form (view x))))
    ∙ ap (λ l. old ++ l) (ap (λ k. numbers_from n (total_words (forms (list_symbols (take i xs)))) ++ numbers_from k (words (form (view x)))) at ∙ sym (numbers-append n (total_words (forms (list_symbols (take i xs)))) (words (form (view x)))) ∙ ap (numbers_from n) (sym (total-item xs i x h is)))

total-named-push : (xs : List Named) (x : Named) → total_named_words (named_forms (list_named_symbols (xs ++ x ∷ []))) ≡ total_named_words (named_forms (list_named_symbols xs)) + words (form (view x.1))
total-named-push [] x = omega arith
total-named-push (y ∷ xs) x = let r = total-named-push xs x in omega arith

fresh-named-push : (n : ℕ) (done xs : List Named) (s x : Named) → list_named_symbols done ≡ named_fresh n (named_forms (list_named_symbols xs)) → s.0.now ≡ x.0.now → view s.1 ≡ fresh (n + total_named_words (named_forms (list_named_symbols xs))) (form (view x.1)) → list_named_symbols (done ++ s ∷ []) ≡ named_fresh n (named_forms (list_named_symbols (xs ++ x ∷ [])))
fresh-named-push n [] [] s x e g f =
    let z : n + 0 ≡ n = omega arith in
    ap (λ y. named_symbol_and y (view s.1) no_named_symbols) g ∙ ap (λ v. named_symbol_and x.0.now v no_named_symbols) (f ∙ ap (λ m. fresh m (form (view x.1))) z)
fresh-named-push n [] (b ∷ xs) s x e g f = cc
fresh-named-push n (a ∷ done) [] s x e g f = cc
fresh-named-push n (a ∷ done) (b ∷ xs) s x e g f =
    let y : a.0.now ≡ b.0.now = cc in
    let h : view a.1 ≡ fresh n (form (view b.1)) = cc in
    let k : list_named_symbols done ≡ named_fresh (n + words (form (view b.1))) (named_forms (list_named_symbols xs)) = cc in
    let z : n + (words (form (view b.1)) + total_named_words (named_forms (list_named_symbols xs))) ≡ n + words (form (view b.1)) + total_named_words (named_forms (list_named_symbols xs)) = omega arith in
    ap (λ u. named_symbol_and u (view a.1) (list_named_symbols (done ++ s ∷ []))) y ∙ ap (λ v. named_symbol_and b.0.now v (list_named_symbols (done ++ s ∷ []))) h
    ∙ ap (named_symbol_and b.0.now (fresh n (form (view b.1)))) (fresh-named-push (n + words (form (view b.1))) done xs s x k g (f ∙ ap (λ m. fresh m (form (view x.1))) z))

pub total-field : (xs : List Named) (i : ℕ) (x : Named) → i < length xs → x ≡ get_or xs i x → total_named_words (named_forms (list_named_symbols (take (i + 1) xs))) ≡ total_named_words (named_forms (list_named_symbols (take i xs))) + words (form (view x.1))
total-field xs i x h is = ap (λ l. total_named_words (named_forms (list_named_symbols l))) (take_item xs i x h is) ∙ total-named-push (take i xs) x

pub renewed_fields : (n next : ℕ) (done xs new : List Named) (i : ℕ) (s x : Named) → i < length xs → x ≡ get_or xs i x → list_named_symbols done ≡ named_fresh n (named_forms (list_named_symbols (take i xs))) → next ≡ n + total_named_words (named_forms (list_named_symbols (take i xs))) → s.0.now ≡ x.0.now → view s.1 ≡ fresh next (form (view x.1)) → new ≡ done ++ s ∷ [] → list_named_symbols new ≡ named_fresh n (named_forms (list_named_symbols (take (i + 1) xs)))
renewed_fields n next done xs new i s x h is e at g f m =
    ap list_named_symbols m ∙ fresh-named-push n done (take i xs) s x e g (f ∙ ap (λ k. fresh k (form (view x.1))) at) ∙ ap (λ l. named_fresh n (named_forms (list_named_symbols l))) (sym (take_item xs i x h is))

pub renewed_fields_next : (n next later : ℕ) (xs : List Named) (i : ℕ) (x : Named) → i < length xs → x ≡ get_or xs i x → next ≡ n + total_named_words (named_forms (list_named_symbols (take i xs))) → later ≡ next + words (form (view x.1)) → later ≡ n + total_named_words (named_forms (list_named_symbols (take (i + 1) xs)))
renewed_fields_next n next later xs i x h is at l = let t = total-field xs i x h is in omega arith

pub renewed_fields_made : (n next : ℕ) (old now new : List ℕ) (xs : List Named) (i : ℕ) (x : Named) → i < length xs → x ≡ get_or xs i x → now ≡ old ++ numbers_from n (total_named_words (named_forms (list_named_symbols (take i xs)))) → next ≡ n + total_named_words (named_forms (list_named_symbols (take i xs))) → new ≡ now ++ numbers_from next (words (form (view x.1))) → new ≡ old ++ numbers_from n (total_named_words (named_forms (list_named_symbols (take (i + 1) xs))))
renewed_fields_made n next old now new xs i x h is e at m =
    m ∙ ap (λ l. l ++ numbers_from next (words (form (view x.1)))) e ∙ append_assoc old (numbers_from n (total_named_words (named_forms (list_named_symbols (take i xs))))) (numbers_from next (words (form (view x.1))))
    ∙ ap (λ l. old ++ l) (ap (λ k. numbers_from n (total_named_words (named_forms (list_named_symbols (take i xs)))) ++ numbers_from k (words (form (view x.1)))) at ∙ sym (numbers-append n (total_named_words (named_forms (list_named_symbols (take i xs)))) (words (form (view x.1)))) ∙ ap (numbers_from n) (sym (total-field xs i x h is)))

-- ---- new variables, one after another
pub number-item : (n i x : ℕ) (done new : List ℕ) → done ≡ numbers_from n i → x ≡ n + i → new ≡ done ++ x ∷ [] → new ≡ numbers_from n (i + 1)
number-item n i x done new e is m = m ∙ ap (λ l. l ++ x ∷ []) e ∙ ap (λ y. numbers_from n i ++ y ∷ []) is ∙ sym (numbers-append n i 1)

pub variable-item : (n i x : ℕ) (old now new : List Atom) → now ≡ old ++ variables (numbers_from n i) → x ≡ n + i → new ≡ now ++ Var x ∷ [] → new ≡ old ++ variables (numbers_from n (i + 1))
variable-item n i x old now new e is m =
    m ∙ ap (λ l. l ++ Var x ∷ []) e ∙ append_assoc old (variables (numbers_from n i)) (Var x ∷ [])
    ∙ ap (λ l. old ++ l) (ap (λ y. variables (numbers_from n i) ++ Var y ∷ []) is ∙ sym (variables-append (numbers_from n i) ((n + i) ∷ [])) ∙ ap variables (sym (numbers-append n i 1)))

-- ---- what is left of a list
