-- Values in lists: what is said of a list as far as a loop has come.
use Rattle.std.proofs.Common.{◌≡◌, ◌∙◌, refl, ap, sym, ℕ, ◌+◌, ◌<◌, List, [], ◌∷◌, ◌++◌, take, length, get_or, append_assoc, append-nil}
use Rattle.nv_meaning_values.specs.declared.value.Value.{Value}
use Rattle.nv_meaning_values.specs.Values.{value_and, named_value_and, words_of, all_words, all_named_words}
use Rattle.nv_meaning_values.specs.Values as meaning
use Rattle.nv_meaning_values.specs.inner.View.{Named, view, list_values, list_named_values}
use Rattle.nv_ast.proofs.Items.{take_item}

-- ---- copies
values_again : (xs ys : List Value) (x y : Value) → list_values xs ≡ list_values ys → view x ≡ view y → list_values (xs ++ x ∷ []) ≡ list_values (ys ++ y ∷ [])
values_again [] [] x y e f = ap (λ v. value_and v meaning.no_values) f
values_again [] (b ∷ ys) x y e f = cc
values_again (a ∷ xs) [] x y e f = cc
values_again (a ∷ xs) (b ∷ ys) x y e f =
    let h : view a ≡ view b = cc in
    let r : list_values (xs ++ x ∷ []) ≡ list_values (ys ++ y ∷ []) = values_again xs ys x y (cc) f in
    ap (λ v. value_and v (list_values (xs ++ x ∷ []))) h ∙ ap (value_and (view b)) r

pub values_copied : (done xs new : List Value) (i : ℕ) (v x : Value) → i < length xs → x ≡ get_or xs i x → list_values done ≡ list_values (take i xs) → view v ≡ view x → new ≡ done ++ v ∷ [] → list_values new ≡ list_values (take (i + 1) xs)
values_copied done xs new i v x h is e f n = ap list_values n ∙ values_again done (take i xs) v x e f ∙ ap list_values (sym (take_item xs i x h is))

fields_again : (xs ys : List Named) (x y : Named) → list_named_values xs ≡ list_named_values ys → x.0.now ≡ y.0.now → view x.1 ≡ view y.1 → list_named_values (xs ++ x ∷ []) ≡ list_named_values (ys ++ y ∷ [])
fields_again [] [] x y e g f = ap (λ n. named_value_and n (view x.1) meaning.no_named_values) g ∙ ap (λ v. named_value_and y.0.now v meaning.no_named_values) f
fields_again [] (b ∷ ys) x y e g f = cc
fields_again (a ∷ xs) [] x y e g f = cc
fields_again (a ∷ xs) (b ∷ ys) x y e g f =
    let n : a.0.now ≡ b.0.now = cc in
    let h : view a.1 ≡ view b.1 = cc in
    let r : list_named_values (xs ++ x ∷ []) ≡ list_named_values (ys ++ y ∷ []) = fields_again xs ys x y (cc) g f in
    ap (λ k. named_value_and k (view a.1) (list_named_values (xs ++ x ∷ []))) n ∙ ap (λ v. named_value_and b.0.now v (list_named_values (xs ++ x ∷ []))) h ∙ ap (named_value_and b.0.now (view b.1)) r

pub fields_copied : (done xs new : List Named) (i : ℕ) (v x : Named) → i < length xs → x ≡ get_or xs i x → list_named_values done ≡ list_named_values (take i xs) → v.0.now ≡ x.0.now → view v.1 ≡ view x.1 → new ≡ done ++ v ∷ [] → list_named_values new ≡ list_named_values (take (i + 1) xs)
fields_copied done xs new i v x h is e g f n = ap list_named_values n ∙ fields_again done (take i xs) v x e g f ∙ ap list_named_values (sym (take_item xs i x h is))

-- ---- words
all_words-append : (xs ys : List Value) → all_words (list_values (xs ++ ys)) ≡ all_words (list_values xs) ++ all_words (list_values ys)
all_words-append [] ys = refl
all_words-append (x ∷ xs) ys = ap (λ l. words_of (view x) ++ l) (all_words-append xs ys) ∙ sym (append_assoc (words_of (view x)) (all_words (list_values xs)) (all_words (list_values ys)))

pub words_added : (old now new : List ℕ) (xs : List Value) (i : ℕ) (x : Value) → i < length xs → x ≡ get_or xs i x → now ≡ old ++ all_words (list_values (take i xs)) → new ≡ now ++ words_of (view x) → new ≡ old ++ all_words (list_values (take (i + 1) xs))
words_added old now new xs i x h is e n =
    n ∙ ap (λ l. l ++ words_of (view x)) e ∙ append_assoc old (all_words (list_values (take i xs))) (words_of (view x))
    ∙ ap (λ l. old ++ l) (ap (λ l. all_words (list_values (take i xs)) ++ l) (sym (append-nil (words_of (view x)))) ∙ sym (all_words-append (take i xs) (x ∷ [])) ∙ ap (λ l. all_words (list_values l)) (sym (take_item xs i x h is)))

all_named_words-append : (xs ys : List Named) → all_named_words (list_named_values (xs ++ ys)) ≡ all_named_words (list_named_values xs) ++ all_named_words (list_named_values ys)
all_named_words-append [] ys = refl
all_named_words-append (x ∷ xs) ys = ap (λ l. words_of (view x.1) ++ l) (all_named_words-append xs ys) ∙ sym (append_assoc (words_of (view x.1)) (all_named_words (list_named_values xs)) (all_named_words (list_named_values ys)))

pub field_words_added : (old now new : List ℕ) (xs : List Named) (i : ℕ) (x : Named) → i < length xs → x ≡ get_or xs i x → now ≡ old ++ all_named_words (list_named_values (take i xs)) → new ≡ now ++ words_of (view x.1) → new ≡ old ++ all_named_words (list_named_values (take (i + 1) xs))
field_words_added old now new xs i x h is e n =
    n ∙ ap (λ l. l ++ words_of (view x.1)) e ∙ append_assoc old (all_named_words (list_named_values (take i xs))) (words_of (view x.1))
    ∙ ap (λ l. old ++ l) (ap (λ l. all_named_words (list_named_values (take i xs)) ++ l) (sym (append-nil (words_of (view x.1)))) ∙ sym (all_named_words-append (take i xs) (x ∷ [])) ∙ ap (λ l. all_named_words (list_named_values l)) (sym (take_item xs i x h is)))
