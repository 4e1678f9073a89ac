-- Words as values, as far as a loop has come.
use Rattle.std.proofs.Common.{◌≡◌, ◌∙◌, refl, ap, sym, ℕ, ◌+◌, ◌<◌, List, [], ◌∷◌, ◌++◌, take, length, slice_index}
use Rattle.std.proofs.lemmas.List.{take_more}
use Rattle.nv_meaning_values.specs.declared.value.Value.{Value}
use Rattle.nv_meaning_values.specs.Values.{value_and, word_values}
use Rattle.nv_meaning_values.specs.Values as meaning
use Rattle.nv_meaning_values.specs.inner.View.{view, list_values}

words-again : (xs : List Value) (ws : List ℕ) (w : ℕ) → list_values xs ≡ word_values ws → list_values (xs ++ Value.Word w ∷ []) ≡ word_values (ws ++ w ∷ [])
words-again [] [] w e = refl
words-again [] (b ∷ ws) w e = cc
words-again (a ∷ xs) [] w e = cc
words-again (a ∷ xs) (b ∷ ws) w e =
    let h : view a ≡ meaning.Word b = cc in
    let r : list_values (xs ++ Value.Word w ∷ []) ≡ word_values (ws ++ w ∷ []) = words-again xs ws w (cc) in
    ap (λ v. value_and v (list_values (xs ++ Value.Word w ∷ []))) h ∙ ap (value_and (meaning.Word b)) r

pub words_listed : (done new : List Value) (ws : List ℕ) (i : ℕ) → i < length ws → list_values done ≡ word_values (take i ws) → new ≡ done ++ Value.Word (slice_index ws i) ∷ [] → list_values new ≡ word_values (take (i + 1) ws)
words_listed done new ws i h e n = ap list_values n ∙ words-again done (take i ws) (slice_index ws i) e ∙ ap word_values (sym (take_more ws i 0 h))
