-- Values of types and of words: what is said of lists as far as a loop has come.
use Rattle.std.proofs.Common.{◌≡◌, ◌∙◌, refl, ap, sym, subst, ℕ, zero, suc, ◌+◌, ◌<◌, ◌≤◌, ◌==◌, min, false, List, [], ◌∷◌, ◌++◌, take, drop, length, get_or, add-one, length-append, arith, if◌then◌else◌, slice_index}
use Rattle.std.proofs.lemmas.Bool.Decides.{nat_tests}
use Rattle.std.proofs.lemmas.List.{drop-drop}
use Rattle.nv_ast.specs.declared.tree.TyText.{TyText}
use Rattle.nv_ast.specs.TypeView.{type_tree, list_types, list_named_types}
use Rattle.nv_ast.specs.Outline.{Layouts}
use Rattle.nv_ast.specs.Types.{Ty, NamedTys, words, type_of, types_of, named_types_of, word_parts, words_ty, TupleTy, WordTy}
use Rattle.nv_meaning_values.specs.declared.value.Value as code
use Rattle.nv_meaning_values.specs.Values.{Tuple, value_and, no_values, named_value_and, no_named_values, words_of, all_words, all_named_words, value_from, named_values_from, Scope}
use Rattle.nv_meaning_values.specs.Values as meaning
use Rattle.nv_meaning.specs.Meaning.{named_scope}
use Rattle.nv_meaning.specs.inner.Blanks.{blank, blanks, named_blanks, filled, all_filled, fields_filled}
use Rattle.nv_meaning_values.specs.inner.View.{Named, view, list_values, list_named_values, scope_of}
use Rattle.nv_meaning.proofs.Bindings.{scope-append}
use Rattle.nv_meaning.proofs.Filling.{blank-words, blank-filled}
use Rattle.nv_meaning_values.proofs.Unpacking.{drop-capped}
use Rattle.nv_ast.proofs.Items.{take_item, next_item}

-- ---- blank values of types one after another
module _ (known : Layouts) where
  blanks-again : (done : List code.Value) (tys : List TyText) (v : code.Value) (ty : TyText) → list_values done ≡ blanks (types_of known (list_types tys)) → view v ≡ blank (type_of known (type_tree ty)) → list_values (done ++ v ∷ []) ≡ blanks (types_of known (list_types (tys ++ ty ∷ [])))
  blanks-again [] [] v ty e f = ap (λ u. value_and u no_values) f
  blanks-again [] (t ∷ tys) v ty e f = cc
  blanks-again (d ∷ done) [] v ty e f = cc
  blanks-again (d ∷ done) (t ∷ tys) v ty e f =
      let h : view d ≡ blank (type_of known (type_tree t)) = cc in
      let r : list_values (done ++ v ∷ []) ≡ blanks (types_of known (list_types (tys ++ ty ∷ []))) = blanks-again done tys v ty (cc) f in
      ap (λ u. value_and u (list_values (done ++ v ∷ []))) h ∙ ap (value_and (blank (type_of known (type_tree t)))) r

  pub blanks-listed : (done new : List code.Value) (tys : List TyText) (i : ℕ) (v : code.Value) (ty : TyText) → i < length tys → ty ≡ get_or tys i ty → list_values done ≡ blanks (types_of known (list_types (take i tys))) → view v ≡ blank (type_of known (type_tree ty)) → new ≡ done ++ v ∷ [] → list_values new ≡ blanks (types_of known (list_types (take (i + 1) tys)))
  blanks-listed done new tys i v ty h is e f n = ap list_values n ∙ blanks-again done (take i tys) v ty e f ∙ ap (λ l. blanks (types_of known (list_types l))) (sym (take_item tys i ty h is))

  fields-again : (done : List Named) (tys : List (List ℕ × TyText)) (v : Named) (ty : List ℕ × TyText) → list_named_values done ≡ named_blanks (named_types_of known (list_named_types tys)) → v.0.now ≡ ty.0 → view v.1 ≡ blank (type_of known (type_tree ty.1)) → list_named_values (done ++ v ∷ []) ≡ named_blanks (named_types_of known (list_named_types (tys ++ ty ∷ [])))
  fields-again [] [] v ty e g f = ap (λ n. named_value_and n (view v.1) no_named_values) g ∙ ap (λ u. named_value_and ty.0 u no_named_values) f
  fields-again [] (t ∷ tys) v ty e g f = cc
  fields-again (d ∷ done) [] v ty e g f = cc
  fields-again (d ∷ done) (t ∷ tys) v ty e g f =
      let n : d.0.now ≡ t.0 = cc in
      let h : view d.1 ≡ blank (type_of known (type_tree t.1)) = cc in
      let r : list_named_values (done ++ v ∷ []) ≡ named_blanks (named_types_of known (list_named_types (tys ++ ty ∷ []))) = fields-again done tys v ty (cc) g f in
      ap (λ k. named_value_and k (view d.1) (list_named_values (done ++ v ∷ []))) n ∙ ap (λ u. named_value_and t.0 u (list_named_values (done ++ v ∷ []))) h ∙ ap (named_value_and t.0 (blank (type_of known (type_tree t.1)))) r

  pub fields-listed : (done new : List Named) (tys : List (List ℕ × TyText)) (i : ℕ) (v : Named) (ty : List ℕ × TyText) → i < length tys → ty ≡ get_or tys i ty → list_named_values done ≡ named_blanks (named_types_of known (list_named_types (take i tys))) → v.0.now ≡ ty.0 → view v.1 ≡ blank (type_of known (type_tree ty.1)) → new ≡ done ++ v ∷ [] → list_named_values new ≡ named_blanks (named_types_of known (list_named_types (take (i + 1) tys)))
  fields-listed done new tys i v ty h is e g f n = ap list_named_values n ∙ fields-again done (take i tys) v ty e g f ∙ ap (λ l. named_blanks (named_types_of known (list_named_types l))) (sym (take_item tys i ty h is))

  -- ---- parameters, from left to right
  pub arguments-turn : (params : List (List ℕ × TyText)) (i : ℕ) (param : List ℕ × TyText) (ws : List ℕ) (here next most : ℕ) (v : code.Value) (x : Named) (old new : List Named)
      → i < length params → param ≡ get_or params i param → length ws ≤ most
      → view v ≡ filled (blank (type_of known (type_tree param.1))) (drop here ws) → next ≡ min (here + length (words_of (blank (type_of known (type_tree param.1))))) most
      → x.0.now ≡ param.0 → view x.1 ≡ view v → new ≡ old ++ x ∷ []
      → (whole : Scope) → named_scope (named_values_from (named_types_of known (list_named_types (drop i params))) (drop here ws)) (scope_of old []) ≡ whole
      → named_scope (named_values_from (named_types_of known (list_named_types (drop (i + 1) params))) (drop next ws)) (scope_of new []) ≡ whole
  arguments-turn params i param ws here next most v x old new h is short f n g same e whole before =
      let t : Ty = type_of known (type_tree param.1) in
      let rest : NamedTys = named_types_of known (list_named_types (drop (i + 1) params)) in
      let long : length (words_of (blank t)) ≡ words t = blank-words t in
      let value : view x.1 ≡ value_from t (drop here ws) = same ∙ f ∙ blank-filled t (drop here ws) in
      let behind : drop next ws ≡ drop (words t) (drop here ws) =
      ap (λ k. drop k ws) n ∙ drop-capped (here + length (words_of (blank t))) most ws short ∙ ap (λ k. drop (here + k) ws) long ∙ sym (drop-drop (words t) here ws) in
      let scope : scope_of new [] ≡ (param.0, value_from t (drop here ws)) ∷ scope_of old [] =
      ap (λ l. scope_of l []) e ∙ scope-append old (x ∷ []) [] ∙ ap (λ y. (y, view x.1) ∷ scope_of old []) g ∙ ap (λ u. (param.0, u) ∷ scope_of old []) value in
      ap (λ l. named_scope (named_values_from rest l) (scope_of new [])) behind
      ∙ ap (λ s. named_scope (named_values_from rest (drop (words t) (drop here ws))) s) scope
      ∙ ap (λ l. named_scope (named_values_from (named_types_of known (list_named_types l)) (drop here ws)) (scope_of old [])) (sym (next_item params i param h is))
      ∙ before

-- ---- zeros
pub zeros-again : (n : ℕ) (done new : List code.Value) (v : code.Value) → list_values done ≡ blanks (word_parts n) → view v ≡ meaning.Word 0 → new ≡ done ++ v ∷ [] → list_values new ≡ blanks (word_parts (n + 1))
zeros-again n done new v e f m = ap list_values m ∙ at n done v e f ∙ ap (λ k. blanks (word_parts k)) (sym (add-one n))
  where
    at : (n : ℕ) (done : List code.Value) (v : code.Value) → list_values done ≡ blanks (word_parts n) → view v ≡ meaning.Word 0 → list_values (done ++ v ∷ []) ≡ blanks (word_parts (suc n))
    at zero [] v e f = ap (λ u. value_and u no_values) f
    at zero (d ∷ done) v e f = cc
    at (suc n) [] v e f = cc
    at (suc n) (d ∷ done) v e f =
        let h : view d ≡ meaning.Word 0 = cc in
        let r : list_values (done ++ v ∷ []) ≡ blanks (word_parts (suc n)) = at n done v (cc) f in
        ap (λ u. value_and u (list_values (done ++ v ∷ []))) h ∙ ap (value_and (meaning.Word 0)) r

pub words-tuple : (n : ℕ) → (n ≡ 1 → ⊥) → blank (words_ty n) ≡ Tuple (blanks (word_parts n))
words-tuple n apart =
    let f : (n == 1) ≡ false = grind (arith, nat_tests) in
    ap (λ b. blank (if b then WordTy else TupleTy (word_parts n))) f

-- ---- values with the words from a place on
filled-push : (done ys : List code.Value) (p v : code.Value) (ws : List ℕ) → list_values done ≡ all_filled (list_values ys) ws → view p ≡ filled (view v) (drop (length (all_words (list_values ys))) ws) → list_values (done ++ p ∷ []) ≡ all_filled (list_values (ys ++ v ∷ [])) ws
filled-push [] [] p v ws e f = ap (λ u. value_and u no_values) f
filled-push [] (y ∷ ys) p v ws e f = cc
filled-push (d ∷ done) [] p v ws e f = cc
filled-push (d ∷ done) (y ∷ ys) p v ws e f =
    let h : view d ≡ filled (view y) ws = cc in
    let w : List ℕ = words_of (view y) in
    let k : length (all_words (list_values (y ∷ ys))) ≡ length w + length (all_words (list_values ys)) = length-append w (all_words (list_values ys)) in
    let g : view p ≡ filled (view v) (drop (length (all_words (list_values ys))) (drop (length w) ws)) =
    f ∙ ap (λ n. filled (view v) (drop n ws)) k ∙ ap (λ l. filled (view v) l) (sym (drop-drop (length (all_words (list_values ys))) (length w) ws)) in
    let r : list_values (done ++ p ∷ []) ≡ all_filled (list_values (ys ++ v ∷ [])) (drop (length w) ws) = filled-push done ys p v (drop (length w) ws) (cc) g in
    ap (λ u. value_and u (list_values (done ++ p ∷ []))) h ∙ ap (value_and (filled (view y) ws)) r

words-push : (ys : List code.Value) (v : code.Value) → length (all_words (list_values (ys ++ v ∷ []))) ≡ length (all_words (list_values ys)) + length (words_of (view v))
words-push [] v = length-append (words_of (view v)) [] ∙ omega arith
words-push (y ∷ ys) v = omega (arith, length-append (words_of (view y)) (all_words (list_values (ys ++ v ∷ []))), length-append (words_of (view y)) (all_words (list_values ys)), words-push ys v)

named-push : (done ys : List Named) (p v : Named) (ws : List ℕ) → list_named_values done ≡ fields_filled (list_named_values ys) ws → p.0.now ≡ v.0.now → view p.1 ≡ filled (view v.1) (drop (length (all_named_words (list_named_values ys))) ws) → list_named_values (done ++ p ∷ []) ≡ fields_filled (list_named_values (ys ++ v ∷ [])) ws
named-push [] [] p v ws e n f = ap (λ x. named_value_and x (view p.1) no_named_values) n ∙ ap (λ u. named_value_and v.0.now u no_named_values) f
named-push [] (y ∷ ys) p v ws e n f = cc
named-push (d ∷ done) [] p v ws e n f = cc
named-push (d ∷ done) (y ∷ ys) p v ws e n f =
    let m : d.0.now ≡ y.0.now = cc in
    let h : view d.1 ≡ filled (view y.1) ws = cc in
    let w : List ℕ = words_of (view y.1) in
    let k : length (all_named_words (list_named_values (y ∷ ys))) ≡ length w + length (all_named_words (list_named_values ys)) = length-append w (all_named_words (list_named_values ys)) in
    let g : view p.1 ≡ filled (view v.1) (drop (length (all_named_words (list_named_values ys))) (drop (length w) ws)) =
    f ∙ ap (λ j. filled (view v.1) (drop j ws)) k ∙ ap (λ l. filled (view v.1) l) (sym (drop-drop (length (all_named_words (list_named_values ys))) (length w) ws)) in
    let r : list_named_values (done ++ p ∷ []) ≡ fields_filled (list_named_values (ys ++ v ∷ [])) (drop (length w) ws) = named-push done ys p v (drop (length w) ws) (cc) n g in
    ap (λ x. named_value_and x (view d.1) (list_named_values (done ++ p ∷ []))) m ∙ ap (λ u. named_value_and y.0.now u (list_named_values (done ++ p ∷ []))) h ∙ ap (named_value_and y.0.now (filled (view y.1) ws)) r

named_words-push : (ys : List Named) (v : Named) → length (all_named_words (list_named_values (ys ++ v ∷ []))) ≡ length (all_named_words (list_named_values ys)) + length (words_of (view v.1))
named_words-push [] v = length-append (words_of (view v.1)) [] ∙ omega arith
named_words-push (y ∷ ys) v = omega (arith, length-append (words_of (view y.1)) (all_named_words (list_named_values (ys ++ v ∷ []))), length-append (words_of (view y.1)) (all_named_words (list_named_values ys)), named_words-push ys v)

-- a place of words that stands still after the end
capped-more : (first k m most : ℕ) (here next : ℕ) → here ≡ min (first + k) most → next ≡ min (here + m) most → next ≡ min (first + (k + m)) most
capped-more first k m most here next e n = omega arith

-- what a turn of the loop over values, or over fields, leaves
pub record Filled (first most here : ℕ) (ws : List ℕ) (done ys : List code.Value) : Type 0 where
  pub values : list_values done ≡ all_filled (list_values ys) (drop first ws)
  pub behind : here ≡ min (first + length (all_words (list_values ys))) most

pub filled-none : (first most : ℕ) (ws : List ℕ) → first ≤ most → Filled first most first ws [] []
filled-none first most ws h = record { values = refl; behind = omega arith }

pub filled-more : (first most here next : ℕ) (ws : List ℕ) (done new ys : List code.Value) (p v : code.Value) → length ws ≤ most → Filled first most here ws done ys → view p ≡ filled (view v) (drop here ws) → next ≡ min (here + length (words_of (view v))) most → new ≡ done ++ p ∷ [] → Filled first most next ws new (ys ++ v ∷ [])
filled-more first most here next ws done new ys p v short before f n e = record {
  values =
      ap list_values e ∙ filled-push done ys p v (drop first ws) before.values
      (f ∙ ap (λ l. filled (view v) l) (ap (λ k. drop k ws) before.behind ∙ drop-capped (first + length (all_words (list_values ys))) most ws short ∙ sym (drop-drop (length (all_words (list_values ys))) first ws)));
  behind = capped-more first (length (all_words (list_values ys))) (length (words_of (view v))) most here next before.behind n ∙ ap (λ k. min (first + k) most) (sym (words-push ys v));
}

pub record FilledFields (first most here : ℕ) (ws : List ℕ) (done ys : List Named) : Type 0 where
  pub values : list_named_values done ≡ fields_filled (list_named_values ys) (drop first ws)
  pub behind : here ≡ min (first + length (all_named_words (list_named_values ys))) most

pub fields-none : (first most : ℕ) (ws : List ℕ) → first ≤ most → FilledFields first most first ws [] []
fields-none first most ws h = record { values = refl; behind = omega arith }

pub fields-more : (first most here next : ℕ) (ws : List ℕ) (done new ys : List Named) (p v : Named) → length ws ≤ most → FilledFields first most here ws done ys → p.0.now ≡ v.0.now → view p.1 ≡ filled (view v.1) (drop here ws) → next ≡ min (here + length (words_of (view v.1))) most → new ≡ done ++ p ∷ [] → FilledFields first most next ws new (ys ++ v ∷ [])
fields-more first most here next ws done new ys p v short before m f n e = record {
  values =
      ap list_named_values e ∙ named-push done ys p v (drop first ws) before.values m
      (f ∙ ap (λ l. filled (view v.1) l) (ap (λ k. drop k ws) before.behind ∙ drop-capped (first + length (all_named_words (list_named_values ys))) most ws short ∙ sym (drop-drop (length (all_named_words (list_named_values ys))) first ws)));
  behind = capped-more first (length (all_named_words (list_named_values ys))) (length (words_of (view v.1))) most here next before.behind n ∙ ap (λ k. min (first + k) most) (sym (named_words-push ys v));
}

-- the same, over the items of a slice
pub filled-turn : (first most here next : ℕ) (ws : List ℕ) (done new vs : List code.Value) (i : ℕ) (p v : code.Value) → i < length vs → v ≡ get_or vs i v → length ws ≤ most → Filled first most here ws done (take i vs) → view p ≡ filled (view v) (drop here ws) → next ≡ min (here + length (words_of (view v))) most → new ≡ done ++ p ∷ [] → Filled first most next ws new (take (i + 1) vs)
filled-turn first most here next ws done new vs i p v h is short before f n e = subst (λ l. Filled first most next ws new l) (sym (take_item vs i v h is)) (filled-more first most here next ws done new (take i vs) p v short before f n e)

pub fields-turn : (first most here next : ℕ) (ws : List ℕ) (done new vs : List Named) (i : ℕ) (p v : Named) → i < length vs → v ≡ get_or vs i v → length ws ≤ most → FilledFields first most here ws done (take i vs) → p.0.now ≡ v.0.now → view p.1 ≡ filled (view v.1) (drop here ws) → next ≡ min (here + length (words_of (view v.1))) most → new ≡ done ++ p ∷ [] → FilledFields first most next ws new (take (i + 1) vs)
fields-turn first most here next ws done new vs i p v h is short before m f n e = subst (λ l. FilledFields first most next ws new l) (sym (take_item vs i v h is)) (fields-more first most here next ws done new (take i vs) p v short before m f n e)

-- ---- one word
pub word-read : (ws : List ℕ) (i : ℕ) → slice_index (drop i ws) 0 ≡ slice_index ws i
word-read [] zero = refl
word-read [] (suc i) = refl
word-read (w ∷ ws) zero = refl
word-read (w ∷ ws) (suc i) = word-read ws i
