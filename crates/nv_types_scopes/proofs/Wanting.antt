-- Words where something is wanted.
use Rattle.std.proofs.Common.{◌≡◌, ◌∙◌, ap, sym, ℕ, Bool, true, false}
use Rattle.std.proofs.lemmas.Bool.{false≢true}
use Rattle.nv_ast.specs.Types.{Ty, words_ty}
use Rattle.nv_ast.specs.Faults.{Expected as ExpectedTree, can_store}
use Rattle.nv_types_scopes.specs.declared.expected.Expected.{Expected}
use Rattle.nv_types_scopes.specs.declared.expected.Expected.TheVariants.{Anything, Value, Typed, Same, Packed, Stored}
use Rattle.nv_types_scopes.specs.inner.Judging.{IsExpected}
use Rattle.nv_types_table.specs.inner.Store.{Store}
use Rattle.nv_types_table.proofs.WordLists.{store_words}

pub right_any : (s : Store) (w : ExpectedTree) → IsExpected s Anything w → (u : Ty) → true ≡ w.right u
right_any s w h u = sym (ap (λ (x : ExpectedTree). x.right u) h)

pub right_value : (s : Store) (w : ExpectedTree) → IsExpected s Value w → (u : Ty) → true ≡ w.right u
right_value s w h u = sym (ap (λ (x : ExpectedTree). x.right u) h)

pub right_stored : (s : Store) (w : ExpectedTree) → IsExpected s Stored w → (u : Ty) → can_store u ≡ w.right u
right_stored s w h u = sym (ap (λ (x : ExpectedTree). x.right u) h)

pub right_words_stored : (s : Store) (w : ExpectedTree) → IsExpected s Stored w → (n : ℕ) → true ≡ w.right (words_ty n)
right_words_stored s w h n = sym (store_words n) ∙ right_stored s w h (words_ty n)

-- wanted things for which words of any number are right
abbrev pub takes_words : Expected → Bool
takes_words Anything = true
takes_words Value = true
takes_words Stored = true
takes_words _ = false

pub right_words_free : (s : Store) (m : Expected) (w : ExpectedTree) (n : ℕ) → takes_words m ≡ true → IsExpected s m w → true ≡ w.right (words_ty n)
right_words_free s Anything w n e h = right_any s w h (words_ty n)
right_words_free s Value w n e h = right_value s w h (words_ty n)
right_words_free s Stored w n e h = right_words_stored s w h n
right_words_free s (Typed i) w n e h = absurd (false≢true e)
right_words_free s (Same i) w n e h = absurd (false≢true e)
right_words_free s (Packed i) w n e h = absurd (false≢true e)
