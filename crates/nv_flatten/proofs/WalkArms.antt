-- The arms as the functions of the walk have them: equal steps, symbolic values, scopes and numbers.
use Rattle.std.proofs.Common.{◌≡◌, ◌∙◌, refl, ap, sym, subst, inl, inr, ◌⊎◌, ⊎_elim, ℕ, zero, suc, ◌+◌, ◌<◌, ◌≤◌, List, [], ◌∷◌, ◌++◌, length, take, append-nil, arith}
use Rattle.std.proofs.Math.Seq.{take-append_seam}
use Rattle.std.proofs.lemmas.Bool.{cases_lt}
use Rattle.nv_base.specs.declared.term.Atom.{Atom}
use Rattle.nv_base.specs.declared.term.Atom.TheVariants.{Var}
use Rattle.nv_base.specs.Words.{Env, atom_words}
use Rattle.nv_ast.specs.declared.token.Span.{Span}
use Rattle.nv_ast.specs.declared.tree.ShiftOp.{ShiftOp}
use Rattle.nv_ast.specs.Bits.{packed}
use Rattle.nv_ast.specs.Outline.{outline, IsSound}
use Rattle.nv_ast.specs.Tree.{Tree, ShiftTree, UnpackTree, NamedLayout}
use Rattle.nv_ast.specs.Types.{packed_words, unpacked_ty}
use Rattle.nv_meaning.specs.Packing.{value_at}
use Rattle.flat_ir.specs.declared.spine.Step.{Step}
use Rattle.flat_ir.specs.declared.spine.Step.TheVariants.{Let}
use Rattle.nv_flatten_values.specs.inner.Code.{Computes, shift_of}
use Rattle.nv_flatten_values.specs.inner.Symbols.{Symbol, Word, SymbolScope, operands, form, value_in, Fits, AreOlder, word_operand}
use Rattle.nv_flatten_values.specs.inner.Soundness.{AreWords}
use Rattle.nv_flatten_values.specs.inner.View.{Named, scope_of}
use Rattle.nv_flatten_values.specs.inner.Whole.{Whole}
use Rattle.nv_flatten_values.specs.inner.Simulation.{Names, Extends, IsValue}
use Rattle.nv_flatten.proofs.WordArms.{shift-same, shift-value}
use Rattle.nv_flatten.proofs.AccessArms.{unpack-value}

pub value-as : (w : Whole) (names : Names) (low high high' : ℕ) (scope : SymbolScope) (e : Tree) (steps steps' : List Step) (s s' : Symbol)
    → high' ≡ high → steps' ≡ steps → s' ≡ s → IsValue w names low high scope e steps s → IsValue w names low high' scope e steps' s'
value-as w names low high high' scope e steps steps' s s' n ss is v =
    subst (λ x. IsValue w names low high' scope e steps' x) (sym is) (subst (λ x. IsValue w names low high' scope e x s) (sym ss) (subst (λ x. IsValue w names low x scope e steps s) (sym n) v))

pub value-in-scope : (w : Whole) (names : Names) (low high : ℕ) (xs ys : List Named) (e : Tree) (steps : List Step) (s : Symbol) → xs ≡ ys → IsValue w names low high (scope_of xs []) e steps s → IsValue w names low high (scope_of ys []) e steps s
value-in-scope w names low high xs ys e steps s is v = subst (λ x. IsValue w names low high (scope_of x []) e steps s) is v

-- ---- a shift, whatever the count
pub count-cases : (n : ℕ) → (n ≡ 0) ⊎ (1 ≤ n)
count-cases zero = inl refl
count-cases (suc n) = inr (omega arith)

most-cases : (n : ℕ) → (31 < n) ⊎ (n ≤ 31)
most-cases n = cases_lt 31 n

pub shift-as : (w : Whole) (names : Names) (low high next : ℕ) (scope : SymbolScope) (sp : Span) (op : ShiftOp) (a : Tree) (n : ℕ) (ss steps : List Step) (s : Symbol) (r : Atom)
    → low ≤ high → IsValue w names low high scope a ss s
    → (n ≡ 0 → (r ≡ word_operand s) × (steps ≡ ss) × (next ≡ high))
    → (31 < n → (r ≡ word_operand s) × (steps ≡ ss) × (next ≡ high))
    → (1 ≤ n → n ≤ 31 → (r ≡ Var high) × (steps ≡ ss ++ Let high (shift_of op n (word_operand s)) ∷ []) × (next ≡ high + 1))
    → IsValue w names low next scope (ShiftTree sp op a n) steps (Word r)
shift-as w names low high next scope sp op a n ss steps s r le v none past some =
    ⊎_elim
    (λ (z : n ≡ 0). same (λ one most. absurd (omega (arith, z, one))) (none z))
    (λ (one : 1 ≤ n). ⊎_elim
    (λ (z : 31 < n). same (λ one' most. absurd (omega (arith, z, most))) (past z))
    (λ (most : n ≤ 31). let h = some one most in
    value-as w names low (high + 1) next scope (ShiftTree sp op a n) (ss ++ Let high (shift_of op n (word_operand s)) ∷ []) steps (Word (Var high)) (Word r) h.2 h.1 (ap (λ x. Word x) h.0) (shift-value w names low high scope sp op a n ss s one le v))
    (most-cases n))
    (count-cases n)
  where
    same : (1 ≤ n → n ≤ 31 → ⊥) → (r ≡ word_operand s) × (steps ≡ ss) × (next ≡ high) → IsValue w names low next scope (ShiftTree sp op a n) steps (Word r)
    same none_of h = value-as w names low high next scope (ShiftTree sp op a n) ss steps (Word (word_operand s)) (Word r) h.2 h.1 (ap (λ x. Word x) h.0) (shift-same w names low high scope sp op a n ss s none_of v)

-- ---- an unpacked value, of a list of operands
pub unpack-as : (w : Whole) (names : Names) (low mid high : ℕ) (scope : SymbolScope) (sp : Span) (l : List ℕ) (a : Tree) (ss ts : List Step) (s r : Symbol) (as' : List Atom)
    → as' ≡ operands s → low ≤ mid → IsValue w names low mid scope a ss s
    → (IsSound (outline w.declared.layouts (NamedLayout l)) → length as' ≡ packed_words (outline w.declared.layouts (NamedLayout l)) → AreOlder mid as' → (env : Env) → AreWords (atom_words env as')
    → Computes mid ts env (λ new. (value_in new r ≡ value_at (outline w.declared.layouts (NamedLayout l)) (packed (atom_words env as'))) × Fits new r))
    → form r ≡ unpacked_ty (outline w.declared.layouts (NamedLayout l)) → (AreOlder mid as' → AreOlder high (operands r))
    → IsValue w names low high scope (UnpackTree sp l a) (ss ++ ts) r
unpack-as w names low mid high scope sp l a ss ts s r as' is le v unpacks formed older =
    unpack-value w names low mid high scope sp l a ss ts s r le v
    (subst (λ x. IsSound (outline w.declared.layouts (NamedLayout l)) → length x ≡ packed_words (outline w.declared.layouts (NamedLayout l)) → AreOlder mid x → (env : Env) → AreWords (atom_words env x)
    → Computes mid ts env (λ new. (value_in new r ≡ value_at (outline w.declared.layouts (NamedLayout l)) (packed (atom_words env x))) × Fits new r)) is unpacks)
    formed
    (subst (λ x. AreOlder mid x → AreOlder high (operands r)) is older)

-- ---- a scope cut back to what it was
pub cut-back : {A : Type 0} (old mid last new : List A) (n : ℕ) → n ≡ length old → Extends old mid → last ≡ mid → new ≡ take n last → new ≡ old
cut-back old mid last new n is ext same cut =
    cut ∙ ap (λ l. take n l) (same ∙ ext.1) ∙ ap (λ i. take i (old ++ ext.0)) is ∙ take-append_seam old ext.0

pub extends-same : {A : Type 0} (old new : List A) → new ≡ old → Extends old new
extends-same old new is = ([], is ∙ sym (append-nil old))
