-- What an expression of one operand makes of its value, once its kind was read.
use Rattle.std.proofs.Common.{◌≡◌, ◌∙◌, refl, sym, ap, ℕ, Bool, not, List, Vec, Box, Global, Result as Answer, Ok, Err}
use Rattle.nv_base.specs.declared.term.Mem.{Mem}
use Rattle.nv_base.specs.Words.{word_not}
use Rattle.nv_ast.specs.declared.tree.Op.{Op}
use Rattle.nv_ast.specs.declared.tree.ShiftOp.{ShiftOp}
use Rattle.nv_ast.specs.declared.tree.Expr.{Expr, out-Expr}
use Rattle.nv_ast.specs.declared.tree.Stmt.{Stmt}
use Rattle.nv_ast.specs.declared.tree.Pat.{Pat}
use Rattle.nv_ast.specs.declared.tree.Kind.TheVariants as variants
use Rattle.nv_ast.specs.declared.tree.Kind.TheViews as kinds
use Rattle.nv_ast.specs.ExprView.{tree_of}
use Rattle.nv_ast.specs.Outline.{outline}
use Rattle.nv_ast.specs.Tree.{NamedLayout}
use Rattle.nv_meaning_values.specs.Values.{Value, Word, Truth, word_of, truth_of, fields_of, field_named}
use Rattle.nv_meaning_values.specs.Packing.{unpacked_value, packed_value}
use Rattle.nv_meaning_values.specs.Running.{Running, Gives, fetch}
use Rattle.nv_meaning.specs.Meaning.{Declared, shifted}
use Rattle.nv_meaning.specs.inner.Operand.{made_of}
use Rattle.nv_meaning_values.specs.declared.value.Value as code
use Rattle.nv_meaning_values.specs.declared.stop.Interruption.{Interruption}
use Rattle.nv_meaning_values.specs.declared.stop.Interruption.TheVariants.{NoMemory}
use Rattle.nv_meaning_values.specs.inner.View.{view}
use Rattle.nv_meaning.specs.inner.Ran.{IsValue}
use Rattle.nv_meaning.proofs.Arms.{value-as}
use Rattle.nv_meaning.proofs.Choices.{made-grows}
use Rattle.nv_ast.proofs.TreeKinds.{number-is, truth-is, variable-is, paren-is, dot-is, invert-is, negate-is, shift-is, unpack-is, pack-is, fetch-is, binary-is, if-is, try-is, tuple-is, record-is, call-is, raise-is, block-is}

module _ (d : Declared) (e : Expr) (v : Value) (now : Running) where
  pub made-dot : (a : Box Expr Global) (x : List ℕ) (r : code.Value) → (out-Expr e).kind ≡ kinds.Dot a x → view r ≡ field_named x (fields_of v) → IsValue (Ok r) now (made_of d (tree_of e) v now)
  made-dot a x r h is = ap (λ t. made_of d t v now) (dot-is e a x a.value h refl) ∙ ap (λ z. Gives z now) (sym is)

  pub made-invert : (a : Box Expr Global) (x w : ℕ) → (out-Expr e).kind ≡ kinds.Invert a → x ≡ word_of v → w ≡ word_not x → IsValue (Ok (code.Word w)) now (made_of d (tree_of e) v now)
  made-invert a x w h is inverted = ap (λ t. made_of d t v now) (invert-is e a a.value h refl) ∙ ap (λ n. Gives (Word (word_not n)) now) (sym is) ∙ ap (λ n. Gives (Word n) now) (sym inverted)

  pub made-negate : (a : Box Expr Global) (b : Bool) → (out-Expr e).kind ≡ kinds.Negate a → b ≡ truth_of v → IsValue (Ok (code.Truth (not b))) now (made_of d (tree_of e) v now)
  made-negate a b h is = ap (λ t. made_of d t v now) (negate-is e a a.value h refl) ∙ ap (λ c. Gives (Truth (not c)) now) (sym is)

  pub made-shift : (op : ShiftOp) (a : Box Expr Global) (n x w : ℕ) → (out-Expr e).kind ≡ kinds.Shift op a n → x ≡ word_of v → w ≡ shifted op n x → IsValue (Ok (code.Word w)) now (made_of d (tree_of e) v now)
  made-shift op a n x w h is moved = ap (λ t. made_of d t v now) (shift-is e op a n a.value h refl) ∙ ap (λ k. Gives (Word (shifted op n k)) now) (sym is) ∙ ap (λ k. Gives (Word k) now) (sym moved)

  pub made-unpack : (l : List ℕ) (a : Box Expr Global) (r : code.Value) → (out-Expr e).kind ≡ kinds.Unpack l a → view r ≡ unpacked_value (outline d.layouts (NamedLayout l)) v → IsValue (Ok r) now (made_of d (tree_of e) v now)
  made-unpack l a r h is = ap (λ t. made_of d t v now) (unpack-is e l a a.value h refl) ∙ ap (λ z. Gives z now) (sym is)

  pub made-pack : (l : List ℕ) (a : Box Expr Global) (r : code.Value) → (out-Expr e).kind ≡ kinds.Pack l a → view r ≡ packed_value (outline d.layouts (NamedLayout l)) v → IsValue (Ok r) now (made_of d (tree_of e) v now)
  made-pack l a r h is = ap (λ t. made_of d t v now) (pack-is e l a a.value h refl) ∙ ap (λ z. Gives z now) (sym is)

  pub made-fetch : (m : Mem) (n : ℕ) (a : Box Expr Global) (x : ℕ) (answer : Answer code.Value Interruption) → (out-Expr e).kind ≡ kinds.Fetch m n a → x ≡ word_of v → IsValue answer now (fetch m n x now) → IsValue answer now (made_of d (tree_of e) v now)
  made-fetch m n a x answer h is r = value-as answer now (fetch m n x now) (made_of d (tree_of e) v now) (ap (λ t. made_of d t v now) (fetch-is e m n a a.value h refl) ∙ ap (λ k. fetch m n k now) (sym is)) r

  -- memory exhaustion
  pub made-short : IsValue (Err NoMemory) now (made_of d (tree_of e) v now)
  made-short = made-grows d (tree_of e) v now

-- of every other kind it is the operand's value
module _ (d : Declared) (e : Expr) (v : Value) (now : Running) where
  pub plain-number : (n : ℕ) → (out-Expr e).kind ≡ variants.Number n → made_of d (tree_of e) v now ≡ Gives v now
  plain-number n h = ap (λ t. made_of d t v now) (number-is e n h)

  pub plain-truth : (b : Bool) → (out-Expr e).kind ≡ variants.Truth b → made_of d (tree_of e) v now ≡ Gives v now
  plain-truth b h = ap (λ t. made_of d t v now) (truth-is e b h)

  pub plain-variable : (x : List ℕ) → (out-Expr e).kind ≡ variants.Var x → made_of d (tree_of e) v now ≡ Gives v now
  plain-variable x h = ap (λ t. made_of d t v now) (variable-is e x h)

  pub plain-paren : (a : Box Expr Global) → (out-Expr e).kind ≡ kinds.Paren a → made_of d (tree_of e) v now ≡ Gives v now
  plain-paren a h = ap (λ t. made_of d t v now) (paren-is e a a.value h refl)

  pub plain-tuple : (es : Vec Expr Global) → (out-Expr e).kind ≡ kinds.Tuple es → made_of d (tree_of e) v now ≡ Gives v now
  plain-tuple es h = ap (λ t. made_of d t v now) (tuple-is e es es.items h refl)

  pub plain-fields : (es : Vec (List ℕ × Expr) Global) → (out-Expr e).kind ≡ kinds.Fields es → made_of d (tree_of e) v now ≡ Gives v now
  plain-fields es h = ap (λ t. made_of d t v now) (record-is e es es.items h refl)

  pub plain-binary : (op : Op) (a b : Box Expr Global) → (out-Expr e).kind ≡ kinds.Binary op a b → made_of d (tree_of e) v now ≡ Gives v now
  plain-binary op a b h = ap (λ t. made_of d t v now) (binary-is e op a b a.value b.value h refl refl)

  pub plain-call : (f : List ℕ) (es : Vec Expr Global) → (out-Expr e).kind ≡ kinds.Call f es → made_of d (tree_of e) v now ≡ Gives v now
  plain-call f es h = ap (λ t. made_of d t v now) (call-is e f es es.items h refl)

  pub plain-raise : (x : List ℕ) (es : Vec Expr Global) → (out-Expr e).kind ≡ kinds.Raise x es → made_of d (tree_of e) v now ≡ Gives v now
  plain-raise x es h = ap (λ t. made_of d t v now) (raise-is e x es es.items h refl)

  pub plain-if : (c a b : Box Expr Global) → (out-Expr e).kind ≡ kinds.If c a b → made_of d (tree_of e) v now ≡ Gives v now
  plain-if c a b h = ap (λ t. made_of d t v now) (if-is e c a b c.value a.value b.value h refl refl refl)

  pub plain-try : (a : Box Expr Global) (x : List ℕ) (ps : Vec Pat Global) (b : Box Expr Global) → (out-Expr e).kind ≡ kinds.Try a x ps b → made_of d (tree_of e) v now ≡ Gives v now
  plain-try a x ps b h = ap (λ t. made_of d t v now) (try-is e a x ps b a.value ps.items b.value h refl refl refl)

  pub plain-block : (sts : Vec Stmt Global) (a : Box Expr Global) → (out-Expr e).kind ≡ kinds.Block sts a → made_of d (tree_of e) v now ≡ Gives v now
  plain-block sts a h = ap (λ t. made_of d t v now) (block-is e sts a sts.items a.value h refl refl)
