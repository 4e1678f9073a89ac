-- Shifts, and operators on two words.
use Rattle.std.proofs.Common.{◌≡◌, ◌∙◌, refl, ap, sym, subst, ℕ, zero, suc, ◌+◌, ◌<◌, ◌≤◌, ◌^◌, false, List, [], ◌∷◌, ◌++◌, append_assoc, Some, nat_lt, arith, rules, tests}
use Rattle.std.proofs.lemmas.Option.{same_Some, none-some}
use Rattle.nv_base.specs.declared.term.Atom.{Atom}
use Rattle.nv_base.specs.declared.term.Atom.TheVariants.{Var, Lit}
use Rattle.nv_base.specs.declared.term.Bin.{Bin}
use Rattle.nv_base.specs.declared.term.Bin.TheVariants as bin
use Rattle.nv_base.specs.declared.term.Una.TheVariants as una
use Rattle.nv_base.specs.declared.term.Primitive.TheVariants.{Bin as BinOf}
use Rattle.nv_base.specs.Words.{Env, atom_word, prim_word, bin_word}
use Rattle.nv_base.proofs.WordLemmas.{una-fits, bin-fits}
use Rattle.nv_ast.specs.declared.token.Span.{Span}
use Rattle.nv_ast.specs.declared.tree.Op.{Op}
use Rattle.nv_ast.specs.declared.tree.Op.TheVariants.{Add, Sub, And, Or, Xor, Eq, Ne, Lt, Le, Gt, Ge, Both, Either}
use Rattle.nv_ast.specs.declared.tree.ShiftOp.{ShiftOp}
use Rattle.nv_ast.specs.declared.tree.ShiftOp.TheVariants.{Left, Right, Rotate}
use Rattle.nv_ast.specs.Tree.{Tree, BinaryTree, ShiftTree}
use Rattle.nv_ast.specs.Types.{WordTy}
use Rattle.nv_ast.specs.Scope.{Context, inside}
use Rattle.nv_ast.specs.Typing.{operand_ty, result_ty}
use Rattle.nv_ast.specs.Faults.{Expected, faults, node_faults, of_type}
use Rattle.nv_meaning.specs.Values.{Value, word_of}
use Rattle.nv_meaning.specs.Values as meaning
use Rattle.nv_meaning.specs.Running.{Running, Result, Gives, and_then}
use Rattle.nv_meaning.specs.Meaning.{eval, binary, shifted}
use Rattle.flat_ir.specs.Spine.{steps_do}
use Rattle.flat_ir.specs.declared.spine.Step.{Step}
use Rattle.flat_ir.specs.declared.spine.Step.TheVariants.{Let}
use Rattle.nv_flatten_values.specs.inner.Code.{arithmetic_of, shift_of}
use Rattle.nv_flatten_values.specs.inner.Symbols.{Symbol, Word, Truth, Tuple, Record, SymbolScope, operands, value_in, Fits, AreOlder, word_operand, scope_in}
use Rattle.nv_flatten_values.specs.inner.Runs.{flat_run, onward}
use Rattle.nv_flatten_values.specs.inner.Whole.{Whole}
use Rattle.nv_flatten_values.specs.inner.Simulation.{Names, Extends, IsValue}
use Rattle.nv_flatten_values.proofs.Keeping.{scope-later, keeps-value, keeps-fit, keeps-scope, begins-then, done-then}
use Rattle.nv_flatten_values.proofs.NoFaults.{clean as is-clean}
use Rattle.nv_flatten_values.proofs.Following.{onward-then, steps-then, stands-inside, fewer, word-of, word-fits, one-older, assigned-here, defined}
use Rattle.nv_flatten_values.proofs.ValueArms.{unary}
use Rattle.nv_ast.proofs.Faultless.{no_front, no_rest, not_where}

-- ---- shifts
shift-word : (op : ShiftOp) (n : ℕ) (a : Atom) (env : Env) → prim_word env (shift_of op n a) ≡ shifted op n (atom_word env a)
shift-word Left n a env = refl
shift-word Right n a env = refl
shift-word Rotate n a env = refl

shift-fits : (op : ShiftOp) (n x : ℕ) → 1 ≤ n → n ≤ 31 → x < 2 ^ 32 → shifted op n x < 2 ^ 32
shift-fits Left n x le le' h = una-fits (una.Shl n) x (le, le') h
shift-fits Right n x le le' h = una-fits (una.Shr n) x (le, le') h
shift-fits Rotate n x le le' h = una-fits (una.Rol n) x (le, le') h

shift-nothing : (op : ShiftOp) (x : ℕ) → x < 2 ^ 32 → shifted op 0 x ≡ x
shift-nothing Left x h = grind (arith, rules)
shift-nothing Right x h = grind (arith, rules)
shift-nothing Rotate x h = grind (arith, rules)

count-fits : (n : ℕ) → nat_lt 31 n ≡ false → n ≤ 31
count-fits n e = search (tests, rules)

operand-older : (n : ℕ) (s : Symbol) → AreOlder n (operands s) → AreOlder n (word_operand s ∷ [])
operand-older n (Word a) o = o
operand-older n (Truth a) o = one-older n (Lit 0) tt
operand-older n (Tuple ss) o = one-older n (Lit 0) tt
operand-older n (Record fs) o = one-older n (Lit 0) tt

module _ (w : Whole) (names : Names) (low high : ℕ) (scope : SymbolScope) (sp : Span) (op : ShiftOp) (a : Tree) (n : ℕ) (ss : List Step) (s : Symbol) where
  -- at most 31 places in a typed program
  few : (p : Context) (wanted : Expected) → faults p wanted (ShiftTree sp op a n) ≡ [] → n ≤ 31
  few p wanted none = count-fits n (not_where (nat_lt 31 n) 21 (is-clean p wanted (ShiftTree sp op a n) none).middle)

  -- by no place, the word itself; what isn't typed has no simulation
  pub shift-same : (1 ≤ n → n ≤ 31 → ⊥) → IsValue w names low high scope a ss s → IsValue w names low high scope (ShiftTree sp op a n) ss (Word (word_operand s))
  shift-same none_of v = record {
    simulates = record {
      by = λ own p wanted stands none o c env now begins rest next same.
          let clean = no_front (faults (inside p) (of_type WordTy) a) (node_faults p wanted (ShiftTree sp op a n)) none in
          let k : Value → Running → Result = λ y last. Gives (meaning.Word (shifted op n (word_of y))) last in
          let nothing : n ≡ 0 = no-places n none_of (few p wanted none) in
          v.simulates.by own (inside p) (of_type WordTy) (stands-inside w own scope p stands) clean o c env now begins rest (λ y last. onward (k y last) next)
          (λ new last done.
          let small = word-fits new s done.fits in
          same new last (record { sizes = done.sizes; keeps = done.keeps; fits = small })
          ∙ ap (λ x. next (meaning.Word x) last) (sym (shift-nothing op (atom_word new (word_operand s)) small) ∙ ap (λ x. shifted op 0 x) (sym (word-of new s)) ∙ ap (λ i. shifted op i (word_of (value_in new s))) (sym nothing)))
          ∙ sym (onward-then (eval w.declared c.call a (scope_in env scope) now) k next);
    };
    formed = record { by = λ own p wanted stands none t is. same_Some WordTy t is };
    older = λ o. operand-older high s (v.older o);
  }
    where
      no-places : (i : ℕ) → (1 ≤ i → i ≤ 31 → ⊥) → i ≤ 31 → i ≡ 0
      no-places zero h le = refl
      no-places (suc i) h le = absurd (h (omega arith) le)

  pub shift-value : 1 ≤ n → low ≤ high → IsValue w names low high scope a ss s → IsValue w names low (high + 1) scope (ShiftTree sp op a n) (ss ++ Let high (shift_of op n (word_operand s)) ∷ []) (Word (Var high))
  shift-value some le v =
      unary w names low high (high + 1) scope (ShiftTree sp op a n) a ss (Let high (shift_of op n (word_operand s)) ∷ []) s (Word (Var high)) (λ y last. Gives (meaning.Word (shifted op n (word_of y))) last) (λ p. of_type WordTy) v
      (λ call m now. refl) (λ p wanted. refl)
      (λ own p wanted stands none o call env new last done rest next same.
      let x = atom_word new (word_operand s) in
      let made = prim_word new (shift_of op n (word_operand s)) in
      let is = shift-word op n (word_operand s) new in
      defined low high env new last (Fits new s) made (Word (Var high)) (meaning.Word (shifted op n (word_of (value_in new s)))) rest next le done
      (ap (λ y. meaning.Word y) (assigned-here new high made ∙ is) ∙ ap (λ y. meaning.Word (shifted op n y)) (sym (word-of new s)))
      (subst (λ y. y < 2 ^ 32) (sym (assigned-here new high made ∙ is)) (shift-fits op n x some (few p wanted none) (word-fits new s done.fits))) same)
      (record { by = λ own p wanted stands none t is. same_Some WordTy t is })
      (λ o. one-older (high + 1) (Var high) (omega arith))

-- ---- operators on two words
abbrev both_words : Bin → Value → Value → Running → Result
both_words b x y last = Gives (meaning.Word (bin_word b (word_of x) (word_of y))) last

arithmetic-is : (op : Op) (b : Bin) (left : Result) (right : Running → Result) → arithmetic_of op ≡ Some b → binary op left right ≡ and_then left (λ x now. and_then (right now) (both_words b x))
arithmetic-is Add b left right e = ap (λ i. and_then left (λ x now. and_then (right now) (both_words i x))) (same_Some bin.Add b e)
arithmetic-is Sub b left right e = ap (λ i. and_then left (λ x now. and_then (right now) (both_words i x))) (same_Some bin.Sub b e)
arithmetic-is And b left right e = ap (λ i. and_then left (λ x now. and_then (right now) (both_words i x))) (same_Some bin.And b e)
arithmetic-is Or b left right e = ap (λ i. and_then left (λ x now. and_then (right now) (both_words i x))) (same_Some bin.Or b e)
arithmetic-is Xor b left right e = ap (λ i. and_then left (λ x now. and_then (right now) (both_words i x))) (same_Some bin.Xor b e)
arithmetic-is Eq b left right e = absurd (none-some b e)
arithmetic-is Ne b left right e = absurd (none-some b e)
arithmetic-is Lt b left right e = absurd (none-some b e)
arithmetic-is Le b left right e = absurd (none-some b e)
arithmetic-is Gt b left right e = absurd (none-some b e)
arithmetic-is Ge b left right e = absurd (none-some b e)
arithmetic-is Both b left right e = absurd (none-some b e)
arithmetic-is Either b left right e = absurd (none-some b e)

arithmetic-type : (op : Op) (b : Bin) → arithmetic_of op ≡ Some b → result_ty op ≡ WordTy
arithmetic-type Add b e = refl
arithmetic-type Sub b e = refl
arithmetic-type And b e = refl
arithmetic-type Or b e = refl
arithmetic-type Xor b e = refl
arithmetic-type Eq b e = absurd (none-some b e)
arithmetic-type Ne b e = absurd (none-some b e)
arithmetic-type Lt b e = absurd (none-some b e)
arithmetic-type Le b e = absurd (none-some b e)
arithmetic-type Gt b e = absurd (none-some b e)
arithmetic-type Ge b e = absurd (none-some b e)
arithmetic-type Both b e = absurd (none-some b e)
arithmetic-type Either b e = absurd (none-some b e)

module _ (w : Whole) (names more : Names) (low mid high : ℕ) (scope : SymbolScope) (sp : Span) (op : Op) (b : Bin) (x y : Tree) (ss ts : List Step) (s u : Symbol) where
  pub combine-value : arithmetic_of op ≡ Some b → Extends names more → low ≤ mid → mid ≤ high → IsValue w names low mid scope x ss s → IsValue w more mid high scope y ts u
      → IsValue w more low (high + 1) scope (BinaryTree sp op x y) ((ss ++ ts) ++ Let high (BinOf b (word_operand s) (word_operand u)) ∷ []) (Word (Var high))
  combine-value is ext le le' v v' = record {
    simulates = record {
      by = λ own p wanted stands none o c env now begins rest next same.
          let step = Let high (BinOf b (word_operand s) (word_operand u)) ∷ [] in
          let f = faults (inside p) (of_type (operand_ty op)) x in
          let g = faults (inside p) (of_type (operand_ty op)) y in
          let own_faults = node_faults p wanted (BinaryTree sp op x y) in
          let first = no_front f (g ++ own_faults) none in
          let second = no_front g own_faults (no_rest f (g ++ own_faults) none) in
          let inner = stands-inside w own scope p stands in
          let m = scope_in env scope in
          let right : Running → Result = λ now'. eval w.declared c.call y m now' in
          ap (λ l. steps_do c.fcall l rest env (flat_run now)) (append_assoc ss ts step)
          ∙ steps-then c.fcall ss (ts ++ step) rest env (flat_run now)
          ∙ v.simulates.by own (inside p) (of_type (operand_ty op)) inner first o (fewer w names more ext c) env now begins (steps_do c.fcall (ts ++ step) rest) (λ i last. onward (and_then (right last) (both_words b i)) next)
          (λ new last done.
          steps-then c.fcall ts step rest new (flat_run last)
          ∙ v'.simulates.by own (inside p) (of_type (operand_ty op)) inner second (scope-later low mid scope le o) c new last (begins-then low env new scope now last (Fits new s) o begins done) (steps_do c.fcall step rest) (λ j end. onward (both_words b (value_in new s) j end) next)
          (λ after end done'.
          let kept = keeps-value mid new after s done'.keeps (v.older o) in
          let fits = keeps-fit mid new after s done'.keeps (v.older o) done.fits in
          let made = bin_word b (atom_word after (word_operand s)) (atom_word after (word_operand u)) in
          defined low high env after end (Fits after u) made (Word (Var high)) (meaning.Word (bin_word b (word_of (value_in new s)) (word_of (value_in after u)))) rest next (omega arith)
          (done-then low mid env new after (Fits new s) (Fits after u) last end le done done')
          (ap (λ i. meaning.Word i) (assigned-here after high made)
          ∙ ap (λ i. meaning.Word (bin_word b i (atom_word after (word_operand u)))) (sym (word-of after s) ∙ ap word_of kept)
          ∙ ap (λ j. meaning.Word (bin_word b (word_of (value_in new s)) j)) (sym (word-of after u)))
          (subst (λ i. i < 2 ^ 32) (sym (assigned-here after high made)) (bin-fits b (atom_word after (word_operand s)) (atom_word after (word_operand u)) (word-fits after s fits) (word-fits after u done'.fits)))
          same)
          ∙ sym (onward-then (eval w.declared c.call y (scope_in new scope) last) (both_words b (value_in new s)) next)
          ∙ ap (λ z. onward (and_then (eval w.declared c.call y z last) (both_words b (value_in new s))) next) (keeps-scope low env new scope done.keeps o))
          ∙ sym (onward-then (eval w.declared c.call x m now) (λ i last. and_then (right last) (both_words b i)) next)
          ∙ ap (λ r. onward r next) (sym (arithmetic-is op b (eval w.declared c.call x m now) right is));
    };
    formed = record { by = λ own p wanted stands none t e. sym (arithmetic-type op b is) ∙ same_Some (result_ty op) t e };
    older = λ o. one-older (high + 1) (Var high) (omega arith);
  }
