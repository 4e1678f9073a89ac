-- Conditions: steps and a comparison that is a condition's truth.
use Rattle.std.proofs.Common.{◌≡◌, ◌∙◌, refl, ap, sym, subst, ℕ, ◌≤◌, Bool, true, false, not, if◌then◌else◌, List, [], ◌++◌, Option, Some, None}
use Rattle.std.specs.Prelude.{⊤}
use Rattle.std.proofs.lemmas.List.Elements.{All-head}
use Rattle.nv_base.specs.declared.term.Atom.{Atom}
use Rattle.nv_base.specs.declared.term.Atom.TheVariants.{Lit}
use Rattle.nv_base.specs.declared.term.Cmp.{Cmp}
use Rattle.nv_base.specs.declared.term.Cmp.TheVariants as cmp
use Rattle.nv_base.specs.Words.{Env, atom_word, compares}
use Rattle.nv_ast.specs.declared.token.Span.{Span}
use Rattle.nv_ast.specs.declared.tree.Op.{Op}
use Rattle.nv_ast.specs.declared.tree.Op.TheVariants.{Add, Sub, And, Or, Xor, Eq, Ne, Lt, Le, Gt, Ge, Both, Either}
use Rattle.nv_ast.specs.Tree.{Tree, ParenTree, NegateTree, BinaryTree}
use Rattle.nv_ast.specs.Types.{WordTy, BoolTy}
use Rattle.nv_ast.specs.Scope.{Context, inside}
use Rattle.nv_ast.specs.Typing.{operand_ty}
use Rattle.nv_ast.specs.Faults.{Expected, a_value, of_type, faults, node_faults}
use Rattle.nv_meaning.specs.Values.{Value, word_of, truth_of}
use Rattle.nv_meaning.specs.Values as meaning
use Rattle.nv_meaning.specs.Running.{Running, Result, Gives, Raises, Halts, and_then}
use Rattle.nv_meaning.specs.Meaning.{eval, binary, combined}
use Rattle.flat_ir.specs.Running as flat
use Rattle.flat_ir.specs.Spine.{Act, steps_do}
use Rattle.flat_ir.specs.declared.spine.Step.{Step}
use Rattle.nv_flatten_values.specs.inner.Symbols.{Symbol, Word, Truth, Tuple, Record, SymbolScope, operands, form, value_in, scope_in, Fits, IsOlder, AreOlder, ScopeOlder, word_operand, truth_operand}
use Rattle.nv_flatten_values.specs.inner.Code.{comparison_of}
use Rattle.nv_flatten_values.specs.inner.Runs.{flat_run, onward}
use Rattle.nv_flatten_values.specs.inner.Whole.{Whole, Stands}
use Rattle.nv_flatten_values.specs.inner.Simulation.{Names, Extends, Setting, Begins, Done, IsValue, IsTest}
use Rattle.nv_flatten_values.proofs.Keeping.{older-later, scope-later, keeps-then, keeps-value, keeps-fit, keeps-scope, begins-then, extends-then}
use Rattle.nv_flatten_values.proofs.NoFaults.{wanted-type}
use Rattle.nv_flatten_values.proofs.Following.{onward-then, steps-then, stands-inside, value-more, word-of}
use Rattle.nv_ast.proofs.Faultless.{no_front, no_rest}

-- ---- what follows a value, equal at each
pub onward-same : (r : Result) (f g : Value → Running → flat.Result) → ((v : Value) (now : Running) → f v now ≡ g v now) → onward r f ≡ onward r g
onward-same (Gives v now) f g h = h v now
onward-same (Raises k vs now) f g h = refl
onward-same (Halts how now) f g h = refl

-- ---- operands
pub word-older : (n : ℕ) (s : Symbol) → AreOlder n (operands s) → IsOlder n (word_operand s)
word-older n (Word a) o = All-head (IsOlder n) a [] o
word-older n (Truth a) o = tt
word-older n (Tuple ss) o = tt
word-older n (Record fs) o = tt

pub truth-older : (n : ℕ) (s : Symbol) → AreOlder n (operands s) → IsOlder n (truth_operand s)
truth-older n (Word a) o = tt
truth-older n (Truth a) o = All-head (IsOlder n) a [] o
truth-older n (Tuple ss) o = tt
truth-older n (Record fs) o = tt

truth-holds : (env : Env) (s : Symbol) → form s ≡ BoolTy → value_in env s ≡ meaning.Truth (compares cmp.Ne (atom_word env (truth_operand s)) (atom_word env (Lit 0)))
truth-holds env (Word a) h = cc
truth-holds env (Truth a) h = refl
truth-holds env (Tuple ss) h = cc
truth-holds env (Record fs) h = cc

-- ---- further names
pub test-more : (w : Whole) (names more : Names) → Extends names more → (low high : ℕ) (scope : SymbolScope) (e : Tree) (steps : List Step) (c : Cmp) (a b : Atom)
    → IsTest w names low high scope e steps c a b → IsTest w more low high scope e steps c a b
test-more w names more h low high scope e steps c a b v = record {
  simulate = λ own p wanted stands none ty older s env now begins rest next same. v.simulate own p wanted stands none ty older (record { all = s.all; more = extends-then names more s.all h s.more; call = s.call; fcall = s.fcall; typed = s.typed; same = s.same }) env now begins rest next same;
  older = v.older;
}

-- ---- a truth is compared with 0
pub truth-test : (w : Whole) (names : Names) (low high : ℕ) (scope : SymbolScope) (e : Tree) (steps : List Step) (s : Symbol)
    → IsValue w names low high scope e steps s → IsTest w names low high scope e steps cmp.Ne (truth_operand s) (Lit 0)
truth-test w names low high scope e steps s v = record {
  simulate = λ own p wanted stands none ty older c env now begins rest next same.
      v.simulates.by own p wanted stands none older c env now begins rest next
      (λ new last done. same new last (record { sizes = done.sizes; keeps = done.keeps; fits = tt })
      ∙ ap (λ x. next x last) (sym (truth-holds new s (v.formed.by own p wanted stands none BoolTy ty))));
  older = λ o. (truth-older high s (v.older o), tt);
}

-- ---- parentheses, and a truth turned over
pub paren-test : (w : Whole) (names : Names) (low high : ℕ) (scope : SymbolScope) (sp : Span) (e : Tree) (steps : List Step) (c : Cmp) (a b : Atom)
    → IsTest w names low high scope e steps c a b → IsTest w names low high scope (ParenTree sp e) steps c a b
paren-test w names low high scope sp e steps c a b v = record {
  simulate = λ own p wanted stands none ty older s env now begins rest next same.
      v.simulate own p a_value stands (no_front (faults p a_value e) (node_faults p wanted (ParenTree sp e)) none) ty older s env now begins rest next same;
  older = v.older;
}

pub negate-test : (w : Whole) (names : Names) (low high : ℕ) (scope : SymbolScope) (sp : Span) (e : Tree) (steps : List Step) (c d : Cmp) (a b : Atom)
    → ((x y : ℕ) → compares d x y ≡ not (compares c x y)) → IsTest w names low high scope e steps c a b → IsTest w names low high scope (NegateTree sp e) steps d a b
negate-test w names low high scope sp e steps c d a b turned v = record {
  simulate = λ own p wanted stands none ty older s env now begins rest next same.
      let inner = no_front (faults (inside p) (of_type BoolTy) e) (node_faults p wanted (NegateTree sp e)) none in
      v.simulate own (inside p) (of_type BoolTy) (stands-inside w own scope p stands) inner (wanted-type (inside p) BoolTy e inner) older s env now begins rest (λ x last. next (meaning.Truth (not (truth_of x))) last)
      (λ new last done. same new last done ∙ ap (λ t. next (meaning.Truth t) last) (turned (atom_word new a) (atom_word new b)))
      ∙ sym (onward-then (eval w.declared s.call e (scope_in env scope) now) (λ x last. Gives (meaning.Truth (not (truth_of x))) last) next);
  older = v.older;
}

-- ---- operators that compare
record IsComparison (op : Op) (c : Cmp) (swapped : Bool) : Type 0 where
  pub words : operand_ty op ≡ WordTy
  pub runs : (left : Result) (right : Running → Result) → binary op left right ≡ and_then left (λ v now. and_then (right now) (λ x last. Gives (combined op (word_of v) (word_of x)) last))
  pub truth : (x y : ℕ) → combined op x y ≡ meaning.Truth (compares c (if swapped then y else x) (if swapped then x else y))

abbrev Compared : Op → Option (Cmp × Bool) → Type 0
Compared op None = ⊤
Compared op (Some p) = IsComparison op p.0 p.1

compared : (op : Op) → Compared op (comparison_of op)
compared Add = tt
compared Sub = tt
compared And = tt
compared Or = tt
compared Xor = tt
compared Eq = record { words = refl; runs = λ left right. refl; truth = λ x y. refl }
compared Ne = record { words = refl; runs = λ left right. refl; truth = λ x y. refl }
compared Lt = record { words = refl; runs = λ left right. refl; truth = λ x y. refl }
compared Le = record { words = refl; runs = λ left right. refl; truth = λ x y. refl }
compared Gt = record { words = refl; runs = λ left right. refl; truth = λ x y. refl }
compared Ge = record { words = refl; runs = λ left right. refl; truth = λ x y. refl }
compared Both = tt
compared Either = tt

comparison-found : (op : Op) (c : Cmp) (swapped : Bool) → comparison_of op ≡ Some (c, swapped) → IsComparison op c swapped
comparison-found op c swapped h = subst (Compared op) h (compared op)

picked : (env : Env) (swapped : Bool) (a b : Atom) → (if swapped then atom_word env a else atom_word env b) ≡ atom_word env (if swapped then a else b)
picked env true a b = refl
picked env false a b = refl

picked-older : (n : ℕ) (swapped : Bool) (a b : Atom) → IsOlder n a → IsOlder n b → IsOlder n (if swapped then a else b)
picked-older n true a b p q = p
picked-older n false a b p q = q

-- ---- two values, one after the other
pub two-values : (w : Whole) (names : Names) (low mid high : ℕ) (scope : SymbolScope) (a b : Tree) (ss ts : List Step) (s u : Symbol)
    → IsValue w names low mid scope a ss s → IsValue w names mid high scope b ts u → low ≤ mid
    → (own : ℕ) (p : Context) (wa wb : Expected) → Stands w own scope p → faults p wa a ≡ [] → faults p wb b ≡ [] → ScopeOlder low scope
    → (c : Setting w names) (env : Env) (now : Running) → Begins env scope now
    → (rest : Act) (next : Value → Value → Running → flat.Result)
    → ((new : Env) (last : Running) → Done low env new (Fits new s × Fits new u) last → rest new (flat_run last) ≡ next (value_in new s) (value_in new u) last)
    → steps_do c.fcall (ss ++ ts) rest env (flat_run now) ≡ onward (eval w.declared c.call a (scope_in env scope) now) (λ v middle. onward (eval w.declared c.call b (scope_in env scope) middle) (λ x last. next v x last))
two-values w names low mid high scope a b ss ts s u va vb le own p wa wb stands na nb older c env now begins rest next same =
    steps-then c.fcall ss ts rest env (flat_run now)
    ∙ va.simulates.by own p wa stands na older c env now begins (steps_do c.fcall ts rest) (λ v middle. onward (eval w.declared c.call b (scope_in env scope) middle) (λ x last. next v x last))
    (λ new middle done.
    vb.simulates.by own p wb stands nb (scope-later low mid scope le older) c new middle (begins-then low env new scope now middle (Fits new s) older begins done) rest (λ x last. next (value_in new s) x last)
    (λ newer last d.
    same newer last (record { sizes = d.sizes; keeps = keeps-then low mid env new newer le done.keeps d.keeps; fits = (keeps-fit mid new newer s d.keeps (va.older older) done.fits, d.fits) })
    ∙ ap (λ v. next v (value_in newer u) last) (keeps-value mid new newer s d.keeps (va.older older)))
    ∙ ap (λ sc. onward (eval w.declared c.call b sc middle) (λ x last. next (value_in new s) x last)) (keeps-scope low env new scope done.keeps older))

-- ---- a comparison of two words
compare-onward : (op : Op) (c : Cmp) (swapped : Bool) → IsComparison op c swapped → (left : Result) (right : Running → Result) (next : Value → Running → flat.Result)
    → onward (binary op left right) next ≡ onward left (λ v middle. onward (right middle) (λ x last. next (combined op (word_of v) (word_of x)) last))
compare-onward op c swapped k left right next =
    ap (λ q. onward q next) (k.runs left right)
    ∙ onward-then left (λ v now. and_then (right now) (λ x last. Gives (combined op (word_of v) (word_of x)) last)) next
    ∙ onward-same left (λ v now. onward (and_then (right now) (λ x last. Gives (combined op (word_of v) (word_of x)) last)) next) (λ v middle. onward (right middle) (λ x last. next (combined op (word_of v) (word_of x)) last))
    (λ v middle. onward-then (right middle) (λ x last. Gives (combined op (word_of v) (word_of x)) last) next)

compare-truth : (op : Op) (c : Cmp) (swapped : Bool) → IsComparison op c swapped → (env : Env) (s u : Symbol)
    → meaning.Truth (compares c (atom_word env (if swapped then word_operand u else word_operand s)) (atom_word env (if swapped then word_operand s else word_operand u))) ≡ combined op (word_of (value_in env s)) (word_of (value_in env u))
compare-truth op c swapped k env s u =
    ap (λ x. meaning.Truth (compares c x (atom_word env (if swapped then word_operand s else word_operand u)))) (sym (picked env swapped (word_operand u) (word_operand s)))
    ∙ ap (λ y. meaning.Truth (compares c (if swapped then atom_word env (word_operand u) else atom_word env (word_operand s)) y)) (sym (picked env swapped (word_operand s) (word_operand u)))
    ∙ sym (k.truth (atom_word env (word_operand s)) (atom_word env (word_operand u)))
    ∙ ap (λ x. combined op x (atom_word env (word_operand u))) (sym (word-of env s))
    ∙ ap (λ y. combined op (word_of (value_in env s)) y) (sym (word-of env u))

pub compare-test : (w : Whole) (names later : Names) (low mid high : ℕ) (scope : SymbolScope) (a b : Tree) (ss ts : List Step) (s u : Symbol)
    → IsValue w names low mid scope a ss s → IsValue w later mid high scope b ts u → Extends names later → low ≤ mid → mid ≤ high
    → (sp : Span) (op : Op) (c : Cmp) (swapped : Bool) → comparison_of op ≡ Some (c, swapped)
    → IsTest w later low high scope (BinaryTree sp op a b) (ss ++ ts) c (if swapped then word_operand u else word_operand s) (if swapped then word_operand s else word_operand u)
compare-test w names later low mid high scope a b ss ts s u va vb more le le' sp op c swapped found =
    let k = comparison-found op c swapped found in
    let va' = value-more w names later more low mid scope a ss s va in
    record {
      simulate = λ own p wanted stands none ty older set env now begins rest next same.
          two-values w later low mid high scope a b ss ts s u va' vb le own (inside p) (of_type (operand_ty op)) (of_type (operand_ty op)) (stands-inside w own scope p stands)
          (no_front (faults (inside p) (of_type (operand_ty op)) a) (faults (inside p) (of_type (operand_ty op)) b ++ node_faults p wanted (BinaryTree sp op a b)) none)
          (no_front (faults (inside p) (of_type (operand_ty op)) b) (node_faults p wanted (BinaryTree sp op a b)) (no_rest (faults (inside p) (of_type (operand_ty op)) a) (faults (inside p) (of_type (operand_ty op)) b ++ node_faults p wanted (BinaryTree sp op a b)) none))
          older set env now begins rest (λ v x last. next (combined op (word_of v) (word_of x)) last)
          (λ new last done. same new last (record { sizes = done.sizes; keeps = done.keeps; fits = tt }) ∙ ap (λ t. next t last) (compare-truth op c swapped k new s u))
          ∙ sym (compare-onward op c swapped k (eval w.declared set.call a (scope_in env scope) now) (λ middle. eval w.declared set.call b (scope_in env scope) middle) next);
      older = λ o.
          let left = word-older high s (older-later mid high (operands s) le' (va.older o)) in
          let right = word-older high u (vb.older (scope-later low mid scope le o)) in
          (picked-older high swapped (word_operand u) (word_operand s) right left, picked-older high swapped (word_operand s) (word_operand u) left right);
    }
