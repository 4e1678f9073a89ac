-- Code that ends with an expression's words.
use Rattle.std.proofs.Common.{◌≡◌, ◌∙◌, refl, ap, sym, ℕ, ◌≤◌, Bool, true, false, if◌then◌else◌, List, [], ◌∷◌, ◌++◌, Option, Some, None, option_map, Vec, Global, arith}
use Rattle.std.specs.Prelude.{⊤}
use Rattle.std.specs.Option.{option_or}
use Rattle.nv_base.specs.declared.term.Atom.{Atom}
use Rattle.nv_base.specs.declared.term.Atom.TheVariants.{Lit}
use Rattle.nv_base.specs.declared.term.Cmp.{Cmp}
use Rattle.nv_base.specs.Words.{Env, atom_word, atom_words, compares}
use Rattle.nv_ast.specs.declared.token.Span.{Span}
use Rattle.nv_ast.specs.declared.tree.Op.TheVariants.{Add, Sub, And, Or, Xor, Eq, Ne, Lt, Le, Gt, Ge, Both, Either}
use Rattle.nv_ast.specs.Tree.{Tree, NumberTree, TruthTree, VarTree, ParenTree, TupleTree, FieldsTree, DotTree, InvertTree, NegateTree, BinaryTree, ShiftTree, CallTree, UnpackTree, PackTree, RaiseTree, IfTree, TryTree, FetchTree, BlockTree}
use Rattle.nv_ast.specs.Types.{BoolTy}
use Rattle.nv_ast.specs.Scope.{Context, inside}
use Rattle.nv_ast.specs.Typing.{type_at, or_ty}
use Rattle.nv_ast.specs.Faults.{Expected, a_value, anything, of_type, same_as, faults, node_faults}
use Rattle.nv_meaning.specs.Values.{words_of, truth_of}
use Rattle.nv_meaning.specs.Values as meaning
use Rattle.nv_meaning.specs.Running.{Running, Result, Gives, and_then}
use Rattle.nv_meaning.specs.Meaning.{eval}
use Rattle.flat_ir.specs.Running as flat
use Rattle.flat_ir.specs.Meaning as code
use Rattle.flat_ir.specs.Spine.{steps_do, IsJoined}
use Rattle.flat_ir.specs.declared.flat.Flat.{Flat}
use Rattle.flat_ir.specs.declared.flat.Flat.TheVariants.{Give}
use Rattle.flat_ir.specs.declared.spine.Step.{Step}
use Rattle.nv_flatten_values.specs.inner.Symbols.{Symbol, Truth, SymbolScope, operands, form, scope_in, ScopeOlder}
use Rattle.nv_flatten_values.specs.inner.Code.{chosen, is_given, is_comparison}
use Rattle.nv_flatten_values.specs.declared.symbol.Symbol as declared
use Rattle.nv_flatten_values.specs.inner.View.{view}
use Rattle.nv_flatten_values.specs.inner.Runs.{flat_run, ended}
use Rattle.nv_flatten_values.specs.inner.Whole.{Whole, Stands}
use Rattle.nv_flatten_values.specs.inner.Simulation.{Names, Extends, Setting, Begins, Done, IsValue, IsTest, IsEnd}
use Rattle.nv_flatten_values.proofs.Keeping.{scope-later, keeps-scope, begins-then, extends-then, words-fit}
use Rattle.nv_flatten_values.proofs.NoFaults.{wanted-type, given-has-type}
use Rattle.nv_flatten_values.proofs.Following.{onward-then, stands-inside}
use Rattle.nv_flatten.proofs.TestArms.{test-more}
use Rattle.nv_ast.proofs.Faultless.{no_front, no_rest}

-- ---- further names, and later assignments
pub end-more : (w : Whole) (names more : Names) → Extends names more → (low high : ℕ) (scope : SymbolScope) (e : Tree) (t : Flat) (o : Option Symbol) → IsEnd w names low high scope e t o → IsEnd w more low high scope e t o
end-more w names more h low high scope e t o v = record {
  simulates = λ own p wanted stands none older s env now begins. v.simulates own p wanted stands none older (record { all = s.all; more = extends-then names more s.all h s.more; call = s.call; fcall = s.fcall; typed = s.typed; same = s.same }) env now begins;
  formed = v.formed;
}

pub end-later : (w : Whole) (names : Names) (low mid high : ℕ) (scope : SymbolScope) (e : Tree) (t : Flat) (o : Option Symbol) → IsEnd w names mid high scope e t o → low ≤ mid
    → (own : ℕ) (p : Context) (wanted : Expected) → Stands w own scope p → faults p wanted e ≡ [] → ScopeOlder low scope
    → (c : Setting w names) (env new : Env) (now last : Running) (fit : Type 0) → Begins env scope now → Done low env new fit last
    → code.does c.fcall t new (flat_run last) ≡ ended (eval w.declared c.call e (scope_in env scope) last)
end-later w names low mid high scope e t o end le own p wanted stands none older c env new now last fit begins done =
    end.simulates own p wanted stands none (scope-later low mid scope le older) c new last (begins-then low env new scope now last fit older begins done)
    ∙ ap (λ sc. ended (eval w.declared c.call e sc last)) (keeps-scope low env new scope done.keeps older)

-- ---- parentheses
pub paren-end : (w : Whole) (names : Names) (low high : ℕ) (scope : SymbolScope) (sp : Span) (e : Tree) (t : Flat) (o : Option Symbol) → IsEnd w names low high scope e t o → IsEnd w names low high scope (ParenTree sp e) t o
paren-end w names low high scope sp e t o v = record {
  simulates = λ own p wanted stands none older c env now begins. v.simulates own p a_value stands (no_front (faults p a_value e) (node_faults p wanted (ParenTree sp e)) none) older c env now begins;
  formed = λ own p wanted stands none. v.formed own p a_value stands (no_front (faults p a_value e) (node_faults p wanted (ParenTree sp e)) none);
}

-- ---- an expression whose value steps give
pub given-end : (w : Whole) (names : Names) (low high : ℕ) (scope : SymbolScope) (e : Tree) (steps : List Step) (s : Symbol) (ws : Vec Atom Global) (t : Flat)
    → IsValue w names low high scope e steps s → is_given e ≡ true → ws.items ≡ operands s → IsJoined steps (Give ws) t → IsEnd w names low high scope e t (Some s)
given-end w names low high scope e steps s ws t v given is joined = record {
  simulates = λ own p wanted stands none older c env now begins.
      ap (λ act. act env (flat_run now)) (joined.by c.fcall)
      ∙ v.simulates.by own p wanted stands none older c env now begins (code.does c.fcall (Give ws)) (λ x last. flat.Gives (words_of x) (flat_run last))
      (λ new last done. ap (λ l. flat.Gives (atom_words new l) (flat_run last)) is ∙ ap (λ l. flat.Gives l (flat_run last)) (sym (words-fit new s done.fits)));
  formed = λ own p wanted stands none.
      let ty = given-has-type p wanted e none given in
      ty.1 ∙ ap (λ u. Some u) (sym (v.formed.by own p wanted stands none ty.0 ty.1));
}

-- ---- a comparison
abbrev GivesTruth : Flat → Bool → Type 0
GivesTruth t b = (call : code.Calls) (env : Env) (now : flat.Running) → code.does call t env now ≡ flat.Gives ((if b then 1 else 0) ∷ []) now

truth-given : (b : Bool) (call : code.Calls) (first second : Flat) (env : Env) (now : flat.Running) → GivesTruth first true → GivesTruth second false
    → (if b then code.does call first env now else code.does call second env now) ≡ flat.Gives ((if b then 1 else 0) ∷ []) now
truth-given true call first second env now f g = f call env now
truth-given false call first second env now f g = g call env now

compared-type : (p : Context) (e : Tree) → is_comparison e ≡ true → type_at p.known p.vars e ≡ Some BoolTy
compared-type p (BinaryTree s Eq a b) h = refl
compared-type p (BinaryTree s Ne a b) h = refl
compared-type p (BinaryTree s Lt a b) h = refl
compared-type p (BinaryTree s Le a b) h = refl
compared-type p (BinaryTree s Gt a b) h = refl
compared-type p (BinaryTree s Ge a b) h = refl
compared-type p (BinaryTree s Both a b) h = refl
compared-type p (BinaryTree s Either a b) h = refl
compared-type p (BinaryTree s Add a b) h = cc
compared-type p (BinaryTree s Sub a b) h = cc
compared-type p (BinaryTree s And a b) h = cc
compared-type p (BinaryTree s Or a b) h = cc
compared-type p (BinaryTree s Xor a b) h = cc
compared-type p (NumberTree s n) h = cc
compared-type p (TruthTree s b) h = cc
compared-type p (VarTree s x) h = cc
compared-type p (ParenTree s e) h = cc
compared-type p (TupleTree s es) h = cc
compared-type p (FieldsTree s es) h = cc
compared-type p (DotTree s e x) h = cc
compared-type p (InvertTree s e) h = cc
compared-type p (NegateTree s e) h = cc
compared-type p (ShiftTree s op e n) h = cc
compared-type p (CallTree s f es) h = cc
compared-type p (UnpackTree s l e) h = cc
compared-type p (PackTree s l e) h = cc
compared-type p (RaiseTree s x es) h = cc
compared-type p (IfTree s c a b) h = cc
compared-type p (TryTree s a x ps e) h = cc
compared-type p (FetchTree s m n e) h = cc
compared-type p (BlockTree s sts e) h = cc

pub decided-end : (w : Whole) (names : Names) (low high : ℕ) (scope : SymbolScope) (e : Tree) (steps : List Step) (c : Cmp) (a b : Atom) (first second t : Flat)
    → IsTest w names low high scope e steps c a b → is_comparison e ≡ true
    → ((call : code.Calls) (env : Env) (now : flat.Running) → code.does call first env now ≡ flat.Gives ((if true then 1 else 0) ∷ []) now)
    → ((call : code.Calls) (env : Env) (now : flat.Running) → code.does call second env now ≡ flat.Gives ((if false then 1 else 0) ∷ []) now)
    → ((call : code.Calls) → code.does call t ≡ steps_do call steps (chosen c a b (code.does call first) (code.does call second)))
    → IsEnd w names low high scope e t (Some (Truth (Lit 0)))
decided-end w names low high scope e steps c a b first second t v compared f g joined = record {
  simulates = λ own p wanted stands none older s env now begins.
      ap (λ act. act env (flat_run now)) (joined s.fcall)
      ∙ v.simulate own p wanted stands none (compared-type p e compared) older s env now begins (chosen c a b (code.does s.fcall first) (code.does s.fcall second)) (λ x last. flat.Gives (words_of x) (flat_run last))
      (λ new last done. truth-given (compares c (atom_word new a) (atom_word new b)) s.fcall first second new (flat_run last) f g);
  formed = λ own p wanted stands none. compared-type p e compared;
}

-- ---- a choice
chosen-ends : (b : Bool) (first second : flat.Result) (yes-ends no-ends : Result) → first ≡ ended yes-ends → second ≡ ended no-ends → (if b then first else second) ≡ ended (if truth_of (meaning.Truth b) then yes-ends else no-ends)
chosen-ends true first second x y f g = f
chosen-ends false first second x y f g = g

pub branch-ends : (w : Whole) (names : Names) (low high : ℕ) (scope : SymbolScope) (e : Tree) (steps : List Step) (c : Cmp) (a b : Atom) → IsTest w names low high scope e steps c a b
    → (own : ℕ) (p : Context) → Stands w own scope p → faults p (of_type BoolTy) e ≡ [] → ScopeOlder low scope
    → (s : Setting w names) (env : Env) (now : Running) → Begins env scope now
    → (t first second : Flat) → ((call : code.Calls) → code.does call t ≡ steps_do call steps (chosen c a b (code.does call first) (code.does call second)))
    → (holds fails : Running → Result)
    → ((new : Env) (last : Running) → Done low env new ⊤ last → code.does s.fcall first new (flat_run last) ≡ ended (holds last))
    → ((new : Env) (last : Running) → Done low env new ⊤ last → code.does s.fcall second new (flat_run last) ≡ ended (fails last))
    → code.does s.fcall t env (flat_run now) ≡ ended (and_then (eval w.declared s.call e (scope_in env scope) now) (λ v next. if truth_of v then holds next else fails next))
branch-ends w names low high scope e steps c a b v own p stands none older s env now begins t first second joined holds fails f g =
    ap (λ act. act env (flat_run now)) (joined s.fcall)
    ∙ v.simulate own p (of_type BoolTy) stands none (wanted-type p BoolTy e none) older s env now begins (chosen c a b (code.does s.fcall first) (code.does s.fcall second)) (λ x last. ended (if truth_of x then holds last else fails last))
    (λ new last done. chosen-ends (compares c (atom_word new a) (atom_word new b)) (code.does s.fcall first new (flat_run last)) (code.does s.fcall second new (flat_run last)) (holds last) (fails last) (f new last done) (g new last done))
    ∙ sym (onward-then (eval w.declared s.call e (scope_in env scope) now) (λ x next. if truth_of x then holds next else fails next) (λ x last. flat.Gives (words_of x) (flat_run last)))

-- the right operand where the left one holds, else 0
pub both-end : (w : Whole) (names later : Names) (low mid high : ℕ) (scope : SymbolScope) (sp : Span) (a b : Tree) (steps : List Step) (c : Cmp) (x y : Atom) (first second t : Flat) (o : Option Symbol)
    → IsTest w names low mid scope a steps c x y → IsEnd w later mid high scope b first o → Extends names later → low ≤ mid
    → ((call : code.Calls) (env : Env) (now : flat.Running) → code.does call second env now ≡ flat.Gives ((if false then 1 else 0) ∷ []) now)
    → ((call : code.Calls) → code.does call t ≡ steps_do call steps (chosen c x y (code.does call first) (code.does call second)))
    → IsEnd w later low high scope (BinaryTree sp Both a b) t (Some (Truth (Lit 0)))
both-end w names later low mid high scope sp a b steps c x y first second t o v end more le g joined = record {
  simulates = λ own p wanted stands none older s env now begins.
      branch-ends w later low mid scope a steps c x y (test-more w names later more low mid scope a steps c x y v) own (inside p) (stands-inside w own scope p stands)
      (no_front (faults (inside p) (of_type BoolTy) a) (faults (inside p) (of_type BoolTy) b ++ node_faults p wanted (BinaryTree sp Both a b)) none) older s env now begins t first second joined
      (λ last. eval w.declared s.call b (scope_in env scope) last) (λ last. Gives (meaning.Truth false) last)
      (λ new last done. end-later w later low mid high scope b first o end le own (inside p) (of_type BoolTy) (stands-inside w own scope p stands)
      (no_front (faults (inside p) (of_type BoolTy) b) (node_faults p wanted (BinaryTree sp Both a b)) (no_rest (faults (inside p) (of_type BoolTy) a) (faults (inside p) (of_type BoolTy) b ++ node_faults p wanted (BinaryTree sp Both a b)) none))
      older s env new now last ⊤ begins done)
      (λ new last done. g s.fcall new (flat_run last));
  formed = λ own p wanted stands none. refl;
}

-- 1 where the left operand holds, else the right one
pub either-end : (w : Whole) (names later : Names) (low mid high : ℕ) (scope : SymbolScope) (sp : Span) (a b : Tree) (steps : List Step) (c : Cmp) (x y : Atom) (first second t : Flat) (o : Option Symbol)
    → IsTest w names low mid scope a steps c x y → IsEnd w later mid high scope b second o → Extends names later → low ≤ mid
    → ((call : code.Calls) (env : Env) (now : flat.Running) → code.does call first env now ≡ flat.Gives ((if true then 1 else 0) ∷ []) now)
    → ((call : code.Calls) → code.does call t ≡ steps_do call steps (chosen c x y (code.does call first) (code.does call second)))
    → IsEnd w later low high scope (BinaryTree sp Either a b) t (Some (Truth (Lit 0)))
either-end w names later low mid high scope sp a b steps c x y first second t o v end more le g joined = record {
  simulates = λ own p wanted stands none older s env now begins.
      branch-ends w later low mid scope a steps c x y (test-more w names later more low mid scope a steps c x y v) own (inside p) (stands-inside w own scope p stands)
      (no_front (faults (inside p) (of_type BoolTy) a) (faults (inside p) (of_type BoolTy) b ++ node_faults p wanted (BinaryTree sp Either a b)) none) older s env now begins t first second joined
      (λ last. Gives (meaning.Truth true) last) (λ last. eval w.declared s.call b (scope_in env scope) last)
      (λ new last done. g s.fcall new (flat_run last))
      (λ new last done. end-later w later low mid high scope b second o end le own (inside p) (of_type BoolTy) (stands-inside w own scope p stands)
      (no_front (faults (inside p) (of_type BoolTy) b) (node_faults p wanted (BinaryTree sp Either a b)) (no_rest (faults (inside p) (of_type BoolTy) a) (faults (inside p) (of_type BoolTy) b ++ node_faults p wanted (BinaryTree sp Either a b)) none))
      older s env new now last ⊤ begins done);
  formed = λ own p wanted stands none. refl;
}

-- ---- one of two expressions
pub first-form : (o u : Option Symbol) → option_map form (option_or o u) ≡ or_ty (option_map form o) (option_map form u)
first-form None u = refl
first-form (Some s) u = refl

pub choose-end : (w : Whole) (names between later : Names) (low mid mid' high : ℕ) (scope : SymbolScope) (sp : Span) (e a b : Tree) (steps : List Step) (c : Cmp) (x y : Atom) (first second t : Flat) (o u : Option Symbol)
    → IsTest w names low mid scope e steps c x y → IsEnd w between mid mid' scope a first o → IsEnd w later mid' high scope b second u
    → Extends names between → Extends between later → low ≤ mid → mid ≤ mid'
    → ((call : code.Calls) → code.does call t ≡ steps_do call steps (chosen c x y (code.does call first) (code.does call second)))
    → IsEnd w later low high scope (IfTree sp e a b) t (option_or o u)
choose-end w names between later low mid mid' high scope sp e a b steps c x y first second t o u v enda endb more more' le le' joined =
    let enda' = end-more w between later more' mid mid' scope a first o enda in
    record {
      simulates = λ own p wanted stands none older s env now begins.
          branch-ends w later low mid scope e steps c x y (test-more w names later (extends-then names between later more more') low mid scope e steps c x y v) own (inside p) (stands-inside w own scope p stands)
          (no_front (faults (inside p) (of_type BoolTy) e) (faults p anything a ++ (faults p (same_as (type_at p.known p.vars a)) b ++ node_faults p wanted (IfTree sp e a b))) none) older s env now begins t first second joined
          (λ last. eval w.declared s.call a (scope_in env scope) last) (λ last. eval w.declared s.call b (scope_in env scope) last)
          (λ new last done. end-later w later low mid mid' scope a first o enda' le own p anything stands (none-first p wanted none) older s env new now last ⊤ begins done)
          (λ new last done. end-later w later low mid' high scope b second u endb (le-then low mid mid' le le') own p (same_as (type_at p.known p.vars a)) stands (none-second p wanted none) older s env new now last ⊤ begins done);
      formed = λ own p wanted stands none.
          ap (λ q. or_ty q (type_at p.known p.vars b)) (enda.formed own p anything stands (none-first p wanted none))
          ∙ ap (λ q. or_ty (option_map form o) q) (endb.formed own p (same_as (type_at p.known p.vars a)) stands (none-second p wanted none))
          ∙ sym (first-form o u);
    }
  where
    none-parts : (p : Context) (wanted : Expected) → faults p wanted (IfTree sp e a b) ≡ [] → faults p anything a ++ (faults p (same_as (type_at p.known p.vars a)) b ++ node_faults p wanted (IfTree sp e a b)) ≡ []
    none-parts p wanted none = no_rest (faults (inside p) (of_type BoolTy) e) (faults p anything a ++ (faults p (same_as (type_at p.known p.vars a)) b ++ node_faults p wanted (IfTree sp e a b))) none

    none-first : (p : Context) (wanted : Expected) → faults p wanted (IfTree sp e a b) ≡ [] → faults p anything a ≡ []
    none-first p wanted none = no_front (faults p anything a) (faults p (same_as (type_at p.known p.vars a)) b ++ node_faults p wanted (IfTree sp e a b)) (none-parts p wanted none)

    none-second : (p : Context) (wanted : Expected) → faults p wanted (IfTree sp e a b) ≡ [] → faults p (same_as (type_at p.known p.vars a)) b ≡ []
    none-second p wanted none = no_front (faults p (same_as (type_at p.known p.vars a)) b) (node_faults p wanted (IfTree sp e a b)) (no_rest (faults p anything a) (faults p (same_as (type_at p.known p.vars a)) b ++ node_faults p wanted (IfTree sp e a b)) (none-parts p wanted none))

    le-then : (l m n : ℕ) → l ≤ m → m ≤ n → l ≤ n
    le-then l m n h k = omega arith

-- ---- the form of what the code has
pub view-or : (a b : Option declared.Symbol) → option_map view (option_or a b) ≡ option_or (option_map view a) (option_map view b)
view-or None b = refl
view-or (Some s) b = refl

pub form-view : (o : Option declared.Symbol) → option_map form (option_map view o) ≡ option_map (λ s. form (view s)) o
form-view None = refl
form-view (Some s) = refl
