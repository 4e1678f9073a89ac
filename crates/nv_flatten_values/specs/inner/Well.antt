-- What makes the flat code of typed expressions well formed.
use Rattle.std.specs.Prelude.{◌≡◌, ℕ, suc, ◌<◌, ◌≤◌, Bool, true, false, List, [], ◌∷◌, ◌++◌, Option, Some, None, slice_get, length, ⊤}
use Rattle.nv_base.specs.declared.term.Atom.{Atom}
use Rattle.nv_base.specs.declared.term.Atom.TheVariants.{Lit}
use Rattle.nv_base.specs.declared.term.Cmp.{Cmp}
use Rattle.nv_ast.specs.Tree.{Tree, NumberTree, Trees, NamedTrees, StatementTrees, FunTree}
use Rattle.nv_ast.specs.Types.{Ty, Tys, words, total_words, total_named_words, type_of, named_types_of}
use Rattle.nv_ast.specs.Scope.{Context}
use Rattle.nv_ast.specs.Typing.{type_at}
use Rattle.nv_ast.specs.Faults.{Expected, faults, list_faults, named_faults, statements_faults}
use Rattle.nv_meaning.specs.Meaning.{function_in}
use Rattle.flat_ir.specs.declared.flat.Flat.{Flat}
use Rattle.flat_ir.specs.declared.flat.Flat.TheVariants.{If', Give}
use Rattle.flat_ir.specs.declared.flat.FlatFun.{FlatFun}
use Rattle.flat_ir.specs.declared.spine.Step.{Step}
use Rattle.flat_ir.specs.declared.spine.Step.TheVariants.{Let, Fetch, Store, Bind}
use Rattle.flat_ir.specs.Spine.{AreNodes}
use Rattle.nv_base.specs.Sets.{is_in, all_different}
use Rattle.nv_base.specs.Access.{all_known}
use Rattle.flat_ir.specs.Formed.{is_formed, defined, raised}
use Rattle.flat_ir.specs.Pieces.{known_behind, steps_formed, steps_defined, steps_raised}
use Rattle.nv_flatten_values.specs.inner.Symbols.{Symbol, Symbols, NamedSymbols, SymbolScope, Word, operands, all_operands, named_operands}
use Rattle.nv_flatten_values.specs.inner.Whole.{Whole, Stands, raised_tys, group_of}
use Rattle.nv_flatten_values.specs.inner.Simulation.{Names, Extends}
use Rattle.flat_ir.specs.Reached.{calls}

-- ---- the flat functions that calls go to

-- the flat function of this number is that of a function of the program, in the group of this number
pub record IsFunAt (w : Whole) (funs : List FlatFun) (i : ℕ) (g : FunTree) (n : ℕ) : Type 0 where
  pub fun : FlatFun
  pub there : slice_get funs i ≡ Some fun
  pub params : length fun.params.items ≡ total_named_words (named_types_of w.declared.layouts g.params)
  pub results : fun.results ≡ words (type_of w.declared.layouts g.result)
  pub group : fun.group ≡ n

-- each function of the program that has a number is there
pub record FunsMatch (w : Whole) (all : Names) (funs : List FlatFun) : Type 0 where
  pub found : (i : ℕ) (f : List ℕ) (g : FunTree) (n : ℕ) → slice_get all i ≡ Some f → function_in w.declared.functions f ≡ Some g → group_of w f ≡ Some n → IsFunAt w funs i g n

-- the values of an exception have at most 8 words
abbrev pub AreShort : Whole → Type 0
AreShort w = (k : ℕ) (ts : Tys) → raised_tys w k ≡ Some ts → total_words ts ≤ 8

-- flat functions for these names and further ones
pub record Linked (w : Whole) (names : Names) : Type 0 where
  pub all : Names
  pub more : Extends names all
  pub funs : List FlatFun
  pub match : FunsMatch w all funs
  pub short : AreShort w

-- ---- variables

-- the operands of the variables in scope are known
abbrev pub ScopeKnown : List ℕ → SymbolScope → Type 0
ScopeKnown known [] = ⊤
ScopeKnown known ((x, s) ∷ scope) = (all_known known (operands s) ≡ true) × ScopeKnown known scope

-- numbers that rise, from the first on and below the last
abbrev pub Rises : ℕ → List ℕ → ℕ → Type 0
Rises low [] high = low ≤ high
Rises low (x ∷ xs) high = (low ≤ x) × Rises (suc x) xs high

-- ---- exceptions: what is raised or handled has as many words as the exception's values
abbrev pub IsRaised : Whole → ℕ × ℕ → Type 0
IsRaised w r = (ts : Tys) × (raised_tys w r.0 ≡ Some ts) × (r.1 ≡ total_words ts)

abbrev pub RaisedMatch : Whole → List (ℕ × ℕ) → Type 0
RaisedMatch w [] = ⊤
RaisedMatch w (r ∷ rs) = IsRaised w r × RaisedMatch w rs

-- ---- steps and code in a group, with new variables from `low` on and before `high`

-- after the steps this holds of the variables that are known there
pub record WellSteps (w : Whole) (names : Names) (low high own : ℕ) (scope : SymbolScope) (steps : List Step) (Behind : List ℕ → Type 0) : Type 0 where
  pub formed : (l : Linked w names) (known : List ℕ) → ScopeKnown known scope → (steps_formed l.funs own known steps ≡ true) × Behind (known_behind known steps)
  pub rises : Rises low (steps_defined steps) high
  pub raises : RaisedMatch w (steps_raised steps)

-- these operands are known
abbrev pub Knows : List Atom → List ℕ → Type 0
Knows as' known = all_known known as' ≡ true

-- N words, where there is a type
abbrev pub GivesWords : ℕ → Option Ty → Type 0
GivesWords n (Some t) = words t ≡ n
GivesWords n None = ⊤

pub record WellCode (w : Whole) (names : Names) (low high own : ℕ) (scope : SymbolScope) (tail : Bool) (t : Option Ty) (code : Flat) : Type 0 where
  pub formed : (l : Linked w names) (known : List ℕ) → ScopeKnown known scope → (n : ℕ) → GivesWords n t → is_formed l.funs own tail n known code ≡ true
  pub rises : Rises low (defined code) high
  pub raises : RaisedMatch w (raised code)

-- ---- names: each that is added is called

-- the functions that steps call
abbrev pub step_calls : Step → List ℕ
step_calls (Let x a) = []
step_calls (Fetch m xs a) = []
step_calls (Store m a bs) = []
step_calls (Bind xs t) = calls t

abbrev pub steps_calls : List Step → List ℕ
steps_calls [] = []
steps_calls (s ∷ ss) = step_calls s ++ steps_calls ss

-- those whose names were added are among these
abbrev pub AreCalled : Names → Names → List ℕ → Type 0
AreCalled old new cs = (i : ℕ) → length old ≤ i → i < length new → is_in i cs ≡ true

-- ---- the same for the expressions that they stand for; a value's steps never stand in tail position

-- a number is a literal
abbrev pub IsLiteral : Tree → Symbol → Type 0
IsLiteral (NumberTree s n) v = v ≡ Word (Lit n)
IsLiteral _ v = ⊤

pub record IsWellValue (w : Whole) (old names : Names) (low high : ℕ) (scope : SymbolScope) (e : Tree) (steps : List Step) (s : Symbol) : Type 0 where
  pub well : (own : ℕ) (p : Context) (wanted : Expected) → Stands w own scope p → faults p wanted e ≡ [] → p.tail ≡ false → WellSteps w names low high own scope steps (Knows (operands s))
  pub literal : IsLiteral e s
  pub called : AreCalled old names (steps_calls steps)

pub record AreWellValues (w : Whole) (old names : Names) (low high : ℕ) (scope : SymbolScope) (es : Trees) (steps : List Step) (ss : Symbols) : Type 0 where
  pub well : (own : ℕ) (p : Context) (wanted : List Expected) → Stands w own scope p → list_faults p wanted es ≡ [] → p.tail ≡ false → WellSteps w names low high own scope steps (Knows (all_operands ss))
  pub called : AreCalled old names (steps_calls steps)

pub record AreWellFields (w : Whole) (old names : Names) (low high : ℕ) (scope : SymbolScope) (es : NamedTrees) (steps : List Step) (ss : NamedSymbols) : Type 0 where
  pub well : (own : ℕ) (p : Context) → Stands w own scope p → named_faults p es ≡ [] → p.tail ≡ false → WellSteps w names low high own scope steps (Knows (named_operands ss))
  pub called : AreCalled old names (steps_calls steps)

pub record IsWellStated (w : Whole) (old names : Names) (low high : ℕ) (scope : SymbolScope) (sts : StatementTrees) (steps : List Step) (inner : SymbolScope) : Type 0 where
  pub well : (own : ℕ) (p : Context) → Stands w own scope p → statements_faults p sts ≡ [] → p.tail ≡ false → WellSteps w names low high own scope steps (λ known. ScopeKnown known inner)
  pub called : AreCalled old names (steps_calls steps)

pub record IsWellTest (w : Whole) (old names : Names) (low high : ℕ) (scope : SymbolScope) (e : Tree) (steps : List Step) (a b : Atom) : Type 0 where
  pub well : (own : ℕ) (p : Context) (wanted : Expected) → Stands w own scope p → faults p wanted e ≡ [] → p.tail ≡ false → WellSteps w names low high own scope steps (Knows (a ∷ b ∷ []))
  pub called : AreCalled old names (steps_calls steps)

pub record IsWellEnd (w : Whole) (old names : Names) (low high : ℕ) (scope : SymbolScope) (e : Tree) (t : Flat) : Type 0 where
  pub well : (own : ℕ) (p : Context) (wanted : Expected) → Stands w own scope p → faults p wanted e ≡ [] → WellCode w names low high own scope p.tail (type_at p.known p.vars e) t
  pub called : AreCalled old names (calls t)

-- ---- small parts

-- steps that only compute, from these operands to those
pub record AreWellLets (low high : ℕ) (given : List Atom) (steps : List Step) (found : List Atom) : Type 0 where
  pub formed : (funs : List FlatFun) (own : ℕ) (known : List ℕ) → all_known known given ≡ true → (steps_formed funs own known steps ≡ true) × (all_known (known_behind known steps) found ≡ true)
  pub rises : Rises low (steps_defined steps) high
  pub raises : steps_raised steps ≡ []

-- the code gives one literal
abbrev pub GivesLiteral : Flat → Type 0
GivesLiteral t = (bs : _) × (v : ℕ) × (t ≡ Give bs) × (bs.items ≡ Lit v ∷ [])

-- the code is the steps and then a choice, wherever its boxes lie
abbrev pub IsChoice : List Step → Cmp → Atom → Atom → Flat → Flat → Flat → Type 0
IsChoice ss c a b first second t = (q : _) × (r : _) × AreNodes ss (If' c a b q first r second) t

-- ---- functions of a flat program
pub record IsWellFun (w : Whole) (names : Names) (fun : FlatFun) : Type 0 where
  pub formed : (l : Linked w names) → is_formed l.funs fun.group true fun.results fun.params.items fun.body ≡ true
  pub different : all_different (fun.params.items ++ defined fun.body) ≡ true
  pub raises : RaisedMatch w (raised fun.body)
