-- What the walk over a block's statements gives.
use Rattle.std.specs.Prelude.{◌≡◌, ℕ, false, List, [], ◌∷◌, ◌++◌, Option, None, Some, Result, IfOk, OnOk, length, option_map}
use Rattle.std.specs.Borrow.{Bor}
use Rattle.nv_ast.specs.declared.tree.Pat.{Pat}
use Rattle.nv_ast.specs.PatternView.{pattern_tree}
use Rattle.nv_ast.specs.Tree.{StatementTree}
use Rattle.nv_ast.specs.Scope.{Known, Vars, names_in}
use Rattle.nv_ast.specs.Typing.{vars_after}
use Rattle.nv_ast.specs.Faults.{statement_faults}
use Rattle.nv_ast.specs.Sizes.{GroupNumbers, expanded_statement, need_statement, variables_statement, let_of}
use Rattle.nv_types_table.specs.declared.error.TypeError.{TypeError}
use Rattle.nv_types_table.specs.declared.needs.Step.{Step}
use Rattle.nv_types_scopes.specs.declared.functions.Checker.{Checker}
use Rattle.nv_types_table.specs.inner.Faulty.{Judges}
use Rattle.nv_types_table.specs.inner.Cells.{still}
use Rattle.nv_types_scopes.specs.inner.Standing.{Holds, Sees, Counts, place, KeepsDeclared, written_in}

-- of a let its names and the words of its value
abbrev pub IsLet : Option Pat → ℕ → List (List (List ℕ) × ℕ) → Type 0
IsLet None n lets = lets ≡ []
IsLet (Some p) n lets = (m : ℕ) × (n ≡ still m) × (lets ≡ (names_in (pattern_tree p), m) ∷ [])

-- a statement's step: where its variables begin, its need and what it binds
pub record IsStep (c : Checker) (k : Known) (vars : Vars) (needs : GroupNumbers) (st : StatementTree) (step : Step) : Type 0 where
  pub of_place : step.before ≡ length (written_in c)
  pub of_need : step.need ≡ still (need_statement needs k vars st)
  pub of_let : IsLet (option_map (λ (p : Bor Pat). p.now) step.pattern) step.words (let_of k vars st)

pub record ChecksStatement (c new : Checker) (st : StatementTree) (r : Result (Step × ℕ) TypeError) : Type 0 where
  pub judged : (k : Known) (vars : Vars) → Holds c k → Sees c vars → Judges (statement_faults (place k vars false) st) r
  pub sees : (k : Known) (vars : Vars) → Holds c k → Sees c vars → OnOk r (Sees new (vars_after k vars st))
  pub counted : (k : Known) (vars : Vars) (sizes needs : GroupNumbers) → Holds c k → Sees c vars → Counts c sizes needs → IfOk r (λ f. IsStep c k vars needs st f.0 × (f.1 ≡ still (expanded_statement sizes k vars st)))
  pub declared : OnOk r (KeepsDeclared c new)
  pub behind : OnOk r ((newer : List (List ℕ × ℕ)) × (new.scope ≡ newer ++ c.scope))
  pub writes : OnOk r (written_in new ≡ written_in c ++ variables_statement st)
