-- Where a walk stands: what is declared, the variables in sight, and the costs of the groups behind.
use Rattle.std.specs.Prelude.{◌≡◌, ℕ, Bool, ◌&&◌, List, [], ◌∷◌, is_some, is_none}
use Rattle.nv_ast.specs.Tests.{is_among, names_of, look_up}
use Rattle.nv_ast.specs.Scope.{Signature, Known, callable, Vars, Context, plain_tys}
use Rattle.nv_ast.specs.Sizes.{GroupNumbers}
use Rattle.nv_types_scopes.specs.declared.functions.Function.{Function}
use Rattle.nv_types_scopes.specs.declared.functions.Checker.{Checker}
use Rattle.nv_types_table.specs.declared.cost.Cost.{Cost}
use Rattle.nv_types_table.specs.inner.Cells.{still}
use Rattle.nv_types_table.specs.inner.Store.{Store, Extends, IsType, IsParts}
use Rattle.nv_types_table.specs.inner.Layouts.{IsDeclared}
use Rattle.nv_types_table.specs.inner.Named.{plain_names}

-- things of the same names in the same order, each pair related
abbrev pub Alike : {A B : Type 0} → (A → B → Type 0) → List (List ℕ × A) → List (List ℕ × B) → Type 0
Alike R [] [] = Unit {0}
Alike R (a ∷ as_) (b ∷ bs) = (a.0 ≡ b.0) × R a.1 b.1 × Alike R as_ bs
Alike R _ _ = ⊥

pub record IsFunction (s : Store) (f : Function) (g : Signature) : Type 0 where
  pub of_params : IsParts s f.params (plain_tys g.params)
  pub of_result : IsType s f.result g.result

-- what is declared
pub record Holds (c : Checker) (k : Known) : Type 0 where
  pub of_layouts : Alike (IsDeclared c.table) c.layouts k.layouts
  pub of_exceptions : Alike (IsParts c.table) c.exceptions k.exceptions
  pub of_functions : Alike (IsFunction c.table) c.functions (callable k)
  pub of_own : (f : List ℕ) → is_among f (names_of k.own) ≡ (is_some (look_up f c.functions) && is_none (look_up f c.costs))

-- the variables in sight
abbrev pub Sees : Checker → Vars → Type 0
Sees c vars = Alike (IsType c.table) c.scope vars

-- the sizes and needs of the groups behind
pub record Counts (c : Checker) (sizes needs : GroupNumbers) : Type 0 where
  pub of_sizes : Alike (λ (cost : Cost) n. cost.size ≡ still n) c.costs sizes
  pub of_needs : Alike (λ (cost : Cost) n. cost.need ≡ still n) c.costs needs

-- the variables that were written so far
abbrev pub written_in : Checker → List (List ℕ)
written_in c = plain_names c.written.items

-- the table grew, and what is declared stayed
pub record KeepsDeclared (old new : Checker) : Type 0 where
  pub grows : Extends old.table new.table
  pub same_layouts : new.layouts ≡ old.layouts
  pub same_exceptions : new.exceptions ≡ old.exceptions
  pub same_functions : new.functions ≡ old.functions
  pub same_costs : new.costs ≡ old.costs

-- and the variables in sight
pub record Keeps (old new : Checker) : Type 0 where
  pub declared : KeepsDeclared old new
  pub same_scope : new.scope ≡ old.scope

-- in a place
abbrev pub place : Known → Vars → Bool → Context
place k vars tail = record { known = k; vars = vars; tail = tail }
