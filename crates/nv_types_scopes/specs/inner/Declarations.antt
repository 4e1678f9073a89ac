-- What the walk over a declaration gives.
use Rattle.std.specs.Prelude.{◌≡◌, ℕ, ◌+◌, ◌||◌, nat_lt, Bool, false, List, [], ◌∷◌, ◌++◌, None, Some, Result, IfOk, OnOk}
use Rattle.nv_ast.specs.Tree.{FunTree, DeclTree}
use Rattle.nv_ast.specs.Scope.{Signature, Known, nothing_known, known_after, callable, signature, in_group}
use Rattle.nv_ast.specs.Types.{total_named_words, some_named_bool, words}
use Rattle.nv_ast.specs.Tests.{is_among, names_of, look_up}
use Rattle.nv_ast.specs.Faults.{decl_faults, decls_faults, known_behind, signature_faults, signatures_faults, body_faults, bodies_faults}
use Rattle.nv_ast.specs.Sizes.{GroupNumbers, sizes_behind, needs_behind, group_size, group_need, param_words, body_vars, expanded, need}
use Rattle.nv_types_table.specs.declared.error.TypeError.{TypeError}
use Rattle.nv_types_scopes.specs.declared.functions.Checker.{Checker}
use Rattle.nv_types_table.specs.declared.cost.Cost.{Cost}
use Rattle.nv_types_table.specs.inner.Costs.{IsCost}
use Rattle.nv_types_table.specs.inner.Faulty.{Judges}
use Rattle.nv_types_scopes.specs.inner.Standing.{Holds, Sees, Counts, Keeps}

-- between two declarations: what is declared so far; each function's group is behind, and no variable is in sight
pub record Between (c : Checker) (k : Known) : Type 0 where
  pub holds : Holds c k
  pub no_own : k.own ≡ []
  pub all_counted : names_of c.costs ≡ names_of c.functions
  pub no_variables : c.scope ≡ []

-- at the start of a program
pub record Started (c : Checker) : Type 0 where
  pub known : Holds c nothing_known
  pub variables : Sees c []
  pub counted : Counts c [] []

-- what a declaration declares is known after it, and the costs of its functions are counted
pub record ChecksDecl {T : Type 0} (c new : Checker) (d : DeclTree) (r : Result T TypeError) : Type 0 where
  pub judged : (k : Known) → Between c k → Judges (decl_faults k d) r
  pub known : (k : Known) → Between c k → OnOk r (Between new (known_after k d))
  pub counted : (k : Known) (sizes needs : GroupNumbers) → Between c k → Counts c sizes needs → OnOk r (Counts new (sizes_behind sizes k (d ∷ [])) (needs_behind needs k (d ∷ [])))

-- the same of declarations in order
pub record ChecksDecls {T : Type 0} (c new : Checker) (ds : List DeclTree) (r : Result T TypeError) : Type 0 where
  pub judged : (k : Known) → Between c k → Judges (decls_faults k ds) r
  pub known : (k : Known) → Between c k → OnOk r (Between new (known_behind k ds))
  pub counted : (k : Known) (sizes needs : GroupNumbers) → Between c k → Counts c sizes needs → OnOk r (Counts new (sizes_behind sizes k ds) (needs_behind needs k ds))

-- functions of names that are new and differ
abbrev pub AreNew : List (List ℕ) → List FunTree → Type 0
AreNew names [] = Unit {0}
AreNew names (f ∷ fs) = (is_among f.name names ≡ false) × AreNew (names ++ f.name ∷ []) fs

-- main's parameters have more than 8 words or a bool, or its result has more than 8 words
abbrev pub is_wide : Signature → Bool
is_wide g = nat_lt 8 (total_named_words g.params) || (some_named_bool g.params || nat_lt 8 (words g.result))

-- one more function of the own group is known
abbrev pub with_own : Known → FunTree → Known
with_own k f = record { layouts = k.layouts; exceptions = k.exceptions; functions = k.functions; own = k.own ++ (f.name, signature k.layouts f) ∷ [] }

-- a function of a new name is known by its signature
pub record SignsFunction {T : Type 0} (c new : Checker) (f : FunTree) (r : Result T TypeError) : Type 0 where
  pub judged : (k : Known) → Holds c k → Judges (signature_faults k.layouts f) r
  pub signed : (k : Known) → Holds c k → look_up f.name c.functions ≡ None → look_up f.name c.costs ≡ None → OnOk r (Holds new (with_own k f))
  pub same_costs : OnOk r (new.costs ≡ c.costs)
  pub same_scope : OnOk r (new.scope ≡ c.scope)

-- the functions of a group, which is known then
pub record SignsAll {T : Type 0} (c new : Checker) (fs : List FunTree) (r : Result T TypeError) : Type 0 where
  pub judged : (k : Known) → Between c k → AreNew (names_of c.functions) fs → Judges (signatures_faults k.layouts fs) r
  pub signed : (k : Known) → Between c k → AreNew (names_of c.functions) fs → OnOk r (Holds new (in_group k fs))
  pub same_costs : OnOk r (new.costs ≡ c.costs)
  pub same_scope : OnOk r (new.scope ≡ c.scope)

-- a function is known by its signature
abbrev pub IsSigned : Known → FunTree → Type 0
IsSigned k f = look_up f.name (callable k) ≡ Some (signature k.layouts f)

abbrev pub AreSigned : Known → List FunTree → Type 0
AreSigned k [] = Unit {0}
AreSigned k (f ∷ fs) = IsSigned k f × AreSigned k fs

-- a body, and what the function costs
pub record ChecksBody (c new : Checker) (f : FunTree) (r : Result Cost TypeError) : Type 0 where
  pub judged : (k : Known) → Holds c k → c.scope ≡ [] → IsSigned k f → Judges (body_faults k f) r
  pub counted : (k : Known) (sizes needs : GroupNumbers) → Holds c k → c.scope ≡ [] → IsSigned k f → Counts c sizes needs → IfOk r (λ cost. IsCost cost 0 (1 + (param_words k f + expanded sizes k (body_vars k f) f.body)) (param_words k f + need needs k (body_vars k f) f.body))
  pub keeps : c.scope ≡ [] → OnOk r (Keeps c new)

-- the bodies of some functions, and what these cost together
pub record ChecksBodies (c new : Checker) (fs : List FunTree) (r : Result Cost TypeError) : Type 0 where
  pub judged : (k : Known) → Holds c k → c.scope ≡ [] → AreSigned k fs → Judges (bodies_faults k fs) r
  pub counted : (k : Known) (sizes needs : GroupNumbers) → Holds c k → c.scope ≡ [] → AreSigned k fs → Counts c sizes needs → IfOk r (λ cost. IsCost cost 0 (group_size sizes k fs) (group_need needs k fs))
  pub keeps : c.scope ≡ [] → OnOk r (Keeps c new)

-- some functions, each at this cost
abbrev pub costing : Cost → List FunTree → List (List ℕ × Cost)
costing whole [] = []
costing whole (f ∷ fs) = (f.name, whole) ∷ costing whole fs

-- functions of a group with what this costs
pub record AddsCosts {T E : Type 0} (c new : Checker) (fs : List FunTree) (whole : Cost) (r : Result T E) : Type 0 where
  pub added : AreNew (names_of c.costs) fs → OnOk r (new.costs ≡ c.costs ++ costing whole fs)
  pub same_table : OnOk r (new.table ≡ c.table)
  pub same_layouts : OnOk r (new.layouts ≡ c.layouts)
  pub same_exceptions : OnOk r (new.exceptions ≡ c.exceptions)
  pub same_functions : OnOk r (new.functions ≡ c.functions)
  pub same_scope : OnOk r (new.scope ≡ c.scope)
