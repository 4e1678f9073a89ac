-- The walk over declarations.
use Rattle.std.specs.Prelude.{MatchResult}
use Rattle.std.proofs.Common.{◌≡◌, ◌∙◌, refl, ap, sym, subst, ℕ, ◌≤◌, min, true, false, List, [], ◌∷◌, ◌++◌, arith, None, Some, Result, Ok, Err, not}
use Rattle.nv_ast.specs.Tree.{DeclTree, LayoutDecl, ExceptionDecl, GroupDecl, ProgramTree}
use Rattle.nv_ast.specs.Tests.{is_among, names_of, where_true}
use Rattle.nv_ast.specs.Scope.{Known, nothing_known, known_after, in_group}
use Rattle.nv_ast.specs.Faults.{main_name, at_span, decl_faults, decls_faults, known_behind, no_main, program_faults, IsTyped}
use Rattle.nv_ast.specs.Sizes.{GroupNumbers, numbered, group_size, group_need, sizes_behind, needs_behind, main_words}
use Rattle.nv_types_table.specs.declared.error.TypeError.{TypeError}
use Rattle.nv_types_table.specs.declared.error.TypeError.TheVariants.{Fault}
use Rattle.nv_types_scopes.specs.declared.functions.Checker.{Checker}
use Rattle.nv_types.specs.declared.main_sizes.Sizes.{Sizes}
use Rattle.nv_types_table.specs.inner.Faulty.{IsFirstOf}
use Rattle.nv_types_table.specs.inner.Cells.{still}
use Rattle.nv_types_table.specs.declared.cost.Cost.{Cost}
use Rattle.nv_types_scopes.specs.inner.Standing.{IsFunction, Counts}
use Rattle.nv_types_scopes.specs.inner.Declarations.{Between, Started, ChecksDecl, ChecksDecls}
use Rattle.nv_types.specs.inner.Finding.{FindsMain}
use Rattle.nv_types.specs.inner.Measuring.{IsSized, Measures}
use Rattle.nv_types_scopes.proofs.Alikes.{alike_nothing}
use Rattle.nv_types_scopes.proofs.Standings.{nothing_seen}
use Rattle.nv_types_table.proofs.Firsts.{first_append}
use Rattle.nv_ast.proofs.MainWords.{main_narrow}

behind_more : (k : Known) (done : List DeclTree) (d : DeclTree) → known_behind k (done ++ d ∷ []) ≡ known_after (known_behind k done) d
behind_more k [] d = refl
behind_more k (e ∷ done) d = behind_more (known_after k e) done d

sizes_more : (sizes : GroupNumbers) (k : Known) (done : List DeclTree) (d : DeclTree) → sizes_behind sizes k (done ++ d ∷ []) ≡ sizes_behind (sizes_behind sizes k done) (known_behind k done) (d ∷ [])
sizes_more sizes k [] d = refl
sizes_more sizes k (LayoutDecl x l s ∷ done) d = sizes_more sizes (known_after k (LayoutDecl x l s)) done d
sizes_more sizes k (ExceptionDecl x ts s ∷ done) d = sizes_more sizes (known_after k (ExceptionDecl x ts s)) done d
sizes_more sizes k (GroupDecl fs ∷ done) d = sizes_more (sizes ++ numbered (group_size sizes (in_group k fs) fs) fs) (known_after k (GroupDecl fs)) done d

needs_more : (needs : GroupNumbers) (k : Known) (done : List DeclTree) (d : DeclTree) → needs_behind needs k (done ++ d ∷ []) ≡ needs_behind (needs_behind needs k done) (known_behind k done) (d ∷ [])
needs_more needs k [] d = refl
needs_more needs k (LayoutDecl x l s ∷ done) d = needs_more needs (known_after k (LayoutDecl x l s)) done d
needs_more needs k (ExceptionDecl x ts s ∷ done) d = needs_more needs (known_after k (ExceptionDecl x ts s)) done d
needs_more needs k (GroupDecl fs ∷ done) d = needs_more (needs ++ numbered (group_need needs (in_group k fs) fs) fs) (known_after k (GroupDecl fs)) done d

-- what was declared so far
pub record Walked (c now : Checker) (k : Known) (all done rest : List DeclTree) : Type 0 where
  pub between : Between now (known_behind k done)
  pub left : decls_faults k all ≡ decls_faults (known_behind k done) rest
  pub counts : (sizes needs : GroupNumbers) → Counts c sizes needs → Counts now (sizes_behind sizes k done) (needs_behind needs k done)

abbrev pub WalkedSo : Checker → Checker → List DeclTree → List DeclTree → List DeclTree → Type 0
WalkedSo c now all done rest = (k : Known) → Between c k → Walked c now k all done rest

pub walked_start : (c : Checker) (all : List DeclTree) → WalkedSo c c all [] all
walked_start c all = λ k is. record { between = is; left = refl; counts = λ sizes needs h. h }

pub walked_more : {T : Type 0} (c now new : Checker) (all done rest : List DeclTree) (d : DeclTree) (x : T) → WalkedSo c now all done (d ∷ rest) → ChecksDecl {T = T} now new d (Ok x) → WalkedSo c new all (done ++ d ∷ []) rest
walked_more c now new all done rest d x so h = λ k is.
    let s = so k is in
    let m = known_behind k done in
    let none : decl_faults m d ≡ [] = h.judged m s.between in
    record {
      between = subst (λ z. Between new z) (sym (behind_more k done d)) (h.known m s.between);
      left = s.left ∙ ap (λ l. l ++ decls_faults (known_after m d) rest) none ∙ ap (λ z. decls_faults z rest) (sym (behind_more k done d));
      counts = λ sizes needs before.
          let counts = h.counted m (sizes_behind sizes k done) (needs_behind needs k done) s.between (s.counts sizes needs before) in
          subst (λ z. Counts new z (needs_behind needs k (done ++ d ∷ []))) (sym (sizes_more sizes k done d))
          (subst (λ z. Counts new (sizes_behind (sizes_behind sizes k done) m (d ∷ [])) z) (sym (needs_more needs k done d)) counts);
    }

-- a declaration's first fault is that of all
pub walked_fault : {T U : Type 0} (c now new : Checker) (all done rest : List DeclTree) (d : DeclTree) (e : TypeError) → WalkedSo c now all done (d ∷ rest) → ChecksDecl {T = U} now new d (Err e) → ChecksDecls {T = T} c new all (Err e)
walked_fault c now new all done rest d e so h = record {
  judged = λ k is.
      let s = so k is in
      let m = known_behind k done in
      let here : IsFirstOf (decl_faults m d) e = h.judged m s.between in
      subst (λ l. IsFirstOf l e) (sym s.left) (first_append (decl_faults m d) (decls_faults (known_after m d) rest) e here);
  known = λ k is. tt;
  counted = λ k sizes needs is counts. tt;
}

pub walked_end : {T : Type 0} (c now : Checker) (all : List DeclTree) (r : T) → WalkedSo c now all all [] → ChecksDecls {T = T} c now all (Ok r)
walked_end c now all r so = record {
  judged = λ k is. (so k is).left;
  known = λ k is. (so k is).between;
  counted = λ k sizes needs is counts. (so k is).counts sizes needs counts;
}

at_start : (c : Checker) → Started c → Between c nothing_known
at_start c is = record {
  holds = is.known;
  no_own = refl;
  all_counted = ap names_of (alike_nothing (λ (cost : Cost) n. cost.size ≡ still n) c.costs is.counted.of_sizes) ∙ ap names_of (sym (alike_nothing (IsFunction c.table) c.functions is.known.of_functions));
  no_variables = nothing_seen c is.variables;
}

-- a program whose declarations have no fault, and a checker after them
pub record Measured (c : Checker) (p : ProgramTree) : Type 0 where
  pub between : Between c (known_behind nothing_known p.decls)
  pub counts : Counts c (sizes_behind [] nothing_known p.decls) (needs_behind [] nothing_known p.decls)
  pub left : decls_faults nothing_known p.decls ≡ []

pub measured : {T : Type 0} (c now : Checker) (p : ProgramTree) (x : T) → Started c → ChecksDecls {T = T} c now p.decls (Ok x) → Measured now p
measured c now p x is h = record { between = h.known nothing_known (at_start c is); counts = h.counted nothing_known [] [] (at_start c is) is.counted; left = h.judged nothing_known (at_start c is) }

pub measured_fault : {T : Type 0} (c now : Checker) (p : ProgramTree) (e : TypeError) → Started c → ChecksDecls {T = T} c now p.decls (Err e) → IsFirstOf (program_faults p) e
measured_fault c now p e is h =
    first_append (decls_faults nothing_known p.decls) (at_span (record { first = p.length; after = p.length }) (no_main (known_behind nothing_known p.decls))) e (h.judged nothing_known (at_start c is))

pub all_faults : (c : Checker) (p : ProgramTree) → Measured c p → program_faults p ≡ at_span (record { first = p.length; after = p.length }) (no_main (known_behind nothing_known p.decls))
all_faults c p s = ap (λ l. l ++ at_span (record { first = p.length; after = p.length }) (no_main (known_behind nothing_known p.decls))) s.left

pub with_main : (c : Checker) (p : ProgramTree) (r : Sizes) → Measured c p → FindsMain c (Some r) → IsTyped p
with_main c p r s h =
    let k = known_behind nothing_known p.decls in
    let there : is_among main_name (names_of k.functions) ≡ true = sym (h.found k s.between) in
    all_faults c p s ∙ ap (λ t. at_span (record { first = p.length; after = p.length }) (where_true (not t) 1)) there

pub without_main : (c : Checker) (p : ProgramTree) → Measured c p → FindsMain c None → program_faults p ≡ (1, record { first = p.length; after = p.length }) ∷ []
without_main c p s h =
    let k = known_behind nothing_known p.decls in
    let absent : is_among main_name (names_of k.functions) ≡ false = sym (h.found k s.between) in
    all_faults c p s ∙ ap (λ t. at_span (record { first = p.length; after = p.length }) (where_true (not t) 1)) absent

at_most_eight : (n : ℕ) → n ≤ 8 → min n 8 ≡ n
at_most_eight n le = omega (arith, le)

pub sized : (c : Checker) (p : ProgramTree) (r : Sizes) → Measured c p → FindsMain c (Some r) → IsSized p r
sized c p r s h =
    let k = known_behind nothing_known p.decls in
    let sizes = sizes_behind [] nothing_known p.decls in
    let needs = needs_behind [] nothing_known p.decls in
    record {
      of_expanded = h.sized k sizes needs s.between s.counts;
      of_need = h.needed k sizes needs s.between s.counts;
      of_params = h.of_params k s.between ∙ at_most_eight (main_words p) (main_narrow p (with_main c p r s h));
    }

-- ---- the answers of a walk over a program
pub measures_fault : {T : Type 0} (c now : Checker) (p : ProgramTree) (e : TypeError) → ChecksDecls {T = T} c now p.decls (Err e) → Measures c p (Err e)
measures_fault c now p e h = record { judged = λ is. measured_fault c now p e is h; sized = λ is. tt }

measures_sizes : {T : Type 0} (c now : Checker) (p : ProgramTree) (x : T) (r : Sizes) → ChecksDecls {T = T} c now p.decls (Ok x) → FindsMain now (Some r) → Measures c p (Ok r)
measures_sizes c now p x r h found = record { judged = λ is. with_main now p r (measured c now p x is h) found; sized = λ is. sized now p r (measured c now p x is h) found }

measures_no_main : {T : Type 0} (c now : Checker) (p : ProgramTree) (x : T) → ChecksDecls {T = T} c now p.decls (Ok x) → FindsMain now None → Measures c p (Err (Fault 1 (record { first = p.length; after = p.length })))
measures_no_main c now p x h found = record { judged = λ is. ([], without_main now p (measured c now p x is h) found); sized = λ is. tt }

pub measures_main : {T : Type 0} (c now : Checker) (p : ProgramTree) (x : T) (r : Result Sizes TypeError) → ChecksDecls {T = T} c now p.decls (Ok x)
    → MatchResult r (λ s. FindsMain now (Some s)) (λ e. FindsMain now None × (e ≡ Fault 1 (record { first = p.length; after = p.length }))) → Measures c p r
measures_main c now p x (Ok s) h found = measures_sizes c now p x s h found
measures_main c now p x (Err e) h found = subst (λ (w : TypeError). Measures c p (Err w)) (sym found.1) (measures_no_main c now p x h found.0)
