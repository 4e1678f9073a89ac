-- The needs of a program's groups: of each function the needs of the groups before, by which its body's need is counted.
use Rattle.std.proofs.Common.{◌≡◌, ◌∙◌, refl, sym, ap, subst, ℕ, ◌+◌, ◌<◌, ◌≤◌, max, Bool, true, false, List, [], ◌∷◌, Some, bytes_eq, arith, if◌then◌else◌}
use Rattle.std.proofs.lemmas.Option.{same_Some}
use Rattle.nv_ast.specs.Tests.{value_at}
use Rattle.nv_ast.specs.Tree.{FunTree, DeclTree, LayoutDecl, ExceptionDecl, GroupDecl, ProgramTree}
use Rattle.nv_ast.specs.Types.{named_types_of}
use Rattle.nv_ast.specs.Sizes.{GroupNumbers, param_words, body_vars, need, group_need, needs_behind}
use Rattle.nv_ast.specs.Scope.{Known, nothing_known, known_after}
use Rattle.nv_ast.specs.Faults.{body_faults, program_faults}
use Rattle.nv_meaning.specs.Meaning.{function_in}
use Rattle.nv_flatten_values.specs.inner.Whole.{Whole, whole_of, group_of, IsPart}
use Rattle.nv_flatten.proofs.GroupWalk.{Group, group_in, number_of, with_group, numbers_behind, stands-in, number-in}

-- ---- a function's body and the needs of the groups before
pub record IsNeeded (w : Whole) (v : ℕ → ℕ) (f : List ℕ) (g : FunTree) : Type 0 where
  pub own : ℕ
  pub known : Known
  pub part : IsPart w own known
  pub grouped : group_of w f ≡ Some own
  pub none : body_faults known g ≡ []
  pub params : named_types_of known.layouts g.params ≡ named_types_of w.declared.layouts g.params
  pub needs : GroupNumbers
  pub enough : param_words known g + need needs known (body_vars known g) g.body ≤ v own
  pub earlier : (h : List ℕ) (d : FunTree) (m : ℕ) → function_in w.declared.functions h ≡ Some d → group_of w h ≡ Some m → m < own → v m ≤ value_at 0 h needs

need-found : (needs : GroupNumbers) (k : Known) (fs : List FunTree) (f : List ℕ) (g : FunTree) → function_in fs f ≡ Some g → param_words k g + need needs k (body_vars k g) g.body ≤ group_need needs k fs
need-found needs k [] f g e = absurd (cc)
need-found needs k (d ∷ fs) f g e = by (bytes_eq f d.name) refl (λ q. need-found needs k fs f g q)
  where
    by : (b : Bool) → bytes_eq f d.name ≡ b → (function_in fs f ≡ Some g → param_words k g + need needs k (body_vars k g) g.body ≤ group_need needs k fs)
        → param_words k g + need needs k (body_vars k g) g.body ≤ max (param_words k d + need needs k (body_vars k d) d.body) (group_need needs k fs)
    by true q next =
        subst (λ c. param_words k c + need needs k (body_vars k c) c.body ≤ max (param_words k d + need needs k (body_vars k d) d.body) (group_need needs k fs))
        (same_Some _ _ (sym (ap (λ b. if b then Some d else function_in fs f) q) ∙ e)) (omega arith)
    by false q next = let le = next (sym (ap (λ b. if b then Some d else function_in fs f) q) ∙ e) in omega arith

-- ---- of a whole program
abbrev need_at : ProgramTree → ℕ → Group
need_at = group_in group_need

abbrev pub need_of_group : ProgramTree → ℕ → ℕ
need_of_group t i = number_of group_need (need_at t i)

pub needed : (t : ProgramTree) → program_faults t ≡ [] → (f : List ℕ) (g : FunTree) → function_in (whole_of t).declared.functions f ≡ Some g → IsNeeded (whole_of t) (need_of_group t) f g
needed t h f g found =
    let n = stands-in group_need t h f g found in
    let d = need_at t n.own in
    record {
      own = n.own;
      known = d.known;
      part = n.part;
      grouped = n.grouped;
      none = n.none;
      params = n.params;
      needs = d.before;
      enough = need-found d.before d.known d.funs f g n.found;
      earlier = λ x e m there grouped before. let same : value_at 0 x d.before ≡ need_of_group t m = n.earlier x e m there grouped before in omega arith;
    }

needs-same : (needs : GroupNumbers) (k : Known) (ds : List DeclTree) → needs_behind needs k ds ≡ numbers_behind group_need needs k ds
needs-same needs k [] = refl
needs-same needs k (LayoutDecl x l s ∷ ds) = needs-same needs (known_after k (LayoutDecl x l s)) ds
needs-same needs k (ExceptionDecl x ts s ∷ ds) = needs-same needs (known_after k (ExceptionDecl x ts s)) ds
needs-same needs k (GroupDecl fs ∷ ds) = needs-same (with_group group_need needs k fs) (known_after k (GroupDecl fs)) ds

-- the need of a function among all needs is that of its group
pub need-of : (t : ProgramTree) → program_faults t ≡ [] → (f : List ℕ) (g : FunTree) → function_in (whole_of t).declared.functions f ≡ Some g → (m : ℕ) → group_of (whole_of t) f ≡ Some m → value_at 0 f (needs_behind [] nothing_known t.decls) ≡ need_of_group t m
need-of t h f g found m grouped = ap (value_at 0 f) (needs-same [] nothing_known t.decls) ∙ number-in group_need t h f g found m grouped
