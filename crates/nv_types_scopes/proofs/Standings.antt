-- What a declaration adds.
use Rattle.std.proofs.Common.{◌≡◌, ◌∙◌, refl, ap, sym, subst, ℕ, List, [], ◌∷◌, ◌++◌}
use Rattle.nv_ast.specs.declared.token.Span.{Span}
use Rattle.nv_ast.specs.Tree.{LayoutTree, TypeTrees, LayoutDecl, ExceptionDecl}
use Rattle.nv_ast.specs.Tests.{names_of}
use Rattle.nv_ast.specs.Outline.{outline}
use Rattle.nv_ast.specs.Types.{types_of}
use Rattle.nv_ast.specs.Scope.{Known, known_after}
use Rattle.nv_types_table.specs.declared.shapes.Shape.{Shape}
use Rattle.nv_types_scopes.specs.declared.functions.Checker.{Checker}
use Rattle.nv_types_table.specs.inner.Store.{IsType, IsParts}
use Rattle.nv_types_table.specs.inner.Layouts.{IsDeclared}
use Rattle.nv_types_scopes.specs.inner.Standing.{Alike, Sees, Keeps}
use Rattle.nv_types_scopes.specs.inner.Declarations.{Between}
use Rattle.nv_types_scopes.proofs.Alikes.{alike_append, alike_nothing}
use Rattle.nv_types_scopes.proofs.Holding.{holds_stays}

pub sees_nothing : (c : Checker) → c.scope ≡ [] → Sees c []
sees_nothing c e = subst (λ l. Alike (IsType c.table) l []) (sym e) tt

pub nothing_seen : (c : Checker) → Sees c [] → c.scope ≡ []
nothing_seen c h = alike_nothing (IsType c.table) c.scope h

-- one more layout
pub between_layout : (c mid : Checker) (k : Known) (x : List ℕ) (l : LayoutTree) (s : Span) (shape : Shape) (ls : List (List ℕ × Shape))
    → Between c k → Keeps c mid → IsDeclared mid.table shape (outline k.layouts l) → ls ≡ mid.layouts ++ (x, shape) ∷ []
    → Between (record mid { layouts = ls }) (known_after k (LayoutDecl x l s))
between_layout c mid k x l s shape ls is keeps d e =
    let held = holds_stays c mid k keeps.declared is.holds in
    record {
      holds = record {
        of_layouts = subst (λ z. Alike (IsDeclared mid.table) z (k.layouts ++ (x, outline k.layouts l) ∷ [])) (sym e)
            (alike_append (IsDeclared mid.table) mid.layouts ((x, shape) ∷ []) k.layouts ((x, outline k.layouts l) ∷ []) held.of_layouts (refl, d, tt));
        of_exceptions = held.of_exceptions;
        of_functions = held.of_functions;
        of_own = held.of_own;
      };
      no_own = is.no_own;
      all_counted = ap names_of keeps.declared.same_costs ∙ is.all_counted ∙ ap names_of (sym keeps.declared.same_functions);
      no_variables = keeps.same_scope ∙ is.no_variables;
    }

-- one more exception
pub between_exception : (c mid : Checker) (k : Known) (x : List ℕ) (ts : TypeTrees) (s : Span) (types : ℕ) (es : List (List ℕ × ℕ))
    → Between c k → Keeps c mid → IsParts mid.table types (types_of k.layouts ts) → es ≡ mid.exceptions ++ (x, types) ∷ []
    → Between (record mid { exceptions = es }) (known_after k (ExceptionDecl x ts s))
between_exception c mid k x ts s types es is keeps d e =
    let held = holds_stays c mid k keeps.declared is.holds in
    record {
      holds = record {
        of_layouts = held.of_layouts;
        of_exceptions = subst (λ z. Alike (IsParts mid.table) z (k.exceptions ++ (x, types_of k.layouts ts) ∷ [])) (sym e)
            (alike_append (IsParts mid.table) mid.exceptions ((x, types) ∷ []) k.exceptions ((x, types_of k.layouts ts) ∷ []) held.of_exceptions (refl, d, tt));
        of_functions = held.of_functions;
        of_own = held.of_own;
      };
      no_own = is.no_own;
      all_counted = ap names_of keeps.declared.same_costs ∙ is.all_counted ∙ ap names_of (sym keeps.declared.same_functions);
      no_variables = keeps.same_scope ∙ is.no_variables;
    }
