-- What the walk over a layout or a type in the text gives.
use Rattle.std.specs.Prelude.{ℕ, List, Result, IfOk, OnOk, Vec}
use Rattle.std.specs.Borrow.{Bor}
use Rattle.std.specs.declared.alloc.Global.{Global}
use Rattle.nv_ast.specs.declared.token.Span.{Span}
use Rattle.nv_ast.specs.Tree.{LayoutTree, FieldTree, FieldTrees, TypeTree, TypeTrees, NamedTypes}
use Rattle.nv_ast.specs.Outline.{outline, field_outline, field_outlines}
use Rattle.nv_ast.specs.LayoutFaults.{layout_faults, field_faults, fields_faults, declared_faults}
use Rattle.nv_ast.specs.Types.{type_of, types_of, named_types_of}
use Rattle.nv_ast.specs.Scope.{Known}
use Rattle.nv_ast.specs.Faults.{at_span, type_faults, types_faults, named_types_faults}
use Rattle.nv_types_table.specs.declared.error.TypeError.{TypeError}
use Rattle.nv_types_table.specs.declared.shapes.Shape.{Shape}
use Rattle.nv_types_table.specs.declared.shapes.Member.{Member}
use Rattle.nv_types_scopes.specs.declared.functions.Checker.{Checker}
use Rattle.nv_types_table.specs.inner.Faulty.{Judges}
use Rattle.nv_types_table.specs.inner.Named.{named}
use Rattle.nv_types_table.specs.inner.Store.{IsType, IsParts, AreFields}
use Rattle.nv_types_table.specs.inner.Layouts.{IsShape, IsDeclared, IsMember, AreMembers}
use Rattle.nv_types_scopes.specs.inner.Standing.{Holds, Keeps}

pub record ShapesLayout (c new : Checker) (s : Span) (l : LayoutTree) (r : Result Shape TypeError) : Type 0 where
  pub judged : (k : Known) → Holds c k → Judges (at_span s (layout_faults k.layouts l)) r
  pub shaped : (k : Known) → Holds c k → IfOk r (λ shape. IsShape new.table shape (outline k.layouts l))
  pub keeps : OnOk r (Keeps c new)

-- as a declared or inner layout
pub record ShapesWhole (c new : Checker) (s : Span) (l : LayoutTree) (r : Result Shape TypeError) : Type 0 where
  pub judged : (k : Known) → Holds c k → Judges (at_span s (declared_faults k.layouts l)) r
  pub shaped : (k : Known) → Holds c k → IfOk r (λ shape. IsDeclared new.table shape (outline k.layouts l))
  pub keeps : OnOk r (Keeps c new)

pub record ShapesField (c new : Checker) (s : Span) (f : FieldTree) (r : Result Member TypeError) : Type 0 where
  pub judged : (k : Known) → Holds c k → Judges (at_span s (field_faults k.layouts f)) r
  pub shaped : (k : Known) → Holds c k → IfOk r (λ m. IsMember new.table m (field_outline k.layouts f))
  pub keeps : OnOk r (Keeps c new)

pub record ShapesFields (c new : Checker) (s : Span) (fs : FieldTrees) (r : Result (Vec (Bor (List ℕ) × Member) Global) TypeError) : Type 0 where
  pub judged : (k : Known) → Holds c k → Judges (at_span s (fields_faults k.layouts fs)) r
  pub shaped : (k : Known) → Holds c k → IfOk r (λ ms. AreMembers new.table (named ms.items) (field_outlines k.layouts fs))
  pub keeps : OnOk r (Keeps c new)

pub record TypesText (c new : Checker) (s : Span) (t : TypeTree) (r : Result ℕ TypeError) : Type 0 where
  pub judged : (k : Known) → Holds c k → Judges (at_span s (type_faults k.layouts t)) r
  pub typed : (k : Known) → Holds c k → IfOk r (λ i. IsType new.table i (type_of k.layouts t))
  pub keeps : OnOk r (Keeps c new)

pub record TypesTexts (c new : Checker) (s : Span) (ts : TypeTrees) (r : Result ℕ TypeError) : Type 0 where
  pub judged : (k : Known) → Holds c k → Judges (at_span s (types_faults k.layouts ts)) r
  pub typed : (k : Known) → Holds c k → IfOk r (λ i. IsParts new.table i (types_of k.layouts ts))
  pub keeps : OnOk r (Keeps c new)

pub record TypesNamed (c new : Checker) (s : Span) (ts : NamedTypes) (r : Result (Vec (Bor (List ℕ) × ℕ) Global) TypeError) : Type 0 where
  pub judged : (k : Known) → Holds c k → Judges (at_span s (named_types_faults k.layouts ts)) r
  pub typed : (k : Known) → Holds c k → IfOk r (λ v. AreFields new.table (named v.items) (named_types_of k.layouts ts))
  pub keeps : OnOk r (Keeps c new)
