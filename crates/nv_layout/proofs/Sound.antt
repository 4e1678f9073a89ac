-- An outline of a layout text without faults is sound, where the known ones are.
use Rattle.std.proofs.Common.{◌≡◌, ◌∙◌, refl, ap, ℕ, suc, ◌≤◌, Bool, true, false, not, List, [], ◌∷◌, ◌++◌, bytes_eq, arith, All}
use Rattle.std.specs.Prelude.{nat_le}
use Rattle.std.proofs.lemmas.Bool.{leb-true, and_parts}
use Rattle.nv_ast.specs.Tree.{LayoutTree, NamedLayout, GapLayout, PartsLayout, JoinedLayout, LayoutTrees, no_layouts, layout_and, FieldTree, BitsField, InnerField, OverlayField, FieldTrees, no_fields, field_and}
use Rattle.nv_ast.specs.Outline.{OutlineTree, PartsOutline, no_named_outlines, Layouts, outline, outlines, field_outline, field_outlines, IsSound, AllSound, AllNamedSound}
use Rattle.nv_ast.specs.Tests.{where_true, within, has_twice, all_same, value_at}
use Rattle.nv_ast.specs.LayoutFaults.{layout_faults, layouts_faults, field_faults, fields_faults, same_field, different_sizes, unfit, field_names, field_sizes}
use Rattle.nv_ast.proofs.LayoutRows.{text_sizes}
use Rattle.nv_ast.proofs.Faultless.{no_front, no_rest, not_where}
use Rattle.nv_layout.proofs.Walks.{shaped_names}

-- a test whose fault isn't there
pub where_not : {A : Type 0} (b : Bool) (x : A) → where_true (not b) x ≡ [] → b ≡ true
where_not true x h = refl
where_not false x h = cc

in_range : (m n k : ℕ) → within m n k ≡ true → (m ≤ k) × (k ≤ n)
in_range m n k h = (leb-true m k (and_parts (nat_le m k) (nat_le k n) h).0, leb-true k n (and_parts (nat_le m k) (nat_le k n) h).1)

abbrev one_of : Bool → OutlineTree → OutlineTree → OutlineTree
one_of true a b = a
one_of false a b = b

value_sound : (k : Layouts) (x : List ℕ) → All (λ p. IsSound p.1) k → IsSound (value_at (PartsOutline no_named_outlines) x k)
value_sound [] x s = (tt {0}, refl)
value_sound ((y, o) ∷ k) x s = elim (bytes_eq x y) as (λ b. IsSound (one_of b o (value_at (PartsOutline no_named_outlines) x k))) [ true ↦ s 0 (y, o) (omega arith) | false ↦ value_sound k x (λ i d h. s (suc i) d (omega arith)) ]

mutual
  pub layout_sound : (k : Layouts) → All (λ p. IsSound p.1) k → (l : LayoutTree) → layout_faults k l ≡ [] → IsSound (outline k l)
  layout_sound k s (NamedLayout x) h = value_sound k x s
  layout_sound k s (GapLayout n) h = in_range 1 1024 n (where_not (within 1 1024 n) 4 h)
  layout_sound k s (PartsLayout fs) h =
      (fields_sound k s fs (no_front (fields_faults k fs) (same_field (field_names fs)) h), ap has_twice (shaped_names k fs) ∙ not_where (has_twice (field_names fs)) 5 (no_rest (fields_faults k fs) (same_field (field_names fs)) h))
  layout_sound k s (JoinedLayout ls) h =
      (layouts_sound k s ls (no_front (layouts_faults k ls) _ h), not_where _ 5 (no_rest (layouts_faults k ls) _ h))

  pub layouts_sound : (k : Layouts) → All (λ p. IsSound p.1) k → (ls : LayoutTrees) → layouts_faults k ls ≡ [] → AllSound (outlines k ls)
  layouts_sound k s no_layouts h = tt {0}
  layouts_sound k s (layout_and l ls) h = (layout_sound k s l (no_front (layout_faults k l) (layouts_faults k ls) h), layouts_sound k s ls (no_rest (layout_faults k l) (layouts_faults k ls) h))

  pub field_sound : (k : Layouts) → All (λ p. IsSound p.1) k → (f : FieldTree) → field_faults k f ≡ [] → IsSound (field_outline k f)
  field_sound k s (BitsField n) h = in_range 1 32 n (where_not (within 1 32 n) 4 h)
  field_sound k s (InnerField l) h = layout_sound k s l (no_front (layout_faults k l) (unfit (outline k l)) h)
  field_sound k s (OverlayField fs) h =
      let own : same_field (field_names fs) ++ different_sizes (field_sizes k fs) ≡ [] = no_rest (fields_faults k fs) _ h in
      (fields_sound k s fs (no_front (fields_faults k fs) _ h), ap has_twice (shaped_names k fs) ∙ not_where (has_twice (field_names fs)) 5 (no_front (same_field (field_names fs)) _ own), ap all_same (text_sizes k fs) ∙ where_not (all_same (field_sizes k fs)) 6 (no_rest (same_field (field_names fs)) _ own))

  pub fields_sound : (k : Layouts) → All (λ p. IsSound p.1) k → (fs : FieldTrees) → fields_faults k fs ≡ [] → AllNamedSound (field_outlines k fs)
  fields_sound k s no_fields h = tt {0}
  fields_sound k s (field_and x f fs) h = (field_sound k s f (no_front (field_faults k f) (fields_faults k fs) h), fields_sound k s fs (no_rest (field_faults k f) (fields_faults k fs) h))
