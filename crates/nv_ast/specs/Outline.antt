-- Outlines: layouts with the names of other layouts written out. Their sizes, their records and their bit fields.
use Rattle.std.specs.Prelude.{◌≡◌, ℕ, ◌+◌, ◌≤◌, max, true, false, List, [], ◌∷◌, ◌++◌}
use Rattle.nv_ast.specs.Tree.{LayoutTree, NamedLayout, GapLayout, PartsLayout, JoinedLayout, LayoutTrees, no_layouts, layout_and, FieldTree, BitsField, InnerField, OverlayField, FieldTrees, no_fields, field_and}
use Rattle.nv_ast.specs.Tests.{value_at, names_of, has_twice, all_same}

mutual
  -- a field of n bits, n bits that are left out, a record's fields in order, alternatives that begin at the same bit, or outlines one after another
  pub data OutlineTree : Type 0 where
    BitsOutline : (n : ℕ) → OutlineTree
    GapOutline : (n : ℕ) → OutlineTree
    PartsOutline : (fields : NamedOutlines) → OutlineTree
    OverlayOutline : (alternatives : NamedOutlines) → OutlineTree
    JoinedOutline : (outlines : OutlineTrees) → OutlineTree

  pub data OutlineTrees : Type 0 where
    no_outlines : OutlineTrees
    outline_and : (o : OutlineTree) (os : OutlineTrees) → OutlineTrees

  pub data NamedOutlines : Type 0 where
    no_named_outlines : NamedOutlines
    named_outline_and : (name : List ℕ) (o : OutlineTree) (os : NamedOutlines) → NamedOutlines

-- the outlines of the layouts that are known
abbrev pub Layouts : Type 0
Layouts = List (List ℕ × OutlineTree)

-- ---- the outline of a layout; that of an unknown name has no fields
abbrev mutual
  pub outline : Layouts → LayoutTree → OutlineTree
  outline known (NamedLayout x) = value_at (PartsOutline no_named_outlines) x known
  outline known (GapLayout n) = GapOutline n
  outline known (PartsLayout fs) = PartsOutline (field_outlines known fs)
  outline known (JoinedLayout ls) = JoinedOutline (outlines known ls)

  pub outlines : Layouts → LayoutTrees → OutlineTrees
  outlines known no_layouts = no_outlines
  outlines known (layout_and l ls) = outline_and (outline known l) (outlines known ls)

  pub field_outline : Layouts → FieldTree → OutlineTree
  field_outline known (BitsField n) = BitsOutline n
  field_outline known (InnerField l) = outline known l
  field_outline known (OverlayField fs) = OverlayOutline (field_outlines known fs)

  pub field_outlines : Layouts → FieldTrees → NamedOutlines
  field_outlines known no_fields = no_named_outlines
  field_outlines known (field_and x f fs) = named_outline_and x (field_outline known f) (field_outlines known fs)

-- ---- the size in bits; an overlay is as long as its longest alternative
abbrev mutual
  pub size : OutlineTree → ℕ
  size (BitsOutline n) = n
  size (GapOutline n) = n
  size (PartsOutline fs) = total_named_size fs
  size (OverlayOutline fs) = longest fs
  size (JoinedOutline os) = total_size os

  pub total_size : OutlineTrees → ℕ
  total_size no_outlines = 0
  total_size (outline_and o os) = size o + total_size os

  pub total_named_size : NamedOutlines → ℕ
  total_named_size no_named_outlines = 0
  total_named_size (named_outline_and x o os) = size o + total_named_size os

  pub longest : NamedOutlines → ℕ
  longest no_named_outlines = 0
  longest (named_outline_and x o os) = max (size o) (longest os)

-- ---- the height: 1 for bits and gaps, else one more than the highest part
abbrev mutual
  pub outline_height : OutlineTree → ℕ
  outline_height (BitsOutline n) = 1
  outline_height (GapOutline n) = 1
  outline_height (PartsOutline fs) = 1 + highest_named_outline fs
  outline_height (OverlayOutline fs) = 1 + highest_named_outline fs
  outline_height (JoinedOutline os) = 1 + highest_outline os

  pub highest_outline : OutlineTrees → ℕ
  highest_outline no_outlines = 0
  highest_outline (outline_and o os) = max (outline_height o) (highest_outline os)

  pub highest_named_outline : NamedOutlines → ℕ
  highest_named_outline no_named_outlines = 0
  highest_named_outline (named_outline_and x o os) = max (outline_height o) (highest_named_outline os)

-- ---- the fields of a layout's record: those of outlines one after another form one record
abbrev pub named_list : NamedOutlines → List (List ℕ × OutlineTree)
named_list no_named_outlines = []
named_list (named_outline_and x o os) = (x, o) ∷ named_list os

abbrev mutual
  pub record_of : OutlineTree → List (List ℕ × OutlineTree)
  record_of (BitsOutline n) = []
  record_of (GapOutline n) = []
  record_of (PartsOutline fs) = named_list fs
  record_of (OverlayOutline fs) = named_list fs
  record_of (JoinedOutline os) = records_of os

  pub records_of : OutlineTrees → List (List ℕ × OutlineTree)
  records_of no_outlines = []
  records_of (outline_and o os) = record_of o ++ records_of os

-- ---- the bit fields in order, those of each alternative in turn, each with its first bit and its number of bits, where the outline begins at the bit i
abbrev mutual
  pub bit_fields : ℕ → OutlineTree → List (ℕ × ℕ)
  bit_fields i (BitsOutline n) = (i, n) ∷ []
  bit_fields i (GapOutline n) = []
  bit_fields i (PartsOutline fs) = part_fields i fs
  bit_fields i (OverlayOutline fs) = alternative_fields i fs
  bit_fields i (JoinedOutline os) = joined_fields i os

  pub part_fields : ℕ → NamedOutlines → List (ℕ × ℕ)
  part_fields i no_named_outlines = []
  part_fields i (named_outline_and x o os) = bit_fields i o ++ part_fields (i + size o) os

  pub alternative_fields : ℕ → NamedOutlines → List (ℕ × ℕ)
  alternative_fields i no_named_outlines = []
  alternative_fields i (named_outline_and x o os) = bit_fields i o ++ alternative_fields i os

  pub joined_fields : ℕ → OutlineTrees → List (ℕ × ℕ)
  joined_fields i no_outlines = []
  joined_fields i (outline_and o os) = bit_fields i o ++ joined_fields (i + size o) os

-- ---- outlines without a fault of their bits, gaps, names or alternatives

-- the sizes of alternatives
abbrev pub sizes_of : NamedOutlines → List ℕ
sizes_of no_named_outlines = []
sizes_of (named_outline_and x o os) = size o ∷ sizes_of os

-- fields of 1 to 32 bits and gaps of 1 to 1,024, no name twice in a record, and alternatives of one size
abbrev mutual
  pub IsSound : OutlineTree → Type 0
  IsSound (BitsOutline n) = (1 ≤ n) × (n ≤ 32)
  IsSound (GapOutline n) = (1 ≤ n) × (n ≤ 1024)
  IsSound (PartsOutline fs) = AllNamedSound fs × (has_twice (names_of (named_list fs)) ≡ false)
  IsSound (OverlayOutline fs) = AllNamedSound fs × (has_twice (names_of (named_list fs)) ≡ false) × (all_same (sizes_of fs) ≡ true)
  IsSound (JoinedOutline os) = AllSound os × (has_twice (names_of (records_of os)) ≡ false)

  pub AllSound : OutlineTrees → Type 0
  AllSound no_outlines = Unit {0}
  AllSound (outline_and o os) = IsSound o × AllSound os

  pub AllNamedSound : NamedOutlines → Type 0
  AllNamedSound no_named_outlines = Unit {0}
  AllNamedSound (named_outline_and x o os) = IsSound o × AllNamedSound os
