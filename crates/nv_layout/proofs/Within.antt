-- The fields of a sound outline lie in its bits.
use Rattle.std.proofs.Common.{ℕ, zero, suc, ◌+◌, ◌<◌, ◌≤◌, List, [], ◌∷◌, ◌++◌, length, get_or, arith}
use Rattle.nv_layout.specs.declared.outline.Field.{Field}
use Rattle.nv_ast.specs.Outline.{OutlineTree, BitsOutline, GapOutline, PartsOutline, OverlayOutline, JoinedOutline, OutlineTrees, no_outlines, outline_and, NamedOutlines, no_named_outlines, named_outline_and, size, total_named_size, longest, total_size, bit_fields, part_fields, alternative_fields, joined_fields, IsSound, AllSound, AllNamedSound}
use Rattle.nv_layout.specs.FieldList.{field_pairs, LiesWithin}

abbrev pub Inside : ℕ → List (ℕ × ℕ) → Type 0
Inside n [] = Unit {0}
Inside n (p ∷ ps) = ((1 ≤ p.1) × (p.1 ≤ 32) × (p.0 + p.1 ≤ n)) × Inside n ps

Inside-append : (n : ℕ) (ps qs : List (ℕ × ℕ)) → Inside n ps → Inside n qs → Inside n (ps ++ qs)
Inside-append n [] qs h k = k
Inside-append n (p ∷ ps) qs h k = (h.0, Inside-append n ps qs h.1 k)

mutual
  pub outline_inside : (n i : ℕ) (o : OutlineTree) → IsSound o → i + size o ≤ n → Inside n (bit_fields i o)
  outline_inside n i (BitsOutline b) s h = ((s.0, s.1, h), tt {0})
  outline_inside n i (GapOutline b) s h = tt {0}
  outline_inside n i (PartsOutline fs) s h = parts_inside n i fs s.0 h
  outline_inside n i (OverlayOutline fs) s h = alternatives_inside n i fs s.0 h
  outline_inside n i (JoinedOutline os) s h = joined_inside n i os s.0 h

  pub parts_inside : (n i : ℕ) (fs : NamedOutlines) → AllNamedSound fs → i + total_named_size fs ≤ n → Inside n (part_fields i fs)
  parts_inside n i no_named_outlines s h = tt {0}
  parts_inside n i (named_outline_and x o os) s h = Inside-append n (bit_fields i o) (part_fields (i + size o) os) (outline_inside n i o s.0 (omega arith)) (parts_inside n (i + size o) os s.1 (omega arith))

  pub alternatives_inside : (n i : ℕ) (fs : NamedOutlines) → AllNamedSound fs → i + longest fs ≤ n → Inside n (alternative_fields i fs)
  alternatives_inside n i no_named_outlines s h = tt {0}
  alternatives_inside n i (named_outline_and x o os) s h = Inside-append n (bit_fields i o) (alternative_fields i os) (outline_inside n i o s.0 (omega arith)) (alternatives_inside n i os s.1 (omega arith))

  pub joined_inside : (n i : ℕ) (os : OutlineTrees) → AllSound os → i + total_size os ≤ n → Inside n (joined_fields i os)
  joined_inside n i no_outlines s h = tt {0}
  joined_inside n i (outline_and o os) s h = Inside-append n (bit_fields i o) (joined_fields (i + size o) os) (outline_inside n i o s.0 (omega arith)) (joined_inside n (i + size o) os s.1 (omega arith))

pub all_lie : (n : ℕ) (fs : List Field) → Inside n (field_pairs fs) → (k : ℕ) (d : Field) → k < length fs → LiesWithin n (get_or fs k d)
all_lie n [] h k d lt = absurd (let none : ⊥ = omega arith in none)
all_lie n (f ∷ fs) h zero d lt = record { some = h.0.0; word = h.0.1; inside = h.0.2 }
all_lie n (f ∷ fs) h (suc k) d lt = all_lie n fs h.1 k d (omega arith)
