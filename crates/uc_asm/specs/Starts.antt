-- The listing of an object: that of its code, and before the instruction at each start a line with the label of its number.
use Rattle.std.specs.Prelude.{ℕ, ◌+◌, ◌==◌, List, [], ◌∷◌, ◌++◌, codes, decimal, map, if◌then◌else◌}
use Rattle.nv_lines.specs.Line.{text_of}
use Rattle.uc_isa.specs.declared.instruction.Instr.{Instr}
use Rattle.uc_object.specs.Tagged.{TaggedView}
use Rattle.uc_object.specs.declared.object.Object.{Object}
use Rattle.uc_object.specs.declared.object.Object.TheVariants.{One, Two}
use Rattle.uc_asm.specs.Items.{Item, label, plain, item_line, params_line}
use Rattle.uc_asm.specs.Text.{listing}

-- the numbers of the starts at a place, the first of them counted as k
abbrev pub labels_at : ℕ → List ℕ → ℕ → List ℕ
labels_at k [] place = []
labels_at k (start ∷ starts) place = if start == place then k ∷ labels_at (k + 1) starts place else labels_at (k + 1) starts place

-- the label of a number: L0, L1 and so on
abbrev pub start_label : ℕ → Item
start_label k = label (codes "L" ++ decimal k)

-- the instructions from a place on, each after the labels that start at its place
abbrev pub labelled : List ℕ → ℕ → List Instr → List Item
labelled starts place [] = []
labelled starts place (i ∷ list) = map start_label (labels_at 0 starts place) ++ plain i ∷ labelled starts (place + 1) list

-- the listing of a code with starts
abbrev pub tagged_listing : TaggedView → List ℕ
tagged_listing t = text_of (params_line t.code.params ∷ map item_line (labelled t.starts 0 t.code.list))

-- the listing of an object: every target a place
abbrev pub object_listing : Object → List ℕ
object_listing (One c) = listing c
object_listing (Two t) = tagged_listing t
