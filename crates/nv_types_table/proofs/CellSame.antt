-- Cells that are equal by their test are the same, and each is equal to itself.
use Rattle.std.proofs.Common.{◌≡◌, refl, ℕ, true, rules}
use Rattle.std.proofs.lemmas.Bool.{false≢true}
use Rattle.nv_types_table.specs.declared.table.Cell.{Cell}
use Rattle.nv_types_table.specs.declared.table.Cell.TheVariants.{Word, Bool as BoolCell, NoParts, NoFields, Tuple, Record, Choice, Part, Field, Both}
use Rattle.nv_types_table.specs.contracts.table.CellPartialEq.TheImpl.{eq-value}

tuple_same : (a x : ℕ) → eq-value.it (Tuple a) (Tuple x) ≡ true → Tuple a ≡ Tuple x
tuple_same a x h = search rules

record_same : (a x : ℕ) → eq-value.it (Record a) (Record x) ≡ true → Record a ≡ Record x
record_same a x h = search rules

choice_same : (a x : ℕ) → eq-value.it (Choice a) (Choice x) ≡ true → Choice a ≡ Choice x
choice_same a x h = search rules

part_same : (a b x y : ℕ) → eq-value.it (Part a b) (Part x y) ≡ true → Part a b ≡ Part x y
part_same a b x y h = search rules

field_same : (a b x y : ℕ) → eq-value.it (Field a b) (Field x y) ≡ true → Field a b ≡ Field x y
field_same a b x y h = search rules

both_same : (a b x y : ℕ) → eq-value.it (Both a b) (Both x y) ≡ true → Both a b ≡ Both x y
both_same a b x y h = search rules

pub cell_same : (a b : Cell) → eq-value.it a b ≡ true → a ≡ b
cell_same Word Word h = refl
cell_same BoolCell BoolCell h = refl
cell_same NoParts NoParts h = refl
cell_same NoFields NoFields h = refl
cell_same (Tuple a) (Tuple x) h = tuple_same a x h
cell_same (Record a) (Record x) h = record_same a x h
cell_same (Choice a) (Choice x) h = choice_same a x h
cell_same (Part a b) (Part x y) h = part_same a b x y h
cell_same (Field a b) (Field x y) h = field_same a b x y h
cell_same (Both a b) (Both x y) h = both_same a b x y h
cell_same _ _ h = absurd (false≢true h)

pub cell_itself : (a : Cell) → eq-value.it a a ≡ true
cell_itself Word = refl
cell_itself BoolCell = refl
cell_itself NoParts = refl
cell_itself NoFields = refl
cell_itself (Tuple a) = search rules
cell_itself (Record a) = search rules
cell_itself (Choice a) = search rules
cell_itself (Part a b) = search rules
cell_itself (Field a b) = search rules
cell_itself (Both a b) = search rules
