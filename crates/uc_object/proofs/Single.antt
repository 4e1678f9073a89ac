-- Each row is the row of one instruction, and which bytes are a row.
use Rattle.std.proofs.Common.{◌≡◌, ℕ, List, [], ◌∷◌, get_or, refl, sym, ◌∙◌, if◌then◌else◌, ◌==◌}
use Rattle.std.specs.Int.{from_le_bytes, w16, w32}
use Rattle.std.proofs.lemmas.Nat.{from_le_bytes-to_le_bytes_2, from_le_bytes-to_le_bytes_4}
use Rattle.uc_isa.specs.declared.instruction.Instr.{Instr}
use Rattle.uc_isa.specs.declared.instruction.Instr.TheVariants.{Alu, Un, Immed, Br, Read, Write, Halt}
use Rattle.uc_object.specs.Rows.{IsRow}
use Rattle.uc_object.proofs.Reader.{source_of, source_of-one, target_of, target_of-one, address_of, address_of-one, binary_of, binary_of-one, unary_of, unary_of-one, condition_of, condition_of-one, memory_of, memory_of-one}

-- the instruction of a row
abbrev pub instruction_of : List ℕ → Instr
instruction_of row =
    let at = get_or row in
    let kind = get_or row 0 0 in
    let second = get_or row 1 0 in
    let b2 = get_or row 2 0 in
    let b3 = get_or row 3 0 in
    let b4 = get_or row 4 0 in
    let b5 = get_or row 5 0 in
    let b6 = get_or row 6 0 in
    let b7 = get_or row 7 0 in
    if kind == 0 then Alu (target_of b2) (binary_of second) (source_of b3) (source_of b4)
    else if kind == 1 then Un (target_of b2) (unary_of second b4) (source_of b3)
    else if kind == 2 then Immed (target_of b2) (from_le_bytes w16 (b4 ∷ b5 ∷ [])) second
    else if kind == 3 then Br (condition_of second) (from_le_bytes w32 (b4 ∷ b5 ∷ b6 ∷ b7 ∷ []))
    else if kind == 4 then Read (memory_of second) b2 b3 (address_of b4) b5
    else if kind == 5 then Write (memory_of second) b2 b3 (address_of b4) b5
    else Halt (from_le_bytes w16 (b2 ∷ b3 ∷ [])) second

-- the reader finds the instruction of a row
pub row-instruction : (i : Instr) (row : List ℕ) → IsRow i row → instruction_of row ≡ i
row-instruction (Alu d op x y) row h = rw h.6 (cc (target_of-one d h.0 h.3, source_of-one x h.1 h.4, source_of-one y h.2 h.5, binary_of-one op _ refl))
row-instruction (Un d op x) row h = rw h.5 (cc (target_of-one d h.0 h.2, source_of-one x h.1 h.3, unary_of-one op _ _ refl refl))
row-instruction (Immed d v s) row h = rw h.4 (cc (target_of-one d h.0 h.1, from_le_bytes-to_le_bytes_2 v h.3))
row-instruction (Br cond target) row h = rw h.1 (cc (condition_of-one cond _ refl, from_le_bytes-to_le_bytes_4 target h.0))
row-instruction (Read m r n x off) row h = rw h.5 (cc (memory_of-one m _ refl, address_of-one x h.0 h.1))
row-instruction (Write m r n x off) row h = rw h.5 (cc (memory_of-one m _ refl, address_of-one x h.0 h.1))
row-instruction (Halt k n) row h = rw h.2 (cc (from_le_bytes-to_le_bytes_2 k h.1))

-- a row is the row of one instruction
pub row-one : (i j : Instr) (row : List ℕ) → IsRow i row → IsRow j row → i ≡ j
row-one i j row h k = sym (row-instruction i row h) ∙ row-instruction j row k
