use Rattle.std.proofs.Common.{◌≤◌, get_or, arith}
use Rattle.uc_isa.specs.declared.instruction.Instr.TheVariants.{Alu, Un, Immed, Read, Write, Halt}
use Rattle.uc_object.proofs.Reading.{of_kind, kind-le, alu-row, un-row, immed-row, read-row, write-row, halt-row}
use Rattle.uc_object.proofs.field.instruction.Goals as goal

pub returns-in-0 : goal.returns-in-0
returns-in-0 c = of_kind 0 c.args.row (Alu c.target.result c.binary.result c.source.result c.source-in-0.result) (omega arith) c.in-0.is c.requires
    (λ fit. alu-row _ _ _ _ _ _ _ _ _ _ _ fit c.target.ensures c.binary.ensures c.source.ensures c.source-in-0.ensures)

pub returns-in-1 : goal.returns-in-1
returns-in-1 c = of_kind 1 c.args.row (Un c.target-in-1.result c.unary.result c.source-in-1.result) (omega arith) c.in-1.is c.requires
    (λ fit. un-row _ _ _ _ _ _ _ _ _ _ fit c.element_fits5.fits c.target-in-1.ensures c.unary.ensures.number c.unary.ensures.count c.source-in-1.ensures)

pub returns-in-2 : goal.returns-in-2
returns-in-2 c = of_kind 2 c.args.row (Immed c.target-in-2.result c.from_le_bytes.result (get_or c.args.row 1 0)) (omega arith) c.in-2.is c.requires
    (λ fit. immed-row _ _ _ _ _ _ _ _ _ fit c.target-in-2.ensures c.from_le_bytes.ensures)

pub returns-in-4 : goal.returns-in-4
returns-in-4 c = of_kind 4 c.args.row (Read c.memory.result (get_or c.args.row 2 0) (get_or c.args.row 3 0) c.address.result (get_or c.args.row 5 0)) (omega arith) c.in-4.is c.requires
    (λ fit. read-row _ _ _ _ _ _ _ _ _ fit c.memory.ensures c.address.ensures)

pub returns-in-5 : goal.returns-in-5
returns-in-5 c = of_kind 5 c.args.row (Write c.memory-in-5.result (get_or c.args.row 2 0) (get_or c.args.row 3 0) c.address-in-5.result (get_or c.args.row 5 0)) (omega arith) c.in-5.is c.requires
    (λ fit. write-row _ _ _ _ _ _ _ _ _ fit c.memory-in-5.ensures c.address-in-5.ensures)

pub returns-in_default : goal.returns-in_default
returns-in_default c =
    let most : get_or c.args.row 0 0 ≤ 6 = kind-le c.args.row (omega arith) c.requires in
    of_kind 6 c.args.row (Halt c.from_le_bytes-in_default.result (get_or c.args.row 1 0)) (omega arith) (omega arith) c.requires (λ fit. halt-row _ _ _ _ _ _ _ _ fit c.from_le_bytes-in_default.ensures)
