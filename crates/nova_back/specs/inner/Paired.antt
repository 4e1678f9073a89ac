-- The paired choice of banks: each value in A and in B.
use Rattle.std.specs.Prelude.{ℕ, nat_eq, is_some, Bool, true, false, not, ◌&&◌}
use Rattle.bank_prog_form.specs.declared.column.Bank.{Bank}
use Rattle.bank_prog_form.specs.declared.column.Bank.TheVariants.{A, B, M, L, W}
use Rattle.bank_prog_form.specs.declared.column.Column.TheVariants.{Def, DirectWrite, Fill, Stay, EarlyWrite, First, Serve, ReadVia, WriteVia}
use Rattle.bank_prog.specs.Meaning.{Chosen}
use Rattle.bank_prog_form.specs.Program.{Numbers}

abbrev pub is_there : Numbers → Chosen
is_there number c = is_some (number c)

-- the second operand of an instruction: only operands can be served at the register through which a slot is read
abbrev pub is_second : Numbers → ℕ → ℕ → Bool
is_second number k i = nat_eq i 1 && is_there number (Serve k i M L)

abbrev pub is_a : Bank → Bool
is_a A = true
is_a _ = false

-- a value that isn't put into A at first is copied there
abbrev pub fills : Numbers → ℕ → Bank → Bool
fills number x A = not (is_there number (Def x A))
fills number x B = true
fills number x _ = false

-- second operands are served from B, all other uses from A
abbrev pub serves_a : Bool → Bank → Bool
serves_a second A = not second
serves_a second W = true
serves_a second _ = false

abbrev pub serves_b : Bool → Bank → Bool
serves_b second B = second
serves_b second _ = false

abbrev pub serves : Bool → Bank → Bank → Bool
serves second A p = serves_a second p
serves second B p = serves_b second p
serves second _ p = false

-- the columns of the choice, where these have numbers. Every access begins at the first register
abbrev pub paired : Numbers → Chosen
paired number (Def x h) = is_a h
paired number (DirectWrite k i f) = false
paired number (Fill x h) = fills number x h
paired number (Stay x f) = false
paired number (EarlyWrite k i f) = false
paired number (First k f) = nat_eq f 0
paired number (Serve k i h p) = serves (is_second number k i) h p
paired number (ReadVia k r) = false
paired number (WriteVia k r) = false
