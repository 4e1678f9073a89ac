-- A column is the same as itself.
use Rattle.std.proofs.Common.{◌≡◌, true, ◌&&◌, nat_eq, refl}
use Rattle.std.proofs.lemmas.Bool.{and_from}
use Rattle.ssu_liveness.proofs.Scoped.{in-itself}
use Rattle.bank_prog_form.specs.declared.column.Bank.{Bank}
use Rattle.bank_prog_form.specs.declared.column.Bank.TheVariants.{A, B, M, T, L, A15, W}
use Rattle.bank_prog_form.specs.declared.column.Column.{Column}
use Rattle.bank_prog_form.specs.declared.column.Column.TheVariants.{Def, DirectWrite, Fill, Stay, EarlyWrite, First, Serve, ReadVia, WriteVia}
use Rattle.bank_prog_form.specs.Program.{same_bank, same_column}

pub bank-itself : (h : Bank) → same_bank h h ≡ true
bank-itself A = refl
bank-itself B = refl
bank-itself M = refl
bank-itself T = refl
bank-itself L = refl
bank-itself A15 = refl
bank-itself W = refl

pub column-itself : (c : Column) → same_column c c ≡ true
column-itself (Def x h) = and_from (nat_eq x x) (same_bank h h) (in-itself x) (bank-itself h)
column-itself (DirectWrite k i f) = and_from (nat_eq k k) (nat_eq i i && nat_eq f f) (in-itself k) (and_from (nat_eq i i) (nat_eq f f) (in-itself i) (in-itself f))
column-itself (Fill x h) = and_from (nat_eq x x) (same_bank h h) (in-itself x) (bank-itself h)
column-itself (Stay x f) = and_from (nat_eq x x) (nat_eq f f) (in-itself x) (in-itself f)
column-itself (EarlyWrite k i f) = and_from (nat_eq k k) (nat_eq i i && nat_eq f f) (in-itself k) (and_from (nat_eq i i) (nat_eq f f) (in-itself i) (in-itself f))
column-itself (First k f) = and_from (nat_eq k k) (nat_eq f f) (in-itself k) (in-itself f)
column-itself (Serve k i h p) =
    and_from (nat_eq k k) (nat_eq i i && (same_bank h h && same_bank p p)) (in-itself k)
    (and_from (nat_eq i i) (same_bank h h && same_bank p p) (in-itself i) (and_from (same_bank h h) (same_bank p p) (bank-itself h) (bank-itself p)))
column-itself (ReadVia k r) = and_from (nat_eq k k) (nat_eq r r) (in-itself k) (in-itself r)
column-itself (WriteVia k r) = and_from (nat_eq k k) (nat_eq r r) (in-itself k) (in-itself r)
