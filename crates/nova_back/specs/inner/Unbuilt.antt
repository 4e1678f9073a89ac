-- How a form without a program of the banks is refused.
use Rattle.bank_prog.specs.declared.error.BankError.{BankError}
use Rattle.bank_prog.specs.declared.error.BankError.TheVariants as bank
use Rattle.nova_back.specs.declared.error.BackError.{BackError}
use Rattle.nova_back.specs.declared.error.BackError.TheVariants as back

abbrev pub of_bank : BankError → BackError
of_bank bank.NoMemory = back.NoMemory
of_bank (bank.TooLarge n) = back.TooLarge n
