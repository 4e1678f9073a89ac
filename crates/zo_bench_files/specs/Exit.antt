-- The exit codes of the program that don't say that it is done.
use Rattle.std.specs.Prelude.{ℕ}
use Rattle.zo_bench_files.specs.declared.solved.Failure.{Failure}
use Rattle.zo_bench_files.specs.declared.solved.Failure.TheVariants.{Words, Read, Write, Memory, Text}

abbrev pub exit_code : Failure → ℕ
exit_code Words = 2
exit_code Read = 3
exit_code Write = 4
exit_code Memory = 5
exit_code Text = 6
