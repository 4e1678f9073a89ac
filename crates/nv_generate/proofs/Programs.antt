-- The program of a made source.
use Rattle.std.proofs.Common.{suc, length, arith}
use Rattle.nv_generate.specs.Laws.{EachHasProgram}
use Rattle.nv_generate.specs.Made.{lines_from, made}
use Rattle.nv_generate.specs.inner.Program.{made_program}
use Rattle.nv_generate.proofs.Drawn.{lines-drawn, lines-near, lines-number}
use Rattle.nv_generate.proofs.Heights.{low, short}
use Rattle.nv_generate.proofs.Reading.{text-of}
use Rattle.nv_generate.proofs.Room.{narrow}
use Rattle.nv_generate.proofs.Runs.{one-word}
use Rattle.nv_generate.proofs.Typed.{typed, small, two_arguments}

pub each_has_program : EachHasProgram
each_has_program seed size some few =
    let lines = lines_from size 0 seed in
    let bytes = length (made seed size) in
    let n = lines-number size 0 seed in
    let drawn = lines-drawn size 0 seed in
    let run = one-word lines (suc size) bytes 1 2 in
    record {
      program = made_program seed size;
      word = run.word;
      short = short seed size few;
      reads = text-of seed size some few;
      low = low lines (suc size) bytes;
      accepted = record { typed = typed lines (suc size) bytes drawn (omega arith); small = small lines (suc size) bytes drawn (omega arith) (omega arith) };
      narrow = narrow lines (suc size) bytes drawn (lines-near size 0 seed) (omega arith) (omega arith) (omega arith);
      two = two_arguments lines (suc size) bytes;
      ends = run.ends;
    }
