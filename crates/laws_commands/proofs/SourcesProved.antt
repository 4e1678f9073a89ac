-- A text decides its program and why it is refused.
use Rattle.std.proofs.Common.{refl, [], arith}
use Rattle.nv_ast.specs.Grammar.{no_decl}
use Rattle.nv_ast.specs.Laws.{span}
use Rattle.nv_ast.proofs.Worked.{empty_program}
use Rattle.nv_text.specs.Tokens.{stop}
use Rattle.nova_compile.specs.Sources.{IsUntyped}
use Rattle.nova_compile.proofs.OneSource.{source-program, cause-none, cause-one}
use Rattle.novac_commands.proofs.OneSource.{source-good, source-one}
use Rattle.laws_commands.specs.Sources.{NamesByLines, OneProgram}

no_text : IsUntyped [] 1 (span 0 0)
no_text = record {
  program = record { decls = []; length = 0 };
  is_source = record { reads = record { tokens = []; read = stop; program = record { long = refl; spelled = no_decl } }; low = omega arith };
  fault = empty_program;
}

pub one_program : OneProgram
one_program = record {
  program = source-program;
  cause = cause-one;
  typed = λ text p e typed h. cause-none text e p typed h;
  refused = source-one;
  accepted = λ text e typed h. source-good text e typed.0 typed.1 h;
  empty = no_text;
}

pub names_by_lines : NamesByLines
names_by_lines = refl
