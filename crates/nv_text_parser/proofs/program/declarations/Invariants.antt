use Rattle.std.proofs.Common.{◌≤◌, ◌+◌, ◌*◌, length}
use Rattle.std.specs.Prelude.{map}
use Rattle.nv_ast.specs.Height.{highest_decl}
use Rattle.nv_ast.specs.ProgramView.{decl_tree}
use Rattle.nv_ast.specs.Exceptions.{exceptions}
use Rattle.nv_ast.specs.Grammar.{IsDecls}
use Rattle.nv_text_parser.specs.inner.Failing.{ReadMany}
use Rattle.nv_text_parser.specs.inner.Follow.{Above}
use Rattle.nv_text_parser.specs.inner.Phrases.{ADecl}
use Rattle.nv_text_parser.proofs.program.declarations.Given as goal

abbrev pub invariant-loop-rest : goal.invariant-loop-rest
invariant-loop-rest l = record {
  read : IsDecls (map decl_tree l.found.items) l.fn.tokens l.rest;
  items : ReadMany ADecl (Above 0) 100 l.fn.tokens l.rest;
  low : highest_decl (map decl_tree l.found.items) ≤ 100;
  few : 5 * exceptions l.found.items + length l.rest ≤ length l.fn.tokens;
}

abbrev pub decreases-loop-rest : goal.decreases-loop-rest
decreases-loop-rest l = length l.rest
