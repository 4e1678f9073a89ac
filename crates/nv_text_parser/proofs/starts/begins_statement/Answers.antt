use Rattle.nv_text_parser.specs.inner.ExprPhrases.{starts_let, starts_store}
use Rattle.nv_text_parser.proofs.starts.begins_statement.Goals as goal

pub returns-in-Some : goal.returns-in-Some
returns-in-Some c = rw c.in-Some.ensures starts_let

pub returns : goal.returns
returns c = rw (c.in-Some-mem_here.ensures, c.in-Some-sign_here.ensures) (starts_store _)
