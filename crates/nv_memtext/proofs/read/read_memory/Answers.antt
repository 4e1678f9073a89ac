use Rattle.nv_memtext.proofs.ExactLemmas.{given_answer, bad_answer, large_answer}
use Rattle.nv_memtext.proofs.read.read_memory.Goals as goal

pub returns-clause-given : goal.returns-clause-given
returns-clause-given c = given_answer c.args.params c.args.bytes.now c.read_text.result c.read_text.ensures.gives c.read_text.ensures.refuses

pub returns-clause-bad : goal.returns-clause-bad
returns-clause-bad c = bad_answer c.args.params c.args.bytes.now c.read_text.result c.read_text.ensures.gives c.read_text.ensures.refuses

pub returns-clause-too_large : goal.returns-clause-too_large
returns-clause-too_large c = large_answer c.args.params c.args.bytes.now c.read_text.result c.read_text.ensures.gives c.read_text.ensures.refuses
