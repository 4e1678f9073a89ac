use Rattle.ucode_emit.proofs.Agreeing.{code_agrees}
use Rattle.ucode_emit.proofs.LawfulCode.{code_lawful}
use Rattle.ucode_emit.proofs.Layer.{ready_layer}
use Rattle.ucode_emit.proofs.laws.code_agrees_with_its_form.Goals as goal

pub returns-clause-agrees : goal.returns-clause-agrees
returns-clause-agrees c = code_agrees

pub returns-clause-lawful : goal.returns-clause-lawful
returns-clause-lawful c = λ labels p mss h s. code_lawful labels p mss h (ready_layer labels p h) s
