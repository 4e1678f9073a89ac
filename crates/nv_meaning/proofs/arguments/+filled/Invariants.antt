use Rattle.std.proofs.Common.{take}
use Rattle.std.below.core.specs.declared.int.usize.TheConstants.{MAX}
use Rattle.nv_meaning.proofs.Parameters.{Filled, FilledFields}
use Rattle.nv_meaning.proofs.arguments.+filled.Given as goal

abbrev pub invariant-filled_all-loop-v : goal.invariant-filled_all-loop-v
invariant-filled_all-loop-v l = Filled l.first MAX l.at l.words l.done.items (take l.v-index l.vs)

abbrev pub invariant-filled_fields-loop-field : goal.invariant-filled_fields-loop-field
invariant-filled_fields-loop-field l = FilledFields l.first MAX l.at l.words l.done.items (take l.field-index l.fields)
