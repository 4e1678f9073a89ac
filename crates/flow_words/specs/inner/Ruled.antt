-- What the rules let stand.
use Rattle.nv_base.specs.declared.term.Primitive.{Primitive}
use Rattle.flow_words.specs.declared.walk.Rules.{Rules}
use Rattle.flow_words.specs.declared.walk.Rules.TheVariants.{Sums, Slices}
use Rattle.flow_words.specs.Bits.{IsNeeded}
use Rattle.flow_words.specs.Sums.{IsFolded}
use Rattle.flow_words.specs.Tables.{Table}

abbrev pub rule : Rules → Table → Primitive → Type 0
rule Sums = IsFolded
rule (Slices uses) = IsNeeded
