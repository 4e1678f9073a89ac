-- Labels that simplification leaves as they are.
use Rattle.std.specs.Prelude.{◌≡◌, ℕ, true, false}
use Rattle.nv_base.specs.declared.term.Primitive.{Primitive}
use Rattle.nv_base.specs.Sets.{is_in}
use Rattle.flow_ir.specs.Tree.{Tree, Label}
use Rattle.flow_ir.specs.Wide.{uses}
use Rattle.cps_rules.specs.Simplified.{EachLet, is_same}
use Rattle.nova_middle.specs.Rules.{is_answered}

-- no rule answers the primitive of a `Let`, it isn't just another operand, and the variable is used
abbrev pub IsLeft : ℕ → Primitive → Tree → Type 0
IsLeft x p rest = (is_answered p ≡ false) × (is_same p ≡ false) × (is_in x (uses rest) ≡ true)

abbrev pub IsSimple : Label → Type 0
IsSimple l = EachLet IsLeft l.body
