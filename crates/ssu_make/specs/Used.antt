-- When a flow defines no variable in vain.
use Rattle.std.specs.Prelude.{Bool, true, ◌&&◌, List}
use Rattle.std.specs.List.{list_all}
use Rattle.nv_base.specs.Sets.{is_in}
use Rattle.flow_ir.specs.Tree.{Tree, Let, Read, Write, If, Jump, Halt, Label}
use Rattle.flow_ir.specs.Wide.{live}

-- each variable that a `Let` defines is used after it
abbrev pub lets_used : Tree → Bool
lets_used (Let x a t) = is_in x (live t) && lets_used t
lets_used (Read m xs a t) = lets_used t
lets_used (Write m a bs t) = lets_used t
lets_used (If c a b t u) = lets_used t && lets_used u
lets_used (Jump l bs) = true
lets_used (Halt e bs) = true

abbrev pub all_lets_used : List Label → Bool
all_lets_used labels = list_all (λ l. lets_used l.body) labels
