-- A tree whose choices that are decided are made.
use Rattle.std.specs.Prelude.{Bool, true, false, Option, Some, None, List, [], ◌++◌}
use Rattle.nv_base.specs.Words.{negated}
use Rattle.flow_ir.specs.Tree.{Tree, Let, Read, Write, If, Jump, Halt, Label}
use Rattle.flow_paths.specs.Decided.{decided, told, accessed, defined}
use Rattle.flow_paths.specs.declared.facts.Fact.{Fact}

-- one of two trees, or a choice between two others
abbrev pub chosen : Option Bool → Tree → Tree → Tree → Tree
chosen (Some true) t u v = t
chosen (Some false) t u v = u
chosen None t u v = v

abbrev pub walked : List Fact → Tree → Tree
walked above (Let x p t) = Let x p (walked (above ++ defined above x p) t)
walked above (Read m xs a t) = Read m xs a (walked (above ++ accessed a) t)
walked above (Write m a bs t) = Write m a bs (walked (above ++ accessed a) t)
walked above (If c a b t u) = chosen (decided above c a b) (walked above t) (walked above u) (If c a b (walked (above ++ told above c a b) t) (walked (above ++ told above (negated c) a b) u))
walked above (Jump l bs) = Jump l bs
walked above (Halt e bs) = Halt e bs

abbrev pub label_walked : Label → Label
label_walked l = record { params = l.params; body = walked [] l.body }
