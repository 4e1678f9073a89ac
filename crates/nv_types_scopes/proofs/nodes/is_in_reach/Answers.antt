use Rattle.nv_types_scopes.proofs.WalkReach.{reach_number, reach_other, reach_elsewhere}
use Rattle.nv_ast.specs.ExprView.{tree_of}
use Rattle.nv_types_scopes.proofs.nodes.is_in_reach.Goals as goal

pub returns-in-Number : goal.returns-in-Number
returns-in-Number c = reach_number c.args.mem c.args.address.now c.in-Number.at c.args.n c.saturating_add.result c.in-Scratch.is c.in-Number.is c.saturating_add.ensures

pub returns-in_default-kind : goal.returns-in_default-kind
returns-in_default-kind c = reach_other c.args.mem c.args.address.now c.args.n c.in-Scratch.is c.in_default-kind.not-Number

pub returns-in_default : goal.returns-in_default
returns-in_default c = reach_elsewhere c.args.mem (tree_of c.args.address.now) c.args.n c.in_default.not-Scratch
