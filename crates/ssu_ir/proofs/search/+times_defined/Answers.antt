use Rattle.std.proofs.Common.{◌∙◌, sym, ap, min, arith}
use Rattle.ssu_ir.proofs.Unders.{present_tree, one_kid, two_kids}
use Rattle.ssu_ir.proofs.Searches.{times_none, times_one, times_two, added}
use Rattle.ssu_ir.proofs.search.+times_defined.Goals as goal

pub node-n-requires : goal.node-n-requires
node-n-requires t c = present_tree _ _ c.requires

pub times_defined-below-requires : goal.times_defined-below-requires
times_defined-below-requires t c = let o = one_kid _ _ _ _ c.requires c.node-n.ensures c.in-One.ensures in (omega (arith, c.decreases, o.kid.lighter), o.kid.has)

pub times_defined-first-requires : goal.times_defined-first-requires
times_defined-first-requires t c = let o = two_kids _ _ _ _ _ c.requires c.node-n.ensures c.in-Two.ensures in (omega (arith, c.decreases, o.first.lighter), o.first.has)

pub times_defined-second-requires : goal.times_defined-second-requires
times_defined-second-requires t c = let o = two_kids _ _ _ _ _ c.requires c.node-n.ensures c.in-Two.ensures in (omega (arith, c.decreases, o.second.lighter), o.second.has)

pub returns-in-None : goal.returns-in-None
returns-in-None t c = c.times_here-here.ensures ∙ ap (min 255) (sym (times_none _ _ _ _ c.requires c.node-n.ensures c.in-None.ensures))

pub returns-in-One : goal.returns-in-One
returns-in-One t c =
    added _ _ _ _ _ c.times_here-here.ensures c.times_defined-below.ensures c.saturating_add.ensures
    ∙ ap (min 255) (sym (times_one _ _ _ _ _ c.requires c.node-n.ensures c.in-One.ensures))

pub returns-in-Two : goal.returns-in-Two
returns-in-Two t c =
    added _ _ _ _ _ c.times_here-here.ensures (added _ _ _ _ _ c.times_defined-first.ensures c.times_defined-second.ensures c.saturating_add-below.ensures) c.saturating_add-in-Two.ensures
    ∙ ap (min 255) (sym (times_two _ _ _ _ _ _ c.requires c.node-n.ensures c.in-Two.ensures))
