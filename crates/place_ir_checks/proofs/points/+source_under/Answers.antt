use Rattle.std.proofs.Common.{◌∙◌, arith}
use Rattle.ssu_ir.proofs.Unders.{one_kid, two_kids}
use Rattle.place_ir_checks.proofs.Walked.{none-of, source-one, source-first, source-second}
use Rattle.place_ir_checks.proofs.points.+source_under.Goals as goal

pub source_under-requires : goal.source_under-requires
source_under-requires t c = let o = one_kid _ _ _ _ c.requires c.node-n.ensures c.in-One.ensures in (omega (arith, c.decreases, o.kid.lighter), o.kid.has)

pub source_under-requires-in-Two : goal.source_under-requires-in-Two
source_under-requires-in-Two t c = let o = two_kids _ _ _ _ _ c.requires c.node-n.ensures c.in-Two.ensures in (omega (arith, c.decreases, o.first.lighter), o.first.has)

pub source_under-requires-in-None-source_under : goal.source_under-requires-in-None-source_under
source_under-requires-in-None-source_under t c = let o = two_kids _ _ _ _ _ c.requires c.node-n.ensures c.in-Two.ensures in (omega (arith, c.decreases, o.second.lighter), o.second.has)

pub returns-in-One : goal.returns-in-One
returns-in-One t c =
    c.source_under.ensures
    ∙ source-one _ _ _ _ _ (one_kid _ _ _ _ c.requires c.node-n.ensures c.in-One.ensures) (none-of _ _ c.source_at.ensures c.in_default.not-Some)

pub returns-in-Some-source_under : goal.returns-in-Some-source_under
returns-in-Some-source_under t c = source-first _ _ _ _ _ _ _ (two_kids _ _ _ _ _ c.requires c.node-n.ensures c.in-Two.ensures) c.in-Some-source_under.ensures

pub returns-in-None-source_under : goal.returns-in-None-source_under
returns-in-None-source_under t c = c.source_under-in-None-source_under.ensures ∙ source-second _ _ _ _ _ _ (two_kids _ _ _ _ _ c.requires c.node-n.ensures c.in-Two.ensures) c.in-None-source_under.ensures
