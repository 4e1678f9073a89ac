use Rattle.std.proofs.Common.{◌≡◌, true, take}
use Rattle.std.specs.List.{list_all}
use Rattle.flow_words.specs.Tables as tables
use Rattle.flow_words.proofs.state.are_old.Given as goal

abbrev pub invariant-loop-a : goal.invariant-loop-a
invariant-loop-a l = list_all (tables.is_old l.base) (take l.a-index l.atoms) ≡ true
