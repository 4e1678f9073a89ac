use Rattle.std.proofs.Common.{◌≡◌, take, map}
use Rattle.std.specs.Prelude.{vec_capacity}
use Rattle.ssu_ir.specs.inner.Running.{env_of}
use Rattle.ssu_ir.proofs.variables.collect.Given as goal

abbrev pub invariant-loop-x : goal.invariant-loop-x
invariant-loop-x l = record {
  words : l.words.items ≡ map (env_of l.values) (take l.x-index l.xs);
  room : vec_capacity l.words ≡ vec_capacity l.initial.words;
}
