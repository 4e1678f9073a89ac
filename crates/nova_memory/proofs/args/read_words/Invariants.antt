use Rattle.std.proofs.Common.{◌≡◌, ◌≤◌, length}
use Rattle.nova_memory.proofs.args.read_words.Given as goal

abbrev pub invariant-loop-token : goal.invariant-loop-token
invariant-loop-token l = record {
  number : length l.args.items ≡ l.token-index;
  few : length l.args.items ≤ 8;
}
