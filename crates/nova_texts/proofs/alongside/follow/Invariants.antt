use Rattle.std.proofs.Common.{◌<◌, length}
use Rattle.nova_texts.proofs.alongside.follow.Given as goal

abbrev pub invariant-loop : goal.invariant-loop
invariant-loop l = l.engine.place < length l.code.list
