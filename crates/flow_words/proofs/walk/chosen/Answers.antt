use Rattle.std.proofs.Common.{subst}
use Rattle.flow_words.specs.Bits.{AreSame, bits_of}
use Rattle.flow_words.specs.Tables.{look}
use Rattle.flow_words.proofs.Bitwise.{same_words, settled_word, then_word}
use Rattle.flow_words.proofs.walk.chosen.Goals as goal

pub returns-then-are_same-clause-word : goal.returns-then-are_same-clause-word
returns-then-are_same-clause-word c =
    λ count.
    let T = look c.args.table.now in
    let other = c.is_counted.ensures c.if-is_counted.true in
    let given = c.are_same.ensures c.if-are_same.true in
    let same = subst (λ l. AreSame l (bits_of T c.args.q)) c.bits_of-bits.ensures (subst (λ l. AreSame c.bits_of-bits.result l) c.bits_of-others.ensures given) in
    then_word T c.args.p c.args.q c.settled.result (same_words T c.args.p c.args.q count other same) (settled_word T c.args.q c.settled.result other c.settled.ensures.same)

pub returns-else-is_counted-clause-word : goal.returns-else-is_counted-clause-word
returns-else-is_counted-clause-word c = λ count. settled_word (look c.args.table.now) c.args.p c.settled-else-is_counted.result count c.settled-else-is_counted.ensures.same
