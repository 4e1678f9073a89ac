use Rattle.std.proofs.Common.{sym, subst, arith}
use Rattle.std.proofs.lemmas.List.{length-take-le}
use Rattle.nv_memtext.specs.Spelling.{SpellWords}
use Rattle.nv_memtext.proofs.WordLemmas.{reads_all}
use Rattle.nv_memtext.proofs.words.words_of.Goals as goal

pub returns-clause-some : goal.returns-clause-some
returns-clause-some c =
    let words = reads_all _ _ _ _ c.loop-part.invariant.1 c.in_default.ensures.0 in
    let short = length-take-le c.loop-part.count c.loop-part.words (omega (arith, c.loop-part.invariant.1.room)) in
    (subst (SpellWords c.args.parts) (sym c.of.ensures) words, rw c.of.ensures (omega (arith, short)))
