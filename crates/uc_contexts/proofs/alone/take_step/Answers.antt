use Rattle.std.proofs.Common.{◌≡◌, length, ap, sym, ◌∙◌}
use Rattle.nv_base.specs.Memories.{first_word, words_at}
use Rattle.uc_contexts.proofs.Footing.{step-size}
use Rattle.uc_contexts.proofs.alone.take_step.Goals as goal

pub returns-in-Wrote-clause-fit : goal.returns-in-Wrote-clause-fit
returns-in-Wrote-clause-fit c = λ m.
    let same : length (words_at m c.step.new.p) ≡ length (words_at m c.args.p.now) = ap (λ z. length (words_at m z)) c.step.ensures.packet ∙ step-size m c.args.c.now.list c.args.e.now c.args.p.now in
    (same ∙ (c.requires.fit m).0, same ∙ (c.requires.fit m).1 ∙ ap (first_word m) (sym (c.touch-in-Wrote.ensures.sizes m)))
