use Rattle.std.proofs.Common.{◌≡◌}
use Rattle.nova_texts.proofs.Added.{added}
use Rattle.nova_texts.proofs.format.keep.Goals as goal

pub returns-then-ne : goal.returns-then-ne
returns-then-ne c = λ held h f all.
    added held c.args.savings.now.items c.add_saving.new.savings.items c.args.name.now c.args.text.now c.args.out.items (c.add_saving.new.answer ≡ c.args.answer.now) c.add_saving.ensures h f all
