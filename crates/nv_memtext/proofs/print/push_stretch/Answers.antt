use Rattle.std.proofs.Common.{◌++◌, ap, ◌∙◌}
use Rattle.nv_memtext.proofs.PrintLemmas.{join5, stretch_pieces}
use Rattle.nv_memtext.proofs.print.push_stretch.Goals as goal

pub returns : goal.returns
returns c =
    join5 c.args.out.now.items c.extend_from_slice.new.self.items c.push.new.self.items c.push_decimal.new.out.items c.push_words.new.out.items c.push-2.new.self.items _ _ _ _ _
    (c.in_ok-extend_from_slice.ensures.items ∙ ap (λ t. c.args.out.now.items ++ t) c.name.ensures) c.in_ok-push.ensures.items c.in_ok-push_decimal.ensures.ok c.in_ok-push_words.ensures c.in_ok-push-2.ensures.items
    ∙ ap (λ t. c.args.out.now.items ++ t) (stretch_pieces c.args.mem c.args.at c.args.words.now)
