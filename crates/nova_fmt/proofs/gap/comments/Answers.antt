use Rattle.std.proofs.Common.{◌++◌, ap, ◌∙◌}
use Rattle.nova_fmt.specs.Gaps.{behind}
use Rattle.nova_fmt.proofs.Writing.{comments_more}
use Rattle.nova_fmt.proofs.gap.comments.Goals as goal

pub returns-in_ok-more_lines-in-Some-clause-out : goal.returns-in_ok-more_lines-in-Some-clause-out
returns-in_ok-more_lines-in-Some-clause-out c =
    comments_more c.args.last c.args.level c.args.gap.now c.in-Some.first.now c.in-Some.more.now c.args.out.now.items c.behind.new.out.items c.more_lines.new.out.items c.in-Some.ensures.split c.in-Some.ensures.first (c.in_ok-behind-in-Some.ensures ∙ ap (λ t. c.args.out.now.items ++ behind c.args.last t) c.trimmed.ensures) c.in_ok-more_lines-in-Some.ensures
