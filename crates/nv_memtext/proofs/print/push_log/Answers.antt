use Rattle.std.proofs.Common.{◌++◌, ◌∷◌, [], map, take, ap, ◌∙◌, codes, decimal}
use Rattle.std.proofs.lemmas.Result.{on_ok_weaker}
use Rattle.nv_lines.specs.Line.{text_of, parted}
use Rattle.nv_memtext.specs.OutcomeText.{write_line}
use Rattle.nv_memtext.proofs.PrintLemmas.{log_pieces}
use Rattle.nv_memtext.proofs.print.push_log.Goals as goal

pub returns : goal.returns
returns c =
    on_ok_weaker c.push_writes.result
    (λ k. log_pieces c.args.out.now.items (parted (codes "writes" ∷ decimal c.args.log.now.count ∷ [])) (map write_line (take 64 c.args.log.now.kept)) c.push_counted.new.out.items c.push_writes.new.out.items
    (c.in_ok-push_counted.ensures ∙ ap (λ n. c.args.out.now.items ++ (codes "writes " ++ (decimal n ++ 10 ∷ []))) c.count.ensures)
    (k ∙ ap (λ t. c.push_counted.new.out.items ++ text_of (map write_line t)) (c.front.ensures ∙ ap (take 64) c.kept.ensures.kept)))
    c.push_writes.ensures
