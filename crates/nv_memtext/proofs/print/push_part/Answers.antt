use Rattle.std.proofs.lemmas.Result.{on_ok_weaker}
use Rattle.nv_memtext.proofs.PrintLemmas.{blank_part, filled_part, part_is}
use Rattle.nv_memtext.proofs.print.push_part.Goals as goal

pub returns-then-is_blank : goal.returns-then-is_blank
returns-then-is_blank c = blank_part c.args.mem c.args.words.now c.args.k _ c.args.out.now.items (part_is c.args.words.now c.args.k c.front-part.result.now c.front-part.ensures) c.if-is_blank.ensures

pub returns : goal.returns
returns c = on_ok_weaker c.push_stretch.result (filled_part c.args.mem c.args.words.now c.args.k _ _ c.args.out.now.items c.push_stretch.new.out.items (part_is c.args.words.now c.args.k c.front-part.result.now c.front-part.ensures) c.start.ensures c.if-is_blank.ensures) c.push_stretch.ensures
