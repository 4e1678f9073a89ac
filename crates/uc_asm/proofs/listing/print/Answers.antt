use Rattle.std.proofs.Common.{◌≡◌, ◌+◌, [], ◌∷◌, ◌++◌, map, drop, ap, sym, ◌∙◌, append_assoc, arith}
use Rattle.std.proofs.lemmas.Grind.{common_steps}
use Rattle.nv_lines.specs.Line.{text_of}
use Rattle.uc_asm.specs.Items.{instruction_line}
use Rattle.uc_asm.proofs.ListingLemmas.{fit-more, printed-text}
use Rattle.uc_asm.proofs.listing.print.Goals as goal

pub loop-i-preserved : goal.loop-i-preserved
loop-i-preserved c =
    let list = c.list-list.result.now in
    let next : drop c.loop-i.i-index list ≡ c.i-item.result ∷ drop (c.loop-i.i-index + 1) list = grind (arith, common_steps) in
    let line = instruction_line c.i-item.result ++ 10 ∷ [] in
    let rest = text_of (map instruction_line (drop (c.loop-i.i-index + 1) list)) in (
      ap (λ x. x ++ rest) c.in_ok-push_instruction.ensures.line ∙ append_assoc c.loop-i.out.items line rest
          ∙ ap (λ is. c.loop-i.out.items ++ text_of (map instruction_line is)) (sym next) ∙ c.loop-i.invariant.0,
      fit-more c.loop-i.i-index list c.i-item.result (omega arith) c.i-item.is c.push_instruction.ensures.fits c.loop-i.invariant.1,
    )

pub returns-clause-text : goal.returns-clause-text
returns-clause-text c =
    printed-text c.loop-i.out.items c.args.code.now c.list-list.result.now c.loop-i.i-index c.list-list.ensures.list c.loop-i-test.false c.loop-i.invariant.0 c.list-list.ensures.code c.loop-i.invariant.1
