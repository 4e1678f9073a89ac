use Rattle.std.proofs.Common.{◌++◌, length, take, ap, ◌∙◌, arith}
use Rattle.std.proofs.lemmas.List.{length-take}
use Rattle.nv_lines.specs.Line.{text_of}
use Rattle.nv_base.specs.declared.term.Mem.TheVariants.{Sram, Sdram, Scratch}
use Rattle.nv_memtext.specs.OutcomeText.{sizes_line, memory_lines}
use Rattle.nv_memtext.proofs.PrintLemmas.{packet_pieces}
use Rattle.nv_memtext.proofs.print.push_packet.Goals as goal

pub push_memory-requires-3 : goal.push_memory-requires-3
push_memory-requires-3 c =
    omega (arith, ap length c.front.ensures, length-take 512 c.words-3.result.now, ap length c.words-3.ensures.words, c.words-3.ensures.sizes.scratch.0)

pub returns : goal.returns
returns c =
    packet_pieces c.args.out.now.items (sizes_line c.args.p.now)
    (memory_lines Sram c.args.p.now.sram) (memory_lines Sdram c.args.p.now.sdram) (memory_lines Scratch (take 512 c.args.p.now.scratch))
    c.push_sizes.new.out.items c.push_memory.new.out.items c.push_memory-2.new.out.items c.push_memory-3.new.out.items
    c.in_ok-push_sizes.ensures
    (c.in_ok-push_memory.ensures ∙ ap (λ t. c.push_sizes.new.out.items ++ text_of (memory_lines Sram t)) c.words.ensures.words)
    (c.in_ok-push_memory-2.ensures ∙ ap (λ t. c.push_memory.new.out.items ++ text_of (memory_lines Sdram t)) c.words-2.ensures.words)
    (c.in_ok-push_memory-3.ensures ∙ ap (λ t. c.push_memory-2.new.out.items ++ text_of (memory_lines Scratch t)) (c.front.ensures ∙ ap (take 512) c.words-3.ensures.words))
