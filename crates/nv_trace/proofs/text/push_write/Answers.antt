use Rattle.std.proofs.Common.{ap, ◌∙◌, ◌++◌, ◌∷◌, List, ℕ, decimal}
use Rattle.std.specs.List.{flat_map}
use Rattle.nv_lines.specs.Number.{hex_word}
use Rattle.nv_memtext.proofs.PrintLemmas.{join5}
use Rattle.nv_trace.proofs.Texts.{write-pieces}
use Rattle.nv_trace.proofs.text.push_write.Goals as goal

pub returns : goal.returns
returns c =
    join5 c.args.text.now.items c.extend_from_slice.new.self.items c.extend_from_slice-2.new.self.items c.push.new.self.items c.push_decimal.new.out.items c.push_words.new.out.items _ _ _ _ _
    c.in_ok-extend_from_slice.ensures.items
    (c.in_ok-extend_from_slice-2.ensures.items ∙ ap (λ (t : List ℕ). c.extend_from_slice.new.self.items ++ t) c.name.ensures)
    c.in_ok-push.ensures.items
    (c.in_ok-push_decimal.ensures.ok ∙ ap (λ (n : ℕ). c.push.new.self.items ++ decimal n) c.from.ensures)
    (c.in_ok-push_words.ensures ∙ ap (λ (ws : List ℕ). c.push_decimal.new.out.items ++ flat_map (λ w. 32 ∷ hex_word w) ws) c.list.ensures.words)
    ∙ ap (λ (t : List ℕ). c.args.text.now.items ++ t) (write-pieces c.args.write.now.mem c.args.write.now.at c.args.write.now.words)
