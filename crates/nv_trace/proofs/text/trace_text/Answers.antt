use Rattle.std.proofs.Common.{◌≡◌, ◌∙◌, ◌++◌, ◌∷◌, [], ap, sym, List, ℕ, length, map, min, take, arith}
use Rattle.std.specs.List.{flat_map}
use Rattle.nv_meaning_values.specs.Chains.{made_in}
use Rattle.nv_meaning_values.specs.declared.trace.Made as code
use Rattle.nv_trace.specs.TraceText.{made_line, shown, trace_text}
use Rattle.nv_trace.proofs.Texts.{whole-text}
use Rattle.nv_trace.proofs.text.trace_text.Goals as goal

pub returns : goal.returns
returns c =
    let chains = c.args.trace.now.chains in
    let lines : List code.Made → List ℕ = λ ms. flat_map (λ m. made_line c.args.source.now (made_in chains m) ++ 10 ∷ []) (take c.shown_count-count.result ms) in
    let most : c.min.result ≡ min c.args.most (length c.kept-made.result.now) = grind (arith, c.min.ensures) in
    whole-text c.args.source.now c.args.line chains c.kept-made.result.now c.args.most c.min.result c.shown_count-count.result c.push_lines.new.text.items c.extend_from_slice.new.self.items c.push_decimal.new.out.items c.push.new.self.items
    most c.shown_count-count.ensures.inside (c.shown_count-count.ensures.shown chains)
    (c.in_ok-push_lines.ensures ∙ ap (λ (ms : List code.Made). c.new-text.result.items ++ lines ms) (sym c.kept-made.ensures.kept) ∙ ap (λ (t : List ℕ). t ++ lines c.kept-made.result.now) c.new-text.ensures.items)
    c.in_ok-extend_from_slice.ensures.items
    c.in_ok-push_decimal.ensures.ok
    c.in_ok-push.ensures.items
    ∙ ap (λ (ms : List code.Made). trace_text c.args.source.now (shown c.args.source.now c.args.line (take c.args.most (map (made_in chains) ms)))) c.kept-made.ensures.kept
