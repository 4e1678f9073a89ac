-- The line feeds before a place: those before another one, and those between the two.
use Rattle.std.proofs.Common.{◌≡◌, ℕ, ◌+◌, ◌-◌, ◌≤◌, List, ap, ◌∙◌, arith}
use Rattle.std.specs.Prelude.{◌==◌, cond, take, drop, count_by}
use Rattle.std.proofs.Math.Seq.{take-add}
use Rattle.std.proofs.lemmas.List.Sums.{sum_by-append}
use Rattle.nv_lines.specs.LineColumn.{line_at}

abbrev feeds : List ℕ → ℕ
feeds text = count_by (λ byte. byte == 10) text

pub line-between : (text : List ℕ) (from at line counted : ℕ) → from ≤ at → line ≡ line_at text from → counted ≡ feeds (take (at - from) (drop from text)) → line + counted ≡ line_at text at
line-between text from at line counted h is count =
    let whole : at ≡ from + (at - from) = omega arith in
    let split : feeds (take at text) ≡ feeds (take from text) + feeds (take (at - from) (drop from text)) =
    ap (λ n. feeds (take n text)) whole ∙ ap feeds (take-add from (at - from) text) ∙ sum_by-append (λ byte. cond (byte == 10) 1 0) (take from text) (take (at - from) (drop from text)) in
    omega (arith, split, is, count)
