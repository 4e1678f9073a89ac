use Rattle.std.proofs.Common.{◌≡◌, ◌∙◌, ◌-◌, ◌*◌, ◌/◌, ◌%◌, ◌≤◌, ◌⊎◌, ap, length, length-drop, drop, min, arith}
use Rattle.std.proofs.lemmas.List.{take_all}
use Rattle.nv_ast.specs.Bits.{number, packed, slice}
use Rattle.nv_meaning.proofs.Packed.{none-there, field-there}
use Rattle.nv_meaning.proofs.unpack.number_at.Goals as goal

pub returns-then-at-inside : goal.returns-then-at-inside
returns-then-at-inside c =
    let h : (32 * length c.args.words.now ≤ c.args.at) ⊎ (c.args.n ≡ 0) = grind arith in
    none-there c.args.words.now c.args.at c.args.n h

pub returns : goal.returns
returns c =
    let ws = c.args.words.now in
    let long = length-drop (c.args.at / 32) ws in
    let rest = take_all (length ws - c.args.at / 32) (drop (c.args.at / 32) ws) (omega arith) in
    c.extract.ensures ∙ ap (λ l. number (slice (c.args.at % 32) c.min-bits.result (packed l))) rest
    ∙ ap number (field-there ws c.args.at (min c.args.n 32) c.min-bits.result (omega arith) (omega arith))
