use Rattle.std.proofs.Common.{ℕ, ◌-◌, ◌/◌, ◌%◌, ◌^◌, sym, ap, ◌∙◌, arith, bit_and}
use Rattle.std.proofs.lemmas.Nat.{and_mask}
use Rattle.nv_layout.proofs.BitLists.{window-number}
use Rattle.nv_layout.proofs.bits.extract.Goals as goal

pub returns : goal.returns
returns c =
    let f = c.args.f in
    let ws = c.args.words.now in
    let r : ℕ = 64 - f.first % 32 - f.bits in
    ap (λ k. bit_and (c.window-both.result / 2 ^ r) k) c.low_bits.ensures
    ∙ and_mask (c.window-both.result / 2 ^ r) f.bits
    ∙ ap (λ x. x / 2 ^ r % 2 ^ f.bits) c.window-both.ensures.value
    ∙ sym (window-number ws f.first f.bits (λ i. omega (arith, c.type_inv.words i)) c.requires.some c.requires.word c.requires.inside)
