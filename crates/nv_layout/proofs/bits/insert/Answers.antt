use Rattle.std.proofs.Common.{◌≡◌, ℕ, ◌+◌, ◌-◌, ◌/◌, ◌%◌, ◌^◌, ap, ◌∙◌, arith, set, length, length-set}
use Rattle.std.proofs.lemmas.Nat.{and_mask}
use Rattle.nv_ast.specs.Bits.{packed}
use Rattle.nv_layout.proofs.BitLists.{written-two, written-one, put}
use Rattle.nv_layout.proofs.bits.insert.Goals as goal

pub returns-then-at-words : goal.returns-then-at-words
returns-then-at-words c =
    let f = c.args.f in
    let ws = c.args.words.now in
    let q : ℕ = f.first / 32 in
    let y : ℕ = c.with_bits-new.result in
    let r : ℕ = 64 - f.first % 32 - f.bits in
    let is : y ≡ put c.window-both.result r f.bits c.args.v = c.with_bits-new.ensures in
    ap (λ k. packed (set (set ws q (y / 2 ^ 32)) (q + 1) k)) (and_mask y 32)
    ∙ written-two ws f.first f.bits c.args.v y c.window-both.ensures.fits c.requires.some c.requires.word c.requires.inside (let l : length (set ws (f.first / 32) (y / 2 ^ 32)) ≡ length ws = length-set ws (f.first / 32) (y / 2 ^ 32) in omega arith) (is ∙ ap (λ x. put x r f.bits c.args.v) c.window-both.ensures.value)

pub returns-else-at-words : goal.returns-else-at-words
returns-else-at-words c =
    let f = c.args.f in
    let ws = c.args.words.now in
    let y : ℕ = c.with_bits-new.result in
    let r : ℕ = 64 - f.first % 32 - f.bits in
    let is : y ≡ put c.window-both.result r f.bits c.args.v = c.with_bits-new.ensures in
    written-one ws f.first f.bits c.args.v y c.requires.some c.requires.word c.requires.inside (let l : length (set ws (f.first / 32) (y / 2 ^ 32)) ≡ length ws = length-set ws (f.first / 32) (y / 2 ^ 32) in omega arith) (is ∙ ap (λ x. put x r f.bits c.args.v) c.window-both.ensures.value)
