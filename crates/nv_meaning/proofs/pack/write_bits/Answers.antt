use Rattle.std.proofs.Common.{◌∙◌, ◌+◌, ◌-◌, ◌/◌, ◌%◌, ◌++◌, ap, sym, take, drop, length, length-drop, append-nil, arith}
use Rattle.std.proofs.lemmas.List.{take_all, drop_all}
use Rattle.nv_ast.specs.Bits.{bits, packed, replaced}
use Rattle.nv_layout.proofs.BitLists.{length-bits, length-packed}
use Rattle.nv_meaning.proofs.Packed.{replaced-nothing}
use Rattle.nv_meaning.proofs.Writing.{no-bits, bits-written, part-written}
use Rattle.nv_meaning.proofs.pack.write_bits.Goals as goal

pub returns-then-n-eq0-clause-words : goal.returns-then-n-eq0-clause-words
returns-then-n-eq0-clause-words c = sym (ap (λ l. replaced c.args.at l (packed c.args.words.now)) (no-bits c.args.n c.args.w c.if-n-eq0.true) ∙ replaced-nothing c.args.at (packed c.args.words.now))

pub returns-then-n-eq0-clause-behind : goal.returns-then-n-eq0-clause-behind
returns-then-n-eq0-clause-behind c = omega (arith, length-bits c.args.n c.args.w)

pub returns-clause-words : goal.returns-clause-words
returns-clause-words c =
    let ws = c.args.words.now in
    let b = c.min-bits.result in
    let place = c.args.at + c.args.n - b in
    let q = place / 32 in
    let long = length-drop q ws in
    let all = length-packed ws in
    let rest = take_all (length ws - q) (drop q ws) (omega arith) in
    let whole = ap (λ l. take q ws ++ l) (ap (λ l. c.insert.new.words ++ l) (drop_all (length ws - q) (drop q ws) (omega arith)) ∙ append-nil c.insert.new.words) in
    bits-written c.args.n c.args.w c.args.at (packed ws) _ c.ranges.w.fits (omega (arith, c.requires.inside)) c.requires.blank
    (part-written ws c.insert.new.words _ place b c.args.w (omega (arith, c.requires.inside)) (omega (arith, c.requires.inside)) (c.insert.ensures ∙ ap (λ l. replaced (place % 32) (bits b c.args.w) (packed l)) rest) whole
    ∙ ap (λ k. replaced (c.args.at + c.args.n - k) (bits k c.args.w) (packed ws)) c.min-bits.ensures)

pub returns-clause-behind : goal.returns-clause-behind
returns-clause-behind c = omega (arith, length-bits c.args.n c.args.w)
