use Rattle.std.proofs.Common.{◌≤◌, ◌<◌, ◌-◌, ◌/◌, ◌%◌, ◌+◌, ◌∷◌, refl, ap, suc, add-one, length, get_or, set, arith}
use Rattle.std.proofs.lemmas.List.{get_or_default}
use Rattle.nv_base.specs.Words.{shifted_left, shifted_right}
use Rattle.nv_ast.specs.Bits.{bits}
use Rattle.nv_meaning.specs.Values.{word_of}
use Rattle.nv_flatten_values.specs.inner.Symbols.{Word}
use Rattle.nv_flatten_values.proofs.Computing.{makes-left}
use Rattle.nv_flatten_values.proofs.Writing.{writes-one, writes-two, writes-never, joined-makes}
use Rattle.nv_ast.specs.declared.tree.ShiftOp.TheVariants.{Left}
use Rattle.nv_flatten_values.proofs.WellBasics.{knows-rest}
use Rattle.nv_flatten_values.proofs.Lets.{adds-none, adds-shift}
use Rattle.nv_flatten_values.proofs.WordLets.{adds-joined, adds-into, adds-into-two}
use Rattle.nv_flatten_values.proofs.WordSteps.{word-shift}
use Rattle.nv_flatten_values.proofs.PackedSteps.{writes-none, writes-one as narrow-one, writes-two as narrow-two}
use Rattle.nv_flatten_values.proofs.pack.write_bits.Goals as goal
use Rattle.nv_flatten_values.proofs.pack.write_bits.Goals.{then-n-eq0-via-then-n-eq0, then-n-eq0-via-else-n-eq0+then-n-gt32}

pub returns-then-n-eq0-clause-writes : goal.returns-then-n-eq0-clause-writes
returns-then-n-eq0-clause-writes c =
    writes-never ((1 ≤ c.args.n) × (c.args.n ≤ 32)) c.args.next.now (Word c.args.word) c.args.steps.now.items c.args.words.now c.args.at (λ v. bits c.args.n (word_of v))
    (λ q. elim c.then-n-eq0.branch [
      | then-n-eq0-via-then-n-eq0 w ↦ omega arith
      | then-n-eq0-via-else-n-eq0+then-n-gt32 w ↦ omega arith
    ])

pub returns-in_ok-low-clause-writes : goal.returns-in_ok-low-clause-writes
returns-in_ok-low-clause-writes c =
    let q = c.args.at / 32 in
    let s = c.args.at % 32 in
    let inside : suc q < length c.args.words.now = omega (arith, c.requires.inside, c.if-first-n-gt32.true) in
    let here : q < length c.args.words.now = omega arith in
    writes-two ((1 ≤ c.args.n) × (c.args.n ≤ 32)) c.args.next.now c.joined.new.next c.shifted.new.next c.args.word c.in_ok-whole.whole c.in_ok-low.low c.args.steps.now.items c.joined.new.steps.items c.shifted.new.steps.items c.args.words.now
    (set (set c.args.words.now q c.in_ok-whole.whole) (q + 1) c.in_ok-low.low) c.args.at c.args.n q s refl refl c.if-n-gt32.false (omega (arith, c.if-first-n-gt32.true)) inside
    (joined-makes c.args.next.now c.between.new.next c.joined.new.next c.args.word _ c.in_ok-high.high c.in_ok-whole.whole c.args.words.now c.args.steps.now.items c.between.new.steps.items c.joined.new.steps.items q (λ ws. shifted_right s (shifted_left (32 - c.args.n) (get_or ws 0 0))) (get_or_default c.args.words.now q _ _ here) here c.in_ok-high.ensures.makes c.in_ok-whole.ensures.makes)
    (makes-left (64 - s - c.args.n) c.args.word c.in_ok-low.low c.joined.new.next c.shifted.new.next c.joined.new.steps.items c.shifted.new.steps.items (omega (arith, c.if-first-n-gt32.true)) c.in_ok-low.ensures.none c.in_ok-low.ensures.some)
    (ap (λ k. set (set c.args.words.now q c.in_ok-whole.whole) k c.in_ok-low.low) (add-one q))

pub returns-else-first-n-gt32-clause-writes : goal.returns-else-first-n-gt32-clause-writes
returns-else-first-n-gt32-clause-writes c =
    let q = c.args.at / 32 in
    let s = c.args.at % 32 in
    let here : q < length c.args.words.now = omega (arith, c.requires.inside, c.if-n-eq0.false) in
    writes-one ((1 ≤ c.args.n) × (c.args.n ≤ 32)) c.args.next.now c.joined.new.next c.args.word c.in_ok-whole.whole c.args.steps.now.items c.joined.new.steps.items c.args.words.now
    (set c.args.words.now q c.in_ok-whole.whole) c.args.at c.args.n q s refl refl (omega (arith, c.if-first-n-gt32.false)) here
    (joined-makes c.args.next.now c.between.new.next c.joined.new.next c.args.word _ c.in_ok-high.high c.in_ok-whole.whole c.args.words.now c.args.steps.now.items c.between.new.steps.items c.joined.new.steps.items q (λ ws. shifted_right s (shifted_left (32 - c.args.n) (get_or ws 0 0))) (get_or_default c.args.words.now q _ _ here) here c.in_ok-high.ensures.makes c.in_ok-whole.ensures.makes)
    refl

pub returns-then-n-eq0-clause-well : goal.returns-then-n-eq0-clause-well
returns-then-n-eq0-clause-well c = adds-none c.args.next.now (c.args.word ∷ c.args.words.now) c.args.words.now c.args.steps.now.items (λ known k. knows-rest known c.args.word c.args.words.now k)

pub returns-in_ok-low-clause-well : goal.returns-in_ok-low-clause-well
returns-in_ok-low-clause-well c =
    let q = c.args.at / 32 in
    let s = c.args.at % 32 in
    let inside : suc q < length c.args.words.now = omega (arith, c.requires.inside, c.if-first-n-gt32.true) in
    let here : q < length c.args.words.now = omega arith in
    adds-into-two c.args.next.now c.joined.new.next c.shifted.new.next c.args.word c.in_ok-whole.whole c.in_ok-low.low c.args.words.now (set (set c.args.words.now q c.in_ok-whole.whole) (q + 1) c.in_ok-low.low)
    c.args.steps.now.items c.joined.new.steps.items c.shifted.new.steps.items q (q + 1)
    (adds-joined c.args.next.now c.between.new.next c.joined.new.next c.args.word _ c.in_ok-high.high c.in_ok-whole.whole c.args.words.now c.args.steps.now.items c.between.new.steps.items c.joined.new.steps.items q (get_or_default c.args.words.now q _ _ here) here c.in_ok-high.ensures.well c.in_ok-whole.ensures.well)
    (adds-shift Left (64 - s - c.args.n) c.args.word c.in_ok-low.low c.joined.new.next c.shifted.new.next c.joined.new.steps.items c.shifted.new.steps.items (omega (arith, c.if-first-n-gt32.true)) c.in_ok-low.ensures.none c.in_ok-low.ensures.some)
    refl

pub returns-else-first-n-gt32-clause-well : goal.returns-else-first-n-gt32-clause-well
returns-else-first-n-gt32-clause-well c =
    let q = c.args.at / 32 in
    let here : q < length c.args.words.now = omega (arith, c.requires.inside, c.if-n-eq0.false) in
    adds-into c.args.next.now c.joined.new.next c.args.word c.in_ok-whole.whole c.args.words.now (set c.args.words.now q c.in_ok-whole.whole) c.args.steps.now.items c.joined.new.steps.items q
    (adds-joined c.args.next.now c.between.new.next c.joined.new.next c.args.word _ c.in_ok-high.high c.in_ok-whole.whole c.args.words.now c.args.steps.now.items c.between.new.steps.items c.joined.new.steps.items q (get_or_default c.args.words.now q _ _ here) here c.in_ok-high.ensures.well c.in_ok-whole.ensures.well)
    refl

pub returns-then-n-eq0-clause-bounds : goal.returns-then-n-eq0-clause-bounds
returns-then-n-eq0-clause-bounds c = writes-none 1 (Word c.args.word) c.args.steps.now.items c.args.words.now c.args.at (c.args.at + c.args.n) (omega arith)

pub returns-in_ok-low-clause-bounds : goal.returns-in_ok-low-clause-bounds
returns-in_ok-low-clause-bounds c =
    let q = c.args.at / 32 in
    let s = c.args.at % 32 in
    let inside : suc q < length c.args.words.now = omega (arith, c.requires.inside, c.if-first-n-gt32.true) in
    let here : q < length c.args.words.now = omega arith in
    narrow-two c.args.word _ c.in_ok-high.high c.in_ok-whole.whole c.in_ok-low.low c.args.words.now (set (set c.args.words.now q c.in_ok-whole.whole) (q + 1) c.in_ok-low.low)
    c.args.steps.now.items c.between.new.steps.items c.joined.new.steps.items c.shifted.new.steps.items c.args.at (c.args.at + c.args.n) q (q + 1) (get_or_default c.args.words.now q _ _ here) here
    c.in_ok-high.ensures.bounds c.in_ok-whole.ensures.bounds
    (word-shift Left (64 - s - c.args.n) c.args.word c.in_ok-low.low c.joined.new.next c.shifted.new.next c.joined.new.steps.items c.shifted.new.steps.items (omega (arith, c.if-first-n-gt32.true)) c.in_ok-low.ensures.none c.in_ok-low.ensures.some)
    refl (omega (arith, c.if-first-n-gt32.true))

pub returns-else-first-n-gt32-clause-bounds : goal.returns-else-first-n-gt32-clause-bounds
returns-else-first-n-gt32-clause-bounds c =
    let q = c.args.at / 32 in
    let here : q < length c.args.words.now = omega (arith, c.requires.inside, c.if-n-eq0.false) in
    narrow-one c.args.word _ c.in_ok-high.high c.in_ok-whole.whole c.args.words.now (set c.args.words.now q c.in_ok-whole.whole)
    c.args.steps.now.items c.between.new.steps.items c.joined.new.steps.items c.args.at (c.args.at + c.args.n) q (get_or_default c.args.words.now q _ _ here) here
    c.in_ok-high.ensures.bounds c.in_ok-whole.ensures.bounds refl (omega arith)
