use Rattle.std.proofs.Common.{refl, [], ◌∷◌, ◌<◌, ◌≤◌, ◌*◌, ◌+◌, ◌%◌, ◌/◌, length, suc, arith}
use Rattle.std.proofs.lemmas.List.{get_or_default}
use Rattle.std.proofs.lemmas.Result.{IfOk-weaker}
use Rattle.nv_base.specs.declared.term.Atom.TheVariants.{Lit}
use Rattle.nv_base.specs.Sets.{all_vars}
use Rattle.nv_ast.specs.Bits.{number, packed, slice}
use Rattle.nv_flatten_values.proofs.Computing.{makes-there}
use Rattle.nv_flatten_values.proofs.Leaves.{one-makes, two-makes, item-next}
use Rattle.nv_flatten_values.proofs.Lets.{adds-none, adds-at, adds-at-two}
use Rattle.nv_flatten_values.proofs.Within.{of-none}
use Rattle.nv_flatten_values.proofs.WordSteps.{word-none, word-at, word-at-two}
use Rattle.nv_flatten_values.proofs.unpack.word_at.Goals as goal
use Rattle.nv_flatten_values.proofs.unpack.word_at.Goals.{then-n-eq0-via-then-n-eq0, then-n-eq0-via-else-n-eq0+then-n-gt32, then-n-eq0-via-else-n-eq0+else-n-gt32+then-behind-words}

pub returns-then-n-eq0-clause-makes : goal.returns-then-n-eq0-clause-makes
returns-then-n-eq0-clause-makes c =
    makes-there ((1 ≤ c.args.n) × (c.args.n ≤ 32) × (c.args.at + c.args.n ≤ 32 * length c.args.words.now)) c.args.next.now c.args.words.now c.args.steps.now.items (Lit 0) (λ ws. number (slice c.args.at c.args.n (packed ws)))
    (λ o. tt)
    (λ q env ws. absurd (elim c.then-n-eq0.branch [
      | then-n-eq0-via-then-n-eq0 w ↦ omega arith
      | then-n-eq0-via-else-n-eq0+then-n-gt32 w ↦ omega arith
      | then-n-eq0-via-else-n-eq0+else-n-gt32+then-behind-words w ↦ omega arith
    ]))

pub returns-then-first-n-le32-clause-makes : goal.returns-then-first-n-le32-clause-makes
returns-then-first-n-le32-clause-makes c =
    let q : c.args.at / 32 < length c.args.words.now = omega arith in
    IfOk-weaker c.between.result _ _
    (λ a m. one-makes ((1 ≤ c.args.n) × (c.args.n ≤ 32) × (c.args.at + c.args.n ≤ 32 * length c.args.words.now)) c.args.words.now _ a c.args.at c.args.n (c.args.at / 32) (c.args.at % 32) c.args.next.now c.between.new.next c.args.steps.now.items c.between.new.steps.items refl refl c.if-first-n-le32.true
    (get_or_default c.args.words.now (c.args.at / 32) _ _ q) q m)
    c.between.ensures.makes

pub returns-else-first-n-le32-clause-makes : goal.returns-else-first-n-le32-clause-makes
returns-else-first-n-le32-clause-makes c =
    let q : suc (c.args.at / 32) < length c.args.words.now = omega arith in
    let p : c.args.at / 32 < length c.args.words.now = omega arith in
    IfOk-weaker c.across.result _ _
    (λ a m. two-makes ((1 ≤ c.args.n) × (c.args.n ≤ 32) × (c.args.at + c.args.n ≤ 32 * length c.args.words.now)) c.args.words.now _ _ a c.args.at c.args.n (c.args.at / 32) (c.args.at % 32) c.args.next.now c.across.new.next c.args.steps.now.items c.across.new.steps.items refl refl c.if-n-gt32.false
    (get_or_default c.args.words.now (c.args.at / 32) _ _ p) (item-next c.args.words.now (c.args.at / 32) _ q) q m)
    c.across.ensures.makes

pub returns-then-n-eq0-clause-well : goal.returns-then-n-eq0-clause-well
returns-then-n-eq0-clause-well c = adds-none c.args.next.now c.args.words.now (Lit 0 ∷ []) c.args.steps.now.items (λ known k. refl)

pub returns-then-first-n-le32-clause-well : goal.returns-then-first-n-le32-clause-well
returns-then-first-n-le32-clause-well c =
    let q : c.args.at / 32 < length c.args.words.now = omega arith in
    IfOk-weaker c.between.result _ _
    (λ a m. adds-at c.args.words.now _ (a ∷ []) (c.args.at / 32) c.args.next.now c.between.new.next c.args.steps.now.items c.between.new.steps.items (get_or_default c.args.words.now (c.args.at / 32) _ _ q) q m)
    c.between.ensures.well

pub returns-else-first-n-le32-clause-well : goal.returns-else-first-n-le32-clause-well
returns-else-first-n-le32-clause-well c =
    let q : suc (c.args.at / 32) < length c.args.words.now = omega arith in
    let p : c.args.at / 32 < length c.args.words.now = omega arith in
    IfOk-weaker c.across.result _ _
    (λ a m. adds-at-two c.args.words.now _ _ (a ∷ []) (c.args.at / 32) c.args.next.now c.across.new.next c.args.steps.now.items c.across.new.steps.items (get_or_default c.args.words.now (c.args.at / 32) _ _ p) (item-next c.args.words.now (c.args.at / 32) _ q) q m)
    c.across.ensures.well

pub returns-then-n-eq0-clause-bounds : goal.returns-then-n-eq0-clause-bounds
returns-then-n-eq0-clause-bounds c = word-none c.args.words.now c.args.steps.now.items (Lit 0) 5 4 (of-none (all_vars c.args.words.now))

pub returns-then-first-n-le32-clause-bounds : goal.returns-then-first-n-le32-clause-bounds
returns-then-first-n-le32-clause-bounds c =
    let q : c.args.at / 32 < length c.args.words.now = omega arith in
    IfOk-weaker c.between.result _ _
    (λ a m. word-at c.args.words.now _ a (c.args.at / 32) 4 2 c.args.steps.now.items c.between.new.steps.items (get_or_default c.args.words.now (c.args.at / 32) _ _ q) q m (omega arith) (omega arith))
    c.between.ensures.bounds

pub returns-else-first-n-le32-clause-bounds : goal.returns-else-first-n-le32-clause-bounds
returns-else-first-n-le32-clause-bounds c =
    let q : suc (c.args.at / 32) < length c.args.words.now = omega arith in
    let p : c.args.at / 32 < length c.args.words.now = omega arith in
    IfOk-weaker c.across.result _ _
    (λ a m. word-at-two c.args.words.now _ _ a (c.args.at / 32) c.args.steps.now.items c.across.new.steps.items (get_or_default c.args.words.now (c.args.at / 32) _ _ p) (item-next c.args.words.now (c.args.at / 32) _ q) q m)
    c.across.ensures.bounds
