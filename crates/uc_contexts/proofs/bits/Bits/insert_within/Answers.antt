use Rattle.std.proofs.Common.{◌≡◌, ◌+◌, ◌<◌, ◌≤◌, ◌/◌, length, subst, sym, ◌∙◌, arith}
use Rattle.std.proofs.lemmas.Grind.{get_or_default_zero}
use Rattle.uc_contexts.specs.Sets.{Numbers, Adds, AreNumbers}
use Rattle.uc_contexts.proofs.Marking.{put_run, run-adds, run-numbers}
use Rattle.uc_contexts.proofs.bits.Bits.insert_within.Goals as goal

pub invariant_of-self : goal.invariant_of-self
invariant_of-self c =
    let s : Numbers = record { size = c.self.inside.size; words = c.self.inside.words.items } in
    let viewed : s ≡ c.args.self.now = c.self.view_is in
    let less : c.args.first + c.args.count ≤ s.size = subst (λ (z : Numbers). c.args.first + c.args.count ≤ z.size) (sym viewed) c.requires.below in
    let here : AreNumbers s = c.self.invariant in
    let some = c.requires.some in
    let there : c.args.first / 32 < length s.words = omega (arith, here.room) in
    run-numbers s c.args.first c.args.count c.index_mut.result.now here less there (c.index_mut.ensures.value ∙ get_or_default_zero s.words (c.args.first / 32) c.index_mut.result.now there) c.requires.one_word

pub returns-clause-has : goal.returns-clause-has
returns-clause-has c =
    let s : Numbers = record { size = c.self.inside.size; words = c.self.inside.words.items } in
    let viewed : s ≡ c.args.self.now = c.self.view_is in
    let less : c.args.first + c.args.count ≤ s.size = subst (λ (z : Numbers). c.args.first + c.args.count ≤ z.size) (sym viewed) c.requires.below in
    let here : AreNumbers s = c.self.invariant in
    let some = c.requires.some in
    let there : c.args.first / 32 < length s.words = omega (arith, here.room) in
    let added = run-adds s c.args.first c.args.count c.index_mut.result.now there (c.index_mut.ensures.value ∙ get_or_default_zero s.words (c.args.first / 32) c.index_mut.result.now there) c.requires.one_word in
    subst (λ (z : Numbers). Adds z (λ y. (c.args.first ≤ y) × (y < c.args.first + c.args.count)) (put_run s c.args.first c.args.count c.index_mut.result.now)) viewed added
