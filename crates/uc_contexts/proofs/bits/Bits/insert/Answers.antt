use Rattle.std.proofs.Common.{◌≡◌, ◌<◌, ◌/◌, length, subst, sym, ◌∙◌, arith}
use Rattle.std.proofs.lemmas.Grind.{get_or_default_zero}
use Rattle.uc_contexts.specs.Sets.{Numbers, Adds, AreNumbers}
use Rattle.uc_contexts.proofs.Marking.{put, put-adds, put-numbers}
use Rattle.uc_contexts.proofs.bits.Bits.insert.Goals as goal

pub invariant_of-self : goal.invariant_of-self
invariant_of-self c =
    let s : Numbers = record { size = c.self.inside.size; words = c.self.inside.words.items } in
    let viewed : s ≡ c.args.self.now = c.self.view_is in
    let less : c.args.x < s.size = subst (λ (z : Numbers). c.args.x < z.size) (sym viewed) c.requires in
    let here : AreNumbers s = c.self.invariant in
    let there : c.args.x / 32 < length s.words = omega (arith, here.room) in
    put-numbers s c.args.x c.index_mut.result.now here less there (c.index_mut.ensures.value ∙ get_or_default_zero s.words (c.args.x / 32) c.index_mut.result.now there)

pub returns-clause-has : goal.returns-clause-has
returns-clause-has c =
    let s : Numbers = record { size = c.self.inside.size; words = c.self.inside.words.items } in
    let viewed : s ≡ c.args.self.now = c.self.view_is in
    let less : c.args.x < s.size = subst (λ (z : Numbers). c.args.x < z.size) (sym viewed) c.requires in
    let here : AreNumbers s = c.self.invariant in
    let there : c.args.x / 32 < length s.words = omega (arith, here.room) in
    let added : Adds s (λ y. y ≡ c.args.x) (put s c.args.x c.index_mut.result.now) =
    put-adds s c.args.x c.index_mut.result.now there (c.index_mut.ensures.value ∙ get_or_default_zero s.words (c.args.x / 32) c.index_mut.result.now there) in
    subst (λ (z : Numbers). Adds z (λ y. y ≡ c.args.x) (put s c.args.x c.index_mut.result.now)) viewed added
