use Rattle.std.proofs.Common.{ℕ, List, ◌≡◌, ◌+◌, ◌++◌, ◌∷◌, [], ap, sym, ◌∙◌, subst, arith}
use Rattle.uc_asm.specs.inner.Numbered.{AreNumbered}
use Rattle.uc_asm.proofs.NumberedLemmas.{numbered-none, numbered-more}
use Rattle.uc_asm.proofs.starts.no_numbers.Goals as goal

pub loop-init : goal.loop-init
loop-init c = rw c.new-numbers.ensures.items numbered-none

pub loop-preserved : goal.loop-preserved
loop-preserved c =
    subst (λ (xs : List (List ℕ)). AreNumbered (c.loop.counter + 1) [] xs) (sym (c.in_ok-push.ensures.items ∙ ap (λ (x : List ℕ). c.loop.numbers.items ++ x ∷ []) c.new.ensures))
    (numbered-more c.loop.counter c.loop.numbers.items c.loop.invariant)

pub returns : goal.returns
returns c =
    let ended : c.loop.counter ≡ c.args.places = omega arith in
    subst (λ n. AreNumbered n [] c.loop.numbers.items) ended c.loop.invariant
