use Rattle.std.proofs.Common.{ℕ, List, ◌≡◌, ◌+◌, ◌<◌, [], get_or, set, take, sym, subst, refl, arith}
use Rattle.std.proofs.lemmas.Grind.{common_steps}
use Rattle.std.proofs.lemmas.List.Elements.{All-get_or}
use Rattle.uc_asm.specs.inner.Numbered.{AreNumbered}
use Rattle.uc_asm.proofs.NumberedLemmas.{numbered-start}
use Rattle.uc_asm.proofs.starts.numbers_at.Goals as goal

pub loop-k-preserved : goal.loop-k-preserved
loop-k-preserved c =
    let starts = c.args.starts.now in
    let numbers = c.loop-k.numbers.items in
    let k = c.loop-k.k in
    let s = get_or starts k 0 in
    let less : s < c.args.places = All-get_or (λ start. start < c.args.places) starts k 0 c.loop-k-test.true c.requires.inside in
    let many = c.loop-k.invariant.many in
    let was : c.index_mut.result.now ≡ get_or numbers s [] = grind (arith, common_steps) in
    subst (λ (x : List ℕ). AreNumbered c.args.places (take (k + 1) starts) (set numbers s x)) (sym c.in_ok-add.ensures)
    (numbered-start c.args.places k s starts c.index_mut.result.now numbers c.loop-k-test.true refl less c.loop-k.invariant was)
