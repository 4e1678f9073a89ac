use Rattle.std.proofs.Common.{◌≡◌, ◌+◌, [], ◌∷◌, ◌++◌, sym, subst, take, arith}
use Rattle.std.proofs.lemmas.Grind.{common_steps}
use Rattle.uc_object.specs.Object.{IsException}
use Rattle.uc_object.specs.inner.Parts.{Adds}
use Rattle.uc_object.proofs.Together.{adds-none, adds-append}
use Rattle.uc_object.proofs.encoder.push_exceptions.Goals as goal

pub loop-line-init : goal.loop-line-init
loop-line-init c = adds-none IsException c.args.out.now.items

pub loop-line-preserved : goal.loop-line-preserved
loop-line-preserved c =
    let list = c.args.list.now in
    let next : take (c.loop-line.line-index + 1) list ≡ take c.loop-line.line-index list ++ c.loop-line-item.result ∷ [] = grind (arith, common_steps) in
    subst (λ xs. Adds IsException xs c.args.out.now.items c.push_exception.new.out.items) (sym next)
    (adds-append IsException (take c.loop-line.line-index list) (c.loop-line-item.result ∷ []) c.args.out.now.items c.loop-line.out.items c.push_exception.new.out.items c.loop-line.invariant c.in_ok-push_exception.ensures)
