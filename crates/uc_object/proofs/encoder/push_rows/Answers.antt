use Rattle.std.proofs.Common.{◌≡◌, ◌+◌, [], ◌∷◌, ◌++◌, sym, subst, take, arith}
use Rattle.std.proofs.lemmas.Grind.{common_steps}
use Rattle.uc_object.specs.Rows.{IsRow}
use Rattle.uc_object.specs.inner.Parts.{Adds}
use Rattle.uc_object.proofs.Together.{adds-none, adds-more}
use Rattle.uc_object.proofs.encoder.push_rows.Goals as goal

pub loop-i-init : goal.loop-i-init
loop-i-init c = adds-none IsRow c.args.out.now.items

pub loop-i-preserved : goal.loop-i-preserved
loop-i-preserved c =
    let list = c.args.list.now in
    let next : take (c.loop-i.i-index + 1) list ≡ take c.loop-i.i-index list ++ c.i-item.result ∷ [] = grind (arith, common_steps) in
    subst (λ is. Adds IsRow is c.args.out.now.items c.extend_from_slice.new.self.items) (sym next)
    (adds-more IsRow (take c.loop-i.i-index list) c.i-item.result c.args.out.now.items c.loop-i.out.items c.extend_from_slice.new.self.items c.row.result c.loop-i.invariant c.in_ok-extend_from_slice.ensures.items c.row.ensures)
