use Rattle.std.proofs.Common.{◌≡◌, ◌<◌, true, false, length, sym, arith, eq-eqb}
use Rattle.std.specs.Prelude.{◌==◌}
use Rattle.std.proofs.lemmas.Bool.{ne_eqb}
use Rattle.nv_ast.specs.Outline.{size}
use Rattle.nv_layout.specs.OutlineView.{outline_tree}
use Rattle.nv_layout.proofs.Walks.{same_size_more, other_size}
use Rattle.nv_layout.proofs.walk.have_size.Goals as goal

pub returns-then-measured-n : goal.returns-then-measured-n
returns-then-measured-n c =
    let h : c.loop-a.a-index < length c.args.alternatives.now = omega arith in
    let here : (size (outline_tree c.a-item.result.1) == c.args.n) ≡ false = ne_eqb _ _ (λ e. let none : ⊥ = omega (arith, e, c.measured.ensures, c.requires) in none) in
    sym (other_size c.args.alternatives.now c.loop-a.a-index c.a-item.result c.args.n h c.a-item.is c.loop-a.invariant here)

pub loop-a-preserved : goal.loop-a-preserved
loop-a-preserved c =
    let h : c.loop-a.a-index < length c.args.alternatives.now = omega arith in
    let here : (size (outline_tree c.a-item.result.1) == c.args.n) ≡ true = eq-eqb _ _ (omega (arith, c.measured.ensures, c.requires)) in
    same_size_more c.args.alternatives.now c.loop-a.a-index c.a-item.result c.args.n h c.a-item.is c.loop-a.invariant here
