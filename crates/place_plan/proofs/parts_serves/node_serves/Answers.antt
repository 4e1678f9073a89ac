use Rattle.std.proofs.Common.{◌≡◌, ◌++◌, sym, subst}
use Rattle.std.specs.Prelude.{OnOk}
use Rattle.ssu_ir.specs.declared.node.SsuNode.{SsuNode}
use Rattle.ssu_ir.specs.Points.{At}
use Rattle.ssu_ir.specs.Slots.{node_of}
use Rattle.ssu_ir.specs.View.{labels_view}
use Rattle.place_plan.specs.inner.Parts.{number_of, names_of, serves_at}
use Rattle.place_plan.proofs.parts_serves.node_serves.Goals as goal

pub returns-in-Bin : goal.returns-in-Bin
returns-in-Bin c =
    subst (λ (n : SsuNode). OnOk c.serve_two.result (c.serve_two.new.serves.items ≡ c.args.serves.now.items ++ serves_at (labels_view c.args.s.now) (number_of c.args.given.now) (names_of c.args.given.now) c.args.point (At (node_of n))))
    (sym c.in-Bin.is) c.serve_two.ensures

pub returns-in-If : goal.returns-in-If
returns-in-If c =
    subst (λ (n : SsuNode). OnOk c.serve_two-in-If.result (c.serve_two-in-If.new.serves.items ≡ c.args.serves.now.items ++ serves_at (labels_view c.args.s.now) (number_of c.args.given.now) (names_of c.args.given.now) c.args.point (At (node_of n))))
    (sym c.in-If.is) c.serve_two-in-If.ensures
