use Rattle.std.proofs.Common.{◌≡◌, ◌∷◌, map, take}
use Rattle.cps_ir.specs.View.{term_view, label_view}
use Rattle.flow_ir.specs.View.{label_view as flow_label}
use Rattle.cps_close.specs.inner.Closed.{tree_of, closed_labels}
use Rattle.cps_close.specs.inner.View.{table_view}
use Rattle.cps_close.proofs.trees.labels_of.Given as goal

abbrev pub invariant-loop-i : goal.invariant-loop-i
invariant-loop-i l =
    map flow_label l.labels.items
    ≡ record { params = l.f.params.items; body = tree_of (table_view l.table) (term_view l.f.body) } ∷ closed_labels (table_view l.table) (map (λ c. label_view c.now) (take l.i l.conts)) (table_view l.table).lists
