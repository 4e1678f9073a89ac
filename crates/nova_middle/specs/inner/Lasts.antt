-- A form and the flow that it is made of.
use Rattle.std.specs.Prelude.{◌≡◌, true, map}
use Rattle.nv_base.specs.Meanings.{AreEqual}
use Rattle.flow_ir.specs.Meaning.{flow_meaning, flow_params}
use Rattle.flow_ir.specs.View.{label_view}
use Rattle.ssu_ir.specs.Meaning.{ssu_meaning, ssu_params}
use Rattle.ssu_ir.specs.Single.{single}
use Rattle.ssu_ir.specs.View.{labels_view}
use Rattle.ssu_make.specs.Made.{AllMade}
use Rattle.nova_middle.specs.Reduced.{AreReduced}
use Rattle.nova_middle.specs.declared.last.Last.{Last}

-- the passes have nothing left to do in the flow, and the form is that flow node by node
pub record IsMade (l : Last) : Type 0 where
  pub reduced : AreReduced (map label_view l.flow.labels.items)
  pub made : AllMade 0 (map label_view l.flow.labels.items) (labels_view l.form)
  pub params : flow_params (map label_view l.flow.labels.items) ≡ ssu_params (labels_view l.form)
  pub equal : AreEqual (flow_params (map label_view l.flow.labels.items)) (flow_meaning (map label_view l.flow.labels.items)) (ssu_meaning (labels_view l.form))
  pub single : single (labels_view l.form) ≡ true
