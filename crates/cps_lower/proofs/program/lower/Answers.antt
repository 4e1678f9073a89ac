use Rattle.std.proofs.Common.{◌≡◌, map, ap, ◌∙◌}
use Rattle.cps_ir.specs.View.{fun_view}
use Rattle.cps_lower.specs.inner.Lowered.{lowered_all}
use Rattle.cps_lower.proofs.Outcomes.{kept_at}
use Rattle.cps_lower.proofs.Formedness.{formed_at}
use Rattle.cps_lower.proofs.Bounds.{wide_at, bulk_at}
use Rattle.cps_lower.proofs.program.lower.Goals as goal

pub invariant_of-result : goal.invariant_of-result
invariant_of-result c = record {
  formed = formed_at c.args.f.now.funs.items c.args.f.now.main (map fun_view c.in_ok-funs.funs.items) c.args.f.now.formed (c.in_ok-funs.ensures ∙ ap lowered_all c.deref.ensures.value);
}

pub returns : goal.returns
returns c =
    let same : map fun_view c.in_ok-funs.funs.items ≡ lowered_all c.args.f.now.funs.items = c.in_ok-funs.ensures ∙ ap lowered_all c.deref.ensures.value in
    record {
      kept = kept_at c.args.f.now.funs.items c.args.f.now.main (map fun_view c.in_ok-funs.funs.items) c.args.f.now.formed same;
      wide = wide_at c.args.f.now.funs.items c.args.f.now.main (map fun_view c.in_ok-funs.funs.items) c.args.f.now.formed same;
      bulk = bulk_at c.args.f.now.funs.items c.args.f.now.main (map fun_view c.in_ok-funs.funs.items) same;
    }
