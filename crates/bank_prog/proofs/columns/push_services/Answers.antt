use Rattle.std.proofs.Common.{◌++◌, arith}
use Rattle.std.specs.List.{flat_map}
use Rattle.bank_prog_form.specs.inner.Form as form
use Rattle.bank_prog_form.proofs.Loops.{plain-more, plain-all}
use Rattle.bank_prog.proofs.columns.push_services.Goals as goal
use Rattle.place_plan.specs.inner.UseViews.{use_view}

pub loop-s-preserved : goal.loop-s-preserved
loop-s-preserved c =
    plain-more (form.service_columns c.args.fetched (use_view c.args.u)) c.args.services.now c.loop-s.s-index _ c.loop-s.out.items c.push_service.new.out.items
    (c.args.out.now.items ++ flat_map (form.service_columns c.args.fetched (use_view c.args.u)) c.args.services.now) (omega arith) c.in_ok-push_service.ensures c.loop-s.invariant

pub returns : goal.returns
returns c = plain-all (form.service_columns c.args.fetched (use_view c.args.u)) c.args.services.now c.loop-s.s-index c.loop-s.out.items (c.args.out.now.items ++ flat_map (form.service_columns c.args.fetched (use_view c.args.u)) c.args.services.now) (omega arith) c.loop-s.invariant
