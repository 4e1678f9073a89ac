use Rattle.std.proofs.Common.{◌∙◌, ◌≤◌, ap, refl, subst}
use Rattle.nv_ast.specs.TypedView.{typed_program}
use Rattle.nv_flatten_values.specs.inner.Whole.{whole_of}
use Rattle.nv_flatten_values.specs.inner.WholeView.{whole_in}
use Rattle.nv_flatten.proofs.Lockstep.{keeps, equal}
use Rattle.nv_flatten.proofs.FormedProgram.{formed, all-reached}
use Rattle.nv_flatten.proofs.Bounding.{bounded-main, wide-of}
use Rattle.nv_flatten.proofs.SourceFunctions.{source-functions}
use Rattle.nv_flatten.proofs.SmallMain.{bulk-of}
use Rattle.nv_flatten.proofs.program.flatten.Goals as goal

pub invariant_of-result : goal.invariant_of-result
invariant_of-result c = record {
  formed = formed (typed_program c.args.t.now) c.program.ensures.typed c.in-Ok-functions.found.items
      (λ g e. (bounded-main (whole_in c.in_ok-source.source) (whole_of (typed_program c.args.t.now)) c.in-Ok.main c.in-Ok-functions.found.items (c.in_ok-source.ensures ∙ ap whole_of c.program.ensures.same) c.in-Ok.ensures c.in-Ok-functions.ensures.bounded g e).complete);
}

pub returns : goal.returns
returns c =
    let bounded = bounded-main (whole_in c.in_ok-source.source) (whole_of (typed_program c.args.t.now)) c.in-Ok.main c.in-Ok-functions.found.items (c.in_ok-source.ensures ∙ ap whole_of c.program.ensures.same) c.in-Ok.ensures c.in-Ok-functions.ensures.bounded in
    record {
      first = refl;
      functions = source-functions (typed_program c.args.t.now) c.program.ensures.typed c.in-Ok-functions.found.items bounded;
      order = c.in-Ok-functions.ensures.order;
      kept = keeps (typed_program c.args.t.now) c.program.ensures.typed c.in-Ok-functions.found.items (λ g e. (bounded g e).complete);
      equal = equal (typed_program c.args.t.now) c.program.ensures.typed c.in-Ok-functions.found.items (λ g e. (bounded g e).complete);
      reached = all-reached (typed_program c.args.t.now) c.program.ensures.typed c.in-Ok-functions.found.items (λ g e. (bounded g e).complete);
      wide = wide-of (typed_program c.args.t.now) c.program.ensures.typed c.in-Ok-functions.found.items bounded;
      bulk = bulk-of (typed_program c.args.t.now) c.program.ensures.typed (subst (λ n. n ≤ 4096) c.args.t.now.sized c.args.t.now.small) c.in-Ok-functions.found.items bounded;
    }
