use Rattle.std.proofs.Common.{◌≡◌, ◌∙◌, ap, sym, length, arith}
use Rattle.std.specs.Prelude.{slice_get}
use Rattle.nv_flatten_values.specs.inner.WholeView.{whole_in}
use Rattle.nv_flatten.proofs.Bounding.{bounded-first, bounded-more, bounded-all}
use Rattle.nv_flatten.proofs.SourceFunctions.{called-before}
use Rattle.nv_flatten.proofs.program.called_from.Goals as goal

pub loop-name-init : goal.loop-name-init
loop-name-init c = bounded-first (whole_in c.args.t.now) c.args.first.now _ c.number.new.self c.in-Ok.found c.new-funs.result.items c.new-names.ensures c.number.ensures.added c.in-Ok.ensures.number c.new-funs.ensures.items

pub loop-name-preserved : goal.loop-name-preserved
loop-name-preserved c =
    let n : c.len.result ≡ length c.loop-name.funs.items = omega (arith, c.len.ensures, c.loop-name.funs.ok.0) in
    bounded-more (whole_in c.args.t.now) c.args.first.now c.in-Some.name.now c.loop-name.names c.function.new.names c.loop-name.funs.items c.push.new.self.items _ c.loop-name.invariant
    (ap (slice_get c.loop-name.names) (sym n) ∙ c.in-Some.ensures.found) c.function.ensures.names c.in-Ok-function.ensures.made c.in-Ok-function.ensures.placed c.in-Ok-function.ensures.called c.in-Ok-function.ensures.narrow c.in-Ok-function.ensures.small c.in-Ok-push.ensures.items

pub returns : goal.returns
returns c =
    let n : c.len.result ≡ length c.loop-name.funs.items = omega (arith, c.len.ensures, c.loop-name.funs.ok.0) in
    record {
      bounded = bounded-all (whole_in c.args.t.now) c.args.first.now c.loop-name.names c.loop-name.funs.items c.loop-name.invariant (ap (slice_get c.loop-name.names) (sym n) ∙ c.in_default.ensures.found) c.get.ensures.once;
      order = called-before c.loop-name.names c.loop-name.funs.items c.loop-name.invariant.made.few c.loop-name.invariant.made.found;
    }
