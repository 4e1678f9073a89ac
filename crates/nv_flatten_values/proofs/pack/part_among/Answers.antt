use Rattle.std.proofs.Common.{◌≡◌, ◌∙◌, sym, true, false, bytes_eq}
use Rattle.nv_flatten_values.proofs.Found.{has-there, named-there, has-later, named-later, has-nowhere, named-nowhere}
use Rattle.nv_flatten_values.proofs.pack.part_among.Goals as goal

pub returns-then-eq : goal.returns-then-eq
returns-then-eq c =
    let b : bytes_eq c.args.x.now c.field-item.result.0.now ≡ true = sym c.eq.ensures ∙ c.if-eq.true in (
      sym c.loop-field.invariant.has ∙ has-there c.args.x.now c.args.fields.now c.loop-field.field-index c.field-item.result c.loop-field-test.true c.field-item.is b,
      sym c.loop-field.invariant.named ∙ named-there c.args.x.now c.args.fields.now c.loop-field.field-index c.field-item.result c.loop-field-test.true c.field-item.is b,
    )

pub loop-field-preserved : goal.loop-field-preserved
loop-field-preserved c =
    let b : bytes_eq c.args.x.now c.field-item.result.0.now ≡ false = sym c.eq.ensures ∙ c.if-eq.false in
    record {
      has = sym (has-later c.args.x.now c.args.fields.now c.loop-field.field-index c.field-item.result c.loop-field-test.true c.field-item.is b) ∙ c.loop-field.invariant.has;
      named = sym (named-later c.args.x.now c.args.fields.now c.loop-field.field-index c.field-item.result c.loop-field-test.true c.field-item.is b) ∙ c.loop-field.invariant.named;
    }

pub returns : goal.returns
returns c = (
  sym c.loop-field.invariant.has ∙ has-nowhere c.args.x.now c.args.fields.now c.loop-field.field-index c.loop-field-test.false,
  sym c.loop-field.invariant.named ∙ named-nowhere c.args.x.now c.args.fields.now c.loop-field.field-index c.loop-field-test.false,
)
