use Rattle.std.proofs.Common.{◌∙◌, sym}
use Rattle.nv_flatten_values.proofs.Fields.{field-found, field-passed}
use Rattle.nv_flatten_values.proofs.symbol.field_among.Goals as goal

pub returns-then-eq : goal.returns-then-eq
returns-then-eq c = field-found c.args.x.now c.args.fields.items c.loop-field.field-iterator.rest.items c.next.new.self.rest.items c.in-Some.field c.in-Some.ensures.steps.0 c.loop-field.invariant (sym c.eq.ensures ∙ c.if-eq.true)

pub loop-field-preserved-else-eq : goal.loop-field-preserved-else-eq
loop-field-preserved-else-eq c = field-passed c.args.x.now c.args.fields.items c.loop-field.field-iterator.rest.items c.next.new.self.rest.items c.in-Some.field c.in-Some.ensures.steps.0 c.loop-field.invariant (sym c.eq.ensures ∙ c.if-eq.false)

pub loop-field-preserved-else-eq-2 : goal.loop-field-preserved-else-eq-2
loop-field-preserved-else-eq-2 c = field-passed c.args.x.now c.args.fields.items c.loop-field.field-iterator.rest.items c.next.new.self.rest.items c.in-Some.field c.in-Some.ensures.steps.0 c.loop-field.invariant (sym c.eq.ensures ∙ c.if-eq.false)

pub loop-field-preserved : goal.loop-field-preserved
loop-field-preserved c = field-passed c.args.x.now c.args.fields.items c.loop-field.field-iterator.rest.items c.next.new.self.rest.items c.in-Some.field c.in-Some.ensures.steps.0 c.loop-field.invariant (sym c.eq.ensures ∙ c.if-eq.false)
