use Rattle.std.proofs.Common.{◌∙◌, sym, map, arith}
use Rattle.nv_meaning_values.proofs.NameIndices.{place-below}
use Rattle.nv_meaning_values.proofs.table.Table.exception.Goals as goal

pub exception_at-requires : goal.exception_at-requires
exception_at-requires c =
    let h = place-below (λ x. x.now) c.args.self.now.exceptions.items c.args.x.now c.in-Some.place.now (sym (c.in-Some.ensures.value ∙ c.args.self.now.exceptions_found c.args.x.now)) in
    omega (arith, h, c.args.self.now.few_exceptions)

pub returns-in-Some : goal.returns-in-Some
returns-in-Some c = c.exception_at.ensures (map (λ x. x.now) c.args.self.now.exceptions.items) c.args.x.now (sym (c.in-Some.ensures.value ∙ c.args.self.now.exceptions_found c.args.x.now))

pub returns-in-None : goal.returns-in-None
returns-in-None c = c.exception_at-in-None.ensures (map (λ x. x.now) c.args.self.now.exceptions.items) c.args.x.now (sym (c.in-None.ensures.value ∙ c.args.self.now.exceptions_found c.args.x.now))
