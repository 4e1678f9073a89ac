use Rattle.std.proofs.Common.{List, [], ℕ, sym, subst}
use Rattle.uc_isa.specs.Code.{CodeView}
use Rattle.uc_isa.specs.Lawful.{IsLawful}
use Rattle.uc_object.specs.Object.{code_of}
use Rattle.uc_object.specs.declared.object.Object.{Object}
use Rattle.novac_machine.proofs.Peeped.{IsShorterCode, without-one, without-two}
use Rattle.novac_machine.proofs.peep.shorter_object.Goals as goal

pub without_needless-requires-clause-lawful : goal.without_needless-requires-clause-lawful
without_needless-requires-clause-lawful c = subst (λ (o : Object). IsLawful (code_of o).list) c.in-One.is c.requires

pub without_needless-requires-in-Two-clause-lawful : goal.without_needless-requires-in-Two-clause-lawful
without_needless-requires-in-Two-clause-lawful c =
    subst (λ (v : CodeView). IsLawful v.list) (sym c.into_parts-code.ensures.code) (subst (λ (o : Object). IsLawful (code_of o).list) c.in-Two.is c.requires)

pub returns-in_ok-peeped-in-One : goal.returns-in_ok-peeped-in-One
returns-in_ok-peeped-in-One c =
    let h = c.in_ok-peeped-in-One.ensures in
    let d = c.in_ok-peeped-in-One.peeped.code in
    let starts' = c.in_ok-peeped-in-One.peeped.starts.items in
    without-one c.args.object c.in-One.code d starts' c.in-One.is
    (subst (λ (l : List ℕ). IsShorterCode c.in-One.code l d starts') c.new.ensures.items
    (record { params = h.params; lawful = h.lawful; agrees = h.agrees; kept = h.kept; without = h.without; settled = h.settled }))

pub returns-in_ok-peeped-in-Two : goal.returns-in_ok-peeped-in-Two
returns-in_ok-peeped-in-Two c =
    let h = c.in_ok-peeped-in-Two.ensures in
    let d = c.in_ok-peeped-in-Two.peeped.code in
    let starts' = c.in_ok-peeped-in-Two.peeped.starts.items in
    let parts = c.into_parts-code.ensures in
    without-two c.args.object c.in-Two.tagged c.new-in-Two.result d c.into_parts-code.result.1.items starts' c.in-Two.is c.new-in-Two.ensures parts.exceptions
    (subst (λ (v : CodeView). IsShorterCode v c.in-Two.tagged.starts d starts') parts.code
    (subst (λ (l : List ℕ). IsShorterCode c.into_parts-code.result.0 l d starts') parts.starts
    (record { params = h.params; lawful = h.lawful; agrees = h.agrees; kept = h.kept; without = h.without; settled = h.settled })))
