use Rattle.std.proofs.Common.{◌∙◌, sym, ap, arith}
use Rattle.std.specs.List.{list_all}
use Rattle.ssu_ir.specs.inner.Checks.{addressed}
use Rattle.ssu_ir.specs.inner.Under.{tree_at}
use Rattle.ssu_ir.proofs.Unders.{present_tree, one_kid, two_kids}
use Rattle.ssu_ir.proofs.Searches.{address_here, address_none, address_one, address_two, by_failing, by_passing, done_name, next_name}
use Rattle.ssu_ir.proofs.search.+accesses.Goals as goal

pub addressed-node-n-requires : goal.addressed-node-n-requires
addressed-node-n-requires t c = present_tree _ _ c.requires

pub addressed-returns-then-not-fits : goal.addressed-returns-then-not-fits
addressed-returns-then-not-fits t c = address_here _ _ _ _ _ c.requires c.node-n.ensures (sym c.fits.ensures ∙ c.if-not-fits.true)

pub addressed-returns-in-None : goal.addressed-returns-in-None
addressed-returns-in-None t c = address_none _ _ _ _ _ c.requires c.node-n.ensures c.in-None.ensures (sym c.fits.ensures ∙ c.if-not-fits.false)

pub addressed-all_addressed-requires : goal.addressed-all_addressed-requires
addressed-all_addressed-requires t c = let o = one_kid _ _ _ _ c.requires c.node-n.ensures c.in-One.ensures in (omega (arith, c.decreases, o.kid.lighter), o.kid.has)

pub addressed-returns-else-all_addressed : goal.addressed-returns-else-all_addressed
addressed-returns-else-all_addressed t c = c.if-all_addressed.false ∙ (by_failing _ _ _ (sym (c.all_addressed.ensures ∙ ap (λ l. list_all (λ z. addressed c.args.number z (tree_at c.args.s.now.nodes.slots c.in-One.k.0)) l) c.clones_from.ensures) ∙ c.if-all_addressed.false) (address_one _ _ _ _ _ _ c.requires c.node-n.ensures c.in-One.ensures (sym c.fits.ensures ∙ c.if-not-fits.false)))

pub addressed-returns-then-is_defined : goal.addressed-returns-then-is_defined
addressed-returns-then-is_defined t c = c.if-is_defined.true ∙ (done_name _ _ _ _ (sym (c.all_addressed.ensures ∙ ap (λ l. list_all (λ z. addressed c.args.number z (tree_at c.args.s.now.nodes.slots c.in-One.k.0)) l) c.clones_from.ensures) ∙ c.if-all_addressed.true) (sym c.is_defined.ensures ∙ c.if-is_defined.true) (address_one _ _ _ _ _ _ c.requires c.node-n.ensures c.in-One.ensures (sym c.fits.ensures ∙ c.if-not-fits.false)))

pub addressed-addressed-requires : goal.addressed-addressed-requires
addressed-addressed-requires t c = let o = one_kid _ _ _ _ c.requires c.node-n.ensures c.in-One.ensures in (omega (arith, c.decreases, o.kid.lighter), o.kid.has)

pub addressed-returns-else-is_defined : goal.addressed-returns-else-is_defined
addressed-returns-else-is_defined t c = next_name _ _ _ _ _ (sym (c.all_addressed.ensures ∙ ap (λ l. list_all (λ z. addressed c.args.number z (tree_at c.args.s.now.nodes.slots c.in-One.k.0)) l) c.clones_from.ensures) ∙ c.if-all_addressed.true) (sym c.is_defined.ensures ∙ c.if-is_defined.false) c.addressed.ensures (address_one _ _ _ _ _ _ c.requires c.node-n.ensures c.in-One.ensures (sym c.fits.ensures ∙ c.if-not-fits.false))

pub addressed-addressed-requires-in-Two : goal.addressed-addressed-requires-in-Two
addressed-addressed-requires-in-Two t c = let o = two_kids _ _ _ _ _ c.requires c.node-n.ensures c.in-Two.ensures in (omega (arith, c.decreases, o.first.lighter), o.first.has)

pub addressed-returns-else-addressed : goal.addressed-returns-else-addressed
addressed-returns-else-addressed t c = c.if-addressed.false ∙ (by_failing _ _ _ (sym c.addressed-in-Two.ensures ∙ c.if-addressed.false) (address_two _ _ _ _ _ _ _ c.requires c.node-n.ensures c.in-Two.ensures (sym c.fits.ensures ∙ c.if-not-fits.false)))

pub addressed-addressed-requires-then-addressed : goal.addressed-addressed-requires-then-addressed
addressed-addressed-requires-then-addressed t c = let o = two_kids _ _ _ _ _ c.requires c.node-n.ensures c.in-Two.ensures in (omega (arith, c.decreases, o.second.lighter), o.second.has)

pub addressed-returns-then-addressed : goal.addressed-returns-then-addressed
addressed-returns-then-addressed t c = by_passing _ _ _ _ (sym c.addressed-in-Two.ensures ∙ c.if-addressed.true) c.addressed-then-addressed.ensures (address_two _ _ _ _ _ _ _ c.requires c.node-n.ensures c.in-Two.ensures (sym c.fits.ensures ∙ c.if-not-fits.false))
