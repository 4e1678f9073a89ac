use Rattle.std.proofs.Common.{◌∙◌, sym, ap, arith}
use Rattle.std.specs.List.{list_any}
use Rattle.std.proofs.lemmas.Bool.{not_from_true}
use Rattle.nv_base.specs.Sets.{is_in}
use Rattle.ssu_ir.specs.inner.Checks.{copy_used}
use Rattle.ssu_ir.specs.inner.Under.{tree_at}
use Rattle.ssu_ir.proofs.Unders.{present_tree, one_kid, two_kids}
use Rattle.ssu_ir.proofs.Searches.{copy_here, copy_none, copy_one, copy_two, by_first, by_second, gone_name, left_name}
use Rattle.ssu_ir.proofs.search.+copies.Goals as goal

pub copy_used-node-n-requires : goal.copy_used-node-n-requires
copy_used-node-n-requires t c = present_tree _ _ c.requires

pub copy_used-returns-then-is_use : goal.copy_used-returns-then-is_use
copy_used-returns-then-is_use t c = copy_here _ _ _ _ c.requires c.node-n.ensures (sym c.is_use.ensures ∙ c.if-is_use.true)

pub copy_used-returns-in-None : goal.copy_used-returns-in-None
copy_used-returns-in-None t c = copy_none _ _ _ _ c.requires c.node-n.ensures c.in-None.ensures (sym c.is_use.ensures ∙ c.if-is_use.false)

pub copy_used-any_used-requires : goal.copy_used-any_used-requires
copy_used-any_used-requires t c = let o = one_kid _ _ _ _ c.requires c.node-n.ensures c.in-One.ensures in (omega (arith, c.decreases, o.kid.lighter), o.kid.has)

pub copy_used-returns-then-any_used : goal.copy_used-returns-then-any_used
copy_used-returns-then-any_used t c = c.if-any_used.true ∙ (by_first _ _ _ (sym (c.any_used.ensures ∙ ap (λ l. list_any (λ z. copy_used z (tree_at c.args.s.now.nodes.slots c.in-One.k.0)) l) c.clones_from.ensures) ∙ c.if-any_used.true) (copy_one _ _ _ _ _ c.requires c.node-n.ensures c.in-One.ensures (sym c.is_use.ensures ∙ c.if-is_use.false)))

pub copy_used-returns-else-not-has : goal.copy_used-returns-else-not-has
copy_used-returns-else-not-has t c = not_from_true _ c.if-not-has.false ∙ (gone_name _ _ _ _ (sym (c.any_used.ensures ∙ ap (λ l. list_any (λ z. copy_used z (tree_at c.args.s.now.nodes.slots c.in-One.k.0)) l) c.clones_from.ensures) ∙ c.if-any_used.false) (sym (c.has.ensures ∙ ap (is_in c.args.x) c.clones.ensures) ∙ c.if-not-has.false) (copy_one _ _ _ _ _ c.requires c.node-n.ensures c.in-One.ensures (sym c.is_use.ensures ∙ c.if-is_use.false)))

pub copy_used-copy_used-requires : goal.copy_used-copy_used-requires
copy_used-copy_used-requires t c = let o = one_kid _ _ _ _ c.requires c.node-n.ensures c.in-One.ensures in (omega (arith, c.decreases, o.kid.lighter), o.kid.has)

pub copy_used-returns-then-not-has : goal.copy_used-returns-then-not-has
copy_used-returns-then-not-has t c = left_name _ _ _ _ _ (sym (c.any_used.ensures ∙ ap (λ l. list_any (λ z. copy_used z (tree_at c.args.s.now.nodes.slots c.in-One.k.0)) l) c.clones_from.ensures) ∙ c.if-any_used.false) (sym (c.has.ensures ∙ ap (is_in c.args.x) c.clones.ensures) ∙ c.if-not-has.true) c.copy_used.ensures (copy_one _ _ _ _ _ c.requires c.node-n.ensures c.in-One.ensures (sym c.is_use.ensures ∙ c.if-is_use.false))

pub copy_used-copy_used-requires-in-Two : goal.copy_used-copy_used-requires-in-Two
copy_used-copy_used-requires-in-Two t c = let o = two_kids _ _ _ _ _ c.requires c.node-n.ensures c.in-Two.ensures in (omega (arith, c.decreases, o.first.lighter), o.first.has)

pub copy_used-returns-then-copy_used : goal.copy_used-returns-then-copy_used
copy_used-returns-then-copy_used t c = c.if-copy_used.true ∙ (by_first _ _ _ (sym c.copy_used-in-Two.ensures ∙ c.if-copy_used.true) (copy_two _ _ _ _ _ _ c.requires c.node-n.ensures c.in-Two.ensures (sym c.is_use.ensures ∙ c.if-is_use.false)))

pub copy_used-copy_used-requires-else-copy_used : goal.copy_used-copy_used-requires-else-copy_used
copy_used-copy_used-requires-else-copy_used t c = let o = two_kids _ _ _ _ _ c.requires c.node-n.ensures c.in-Two.ensures in (omega (arith, c.decreases, o.second.lighter), o.second.has)

pub copy_used-returns-else-copy_used : goal.copy_used-returns-else-copy_used
copy_used-returns-else-copy_used t c = by_second _ _ _ _ (sym c.copy_used-in-Two.ensures ∙ c.if-copy_used.false) c.copy_used-else-copy_used.ensures (copy_two _ _ _ _ _ _ c.requires c.node-n.ensures c.in-Two.ensures (sym c.is_use.ensures ∙ c.if-is_use.false))
