use Rattle.std.proofs.Common.{◌≡◌, None, nat_eq, get_or, sym, ap, subst, ◌∙◌, arith, rules}
use Rattle.std.specs.HashMap.{get}
use Rattle.std.proofs.lemmas.List.{get_or_default}
use Rattle.ssu_ir.proofs.Reading.{read_in}
use Rattle.ssu_ir.specs.Slots.{bodies}
use Rattle.ssu_ir.specs.View.{placed_of}
use Rattle.ssu_ir.specs.Work.{nums}
use Rattle.ssu_liveness.specs.inner.Live.{first_of, sources_at}
use Rattle.ssu_liveness.proofs.RowSteps.{AllThere, there-all, there-at, sources-at, sourced-more, sourced-all}
use Rattle.ssu_liveness.proofs.copies.copies_of.Goals as goal

pub node-requires : goal.node-requires
node-requires c =
    let s = c.args.s.now in
    let stand = (read_in s.nodes.slots (bodies s.labels.items) s.formed).stand in
    let there = there-all s.nodes.slots (placed_of s) stand in
    let same = ap nums c.deref-id-items.ensures.value ∙ c.in_ok-order.ensures in
    there-at s.nodes.slots c.deref-id-items.result.now c.loop-id.id-index (record { 0 = 0 }) (subst (λ xs. AllThere s.nodes.slots xs) (sym same) there) (omega arith)

pub loop-id-init : goal.loop-id-init
loop-id-init c = λ z.
    let s = c.args.s.now in
    let stand = (read_in s.nodes.slots (bodies s.labels.items) s.formed).stand in
    let same = ap nums c.deref-id-items.ensures.value ∙ c.in_ok-order.ensures in
    let none : get nat_eq c.new-copies.result z ≡ None = search rules in
    ap (λ o. first_of o (sources_at s.nodes.slots (nums c.deref-id-items.result.now) z)) none
    ∙ ap (λ xs. sources_at s.nodes.slots xs z) same ∙ sym (sources-at s.nodes.slots (placed_of s) z stand)

pub loop-id-preserved : goal.loop-id-preserved
loop-id-preserved c = λ z.
    let s = c.args.s.now in
    let items = c.deref-id-items.result.now in
    let x = get_or items c.loop-id.id-index (record { 0 = 0 }) in
    sourced-more s.nodes.slots items c.loop-id.id-index x c.node.result.now (get nat_eq c.loop-id.copies z) (get nat_eq c.note_node.new.copies z) _ z
    (omega arith) (get_or_default items c.loop-id.id-index x (record { 0 = 0 }) (omega arith)) c.node.ensures (c.in_ok-note_node.ensures z) (c.loop-id.invariant z)

pub returns : goal.returns
returns c = λ z.
    sourced-all c.args.s.now.nodes.slots c.deref-id-items.result.now c.loop-id.id-index (get nat_eq c.loop-id.copies z) _ z (omega arith) (c.loop-id.invariant z)
