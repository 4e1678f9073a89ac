use Rattle.std.proofs.Common.{◌∙◌, ◌++◌, map, nat_eq, sym, ap, append_assoc}
use Rattle.std.specs.HashMap.{get}
use Rattle.ssu_ir.specs.Slots.{node_of}
use Rattle.ssu_ir.specs.Tree.{node_uses}
use Rattle.place_plan.specs.Uses as pure
use Rattle.place_plan.specs.inner.UseViews.{use_view}
use Rattle.ssu_liveness.specs.inner.Live.{value_by}
use Rattle.bank_prog_form.specs.inner.Form as form
use Rattle.bank_prog_form.proofs.Tabled.{uses-run}
use Rattle.bank_prog_form.proofs.tables.add_node_uses.Goals as goal

pub returns-in_ok-add_written-in-Write : goal.returns-in_ok-add_written-in-Write
returns-in_ok-add_written-in-Write c =
    let of = value_by (get nat_eq c.args.copies.now) in
    let old = map use_view c.args.uses.now.items in
    let first = form.use_of of c.args.k 0 c.in-Write.y pure.Address in
    let words = form.uses_from of c.args.k 1 (pure.Written c.in-Write.m) 0 c.deref.result.now in
    c.in_ok-add_written-in-Write.ensures ∙ ap (λ o. o ++ words) c.in_ok-add_use-in-Write.ensures ∙ append_assoc old first words
    ∙ ap (λ us. old ++ (first ++ us)) (ap (λ xs. form.uses_from of c.args.k 1 (pure.Written c.in-Write.m) 0 xs) c.deref.ensures ∙ uses-run of c.args.k 1 (pure.Written c.in-Write.m) 0 c.in-Write.xs.items)
    ∙ sym (ap (λ n. old ++ pure.uses_at c.args.k 0 (map of (node_uses (node_of n))) (pure.node_roles (node_of n))) c.in-Write.is)

pub returns-in_ok-add_arguments-in-Jump : goal.returns-in_ok-add_arguments-in-Jump
returns-in_ok-add_arguments-in-Jump c =
    let of = value_by (get nat_eq c.args.copies.now) in
    let old = map use_view c.args.uses.now.items in
    c.in_ok-add_arguments-in-Jump.ensures
    ∙ ap (λ us. old ++ us) (ap (λ xs. form.uses_from of c.args.k 0 (pure.Argument c.in-Jump.l) 0 xs) c.deref-in-Jump.ensures.value ∙ uses-run of c.args.k 0 (pure.Argument c.in-Jump.l) 0 c.in-Jump.xs.items)
    ∙ sym (ap (λ n. old ++ pure.uses_at c.args.k 0 (map of (node_uses (node_of n))) (pure.node_roles (node_of n))) c.in-Jump.is)

pub returns-in_ok-add_endings-in-Halt : goal.returns-in_ok-add_endings-in-Halt
returns-in_ok-add_endings-in-Halt c =
    let of = value_by (get nat_eq c.args.copies.now) in
    let old = map use_view c.args.uses.now.items in
    c.in_ok-add_endings-in-Halt.ensures
    ∙ ap (λ us. old ++ us) (ap (λ xs. form.uses_from of c.args.k 0 (pure.Ending) 0 xs) c.deref-in-Halt.ensures ∙ uses-run of c.args.k 0 (pure.Ending) 0 c.in-Halt.xs.items)
    ∙ sym (ap (λ n. old ++ pure.uses_at c.args.k 0 (map of (node_uses (node_of n))) (pure.node_roles (node_of n))) c.in-Halt.is)
