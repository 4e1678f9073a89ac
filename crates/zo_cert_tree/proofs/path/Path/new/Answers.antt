use Rattle.std.proofs.Common.{◌≡◌, List, Option, Bool, None, length, replicate, sym, ap, ◌∙◌, subst, rules}
use Rattle.zo_cert_tree.specs.inner.Path.{HaveCosts, KeepsPlace}
use Rattle.zo_cert_tree.proofs.Paths.{begins, costs_valid}
use Rattle.zo_cert_tree.proofs.path.Path.new.Goals as goal

pub invariant_of-result : goal.invariant_of-result
invariant_of-result c =
    let costs : c.in_ok-from_slice.field-0.items ≡ c.args.z.now.costs.items = search rules in
    let places : c.in_ok-vec.field-0.items ≡ replicate c.len-columns.result None = search rules in
    let n : c.len-columns.result ≡ length c.in_ok-from_slice.field-0.items = search rules in
    let room : length c.in_ok-vec-2.field-0.items ≡ length c.in_ok-from_slice.field-0.items = search rules in
    let fit = costs_valid c.args.z.now c.requires.valid in
    subst (λ (f : List (Option Bool)). KeepsPlace c.in_ok-from_slice.field-0.items f c.in_ok-vec-2.field-0.items c.len-columns.result 0) (ap (λ m. replicate m None) (sym n) ∙ sym places) (begins c.in_ok-from_slice.field-0.items c.in_ok-vec-2.field-0.items c.len-columns.result (subst HaveCosts (sym costs) fit) room n)
