use Rattle.std.proofs.Common.{◌≡◌, ◌∙◌, ◌++◌, [], true, false, not, ℕ, ap, sym, subst}
use Rattle.std.proofs.lemmas.Result.{err_from_is_err_and}
use Rattle.nv_ast.specs.Outline.{record_of, sizes_of, named_list}
use Rattle.nv_ast.specs.Tests.{where_true, names_of, all_same}
use Rattle.nv_ast.specs.LayoutFaults.{same_field, different_sizes}
use Rattle.nv_layout.specs.OutlineView.{list_named_outlines}
use Rattle.nv_layout.specs.Shaping.{IsFirstOf}
use Rattle.nv_layout.proofs.Rows.{overlay_tree}
use Rattle.nv_layout.proofs.Walks.{first_append}
use Rattle.nv_layout.proofs.walk.overlay.Goals as goal

pub returns-in_err-o : goal.returns-in_err-o
returns-in_err-o c =
    let p = err_from_is_err_and c.from_residual-in_err-o.result c.from_residual-in_err-o.ensures.1 in
    rw (p.1, p.2) (first_append _ _ c.in_err-o.field-0.0 (subst (λ o. IsFirstOf (same_field (names_of (record_of o))) c.in_err-o.field-0.0) (overlay_tree c.args.alternatives) c.in_err-o.ensures))

pub returns-then-not-one_size : goal.returns-then-not-one_size
returns-then-not-one_size c =
    let items = c.args.alternatives.items in
    let none : same_field (names_of (named_list (list_named_outlines items))) ≡ [] = ap (λ o. same_field (names_of (record_of o))) (sym (overlay_tree c.args.alternatives)) ∙ c.in_ok-o.ensures.0 in
    let differ : all_same (sizes_of (list_named_outlines items)) ≡ false = ap (λ l. all_same (sizes_of (list_named_outlines l))) (sym c.deref.ensures.value) ∙ sym c.in_ok-one_size.ensures ∙ c.if-not-one_size.true in
    ([], ap (λ l. l ++ different_sizes (sizes_of (list_named_outlines items))) none ∙ ap (λ b. where_true {A = ℕ} (not b) 6) differ)

pub returns : goal.returns
returns c =
    let items = c.args.alternatives.items in
    let none : same_field (names_of (named_list (list_named_outlines items))) ≡ [] = ap (λ o. same_field (names_of (record_of o))) (sym (overlay_tree c.args.alternatives)) ∙ c.in_ok-o.ensures.0 in
    let same : all_same (sizes_of (list_named_outlines items)) ≡ true = ap (λ l. all_same (sizes_of (list_named_outlines l))) (sym c.deref.ensures.value) ∙ sym c.in_ok-one_size.ensures ∙ c.if-not-one_size.false in
    (ap (λ l. l ++ different_sizes (sizes_of (list_named_outlines items))) none ∙ ap (λ b. where_true {A = ℕ} (not b) 6) same, c.in_ok-o.ensures.1 ∙ overlay_tree c.args.alternatives)
