use Rattle.std.proofs.Common.{rules, ◌≡◌, ◌∙◌, ◌+◌, ℕ, zero, suc, ◌<◌, ◌++◌, true, false, not, length, take, drop, vec_len, inl, inr, refl, ap, sym, arith, length-append}
use Rattle.std.specs.Prelude.{◌==◌, IsTrue}
use Rattle.std.proofs.lemmas.Bool.Decides.{eqb_tells}
use Rattle.nv_ast.specs.Outline.{record_of, records_of}
use Rattle.nv_layout.specs.OutlineView.{outline_tree, list_outlines}
use Rattle.nv_layout.proofs.Rows.{parts_tree, overlay_tree}
use Rattle.nv_layout.proofs.Lists.{length-named, records_more, records_split}
use Rattle.nv_layout.proofs.record.+has_field.Goals as goal

empty_test : (n : ℕ) → (IsTrue (not (n == 0)) → 0 < n) × (0 < n → IsTrue (not (n == 0)))
empty_test n =
    elim (eqb_tells n 0) [
      | inl e ↦ (λ h. absurd (let both : true ≡ false = sym h ∙ ap not e.0 in let none : ⊥ = cc in none), λ h. absurd (let none : ⊥ = omega (arith, e.1) in none))
      | inr e ↦ (λ h. omega (arith, e.1), λ h. ap not e.0)
    ]

none_of : (n : ℕ) → (0 < n → IsTrue false) → n ≡ 0
none_of zero h = refl
none_of (suc n) h = let e : IsTrue false = h (omega arith) in cc

pub has_field-returns-in-Parts : goal.has_field-returns-in-Parts
has_field-returns-in-Parts t c =
    let fs = c.in-Parts.fs in
    let len : length (record_of (outline_tree c.args.o.now)) ≡ length fs.items =
    elim c.in-Parts.is [
      | inl e ↦ ap (λ o. length (record_of (outline_tree o))) e ∙ ap (λ o. length (record_of o)) (parts_tree fs) ∙ length-named fs.items
      | inr e ↦ ap (λ o. length (record_of (outline_tree o))) e ∙ ap (λ o. length (record_of o)) (overlay_tree fs) ∙ length-named fs.items
    ] in
    let same : vec_len fs ≡ length fs.items = search rules in
    let test = empty_test (vec_len fs) in
    (λ h. omega (arith, len, same, test.0 (ap not (sym c.is_empty.ensures) ∙ h)), λ h. ap not c.is_empty.ensures ∙ test.1 (omega (arith, len, same, h)))

pub has_joined_field-returns-then-has_field : goal.has_joined_field-returns-then-has_field
has_joined_field-returns-then-has_field t c =
    let h : c.loop-o.o-index < length c.args.os.now = omega arith in
    let some : 0 < length (record_of (outline_tree c.o-item.result)) = c.if-has_field.ensures.0 refl in
    let before = records_of (list_outlines (take c.loop-o.o-index c.args.os.now)) in
    let here = record_of (outline_tree c.o-item.result) in
    let behind = records_of (list_outlines (drop (c.loop-o.o-index + 1) c.args.os.now)) in
    (λ e. omega (arith, some, ap length (records_split c.args.os.now c.loop-o.o-index c.o-item.result h c.o-item.is), length-append before (here ++ behind), length-append here behind), λ e. refl)

pub has_joined_field-loop-o-preserved : goal.has_joined_field-loop-o-preserved
has_joined_field-loop-o-preserved t c =
    let h : c.loop-o.o-index < length c.args.os.now = omega arith in
    let before = records_of (list_outlines (take c.loop-o.o-index c.args.os.now)) in
    let here = record_of (outline_tree c.o-item.result) in
    omega (arith, c.loop-o.invariant, none_of (length here) c.if-has_field.ensures.1, ap length (records_more c.args.os.now c.loop-o.o-index c.o-item.result h c.o-item.is), length-append before here)
