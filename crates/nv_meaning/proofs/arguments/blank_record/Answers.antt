use Rattle.std.proofs.Common.{◌≡◌, ◌∙◌, ap, sym, subst, take, length, arith, IfOk}
use Rattle.nv_ast.specs.Tree.{NamedLayout}
use Rattle.nv_ast.specs.LayoutView.{layout_tree}
use Rattle.nv_ast.specs.Outline.{outline}
use Rattle.nv_ast.specs.Types.{unpacked_ty}
use Rattle.nv_meaning_values.specs.Values.{Record}
use Rattle.nv_meaning_values.specs.Packing.{value_at}
use Rattle.nv_meaning.specs.inner.Blanks.{blank}
use Rattle.nv_meaning_values.specs.inner.TableView.{declared_in}
use Rattle.nv_meaning_values.specs.inner.View.{view, list_named_values}
use Rattle.nv_meaning_values.proofs.NameIndices.{all-laid}
use Rattle.nv_meaning_values.proofs.Rows.{record_view}
use Rattle.nv_meaning.proofs.Filling.{blank-record, packed-none}
use Rattle.nv_meaning.proofs.arguments.blank_record.Goals as goal

pub returns-in-Some : goal.returns-in-Some
returns-in-Some c =
    let known = (declared_in c.args.t.now).layouts in
    let n : c.len.result ≡ length c.args.t.now.layouts.items = omega (arith, c.len.ensures, c.args.t.now.layouts.ok.0) in
    let all = all-laid c.args.t.now.layouts.items c.len.result n in
    let e = ap (λ k. outline k (NamedLayout c.args.x.now)) (sym all) ∙ c.in-Some.ensures.outline in
    let o = outline (take c.in-Some.limit known) (layout_tree c.in-Some.l.now) in
    subst (λ p. IfOk c.record.result (λ u. view u ≡ blank (unpacked_ty p))) (sym e)
    (subst (λ v. IfOk c.record.result (λ u. view u ≡ v)) (ap (value_at o) packed-none ∙ blank-record o) c.record.ensures)

pub returns-in-None : goal.returns-in-None
returns-in-None c =
    let n : c.len.result ≡ length c.args.t.now.layouts.items = omega (arith, c.len.ensures, c.args.t.now.layouts.ok.0) in
    let all = all-laid c.args.t.now.layouts.items c.len.result n in
    let e = ap (λ k. outline k (NamedLayout c.args.x.now)) (sym all) ∙ c.in-None.ensures.outline in
    record_view c.new.result ∙ ap (λ l. Record (list_named_values l)) c.new.ensures.items ∙ sym (ap (λ o. blank (unpacked_ty o)) e)
