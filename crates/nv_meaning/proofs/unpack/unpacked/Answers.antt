use Rattle.std.proofs.Common.{◌≡◌, ◌∙◌, ap, sym, subst, take, length, arith, IfOk}
use Rattle.nv_ast.specs.Bits.{packed}
use Rattle.nv_ast.specs.Tree.{NamedLayout}
use Rattle.nv_ast.specs.LayoutView.{layout_tree}
use Rattle.nv_ast.specs.Outline.{outline}
use Rattle.nv_meaning_values.specs.Values.{Record, words_of}
use Rattle.nv_meaning_values.specs.Packing.{value_at}
use Rattle.nv_meaning_values.specs.inner.TableView.{declared_in}
use Rattle.nv_meaning_values.specs.inner.View.{view, list_named_values}
use Rattle.nv_meaning_values.proofs.NameIndices.{all-laid}
use Rattle.nv_meaning_values.proofs.Rows.{record_view}
use Rattle.nv_meaning.proofs.unpack.unpacked.Goals as goal

pub returns-in-Some : goal.returns-in-Some
returns-in-Some c =
    let known = (declared_in c.args.t.now).layouts in
    let n : c.len-2.result ≡ length c.args.t.now.layouts.items = omega (arith, c.len-2.ensures, c.args.t.now.layouts.ok.0) in
    let all = all-laid c.args.t.now.layouts.items c.len-2.result n in
    let e = ap (λ k. outline k (NamedLayout c.args.x.now)) (sym all) ∙ c.in-Some.ensures.outline in
    let w = ap packed (c.deref.ensures.value ∙ c.in_ok-words.ensures) in
    subst (λ o. IfOk c.record.result (λ u. view u ≡ value_at o (packed (words_of (view c.args.v.now))))) (sym e)
    (subst (λ bs. IfOk c.record.result (λ u. view u ≡ value_at (outline (take c.in-Some.limit known) (layout_tree c.in-Some.l.now)) bs)) w c.record.ensures)

pub returns : goal.returns
returns c =
    let n : c.len-2.result ≡ length c.args.t.now.layouts.items = omega (arith, c.len-2.ensures, c.args.t.now.layouts.ok.0) in
    let all = all-laid c.args.t.now.layouts.items c.len-2.result n in
    let e = ap (λ k. outline k (NamedLayout c.args.x.now)) (sym all) ∙ c.in-None.ensures.outline in
    record_view c.new.result ∙ ap (λ l. Record (list_named_values l)) c.new.ensures.items ∙ sym (ap (λ o. value_at o (packed (words_of (view c.args.v.now)))) e)
