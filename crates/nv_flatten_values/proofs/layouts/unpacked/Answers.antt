use Rattle.std.proofs.Common.{◌≡◌, ◌∙◌, ◌*◌, ap, sym, subst, length, arith, IfOk}
use Rattle.std.proofs.lemmas.Result.{IfOk-weaker}
use Rattle.nv_ast.specs.Tree.{NamedLayout}
use Rattle.nv_ast.specs.Outline.{OutlineTree, outline, bit_fields}
use Rattle.nv_meaning_values.specs.inner.TableView.{declared_in}
use Rattle.nv_meaning_values.proofs.NameIndices.{all-laid}
use Rattle.nv_flatten_values.specs.inner.View.{view}
use Rattle.nv_flatten_values.specs.declared.symbol.Symbol as code
use Rattle.nv_flatten_values.specs.inner.Reads.{Unpacks}
use Rattle.nv_flatten_values.proofs.Reading.{unpacks-nothing}
use Rattle.nv_flatten_values.proofs.Rows.{record_view}
use Rattle.nv_flatten_values.proofs.Lets.{lets-nothing}
use Rattle.nv_flatten_values.specs.inner.Small.{AreFewLets}
use Rattle.nv_flatten_values.proofs.FewFields.{few-nothing, narrow-nothing}
use Rattle.nv_flatten_values.proofs.layouts.unpacked.Goals as goal

pub returns-in-Some-clause-value : goal.returns-in-Some-clause-value
returns-in-Some-clause-value c =
    let n : c.len.result ≡ length c.args.t.now.layouts.items = omega (arith, c.len.ensures, c.args.t.now.layouts.ok.0) in
    let all = all-laid c.args.t.now.layouts.items c.len.result n in
    let e = ap (λ k. outline k (NamedLayout c.args.l.now)) (sym all) ∙ c.in-Some.ensures.outline in
    IfOk-weaker c.record.result _ _ (λ r m. m.value)
    (subst (λ (o : OutlineTree). IfOk c.record.result (λ r. Unpacks o c.args.next.now c.record.new.next c.args.words.now r.steps.items (view r.symbol))) (sym e) c.record.ensures.unpacks)

pub returns-in-Some-clause-formed : goal.returns-in-Some-clause-formed
returns-in-Some-clause-formed c =
    let n : c.len.result ≡ length c.args.t.now.layouts.items = omega (arith, c.len.ensures, c.args.t.now.layouts.ok.0) in
    let all = all-laid c.args.t.now.layouts.items c.len.result n in
    let e = ap (λ k. outline k (NamedLayout c.args.l.now)) (sym all) ∙ c.in-Some.ensures.outline in
    IfOk-weaker c.record.result _ _ (λ r m. m.formed)
    (subst (λ (o : OutlineTree). IfOk c.record.result (λ r. Unpacks o c.args.next.now c.record.new.next c.args.words.now r.steps.items (view r.symbol))) (sym e) c.record.ensures.unpacks)

pub returns-in-Some-clause-older : goal.returns-in-Some-clause-older
returns-in-Some-clause-older c = IfOk-weaker c.record.result _ _ (λ r m. m.older) c.record.ensures.unpacks

pub returns-in-None-clause-value : goal.returns-in-None-clause-value
returns-in-None-clause-value c =
    let n : c.len.result ≡ length c.args.t.now.layouts.items = omega (arith, c.len.ensures, c.args.t.now.layouts.ok.0) in
    let all = all-laid c.args.t.now.layouts.items c.len.result n in
    let e = ap (λ k. outline k (NamedLayout c.args.l.now)) (sym all) ∙ c.in-None.ensures.outline in
    (unpacks-nothing (outline (declared_in c.args.t.now).layouts (NamedLayout c.args.l.now)) c.args.next.now c.args.words.now c.new.result.items c.new-in-None.result.items (view (code.Record c.new-in-None.result)) e c.new.ensures.items c.new-in-None.ensures.items (record_view c.new-in-None.result)).value

pub returns-in-None-clause-formed : goal.returns-in-None-clause-formed
returns-in-None-clause-formed c =
    let n : c.len.result ≡ length c.args.t.now.layouts.items = omega (arith, c.len.ensures, c.args.t.now.layouts.ok.0) in
    let all = all-laid c.args.t.now.layouts.items c.len.result n in
    let e = ap (λ k. outline k (NamedLayout c.args.l.now)) (sym all) ∙ c.in-None.ensures.outline in
    (unpacks-nothing (outline (declared_in c.args.t.now).layouts (NamedLayout c.args.l.now)) c.args.next.now c.args.words.now c.new.result.items c.new-in-None.result.items (view (code.Record c.new-in-None.result)) e c.new.ensures.items c.new-in-None.ensures.items (record_view c.new-in-None.result)).formed

pub returns-in-None-clause-older : goal.returns-in-None-clause-older
returns-in-None-clause-older c =
    let n : c.len.result ≡ length c.args.t.now.layouts.items = omega (arith, c.len.ensures, c.args.t.now.layouts.ok.0) in
    let all = all-laid c.args.t.now.layouts.items c.len.result n in
    let e = ap (λ k. outline k (NamedLayout c.args.l.now)) (sym all) ∙ c.in-None.ensures.outline in
    (unpacks-nothing (outline (declared_in c.args.t.now).layouts (NamedLayout c.args.l.now)) c.args.next.now c.args.words.now c.new.result.items c.new-in-None.result.items (view (code.Record c.new-in-None.result)) e c.new.ensures.items c.new-in-None.ensures.items (record_view c.new-in-None.result)).older

pub returns-in-Some-clause-well : goal.returns-in-Some-clause-well
returns-in-Some-clause-well c = IfOk-weaker c.record.result _ _ (λ r m sound long. m) c.record.ensures.well

pub returns-in-None-clause-well : goal.returns-in-None-clause-well
returns-in-None-clause-well c = λ sound long. lets-nothing c.args.next.now c.args.words.now c.new.result.items c.new-in-None.result.items (view (code.Record c.new-in-None.result)) c.new.ensures.items c.new-in-None.ensures.items (record_view c.new-in-None.result)

pub returns-in-Some-clause-small : goal.returns-in-Some-clause-small
returns-in-Some-clause-small c =
    let n : c.len.result ≡ length c.args.t.now.layouts.items = omega (arith, c.len.ensures, c.args.t.now.layouts.ok.0) in
    let all = all-laid c.args.t.now.layouts.items c.len.result n in
    let e = ap (λ k. outline k (NamedLayout c.args.l.now)) (sym all) ∙ c.in-Some.ensures.outline in
    subst (λ (o : OutlineTree). IfOk c.record.result (λ r. AreFewLets r.steps.items (4 * length (bit_fields 0 o)))) (sym e) c.record.ensures.small

pub returns-in-None-clause-narrow : goal.returns-in-None-clause-narrow
returns-in-None-clause-narrow c =
    narrow-nothing c.args.words.now c.new.result.items c.new-in-None.result.items (view (code.Record c.new-in-None.result)) c.new.ensures.items c.new-in-None.ensures.items (record_view c.new-in-None.result)

pub returns-in-None-clause-small : goal.returns-in-None-clause-small
returns-in-None-clause-small c = few-nothing c.new.result.items _ c.new.ensures.items
