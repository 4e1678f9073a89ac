use Rattle.std.proofs.Common.{◌≡◌, ◌∙◌, ◌+◌, ◌++◌, ap, sym, subst, length, append-nil, arith, IfOk, OnOk}
use Rattle.nv_ast.specs.Tree.{NamedLayout}
use Rattle.nv_ast.specs.Outline.{outline}
use Rattle.nv_ast.specs.Types.{words, unpacked, form_of, unpacked_ty}
use Rattle.nv_meaning_values.proofs.NameIndices.{all-laid}
use Rattle.nv_flatten_values.specs.inner.Symbols.{Record, fresh, numbers_from}
use Rattle.nv_flatten_values.specs.inner.View.{view, list_named_symbols}
use Rattle.nv_flatten_values.proofs.Listing.{record-view}
use Rattle.nv_flatten_values.proofs.forms.of_record.Goals as goal

pub returns-in-Some-clause-symbol : goal.returns-in-Some-clause-symbol
returns-in-Some-clause-symbol c =
    let n : c.len.result ≡ length c.args.t.now.layouts.items = omega (arith, c.len.ensures, c.args.t.now.layouts.ok.0) in
    let all = all-laid c.args.t.now.layouts.items c.len.result n in
    let e = ap (λ k. outline k (NamedLayout c.args.x.now)) (sym all) ∙ c.in-Some.ensures.outline in
    subst (λ o. IfOk c.layout_record.result (λ s. view s ≡ fresh c.args.next.now (unpacked (form_of o)))) (sym e) c.layout_record.ensures.symbol

pub returns-in-Some-clause-next : goal.returns-in-Some-clause-next
returns-in-Some-clause-next c =
    let n : c.len.result ≡ length c.args.t.now.layouts.items = omega (arith, c.len.ensures, c.args.t.now.layouts.ok.0) in
    let all = all-laid c.args.t.now.layouts.items c.len.result n in
    let e = ap (λ k. outline k (NamedLayout c.args.x.now)) (sym all) ∙ c.in-Some.ensures.outline in
    subst (λ o. OnOk c.layout_record.result (c.layout_record.new.next ≡ c.args.next.now + words (unpacked (form_of o)))) (sym e) c.layout_record.ensures.next

pub returns-in-Some-clause-made : goal.returns-in-Some-clause-made
returns-in-Some-clause-made c =
    let n : c.len.result ≡ length c.args.t.now.layouts.items = omega (arith, c.len.ensures, c.args.t.now.layouts.ok.0) in
    let all = all-laid c.args.t.now.layouts.items c.len.result n in
    let e = ap (λ k. outline k (NamedLayout c.args.x.now)) (sym all) ∙ c.in-Some.ensures.outline in
    subst (λ o. OnOk c.layout_record.result (c.layout_record.new.made.items ≡ c.args.made.now.items ++ numbers_from c.args.next.now (words (unpacked (form_of o))))) (sym e) c.layout_record.ensures.made

pub returns-in-None-clause-symbol : goal.returns-in-None-clause-symbol
returns-in-None-clause-symbol c =
    let n : c.len.result ≡ length c.args.t.now.layouts.items = omega (arith, c.len.ensures, c.args.t.now.layouts.ok.0) in
    let all = all-laid c.args.t.now.layouts.items c.len.result n in
    let e = ap (λ k. outline k (NamedLayout c.args.x.now)) (sym all) ∙ c.in-None.ensures.outline in
    record-view c.new.result ∙ ap (λ l. Record (list_named_symbols l)) c.new.ensures.items ∙ sym (ap (λ o. fresh c.args.next.now (unpacked_ty o)) e)

pub returns-in-None-clause-next : goal.returns-in-None-clause-next
returns-in-None-clause-next c =
    let n : c.len.result ≡ length c.args.t.now.layouts.items = omega (arith, c.len.ensures, c.args.t.now.layouts.ok.0) in
    let all = all-laid c.args.t.now.layouts.items c.len.result n in
    let e = ap (λ k. outline k (NamedLayout c.args.x.now)) (sym all) ∙ c.in-None.ensures.outline in
    let w = ap (λ o. words (unpacked_ty o)) e in
    omega (arith, w)

pub returns-in-None-clause-made : goal.returns-in-None-clause-made
returns-in-None-clause-made c =
    let n : c.len.result ≡ length c.args.t.now.layouts.items = omega (arith, c.len.ensures, c.args.t.now.layouts.ok.0) in
    let all = all-laid c.args.t.now.layouts.items c.len.result n in
    let e = ap (λ k. outline k (NamedLayout c.args.x.now)) (sym all) ∙ c.in-None.ensures.outline in
    sym (append-nil c.args.made.now.items) ∙ sym (ap (λ o. c.args.made.now.items ++ numbers_from c.args.next.now (words (unpacked_ty o))) e)
