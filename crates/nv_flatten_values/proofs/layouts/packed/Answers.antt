use Rattle.std.proofs.Common.{◌≡◌, ◌∙◌, [], refl, ap, sym, subst, length, min, true, arith, IfOk}
use Rattle.std.proofs.lemmas.Result.{IfOk-weaker}
use Rattle.nv_ast.specs.Tree.{NamedLayout}
use Rattle.nv_ast.specs.Outline.{OutlineTree, outline, size, IsSound}
use Rattle.nv_ast.specs.Types.{form_of, can_pack}
use Rattle.nv_meaning_values.specs.inner.TableView.{declared_in}
use Rattle.nv_meaning_values.proofs.NameIndices.{all-laid}
use Rattle.nv_flatten_values.specs.inner.Symbols.{form, operands}
use Rattle.nv_flatten_values.specs.inner.View.{view}
use Rattle.nv_flatten_values.specs.inner.Small.{PacksFew}
use Rattle.nv_flatten_values.specs.inner.Reads.{Packs}
use Rattle.nv_flatten_values.proofs.PackedWords.{packs-nothing}
use Rattle.nv_flatten_values.proofs.WordLets.{lets-empty}
use Rattle.nv_flatten_values.proofs.PackedSteps.{narrow-empty, few-empty}
use Rattle.nv_flatten_values.proofs.layouts.packed.Goals as goal

pub written-requires : goal.written-requires
written-requires c =
    let n : c.len.result ≡ length c.args.t.now.layouts.items = omega (arith, c.len.ensures, c.args.t.now.layouts.ok.0) in
    let all = all-laid c.args.t.now.layouts.items c.len.result n in
    let e = ap (λ k. outline k (NamedLayout c.args.l.now)) (sym all) ∙ c.in-Some.ensures.outline in
    c.size_of-bits.ensures ∙ ap (λ o. min (size o) 18446744073709551615) e

pub returns-in-Some-clause-value : goal.returns-in-Some-clause-value
returns-in-Some-clause-value c =
    let n : c.len.result ≡ length c.args.t.now.layouts.items = omega (arith, c.len.ensures, c.args.t.now.layouts.ok.0) in
    let all = all-laid c.args.t.now.layouts.items c.len.result n in
    let e = ap (λ k. outline k (NamedLayout c.args.l.now)) (sym all) ∙ c.in-Some.ensures.outline in
    IfOk-weaker c.written.result _ _ (λ r m. λ sound can older env fits. m.value sound older env fits)
    (subst (λ (o : OutlineTree). IfOk c.written.result (λ r. Packs o c.args.next.now c.written.new.next (view c.args.s.now) r.steps.items (view r.symbol))) (sym e) c.written.ensures.packs)

pub returns-in-Some-clause-formed : goal.returns-in-Some-clause-formed
returns-in-Some-clause-formed c =
    let n : c.len.result ≡ length c.args.t.now.layouts.items = omega (arith, c.len.ensures, c.args.t.now.layouts.ok.0) in
    let all = all-laid c.args.t.now.layouts.items c.len.result n in
    let e = ap (λ k. outline k (NamedLayout c.args.l.now)) (sym all) ∙ c.in-Some.ensures.outline in
    IfOk-weaker c.written.result _ _ (λ r m. m.formed)
    (subst (λ (o : OutlineTree). IfOk c.written.result (λ r. Packs o c.args.next.now c.written.new.next (view c.args.s.now) r.steps.items (view r.symbol))) (sym e) c.written.ensures.packs)

pub returns-in-Some-clause-older : goal.returns-in-Some-clause-older
returns-in-Some-clause-older c = IfOk-weaker c.written.result _ _ (λ r m. m.older) c.written.ensures.packs

pub returns-in_ok-symbol-in-None-clause-value : goal.returns-in_ok-symbol-in-None-clause-value
returns-in_ok-symbol-in-None-clause-value c =
    let n : c.len.result ≡ length c.args.t.now.layouts.items = omega (arith, c.len.ensures, c.args.t.now.layouts.ok.0) in
    let all = all-laid c.args.t.now.layouts.items c.len.result n in
    let e = ap (λ k. outline k (NamedLayout c.args.l.now)) (sym all) ∙ c.in-None.ensures.outline in
    let m = packs-nothing (outline (declared_in c.args.t.now).layouts (NamedLayout c.args.l.now)) c.args.next.now (view c.args.s.now) c.new.result.items [] (view c.in_ok-symbol-in-None.symbol) e c.new.ensures.items refl c.in_ok-symbol-in-None.ensures in
    (λ sound can older env fits. m.value sound older env fits)

pub returns-in_ok-symbol-in-None-clause-formed : goal.returns-in_ok-symbol-in-None-clause-formed
returns-in_ok-symbol-in-None-clause-formed c =
    let n : c.len.result ≡ length c.args.t.now.layouts.items = omega (arith, c.len.ensures, c.args.t.now.layouts.ok.0) in
    let all = all-laid c.args.t.now.layouts.items c.len.result n in
    let e = ap (λ k. outline k (NamedLayout c.args.l.now)) (sym all) ∙ c.in-None.ensures.outline in
    let m = packs-nothing (outline (declared_in c.args.t.now).layouts (NamedLayout c.args.l.now)) c.args.next.now (view c.args.s.now) c.new.result.items [] (view c.in_ok-symbol-in-None.symbol) e c.new.ensures.items refl c.in_ok-symbol-in-None.ensures in
    m.formed

pub returns-in_ok-symbol-in-None-clause-older : goal.returns-in_ok-symbol-in-None-clause-older
returns-in_ok-symbol-in-None-clause-older c =
    let n : c.len.result ≡ length c.args.t.now.layouts.items = omega (arith, c.len.ensures, c.args.t.now.layouts.ok.0) in
    let all = all-laid c.args.t.now.layouts.items c.len.result n in
    let e = ap (λ k. outline k (NamedLayout c.args.l.now)) (sym all) ∙ c.in-None.ensures.outline in
    let m = packs-nothing (outline (declared_in c.args.t.now).layouts (NamedLayout c.args.l.now)) c.args.next.now (view c.args.s.now) c.new.result.items [] (view c.in_ok-symbol-in-None.symbol) e c.new.ensures.items refl c.in_ok-symbol-in-None.ensures in
    m.older

pub returns-in-Some-clause-well : goal.returns-in-Some-clause-well
returns-in-Some-clause-well c = IfOk-weaker c.written.result _ _ (λ r m sound can. m) c.written.ensures.well

pub returns-in_ok-symbol-in-None-clause-well : goal.returns-in_ok-symbol-in-None-clause-well
returns-in_ok-symbol-in-None-clause-well c = λ sound can. lets-empty c.args.next.now (view c.args.s.now) (view c.in_ok-symbol-in-None.symbol) c.new.result.items c.new.ensures.items c.in_ok-symbol-in-None.ensures

pub returns-in-Some-clause-narrow : goal.returns-in-Some-clause-narrow
returns-in-Some-clause-narrow c = c.written.ensures.narrow

pub returns-in-Some-clause-small : goal.returns-in-Some-clause-small
returns-in-Some-clause-small c =
    let n : c.len.result ≡ length c.args.t.now.layouts.items = omega (arith, c.len.ensures, c.args.t.now.layouts.ok.0) in
    let all = all-laid c.args.t.now.layouts.items c.len.result n in
    let e = ap (λ k. outline k (NamedLayout c.args.l.now)) (sym all) ∙ c.in-Some.ensures.outline in
    subst (λ (o : OutlineTree). IfOk c.written.result (λ r. IsSound o → can_pack (form_of o) (form (view c.args.s.now)) ≡ true → PacksFew o (operands (view c.args.s.now)) r.steps.items)) (sym e) c.written.ensures.small

pub returns-in_ok-symbol-in-None-clause-narrow : goal.returns-in_ok-symbol-in-None-clause-narrow
returns-in_ok-symbol-in-None-clause-narrow c = narrow-empty (view c.args.s.now) (view c.in_ok-symbol-in-None.symbol) c.new.result.items c.new.ensures.items c.in_ok-symbol-in-None.ensures

pub returns-in_ok-symbol-in-None-clause-small : goal.returns-in_ok-symbol-in-None-clause-small
returns-in_ok-symbol-in-None-clause-small c = λ sound can. few-empty (outline (declared_in c.args.t.now).layouts (NamedLayout c.args.l.now)) (view c.args.s.now) c.new.result.items c.new.ensures.items
