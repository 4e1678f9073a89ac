use Rattle.std.proofs.Common.{◌≡◌, ◌∙◌, ap, sym, subst, length, min, arith, IfOk}
use Rattle.std.below.core.specs.declared.int.u64.TheConstants.{MAX}
use Rattle.nv_ast.specs.Tree.{NamedLayout}
use Rattle.nv_ast.specs.Outline.{outline, size}
use Rattle.nv_meaning_values.specs.Values.{words_value}
use Rattle.nv_meaning_values.specs.Packing.{packed_value}
use Rattle.nv_meaning_values.specs.inner.View.{view}
use Rattle.nv_meaning_values.proofs.NameIndices.{all-laid}
use Rattle.nv_meaning.proofs.pack.packed.Goals as goal

pub packed_words-requires : goal.packed_words-requires
packed_words-requires c =
    let n : c.len.result ≡ length c.args.t.now.layouts.items = omega (arith, c.len.ensures, c.args.t.now.layouts.ok.0) in
    let all = all-laid c.args.t.now.layouts.items c.len.result n in
    let e = ap (λ k. outline k (NamedLayout c.args.x.now)) (sym all) ∙ c.in-Some.ensures.outline in
    c.size_of-bits.ensures ∙ ap (λ o. min (size o) MAX) e

pub returns-in_ok-words-in-Some : goal.returns-in_ok-words-in-Some
returns-in_ok-words-in-Some c =
    let n : c.len.result ≡ length c.args.t.now.layouts.items = omega (arith, c.len.ensures, c.args.t.now.layouts.ok.0) in
    let all = all-laid c.args.t.now.layouts.items c.len.result n in
    let e = ap (λ k. outline k (NamedLayout c.args.x.now)) (sym all) ∙ c.in-Some.ensures.outline in
    subst (λ o. IfOk c.value_of_words.result (λ u. view u ≡ packed_value o (view c.args.v.now))) (sym e)
    (subst (λ ws. IfOk c.value_of_words.result (λ u. view u ≡ words_value ws)) (c.deref.ensures.value ∙ c.in_ok-words-in-Some.ensures) c.value_of_words.ensures)

pub returns-in-None : goal.returns-in-None
returns-in-None c =
    let n : c.len.result ≡ length c.args.t.now.layouts.items = omega (arith, c.len.ensures, c.args.t.now.layouts.ok.0) in
    let all = all-laid c.args.t.now.layouts.items c.len.result n in
    let e = ap (λ k. outline k (NamedLayout c.args.x.now)) (sym all) ∙ c.in-None.ensures.outline in
    subst (λ o. IfOk c.value_of_words-in-None.result (λ u. view u ≡ packed_value o (view c.args.v.now))) (sym e) c.value_of_words-in-None.ensures
