use Rattle.std.proofs.Common.{◌≡◌, ◌∙◌, ◌+◌, ◌/◌, ap, take, length, arith}
use Rattle.std.proofs.lemmas.List.{length-replicate}
use Rattle.nv_base.specs.declared.term.Atom.TheVariants.{Lit}
use Rattle.nv_ast.specs.LayoutView.{layout_tree}
use Rattle.nv_ast.specs.Outline.{outline}
use Rattle.nv_ast.specs.Types.{packed_words}
use Rattle.nv_meaning_values.specs.inner.TableView.{declared_in}
use Rattle.nv_meaning.proofs.Writing.{back-all, bits-within}
use Rattle.nv_flatten_values.specs.inner.Symbols.{words_symbol, value_in}
use Rattle.nv_flatten_values.specs.inner.View.{view}
use Rattle.nv_flatten_values.specs.inner.Written.{packed_layout}
use Rattle.nv_flatten_values.proofs.PackedWords.{packs}
use Rattle.nv_flatten_values.proofs.WordLets.{lets-written}
use Rattle.nv_flatten_values.proofs.PackedSteps.{narrow-written, few-written}
use Rattle.nv_flatten_values.proofs.layouts.written.Goals as goal

pub write_layout-requires-clause-inside : goal.write_layout-requires-clause-inside
write_layout-requires-clause-inside c =
    let l = ap length (c.deref_mut.ensures.value ∙ c.in_ok-words.ensures) ∙ length-replicate _ (Lit 0) in
    omega (arith, c.requires)

pub write_layout-requires-clause-few : goal.write_layout-requires-clause-few
write_layout-requires-clause-few c =
    let l = ap length (c.deref_mut.ensures.value ∙ c.in_ok-words.ensures) ∙ length-replicate _ (Lit 0) in
    omega (arith, c.requires)

pub returns-clause-packs : goal.returns-clause-packs
returns-clause-packs c =
    let o = outline (take c.args.limit (declared_in c.args.t.now).layouts) (layout_tree c.args.l.now) in
    let n = (c.args.bits + 31) / 32 in
    let same = ap length c.deref_mut.ensures.value in
    let long = c.in-Ok.ensures.writes.long in
    let new : length c.write_layout.new.words ≡ length c.in_ok-words.words.items = long ∙ same in
    let all : c.in_ok-words.words.len ≡ length c.in_ok-words.words.items = omega (arith, c.in_ok-words.words.ok.0) in
    let count : n ≡ packed_words o = omega (arith, c.requires) in
    packs o c.args.next.now c.write_layout.new.next n (view c.args.s.now) c.new-steps.result.items c.write_layout.new.steps.items c.deref_mut.result.now c.write_layout.new.words (view c.in-Ok-symbol_of_words.found)
    c.in-Ok.ensures.writes c.new-steps.ensures.items (c.deref_mut.ensures.value ∙ c.in_ok-words.ensures) count
    (c.in-Ok-symbol_of_words.ensures ∙ ap words_symbol (c.deref.ensures.value ∙ back-all c.write_layout.new.words c.in_ok-words.words.items c.in_ok-words.words.len new all))

pub returns-clause-well : goal.returns-clause-well
returns-clause-well c =
    let n = (c.args.bits + 31) / 32 in
    let same = ap length c.deref_mut.ensures.value in
    let long = c.in-Ok.ensures.writes.long in
    let new : length c.write_layout.new.words ≡ length c.in_ok-words.words.items = long ∙ same in
    let all : c.in_ok-words.words.len ≡ length c.in_ok-words.words.items = omega (arith, c.in_ok-words.words.ok.0) in
    lets-written c.args.next.now c.write_layout.new.next n (view c.args.s.now) (view c.in-Ok-symbol_of_words.found) c.new-steps.result.items c.write_layout.new.steps.items c.deref_mut.result.now c.write_layout.new.words
    c.in-Ok.ensures.well c.new-steps.ensures.items (c.deref_mut.ensures.value ∙ c.in_ok-words.ensures)
    (c.in-Ok-symbol_of_words.ensures ∙ ap words_symbol (c.deref.ensures.value ∙ back-all c.write_layout.new.words c.in_ok-words.words.items c.in_ok-words.words.len new all))

pub returns-clause-narrow : goal.returns-clause-narrow
returns-clause-narrow c =
    let n = (c.args.bits + 31) / 32 in
    let same = ap length c.deref_mut.ensures.value in
    let long = c.in-Ok.ensures.writes.long in
    let new : length c.write_layout.new.words ≡ length c.in_ok-words.words.items = long ∙ same in
    let all : c.in_ok-words.words.len ≡ length c.in_ok-words.words.items = omega (arith, c.in_ok-words.words.ok.0) in
    narrow-written (packed_layout (outline (take c.args.limit (declared_in c.args.t.now).layouts) (layout_tree c.args.l.now)) (view c.args.s.now)) n (view c.args.s.now) (view c.in-Ok-symbol_of_words.found) c.new-steps.result.items c.write_layout.new.steps.items c.deref_mut.result.now c.write_layout.new.words 0 _
    c.in-Ok.ensures.bounds c.new-steps.ensures.items (c.deref_mut.ensures.value ∙ c.in_ok-words.ensures)
    (c.in-Ok-symbol_of_words.ensures ∙ ap words_symbol (c.deref.ensures.value ∙ back-all c.write_layout.new.words c.in_ok-words.words.items c.in_ok-words.words.len new all))

pub returns-clause-small : goal.returns-clause-small
returns-clause-small c =
    let place = c.in-Ok.ensures.behind (λ x. 0) in
    let inside = bits-within (outline (take c.args.limit (declared_in c.args.t.now).layouts) (layout_tree c.args.l.now)) (value_in (λ x. 0) (view c.args.s.now)) in
    (λ sound can.
    few-written (outline (take c.args.limit (declared_in c.args.t.now).layouts) (layout_tree c.args.l.now)) (view c.args.s.now) c.new-steps.result.items c.write_layout.new.steps.items c.deref_mut.result.now c.write_layout.new.words _
    c.in-Ok.ensures.bounds c.new-steps.ensures.items (omega arith) sound can)
