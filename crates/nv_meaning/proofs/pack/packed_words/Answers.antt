use Rattle.std.proofs.Common.{◌≡◌, ◌∙◌, ap, sym, take, length, replicate, arith}
use Rattle.std.proofs.lemmas.List.{length-replicate}
use Rattle.nv_ast.specs.LayoutView.{layout_tree}
use Rattle.nv_ast.specs.Outline.{outline}
use Rattle.nv_ast.specs.Types.{packed_words}
use Rattle.nv_meaning_values.specs.Packing.{bits_of, words_of_bits}
use Rattle.nv_meaning_values.specs.inner.TableView.{declared_in}
use Rattle.nv_meaning_values.specs.inner.View.{view}
use Rattle.nv_meaning.proofs.Writing.{length-words, back-all}
use Rattle.nv_meaning.proofs.pack.packed_words.Goals as goal

pub write_all-requires-clause-zeros : goal.write_all-requires-clause-zeros
write_all-requires-clause-zeros c =
    let zeros = c.deref_mut.ensures.value ∙ c.in_ok-words.ensures in
    zeros ∙ ap (λ k. replicate k 0) (sym (ap length zeros ∙ length-replicate _ 0))

pub write_all-requires-clause-inside : goal.write_all-requires-clause-inside
write_all-requires-clause-inside c =
    let l = ap length (c.deref_mut.ensures.value ∙ c.in_ok-words.ensures) ∙ length-replicate _ 0 in
    omega (arith, c.requires)

pub write_all-requires-clause-few : goal.write_all-requires-clause-few
write_all-requires-clause-few c =
    let l = ap length (c.deref_mut.ensures.value ∙ c.in_ok-words.ensures) ∙ length-replicate _ 0 in
    omega (arith, c.requires)

pub returns : goal.returns
returns c =
    let o = outline (take c.args.limit (declared_in c.args.t.now).layouts) (layout_tree c.args.l.now) in
    let n = ap length (c.deref_mut.ensures.value ∙ c.in_ok-words.ensures) ∙ length-replicate _ 0 in
    let same = ap length c.deref_mut.ensures.value in
    let made = ap length c.write_all.ensures ∙ length-words (length c.deref_mut.result.now) (bits_of o (view c.args.v.now)) in
    let new : length c.write_all.new.words ≡ length c.in_ok-words.words.items = omega arith in
    let all : c.in_ok-words.words.len ≡ length c.in_ok-words.words.items = omega (arith, c.in_ok-words.words.ok.0) in
    let count : length c.deref_mut.result.now ≡ packed_words o = omega (arith, n, c.requires) in
    back-all c.write_all.new.words c.in_ok-words.words.items c.in_ok-words.words.len new all ∙ c.write_all.ensures ∙ ap (λ k. words_of_bits k (bits_of o (view c.args.v.now))) count
