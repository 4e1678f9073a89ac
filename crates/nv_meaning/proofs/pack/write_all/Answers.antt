use Rattle.std.proofs.Common.{length, take, arith}
use Rattle.nv_ast.specs.LayoutView.{layout_tree}
use Rattle.nv_ast.specs.Outline.{outline}
use Rattle.nv_meaning_values.specs.Packing.{bits_of}
use Rattle.nv_meaning_values.specs.inner.TableView.{declared_in}
use Rattle.nv_meaning_values.specs.inner.View.{view}
use Rattle.nv_meaning.proofs.Writing.{bits-within, blank-zeros, words-written}
use Rattle.nv_meaning.proofs.pack.write_all.Goals as goal

pub write_layout-requires-clause-blank : goal.write_layout-requires-clause-blank
write_layout-requires-clause-blank c = blank-zeros (length c.args.words.now) c.args.words.now c.requires.zeros

pub returns : goal.returns
returns c =
    let o = outline (take c.args.limit (declared_in c.args.t.now).layouts) (layout_tree c.args.l.now) in
    let short = bits-within o (view c.args.v.now) in
    words-written (length c.args.words.now) c.args.words.now c.write_layout.new.words (bits_of o (view c.args.v.now)) c.requires.zeros (omega arith) (λ i. omega (arith, c.type_inv.words i)) (omega (arith, c.requires.inside)) c.write_layout.ensures.words
