use Rattle.std.proofs.Common.{◌≡◌, ◌∙◌, ap, sym, refl, Some, slice_get, arith}
use Rattle.nv_ast.specs.Types.{Ty, WordTy, same_type, words_ty}
use Rattle.nv_types_table.specs.declared.table.Cell.TheVariants.{Tuple}
use Rattle.nv_types_table.specs.inner.Store.{tuple_of}
use Rattle.nv_types_table.proofs.WordLists.{tuple_some, words_one, same_turned, tuple_of_words, tuple_of_others}
use Rattle.nv_types_table.proofs.table.Table.is_words.Goals as goal

pub returns-then-n-eq1 : goal.returns-then-n-eq1
returns-then-n-eq1 c = λ u h.
    c.is_same.ensures u WordTy h refl ∙ same_turned u WordTy ∙ ap (λ (t : Ty). same_type t u) (sym (words_one c.args.n c.if-n-eq1.true))

pub returns-then-facts : goal.returns-then-facts
returns-then-facts c = λ u h.
    let at : slice_get c.args.self.now.cells c.args.t ≡ Some (Tuple c.in-Some-Tuple.parts) = cc in
    let q = tuple_some c.args.self.now c.in-Some-Tuple.ensures.store c.args.t c.in-Some-Tuple.parts u h (ap tuple_of at) in
    tuple_of_words c.known-facts.result c.args.n q.0 c.if-n-eq1.false (omega (arith, c.ranges.n.fits)) (c.known-facts.ensures.of_parts q.0 q.2) c.if-facts.true
    ∙ ap (same_type (words_ty c.args.n)) (sym q.1)

pub returns-else-facts : goal.returns-else-facts
returns-else-facts c = λ u h.
    let at : slice_get c.args.self.now.cells c.args.t ≡ Some (Tuple c.in-Some-Tuple.parts) = cc in
    let q = tuple_some c.args.self.now c.in-Some-Tuple.ensures.store c.args.t c.in-Some-Tuple.parts u h (ap tuple_of at) in
    tuple_of_others c.known-facts.result c.args.n q.0 c.if-n-eq1.false (c.known-facts.ensures.of_parts q.0 q.2) c.if-facts.false
    ∙ ap (same_type (words_ty c.args.n)) (sym q.1)
