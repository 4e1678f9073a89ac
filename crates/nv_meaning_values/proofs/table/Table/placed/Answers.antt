use Rattle.std.proofs.Common.{◌∙◌, ap, sym, map, [], arith}
use Rattle.nv_meaning_values.specs.inner.Tables.{place_from, laid, layout_pairs}
use Rattle.nv_meaning_values.specs.inner.Sizes.{sizes_of}
use Rattle.nv_meaning_values.proofs.table.Table.placed.Goals as goal

pub sizes-requires : goal.sizes-requires
sizes-requires c = λ x.
    c.in_ok-layout_places.ensures x ∙ ap (λ l. place_from 0 x (map (λ k. k.0.now) l)) (c.deref-2.ensures.value ∙ sym c.deref-4.ensures.value)

pub invariant_of-result : goal.invariant_of-result
invariant_of-result c = record {
  few_exceptions = omega arith;
  functions_found = λ x. c.in_ok-function_places.ensures x ∙ ap (λ l. place_from 0 x (map (λ f. f.now.name) l)) c.deref.ensures.value;
  layouts_found = λ x. c.in_ok-layout_places.ensures x ∙ ap (λ l. place_from 0 x (map (λ k. k.0.now) l)) c.deref-2.ensures.value;
  sizes_known = c.in_ok-sizes.ensures ∙ ap (λ l. sizes_of (laid [] (layout_pairs l))) c.deref-4.ensures.value;
  exceptions_found = λ x. c.in_ok-exception_places.ensures x ∙ ap (λ l. place_from 0 x (map (λ y. y.now) l)) c.deref-3.ensures.value;
}
