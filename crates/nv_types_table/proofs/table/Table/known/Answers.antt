use Rattle.std.proofs.Common.{◌≡◌, ◌∙◌, ap, sym, subst}
use Rattle.nv_types_table.specs.declared.table.Facts.{Facts}
use Rattle.nv_types_table.specs.inner.Cells.{fact_at}
use Rattle.nv_types_table.specs.inner.Named.{plain_names}
use Rattle.nv_types_table.specs.inner.Store.{Store, IsType, IsParts, IsFields}
use Rattle.nv_types_table.specs.inner.Knowing.{IsKnown, AreKnown, KnowsFields, IsFactOf}
use Rattle.nv_types_table.proofs.KnownTypes.{known_type, known_parts, known_fields}
use Rattle.nv_types_table.proofs.table.Table.known.Goals as goal

pub returns-clause-of_type : goal.returns-clause-of_type
returns-clause-of_type c = λ t h.
    let at : c.fact_at.result ≡ fact_at c.self.inside.facts.items c.args.i = c.fact_at.ensures ∙ ap (λ fs. fact_at fs c.args.i) c.deref.ensures.value in
    subst (λ (f : Facts). IsKnown f t) (sym at) (known_type (plain_names c.self.inside.names.keys) c.self.inside.cells.keys c.self.inside.facts.items c.self.invariant c.args.i t (subst (λ (s : Store). IsType s c.args.i t) (sym c.self.view_is) h))

pub returns-clause-of_parts : goal.returns-clause-of_parts
returns-clause-of_parts c = λ ts h.
    let at : c.fact_at.result ≡ fact_at c.self.inside.facts.items c.args.i = c.fact_at.ensures ∙ ap (λ fs. fact_at fs c.args.i) c.deref.ensures.value in
    subst (λ (f : Facts). AreKnown f ts) (sym at) (known_parts (plain_names c.self.inside.names.keys) c.self.inside.cells.keys c.self.inside.facts.items c.self.invariant c.args.i ts (subst (λ (s : Store). IsParts s c.args.i ts) (sym c.self.view_is) h))

pub returns-clause-of_fields : goal.returns-clause-of_fields
returns-clause-of_fields c = λ ts h.
    let at : c.fact_at.result ≡ fact_at c.self.inside.facts.items c.args.i = c.fact_at.ensures ∙ ap (λ fs. fact_at fs c.args.i) c.deref.ensures.value in
    subst (λ (f : Facts). KnowsFields f ts) (sym at) (known_fields (plain_names c.self.inside.names.keys) c.self.inside.cells.keys c.self.inside.facts.items c.self.invariant c.args.i ts (subst (λ (s : Store). IsFields s c.args.i ts) (sym c.self.view_is) h))

pub returns-clause-of_cells : goal.returns-clause-of_cells
returns-clause-of_cells c =
    let at : c.fact_at.result ≡ fact_at c.self.inside.facts.items c.args.i = c.fact_at.ensures ∙ ap (λ fs. fact_at fs c.args.i) c.deref.ensures.value in
    subst (λ (s : Store). IsFactOf s c.args.i c.fact_at.result) c.self.view_is (record { facts = c.self.inside.facts.items; of_cells = c.self.invariant; here = at })
