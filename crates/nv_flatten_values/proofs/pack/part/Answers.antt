use Rattle.std.proofs.Common.{◌≡◌, subst, true, false, MatchOption}
use Rattle.nv_base.specs.declared.term.Atom.TheVariants.{Lit}
use Rattle.nv_flatten_values.specs.inner.Reads.{has_symbol}
use Rattle.nv_flatten_values.specs.inner.Symbols.{NamedSymbols, Word, field_named}
use Rattle.nv_flatten_values.specs.inner.View.{view}
use Rattle.nv_flatten_values.proofs.pack.part.Goals as goal

pub returns : goal.returns
returns c =
    subst (λ (fs : NamedSymbols). MatchOption c.part_among.result ((has_symbol c.args.x.now fs ≡ false) × (field_named c.args.x.now fs ≡ Word (Lit 0))) (λ p. (has_symbol c.args.x.now fs ≡ true) × (field_named c.args.x.now fs ≡ view p.now))) c.fields_in.ensures c.part_among.ensures
