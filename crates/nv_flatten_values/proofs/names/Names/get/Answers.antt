use Rattle.std.proofs.Common.{subst}
use Rattle.nv_flatten_values.specs.inner.Bounded.{AreOnce}
use Rattle.nv_flatten_values.proofs.NamedOnce.{named-once}
use Rattle.nv_flatten_values.proofs.names.Names.get.Goals as goal

pub returns-clause-once : goal.returns-clause-once
returns-clause-once c = subst AreOnce c.self.view_is (named-once c.self.inside.entries.keys c.as_slice.ensures.unique)
