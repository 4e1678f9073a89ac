use Rattle.std.proofs.Common.{◌≡◌, ◌++◌, drop}
use Rattle.std.specs.List.{flat_map}
use Rattle.bank_prog_form.specs.inner.Form as form
use Rattle.bank_prog_form.specs.inner.Owners as owners
use Rattle.bank_prog_form.proofs.coverings.add_coverings_at.Given as goal

abbrev pub invariant-loop-f : goal.invariant-loop-f
invariant-loop-f l = l.cs.items ++ flat_map (owners.covering_at (form.access_view l.a) l.r) (drop l.f-index l.firsts) ≡ l.fn.cs.items ++ flat_map (owners.covering_at (form.access_view l.a) l.r) l.firsts
