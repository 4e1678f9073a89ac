use Rattle.std.proofs.Common.{◌≡◌, ◌++◌, drop}
use Rattle.std.specs.List.{flat_map}
use Rattle.bank_prog_form.specs.inner.Form as form
use Rattle.bank_prog_form.proofs.runs.push_beginnings.Given as goal

abbrev pub invariant-loop-f : goal.invariant-loop-f
invariant-loop-f l = l.fs.items ++ flat_map (form.beginning l.m l.n) (drop l.f-index l.firsts) ≡ l.fn.fs.items ++ flat_map (form.beginning l.m l.n) l.firsts
