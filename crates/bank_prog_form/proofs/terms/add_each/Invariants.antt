use Rattle.std.proofs.Common.{◌≡◌, take}
use Rattle.std.specs.HashMap.{get}
use Rattle.bank_prog_form.specs.Program.{same_column}
use Rattle.bank_prog_form.specs.inner.Adds as adds
use Rattle.bank_prog_form.specs.inner.Adds.{Rising}
use Rattle.bank_prog_form.proofs.terms.add_each.Given as goal

abbrev pub invariant-loop-c : goal.invariant-loop-c
invariant-loop-c l = record {
  terms : l.terms.items ≡ adds.add_each (get same_column l.numbers) l.a (take l.c-index l.cs) l.initial.terms.items;
  rising : Rising 0 l.terms.items;
}
