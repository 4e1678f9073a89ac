use Rattle.std.proofs.Common.{◌≡◌, [], take}
use Rattle.nv_meaning_values.specs.inner.Tables.{laid, layout_pairs}
use Rattle.nv_meaning_values.specs.inner.Sizes.{sizes_of}
use Rattle.nv_meaning_values.proofs.sizes.sizes.Given as goal

abbrev pub invariant-loop-l : goal.invariant-loop-l
invariant-loop-l l = l.sizes.items ≡ sizes_of (laid [] (layout_pairs (take l.l-index l.layouts)))
