use Rattle.std.proofs.Common.{refl, rules}
use Rattle.ucode_emit.proofs.Keeping.{counted-blank, none-in, none-counted}
use Rattle.ucode_emit.proofs.pending.Pending.none.Goals as goal

pub returns-clause-counted : goal.returns-clause-counted
returns-clause-counted c =
    counted-blank c.in_ok-vec.field-0.items c.in_ok-vec-2.field-0.items 1792 refl (c.in_ok-vec.ensures.items_if_clones_equal (λ y h. search rules)) (c.in_ok-vec-2.ensures.items_if_clones_equal (λ y h. h))

pub returns-clause-sources : goal.returns-clause-sources
returns-clause-sources c = none-in c.in_ok-vec.field-0.items 1792 (c.in_ok-vec.ensures.items_if_clones_equal (λ y h. search rules))

pub returns-clause-count : goal.returns-clause-count
returns-clause-count c = none-counted c.in_ok-vec.field-0.items 1792 (c.in_ok-vec.ensures.items_if_clones_equal (λ y h. search rules))
