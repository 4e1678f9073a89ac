use Rattle.nv_base.specs.declared.term.Mem.TheVariants.{Sram, Sdram, Scratch}
use Rattle.uc_contexts.proofs.Sharing.{first-sram, first-sdram, first-scratch, none-anywhere}
use Rattle.uc_contexts.proofs.compare.shared.Goals as goal

pub returns-in-Some-clause-none_only : goal.returns-in-Some-clause-none_only
returns-in-Some-clause-none_only c = λ none. absurd (none Sram c.in-Some.a c.in-Some.ensures.shared)

pub returns-in-Some-clause-first : goal.returns-in-Some-clause-first
returns-in-Some-clause-first c = first-sram c.args.footprints.now c.in-Some.a c.in-Some.ensures.shared c.in-Some.ensures.first

pub returns-in-Some-first_shared-clause-none_only : goal.returns-in-Some-first_shared-clause-none_only
returns-in-Some-first_shared-clause-none_only c = λ none. absurd (none Sdram c.in-Some-first_shared.a c.in-Some-first_shared.ensures.shared)

pub returns-in-Some-first_shared-clause-first : goal.returns-in-Some-first_shared-clause-first
returns-in-Some-first_shared-clause-first c = first-sdram c.args.footprints.now c.in-Some-first_shared.a c.in_default.ensures.none c.in-Some-first_shared.ensures.shared c.in-Some-first_shared.ensures.first

pub returns-in-Some-first_shared-2-clause-none_only : goal.returns-in-Some-first_shared-2-clause-none_only
returns-in-Some-first_shared-2-clause-none_only c = λ none. absurd (none Scratch c.in-Some-first_shared-2.a c.in-Some-first_shared-2.ensures.shared)

pub returns-in-Some-first_shared-2-clause-first : goal.returns-in-Some-first_shared-2-clause-first
returns-in-Some-first_shared-2-clause-first c =
    first-scratch c.args.footprints.now c.in-Some-first_shared-2.a c.in_default.ensures.none c.in_default-first_shared.ensures.none c.in-Some-first_shared-2.ensures.shared c.in-Some-first_shared-2.ensures.first

pub returns-clause-none : goal.returns-clause-none
returns-clause-none c = none-anywhere c.args.footprints.now c.in_default.ensures.none c.in_default-first_shared.ensures.none c.in_default-first_shared-2.ensures.none
