use Rattle.std.proofs.Common.{◌∙◌, Some, sym, subst}
use Rattle.uc_isa.specs.Lawful.{IsLawful}
use Rattle.uc_isa.proofs.Programs.{lawful_program, program_lawful}
use Rattle.uc_isa.specs.Alike.{Follows}
use Rattle.uc_isa.specs.Program.{IsProgram}
use Rattle.uc_peep.proofs.Peeps.{agrees-both, kept-refl}
use Rattle.uc_peep.proofs.Without.{without-none}
use Rattle.uc_peep.specs.Liveness.{IsClosed}
use Rattle.uc_peep_facts.proofs.Drafted.{closed-live}
use Rattle.uc_peep_facts.specs.Thinner.{IsThinner}
use Rattle.uc_peep_facts.proofs.repeats.without_repeats.Goals as goal

pub thinner-requires-clause-lawful : goal.thinner-requires-clause-lawful
thinner-requires-clause-lawful c = subst IsProgram (sym c.list.ensures.list) (lawful_program c.args.c.list c.list.ensures.code.some c.requires.lawful)

pub thinner-requires-clause-closed : goal.thinner-requires-clause-closed
thinner-requires-clause-closed c =
    subst (λ l. IsClosed l c.deref-2.result.now) (sym c.list.ensures.list)
    (subst (IsClosed c.args.c.list) (sym c.deref-2.ensures.value) (closed-live c.args.c.list c.in_ok-sets.sets.items c.in_ok-sets.ensures.live))

pub returns-in-Some-clause-lawful : goal.returns-in-Some-clause-lawful
returns-in-Some-clause-lawful c =
    let h : IsThinner c.list.result.now c.deref.result.now (Some c.in-Some.q) = subst (IsThinner c.list.result.now c.deref.result.now) c.in-Some.is c.in_ok-q.ensures in
    subst IsLawful (sym c.new.ensures.list) (program_lawful c.in-Some.q.code.items h.0.lawful)

pub returns-in-Some-clause-agrees : goal.returns-in-Some-clause-agrees
returns-in-Some-clause-agrees c =
    let h : IsThinner c.list.result.now c.deref.result.now (Some c.in-Some.q) = subst (IsThinner c.list.result.now c.deref.result.now) c.in-Some.is c.in_ok-q.ensures in
    agrees-both c.args.c c.new.result c.deref.result.now c.in-Some.q.starts.items c.params-params.ensures.code.params (c.new.ensures.params ∙ c.params-params.ensures.params)
    (subst (λ l. Follows c.args.c.list l c.deref.result.now c.in-Some.q.starts.items) (sym c.new.ensures.list)
    (subst (λ l. Follows l c.in-Some.q.code.items c.deref.result.now c.in-Some.q.starts.items) c.list.ensures.list h.0.follows))

pub returns-in-None-clause-kept : goal.returns-in-None-clause-kept
returns-in-None-clause-kept c = kept-refl c.args.c.list c.args.starts.items (lawful_program c.args.c.list c.list.ensures.code.some c.requires.lawful) c.requires.starts

pub returns-in-None-clause-without : goal.returns-in-None-clause-without
returns-in-None-clause-without c = without-none c.args.c.list
