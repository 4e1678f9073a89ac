use Rattle.std.proofs.Common.{Some, subst}
use Rattle.uc_isa.proofs.Programs.{program_lawful}
use Rattle.uc_peep.proofs.Peeps.{agrees-both}
use Rattle.uc_peep_facts.specs.inner.Operands.{IsFound}
use Rattle.uc_peep_facts.proofs.InPlace.{sourced-by}
use Rattle.uc_peep_facts.proofs.sources.with_sources.Goals as goal

pub returns-in-Some-clause-lawful : goal.returns-in-Some-clause-lawful
returns-in-Some-clause-lawful c =
    let h : IsFound c.args.c c.args.starts.now (Some c.in-Some.q) = subst (IsFound c.args.c c.args.starts.now) c.in-Some.is c.in_ok-o.ensures in
    program_lawful c.in-Some.q.list h.1.lawful

pub returns-in-Some-clause-params : goal.returns-in-Some-clause-params
returns-in-Some-clause-params c =
    let h : IsFound c.args.c c.args.starts.now (Some c.in-Some.q) = subst (IsFound c.args.c c.args.starts.now) c.in-Some.is c.in_ok-o.ensures in
    h.0

pub returns-in-Some-clause-agrees : goal.returns-in-Some-clause-agrees
returns-in-Some-clause-agrees c =
    let h : IsFound c.args.c c.args.starts.now (Some c.in-Some.q) = subst (IsFound c.args.c c.args.starts.now) c.in-Some.is c.in_ok-o.ensures in
    agrees-both c.args.c c.in-Some.q c.args.starts.now c.args.starts.now c.list-n.ensures.code.params h.0 (sourced-by c.args.c.list c.args.starts.now c.in-Some.q.list c.requires.starts h.1 h.3).kept.follows

pub returns-in-Some-clause-sourced : goal.returns-in-Some-clause-sourced
returns-in-Some-clause-sourced c =
    let h : IsFound c.args.c c.args.starts.now (Some c.in-Some.q) = subst (IsFound c.args.c c.args.starts.now) c.in-Some.is c.in_ok-o.ensures in
    sourced-by c.args.c.list c.args.starts.now c.in-Some.q.list c.requires.starts h.1 h.3

pub returns-in-Some-clause-settled : goal.returns-in-Some-clause-settled
returns-in-Some-clause-settled c =
    let h : IsFound c.args.c c.args.starts.now (Some c.in-Some.q) = subst (IsFound c.args.c c.args.starts.now) c.in-Some.is c.in_ok-o.ensures in
    h.2

pub returns-clause-lawful : goal.returns-clause-lawful
returns-clause-lawful c = program_lawful c.in_ok-plain.plain.list c.in_ok-plain.ensures.in_place.lawful

pub returns-clause-agrees : goal.returns-clause-agrees
returns-clause-agrees c =
    agrees-both c.args.c c.in_ok-plain.plain c.args.starts.now c.args.starts.now c.list-n.ensures.code.params c.in_ok-plain.ensures.params
    (sourced-by c.args.c.list c.args.starts.now c.in_ok-plain.plain.list c.requires.starts c.in_ok-plain.ensures.in_place (c.in_ok-plain.ensures.light c.args.starts.now)).kept.follows

pub returns-clause-sourced : goal.returns-clause-sourced
returns-clause-sourced c = sourced-by c.args.c.list c.args.starts.now c.in_ok-plain.plain.list c.requires.starts c.in_ok-plain.ensures.in_place (c.in_ok-plain.ensures.light c.args.starts.now)
