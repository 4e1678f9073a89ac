use Rattle.std.proofs.Common.{◌≡◌, ◌∙◌, rules, sym, subst}
use Rattle.uc_isa.specs.Lawful.{IsLawful}
use Rattle.uc_isa.specs.Alike.{Follows}
use Rattle.uc_isa.specs.Program.{IsProgram}
use Rattle.uc_isa.proofs.Programs.{lawful_program, program_lawful}
use Rattle.uc_peep.proofs.Peeps.{agrees-both}
use Rattle.uc_peep_facts.specs.Turned.{HasNoTurnable}
use Rattle.uc_peep_facts.proofs.branches.with_turned_branches.Goals as goal

pub turned_list-requires-clause-lawful : goal.turned_list-requires-clause-lawful
turned_list-requires-clause-lawful c =
    let e : c.in_ok-code.code.items ≡ c.args.c.list = search rules in
    subst IsProgram (sym e) (lawful_program c.args.c.list c.params-params.ensures.code.some c.requires.lawful)

pub returns-clause-lawful : goal.returns-clause-lawful
returns-clause-lawful c = subst IsLawful (sym c.new.ensures.list) (program_lawful c.in_ok-done.done.code.items c.in_ok-done.ensures.kept.lawful)

pub returns-clause-agrees : goal.returns-clause-agrees
returns-clause-agrees c =
    let e : c.in_ok-code.code.items ≡ c.args.c.list = search rules in
    agrees-both c.args.c c.new.result c.args.starts.items c.in_ok-done.done.starts.items c.params-params.ensures.code.params (c.new.ensures.params ∙ c.params-params.ensures.params)
    (subst (λ l. Follows c.args.c.list l c.args.starts.items c.in_ok-done.done.starts.items) (sym c.new.ensures.list)
    (subst (λ l. Follows l c.in_ok-done.done.code.items c.args.starts.items c.in_ok-done.done.starts.items) e c.in_ok-done.ensures.kept.follows))

pub returns-clause-settled : goal.returns-clause-settled
returns-clause-settled c = subst (λ l. HasNoTurnable l c.in_ok-done.done.starts.items) (sym c.new.ensures.list) c.in_ok-done.ensures.settled
