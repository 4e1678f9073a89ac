use Rattle.std.proofs.Common.{◌≡◌, ap, ◌∙◌}
use Rattle.uc_contexts.specs.Turns.{System, scheduled, entries}
use Rattle.uc_contexts.proofs.Entries.{scheduled-alone}
use Rattle.uc_contexts.proofs.Scheduling.{remains-first, remains-on, remains-last}
use Rattle.uc_contexts.proofs.schedule.run_schedule.Goals as goal

pub loop-entry-init : goal.loop-entry-init
loop-entry-init c =
    let fresh = c.requires.fresh in
    remains-first c.args.c.now.list 100000000 c.args.list.now fresh.args c.args.e.now c.args.p.now fresh.made c.list-code.ensures.code.some c.requires.few

pub loop-entry-preserved : goal.loop-entry-preserved
loop-entry-preserved c =
    let now : System = record { contexts = c.loop-entry.e; packet = c.loop-entry.p } in
    let next : System = record { contexts = c.enter.new.self; packet = c.enter.new.p } in
    let last : System = scheduled c.args.c.now.list (entries c.args.list.now) (record { contexts = c.args.e.now; packet = c.args.p.now }) in
    let turned = c.enter.ensures in
    remains-on c.args.c.now.list _ 100000000 c.args.list.now c.loop-entry.entry-index now next last c.loop-entry-test.true c.loop-entry.invariant turned.turned turned.inside turned.counted turned.number

pub returns-clause-alone : goal.returns-clause-alone
returns-clause-alone c =
    let now : System = record { contexts = c.loop-entry.e; packet = c.loop-entry.p } in
    let last : System = scheduled c.args.c.now.list (entries c.args.list.now) (record { contexts = c.args.e.now; packet = c.args.p.now }) in
    let all : now ≡ last = remains-last c.args.c.now.list _ 100000000 c.args.list.now c.loop-entry.entry-index now last c.loop-entry-test.false c.loop-entry.invariant in
    λ args made disjoint.
    all
    ∙ ap (λ l. scheduled c.args.c.now.list (entries c.args.list.now) (record { contexts = l; packet = c.args.p.now })) made
    ∙ scheduled-alone c.args.c.now c.args.p.now (entries c.args.list.now) args c.requires.lawful disjoint
