use Rattle.std.proofs.Common.{sym, subst}
use Rattle.uc_peep_facts.specs.Facts.{known}
use Rattle.uc_peep_facts.specs.declared.fact.Part.TheVariants.{Target, Flags}
use Rattle.uc_peep_facts.proofs.Standing.{GivesOne, given-flags, given-own, gives-with}
use Rattle.uc_peep_facts.proofs.flow.add_own.Goals as goal

pub returns : goal.returns
returns c =
    let i = c.args.i.now in
    let before = known c.args.before.now in
    let straight = c.reads_apart.ensures.straight c.if-not-reads_apart.false in
    let apart = c.reads_apart.ensures.apart c.if-not-reads_apart.false in
    gives-with i before (known c.push.new.self) (known c.push-2.new.self) _
    (gives-with i before (known c.args.after.now) (known c.push.new.self) _ c.requires.so_far
    (subst (λ j. GivesOne i before (record { instr = j; part = Flags })) (sym c.with_target.ensures) (given-flags i before c.args.set.now c.requires.formed c.requires.written straight apart))
    c.push.ensures)
    (given-own i before c.args.set.now Target c.requires.formed c.requires.written straight apart)
    c.push-2.ensures
