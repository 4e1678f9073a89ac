use Rattle.std.proofs.Common.{◌∙◌, sym, ap, subst}
use Rattle.nv_base.specs.Memories.{IsAccess, fetched}
use Rattle.uc_isa.proofs.Banks.{access-of_run, length-run, put_mid-run}
use Rattle.uc_isa.proofs.engine.fill.Goals as goal

pub read-requires : goal.read-requires
read-requires c =
    subst (IsAccess c.args.mem) (sym (length-run c.args.r c.args.n c.args.bank.now c.requires.eight c.requires.run.1)) (access-of_run c.args.mem c.args.r c.args.n c.requires.run c.requires.pairs)

pub returns-clause-done : goal.returns-clause-done
returns-clause-done c = λ done.
    let len = length-run c.args.r c.args.n c.args.bank.now c.requires.eight c.requires.run.1 in
    (c.read.new.into, ap (λ k. fetched c.args.mem c.args.at k c.args.p.now) (sym len) ∙ c.read.ensures.done done, put_mid-run c.args.r c.args.n c.args.bank.now c.read.new.into (c.read.auto.into ∙ len))
