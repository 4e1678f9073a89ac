use Rattle.std.proofs.Common.{◌∙◌, sym}
use Rattle.uc_peep_facts.specs.Facts.{known}
use Rattle.uc_peep_facts.proofs.SameWords.{word-holds}
use Rattle.uc_peep_facts.proofs.reread.literal_of.Goals as goal

pub returns-in-Some-literal_by : goal.returns-in-Some-literal_by
returns-in-Some-literal_by c = word-holds (known c.args.facts.now) c.in-Some.f c.args.x.now c.in-Some-literal_by.l.0 c.in-Some-literal_by.l.1 (c.loop-k.k, sym c.get.ensures ∙ c.in-Some.is) c.in-Some-literal_by.ensures
