use Rattle.std.proofs.Common.{◌∙◌, sym}
use Rattle.uc_peep_facts.specs.Facts.{known}
use Rattle.uc_peep_facts.proofs.SameWords.{word-holds}
use Rattle.uc_peep_facts.proofs.reread.holder_of.Goals as goal

pub returns-in-Some-holder_by : goal.returns-in-Some-holder_by
returns-in-Some-holder_by c = record {
  holds = word-holds (known c.args.facts.now) c.in-Some.f c.in-Some-holder_by.y c.args.v c.args.s (c.loop-k.k, sym c.get.ensures ∙ c.in-Some.is) c.in-Some-holder_by.ensures.word;
  other = c.in-Some-holder_by.ensures.other;
}
