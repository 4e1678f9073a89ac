use Rattle.nova_middle.proofs.SimpleFlows.{rest_at, tidy_at}
use Rattle.nova_middle.proofs.Whole.{again}
use Rattle.nova_middle.proofs.program.reduce.Goals as goal

pub returns-then-are_simple-clause-rules : goal.returns-then-are_simple-clause-rules
returns-then-are_simple-clause-rules c = rest_at _ _ (c.are_simple.ensures.0 c.if-are_simple.true) c.deref.ensures.value

pub returns-then-are_simple-clause-tidy : goal.returns-then-are_simple-clause-tidy
returns-then-are_simple-clause-tidy c = tidy_at _ _ (c.are_simple.ensures.0 c.if-are_simple.true) c.deref.ensures.value c.rounds.g.formed

pub rounds-preserved : goal.rounds-preserved
rounds-preserved c =
    again _ _ _ _ c.rounds.invariant c.in_ok-simple.ensures.params c.in_ok-simple.ensures.equal c.in_ok-simple.ensures.wide c.in_ok-simple.ensures.bulk (record {
      kept = c.in_ok-g-2.ensures.kept;
      contracted = c.in_ok-g-2.ensures.contracted;
      led = c.in_ok-g-2.ensures.led;
      wanted = c.in_ok-g-2.ensures.wanted;
      wide = c.in_ok-g-2.ensures.wide;
      bulk = c.in_ok-g-2.ensures.bulk;
    })
