use Rattle.std.proofs.lemmas.Result.{on_ok_weaker}
use Rattle.flow_words.specs.inner.Placed.{place}
use Rattle.flow_words.proofs.walk.put_folded.Goals as goal

pub returns : goal.returns
returns c =
    on_ok_weaker c.put_own.result
    (λ h. record {
      turned = c.in_ok-turned.turned;
      sum = c.in_ok-sum.sum;
      second = place c.put_extra.new.state c.put_extra.new.saved.items c.put_extra.new.steps.items;
      third = place c.put_extra-2.new.state c.put_extra-2.new.saved.items c.put_extra-2.new.steps.items;
      one = c.in_ok-turned.ensures;
      two = c.in_ok-sum.ensures;
      own = h;
    }) c.put_own.ensures
