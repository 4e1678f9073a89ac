use Rattle.std.proofs.Common.{rules, ◌≢◌, [], get_or}
use Rattle.nova_words.specs.declared.parts.Given.{Given}
use Rattle.nova_words.specs.declared.setting.Setting.TheVariants.{Output}
use Rattle.nova_words.proofs.Values.{last-then, last-else}
use Rattle.nova_words.proofs.parts.Parts.value.Goals as goal
use Rattle.nova_words.proofs.parts.Parts.value.Goals.{then-eq, else-eq}

pub loop-given-preserved : goal.loop-given-preserved
loop-given-preserved c =
    let items = c.deref-given-items.result.now in
    let i = c.loop-given.given-index in
    let d : Given = record { setting = Output; value = record { ref_ptr = (0, 0); now = [] } } in
    elim c.if-eq.branch [
      | then-eq w ↦ last-then items c.args.setting i d c.if-eq.last c.loop-given-test.true w.last-is (search rules)
      | else-eq w ↦
          let other : (get_or items i d).setting ≢ c.args.setting = λ same. search rules in
          last-else items c.args.setting i d c.loop-given.last c.if-eq.last c.loop-given-test.true w.last-is other c.loop-given.invariant
    ]
