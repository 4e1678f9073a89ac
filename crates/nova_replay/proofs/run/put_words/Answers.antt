use Rattle.std.proofs.Common.{rules, arith, ◌≡◌, ◌+◌, ◌*◌, ◌%◌, ◌/◌, ◌≤◌, ◌<◌, ◌++◌, Some, length, take, drop, sym, ap, ◌∙◌}
use Rattle.std.proofs.lemmas.List.{take-append-drop}
use Rattle.nv_base.specs.Memories.{stored}
use Rattle.nv_base.specs.declared.term.Mem.TheVariants.{Sdram}
use Rattle.nova_replay.proofs.Stored.{access_even, stored_length, stored_more}
use Rattle.nova_replay.proofs.run.put_words.Goals as goal

pub write-requires : goal.write-requires
write-requires c =
    let n = length c.split_at.result.0.now in
    let some : 0 < n = search rules in
    let few : n ≤ 8 = search rules in
    let even : n % 2 ≡ 0 = search rules in
    access_even n some few even

pub loop-rest-preserved : goal.loop-rest-preserved
loop-rest-preserved c =
    let front = c.split_at.result.0.now in
    let after = c.split_at.result.1.now in
    let p = c.loop-rest.memory in
    let q = c.write.new.self in
    let at = c.loop-rest.place in
    let even : length front % 2 ≡ 0 = search rules in
    let whole : front ++ after ≡ c.loop-rest.rest.now = search rules in
    let long : length c.loop-rest.rest.now ≡ length front + length after = search rules in
    let half : length front ≡ 2 * (length front / 2) = omega arith in
    let fits : 2 * at + length front + length after ≤ length p.sdram = omega (arith, c.loop-rest.invariant.fits, long) in
    let first : 2 * at + length front ≤ length p.sdram = omega arith in
    let put : stored Sdram at front p ≡ Some q = search rules in
    let same : length q.sdram ≡ length p.sdram = stored_length at front p q first put in
    record {
      left = stored_more at (length front / 2) front after p q half fits put ∙ ap (λ ws. stored Sdram at ws p) whole ∙ c.loop-rest.invariant.left;
      fits = omega arith;
      even = omega (arith, c.loop-rest.invariant.even, long, even);
    }
