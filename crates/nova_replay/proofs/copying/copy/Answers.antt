use Rattle.std.proofs.Common.{◌≡◌, Ok, IfSome, false, subst}
use Rattle.nova_capture.specs.Stream.{Reads, ReadsItem}
use Rattle.nova_replay.specs.Replaying.{IsHandled, moment}
use Rattle.nova_replay.proofs.Chain.{replay_item}
use Rattle.nova_replay.proofs.copying.copy.Goals as goal

pub loop-preserved : goal.loop-preserved
loop-preserved g c =
    let plan = c.args.plan.now in
    let start = moment c.args.reader.now.position c.args.writer.now.state c.args.state.now in
    let before = g.R.Read.remaining c.args.reader.now.input in
    let here = g.R.Read.remaining c.loop.reader.input in
    let behind = g.R.Read.remaining c.next_item.new.self.input in
    let empty = g.W.Write.contents c.args.writer.now.output in
    let had = g.W.Write.contents c.loop.writer.output in
    let has = g.W.Write.contents c.handle.new.writer.output in
    let at = c.loop.reader.position in
    let now = c.next_item.new.self.position in
    let s = c.loop.state in
    let s' = c.handle.new.state in
    let f = c.loop.writer.state in
    let f' = c.handle.new.writer.state in
    let item = c.in-Ok-Some.item in
    let bytes = c.next_item.new.bytes.items in
    let reads : ReadsItem at here behind item bytes now = subst (λ found. Reads at here behind (Ok found) bytes now) c.in-Ok-Some.field-0-is (c.in-Ok-Some.ensures.reads c.loop.invariant.going) in
    let w = c.in_default.ensures.0 in
    let told : IsHandled plan c.position-position.result.offset (moment now f s) item bytes (moment now f' s') w =
    subst (λ p. IsHandled plan c.position-position.result.offset (moment p f s) item bytes (moment p f' s') w) c.position-now.ensures c.in_default.ensures.2 in
    let handled : IsHandled plan at.offset (moment now f s) item bytes (moment now f' s') w =
    subst (λ p. IsHandled plan p.offset (moment now f s) item bytes (moment now f' s') w) c.position-position.ensures told in
    record {
      replay = replay_item plan start before here behind empty had has s s' at now f f' item bytes w c.loop.invariant.replay reads c.in_default.ensures.1 handled;
      going = subst (λ found. IfSome found (λ _. c.next_item.new.self.ended ≡ false)) c.in-Ok-Some.field-0-is c.in-Ok-Some.ensures.goes_on;
    }
