use Rattle.std.proofs.Common.{◌≡◌, slice_index, sym, ◌∙◌, ap, arith}
use Rattle.std.proofs.lemmas.List.{get_or_read}
use Rattle.ucode_emit.specs.inner.Pending.{number, readings}
use Rattle.ucode_emit.proofs.Keeping.{if-some}
use Rattle.ucode_emit.proofs.pending.Pending.free.Goals as goal

pub returns-then-index-eq0-clause-unread : goal.returns-then-index-eq0-clause-unread
returns-then-index-eq0-clause-unread c =
    let here : c.index.result.now ≡ slice_index c.args.self.now.readers.items c.number.result = get_or_read c.args.self.now.readers.items c.number.result c.index.result.now (omega (arith, c.requires.readers)) c.index.ensures 0 in
    let counts = c.requires.counts c.number.result (omega arith) in
    if-some c.source.result (readings c.args.self.now.sources.items (number c.args.t) ≡ 0)
    (ap (λ k. readings c.args.self.now.sources.items k) (sym c.number.ensures.value) ∙ sym counts ∙ sym here ∙ c.if-index-eq0.true)
