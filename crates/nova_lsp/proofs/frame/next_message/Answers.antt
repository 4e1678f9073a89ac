use Rattle.std.proofs.Common.{◌++◌}
use Rattle.std.proofs.KnownBytes.{Consumes-trans}
use Rattle.nova_lsp.proofs.MessageLaws.{with_head, no_message}
use Rattle.nova_lsp.proofs.frame.next_message.Goals as goal

pub returns-in-Ok-Some-clause-read : goal.returns-in-Ok-Some-clause-read
returns-in-Ok-Some-clause-read g c =
    let h = rw c.in-Ok-Some.field-0-is at c.in-Ok-Some.ensures.head in
    let r = c.content.ensures.read in
    (h.0 ++ r.0, Consumes-trans _ _ _ h.0 r.0 h.2 r.1, with_head h.0 r.0 c.in-Ok-Some.length c.content.result h.1 r.2)

pub returns-in-Err-End-clause-read : goal.returns-in-Err-End-clause-read
returns-in-Err-End-clause-read g c =
    let n = rw c.in-Err-End.field-0-is at c.in-Err-End.ensures.none in
    (n.0, n.1, (no_message n.0 _ n.2).0)
