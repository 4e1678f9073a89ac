use Rattle.std.proofs.Common.{[], ◌∷◌, ◌++◌}
use Rattle.std.proofs.KnownBytes.{Consumes-trans}
use Rattle.nv_lines.proofs.SplitLaws.{Lacks-append}
use Rattle.nova_lsp.proofs.head.Line.read.Goals as goal

pub loop-preserved : goal.loop-preserved
loop-preserved g c =
    let line = c.loop.invariant.0 in
    let byte = c.in_ok-byte.byte in
    (line ++ byte ∷ [], Lacks-append 10 line (byte ∷ []) c.loop.invariant.1 (c.if-byte-eq10.false, tt), c.push.ensures line c.loop.invariant.2, Consumes-trans _ _ _ line (byte ∷ []) c.loop.invariant.3 c.in_ok-byte.ensures.byte)
