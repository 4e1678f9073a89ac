use Rattle.std.proofs.Common.{◌++◌, take, arith, length-take, rules}
use Rattle.std.specs.Io.KnownBytes.{Keeps}
use Rattle.std.proofs.KnownBytes.{Consumes-trans}
use Rattle.nova_lsp.proofs.Taken.{still, counted}
use Rattle.nova_lsp.proofs.frame.content.Goals.{in-Ok, in-Err+then-eq}
use Rattle.nova_lsp.proofs.frame.content.Goals as goal

pub loop-preserved : goal.loop-preserved
loop-preserved g c =
    let before = c.loop.invariant in
    let buffer = c.read.new.buf in
    elim c.match-read.branch [
      | in-Ok w ↦ (
        before.0 ++ take w.in-Ok.n buffer,
        Consumes-trans _ _ _ before.0 (take w.in-Ok.n buffer) before.1 w.in-Ok.ensures.bytes.0,
        counted before.0 buffer w.in-Ok.n c.loop.left c.match-read.left c.args.count before.2 w.in-Ok.ensures.bound.0 (omega (arith, w.in-Ok.ensures.bound.0, length-take c.min-most.result c.loop.buffer)) w.left-is,
        rw w.kept-is (w.keep.ensures c.args.count before.0 before.3),
      )
      | in-Err+then-eq w ↦ (let keeps : Keeps (g.R.Read.remaining c.loop.input) (g.R.Read.remaining c.read.new.self) = search rules in rw (w.kept-is, w.left-is) (before.0, still _ _ _ before.0 before.1 keeps, before.2, before.3))
    ]
