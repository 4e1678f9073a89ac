use Rattle.std.proofs.Common.{ap, ◌∙◌, map, ◌≡◌}
use Rattle.nv_base.specs.World.{World, wrote}
use Rattle.ssu_ir.specs.Tree.{Write}
use Rattle.ssu_ir.specs.Slots.{node_of, successors_of}
use Rattle.ssu_ir.specs.inner.Running.{env_of}
use Rattle.ssu_ir.proofs.Steps.{steps-on, write-done, at-wrote}
use Rattle.ssu_ir.proofs.step.step.Goals as goal

pub returns-in-Done-write-clause-stepped : goal.returns-in-Done-write-clause-stepped
returns-in-Done-write-clause-stepped c =
    λ log0 w a.
    let env = env_of c.args.values.now in
    let m = c.in-Write.m in
    let y = c.in-Write.y in
    let xs = c.in-Write.xs.items in
    let at = c.word_of-at-in-Write.result in
    let ws = c.deref-in-Write-2.result.now in
    let words : ws ≡ map env xs = c.deref-in-Write-2.ensures.value ∙ c.collect.ensures.words ∙ ap (map env) c.deref-in-Write.ensures in
    let d = c.write.ensures.done c.in-Done-write.is in
    let now : World = wrote m at ws c.write.new.p w in
    steps-on (node_of c.args.n.now) (successors_of c.args.n.now) (Write m y xs) c.in-Write.k env env log0 w now c.collect.new.words.items c.write.new.p c.write.new.log (ap node_of c.in-Write.is) (ap successors_of c.in-Write.is)
    (λ g. write-done m xs ws y at env w c.args.p.now c.write.new.p g c.word_of-at-in-Write.ensures words a.packet d.0)
    (at-wrote log0 c.args.log.now c.write.new.log c.args.p.now c.write.new.p w (record { mem = m; at = at; words = ws }) a d.1)
