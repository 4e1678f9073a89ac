use Rattle.std.proofs.Common.{◌∙◌, ◌∷◌, [], None, Some, ap, set}
use Rattle.std.proofs.lemmas.List.{set-set}
use Rattle.ucode_emit.specs.Moves.{temporary}
use Rattle.ucode_emit.specs.inner.Pending.{number, Table, Ran, FreeGoTo, Turned}
use Rattle.ucode_emit.proofs.Runs.{if-ok, if-ok-at, turned-by, free-aside}
use Rattle.ucode_emit.proofs.pending.Pending.turn.Goals as goal

pub returns-clause-turned : goal.returns-clause-turned
returns-clause-turned c =
    let src = c.args.self.now.sources.items in
    let aside = c.add.ensures.sources ∙ ap (λ (s : Table). set s (number c.args.t) (Some temporary)) c.take.ensures.sources ∙ set-set src (number c.args.t) None (Some temporary) in
    let waits = c.add.ensures.done ∙ c.take.ensures.done ∙ c.in_ok-push.ensures.items in
    if-ok c.run.result
    (Ran c.add.new.self.sources.items c.add.new.self.done.items c.run.new.self.sources.items c.run.new.self.done.items)
    (FreeGoTo c.run.new.self.sources.items [])
    (Turned (number c.args.t) src c.args.self.now.done.items c.run.new.self.sources.items c.run.new.self.done.items)
    (λ r h. turned-by src c.add.new.self.sources.items c.run.new.self.sources.items c.args.self.now.done.items c.add.new.self.done.items c.run.new.self.done.items c.args.s c.args.t
    c.requires.source c.requires.apart c.requires.target c.requires.spare c.requires.stuck aside waits r h)
    c.run.ensures.ran
    (if-ok-at c.run.result (λ ms. FreeGoTo c.add.new.self.sources.items ((c.args.s, c.args.s) ∷ ms)) (λ ms. FreeGoTo c.run.new.self.sources.items ms) []
    (free-aside src c.add.new.self.sources.items c.args.s c.args.t c.requires.source c.requires.stuck aside) c.run.ensures.free)
