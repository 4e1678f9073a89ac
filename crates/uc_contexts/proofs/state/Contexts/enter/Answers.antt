use Rattle.std.proofs.Common.{◌≡◌, ◌+◌, ◌≤◌, sym, subst}
use Rattle.uc_contexts.specs.declared.state.Context.{Context}
use Rattle.uc_contexts.proofs.Turning.{turns-count}
use Rattle.uc_contexts.proofs.Scheduling.{entered-turns, entered-count}
use Rattle.uc_contexts.proofs.state.Contexts.enter.Goals as goal

pub returns-clause-turned : goal.returns-clause-turned
returns-clause-turned c =
    let viewed : c.self.inside.list.items ≡ c.args.self.now = c.self.view_is in
    entered-turns c.args.c.now.list c.args.n c.args.i c.self.inside.list.items c.args.self.now c.index_mut.result.now c.run.new.self c.args.p.now c.run.new.p viewed c.requires.there c.index_mut.ensures.value c.run.ensures.context c.run.ensures.packet

pub returns-clause-counted : goal.returns-clause-counted
returns-clause-counted c =
    let viewed : c.self.inside.list.items ≡ c.args.self.now = c.self.view_is in
    let more : c.run.new.self.log.count ≤ c.index_mut.result.now.log.count + c.args.n =
    subst (λ (x : Context). x.log.count ≤ c.index_mut.result.now.log.count + c.args.n) (sym c.run.ensures.context) (turns-count c.args.c.now.list c.args.n c.index_mut.result.now c.args.p.now) in
    λ limit h. entered-count c.args.n c.args.i limit c.self.inside.list.items c.args.self.now c.index_mut.result.now c.run.new.self viewed c.requires.there c.index_mut.ensures.value more h
