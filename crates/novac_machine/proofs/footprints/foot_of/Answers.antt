use Rattle.std.proofs.Common.{ℕ, List, subst}
use Rattle.nv_base.specs.Memories.{Memories}
use Rattle.nv_memtext.specs.MemoryText.{Gives}
use Rattle.nv_memtext.proofs.ExactLemmas.{gives_one}
use Rattle.uc_contexts.specs.Alone.{own_entries}
use Rattle.uc_contexts.specs.Marked.{IsFootprint}
use Rattle.uc_contexts.specs.Turns.{base_of, entries}
use Rattle.novac_machine.proofs.footprints.foot_of.Goals as goal

pub returns-clause-footprint : goal.returns-clause-footprint
returns-clause-footprint c = λ p words g.
    let code = c.args.code.now in
    let marks = c.in_ok-footprint.field-0 in
    let base : ℕ = base_of c.args.number in
    let given = subst (λ (n : ℕ). Gives n c.args.text.now c.in_ok-job.job.packet c.in_ok-job.job.args) c.params.ensures.params c.in_ok-job.ensures.given in
    let same = gives_one code.params c.args.text.now c.in_ok-job.job.packet p c.in_ok-job.job.args words given g in
    subst (λ (x : List ℕ). IsFootprint code p (record { args = x; base = base; steps = own_entries c.args.number (entries c.args.entries.now) }) marks) c.list.ensures.words
    (subst (λ (x : ℕ). IsFootprint code p (record { args = c.list.result.now; base = base; steps = x }) marks) c.own_steps-steps.ensures.own
    (subst (λ (x : Memories). IsFootprint code x (record { args = c.list.result.now; base = base; steps = c.own_steps-steps.result }) marks) same.0 c.in_ok-footprint.ensures.footprint))
