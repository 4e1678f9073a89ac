use Rattle.std.proofs.Common.{◌≡◌, ◌+◌, ◌≤◌, get_or, List, ℕ, sym, subst}
use Rattle.uc_isa.proofs.Programs.{lawful_program}
use Rattle.uc_isa.specs.Moves.{moves}
use Rattle.uc_isa.specs.Program.{IsProgram}
use Rattle.uc_isa.specs.declared.instruction.Instr.{Instr}
use Rattle.uc_peep_facts.specs.Elsewhere.{HasNoIdleTarget}
use Rattle.uc_peep_facts.specs.inner.Operands.{ArePut, IsInPlace, IsUntargeted}
use Rattle.uc_peep_facts.proofs.Drafted.{closed-live}
use Rattle.uc_peep_facts.proofs.InPlace.{untargeted-in-place, untargeted-lighter, untargeted-settled}
use Rattle.uc_peep_facts.proofs.sources.without_idle_targets.Goals as goal

-- the second code has at each place an instruction without a target that isn't in the set behind it
abbrev AreUntargeted : List ℕ → List Instr → List Instr → Type 0
AreUntargeted sets code draft = ArePut (λ x i j. IsUntargeted (get_or sets (x + 1) 0) i j) code draft

put-for : (code code' draft : List Instr) (sets sets' : List ℕ) → code' ≡ code → sets' ≡ sets → AreUntargeted sets' code' draft → AreUntargeted sets code draft
put-for code code' draft sets sets' is same h = subst (λ s. AreUntargeted s code draft) same (subst (λ l. AreUntargeted sets' l draft) is h)

pub untargeted_code-requires-clause-lawful : goal.untargeted_code-requires-clause-lawful
untargeted_code-requires-clause-lawful c = subst IsProgram (sym c.list.ensures.list) (lawful_program c.args.c.now.list c.list.ensures.code.some c.requires.lawful)

pub returns-clause-in_place : goal.returns-clause-in_place
returns-clause-in_place c =
    let put = put-for c.args.c.now.list c.list.result.now c.in_ok-draft.draft.items c.in_ok-sets.sets.items c.deref.result.now c.list.ensures.list c.deref.ensures.value c.in_ok-draft.ensures in
    subst (IsInPlace c.args.c.now.list) (sym c.new.ensures.list)
    (untargeted-in-place c.args.c.now.list c.in_ok-draft.draft.items c.in_ok-sets.sets.items (lawful_program c.args.c.now.list c.list.ensures.code.some c.requires.lawful)
    (closed-live c.args.c.now.list c.in_ok-sets.sets.items c.in_ok-sets.ensures.live) put)

pub returns-clause-light : goal.returns-clause-light
returns-clause-light c = λ starts ws.
    let put = put-for c.args.c.now.list c.list.result.now c.in_ok-draft.draft.items c.in_ok-sets.sets.items c.deref.result.now c.list.ensures.list c.deref.ensures.value c.in_ok-draft.ensures in
    subst (λ l. moves l starts ws ≤ moves c.args.c.now.list starts ws) (sym c.new.ensures.list) (untargeted-lighter c.args.c.now.list c.in_ok-draft.draft.items c.in_ok-sets.sets.items starts ws put)

pub returns-clause-settled : goal.returns-clause-settled
returns-clause-settled c =
    let put = put-for c.args.c.now.list c.list.result.now c.in_ok-draft.draft.items c.in_ok-sets.sets.items c.deref.result.now c.list.ensures.list c.deref.ensures.value c.in_ok-draft.ensures in
    subst HasNoIdleTarget (sym c.new.ensures.list) (untargeted-settled c.args.c.now.list c.in_ok-draft.draft.items c.in_ok-sets.sets.items c.in_ok-sets.ensures.live put)
