use Rattle.std.proofs.Common.{ℕ, List, sym, subst}
use Rattle.uc_isa.specs.declared.instruction.Dst.{Dst}
use Rattle.uc_isa.specs.declared.instruction.Instr.{Instr}
use Rattle.uc_isa.specs.Program.{IsFormed}
use Rattle.uc_peep_facts.specs.Facts.{FlagsStand, IsIdle, TargetStands, known}
use Rattle.uc_peep_facts.specs.declared.fact.Fact.{Fact}
use Rattle.uc_peep_facts.proofs.Idleness.{idle-alu, idle-immed, idle-un}
use Rattle.uc_peep_facts.proofs.idle.is_idle.Goals as goal

-- an instruction is idle where its target and the flags stand
abbrev By : Dst → List Fact → ℕ → Instr → Type 0
By d facts live i = IsFormed i → TargetStands d i facts live → FlagsStand i facts live → IsIdle facts live i

pub returns-then-target_stands : goal.returns-then-target_stands
returns-then-target_stands c = λ flags.
    subst (By c.in-Alu.dst (known c.args.facts.now) c.args.live.now) (sym c.in-Alu.is) (idle-alu c.in-Alu.dst c.in-Alu.op c.in-Alu.x c.in-Alu.y (known c.args.facts.now) c.args.live.now)
    c.requires (c.target_stands.ensures c.if-target_stands.true) (c.flags_stand.ensures flags)

pub returns-then-target_stands-2 : goal.returns-then-target_stands-2
returns-then-target_stands-2 c = λ flags.
    subst (By c.in-Un.dst (known c.args.facts.now) c.args.live.now) (sym c.in-Un.is) (idle-un c.in-Un.dst c.in-Un.op c.in-Un.x (known c.args.facts.now) c.args.live.now)
    c.requires (c.target_stands-in-Un.ensures c.if-target_stands-2.true) (c.flags_stand-then-target_stands-2.ensures flags)

pub returns-in-Immed : goal.returns-in-Immed
returns-in-Immed c = λ stands.
    subst (λ i. IsFormed i → TargetStands c.in-Immed.dst i (known c.args.facts.now) c.args.live.now → IsIdle (known c.args.facts.now) c.args.live.now i) (sym c.in-Immed.is)
    (idle-immed c.in-Immed.dst c.in-Immed.v c.in-Immed.s (known c.args.facts.now) c.args.live.now)
    c.requires (c.target_stands-in-Immed.ensures stands)
