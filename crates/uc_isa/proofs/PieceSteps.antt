-- What each kind of instruction does to a run at the place where it stands.
use Rattle.std.proofs.Common.{◌≡◌, ℕ, ◌+◌, List, [], ◌∷◌, ◌++◌, Some, None, Bool, true, false, refl, ap, sym, ◌∙◌, subst}
use Rattle.std.specs.Prelude.{slice_get, take, drop, Option}
use Rattle.nv_base.specs.declared.term.Mem.{Mem}
use Rattle.nv_base.specs.declared.term.Bin.{Bin}
use Rattle.nv_base.specs.declared.outcome.Outcome.TheVariants as outcome
use Rattle.nv_base.specs.Memories.{Memories, fetched, stored}
use Rattle.nv_base.specs.Words.{bin_word, shifted_left}
use Rattle.uc_isa.specs.Agrees.{KeepsToItsWords, scratch_access}
use Rattle.uc_isa.specs.Engine.{halted}
use Rattle.uc_isa.specs.Pieces.{Moment, Leads, EndsIn, GoesByBase, KeepsAt}
use Rattle.uc_isa.specs.Step.{step, operand, address, bin_carry, un_word, with_result, with_flags, with_read, write_registers, onward, branched, holds, after_read, after_write}
use Rattle.uc_isa.specs.declared.instruction.Src.{Src}
use Rattle.uc_isa.specs.declared.instruction.Dst.{Dst}
use Rattle.uc_isa.specs.declared.instruction.Gpr.{Gpr}
use Rattle.uc_isa.specs.declared.instruction.UnOp.{UnOp}
use Rattle.uc_isa.specs.declared.instruction.Cond.{Cond}
use Rattle.uc_isa.specs.declared.instruction.Instr.{Instr}
use Rattle.uc_isa.specs.declared.instruction.Instr.TheVariants.{Alu, Un, Immed, Br, Read, Write, Halt}
use Rattle.uc_isa.specs.declared.engine.Engine.{Engine}
use Rattle.uc_isa.specs.declared.engine.Stepped.TheVariants.{Went, Halted, Fault}
use Rattle.uc_isa.proofs.Leading.{leads-went, leads-wrote, ends-one}
use Rattle.uc_isa.proofs.Runs.{step-fetched}

keeps-fetched : (code : List Instr) (base : ℕ) (i : Instr) (e : Engine) → slice_get code e.place ≡ Some i → KeepsToItsWords base (scratch_access (Some i) e) → GoesByBase base (Some i) e → KeepsAt code base e
keeps-fetched code base i e h keeps by_base = subst (λ o. KeepsToItsWords base (scratch_access o e) × GoesByBase base o e) (sym h) (keeps, by_base)

pub leads-alu : (code : List Instr) (base : ℕ) (d : Dst) (op : Bin) (x y : Src) (a : Moment) → slice_get code a.engine.place ≡ Some (Alu d op x y)
    → Leads code base 1 a (record a { engine = onward (with_flags (bin_word op (operand x a.engine) (operand y a.engine)) (bin_carry op (operand x a.engine) (operand y a.engine)) (with_result d (bin_word op (operand x a.engine) (operand y a.engine)) a.engine)) })
leads-alu code base d op x y a h = leads-went code base a _ a.packet (step-fetched code (Alu d op x y) a.engine a.packet h) (keeps-fetched code base (Alu d op x y) a.engine h tt tt)

pub leads-un : (code : List Instr) (base : ℕ) (d : Dst) (op : UnOp) (x : Src) (a : Moment) → slice_get code a.engine.place ≡ Some (Un d op x)
    → Leads code base 1 a (record a { engine = onward (with_flags (un_word op (operand x a.engine)) false (with_result d (un_word op (operand x a.engine)) a.engine)) })
leads-un code base d op x a h = leads-went code base a _ a.packet (step-fetched code (Un d op x) a.engine a.packet h) (keeps-fetched code base (Un d op x) a.engine h tt tt)

pub leads-immed : (code : List Instr) (base : ℕ) (d : Dst) (v s : ℕ) (a : Moment) → slice_get code a.engine.place ≡ Some (Immed d v s)
    → Leads code base 1 a (record a { engine = onward (with_result d (shifted_left s v) a.engine) })
leads-immed code base d v s a h = leads-went code base a _ a.packet (step-fetched code (Immed d v s) a.engine a.packet h) (keeps-fetched code base (Immed d v s) a.engine h tt tt)

leads-br : (code : List Instr) (base : ℕ) (c : Cond) (target : ℕ) (taken : Bool) (a : Moment) → slice_get code a.engine.place ≡ Some (Br c target) → holds c a.engine ≡ taken
    → Leads code base 1 a (record a { engine = branched taken target a.engine })
leads-br code base c target taken a h t =
    leads-went code base a (branched taken target a.engine) a.packet
    (step-fetched code (Br c target) a.engine a.packet h ∙ ap (λ b. record { stepped = Went; engine = branched b target a.engine; packet = a.packet }) t)
    (keeps-fetched code base (Br c target) a.engine h tt tt)

pub leads-taken : (code : List Instr) (base : ℕ) (c : Cond) (target : ℕ) (a : Moment) → slice_get code a.engine.place ≡ Some (Br c target) → holds c a.engine ≡ true
    → Leads code base 1 a (record a { engine = record a.engine { place = target } })
leads-taken code base c target a h t = leads-br code base c target true a h t

pub leads-passed : (code : List Instr) (base : ℕ) (c : Cond) (target : ℕ) (a : Moment) → slice_get code a.engine.place ≡ Some (Br c target) → holds c a.engine ≡ false
    → Leads code base 1 a (record a { engine = onward a.engine })
leads-passed code base c target a h t = leads-br code base c target false a h t

pub leads-read : (code : List Instr) (base : ℕ) (m : Mem) (r n : ℕ) (x : Gpr) (off : ℕ) (ws : List ℕ) (a : Moment) → slice_get code a.engine.place ≡ Some (Read m r n x off)
    → fetched m (address x a.engine + off) n a.packet ≡ Some ws → KeepsToItsWords base (scratch_access (Some (Read m r n x off)) a.engine) → GoesByBase base (Some (Read m r n x off)) a.engine
    → Leads code base 1 a (record a { engine = onward (with_read m r ws a.engine) })
leads-read code base m r n x off ws a h f keeps by_base =
    leads-went code base a (onward (with_read m r ws a.engine)) a.packet
    (step-fetched code (Read m r n x off) a.engine a.packet h ∙ ap (λ o. after_read m r (address x a.engine + off) o a.engine a.packet) f)
    (keeps-fetched code base (Read m r n x off) a.engine h keeps by_base)

pub ends-read : (code : List Instr) (base : ℕ) (m : Mem) (r n : ℕ) (x : Gpr) (off : ℕ) (a : Moment) → slice_get code a.engine.place ≡ Some (Read m r n x off)
    → fetched m (address x a.engine + off) n a.packet ≡ None → KeepsToItsWords base (scratch_access (Some (Read m r n x off)) a.engine) → GoesByBase base (Some (Read m r n x off)) a.engine
    → EndsIn code base 1 a (record { outcome = outcome.Fault m (address x a.engine + off); packet = a.packet; writes = a.writes })
ends-read code base m r n x off a h f keeps by_base =
    ends-one code base a (Fault m (address x a.engine + off)) _
    (step-fetched code (Read m r n x off) a.engine a.packet h ∙ ap (λ o. after_read m r (address x a.engine + off) o a.engine a.packet) f)
    tt (λ k. refl) (keeps-fetched code base (Read m r n x off) a.engine h keeps by_base)

-- a write's words
write-fetched : (code : List Instr) (m : Mem) (r n : ℕ) (x : Gpr) (off : ℕ) (ws : List ℕ) (o : Option Memories) (e : Engine) (p : Memories) → slice_get code e.place ≡ Some (Write m r n x off)
    → take n (drop r (write_registers m e)) ≡ ws → stored m (address x e + off) ws p ≡ o → step code e p ≡ after_write m (address x e + off) ws o e p
write-fetched code m r n x off ws o e p h w s =
    step-fetched code (Write m r n x off) e p h
    ∙ ap (λ vs. after_write m (address x e + off) vs (stored m (address x e + off) vs p) e p) w
    ∙ ap (λ q. after_write m (address x e + off) ws q e p) s

pub leads-write : (code : List Instr) (base : ℕ) (m : Mem) (r n : ℕ) (x : Gpr) (off : ℕ) (ws : List ℕ) (q : Memories) (a : Moment) → slice_get code a.engine.place ≡ Some (Write m r n x off)
    → take n (drop r (write_registers m a.engine)) ≡ ws → stored m (address x a.engine + off) ws a.packet ≡ Some q → KeepsToItsWords base (scratch_access (Some (Write m r n x off)) a.engine) → GoesByBase base (Some (Write m r n x off)) a.engine
    → Leads code base 1 a (record { engine = onward a.engine; packet = q; writes = a.writes ++ record { mem = m; at = address x a.engine + off; words = ws } ∷ [] })
leads-write code base m r n x off ws q a h w s keeps by_base =
    leads-wrote code base a (record { mem = m; at = address x a.engine + off; words = ws }) (onward a.engine) q
    (write-fetched code m r n x off ws (Some q) a.engine a.packet h w s)
    (keeps-fetched code base (Write m r n x off) a.engine h keeps by_base)

pub ends-write : (code : List Instr) (base : ℕ) (m : Mem) (r n : ℕ) (x : Gpr) (off : ℕ) (ws : List ℕ) (a : Moment) → slice_get code a.engine.place ≡ Some (Write m r n x off)
    → take n (drop r (write_registers m a.engine)) ≡ ws → stored m (address x a.engine + off) ws a.packet ≡ None → KeepsToItsWords base (scratch_access (Some (Write m r n x off)) a.engine) → GoesByBase base (Some (Write m r n x off)) a.engine
    → EndsIn code base 1 a (record { outcome = outcome.Fault m (address x a.engine + off); packet = a.packet; writes = a.writes })
ends-write code base m r n x off ws a h w s keeps by_base =
    ends-one code base a (Fault m (address x a.engine + off)) _
    (write-fetched code m r n x off ws None a.engine a.packet h w s)
    tt (λ k. refl) (keeps-fetched code base (Write m r n x off) a.engine h keeps by_base)

pub ends-halt : (code : List Instr) (base k n : ℕ) (ws : List ℕ) (a : Moment) → slice_get code a.engine.place ≡ Some (Halt k n) → take n a.engine.a ≡ ws
    → EndsIn code base 1 a (record { outcome = halted k ws; packet = a.packet; writes = a.writes })
ends-halt code base k n ws a h w =
    ends-one code base a (Halted k ws) _
    (step-fetched code (Halt k n) a.engine a.packet h ∙ ap (λ vs. record { stepped = Halted k vs; engine = a.engine; packet = a.packet }) w)
    tt (λ m. refl) (keeps-fetched code base (Halt k n) a.engine h tt tt)
