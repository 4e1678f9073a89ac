-- What holds of code without some of its instructions.
use Rattle.std.proofs.Common.{◌≡◌, ◌≢◌, ◌∙◌, ℕ, zero, suc, ◌≤◌, inl, inr, Bool, List, ◌∷◌, length, Option, Some, None, nat_eq, if◌then◌else◌, refl, sym, ap, subst, arith, ne_eqb}
use Rattle.std.specs.List.{cons_option}
use Rattle.std.specs.Prelude.{true, slice_get}
use Rattle.std.proofs.lemmas.Bool.{and_parts, leb-true}
use Rattle.ssu_ir.specs.Meaning.{ssu_params, params_of}
use Rattle.ssu_ir.specs.Single.{single, is_entry}
use Rattle.ssu_ir.specs.Tree.{Label}
use Rattle.nv_base.specs.declared.term.Bin.TheVariants.{Add, Sub, And, Or, Xor}
use Rattle.nv_base.specs.declared.term.Mem.{Mem}
use Rattle.uc_isa.specs.declared.instruction.Gpr.{Gpr}
use Rattle.uc_isa.specs.declared.instruction.Gpr.TheVariants as gpr
use Rattle.uc_isa.specs.declared.instruction.Src.{Src}
use Rattle.uc_isa.specs.declared.instruction.Src.TheVariants as src
use Rattle.uc_isa.specs.declared.instruction.Dst.TheVariants as dst
use Rattle.uc_isa.specs.declared.instruction.Instr.{Instr}
use Rattle.uc_isa.specs.declared.instruction.Instr.TheVariants.{Alu, Un, Immed, Br, Read, Write, Halt}
use Rattle.uc_isa.specs.declared.instruction.UnOp.TheVariants.{Copy, Not, Shl, Shr, Rol}
use Rattle.uc_peep.specs.Rewrites.{IsWithout, Compares}
use Rattle.uc_peep.specs.Rewrites.IsWithout.{Nothing, Gone, Tested, Stays}
use Rattle.uc_peep.proofs.Without.{compares-straight}
use Rattle.uc_peep_facts.specs.Turned.{IsTurned, opposite}
use Rattle.uc_peep_facts.specs.Turned.IsTurned.{Nothing as Flat, Turned as OneBranch, Stays as Unturned, InTurn as TwiceTurned}
use Rattle.uc_peep_facts.specs.Elsewhere.{AreReread, GoesAs, ReadsAs, Rereads}
use Rattle.uc_peep_facts.specs.Elsewhere.AreReread.{Nothing as Alike, Each}
use Rattle.uc_peep_facts.specs.Elsewhere.Rereads.{Same, Binary as BinaryAt, Unary as UnaryAt, Reading as ReadingAt, Writing as WritingAt, BinaryTest, UnaryTest, InTurn}
use Rattle.uc_isa.specs.Relocated.{relocated}
use Rattle.uc_isa.specs.StraightCode.{IsStraight}
use Rattle.ucode_emit.specs.Operations.{Operation, access_operation, code_operations, instr_operation}
use Rattle.ucode_emit.specs.Operations.Operation.{Reading, Writing}
use Rattle.ucode_emit.specs.SpillBase.{IsOtherSource, KeepsBase, KeepsToSlots, SpillsByBase}
use Rattle.nova_back.specs.LeftOut.{LeavesOut}
use Rattle.nova_back.specs.LeftOut.LeavesOut.{Empty, Needless, Kept, Turned, InTurn as OneByOne}

-- ---- operations

relocated-operation : (f : ℕ → ℕ) (i : Instr) → instr_operation (relocated f i) ≡ instr_operation i
relocated-operation f (Alu d op x y) = refl
relocated-operation f (Un d op x) = refl
relocated-operation f (Immed d v k) = refl
relocated-operation f (Br cond target) = refl
relocated-operation f (Read m r n x off) = refl
relocated-operation f (Write m r n x off) = refl
relocated-operation f (Halt k n) = refl

stays : (o : Option Operation) (all rest : List Operation) → LeavesOut all rest → LeavesOut (cons_option o all) (cons_option o rest)
stays None all rest h = h
stays (Some o) all rest h = Kept o all rest h

gone : (i : Instr) (all rest : List Operation) → IsStraight i → LeavesOut all rest → LeavesOut (cons_option (instr_operation i) all) rest
gone (Alu d op x y) all rest straight h = Needless _ all rest tt h
gone (Un d Copy x) all rest straight h = h
gone (Un d Not x) all rest straight h = Needless _ all rest tt h
gone (Un d (Shl k) x) all rest straight h = Needless _ all rest tt h
gone (Un d (Shr k) x) all rest straight h = Needless _ all rest tt h
gone (Un d (Rol k) x) all rest straight h = Needless _ all rest tt h
gone (Immed d v k) all rest straight h = Needless _ all rest tt h
gone (Br cond target) all rest straight h = absurd straight
gone (Read m r n x off) all rest straight h = absurd straight
gone (Write m r n x off) all rest straight h = absurd straight
gone (Halt k n) all rest straight h = absurd straight

pub operations-left : (code code' : List Instr) → IsWithout code code' → LeavesOut (code_operations code) (code_operations code')
operations-left a b Nothing = Empty
operations-left a b (Gone i code code' straight h) = gone i (code_operations code) (code_operations code') straight (operations-left code code' h)
operations-left a b (Tested i x code code' compares h) = gone i (code_operations code) (code_operations code') (compares-straight x i compares) (operations-left code code' h)
operations-left a b (Stays f i code code' h) =
    subst (λ o. LeavesOut (cons_option (instr_operation i) (code_operations code)) (cons_option o (code_operations code'))) (sym (relocated-operation f i))
    (stays (instr_operation i) (code_operations code) (code_operations code') (operations-left code code' h))

-- ---- the spill base

keeps-relocated : (f : ℕ → ℕ) (slots : ℕ) (i : Instr) → KeepsBase slots i → KeepsBase slots (relocated f i)
keeps-relocated f slots (Alu d op x y) h = h
keeps-relocated f slots (Un d op x) h = h
keeps-relocated f slots (Immed d v k) h = h
keeps-relocated f slots (Br cond target) h = h
keeps-relocated f slots (Read m r n x off) h = h
keeps-relocated f slots (Write m r n x off) h = h
keeps-relocated f slots (Halt k n) h = h

tested-base : (slots : ℕ) (x : Src) (i : Instr) → Compares x i → KeepsBase slots i → KeepsBase slots (Un dst.Nowhere Copy x)
tested-base slots x (Alu dst.Nowhere Sub y z) h keeps = (tt, subst IsOtherSource h keeps.1)
tested-base slots x (Alu dst.Nowhere Add y z) h keeps = absurd h
tested-base slots x (Alu dst.Nowhere And y z) h keeps = absurd h
tested-base slots x (Alu dst.Nowhere Or y z) h keeps = absurd h
tested-base slots x (Alu dst.Nowhere Xor y z) h keeps = absurd h
tested-base slots x (Alu (dst.A r) op y z) h keeps = absurd h
tested-base slots x (Alu (dst.B r) op y z) h keeps = absurd h
tested-base slots x (Alu (dst.S r) op y z) h keeps = absurd h
tested-base slots x (Alu (dst.SD r) op y z) h keeps = absurd h
tested-base slots x (Un d op y) h keeps = absurd h
tested-base slots x (Immed d v k) h keeps = absurd h
tested-base slots x (Br cond target) h keeps = absurd h
tested-base slots x (Read m r n y off) h keeps = absurd h
tested-base slots x (Write m r n y off) h keeps = absurd h
tested-base slots x (Halt k n) h keeps = absurd h

pub spills-left : (slots : ℕ) (code code' : List Instr) → IsWithout code code' → SpillsByBase slots code → SpillsByBase slots code'
spills-left slots a b Nothing h = h
spills-left slots a b (Gone i code code' straight w) h = spills-left slots code code' w (λ k d lt. h (suc k) d (omega arith))
spills-left slots a b (Tested i x code code' compares w) h = both (spills-left slots code code' w (λ k d lt. h (suc k) d (omega arith)))
  where
    both : SpillsByBase slots code' → SpillsByBase slots (Un dst.Nowhere Copy x ∷ code')
    both rest zero d lt = tested-base slots x i compares (h zero d (omega arith))
    both rest (suc k) d lt = rest k d (omega arith)
spills-left slots a b (Stays f i code code' w) h = both (spills-left slots code code' w (λ k d lt. h (suc k) d (omega arith)))
  where
    both : SpillsByBase slots code' → SpillsByBase slots (relocated f i ∷ code')
    both rest zero d lt = keeps-relocated f slots i (h zero d (omega arith))
    both rest (suc k) d lt = rest k d (omega arith)

-- ---- instructions that read elsewhere

access-same : (o : Operation) (x x' : Gpr) → GoesAs x x' → access_operation o x' ≡ access_operation o x
access-same o x x' (inl same) = ap (access_operation o) same
access-same o x x' (inr other) = far x' other.1 ∙ sym (far x other.0)
  where
    far : (x : Gpr) → x ≢ gpr.B 15 → access_operation o x ≡ Some o
    far (gpr.A k) h = refl
    far (gpr.B k) h = ap (λ (b : Bool). if b then None else Some o) (ne_eqb k 15 (λ e. h (ap gpr.B e)))

reread-operation : (i j : Instr) → Rereads i j → instr_operation j ≡ instr_operation i
reread-operation i j (Same k) = refl
reread-operation i j (BinaryAt d op x x' y y' a b) = refl
reread-operation i j (UnaryAt d op x x' a) = refl
reread-operation i j (ReadingAt m r n x x' off a) = access-same (Reading m n) x x' a
reread-operation i j (WritingAt m r n x x' off a) = access-same (Writing m n) x x' a
reread-operation i j (BinaryTest d op x y) = refl
reread-operation i j (UnaryTest d op x) = refl
reread-operation i j (InTurn a b c s t) = reread-operation b c t ∙ reread-operation a b s

pub operations-reread : (code code' : List Instr) → AreReread code code' → code_operations code' ≡ code_operations code
operations-reread a b Alike = refl
operations-reread a b (Each i j code code' h all) =
    ap (λ o. cons_option o (code_operations code')) (reread-operation i j h) ∙ ap (cons_option (instr_operation i)) (operations-reread code code' all)

other-source : (x y : Src) → ReadsAs x y → IsOtherSource x → IsOtherSource y
other-source x y (inl same) h = subst IsOtherSource (sym same) h
other-source x (src.A k) (inr far) h = tt
other-source x (src.B k) (inr far) h = λ e. far (ap src.B e)
other-source x (src.L k) (inr far) h = tt
other-source x (src.LD k) (inr far) h = tt

to-slots : (slots : ℕ) (m : Mem) (n : ℕ) (x y : Gpr) (off : ℕ) → GoesAs x y → KeepsToSlots slots m n x off → KeepsToSlots slots m n y off
to-slots slots m n x y off (inl same) h = subst (λ z. KeepsToSlots slots m n z off) (sym same) h
to-slots slots m n x (gpr.A k) off (inr far) h = tt
to-slots slots m n x (gpr.B k) off (inr far) h = λ e. absurd (far.1 (ap gpr.B e))

reread-base : (slots : ℕ) (i j : Instr) → Rereads i j → KeepsBase slots i → KeepsBase slots j
reread-base slots i j (Same k) h = h
reread-base slots i j (BinaryAt d op x x' y y' a b) h = (h.0, other-source x x' a h.1, other-source y y' b h.2)
reread-base slots i j (UnaryAt d op x x' a) h = (h.0, other-source x x' a h.1)
reread-base slots i j (ReadingAt m r n x x' off a) h = to-slots slots m n x x' off a h
reread-base slots i j (WritingAt m r n x x' off a) h = to-slots slots m n x x' off a h
reread-base slots i j (BinaryTest d op x y) h = (tt, h.1, h.2)
reread-base slots i j (UnaryTest d op x) h = (tt, h.1)
reread-base slots i j (InTurn a b c s t) h = reread-base slots b c t (reread-base slots a b s h)

pub spills-reread : (slots : ℕ) (code code' : List Instr) → AreReread code code' → SpillsByBase slots code → SpillsByBase slots code'
spills-reread slots a b Alike h = h
spills-reread slots a b (Each i j code code' r all) h = both (spills-reread slots code code' all (λ k d lt. h (suc k) d (omega arith)))
  where
    both : SpillsByBase slots code' → SpillsByBase slots (j ∷ code')
    both rest zero d lt = reread-base slots i j r (h zero d (omega arith))
    both rest (suc k) d lt = rest k d (omega arith)

-- ---- turned branches

pub operations-turned : (code code' : List Instr) → IsTurned code code' → LeavesOut (code_operations code) (code_operations code')
operations-turned a b Flat = Empty
operations-turned a b (OneBranch c x y z code code' asked h) = Turned c (code_operations code) (code_operations code') asked (operations-turned code code' h)
operations-turned a b (Unturned f i code code' h) =
    subst (λ o. LeavesOut (cons_option (instr_operation i) (code_operations code)) (cons_option o (code_operations code'))) (sym (relocated-operation f i))
    (stays (instr_operation i) (code_operations code) (code_operations code') (operations-turned code code' h))
operations-turned a b (TwiceTurned first second third h g) = OneByOne (code_operations first) (code_operations second) (code_operations third) (operations-turned first second h) (operations-turned second third g)

pub spills-turned : (slots : ℕ) (code code' : List Instr) → IsTurned code code' → SpillsByBase slots code → SpillsByBase slots code'
spills-turned slots a b Flat h = h
spills-turned slots a b (OneBranch c x y z code code' asked t) h = both (spills-turned slots code code' t (λ k d lt. h (suc (suc k)) d (omega arith)))
  where
    both : SpillsByBase slots code' → SpillsByBase slots (Br (opposite c) z ∷ code')
    both rest zero d lt = tt
    both rest (suc k) d lt = rest k d (omega arith)
spills-turned slots a b (Unturned f i code code' t) h = both (spills-turned slots code code' t (λ k d lt. h (suc k) d (omega arith)))
  where
    both : SpillsByBase slots code' → SpillsByBase slots (relocated f i ∷ code')
    both rest zero d lt = keeps-relocated f slots i (h zero d (omega arith))
    both rest (suc k) d lt = rest k d (omega arith)
spills-turned slots a b (TwiceTurned first second third t u) h = spills-turned slots second third u (spills-turned slots first second t h)

-- ---- parameters

entry-few : (o : Option Label) → is_entry o ≡ true → params_of o ≤ 8
entry-few (Some l) h = leb-true (length l.params) 8 h
entry-few None h = omega arith

pub params-few : (labels : List Label) → single labels ≡ true → ssu_params labels ≤ 8
params-few labels h = entry-few (slice_get labels 0) (and_parts (is_entry (slice_get labels 0)) _ h).0
