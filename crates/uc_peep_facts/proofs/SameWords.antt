-- Operands that hold the same words, and instructions that read them.
use Rattle.std.proofs.Common.{◌≡◌, ℕ, ◌+◌, ◌≤◌, inl, inr, true, false, List, take, drop, Some, None, refl, sym, ap, ◌∙◌, subst, arith}
use Rattle.nv_base.specs.Memories.{Memories, HasSizes, fetched, stored}
use Rattle.nv_base.specs.Words.{bin_word, shifted_left}
use Rattle.nv_base.specs.declared.term.Bin.{Bin}
use Rattle.nv_base.specs.declared.term.Mem.{Mem}
use Rattle.uc_isa.specs.Engine.{IsEngine}
use Rattle.uc_isa.specs.Lawful.{AreApart, IsLast, Rule5}
use Rattle.uc_isa.specs.Moves.{weight}
use Rattle.uc_isa.specs.Registers.{register, source_register}
use Rattle.uc_isa.specs.Step.{Next, after_read, after_write, bin_carry, effect, onward, operand, un_word, with_flags, with_result, write_registers}
use Rattle.uc_isa.specs.declared.engine.Engine.{Engine}
use Rattle.uc_isa.specs.declared.engine.Stepped.TheVariants.{Went}
use Rattle.uc_isa.specs.declared.instruction.Dst.{Dst}
use Rattle.uc_isa.specs.declared.instruction.Dst.TheVariants.{Nowhere}
use Rattle.uc_isa.specs.declared.instruction.Gpr.{Gpr}
use Rattle.uc_isa.specs.declared.instruction.Src.{Src}
use Rattle.uc_isa.specs.declared.instruction.UnOp.{UnOp}
use Rattle.uc_isa.specs.declared.instruction.UnOp.TheVariants.{Copy, Not, Shl, Shr, Rol}
use Rattle.uc_isa.specs.declared.instruction.Instr.{Instr}
use Rattle.uc_isa.specs.declared.instruction.Instr.TheVariants.{Alu, Un, Immed, Br, Read, Write, Halt}
use Rattle.uc_isa.proofs.RegisterLemmas.{operand-register, puts-word}
use Rattle.uc_isa.specs.Program.{IsFormed}
use Rattle.uc_isa.specs.Resources.{writes}
use Rattle.uc_isa.specs.Resources.Resource.{In}
use Rattle.uc_isa.specs.Visits.{access}
use Rattle.uc_peep.specs.Needless.{is_wanted}
use Rattle.uc_peep_facts.specs.Facts.{AllStand, IsOneOf, SetsFlags, Stands, is_part, with_target}
use Rattle.uc_peep_facts.specs.Elsewhere.{GoesAs, ReadsAs, Rereads}
use Rattle.uc_peep_facts.specs.inner.Operands.{HoldsSame, HoldsSameAt, HoldsWord, IsOther, IsReread, IsSource, IsUntargeted, IsWordAt, IsWordOf}
use Rattle.uc_peep_facts.specs.Elsewhere.Rereads.{Same, Binary, Unary, Reading, Writing, BinaryTest, UnaryTest, InTurn}
use Rattle.uc_peep_facts.specs.declared.fact.Fact.{Fact}
use Rattle.uc_peep_facts.proofs.Standing.{copied, target-formed, target-named}

source-same : (facts : List Fact) (f : Fact) (x y : Src) → IsOneOf f facts → IsSource f x y → HoldsSame facts x y
source-same facts f x y one is e p h sizes all =
    let st : Stands e f = all f one in
    let writes-it : writes f.instr (In (source_register x)) ≡ true = subst (λ j. writes j (In (source_register x)) ≡ true) (sym is.copy) (target-named is.target (source_register x) is.named.same) in
    let it-is : is_part f.part (In (source_register x)) ≡ true = ap (λ a. is_part a (In (source_register x))) is.part in
    sym (copied is.target y e p (source_register x) h is.named.same is.named.there)
    ∙ ap (λ j. register (source_register x) (effect j e p).engine) (sym is.copy)
    ∙ st.same p sizes (In (source_register x)) is.named.there writes-it it-is
    ∙ sym (operand-register x e)

pub source-other : (facts : List Fact) (f : Fact) (x y : Src) → IsOneOf f facts → IsSource f x y → IsOther facts x y
source-other facts f x y one is = record { same = source-same facts f x y one is; other = is.other }

pub word-holds : (facts : List Fact) (f : Fact) (x : Src) (v k : ℕ) → IsOneOf f facts → IsWordOf f x v k → HoldsWord facts x v k
word-holds facts f x v k one is e p h sizes all =
    let st : Stands e f = all f one in
    let writes-it : writes f.instr (In (source_register x)) ≡ true = subst (λ j. writes j (In (source_register x)) ≡ true) (sym is.literal) (target-named is.target (source_register x) is.named.same) in
    let it-is : is_part f.part (In (source_register x)) ≡ true = ap (λ a. is_part a (In (source_register x))) is.part in
    operand-register x e
    ∙ sym (st.same p sizes (In (source_register x)) is.named.there writes-it it-is)
    ∙ ap (λ j. register (source_register x) (effect j e p).engine) is.literal
    ∙ (puts-word is.target (shifted_left k v) e h).target (source_register x) is.named.same is.named.there

pub words-other : (facts : List Fact) (x y : Src) (v k : ℕ) → HoldsWord facts x v k → IsWordAt facts y v k → IsOther facts x y
words-other facts x y v k a b = record { same = λ e p h sizes all. b.holds e p h sizes all ∙ sym (a e p h sizes all); other = b.other }

pub same-itself : (facts : List Fact) (x : Src) → HoldsSame facts x x
same-itself facts x e p h sizes all = refl

-- ---- effects

abbrev alu_next : Dst → Bin → ℕ → ℕ → Engine → Memories → Next
alu_next d op u v e p = record { stepped = Went; engine = onward (with_flags (bin_word op u v) (bin_carry op u v) (with_result d (bin_word op u v) e)); packet = p }

pub alu-same : (facts : List Fact) (d : Dst) (op : Bin) (x x' y y' : Src) → HoldsSame facts x x' → HoldsSame facts y y' → (e : Engine) (p : Memories) → IsEngine e → HasSizes p → AllStand e facts
    → (effect (Alu d op x y) e p ≡ effect (Alu d op x' y') e p) × (access (Some (Alu d op x y)) e ≡ access (Some (Alu d op x' y')) e)
alu-same facts d op x x' y y' a b e p h sizes all = (
  ap (λ u. alu_next d op u (operand y e) e p) (sym (a e p h sizes all)) ∙ ap (λ v. alu_next d op (operand x' e) v e p) (sym (b e p h sizes all)),
  refl,
)

abbrev un_next : Dst → UnOp → ℕ → Engine → Memories → Next
un_next d op u e p = record { stepped = Went; engine = onward (with_flags (un_word op u) false (with_result d (un_word op u) e)); packet = p }

pub un-same : (facts : List Fact) (d : Dst) (op : UnOp) (x x' : Src) → HoldsSame facts x x' → (e : Engine) (p : Memories) → IsEngine e → HasSizes p → AllStand e facts
    → (effect (Un d op x) e p ≡ effect (Un d op x') e p) × (access (Some (Un d op x)) e ≡ access (Some (Un d op x')) e)
un-same facts d op x x' a e p h sizes all = (ap (λ u. un_next d op u e p) (sym (a e p h sizes all)), refl)

pub read-same : (facts : List Fact) (m : Mem) (r n : ℕ) (x x' : Gpr) (off : ℕ) → HoldsSameAt facts x x' → (e : Engine) (p : Memories) → IsEngine e → HasSizes p → AllStand e facts
    → (effect (Read m r n x off) e p ≡ effect (Read m r n x' off) e p) × (access (Some (Read m r n x off)) e ≡ access (Some (Read m r n x' off)) e)
read-same facts m r n x x' off a e p h sizes all =
    let to = sym (a e p h sizes all) in (
      ap (λ k. after_read m r (k + off) (fetched m (k + off) n p) e p) to,
      ap (λ k. Some (record { mem = m; at = k + off; count = n; written = None })) to,
    )

pub write-same : (facts : List Fact) (m : Mem) (r n : ℕ) (x x' : Gpr) (off : ℕ) → HoldsSameAt facts x x' → (e : Engine) (p : Memories) → IsEngine e → HasSizes p → AllStand e facts
    → (effect (Write m r n x off) e p ≡ effect (Write m r n x' off) e p) × (access (Some (Write m r n x off)) e ≡ access (Some (Write m r n x' off)) e)
write-same facts m r n x x' off a e p h sizes all =
    let to = sym (a e p h sizes all) in
    let ws : List ℕ = take n (drop r (write_registers m e)) in (
      ap (λ k. after_write m (k + off) (take n (drop r (write_registers m e))) (stored m (k + off) (take n (drop r (write_registers m e))) p) e p) to,
      ap (λ k. Some (record { mem = m; at = k + off; count = n; written = Some (take n (drop r (write_registers m e))) })) to,
    )

-- ---- instructions that read elsewhere

pub reread-alu : (facts : List Fact) (d : Dst) (op : Bin) (x x' y y' : Src) → IsFormed (Alu d op x y) → HoldsSame facts x x' → HoldsSame facts y y' → ReadsAs x x' → ReadsAs y y' → AreApart x' y' → IsReread facts (Alu d op x y) (Alu d op x' y')
reread-alu facts d op x x' y y' formed a b to-x to-y apart = record {
  formed = record { operands = apart; run_inside = tt; pairs = tt; numbers = tt; halt = tt };
  rereads = Binary d op x x' y y' to-x to-y;
  same = alu-same facts d op x x' y y' a b;
}

pub reread-un : (facts : List Fact) (d : Dst) (op : UnOp) (x x' : Src) → IsFormed (Un d op x) → HoldsSame facts x x' → ReadsAs x x' → IsReread facts (Un d op x) (Un d op x')
reread-un facts d op x x' formed a to = record {
  formed = record { operands = tt; run_inside = tt; pairs = tt; numbers = formed.numbers; halt = tt };
  rereads = Unary d op x x' to;
  same = un-same facts d op x x' a;
}

pub reread-read : (facts : List Fact) (m : Mem) (r n : ℕ) (x x' : Gpr) (off : ℕ) → IsFormed (Read m r n x off) → HoldsSameAt facts x x' → GoesAs x x' → IsReread facts (Read m r n x off) (Read m r n x' off)
reread-read facts m r n x x' off formed a to = record {
  formed = record { operands = tt; run_inside = formed.run_inside; pairs = formed.pairs; numbers = formed.numbers; halt = tt };
  rereads = Reading m r n x x' off to;
  same = read-same facts m r n x x' off a;
}

pub reread-write : (facts : List Fact) (m : Mem) (r n : ℕ) (x x' : Gpr) (off : ℕ) → IsFormed (Write m r n x off) → HoldsSameAt facts x x' → GoesAs x x' → IsReread facts (Write m r n x off) (Write m r n x' off)
reread-write facts m r n x x' off formed a to = record {
  formed = record { operands = tt; run_inside = formed.run_inside; pairs = formed.pairs; numbers = formed.numbers; halt = tt };
  rereads = Writing m r n x x' off to;
  same = write-same facts m r n x x' off a;
}

pub reread-same : (facts : List Fact) (i : Instr) → IsFormed i → IsReread facts i i
reread-same facts i formed = record { formed = formed; rereads = Same i; same = λ e p h sizes all. (refl, refl) }

-- ---- instructions without a target

untargeted-light : (i : Instr) (d : Dst) → SetsFlags i d → (weight (with_target Nowhere i) ≤ weight i) × Rereads i (with_target Nowhere i)
untargeted-light (Alu c op x y) d h = (omega arith, BinaryTest c op x y)
untargeted-light (Un c Copy x) d h = (omega arith, UnaryTest c Copy x)
untargeted-light (Un c Not x) d h = (omega arith, UnaryTest c Not x)
untargeted-light (Un c (Shl k) x) d h = (omega arith, UnaryTest c (Shl k) x)
untargeted-light (Un c (Shr k) x) d h = (omega arith, UnaryTest c (Shr k) x)
untargeted-light (Un c (Rol k) x) d h = (omega arith, UnaryTest c (Rol k) x)
untargeted-light (Immed c v k) d h = absurd h
untargeted-light (Br b t) d h = absurd h
untargeted-light (Read m r n x off) d h = absurd h
untargeted-light (Write m r n x off) d h = absurd h
untargeted-light (Halt k n) d h = absurd h

none-sets : (i : Instr) (d c : Dst) → SetsFlags i d → SetsFlags (with_target Nowhere i) c → c ≡ Nowhere
none-sets (Alu e op x y) d c h g = sym g
none-sets (Un e op x) d c h g = sym g
none-sets (Immed e v k) d c h g = absurd h
none-sets (Br b t) d c h g = absurd h
none-sets (Read m r n x off) d c h g = absurd h
none-sets (Write m r n x off) d c h g = absurd h
none-sets (Halt k n) d c h g = absurd h

pub untargeted-by : (live : ℕ) (i : Instr) (d : Dst) → IsFormed i → SetsFlags i d → is_wanted d live ≡ false → IsUntargeted live i (with_target Nowhere i)
untargeted-by live i d formed sets none =
    let l = untargeted-light i d sets in
    record { formed = target-formed Nowhere i formed; light = l.0; rereads = l.1; same = inr (d, sets, none, refl); wanted = λ c g. inl (none-sets i d c sets g) }

pub untargeted-same : (live : ℕ) (i : Instr) → IsFormed i → ((d : Dst) → SetsFlags i d → is_wanted d live ≡ true) → IsUntargeted live i i
untargeted-same live i formed wanted = record { formed = formed; light = omega arith; rereads = Same i; same = inl refl; wanted = λ d h. inr (wanted d h) }

one-target : (i : Instr) (d c : Dst) → SetsFlags i d → SetsFlags i c → d ≡ c
one-target (Alu e op x y) d c h g = sym h ∙ g
one-target (Un e op x) d c h g = sym h ∙ g
one-target (Immed e v k) d c h g = absurd h
one-target (Br b t) d c h g = absurd h
one-target (Read m r n x off) d c h g = absurd h
one-target (Write m r n x off) d c h g = absurd h
one-target (Halt k n) d c h g = absurd h

pub untargeted-live : (live : ℕ) (i : Instr) (d : Dst) → IsFormed i → SetsFlags i d → is_wanted d live ≡ true → IsUntargeted live i i
untargeted-live live i d formed sets wanted = untargeted-same live i formed (λ c h. ap (λ e. is_wanted e live) (sym (one-target i d c sets h)) ∙ wanted)

last-sets : (i : Instr) (d : Dst) → IsLast i → ¬ SetsFlags i d
last-sets (Alu e op x y) d l h = l
last-sets (Un e op x) d l h = l
last-sets (Immed e v k) d l h = h
last-sets (Br b t) d l h = h
last-sets (Read m r n x off) d l h = h
last-sets (Write m r n x off) d l h = h
last-sets (Halt k n) d l h = h

pub untargeted-last : (live : ℕ) (i : Instr) → IsFormed i → IsLast i → IsUntargeted live i i
untargeted-last live i formed last = untargeted-same live i formed (λ d h. absurd (last-sets i d last h))

-- ---- it goes where the first goes

pub rereads-target : (n : ℕ) (i j : Instr) → Rereads i j → Rule5 n i → Rule5 n j
rereads-target n i j (Same k) h = h
rereads-target n i j (Binary d op x x' y y' a b) h = tt
rereads-target n i j (Unary d op x x' a) h = tt
rereads-target n i j (Reading m r k x x' off a) h = tt
rereads-target n i j (Writing m r k x x' off a) h = tt
rereads-target n i j (BinaryTest d op x y) h = tt
rereads-target n i j (UnaryTest d op x) h = tt
rereads-target n i j (InTurn a b c s t) h = rereads-target n b c t (rereads-target n a b s h)

pub rereads-last : (i j : Instr) → Rereads i j → IsLast i → IsLast j
rereads-last i j (Same k) h = h
rereads-last i j (Binary d op x x' y y' a b) h = absurd h
rereads-last i j (Unary d op x x' a) h = absurd h
rereads-last i j (Reading m r k x x' off a) h = absurd h
rereads-last i j (Writing m r k x x' off a) h = absurd h
rereads-last i j (BinaryTest d op x y) h = absurd h
rereads-last i j (UnaryTest d op x) h = absurd h
rereads-last i j (InTurn a b c s t) h = rereads-last b c t (rereads-last a b s h)
