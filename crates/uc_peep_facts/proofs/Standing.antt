-- What stands after an instruction.
use Rattle.std.proofs.Common.{◌≡◌, ℕ, ◌+◌, ◌-◌, ⊎_elim, true, false, ◌||◌, List, Option, Some, None, nat_eq, refl, sym, ap, ◌∙◌, subst, arith}
use Rattle.std.proofs.lemmas.Bool.{false≢true}
use Rattle.nv_base.specs.Memories.{Memories, HasSizes}
use Rattle.nv_base.specs.Words.{bin_word, shifted_left}
use Rattle.uc_isa.specs.Engine.{IsEngine}
use Rattle.uc_isa.specs.Registers.{IsRegister, Register, register, source_register, target_register}
use Rattle.uc_isa.specs.Step.{EndsRun, effect, operand, un_word}
use Rattle.uc_isa.specs.declared.engine.Engine.{Engine}
use Rattle.uc_isa.specs.declared.instruction.Dst.{Dst}
use Rattle.uc_isa.specs.declared.instruction.Dst.TheVariants.{Nowhere}
use Rattle.uc_isa.specs.declared.instruction.Src.{Src}
use Rattle.uc_isa.specs.declared.instruction.UnOp.TheVariants.{Copy}
use Rattle.uc_isa.specs.declared.instruction.Instr.{Instr}
use Rattle.uc_isa.specs.declared.instruction.Instr.TheVariants.{Alu, Un, Immed, Br, Read, Write, Halt}
use Rattle.uc_isa.proofs.RegisterLemmas.{operand-register, puts-flags, puts-word}
use Rattle.uc_isa.proofs.Effects.{does-alike, keeps-engine, keeps-value, named-some, true-same, value-at}
use Rattle.uc_isa.proofs.Relocation.{does-moved}
use Rattle.uc_isa.specs.Alike.{ReadAlike}
use Rattle.uc_isa.specs.Program.{IsFormed}
use Rattle.uc_isa.specs.Relocated.{at_place, moved, relocated}
use Rattle.uc_isa.specs.Resources.{IsResource, Resource, flag_word, is_flag, is_target, is_some_register, is_zero, reads, value, writes}
use Rattle.uc_isa.specs.Resources.Resource.{In, Zero, Carry}
use Rattle.uc_isa.specs.StraightCode.{IsStraight}
use Rattle.uc_peep.specs.Sets.{has}
use Rattle.uc_peep_facts.specs.Facts.{AllStand, AreWith, Gives, HasTarget, IsApart, IsNamed, IsOneOf, IsResult, SetsFlags, Stands, is_part, with_target}
use Rattle.uc_peep_facts.specs.declared.fact.Fact.{Fact}
use Rattle.uc_peep_facts.specs.declared.fact.Part.{Part}
use Rattle.uc_peep_facts.specs.declared.fact.Part.TheVariants as part

-- ---- what a straight instruction writes depends neither on its place nor on the memories

abbrev shift : ℕ → ℕ → ℕ → ℕ
shift x y z = (z + y) - x

shift-here : (x y : ℕ) → (x + y) - x ≡ y
shift-here x y = omega arith

shift-next : (x y : ℕ) → ((x + 1) + y) - x ≡ ((x + y) - x) + 1
shift-next x y = omega arith

stays-so : (f : ℕ → ℕ) (i : Instr) → IsStraight i → relocated f i ≡ i
stays-so f (Alu d op x y) h = refl
stays-so f (Un d op x) h = refl
stays-so f (Immed d v k) h = refl
stays-so f (Br b t) h = absurd h
stays-so f (Read m r n x off) h = absurd h
stays-so f (Write m r n x off) h = absurd h
stays-so f (Halt k n) h = absurd h

anywhere-by : (f : ℕ → ℕ) (i : Instr) (e : Engine) (p : Memories) (s : Resource) → relocated f i ≡ i → f (e.place + 1) ≡ f e.place + 1 → value s (effect i (at_place (f e.place) e) p).engine ≡ value s (effect i e p).engine
anywhere-by f i e p s same next =
    let d = does-moved f i e p next in
    ap (λ j. value s (effect j (moved f e) p).engine) (sym same) ∙ ap (value s) d.engine ∙ value-at s (f (effect i e p).engine.place) (effect i e p).engine

anywhere : (i : Instr) (y : ℕ) (e : Engine) (p : Memories) (s : Resource) → IsStraight i → value s (effect i (at_place y e) p).engine ≡ value s (effect i e p).engine
anywhere i y e p s h =
    subst (λ n. value s (effect i (at_place n e) p).engine ≡ value s (effect i e p).engine) (shift-here e.place y)
    (anywhere-by (shift e.place y) i e p s (stays-so (shift e.place y) i h) (shift-next e.place y))

any-memories : (i : Instr) (e : Engine) (p q : Memories) (s : Resource) → IsStraight i → value s (effect i e p).engine ≡ value s (effect i e q).engine
any-memories (Alu d op x y) e p q s h = refl
any-memories (Un d op x) e p q s h = refl
any-memories (Immed d v k) e p q s h = refl
any-memories (Br b t) e p q s h = absurd h
any-memories (Read m r n x off) e p q s h = absurd h
any-memories (Write m r n x off) e p q s h = absurd h
any-memories (Halt k n) e p q s h = absurd h

pub straight-goes : (i : Instr) (e : Engine) (p : Memories) → IsStraight i → ¬ EndsRun (effect i e p).stepped
straight-goes (Alu d op x y) e p h ends = ends
straight-goes (Un d op x) e p h ends = ends
straight-goes (Immed d v k) e p h ends = ends
straight-goes (Br b t) e p h ends = absurd h
straight-goes (Read m r n x off) e p h ends = absurd h
straight-goes (Write m r n x off) e p h ends = absurd h
straight-goes (Halt k n) e p h ends = absurd h

at-state : (x : ℕ) (e : Engine) → IsEngine e → IsEngine (at_place x e)
at-state x e h = record { bank_a = h.bank_a; bank_b = h.bank_b; bank_l = h.bank_l; bank_s = h.bank_s; bank_ld = h.bank_ld; bank_sd = h.bank_sd }

-- by the same operands it writes the same, wherever it stands
pub alike-anywhere : (i : Instr) (e e' : Engine) (p q : Memories) → IsStraight i → IsFormed i → IsEngine e → IsEngine e' → HasSizes p → ReadAlike i e e'
    → (s : Resource) → IsResource s → writes i s ≡ true → value s (effect i e p).engine ≡ value s (effect i e' q).engine
alike-anywhere i e e' p q straight formed h h' sizes same s spot w =
    let d = does-alike i e (at_place e.place e') p formed h (at-state e.place e' h') sizes refl (λ t there r. same t there r ∙ sym (value-at t e.place e')) in
    d.written (straight-goes i e p straight) s spot w ∙ anywhere i e.place e' p s straight ∙ any-memories i e' p q s straight

-- ---- another target

pub target-straight : (d : Dst) (i : Instr) → IsStraight i → IsStraight (with_target d i)
target-straight d (Alu e op x y) h = tt
target-straight d (Un e op x) h = tt
target-straight d (Immed e v k) h = tt
target-straight d (Br b t) h = absurd h
target-straight d (Read m r n x off) h = absurd h
target-straight d (Write m r n x off) h = absurd h
target-straight d (Halt k n) h = absurd h

pub target-formed : (d : Dst) (i : Instr) → IsFormed i → IsFormed (with_target d i)
target-formed d (Alu e op x y) h = record { operands = h.operands; run_inside = tt; pairs = tt; numbers = tt; halt = tt }
target-formed d (Un e op x) h = record { operands = tt; run_inside = tt; pairs = tt; numbers = h.numbers; halt = tt }
target-formed d (Immed e v k) h = record { operands = tt; run_inside = tt; pairs = tt; numbers = h.numbers; halt = tt }
target-formed d (Br b t) h = h
target-formed d (Read m r n x off) h = h
target-formed d (Write m r n x off) h = h
target-formed d (Halt k n) h = h

-- the flags are the same with another target
pub flags-same : (d : Dst) (i : Instr) (e : Engine) (p : Memories) (s : Resource) → is_flag s ≡ true → writes (with_target d i) s ≡ true → value s (effect (with_target d i) e p).engine ≡ value s (effect i e p).engine
flags-same d i e p (In r) h w = absurd (false≢true h)
flags-same d (Alu c op x y) e p Zero h w = refl
flags-same d (Un c op x) e p Zero h w = refl
flags-same d (Immed c v k) e p Zero h w = absurd (false≢true (sym (flagless-zero (target_register d)) ∙ w))
  where
    flagless-zero : (o : Option Register) → is_some_register o Zero ≡ false
    flagless-zero (Some q) = refl
    flagless-zero None = refl
flags-same d (Br b t) e p Zero h w = refl
flags-same d (Read m r n x off) e p Zero h w = refl
flags-same d (Write m r n x off) e p Zero h w = refl
flags-same d (Halt k n) e p Zero h w = refl
flags-same d (Alu c op x y) e p Carry h w = refl
flags-same d (Un c op x) e p Carry h w = refl
flags-same d (Immed c v k) e p Carry h w = absurd (false≢true (sym (flagless-carry (target_register d)) ∙ w))
  where
    flagless-carry : (o : Option Register) → is_some_register o Carry ≡ false
    flagless-carry (Some q) = refl
    flagless-carry None = refl
flags-same d (Br b t) e p Carry h w = refl
flags-same d (Read m r n x off) e p Carry h w = refl
flags-same d (Write m r n x off) e p Carry h w = refl
flags-same d (Halt k n) e p Carry h w = refl

-- the word that a straight instruction puts into its target
abbrev result : Instr → Engine → ℕ
result (Alu d op x y) e = bin_word op (operand x e) (operand y e)
result (Un d op x) e = un_word op (operand x e)
result (Immed d v k) e = shifted_left k v
result i e = 0

puts-result : (d : Dst) (i : Instr) (e : Engine) (p : Memories) (r : Register) → IsStraight i → IsEngine e → target_register d ≡ Some r → IsRegister r → register r (effect (with_target d i) e p).engine ≡ result i e
puts-result d (Alu c op x y) e p r straight h t there = (puts-flags d _ _ _ e h).target r t there
puts-result d (Un c op x) e p r straight h t there = (puts-flags d _ _ _ e h).target r t there
puts-result d (Immed c v k) e p r straight h t there = (puts-word d _ e h).target r t there
puts-result d (Br b x) e p r straight h t there = absurd straight
puts-result d (Read m q n x off) e p r straight h t there = absurd straight
puts-result d (Write m q n x off) e p r straight h t there = absurd straight
puts-result d (Halt k n) e p r straight h t there = absurd straight

own-target : (i : Instr) (d : Dst) → HasTarget i d → with_target d i ≡ i
own-target (Alu c op x y) d h = ap (λ z. Alu z op x y) (sym h)
own-target (Un c op x) d h = ap (λ z. Un z op x) (sym h)
own-target (Immed c v k) d h = ap (λ z. Immed z v k) (sym h)
own-target (Br b t) d h = absurd h
own-target (Read m r n x off) d h = absurd h
own-target (Write m r n x off) d h = absurd h
own-target (Halt k n) d h = absurd h

-- of registers it writes its target alone
written-target : (d : Dst) (i : Instr) (r : Register) → IsStraight i → writes (with_target d i) (In r) ≡ true → target_register d ≡ Some r
written-target d (Alu c op x y) r h w = named-some (target_register d) r w
written-target d (Un c op x) r h w = named-some (target_register d) r w
written-target d (Immed c v k) r h w = named-some (target_register d) r w
written-target d (Br b t) r h w = absurd h
written-target d (Read m q n x off) r h w = absurd h
written-target d (Write m q n x off) r h w = absurd h
written-target d (Halt k n) r h w = absurd h

pub target-named : (d : Dst) (r : Register) → target_register d ≡ Some r → is_target d (In r) ≡ true
target-named d r h = ap (λ o. is_some_register o (In r)) h ∙ true-same r

target-written : (d : Dst) (i : Instr) (r : Register) → IsStraight i → target_register d ≡ Some r → writes (with_target d i) (In r) ≡ true
target-written d (Alu c op x y) r h t = target-named d r t
target-written d (Un c op x) r h t = target-named d r t
target-written d (Immed c v k) r h t = target-named d r t
target-written d (Br b x) r h t = absurd h
target-written d (Read m q n x off) r h t = absurd h
target-written d (Write m q n x off) r h t = absurd h
target-written d (Halt k n) r h t = absurd h

-- ---- one fact

-- where the facts stand, this one stands after the instruction
abbrev pub GivesOne : Instr → List Fact → Fact → Type 0
GivesOne i before f = (e : Engine) (p : Memories) → IsEngine e → HasSizes p → AllStand e before → Stands (effect i e p).engine f

pub gives-with : (i : Instr) (before old new : List Fact) (f : Fact) → Gives i before old → GivesOne i before f → AreWith f old new → Gives i before new
gives-with i before old new f gives one with e p h sizes all g is = ⊎_elim
    (λ (same : g ≡ f). subst (Stands (effect i e p).engine) (sym same) (one e p h sizes all))
    (λ (was : IsOneOf g old). gives e p h sizes all g was)
    (with g is)

abbrev pub IsWritten : Instr → ℕ → Type 0
IsWritten i set = (s : Resource) → IsResource s → has set s ≡ writes i s

-- what an instruction leaves
module _ (i : Instr) (set : ℕ) (e : Engine) (p : Memories) (formed : IsFormed i) (written : IsWritten i set) (h : IsEngine e) (sizes : HasSizes p) where
  left-value : (s : Resource) → IsResource s → has set s ≡ false → value s (effect i e p).engine ≡ value s e
  left-value s spot none = keeps-value i e p s formed h sizes (sym (written s spot) ∙ none)

  left-reads : (j : Instr) → ((s : Resource) → IsResource s → reads j s ≡ true → has set s ≡ false) → ReadAlike j (effect i e p).engine e
  left-reads j apart s spot r = left-value s spot (apart s spot r)

  state : IsEngine (effect i e p).engine
  state = keeps-engine i e p formed h sizes

  fact-left : (f : Fact) → IsApart f set → Stands e f → Stands (effect i e p).engine f
  fact-left f apart was = record {
    straight = was.straight;
    formed = was.formed;
    same = λ q qs s spot w one.
        alike-anywhere f.instr (effect i e p).engine e q p was.straight was.formed state h qs (left-reads f.instr apart.reads) s spot w
        ∙ was.same p sizes s spot w one
        ∙ sym (left-value s spot (apart.part s spot w one));
  }

  fact-own : (a : Part) → IsStraight i → ((s : Resource) → IsResource s → reads i s ≡ true → has set s ≡ false) → Stands (effect i e p).engine (record { instr = i; part = a })
  fact-own a straight apart = record {
    straight = straight;
    formed = formed;
    same = λ q qs s spot w one. alike-anywhere i (effect i e p).engine e q p straight formed state h qs (left-reads i apart) s spot w;
  }

  fact-flags : IsStraight i → ((s : Resource) → IsResource s → reads i s ≡ true → has set s ≡ false) → Stands (effect i e p).engine (record { instr = with_target Nowhere i; part = part.Flags })
  fact-flags straight apart = record {
    straight = target-straight Nowhere i straight;
    formed = target-formed Nowhere i formed;
    same = λ q qs s spot w one.
        flags-same Nowhere i (effect i e p).engine q s one w
        ∙ alike-anywhere i (effect i e p).engine e q p straight formed state h qs (left-reads i apart) s spot (flag-written i s straight one w);
  }
    where
      flag-written : (i : Instr) (s : Resource) → IsStraight i → is_flag s ≡ true → writes (with_target Nowhere i) s ≡ true → writes i s ≡ true
      flag-written (Alu d op x y) s k one w = ap (λ b. b || is_target d s) one
      flag-written (Un d op x) s k one w = ap (λ b. b || is_target d s) one
      flag-written (Immed d v n) s k one w = absurd (false≢true w)
      flag-written (Br b t) s k one w = absurd k
      flag-written (Read m r n x off) s k one w = absurd k
      flag-written (Write m r n x off) s k one w = absurd k
      flag-written (Halt n m) s k one w = absurd k

pub given-left : (i : Instr) (before : List Fact) (set : ℕ) (f : Fact) → IsFormed i → IsWritten i set → IsOneOf f before → IsApart f set → GivesOne i before f
given-left i before set f formed written one apart e p h sizes all = fact-left i set e p formed written h sizes f apart (all f one)

pub given-own : (i : Instr) (before : List Fact) (set : ℕ) (a : Part) → IsFormed i → IsWritten i set → IsStraight i → ((s : Resource) → IsResource s → reads i s ≡ true → has set s ≡ false) → GivesOne i before (record { instr = i; part = a })
given-own i before set a formed written straight apart e p h sizes all = fact-own i set e p formed written h sizes a straight apart

pub given-flags : (i : Instr) (before : List Fact) (set : ℕ) → IsFormed i → IsWritten i set → IsStraight i → ((s : Resource) → IsResource s → reads i s ≡ true → has set s ≡ false) → GivesOne i before (record { instr = with_target Nowhere i; part = part.Flags })
given-flags i before set formed written straight apart e p h sizes all = fact-flags i set e p formed written h sizes straight apart

-- ---- a test of the result

copy-formed : (d : Dst) (x : Src) → IsFormed (Un d Copy x)
copy-formed d x = record { operands = tt; run_inside = tt; pairs = tt; numbers = tt; halt = tt }

tested-by : (x : Src) (v : ℕ) (e : Engine) → operand x e ≡ v → value Zero e ≡ flag_word (nat_eq v 0) → Stands e (record { instr = Un Nowhere Copy x; part = part.Zero })
tested-by x v e same zero = record {
  straight = tt;
  formed = copy-formed Nowhere x;
  same = λ q qs s spot w one. by q s one;
}
  where
    by : (q : Memories) (s : Resource) → is_zero s ≡ true → value s (effect (Un Nowhere Copy x) e q).engine ≡ value s e
    by q (In r) one = absurd (false≢true one)
    by q Zero one = ap (λ n. flag_word (nat_eq n 0)) same ∙ sym zero
    by q Carry one = absurd (false≢true one)

pub given-tested : (i : Instr) (before : List Fact) (d : Dst) (x : Src) → SetsFlags i d → IsNamed d x → GivesOne i before (record { instr = Un Nowhere Copy x; part = part.Zero })
given-tested (Alu c op y z) before d x sets named e p h sizes all =
    tested-by x _ (effect (Alu c op y z) e p).engine (operand-register x (effect (Alu c op y z) e p).engine ∙ (puts-flags c _ _ _ e h).target (source_register x) (ap target_register sets ∙ named.same) named.there) refl
given-tested (Un c op y) before d x sets named e p h sizes all =
    tested-by x _ (effect (Un c op y) e p).engine (operand-register x (effect (Un c op y) e p).engine ∙ (puts-flags c _ _ _ e h).target (source_register x) (ap target_register sets ∙ named.same) named.there) refl
given-tested (Immed c v k) before d x sets named e p h sizes all = absurd sets
given-tested (Br b t) before d x sets named e p h sizes all = absurd sets
given-tested (Read m r n y off) before d x sets named e p h sizes all = absurd sets
given-tested (Write m r n y off) before d x sets named e p h sizes all = absurd sets
given-tested (Halt k n) before d x sets named e p h sizes all = absurd sets

-- ---- copies

pub copied : (d : Dst) (x : Src) (e : Engine) (p : Memories) (r : Register) → IsEngine e → target_register d ≡ Some r → IsRegister r → register r (effect (Un d Copy x) e p).engine ≡ operand x e
copied d x e p r h t there = (puts-flags d (operand x e) (operand x e) false e h).target r t there

pub given-copied : (d : Dst) (x : Src) (before : List Fact) (set : ℕ) (f : Fact) → IsWritten (Un d Copy x) set → IsOneOf f before → IsResult f x → IsStraight f.instr → ((s : Resource) → IsResource s → reads f.instr s ≡ true → has set s ≡ false)
    → GivesOne (Un d Copy x) before (record { instr = with_target d f.instr; part = part.Target })
given-copied d x before set f written one is straight apart e p h sizes all = record {
  straight = target-straight d f.instr straight;
  formed = target-formed d f.instr was.formed;
  same = λ q qs s spot w not-flag. by q qs s spot w not-flag;
}
  where
    was : Stands e f
    was = all f one

    then_ : Engine
    then_ = (effect (Un d Copy x) e p).engine

    state-then : IsEngine then_
    state-then = keeps-engine (Un d Copy x) e p (copy-formed d x) h sizes

    from : Register
    from = source_register x

    again : with_target is.target f.instr ≡ f.instr
    again = own-target f.instr is.target is.has

    writes-it : writes f.instr (In from) ≡ true
    writes-it = subst (λ j. writes j (In from) ≡ true) again (target-written is.target f.instr from straight is.named.same)

    it-is : is_part f.part (In from) ≡ true
    it-is = ap (λ a. is_part a (In from)) is.part

    holds : (q : Memories) → HasSizes q → result f.instr then_ ≡ operand x e
    holds q qs =
        sym (puts-result is.target f.instr then_ q from straight state-then is.named.same is.named.there)
        ∙ ap (λ j. register from (effect j then_ q).engine) again
        ∙ alike-anywhere f.instr then_ e q p straight was.formed state-then h qs (left-reads (Un d Copy x) set e p (copy-formed d x) written h sizes f.instr apart) (In from) is.named.there writes-it
        ∙ was.same p sizes (In from) is.named.there writes-it it-is
        ∙ sym (operand-register x e)

    by : (q : Memories) → HasSizes q → (s : Resource) → IsResource s → writes (with_target d f.instr) s ≡ true → is_part part.Target s ≡ true → value s (effect (with_target d f.instr) then_ q).engine ≡ value s then_
    by q qs (In r) spot w not-flag =
        let t = written-target d f.instr r straight w in
        puts-result d f.instr then_ q r straight state-then t spot ∙ holds q qs ∙ sym (copied d x e p r h t spot)
    by q qs Zero spot w not-flag = absurd (false≢true not-flag)
    by q qs Carry spot w not-flag = absurd (false≢true not-flag)
