-- A literal that its register holds already changes nothing.
use Rattle.std.proofs.Common.{◌≡◌, ℕ, Bool, true, false, ◌&&◌, ◌||◌, List, [], ◌∷◌, Option, Some, None, nat_eq, refl, sym, ap, ◌∙◌, subst, arith, eqb-true}
use Rattle.std.proofs.lemmas.Bool.{false≢true}
use Rattle.std.proofs.lemmas.List.Elements.{All-take}
use Rattle.nv_base.specs.Memories.{Memories, HasSizes}
use Rattle.nv_base.specs.Words.{shifted_left}
use Rattle.uc_isa.specs.Engine.{IsEngine}
use Rattle.uc_isa.specs.Registers.{Register, IsRegister, register, target_register}
use Rattle.uc_isa.specs.Step.{effect}
use Rattle.uc_isa.specs.declared.engine.Engine.{Engine}
use Rattle.uc_isa.specs.declared.instruction.Dst.{Dst}
use Rattle.uc_isa.specs.declared.instruction.Instr.{Instr}
use Rattle.uc_isa.specs.declared.instruction.Instr.TheVariants.{Alu, Un, Immed, Br, Read, Write, Halt}
use Rattle.uc_isa.proofs.RegisterLemmas.{puts-word}
use Rattle.uc_isa.proofs.Effects.{keeps-value, keeps-engine, named-some, same-true, true-same}
use Rattle.uc_isa.specs.Program.{IsFormed}
use Rattle.uc_isa.specs.Resources.{Resource, IsResource, value, reads, writes, is_target, is_some_register}
use Rattle.uc_isa.specs.Resources.Resource.{In, Zero, Carry}
use Rattle.uc_isa.specs.StraightCode.{IsStraight}
use Rattle.uc_peep.specs.Window.{IsText, IsShorter}
use Rattle.uc_peep.specs.Needless.{is_same_name, is_same_target, leaves, puts_again, held_rule}
use Rattle.uc_peep.proofs.Sound.{both, down, flagless, given}

same-name : (o o' : Option Register) → is_same_name o o' ≡ true → o ≡ o'
same-name (Some q) (Some r) h = ap (λ x. Some x) (same-true q r h)
same-name (Some q) None h = absurd (false≢true h)
same-name None (Some r) h = absurd (false≢true h)
same-name None None h = absurd (false≢true h)

other-name : (r : Register) (o : Option Register) → is_same_name (Some r) o ≡ false → is_some_register o (In r) ≡ false
other-name r (Some q) h = h
other-name r None h = refl

other-target : (d e : Dst) (r : Register) → target_register d ≡ Some r → is_same_target d e ≡ false → is_target e (In r) ≡ false
other-target d e r t h = other-name r (target_register e) (ap (λ o. is_same_name o (target_register e)) (sym t) ∙ h)

unwritten-target : (d : Dst) (m : Instr) (r : Register) → target_register d ≡ Some r → leaves d m ≡ true → writes m (In r) ≡ false
unwritten-target d (Alu e op x y) r t h = other-target d e r t (down (is_same_target d e) h)
unwritten-target d (Un e op x) r t h = other-target d e r t (down (is_same_target d e) h)
unwritten-target d (Immed e v k) r t h = other-target d e r t (down (is_same_target d e) h)
unwritten-target d (Br b x) r t h = absurd (false≢true h)
unwritten-target d (Read m q n x off) r t h = absurd (false≢true h)
unwritten-target d (Write m q n x off) r t h = absurd (false≢true h)
unwritten-target d (Halt k n) r t h = absurd (false≢true h)

-- the four parts of the test
parts : (d e : Dst) (v w k n : ℕ) (m : Instr) → puts_again (Immed d v k) m (Immed e w n) ≡ true → (target_register d ≡ target_register e) × (v ≡ w) × (k ≡ n) × (leaves d m ≡ true)
parts d e v w k n m h =
    let a = both (is_same_target d e) (nat_eq v w && (nat_eq k n && leaves d m)) h in
    let b = both (nat_eq v w) (nat_eq k n && leaves d m) a.1 in
    let c = both (nat_eq k n) (leaves d m) b.1 in
    (same-name (target_register d) (target_register e) a.0, eqb-true v w b.0, eqb-true k n c.0, c.1)

-- the instruction between leaves what the first writes
left-alone : (i m l : Instr) → puts_again i m l ≡ true → (r : Register) → writes i (In r) ≡ true → writes m (In r) ≡ false
left-alone (Immed d v k) m (Immed e w n) h r there = unwritten-target d m r (named-some (target_register d) r there) (parts d e v w k n m h).3
left-alone (Immed d v k) m (Alu e op x y) h r there = absurd (false≢true h)
left-alone (Immed d v k) m (Un e op x) h r there = absurd (false≢true h)
left-alone (Immed d v k) m (Br b t) h r there = absurd (false≢true h)
left-alone (Immed d v k) m (Read q z n x off) h r there = absurd (false≢true h)
left-alone (Immed d v k) m (Write q z n x off) h r there = absurd (false≢true h)
left-alone (Immed d v k) m (Halt q n) h r there = absurd (false≢true h)
left-alone (Alu d op x y) m l h r there = absurd (false≢true h)
left-alone (Un d op x) m l h r there = absurd (false≢true h)
left-alone (Br b t) m l h r there = absurd (false≢true h)
left-alone (Read q z n x off) m l h r there = absurd (false≢true h)
left-alone (Write q z n x off) m l h r there = absurd (false≢true h)
left-alone (Halt q n) m l h r there = absurd (false≢true h)

-- a literal changes nothing where its register has the word
put-again : (d : Dst) (v k : ℕ) (e : Engine) (p : Memories) → IsFormed (Immed d v k) → IsEngine e → HasSizes p → ((r : Register) → IsRegister r → target_register d ≡ Some r → register r e ≡ shifted_left k v)
    → (s : Resource) → IsResource s → value s (effect (Immed d v k) e p).engine ≡ value s e
put-again d v k e p formed h sizes has (In r) there = by (is_target d (In r)) refl
  where
    by : (b : Bool) → is_target d (In r) ≡ b → register r (effect (Immed d v k) e p).engine ≡ register r e
    by true is = let t = named-some (target_register d) r is in (puts-word d (shifted_left k v) e h).target r t there ∙ sym (has r there t)
    by false is = keeps-value (Immed d v k) e p (In r) formed h sizes is
put-again d v k e p formed h sizes has Zero there = keeps-value (Immed d v k) e p Zero formed h sizes (flagless (target_register d)).0
put-again d v k e p formed h sizes has Carry there = keeps-value (Immed d v k) e p Carry formed h sizes (flagless (target_register d)).1

-- what the registers have that an instruction writes, as it was after it
abbrev Stayed : Instr → Engine → Engine → Type 0
Stayed i after e = (r : Register) → IsRegister r → writes i (In r) ≡ true → register r e ≡ register r after

named : (o : Option Register) (r : Register) → o ≡ Some r → is_some_register o (In r) ≡ true
named o r h = ap (λ q. is_some_register q (In r)) h ∙ true-same r

again-same : (i m l : Instr) → puts_again i m l ≡ true → IsFormed l → (before : Engine) (p : Memories) → IsEngine before → HasSizes p → (e : Engine) → IsEngine e → Stayed i (effect i before p).engine e
    → (s : Resource) → IsResource s → value s (effect l e p).engine ≡ value s e
again-same (Immed d v k) m (Immed d' w n) h formed before p engine sizes e state stayed =
    let t = parts d d' v w k n m h in
    put-again d' w n e p formed state sizes (λ r there is.
    let named_first : target_register d ≡ Some r = t.0 ∙ is in
    stayed r there (named (target_register d) r named_first) ∙ (puts-word d (shifted_left k v) before engine).target r named_first there ∙ ap (λ z. shifted_left k z) t.1 ∙ ap (λ z. shifted_left z w) t.2)
again-same (Immed d v k) m (Alu e op x y) h formed before p engine sizes e' state stayed = absurd (false≢true h)
again-same (Immed d v k) m (Un e op x) h formed before p engine sizes e' state stayed = absurd (false≢true h)
again-same (Immed d v k) m (Br b t) h formed before p engine sizes e' state stayed = absurd (false≢true h)
again-same (Immed d v k) m (Read q z n x off) h formed before p engine sizes e' state stayed = absurd (false≢true h)
again-same (Immed d v k) m (Write q z n x off) h formed before p engine sizes e' state stayed = absurd (false≢true h)
again-same (Immed d v k) m (Halt q n) h formed before p engine sizes e' state stayed = absurd (false≢true h)
again-same (Alu d op x y) m l h formed before p engine sizes e' state stayed = absurd (false≢true h)
again-same (Un d op x) m l h formed before p engine sizes e' state stayed = absurd (false≢true h)
again-same (Br b t) m l h formed before p engine sizes e' state stayed = absurd (false≢true h)
again-same (Read q z n x off) m l h formed before p engine sizes e' state stayed = absurd (false≢true h)
again-same (Write q z n x off) m l h formed before p engine sizes e' state stayed = absurd (false≢true h)
again-same (Halt q n) m l h formed before p engine sizes e' state stayed = absurd (false≢true h)

-- the instruction between keeps what the first put
still : (i m l : Instr) → puts_again i m l ≡ true → IsFormed m → (after e : Engine) (p : Memories) → IsEngine e → HasSizes p → Stayed i after e → Stayed i after (effect m e p).engine
still i m l h formed after e p engine sizes stayed = λ r there is. keeps-value m e p (In r) formed engine sizes (left-alone i m l h r is) ∙ stayed r there is

of-two : (a b c : Bool) → (a || (b || false)) ≡ true → (a || (b || (c || false))) ≡ true
of-two true b c h = refl
of-two false true c h = refl
of-two false false c h = absurd (false≢true h)

of-three : (a b c d : Bool) → (a || (b || (c || false))) ≡ true → (a || (b || (c || (d || false)))) ≡ true
of-three true b c d h = refl
of-three false true c d h = refl
of-three false false true d h = refl
of-three false false false d h = absurd (false≢true h)

held-third : (i j l : Instr) (set : ℕ) → IsText (i ∷ j ∷ l ∷ []) → puts_again i j l ≡ true → IsShorter (i ∷ j ∷ l ∷ []) set (i ∷ j ∷ [])
held-third i j l set text h = record {
  fewer = omega arith;
  straight = All-take IsStraight 2 (i ∷ j ∷ l ∷ []) text.straight;
  lawful = All-take IsFormed 2 (i ∷ j ∷ l ∷ []) text.lawful;
  same = λ e p engine sizes. record { by = λ s there live. unchanged e p engine sizes s there };
  reads = λ s t. of-two (reads i s) (reads j s) (reads l s) t;
  writes = λ s t. of-two (writes i s) (writes j s) (writes l s) t;
  weight = omega arith;
}
  where
    first : IsFormed i
    first = text.lawful 0 i (omega arith)

    second : IsFormed j
    second = text.lawful 1 i (omega arith)

    third : IsFormed l
    third = text.lawful 2 i (omega arith)

    unchanged : (e : Engine) (p : Memories) → IsEngine e → HasSizes p → (s : Resource) → IsResource s → value s (effect l (effect j (effect i e p).engine p).engine p).engine ≡ value s (effect j (effect i e p).engine p).engine
    unchanged e p engine sizes =
        let a = (effect i e p).engine in
        let one : IsEngine a = keeps-engine i e p first engine sizes in
        let b = (effect j a p).engine in
        let two : IsEngine b = keeps-engine j a p second one sizes in
        again-same i j l h third e p engine sizes b two (still i j l h second a a p one sizes (λ r there is. refl))

held-fourth : (i j k l : Instr) (set : ℕ) → IsText (i ∷ j ∷ k ∷ l ∷ []) → puts_again i j l ≡ true → puts_again i k l ≡ true → IsShorter (i ∷ j ∷ k ∷ l ∷ []) set (i ∷ j ∷ k ∷ [])
held-fourth i j k l set text h g = record {
  fewer = omega arith;
  straight = All-take IsStraight 3 (i ∷ j ∷ k ∷ l ∷ []) text.straight;
  lawful = All-take IsFormed 3 (i ∷ j ∷ k ∷ l ∷ []) text.lawful;
  same = λ e p engine sizes. record { by = λ s there live. unchanged e p engine sizes s there };
  reads = λ s t. of-three (reads i s) (reads j s) (reads k s) (reads l s) t;
  writes = λ s t. of-three (writes i s) (writes j s) (writes k s) (writes l s) t;
  weight = omega arith;
}
  where
    first : IsFormed i
    first = text.lawful 0 i (omega arith)

    second : IsFormed j
    second = text.lawful 1 i (omega arith)

    third : IsFormed k
    third = text.lawful 2 i (omega arith)

    fourth : IsFormed l
    fourth = text.lawful 3 i (omega arith)

    unchanged : (e : Engine) (p : Memories) → IsEngine e → HasSizes p → (s : Resource) → IsResource s
        → value s (effect l (effect k (effect j (effect i e p).engine p).engine p).engine p).engine ≡ value s (effect k (effect j (effect i e p).engine p).engine p).engine
    unchanged e p engine sizes =
        let a = (effect i e p).engine in
        let one : IsEngine a = keeps-engine i e p first engine sizes in
        let b = (effect j a p).engine in
        let two : IsEngine b = keeps-engine j a p second one sizes in
        let c = (effect k b p).engine in
        let three : IsEngine c = keeps-engine k b p third two sizes in
        again-same i j l h fourth e p engine sizes c three (still i k l g third a b p two sizes (still i j l h second a a p one sizes (λ r there is. refl)))

pub held_sound : (ws : List Instr) (set : ℕ) (shorter : List Instr) → IsText ws → held_rule ws set ≡ Some shorter → IsShorter ws set shorter
held_sound [] set shorter text e = cc
held_sound (i ∷ []) set shorter text e = cc
held_sound (i ∷ j ∷ []) set shorter text e = cc
held_sound (i ∷ j ∷ l ∷ []) set shorter text e =
    let g = given (puts_again i j l) (i ∷ j ∷ []) shorter e in
    subst (IsShorter (i ∷ j ∷ l ∷ []) set) g.1 (held-third i j l set text g.0)
held_sound (i ∷ j ∷ k ∷ l ∷ []) set shorter text e =
    let g = given (puts_again i j l && puts_again i k l) (i ∷ j ∷ k ∷ []) shorter e in
    let t = both (puts_again i j l) (puts_again i k l) g.0 in
    subst (IsShorter (i ∷ j ∷ k ∷ l ∷ []) set) g.1 (held-fourth i j k l set text t.0 t.1)
held_sound (i ∷ j ∷ k ∷ l ∷ m ∷ ws) set shorter text e = cc
