-- Rules are sound by which an instruction goes.
use Rattle.std.proofs.Common.{◌≡◌, ℕ, zero, suc, ◌<◌, ◌⊎◌, inl, inr, ⊎_elim, Bool, true, false, not, ◌&&◌, ◌||◌, List, [], ◌∷◌, length, get_or, set, Option, Some, None, nat_eq, if◌then◌else◌, refl, sym, ap, ◌∙◌, subst, arith, eqb-true, ltb-true}
use Rattle.std.specs.Prelude.{nat_lt}
use Rattle.std.proofs.lemmas.Bool.{false≢true}
use Rattle.nv_base.specs.Memories.{Memories, HasSizes}
use Rattle.uc_isa.specs.Engine.{IsEngine}
use Rattle.uc_isa.specs.Registers.{Puts, Register, IsRegister, register, target_register, source_register}
use Rattle.uc_isa.specs.Registers.Register.{InA, InB}
use Rattle.uc_isa.specs.Step.{effect, operand}
use Rattle.uc_isa.specs.declared.engine.Engine.{Engine}
use Rattle.uc_isa.specs.declared.instruction.Src.{Src}
use Rattle.uc_isa.specs.declared.instruction.Src.TheVariants as src
use Rattle.uc_isa.specs.declared.instruction.Dst.{Dst}
use Rattle.uc_isa.specs.declared.instruction.Dst.TheVariants as dst
use Rattle.uc_isa.specs.declared.instruction.UnOp.TheVariants.{Copy, Not, Shl, Shr, Rol}
use Rattle.uc_isa.specs.declared.instruction.Instr.{Instr}
use Rattle.uc_isa.specs.declared.instruction.Instr.TheVariants.{Alu, Un, Immed, Br, Read, Write, Halt}
use Rattle.uc_isa.proofs.RegisterLemmas.{operand-register, puts-flags}
use Rattle.uc_isa.proofs.Effects.{keeps-value, keeps-engine, named-none, named-some, same-true}
use Rattle.uc_isa.specs.Program.{IsFormed}
use Rattle.uc_isa.specs.Resources.{is_flag, Resource, IsResource, value, flag_word, reads, writes, is_target, is_some_register, same_register}
use Rattle.uc_isa.specs.Resources.Resource.{In, Zero, Carry}
use Rattle.uc_isa.specs.StraightCode.{IsStraight}
use Rattle.uc_peep.specs.Sets.{has, AgreeOn}
use Rattle.uc_peep.specs.Window.{IsText, IsShorter}
use Rattle.uc_peep.specs.Needless.{has_register, is_wanted, has_flag, is_dead, is_same, is_idle, copies_back, dead_rule, idle_rule, back_rule}

pub both : (a b : Bool) → (a && b) ≡ true → (a ≡ true) × (b ≡ true)
both true b h = (refl, h)
both false b h = absurd (false≢true h)

pub down : (a : Bool) → not a ≡ true → a ≡ false
down true h = absurd (false≢true h)
down false h = refl

neither : (a b : Bool) → (a || b) ≡ false → (a ≡ false) × (b ≡ false)
neither true b h = absurd (false≢true (sym h))
neither false b h = (refl, h)

-- a register that is wanted isn't a target that isn't
free-register : (o : Option Register) (set : ℕ) (r : Register) → has_register set o ≡ false → has set (In r) ≡ true → is_some_register o (In r) ≡ false
free-register (Some q) set r w h = by (same_register r q) refl
  where
    by : (b : Bool) → same_register r q ≡ b → same_register r q ≡ false
    by true e = absurd (false≢true (sym w ∙ ap (λ x. has set (In x)) (sym (same-true r q e)) ∙ h))
    by false e = e
free-register None set r w h = refl

pub flagless : (o : Option Register) → (is_some_register o Zero ≡ false) × (is_some_register o Carry ≡ false)
flagless (Some q) = (refl, refl)
flagless None = (refl, refl)

pub free : (d : Dst) (set : ℕ) (s : Resource) → is_wanted d set ≡ false → has set s ≡ true → is_target d s ≡ false
free d set (In r) w h = free-register (target_register d) set r w h
free d set Zero w h = (flagless (target_register d)).0
free d set Carry w h = (flagless (target_register d)).1

-- a result that isn't live, with flags that aren't
unwritten-result : (d : Dst) (set : ℕ) (s : Resource) → (not (is_wanted d set) && not (has_flag set)) ≡ true → has set s ≡ true → (is_flag s || is_target d s) ≡ false
unwritten-result d set (In r) dead h = free d set (In r) (down _ (both _ _ dead).0) h
unwritten-result d set Zero dead h = absurd (false≢true (sym (neither (has set Zero) (has set Carry) (down _ (both _ _ dead).1)).0 ∙ h))
unwritten-result d set Carry dead h = absurd (false≢true (sym (neither (has set Zero) (has set Carry) (down _ (both _ _ dead).1)).1 ∙ h))

unwritten : (i : Instr) (set : ℕ) (s : Resource) → is_dead i set ≡ true → has set s ≡ true → writes i s ≡ false
unwritten (Alu d op x y) set s dead h = unwritten-result d set s dead h
unwritten (Un d op x) set s dead h = unwritten-result d set s dead h
unwritten (Immed d v k) set s dead h = free d set s (down _ dead) h
unwritten (Br b t) set s dead h = absurd (false≢true dead)
unwritten (Read m r n x off) set s dead h = absurd (false≢true dead)
unwritten (Write m r n x off) set s dead h = absurd (false≢true dead)
unwritten (Halt k n) set s dead h = absurd (false≢true dead)

-- an instruction goes where it changes nothing that is live
removed : (i : Instr) (set : ℕ) → ((e : Engine) (p : Memories) → IsEngine e → HasSizes p → AgreeOn set (effect i e p).engine e) → IsShorter (i ∷ []) set []
removed i set same = record {
  fewer = omega arith;
  straight = λ k d lt. absurd (omega arith);
  lawful = λ k d lt. absurd (omega arith);
  same = λ e p h sizes. same e p h sizes;
  reads = λ s t. absurd (false≢true t);
  writes = λ s t. absurd (false≢true t);
  weight = omega arith;
}

pub given : (b : Bool) (l shorter : List Instr) → (if b then Some l else None) ≡ Some shorter → (b ≡ true) × (l ≡ shorter)
given true l shorter e = (refl, let h : l ≡ shorter = cc in h)
given false l shorter e = cc

formed-first : (i : Instr) (ws : List Instr) → IsText (i ∷ ws) → IsFormed i
formed-first i ws text = text.lawful 0 i (let some : 0 < length (i ∷ ws) = omega arith in some)

pub dead_sound : (ws : List Instr) (set : ℕ) (shorter : List Instr) → IsText ws → dead_rule ws set ≡ Some shorter → IsShorter ws set shorter
dead_sound [] set shorter text e = cc
dead_sound (i ∷ []) set shorter text e =
    let g = given (is_dead i set) [] shorter e in
    subst (IsShorter (i ∷ []) set) g.1 (removed i set (λ f p h sizes. record { by = λ s spot t. keeps-value i f p s (formed-first i [] text) h sizes (unwritten i set s g.0 t) }))
dead_sound (i ∷ j ∷ ws) set shorter text e = cc

-- ---- copies

-- the register of a target and an operand that are the same one
pub same-names : (d : Dst) (x : Src) → is_same d x ≡ true → target_register d ≡ Some (source_register x)
same-names (dst.A k) (src.A j) h = ap (λ n. Some (InA n)) (eqb-true k j (both _ _ h).0)
same-names (dst.A k) (src.B j) h = absurd (false≢true h)
same-names (dst.A k) (src.L j) h = absurd (false≢true h)
same-names (dst.A k) (src.LD j) h = absurd (false≢true h)
same-names (dst.B k) (src.A j) h = absurd (false≢true h)
same-names (dst.B k) (src.B j) h = ap (λ n. Some (InB n)) (eqb-true k j (both _ _ h).0)
same-names (dst.B k) (src.L j) h = absurd (false≢true h)
same-names (dst.B k) (src.LD j) h = absurd (false≢true h)
same-names (dst.S k) x h = absurd (false≢true h)
same-names (dst.SD k) x h = absurd (false≢true h)
same-names dst.Nowhere x h = absurd (false≢true h)

pub same-there : (d : Dst) (x : Src) → is_same d x ≡ true → IsRegister (source_register x)
same-there (dst.A k) (src.A j) h = let e : k ≡ j = eqb-true k j (both (nat_eq k j) (nat_lt k 16) h).0 in let lt : k < 16 = ltb-true k 16 (both (nat_eq k j) (nat_lt k 16) h).1 in omega arith
same-there (dst.A k) (src.B j) h = absurd (false≢true h)
same-there (dst.A k) (src.L j) h = absurd (false≢true h)
same-there (dst.A k) (src.LD j) h = absurd (false≢true h)
same-there (dst.B k) (src.A j) h = absurd (false≢true h)
same-there (dst.B k) (src.B j) h = let e : k ≡ j = eqb-true k j (both (nat_eq k j) (nat_lt k 16) h).0 in let lt : k < 16 = ltb-true k 16 (both (nat_eq k j) (nat_lt k 16) h).1 in omega arith
same-there (dst.B k) (src.L j) h = absurd (false≢true h)
same-there (dst.B k) (src.LD j) h = absurd (false≢true h)
same-there (dst.S k) x h = absurd (false≢true h)
same-there (dst.SD k) x h = absurd (false≢true h)
same-there dst.Nowhere x h = absurd (false≢true h)

copy-puts : (d : Dst) (x : Src) (e : Engine) (p : Memories) → IsEngine e → Puts d (operand x e) e (effect (Un d Copy x) e p).engine
copy-puts d x e p h = puts-flags d (operand x e) (operand x e) false e h

-- a register holds after a copy what its operand held where it is the target, and else what it held
pub copied : (d : Dst) (x : Src) (e : Engine) (p : Memories) (r : Register) → IsEngine e → IsRegister r
    → ((target_register d ≡ Some r) × (register r (effect (Un d Copy x) e p).engine ≡ register (source_register x) e)) ⊎ (register r (effect (Un d Copy x) e p).engine ≡ register r e)
copied d x e p r h there = by (is_target d (In r)) refl
  where
    by : (b : Bool) → is_target d (In r) ≡ b → ((target_register d ≡ Some r) × (register r (effect (Un d Copy x) e p).engine ≡ register (source_register x) e)) ⊎ (register r (effect (Un d Copy x) e p).engine ≡ register r e)
    by true is = let t = named-some (target_register d) r is in inl (t, (copy-puts d x e p h).target r t there ∙ operand-register x e)
    by false is = inr ((copy-puts d x e p h).others r (named-none (target_register d) r is))

some-same : (o : Option Register) (a b : Register) → o ≡ Some a → o ≡ Some b → a ≡ b
some-same o a b x y = let e : Some a ≡ Some b = sym x ∙ y in cc

idle-copy : (d : Dst) (x : Src) (set : ℕ) → (is_same d x && not (has_flag set)) ≡ true → (e : Engine) (p : Memories) → IsEngine e → (s : Resource) → IsResource s → has set s ≡ true → value s (effect (Un d Copy x) e p).engine ≡ value s e
idle-copy d x set h e p engine (In r) spot t = ⊎_elim
    (λ (c : (target_register d ≡ Some r) × (register r (effect (Un d Copy x) e p).engine ≡ register (source_register x) e)). c.1 ∙ ap (λ q. register q e) (some-same (target_register d) (source_register x) r (same-names d x (both _ _ h).0) c.0))
    (λ (c : register r (effect (Un d Copy x) e p).engine ≡ register r e). c)
    (copied d x e p r engine spot)
idle-copy d x set h e p engine Zero spot t = absurd (false≢true (sym (neither (has set Zero) (has set Carry) (down _ (both _ _ h).1)).0 ∙ t))
idle-copy d x set h e p engine Carry spot t = absurd (false≢true (sym (neither (has set Zero) (has set Carry) (down _ (both _ _ h).1)).1 ∙ t))

idle-same : (i : Instr) (set : ℕ) → is_idle i set ≡ true → (e : Engine) (p : Memories) → IsEngine e → (s : Resource) → IsResource s → has set s ≡ true → value s (effect i e p).engine ≡ value s e
idle-same (Un d Copy x) set h e p engine s spot t = idle-copy d x set h e p engine s spot t
idle-same (Un d Not x) set h e p engine s spot t = absurd (false≢true h)
idle-same (Un d (Shl k) x) set h e p engine s spot t = absurd (false≢true h)
idle-same (Un d (Shr k) x) set h e p engine s spot t = absurd (false≢true h)
idle-same (Un d (Rol k) x) set h e p engine s spot t = absurd (false≢true h)
idle-same (Alu d op x y) set h e p engine s spot t = absurd (false≢true h)
idle-same (Immed d v k) set h e p engine s spot t = absurd (false≢true h)
idle-same (Br b x) set h e p engine s spot t = absurd (false≢true h)
idle-same (Read m r n x off) set h e p engine s spot t = absurd (false≢true h)
idle-same (Write m r n x off) set h e p engine s spot t = absurd (false≢true h)
idle-same (Halt k n) set h e p engine s spot t = absurd (false≢true h)

pub idle_sound : (ws : List Instr) (set : ℕ) (shorter : List Instr) → IsText ws → idle_rule ws set ≡ Some shorter → IsShorter ws set shorter
idle_sound [] set shorter text e = cc
idle_sound (i ∷ []) set shorter text e =
    let g = given (is_idle i set) [] shorter e in
    subst (IsShorter (i ∷ []) set) g.1 (removed i set (λ f p h sizes. record { by = λ s spot t. idle-same i set g.0 f p h s spot t }))
idle_sound (i ∷ j ∷ ws) set shorter text e = cc

-- after a copy the target holds the word, and the register that it was copied from still does
module _ (d d' : Dst) (x x' : Src) (e : Engine) (p : Memories) (h : IsEngine e) (formed : IsFormed (Un d Copy x)) (sizes : HasSizes p) (one : is_same d x' ≡ true) (two : is_same d' x ≡ true) where
  abbrev then_ : Engine
  then_ = (effect (Un d Copy x) e p).engine

  state : IsEngine then_
  state = keeps-engine (Un d Copy x) e p formed h sizes

  word-there : operand x' then_ ≡ operand x e
  word-there = operand-register x' then_ ∙ (copy-puts d x e p h).target (source_register x') (same-names d x' one) (same-there d x' one)

  word-stays : register (source_register x) then_ ≡ operand x e
  word-stays = ⊎_elim
      (λ (c : (target_register d ≡ Some (source_register x)) × (register (source_register x) then_ ≡ register (source_register x) e)). c.1 ∙ sym (operand-register x e))
      (λ (c : register (source_register x) then_ ≡ register (source_register x) e). c ∙ sym (operand-register x e))
      (copied d x e p (source_register x) h (same-there d' x two))

  back-copy : (s : Resource) → IsResource s → value s (effect (Un d' Copy x') then_ p).engine ≡ value s then_
  back-copy (In r) spot = ⊎_elim
      (λ (c : (target_register d' ≡ Some r) × (register r (effect (Un d' Copy x') then_ p).engine ≡ register (source_register x') then_)).
      c.1 ∙ sym (operand-register x' then_) ∙ word-there ∙ sym word-stays ∙ ap (λ q. register q then_) (some-same (target_register d') (source_register x) r (same-names d' x two) c.0))
      (λ (c : register r (effect (Un d' Copy x') then_ p).engine ≡ register r then_). c)
      (copied d' x' then_ p r state spot)
  back-copy Zero spot = ap (λ w. flag_word (nat_eq w 0)) word-there
  back-copy Carry spot = refl

back-same : (i j : Instr) → IsFormed i → copies_back i j ≡ true → (e : Engine) (p : Memories) → IsEngine e → HasSizes p → (s : Resource) → IsResource s → value s (effect j (effect i e p).engine p).engine ≡ value s (effect i e p).engine
back-same (Un d Copy x) (Un d' Copy x') formed h e p engine sizes s spot = back-copy d d' x x' e p engine formed sizes (both _ _ h).0 (both _ _ h).1 s spot
back-same (Un d Copy x) (Un d' Not x') formed h e p engine sizes s spot = absurd (false≢true h)
back-same (Un d Copy x) (Un d' (Shl k) x') formed h e p engine sizes s spot = absurd (false≢true h)
back-same (Un d Copy x) (Un d' (Shr k) x') formed h e p engine sizes s spot = absurd (false≢true h)
back-same (Un d Copy x) (Un d' (Rol k) x') formed h e p engine sizes s spot = absurd (false≢true h)
back-same (Un d Copy x) (Alu d' op y z) formed h e p engine sizes s spot = absurd (false≢true h)
back-same (Un d Copy x) (Immed d' v k) formed h e p engine sizes s spot = absurd (false≢true h)
back-same (Un d Copy x) (Br b t) formed h e p engine sizes s spot = absurd (false≢true h)
back-same (Un d Copy x) (Read m r n y off) formed h e p engine sizes s spot = absurd (false≢true h)
back-same (Un d Copy x) (Write m r n y off) formed h e p engine sizes s spot = absurd (false≢true h)
back-same (Un d Copy x) (Halt k n) formed h e p engine sizes s spot = absurd (false≢true h)
back-same (Un d Not x) j formed h e p engine sizes s spot = absurd (false≢true h)
back-same (Un d (Shl k) x) j formed h e p engine sizes s spot = absurd (false≢true h)
back-same (Un d (Shr k) x) j formed h e p engine sizes s spot = absurd (false≢true h)
back-same (Un d (Rol k) x) j formed h e p engine sizes s spot = absurd (false≢true h)
back-same (Alu d op y z) j formed h e p engine sizes s spot = absurd (false≢true h)
back-same (Immed d v k) j formed h e p engine sizes s spot = absurd (false≢true h)
back-same (Br b t) j formed h e p engine sizes s spot = absurd (false≢true h)
back-same (Read m r n y off) j formed h e p engine sizes s spot = absurd (false≢true h)
back-same (Write m r n y off) j formed h e p engine sizes s spot = absurd (false≢true h)
back-same (Halt k n) j formed h e p engine sizes s spot = absurd (false≢true h)

first-any : (a b : Bool) → (a || false) ≡ true → (a || (b || false)) ≡ true
first-any true b h = refl
first-any false b h = absurd (false≢true h)

-- of two instructions the second goes where it changes nothing that is live
pub second-gone : (i j : Instr) (set : ℕ) → IsText (i ∷ j ∷ []) → ((e : Engine) (p : Memories) → IsEngine e → HasSizes p → AgreeOn set (effect j (effect i e p).engine p).engine (effect i e p).engine) → IsShorter (i ∷ j ∷ []) set (i ∷ [])
second-gone i j set text same = record {
  fewer = omega arith;
  straight = λ k d lt. one IsStraight (text.straight 0 i (omega arith)) k d lt;
  lawful = λ k d lt. one IsFormed (text.lawful 0 i (omega arith)) k d lt;
  same = λ e p h sizes. same e p h sizes;
  reads = λ s t. first-any (reads i s) (reads j s) t;
  writes = λ s t. first-any (writes i s) (writes j s) t;
  weight = omega arith;
}
  where
    one : (P : Instr → Type 0) → P i → (k : ℕ) (d : Instr) → k < length (i ∷ []) → P (get_or (i ∷ []) k d)
    one P p zero d lt = p
    one P p (suc k) d lt = absurd (omega arith)

pub back_sound : (ws : List Instr) (set : ℕ) (shorter : List Instr) → IsText ws → back_rule ws set ≡ Some shorter → IsShorter ws set shorter
back_sound [] set shorter text e = cc
back_sound (i ∷ []) set shorter text e = cc
back_sound (i ∷ j ∷ []) set shorter text e =
    let g = given (copies_back i j) (i ∷ []) shorter e in
    subst (IsShorter (i ∷ j ∷ []) set) g.1
    (second-gone i j set text (λ f p h sizes. record { by = λ s spot t. back-same i j (text.lawful 0 i (omega arith)) g.0 f p h sizes s spot }))
back_sound (i ∷ j ∷ k ∷ ws) set shorter text e = cc
