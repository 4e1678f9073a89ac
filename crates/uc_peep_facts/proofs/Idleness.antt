-- An instruction that would change nothing that is live.
use Rattle.std.proofs.Common.{◌≡◌, ℕ, inl, inr, Bool, true, false, List, refl, sym, ◌∙◌}
use Rattle.std.proofs.lemmas.Bool.{false≢true}
use Rattle.nv_base.specs.Memories.{Memories, HasSizes}
use Rattle.uc_isa.specs.Engine.{IsEngine}
use Rattle.nv_base.specs.declared.term.Bin.{Bin}
use Rattle.uc_isa.specs.Registers.{target_register}
use Rattle.uc_isa.specs.Step.{effect}
use Rattle.uc_isa.specs.declared.engine.Engine.{Engine}
use Rattle.uc_isa.specs.declared.instruction.Dst.{Dst}
use Rattle.uc_isa.specs.declared.instruction.Dst.TheVariants.{Nowhere}
use Rattle.uc_isa.specs.declared.instruction.Src.{Src}
use Rattle.uc_isa.specs.declared.instruction.UnOp.{UnOp}
use Rattle.uc_isa.specs.declared.instruction.Instr.{Instr}
use Rattle.uc_isa.specs.declared.instruction.Instr.TheVariants.{Alu, Un, Immed}
use Rattle.uc_isa.proofs.Effects.{keeps-value}
use Rattle.uc_isa.specs.Program.{IsFormed}
use Rattle.uc_isa.specs.Resources.{IsResource, Resource, is_flag, is_target, value, writes}
use Rattle.uc_isa.specs.Resources.Resource.{In, Zero, Carry}
use Rattle.uc_isa.specs.StraightCode.{IsStraight}
use Rattle.uc_peep.proofs.Sound.{flagless, free}
use Rattle.uc_peep.specs.Sets.{has}
use Rattle.uc_peep_facts.specs.Facts.{AllStand, FlagsStand, IsIdle, TargetStands, is_part, with_target}
use Rattle.uc_peep_facts.specs.declared.fact.Fact.{Fact}
use Rattle.uc_peep_facts.specs.declared.fact.Part.TheVariants as part
use Rattle.uc_peep_facts.proofs.Standing.{flags-same}

-- what is in a set and what isn't
clash : (b : Bool) → b ≡ false → b ≡ true → ⊥
clash b f t = false≢true (sym f ∙ t)

register-stands : (i : Instr) (d : Dst) (facts : List Fact) (live : ℕ) (e : Engine) (p : Memories) (s : Resource) → HasSizes p → AllStand e facts → IsResource s → is_flag s ≡ false → (writes i s ≡ true → is_target d s ≡ true) → TargetStands d i facts live → has live s ≡ true → writes i s ≡ true → value s (effect i e p).engine ≡ value s e
register-stands i d facts live e p s sizes all spot reg target (inl free-target) there w = absurd (clash (is_target d s) (free d live s free-target there) (target w))
register-stands i d facts live e p s sizes all spot reg target (inr one) there w = (all _ one).same p sizes s spot w (part-of s reg)
  where
    part-of : (s : Resource) → is_flag s ≡ false → is_part part.Target s ≡ true
    part-of (In r) h = refl
    part-of Zero h = absurd (false≢true (sym h))
    part-of Carry h = absurd (false≢true (sym h))

module _ (i : Instr) (facts : List Fact) (live : ℕ) (e : Engine) (p : Memories) (sizes : HasSizes p) (all : AllStand e facts) (zero-set : writes (with_target Nowhere i) Zero ≡ true) (carry-set : writes (with_target Nowhere i) Carry ≡ true) where
  zero-stands : FlagsStand i facts live → has live Zero ≡ true → value Zero (effect i e p).engine ≡ value Zero e
  zero-stands (inl none) there = absurd (clash (has live Zero) none.0 there)
  zero-stands (inr (inl one)) there = sym (flags-same Nowhere i e p Zero refl zero-set) ∙ (all _ one).same p sizes Zero tt zero-set refl
  zero-stands (inr (inr one)) there = sym (flags-same Nowhere i e p Zero refl zero-set) ∙ (all _ one.1).same p sizes Zero tt zero-set refl

  carry-stands : FlagsStand i facts live → has live Carry ≡ true → value Carry (effect i e p).engine ≡ value Carry e
  carry-stands (inl none) there = absurd (clash (has live Carry) none.1 there)
  carry-stands (inr (inl one)) there = sym (flags-same Nowhere i e p Carry refl carry-set) ∙ (all _ one).same p sizes Carry tt carry-set refl
  carry-stands (inr (inr one)) there = absurd (clash (has live Carry) one.0 there)

idle-by : (i : Instr) (facts : List Fact) (live : ℕ) → IsFormed i → IsStraight i
    → ((e : Engine) (p : Memories) → IsEngine e → HasSizes p → AllStand e facts → (s : Resource) → IsResource s → has live s ≡ true → writes i s ≡ true → value s (effect i e p).engine ≡ value s e) → IsIdle facts live i
idle-by i facts live formed straight written = record {
  straight = straight;
  same = λ e p h sizes all. record { by = λ s spot there. by e p h sizes all s spot there (writes i s) refl };
}
  where
    by : (e : Engine) (p : Memories) → IsEngine e → HasSizes p → AllStand e facts → (s : Resource) → IsResource s → has live s ≡ true → (b : Bool) → writes i s ≡ b → value s (effect i e p).engine ≡ value s e
    by e p h sizes all s spot there true w = written e p h sizes all s spot there w
    by e p h sizes all s spot there false w = keeps-value i e p s formed h sizes w

pub idle-alu : (d : Dst) (op : Bin) (x y : Src) (facts : List Fact) (live : ℕ) → IsFormed (Alu d op x y) → TargetStands d (Alu d op x y) facts live → FlagsStand (Alu d op x y) facts live → IsIdle facts live (Alu d op x y)
idle-alu d op x y facts live formed target flags = idle-by (Alu d op x y) facts live formed tt by
  where
    by : (e : Engine) (p : Memories) → IsEngine e → HasSizes p → AllStand e facts → (s : Resource) → IsResource s → has live s ≡ true → writes (Alu d op x y) s ≡ true → value s (effect (Alu d op x y) e p).engine ≡ value s e
    by e p h sizes all (In r) spot there w = register-stands (Alu d op x y) d facts live e p (In r) sizes all spot refl (λ z. z) target there w
    by e p h sizes all Zero spot there w = zero-stands (Alu d op x y) facts live e p sizes all refl refl flags there
    by e p h sizes all Carry spot there w = carry-stands (Alu d op x y) facts live e p sizes all refl refl flags there

pub idle-un : (d : Dst) (op : UnOp) (x : Src) (facts : List Fact) (live : ℕ) → IsFormed (Un d op x) → TargetStands d (Un d op x) facts live → FlagsStand (Un d op x) facts live → IsIdle facts live (Un d op x)
idle-un d op x facts live formed target flags = idle-by (Un d op x) facts live formed tt by
  where
    by : (e : Engine) (p : Memories) → IsEngine e → HasSizes p → AllStand e facts → (s : Resource) → IsResource s → has live s ≡ true → writes (Un d op x) s ≡ true → value s (effect (Un d op x) e p).engine ≡ value s e
    by e p h sizes all (In r) spot there w = register-stands (Un d op x) d facts live e p (In r) sizes all spot refl (λ z. z) target there w
    by e p h sizes all Zero spot there w = zero-stands (Un d op x) facts live e p sizes all refl refl flags there
    by e p h sizes all Carry spot there w = carry-stands (Un d op x) facts live e p sizes all refl refl flags there

pub idle-immed : (d : Dst) (v k : ℕ) (facts : List Fact) (live : ℕ) → IsFormed (Immed d v k) → TargetStands d (Immed d v k) facts live → IsIdle facts live (Immed d v k)
idle-immed d v k facts live formed target = idle-by (Immed d v k) facts live formed tt by
  where
    by : (e : Engine) (p : Memories) → IsEngine e → HasSizes p → AllStand e facts → (s : Resource) → IsResource s → has live s ≡ true → writes (Immed d v k) s ≡ true → value s (effect (Immed d v k) e p).engine ≡ value s e
    by e p h sizes all (In r) spot there w = register-stands (Immed d v k) d facts live e p (In r) sizes all spot refl (λ z. z) target there w
    by e p h sizes all Zero spot there w = absurd (clash _ (flagless (target_register d)).0 w)
    by e p h sizes all Carry spot there w = absurd (clash _ (flagless (target_register d)).1 w)
