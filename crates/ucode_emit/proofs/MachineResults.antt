-- Engines that can be, and what stands in the places after an instruction that puts a word into a register.
use Rattle.std.proofs.Common.{◌≡◌, ℕ, ◌+◌, ◌<◌, List, Bool, refl, sym, ap, ◌∙◌, subst, ⊎_elim, if◌then◌else◌, nat_eq, arith, get_or-set_same, get_or-set_other}
use Rattle.std.proofs.lemmas.Bool.{cases_eq, eq-eqb, ne_eqb}
use Rattle.std.specs.Prelude.{slice_index, slice_set}
use Rattle.nv_base.specs.Words.{IsWord}
use Rattle.nv_base.specs.World.{World}
use Rattle.uc_isa.specs.declared.engine.Engine.{Engine}
use Rattle.uc_isa.specs.Engine.{IsBank, IsEngine}
use Rattle.uc_isa.specs.Pieces.{Moment}
use Rattle.uc_isa.specs.Step.{operand, address, with_result}
use Rattle.uc_isa.proofs.Places.{place-with_result}
use Rattle.uc_isa.proofs.States.{bank-set, other-state}
use Rattle.place_plan.specs.declared.place.Place.{Place}
use Rattle.place_plan.specs.declared.place.Place.TheVariants.{A, B, L, LD, S, SD, Slot}
use Rattle.ucode_emit.specs.Moves.{Words, put}
use Rattle.ucode_emit.specs.Pieces.{source, target, address_of}
use Rattle.ucode_emit.specs.inner.Machine.{word_at, IsPlace, IsReadable, IsWritable, Stands}
use Rattle.ucode_emit.specs.inner.Layers.{IsAddress}

-- the places have these words
abbrev pub HasWords : ℕ → Words → Moment → Type 0
HasWords base e m = (q : Place) → IsPlace q → word_at base m q ≡ e q

-- ---- engines that can be

result_state : (d : Place) (v : ℕ) (e : Engine) → IsEngine e → IsWord v → IsEngine (with_result (target d) v e)
result_state (A k) v e h w = record { bank_a = bank-set 16 e.a k v h.bank_a w; bank_b = h.bank_b; bank_l = h.bank_l; bank_s = h.bank_s; bank_ld = h.bank_ld; bank_sd = h.bank_sd }
result_state (B k) v e h w = record { bank_a = h.bank_a; bank_b = bank-set 16 e.b k v h.bank_b w; bank_l = h.bank_l; bank_s = h.bank_s; bank_ld = h.bank_ld; bank_sd = h.bank_sd }
result_state (S k) v e h w = record { bank_a = h.bank_a; bank_b = h.bank_b; bank_l = h.bank_l; bank_s = bank-set 8 e.s k v h.bank_s w; bank_ld = h.bank_ld; bank_sd = h.bank_sd }
result_state (SD k) v e h w = record { bank_a = h.bank_a; bank_b = h.bank_b; bank_l = h.bank_l; bank_s = h.bank_s; bank_ld = h.bank_ld; bank_sd = bank-set 8 e.sd k v h.bank_sd w }
result_state (L k) v e h w = h
result_state (LD k) v e h w = h
result_state (Slot k) v e h w = h

-- ---- operands

pub operand_word : (base : ℕ) (x : Place) (e : Words) (m : Moment) → IsReadable x → HasWords base e m → operand (source x) m.engine ≡ e x
operand_word base (A k) e m i h = h (A k) i
operand_word base (B k) e m i h = let b : k < 16 = omega arith in h (B k) b
operand_word base (L k) e m i h = h (L k) i
operand_word base (LD k) e m i h = h (LD k) i
operand_word base (S k) e m i h = absurd i
operand_word base (SD k) e m i h = absurd i
operand_word base (Slot k) e m i h = absurd i

pub address_word : (base : ℕ) (x : Place) (e : Words) (m : Moment) → IsAddress x → HasWords base e m → address (address_of x) m.engine ≡ e x
address_word base (A k) e m i h = h (A k) i
address_word base (B k) e m i h = let b : k < 16 = omega arith in h (B k) b
address_word base (L k) e m i h = absurd i
address_word base (LD k) e m i h = absurd i
address_word base (S k) e m i h = absurd i
address_word base (SD k) e m i h = absurd i
address_word base (Slot k) e m i h = absurd i

-- ---- a word that is put into a register

-- the moment after an instruction that does so
abbrev pub resulted : Place → ℕ → Bool → Bool → Moment → Moment
resulted d v z c m = record m { engine = record (with_result (target d) v m.engine) { z = z; c = c; place = (with_result (target d) v m.engine).place + 1 } }

bank_put : (bank : List ℕ) (n k j v x : ℕ) → IsBank n bank → k < n → slice_index bank j ≡ x → slice_index (slice_set bank k v) j ≡ (if nat_eq j k then v else x)
bank_put bank n k j v x b lt h =
    ⊎_elim
    (λ (e : j ≡ k).
    subst (λ i. slice_index (slice_set bank k v) i ≡ (if nat_eq i k then v else x)) (sym e)
    (get_or-set_same bank k v 0 (omega (arith, lt, b.0)) ∙ sym (ap (λ t. if t then v else x) (eq-eqb k k refl))))
    (λ (e : j ≡ k → ⊥). get_or-set_other bank k j v 0 e ∙ (h ∙ sym (ap (λ t. if t then v else x) (ne_eqb j k e))))
    (cases_eq j k)

result_words : (base : ℕ) (d : Place) (v : ℕ) (z c : Bool) (e : Words) (m : Moment) → IsWritable d → IsEngine m.engine → HasWords base e m → HasWords base (put e d v) (resulted d v z c m)
result_words base (A k) v z c e m p b h (A j) i = bank_put m.engine.a 16 k j v (e (A j)) b.bank_a p (h (A j) i)
result_words base (A k) v z c e m p b h (B j) i = h (B j) i
result_words base (A k) v z c e m p b h (L j) i = h (L j) i
result_words base (A k) v z c e m p b h (LD j) i = h (LD j) i
result_words base (A k) v z c e m p b h (S j) i = h (S j) i
result_words base (A k) v z c e m p b h (SD j) i = h (SD j) i
result_words base (A k) v z c e m p b h (Slot j) i = h (Slot j) i
result_words base (B k) v z c e m p b h (A j) i = h (A j) i
result_words base (B k) v z c e m p b h (B j) i = bank_put m.engine.b 16 k j v (e (B j)) b.bank_b (omega (arith, p)) (h (B j) i)
result_words base (B k) v z c e m p b h (L j) i = h (L j) i
result_words base (B k) v z c e m p b h (LD j) i = h (LD j) i
result_words base (B k) v z c e m p b h (S j) i = h (S j) i
result_words base (B k) v z c e m p b h (SD j) i = h (SD j) i
result_words base (B k) v z c e m p b h (Slot j) i = h (Slot j) i
result_words base (S k) v z c e m p b h (A j) i = h (A j) i
result_words base (S k) v z c e m p b h (B j) i = h (B j) i
result_words base (S k) v z c e m p b h (L j) i = h (L j) i
result_words base (S k) v z c e m p b h (LD j) i = h (LD j) i
result_words base (S k) v z c e m p b h (S j) i = bank_put m.engine.s 8 k j v (e (S j)) b.bank_s p (h (S j) i)
result_words base (S k) v z c e m p b h (SD j) i = h (SD j) i
result_words base (S k) v z c e m p b h (Slot j) i = h (Slot j) i
result_words base (SD k) v z c e m p b h (A j) i = h (A j) i
result_words base (SD k) v z c e m p b h (B j) i = h (B j) i
result_words base (SD k) v z c e m p b h (L j) i = h (L j) i
result_words base (SD k) v z c e m p b h (LD j) i = h (LD j) i
result_words base (SD k) v z c e m p b h (S j) i = h (S j) i
result_words base (SD k) v z c e m p b h (SD j) i = bank_put m.engine.sd 8 k j v (e (SD j)) b.bank_sd p (h (SD j) i)
result_words base (SD k) v z c e m p b h (Slot j) i = h (Slot j) i
result_words base (L k) v z c e m p b h q i = absurd p
result_words base (LD k) v z c e m p b h q i = absurd p
result_words base (Slot k) v z c e m p b h q i = absurd p

-- the spill base stays in B15
result_base : (base : ℕ) (d : Place) (v : ℕ) (z c : Bool) (m : Moment) → IsWritable d → word_at base m (B 15) ≡ base → word_at base (resulted d v z c m) (B 15) ≡ base
result_base base (A k) v z c m p h = h
result_base base (B k) v z c m p h = get_or-set_other m.engine.b k 15 v 0 (λ e. omega (arith, e, p)) ∙ h
result_base base (S k) v z c m p h = h
result_base base (SD k) v z c m p h = h
result_base base (L k) v z c m p h = absurd p
result_base base (LD k) v z c m p h = absurd p
result_base base (Slot k) v z c m p h = absurd p

pub put_stands : (base at : ℕ) (d : Place) (v : ℕ) (z c : Bool) (e : Words) (w : World) (m : Moment) → IsWritable d → IsWord v → Stands base at e w m → Stands base (at + 1) (put e d v) w (resulted d v z c m)
put_stands base at d v z c e w m p fits h = record {
  place = ap (λ n. n + 1) (place-with_result (target d) v m.engine ∙ h.place);
  engine = other-state (with_result (target d) v m.engine) z c ((with_result (target d) v m.engine).place + 1) (result_state d v m.engine h.engine fits);
  memories = h.memories;
  spills = h.spills;
  base_kept = result_base base d v z c m p h.base_kept;
  words = result_words base d v z c e m p h.engine h.words;
  packet = h.packet;
  writes = h.writes;
}

-- ---- other flags, and another place

flagged_words : (base : ℕ) (z c : Bool) (place : ℕ) (e : Words) (m : Moment) → HasWords base e m → HasWords base e (record m { engine = record m.engine { z = z; c = c; place = place } })
flagged_words base z c place e m h (A j) i = h (A j) i
flagged_words base z c place e m h (B j) i = h (B j) i
flagged_words base z c place e m h (L j) i = h (L j) i
flagged_words base z c place e m h (LD j) i = h (LD j) i
flagged_words base z c place e m h (S j) i = h (S j) i
flagged_words base z c place e m h (SD j) i = h (SD j) i
flagged_words base z c place e m h (Slot j) i = h (Slot j) i

pub flagged_stands : (base at to : ℕ) (z c : Bool) (e : Words) (w : World) (m : Moment) → Stands base at e w m → Stands base to e w (record m { engine = record m.engine { z = z; c = c; place = to } })
flagged_stands base at to z c e w m h = record {
  place = refl;
  engine = other-state m.engine z c to h.engine;
  memories = h.memories;
  spills = h.spills;
  base_kept = h.base_kept;
  words = flagged_words base z c to e m h.words;
  packet = h.packet;
  writes = h.writes;
}
