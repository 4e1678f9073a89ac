-- What stands in the places after a read, which fills a run of read registers.
use Rattle.std.proofs.Common.{◌≡◌, ℕ, zero, suc, ◌+◌, ◌-◌, ◌<◌, ◌≤◌, List, [], ◌∷◌, false, length, All, refl, sym, ap, ◌∙◌, ⊎_elim, if◌then◌else◌, nat_eq, arith}
use Rattle.std.proofs.lemmas.Bool.{cases_lt, eq-eqb, ne_eqb}
use Rattle.std.specs.Prelude.{slice_index}
use Rattle.nv_base.specs.declared.term.Mem.{Mem}
use Rattle.nv_base.specs.declared.term.Mem.TheVariants.{Sram, Sdram, Scratch}
use Rattle.nv_base.specs.Words.{IsWord}
use Rattle.nv_base.specs.World.{World}
use Rattle.uc_isa.specs.declared.engine.Engine.{Engine}
use Rattle.uc_isa.specs.Engine.{IsEngine}
use Rattle.uc_isa.specs.Pieces.{Moment}
use Rattle.uc_isa.specs.Registers.{Register, Fills, register, read_register}
use Rattle.uc_isa.specs.Registers.Register.{InA, InB, InL, InS, InLD, InSD}
use Rattle.uc_isa.specs.Step.{with_read, onward}
use Rattle.uc_isa.proofs.Places.{place-with_read}
use Rattle.uc_isa.proofs.RegisterLemmas.{fills-run}
use Rattle.uc_isa.proofs.States.{other-state, read-state}
use Rattle.place_plan.specs.declared.place.Place.{Place}
use Rattle.place_plan.specs.declared.place.Place.TheVariants.{A, B, L, LD, S, SD, Slot}
use Rattle.place_plan.specs.Places.{same_place}
use Rattle.place_plan.specs.Fits.{read_place}
use Rattle.ucode_emit.specs.Moves.{Words}
use Rattle.ucode_emit.specs.inner.Machine.{word_at, Stands, filled}
use Rattle.ucode_emit.proofs.MachineResults.{HasWords}

-- ---- a run of words over a bank

-- the word with number j, where these stand from number f on, and else this one
abbrev pub over_run : ℕ → ℕ → List ℕ → ℕ → ℕ
over_run x f [] j = x
over_run x f (w ∷ ws) j = if nat_eq j f then w else over_run x (suc f) ws j

over_first : (x f : ℕ) (w : ℕ) (ws : List ℕ) (j : ℕ) → j ≡ f → over_run x f (w ∷ ws) j ≡ w
over_first x f w ws j e = ap (λ b. if b then w else over_run x (suc f) ws j) (eq-eqb j f e)

over_rest : (x f : ℕ) (w : ℕ) (ws : List ℕ) (j : ℕ) → (j ≡ f → ⊥) → over_run x f (w ∷ ws) j ≡ over_run x (suc f) ws j
over_rest x f w ws j e = ap (λ b. if b then w else over_run x (suc f) ws j) (ne_eqb j f e)

over_inside : (x f : ℕ) (ws : List ℕ) (i j : ℕ) → j ≡ f + i → i < length ws → over_run x f ws j ≡ slice_index ws i
over_inside x f [] i j e lt = absurd (omega arith)
over_inside x f (w ∷ ws) zero j e lt = over_first x f w ws j (omega arith)
over_inside x f (w ∷ ws) (suc i) j e lt = over_rest x f w ws j (λ s. omega arith) ∙ over_inside x (suc f) ws i j (omega arith) (omega arith)

over_beside : (x f : ℕ) (ws : List ℕ) (j : ℕ) → ((i : ℕ) → i < length ws → j ≡ f + i → ⊥) → over_run x f ws j ≡ x
over_beside x f [] j far = refl
over_beside x f (w ∷ ws) j far =
    over_rest x f w ws j (λ s. far 0 (omega arith) (omega arith)) ∙ over_beside x (suc f) ws j (λ i lt s. far (suc i) (omega arith) (omega arith))

-- ---- what is filled, place by place

fill_same : (e : Words) (m : Mem) (f : ℕ) (ws : List ℕ) (q : Place) (j : ℕ) → ((i : ℕ) → same_place q (read_place m i) ≡ nat_eq j i) → filled e m f ws q ≡ over_run (e q) f ws j
fill_same e m f [] q j h = refl
fill_same e m f (w ∷ ws) q j h =
    ap (λ b. if b then w else filled e m (suc f) ws q) (h f) ∙ ap (λ k. if nat_eq j f then w else k) (fill_same e m (suc f) ws q j h)

fill_other : (e : Words) (m : Mem) (f : ℕ) (ws : List ℕ) (q : Place) → ((i : ℕ) → same_place q (read_place m i) ≡ false) → filled e m f ws q ≡ e q
fill_other e m f [] q h = refl
fill_other e m f (w ∷ ws) q h = ap (λ b. if b then w else filled e m (suc f) ws q) (h f) ∙ fill_other e m (suc f) ws q h

-- ---- registers after the read

abbrev number : Register → ℕ
number (InA k) = k
number (InB k) = k
number (InL k) = k
number (InS k) = k
number (InLD k) = k
number (InSD k) = k

read_number : (m : Mem) (i : ℕ) → number (read_register m i) ≡ i
read_number Sram i = refl
read_number Sdram i = refl
read_number Scratch i = refl

one_number : (m : Mem) (i j : ℕ) → read_register m i ≡ read_register m j → i ≡ j
one_number m i j e = sym (read_number m i) ∙ (ap number e ∙ read_number m j)

run_beside : (m : Mem) (f : ℕ) (ws : List ℕ) (a b : Engine) (j : ℕ) → Fills m f ws a b → ((i : ℕ) → i < length ws → j ≡ f + i → ⊥)
    → register (read_register m j) b ≡ over_run (register (read_register m j) a) f ws j
run_beside m f ws a b j h far =
    h.others (read_register m j) (λ i lt e. far i lt (one_number m j (f + i) e)) ∙ sym (over_beside (register (read_register m j) a) f ws j far)

run_inside : (m : Mem) (f : ℕ) (ws : List ℕ) (a b : Engine) (i j : ℕ) → Fills m f ws a b → i < length ws → j ≡ f + i
    → register (read_register m j) b ≡ over_run (register (read_register m j) a) f ws j
run_inside m f ws a b i j h lt e =
    ap (λ k. register (read_register m k) b) e ∙ (h.run i lt ∙ sym (over_inside (register (read_register m j) a) f ws i j e lt))

run_word : (m : Mem) (f : ℕ) (ws : List ℕ) (a b : Engine) (j : ℕ) → Fills m f ws a b → register (read_register m j) b ≡ over_run (register (read_register m j) a) f ws j
run_word m f ws a b j h =
    ⊎_elim
    (λ (before : j < f). run_beside m f ws a b j h (λ i lt e. omega arith))
    (λ (since : f ≤ j). ⊎_elim
    (λ (inside : j < f + length ws). run_inside m f ws a b (j - f) j h (omega arith) (omega arith))
    (λ (behind : f + length ws ≤ j). run_beside m f ws a b j h (λ i lt e. omega arith))
    (cases_lt j (f + length ws)))
    (cases_lt j f)

-- ---- places after the read

-- the moment after it
abbrev pub with_words_read : Mem → ℕ → List ℕ → Moment → Moment
with_words_read k f ws m = record m { engine = onward (with_read k f ws m.engine) }

read_there : (k : Mem) (f : ℕ) (ws : List ℕ) (e : Words) (m : Moment) (q : Place) (j : ℕ) → f + length ws ≤ 8 → IsEngine m.engine → ((i : ℕ) → same_place q (read_place k i) ≡ nat_eq j i)
    → register (read_register k j) m.engine ≡ e q → register (read_register k j) (onward (with_read k f ws m.engine)) ≡ filled e k f ws q
read_there k f ws e m q j le b one h =
    run_word k f ws m.engine (onward (with_read k f ws m.engine)) j (fills-run k f ws m.engine b le)
    ∙ (ap (λ x. over_run x f ws j) h ∙ sym (fill_same e k f ws q j one))

read_words : (base : ℕ) (k : Mem) (f : ℕ) (ws : List ℕ) (e : Words) (m : Moment) → f + length ws ≤ 8 → IsEngine m.engine → HasWords base e m → HasWords base (filled e k f ws) (with_words_read k f ws m)
read_words base Sram f ws e m le b h (A j) i = h (A j) i ∙ sym (fill_other e Sram f ws (A j) (λ n. refl))
read_words base Sram f ws e m le b h (B j) i = h (B j) i ∙ sym (fill_other e Sram f ws (B j) (λ n. refl))
read_words base Sram f ws e m le b h (L j) i = read_there Sram f ws e m (L j) j le b (λ n. refl) (h (L j) i)
read_words base Sram f ws e m le b h (LD j) i = h (LD j) i ∙ sym (fill_other e Sram f ws (LD j) (λ n. refl))
read_words base Sram f ws e m le b h (S j) i = h (S j) i ∙ sym (fill_other e Sram f ws (S j) (λ n. refl))
read_words base Sram f ws e m le b h (SD j) i = h (SD j) i ∙ sym (fill_other e Sram f ws (SD j) (λ n. refl))
read_words base Sram f ws e m le b h (Slot j) i = h (Slot j) i ∙ sym (fill_other e Sram f ws (Slot j) (λ n. refl))
read_words base Sdram f ws e m le b h (A j) i = h (A j) i ∙ sym (fill_other e Sdram f ws (A j) (λ n. refl))
read_words base Sdram f ws e m le b h (B j) i = h (B j) i ∙ sym (fill_other e Sdram f ws (B j) (λ n. refl))
read_words base Sdram f ws e m le b h (L j) i = h (L j) i ∙ sym (fill_other e Sdram f ws (L j) (λ n. refl))
read_words base Sdram f ws e m le b h (LD j) i = read_there Sdram f ws e m (LD j) j le b (λ n. refl) (h (LD j) i)
read_words base Sdram f ws e m le b h (S j) i = h (S j) i ∙ sym (fill_other e Sdram f ws (S j) (λ n. refl))
read_words base Sdram f ws e m le b h (SD j) i = h (SD j) i ∙ sym (fill_other e Sdram f ws (SD j) (λ n. refl))
read_words base Sdram f ws e m le b h (Slot j) i = h (Slot j) i ∙ sym (fill_other e Sdram f ws (Slot j) (λ n. refl))
read_words base Scratch f ws e m le b h (A j) i = h (A j) i ∙ sym (fill_other e Scratch f ws (A j) (λ n. refl))
read_words base Scratch f ws e m le b h (B j) i = h (B j) i ∙ sym (fill_other e Scratch f ws (B j) (λ n. refl))
read_words base Scratch f ws e m le b h (L j) i = read_there Scratch f ws e m (L j) j le b (λ n. refl) (h (L j) i)
read_words base Scratch f ws e m le b h (LD j) i = h (LD j) i ∙ sym (fill_other e Scratch f ws (LD j) (λ n. refl))
read_words base Scratch f ws e m le b h (S j) i = h (S j) i ∙ sym (fill_other e Scratch f ws (S j) (λ n. refl))
read_words base Scratch f ws e m le b h (SD j) i = h (SD j) i ∙ sym (fill_other e Scratch f ws (SD j) (λ n. refl))
read_words base Scratch f ws e m le b h (Slot j) i = h (Slot j) i ∙ sym (fill_other e Scratch f ws (Slot j) (λ n. refl))

-- the spill base stays in B15
read_base : (base : ℕ) (k : Mem) (f : ℕ) (ws : List ℕ) (m : Moment) → word_at base m (B 15) ≡ base → word_at base (with_words_read k f ws m) (B 15) ≡ base
read_base base Sram f ws m h = h
read_base base Sdram f ws m h = h
read_base base Scratch f ws m h = h

pub read_stands : (base at : ℕ) (k : Mem) (f : ℕ) (ws : List ℕ) (e : Words) (w : World) (m : Moment) → f + length ws ≤ 8 → All IsWord ws → Stands base at e w m
    → Stands base (at + 1) (filled e k f ws) w (with_words_read k f ws m)
read_stands base at k f ws e w m le fits h =
    let to : Engine = with_read k f ws m.engine in
    record {
      place = ap (λ n. n + 1) (place-with_read k f ws m.engine ∙ h.place);
      engine = other-state to to.z to.c (to.place + 1) (read-state k f ws m.engine h.engine le fits);
      memories = h.memories;
      spills = h.spills;
      base_kept = read_base base k f ws m h.base_kept;
      words = read_words base k f ws e m le h.engine h.words;
      packet = h.packet;
      writes = h.writes;
    }
