-- What a source's reads and writes do to words in places.
use Rattle.std.proofs.Common.{◌≡◌, ℕ, zero, suc, ◌+◌, ◌<◌, ◌≤◌, List, [], ◌∷◌, ◌++◌, Bool, true, false, Option, Some, None, length, take, drop, All, inl, inr, refl, sym, ap, ◌∙◌, subst, slice_get, if◌then◌else◌, arith}
use Rattle.std.proofs.lemmas.Bool.{false≢true, le-leb}
use Rattle.std.proofs.lemmas.List.Elements.{All-take, All-drop, filter-append}
use Rattle.std.specs.Prelude.{slice_index, unwrap_or}
use Rattle.nv_base.specs.declared.term.Mem.{Mem}
use Rattle.nv_base.specs.declared.term.Mem.TheVariants.{Sram, Sdram, Scratch}
use Rattle.nv_base.specs.declared.outcome.Outcome.TheVariants as outcome
use Rattle.nv_base.specs.declared.outcome.Write.{Write as WriteEvent}
use Rattle.nv_base.specs.Memories.{Memories, HasSizes, IsSourceStretch, AreApart, fetched, stored}
use Rattle.nv_base.specs.Meanings.{source_memories, source_writes, is_source_write}
use Rattle.nv_base.specs.Words.{IsWord}
use Rattle.nv_base.specs.World.{World, over, wrote}
use Rattle.nv_base.proofs.MemoryLemmas.{Alike, stored-sizes, fetched-words}
use Rattle.nv_base.proofs.Frames.{fetched-elsewhere, alike-from, fetched-seen, stored-seen, not-stored-seen}
use Rattle.uc_isa.specs.declared.instruction.Instr.{Instr}
use Rattle.uc_isa.specs.declared.instruction.Instr.TheVariants as instr
use Rattle.uc_isa.specs.declared.instruction.Gpr.{Gpr}
use Rattle.uc_isa.specs.declared.engine.Engine.{Engine}
use Rattle.uc_isa.specs.Registers.{register, write_register}
use Rattle.uc_isa.specs.Agrees.{KeepsToItsWords, scratch_access}
use Rattle.uc_isa.specs.Pieces.{GoesByBase, Moment}
use Rattle.uc_isa.specs.Step.{address, onward, write_registers}
use Rattle.uc_isa.specs.Straight.{Stands as InCode}
use Rattle.uc_isa.proofs.PieceSteps.{leads-read, ends-read, leads-write, ends-write}
use Rattle.uc_isa.proofs.RegisterLemmas.{written-run}
use Rattle.uc_isa.proofs.States.{other-state, written-fits}
use Rattle.place_plan.specs.declared.place.Place.{Place}
use Rattle.place_plan.specs.declared.place.Place.TheVariants.{A, B, L, LD, S, SD, Slot}
use Rattle.place_plan.specs.Fits.{write_place}
use Rattle.ucode_emit.specs.Moves.{Words}
use Rattle.ucode_emit.specs.Pieces.{address_of}
use Rattle.ucode_emit.specs.inner.Machine.{Stands, Led, Over, filled}
use Rattle.ucode_emit.specs.inner.Layers.{IsAddress}
use Rattle.ucode_emit.proofs.MachineResults.{HasWords, address_word}
use Rattle.ucode_emit.proofs.MachineOperations.{instr_here, got_some, seen_alike}
use Rattle.ucode_emit.proofs.MachineReads.{with_words_read, read_stands}

-- ---- words of scratch, one by one

pub one_taken : (x : List ℕ) (j : ℕ) → j < length x → take 1 (drop j x) ≡ slice_index x j ∷ []
one_taken [] j lt = absurd (omega arith)
one_taken (c ∷ x) zero lt = refl
one_taken (c ∷ x) (suc j) lt = one_taken x j (omega arith)

pub one_fetched : (j : ℕ) (p : Memories) → j < length p.scratch → fetched Scratch j 1 p ≡ Some (slice_index p.scratch j ∷ [])
one_fetched j p lt =
    ap (λ b. if b then Some (take 1 (drop j p.scratch)) else None) (le-leb (j + 1) (length p.scratch) (omega (arith, lt))) ∙ ap Some (one_taken p.scratch j lt)

pub one_same : (x y : ℕ) → Some (x ∷ []) ≡ Some (y ∷ []) → x ≡ y
one_same x y e = ap (λ (o : Option (List ℕ)). slice_index (unwrap_or o []) 0) e

-- a word of scratch that a store doesn't touch
pub scratch_kept : (m : Mem) (at : ℕ) (ws : List ℕ) (p q : Memories) (j : ℕ) → HasSizes p → HasSizes q → stored m at ws p ≡ Some q → AreApart Scratch j 1 m at (length ws) → j < 1024
    → slice_index q.scratch j ≡ slice_index p.scratch j
scratch_kept m at ws p q j h g s apart lt =
    one_same (slice_index q.scratch j) (slice_index p.scratch j)
    (sym (one_fetched j q (omega (arith, lt, g.scratch.0))) ∙ (fetched-elsewhere Scratch m j 1 at ws p q apart s ∙ one_fetched j p (omega (arith, lt, h.scratch.0))))

-- ---- accesses of a source

abbrev is_scratch : Mem → Bool
is_scratch Sram = false
is_scratch Sdram = false
is_scratch Scratch = true

source_apart : (m : Mem) (at n j : ℕ) → IsSourceStretch m at n → 512 ≤ j → AreApart Scratch j 1 m at n
source_apart Sram at n j s le = inl (λ e. false≢true (sym (ap is_scratch e)))
source_apart Sdram at n j s le = inl (λ e. false≢true (sym (ap is_scratch e)))
source_apart Scratch at n j s le = inr (inr (omega (arith, s, le)))

read_keeps : (m : Mem) (base f n at : ℕ) (x : Gpr) (e : Engine) → address x e + 0 ≡ at → IsSourceStretch m at n → KeepsToItsWords base (scratch_access (Some (instr.Read m f n x 0)) e)
read_keeps Sram base f n at x e same s = tt
read_keeps Sdram base f n at x e same s = tt
read_keeps Scratch base f n at x e same s = λ (past : 512 < address x e + 0 + n). absurd (omega (arith, past, same, s))

read_by_base : (m : Mem) (base f n at : ℕ) (x : Gpr) (e : Engine) → address x e + 0 ≡ at → IsSourceStretch m at n → GoesByBase base (Some (instr.Read m f n x 0)) e
read_by_base Sram base f n at x e same s = tt
read_by_base Sdram base f n at x e same s = tt
read_by_base Scratch base f n at x e same s = λ (past : 512 < address x e + 0 + n). absurd (omega (arith, past, same, s))

write_keeps : (m : Mem) (base f n at : ℕ) (x : Gpr) (e : Engine) → address x e + 0 ≡ at → IsSourceStretch m at n → KeepsToItsWords base (scratch_access (Some (instr.Write m f n x 0)) e)
write_keeps Sram base f n at x e same s = tt
write_keeps Sdram base f n at x e same s = tt
write_keeps Scratch base f n at x e same s = λ (past : 512 < address x e + 0 + n). absurd (omega (arith, past, same, s))

write_by_base : (m : Mem) (base f n at : ℕ) (x : Gpr) (e : Engine) → address x e + 0 ≡ at → IsSourceStretch m at n → GoesByBase base (Some (instr.Write m f n x 0)) e
write_by_base Sram base f n at x e same s = tt
write_by_base Sdram base f n at x e same s = tt
write_by_base Scratch base f n at x e same s = λ (past : 512 < address x e + 0 + n). absurd (omega (arith, past, same, s))

address_is : (base : ℕ) (x : Place) (e : Words) (m : Moment) → IsAddress x → HasWords base e m → address (address_of x) m.engine + 0 ≡ e x
address_is base x e m i h =
    let same : address (address_of x) m.engine + 0 ≡ address (address_of x) m.engine = omega arith in
    same ∙ address_word base x e m i h

alike : (base at : ℕ) (e : Words) (w : World) (m : Moment) → HasSizes w.packet → Stands base at e w m → Alike w.packet m.packet
alike base at e w m sizes h = alike-from w.packet m.packet sizes h.memories (sym h.packet)

-- what is fetched
fetched_there : (base at : ℕ) (mem : Mem) (n : ℕ) (x : Place) (o : Option (List ℕ)) (e : Words) (w : World) (m : Moment) → IsAddress x → IsSourceStretch mem (e x) n → Stands base at e w m
    → HasSizes w.packet → fetched mem (e x) n w.packet ≡ o → fetched mem (address (address_of x) m.engine + 0) n m.packet ≡ o
fetched_there base at mem n x o e w m i s h sizes f =
    ap (λ a. fetched mem a n m.packet) (address_is base x e m i h.words) ∙ (sym (fetched-seen mem (e x) n w.packet m.packet (alike base at e w m sizes h) s) ∙ f)

pub read : (code : List Instr) (base at : ℕ) (mem : Mem) (f n : ℕ) (x : Place) (ws : List ℕ) (e : Words) (w : World) (m : Moment)
    → IsAddress x → f + n ≤ 8 → IsSourceStretch mem (e x) n → InCode code at (instr.Read mem f n (address_of x) 0 ∷ []) → Stands base at e w m
    → HasSizes w.packet → fetched mem (e x) n w.packet ≡ Some ws → Led code base 1 m (at + 1) (filled e mem f ws) w
read code base at mem f n x ws e w m i le s c h sizes g =
    let words = fetched-words mem (e x) n w.packet ws sizes g in
    record {
      later = with_words_read mem f ws m;
      leads = leads-read code base mem f n (address_of x) 0 ws m (instr_here code at m.engine.place (instr.Read mem f n (address_of x) 0) [] h.place c)
          (fetched_there base at mem n x (Some ws) e w m i s h sizes g) (read_keeps mem base f n (e x) (address_of x) m.engine (address_is base x e m i h.words) s) (read_by_base mem base f n (e x) (address_of x) m.engine (address_is base x e m i h.words) s);
      stands = read_stands base at mem f ws e w m (omega (arith, le, words.0)) words.1 h;
    }

pub read_fault : (code : List Instr) (base at : ℕ) (mem : Mem) (f n : ℕ) (x : Place) (e : Words) (w : World) (m : Moment)
    → IsAddress x → f + n ≤ 8 → IsSourceStretch mem (e x) n → InCode code at (instr.Read mem f n (address_of x) 0 ∷ []) → Stands base at e w m
    → HasSizes w.packet → fetched mem (e x) n w.packet ≡ None → Over code base 1 m (over (outcome.Fault mem (e x)) w)
read_fault code base at mem f n x e w m i le s c h sizes g =
    let there : address (address_of x) m.engine + 0 ≡ e x = address_is base x e m i h.words in
    record {
      last = record { outcome = outcome.Fault mem (address (address_of x) m.engine + 0); packet = m.packet; writes = m.writes };
      ends = ends-read code base mem f n (address_of x) 0 m (instr_here code at m.engine.place (instr.Read mem f n (address_of x) 0) [] h.place c)
          (fetched_there base at mem n x None e w m i s h sizes g) (read_keeps mem base f n (e x) (address_of x) m.engine there s) (read_by_base mem base f n (e x) (address_of x) m.engine there s);
      alike = seen_alike (outcome.Fault mem (address (address_of x) m.engine + 0)) (outcome.Fault mem (e x)) base at e w m (ap (λ a. outcome.Fault mem a) there) h;
    }

-- ---- writes

write_word : (base : ℕ) (mem : Mem) (k : ℕ) (e : Words) (m : Moment) → k < 8 → HasWords base e m → register (write_register mem k) m.engine ≡ e (write_place mem k)
write_word base Sram k e m lt h = h (S k) lt
write_word base Sdram k e m lt h = h (SD k) lt
write_word base Scratch k e m lt h = h (S k) lt

-- the words of the write registers
taken_are : (base at : ℕ) (mem : Mem) (f : ℕ) (ws : List ℕ) (e : Words) (w : World) (m : Moment) → f + length ws ≤ 8 → Stands base at e w m
    → ((i v : ℕ) → slice_get ws i ≡ Some v → e (write_place mem (f + i)) ≡ v) → take (length ws) (drop f (write_registers mem m.engine)) ≡ ws
taken_are base at mem f ws e w m le h each =
    written-run mem f ws m.engine h.engine le (λ i lt. write_word base mem (f + i) e m (omega (arith, le, lt)) h.words ∙ each i (slice_index ws i) (got_some ws i lt))

pub taken_fit : (mem : Mem) (f n : ℕ) (ws : List ℕ) (m : Moment) (base at : ℕ) (e : Words) (w : World) → Stands base at e w m → take n (drop f (write_registers mem m.engine)) ≡ ws → All IsWord ws
taken_fit mem f n ws m base at e w h is =
    subst (λ l. All IsWord l) is (All-take IsWord n (drop f (write_registers mem m.engine)) (All-drop IsWord f (write_registers mem m.engine) (written-fits mem m.engine h.engine)))

-- the moment after a write
abbrev pub with_words_written : Mem → ℕ → List ℕ → Memories → Moment → Moment
with_words_written mem a ws q m = record { engine = onward m.engine; packet = q; writes = m.writes ++ record { mem = mem; at = a; words = ws } ∷ [] }

written_words : (base : ℕ) (mem : Mem) (a : ℕ) (ws : List ℕ) (q : Memories) (e : Words) (m : Moment) → ((k : ℕ) → k < 128 → slice_index q.scratch (base + k) ≡ e (Slot k)) → HasWords base e m
    → HasWords base e (with_words_written mem a ws q m)
written_words base mem a ws q e m slots h (A j) i = h (A j) i
written_words base mem a ws q e m slots h (B j) i = h (B j) i
written_words base mem a ws q e m slots h (L j) i = h (L j) i
written_words base mem a ws q e m slots h (LD j) i = h (LD j) i
written_words base mem a ws q e m slots h (S j) i = h (S j) i
written_words base mem a ws q e m slots h (SD j) i = h (SD j) i
written_words base mem a ws q e m slots h (Slot j) i = slots j i

-- both write the same
both_wrote : (mem : Mem) (a b : ℕ) (ws : List ℕ) (vs us : List WriteEvent) → a ≡ b → source_writes vs ≡ source_writes us
    → source_writes (vs ++ record { mem = mem; at = a; words = ws } ∷ []) ≡ source_writes (us ++ record { mem = mem; at = b; words = ws } ∷ [])
both_wrote mem a b ws vs us same h =
    let last : WriteEvent = record { mem = mem; at = b; words = ws } in
    ap (λ k. source_writes (vs ++ record { mem = mem; at = k; words = ws } ∷ [])) same
    ∙ (filter-append (λ w. is_source_write w.mem w.at) vs (last ∷ [])
    ∙ (ap (λ l. l ++ source_writes (last ∷ [])) h
    ∙ sym (filter-append (λ w. is_source_write w.mem w.at) us (last ∷ []))))

written_stands : (base at : ℕ) (mem : Mem) (a b : ℕ) (ws : List ℕ) (q r : Memories) (e : Words) (w : World) (m : Moment) → a ≡ b → IsSourceStretch mem b (length ws) → All IsWord ws → Stands base at e w m
    → stored mem b ws m.packet ≡ Some r → source_memories q ≡ source_memories r → Stands base (at + 1) e (wrote mem b ws q w) (with_words_written mem a ws r m)
written_stands base at mem a b ws q r e w m same s fits h st both =
    let sizes : HasSizes r = stored-sizes mem b ws m.packet r h.memories fits st in
    let slots : (k : ℕ) → k < 128 → slice_index r.scratch (base + k) ≡ e (Slot k) = λ k lt.
    scratch_kept mem b ws m.packet r (base + k) h.memories sizes st (source_apart mem b (length ws) (base + k) s (omega (arith, h.spills.0))) (omega (arith, h.spills.1, lt)) ∙ h.words (Slot k) lt in
    record {
      place = ap (λ n. n + 1) h.place;
      engine = other-state m.engine m.engine.z m.engine.c (m.engine.place + 1) h.engine;
      memories = sizes;
      spills = h.spills;
      base_kept = h.base_kept;
      words = written_words base mem a ws r e m slots h.words;
      packet = sym both;
      writes = both_wrote mem a b ws m.writes w.writes same h.writes;
    }

pub write : (code : List Instr) (base at : ℕ) (mem : Mem) (f : ℕ) (x : Place) (ws : List ℕ) (q : Memories) (e : Words) (w : World) (m : Moment)
    → IsAddress x → f + length ws ≤ 8 → IsSourceStretch mem (e x) (length ws) → InCode code at (instr.Write mem f (length ws) (address_of x) 0 ∷ []) → Stands base at e w m
    → ((i v : ℕ) → slice_get ws i ≡ Some v → e (write_place mem (f + i)) ≡ v)
    → HasSizes w.packet → stored mem (e x) ws w.packet ≡ Some q → Led code base 1 m (at + 1) e (wrote mem (e x) ws q w)
write code base at mem f x ws q e w m i le s c h each sizes g =
    let there : address (address_of x) m.engine + 0 ≡ e x = address_is base x e m i h.words in
    let taken : take (length ws) (drop f (write_registers mem m.engine)) ≡ ws = taken_are base at mem f ws e w m le h each in
    let fits : All IsWord ws = taken_fit mem f (length ws) ws m base at e w h taken in
    let to = stored-seen mem (e x) ws w.packet m.packet q (alike base at e w m sizes h) g in
    record {
      later = with_words_written mem (address (address_of x) m.engine + 0) ws to.0 m;
      leads = leads-write code base mem f (length ws) (address_of x) 0 ws to.0 m (instr_here code at m.engine.place (instr.Write mem f (length ws) (address_of x) 0) [] h.place c)
          taken (ap (λ a. stored mem a ws m.packet) there ∙ to.1) (write_keeps mem base f (length ws) (e x) (address_of x) m.engine there s) (write_by_base mem base f (length ws) (e x) (address_of x) m.engine there s);
      stands = written_stands base at mem (address (address_of x) m.engine + 0) (e x) ws q to.0 e w m there s fits h to.1 to.2;
    }

pub write_fault : (code : List Instr) (base at : ℕ) (mem : Mem) (f : ℕ) (x : Place) (ws : List ℕ) (e : Words) (w : World) (m : Moment)
    → IsAddress x → f + length ws ≤ 8 → IsSourceStretch mem (e x) (length ws) → InCode code at (instr.Write mem f (length ws) (address_of x) 0 ∷ []) → Stands base at e w m
    → ((i v : ℕ) → slice_get ws i ≡ Some v → e (write_place mem (f + i)) ≡ v)
    → HasSizes w.packet → stored mem (e x) ws w.packet ≡ None → Over code base 1 m (over (outcome.Fault mem (e x)) w)
write_fault code base at mem f x ws e w m i le s c h each sizes g =
    let there : address (address_of x) m.engine + 0 ≡ e x = address_is base x e m i h.words in
    record {
      last = record { outcome = outcome.Fault mem (address (address_of x) m.engine + 0); packet = m.packet; writes = m.writes };
      ends = ends-write code base mem f (length ws) (address_of x) 0 ws m (instr_here code at m.engine.place (instr.Write mem f (length ws) (address_of x) 0) [] h.place c)
          (taken_are base at mem f ws e w m le h each)
          (ap (λ a. stored mem a ws m.packet) there ∙ not-stored-seen mem (e x) ws w.packet m.packet (alike base at e w m sizes h) g)
          (write_keeps mem base f (length ws) (e x) (address_of x) m.engine there s) (write_by_base mem base f (length ws) (e x) (address_of x) m.engine there s);
      alike = seen_alike (outcome.Fault mem (address (address_of x) m.engine + 0)) (outcome.Fault mem (e x)) base at e w m (ap (λ a. outcome.Fault mem a) there) h;
    }
