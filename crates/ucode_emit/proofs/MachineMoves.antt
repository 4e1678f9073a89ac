-- What moves do to words in places, one instruction each.
use Rattle.std.proofs.Common.{◌≡◌, ℕ, ◌+◌, ◌<◌, ◌≤◌, List, [], ◌∷◌, false, Some, None, length, take, drop, inl, inr, refl, sym, ap, ◌∙◌, subst, ⊎_elim, if◌then◌else◌, nat_eq, arith}
use Rattle.std.specs.List.{AllByRecursion}
use Rattle.std.proofs.lemmas.Bool.{cases_eq, cases_lt, eq-eqb, ne_eqb, le-leb}
use Rattle.std.proofs.lemmas.List.Elements.{All-cons, All-nil, All-head, recursion_from_All}
use Rattle.std.specs.Prelude.{slice_index}
use Rattle.nv_base.specs.declared.term.Mem.TheVariants.{Scratch}
use Rattle.nv_base.specs.Memories.{Memories, HasSizes, AreApart, fetched, stored}
use Rattle.nv_base.specs.Words.{IsWord}
use Rattle.nv_base.specs.World.{World}
use Rattle.nv_base.proofs.Stretches.{splice}
use Rattle.nv_base.proofs.MemoryLemmas.{stored-sizes, fetched-words, written_read}
use Rattle.uc_isa.specs.declared.instruction.Instr.{Instr}
use Rattle.uc_isa.specs.declared.instruction.Instr.TheVariants as instr
use Rattle.uc_isa.specs.declared.instruction.Gpr.TheVariants as gpr
use Rattle.uc_isa.specs.declared.instruction.UnOp.TheVariants.{Copy}
use Rattle.uc_isa.specs.declared.engine.Engine.{Engine}
use Rattle.uc_isa.specs.Pieces.{Moment, Leads, SeenAlike}
use Rattle.uc_isa.specs.Step.{operand, address, with_result, with_flags, write_registers, onward}
use Rattle.uc_isa.specs.Straight.{Stands as InCode}
use Rattle.uc_isa.proofs.Leading.{leads-none, leads-then}
use Rattle.uc_isa.proofs.Listing.{stands-left, stands-right}
use Rattle.uc_isa.proofs.OwnWrites.{own-write, own-seen}
use Rattle.uc_isa.proofs.PieceSteps.{leads-un, leads-read, leads-write}
use Rattle.uc_isa.proofs.States.{operand-fits, other-state}
use Rattle.place_plan.specs.declared.place.Place.{Place}
use Rattle.place_plan.specs.declared.place.Place.TheVariants.{A, B, L, LD, S, SD, Slot}
use Rattle.ucode_emit.specs.Moves.{Move, Words, put, one_by_one}
use Rattle.ucode_emit.specs.Pieces.{source, target, move_instr}
use Rattle.ucode_emit.specs.inner.Machine.{IsReadable, IsWritable, IsDirect, read_slot, write_slot, copied, AreDirect, Stands, move_instrs, Led}
use Rattle.ucode_emit.proofs.MachineResults.{HasWords, operand_word, resulted, put_stands}
use Rattle.ucode_emit.proofs.MachineOperations.{instr_here}
use Rattle.ucode_emit.proofs.MachineReads.{with_words_read, read_stands}
use Rattle.ucode_emit.proofs.MachineAccesses.{one_fetched, one_taken, one_same, scratch_kept, taken_fit, with_words_written}

-- ---- a copy from one register to another

copy_leads : (code : List Instr) (base at : ℕ) (x d : Place) (e : Words) (w : World) (m : Moment)
    → IsReadable x → IsWritable d → InCode code at (instr.Un (target d) Copy (source x) ∷ []) → Stands base at e w m → Led code base 1 m (at + 1) (put e d (e x)) w
copy_leads code base at x d e w m r p c h =
    let v : ℕ = operand (source x) m.engine in
    let to : Engine = with_flags v false (with_result (target d) v m.engine) in
    record {
      later = resulted d v to.z to.c m;
      leads = leads-un code base (target d) Copy (source x) m (instr_here code at m.engine.place (instr.Un (target d) Copy (source x)) [] h.place c);
      stands = subst (λ u. Stands base (at + 1) (put e d u) w (resulted d v to.z to.c m)) (operand_word base x e m r h.words)
          (put_stands base at d v to.z to.c e w m p (operand-fits (source x) m.engine h.engine) h);
    }

copy_instr : (x d : Place) → IsReadable x → move_instr x d ≡ instr.Un (target d) Copy (source x)
copy_instr (A k) d r = refl
copy_instr (B k) d r = refl
copy_instr (L k) d r = refl
copy_instr (LD k) d r = refl
copy_instr (S k) d r = absurd r
copy_instr (SD k) d r = absurd r
copy_instr (Slot k) d r = absurd r

-- ---- a slot is read

slot_address : (base at k : ℕ) (e : Words) (w : World) (m : Moment) → Stands base at e w m → address (gpr.B 15) m.engine + k ≡ base + k
slot_address base at k e w m h = ap (λ a. a + k) h.base_kept

slot_leads : (code : List Instr) (base at k r : ℕ) (e : Words) (w : World) (m : Moment)
    → k < 128 → r < 8 → InCode code at (instr.Read Scratch r 1 (gpr.B 15) k ∷ []) → Stands base at e w m → Led code base 1 m (at + 1) (put e (L r) (e (Slot k))) w
slot_leads code base at k r e w m a b c h =
    let x : ℕ = slice_index m.packet.scratch (base + k) in
    let there : address (gpr.B 15) m.engine + k ≡ base + k = slot_address base at k e w m h in
    let found : fetched Scratch (base + k) 1 m.packet ≡ Some (x ∷ []) = one_fetched (base + k) m.packet (omega (arith, a, h.spills.1, h.memories.scratch.0)) in
    let words = fetched-words Scratch (base + k) 1 m.packet (x ∷ []) h.memories found in
    record {
      later = with_words_read Scratch r (x ∷ []) m;
      leads = leads-read code base Scratch r 1 (gpr.B 15) k (x ∷ []) m (instr_here code at m.engine.place (instr.Read Scratch r 1 (gpr.B 15) k) [] h.place c)
          (ap (λ n. fetched Scratch n 1 m.packet) there ∙ found)
          (λ past. (omega (arith, there), omega (arith, there, a))) (λ past. (refl, h.base_kept));
      stands = subst (λ u. Stands base (at + 1) (put e (L r) u) w (with_words_read Scratch r (x ∷ []) m)) (h.words (Slot k) a)
          (read_stands base at Scratch r (x ∷ []) e w m (omega (arith, b)) words.1 h);
    }

-- ---- a slot is written

one_stored : (at v : ℕ) (p : Memories) → at < length p.scratch → stored Scratch at (v ∷ []) p ≡ Some (record p { scratch = splice at (v ∷ []) p.scratch })
one_stored at v p lt = ap (λ b. if b then Some (record p { scratch = splice at (v ∷ []) p.scratch }) else None) (le-leb (at + 1) (length p.scratch) (omega (arith, lt)))

others_apart : (base k j : ℕ) → (j ≡ k → ⊥) → AreApart Scratch (base + j) 1 Scratch (base + k) 1
others_apart base k j ne =
    ⊎_elim
    (λ (lt : j < k). inr (inl (omega (arith, lt))))
    (λ (le : k ≤ j). inr (inr (omega (arith, le, ne))))
    (cases_lt j k)

-- the slots after the write
slot_put : (base at k j v : ℕ) (q : Memories) (e : Words) (w : World) (m : Moment) → k < 128 → j < 128 → Stands base at e w m → HasSizes q → stored Scratch (base + k) (v ∷ []) m.packet ≡ Some q
    → slice_index q.scratch (base + j) ≡ (if nat_eq j k then v else e (Slot j))
slot_put base at k j v q e w m a b h sizes st =
    ⊎_elim
    (λ (same : j ≡ k).
    ap (λ i. slice_index q.scratch (base + i)) same
    ∙ (one_same (slice_index q.scratch (base + k)) v
    (sym (one_fetched (base + k) q (omega (arith, a, h.spills.1, sizes.scratch.0))) ∙ written_read Scratch (base + k) (v ∷ []) m.packet q st)
    ∙ sym (ap (λ t. if t then v else e (Slot j)) (eq-eqb j k same))))
    (λ (ne : j ≡ k → ⊥).
    scratch_kept Scratch (base + k) (v ∷ []) m.packet q (base + j) h.memories sizes st (others_apart base k j ne) (omega (arith, b, h.spills.1))
    ∙ (h.words (Slot j) b ∙ sym (ap (λ t. if t then v else e (Slot j)) (ne_eqb j k ne))))
    (cases_eq j k)

slot_words : (base a k : ℕ) (ws : List ℕ) (v : ℕ) (q : Memories) (e : Words) (m : Moment) → ((j : ℕ) → j < 128 → slice_index q.scratch (base + j) ≡ (if nat_eq j k then v else e (Slot j)))
    → HasWords base e m → HasWords base (put e (Slot k) v) (with_words_written Scratch a ws q m)
slot_words base a k ws v q e m slots h (A j) i = h (A j) i
slot_words base a k ws v q e m slots h (B j) i = h (B j) i
slot_words base a k ws v q e m slots h (L j) i = h (L j) i
slot_words base a k ws v q e m slots h (LD j) i = h (LD j) i
slot_words base a k ws v q e m slots h (S j) i = h (S j) i
slot_words base a k ws v q e m slots h (SD j) i = h (SD j) i
slot_words base a k ws v q e m slots h (Slot j) i = slots j i

slot_stands : (base at a k v : ℕ) (q : Memories) (e : Words) (w : World) (m : Moment) → k < 128 → a ≡ base + k → IsWord v → Stands base at e w m → stored Scratch a (v ∷ []) m.packet ≡ Some q
    → Stands base (at + 1) (put e (Slot k) v) w (with_words_written Scratch a (v ∷ []) q m)
slot_stands base at a k v q e w m lt there fits h st =
    let st' : stored Scratch (base + k) (v ∷ []) m.packet ≡ Some q = ap (λ n. stored Scratch n (v ∷ []) m.packet) (sym there) ∙ st in
    let sizes : HasSizes q = stored-sizes Scratch (base + k) (v ∷ []) m.packet q h.memories (All-cons IsWord v [] fits (All-nil IsWord)) st' in
    let later : Moment = with_words_written Scratch a (v ∷ []) q m in
    let alike : SeenAlike m later = own-seen base m later h.spills.0 (own-write base a (v ∷ []) m (onward m.engine) q st (omega (arith, there)) (omega (arith, there, lt))) in
    record {
      place = ap (λ n. n + 1) h.place;
      engine = other-state m.engine m.engine.z m.engine.c (m.engine.place + 1) h.engine;
      memories = sizes;
      spills = h.spills;
      base_kept = h.base_kept;
      words = slot_words base a k (v ∷ []) v q e m (λ j i. slot_put base at k j v q e w m lt i h sizes st') h.words;
      packet = alike.packet ∙ h.packet;
      writes = alike.writes ∙ h.writes;
    }

spill_leads : (code : List Instr) (base at r k : ℕ) (e : Words) (w : World) (m : Moment)
    → r < 8 → k < 128 → InCode code at (instr.Write Scratch r 1 (gpr.B 15) k ∷ []) → Stands base at e w m → Led code base 1 m (at + 1) (put e (Slot k) (e (S r))) w
spill_leads code base at r k e w m b a c h =
    let v : ℕ = slice_index m.engine.s r in
    let n : ℕ = address (gpr.B 15) m.engine + k in
    let there : n ≡ base + k = slot_address base at k e w m h in
    let q : Memories = record m.packet { scratch = splice n (v ∷ []) m.packet.scratch } in
    let st : stored Scratch n (v ∷ []) m.packet ≡ Some q = one_stored n v m.packet (omega (arith, there, a, h.spills.1, h.memories.scratch.0)) in
    let taken : take 1 (drop r (write_registers Scratch m.engine)) ≡ v ∷ [] = one_taken m.engine.s r (omega (arith, b, h.engine.bank_s.0)) in
    let fits : IsWord v = All-head IsWord v [] (taken_fit Scratch r 1 (v ∷ []) m base at e w h taken) in
    record {
      later = with_words_written Scratch n (v ∷ []) q m;
      leads = leads-write code base Scratch r 1 (gpr.B 15) k (v ∷ []) q m (instr_here code at m.engine.place (instr.Write Scratch r 1 (gpr.B 15) k) [] h.place c) taken st
          (λ past. (omega (arith, there), omega (arith, there, a))) (λ past. (refl, h.base_kept));
      stands = subst (λ u. Stands base (at + 1) (put e (Slot k) u) w (with_words_written Scratch n (v ∷ []) q m)) (h.words (S r) b)
          (slot_stands base at n k v q e w m a there fits h st);
    }

-- ---- any moves

move_leads : (code : List Instr) (base at slots : ℕ) (x d : Place) (e : Words) (w : World) (m : Moment)
    → slots ≤ 128 → IsDirect slots x d → InCode code at (move_instr x d ∷ []) → Stands base at e w m → Led code base 1 m (at + 1) (put e d (e x)) w
move_leads code base at slots x d e w m n (read_slot {k} {r} a b) c h = let t : k < 128 = omega arith in slot_leads code base at k r e w m t b c h
move_leads code base at slots x d e w m n (write_slot {r} {k} a b) c h = let t : k < 128 = omega arith in spill_leads code base at r k e w m a t c h
move_leads code base at slots x d e w m n (copied r p) c h =
    copy_leads code base at x d e w m r p (subst (λ i. InCode code at (i ∷ [])) (copy_instr x d r) c) h

all_lead : (code : List Instr) (base at slots : ℕ) (ms : List Move) (e : Words) (w : World) (m : Moment)
    → slots ≤ 128 → AllByRecursion (λ n. IsDirect slots n.0 n.1) ms → InCode code at (move_instrs ms) → Stands base at e w m → Led code base (length ms) m (at + length ms) (one_by_one ms e) w
all_lead code base at slots [] e w m n d c h =
    let same : at ≡ at + 0 = omega arith in
    record { later = m; leads = leads-none code base m; stands = subst (λ n. Stands base n e w m) same h }
all_lead code base at slots (x ∷ ms) e w m n d c h =
    let i : Instr = move_instr x.0 x.1 in
    let e' : Words = put e x.1 (e x.0) in
    let first : Led code base 1 m (at + 1) e' w = move_leads code base at slots x.0 x.1 e w m n d.0 (stands-left code at (i ∷ []) (move_instrs ms) c) h in
    let rest : Led code base (length ms) first.later (at + 1 + length ms) (one_by_one ms e') w = all_lead code base (at + 1) slots ms e' w first.later n d.1 (stands-right code at (i ∷ []) (move_instrs ms) c) first.stands in
    let as_many : 1 + length ms ≡ length (x ∷ ms) = omega arith in
    let far : at + 1 + length ms ≡ at + length (x ∷ ms) = omega arith in
    record {
      later = rest.later;
      leads = subst (λ n. Leads code base n m rest.later) as_many (leads-then code base 1 (length ms) m first.later rest.later first.leads rest.leads);
      stands = subst (λ n. Stands base n (one_by_one ms e') w rest.later) far rest.stands;
    }

pub moves : (code : List Instr) (base at slots : ℕ) (ms : List Move) (e : Words) (w : World) (m : Moment)
    → slots ≤ 128 → AreDirect slots ms → InCode code at (move_instrs ms) → Stands base at e w m → Led code base (length ms) m (at + length ms) (one_by_one ms e) w
moves code base at slots ms e w m n d c h = all_lead code base at slots ms e w m n (recursion_from_All (λ i. IsDirect slots i.0 i.1) ms d) c h
