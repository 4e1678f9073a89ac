-- Marks of a run alone, step by step.
use Rattle.std.proofs.Common.{◌≡◌, ℕ, zero, suc, ◌+◌, ◌-◌, ◌*◌, ◌≤◌, ◌<◌, ◌⊎◌, inl, inr, List, false, Some, None, length, refl, ap, sym, subst, ◌∙◌, arith}
use Rattle.std.specs.Prelude.{Option, ◌↔◌, slice_get}
use Rattle.std.proofs.lemmas.Bool.{cases_eq, cases_lt, false≢true}
use Rattle.nv_base.specs.declared.term.Mem.{Mem}
use Rattle.nv_base.specs.declared.term.Mem.TheVariants.{Sram, Sdram, Scratch}
use Rattle.nv_base.specs.Memories.{Memories, HasSizes, first_word, size_at, words_at}
use Rattle.nv_base.proofs.Frames.{applied-size}
use Rattle.uc_isa.specs.Code.{CodeView}
use Rattle.uc_isa.specs.Engine.{start, after, stepped_at}
use Rattle.uc_isa.specs.Step.{Next, EndsRun, step}
use Rattle.uc_isa.specs.declared.instruction.Instr.{Instr}
use Rattle.uc_isa.specs.declared.engine.Engine.{Engine}
use Rattle.uc_isa.specs.declared.engine.Stepped.{Stepped}
use Rattle.uc_isa.specs.declared.engine.Stepped.TheVariants.{Went, Wrote, Halted, Fault}
use Rattle.uc_isa.proofs.Follows.{StepLeaves, step-leaves}
use Rattle.uc_isa.proofs.Steps.{step-rests}
use Rattle.uc_contexts.specs.declared.addresses.Stretch.{Stretch}
use Rattle.uc_contexts.specs.declared.alone.Marks.{Marks}
use Rattle.uc_contexts.specs.Footprints.{Isolated, IsTouched, Reads, Writes, moment, to_read, was_read, was_written}
use Rattle.uc_contexts.specs.Marked.{Fit, IsFootprint, IsMarkedRead, IsMarkedWritten}
use Rattle.uc_contexts.specs.Sets.{Adds, has, within}
use Rattle.uc_contexts.proofs.OneMore.{after-last}

-- ---- sizes

leaves-size : (m : Mem) (s : Stepped) (p q : Memories) → StepLeaves s p q → length (words_at m q) ≡ length (words_at m p)
leaves-size m Went p q h = ap (λ z. length (words_at m z)) h
leaves-size m (Wrote w) p q h = ap (λ z. length (words_at m z)) h ∙ applied-size m w p
leaves-size m (Halted k words) p q h = ap (λ z. length (words_at m z)) h
leaves-size m (Fault k at) p q h = ap (λ z. length (words_at m z)) h

-- a step keeps the sizes of the memories
pub step-size : (m : Mem) (code : List Instr) (e : Engine) (p : Memories) → length (words_at m (step code e p).packet) ≡ length (words_at m p)
step-size m code e p = leaves-size m (step code e p).stepped p (step code e p).packet (step-leaves (slice_get code e.place) e p)

after-size : (m : Mem) (code : List Instr) (k : ℕ) (e : Engine) (p : Memories) → length (words_at m (after code k e p).packet) ≡ length (words_at m p)
after-size m code zero e p = refl
after-size m code (suc k) e p = let n : Next = step code e p in after-size m code k n.engine n.packet ∙ step-size m code e p

-- a memory has as many words as its size says
pub words-of_size : (m : Mem) (p : Memories) → HasSizes p → length (words_at m p) ≡ first_word m (size_at m p)
words-of_size Sram p h = refl
words-of_size Sdram p h =
    let all : length p.sdram ≡ 2 * h.sdram.0 = h.sdram.2 in
    omega arith
words-of_size Scratch p h = refl

-- ---- after the end of a run

-- the engine and the memories stay
stays : (code : List Instr) (n : ℕ) (e : Engine) (p : Memories) (d : ℕ) → EndsRun (stepped_at code n e p)
    → ((after code (n + d) e p).engine ≡ (after code n e p).engine) × ((after code (n + d) e p).packet ≡ (after code n e p).packet)
stays code n e p zero ends = let same : n + 0 ≡ n = omega arith in (ap (λ k. (after code k e p).engine) same, ap (λ k. (after code k e p).packet) same)
stays code n e p (suc d) ends =
    let a : Next = after code n e p in
    let more : n + suc d ≡ suc (n + d) = omega arith in
    let rests : ((step code a.engine a.packet).engine ≡ a.engine) × ((step code a.engine a.packet).packet ≡ a.packet) = step-rests code a.engine a.packet ends in
    let before = stays code n e p d ends in
    let last = after-last code (n + d) e p in
    let now : Next = after code (n + d) e p in (
      ap (λ k. (after code k e p).engine) more ∙ last.0 ∙ ap (λ x. (step code x now.packet).engine) before.0 ∙ ap (λ x. (step code a.engine x).engine) before.1 ∙ rests.0,
      ap (λ k. (after code k e p).packet) more ∙ last.1 ∙ ap (λ x. (step code x now.packet).packet) before.0 ∙ ap (λ x. (step code a.engine x).packet) before.1 ∙ rests.1,
    )

-- and each further step is the one that ended the run
same-step : (code : List Instr) (n : ℕ) (e : Engine) (p : Memories) (d : ℕ) → EndsRun (stepped_at code n e p) → stepped_at code (n + d) e p ≡ stepped_at code n e p
same-step code n e p d ends =
    let s = stays code n e p d ends in
    ap (λ x. (step code x (after code (n + d) e p).packet).stepped) s.0 ∙ ap (λ x. (step code (after code n e p).engine x).stepped) s.1

-- which reads and writes nothing
ended-reads : (o : Option Stretch) (s : Stepped) (m : Mem) (a : ℕ) → EndsRun s → IsTouched (was_read o s) m a → ⊥
ended-reads (Some t) Went m a ends h = ends
ended-reads (Some t) (Wrote w) m a ends h = h
ended-reads (Some t) (Halted k words) m a ends h = h
ended-reads (Some t) (Fault k at) m a ends h = h
ended-reads None s m a ends h = h

ended-writes : (s : Stepped) (m : Mem) (a : ℕ) → EndsRun s → IsTouched (was_written s) m a → ⊥
ended-writes Went m a ends h = h
ended-writes (Wrote w) m a ends h = ends
ended-writes (Halted k words) m a ends h = h
ended-writes (Fault k at) m a ends h = h

-- ---- marks so far

abbrev pub lone : List ℕ → ℕ → ℕ → Isolated
lone args base n = record { args = args; base = base; steps = n }

-- after n steps of the run alone this is the engine, these are the memories, and these are the marks
pub record Footed (c : CodeView) (first : Memories) (args : List ℕ) (base n : ℕ) (e : Engine) (p : Memories) (f : Marks) : Type 0 where
  pub engine : e ≡ (moment c first (lone args base n) n).engine
  pub packet : p ≡ (moment c first (lone args base n) n).packet
  pub read : (m : Mem) (a : ℕ) → IsMarkedRead f m a ↔ Reads c first (lone args base n) m a
  pub written : (m : Mem) (a : ℕ) → IsMarkedWritten f m a ↔ Writes c first (lone args base n) m a
  pub fit : Fit f p
  pub inside : e.place < length c.list

pub footed-none : (c : CodeView) (p : Memories) (args : List ℕ) (base : ℕ) (e : Engine) (f : Marks) → HasSizes p → e ≡ start args base → 1 ≤ length c.list
    → ((m : Mem) → (within m f.read).size ≡ size_at m p) → ((m : Mem) → (within m f.written).size ≡ size_at m p)
    → ((m : Mem) (a : ℕ) → has (within m f.read) a ≡ false) → ((m : Mem) (a : ℕ) → has (within m f.written) a ≡ false) → Footed c p args base 0 e p f
footed-none c p args base e f h begun some read written unread unwritten = record {
  engine = begun;
  packet = refl;
  read = λ m a. (λ is. absurd (false≢true (sym (unread m a) ∙ is)), λ r. absurd (let none : r.0 < 0 = r.1 in omega arith));
  written = λ m a. (λ is. absurd (false≢true (sym (unwritten m a) ∙ is)), λ r. absurd (let none : r.0 < 0 = r.1 in omega arith));
  fit = λ m. (words-of_size m p h ∙ ap (first_word m) (sym (read m)), words-of_size m p h ∙ ap (first_word m) (sym (written m)));
  inside = let there : (start args base).place < length c.list = omega arith in subst (λ (x : Engine). x.place < length c.list) (sym begun) there;
}

-- one step more: what is marked is what was marked and what this step touched
more-marked : (P : ℕ → Type 0) (n : ℕ) (marked marked' touched : Type 0) → (marked ↔ ((k : ℕ) × (k < n) × P k)) → (marked' ↔ (marked ⊎ touched)) → (touched → P n) → (P n → touched) → marked' ↔ ((k : ℕ) × (k < n + 1) × P k)
more-marked P n marked marked' touched before added there back = (
  λ h. elim (added.0 h) [
    | inl old ↦ (let b = before.0 old in let lt : b.0 < n = b.1 in let less : b.0 < n + 1 = omega arith in (b.0, less, b.2))
    | inr new ↦ (let less : n < n + 1 = omega arith in (n, less, there new))
  ],
  λ r. let lt : r.0 < n + 1 = r.1 in elim (cases_eq r.0 n) [
    | inl same ↦ added.1 (inr (back (subst P same r.2)))
    | inr other ↦ (let less : r.0 < n = omega arith in added.1 (inl (before.1 (r.0, less, r.2))))
  ],
)

pub footed-next : (c : CodeView) (first : Memories) (args : List ℕ) (base n : ℕ) (e : Engine) (p : Memories) (f : Marks) (e' : Engine) (p' : Memories) (f' : Marks) → Footed c first args base n e p f
    → e' ≡ (step c.list e p).engine → p' ≡ (step c.list e p).packet → e'.place < length c.list
    → ((m : Mem) → Adds (within m f.read) (IsTouched (was_read (to_read (slice_get c.list e.place) e) (step c.list e p).stepped) m) (within m f'.read))
    → ((m : Mem) → Adds (within m f.written) (IsTouched (was_written (step c.list e p).stepped) m) (within m f'.written))
    → Fit f' p' → Footed c first args base (n + 1) e' p' f'
footed-next c first args base n e p f e' p' f' h engine packet inside read written fit =
    let s : Engine = start args base in
    let a : Next = after c.list n s first in
    let more : n + 1 ≡ suc n = omega arith in
    let last = after-last c.list n s first in
    let stepped : (step c.list e p).stepped ≡ stepped_at c.list n s first = ap (λ x. (step c.list x p).stepped) h.engine ∙ ap (λ x. (step c.list a.engine x).stepped) h.packet in
    let touched : to_read (slice_get c.list e.place) e ≡ to_read (slice_get c.list a.engine.place) a.engine = ap (λ (x : Engine). to_read (slice_get c.list x.place) x) h.engine in
    let ReadAt : Mem → ℕ → ℕ → Type 0 = λ m x k. let b = after c.list k s first in IsTouched (was_read (to_read (slice_get c.list b.engine.place) b.engine) (stepped_at c.list k s first)) m x in
    let WrittenAt : Mem → ℕ → ℕ → Type 0 = λ m x k. IsTouched (was_written (stepped_at c.list k s first)) m x in
    let here : was_read (to_read (slice_get c.list e.place) e) (step c.list e p).stepped ≡ was_read (to_read (slice_get c.list a.engine.place) a.engine) (stepped_at c.list n s first) =
    ap (λ o. was_read o (step c.list e p).stepped) touched ∙ ap (was_read (to_read (slice_get c.list a.engine.place) a.engine)) stepped in
    record {
      engine = engine ∙ ap (λ x. (step c.list x p).engine) h.engine ∙ ap (λ x. (step c.list a.engine x).engine) h.packet ∙ sym last.0 ∙ sym (ap (λ k. (after c.list k s first).engine) more);
      packet = packet ∙ ap (λ x. (step c.list x p).packet) h.engine ∙ ap (λ x. (step c.list a.engine x).packet) h.packet ∙ sym last.1 ∙ sym (ap (λ k. (after c.list k s first).packet) more);
      read = λ m x. more-marked (ReadAt m x) n (IsMarkedRead f m x) (IsMarkedRead f' m x) (IsTouched (was_read (to_read (slice_get c.list e.place) e) (step c.list e p).stepped) m x) (h.read m x) (read m x)
          (λ t. subst (λ o. IsTouched o m x) here t) (λ t. subst (λ o. IsTouched o m x) (sym here) t);
      written = λ m x. more-marked (WrittenAt m x) n (IsMarkedWritten f m x) (IsMarkedWritten f' m x) (IsTouched (was_written (step c.list e p).stepped) m x) (h.written m x) (written m x)
          (λ t. subst (λ o. IsTouched (was_written o) m x) stepped t) (λ t. subst (λ o. IsTouched (was_written o) m x) (sym stepped) t);
      fit = fit;
      inside = inside;
    }

-- ---- the end

-- what a run leaves, with its marks
pub record FootOf (c : CodeView) (first : Memories) (args : List ℕ) (base n : ℕ) (p : Memories) (f : Marks) : Type 0 where
  pub footprint : IsFootprint c first (lone args base n) f
  pub packet : p ≡ (moment c first (lone args base n) n).packet

fit-first : (c : CodeView) (first : Memories) (args : List ℕ) (base n : ℕ) (e : Engine) (p : Memories) (f : Marks) → Footed c first args base n e p f → Fit f first
fit-first c first args base n e p f h = λ m.
    let same : length (words_at m first) ≡ length (words_at m p) = sym (ap (λ z. length (words_at m z)) h.packet ∙ after-size m c.list n (start args base) first) in
    (same ∙ (h.fit m).0, same ∙ (h.fit m).1)

pub footed-all : (c : CodeView) (first : Memories) (args : List ℕ) (base i n : ℕ) (e : Engine) (p : Memories) (f : Marks) → i ≡ n → Footed c first args base i e p f → FootOf c first args base n p f
footed-all c first args base i n e p f all h =
    let there : FootOf c first args base i p f = record { footprint = record { read = h.read; written = h.written; fit = fit-first c first args base i e p f h }; packet = h.packet } in
    subst (λ k. FootOf c first args base k p f) all there

-- steps after the one that ended the run touch nothing
no-more : (P : ℕ → Type 0) (i n : ℕ) (marked : Type 0) → i < n → (marked ↔ ((k : ℕ) × (k < i + 1) × P k)) → ((d : ℕ) → P (i + d) → ⊥) → marked ↔ ((k : ℕ) × (k < n) × P k)
no-more P i n marked less before none = (
  λ h. let b = before.0 h in let lt : b.0 < i + 1 = b.1 in let further : b.0 < n = omega arith in (b.0, further, b.2),
  λ r. elim (cases_lt r.0 i) [
    | inl lt ↦ (let near : r.0 < i + 1 = omega arith in before.1 (r.0, near, r.2))
    | inr past ↦ (let at : r.0 ≡ i + (r.0 - i) = omega arith in absurd (none (r.0 - i) (subst P at r.2)))
  ],
)

pub footed-over : (c : CodeView) (first : Memories) (args : List ℕ) (base i n : ℕ) (e : Engine) (p : Memories) (f : Marks) → i < n → EndsRun (stepped_at c.list i (start args base) first) → Footed c first args base (i + 1) e p f
    → FootOf c first args base n p f
footed-over c first args base i n e p f less ends h =
    let s : Engine = start args base in
    let ReadAt : Mem → ℕ → ℕ → Type 0 = λ m x k. let b = after c.list k s first in IsTouched (was_read (to_read (slice_get c.list b.engine.place) b.engine) (stepped_at c.list k s first)) m x in
    let WrittenAt : Mem → ℕ → ℕ → Type 0 = λ m x k. IsTouched (was_written (stepped_at c.list k s first)) m x in
    let further : (d : ℕ) → EndsRun (stepped_at c.list (i + d) s first) = λ d. subst EndsRun (sym (same-step c.list i s first d ends)) ends in
    let last : n ≡ i + (n - i) = omega arith in
    record {
      footprint = record {
        read = λ m x. no-more (ReadAt m x) i n (IsMarkedRead f m x) less (h.read m x) (λ d t. ended-reads _ (stepped_at c.list (i + d) s first) m x (further d) t);
        written = λ m x. no-more (WrittenAt m x) i n (IsMarkedWritten f m x) less (h.written m x) (λ d t. ended-writes (stepped_at c.list (i + d) s first) m x (further d) t);
        fit = fit-first c first args base (i + 1) e p f h;
      };
      packet = h.packet ∙ (stays c.list i s first 1 ends).1 ∙ sym (stays c.list i s first (n - i) ends).1 ∙ sym (ap (λ k. (after c.list k s first).packet) last);
    }

-- the step from here is the run's next one
pub ended-there : (c : CodeView) (first : Memories) (args : List ℕ) (base n : ℕ) (e : Engine) (p : Memories) (f : Marks) → Footed c first args base n e p f → EndsRun (step c.list e p).stepped → EndsRun (stepped_at c.list n (start args base) first)
ended-there c first args base n e p f h ends =
    let a : Next = after c.list n (start args base) first in
    subst EndsRun (ap (λ x. (step c.list x p).stepped) h.engine ∙ ap (λ x. (step c.list a.engine x).stepped) h.packet) ends
