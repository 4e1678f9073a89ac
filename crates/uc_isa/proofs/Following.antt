-- Codes that follow one another, and what agrees with one agrees with the other.
use Rattle.std.proofs.Common.{◌≡◌, ℕ, ◌<◌, ◌≤◌, ◌⊎◌, inl, inr, ⊎_elim, List, [], length, Option, Some, None, refl, sym, ap, ◌∙◌, subst, arith}
use Rattle.std.specs.Prelude.{slice_get}
use Rattle.nv_base.specs.declared.term.Mem.{Mem}
use Rattle.nv_base.specs.declared.term.Mem.TheVariants.{Sram, Sdram, Scratch}
use Rattle.nv_base.specs.Memories.{Memories}
use Rattle.nv_base.specs.Meanings.{FullOutcome, Same, IsOver, IsPrefix, Meaning, seen}
use Rattle.uc_isa.specs.Agrees.{Agrees, SourceMeaning, IsStart, KeepsToItsWords, scratch_access}
use Rattle.uc_isa.specs.Code.{CodeView}
use Rattle.uc_isa.specs.Engine.{engine, run, start, after}
use Rattle.uc_isa.specs.declared.instruction.Instr.{Instr}
use Rattle.uc_isa.specs.declared.instruction.Instr.TheVariants.{Alu, Un, Immed, Br, Read, Write, Halt}
use Rattle.uc_isa.specs.declared.engine.Engine.{Engine}
use Rattle.uc_isa.proofs.States.{start-state}
use Rattle.uc_isa.specs.Alike.{Begins, Follows}
use Rattle.uc_isa.specs.Entry.{AssumesNoMore, KeepsWithin}
use Rattle.uc_isa.specs.Visits.{MemoryAccess, access, access_at}

pub follows-refl : (code : List Instr) (starts : List ℕ) → Follows code code starts starts
follows-refl code starts = record {
  gives = λ e p b m. (m, λ ws. refl);
  gives_only = λ e p b m. (m, λ ws. refl);
  access = λ e p b m. inr (m, refl);
  access_only = λ e p b m. (m, refl);
  visits = λ e p b m. (m, λ k lt. refl);
  visits_only = λ e p b m. (m, λ k lt. refl);
}

access-trans : {A : Type 0} (x : Option A) (f g : ℕ → Option A) → (x ≡ None) ⊎ ((n : ℕ) × (x ≡ f n)) → ((n : ℕ) → (f n ≡ None) ⊎ ((k : ℕ) × (f n ≡ g k))) → (x ≡ None) ⊎ ((k : ℕ) × (x ≡ g k))
access-trans x f g (inl none) h = inl none
access-trans x f g (inr (n, e)) h = ⊎_elim (λ (none : f n ≡ None). inl (e ∙ none)) (λ (some : (k : ℕ) × (f n ≡ g k)). inr (some.0, e ∙ some.1)) (h n)

pub follows-trans : (a b d : List Instr) (s t u : List ℕ) → length t ≡ length s → Follows a b s t → Follows b d t u → Follows a d s u
follows-trans a b d s t u same x y = record {
  gives = λ e p bg m. let h = x.gives e p bg m in let k = y.gives e p bg h.0 in (k.0, λ ws. h.1 ws ∙ k.1 ws);
  gives_only = λ e p bg n. let k = y.gives_only e p bg n in let h = x.gives_only e p bg k.0 in (h.0, λ ws. h.1 ws ∙ k.1 ws);
  access = λ e p bg m. access-trans (access_at a m e p) (λ n. access_at b n e p) (λ n. access_at d n e p) (x.access e p bg m) (y.access e p bg);
  access_only = λ e p bg n. let k = y.access_only e p bg n in let h = x.access_only e p bg k.0 in (h.0, h.1 ∙ k.1);
  visits = λ e p bg m. let h = x.visits e p bg m in let k = y.visits e p bg h.0 in (k.0, λ i lt. h.1 i lt ∙ k.1 i (subst (λ n. i < n) (sym same) lt));
  visits_only = λ e p bg n. let k = y.visits_only e p bg n in let h = x.visits_only e p bg k.0 in (h.0, λ i lt. h.1 i lt ∙ k.1 i (subst (λ n. i < n) (sym same) lt));
}

-- ---- agreement

-- the part of an access that is scratch
abbrev pub scratch_part : Mem → ℕ → ℕ → Option (ℕ × ℕ)
scratch_part Sram at n = None
scratch_part Sdram at n = None
scratch_part Scratch at n = Some (at, n)

abbrev pub scratch_of : Option MemoryAccess → Option (ℕ × ℕ)
scratch_of (Some a) = scratch_part a.mem a.at a.count
scratch_of None = None

scratch-same : (o : Option Instr) (e : Engine) → scratch_access o e ≡ scratch_of (access o e)
scratch-same (Some (Alu d op x y)) e = refl
scratch-same (Some (Un d op x)) e = refl
scratch-same (Some (Immed d v k)) e = refl
scratch-same (Some (Br b t)) e = refl
scratch-same (Some (Read Sram r n x off)) e = refl
scratch-same (Some (Read Sdram r n x off)) e = refl
scratch-same (Some (Read Scratch r n x off)) e = refl
scratch-same (Some (Write Sram r n x off)) e = refl
scratch-same (Some (Write Sdram r n x off)) e = refl
scratch-same (Some (Write Scratch r n x off)) e = refl
scratch-same (Some (Halt k n)) e = refl
scratch-same None e = refl

-- the next access, if it is one to the compiler's words of scratch, keeps to the code's own
abbrev pub KeepsIn : List Instr → ℕ → ℕ → Engine → Memories → Type 0
KeepsIn code base m e p = let n = after code m e p in KeepsToItsWords base (scratch_access (slice_get code n.engine.place) n.engine)

scratch-alike : (code code' : List Instr) (m n : ℕ) (e : Engine) (p : Memories) → access_at code m e p ≡ access_at code' n e p
    → scratch_access (slice_get code (after code m e p).engine.place) (after code m e p).engine ≡ scratch_access (slice_get code' (after code' n e p).engine.place) (after code' n e p).engine
scratch-alike code code' m n e p same =
    scratch-same (slice_get code (after code m e p).engine.place) (after code m e p).engine
    ∙ ap scratch_of same
    ∙ sym (scratch-same (slice_get code' (after code' n e p).engine.place) (after code' n e p).engine)

keeps-by : (code code' : List Instr) (base m n : ℕ) (e : Engine) (p : Memories) → access_at code m e p ≡ access_at code' n e p → KeepsIn code base m e p → KeepsIn code' base n e p
keeps-by code code' base m n e p same h = subst (KeepsToItsWords base) (scratch-alike code code' m n e p same) h

keeps-none : (code : List Instr) (base m : ℕ) (e : Engine) (p : Memories) → access_at code m e p ≡ None → KeepsIn code base m e p
keeps-none code base m e p none = subst (KeepsToItsWords base) (sym (scratch-same (slice_get code (after code m e p).engine.place) (after code m e p).engine ∙ ap scratch_of none)) tt

pub begins-start : (params : ℕ) (args : List ℕ) (p : Memories) (base : ℕ) → params ≤ 8 → IsStart params args p base → Begins (start args base) p
begins-start params args p base few s = record {
  engine = start-state args base (let e = s.words.0 in omega arith) s.words.1 (let h = s.spills.1 in omega arith);
  place = refl;
  sizes = s.memories;
}

-- a meaning all of whose outcomes another one has, and the other way round
abbrev pub GivesAll : Meaning → Meaning → Type 0
GivesAll m n = ((i : ℕ) → (j : ℕ) × (m i ≡ n j)) × ((j : ℕ) → (i : ℕ) × (m i ≡ n j))

same-given : (s m n : Meaning) → GivesAll m n → Same s m → Same s n
same-given s m n g h = record {
  ends = λ i over. let a = h.ends i over in let b = g.0 a.0 in (b.0, a.1 ∙ ap seen b.1);
  ends_only = λ j over. let b = g.1 j in let a = h.ends_only b.0 (subst (λ (f : FullOutcome). IsOver f.outcome) (sym b.1) over) in (a.0, a.1 ∙ ap seen b.1);
  writes = λ i. let a = h.writes i in let b = g.0 a.0 in (b.0, subst (λ (f : FullOutcome). IsPrefix (seen (s i)).writes (seen f).writes) b.1 a.1);
  writes_only = λ j. let b = g.1 j in let a = h.writes_only b.0 in (a.0, subst (λ (f : FullOutcome). IsPrefix (seen f).writes (seen (s a.0)).writes) b.1 a.1);
}

gives-engine : (c c' : CodeView) (starts starts' args : List ℕ) (base : ℕ) (p : Memories) → Follows c.list c'.list starts starts' → Begins (start args base) p → GivesAll (engine c args base p) (engine c' args base p)
gives-engine c c' starts starts' args base p f b =
    (λ i. let h = f.gives (start args base) p b i in (h.0, h.1 []), λ j. let h = f.gives_only (start args base) p b j in (h.0, h.1 []))

gives-back : (m n : Meaning) → GivesAll m n → GivesAll n m
gives-back m n g = (λ j. let h = g.1 j in (h.0, sym h.1), λ i. let h = g.0 i in (h.0, sym h.1))

-- what agrees with code agrees with code that follows it
pub agrees-there : (params : ℕ) (source : SourceMeaning) (c c' : CodeView) (starts starts' : List ℕ) → params ≤ 8 → c'.params ≡ c.params → Follows c.list c'.list starts starts' → Agrees params source c → Agrees params source c'
agrees-there params source c c' starts starts' few count f h = record {
  parameters = count ∙ h.parameters;
  same = λ args p base s. same-given (source args p) (engine c args base p) (engine c' args base p) (gives-engine c c' starts starts' args base p f (begins-start params args p base few s)) (h.same args p base s);
  going = λ args p base s i going.
      let a = h.going args p base s i going in
      let b = (gives-engine c c' starts starts' args base p f (begins-start params args p base few s)).0 a.0 in
      (b.0, a.1 ∙ ap seen b.1);
  spills = λ args p base s n.
      let a = f.access_only (start args base) p (begins-start params args p base few s) n in
      keeps-by c.list c'.list base a.0 n (start args base) p a.1 (h.spills args p base s a.0);
}

-- and the other way round
pub agrees-back : (params : ℕ) (source : SourceMeaning) (c c' : CodeView) (starts starts' : List ℕ) → params ≤ 8 → c'.params ≡ c.params → Follows c.list c'.list starts starts' → Agrees params source c' → Agrees params source c
agrees-back params source c c' starts starts' few count f h = record {
  parameters = sym count ∙ h.parameters;
  same = λ args p base s. same-given (source args p) (engine c' args base p) (engine c args base p) (gives-back (engine c args base p) (engine c' args base p) (gives-engine c c' starts starts' args base p f (begins-start params args p base few s))) (h.same args p base s);
  going = λ args p base s i going.
      let a = h.going args p base s i going in
      let b = (gives-engine c c' starts starts' args base p f (begins-start params args p base few s)).1 a.0 in
      (b.0, a.1 ∙ ap seen (sym b.1));
  spills = λ args p base s m.
      ⊎_elim
      (λ (none : access_at c.list m (start args base) p ≡ None). keeps-none c.list base m (start args base) p none)
      (λ (some : (n : ℕ) × (access_at c.list m (start args base) p ≡ access_at c'.list n (start args base) p)). keeps-by c'.list c.list base some.0 m (start args base) p (sym some.1) (h.spills args p base s some.0))
      (f.access (start args base) p (begins-start params args p base few s) m);
}

-- what follows code that assumes no more than arguments and base assumes no more either
pub assumes-there : (params : ℕ) (source : SourceMeaning) (slots : ℕ) (code code' : List Instr) (starts starts' : List ℕ) → Follows code code' starts starts' → AssumesNoMore params source slots code → AssumesNoMore params source slots code'
assumes-there params source slots code code' starts starts' f h = record {
  same = λ args p base e s is.
      let b : Begins e p = record { engine = is.engine; place = is.place; sizes = s.memories } in
      same-given (source args p) (λ m. run code m e p []) (λ m. run code' m e p [])
      (λ i. let g = f.gives e p b i in (g.0, g.1 []), λ j. let g = f.gives_only e p b j in (g.0, g.1 []))
      (h.same args p base e s is);
  keeps = λ args p base e s is n.
      let b : Begins e p = record { engine = is.engine; place = is.place; sizes = s.memories } in
      let a = f.access_only e p b n in
      subst (KeepsWithin base slots) (scratch-alike code code' a.0 n e p a.1) (h.keeps args p base e s is a.0);
}
