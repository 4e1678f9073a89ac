-- Code in which a branch and the jump behind it are exchanged does the same.
use Rattle.std.proofs.Common.{◌≡◌, ℕ, zero, suc, ◌+◌, ◌⊎◌, inl, inr, ⊎_elim, Bool, true, false, not, List, [], ◌∷◌, ◌++◌, Some, None, refl, sym, ap, ◌∙◌, subst, arith}
use Rattle.std.specs.Prelude.{⊤, Option, slice_get}
use Rattle.std.proofs.lemmas.Bool.{false≢true}
use Rattle.nv_base.specs.Memories.{Memories}
use Rattle.nv_base.specs.declared.outcome.Write.{Write as WriteEvent}
use Rattle.uc_isa.specs.Engine.{continue_run, run}
use Rattle.uc_isa.specs.Step.{EndsRun, Next, branched, effect, holds, step, step_at}
use Rattle.uc_isa.specs.declared.engine.Engine.{Engine}
use Rattle.uc_isa.specs.declared.engine.Stepped.{Stepped}
use Rattle.uc_isa.specs.declared.engine.Stepped.TheVariants.{Fault, Halted, Went, Wrote}
use Rattle.uc_isa.specs.declared.instruction.Cond.{Cond}
use Rattle.uc_isa.specs.declared.instruction.Cond.TheVariants.{Always, C, NC, NZ, Z}
use Rattle.uc_isa.specs.declared.instruction.Instr.{Instr}
use Rattle.uc_isa.specs.declared.instruction.Instr.TheVariants.{Br}
use Rattle.uc_isa.proofs.Counting.{here-not}
use Rattle.uc_isa.proofs.Effects.{goes-on}
use Rattle.uc_isa.specs.Relocated.{at_place}
use Rattle.uc_isa.specs.Resources.{IsNext}
use Rattle.uc_isa.specs.StraightCode.{GoesTo, IsEntered, IsStraight}
use Rattle.uc_isa.specs.Visits.{access, access_at, continue_count, here, stood}
use Rattle.uc_peep.proofs.Replaced.{gone-cases, next-cases}
use Rattle.uc_peep.specs.Kept.{is_gone}
use Rattle.uc_peep_facts.specs.Turned.{asks, opposite}

-- ---- conditions

opposite-twice : (c : Cond) → opposite (opposite c) ≡ c
opposite-twice Always = refl
opposite-twice Z = refl
opposite-twice NZ = refl
opposite-twice C = refl
opposite-twice NC = refl

opposite-asks : (c : Cond) → asks (opposite c) ≡ asks c
opposite-asks Always = refl
opposite-asks Z = refl
opposite-asks NZ = refl
opposite-asks C = refl
opposite-asks NC = refl

not-twice : (b : Bool) → not (not b) ≡ b
not-twice true = refl
not-twice false = refl

opposite-holds : (c : Cond) (e : Engine) (b : Bool) → asks c ≡ true → holds c e ≡ b → holds (opposite c) e ≡ not b
opposite-holds Always e b a h = absurd (false≢true a)
opposite-holds Z e b a h = ap not h
opposite-holds NZ e b a h = sym (not-twice e.z) ∙ ap not h
opposite-holds C e b a h = ap not h
opposite-holds NC e b a h = sym (not-twice e.c) ∙ ap not h

-- ---- the two codes

-- at this place and the next the first code has a branch and a jump, and the second the branch on the opposite condition to where the jump goes, and a
-- jump to where the branch goes
pub record IsPair (code draft : List Instr) (x : ℕ) : Type 0 where
  pub condition : Cond
  pub near : ℕ
  pub far : ℕ
  pub tests : asks condition ≡ true
  pub branch : slice_get code x ≡ Some (Br condition near)
  pub jump : slice_get code (suc x) ≡ Some (Br Always far)
  pub branch' : slice_get draft x ≡ Some (Br (opposite condition) far)
  pub jump' : slice_get draft (suc x) ≡ Some (Br Always near)

-- such pairs stand where the second place is marked, and no branch leads there; all else is the same
pub record AreExchanged (code draft : List Instr) (gone : List Bool) : Type 0 where
  pub first : is_gone gone 0 ≡ false
  pub pair : (x : ℕ) → is_gone gone (suc x) ≡ true → IsPair code draft x
  pub same : (x : ℕ) → is_gone gone x ≡ false → is_gone gone (suc x) ≡ false → slice_get draft x ≡ slice_get code x
  pub apart : (y : ℕ) → IsEntered code y → is_gone gone y ≡ false

swapped-pair : (code draft : List Instr) (x : ℕ) → IsPair code draft x → IsPair draft code x
swapped-pair code draft x p = record {
  condition = opposite p.condition;
  near = p.far;
  far = p.near;
  tests = opposite-asks p.condition ∙ p.tests;
  branch = p.branch';
  jump = p.jump';
  branch' = p.branch ∙ ap (λ c. Some (Br c p.near)) (sym (opposite-twice p.condition));
  jump' = p.jump;
}

pub swapped : (code draft : List Instr) (gone : List Bool) → AreExchanged code draft gone → AreExchanged draft code gone
swapped code draft gone h = record {
  first = h.first;
  pair = λ x g. swapped-pair code draft x (h.pair x g);
  same = λ x k k'. sym (h.same x k k');
  apart = λ y e. entered e.0 y e.1 e.2 e.3;
}
  where
    goes-same : (i j : Instr) (y : ℕ) → Some i ≡ Some j → GoesTo i y → GoesTo j y
    goes-same i j y e g = let same : i ≡ j = cc in subst (λ k. GoesTo k y) same g

    from : (x y : ℕ) (i : Instr) → slice_get draft x ≡ Some i → GoesTo i y → (is_gone gone x ≡ true) ⊎ (is_gone gone x ≡ false) → (is_gone gone (suc x) ≡ true) ⊎ (is_gone gone (suc x) ≡ false) → IsEntered code y
    from zero y i at goes (inl g) next = absurd (false≢true (sym h.first ∙ g))
    from (suc x) y i at goes (inl g) next =
        let p = h.pair x g in
        let to : p.near ≡ y = goes-same i (Br Always p.near) y (sym at ∙ p.jump') goes in
        (x, Br p.condition p.near, p.branch, to)
    from x y i at goes (inr k) (inl g) =
        let p = h.pair x g in
        let to : p.far ≡ y = goes-same i (Br (opposite p.condition) p.far) y (sym at ∙ p.branch') goes in
        (suc x, Br Always p.far, p.jump, to)
    from x y i at goes (inr k) (inr k') = (x, i, sym (h.same x k k') ∙ at, goes)

    entered : (x y : ℕ) (i : Instr) → slice_get draft x ≡ Some i → GoesTo i y → is_gone gone y ≡ false
    entered x y i at goes = h.apart y (from x y i at goes (gone-cases gone x) (gone-cases gone (suc x)))

-- ---- steps

taken : (c : Cond) (t : ℕ) (e : Engine) (ms : Memories) → holds c e ≡ true → effect (Br c t) e ms ≡ record { stepped = Went; engine = at_place t e; packet = ms }
taken c t e ms h = ap (λ b. record { stepped = Went; engine = branched b t e; packet = ms }) h

passed : (c : Cond) (t : ℕ) (e : Engine) (ms : Memories) → holds c e ≡ false → effect (Br c t) e ms ≡ record { stepped = Went; engine = at_place (suc e.place) e; packet = ms }
passed c t e ms h =
    let one : e.place + 1 ≡ suc e.place = omega arith in
    ap (λ b. record { stepped = Went; engine = branched b t e; packet = ms }) h ∙ ap (λ n. record { stepped = Went; engine = at_place n e; packet = ms }) one

-- a step that only goes on is counted by itself
pub record GoesFirst (code : List Instr) (e e1 : Engine) (ms : Memories) : Type 0 where
  pub run : (m : ℕ) (ws : List WriteEvent) → run code (suc m) e ms ws ≡ run code m e1 ms ws
  pub access : (m : ℕ) → access_at code (suc m) e ms ≡ access_at code m e1 ms
  pub stood : (s m : ℕ) → stood code s (suc m) e ms ≡ here s e.place + stood code s m e1 ms

goes-first : (code : List Instr) (e e1 : Engine) (ms : Memories) → step code e ms ≡ record { stepped = Went; engine = e1; packet = ms } → GoesFirst code e e1 ms
goes-first code e e1 ms steps = record {
  run = λ m ws. ap (λ (n : Next). continue_run (run code m) n.stepped n.engine n.packet ws) steps;
  access = λ m. ap (λ (n : Next). access_at code m n.engine n.packet) steps;
  stood = λ s m. ap (λ (n : Next). here s e.place + continue_count (stood code s m) n.stepped n.engine n.packet) steps;
}

module _ (code draft : List Instr) (gone : List Bool) (r : AreExchanged code draft gone) where
  -- m steps of the first code from here, and n of the second
  pub record Meets (e : Engine) (ms : Memories) (m n : ℕ) : Type 0 where
    pub run : (ws : List WriteEvent) → run code m e ms ws ≡ run draft n e ms ws
    pub access : access_at code m e ms ≡ access_at draft n e ms
    pub stood : (s : ℕ) → is_gone gone s ≡ false → stood code s m e ms ≡ stood draft s n e ms

  apart-here : (s x : ℕ) → is_gone gone s ≡ false → is_gone gone x ≡ true → here s x ≡ 0
  apart-here s x k g = here-not s x (λ e. false≢true (sym k ∙ ap (is_gone gone) (sym e) ∙ g))

  pair-access : (e : Engine) → IsPair code draft e.place → access (slice_get code e.place) e ≡ access (slice_get draft e.place) e
  pair-access e p = ap (λ o. access o e) p.branch ∙ sym (ap (λ o. access o e) p.branch')

  same-access : (e : Engine) → is_gone gone e.place ≡ false → access (slice_get code e.place) e ≡ access (slice_get draft e.place) e
  same-access e k = ⊎_elim
      (λ (g : is_gone gone (suc e.place) ≡ true). pair-access e (r.pair e.place g))
      (λ (k' : is_gone gone (suc e.place) ≡ false). ap (λ o. access o e) (sym (r.same e.place k k')))
      (gone-cases gone (suc e.place))

  meets-none : (e : Engine) (ms : Memories) → is_gone gone e.place ≡ false → Meets e ms 0 0
  meets-none e ms k = record { run = λ ws. refl; access = same-access e k; stood = λ s h. refl }

  -- ---- at a pair

  module _ (e : Engine) (ms : Memories) (g : is_gone gone (suc e.place) ≡ true) where
    abbrev p : IsPair code draft e.place
    p = r.pair e.place g

    abbrev between : Engine
    between = at_place (suc e.place) e

    near-first : holds p.condition e ≡ true → GoesFirst code e (at_place p.near e) ms
    near-first h = goes-first code e (at_place p.near e) ms (ap (λ o. step_at o e ms) p.branch ∙ taken p.condition p.near e ms h)

    near-over : holds p.condition e ≡ true → GoesFirst draft e between ms
    near-over h = goes-first draft e between ms (ap (λ o. step_at o e ms) p.branch' ∙ passed (opposite p.condition) p.far e ms (opposite-holds p.condition e true p.tests h))

    near-then : GoesFirst draft between (at_place p.near e) ms
    near-then = goes-first draft between (at_place p.near e) ms (ap (λ o. step_at o between ms) p.jump' ∙ taken Always p.near between ms refl)

    -- the branch is taken in the first code, and not in the second
    meets-near : (m n : ℕ) → holds p.condition e ≡ true → Meets (at_place p.near e) ms m n → Meets e ms (suc m) (suc (suc n))
    meets-near m n h next = record {
      run = λ ws. (near-first h).run m ws ∙ next.run ws ∙ sym (near-then.run n ws) ∙ sym ((near-over h).run (suc n) ws);
      access = (near-first h).access m ∙ next.access ∙ sym (near-then.access n) ∙ sym ((near-over h).access (suc n));
      stood = λ s k.
          let one = (near-first h).stood s m in
          let two = (near-over h).stood s (suc n) in
          let three = near-then.stood s n in
          let none = apart-here s (suc e.place) k g in
          let rest = next.stood s k in
          omega arith;
    }

    far-over : holds p.condition e ≡ false → GoesFirst code e between ms
    far-over h = goes-first code e between ms (ap (λ o. step_at o e ms) p.branch ∙ passed p.condition p.near e ms h)

    far-then : GoesFirst code between (at_place p.far e) ms
    far-then = goes-first code between (at_place p.far e) ms (ap (λ o. step_at o between ms) p.jump ∙ taken Always p.far between ms refl)

    far-first : holds p.condition e ≡ false → GoesFirst draft e (at_place p.far e) ms
    far-first h = goes-first draft e (at_place p.far e) ms (ap (λ o. step_at o e ms) p.branch' ∙ taken (opposite p.condition) p.far e ms (opposite-holds p.condition e false p.tests h))

    -- the first code has only come to the jump
    meets-over : holds p.condition e ≡ false → Meets e ms 1 0
    meets-over h = record {
      run = λ ws. (far-over h).run 0 ws;
      access = (far-over h).access 0 ∙ ap (λ o. access o between) p.jump ∙ sym (ap (λ o. access o e) p.branch');
      stood = λ s k.
          let one = (far-over h).stood s 0 in
          let none = apart-here s (suc e.place) k g in
          omega arith;
    }

    -- the branch is taken in the second code, and not in the first
    meets-far : (m n : ℕ) → holds p.condition e ≡ false → Meets (at_place p.far e) ms m n → Meets e ms (suc (suc m)) (suc n)
    meets-far m n h next = record {
      run = λ ws. (far-over h).run (suc m) ws ∙ far-then.run m ws ∙ next.run ws ∙ sym ((far-first h).run n ws);
      access = (far-over h).access (suc m) ∙ far-then.access m ∙ next.access ∙ sym ((far-first h).access n);
      stood = λ s k.
          let one = (far-over h).stood s (suc m) in
          let two = far-then.stood s m in
          let three = (far-first h).stood s n in
          let none = apart-here s (suc e.place) k g in
          let rest = next.stood s k in
          omega arith;
    }

    near-kept : is_gone gone p.near ≡ false
    near-kept = r.apart p.near (e.place, Br p.condition p.near, p.branch, refl)

    far-kept : is_gone gone p.far ≡ false
    far-kept = r.apart p.far (suc e.place, Br Always p.far, p.jump, refl)

  -- ---- at other places

  same-run : (m n : ℕ) (st : Stepped) (e1 : Engine) (q : Memories) → Meets e1 q m n → (ws : List WriteEvent) → continue_run (run code m) st e1 q ws ≡ continue_run (run draft n) st e1 q ws
  same-run m n Went e1 q h ws = h.run ws
  same-run m n (Wrote w) e1 q h ws = h.run (ws ++ w ∷ [])
  same-run m n (Halted j w) e1 q h ws = refl
  same-run m n (Fault j at) e1 q h ws = refl

  same-count : (m n s : ℕ) (st : Stepped) (e1 : Engine) (q : Memories) → Meets e1 q m n → is_gone gone s ≡ false → continue_count (stood code s m) st e1 q ≡ continue_count (stood draft s n) st e1 q
  same-count m n s Went e1 q h k = h.stood s k
  same-count m n s (Wrote w) e1 q h k = h.stood s k
  same-count m n s (Halted j w) e1 q h k = refl
  same-count m n s (Fault j at) e1 q h k = refl

  meets-on : (m n : ℕ) (e : Engine) (ms : Memories) → is_gone gone e.place ≡ false → is_gone gone (suc e.place) ≡ false → Meets (step code e ms).engine (step code e ms).packet m n → Meets e ms (suc m) (suc n)
  meets-on m n e ms k k' h =
      let steps : step code e ms ≡ step draft e ms = ap (λ o. step_at o e ms) (sym (r.same e.place k k')) in
      record {
        run = λ ws. same-run m n (step code e ms).stepped (step code e ms).engine (step code e ms).packet h ws ∙ ap (λ (x : Next). continue_run (run draft n) x.stepped x.engine x.packet ws) steps;
        access = h.access ∙ ap (λ (x : Next). access_at draft n x.engine x.packet) steps;
        stood = λ s at.
            ap (λ c. here s e.place + c) (same-count m n s (step code e ms).stepped (step code e ms).engine (step code e ms).packet h at)
            ∙ ap (λ (x : Next). here s e.place + continue_count (stood draft s n) x.stepped x.engine x.packet) steps;
      }

  next-kept : (e : Engine) (ms : Memories) → is_gone gone e.place ≡ false → is_gone gone (suc e.place) ≡ false → is_gone gone (step code e ms).engine.place ≡ false
  next-kept e ms k k' = by (slice_get code e.place) refl
    where
      onto : (i : Instr) (y : ℕ) → slice_get code e.place ≡ Some i → (y ≡ e.place + 1) ⊎ (GoesTo i y × ¬ IsStraight i) → is_gone gone y ≡ false
      onto i y at (inl e1) = let one : e.place + 1 ≡ suc e.place = omega arith in ap (is_gone gone) (e1 ∙ one) ∙ k'
      onto i y at (inr goes) = r.apart y (e.place, i, at, goes.0)

      by : (o : Option Instr) → slice_get code e.place ≡ o → is_gone gone (step code e ms).engine.place ≡ false
      by None at = ap (λ o. is_gone gone (step_at o e ms).engine.place) at ∙ k
      by (Some i) at =
          ap (λ o. is_gone gone (step_at o e ms).engine.place) at
          ∙ ⊎_elim
          (λ (ended : EndsRun (effect i e ms).stepped × ((effect i e ms).engine ≡ e) × ((effect i e ms).packet ≡ ms)). ap (λ (x : Engine). is_gone gone x.place) ended.1 ∙ k)
          (λ (goes : (¬ EndsRun (effect i e ms).stepped) × IsNext i e.place (effect i e ms).engine.place). onto i (effect i e ms).engine.place at (next-cases i e.place (effect i e ms).engine.place goes.1))
          (goes-on i e ms)

  -- ---- all steps

  abbrev Through : ℕ → Type 0
  Through m = (e : Engine) (ms : Memories) → is_gone gone e.place ≡ false → (n : ℕ) × Meets e ms m n

  abbrev Earlier : ℕ → Type 0
  Earlier zero = ⊤
  Earlier (suc m) = Through m

  bool-cases : (b : Bool) → (b ≡ true) ⊎ (b ≡ false)
  bool-cases true = inl refl
  bool-cases false = inr refl

  at-far : (m : ℕ) → Earlier m → (e : Engine) (ms : Memories) (g : is_gone gone (suc e.place) ≡ true) → holds (r.pair e.place g).condition e ≡ false → (n : ℕ) × Meets e ms (suc m) n
  at-far zero earlier e ms g h = (0, meets-over e ms g h)
  at-far (suc m) earlier e ms g h = let rest = earlier (at_place (r.pair e.place g).far e) ms (far-kept e ms g) in (suc rest.0, meets-far e ms g m rest.0 h rest.1)

  one-more : (m : ℕ) → Through m → Earlier m → Through (suc m)
  one-more m now earlier e ms k = ⊎_elim
      (λ (g : is_gone gone (suc e.place) ≡ true). ⊎_elim
      (λ (h : holds (r.pair e.place g).condition e ≡ true). let rest = now (at_place (r.pair e.place g).near e) ms (near-kept e ms g) in (suc (suc rest.0), meets-near e ms g m rest.0 h rest.1))
      (λ (h : holds (r.pair e.place g).condition e ≡ false). at-far m earlier e ms g h)
      (bool-cases (holds (r.pair e.place g).condition e)))
      (λ (k' : is_gone gone (suc e.place) ≡ false).
      let rest = now (step code e ms).engine (step code e ms).packet (next-kept e ms k k') in
      (suc rest.0, meets-on m rest.0 e ms k k' rest.1))
      (gone-cases gone (suc e.place))

  both : (m : ℕ) → Through m × Earlier m
  both zero = (λ e ms k. (0, meets-none e ms k), tt)
  both (suc m) = let h = both m in (one-more m h.0 h.1, h.0)

  -- after each number of steps of the first code there is a number of the second after which the same is seen
  pub through : (m : ℕ) (e : Engine) (ms : Memories) → is_gone gone e.place ≡ false → (n : ℕ) × Meets e ms m n
  through m e ms k = (both m).0 e ms k
