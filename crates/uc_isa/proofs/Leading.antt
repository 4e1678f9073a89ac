-- Runs through pieces of code.
use Rattle.std.proofs.Common.{◌≡◌, ℕ, zero, suc, ◌+◌, ◌-◌, ◌<◌, List, [], ◌∷◌, ◌++◌, refl, ap, sym, ◌∙◌, subst, ◌⊎◌, inl, inr, ⊎_elim, arith, add_assoc, zero-add}
use Rattle.std.proofs.lemmas.Bool.{cases_lt}
use Rattle.nv_base.specs.declared.outcome.Write.{Write as WriteEvent}
use Rattle.nv_base.specs.Memories.{Memories, HasSizes}
use Rattle.nv_base.specs.Meanings.{FullOutcome}
use Rattle.uc_isa.specs.Engine.{IsEngine, run, continue_run, after}
use Rattle.uc_isa.specs.Lawful.{IsLawful}
use Rattle.uc_isa.specs.Pieces.{Moment, Leads, EndsIn, IsCovered, KeepsAt, KeepsAfter, run_from}
use Rattle.uc_isa.specs.Step.{Next, EndsRun, step}
use Rattle.uc_isa.specs.Straight.{went, going}
use Rattle.uc_isa.specs.declared.instruction.Instr.{Instr}
use Rattle.uc_isa.specs.declared.engine.Engine.{Engine}
use Rattle.uc_isa.specs.declared.engine.Stepped.{Stepped}
use Rattle.uc_isa.specs.declared.engine.Stepped.TheVariants.{Went, Wrote}
use Rattle.uc_isa.proofs.States.{step-states}
use Rattle.uc_isa.proofs.Steps.{after-rests}

-- one step, and the others after it
run-next : (code : List Instr) (m : ℕ) (a : Moment) (n : Next) → step code a.engine a.packet ≡ n → run_from code (1 + m) a ≡ continue_run (run code m) n.stepped n.engine n.packet a.writes
run-next code m a n h =
    let more : 1 + m ≡ suc m = omega arith in
    ap (λ k. run_from code k a) more ∙ ap (λ (t : Next). continue_run (run code m) t.stepped t.engine t.packet a.writes) h

first-keeps : (code : List Instr) (base : ℕ) (a : Moment) → KeepsAt code base a.engine → (k : ℕ) → k < 1 → KeepsAfter code base k a
first-keeps code base a h zero lt = h
first-keeps code base a h (suc k) lt = absurd (omega arith)

-- a step after which the run goes on
pub leads-one : (code : List Instr) (base : ℕ) (a b : Moment) (s : Stepped) → step code a.engine a.packet ≡ record { stepped = s; engine = b.engine; packet = b.packet }
    → ((m : ℕ) → continue_run (run code m) s b.engine b.packet a.writes ≡ run_from code m b) → KeepsAt code base a.engine → Leads code base 1 a b
leads-one code base a b s h go keeps = record {
  runs = λ m. run-next code m a (record { stepped = s; engine = b.engine; packet = b.packet }) h ∙ go m;
  state = ap (λ (t : Next). went t.engine t.packet) h;
  keeps = λ k lt. first-keeps code base a keeps k lt;
}

pub leads-went : (code : List Instr) (base : ℕ) (a : Moment) (e : Engine) (p : Memories) → step code a.engine a.packet ≡ went e p → KeepsAt code base a.engine
    → Leads code base 1 a (record { engine = e; packet = p; writes = a.writes })
leads-went code base a e p h keeps = leads-one code base a (record { engine = e; packet = p; writes = a.writes }) Went h (λ m. refl) keeps

pub leads-wrote : (code : List Instr) (base : ℕ) (a : Moment) (w : WriteEvent) (e : Engine) (p : Memories) → step code a.engine a.packet ≡ record { stepped = Wrote w; engine = e; packet = p } → KeepsAt code base a.engine
    → Leads code base 1 a (record { engine = e; packet = p; writes = a.writes ++ w ∷ [] })
leads-wrote code base a w e p h keeps = leads-one code base a (record { engine = e; packet = p; writes = a.writes ++ w ∷ [] }) (Wrote w) h (λ m. refl) keeps

pub leads-none : (code : List Instr) (base : ℕ) (a : Moment) → Leads code base 0 a a
leads-none code base a = record {
  runs = λ m. ap (λ k. run_from code k a) (zero-add m);
  state = refl;
  keeps = λ k lt. absurd (omega arith);
}

-- one piece after another
after-add : (code : List Instr) (n m : ℕ) (e : Engine) (p : Memories) → after code (n + m) e p ≡ after code m (after code n e p).engine (after code n e p).packet
after-add code zero m e p = ap (λ k. after code k e p) (zero-add m)
after-add code (suc n) m e p =
    let more : suc n + m ≡ suc (n + m) = omega arith in
    ap (λ k. after code k e p) more ∙ after-add code n m (step code e p).engine (step code e p).packet

after-later : (code : List Instr) (n m : ℕ) (a b : Moment) → after code n a.engine a.packet ≡ went b.engine b.packet → after code (n + m) a.engine a.packet ≡ after code m b.engine b.packet
after-later code n m a b h = after-add code n m a.engine a.packet ∙ ap (λ (t : Next). after code m t.engine t.packet) h

later-keeps : (code : List Instr) (base n m : ℕ) (a b : Moment) → after code n a.engine a.packet ≡ went b.engine b.packet → KeepsAfter code base m b → KeepsAfter code base (n + m) a
later-keeps code base n m a b h keeps = subst (λ (t : Next). KeepsAt code base t.engine) (sym (after-later code n m a b h)) keeps

-- inside the first piece, or N steps after it
joined-keeps : (code : List Instr) (base n k : ℕ) (a b : Moment) → Leads code base n a b → ((m : ℕ) → n + m ≡ k → KeepsAfter code base m b) → KeepsAfter code base k a
joined-keeps code base n k a b x later =
    ⊎_elim
    (λ lt. x.keeps k lt)
    (λ le. let all : n + (k - n) ≡ k = omega arith in subst (λ j. KeepsAfter code base j a) all (later-keeps code base n (k - n) a b x.state (later (k - n) all)))
    (cases_lt k n)

pub leads-then : (code : List Instr) (base n m : ℕ) (a b c : Moment) → Leads code base n a b → Leads code base m b c → Leads code base (n + m) a c
leads-then code base n m a b c x y = record {
  runs = λ k. ap (λ t. run_from code t a) (add_assoc n m k) ∙ x.runs (m + k) ∙ y.runs k;
  state = after-later code n m a b x.state ∙ y.state;
  keeps = λ k lt. joined-keeps code base n k a b x (λ j e. y.keeps j (omega arith));
}

pub leads-end : (code : List Instr) (base n m : ℕ) (a b : Moment) (f : FullOutcome) → Leads code base n a b → EndsIn code base m b f → EndsIn code base (n + m) a f
leads-end code base n m a b f x y = record {
  since = λ k. ap (λ t. run_from code t a) (add_assoc n m k) ∙ x.runs (m + k) ∙ y.since k;
  keeps = λ k. joined-keeps code base n k a b x (λ j e. y.keeps j);
}

-- a step with which the run ends
pub ends-one : (code : List Instr) (base : ℕ) (a : Moment) (s : Stepped) (f : FullOutcome) → step code a.engine a.packet ≡ record { stepped = s; engine = a.engine; packet = a.packet }
    → EndsRun s → ((m : ℕ) → continue_run (run code m) s a.engine a.packet a.writes ≡ f) → KeepsAt code base a.engine → EndsIn code base 1 a f
ends-one code base a s f h over go keeps = record {
  since = λ m. run-next code m a (record { stepped = s; engine = a.engine; packet = a.packet }) h ∙ go m;
  keeps = λ m.
      let rests : EndsRun (step code a.engine a.packet).stepped = subst (λ (t : Next). EndsRun t.stepped) (sym h) over in
      subst (λ e. KeepsAt code base e) (sym (after-rests code m a.engine a.packet rests)) keeps;
}

-- what a piece has come to
pub leads-reached : (code : List Instr) (base n : ℕ) (a b : Moment) → Leads code base n a b → run_from code n a ≡ going b.packet b.writes
leads-reached code base n a b x = let all : n ≡ n + 0 = omega arith in ap (λ k. run_from code k a) all ∙ x.runs 0

-- all accesses keep to the code's own words
pub covered-keeps : (code : List Instr) (base : ℕ) (a : Moment) (m : ℕ) → IsCovered code base a m ⊎ ((n : ℕ) × (f : FullOutcome) × EndsIn code base n a f) → KeepsAfter code base m a
covered-keeps code base a m (inl c) = c.leads.keeps m c.inside
covered-keeps code base a m (inr e) = e.2.keeps m

-- states stay ones that can be
after-states : (code : List Instr) (n : ℕ) (e : Engine) (p : Memories) → IsLawful code → IsEngine e → HasSizes p → IsEngine (after code n e p).engine × HasSizes (after code n e p).packet
after-states code zero e p lawful h s = (h, s)
after-states code (suc n) e p lawful h s =
    let next = step-states code e p lawful h s in
    after-states code n (step code e p).engine (step code e p).packet lawful next.0 next.1

pub leads-states : (code : List Instr) (base n : ℕ) (a b : Moment) → IsLawful code → IsEngine a.engine → HasSizes a.packet → Leads code base n a b → IsEngine b.engine × HasSizes b.packet
leads-states code base n a b lawful h s x = subst (λ (t : Next). IsEngine t.engine × HasSizes t.packet) x.state (after-states code n a.engine a.packet lawful h s)
