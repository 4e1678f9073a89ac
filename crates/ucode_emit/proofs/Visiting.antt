-- Steps that lead to none of some places, and how often a run stood at each of them.
use Rattle.std.proofs.Common.{◌≡◌, ◌≢◌, ℕ, zero, suc, ◌+◌, ◌-◌, ◌<◌, ◌≤◌, List, [], ◌∷◌, ◌++◌, length, refl, sym, ap, ◌∙◌, subst, ⊎_elim, arith}
use Rattle.std.proofs.lemmas.Bool.{cases_lt}
use Rattle.std.specs.Prelude.{slice_index}
use Rattle.nv_base.specs.declared.outcome.Outcome.{Outcome}
use Rattle.nv_base.specs.declared.outcome.Outcome.TheVariants as outcome
use Rattle.nv_base.specs.declared.outcome.Write.{Write as WriteEvent}
use Rattle.nv_base.specs.Memories.{Memories}
use Rattle.nv_base.specs.Meanings.{FullOutcome, IsOver}
use Rattle.uc_isa.specs.declared.instruction.Instr.{Instr}
use Rattle.uc_isa.specs.declared.engine.Engine.{Engine}
use Rattle.uc_isa.specs.declared.engine.Stepped.{Stepped}
use Rattle.uc_isa.specs.declared.engine.Stepped.TheVariants.{Went, Wrote, Halted, Fault}
use Rattle.uc_isa.specs.Step.{Next, EndsRun, step}
use Rattle.uc_isa.specs.Engine.{run, continue_run, halted, after}
use Rattle.uc_isa.specs.Pieces.{Moment, Leads}
use Rattle.uc_isa.proofs.Leading.{leads-reached}
use Rattle.uc_isa.specs.Visits.{here, continue_count, stood}
use Rattle.uc_isa.proofs.Counting.{here-not}
use Rattle.ucode_emit.specs.inner.Machine.{Over}

-- ---- one run of steps after another

after_both : (code : List Instr) (n m : ℕ) (e : Engine) (p : Memories) → after code (n + m) e p ≡ after code m (after code n e p).engine (after code n e p).packet
after_both code zero m e p = let z : 0 + m ≡ m = omega arith in ap (λ k. after code k e p) z
after_both code (suc n) m e p =
    let z : suc n + m ≡ suc (n + m) = omega arith in
    ap (λ k. after code k e p) z ∙ after_both code n m (step code e p).engine (step code e p).packet

pub after_leads : (code : List Instr) (base n m : ℕ) (a b : Moment) → Leads code base n a b → after code (n + m) a.engine a.packet ≡ after code m b.engine b.packet
after_leads code base n m a b l = after_both code n m a.engine a.packet ∙ ap (λ (t : Next). after code m t.engine t.packet) l.state

-- ---- steps that lead to none of some places

-- the place is none of these
abbrev pub IsOff : List ℕ → ℕ → Type 0
IsOff places x = (k : ℕ) → k < length places → slice_index places k ≢ x

-- none of n steps leads to one of these places
abbrev pub StaysOff : List ℕ → List Instr → ℕ → Moment → Type 0
StaysOff places code n a = (j : ℕ) → j < n → IsOff places (after code (suc j) a.engine a.packet).engine.place

pub off_none : (places : List ℕ) (code : List Instr) (a : Moment) → StaysOff places code 0 a
off_none places code a j lt = absurd (omega arith)

pub off_one : (places : List ℕ) (code : List Instr) (base : ℕ) (a b : Moment) → Leads code base 1 a b → IsOff places b.engine.place → StaysOff places code 1 a
off_one places code base a b l off zero lt = subst (λ (t : Next). IsOff places t.engine.place) (sym l.state) off
off_one places code base a b l off (suc j) lt = absurd (omega arith)

pub off_both : (places : List ℕ) (code : List Instr) (base n m : ℕ) (a b : Moment) → Leads code base n a b → StaysOff places code n a → StaysOff places code m b → StaysOff places code (n + m) a
off_both places code base n m a b l first second j lt =
    ⊎_elim
    (λ (low : j < n). first j low)
    (λ (high : n ≤ j).
    let all : n + suc (j - n) ≡ suc j = omega (arith, high) in
    subst (λ i. IsOff places (after code i a.engine a.packet).engine.place) all
    (subst (λ (t : Next). IsOff places t.engine.place) (sym (after_leads code base n (suc (j - n)) a b l)) (second (j - n) (omega (arith, lt, high)))))
    (cases_lt j n)

pub off_fewer : (places : List ℕ) (code : List Instr) (n m : ℕ) (a : Moment) → m ≤ n → StaysOff places code n a → StaysOff places code m a
off_fewer places code n m a le off j lt = off j (omega (arith, le, lt))

-- ---- steps after which the run goes on

-- none of the first n steps ends the run
abbrev GoesOn : List Instr → ℕ → Engine → Memories → Type 0
GoesOn code n e p = (j : ℕ) → j < n → ¬ EndsRun (step code (after code j e p).engine (after code j e p).packet).stepped

over_halted : (k : ℕ) (ws : List ℕ) → IsOver (halted k ws)
over_halted zero ws = tt
over_halted (suc k) ws = tt

over_going : (o : Outcome) → IsOver o → o ≢ outcome.Going
over_going o h e = subst IsOver e h

goes_next : (code : List Instr) (n : ℕ) (e : Engine) (p : Memories) → ¬ EndsRun (step code e p).stepped → GoesOn code n (step code e p).engine (step code e p).packet → GoesOn code (suc n) e p
goes_next code n e p first rest zero lt = first
goes_next code n e p first rest (suc j) lt = rest j (omega (arith, lt))

goes_by : (code : List Instr) (n : ℕ) (e : Engine) (p : Memories) (ws : List WriteEvent) (t : Stepped) → (step code e p).stepped ≡ t
    → ((us : List WriteEvent) → (run code n (step code e p).engine (step code e p).packet us).outcome ≡ outcome.Going → GoesOn code n (step code e p).engine (step code e p).packet)
    → (continue_run (run code n) t (step code e p).engine (step code e p).packet ws).outcome ≡ outcome.Going → GoesOn code (suc n) e p
goes_by code n e p ws Went s rest h = goes_next code n e p (λ over. subst EndsRun s over) (rest ws h)
goes_by code n e p ws (Wrote w) s rest h = goes_next code n e p (λ over. subst EndsRun s over) (rest (ws ++ w ∷ []) h)
goes_by code n e p ws (Halted k words) s rest h = absurd (over_going (halted k words) (over_halted k words) h)
goes_by code n e p ws (Fault m at) s rest h = absurd (over_going (outcome.Fault m at) tt h)

goes_on : (code : List Instr) (n : ℕ) (e : Engine) (p : Memories) (ws : List WriteEvent) → (run code n e p ws).outcome ≡ outcome.Going → GoesOn code n e p
goes_on code zero e p ws h = λ j lt. absurd (omega arith)
goes_on code (suc n) e p ws h = goes_by code n e p ws (step code e p).stepped refl (λ us. goes_on code n (step code e p).engine (step code e p).packet us) h

leads_go : (code : List Instr) (base n : ℕ) (a b : Moment) → Leads code base n a b → GoesOn code n a.engine a.packet
leads_go code base n a b l = goes_on code n a.engine a.packet a.writes (ap (λ (f : FullOutcome). f.outcome) (leads-reached code base n a b l))

-- ---- visits

count_on : (go : Engine → Memories → ℕ) (t : Stepped) (e : Engine) (p : Memories) → ¬ EndsRun t → continue_count go t e p ≡ go e p
count_on go Went e p h = refl
count_on go (Wrote w) e p h = refl
count_on go (Halted k ws) e p h = absurd (h tt)
count_on go (Fault m at) e p h = absurd (h tt)

count_over : (go : Engine → Memories → ℕ) (t : Stepped) (e : Engine) (p : Memories) → EndsRun t → continue_count go t e p ≡ 0
count_over go Went e p h = absurd h
count_over go (Wrote w) e p h = absurd h
count_over go (Halted k ws) e p h = refl
count_over go (Fault m at) e p h = refl

-- n steps that don't lead there, and m more
stood_past : (code : List Instr) (s n m : ℕ) (e : Engine) (p : Memories) → GoesOn code n e p → ((j : ℕ) → j < n → s ≢ (after code (suc j) e p).engine.place)
    → stood code s (n + m) e p + here s (after code n e p).engine.place ≡ here s e.place + stood code s m (after code n e p).engine (after code n e p).packet
stood_past code s zero m e p goes off =
    let z : 0 + m ≡ m = omega arith in
    let same : stood code s (0 + m) e p ≡ stood code s m e p = ap (λ i. stood code s i e p) z in
    omega (arith, same)
stood_past code s (suc n) m e p goes off =
    let e1 : Engine = (step code e p).engine in
    let p1 : Memories = (step code e p).packet in
    let z : suc n + m ≡ suc (n + m) = omega arith in
    let rest : stood code s (n + m) e1 p1 + here s (after code n e1 p1).engine.place ≡ here s e1.place + stood code s m (after code n e1 p1).engine (after code n e1 p1).packet =
    stood_past code s n m e1 p1 (λ j lt. goes (suc j) (omega (arith, lt))) (λ j lt. off (suc j) (omega (arith, lt))) in
    let away : here s e1.place ≡ 0 = here-not s e1.place (λ same. off 0 (omega arith) (sym same)) in
    let first : stood code s (suc n + m) e p ≡ here s e.place + stood code s (n + m) e1 p1 =
    ap (λ i. stood code s i e p) z ∙ ap (λ c. here s e.place + c) (count_on (stood code s (n + m)) (step code e p).stepped e1 p1 (goes 0 (omega arith))) in
    omega (arith, rest, away, first)

-- the same between moments
stood_leads : (places : List ℕ) (code : List Instr) (base n m k : ℕ) (a b : Moment) → Leads code base n a b → StaysOff places code n a → k < length places
    → let s = slice_index places k in stood code s (n + m) a.engine a.packet + here s b.engine.place ≡ here s a.engine.place + stood code s m b.engine b.packet
stood_leads places code base n m k a b l off lt =
    let s = slice_index places k in
    subst (λ (t : Next). stood code s (n + m) a.engine a.packet + here s t.engine.place ≡ here s a.engine.place + stood code s m t.engine t.packet) l.state
    (stood_past code s n m a.engine a.packet (leads_go code base n a b l) (λ j le. off j le k lt))

-- within such steps
pub stood_within : (places : List ℕ) (code : List Instr) (base n m k : ℕ) (a b : Moment) → Leads code base n a b → StaysOff places code n a → k < length places → m ≤ n
    → stood code (slice_index places k) m a.engine a.packet ≡ here (slice_index places k) a.engine.place
stood_within places code base n m k a b l off lt le =
    let s = slice_index places k in
    let goes = leads_go code base n a b l in
    let past = stood_past code s m 0 a.engine a.packet (λ j low. goes j (omega (arith, low, le))) (λ j low. off j (omega (arith, low, le)) k lt) in
    let z : m + 0 ≡ m = omega arith in
    let same : stood code s (m + 0) a.engine a.packet ≡ stood code s m a.engine a.packet = ap (λ i. stood code s i a.engine a.packet) z in
    omega (arith, past, same)

-- behind such steps and one more
pub stood_behind : (places : List ℕ) (code : List Instr) (base n m k : ℕ) (a b c : Moment) → Leads code base n a b → StaysOff places code n a → Leads code base 1 b c → k < length places
    → stood code (slice_index places k) (n + suc m) a.engine a.packet ≡ here (slice_index places k) a.engine.place + stood code (slice_index places k) m c.engine c.packet
stood_behind places code base n m k a b c l off one lt =
    let s = slice_index places k in
    let past = stood_leads places code base n (suc m) k a b l off lt in
    let goes = count_on (stood code s m) (step code b.engine b.packet).stepped (step code b.engine b.packet).engine (step code b.engine b.packet).packet (leads_go code base 1 b c one 0 (omega arith)) in
    let same : stood code s m (step code b.engine b.packet).engine (step code b.engine b.packet).packet ≡ stood code s m c.engine c.packet = ap (λ (t : Next). stood code s m t.engine t.packet) one.state in
    omega (arith, past, goes, same)

-- a step that is over ends the run
ends_by : (code : List Instr) (t : Stepped) (e : Engine) (p : Memories) (ws : List WriteEvent) → IsOver (continue_run (run code 0) t e p ws).outcome → EndsRun t
ends_by code Went e p ws h = h
ends_by code (Wrote w) e p ws h = h
ends_by code (Halted k words) e p ws h = tt
ends_by code (Fault m at) e p ws h = tt

over_ends : (code : List Instr) (base : ℕ) (b : Moment) (f : FullOutcome) → Over code base 1 b f → IsOver f.outcome → EndsRun (step code b.engine b.packet).stepped
over_ends code base b f o h =
    let z : 1 + 0 ≡ 1 = omega arith in
    let ran : run code 1 b.engine b.packet b.writes ≡ o.last = ap (λ i. run code i b.engine b.packet b.writes) (sym z) ∙ o.ends.since 0 in
    let same : (run code 1 b.engine b.packet b.writes).outcome ≡ f.outcome = ap (λ (g : FullOutcome). g.outcome) ran ∙ ap (λ (g : FullOutcome). g.outcome) o.alike in
    ends_by code (step code b.engine b.packet).stepped (step code b.engine b.packet).engine (step code b.engine b.packet).packet b.writes (subst IsOver (sym same) h)

-- and where the run ends after them
pub stood_over : (places : List ℕ) (code : List Instr) (base n m k : ℕ) (a b : Moment) (f : FullOutcome) → Leads code base n a b → StaysOff places code n a → Over code base 1 b f → IsOver f.outcome → k < length places
    → stood code (slice_index places k) m a.engine a.packet ≡ here (slice_index places k) a.engine.place
stood_over places code base n m k a b f l off o over lt =
    let s = slice_index places k in
    ⊎_elim
    (λ (high : n < m).
    let j : ℕ = m - suc n in
    let all : n + suc j ≡ m = omega (arith, high) in
    let past = stood_leads places code base n (suc j) k a b l off lt in
    let none = count_over (stood code s j) (step code b.engine b.packet).stepped (step code b.engine b.packet).engine (step code b.engine b.packet).packet (over_ends code base b f o over) in
    let same : stood code s (n + suc j) a.engine a.packet ≡ stood code s m a.engine a.packet = ap (λ i. stood code s i a.engine a.packet) all in
    omega (arith, past, none, same))
    (λ (low : m ≤ n). stood_within places code base n m k a b l off lt low)
    (cases_lt n m)
