-- Code without the places that are gone does the same in fewer steps.
use Rattle.std.proofs.Common.{◌≡◌, ℕ, zero, suc, ◌+◌, ◌<◌, ◌≤◌, ◌⊎◌, inl, inr, ⊎_elim, Bool, true, false, List, [], ◌∷◌, ◌++◌, length, get_or, Some, None, if◌then◌else◌, refl, sym, ap, ◌∙◌, subst, arith, lt-ltb, le-ltb}
use Rattle.std.specs.Prelude.{slice_get, nat_lt}
use Rattle.std.proofs.lemmas.Bool.{cases_lt}
use Rattle.std.proofs.lemmas.Option.{slice_get-get_or, slice_get_within}
use Rattle.nv_base.specs.Memories.{Memories}
use Rattle.nv_base.specs.declared.outcome.Write.{Write as WriteEvent}
use Rattle.uc_isa.proofs.Steps.{after-rests}
use Rattle.uc_isa.specs.Engine.{after, continue_run, run}
use Rattle.uc_isa.specs.Step.{EndsRun, Next, effect, step, step_at}
use Rattle.uc_isa.specs.declared.engine.Engine.{Engine}
use Rattle.uc_isa.specs.declared.engine.Stepped.{Stepped}
use Rattle.uc_isa.specs.declared.engine.Stepped.TheVariants.{Fault, Halted, Went, Wrote}
use Rattle.uc_isa.specs.declared.instruction.Instr.{Instr}
use Rattle.uc_isa.specs.declared.instruction.Instr.TheVariants.{Halt}
use Rattle.uc_peep.proofs.Counts.{gone-next, kept-at, kept-between, kept-next, kept-zero}
use Rattle.uc_peep.proofs.Replaced.{gone-cases}
use Rattle.uc_peep.specs.Kept.{compacted, is_gone, kept_before}
use Rattle.uc_peep.specs.Window.{filler}
use Rattle.uc_isa.proofs.Counting.{here-at, here-not, stood-more}
use Rattle.uc_isa.proofs.Effects.{goes-on}
use Rattle.uc_isa.proofs.Programs.{next-inside}
use Rattle.uc_isa.proofs.Relocation.{does-moved}
use Rattle.uc_isa.specs.Program.{IsProgram}
use Rattle.uc_isa.specs.Relocated.{DoesMoved, at_place, moved, relocated}
use Rattle.uc_isa.specs.Resources.{IsNext}
use Rattle.uc_isa.specs.Visits.{access, access_at, continue_count, here, stood}

-- ---- stands that come late, and stands that are still to come

abbrev pub late : (ℕ → ℕ) → ℕ → ℕ → ℕ
late f x s = if nat_lt s x then here (f s) (f x) else 0

abbrev pub pending : (ℕ → ℕ) → ℕ → ℕ → ℕ
pending f x s = if nat_lt x s then here (f s) (f x) else 0

if-true : (b : Bool) (m n : ℕ) → b ≡ true → (if b then m else n) ≡ m
if-true b m n h = ap (λ (t : Bool). if t then m else n) h

if-false : (b : Bool) (m n : ℕ) → b ≡ false → (if b then m else n) ≡ n
if-false b m n h = ap (λ (t : Bool). if t then m else n) h

pub late-if : (f : ℕ → ℕ) (x s : ℕ) → s < x → late f x s ≡ here (f s) (f x)
late-if f x s h = if-true (nat_lt s x) (here (f s) (f x)) 0 (lt-ltb s x h)

pub late-not : (f : ℕ → ℕ) (x s : ℕ) → x ≤ s → late f x s ≡ 0
late-not f x s h = if-false (nat_lt s x) (here (f s) (f x)) 0 (le-ltb s x h)

pub pending-if : (f : ℕ → ℕ) (x s : ℕ) → x < s → pending f x s ≡ here (f s) (f x)
pending-if f x s h = if-true (nat_lt x s) (here (f s) (f x)) 0 (lt-ltb x s h)

pub pending-not : (f : ℕ → ℕ) (x s : ℕ) → s ≤ x → pending f x s ≡ 0
pending-not f x s h = if-false (nat_lt x s) (here (f s) (f x)) 0 (le-ltb x s h)

-- x is before s, or is s, or is after it
order : (x s : ℕ) → (x < s) ⊎ ((x ≡ s) ⊎ (s < x))
order x s = ⊎_elim (λ (h : x < s). inl h) (λ (h : s ≤ x). ⊎_elim (λ (g : s < x). inr (inr g)) (λ (g : x ≤ s). let e : x ≡ s = omega arith in inr (inl e)) (cases_lt s x)) (cases_lt x s)

split-here : (f : ℕ → ℕ) (x s : ℕ) → here s x + late f x s + pending f x s ≡ here (f s) (f x)
split-here f x s = by (order x s)
  where
    by : (x < s) ⊎ ((x ≡ s) ⊎ (s < x)) → here s x + late f x s + pending f x s ≡ here (f s) (f x)
    by (inl h) =
        let a = here-not s x (λ e. omega arith) in
        let b = late-not f x s (omega arith) in
        let d = pending-if f x s h in
        omega arith
    by (inr (inl e)) =
        let a = here-at s x e in
        let b = late-not f x s (omega arith) in
        let d = pending-not f x s (omega arith) in
        let g = here-at (f s) (f x) (ap f e) in
        omega arith
    by (inr (inr h)) =
        let a = here-not s x (λ e. omega arith) in
        let b = late-if f x s h in
        let d = pending-not f x s (omega arith) in
        omega arith

idle-late : (f : ℕ → ℕ) (x s : ℕ) → f (suc x) ≡ f x → here s x + late f x s ≡ late f (suc x) s
idle-late f x s same = by (order x s)
  where
    by : (x < s) ⊎ ((x ≡ s) ⊎ (s < x)) → here s x + late f x s ≡ late f (suc x) s
    by (inl h) =
        let a = here-not s x (λ e. omega arith) in
        let b = late-not f x s (omega arith) in
        let d = late-not f (suc x) s (omega arith) in
        omega arith
    by (inr (inl e)) =
        let a = here-at s x e in
        let b = late-not f x s (omega arith) in
        let d = late-if f (suc x) s (omega arith) in
        let g = here-at (f s) (f (suc x)) (same ∙ ap f e) in
        omega arith
    by (inr (inr h)) =
        let a = here-not s x (λ e. omega arith) in
        let b = late-if f x s h in
        let d = late-if f (suc x) s (omega arith) in
        let g = ap (here (f s)) same in
        omega arith

-- ---- the two runs

-- the second code is the first without what is gone: these places only lead on, and no branch that is kept leads behind such a start that only
-- gone places lie between
pub record IsCompaction (code code' : List Instr) (gone : List Bool) (starts : ℕ → Type 0) : Type 0 where
  pub size : length gone ≡ length code
  pub lawful : IsProgram code
  pub is_code : code' ≡ compacted (kept_before gone) gone code
  pub fillers : (x : ℕ) → is_gone gone x ≡ true → (slice_get code x ≡ Some (filler x)) × (suc x < length code)
  pub entry : (s x y : ℕ) (i : Instr) → starts s → slice_get code x ≡ Some i → is_gone gone x ≡ false → IsNext i x y → s < y → ¬ (kept_before gone y ≡ kept_before gone s)

module _ (code code' : List Instr) (gone : List Bool) (starts : ℕ → Type 0) (r : IsCompaction code code' gone starts) where
  abbrev to : ℕ → ℕ
  to x = kept_before gone x

  -- m steps of the first run from here, and n of the second
  pub record Meets (e : Engine) (ms : Memories) (m n : ℕ) : Type 0 where
    pub run : (ws : List WriteEvent) → run code m e ms ws ≡ run code' n (moved to e) ms ws
    pub engine : (after code' n (moved to e) ms).engine ≡ moved to (after code m e ms).engine
    pub stood : (s : ℕ) → starts s → stood code s m e ms + late to e.place s + pending to (after code m e ms).engine.place s ≡ stood code' (to s) n (moved to e) ms

  meets-none : (e : Engine) (ms : Memories) → Meets e ms 0 0
  meets-none e ms = record {
    run = λ ws. refl;
    engine = refl;
    stood = λ s start. split-here to e.place s;
  }

  idle-run : (m n : ℕ) (e e1 : Engine) (ms : Memories) → step code e ms ≡ record { stepped = Went; engine = e1; packet = ms } → moved to e1 ≡ moved to e → e1.place ≡ suc e.place → to (suc e.place) ≡ to e.place → Meets e1 ms m n → Meets e ms (suc m) n
  idle-run m n e e1 ms steps same at count h = record {
    run = λ ws. ap (λ x. continue_run (run code m) x.stepped x.engine x.packet ws) steps ∙ h.run ws ∙ ap (λ x. run code' n x ms ws) same;
    engine = ap (λ x. (after code' n x ms).engine) (sym same) ∙ h.engine ∙ sym (ap (λ x. moved to (after code m x.engine x.packet).engine) steps);
    stood = λ s start.
        let count1 : stood code s (suc m) e ms ≡ here s e.place + stood code s m e1 ms = ap (λ x. here s e.place + continue_count (stood code s m) x.stepped x.engine x.packet) steps in
        let end : pending to (after code (suc m) e ms).engine.place s ≡ pending to (after code m e1 ms).engine.place s = ap (λ x. pending to (after code m x.engine x.packet).engine.place s) steps in
        let whole = h.stood s start in
        let same' : stood code' (to s) n (moved to e1) ms ≡ stood code' (to s) n (moved to e) ms = ap (λ x. stood code' (to s) n x ms) same in
        let shift : here s e.place + late to e.place s ≡ late to (suc e.place) s = idle-late to e.place s count in
        let at' : late to e1.place s ≡ late to (suc e.place) s = ap (λ x. late to x s) at in
        omega arith;
  }

  -- a place that is gone takes a step of the first run alone
  meets-idle : (m n : ℕ) (e : Engine) (ms : Memories) → is_gone gone e.place ≡ true → Meets (at_place (suc e.place) e) ms m n → Meets e ms (suc m) n
  meets-idle m n e ms g h =
      let count : to (suc e.place) ≡ to e.place = gone-next gone e.place g in
      idle-run m n e (at_place (suc e.place) e) ms (ap (λ o. step_at o e ms) (r.fillers e.place g).0) (ap (λ x. at_place x e) count) refl count h

  kept-late : (s x : ℕ) → x < length code → is_gone gone x ≡ false → here s x + late to x s ≡ here (to s) (to x)
  kept-late s x inside k =
      let split = split-here to x s in
      let none : pending to x s ≡ 0 = ⊎_elim
      (λ (lt : x < s). pending-if to x s lt ∙ here-not (to s) (to x) (λ same. let less = kept-between gone x x s (omega arith) lt (let size = r.size in omega arith) k in omega arith))
      (λ (le : s ≤ x). pending-not to x s le) (cases_lt x s) in
      omega arith

  -- both at a kept place, and neither halts
  kept-by : (m n : ℕ) (i : Instr) (e : Engine) (ms : Memories) (st st' : Stepped) (e1 e1' : Engine) (c1 c1' : Memories) → st ≡ st' → c1 ≡ c1' → e1' ≡ moved to e1 → (¬ EndsRun st) → Meets e1 c1 m n → (ws : List WriteEvent)
      → continue_run (run code m) st e1 c1 ws ≡ continue_run (run code' n) st' e1' c1' ws
  kept-by m n i e ms Went st' e1 e1' c1 c1' a b d never h ws = h.run ws ∙ ap (λ x. run code' n x c1 ws) (sym d) ∙ ap (λ x. run code' n e1' x ws) b ∙ ap (λ t. continue_run (run code' n) t e1' c1' ws) a
  kept-by m n i e ms (Wrote w) st' e1 e1' c1 c1' a b d never h ws = h.run (ws ++ w ∷ []) ∙ ap (λ x. run code' n x c1 (ws ++ w ∷ [])) (sym d) ∙ ap (λ x. run code' n e1' x (ws ++ w ∷ [])) b ∙ ap (λ t. continue_run (run code' n) t e1' c1' ws) a
  kept-by m n i e ms (Halted j w) st' e1 e1' c1 c1' a b d never h ws = absurd (never tt)
  kept-by m n i e ms (Fault j at) st' e1 e1' c1 c1' a b d never h ws = absurd (never tt)

  count-by : (m n s : ℕ) (st st' : Stepped) (e1 e1' : Engine) (c1 c1' : Memories) → st ≡ st' → c1 ≡ c1' → e1' ≡ moved to e1 → (¬ EndsRun st)
      → (continue_count (stood code s m) st e1 c1 ≡ stood code s m e1 c1) × (continue_count (stood code' (to s) n) st' e1' c1' ≡ stood code' (to s) n (moved to e1) c1)
  count-by m n s Went st' e1 e1' c1 c1' a b d never = (refl, ap (λ t. continue_count (stood code' (to s) n) t e1' c1') (sym a) ∙ ap (λ x. stood code' (to s) n e1' x) (sym b) ∙ ap (λ x. stood code' (to s) n x c1) d)
  count-by m n s (Wrote w) st' e1 e1' c1 c1' a b d never = (refl, ap (λ t. continue_count (stood code' (to s) n) t e1' c1') (sym a) ∙ ap (λ x. stood code' (to s) n e1' x) (sym b) ∙ ap (λ x. stood code' (to s) n x c1) d)
  count-by m n s (Halted j w) st' e1 e1' c1 c1' a b d never = absurd (never tt)
  count-by m n s (Fault j at) st' e1 e1' c1 c1' a b d never = absurd (never tt)

  kept-inside : (x : ℕ) (i : Instr) → slice_get code x ≡ Some i → x < length code
  kept-inside x i at = slice_get_within code x i at

  moved-step : (i : Instr) (e : Engine) (ms : Memories) → slice_get code e.place ≡ Some i → is_gone gone e.place ≡ false → step code' (moved to e) ms ≡ effect (relocated to i) (moved to e) ms
  moved-step i e ms at k = ap (λ x. step_at (slice_get x (to e.place)) (moved to e) ms) r.is_code ∙ ap (λ o. step_at o (moved to e) ms) (kept-at to gone code e.place i r.size at k)

  pub does-kept : (i : Instr) (e : Engine) (ms : Memories) → slice_get code e.place ≡ Some i → is_gone gone e.place ≡ false → DoesMoved to i e ms
  does-kept i e ms at k =
      let next : to (suc e.place) ≡ suc (to e.place) = kept-next gone e.place (let size = r.size in let inside = kept-inside e.place i at in omega arith) k in
      let one : e.place + 1 ≡ suc e.place = omega arith in
      does-moved to i e ms (ap to one ∙ next ∙ (let two : suc (to e.place) ≡ to e.place + 1 = omega arith in two))

  meets-on : (m n : ℕ) (i : Instr) (e : Engine) (ms : Memories) → slice_get code e.place ≡ Some i → is_gone gone e.place ≡ false → (¬ EndsRun (effect i e ms).stepped) → IsNext i e.place (effect i e ms).engine.place
      → Meets (effect i e ms).engine (effect i e ms).packet m n → Meets e ms (suc m) (suc n)
  meets-on m n i e ms at k never next h =
      let d : DoesMoved to i e ms = does-kept i e ms at k in
      let steps : step code e ms ≡ effect i e ms = ap (λ o. step_at o e ms) at in
      let steps' : step code' (moved to e) ms ≡ effect (relocated to i) (moved to e) ms = moved-step i e ms at k in
      record {
        run = λ ws.
            ap (λ x. continue_run (run code m) x.stepped x.engine x.packet ws) steps
            ∙ kept-by m n i e ms _ _ _ _ _ _ d.stepped d.packet d.engine never h ws
            ∙ sym (ap (λ x. continue_run (run code' n) x.stepped x.engine x.packet ws) steps');
        engine =
            ap (λ x. (after code' n x.engine x.packet).engine) steps'
            ∙ ap (λ x. (after code' n x (effect (relocated to i) (moved to e) ms).packet).engine) d.engine
            ∙ ap (λ x. (after code' n (moved to (effect i e ms).engine) x).engine) (sym d.packet)
            ∙ h.engine
            ∙ sym (ap (λ x. moved to (after code m x.engine x.packet).engine) steps);
        stood = λ s start.
            let y : ℕ = (effect i e ms).engine.place in
            let counts = count-by m n s _ _ _ _ _ _ d.stepped d.packet d.engine never in
            let one : stood code s (suc m) e ms ≡ here s e.place + stood code s m (effect i e ms).engine (effect i e ms).packet = ap (λ x. here s e.place + continue_count (stood code s m) x.stepped x.engine x.packet) steps ∙ ap (λ x. here s e.place + x) counts.0 in
            let two : stood code' (to s) (suc n) (moved to e) ms ≡ here (to s) (to e.place) + stood code' (to s) n (moved to (effect i e ms).engine) (effect i e ms).packet = ap (λ x. here (to s) (to e.place) + continue_count (stood code' (to s) n) x.stepped x.engine x.packet) steps' ∙ ap (λ x. here (to s) (to e.place) + x) counts.1 in
            let end : pending to (after code (suc m) e ms).engine.place s ≡ pending to (after code m (effect i e ms).engine (effect i e ms).packet).engine.place s = ap (λ x. pending to (after code m x.engine x.packet).engine.place s) steps in
            let never-late : late to y s ≡ 0 = ⊎_elim
            (λ (lt : s < y). late-if to y s lt ∙ here-not (to s) (to y) (r.entry s e.place y i start at k next lt))
            (λ (le : y ≤ s). late-not to y s le) (cases_lt s y) in
            let first : here s e.place + late to e.place s ≡ here (to s) (to e.place) = kept-late s e.place (kept-inside e.place i at) k in
            let rest = h.stood s start in
            omega arith;
      }

  -- both end
  ended-by : (m n : ℕ) (st st' : Stepped) (e1 e1' : Engine) (c1 c1' : Memories) → st ≡ st' → c1 ≡ c1' → EndsRun st → (ws : List WriteEvent) → continue_run (run code m) st e1 c1 ws ≡ continue_run (run code' n) st' e1' c1' ws
  ended-by m n Went st' e1 e1' c1 c1' a b ends ws = absurd ends
  ended-by m n (Wrote w) st' e1 e1' c1 c1' a b ends ws = absurd ends
  ended-by m n (Halted j w) st' e1 e1' c1 c1' a b ends ws = ap (λ x. continue_run (run code' n) (Halted j w) e1' x ws) b ∙ ap (λ t. continue_run (run code' n) t e1' c1' ws) a
  ended-by m n (Fault j at) st' e1 e1' c1 c1' a b ends ws = ap (λ x. continue_run (run code' n) (Fault j at) e1' x ws) b ∙ ap (λ t. continue_run (run code' n) t e1' c1' ws) a

  ended-count : (go : Engine → Memories → ℕ) (st : Stepped) (e1 : Engine) (c1 : Memories) → EndsRun st → continue_count go st e1 c1 ≡ 0
  ended-count go Went e1 c1 ends = absurd ends
  ended-count go (Wrote w) e1 c1 ends = absurd ends
  ended-count go (Halted j w) e1 c1 ends = refl
  ended-count go (Fault j at) e1 c1 ends = refl

  ended-stays : (m : ℕ) (i : Instr) (e : Engine) (ms : Memories) → slice_get code e.place ≡ Some i → EndsRun (effect i e ms).stepped → (after code m e ms).engine ≡ e
  ended-stays m i e ms at ends = after-rests code m e ms (subst (λ (x : Next). EndsRun x.stepped) (sym (ap (λ o. step_at o e ms) at)) ends)

  meets-ended : (m n : ℕ) (i : Instr) (e : Engine) (ms : Memories) → slice_get code e.place ≡ Some i → is_gone gone e.place ≡ false → EndsRun (effect i e ms).stepped → Meets e ms (suc m) (suc n)
  meets-ended m n i e ms at k ends =
      let d : DoesMoved to i e ms = does-kept i e ms at k in
      let steps : step code e ms ≡ effect i e ms = ap (λ o. step_at o e ms) at in
      let steps' : step code' (moved to e) ms ≡ effect (relocated to i) (moved to e) ms = moved-step i e ms at k in
      let ends' : EndsRun (effect (relocated to i) (moved to e) ms).stepped = subst EndsRun d.stepped ends in
      record {
        run = λ ws.
            ap (λ x. continue_run (run code m) x.stepped x.engine x.packet ws) steps
            ∙ ended-by m n _ _ _ _ _ _ d.stepped d.packet ends ws
            ∙ sym (ap (λ x. continue_run (run code' n) x.stepped x.engine x.packet ws) steps');
        engine = after-rests code' (suc n) (moved to e) ms (subst (λ (x : Next). EndsRun x.stepped) (sym steps') ends') ∙ sym (ap (moved to) (ended-stays (suc m) i e ms at ends));
        stood = λ s start.
            let none = ended-count (stood code s m) (effect i e ms).stepped (effect i e ms).engine (effect i e ms).packet ends in
            let none' = ended-count (stood code' (to s) n) (effect (relocated to i) (moved to e) ms).stepped (effect (relocated to i) (moved to e) ms).engine (effect (relocated to i) (moved to e) ms).packet ends' in
            let one : stood code s (suc m) e ms ≡ here s e.place + 0 = ap (λ x. here s e.place + continue_count (stood code s m) x.stepped x.engine x.packet) steps ∙ ap (λ x. here s e.place + x) none in
            let two : stood code' (to s) (suc n) (moved to e) ms ≡ here (to s) (to e.place) + 0 = ap (λ x. here (to s) (to e.place) + continue_count (stood code' (to s) n) x.stepped x.engine x.packet) steps' ∙ ap (λ x. here (to s) (to e.place) + x) none' in
            let end : pending to (after code (suc m) e ms).engine.place s ≡ pending to e.place s = ap (λ x. pending to x.place s) (ended-stays (suc m) i e ms at ends) in
            let whole = split-here to e.place s in
            omega arith;
      }

  -- ---- any number of steps

  onto-inside : (x y : ℕ) (i : Instr) → slice_get code x ≡ Some i → IsNext i x y → y < length code
  onto-inside x y i at next = next-inside code x y i r.lawful at next

  at-place : (e : Engine) → e.place < length code → (i : Instr) × (slice_get code e.place ≡ Some i)
  at-place e inside = (get_or code e.place (Halt 0 0), slice_get-get_or code e.place (Halt 0 0) inside)

  pub there : (m : ℕ) (e : Engine) (ms : Memories) → e.place < length code → (n : ℕ) × Meets e ms m n
  there zero e ms inside = (0, meets-none e ms)
  there (suc m) e ms inside =
      ⊎_elim
      (λ (g : is_gone gone e.place ≡ true). let h = there m (at_place (suc e.place) e) ms (r.fillers e.place g).1 in (h.0, meets-idle m h.0 e ms g h.1))
      (λ (k : is_gone gone e.place ≡ false).
      let i = at-place e inside in
      ⊎_elim
      (λ (ended : EndsRun (effect i.0 e ms).stepped × ((effect i.0 e ms).engine ≡ e) × ((effect i.0 e ms).packet ≡ ms)). (1, meets-ended m 0 i.0 e ms i.1 k ended.0))
      (λ (goes : (¬ EndsRun (effect i.0 e ms).stepped) × IsNext i.0 e.place (effect i.0 e ms).engine.place).
      let h = there m (effect i.0 e ms).engine (effect i.0 e ms).packet (onto-inside e.place _ i.0 i.1 goes.1) in
      (suc h.0, meets-on m h.0 i.0 e ms i.1 k goes.0 goes.1 h.1))
      (goes-on i.0 e ms))
      (gone-cases gone e.place)

  -- after n steps of the second run the first one stands at a kept place
  pub record Lands (e : Engine) (ms : Memories) (n : ℕ) : Type 0 where
    pub steps : ℕ
    pub meets : Meets e ms steps n
    pub inside : (after code steps e ms).engine.place < length code
    pub kept : is_gone gone (after code steps e ms).engine.place ≡ false

  slide : (n : ℕ) → ((e : Engine) (ms : Memories) → e.place < length code → is_gone gone e.place ≡ false → Lands e ms n) → (d : ℕ) (e : Engine) (ms : Memories) → e.place < length code → length code ≤ e.place + d → Lands e ms n
  slide n land zero e ms inside far = absurd (omega arith)
  slide n land (suc d) e ms inside far =
      ⊎_elim
      (λ (g : is_gone gone e.place ≡ true).
      let h = slide n land d (at_place (suc e.place) e) ms (r.fillers e.place g).1 (omega arith) in
      let steps : step code e ms ≡ record { stepped = Went; engine = at_place (suc e.place) e; packet = ms } = ap (λ o. step_at o e ms) (r.fillers e.place g).0 in
      let same : (after code (suc h.steps) e ms).engine.place ≡ (after code h.steps (at_place (suc e.place) e) ms).engine.place = ap (λ x. (after code h.steps x.engine x.packet).engine.place) steps in
      record {
        steps = suc h.steps;
        meets = meets-idle h.steps n e ms g h.meets;
        inside = subst (λ x. x < length code) (sym same) h.inside;
        kept = ap (is_gone gone) same ∙ h.kept;
      })
      (λ (k : is_gone gone e.place ≡ false). land e ms inside k)
      (gone-cases gone e.place)

  land-more : (n : ℕ) → ((e : Engine) (ms : Memories) → e.place < length code → Lands e ms n) → (e : Engine) (ms : Memories) → e.place < length code → is_gone gone e.place ≡ false → Lands e ms (suc n)
  land-more n next e ms inside k =
      let i = at-place e inside in
      ⊎_elim
      (λ (ended : EndsRun (effect i.0 e ms).stepped × ((effect i.0 e ms).engine ≡ e) × ((effect i.0 e ms).packet ≡ ms)).
      let stays : (after code 1 e ms).engine.place ≡ e.place = ap (λ x. x.place) (ended-stays 1 i.0 e ms i.1 ended.0) in
      record {
        steps = 1;
        meets = meets-ended 0 n i.0 e ms i.1 k ended.0;
        inside = subst (λ x. x < length code) (sym stays) inside;
        kept = ap (is_gone gone) stays ∙ k;
      })
      (λ (goes : (¬ EndsRun (effect i.0 e ms).stepped) × IsNext i.0 e.place (effect i.0 e ms).engine.place).
      let h = next (effect i.0 e ms).engine (effect i.0 e ms).packet (onto-inside e.place _ i.0 i.1 goes.1) in
      let steps : step code e ms ≡ effect i.0 e ms = ap (λ o. step_at o e ms) i.1 in
      let same : (after code (suc h.steps) e ms).engine.place ≡ (after code h.steps (effect i.0 e ms).engine (effect i.0 e ms).packet).engine.place = ap (λ x. (after code h.steps x.engine x.packet).engine.place) steps in
      record {
        steps = suc h.steps;
        meets = meets-on h.steps n i.0 e ms i.1 k goes.0 goes.1 h.meets;
        inside = subst (λ x. x < length code) (sym same) h.inside;
        kept = ap (is_gone gone) same ∙ h.kept;
      })
      (goes-on i.0 e ms)

  pub back : (n : ℕ) (e : Engine) (ms : Memories) → e.place < length code → Lands e ms n
  back zero e ms inside = slide zero (λ e ms inside k. record { steps = 0; meets = meets-none e ms; inside = inside; kept = k }) (length code) e ms inside (omega arith)
  back (suc n) e ms inside = slide (suc n) (land-more n (back n)) (length code) e ms inside (omega arith)

  -- ---- accesses

  access-kept : (m n : ℕ) (e : Engine) (ms : Memories) → Meets e ms m n → (after code m e ms).engine.place < length code → is_gone gone (after code m e ms).engine.place ≡ false → access_at code m e ms ≡ access_at code' n (moved to e) ms
  access-kept m n e ms h inside k =
      let now : Engine = (after code m e ms).engine in
      let i = at-place now inside in
      ap (λ o. access o now) i.1
      ∙ (does-kept i.0 now ms i.1 k).access
      ∙ sym (ap (λ (x : Engine). access (slice_get code' x.place) x) h.engine ∙ ap (λ x. access (slice_get x (to now.place)) (moved to now)) r.is_code ∙ ap (λ o. access o (moved to now)) (kept-at to gone code now.place i.0 r.size i.1 k))

  access-gone : (m : ℕ) (e : Engine) (ms : Memories) → is_gone gone (after code m e ms).engine.place ≡ true → access_at code m e ms ≡ None
  access-gone m e ms g = ap (λ o. access o (after code m e ms).engine) (r.fillers (after code m e ms).engine.place g).0

  -- ---- how often starts were stood at

  -- two starts, or the first place and a start, don't become one place
  abbrev AreApart : Type 0
  AreApart = (x s : ℕ) → (x ≡ 0) ⊎ starts x → starts s → x < s → ¬ (to x ≡ to s)

  none-pending : (x s : ℕ) → (x < s → ¬ (to x ≡ to s)) → pending to x s ≡ 0
  none-pending x s h = ⊎_elim (λ (lt : x < s). pending-if to x s lt ∙ here-not (to s) (to x) (h lt)) (λ (le : s ≤ x). pending-not to x s le) (cases_lt x s)

  met-stood : (m n : ℕ) (e : Engine) (ms : Memories) → e.place ≡ 0 → Meets e ms m n → (s : ℕ) → starts s → pending to (after code m e ms).engine.place s ≡ 0 → stood code s m e ms ≡ stood code' (to s) n (moved to e) ms
  met-stood m n e ms at h s start none =
      let whole = h.stood s start in
      let late0 : late to e.place s ≡ 0 = late-not to e.place s (omega arith) in
      omega arith

  pub stood-there : AreApart → ((x : ℕ) → starts x ⊎ ¬ starts x) → (m : ℕ) (e : Engine) (ms : Memories) → e.place ≡ 0 → e.place < length code → (n : ℕ) × ((s : ℕ) → starts s → stood code s m e ms ≡ stood code' (to s) n (moved to e) ms)
  stood-there apart decide zero e ms at inside = (0, λ s start. met-stood 0 0 e ms at (meets-none e ms) s start (none-pending e.place s (apart e.place s (inl at) start)))
  stood-there apart decide (suc m) e ms at inside =
      let so_far = stood-there apart decide m e ms at inside in
      let place : ℕ = (after code (suc m) e ms).engine.place in
      ⊎_elim
      (λ (same : (s : ℕ) → stood code s (suc m) e ms ≡ stood code s m e ms). (so_far.0, λ s start. same s ∙ so_far.1 s start))
      (λ (more : (s : ℕ) → stood code s (suc m) e ms ≡ stood code s m e ms + here s place).
      ⊎_elim
      (λ (is : starts place). let h = there (suc m) e ms inside in (h.0, λ s start. met-stood (suc m) h.0 e ms at h.1 s start (none-pending place s (apart place s (inr is) start))))
      (λ (isnt : ¬ starts place). (so_far.0, λ s start. let none : here s place ≡ 0 = here-not s place (λ same. isnt (subst starts (sym same) start)) in let m1 = more s in let b = so_far.1 s start in omega arith))
      (decide place))
      (stood-more code m e ms)

  pub stood-back : (n : ℕ) (e : Engine) (ms : Memories) → e.place ≡ 0 → e.place < length code → (m : ℕ) × ((s : ℕ) → starts s → stood code s m e ms ≡ stood code' (to s) n (moved to e) ms)
  stood-back n e ms at inside =
      let h : Lands e ms n = back n e ms inside in
      let place : ℕ = (after code h.steps e ms).engine.place in (
        h.steps,
        λ s start. met-stood h.steps n e ms at h.meets s start (none-pending place s (λ lt same.
            let less = kept-between gone place place s (omega arith) lt (let size = r.size in let in' = h.inside in omega arith) h.kept in omega arith)),
      )

  begin-moved : (e : Engine) → e.place ≡ 0 → moved to e ≡ e
  begin-moved e at = ap (λ x. at_place x e) (ap to at ∙ kept-zero gone ∙ sym at)

  pub gives-there : (m : ℕ) (e : Engine) (ms : Memories) → e.place ≡ 0 → e.place < length code → (n : ℕ) × ((ws : List WriteEvent) → run code m e ms ws ≡ run code' n e ms ws)
  gives-there m e ms at inside = let h = there m e ms inside in (h.0, λ ws. h.1.run ws ∙ ap (λ x. run code' h.0 x ms ws) (begin-moved e at))

  pub gives-back : (n : ℕ) (e : Engine) (ms : Memories) → e.place ≡ 0 → e.place < length code → (m : ℕ) × ((ws : List WriteEvent) → run code m e ms ws ≡ run code' n e ms ws)
  gives-back n e ms at inside = let h : Lands e ms n = back n e ms inside in (h.steps, λ ws. h.meets.run ws ∙ ap (λ x. run code' n x ms ws) (begin-moved e at))

  pub access-there : (m : ℕ) (e : Engine) (ms : Memories) → e.place ≡ 0 → e.place < length code → (access_at code m e ms ≡ None) ⊎ ((n : ℕ) × (access_at code m e ms ≡ access_at code' n e ms))
  access-there m e ms at inside =
      ⊎_elim
      (λ (g : is_gone gone (after code m e ms).engine.place ≡ true). inl (access-gone m e ms g))
      (λ (k : is_gone gone (after code m e ms).engine.place ≡ false).
      let h = there m e ms inside in
      inr (h.0, access-kept m h.0 e ms h.1 (after-inside m e ms inside) k ∙ ap (λ x. access_at code' h.0 x ms) (begin-moved e at)))
      (gone-cases gone (after code m e ms).engine.place)
    where
      step-inside : (e : Engine) (ms : Memories) → e.place < length code → (step code e ms).engine.place < length code
      step-inside e ms inside =
          let i = at-place e inside in
          let steps : step code e ms ≡ effect i.0 e ms = ap (λ o. step_at o e ms) i.1 in
          subst (λ x. x.engine.place < length code) (sym steps)
          (⊎_elim
          (λ (g : EndsRun (effect i.0 e ms).stepped × ((effect i.0 e ms).engine ≡ e) × ((effect i.0 e ms).packet ≡ ms)). subst (λ x. x.place < length code) (sym g.1) inside)
          (λ (goes : (¬ EndsRun (effect i.0 e ms).stepped) × IsNext i.0 e.place (effect i.0 e ms).engine.place). onto-inside e.place _ i.0 i.1 goes.1)
          (goes-on i.0 e ms))

      after-inside : (m : ℕ) (e : Engine) (ms : Memories) → e.place < length code → (after code m e ms).engine.place < length code
      after-inside zero e ms inside = inside
      after-inside (suc m) e ms inside = after-inside m (step code e ms).engine (step code e ms).packet (step-inside e ms inside)

  pub access-back : (n : ℕ) (e : Engine) (ms : Memories) → e.place ≡ 0 → e.place < length code → (m : ℕ) × (access_at code m e ms ≡ access_at code' n e ms)
  access-back n e ms at inside = let h : Lands e ms n = back n e ms inside in (h.steps, access-kept h.steps n e ms h.meets h.inside h.kept ∙ ap (λ x. access_at code' n x ms) (begin-moved e at))
