-- Two runs that stay related step by step are seen alike.
use Rattle.std.proofs.Common.{◌≡◌, ℕ, zero, suc, ◌+◌, List, ◌∷◌, [], ◌++◌, refl, ap, ◌∙◌}
use Rattle.nv_base.specs.declared.outcome.Write.{Write as WriteEvent}
use Rattle.nv_base.specs.Memories.{Memories}
use Rattle.uc_isa.specs.Step.{step}
use Rattle.uc_isa.specs.Engine.{run, continue_run, after}
use Rattle.uc_isa.specs.declared.instruction.Instr.{Instr}
use Rattle.uc_isa.specs.declared.engine.Engine.{Engine}
use Rattle.uc_isa.specs.declared.engine.Stepped.{Stepped}
use Rattle.uc_isa.specs.declared.engine.Stepped.TheVariants.{Went, Wrote, Halted, Fault}
use Rattle.uc_isa.specs.Visits.{access_at, stood, continue_count, here}
use Rattle.uc_isa.specs.Alike.{StepsAlike, RunsAlike}

run-by : (code code' : List Instr) (m : ℕ) (s s' : Stepped) (e e' : Engine) (p p' : Memories) (ws : List WriteEvent) → s ≡ s' → p ≡ p' → ((ws : List WriteEvent) → run code m e p ws ≡ run code' m e' p ws)
    → continue_run (run code m) s e p ws ≡ continue_run (run code' m) s' e' p' ws
run-by code code' m Went s' e e' p p' ws same memories h = h ws ∙ ap (λ x. run code' m e' x ws) memories ∙ ap (λ t. continue_run (run code' m) t e' p' ws) same
run-by code code' m (Wrote w) s' e e' p p' ws same memories h = h (ws ++ w ∷ []) ∙ ap (λ x. run code' m e' x (ws ++ w ∷ [])) memories ∙ ap (λ t. continue_run (run code' m) t e' p' ws) same
run-by code code' m (Halted k w) s' e e' p p' ws same memories h = ap (λ x. continue_run (run code' m) (Halted k w) e' x ws) memories ∙ ap (λ t. continue_run (run code' m) t e' p' ws) same
run-by code code' m (Fault k at) s' e e' p p' ws same memories h = ap (λ x. continue_run (run code' m) (Fault k at) e' x ws) memories ∙ ap (λ t. continue_run (run code' m) t e' p' ws) same

count-by : (code code' : List Instr) (y m : ℕ) (s s' : Stepped) (e e' : Engine) (p p' : Memories) → s ≡ s' → p ≡ p' → stood code y m e p ≡ stood code' y m e' p
    → continue_count (stood code y m) s e p ≡ continue_count (stood code' y m) s' e' p'
count-by code code' y m Went s' e e' p p' same memories h = h ∙ ap (λ x. stood code' y m e' x) memories ∙ ap (λ t. continue_count (stood code' y m) t e' p') same
count-by code code' y m (Wrote w) s' e e' p p' same memories h = h ∙ ap (λ x. stood code' y m e' x) memories ∙ ap (λ t. continue_count (stood code' y m) t e' p') same
count-by code code' y m (Halted k w) s' e e' p p' same memories h = ap (λ t. continue_count (stood code' y m) t e' p') same
count-by code code' y m (Fault k at) s' e e' p p' same memories h = ap (λ t. continue_count (stood code' y m) t e' p') same

module _ (code code' : List Instr) (Related : Engine → Engine → Memories → Type 0)
    (alike : (e e' : Engine) (p : Memories) → Related e e' p → StepsAlike code code' p e e')
    (stays : (e e' : Engine) (p : Memories) → Related e e' p → Related (step code e p).engine (step code' e' p).engine (step code e p).packet) where
  lock-run : (m : ℕ) (e e' : Engine) (p : Memories) (ws : List WriteEvent) → Related e e' p → run code m e p ws ≡ run code' m e' p ws
  lock-run zero e e' p ws r = refl
  lock-run (suc m) e e' p ws r =
      let a = alike e e' p r in
      run-by code code' m _ _ _ _ _ _ ws a.stepped a.packet (λ ws'. lock-run m _ _ _ ws' (stays e e' p r))

  lock-place : (m : ℕ) (e e' : Engine) (p : Memories) → Related e e' p → (after code m e p).engine.place ≡ (after code' m e' p).engine.place
  lock-place zero e e' p r = (alike e e' p r).place
  lock-place (suc m) e e' p r =
      let a = alike e e' p r in
      lock-place m _ _ _ (stays e e' p r) ∙ ap (λ x. (after code' m (step code' e' p).engine x).engine.place) a.packet

  lock-access : (m : ℕ) (e e' : Engine) (p : Memories) → Related e e' p → access_at code m e p ≡ access_at code' m e' p
  lock-access zero e e' p r = (alike e e' p r).access
  lock-access (suc m) e e' p r =
      let a = alike e e' p r in
      lock-access m _ _ _ (stays e e' p r) ∙ ap (λ x. access_at code' m (step code' e' p).engine x) a.packet

  lock-stood : (y m : ℕ) (e e' : Engine) (p : Memories) → Related e e' p → stood code y m e p ≡ stood code' y m e' p
  lock-stood y zero e e' p r = ap (here y) (alike e e' p r).place
  lock-stood y (suc m) e e' p r =
      let a = alike e e' p r in
      let rest = count-by code code' y m _ _ _ _ _ _ a.stepped a.packet (lock-stood y m _ _ _ (stays e e' p r)) in
      ap (λ x. here y x + continue_count (stood code y m) (step code e p).stepped (step code e p).engine (step code e p).packet) a.place ∙ ap (λ n. here y e'.place + n) rest

  pub lockstep : (e e' : Engine) (p : Memories) → Related e e' p → RunsAlike code code' p e e'
  lockstep e e' p r = record {
    run = λ m ws. lock-run m e e' p ws r;
    place = λ m. lock-place m e e' p r;
    access = λ m. lock-access m e e' p r;
    stood = λ y m. lock-stood y m e e' p r;
  }

pub alike-refl : (code : List Instr) (p : Memories) (e : Engine) → RunsAlike code code p e e
alike-refl code p e = record { run = λ m ws. refl; place = λ m. refl; access = λ m. refl; stood = λ s m. refl }

pub alike-trans : (a b d : List Instr) (p : Memories) (e e' e'' : Engine) → RunsAlike a b p e e' → RunsAlike b d p e' e'' → RunsAlike a d p e e''
alike-trans a b d p e e' e'' x y = record {
  run = λ m ws. x.run m ws ∙ y.run m ws;
  place = λ m. x.place m ∙ y.place m;
  access = λ m. x.access m ∙ y.access m;
  stood = λ s m. x.stood s m ∙ y.stood s m;
}
