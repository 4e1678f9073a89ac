-- How often a run stood at a place, with one step more.
use Rattle.std.proofs.Common.{◌≡◌, ◌≢◌, ℕ, zero, suc, ◌+◌, ◌⊎◌, inl, inr, List, refl, ap, arith, nat_eq, if◌then◌else◌, eq-eqb, ne_eqb, Bool, true, false}
use Rattle.nv_base.specs.Memories.{Memories}
use Rattle.uc_isa.specs.Step.{step}
use Rattle.uc_isa.specs.Engine.{after}
use Rattle.uc_isa.specs.declared.instruction.Instr.{Instr}
use Rattle.uc_isa.specs.declared.engine.Engine.{Engine}
use Rattle.uc_isa.specs.declared.engine.Stepped.{Stepped}
use Rattle.uc_isa.specs.declared.engine.Stepped.TheVariants.{Went, Wrote, Halted, Fault}
use Rattle.uc_isa.specs.Visits.{here, stood, continue_count}

if-true : (b : Bool) (m n : ℕ) → b ≡ true → (if b then m else n) ≡ m
if-true b m n h = ap (λ (t : Bool). if t then m else n) h

if-false : (b : Bool) (m n : ℕ) → b ≡ false → (if b then m else n) ≡ n
if-false b m n h = ap (λ (t : Bool). if t then m else n) h

pub here-at : (s x : ℕ) → x ≡ s → here s x ≡ 1
here-at s x e = if-true (nat_eq x s) 1 0 (eq-eqb x s e)

pub here-not : (s x : ℕ) → x ≢ s → here s x ≡ 0
here-not s x h = if-false (nat_eq x s) 1 0 (ne_eqb x s h)

-- one step more is counted at no place, or at the one that it leads to
abbrev pub CountsOne : List Instr → ℕ → Engine → Memories → Type 0
CountsOne code m e p = ((s : ℕ) → stood code s (suc m) e p ≡ stood code s m e p) ⊎ ((s : ℕ) → stood code s (suc m) e p ≡ stood code s m e p + here s (after code (suc m) e p).engine.place)

counted : (code : List Instr) (e : Engine) (p : Memories) (k s : ℕ) (t : Stepped) → (step code e p).stepped ≡ t → stood code s (suc k) e p ≡ here s e.place + continue_count (stood code s k) t (step code e p).engine (step code e p).packet
counted code e p k s t h = ap (λ x. here s e.place + continue_count (stood code s k) x (step code e p).engine (step code e p).packet) h

counts-goes : (code : List Instr) (m : ℕ) (e : Engine) (p : Memories) → ((k s : ℕ) → stood code s (suc k) e p ≡ here s e.place + stood code s k (step code e p).engine (step code e p).packet) → CountsOne code m (step code e p).engine (step code e p).packet → CountsOne code (suc m) e p
counts-goes code m e p h (inl same) = inl (λ s. let a = h (suc m) s in let b = h m s in let d = same s in omega arith)
counts-goes code m e p h (inr more) = inr (λ s. let a = h (suc m) s in let b = h m s in let d = more s in omega arith)

counts-ended : (code : List Instr) (m : ℕ) (e : Engine) (p : Memories) → ((k s : ℕ) → stood code s (suc k) e p ≡ here s e.place + 0) → CountsOne code (suc m) e p
counts-ended code m e p h = inl (λ s. let a = h (suc m) s in let b = h m s in omega arith)

counts-more : (code : List Instr) (m : ℕ) (e : Engine) (p : Memories) (t : Stepped) → (step code e p).stepped ≡ t → CountsOne code m (step code e p).engine (step code e p).packet → CountsOne code (suc m) e p
counts-more code m e p Went h one = counts-goes code m e p (λ k s. counted code e p k s Went h) one
counts-more code m e p (Wrote w) h one = counts-goes code m e p (λ k s. counted code e p k s (Wrote w) h) one
counts-more code m e p (Halted j w) h one = counts-ended code m e p (λ k s. counted code e p k s (Halted j w) h)
counts-more code m e p (Fault j at) h one = counts-ended code m e p (λ k s. counted code e p k s (Fault j at) h)

counts-first : (code : List Instr) (e : Engine) (p : Memories) (t : Stepped) → (step code e p).stepped ≡ t → CountsOne code 0 e p
counts-first code e p Went h = inr (λ s. counted code e p 0 s Went h)
counts-first code e p (Wrote w) h = inr (λ s. counted code e p 0 s (Wrote w) h)
counts-first code e p (Halted j w) h = inl (λ s. let a = counted code e p 0 s (Halted j w) h in omega arith)
counts-first code e p (Fault j at) h = inl (λ s. let a = counted code e p 0 s (Fault j at) h in omega arith)

pub stood-more : (code : List Instr) (m : ℕ) (e : Engine) (p : Memories) → CountsOne code m e p
stood-more code zero e p = counts-first code e p (step code e p).stepped refl
stood-more code (suc m) e p = counts-more code m e p (step code e p).stepped refl (stood-more code m (step code e p).engine (step code e p).packet)
