-- The names that are added are those of functions that the code calls.
use Rattle.std.proofs.Common.{◌≡◌, ℕ, suc, ◌+◌, ◌<◌, ◌≤◌, Bool, true, false, not, nat_eq, if◌then◌else◌, cond, List, [], ◌∷◌, ◌++◌, refl, sym, ap, subst, ◌∙◌, append_assoc, ⊎_elim, length, arith}
use Rattle.std.proofs.lemmas.Bool.{or_left, or_right, or_parts, eq-eqb, false≢true, cases_lt}
use Rattle.std.specs.List.{list_any, position_or_len}
use Rattle.nv_base.specs.declared.term.Atom.{Atom}
use Rattle.nv_base.specs.declared.term.Cmp.{Cmp}
use Rattle.flat_ir.specs.declared.flat.Flat.{Flat}
use Rattle.flat_ir.specs.declared.spine.Step.{Step}
use Rattle.flat_ir.specs.declared.spine.Step.TheVariants.{Let, Fetch, Store, Bind}
use Rattle.flat_ir.specs.Spine.{IsNode, AreNodes}
use Rattle.nv_base.specs.Sets.{is_in}
use Rattle.nv_base.proofs.Sets.{in-append}
use Rattle.nv_flatten_values.specs.inner.Simulation.{Names}
use Rattle.flat_ir.specs.Reached.{calls}
use Rattle.nv_flatten_values.specs.inner.Well.{step_calls, steps_calls, AreCalled, IsChoice}

-- ---- no name, further calls, and one after the other
pub called-none : (names : Names) (cs : List ℕ) → AreCalled names names cs
called-none names cs = λ i lo hi. absurd (omega arith)

pub called-more : (old new : Names) (a b : List ℕ) → AreCalled old new a → AreCalled old new (a ++ b)
called-more old new a b h = λ i lo hi. in-append i a b ∙ or_left (is_in i a) (is_in i b) (h i lo hi)

pub called-then : (old mid new : Names) (a b : List ℕ) → AreCalled old mid a → AreCalled mid new b → AreCalled old new (a ++ b)
called-then old mid new a b h k =
    λ i lo hi.
    in-append i a b
    ∙ ⊎_elim (λ (below : i < length mid). or_left (is_in i a) (is_in i b) (h i lo below)) (λ (above : length mid ≤ i). or_right (is_in i a) (is_in i b) (k i above hi)) (cases_lt i (length mid))

-- ---- steps
pub calls-append : (ss ts : List Step) → steps_calls (ss ++ ts) ≡ steps_calls ss ++ steps_calls ts
calls-append [] ts = refl
calls-append (s ∷ ss) ts = ap (λ l. step_calls s ++ l) (calls-append ss ts) ∙ sym (append_assoc (step_calls s) (steps_calls ss) (steps_calls ts))

pub steps-called-more : (old new : Names) (ss ts : List Step) → AreCalled old new (steps_calls ss) → AreCalled old new (steps_calls (ss ++ ts))
steps-called-more old new ss ts h = subst (AreCalled old new) (sym (calls-append ss ts)) (called-more old new (steps_calls ss) (steps_calls ts) h)

pub steps-called-then : (old mid new : Names) (ss ts : List Step) → AreCalled old mid (steps_calls ss) → AreCalled mid new (steps_calls ts) → AreCalled old new (steps_calls (ss ++ ts))
steps-called-then old mid new ss ts h k = subst (AreCalled old new) (sym (calls-append ss ts)) (called-then old mid new (steps_calls ss) (steps_calls ts) h k)

-- ---- code
node-calls : (s : Step) (t u : Flat) → IsNode s t u → calls u ≡ step_calls s ++ calls t
node-calls (Let x a) t u h = ap calls h.1
node-calls (Fetch m xs a) t u h = ap calls h.1
node-calls (Store m a bs) t u h = ap calls h.1
node-calls (Bind xs first) t u h = ap calls h.2

nodes-calls : (ss : List Step) (last t : Flat) → AreNodes ss last t → calls t ≡ steps_calls ss ++ calls last
nodes-calls [] last t h = ap calls h
nodes-calls (s ∷ ss) last t h = node-calls s h.0 t h.2 ∙ ap (λ l. step_calls s ++ l) (nodes-calls ss last h.0 h.1) ∙ sym (append_assoc (step_calls s) (steps_calls ss) (calls last))

pub code-called-more : (old new : Names) (ss : List Step) (last t : Flat) → AreNodes ss last t → AreCalled old new (steps_calls ss) → AreCalled old new (calls t)
code-called-more old new ss last t nodes h = subst (AreCalled old new) (sym (nodes-calls ss last t nodes)) (called-more old new (steps_calls ss) (calls last) h)

pub code-called-then : (old mid new : Names) (ss : List Step) (last t : Flat) → AreNodes ss last t → AreCalled old mid (steps_calls ss) → AreCalled mid new (calls last) → AreCalled old new (calls t)
code-called-then old mid new ss last t nodes h k = subst (AreCalled old new) (sym (nodes-calls ss last t nodes)) (called-then old mid new (steps_calls ss) (calls last) h k)

pub choice-called : (old a b new : Names) (ss : List Step) (c : Cmp) (x y : Atom) (first second t : Flat) → IsChoice ss c x y first second t → AreCalled old a (steps_calls ss) → AreCalled a b (calls first) → AreCalled b new (calls second) → AreCalled old new (calls t)
choice-called old a b new ss c x y first second t h one two three =
    subst (AreCalled old new) (sym (nodes-calls ss _ t h.2)) (called-then old a new (steps_calls ss) (calls first ++ calls second) one (called-then a b new (calls first) (calls second) two three))

-- ---- the number of a name, which is the last one where the name is new
only-number : (i j : ℕ) → j ≡ i → is_in j (i ∷ []) ≡ true
only-number i j e = or_left (nat_eq j i) false (eq-eqb j i e)

pub number-called : (old new : Names) (i : ℕ) (added : Bool) → length new ≡ length old + (if added then 1 else 0) → (added ≡ true → i ≡ length old) → AreCalled old new (i ∷ [])
number-called old new i true many last = let same : i ≡ length old = last refl in λ j lo hi. only-number i j (omega arith)
number-called old new i false many last = λ j lo hi. absurd (omega arith)

first-fails : (b : Bool) (m n : ℕ) → b ≡ false → m ≡ n → cond (not b) (1 + m) 0 ≡ suc n
first-fails true m n e f = absurd (false≢true (sym e))
first-fails false m n e f = let same : 1 + m ≡ suc n = omega (arith, f) in same

pub none-first : {A : Type 0} (p : A → Bool) (xs : List A) → list_any p xs ≡ false → position_or_len p xs ≡ length xs
none-first p [] e = refl
none-first p (x ∷ xs) e = let parts = or_parts (p x) (list_any p xs) e in let rest = none-first p xs parts.1 in first-fails (p x) (position_or_len p xs) (length xs) parts.0 rest
