-- Environments after assignments.
use Rattle.std.proofs.Common.{◌≡◌, ℕ, Bool, true, false, nat_eq, ◌||◌, List, [], ◌∷◌, ◌++◌, refl, sym, ap, subst, ◌∙◌, if◌then◌else◌, length, arith}
use Rattle.std.proofs.lemmas.Bool.{or_right, false≢true}
use Rattle.nv_base.specs.declared.term.Atom.{Atom}
use Rattle.nv_base.specs.Words.{Env, assigned, assigned_all, atom_word, atom_words}
use Rattle.nv_base.specs.Sets.{is_in, AgreeOn}
use Rattle.nv_base.proofs.Sets.{same-number}
use Rattle.cps_close.specs.inner.Closed.{operands}
use Rattle.flow_ir.proofs.Members.{in-first}
use Rattle.flow_ir.specs.inner.Scoped.{Apart}

other-at : (b : Bool) (u v : ℕ) → (b ≡ true → ⊥) → u ≡ (if b then v else u)
other-at true u v h = absurd (h refl)
other-at false u v h = refl

-- what isn't assigned keeps its word
pub unassigned : (known : List ℕ) (env : Env) (x w : ℕ) → is_in x known ≡ false → AgreeOn known env (assigned env x w)
unassigned known env x w out = λ y e. other-at (nat_eq y x) (env y) w (λ s. false≢true (sym out ∙ subst (λ z. is_in z known ≡ true) (same-number y x s) e))

rest-apart : (x : ℕ) (xs known : List ℕ) → Apart (x ∷ xs) known → Apart xs known
rest-apart x xs known h = λ y e. h y (or_right (nat_eq y x) (is_in y xs) e)

first-apart : (x : ℕ) (xs known : List ℕ) → Apart (x ∷ xs) known → is_in x known ≡ false
first-apart x xs known h = h x (in-first x xs)

pub unassigned-all : (xs ws known : List ℕ) (env : Env) → Apart xs known → AgreeOn known env (assigned_all env xs ws)
unassigned-all [] ws known env h = λ y e. refl
unassigned-all (x ∷ xs) [] known env h =
    λ y e. unassigned known env x 0 (first-apart x xs known h) y e ∙ unassigned-all xs [] known (assigned env x 0) (rest-apart x xs known h) y e
unassigned-all (x ∷ xs) (w ∷ ws) known env h =
    λ y e. unassigned known env x w (first-apart x xs known h) y e ∙ unassigned-all xs ws known (assigned env x w) (rest-apart x xs known h) y e

-- assignments of two lists, of which the first has as many words
pub assigned-append : (xs ws vs us : List ℕ) (env : Env) → length xs ≡ length ws → assigned_all env (xs ++ vs) (ws ++ us) ≡ assigned_all (assigned_all env xs ws) vs us
assigned-append [] [] vs us env e = refl
assigned-append [] (w ∷ ws) vs us env e = absurd (omega arith)
assigned-append (x ∷ xs) [] vs us env e = absurd (omega arith)
assigned-append (x ∷ xs) (w ∷ ws) vs us env e = assigned-append xs ws vs us (assigned env x w) (omega arith)

same-or : (b in' : Bool) (u v w : ℕ) → (b ≡ true → u ≡ v) → (if in' then v else (if b then u else w)) ≡ (if (b || in') then v else w)
same-or true true u v w h = refl
same-or true false u v w h = h refl
same-or false true u v w h = refl
same-or false false u v w h = refl

-- variables that get their words of another environment
pub assigned-operands : (vs : List ℕ) (env now : Env) (y : ℕ) → assigned_all env vs (atom_words now (operands vs)) y ≡ (if is_in y vs then now y else env y)
assigned-operands [] env now y = refl
assigned-operands (v ∷ vs) env now y =
    assigned-operands vs (assigned env v (now v)) now y ∙ same-or (nat_eq y v) (is_in y vs) (now v) (now y) (env y) (λ s. ap now (sym (same-number y v s)))

pub words-append : (env : Env) (as' bs : List Atom) → atom_words env (as' ++ bs) ≡ atom_words env as' ++ atom_words env bs
words-append env [] bs = refl
words-append env (a ∷ as') bs = ap (λ ws. atom_word env a ∷ ws) (words-append env as' bs)
