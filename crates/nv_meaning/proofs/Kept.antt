-- Calls that are left, and scopes that are kept or grow, over plain variables.
use Rattle.std.proofs.Common.{◌≡◌, ℕ, ◌≤◌, List, [], sym, ◌∙◌, subst, append-nil, Result, Ok, Err, OnOk, arith}
use Rattle.nv_meaning_values.specs.inner.View.{Named, Extends}

pub fewer : (a b c : ℕ) → a ≤ b → b ≤ c → a ≤ c
fewer a b c h k = omega arith

pub extends-nothing : (xs : List Named) → Extends xs xs
extends-nothing xs = ([], sym (append-nil xs))

pub extends-same : (xs ys : List Named) → ys ≡ xs → Extends xs ys
extends-same xs ys e = ([], e ∙ sym (append-nil xs))

-- from an equal scope
pub extends-from : (xs ys zs : List Named) → ys ≡ xs → Extends ys zs → Extends xs zs
extends-from xs ys zs e h = subst (λ l. Extends l zs) e h

pub kept-given : {A E : Type 0} (r : Result A E) (P : Type 0) → P → OnOk r P
kept-given (Ok x) P h = h
kept-given (Err e) P h = tt

-- kept by a call, and before it
pub kept-then : {A E : Type 0} (r : Result A E) (xs ys zs : List Named) → ys ≡ xs → OnOk r (zs ≡ ys) → OnOk r (zs ≡ xs)
kept-then r xs ys zs e h = subst (λ l. OnOk r (zs ≡ l)) e h
