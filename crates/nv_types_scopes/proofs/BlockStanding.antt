-- What a walk wrote and bound, one step after another.
use Rattle.std.proofs.Common.{◌≡◌, ◌∙◌, refl, ap, ℕ, ◌-◌, List, ◌++◌, drop, length, arith, length-append, append_assoc, Vec, Global}
use Rattle.std.specs.Borrow.{Bor}
use Rattle.nv_types_table.specs.inner.Named.{plain_names}
use Rattle.std.proofs.lemmas.List.{drop_at}
use Rattle.nv_types_scopes.specs.declared.functions.Checker.{Checker}
use Rattle.nv_types_scopes.specs.inner.Standing.{written_in}

-- variables that were bound, and forgotten again
pub scope_left : (old newer now left : List (List ℕ × ℕ)) → now ≡ newer ++ old → left ≡ drop (length now - length old) now → left ≡ old
scope_left old newer now left e f =
    f ∙ ap (λ (l : List (List ℕ × ℕ)). drop (length l - length old) l) e ∙ ap (λ n. drop n (newer ++ old)) (omega (arith, length-append newer old)) ∙ drop_at newer old (length newer) refl

pub writes_trans : (a b : List (List ℕ)) (c x y : List (List ℕ)) → b ≡ a ++ x → c ≡ b ++ y → c ≡ a ++ (x ++ y)
writes_trans a b c x y f g = g ∙ ap (λ l. l ++ y) f ∙ append_assoc a x y

pub written_same : (a b : Checker) → b.written ≡ a.written → written_in b ≡ written_in a
written_same a b e = ap (λ (v : Vec (Bor (List ℕ)) Global). plain_names v.items) e
