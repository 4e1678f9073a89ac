-- Labels of a flow, and numbers.
use Rattle.std.proofs.Common.{◌≡◌, ℕ, zero, suc, ◌<◌, Bool, true, false, nat_eq, ◌||◌, List, [], ◌∷◌, Some, refl, sym, length, slice_get, arith}
use Rattle.std.proofs.lemmas.Bool.{false≢true, false_from_ne_true}
use Rattle.nv_base.specs.Sets.{is_in}
use Rattle.nv_base.proofs.Sets.{same-number}
use Rattle.flow_ir.specs.Tree.{Label}

pub there : (ls : List Label) (l : ℕ) → l < length ls → (m : Label) × (slice_get ls l ≡ Some m)
there [] l lt = absurd (omega arith)
there (k ∷ ls) zero lt = (k, refl)
there (k ∷ ls) (suc l) lt = there ls l (omega arith)

pub in_other : (b : Bool) (y : ℕ) (known : List ℕ) → b ≡ false → (b || is_in y known) ≡ true → is_in y known ≡ true
in_other true y known e i = absurd (false≢true (sym e))
in_other false y known e i = i

pub not_equal : (z n : ℕ) → z < n → nat_eq z n ≡ false
not_equal z n lt = false_from_ne_true (nat_eq z n) (λ e. let same : z ≡ n = same-number z n e in omega arith)
