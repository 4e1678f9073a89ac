-- What the flags say after a difference.
use Rattle.std.proofs.Common.{◌≡◌, ℕ, Bool, true, false, refl, ap, sym, ◌∙◌, ⊎_elim, arith, eq-eqb, ne_eqb}
use Rattle.std.proofs.lemmas.Bool.{cases_eq}
use Rattle.std.specs.Prelude.{not, nat_eq, nat_lt, nat_le}
use Rattle.nv_base.specs.declared.term.Bin.TheVariants.{Sub}
use Rattle.nv_base.specs.declared.term.Cmp.{Cmp}
use Rattle.nv_base.specs.declared.term.Cmp.TheVariants.{Eq, Ne, Lt, Ge}
use Rattle.nv_base.specs.Words.{IsWord, bin_word, compares, word_difference}
use Rattle.uc_isa.specs.Registers.{failing}
use Rattle.uc_isa.specs.Step.{holds, onward, with_flags, bin_carry}
use Rattle.uc_isa.specs.declared.engine.Engine.{Engine}

difference-none : (x y : ℕ) → IsWord x → IsWord y → x ≡ y → word_difference x y ≡ 0
difference-none x y a b e = omega arith

difference-only : (x y : ℕ) → IsWord x → IsWord y → word_difference x y ≡ 0 → x ≡ y
difference-only x y a b e = omega arith

zero-equal : (x y : ℕ) → IsWord x → IsWord y → nat_eq (word_difference x y) 0 ≡ nat_eq x y
zero-equal x y a b =
    ⊎_elim
    (λ e. eq-eqb (word_difference x y) 0 (difference-none x y a b e) ∙ sym (eq-eqb x y e))
    (λ far. ne_eqb (word_difference x y) 0 (λ z. far (difference-only x y a b z)) ∙ sym (ne_eqb x y far))
    (cases_eq x y)

carry-least : (x y : ℕ) → nat_le y x ≡ not (nat_lt x y)
carry-least x y = grind arith

not-not : (b : Bool) → b ≡ not (not b)
not-not true = refl
not-not false = refl

-- the branch is taken where the comparison fails
pub failing-holds : (cmp : Cmp) (x y : ℕ) (e : Engine) → IsWord x → IsWord y → holds (failing cmp) (onward (with_flags (bin_word Sub x y) (bin_carry Sub x y) e)) ≡ not (compares cmp x y)
failing-holds Eq x y e a b = ap not (zero-equal x y a b)
failing-holds Ne x y e a b = zero-equal x y a b ∙ not-not (nat_eq x y)
failing-holds Lt x y e a b = carry-least x y
failing-holds Ge x y e a b = ap not (carry-least x y)
