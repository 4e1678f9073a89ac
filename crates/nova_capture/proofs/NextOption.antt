-- Options, one further.
use Rattle.std.proofs.Common.{◌≡◌, ◌≢◌, ℕ, zero, suc, ◌+◌, ◌-◌, ◌≤◌, ◌<◌, List, [], ◌∷◌, Option, Some, None, Result, Ok, Err, Bool, true, false, ◌==◌, if◌then◌else◌, length, refl, sym, ap, ◌∙◌, arith, ne_eqb}
use Rattle.nova_capture.specs.declared.order.Order.{Order}
use Rattle.nova_capture.specs.declared.options.Times.{Times}
use Rattle.nova_capture.specs.declared.fault.Fault.{Fault}
use Rattle.nova_capture.specs.declared.fault.Fault.TheVariants.{Options}
use Rattle.nova_capture.specs.Blocks.{options_at, option_at, next_option, times_with}

step : (order : Order) (n : ℕ) (rest : List ℕ) (times : Times) → 0 < n → 0 < length rest → options_at order n rest times ≡ next_option (options_at order (n - 1)) order times (option_at order rest)
step order n [] times some long = absurd (omega arith)
step order zero (b ∷ rest) times some long = absurd (omega arith)
step order (suc n) (b ∷ rest) times some long =
    let e : n ≡ suc n - 1 = omega arith in
    ap (λ k. next_option (options_at order k) order times (option_at order (b ∷ rest))) e

pub none-next : (order : Order) (n : ℕ) (rest : List ℕ) (times : Times) → 0 < n → 0 < length rest → option_at order rest ≡ None → options_at order n rest times ≡ Err Options
none-next order n rest times some long none = step order n rest times some long ∙ ap (next_option (options_at order (n - 1)) order times) none

pub some-next : (order : Order) (n : ℕ) (rest : List ℕ) (times : Times) (code : ℕ) (value more : List ℕ) → 0 < n → 0 < length rest → option_at order rest ≡ Some (code, value, more) → code ≢ 0
    → options_at order n rest times ≡ options_at order (n - 1) more (times_with order code value times)
some-next order n rest times code value more some long is not =
    let e : (code == 0) ≡ false = ne_eqb code 0 not in
    step order n rest times some long
    ∙ ap (next_option (options_at order (n - 1)) order times) is
    ∙ ap (λ b. if b then Ok times else options_at order (n - 1) more (times_with order code value times)) e
