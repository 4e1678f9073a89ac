-- a text that is written piece by piece
use Rattle.std.proofs.Common.{◌≡◌, ℕ, List, ◌++◌, ap, ◌∙◌, Result, OnOk}
use Rattle.std.proofs.lemmas.Result.{on_ok_weaker}

-- a piece that is equal to the one written
pub piece_as : {E : Type 0} (r : Result (Unit {0}) E) (old new x y : List ℕ) → x ≡ y → OnOk r (new ≡ old ++ x) → OnOk r (new ≡ old ++ y)
piece_as r old new x y e h = on_ok_weaker r (λ k. k ∙ ap (λ t. old ++ t) e) h
