-- What holds of a result by two clauses.
use Rattle.std.proofs.Common.{Result, Ok, Err, IfOk}

pub if_ok_both : {T E : Type 0} (r : Result T E) (P Q R : T → Type 0) → ((v : T) → P v → Q v → R v) → IfOk r P → IfOk r Q → IfOk r R
if_ok_both (Ok v) P Q R f h k = f v h k
if_ok_both (Err e) P Q R f h k = tt
