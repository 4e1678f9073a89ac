-- Steps of reading, of which the first fault counts.
use Rattle.std.specs.Prelude.{◌≡◌, Result, Ok, Err}
use Rattle.nova_capture.specs.declared.fault.Fault.{Fault}

infixl 10 ◌>>=◌
abbrev pub ◌>>=◌ : {A B : Type 0} → Result A Fault → (A → Result B Fault) → Result B Fault
(Ok x) >>= f = f x
(Err e) >>= f = Err e

-- a call gave, seen by view, what reading gives
abbrev pub Gives : {X Y : Type 0} → (X → Y) → Result X Fault → Result Y Fault → Type 0
Gives view (Ok x) read = read ≡ Ok (view x)
Gives view (Err e) read = read ≡ Err e
