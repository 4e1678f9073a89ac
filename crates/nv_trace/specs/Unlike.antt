-- Where two lists of writes differ.
use Rattle.std.specs.Prelude.{◌≡◌, ◌≢◌, ℕ, ◌<◌, List, length, min, take, slice_get}
use Rattle.nv_base.specs.declared.outcome.Write.{Write}

-- both have this place, they are the same before it, and differ there
abbrev pub IsFirstUnlike : ℕ → List Write → List Write → Type 0
IsFirstUnlike i vs ws = (i < length vs) × (i < length ws) × (take i vs ≡ take i ws) × (slice_get vs i ≢ slice_get ws i)

-- they are the same as far as both go
abbrev pub AgreeAsFar : List Write → List Write → Type 0
AgreeAsFar vs ws = take (min (length vs) (length ws)) vs ≡ take (min (length vs) (length ws)) ws
