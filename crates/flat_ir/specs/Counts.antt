-- What the laws of flat programs say of results.
use Rattle.std.specs.Prelude.{◌≡◌, ℕ, length, All}
use Rattle.nv_base.specs.Memories.{HasSizes}
use Rattle.nv_base.specs.Words.{IsWord}
use Rattle.flat_ir.specs.Running.{Result, Gives, Raises, Halts}

-- if these are words, they are so many
abbrev pub GivesMany : ℕ → Result → Type 0
GivesMany n (Gives ws now) = length ws ≡ n
GivesMany n (Raises k ws now) = Unit {0}
GivesMany n (Halts how now) = Unit {0}

-- what these come to are words, and the memories have their sizes
abbrev pub HoldsWords : Result → Type 0
HoldsWords (Gives ws now) = All IsWord ws × HasSizes now.packet
HoldsWords (Raises k ws now) = All IsWord ws × HasSizes now.packet
HoldsWords (Halts how now) = HasSizes now.packet
