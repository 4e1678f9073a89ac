-- What parts the bytes of a hardware address.
use Rattle.std.specs.Prelude.{◌≡◌, ◌⊎◌, ℕ}

-- a colon or a hyphen
abbrev pub IsSign : ℕ → Type 0
IsSign b = (b ≡ 58) ⊎ (b ≡ 45)
