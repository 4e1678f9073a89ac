-- Code with a handler.
use Rattle.std.specs.Prelude.{◌≡◌, ℕ, List}
use Rattle.flat_ir.specs.declared.flat.Flat.{Flat}
use Rattle.flat_ir.specs.declared.flat.Flat.TheVariants.{Try'}

-- the code is a body with a handler of the exception of a number, whose variables are those, wherever its boxes lie
abbrev pub IsHandled : ℕ → List ℕ → Flat → Flat → Flat → Type 0
IsHandled k vars body handler t = (q : _) × (xs : _) × (r : _) × (t ≡ Try' q body k xs r handler) × (xs.items ≡ vars)
