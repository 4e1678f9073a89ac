-- How a refusal of the front end or the back end is passed on.
use Rattle.std.specs.Prelude.{◌≡◌}
use Rattle.nova_compile.specs.declared.error.FrontError.{FrontError}
use Rattle.nova_compile.specs.declared.error.FrontError.TheVariants as front
use Rattle.nova_back.specs.declared.error.BackError.{BackError}
use Rattle.nova_back.specs.declared.error.BackError.TheVariants as back
use Rattle.nova_compile.specs.declared.build.CompileError.{CompileError}
use Rattle.nova_compile.specs.declared.build.CompileError.TheVariants as compile

-- how a refusal of the front end is passed on
abbrev pub IsPassedAs : FrontError → CompileError → Type 0
IsPassedAs front.NoMemory e = e ≡ compile.NoMemory
IsPassedAs (front.Text f) e = e ≡ compile.Text f
IsPassedAs (front.Fault kind place) e = e ≡ compile.Fault kind place
IsPassedAs (front.TooLarge size) e = e ≡ compile.TooLarge size

-- how one of the back end is passed on
abbrev pub IsHandedAs : BackError → CompileError → Type 0
IsHandedAs back.NoMemory e = e ≡ compile.NoMemory
IsHandedAs (back.TooLarge n) e = e ≡ compile.TooLarge n
IsHandedAs (back.Infeasible r) e = e ≡ compile.Infeasible r
IsHandedAs (back.Spent r) e = e ≡ compile.Spent r
IsHandedAs (back.StoreFull n) e = e ≡ compile.StoreFull n
