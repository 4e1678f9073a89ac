-- Uses as pure data.
use Rattle.place_plan.specs.declared.uses.Role.{Role}
use Rattle.place_plan.specs.declared.uses.Role.TheVariants.{Operand, Address, Written, Argument, Ending}
use Rattle.place_plan.specs.declared.uses.Use.{Use}
use Rattle.place_plan.specs.Uses as pure

abbrev pub role_view : Role → pure.Role
role_view Operand = pure.Operand
role_view Address = pure.Address
role_view (Written m i) = pure.Written m i
role_view (Argument l i) = pure.Argument l i
role_view (Ending i) = pure.Ending i

abbrev pub use_view : Use → pure.Use
use_view u = record { point = u.point; operand = u.operand; value = u.value; role = role_view u.role }
