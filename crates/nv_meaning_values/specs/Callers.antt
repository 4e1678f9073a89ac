-- The calls in progress before, in and after a call.
use Rattle.std.specs.Prelude.{◌≡◌, ◌≤◌, ◌-◌, List, Option, Some, None, map, length, take}
use Rattle.nv_meaning_values.specs.Running.{InCall, Chain, innermost}
use Rattle.nv_meaning_values.specs.declared.callers.Caller.{Caller}
use Rattle.nv_meaning_values.specs.declared.callers.Mark.{Mark}

abbrev pub call_of : Caller → InCall
call_of f = (f.name.now, f.group)

abbrev pub calls_of : List Caller → List InCall
calls_of fs = map call_of fs

abbrev pub maybe_call : Option Caller → Option InCall
maybe_call None = None
maybe_call (Some f) = Some (call_of f)

-- these calls were in progress when the mark was taken
abbrev pub IsMark : Mark → List InCall → Type 0
IsMark m fs = (m.depth ≡ length fs) × (maybe_call m.innermost ≡ innermost fs)

-- all but the innermost of the first calls are in progress later too, and in its place stands one
abbrev pub LieAbove : List InCall → List InCall → Type 0
LieAbove fs later = (length fs ≤ length later) × (take (length fs - 1) later ≡ take (length fs - 1) fs)

abbrev pub IsAbove : Chain → Chain → Type 0
IsAbove c later = (later.groups ≡ c.groups) × (length c.calls ≤ length later.calls) × (take (length c.calls - 1) later.calls ≡ take (length c.calls - 1) c.calls)
