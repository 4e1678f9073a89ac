-- How far a session is, and what that means for the next message.
use Rattle.std.specs.Prelude.{◌≡◌, ◌≢◌, ◌⊎◌, ℕ, ℤ, List, Bool, true, false, Option, Some, None}
use Rattle.nova_lsp.specs.Codes.{not_initialized, invalid_request, no_method}
use Rattle.nova_lsp.specs.Methods.{NamesNone, initialize, shutdown, exit}
use Rattle.nova_lsp.specs.declared.envelope.Fault.{Fault}
use Rattle.nova_lsp.specs.declared.stage.Stage.{Stage}
use Rattle.nova_lsp.specs.declared.stage.Stage.TheVariants.{New, Ready, ShutDown, Over}

-- the stage after a request
abbrev pub IsAfterRequest : Stage → List ℕ → Stage → Type 0
IsAfterRequest New method next = (method ≡ initialize → next ≡ Ready) × (method ≢ initialize → next ≡ New)
IsAfterRequest Ready method next = (method ≡ shutdown → next ≡ ShutDown) × (method ≢ shutdown → next ≡ Ready)
IsAfterRequest ShutDown method next = next ≡ ShutDown
IsAfterRequest (Over is_done) method next = next ≡ Over is_done

abbrev pub is_shut_down : Stage → Bool
is_shut_down New = false
is_shut_down Ready = false
is_shut_down ShutDown = true
is_shut_down (Over is_done) = false

-- the stage after a notice
abbrev pub IsAfterNotice : Stage → List ℕ → Stage → Type 0
IsAfterNotice stage method next = (method ≡ exit → next ≡ Over (is_shut_down stage)) × (method ≢ exit → next ≡ stage)

-- no request has this method
pub record IsUnknown (method : List ℕ) : Type 0 where
  pub no_begin : method ≢ initialize
  pub no_end : method ≢ shutdown
  pub not_named : NamesNone method

-- a request is refused with this number, whatever its parameters are
abbrev pub Refuses : Stage → List ℕ → ℤ → Type 0
Refuses New method code = (method ≢ initialize) × (code ≡ not_initialized)
Refuses Ready method code = ((method ≡ initialize) × (code ≡ invalid_request)) ⊎ (IsUnknown method × (code ≡ no_method))
Refuses ShutDown method code = code ≡ invalid_request
Refuses (Over is_done) method code = code ≡ invalid_request

-- there is a fault with this number
abbrev pub IsFault : Option Fault → ℤ → Type 0
IsFault None code = ⊥
IsFault (Some fault) code = fault.code ≡ code

-- messages are answered
abbrev pub IsGoing : Stage → Type 0
IsGoing stage = (is_done : Bool) → stage ≢ Over is_done
