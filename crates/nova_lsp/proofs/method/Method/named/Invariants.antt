use Rattle.std.proofs.Common.{◌≢◌, All, take}
use Rattle.nova_lsp.specs.Methods.{name_of}
use Rattle.nova_lsp.proofs.method.Method.named.Given as goal

-- no method so far has this name
abbrev pub invariant-loop-method : goal.invariant-loop-method
invariant-loop-method l = All (λ method. l.text ≢ name_of method) (take l.method-index l.method-items)
