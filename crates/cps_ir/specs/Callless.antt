-- Terms that go on by jumps alone, and so never leave their function.
use Rattle.std.specs.Prelude.{Bool, true, false, ◌&&◌}
use Rattle.cps_ir.specs.Term.{Term, Let, Read, Write, If, Fix, Call, Return, Throw, Jump, Halt, Labels, none, label}

abbrev mutual
  -- no call, return or throw is in a term
  pub only_jumps : Term → Bool
  only_jumps (Let x a t) = only_jumps t
  only_jumps (Read m xs a t) = only_jumps t
  only_jumps (Write m a bs t) = only_jumps t
  only_jumps (If c a b t u) = only_jumps t && only_jumps u
  only_jumps (Fix ls t) = labels_only_jump ls && only_jumps t
  only_jumps (Call f bs k hs) = false
  only_jumps (Return bs) = false
  only_jumps (Throw e bs) = false
  only_jumps (Jump l bs) = true
  only_jumps (Halt e bs) = true

  pub labels_only_jump : Labels → Bool
  labels_only_jump none = true
  labels_only_jump (label l xs t ls) = only_jumps t && labels_only_jump ls
