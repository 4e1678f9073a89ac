-- Sums of bulks in different orders.
use Rattle.std.proofs.Common.{◌≡◌, Bool, true, false, if◌then◌else◌, arith}
use Rattle.std.proofs.lemmas.Bool.{false≢true}
use Rattle.nv_base.specs.Measures.{Bulk, nothing, a_label, a_jump, both, IsAtMost}
use Rattle.flat_ir.specs.Bulk.{return_bulk}

-- something more
pub most-extra : (r a : Bulk) → IsAtMost a (both r a)
most-extra r a = record { labels = omega arith; jumps = omega arith; nodes = omega arith; defined = omega arith; used = omega arith }

-- a label l, of whose body comes u, round t
pub fixed : (l t u t' u' : Bulk) → IsAtMost t t' → IsAtMost u u' → IsAtMost (both (both (both l u) nothing) t) (both (both l t') u')
fixed l t u t' u' p q = record {
  labels = omega (arith, p.labels, q.labels);
  jumps = omega (arith, p.jumps, q.jumps);
  nodes = omega (arith, p.nodes, q.nodes);
  defined = omega (arith, p.defined, q.defined);
  used = omega (arith, p.used, q.used);
}

-- some r, which one of the parts pays for
pub paid-behind : (r x a b : Bulk) → IsAtMost (both r a) b → IsAtMost (both r (both x a)) (both x b)
paid-behind r x a b p = record {
  labels = omega (arith, p.labels);
  jumps = omega (arith, p.jumps);
  nodes = omega (arith, p.nodes);
  defined = omega (arith, p.defined);
  used = omega (arith, p.used);
}

pub paid-first : (r x t u t' u' : Bulk) → IsAtMost (both r t) t' → IsAtMost u u' → IsAtMost (both r (both x (both t u))) (both x (both t' u'))
paid-first r x t u t' u' p q = record {
  labels = omega (arith, p.labels, q.labels);
  jumps = omega (arith, p.jumps, q.jumps);
  nodes = omega (arith, p.nodes, q.nodes);
  defined = omega (arith, p.defined, q.defined);
  used = omega (arith, p.used, q.used);
}

pub paid-second : (r x t u t' u' : Bulk) → IsAtMost t t' → IsAtMost (both r u) u' → IsAtMost (both r (both x (both t u))) (both x (both t' u'))
paid-second r x t u t' u' p q = record {
  labels = omega (arith, p.labels, q.labels);
  jumps = omega (arith, p.jumps, q.jumps);
  nodes = omega (arith, p.nodes, q.nodes);
  defined = omega (arith, p.defined, q.defined);
  used = omega (arith, p.used, q.used);
}

pub paid-within : (r l t u t' u' : Bulk) → IsAtMost (both r t) t' → IsAtMost u u' → IsAtMost (both r (both (both (both l u) nothing) t)) (both (both l t') u')
paid-within r l t u t' u' p q = record {
  labels = omega (arith, p.labels, q.labels);
  jumps = omega (arith, p.jumps, q.jumps);
  nodes = omega (arith, p.nodes, q.nodes);
  defined = omega (arith, p.defined, q.defined);
  used = omega (arith, p.used, q.used);
}

pub paid-label : (r l t u t' u' : Bulk) → IsAtMost t t' → IsAtMost (both r u) u' → IsAtMost (both r (both (both (both l u) nothing) t)) (both (both l t') u')
paid-label r l t u t' u' p q = record {
  labels = omega (arith, p.labels, q.labels);
  jumps = omega (arith, p.jumps, q.jumps);
  nodes = omega (arith, p.nodes, q.nodes);
  defined = omega (arith, p.defined, q.defined);
  used = omega (arith, p.used, q.used);
}

-- a last call pays for the label that its words come back to
pub paid-call : (b : Bool) (c : Bulk) → b ≡ true → IsAtMost (both (both a_label a_jump) (both a_jump (if b then c else nothing))) (both a_jump (if b then both (return_bulk true) c else nothing))
paid-call true c e = record { labels = omega arith; jumps = omega arith; nodes = omega arith; defined = omega arith; used = omega arith }
paid-call false c e = absurd (false≢true e)

-- the same without the empty labels after the first
pub returned : (t b : Bulk) → IsAtMost (both (both a_label a_jump) t) b → IsAtMost (both (both (both a_label a_jump) nothing) t) b
returned t b p = record {
  labels = omega (arith, p.labels);
  jumps = omega (arith, p.jumps);
  nodes = omega (arith, p.nodes);
  defined = omega (arith, p.defined);
  used = omega (arith, p.used);
}
