-- The arithmetic of widths and bulks.
use Rattle.std.proofs.Common.{◌≡◌, ℕ, ◌+◌, ◌≤◌, max, Bool, true, false, List, [], ◌∷◌, refl, if◌then◌else◌, length, arith}
use Rattle.nv_base.specs.declared.term.Atom.{Atom}
use Rattle.nv_base.specs.Sets.{different, without, all_vars, Within}
use Rattle.nv_base.specs.Measures.{operands_wide, let_wide, entry_wide, Bulk, nothing, both, IsAtMost}
use Rattle.nv_base.proofs.Sets.{different-below, within-without_same}

-- ---- widths

pub plus : (m n k : ℕ) → m ≤ n → m + k ≤ n + k
plus m n k le = omega arith

pub operands-more : (held held' : List ℕ) (as' : List Atom) → Within held held' → operands_wide held as' ≤ operands_wide held' as'
operands-more held held' [] h = different-below held held' h
operands-more held held' (a ∷ as') h =
    let gone = all_vars (a ∷ as') in
    let le : different (without held gone) ≤ different (without held' gone) = different-below (without held gone) (without held' gone) (within-without_same held held' gone h) in
    let k = length (a ∷ as') + 1 in
    plus (different (without held gone)) (different (without held' gone)) k le

pub let-more : (held held' : List ℕ) → Within held held' → let_wide held ≤ let_wide held'
let-more held held' h = plus (different held) (different held') 3 (different-below held held' h)

pub entry-more : (held held' : List ℕ) (n : ℕ) → Within held held' → entry_wide held n ≤ entry_wide held' n
entry-more held held' n h = plus (different held) (different held') (n + 1) (different-below held held' h)

pub max-mono : (a b c d : ℕ) → a ≤ b → c ≤ d → max a c ≤ max b d
max-mono a b c d p q = omega arith

pub max-same : (a c d : ℕ) → c ≤ d → max a c ≤ max a d
max-same a c d q = omega arith

-- ---- bulks

pub most-refl : (a : Bulk) → IsAtMost a a
most-refl a = record { labels = omega arith; jumps = omega arith; nodes = omega arith; defined = omega arith; used = omega arith }

pub most-trans : (a b c : Bulk) → IsAtMost a b → IsAtMost b c → IsAtMost a c
most-trans a b c p q = record {
  labels = omega (arith, p.labels, q.labels);
  jumps = omega (arith, p.jumps, q.jumps);
  nodes = omega (arith, p.nodes, q.nodes);
  defined = omega (arith, p.defined, q.defined);
  used = omega (arith, p.used, q.used);
}

pub most-none : (a : Bulk) → IsAtMost nothing a
most-none a = record { labels = omega arith; jumps = omega arith; nodes = omega arith; defined = omega arith; used = omega arith }

pub most-both : (a b c d : Bulk) → IsAtMost a b → IsAtMost c d → IsAtMost (both a c) (both b d)
most-both a b c d p q = record {
  labels = omega (arith, p.labels, q.labels);
  jumps = omega (arith, p.jumps, q.jumps);
  nodes = omega (arith, p.nodes, q.nodes);
  defined = omega (arith, p.defined, q.defined);
  used = omega (arith, p.used, q.used);
}

pub most-if : (b : Bool) (c d : Bulk) → (b ≡ true → IsAtMost c d) → IsAtMost (if b then c else nothing) (if b then d else nothing)
most-if true c d h = h refl
most-if false c d h = most-refl nothing

pub most-behind : (a c d : Bulk) → IsAtMost c d → IsAtMost (both a c) (both a d)
most-behind a c d h = most-both a a c d (most-refl a) h
