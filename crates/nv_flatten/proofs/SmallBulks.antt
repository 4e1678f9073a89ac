-- Bulks put together, and the words that are left after them.
use Rattle.std.proofs.Common.{ℕ, ◌+◌, ◌*◌, ◌≤◌, Bool, true, false, if◌then◌else◌, List, [], ◌∷◌, ◌++◌, sym, subst, arith}
use Rattle.nv_ast.specs.Tree.{Tree}
use Rattle.flat_ir.specs.declared.flat.Flat.{Flat}
use Rattle.flat_ir.specs.declared.flat.FlatFun.{FlatFun}
use Rattle.flat_ir.specs.declared.spine.Step.{Step}
use Rattle.flat_ir.specs.Spine.{AreNodes}
use Rattle.nv_base.specs.Measures.{Bulk, nothing, a_label, a_jump, a_node, both, IsAtMost}
use Rattle.flat_ir.specs.Bulk.{Bulks, code_bulk}
use Rattle.flat_ir.specs.Pieces.{steps_bulk}
use Rattle.flat_ir.proofs.Parts.{nodes-bulk}
use Rattle.flat_ir.proofs.Appended.{bulk-append}
use Rattle.nv_base.proofs.Measures.{most-refl}
use Rattle.nv_flatten_values.specs.inner.Code.{is_given}
use Rattle.nv_flatten_values.specs.inner.Small.{of_parts, uses, lets, value_rest}

-- what is left after a comparison
abbrev pub decision : Bulk
decision = record { labels = 1; jumps = 2; nodes = 1; defined = 0; used = 3 }

-- ---- bounds

-- something more, and of it this is left after it
pub then-most : (whole s r more rest : Bulk) (m k all : ℕ) → IsAtMost whole (both s more) → IsAtMost (both s r) (of_parts m) → IsAtMost (both more rest) (both r (of_parts k)) → k + m ≤ all → IsAtMost (both whole rest) (of_parts all)
then-most whole s r more rest m k all w p q le = record {
  labels = omega (arith, w.labels, p.labels, q.labels);
  jumps = omega (arith, w.jumps, p.jumps, q.jumps);
  nodes = omega (arith, w.nodes, p.nodes, q.nodes);
  defined = omega (arith, w.defined, p.defined, q.defined);
  used = omega (arith, w.used, p.used, q.used);
}

-- something else is left
pub left-most : (s r rest : Bulk) (m k all : ℕ) → IsAtMost (both s r) (of_parts m) → IsAtMost rest (both r (of_parts k)) → k + m ≤ all → IsAtMost (both s rest) (of_parts all)
left-most s r rest m k all p q le = record {
  labels = omega (arith, p.labels, q.labels);
  jumps = omega (arith, p.jumps, q.jumps);
  nodes = omega (arith, p.nodes, q.nodes);
  defined = omega (arith, p.defined, q.defined);
  used = omega (arith, p.used, q.used);
}

-- two parts
two-most : (whole a b r s : Bulk) (m n : ℕ) → IsAtMost whole (both a b) → IsAtMost (both a r) (of_parts m) → IsAtMost (both b s) (of_parts n) → IsAtMost (both whole (both r s)) (of_parts (m + n))
two-most whole a b r s m n w p q = record {
  labels = omega (arith, w.labels, p.labels, q.labels);
  jumps = omega (arith, w.jumps, p.jumps, q.jumps);
  nodes = omega (arith, w.nodes, p.nodes, q.nodes);
  defined = omega (arith, w.defined, p.defined, q.defined);
  used = omega (arith, w.used, p.used, q.used);
}

-- without what is left
pub alone-most : (s r : Bulk) (m k all : ℕ) → IsAtMost (both s r) (of_parts m) → k + m ≤ all → IsAtMost s (of_parts all)
alone-most s r m k all p le = record {
  labels = omega (arith, p.labels);
  jumps = omega (arith, p.jumps);
  nodes = omega (arith, p.nodes);
  defined = omega (arith, p.defined);
  used = omega (arith, p.used);
}

-- ---- what is left

-- what is new is paid alone
pub paid : (more rest r : Bulk) (k : ℕ) → IsAtMost (both more rest) (of_parts k) → IsAtMost (both more rest) (both r (of_parts k))
paid more rest r k p = record {
  labels = omega (arith, p.labels);
  jumps = omega (arith, p.jumps);
  nodes = omega (arith, p.nodes);
  defined = omega (arith, p.defined);
  used = omega (arith, p.used);
}

-- the words stay, beside something that is paid
words-stay : (x y : Bulk) (n m k : ℕ) → m ≤ n + k → IsAtMost y (of_parts k) → y.used ≤ k → IsAtMost (both y (uses m)) (both (both x (uses n)) (of_parts k))
words-stay x y n m k le p less = record {
  labels = omega (arith, p.labels);
  jumps = omega (arith, p.jumps);
  nodes = omega (arith, p.nodes);
  defined = omega (arith, p.defined);
  used = omega (arith, p.used, less);
}

pub choice-most : (b : Bool) (x : Bulk) → IsAtMost (if b then x else nothing) x
choice-most true x = most-refl x
choice-most false x = record { labels = omega arith; jumps = omega arith; nodes = omega arith; defined = omega arith; used = omega arith }

-- a label and a jump, at most
pub rest-most : (e : Tree) (k : ℕ) → 1 ≤ k → IsAtMost (value_rest e) (of_parts k)
rest-most e k le =
    let p = choice-most (is_given e) (both a_label a_jump) in
    record { labels = omega (arith, p.labels); jumps = omega (arith, p.jumps); nodes = omega (arith, p.nodes); defined = omega (arith, p.defined); used = omega (arith, p.used) }

rest-nodes : (e : Tree) → (value_rest e).nodes ≤ 0
rest-nodes e = omega (arith, (choice-most (is_given e) (both a_label a_jump)).nodes)

rest-defined : (e : Tree) → (value_rest e).defined ≤ 0
rest-defined e = omega (arith, (choice-most (is_given e) (both a_label a_jump)).defined)

pub rest-unused : (e : Tree) (k : ℕ) → (value_rest e).used ≤ k
rest-unused e k = omega (arith, (choice-most (is_given e) (both a_label a_jump)).used)

-- ---- steps and code
module _ (funs : List FlatFun) (bulks : Bulks) (own : ℕ) where
  steps-tail : (ss : List Step) (b : Bulk) → IsAtMost (steps_bulk funs bulks own ss b) (both (steps_bulk funs bulks own ss nothing) b)
  steps-tail [] b = record { labels = omega arith; jumps = omega arith; nodes = omega arith; defined = omega arith; used = omega arith }
  steps-tail (s ∷ ss) b =
      let p = steps-tail ss b in
      record { labels = omega (arith, p.labels); jumps = omega (arith, p.jumps); nodes = omega (arith, p.nodes); defined = omega (arith, p.defined); used = omega (arith, p.used) }

  pub steps-then : (ss ts : List Step) → IsAtMost (steps_bulk funs bulks own (ss ++ ts) nothing) (both (steps_bulk funs bulks own ss nothing) (steps_bulk funs bulks own ts nothing))
  steps-then ss ts =
      subst (λ b. IsAtMost b (both (steps_bulk funs bulks own ss nothing) (steps_bulk funs bulks own ts nothing))) (sym (bulk-append funs bulks own ss ts nothing)) (steps-tail ss (steps_bulk funs bulks own ts nothing))

  pub code-then : (last : Bool) (ss : List Step) (t u : Flat) → AreNodes ss t u → IsAtMost (code_bulk funs bulks own last u) (both (steps_bulk funs bulks own ss nothing) (code_bulk funs bulks own last t))
  code-then last ss t u nodes =
      subst (λ b. IsAtMost b (both (steps_bulk funs bulks own ss nothing) (code_bulk funs bulks own last t))) (sym (nodes-bulk funs bulks own last ss t u nodes)) (steps-tail ss (code_bulk funs bulks own last t))

-- ---- with the words of a value behind

-- the words of a part are those of the whole, or some of them
pub stay-most : (s x : Bulk) (e : Tree) (n m size all : ℕ) → IsAtMost (both s (both x (uses n))) (of_parts size) → m ≤ n + 1 → 1 + size ≤ all → IsAtMost (both s (both (value_rest e) (uses m))) (of_parts all)
stay-most s x e n m size all p few le =
    left-most s (both x (uses n)) (both (value_rest e) (uses m)) size 1 all p (words-stay x (value_rest e) n m 1 few (rest-most e 1 (omega arith)) (rest-unused e 1)) le

-- one more primitive, and its word
pub let-most : (whole s r : Bulk) (e : Tree) (size all : ℕ) → IsAtMost whole (both s (lets 1)) → IsAtMost (both s r) (of_parts size) → 2 + size ≤ all → IsAtMost (both whole (both (value_rest e) (uses 1))) (of_parts all)
let-most whole s r e size all w p le =
    let q = rest-most e 1 (omega arith) in
    let z = rest-unused e 0 in
    then-most whole s r (lets 1) (both (value_rest e) (uses 1)) size 2 all w p
    (paid (lets 1) (both (value_rest e) (uses 1)) r 2 (record { labels = omega (arith, q.labels); jumps = omega (arith, q.jumps); nodes = omega (arith, q.nodes); defined = omega (arith, q.defined); used = omega (arith, z) })) le

-- nothing is wanted of it
pub most-alone : (s : Bulk) (m : ℕ) → IsAtMost s (of_parts m) → IsAtMost (both s nothing) (of_parts m)
most-alone s m p = record { labels = omega (arith, p.labels); jumps = omega (arith, p.jumps); nodes = omega (arith, p.nodes); defined = omega (arith, p.defined); used = omega (arith, p.used) }

-- words, beside nothing
pub most-words : (s : Bulk) (n m : ℕ) → IsAtMost (both s (uses n)) (of_parts m) → IsAtMost (both s (both nothing (uses n))) (of_parts m)
most-words s n m p = record { labels = omega (arith, p.labels); jumps = omega (arith, p.jumps); nodes = omega (arith, p.nodes); defined = omega (arith, p.defined); used = omega (arith, p.used) }

-- code at whose label the words come, as a step
pub bound-most : (code : Bulk) (n all : ℕ) → IsAtMost (both code (both a_label (uses n))) (of_parts all) → IsAtMost (both (both (both a_label code) nothing) (both nothing (uses n))) (of_parts all)
bound-most code n all p = record { labels = omega (arith, p.labels); jumps = omega (arith, p.jumps); nodes = omega (arith, p.nodes); defined = omega (arith, p.defined); used = omega (arith, p.used) }

-- two operands of an operator, whose words aren't wanted any more
pub operands-most : (whole a b r s : Bulk) (m n : ℕ) → IsAtMost whole (both a b) → IsAtMost (both a r) (of_parts m) → IsAtMost (both b s) (of_parts n) → IsAtMost whole (of_parts (m + n))
operands-most whole a b r s m n w p q = alone-most whole (both r s) (m + n) 0 (m + n) (two-most whole a b r s m n w p q) (omega arith)

-- ---- one after another

pub more-most : (a : Bulk) (m all : ℕ) → IsAtMost a (of_parts m) → m ≤ all → IsAtMost a (of_parts all)
more-most a m all p le = record { labels = omega (arith, p.labels); jumps = omega (arith, p.jumps); nodes = omega (arith, p.nodes); defined = omega (arith, p.defined); used = omega (arith, p.used) }

pub both-most : (whole a b : Bulk) (m k all : ℕ) → IsAtMost whole (both a b) → IsAtMost a (of_parts m) → IsAtMost b (of_parts k) → m + k ≤ all → IsAtMost whole (of_parts all)
both-most whole a b m k all w p q le = record {
  labels = omega (arith, w.labels, p.labels, q.labels);
  jumps = omega (arith, w.jumps, p.jumps, q.jumps);
  nodes = omega (arith, w.nodes, p.nodes, q.nodes);
  defined = omega (arith, w.defined, p.defined, q.defined);
  used = omega (arith, w.used, p.used, q.used);
}

-- what is left after the second is left behind both
pub after-most : (whole a b r : Bulk) (m k all : ℕ) → IsAtMost whole (both a b) → IsAtMost a (of_parts m) → IsAtMost (both b r) (of_parts k) → m + k ≤ all → IsAtMost (both whole r) (of_parts all)
after-most whole a b r m k all w p q le = record {
  labels = omega (arith, w.labels, p.labels, q.labels);
  jumps = omega (arith, w.jumps, p.jumps, q.jumps);
  nodes = omega (arith, w.nodes, p.nodes, q.nodes);
  defined = omega (arith, w.defined, p.defined, q.defined);
  used = omega (arith, w.used, p.used, q.used);
}

-- the words of both are wanted
pub front-most : (whole a b x : Bulk) (n m k size rest : ℕ) → IsAtMost whole (both a b) → IsAtMost (both a (both x (uses n))) (of_parts size) → IsAtMost (both b (uses m)) (of_parts rest) → k ≤ n + m → IsAtMost (both whole (uses k)) (of_parts (size + rest))
front-most whole a b x n m k size rest w p q le = record {
  labels = omega (arith, w.labels, p.labels, q.labels);
  jumps = omega (arith, w.jumps, p.jumps, q.jumps);
  nodes = omega (arith, w.nodes, p.nodes, q.nodes);
  defined = omega (arith, w.defined, p.defined, q.defined);
  used = omega (arith, w.used, p.used, q.used);
}

-- words that are stored
pub stored-most : (whole mid a b x y : Bulk) (n m k size rest all : ℕ) → IsAtMost whole (both mid (both (a_node 0 (1 + k)) nothing)) → IsAtMost mid (both a b) → IsAtMost (both a (both x (uses n))) (of_parts size) → IsAtMost (both b (both y (uses m))) (of_parts rest)
    → k ≤ m → 1 + (size + rest) ≤ all → IsAtMost whole (of_parts all)
stored-most whole mid a b x y n m k size rest all w v p q few le = record {
  labels = omega (arith, w.labels, v.labels, p.labels, q.labels);
  jumps = omega (arith, w.jumps, v.jumps, p.jumps, q.jumps);
  nodes = omega (arith, w.nodes, v.nodes, p.nodes, q.nodes);
  defined = omega (arith, w.defined, v.defined, p.defined, q.defined);
  used = omega (arith, w.used, v.used, p.used, q.used);
}

-- something beside
pub beside-most : (s rest : Bulk) (m k all : ℕ) → IsAtMost s (of_parts m) → IsAtMost rest (of_parts k) → m + k ≤ all → IsAtMost (both s rest) (of_parts all)
beside-most s rest m k all p q le = record {
  labels = omega (arith, p.labels, q.labels);
  jumps = omega (arith, p.jumps, q.jumps);
  nodes = omega (arith, p.nodes, q.nodes);
  defined = omega (arith, p.defined, q.defined);
  used = omega (arith, p.used, q.used);
}

-- ---- endings: a label is left, at which the words come

-- the words of a value
pub given-most : (whole s : Bulk) (n m all : ℕ) → IsAtMost whole (both s a_jump) → IsAtMost (both s (both (both a_label a_jump) (uses n))) (of_parts all) → m ≤ n → IsAtMost (both whole (both a_label (uses m))) (of_parts all)
given-most whole s n m all w p le = record {
  labels = omega (arith, w.labels, p.labels);
  jumps = omega (arith, w.jumps, p.jumps);
  nodes = omega (arith, w.nodes, p.nodes);
  defined = omega (arith, w.defined, p.defined);
  used = omega (arith, w.used, p.used, le);
}

-- a jump, and what is called
pub jump-most : (whole s call : Bulk) (n m k all : ℕ) → IsAtMost whole (both s (both a_jump call)) → IsAtMost s (of_parts m) → IsAtMost call (of_parts k) → 1 + n + (k + m) ≤ all → IsAtMost (both whole (both a_label (uses n))) (of_parts all)
jump-most whole s call n m k all w p q le = record {
  labels = omega (arith, w.labels, p.labels, q.labels);
  jumps = omega (arith, w.jumps, p.jumps, q.jumps);
  nodes = omega (arith, w.nodes, p.nodes, q.nodes);
  defined = omega (arith, w.defined, p.defined, q.defined);
  used = omega (arith, w.used, p.used, q.used);
}

-- a choice between two endings after a test
pub branch-most : (whole s t u : Bulk) (a b n size first second all : ℕ) → IsAtMost whole (both s (both (a_node 0 2) (both t u))) → IsAtMost s (of_parts size) → IsAtMost (both t (both a_label (uses a))) (of_parts first) → IsAtMost (both u (both a_label (uses b))) (of_parts second)
    → n ≤ a + b → 1 + (size + (first + second)) ≤ all → IsAtMost (both whole (both a_label (uses n))) (of_parts all)
branch-most whole s t u a b n size first second all w p q v few le = record {
  labels = omega (arith, w.labels, p.labels, q.labels, v.labels);
  jumps = omega (arith, w.jumps, p.jumps, q.jumps, v.jumps);
  nodes = omega (arith, w.nodes, p.nodes, q.nodes, v.nodes);
  defined = omega (arith, w.defined, p.defined, q.defined, v.defined);
  used = omega (arith, w.used, p.used, q.used, v.used);
}

-- an ending and its handler
pub handled-most : (t u : Bulk) (a b n first second all : ℕ) → IsAtMost (both t (both a_label (uses a))) (of_parts first) → IsAtMost (both u (both a_label (uses b))) (of_parts second) → n ≤ a + b → first + second ≤ all
    → IsAtMost (both (both (both a_label t) u) (both a_label (uses n))) (of_parts all)
handled-most t u a b n first second all p q few le = record {
  labels = omega (arith, p.labels, q.labels);
  jumps = omega (arith, p.jumps, q.jumps);
  nodes = omega (arith, p.nodes, q.nodes);
  defined = omega (arith, p.defined, q.defined);
  used = omega (arith, p.used, q.used);
}

-- ---- primitives after a value that compute the words of another
pub lets-most : (whole s x : Bulk) (e : Tree) (count n m k size all : ℕ) → IsAtMost whole (both s (lets count)) → IsAtMost (both s (both x (uses n))) (of_parts size) → count ≤ k → 1 ≤ k → 2 * count + m ≤ n + 2 * k → k + size ≤ all
    → IsAtMost (both whole (both (value_rest e) (uses m))) (of_parts all)
lets-most whole s x e count n m k size all w p few one less le =
    let q = rest-most e 1 (omega arith) in
    let z = rest-unused e 0 in
    then-most whole s (both x (uses n)) (lets count) (both (value_rest e) (uses m)) size k all w p
    (record { labels = omega (arith, q.labels); jumps = omega (arith, q.jumps); nodes = omega (arith, few, q.nodes, rest-nodes e); defined = omega (arith, few, rest-defined e); used = omega (arith, z, less) }) le

-- a comparison, and two endings that give a word each
pub decided-most : (whole s : Bulk) (all : ℕ) → IsAtMost whole (both s (both (a_node 0 2) (both a_jump a_jump))) → IsAtMost (both s decision) (of_parts all) → IsAtMost (both whole (both a_label (uses 1))) (of_parts all)
decided-most whole s all w p = record {
  labels = omega (arith, w.labels, p.labels);
  jumps = omega (arith, w.jumps, p.jumps);
  nodes = omega (arith, w.nodes, p.nodes);
  defined = omega (arith, w.defined, p.defined);
  used = omega (arith, w.used, p.used);
}

-- one word, given
pub word-given : IsAtMost (both a_jump (both a_label (uses 1))) (of_parts 1)
word-given = record { labels = omega arith; jumps = omega arith; nodes = omega arith; defined = omega arith; used = omega arith }
