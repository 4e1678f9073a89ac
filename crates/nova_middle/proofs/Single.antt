-- From flows to the single-use form.
use Rattle.std.proofs.Common.{◌≡◌, ℕ, ◌+◌, ◌*◌, ◌≤◌, max, true, List, [], ◌∷◌, refl, sym, arith}
use Rattle.std.proofs.lemmas.Bool.{and_from}
use Rattle.std.proofs.lemmas.List.Elements.{All-head, All-tail}
use Rattle.std.proofs.lemmas.Nat.{mul-le}
use Rattle.nv_base.specs.Memories.{Memories}
use Rattle.nv_base.specs.Meanings.{Meaning, KeepsOutcomes, AreEqual}
use Rattle.nv_base.specs.Measures.{Bulk, IsAtMost}
use Rattle.nv_base.specs.Sets.{is_in}
use Rattle.nv_base.proofs.Same.{keeps-trans}
use Rattle.flow_ir.specs.Tree.{Tree, Let, Read, Write, If, Jump, Halt, Label}
use Rattle.flow_ir.specs.Wide.{live}
use Rattle.cps_rules.specs.Simplified.{IsTidy, AreTidy}
use Rattle.ssu_make.specs.Bounds.{size_bound, length_bound}
use Rattle.ssu_make.specs.Used.{lets_used, all_lets_used}
use Rattle.nova_middle.proofs.Whole.{equal_kept}

-- ---- a tidy flow defines nothing in vain

tidy_lets : (t : Tree) → IsTidy t → lets_used t ≡ true
tidy_lets (Let x a t) h = and_from (is_in x (live t)) (lets_used t) h.0.0 (tidy_lets t h.1)
tidy_lets (Read m xs a t) h = tidy_lets t h
tidy_lets (Write m a bs t) h = tidy_lets t h
tidy_lets (If c a b t u) h = and_from (lets_used t) (lets_used u) (tidy_lets t h.0) (tidy_lets u h.1)
tidy_lets (Jump l bs) h = refl
tidy_lets (Halt e bs) h = refl

pub tidy_labels : (ls : List Label) → AreTidy ls → all_lets_used ls ≡ true
tidy_labels [] h = refl
tidy_labels (l ∷ ls) h = and_from (lets_used l.body) (all_lets_used ls) (tidy_lets l.body (All-head (λ k. IsTidy k.body) l ls h)) (tidy_labels ls (All-tail (λ k. IsTidy k.body) l ls h))

-- ---- outcomes

pub made_kept : (a b c : ℕ) (m n k : List ℕ → Memories → Meaning) → KeepsOutcomes a b m n → b ≡ c → AreEqual b n k → KeepsOutcomes a c m k
made_kept a b c m n k first e second = keeps-trans a b c m n k first (equal_kept b c n k (sym e) second)

-- ---- bounds grow with width and bulk

size_sums : (l l' j j' n n' d d' u u' : ℕ) → l ≤ l' → j ≤ j' → n ≤ n' → d ≤ d' → u ≤ u' → l + (j + (n + 2 * d + 9 * u)) ≤ l' + (j' + (n' + 2 * d' + 9 * u'))
size_sums l l' j j' n n' d d' u u' p q r s t = omega arith

length_sums : (l l' j j' n n' d d' u u' : ℕ) → l ≤ l' → j ≤ j' → n ≤ n' → d ≤ d' → u ≤ u' → l + (j + (2 * n + 4 * d + 18 * u)) + 24 ≤ l' + (j' + (2 * n' + 4 * d' + 18 * u')) + 24
length_sums l l' j j' n n' d d' u u' p q r s t = omega arith

pub more_size : (w v : ℕ) (a b : Bulk) → w ≤ v → IsAtMost a b → size_bound w a ≤ size_bound v b
more_size w v a b le most =
    size_sums (a.labels * (1 + 2 * w)) (b.labels * (1 + 2 * v)) (a.jumps * (1 + 9 * max w 8)) (b.jumps * (1 + 9 * max v 8)) a.nodes b.nodes a.defined b.defined a.used b.used
    (mul-le a.labels (1 + 2 * w) b.labels (1 + 2 * v) most.labels (omega arith)) (mul-le a.jumps (1 + 9 * max w 8) b.jumps (1 + 9 * max v 8) most.jumps (omega arith)) most.nodes most.defined most.used

pub more_length : (w v : ℕ) (a b : Bulk) → w ≤ v → IsAtMost a b → length_bound w a ≤ length_bound v b
more_length w v a b le most =
    length_sums (a.labels * (3 * w)) (b.labels * (3 * v)) (a.jumps * (1 + 21 * max w 8)) (b.jumps * (1 + 21 * max v 8)) a.nodes b.nodes a.defined b.defined a.used b.used
    (mul-le a.labels (3 * w) b.labels (3 * v) most.labels (omega arith)) (mul-le a.jumps (1 + 21 * max w 8) b.jumps (1 + 21 * max v 8) most.jumps (omega arith)) most.nodes most.defined most.used
