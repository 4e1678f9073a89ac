-- Trees of fields: their leaves, and how one more field stands after a tree.
use Rattle.std.proofs.Common.{◌≡◌, ◌∙◌, refl, ap, sym, ℕ, Bool, true, false, cond, eqb, List, [], ◌∷◌, ◌++◌, append_assoc}
use Rattle.nv_types_table.specs.inner.Rows.{Row, one, both, leaves, depth, carried, hung, grown}

-- the leaves of some rows, the last of them first
abbrev pub all_leaves : List Row → List (ℕ × ℕ)
all_leaves [] = []
all_leaves (t ∷ ts) = all_leaves ts ++ leaves t

pub leaves_hung : (ts : List Row) (u : Row) → leaves (hung ts u) ≡ all_leaves ts ++ leaves u
leaves_hung [] u = refl
leaves_hung (t ∷ ts) u = leaves_hung ts (both t u) ∙ sym (append_assoc (all_leaves ts) (leaves t) (leaves u))

pub leaves_carried : (ts : List Row) (u : Row) → all_leaves (carried ts u) ≡ all_leaves ts ++ leaves u
leaves_carried [] u = refl
leaves_carried (t ∷ ts) u = by (eqb (depth t) (depth u)) (leaves_carried ts (both t u))
  where
    by : (b : Bool) → all_leaves (carried ts (both t u)) ≡ all_leaves ts ++ (leaves t ++ leaves u) → all_leaves (cond b (carried ts (both t u)) (u ∷ t ∷ ts)) ≡ (all_leaves ts ++ leaves t) ++ leaves u
    by true e = e ∙ sym (append_assoc (all_leaves ts) (leaves t) (leaves u))
    by false e = refl

pub leaves_grown : (ts : List Row) (p : ℕ × ℕ) (ps : List (ℕ × ℕ)) → leaves (grown ts p ps) ≡ all_leaves ts ++ p ∷ ps
leaves_grown ts p [] = leaves_hung ts (one p)
leaves_grown ts p (q ∷ qs) = leaves_grown (carried ts (one p)) q qs ∙ ap (λ l. l ++ q ∷ qs) (leaves_carried ts (one p)) ∙ append_assoc (all_leaves ts) (p ∷ []) (q ∷ qs)

-- the tree of a list has its fields as leaves
pub leaves_row : (p : ℕ × ℕ) (ps : List (ℕ × ℕ)) → leaves (grown [] p ps) ≡ p ∷ ps
leaves_row p ps = leaves_grown [] p ps

-- ---- more fields after a list: they stand after the rows along its right edge
pub record IsEdge (ts : List Row) (p : ℕ × ℕ) (ps : List (ℕ × ℕ)) : Type 0 where
  pub rows : List Row
  pub last : ℕ × ℕ
  pub whole : grown ts p ps ≡ hung rows (one last)
  pub behind : (qs : List (ℕ × ℕ)) → grown ts p (ps ++ qs) ≡ grown rows last qs

pub grown_edge : (ts : List Row) (p : ℕ × ℕ) (ps : List (ℕ × ℕ)) → IsEdge ts p ps
grown_edge ts p [] = record { rows = ts; last = p; whole = refl; behind = λ qs. refl }
grown_edge ts p (q ∷ qs) = let e = grown_edge (carried ts (one p)) q qs in record { rows = e.rows; last = e.last; whole = e.whole; behind = e.behind }
