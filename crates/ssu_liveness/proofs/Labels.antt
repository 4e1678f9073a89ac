-- The trees of labels, as they lie in the slots.
use Rattle.std.proofs.Common.{◌≡◌, ℕ, zero, suc, ◌<◌, List, [], ◌∷◌, ◌++◌, length, refl, sym, ap, ◌∙◌, append_assoc, arith}
use Rattle.std.specs.Prelude.{slice_index_or}
use Rattle.std.proofs.lemmas.List.{append-nil}
use Rattle.ssu_ir.specs.declared.node.SsuLabel.{SsuLabel}
use Rattle.ssu_ir.specs.declared.node.SsuNode.{SsuNode}
use Rattle.ssu_ir.specs.declared.ssu.Ssu.{Ssu}
use Rattle.ssu_ir.specs.Tree.{Label, Node, Does, Forks, Ends, Halt}
use Rattle.ssu_ir.specs.Slots.{Placed, DoAt, IfAt, EndAt, root, roots_of, successor_list, bare, bare_all, Slots, Stands, AllStand, bodies, node_of, over}
use Rattle.ssu_ir.specs.View.{placed_of, with_bodies, labels_view}
use Rattle.ssu_ir.proofs.Reading.{read_in, Below}
use Rattle.ssu_ir.proofs.Trees.{arity}
use Rattle.ssu_ir.specs.Points.{Names}
use Rattle.ssu_liveness.specs.inner.Live.{label_tree, row_over, root_row, tree_rows, root_rows, all_rows, on_stack, Takes}
use Rattle.ssu_liveness.specs.LiveRows.{Kept}
use Rattle.ssu_liveness.proofs.RowSteps.{on-stack-push}

-- the tree of a label: it stands, its root is the body, and the label's view has it
pub record TreeAt (s : Ssu) (k : ℕ) : Type 0 where
  pub stands : Stands s.nodes.slots (label_tree s k)
  pub at_body : (d : SsuLabel) → root (label_tree s k) ≡ (slice_index_or s.labels.items k d).body.0
  pub view_is : (d : SsuLabel) (e : Label) → slice_index_or (labels_view s) k e ≡ record { params = (slice_index_or s.labels.items k d).params.items; body = bare (label_tree s k) }

record PlacedAt (slots : Slots) (ls : List SsuLabel) (ps : List Placed) (k : ℕ) : Type 0 where
  stands : Stands slots (slice_index_or ps k (EndAt 0 (Halt 0 [])))
  at_body : (d : SsuLabel) → root (slice_index_or ps k (EndAt 0 (Halt 0 []))) ≡ (slice_index_or ls k d).body.0
  view_is : (d : SsuLabel) (e : Label) → slice_index_or (with_bodies ls (bare_all ps)) k e ≡ record { params = (slice_index_or ls k d).params.items; body = bare (slice_index_or ps k (EndAt 0 (Halt 0 []))) }

placed-at : (slots : Slots) (ls : List SsuLabel) (ps : List Placed) (k : ℕ) → roots_of ps ≡ bodies ls → AllStand slots ps → k < length ls → PlacedAt slots ls ps k
placed-at slots [] ps k r h l = absurd (omega arith)
placed-at slots (m ∷ ls) [] k r h l = absurd (cc)
placed-at slots (m ∷ ls) (p ∷ ps) zero r h l = record { stands = h.0; at_body = λ d. cc; view_is = λ d e. refl }
placed-at slots (m ∷ ls) (p ∷ ps) (suc k) r h l =
    let rest : roots_of ps ≡ bodies ls = cc in
    let w = placed-at slots ls ps k rest h.1 (omega arith) in
    record { stands = w.stands; at_body = w.at_body; view_is = w.view_is }

pub tree-at : (s : Ssu) (k : ℕ) → k < length s.labels.items → TreeAt s k
tree-at s k l =
    let r = read_in s.nodes.slots (bodies s.labels.items) s.formed in
    let w = placed-at s.nodes.slots s.labels.items (placed_of s) k r.at_numbers r.stand l in
    record { stands = w.stands; at_body = w.at_body; view_is = w.view_is }

-- ---- rows

pub root_rows-append : (of : Names) (a b : List Placed) → root_rows of (a ++ b) ≡ root_rows of a ++ root_rows of b
root_rows-append of [] b = refl
root_rows-append of (p ∷ a) b = ap (λ l. root_row of (bare p) ∷ l) (root_rows-append of a b)

pub all_rows-one : (of : Names) (p : Placed) → all_rows of (p ∷ []) ≡ tree_rows of (bare p)
all_rows-one of p = append-nil (tree_rows of (bare p))

-- the row of a root, by those of the trees below
pub row-of-root : (of : Names) (p : Placed) → (n : Node) → bare p ≡ over n (bare_all (successor_list p)) → length (successor_list p) ≡ arity n → root_row of (bare p) ≡ row_over of n (root_rows of (successor_list p))
row-of-root of (DoAt i r p) (Does s) e l = let same : r ≡ s = cc in ap (λ q. row_over of (Does q) (root_row of (bare p) ∷ [])) same
row-of-root of (DoAt i r p) (Forks c x y) e l = absurd (omega arith)
row-of-root of (DoAt i r p) (Ends w) e l = absurd (omega arith)
row-of-root of (IfAt i c x y p q) (Does s) e l = absurd (omega arith)
row-of-root of (IfAt i c x y p q) (Forks d v w) e l =
    let a : x ≡ v = cc in
    let b : y ≡ w = cc in
    ap (λ z. row_over of (Forks d z y) (root_row of (bare p) ∷ root_row of (bare q) ∷ [])) a ∙ ap (λ z. row_over of (Forks d v z) (root_row of (bare p) ∷ root_row of (bare q) ∷ [])) b
row-of-root of (IfAt i c x y p q) (Ends w) e l = absurd (omega arith)
row-of-root of (EndAt i v) (Does s) e l = absurd (omega arith)
row-of-root of (EndAt i v) (Forks c x y) e l = absurd (omega arith)
row-of-root of (EndAt i v) (Ends w) e l = let same : v ≡ w = cc in ap (λ z. row_over of (Ends z) []) same

pub tree_rows-root : (of : Names) (p : Placed) → tree_rows of (bare p) ≡ root_row of (bare p) ∷ all_rows of (successor_list p)
tree_rows-root of (DoAt i s p) = ap (λ l. root_row of (bare (DoAt i s p)) ∷ l) (sym (all_rows-one of p))
tree_rows-root of (IfAt i c x y p q) = ap (λ l. root_row of (bare (IfAt i c x y p q)) ∷ (tree_rows of (bare p) ++ l)) (sym (all_rows-one of q))
tree_rows-root of (EndAt i w) = refl

pub all_rows-append : (of : Names) (a b : List Placed) → all_rows of (a ++ b) ≡ all_rows of a ++ all_rows of b
all_rows-append of [] b = refl
all_rows-append of (p ∷ a) b = ap (λ l. tree_rows of (bare p) ++ l) (all_rows-append of a b) ∙ sym (append_assoc (tree_rows of (bare p)) (all_rows of a) (all_rows of b))

length-root_rows : (of : Names) (ps : List Placed) → length (root_rows of ps) ≡ length ps
length-root_rows of [] = refl
length-root_rows of (p ∷ ps) = omega (arith, length-root_rows of ps)

-- the rows of the trees that are made, once one node more is done
pub record Grown (of : Names) (top : Placed) (rest : List Placed) (lives out : List Kept) : Type 0 where
  pub roots : on_stack lives ≡ root_rows of (top ∷ rest)
  pub rows : on_stack out ≡ all_rows of (top ∷ rest)

pub grown : (of : Names) (top : Placed) (rest made : List Placed) (slots : Slots) (n : SsuNode) (old mid new rows more' : List Kept) (row copy : Kept) → made ≡ successor_list top ++ rest → Below slots top n
    → on_stack old ≡ root_rows of made → on_stack rows ≡ all_rows of made → Takes old mid (λ rs. row.items ≡ row_over of (node_of n) rs) (arity (node_of n))
    → new ≡ mid ++ row ∷ [] → copy.items ≡ row.items → more' ≡ rows ++ copy ∷ [] → Grown of top rest new more'
grown of top rest made slots n old mid new rows more' row copy u b f g t e c h =
    let parts : on_stack old ≡ root_rows of (successor_list top) ++ root_rows of rest = f ∙ ap (λ l. root_rows of l) u ∙ root_rows-append of (successor_list top) rest in
    let w = t.taken (root_rows of (successor_list top)) (root_rows of rest) parts (length-root_rows of (successor_list top) ∙ b.many) in
    let it : row.items ≡ root_row of (bare top) = w.0 ∙ sym (row-of-root of top (node_of n) b.tree b.many) in
    record {
      roots = ap on_stack e ∙ on-stack-push mid row ∙ ap (λ l. l ∷ on_stack mid) it ∙ ap (λ l. root_row of (bare top) ∷ l) w.1;
      rows = ap on_stack h ∙ on-stack-push rows copy ∙ ap (λ l. l ∷ on_stack rows) (c ∙ it)
          ∙ ap (λ l. root_row of (bare top) ∷ l) (g ∙ ap (λ l. all_rows of l) u ∙ all_rows-append of (successor_list top) rest)
          ∙ ap (λ l. l ++ all_rows of rest) (sym (tree_rows-root of top));
    }
