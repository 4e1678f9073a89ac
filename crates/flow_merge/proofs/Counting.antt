-- How much code there is, node by node and label by label.
use Rattle.std.proofs.Common.{◌≡◌, ℕ, ◌+◌, ◌<◌, ◌≤◌, List, [], ◌∷◌, ◌++◌, map, sym, ap, ◌∙◌, length, take, get_or, arith}
use Rattle.std.proofs.lemmas.List.{map_more}
use Rattle.nv_base.specs.Measures.{Bulk, a_label, a_jump, a_node, both}
use Rattle.flow_ir.specs.Bulk.{tree_bulk, bulk}
use Rattle.flow_ir.specs.Tree.{Label}
use Rattle.flow_ir.specs.View.{tree_view, label_view}
use Rattle.flow_ir.specs.declared.flow.Label.{Label as FlowLabel}
use Rattle.flow_ir.specs.declared.flow.Tree.{Tree, size-Tree}
use Rattle.flow_ir.specs.declared.flow.Tree.TheVariants.{Let', Read', Write', If'}
use Rattle.flow_ir.specs.declared.flow.Tree.TheViews.{deep-Let', deep-Read', deep-Write', deep-If'}
use Rattle.flow_ir.proofs.Mentions.{smaller}
use Rattle.flow_merge.specs.declared.sizes.Sizes.{Sizes}
use Rattle.flow_merge.specs.inner.Sizes.{bulk_of}

pub bulk_same : (a b : Bulk) → a.labels ≡ b.labels → a.jumps ≡ b.jumps → a.nodes ≡ b.nodes → a.defined ≡ b.defined → a.used ≡ b.used → a ≡ b
bulk_same a b p q r s t = λ i. record { labels = p i; jumps = q i; nodes = r i; defined = s i; used = t i }

pub both_assoc : (a b c : Bulk) → both a (both b c) ≡ both (both a b) c
both_assoc a b c = bulk_same (both a (both b c)) (both (both a b) c) (omega arith) (omega arith) (omega arith) (omega arith) (omega arith)

-- the tree from here on is still to be counted
pub record Counted (s : Sizes) (t cur : Tree) (now : Sizes) : Type 0 where
  pub sum : both (bulk_of now) (tree_bulk (tree_view cur)) ≡ both (bulk_of s) (tree_bulk (tree_view t))
  pub size : size-Tree cur ≤ size-Tree t

pub counted_step : {s now : Sizes} {t cur : Tree} (b : Bulk) (rest : Tree) (next : Sizes) → Counted s t cur now → tree_bulk (tree_view cur) ≡ both b (tree_bulk (tree_view rest)) → bulk_of next ≡ both (bulk_of now) b → size-Tree rest ≤ size-Tree cur → Counted s t rest next
counted_step {now = now} b rest next h e added le = record {
  sum = ap (λ z. both z (tree_bulk (tree_view rest))) added ∙ sym (both_assoc (bulk_of now) b (tree_bulk (tree_view rest))) ∙ ap (both (bulk_of now)) (sym e) ∙ h.sum;
  size = let more = h.size in omega arith;
}

pub counted_let : {s now : Sizes} {t cur : Tree} (x : ℕ) (p : _) (q : _) (r rest : Tree) (next : Sizes) → Counted s t cur now → cur ≡ Let' x p q r → rest ≡ r → bulk_of next ≡ both (bulk_of now) (a_node 1 2) → Counted s t rest next
counted_let {cur = cur} x p q r rest next h is e added =
    counted_step (a_node 1 2) rest next h (ap (λ z. tree_bulk (tree_view z)) is ∙ ap (λ z. both (a_node 1 2) (tree_bulk (tree_view z))) (sym e)) added (smaller cur (Let' x p q r) rest r is e (omega (arith, deep-Let' x p q r)))

pub counted_read : {s now : Sizes} {t cur : Tree} (m : _) (xs : _) (a : _) (q : _) (r rest : Tree) (next : Sizes) → Counted s t cur now → cur ≡ Read' m xs a q r → rest ≡ r → bulk_of next ≡ both (bulk_of now) (a_node (length xs.items) 1) → Counted s t rest next
counted_read {cur = cur} m xs a q r rest next h is e added =
    counted_step (a_node (length xs.items) 1) rest next h (ap (λ z. tree_bulk (tree_view z)) is ∙ ap (λ z. both (a_node (length xs.items) 1) (tree_bulk (tree_view z))) (sym e)) added
    (smaller cur (Read' m xs a q r) rest r is e (omega (arith, deep-Read' m xs a q r)))

pub counted_write : {s now : Sizes} {t cur : Tree} (m : _) (a : _) (bs : _) (q : _) (r rest : Tree) (next : Sizes) → Counted s t cur now → cur ≡ Write' m a bs q r → rest ≡ r → bulk_of next ≡ both (bulk_of now) (a_node 0 (1 + length bs.items)) → Counted s t rest next
counted_write {cur = cur} m a bs q r rest next h is e added =
    counted_step (a_node 0 (1 + length bs.items)) rest next h (ap (λ z. tree_bulk (tree_view z)) is ∙ ap (λ z. both (a_node 0 (1 + length bs.items)) (tree_bulk (tree_view z))) (sym e)) added
    (smaller cur (Write' m a bs q r) rest r is e (omega (arith, deep-Write' m a bs q r)))

pub counted_if : {s now : Sizes} {t cur : Tree} (c a b : _) (q q' : _) (f r part rest : Tree) (one next : Sizes) → Counted s t cur now → cur ≡ If' c a b q f q' r → part ≡ f → rest ≡ r → bulk_of one ≡ both (bulk_of now) (a_node 0 2) → bulk_of next ≡ both (bulk_of one) (tree_bulk (tree_view part)) → Counted s t rest next
counted_if {now = now} {cur = cur} c a b q q' f r part rest one next h is ef e node added =
    counted_step (both (a_node 0 2) (tree_bulk (tree_view part))) rest next h
    (ap (λ z. tree_bulk (tree_view z)) is ∙ ap (λ z. both (a_node 0 2) (both (tree_bulk (tree_view z)) (tree_bulk (tree_view r)))) (sym ef) ∙ ap (λ z. both (a_node 0 2) (both (tree_bulk (tree_view part)) (tree_bulk (tree_view z)))) (sym e)
    ∙ both_assoc (a_node 0 2) (tree_bulk (tree_view part)) (tree_bulk (tree_view rest)))
    (added ∙ ap (λ z. both z (tree_bulk (tree_view part))) node ∙ sym (both_assoc (bulk_of now) (a_node 0 2) (tree_bulk (tree_view part))))
    (smaller cur (If' c a b q f q' r) rest r is e (omega (arith, deep-If' c a b q f q' r)))

pub counted_end : {s now : Sizes} {t cur : Tree} (next : Sizes) → Counted s t cur now → tree_bulk (tree_view cur) ≡ a_jump → bulk_of next ≡ both (bulk_of now) a_jump → bulk_of next ≡ both (bulk_of s) (tree_bulk (tree_view t))
counted_end {now = now} next h e added = added ∙ ap (both (bulk_of now)) (sym e) ∙ h.sum

-- ---- labels

bulk_push : (ls : List Label) (l : Label) → bulk (ls ++ l ∷ []) ≡ both (bulk ls) (both a_label (tree_bulk l.body))
bulk_push [] l = bulk_same _ _ (omega arith) (omega arith) (omega arith) (omega arith) (omega arith)
bulk_push (k ∷ ls) l = ap (both (both a_label (tree_bulk k.body))) (bulk_push ls l) ∙ both_assoc (both a_label (tree_bulk k.body)) (bulk ls) (both a_label (tree_bulk l.body))

pub bulk_next : (labels : List FlowLabel) (i : ℕ) (d l : FlowLabel) (now one next : Sizes) → i < length labels → l ≡ get_or labels i d → bulk_of now ≡ bulk (map label_view (take i labels)) → bulk_of one ≡ both (bulk_of now) a_label
    → bulk_of next ≡ both (bulk_of one) (tree_bulk (tree_view l.body)) → bulk_of next ≡ bulk (map label_view (take (i + 1) labels))
bulk_next labels i d l now one next lt e was label added =
    let front : map label_view (take (i + 1) labels) ≡ map label_view (take i labels) ++ label_view l ∷ [] = map_more label_view labels i d lt ∙ ap (λ v. map label_view (take i labels) ++ label_view v ∷ []) (sym e) in
    added ∙ ap (λ z. both z (tree_bulk (tree_view l.body))) (label ∙ ap (λ z. both z a_label) was) ∙ sym (both_assoc (bulk (map label_view (take i labels))) a_label (tree_bulk (tree_view l.body)))
    ∙ sym (ap bulk front ∙ bulk_push (map label_view (take i labels)) (label_view l))
