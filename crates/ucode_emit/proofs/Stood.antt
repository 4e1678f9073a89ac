-- What stands at each point: the tree whose root it is, or the label that begins there.
use Rattle.std.proofs.Common.{◌≡◌, ℕ, suc, ◌+◌, ◌<◌, List, [], ◌∷◌, ◌++◌, length, Some, refl, ap, ◌∙◌, subst, slice_get, arith}
use Rattle.std.proofs.lemmas.Option.{slice_get-get_or}
use Rattle.uc_isa.specs.declared.instruction.Instr.{Instr}
use Rattle.uc_isa.specs.Registers.{failing}
use Rattle.ssu_ir.specs.Tree.{Tree, Do, If, End, Label, Node, Does, Forks, Ends, step_values}
use Rattle.ssu_ir.specs.Points.{Names, own, names_after, PointKind, Entry, At, nodes}
use Rattle.place_plan.specs.Plan.{Plan}
use Rattle.ucode_emit.specs.Pieces.{entry_point, Sequences, step_items, fork_items, tree_items, label_moves, parallel_moves}
use Rattle.ucode_emit.specs.inner.Layers.{PointsAt}
use Rattle.ucode_emit.specs.inner.Marks.{Mark, mark, tree_marks, marks_from, marks}
use Rattle.ucode_emit.specs.inner.Walk.{mark_at}
use Rattle.ucode_emit.proofs.PointsEach.{EachFrom, each_append, each_here}
use Rattle.ucode_emit.proofs.Placing.{Part, TreeAt, tree_rest, tree_first, tree_second, LabelAt, label_at, code_of}
use Rattle.ucode_emit.specs.Pieces.{starts}
use Rattle.ucode_emit.proofs.Marked.{marks_many}

abbrev pub root_node : Tree → Node
root_node (Do s t) = Does s
root_node (If c x y t u) = Forks c x y
root_node (End l) = Ends l

abbrev pub first_nodes : Tree → ℕ
first_nodes (Do s t) = 0
first_nodes (If c x y t u) = nodes t
first_nodes (End l) = 0

pub record StoodNode (labels : List Label) (k : ℕ) (it : Node) (n : ℕ) : Type 0 where
  pub of : Names
  pub above : List ℕ
  pub tree : Tree
  pub points_ : PointsAt labels k of above tree
  pub root : root_node tree ≡ it
  pub arm : first_nodes tree ≡ n

pub record StoodEntry (labels : List Label) (p : Plan) (k l : ℕ) (params : List ℕ) : Type 0 where
  pub it : Label
  pub there : slice_get labels l ≡ Some it
  pub params_ : it.params ≡ params
  pub begins_ : entry_point labels l ≡ k
  pub moves : Part k (label_moves p k it) (parallel_moves p labels)
  pub body : PointsAt labels (suc k) own it.params it.body

abbrev pub StoodPlace : List Label → Plan → ℕ → PointKind → ℕ → Type 0
StoodPlace labels p k (Entry l params) n = StoodEntry labels p k l params
StoodPlace labels p k (At it) n = StoodNode labels k it n

abbrev pub Stood : List Label → Plan → ℕ → Mark → Type 0
Stood labels p k q = StoodPlace labels p k q.place q.first_arm

tree_stood : (labels : List Label) (p : Plan) (mss : Sequences) (code : List Instr) (places : List ℕ) (k at : ℕ) (of : Names) (above : List ℕ) (t : Tree)
    → TreeAt labels p mss code places k at of above t → EachFrom (Stood labels p) k (tree_marks t)
tree_stood labels p mss code places k at of above (Do s t) a = (
  record { of = of; above = above; tree = Do s t; points_ = a.points_; root = refl; arm = refl },
  tree_stood labels p mss code places (suc k) (at + length (step_items p k s)) (names_after of s) (above ++ step_values s) t (tree_rest labels p mss code places k at of above s t a),
)
tree_stood labels p mss code places k at of above (If c x y t u) a =
    let m = marks_many t in
    let z : suc k + nodes t ≡ suc k + length (tree_marks t) = omega (arith, m) in
    let first = at + length (fork_items p k (failing c) 0) in
    let second = first + length (tree_items labels p mss (suc k) t) in (
      record { of = of; above = above; tree = If c x y t u; points_ = a.points_; root = refl; arm = refl },
      each_append (Stood labels p) (suc k) (suc k + nodes t) (tree_marks t) (tree_marks u) z
          (tree_stood labels p mss code places (suc k) first of above t (tree_first labels p mss code places k at of above c x y t u a))
          (tree_stood labels p mss code places (suc k + nodes t) second of above u (tree_second labels p mss code places k at of above c x y t u a)),
    )
tree_stood labels p mss code places k at of above (End l) a = (record { of = of; above = above; tree = End l; points_ = a.points_; root = refl; arm = refl }, tt)

labels_stood : (labels : List Label) (p : Plan) (k l : ℕ) (ls : List Label) → ((j : ℕ) → entry_point labels (l + j) ≡ k + entry_point ls j) → ((j : ℕ) (it : Label) → slice_get ls j ≡ Some it → slice_get labels (l + j) ≡ Some it)
    → EachFrom (Stood labels p) k (marks_from l ls)
labels_stood labels p k l [] e f = tt
labels_stood labels p k l (x ∷ ls) e f =
    let z : l ≡ l + 0 = omega arith in
    let w : k + 0 ≡ k = omega arith in
    let emit_context : entry_point labels l ≡ k = ap (entry_point labels) z ∙ (e 0 ∙ w) in
    let there : slice_get labels l ≡ Some x = ap (slice_get labels) z ∙ f 0 x refl in
    let a : LabelAt labels p [] (code_of labels p []) (starts labels p []) k x = subst (λ j. LabelAt labels p [] (code_of labels p []) (starts labels p []) j x) emit_context (label_at labels p [] l x there) in
    let m = marks_many x.body in
    let long : suc k + nodes x.body ≡ suc k + length (tree_marks x.body) = omega (arith, m) in (
      record { it = x; there = there; params_ = refl; begins_ = emit_context; moves = a.moves; body = a.body.points_ },
      each_append (Stood labels p) (suc k) (suc k + nodes x.body) (tree_marks x.body) (marks_from (suc l) ls) long
          (tree_stood labels p [] (code_of labels p []) (starts labels p []) (suc k) _ own x.params x.body a.body)
          (labels_stood labels p (suc k + nodes x.body) (suc l) ls
          (λ j. let n : suc l + j ≡ l + suc j = omega arith in
          let m : k + (suc (nodes x.body) + entry_point ls j) ≡ suc k + nodes x.body + entry_point ls j = omega arith in
          ap (entry_point labels) n ∙ (e (suc j) ∙ m))
          (λ j it g. let n : suc l + j ≡ l + suc j = omega arith in ap (slice_get labels) n ∙ f (suc j) it g)),
    )

pub stood_at : (labels : List Label) (p : Plan) (k : ℕ) → k < length (marks labels) → Stood labels p k (mark_at labels k)
stood_at labels p k l =
    each_here (Stood labels p) (marks labels) k (mark_at labels k)
    (labels_stood labels p 0 0 labels
    (λ j. let n : 0 + j ≡ j = omega arith in let m : entry_point labels j ≡ 0 + entry_point labels j = omega arith in ap (entry_point labels) n ∙ m)
    (λ j it e. let n : 0 + j ≡ j = omega arith in ap (slice_get labels) n ∙ e))
    (slice_get-get_or (marks labels) k (mark (Entry 0 []) 0) l)
