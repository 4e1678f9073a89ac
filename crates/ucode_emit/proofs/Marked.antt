-- The code of a form is that of its points in order.
use Rattle.std.proofs.Common.{◌≡◌, ℕ, zero, suc, ◌+◌, ◌<◌, List, [], ◌∷◌, ◌++◌, length, refl, sym, ap, ◌∙◌, arith, append_assoc}
use Rattle.std.specs.Prelude.{slice_index_or}
use Rattle.std.proofs.lemmas.List.{append-nil, length-append}
use Rattle.uc_isa.specs.Registers.{failing}
use Rattle.ssu_ir.specs.Tree.{Tree, Do, If, End, Label, Ends}
use Rattle.ssu_ir.specs.Points.{At, nodes}
use Rattle.place_plan.specs.Plan.{Plan}
use Rattle.ucode_emit.specs.Pieces.{Item, moved, all_copies, entry_point, entry_moves, step_items, fork_items, Sequences, sequence_at, tree_items, items_from, items, tree_starts, starts_from, starts, tree_moves, moves_from, parallel_moves}
use Rattle.ucode_emit.specs.Emits.{entries_from}
use Rattle.ucode_emit.specs.inner.Marks.{Mark, mark, tree_marks, marks_from, marks, pieces, point_piece, joined, begins, place_moves, marks_moves}
use Rattle.ucode_emit.proofs.Placing.{items_long, forks_long}
use Rattle.ucode_emit.proofs.LawfulPieces.{front_moves}

-- ---- lists of pieces

pub marks_many : (t : Tree) → length (tree_marks t) ≡ nodes t
marks_many (Do s t) = let m = marks_many t in omega (arith, m)
marks_many (If c x y t u) = let b = length-append (tree_marks t) (tree_marks u) in let m = marks_many t in let n = marks_many u in omega (arith, b, m, n)
marks_many (End l) = refl

pub pieces_both : (labels : List Label) (p : Plan) (mss : Sequences) (k n : ℕ) (a b : List Mark) → n ≡ k + length a → pieces labels p mss k (a ++ b) ≡ pieces labels p mss k a ++ pieces labels p mss n b
pieces_both labels p mss k n [] b e = let z : k ≡ n = omega (arith, e) in ap (λ j. pieces labels p mss j b) z
pieces_both labels p mss k n (q ∷ a) b e =
    let z : n ≡ suc k + length a = omega (arith, e) in
    ap (λ l. point_piece labels p k q (sequence_at mss k) ∷ l) (pieces_both labels p mss (suc k) n a b z)

pub joined_both : (a b : List (List Item)) → joined (a ++ b) ≡ joined a ++ joined b
joined_both [] b = refl
joined_both (x ∷ a) b = ap (λ l. x ++ l) (joined_both a b) ∙ sym (append_assoc x (joined a) (joined b))

pub begins_both : (at : ℕ) (a b : List (List Item)) → begins at (a ++ b) ≡ begins at a ++ begins (at + length (joined a)) b
begins_both at [] b = let z : at ≡ at + 0 = omega arith in ap (λ j. begins j b) z
begins_both at (x ∷ a) b =
    let m = length-append x (joined a) in
    let z : at + length x + length (joined a) ≡ at + length (x ++ joined a) = omega (arith, m) in
    ap (λ l. at ∷ l) (begins_both (at + length x) a b ∙ ap (λ j. begins (at + length x) a ++ begins j b) z)

-- ---- trees

pub tree_joined : (labels : List Label) (p : Plan) (mss : Sequences) (k : ℕ) (t : Tree) → joined (pieces labels p mss k (tree_marks t)) ≡ tree_items labels p mss k t
tree_joined labels p mss k (Do s t) = ap (λ l. step_items p k s ++ l) (tree_joined labels p mss (suc k) t)
tree_joined labels p mss k (If c x y t u) =
    let m = marks_many t in
    let z : suc k + nodes t ≡ suc k + length (tree_marks t) = omega (arith, m) in
    let ts = pieces labels p mss (suc k) (tree_marks t) in
    let us = pieces labels p mss (suc k + nodes t) (tree_marks u) in
    ap (λ l. fork_items p k (failing c) (suc k + nodes t) ++ joined l) (pieces_both labels p mss (suc k) (suc k + nodes t) (tree_marks t) (tree_marks u) z)
    ∙ ap (λ l. fork_items p k (failing c) (suc k + nodes t) ++ l)
    (joined_both ts us ∙ ap (λ l. l ++ joined us) (tree_joined labels p mss (suc k) t) ∙ ap (λ l. tree_items labels p mss (suc k) t ++ l) (tree_joined labels p mss (suc k + nodes t) u))
tree_joined labels p mss k (End l) = append-nil (point_piece labels p k (mark (At (Ends l)) 0) (sequence_at mss k))

pub tree_begins : (labels : List Label) (p : Plan) (mss : Sequences) (at k : ℕ) (t : Tree) → begins at (pieces labels p mss k (tree_marks t)) ≡ tree_starts labels p mss at k t
tree_begins labels p mss at k (Do s t) = ap (λ l. at ∷ l) (tree_begins labels p mss (at + length (step_items p k s)) (suc k) t)
tree_begins labels p mss at k (If c x y t u) =
    let m = marks_many t in
    let z : suc k + nodes t ≡ suc k + length (tree_marks t) = omega (arith, m) in
    let ts = pieces labels p mss (suc k) (tree_marks t) in
    let us = pieces labels p mss (suc k + nodes t) (tree_marks u) in
    let fork = length (fork_items p k (failing c) (suc k + nodes t)) in
    let same : fork ≡ length (fork_items p k (failing c) 0) = forks_long p k (failing c) (suc k + nodes t) 0 in
    let first = at + length (fork_items p k (failing c) 0) in
    ap (λ l. at ∷ begins (at + fork) l) (pieces_both labels p mss (suc k) (suc k + nodes t) (tree_marks t) (tree_marks u) z)
    ∙ ap (λ f. at ∷ begins (at + f) (ts ++ us)) same
    ∙ ap (λ l. at ∷ l)
    (begins_both first ts us
    ∙ ap (λ l. l ++ begins (first + length (joined ts)) us) (tree_begins labels p mss first (suc k) t)
    ∙ ap (λ is. tree_starts labels p mss first (suc k) t ++ begins (first + length is) us) (tree_joined labels p mss (suc k) t)
    ∙ ap (λ l. tree_starts labels p mss first (suc k) t ++ l) (tree_begins labels p mss (first + length (tree_items labels p mss (suc k) t)) (suc k + nodes t) u))
tree_begins labels p mss at k (End l) = refl

-- ---- labels

body_split : (labels : List Label) (p : Plan) (mss : Sequences) (k l : ℕ) (x : Label) (ls : List Label)
    → pieces labels p mss (suc k) (tree_marks x.body ++ marks_from l ls) ≡ pieces labels p mss (suc k) (tree_marks x.body) ++ pieces labels p mss (suc k + nodes x.body) (marks_from l ls)
body_split labels p mss k l x ls =
    let m = marks_many x.body in
    let z : suc k + nodes x.body ≡ suc k + length (tree_marks x.body) = omega (arith, m) in
    pieces_both labels p mss (suc k) (suc k + nodes x.body) (tree_marks x.body) (marks_from l ls) z

pub from_joined : (labels : List Label) (p : Plan) (mss : Sequences) (k l : ℕ) (ls : List Label) → joined (pieces labels p mss k (marks_from l ls)) ≡ items_from labels p mss k ls
from_joined labels p mss k l [] = refl
from_joined labels p mss k l (x ∷ ls) =
    let front = moved (front_moves mss k ++ all_copies p k x.params) in
    let body = pieces labels p mss (suc k) (tree_marks x.body) in
    let rest = pieces labels p mss (suc k + nodes x.body) (marks_from (suc l) ls) in
    ap (λ l. front ++ joined l) (body_split labels p mss k (suc l) x ls)
    ∙ ap (λ l. front ++ l)
    (joined_both body rest ∙ ap (λ l. l ++ joined rest) (tree_joined labels p mss (suc k) x.body)
    ∙ ap (λ l. tree_items labels p mss (suc k) x.body ++ l) (from_joined labels p mss (suc k + nodes x.body) (suc l) ls))
    ∙ sym (append_assoc front (tree_items labels p mss (suc k) x.body) (items_from labels p mss (suc k + nodes x.body) ls))

pub from_begins : (labels : List Label) (p : Plan) (mss : Sequences) (at k l : ℕ) (ls : List Label) → begins at (pieces labels p mss k (marks_from l ls)) ≡ starts_from labels p mss at k ls
from_begins labels p mss at k l [] = refl
from_begins labels p mss at k l (x ∷ ls) =
    let moves = front_moves mss k ++ all_copies p k x.params in
    let body = pieces labels p mss (suc k) (tree_marks x.body) in
    let rest = pieces labels p mss (suc k + nodes x.body) (marks_from (suc l) ls) in
    let tree = tree_items labels p mss (suc k) x.body in
    let long = length-append (moved moves) tree in
    let same = items_long moves in
    let z : at + length moves + length tree ≡ at + length (moved moves ++ tree) = omega (arith, long, same) in
    ap (λ l. at ∷ begins (at + length (moved moves)) l) (body_split labels p mss k (suc l) x ls)
    ∙ ap (λ f. at ∷ begins (at + f) (body ++ rest)) same
    ∙ ap (λ l. at ∷ l)
    (begins_both (at + length moves) body rest
    ∙ ap (λ l. l ++ begins (at + length moves + length (joined body)) rest) (tree_begins labels p mss (at + length moves) (suc k) x.body)
    ∙ ap (λ is. tree_starts labels p mss (at + length moves) (suc k) x.body ++ begins (at + length moves + length is) rest) (tree_joined labels p mss (suc k) x.body)
    ∙ ap (λ j. tree_starts labels p mss (at + length moves) (suc k) x.body ++ begins j rest) z
    ∙ ap (λ l. tree_starts labels p mss (at + length moves) (suc k) x.body ++ l) (from_begins labels p mss (at + length (moved moves ++ tree)) (suc k + nodes x.body) (suc l) ls))

pub all_joined : (labels : List Label) (p : Plan) (mss : Sequences) → joined (pieces labels p mss 0 (marks labels)) ≡ items labels p mss
all_joined labels p mss = from_joined labels p mss 0 0 labels

pub all_begins : (labels : List Label) (p : Plan) (mss : Sequences) → begins 0 (pieces labels p mss 0 (marks labels)) ≡ starts labels p mss
all_begins labels p mss = from_begins labels p mss 0 0 0 labels

-- ---- parallel moves

moves_both : (p : Plan) (k n : ℕ) (a b : List Mark) → n ≡ k + length a → marks_moves p k (a ++ b) ≡ marks_moves p k a ++ marks_moves p n b
moves_both p k n [] b e = let z : k ≡ n = omega (arith, e) in ap (λ j. marks_moves p j b) z
moves_both p k n (q ∷ a) b e =
    let z : n ≡ suc k + length a = omega (arith, e) in
    ap (λ l. place_moves p k q.place ∷ l) (moves_both p (suc k) n a b z)

tree_same : (p : Plan) (k : ℕ) (t : Tree) → marks_moves p k (tree_marks t) ≡ tree_moves p k t
tree_same p k (Do s t) = ap (λ l. [] ∷ l) (tree_same p (suc k) t)
tree_same p k (If c x y t u) =
    let m = marks_many t in
    let z : suc k + nodes t ≡ suc k + length (tree_marks t) = omega (arith, m) in
    ap (λ l. [] ∷ l)
    (moves_both p (suc k) (suc k + nodes t) (tree_marks t) (tree_marks u) z
    ∙ ap (λ l. l ++ marks_moves p (suc k + nodes t) (tree_marks u)) (tree_same p (suc k) t) ∙ ap (λ l. tree_moves p (suc k) t ++ l) (tree_same p (suc k + nodes t) u))
tree_same p k (End l) = refl

body_moves : (p : Plan) (k l : ℕ) (x : Label) (ls : List Label)
    → marks_moves p (suc k) (tree_marks x.body ++ marks_from l ls) ≡ tree_moves p (suc k) x.body ++ marks_moves p (suc k + nodes x.body) (marks_from l ls)
body_moves p k l x ls =
    let m = marks_many x.body in
    let z : suc k + nodes x.body ≡ suc k + length (tree_marks x.body) = omega (arith, m) in
    moves_both p (suc k) (suc k + nodes x.body) (tree_marks x.body) (marks_from l ls) z
    ∙ ap (λ m. m ++ marks_moves p (suc k + nodes x.body) (marks_from l ls)) (tree_same p (suc k) x.body)

later_same : (p : Plan) (k l : ℕ) (ls : List Label) → marks_moves p (suc k) (marks_from (suc l) ls) ≡ moves_from p (suc k) ls
later_same p k l [] = refl
later_same p k l (x ∷ ls) =
    let z : suc (suc k) + nodes x.body ≡ suc (suc k + nodes x.body) = omega arith in
    ap (λ m. [] ∷ m)
    (body_moves p (suc k) (suc (suc l)) x ls
    ∙ ap (λ m. tree_moves p (suc (suc k)) x.body ++ m)
    (ap (λ j. marks_moves p j (marks_from (suc (suc l)) ls)) z ∙ later_same p (suc k + nodes x.body) (suc l) ls ∙ ap (λ j. moves_from p j ls) (sym z)))

pub all_moves : (p : Plan) (labels : List Label) → marks_moves p 0 (marks labels) ≡ parallel_moves p labels
all_moves p [] = refl
all_moves p (x ∷ ls) =
    let z : 1 + nodes x.body ≡ suc (0 + nodes x.body) = omega arith in
    ap (λ m. entry_moves p 0 x.params ∷ m)
    (body_moves p 0 1 x ls
    ∙ ap (λ m. tree_moves p 1 x.body ++ m) (ap (λ j. marks_moves p j (marks_from 1 ls)) z ∙ later_same p (0 + nodes x.body) 0 ls ∙ ap (λ j. moves_from p j ls) (sym z)))

-- ---- where labels begin

pub entry_there : (k l : ℕ) (ls : List Label) → l < length ls → slice_index_or (entries_from k ls) l 0 ≡ k + entry_point ls l
entry_there k l [] h = absurd (omega (arith, h))
entry_there k zero (x ∷ ls) h = omega arith
entry_there k (suc l) (x ∷ ls) h =
    let z : suc k + nodes x.body + entry_point ls l ≡ k + (suc (nodes x.body) + entry_point ls l) = omega arith in
    entry_there (suc k + nodes x.body) l ls (omega (arith, h)) ∙ z
