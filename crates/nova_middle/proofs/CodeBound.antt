-- No node makes more than 6 instructions for each point, value and use.
use Rattle.std.proofs.Common.{◌*◌, ◌≤◌, List, [], ◌∷◌, arith}
use Rattle.ssu_ir.specs.Tree.{Step, Lit, Una, Bin, Clone, Read, Write, Last, Jump, Halt, Tree, Do, If, End, Label, Does, Ends}
use Rattle.ssu_ir.specs.Measures.{size, code_bound, node_size, tree_size, step_code, last_code, tree_code, labels_code}

step_within : (s : Step) → step_code s ≤ 6 * node_size (Does s)
step_within (Lit x v) = omega arith
step_within (Una x op y) = omega arith
step_within (Bin x op y z) = omega arith
step_within (Clone xs y) = omega arith
step_within (Read m xs y) = omega arith
step_within (Write m y xs) = omega arith

last_within : (l : Last) → last_code l ≤ 6 * node_size (Ends l)
last_within (Jump l xs) = omega arith
last_within (Halt e xs) = omega arith

tree_within : (t : Tree) → tree_code t ≤ 6 * tree_size t
tree_within (Do s t) = let h = step_within s in let k = tree_within t in omega arith
tree_within (If c x y t u) = let h = tree_within t in let k = tree_within u in omega arith
tree_within (End l) = last_within l

labels_within : (ls : List Label) → labels_code ls ≤ 6 * size ls
labels_within [] = omega arith
labels_within (l ∷ ls) = let h = tree_within l.body in let k = labels_within ls in omega arith

pub code_within : (ls : List Label) → code_bound ls ≤ 6 * size ls
code_within [] = omega arith
code_within (l ∷ ls) = let h = tree_within l.body in let k = labels_within ls in omega arith
