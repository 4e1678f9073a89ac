-- How large a form that was made is, and how long its code.
use Rattle.std.proofs.Common.{◌≡◌, ℕ, ◌+◌, ◌*◌, ◌≤◌, max, Bool, true, false, nat_lt, List, [], ◌∷◌, map, refl, ap, ◌∙◌, length, slice_get, slice_index, drop, arith, add-mul}
use Rattle.std.proofs.lemmas.Bool.{leb-true}
use Rattle.std.proofs.lemmas.List.{length-map}
use Rattle.nv_base.specs.declared.term.Atom.{Atom}
use Rattle.nv_base.specs.declared.term.Atom.TheVariants.{Var, Lit}
use Rattle.nv_base.specs.declared.term.Primitive.{Primitive}
use Rattle.nv_base.specs.declared.term.Primitive.TheVariants.{Same, Una as UnaOf, Bin as BinOf}
use Rattle.nv_base.specs.Words.{word}
use Rattle.nv_base.specs.Measures.{operands_wide, entry_wide, Bulk}
use Rattle.flow_ir.specs.Tree.{Tree, Let, Read, Write, If, Jump, Halt, Label}
use Rattle.flow_ir.specs.Formed.{is_entry}
use Rattle.flow_ir.specs.Wide.{tree_wide, wide}
use Rattle.flow_ir.specs.Bulk.{tree_bulk, bulk}
use Rattle.ssu_ir.specs.Tree as ssu
use Rattle.ssu_ir.specs.Single.{is_narrow}
use Rattle.ssu_ir.specs.Measures.{node_size, step_code, tree_size, tree_code, size, labels_code, entry_code, code_bound}
use Rattle.ssu_make.specs.Bounds.{size_bound, length_bound}
use Rattle.ssu_make.specs.Uses.{Counts, operands, outside, uses}
use Rattle.ssu_make.specs.Made.{literal, all_taken, names, atom_literal, literals, value, clone_step, clones, prim_step, spent, most, made, made_label, AllMade}
use Rattle.ssu_make.proofs.Shape.{names-length}

-- ---- nodes before a tree

literal-size : (b : Bool) (n w : ℕ) (t : ssu.Tree) → tree_size (literal b n w t) ≤ 8 + tree_size t
literal-size true n w t = omega arith
literal-size false n w t = omega arith

atom-size : (n : ℕ) (a : Atom) (t : ssu.Tree) → tree_size (atom_literal n a t) ≤ 8 + tree_size t
atom-size n (Var x) t = omega arith
atom-size n (Lit v) t = literal-size (is_narrow (word v)) n (word v) t

literals-size : (n : ℕ) (as' : List Atom) (t : ssu.Tree) → tree_size (literals n as' t) ≤ 8 * length as' + tree_size t
literals-size n [] t = omega arith
literals-size n (a ∷ as') t = let one = atom-size (n + all_taken as') a (literals n as' t) in let rest = literals-size n as' t in omega arith

clone-size : (b : Bool) (first n : ℕ) (t : ssu.Tree) → tree_size (clone_step b first n t) ≤ 1 + tree_size t
clone-size true first n t = omega arith
clone-size false first n t = omega arith

clones-size : (base r : Counts) (xs : List ℕ) (t : ssu.Tree) → tree_size (clones base r xs t) ≤ length xs + tree_size t
clones-size base r [] t = omega arith
clones-size base r (x ∷ xs) t = let one = clone-size (nat_lt 1 (r x)) (base x) (r x) (clones base r xs t) in let rest = clones-size base r xs t in omega arith

literal-code : (b : Bool) (n w : ℕ) (t : ssu.Tree) → tree_code (literal b n w t) ≤ 16 + tree_code t
literal-code true n w t = omega arith
literal-code false n w t = omega arith

atom-code : (n : ℕ) (a : Atom) (t : ssu.Tree) → tree_code (atom_literal n a t) ≤ 16 + tree_code t
atom-code n (Var x) t = omega arith
atom-code n (Lit v) t = literal-code (is_narrow (word v)) n (word v) t

literals-code : (n : ℕ) (as' : List Atom) (t : ssu.Tree) → tree_code (literals n as' t) ≤ 16 * length as' + tree_code t
literals-code n [] t = omega arith
literals-code n (a ∷ as') t = let one = atom-code (n + all_taken as') a (literals n as' t) in let rest = literals-code n as' t in omega arith

clone-code : (b : Bool) (first n : ℕ) (t : ssu.Tree) → tree_code (clone_step b first n t) ≡ tree_code t
clone-code true first n t = omega arith
clone-code false first n t = refl

clones-code : (base r : Counts) (xs : List ℕ) (t : ssu.Tree) → tree_code (clones base r xs t) ≡ tree_code t
clones-code base r [] t = refl
clones-code base r (x ∷ xs) t = clone-code (nat_lt 1 (r x)) (base x) (r x) (clones base r xs t) ∙ clones-code base r xs t

-- ---- primitives

prim-operands : (p : Primitive) → length (operands p) ≤ 2
prim-operands (Same a) = omega arith
prim-operands (UnaOf op a) = omega arith
prim-operands (BinOf op a b) = omega arith

prim-size : (x : ℕ) (p : Primitive) (ys : List ℕ) → node_size (ssu.Does (prim_step x p ys)) ≡ 2 + length (operands p)
prim-size x (Same a) ys = refl
prim-size x (UnaOf op a) ys = refl
prim-size x (BinOf op a b) ys = refl

prim-code : (x : ℕ) (p : Primitive) (ys : List ℕ) → step_code (prim_step x p ys) ≡ 4 + 2 * length (operands p)
prim-code x (Same a) ys = refl
prim-code x (UnaOf op a) ys = refl
prim-code x (BinOf op a b) ys = refl

-- ---- trees

args-wide : (bs : List Atom) → length bs ≤ operands_wide [] bs
args-wide [] = omega arith
args-wide (b ∷ bs) = omega arith

both-weigh : (a b j m n x y : ℕ) → x ≤ a * j + m → y ≤ b * j + n → x + y ≤ (a + b) * j + (m + n)
both-weigh a b j m n x y p q = let e = add-mul a b j in omega (arith, e)

abbrev others_size : Bulk → ℕ
others_size b = b.nodes + 2 * b.defined + 9 * b.used

abbrev others_code : Bulk → ℕ
others_code b = 2 * b.nodes + 4 * b.defined + 18 * b.used

made-size : (base : Counts) (v : ℕ) (t : Tree) (n : ℕ) → tree_wide t ≤ v → tree_size (made base n t) ≤ (tree_bulk t).jumps * (1 + 9 * v) + others_size (tree_bulk t)
made-size base v (Let x p t) n le =
    let rest = made-size base v t n (omega arith) in
    let r = uses t in
    let N = n + spent t in
    let ys = names base (outside (x ∷ []) r) N (operands p) in
    let a = literals-size N (operands p) (ssu.Do (prim_step (value base r x) p ys) (clones base r (x ∷ []) (made base n t))) in
    let b = prim-size (value base r x) p ys in
    let c = clones-size base r (x ∷ []) (made base n t) in
    let d = prim-operands p in
    omega (arith, b)
made-size base v (Read m xs a t) n le =
    let rest = made-size base v t n (omega arith) in
    let r = uses t in
    let N = n + spent t in
    let y = slice_index (names base (outside xs r) N (a ∷ [])) 0 in
    let l = literals-size N (a ∷ []) (ssu.Do (ssu.Read m (map (value base r) xs) y) (clones base r xs (made base n t))) in
    let c = clones-size base r xs (made base n t) in
    let e = length-map xs (value base r) in
    omega (arith, e)
made-size base v (Write m a bs t) n le =
    let rest = made-size base v t n (omega arith) in
    let N = n + spent t in
    let ys = names base (uses t) N (a ∷ bs) in
    let l = literals-size N (a ∷ bs) (ssu.Do (ssu.Write m (slice_index ys 0) (drop 1 ys)) (made base n t)) in
    let e : length (drop 1 ys) ≡ length bs = names-length base (uses t) N bs in
    omega (arith, e)
made-size base v (If c a b t u) n le =
    let first = made-size base v t (n + spent u) (omega arith) in
    let second = made-size base v u n (omega arith) in
    let N = n + (spent u + spent t) in
    let ys = names base (most (uses t) (uses u)) N (a ∷ b ∷ []) in
    let l = literals-size N (a ∷ b ∷ []) (ssu.If c (slice_index ys 0) (slice_index ys 1) (made base (n + spent u) t) (made base n u)) in
    let sum = both-weigh (tree_bulk t).jumps (tree_bulk u).jumps (1 + 9 * v) (others_size (tree_bulk t)) (others_size (tree_bulk u)) (tree_size (made base (n + spent u) t)) (tree_size (made base n u)) first second in
    omega (arith, l, sum)
made-size base v (Jump k bs) n le =
    let few = args-wide bs in
    let l = literals-size n bs (ssu.End (ssu.Jump k (names base (λ y. 0) n bs))) in
    let e = names-length base (λ y. 0) n bs in
    omega (arith, e)
made-size base v (Halt k bs) n le =
    let few = args-wide bs in
    let l = literals-size n bs (ssu.End (ssu.Halt k (names base (λ y. 0) n bs))) in
    let e = names-length base (λ y. 0) n bs in
    omega (arith, e)

made-code : (base : Counts) (v : ℕ) (t : Tree) (n : ℕ) → tree_wide t ≤ v → tree_code (made base n t) ≤ (tree_bulk t).jumps * (1 + 21 * v) + others_code (tree_bulk t)
made-code base v (Let x p t) n le =
    let rest = made-code base v t n (omega arith) in
    let r = uses t in
    let N = n + spent t in
    let ys = names base (outside (x ∷ []) r) N (operands p) in
    let a = literals-code N (operands p) (ssu.Do (prim_step (value base r x) p ys) (clones base r (x ∷ []) (made base n t))) in
    let b = prim-code (value base r x) p ys in
    let c = clones-code base r (x ∷ []) (made base n t) in
    let d = prim-operands p in
    omega (arith, b, c)
made-code base v (Read m xs a t) n le =
    let rest = made-code base v t n (omega arith) in
    let r = uses t in
    let N = n + spent t in
    let y = slice_index (names base (outside xs r) N (a ∷ [])) 0 in
    let l = literals-code N (a ∷ []) (ssu.Do (ssu.Read m (map (value base r) xs) y) (clones base r xs (made base n t))) in
    let c = clones-code base r xs (made base n t) in
    let e = length-map xs (value base r) in
    omega (arith, c, e)
made-code base v (Write m a bs t) n le =
    let rest = made-code base v t n (omega arith) in
    let N = n + spent t in
    let ys = names base (uses t) N (a ∷ bs) in
    let l = literals-code N (a ∷ bs) (ssu.Do (ssu.Write m (slice_index ys 0) (drop 1 ys)) (made base n t)) in
    let e : length (drop 1 ys) ≡ length bs = names-length base (uses t) N bs in
    omega (arith, e)
made-code base v (If c a b t u) n le =
    let first = made-code base v t (n + spent u) (omega arith) in
    let second = made-code base v u n (omega arith) in
    let N = n + (spent u + spent t) in
    let ys = names base (most (uses t) (uses u)) N (a ∷ b ∷ []) in
    let l = literals-code N (a ∷ b ∷ []) (ssu.If c (slice_index ys 0) (slice_index ys 1) (made base (n + spent u) t) (made base n u)) in
    let sum = both-weigh (tree_bulk t).jumps (tree_bulk u).jumps (1 + 21 * v) (others_code (tree_bulk t)) (others_code (tree_bulk u)) (tree_code (made base (n + spent u) t)) (tree_code (made base n u)) first second in
    omega (arith, l, sum)
made-code base v (Jump k bs) n le =
    let few = args-wide bs in
    let l = literals-code n bs (ssu.End (ssu.Jump k (names base (λ y. 0) n bs))) in
    let e = names-length base (λ y. 0) n bs in
    omega (arith, e)
made-code base v (Halt k bs) n le =
    let few = args-wide bs in
    let l = literals-code n bs (ssu.End (ssu.Halt k (names base (λ y. 0) n bs))) in
    let e = names-length base (λ y. 0) n bs in
    omega (arith, e)

-- ---- labels

params-wide : (l : Label) (w : ℕ) → max (entry_wide [] (length l.params)) (tree_wide l.body) ≤ w → (length l.params ≤ w) × (tree_wide l.body ≤ w)
params-wide l w le = (omega arith, omega arith)

no-labels : (t : Tree) → (tree_bulk t).labels ≡ 0
no-labels (Let x a t) = omega (arith, no-labels t)
no-labels (Read m xs a t) = omega (arith, no-labels t)
no-labels (Write m a bs t) = omega (arith, no-labels t)
no-labels (If c a b t u) = let p = no-labels t in let q = no-labels u in omega arith
no-labels (Jump l bs) = refl
no-labels (Halt e bs) = refl

label-size : (w v : ℕ) (l : Label) (s : ssu.Label) (base : Counts) (n : ℕ) → s ≡ made_label base n l → max (entry_wide [] (length l.params)) (tree_wide l.body) ≤ w → w ≤ v
    → length s.params + tree_size s.body ≤ 2 * w + ((tree_bulk l.body).jumps * (1 + 9 * v) + others_size (tree_bulk l.body))
label-size w v l s base n is le more =
    let wide = params-wide l w le in
    let few : length l.params ≤ w = wide.0 in
    let r = uses l.body in
    let e : length s.params ≡ length l.params = ap (λ (z : ssu.Label). length z.params) is ∙ length-map l.params (value base r) in
    let b : tree_size s.body ≡ tree_size (clones base r l.params (made base n l.body)) = ap (λ (z : ssu.Label). tree_size z.body) is in
    let c = clones-size base r l.params (made base n l.body) in
    let body = wide.1 in
    let d = made-size base v l.body n (omega arith) in
    omega (arith, e, b, c, d)

label-code : (w v : ℕ) (l : Label) (s : ssu.Label) (base : Counts) (n : ℕ) → s ≡ made_label base n l → max (entry_wide [] (length l.params)) (tree_wide l.body) ≤ w → w ≤ v
    → 3 * length s.params + tree_code s.body ≤ 3 * w + ((tree_bulk l.body).jumps * (1 + 21 * v) + others_code (tree_bulk l.body))
label-code w v l s base n is le more =
    let wide = params-wide l w le in
    let few : length l.params ≤ w = wide.0 in
    let r = uses l.body in
    let e : length s.params ≡ length l.params = ap (λ (z : ssu.Label). length z.params) is ∙ length-map l.params (value base r) in
    let b : tree_code s.body ≡ tree_code (clones base r l.params (made base n l.body)) = ap (λ (z : ssu.Label). tree_code z.body) is in
    let c = clones-code base r l.params (made base n l.body) in
    let body = wide.1 in
    let d = made-code base v l.body n (omega arith) in
    omega (arith, e, b, c, d)

-- one label more, which counts k a label and j a jump
one-more : (k j a x y : ℕ) (l b : Bulk) (ol ob : ℕ) → l.labels ≡ 0 → x ≤ a + (l.jumps * j + ol) → a ≤ k → y ≤ b.labels * k + (b.jumps * j + ob)
    → x + y ≤ (1 + l.labels + b.labels) * k + ((0 + l.jumps + b.jumps) * j + (ol + ob))
one-more k j a x y l b ol ob none p q s =
    let labels : (1 + l.labels + b.labels) * k ≡ k + b.labels * k = ap (λ n. (1 + n + b.labels) * k) none ∙ add-mul 1 b.labels k ∙ (let one : 1 * k + b.labels * k ≡ k + b.labels * k = omega arith in one) in
    let jumps : (0 + l.jumps + b.jumps) * j ≡ l.jumps * j + b.jumps * j = omega arith in
    omega (arith, labels, jumps)

all-size : (w v : ℕ) (c : ℕ) (ls : List Label) (ss : List ssu.Label) → AllMade c ls ss → wide ls ≤ w → w ≤ v → size ss ≤ (bulk ls).labels * (1 + 2 * w) + ((bulk ls).jumps * (1 + 9 * v) + others_size (bulk ls))
all-size w v c [] [] m le more = omega arith
all-size w v c [] (s ∷ ss) m le more = absurd m
all-size w v c (l ∷ ls) [] m le more = absurd m
all-size w v c (l ∷ ls) (s ∷ ss) m le more =
    let one = label-size w v l s m.1.base m.1.first m.1.is (omega arith) more in
    let rest = all-size w v m.0 ls ss m.2 (omega arith) more in
    let sum = one-more (1 + 2 * w) (1 + 9 * v) (1 + 2 * w) (1 + (length s.params + tree_size s.body)) (size ss) (tree_bulk l.body) (bulk ls) (others_size (tree_bulk l.body)) (others_size (bulk ls)) (no-labels l.body) (omega (arith, one)) (omega arith) rest in
    omega (arith, sum)

all-code : (w v : ℕ) (c : ℕ) (ls : List Label) (ss : List ssu.Label) → AllMade c ls ss → wide ls ≤ w → w ≤ v → labels_code ss ≤ (bulk ls).labels * (3 * w) + ((bulk ls).jumps * (1 + 21 * v) + others_code (bulk ls))
all-code w v c [] [] m le more = omega arith
all-code w v c [] (s ∷ ss) m le more = absurd m
all-code w v c (l ∷ ls) [] m le more = absurd m
all-code w v c (l ∷ ls) (s ∷ ss) m le more =
    let one = label-code w v l s m.1.base m.1.first m.1.is (omega arith) more in
    let rest = all-code w v m.0 ls ss m.2 (omega arith) more in
    let sum = one-more (3 * w) (1 + 21 * v) (3 * w) (3 * length s.params + tree_code s.body) (labels_code ss) (tree_bulk l.body) (bulk ls) (others_code (tree_bulk l.body)) (others_code (bulk ls)) (no-labels l.body) one (omega arith) rest in
    omega (arith, sum)

pub size-made : (c : ℕ) (ls : List Label) (ss : List ssu.Label) → AllMade c ls ss → size ss ≤ size_bound (wide ls) (bulk ls)
size-made c ls ss m = all-size (wide ls) (max (wide ls) 8) c ls ss m (omega arith) (omega arith)

entry-made : (c : ℕ) (ls : List Label) (ss : List ssu.Label) → AllMade c ls ss → is_entry (slice_get ls 0) ≡ true → entry_code ss ≤ 24
entry-made c [] [] m f = omega arith
entry-made c [] (s ∷ ss) m f = absurd m
entry-made c (l ∷ ls) [] m f = absurd m
entry-made c (l ∷ ls) (s ∷ ss) m f =
    let few : length l.params ≤ 8 = leb-true (length l.params) 8 f in
    let e : length s.params ≡ length l.params = ap (λ (z : ssu.Label). length z.params) m.1.is ∙ length-map l.params (value m.1.base (uses l.body)) in
    omega (arith, e)

pub code-made : (c : ℕ) (ls : List Label) (ss : List ssu.Label) → AllMade c ls ss → is_entry (slice_get ls 0) ≡ true → code_bound ss ≤ length_bound (wide ls) (bulk ls)
code-made c ls ss m f =
    let a = all-code (wide ls) (max (wide ls) 8) c ls ss m (omega arith) (omega arith) in
    let b = entry-made c ls ss m f in
    omega (arith, a, b)
