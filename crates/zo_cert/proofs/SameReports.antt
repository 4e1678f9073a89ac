-- reports of the same contents are true alike
use Rattle.std.proofs.Common.{◌≡◌, ℕ, zero, suc, ◌+◌, ◌*◌, List, [], ◌∷◌, ◌++◌, length, map, replicate, slice_get, slice_set, slice_index, slice_index_or, refl, sym, ap, ◌∙◌, subst, Bool, true, false, Option, Some, None, pos, ◌+ℤ◌, ◌-ℤ◌, ◌*ℤ◌, ◌<ℤ◌, ◌≤ℤ◌}
use Rattle.std.specs.List.{All}
use Rattle.std.proofs.lemmas.List.{map-append, length-map}
use Rattle.std.proofs.lemmas.List.Elements.{All-head, All-tail, All-cons}
use Rattle.zo_model.specs.Contents.{Contents, contents, RowContents, row_contents}
use Rattle.zo_model.specs.Program.{total, sum_below, vector, costs_of, cost_of, terms_sum, Meets, Feasible, Rise}
use Rattle.zo_model.specs.declared.program.Row.{Row}
use Rattle.zo_model.specs.declared.program.ZeroOne.{ZeroOne}
use Rattle.zo_cert_tree.specs.Certificate.{Tree, leaf, branch, preorder, EachNode, OfLeaf, IsLeaf, ClosesLeaf, Proves, IsShaped, IsWellNamed, NamesItsRows, NamesRows, IsTreeWith, branches, HasLeft, unfixed, terms_of, least_of, coefficient, weight, least_sum, least_part, bound}
use Rattle.zo_cert_tree.specs.Node.{Node, branch_on, bound_by, clash_of, left_open, node_contents}
use Rattle.zo_cert.specs.Contents.{ReportContents, report_contents}
use Rattle.zo_cert_tree.specs.Spent.{IsSpent}
use Rattle.zo_cert.specs.Report.{VerdictHolds, IsTrueReport}
use Rattle.zo_cert_tree.specs.declared.cert.Cert.{Cert}
use Rattle.zo_cert_tree.specs.declared.cert.CertNode.{CertNode}
use Rattle.zo_cert_tree.specs.declared.cert.CertNode.TheVariants.{Branch, Bound, Clash, Left}
use Rattle.zo_cert_tree.specs.declared.cert.Claim.{Claim}
use Rattle.zo_cert_tree.specs.declared.cert.Claim.TheVariants.{Least, Nothing}
use Rattle.zo_cert.specs.declared.report.Report.{Report}
use Rattle.zo_cert.specs.declared.report.Verdict.{Verdict}
use Rattle.zo_cert.specs.declared.report.Verdict.TheVariants as verdicts

-- ---- rows

row_at : (rs ss : List Row) (i : ℕ) → map row_contents rs ≡ map row_contents ss → (terms_of (slice_get rs i) ≡ terms_of (slice_get ss i)) × (least_of (slice_get rs i) ≡ least_of (slice_get ss i))
row_at [] [] i e = (refl, refl)
row_at [] (s ∷ ss) i e = cc
row_at (r ∷ rs) [] i e = cc
row_at (r ∷ rs) (s ∷ ss) zero e =
    let head : row_contents r ≡ row_contents s = cc (e) in
    (ap (λ (c : RowContents). c.terms) head, ap (λ (c : RowContents). c.least) head)
row_at (r ∷ rs) (s ∷ ss) (suc i) e =
    let tail : map row_contents rs ≡ map row_contents ss = cc (e) in row_at rs ss i tail

feasible_same : (rs ss : List Row) (x : ℕ → Bool) → map row_contents rs ≡ map row_contents ss → All (Meets x) rs → All (Meets x) ss
feasible_same [] [] x e h = h
feasible_same [] (s ∷ ss) x e h = cc
feasible_same (r ∷ rs) [] x e h = cc
feasible_same (r ∷ rs) (s ∷ ss) x e h =
    let head : row_contents r ≡ row_contents s = cc (e) in
    let tail : map row_contents rs ≡ map row_contents ss = cc (e) in
    All-cons (Meets x) s ss (subst (λ (c : RowContents). c.least ≤ℤ terms_sum c.terms x) head (All-head (Meets x) r rs h)) (feasible_same rs ss x tail (All-tail (Meets x) r rs h))

rows_as_many : (y z : ZeroOne) → contents y ≡ contents z → length y.rows.items ≡ length z.rows.items
rows_as_many y z e = sym (length-map y.rows.items row_contents) ∙ (ap (λ (p : Contents). length p.rows) e ∙ length-map z.rows.items row_contents)

-- ---- the bound

weight_same : (y z : ZeroOne) → contents y ≡ contents z → (ms : List (ℕ × ℕ)) (j : ℕ) → weight y ms j ≡ weight z ms j
unfolding weight
weight_same y z e ms j =
    let rows = ap (λ (p : Contents). p.rows) e in
    λ i. total (λ m. pos m.1 *ℤ coefficient ((row_at y.rows.items z.rows.items m.0 rows).0 i) j) ms

least_sum_same : (y z : ZeroOne) → contents y ≡ contents z → (ms : List (ℕ × ℕ)) → least_sum y ms ≡ least_sum z ms
unfolding least_sum
least_sum_same y z e ms =
    let rows = ap (λ (p : Contents). p.rows) e in
    λ i. total (λ m. pos m.1 *ℤ ((row_at y.rows.items z.rows.items m.0 rows).1 i)) ms

bound_same : (y z : ZeroOne) → contents y ≡ contents z → (d : ℕ) (ms : List (ℕ × ℕ)) (fixed : List (Option Bool)) → bound y d ms fixed ≡ bound z d ms fixed
unfolding bound
bound_same y z e d ms fixed =
    let costs = ap (λ (p : Contents). p.costs) e in
    let least = least_sum_same y z e ms in
    λ i. least i +ℤ sum_below (length (costs i)) (λ j. least_part (slice_index_or fixed j None) (pos (d * slice_index (costs i) j) -ℤ weight_same y z e ms j i))

-- ---- leaves

-- what is asked of a leaf, by what the node contains
abbrev LeafBy : ZeroOne → Claim → List (Option Bool) → Node → Type 0
LeafBy z claim fixed (branch_on j) = Unit {0}
LeafBy z (Least t) fixed (bound_by d ms) = NamesRows z ms × ((pos d *ℤ (pos t -ℤ pos 1)) <ℤ bound z d ms fixed)
LeafBy z Nothing fixed (bound_by d ms) = ⊥
LeafBy z claim fixed (clash_of ms) = NamesRows z ms × (pos 0 <ℤ bound z 0 ms fixed)
LeafBy z claim fixed left_open = ⊥

leaf_into : (z : ZeroOne) (claim : Claim) (fixed : List (Option Bool)) (n : CertNode) → OfLeaf (ClosesLeaf z claim) fixed n → LeafBy z claim fixed (node_contents n)
leaf_into z (Least t) fixed (Branch j) h = tt
leaf_into z (Least t) fixed (Bound d ms) h = h
leaf_into z (Least t) fixed (Clash ms) h = h
leaf_into z (Least t) fixed Left h = h
leaf_into z Nothing fixed (Branch j) h = tt
leaf_into z Nothing fixed (Bound d ms) h = h
leaf_into z Nothing fixed (Clash ms) h = h
leaf_into z Nothing fixed Left h = h

leaf_back : (z : ZeroOne) (claim : Claim) (fixed : List (Option Bool)) (n : CertNode) → LeafBy z claim fixed (node_contents n) → OfLeaf (ClosesLeaf z claim) fixed n
leaf_back z (Least t) fixed (Branch j) h = tt
leaf_back z (Least t) fixed (Bound d ms) h = h
leaf_back z (Least t) fixed (Clash ms) h = h
leaf_back z (Least t) fixed Left h = h
leaf_back z Nothing fixed (Branch j) h = tt
leaf_back z Nothing fixed (Bound d ms) h = h
leaf_back z Nothing fixed (Clash ms) h = h
leaf_back z Nothing fixed Left h = h

names_same : (y z : ZeroOne) → contents y ≡ contents z → (ms : List (ℕ × ℕ)) → NamesRows y ms → NamesRows z ms
names_same y z e ms h = subst (λ n. Rise 0 n ms) (rows_as_many y z e) h

leaf_across : (y z : ZeroOne) → contents y ≡ contents z → (claim : Claim) (fixed : List (Option Bool)) (n : Node) → LeafBy y claim fixed n → LeafBy z claim fixed n
leaf_across y z e (Least t) fixed (branch_on j) h = tt
leaf_across y z e (Least t) fixed (bound_by d ms) h = (names_same y z e ms h.0, subst (λ b. (pos d *ℤ (pos t -ℤ pos 1)) <ℤ b) (bound_same y z e d ms fixed) h.1)
leaf_across y z e (Least t) fixed (clash_of ms) h = (names_same y z e ms h.0, subst (λ b. pos 0 <ℤ b) (bound_same y z e 0 ms fixed) h.1)
leaf_across y z e (Least t) fixed left_open h = h
leaf_across y z e Nothing fixed (branch_on j) h = tt
leaf_across y z e Nothing fixed (bound_by d ms) h = h
leaf_across y z e Nothing fixed (clash_of ms) h = (names_same y z e ms h.0, subst (λ b. pos 0 <ℤ b) (bound_same y z e 0 ms fixed) h.1)
leaf_across y z e Nothing fixed left_open h = h

closes_same : (y z : ZeroOne) → contents y ≡ contents z → (claim : Claim) (fixed : List (Option Bool)) (n m : CertNode) → node_contents n ≡ node_contents m → OfLeaf (ClosesLeaf y claim) fixed n → OfLeaf (ClosesLeaf z claim) fixed m
closes_same y z e claim fixed n m s h = leaf_back z claim fixed m (subst (LeafBy z claim fixed) s (leaf_across y z e claim fixed (node_contents n) (leaf_into y claim fixed n h)))

-- the rows that a node names, by what it contains
abbrev RowsBy : ZeroOne → Node → Type 0
RowsBy z (branch_on j) = Unit {0}
RowsBy z (bound_by d ms) = NamesRows z ms
RowsBy z (clash_of ms) = NamesRows z ms
RowsBy z left_open = Unit {0}

rows_into : (z : ZeroOne) (n : CertNode) → NamesItsRows z n → RowsBy z (node_contents n)
rows_into z (Branch j) h = h
rows_into z (Bound d ms) h = h
rows_into z (Clash ms) h = h
rows_into z Left h = h

rows_back : (z : ZeroOne) (n : CertNode) → RowsBy z (node_contents n) → NamesItsRows z n
rows_back z (Branch j) h = h
rows_back z (Bound d ms) h = h
rows_back z (Clash ms) h = h
rows_back z Left h = h

rows_across : (y z : ZeroOne) → contents y ≡ contents z → (n : Node) → RowsBy y n → RowsBy z n
rows_across y z e (branch_on j) h = h
rows_across y z e (bound_by d ms) h = names_same y z e ms h
rows_across y z e (clash_of ms) h = names_same y z e ms h
rows_across y z e left_open h = h

named_same : (y z : ZeroOne) → contents y ≡ contents z → (fixed : List (Option Bool)) (n m : CertNode) → node_contents n ≡ node_contents m → IsWellNamed y fixed n → IsWellNamed z fixed m
named_same y z e fixed n m s h = rows_back z m (subst (RowsBy z) s (rows_across y z e (node_contents n) (rows_into y n h)))

-- ---- trees

-- trees of nodes of the same contents
abbrev SameTree : Tree → Tree → Type 0
SameTree (leaf n) (leaf m) = node_contents n ≡ node_contents m
SameTree (leaf n) (branch j c d) = ⊥
SameTree (branch i a b) (leaf m) = ⊥
SameTree (branch i a b) (branch j c d) = (i ≡ j) × SameTree a c × SameTree b d

-- whether a node branches, by what it contains
abbrev LeafNode : Node → Type 0
LeafNode (branch_on j) = ⊥
LeafNode (bound_by d ms) = Unit {0}
LeafNode (clash_of ms) = Unit {0}
LeafNode left_open = Unit {0}

is_leaf_into : (n : CertNode) → IsLeaf n → LeafNode (node_contents n)
is_leaf_into (Branch j) h = h
is_leaf_into (Bound d ms) h = h
is_leaf_into (Clash ms) h = h
is_leaf_into Left h = h

is_leaf_back : (n : CertNode) → LeafNode (node_contents n) → IsLeaf n
is_leaf_back (Branch j) h = h
is_leaf_back (Bound d ms) h = h
is_leaf_back (Clash ms) h = h
is_leaf_back Left h = h

each_same : (P Q : List (Option Bool) → CertNode → Type 0) → ((fixed : List (Option Bool)) (n m : CertNode) → node_contents n ≡ node_contents m → P fixed n → Q fixed m) → (t u : Tree) (fixed : List (Option Bool)) → SameTree t u → EachNode P fixed t → EachNode Q fixed u
each_same P Q f (leaf n) (leaf m) fixed s h = (is_leaf_back m (subst LeafNode s (is_leaf_into n h.0)), f fixed n m s h.1)
each_same P Q f (leaf n) (branch j c d) fixed s h = absurd s
each_same P Q f (branch i a b) (leaf m) fixed s h = absurd s
each_same P Q f (branch i a b) (branch j c d) fixed s h = (
  subst (λ k. slice_get fixed k ≡ Some None) s.0 h.0,
  f fixed (Branch i) (Branch j) (ap branch_on s.0) h.1,
  each_same P Q f a c (slice_set fixed j (Some false)) s.1 (subst (λ k. EachNode P (slice_set fixed k (Some false)) a) s.0 h.2),
  each_same P Q f b d (slice_set fixed j (Some true)) s.2 (subst (λ k. EachNode P (slice_set fixed k (Some true)) b) s.0 h.3),
)

-- nodes whose contents are parted are parted
parted_nodes : (as' bs : List Node) (ns : List CertNode) → as' ++ bs ≡ map node_contents ns → (xs : List CertNode) × (ys : List CertNode) × (xs ++ ys ≡ ns) × (as' ≡ map node_contents xs) × (bs ≡ map node_contents ys)
parted_nodes [] bs ns e = ([], ns, refl, refl, e)
parted_nodes (a ∷ as') bs [] e = cc
parted_nodes (a ∷ as') bs (n ∷ ns) e =
    let head : a ≡ node_contents n = cc (e) in
    let tail : as' ++ bs ≡ map node_contents ns = cc (e) in
    let r = parted_nodes as' bs ns tail in
    let front = r.3 in
    (n ∷ r.0, r.1, ap (λ t. n ∷ t) r.2, cc (head, front), r.4)

branch_is : (j : ℕ) (m : CertNode) → branch_on j ≡ node_contents m → Branch j ≡ m
branch_is j (Branch k) e = let same : j ≡ k = cc (e) in ap Branch same
branch_is j (Bound d ms) e = cc
branch_is j (Clash ms) e = cc
branch_is j Left e = cc

-- a tree of other nodes of the same contents
rebuilt : (t : Tree) (ns : List CertNode) → map node_contents (preorder t) ≡ map node_contents ns → (u : Tree) × (preorder u ≡ ns) × SameTree t u
rebuilt (leaf n) [] e = cc
rebuilt (leaf n) (m ∷ []) e = let head : node_contents n ≡ node_contents m = cc (e) in (leaf m, refl, head)
rebuilt (leaf n) (m ∷ k ∷ ns) e = cc
rebuilt (branch j a b) [] e = cc
rebuilt (branch j a b) (m ∷ ns) e =
    let head : branch_on j ≡ node_contents m = cc (e) in
    let tail : map node_contents (preorder a ++ preorder b) ≡ map node_contents ns = cc (e) in
    let p = parted_nodes (map node_contents (preorder a)) (map node_contents (preorder b)) ns (sym (map-append node_contents (preorder a) (preorder b)) ∙ tail) in
    let u = rebuilt a p.0 p.3 in
    let v = rebuilt b p.1 p.4 in
    let front = u.1 in
    let back = v.1 in
    let nodes : preorder u.0 ++ preorder v.0 ≡ ns = ap (λ xs. xs ++ preorder v.0) front ∙ (ap (λ ys. p.0 ++ ys) back ∙ p.2) in
    let first = branch_is j m head in
    (branch j u.0 v.0, cc (first, nodes), (refl, u.2, v.2))

proves_same : (y z : ZeroOne) → contents y ≡ contents z → (claim : Claim) (c d : Cert) → map node_contents c.nodes.items ≡ map node_contents d.nodes.items → IsTreeWith (λ t. Proves y t claim) c → IsTreeWith (λ t. Proves z t claim) d
proves_same y z e claim c d s (t, p, h) =
    let u = rebuilt t d.nodes.items (ap (map node_contents) p ∙ s) in
    let begun : EachNode (OfLeaf (ClosesLeaf y claim)) (unfixed z) t = subst (λ cs. EachNode (OfLeaf (ClosesLeaf y claim)) (replicate (length cs) None) t) (ap (λ (k : Contents). k.costs) e) h in
    (u.0, u.1, each_same (OfLeaf (ClosesLeaf y claim)) (OfLeaf (ClosesLeaf z claim)) (closes_same y z e claim) t u.0 (unfixed z) u.2 begun)

shaped_same : (y z : ZeroOne) → contents y ≡ contents z → (c d : Cert) → map node_contents c.nodes.items ≡ map node_contents d.nodes.items → IsTreeWith (IsShaped y) c → IsTreeWith (IsShaped z) d
shaped_same y z e c d s (t, p, h) =
    let u = rebuilt t d.nodes.items (ap (map node_contents) p ∙ s) in
    let begun : EachNode (IsWellNamed y) (unfixed z) t = subst (λ cs. EachNode (IsWellNamed y) (replicate (length cs) None) t) (ap (λ (k : Contents). k.costs) e) h in
    (u.0, u.1, each_same (IsWellNamed y) (IsWellNamed z) (named_same y z e) t u.0 (unfixed z) u.2 begun)

-- ---- lists of nodes

abbrev branches_by : List Node → ℕ
branches_by [] = 0
branches_by (branch_on j ∷ ns) = 1 + branches_by ns
branches_by (bound_by d ms ∷ ns) = branches_by ns
branches_by (clash_of ms ∷ ns) = branches_by ns
branches_by (left_open ∷ ns) = branches_by ns

branches_are : (ns : List CertNode) → branches ns ≡ branches_by (map node_contents ns)
branches_are [] = refl
branches_are (Branch j ∷ ns) = ap (λ k. 1 + k) (branches_are ns)
branches_are (Bound d ms ∷ ns) = branches_are ns
branches_are (Clash ms ∷ ns) = branches_are ns
branches_are (Left ∷ ns) = branches_are ns

abbrev LeftBy : List Node → Type 0
LeftBy [] = ⊥
LeftBy (branch_on j ∷ ns) = LeftBy ns
LeftBy (bound_by d ms ∷ ns) = LeftBy ns
LeftBy (clash_of ms ∷ ns) = LeftBy ns
LeftBy (left_open ∷ ns) = Unit {0}

left_into : (ns : List CertNode) → HasLeft ns → LeftBy (map node_contents ns)
left_into [] h = h
left_into (Branch j ∷ ns) h = left_into ns h
left_into (Bound d ms ∷ ns) h = left_into ns h
left_into (Clash ms ∷ ns) h = left_into ns h
left_into (Left ∷ ns) h = tt

left_back : (ns : List CertNode) → LeftBy (map node_contents ns) → HasLeft ns
left_back [] h = h
left_back (Branch j ∷ ns) h = left_back ns h
left_back (Bound d ms ∷ ns) h = left_back ns h
left_back (Clash ms ∷ ns) h = left_back ns h
left_back (Left ∷ ns) h = tt

spent_same : (budget other : ℕ) (c d : Cert) → budget ≡ other → map node_contents c.nodes.items ≡ map node_contents d.nodes.items → IsSpent budget c → IsSpent other d
spent_same budget other c d b s h =
    record {
      used = branches_are d.nodes.items ∙ (ap branches_by (sym s) ∙ (sym (branches_are c.nodes.items) ∙ (h.used ∙ b)));
      open_ = left_back d.nodes.items (subst LeftBy s (left_into c.nodes.items h.open_));
    }

-- ---- reports

vector_feasible : (a b : Report) → report_contents a ≡ report_contents b → Feasible a.z (vector a.x.on.items) → Feasible b.z (vector b.x.on.items)
vector_feasible a b e h =
    subst (λ on. Feasible b.z (vector on)) (ap (λ (r : ReportContents). r.on) e) (feasible_same a.z.rows.items b.z.rows.items (vector a.x.on.items) (ap (λ (r : ReportContents). r.program.rows) e) h)

holds_same : (v : Verdict) (a b : Report) → report_contents a ≡ report_contents b → VerdictHolds v a → VerdictHolds v b
holds_same verdicts.Optimal a b e h =
    let cost : cost_of a.z (vector a.x.on.items) ≡ cost_of b.z (vector b.x.on.items) = ap (λ (r : ReportContents). costs_of r.program.costs (vector r.on)) e in
    (vector_feasible a b e h.0, proves_same a.z b.z (ap (λ (r : ReportContents). r.program) e) (Least (cost_of b.z (vector b.x.on.items))) a.tree b.tree (ap (λ (r : ReportContents). r.nodes) e) (subst (λ t. IsTreeWith (λ u. Proves a.z u (Least t)) a.tree) cost h.1))
holds_same verdicts.Feasible a b e h = (vector_feasible a b e h.0, spent_same a.budget b.budget a.tree b.tree (ap (λ (r : ReportContents). r.budget) e) (ap (λ (r : ReportContents). r.nodes) e) h.1)
holds_same verdicts.Infeasible a b e h = proves_same a.z b.z (ap (λ (r : ReportContents). r.program) e) Nothing a.tree b.tree (ap (λ (r : ReportContents). r.nodes) e) h
holds_same verdicts.Spent a b e h = spent_same a.budget b.budget a.tree b.tree (ap (λ (r : ReportContents). r.budget) e) (ap (λ (r : ReportContents). r.nodes) e) h

pub truth_same : (a b : Report) → report_contents a ≡ report_contents b → IsTrueReport a → IsTrueReport b
truth_same a b e h =
    record {
      tree_shaped = shaped_same a.z b.z (ap (λ (r : ReportContents). r.program) e) a.tree b.tree (ap (λ (r : ReportContents). r.nodes) e) h.tree_shaped;
      verdict_holds = subst (λ v. VerdictHolds v b) (ap (λ (r : ReportContents). r.verdict) e) (holds_same a.verdict a b e h.verdict_holds);
    }
