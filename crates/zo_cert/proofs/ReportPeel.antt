-- reports whose lines begin alike are alike, part by part
use Rattle.std.proofs.Common.{◌≡◌, ℕ, suc, ◌+◌, ◌^◌, ◌<◌, ◌≤◌, List, [], ◌∷◌, ◌++◌, length, get_or, map, refl, sym, ap, arith, codes, decimal, lit≤, Bool, true, false}
use Rattle.std.specs.List.{All}
use Rattle.std.proofs.lemmas.List.{append_cancel_left, length-append, length-map}
use Rattle.std.proofs.lemmas.List.Elements.{All-head, All-tail}
use Rattle.nv_lines.specs.Line.{parted}
use Rattle.nv_lines.proofs.SplitLaws.{parted_one, Lacks-test}
use Rattle.nv_lines.proofs.NumberLaws.{Lacks-decimal}
use Rattle.nv_lines.proofs.NumberLemmas.{decimal_one}
use Rattle.zo_model.specs.Contents.{Contents}
use Rattle.zo_model.specs.Program.{Rise}
use Rattle.zo_model.specs.ProgramText.{program_lines, columns_line, rows_line, cost_line, row_line, IsValidContents}
use Rattle.zo_model.proofs.LineLemmas.{counted_one}
use Rattle.zo_model.proofs.ExactLemmas.{program_one}
use Rattle.zo_cert_tree.specs.Node.{Node, branch_on, bound_by, clash_of, left_open, multiplier_text, node_line, IsNodeText}
use Rattle.zo_cert.specs.ReportText.{counted_line, ones_from, x_line}
use Rattle.zo_cert.specs.ReportFault.{AreInLimits, HasCost, front_lines, stated_lines, tree_lines}
use Rattle.zo_cert.specs.declared.report.Verdict.{Verdict}
use Rattle.zo_cert.specs.declared.report.Verdict.TheVariants as verdicts
use Rattle.zo_cert.proofs.ReadPieces.{Up}
use Rattle.zo_cert_tree.proofs.MultiplierLemmas.{multiplier_one}
use Rattle.zo_cert_tree.proofs.NodeLineLemmas.{multipliers_lack}
use Rattle.zo_cert.proofs.OnesLemmas.{ones_up, ones_parts}

-- lists whose fronts are as long are parted alike
pub parted_alike : {X : Type 0} (as' bs cs ds : List X) → length as' ≡ length cs → as' ++ bs ≡ cs ++ ds → (as' ≡ cs) × (bs ≡ ds)
parted_alike [] bs [] ds e f = (refl, f)
parted_alike [] bs (c ∷ cs) ds e f = absurd (omega arith)
parted_alike (a ∷ as') bs [] ds e f = absurd (omega arith)
parted_alike (a ∷ as') bs (c ∷ cs) ds e f =
    let head : a ≡ c = cc (f) in
    let tail : as' ++ bs ≡ cs ++ ds = cc (f) in
    let r = parted_alike as' bs cs ds (omega arith) tail in
    let front = r.0 in (cc (head, front), r.1)

-- ---- the program

pub lines_length : (p : Contents) → length (program_lines p) ≡ 2 + length p.costs + length p.rows
lines_length p = omega (arith, length-append (map cost_line p.costs) (map row_line p.rows), length-map p.costs cost_line, length-map p.rows row_line)

-- programs whose lines begin a text alike have as many lines
pub lines_as_many : (p q : Contents) (xs ys : List (List ℕ)) → IsValidContents p → IsValidContents q → program_lines p ++ xs ≡ program_lines q ++ ys → length (program_lines p) ≡ length (program_lines q)
lines_as_many p q xs ys v w e =
    let f : columns_line (length p.costs) ≡ columns_line (length q.costs) = cc (e) in
    let g : rows_line (length p.rows) ≡ rows_line (length q.rows) = cc (e) in
    omega (arith, lines_length p, lines_length q, counted_one (codes "columns") (length p.costs) (length q.costs) (omega (arith, v.columns_fit)) (omega (arith, w.columns_fit)) f, counted_one (codes "rows") (length p.rows) (length q.rows) (omega (arith, v.rows_fit)) (omega (arith, w.rows_fit)) g)

pub program_peel : (p q : Contents) (xs ys : List (List ℕ)) → IsValidContents p → IsValidContents q → program_lines p ++ xs ≡ program_lines q ++ ys → (p ≡ q) × (xs ≡ ys)
program_peel p q xs ys v w e =
    let both = parted_alike (program_lines p) xs (program_lines q) ys (lines_as_many p q xs ys v w e) e in
    (program_one p q v w both.0, both.1)

-- ---- the front

pub front_peel : (s b s' b' : ℕ) (p q : Contents) (xs ys : List (List ℕ)) → AreInLimits s b p → AreInLimits s' b' q → front_lines s b p ++ xs ≡ front_lines s' b' q ++ ys → (s ≡ s') × (b ≡ b') × (p ≡ q) × (xs ≡ ys)
front_peel s b s' b' p q xs ys h k e =
    let f : counted_line (codes "slots") s ≡ counted_line (codes "slots") s' = cc (e) in
    let g : counted_line (codes "budget") b ≡ counted_line (codes "budget") b' = cc (e) in
    let t : program_lines p ++ xs ≡ program_lines q ++ ys = cc (e) in
    let r = program_peel p q xs ys h.program_valid k.program_valid t in (
      counted_one (codes "slots") s s' (omega (arith, h.slots_fit)) (omega (arith, k.slots_fit)) f,
      counted_one (codes "budget") b b' (omega (arith, h.budget_high)) (omega (arith, k.budget_high)) g,
      r.0,
      r.1,
    )

-- ---- the columns that are 1

decimals_one : (lo lo' n : ℕ) (is js : List ℕ) → n ≤ 2 ^ 26 → Up lo n is → Up lo' n js → map decimal is ≡ map decimal js → is ≡ js
decimals_one lo lo' n [] [] few u v e = refl
decimals_one lo lo' n [] (j ∷ js) few u v e = cc
decimals_one lo lo' n (i ∷ is) [] few u v e = cc
decimals_one lo lo' n (i ∷ is) (j ∷ js) few u v e =
    let heads : decimal i ≡ decimal j = cc (e) in
    let tails : map decimal is ≡ map decimal js = cc (e) in
    let same = decimal_one i j (omega (arith, u.1)) (omega (arith, v.1)) heads in
    let r = decimals_one (suc i) (suc j) n is js few u.2 v.2 tails in cc (same, r)

-- no column below stands first
ones_later : (i n : ℕ) (ys : List ℕ) (js : List ℕ) → Up (suc i) n js → i ∷ ys ≡ js → ⊥
ones_later i n ys [] u e = cc
ones_later i n ys (j ∷ js) u e = let same : i ≡ j = cc (e) in omega (arith, same, u.0)

ones_one : (i n : ℕ) (xs ys : List Bool) → length xs ≡ length ys → length xs + i ≤ n → ones_from i xs ≡ ones_from i ys → xs ≡ ys
ones_one i n [] [] l le e = refl
ones_one i n [] (y ∷ ys) l le e = absurd (omega arith)
ones_one i n (x ∷ xs) [] l le e = absurd (omega arith)
ones_one i n (true ∷ xs) (true ∷ ys) l le e =
    let tails : ones_from (suc i) xs ≡ ones_from (suc i) ys = cc (e) in
    ap (λ t. true ∷ t) (ones_one (suc i) n xs ys (omega arith) (omega arith) tails)
ones_one i n (false ∷ xs) (false ∷ ys) l le e = ap (λ t. false ∷ t) (ones_one (suc i) n xs ys (omega arith) (omega arith) e)
ones_one i n (true ∷ xs) (false ∷ ys) l le e = absurd (ones_later i n (ones_from (suc i) xs) (ones_from (suc i) ys) (ones_up (suc i) n ys (omega arith)) e)
ones_one i n (false ∷ xs) (true ∷ ys) l le e = absurd (ones_later i n (ones_from (suc i) ys) (ones_from (suc i) xs) (ones_up (suc i) n xs (omega arith)) (sym e))

pub x_line_one : (n : ℕ) (xs ys : List Bool) → n ≤ 2 ^ 26 → length xs ≡ n → length ys ≡ n → x_line xs ≡ x_line ys → xs ≡ ys
x_line_one n xs ys few l m e =
    let a = ones_parts n (x_line xs) few (record { on = xs; one_a_column = l; spelled = refl }) in
    let b = ones_parts n (x_line xs) few (record { on = ys; one_a_column = m; spelled = e }) in
    let texts : map decimal (ones_from 0 xs) ≡ map decimal (ones_from 0 ys) = cc (a, b) in
    ones_one 0 n xs ys (omega arith) (omega arith) (decimals_one 0 0 n (ones_from 0 xs) (ones_from 0 ys) few (ones_up 0 n xs (omega arith)) (ones_up 0 n ys (omega arith)) texts)

-- ---- the verdict

-- the verdicts are one, and so are their costs and columns where they have them
pub record SameVerdict (v w : Verdict) (c d : ℕ) (xs ys : List Bool) (behind other : List (List ℕ)) : Type 0 where
  pub verdict : v ≡ w
  pub cost : HasCost v → c ≡ d
  pub columns : HasCost v → xs ≡ ys
  pub rest : behind ≡ other

pub verdict_peel : (n : ℕ) (v w : Verdict) (c d : ℕ) (xs ys : List Bool) (behind other : List (List ℕ)) → n ≤ 2 ^ 26 → c < 2 ^ 64 → d < 2 ^ 64 → length xs ≡ n → length ys ≡ n → stated_lines v c xs ++ behind ≡ stated_lines w d ys ++ other → SameVerdict v w c d xs ys behind other
verdict_peel n verdicts.Optimal verdicts.Optimal c d xs ys behind other few hc hd l m e =
    let heads : parted (codes "verdict" ∷ codes "optimal" ∷ decimal c ∷ []) ≡ parted (codes "verdict" ∷ codes "optimal" ∷ decimal d ∷ []) = cc (e) in
    let nexts : x_line xs ≡ x_line ys = cc (e) in
    let number : decimal c ≡ decimal d = append_cancel_left (codes "verdict optimal ") (decimal c) (decimal d) heads in
    record { verdict = refl; cost = λ h. decimal_one c d hc hd number; columns = λ h. x_line_one n xs ys few l m nexts; rest = cc (e) }
verdict_peel n verdicts.Feasible verdicts.Feasible c d xs ys behind other few hc hd l m e =
    let heads : parted (codes "verdict" ∷ codes "feasible" ∷ decimal c ∷ []) ≡ parted (codes "verdict" ∷ codes "feasible" ∷ decimal d ∷ []) = cc (e) in
    let nexts : x_line xs ≡ x_line ys = cc (e) in
    let number : decimal c ≡ decimal d = append_cancel_left (codes "verdict feasible ") (decimal c) (decimal d) heads in
    record { verdict = refl; cost = λ h. decimal_one c d hc hd number; columns = λ h. x_line_one n xs ys few l m nexts; rest = cc (e) }
verdict_peel n verdicts.Infeasible verdicts.Infeasible c d xs ys behind other few hc hd l m e = record { verdict = refl; cost = λ h. absurd h; columns = λ h. absurd h; rest = cc (e) }
verdict_peel n verdicts.Spent verdicts.Spent c d xs ys behind other few hc hd l m e = record { verdict = refl; cost = λ h. absurd h; columns = λ h. absurd h; rest = cc (e) }
verdict_peel n verdicts.Optimal verdicts.Feasible c d xs ys behind other few hc hd l m e =
    let heads : parted (codes "verdict" ∷ codes "optimal" ∷ decimal c ∷ []) ≡ parted (codes "verdict" ∷ codes "feasible" ∷ decimal d ∷ []) = cc (e) in
    absurd (omega (arith, ap (λ l. get_or l 8 0) heads))
verdict_peel n verdicts.Optimal verdicts.Infeasible c d xs ys behind other few hc hd l m e =
    let heads : parted (codes "verdict" ∷ codes "optimal" ∷ decimal c ∷ []) ≡ codes "verdict infeasible" = cc (e) in
    absurd (omega (arith, ap (λ l. get_or l 8 0) heads))
verdict_peel n verdicts.Optimal verdicts.Spent c d xs ys behind other few hc hd l m e =
    let heads : parted (codes "verdict" ∷ codes "optimal" ∷ decimal c ∷ []) ≡ codes "verdict spent" = cc (e) in
    absurd (omega (arith, ap (λ l. get_or l 8 0) heads))
verdict_peel n verdicts.Feasible verdicts.Optimal c d xs ys behind other few hc hd l m e =
    let heads : parted (codes "verdict" ∷ codes "feasible" ∷ decimal c ∷ []) ≡ parted (codes "verdict" ∷ codes "optimal" ∷ decimal d ∷ []) = cc (e) in
    absurd (omega (arith, ap (λ l. get_or l 8 0) heads))
verdict_peel n verdicts.Feasible verdicts.Infeasible c d xs ys behind other few hc hd l m e =
    let heads : parted (codes "verdict" ∷ codes "feasible" ∷ decimal c ∷ []) ≡ codes "verdict infeasible" = cc (e) in
    absurd (omega (arith, ap (λ l. get_or l 8 0) heads))
verdict_peel n verdicts.Feasible verdicts.Spent c d xs ys behind other few hc hd l m e =
    let heads : parted (codes "verdict" ∷ codes "feasible" ∷ decimal c ∷ []) ≡ codes "verdict spent" = cc (e) in
    absurd (omega (arith, ap (λ l. get_or l 8 0) heads))
verdict_peel n verdicts.Infeasible verdicts.Optimal c d xs ys behind other few hc hd l m e =
    let heads : codes "verdict infeasible" ≡ parted (codes "verdict" ∷ codes "optimal" ∷ decimal d ∷ []) = cc (e) in
    absurd (omega (arith, ap (λ l. get_or l 8 0) heads))
verdict_peel n verdicts.Infeasible verdicts.Feasible c d xs ys behind other few hc hd l m e =
    let heads : codes "verdict infeasible" ≡ parted (codes "verdict" ∷ codes "feasible" ∷ decimal d ∷ []) = cc (e) in
    absurd (omega (arith, ap (λ l. get_or l 8 0) heads))
verdict_peel n verdicts.Infeasible verdicts.Spent c d xs ys behind other few hc hd l m e =
    let heads : codes "verdict infeasible" ≡ codes "verdict spent" = cc (e) in
    absurd (omega (arith, ap (λ l. get_or l 8 0) heads))
verdict_peel n verdicts.Spent verdicts.Optimal c d xs ys behind other few hc hd l m e =
    let heads : codes "verdict spent" ≡ parted (codes "verdict" ∷ codes "optimal" ∷ decimal d ∷ []) = cc (e) in
    absurd (omega (arith, ap (λ l. get_or l 8 0) heads))
verdict_peel n verdicts.Spent verdicts.Feasible c d xs ys behind other few hc hd l m e =
    let heads : codes "verdict spent" ≡ parted (codes "verdict" ∷ codes "feasible" ∷ decimal d ∷ []) = cc (e) in
    absurd (omega (arith, ap (λ l. get_or l 8 0) heads))
verdict_peel n verdicts.Spent verdicts.Infeasible c d xs ys behind other few hc hd l m e =
    let heads : codes "verdict spent" ≡ codes "verdict infeasible" = cc (e) in
    absurd (omega (arith, ap (λ l. get_or l 8 0) heads))

-- ---- the tree

multipliers_one : (lo lo' : ℕ) (ms ns : List (ℕ × ℕ)) → Rise lo (2 ^ 26) ms → All (λ m. m.1 < 2 ^ 32) ms → Rise lo' (2 ^ 26) ns → All (λ m. m.1 < 2 ^ 32) ns → map multiplier_text ms ≡ map multiplier_text ns → ms ≡ ns
multipliers_one lo lo' [] [] r h r' h' e = refl
multipliers_one lo lo' [] (n ∷ ns) r h r' h' e = cc
multipliers_one lo lo' (m ∷ ms) [] r h r' h' e = cc
multipliers_one lo lo' (m ∷ ms) (n ∷ ns) r h r' h' e =
    let heads : multiplier_text m ≡ multiplier_text n = cc (e) in
    let tails : map multiplier_text ms ≡ map multiplier_text ns = cc (e) in
    let same = multiplier_one m n (omega (arith, r.1)) (omega (arith, r'.1)) (omega (arith, All-head (λ m. m.1 < 2 ^ 32) m ms h)) (omega (arith, All-head (λ m. m.1 < 2 ^ 32) n ns h')) heads in
    let rest = multipliers_one (suc m.0) (suc n.0) ms ns r.2 (All-tail (λ m. m.1 < 2 ^ 32) m ms h) r'.2 (All-tail (λ m. m.1 < 2 ^ 32) n ns h') tails in
    cc (same, rest)

pub node_one : (m n : Node) → IsNodeText m → IsNodeText n → node_line m ≡ node_line n → m ≡ n
node_one (branch_on i) (branch_on j) h k e = ap branch_on (decimal_one i j (omega (arith, h)) (omega (arith, k)) (append_cancel_left (codes "b ") (decimal i) (decimal j) e))
node_one (branch_on i) (bound_by d ms) h k e = absurd (omega (arith, ap (λ l. get_or l 0 0) e))
node_one (branch_on i) (clash_of []) h k e = absurd (omega (arith, ap (λ l. get_or l 0 0) e))
node_one (branch_on i) (clash_of (m ∷ ms)) h k e = absurd (omega (arith, ap (λ l. get_or l 0 0) e))
node_one (branch_on i) left_open h k e = absurd (omega (arith, ap (λ l. get_or l 0 0) e))
node_one (bound_by d ms) (branch_on j) h k e = absurd (omega (arith, ap (λ l. get_or l 0 0) e))
node_one (bound_by d ms) (bound_by f ns) h k e =
    let tail = append_cancel_left (codes "d ") (parted (decimal d ∷ map multiplier_text ms)) (parted (decimal f ∷ map multiplier_text ns)) e in
    let both = parted_one (decimal d) (decimal f) (map multiplier_text ms) (map multiplier_text ns) (Lacks-decimal 32 d (lit≤ tt) (omega (arith, h.1)), multipliers_lack 0 ms h.2.rise h.3) (Lacks-decimal 32 f (lit≤ tt) (omega (arith, k.1)), multipliers_lack 0 ns k.2.rise k.3) tail in
    let heads : decimal d ≡ decimal f = cc (both) in
    let tails : map multiplier_text ms ≡ map multiplier_text ns = cc (both) in
    let same = decimal_one d f (omega (arith, h.1)) (omega (arith, k.1)) heads in
    let rest = multipliers_one 0 0 ms ns h.2.rise h.3 k.2.rise k.3 tails in
    cc (same, rest)
node_one (bound_by d ms) (clash_of []) h k e = absurd (omega (arith, ap (λ l. get_or l 0 0) e))
node_one (bound_by d ms) (clash_of (n ∷ ns)) h k e = absurd (omega (arith, ap (λ l. get_or l 0 0) e))
node_one (bound_by d ms) left_open h k e = absurd (omega (arith, ap (λ l. get_or l 0 0) e))
node_one (clash_of []) (branch_on j) h k e = absurd (omega (arith, ap (λ l. get_or l 0 0) e))
node_one (clash_of (m ∷ ms)) (branch_on j) h k e = absurd (omega (arith, ap (λ l. get_or l 0 0) e))
node_one (clash_of []) (bound_by d ns) h k e = absurd (omega (arith, ap (λ l. get_or l 0 0) e))
node_one (clash_of (m ∷ ms)) (bound_by d ns) h k e = absurd (omega (arith, ap (λ l. get_or l 0 0) e))
node_one (clash_of ms) (clash_of ns) h k e =
    let both = parted_one (codes "k") (codes "k") (map multiplier_text ms) (map multiplier_text ns) (Lacks-test 32 (codes "k") refl, multipliers_lack 0 ms h.0.rise h.1) (Lacks-test 32 (codes "k") refl, multipliers_lack 0 ns k.0.rise k.1) e in
    let tails : map multiplier_text ms ≡ map multiplier_text ns = cc (both) in
    ap clash_of (multipliers_one 0 0 ms ns h.0.rise h.1 k.0.rise k.1 tails)
node_one (clash_of []) left_open h k e = absurd (omega (arith, ap (λ l. get_or l 0 0) e))
node_one (clash_of (m ∷ ms)) left_open h k e = absurd (omega (arith, ap (λ l. get_or l 0 0) e))
node_one left_open (branch_on j) h k e = absurd (omega (arith, ap (λ l. get_or l 0 0) e))
node_one left_open (bound_by d ms) h k e = absurd (omega (arith, ap (λ l. get_or l 0 0) e))
node_one left_open (clash_of []) h k e = absurd (omega (arith, ap (λ l. get_or l 0 0) e))
node_one left_open (clash_of (m ∷ ms)) h k e = absurd (omega (arith, ap (λ l. get_or l 0 0) e))
node_one left_open left_open h k e = refl

nodes_peel : (ms ns : List Node) (xs ys : List (List ℕ)) → length ms ≡ length ns → All IsNodeText ms → All IsNodeText ns → map node_line ms ++ xs ≡ map node_line ns ++ ys → (ms ≡ ns) × (xs ≡ ys)
nodes_peel [] [] xs ys l h k e = (refl, e)
nodes_peel [] (n ∷ ns) xs ys l h k e = absurd (omega arith)
nodes_peel (m ∷ ms) [] xs ys l h k e = absurd (omega arith)
nodes_peel (m ∷ ms) (n ∷ ns) xs ys l h k e =
    let heads : node_line m ≡ node_line n = cc (e) in
    let tails : map node_line ms ++ xs ≡ map node_line ns ++ ys = cc (e) in
    let same = node_one m n (All-head IsNodeText m ms h) (All-head IsNodeText n ns k) heads in
    let r = nodes_peel ms ns xs ys (omega arith) (All-tail IsNodeText m ms h) (All-tail IsNodeText n ns k) tails in
    let f = r.0 in (cc (same, f), r.1)

pub tree_peel : (ms ns : List Node) (xs ys : List (List ℕ)) → length ms < 2 ^ 32 → length ns < 2 ^ 32 → All IsNodeText ms → All IsNodeText ns → tree_lines ms ++ xs ≡ tree_lines ns ++ ys → (ms ≡ ns) × (xs ≡ ys)
tree_peel ms ns xs ys few few' h k e =
    let heads : counted_line (codes "tree") (length ms) ≡ counted_line (codes "tree") (length ns) = cc (e) in
    let tails : map node_line ms ++ xs ≡ map node_line ns ++ ys = cc (e) in
    nodes_peel ms ns xs ys (counted_one (codes "tree") (length ms) (length ns) (omega arith) (omega arith) heads) h k tails
