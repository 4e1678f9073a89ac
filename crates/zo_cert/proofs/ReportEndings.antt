-- where the reader of a report stops at the verdict or in the tree
use Rattle.std.proofs.Common.{◌≡◌, ℕ, ◌+◌, ◌^◌, ◌<◌, ◌≤◌, List, [], ◌∷◌, ◌++◌, length, get_or, refl, sym, ap, ◌∙◌, subst, arith, append_assoc, codes, decimal, Bool}
use Rattle.std.proofs.lemmas.List.{append-nil, length-append}
use Rattle.nv_lines.specs.Line.{text_of, parted}
use Rattle.nv_lines.specs.Format.{Begins}
use Rattle.zo_model.specs.Contents.{Contents}
use Rattle.zo_model.specs.Program.{vector, costs_of}
use Rattle.zo_model.specs.declared.error.ZoError.{ZoError}
use Rattle.zo_model.specs.declared.error.ZoError.TheVariants.{NoMemory, Bad}
use Rattle.zo_model.proofs.FaultLemmas.{spelled_more}
use Rattle.zo_model.proofs.LineLemmas.{no_line_weaker}
use Rattle.zo_cert_tree.specs.Node.{left_open}
use Rattle.zo_cert.specs.Report.{IsBlank}
use Rattle.zo_cert.specs.ReportFault.{AreInLimits, HasCost, front_lines, stated_lines, tree_lines, AreStatedLines, IsMisstated, IsFirstReportFault, wrong_cost}
use Rattle.zo_cert.specs.ReportAnswer.{IsTrueReportRefusal}
use Rattle.zo_cert.specs.inner.ReportPart.{AreVerdictLines, AreTreeLines, IsStop, MisstatesCost, stops, misstates, IsVerdictFault}
use Rattle.zo_cert.specs.declared.report.Verdict.{Verdict}
use Rattle.zo_cert.specs.declared.report.Verdict.TheVariants as verdicts
use Rattle.zo_cert.proofs.ReportPeel.{front_peel, SameVerdict, verdict_peel}
use Rattle.zo_cert.proofs.ReportRefusals.{StatesTruly, small_report, small_valid, stop_refusal, front_of}

-- ---- the verdict

-- the verdicts are told by the ninth byte of their lines
abbrev initial : Verdict → ℕ
initial verdicts.Optimal = 111
initial verdicts.Feasible = 102
initial verdicts.Infeasible = 105
initial verdicts.Spent = 115

-- how many lines they have
abbrev height : Verdict → ℕ
height verdicts.Optimal = 2
height verdicts.Feasible = 2
height verdicts.Infeasible = 1
height verdicts.Spent = 1

initial_is : (v : Verdict) (c : ℕ) (on : List Bool) (a : List ℕ) (xs ys : List (List ℕ)) → a ∷ xs ≡ stated_lines v c on ++ ys → get_or a 8 0 ≡ initial v
initial_is verdicts.Optimal c on a xs ys e = let head : a ≡ parted (codes "verdict" ∷ codes "optimal" ∷ decimal c ∷ []) = cc (e) in ap (λ l. get_or l 8 0) head
initial_is verdicts.Feasible c on a xs ys e = let head : a ≡ parted (codes "verdict" ∷ codes "feasible" ∷ decimal c ∷ []) = cc (e) in ap (λ l. get_or l 8 0) head
initial_is verdicts.Infeasible c on a xs ys e = let head : a ≡ codes "verdict infeasible" = cc (e) in ap (λ l. get_or l 8 0) head
initial_is verdicts.Spent c on a xs ys e = let head : a ≡ codes "verdict spent" = cc (e) in ap (λ l. get_or l 8 0) head

height_is : (v : Verdict) (c : ℕ) (on : List Bool) → length (stated_lines v c on) ≡ height v
height_is verdicts.Optimal c on = refl
height_is verdicts.Feasible c on = refl
height_is verdicts.Infeasible c on = refl
height_is verdicts.Spent c on = refl

height_few : (v : Verdict) → (1 ≤ height v) × (height v ≤ 2)
height_few verdicts.Optimal = (omega arith, omega arith)
height_few verdicts.Feasible = (omega arith, omega arith)
height_few verdicts.Infeasible = (omega arith, omega arith)
height_few verdicts.Spent = (omega arith, omega arith)

height_cost : (v : Verdict) → HasCost v → height v ≡ 2
height_cost verdicts.Optimal h = refl
height_cost verdicts.Feasible h = refl
height_cost verdicts.Infeasible h = absurd h
height_cost verdicts.Spent h = absurd h

height_from_initial : (v w : Verdict) → initial v ≡ initial w → height v ≡ height w
height_from_initial verdicts.Optimal verdicts.Optimal e = refl
height_from_initial verdicts.Optimal verdicts.Feasible e = refl
height_from_initial verdicts.Optimal verdicts.Infeasible e = absurd (omega (arith, e))
height_from_initial verdicts.Optimal verdicts.Spent e = absurd (omega (arith, e))
height_from_initial verdicts.Feasible verdicts.Optimal e = refl
height_from_initial verdicts.Feasible verdicts.Feasible e = refl
height_from_initial verdicts.Feasible verdicts.Infeasible e = absurd (omega (arith, e))
height_from_initial verdicts.Feasible verdicts.Spent e = absurd (omega (arith, e))
height_from_initial verdicts.Infeasible verdicts.Optimal e = absurd (omega (arith, e))
height_from_initial verdicts.Infeasible verdicts.Feasible e = absurd (omega (arith, e))
height_from_initial verdicts.Infeasible verdicts.Infeasible e = refl
height_from_initial verdicts.Infeasible verdicts.Spent e = refl
height_from_initial verdicts.Spent verdicts.Optimal e = absurd (omega (arith, e))
height_from_initial verdicts.Spent verdicts.Feasible e = absurd (omega (arith, e))
height_from_initial verdicts.Spent verdicts.Infeasible e = refl
height_from_initial verdicts.Spent verdicts.Spent e = refl

-- what begins a verdict begins a report, after the program
verdict_up : (s b : ℕ) (p : Contents) (ls : List (List ℕ)) → AreInLimits s b p → Begins (AreVerdictLines (length p.costs)) ls → Begins AreStatedLines (front_lines s b p ++ ls)
verdict_up s b p ls h g =
    let w = g.whole in
    let front = front_lines s b p in
    let tail = tree_lines (left_open ∷ []) in
    record {
      more = g.more ++ tail;
      whole = record {
        report = small_report s b p w.verdict w.on;
        stated = w.stated;
        valid = small_valid s b p w.verdict w.on h w.one_a_column w.blank;
        within = w.within;
        lines = append_assoc front ls (g.more ++ tail) ∙ (ap (λ t. front ++ t) (sym (append_assoc ls g.more tail) ∙ ap (λ t. t ++ tail) w.lines) ∙ sym (append_assoc front (stated_lines w.verdict w.stated w.on) tail));
      };
    }

-- a line within a verdict is within any that begins alike
within_verdict : (front : List (List ℕ)) (line next : List ℕ) (more behind tail : List (List ℕ)) (v w : Verdict) (c d : ℕ) (xs ys : List Bool) → (front ++ next ∷ []) ++ behind ≡ stated_lines v c xs → (front ++ line ∷ []) ++ more ≡ stated_lines w d ys ++ tail → length (front ++ line ∷ []) ≤ length (stated_lines w d ys)
within_verdict [] line next more behind tail v w c d xs ys g e = omega (arith, height_is w d ys, (height_few w).0)
within_verdict (a ∷ front) line next more behind tail v w c d xs ys g e =
    let i = initial_is v c xs a ((front ++ next ∷ []) ++ behind) [] (g ∙ sym (append-nil (stated_lines v c xs))) in
    let j = initial_is w d ys a ((front ++ line ∷ []) ++ more) tail e in
    omega (arith, height_is v c xs, height_is w d ys, height_from_initial v w (sym i ∙ j), ap length g, length-append ((a ∷ front) ++ next ∷ []) behind, length-append (a ∷ front) (next ∷ []), length-append (a ∷ front) (line ∷ []))

verdict_down : (s b : ℕ) (p : Contents) (front : List (List ℕ)) (line next : List ℕ) → AreInLimits s b p → Begins (AreVerdictLines (length p.costs)) (front ++ next ∷ []) → Begins AreStatedLines ((front_lines s b p ++ front) ++ line ∷ []) → Begins (AreVerdictLines (length p.costs)) (front ++ line ∷ [])
verdict_down s b p front line next h g k =
    let w = k.whole in
    let r = w.report in
    let tail = stated_lines r.verdict w.stated r.on ++ tree_lines r.nodes in
    let regroup : front_lines s b p ++ ((front ++ line ∷ []) ++ k.more) ≡ ((front_lines s b p ++ front) ++ line ∷ []) ++ k.more =
    sym (ap (λ t. t ++ k.more) (append_assoc (front_lines s b p) front (line ∷ [])) ∙ append_assoc (front_lines s b p) (front ++ line ∷ []) k.more) in
    let peeled = front_peel s b r.slots r.budget p r.program ((front ++ line ∷ []) ++ k.more) tail h w.valid.in_limits (regroup ∙ (w.lines ∙ append_assoc (front_lines r.slots r.budget r.program) (stated_lines r.verdict w.stated r.on) (tree_lines r.nodes))) in
    let f = front_of (front ++ line ∷ []) k.more (stated_lines r.verdict w.stated r.on) (tree_lines r.nodes) peeled.3
    (within_verdict front line next k.more g.more (tree_lines r.nodes) g.whole.verdict r.verdict g.whole.stated w.stated g.whole.on r.on g.whole.lines peeled.3) in
    record {
      more = f.0;
      whole = record { verdict = r.verdict; stated = w.stated; on = r.on; within = w.within; one_a_column = w.valid.one_a_column ∙ ap (λ q. length q.costs) (sym peeled.2); blank = w.valid.blank; lines = sym f.1 };
    }

verdict_truly : (s b : ℕ) (p : Contents) (front : List (List ℕ)) (next : List ℕ) → AreInLimits s b p → Begins (AreVerdictLines (length p.costs)) (front ++ next ∷ []) → StatesTruly (front_lines s b p ++ front)
verdict_truly s b p front next h g s' b' q v c on more k cost small l e =
    let w = g.whole in
    let peeled = front_peel s b s' b' p q front (stated_lines v c on ++ more) h k (e ∙ append_assoc (front_lines s' b' q) (stated_lines v c on) more) in
    absurd (omega (arith, ap length peeled.3, length-append (stated_lines v c on) more, height_is v c on, height_cost v cost, ap length w.lines, height_is w.verdict w.stated w.on, (height_few w.verdict).1, length-append (front ++ next ∷ []) g.more, length-append front (next ∷ [])))

-- a verdict that states a wrong cost is a fault of its line
misstated : (bytes rest : List ℕ) (s b : ℕ) (p : Contents) → AreInLimits s b p → bytes ≡ text_of (front_lines s b p) ++ rest → MisstatesCost p.costs rest → IsMisstated bytes (length (front_lines s b p) + 1)
misstated bytes rest s b p h spelled m =
    record {
      slots = s;
      budget = b;
      program = p;
      verdict = m.verdict;
      stated = m.stated;
      on = m.on;
      back = m.back;
      in_limits = h;
      has_cost = m.has_cost;
      within = m.within;
      one_a_column = m.one_a_column;
      not_its_cost = m.not_its_cost;
      spelled = spelled_more bytes rest m.back (front_lines s b p) (stated_lines m.verdict m.stated m.on) spelled m.spelled;
      line = refl;
    }

pub verdict_refusal : (bytes rest : List ℕ) (number s b : ℕ) (p : Contents) (e : ZoError) → AreInLimits s b p → bytes ≡ text_of (front_lines s b p) ++ rest → number ≡ length (front_lines s b p) → IsVerdictFault p.costs rest number e → IsTrueReportRefusal bytes e
verdict_refusal bytes rest number s b p NoMemory h spelled counted k = tt
verdict_refusal bytes rest number s b p (Bad n) h spelled counted (misstates at m) =
    let same_line : length (front_lines s b p) + 1 ≡ n = omega (arith, counted, at) in
    wrong_cost (subst (IsMisstated bytes) same_line (misstated bytes rest s b p h spelled m))
verdict_refusal bytes rest number s b p (Bad n) h spelled counted (stops f at k) =
    let front = front_lines s b p in
    let same_line : length (front ++ f) + 1 ≡ n = omega (arith, counted, at, length-append front f) in
    subst (IsFirstReportFault bytes) same_line
    (stop_refusal bytes (front ++ f) (record {
      rest = k.rest;
      spelled = spelled_more bytes rest k.rest front f spelled k.spelled;
      next = k.next;
      goes_on = subst (Begins AreStatedLines) (sym (append_assoc front f (k.next ∷ []))) (verdict_up s b p (f ++ k.next ∷ []) h k.goes_on);
      no_line = no_line_weaker (λ line. Begins (AreVerdictLines (length p.costs)) (f ++ line ∷ [])) (λ line. Begins AreStatedLines ((front ++ f) ++ line ∷ [])) k.rest (λ line g. verdict_down s b p f line k.next h k.goes_on g) k.no_line;
    }) (verdict_truly s b p f k.next h k.goes_on))

-- ---- the tree

-- the lines before the tree, the verdict's true
pub record AreBefore (s b : ℕ) (p : Contents) (v : Verdict) (c : ℕ) (on : List Bool) : Type 0 where
  pub in_limits : AreInLimits s b p
  pub within : c < 2 ^ 64
  pub one_a_column : length on ≡ length p.costs
  pub blank : IsBlank v on
  pub truly : HasCost v → c ≡ costs_of p.costs (vector on)

tree_up : (s b : ℕ) (p : Contents) (v : Verdict) (c : ℕ) (on : List Bool) (ls : List (List ℕ)) → AreBefore s b p v c on → Begins AreTreeLines ls → Begins AreStatedLines ((front_lines s b p ++ stated_lines v c on) ++ ls)
tree_up s b p v c on ls h g =
    let w = g.whole in
    let front = front_lines s b p in
    let verdict = stated_lines v c on in
    record {
      more = g.more;
      whole = record {
        report = record { slots = s; budget = b; program = p; verdict = v; on = on; nodes = w.nodes };
        stated = c;
        valid = record { in_limits = h.in_limits; one_a_column = h.one_a_column; blank = h.blank; some_nodes = w.some_nodes; few_nodes = w.few_nodes; nodes_fit = w.nodes_fit };
        within = h.within;
        lines = append_assoc (front ++ verdict) ls g.more ∙ ap (λ t. (front ++ verdict) ++ t) w.lines;
      };
    }

-- what stands after the verdict of such lines
pub behind_verdict : (s b : ℕ) (p : Contents) (v : Verdict) (c : ℕ) (on : List Bool) (s' b' : ℕ) (q : Contents) (w : Verdict) (d : ℕ) (ys : List Bool) (xs tail : List (List ℕ)) → AreBefore s b p v c on → AreInLimits s' b' q → d < 2 ^ 64 → length ys ≡ length q.costs → (front_lines s b p ++ stated_lines v c on) ++ xs ≡ front_lines s' b' q ++ (stated_lines w d ys ++ tail) → (p ≡ q) × SameVerdict v w c d on ys xs tail
behind_verdict s b p v c on s' b' q w d ys xs tail h k small l e =
    let peeled = front_peel s b s' b' p q (stated_lines v c on ++ xs) (stated_lines w d ys ++ tail) h.in_limits k (sym (append_assoc (front_lines s b p) (stated_lines v c on) xs) ∙ e) in
    (peeled.2, verdict_peel (length p.costs) v w c d on ys xs tail h.in_limits.program_valid.columns_fit h.within small h.one_a_column (l ∙ ap (λ t. length t.costs) (sym peeled.2)) peeled.3)

tree_down : (s b : ℕ) (p : Contents) (v : Verdict) (c : ℕ) (on : List Bool) (front : List (List ℕ)) (line : List ℕ) → AreBefore s b p v c on → Begins AreStatedLines (((front_lines s b p ++ stated_lines v c on) ++ front) ++ line ∷ []) → Begins AreTreeLines (front ++ line ∷ [])
tree_down s b p v c on front line h k =
    let w = k.whole in
    let r = w.report in
    let before = front_lines s b p ++ stated_lines v c on in
    let regroup : before ++ ((front ++ line ∷ []) ++ k.more) ≡ ((before ++ front) ++ line ∷ []) ++ k.more =
    sym (ap (λ t. t ++ k.more) (append_assoc before front (line ∷ [])) ∙ append_assoc before (front ++ line ∷ []) k.more) in
    let peeled = behind_verdict s b p v c on r.slots r.budget r.program r.verdict w.stated r.on ((front ++ line ∷ []) ++ k.more) (tree_lines r.nodes) h w.valid.in_limits w.within w.valid.one_a_column (regroup ∙ (w.lines ∙ append_assoc (front_lines r.slots r.budget r.program) (stated_lines r.verdict w.stated r.on) (tree_lines r.nodes))) in
    record { more = k.more; whole = record { nodes = r.nodes; some_nodes = w.valid.some_nodes; few_nodes = w.valid.few_nodes; nodes_fit = w.valid.nodes_fit; lines = peeled.1.rest } }

-- verdicts that are one have their costs
cost_same : (v w : Verdict) → v ≡ w → HasCost w → HasCost v
cost_same v w e h = subst HasCost (sym e) h

pub tree_truly : (s b : ℕ) (p : Contents) (v : Verdict) (c : ℕ) (on : List Bool) (front : List (List ℕ)) → AreBefore s b p v c on → StatesTruly ((front_lines s b p ++ stated_lines v c on) ++ front)
tree_truly s b p v c on front h s' b' q w d ys more k cost small l e =
    let peeled = behind_verdict s b p v c on s' b' q w d ys front more h k small l (e ∙ append_assoc (front_lines s' b' q) (stated_lines w d ys) more) in
    let mine = cost_same v w peeled.1.verdict cost in
    sym (peeled.1.cost mine) ∙ (h.truly mine ∙ (ap (λ t. costs_of t.costs (vector on)) peeled.0 ∙ ap (λ t. costs_of q.costs (vector t)) (peeled.1.columns mine)))

pub tree_refusal : (bytes rest : List ℕ) (number s b : ℕ) (p : Contents) (v : Verdict) (c : ℕ) (on : List Bool) (e : ZoError) → AreBefore s b p v c on → bytes ≡ text_of (front_lines s b p ++ stated_lines v c on) ++ rest → number ≡ length (front_lines s b p ++ stated_lines v c on) → IsStop AreTreeLines rest number e → IsTrueReportRefusal bytes e
tree_refusal bytes rest number s b p v c on NoMemory h spelled counted k = tt
tree_refusal bytes rest number s b p v c on (Bad n) h spelled counted k =
    let before = front_lines s b p ++ stated_lines v c on in
    let f = k.0 in
    let t = k.2 in
    let same_line : length (before ++ f) + 1 ≡ n = omega (arith, counted, k.1, length-append before f) in
    subst (IsFirstReportFault bytes) same_line
    (stop_refusal bytes (before ++ f) (record {
      rest = t.rest;
      spelled = spelled_more bytes rest t.rest before f spelled t.spelled;
      next = t.next;
      goes_on = subst (Begins AreStatedLines) (sym (append_assoc before f (t.next ∷ []))) (tree_up s b p v c on (f ++ t.next ∷ []) h t.goes_on);
      no_line = no_line_weaker (λ line. Begins AreTreeLines (f ++ line ∷ [])) (λ line. Begins AreStatedLines ((before ++ f) ++ line ∷ [])) t.rest (λ line g. tree_down s b p v c on f line h g) t.no_line;
    }) (tree_truly s b p v c on f h))
