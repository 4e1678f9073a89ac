-- where the reader of a report stops, there is the first fault
use Rattle.std.proofs.Common.{◌≡◌, ℕ, ◌+◌, ◌^◌, ◌<◌, ◌≤◌, List, [], ◌∷◌, ◌++◌, length, replicate, refl, sym, ap, ◌∙◌, subst, arith, append_assoc, codes, Bool, false, zero-add}
use Rattle.std.specs.List.{All}
use Rattle.std.proofs.lemmas.List.{append-nil, length-append, length-replicate}
use Rattle.std.proofs.lemmas.List.Elements.{All-replicate, All-nil, All-cons}
use Rattle.nv_lines.specs.Line.{Lacks, AllLack, text_of}
use Rattle.nv_lines.specs.Format.{Begins, IsFormat, FirstFault, wrong, short}
use Rattle.nv_lines.proofs.SplitLaws.{same, longer, shorter, lie, after_longer, lacks_not, split_one, lines_one, AllLack-back}
use Rattle.zo_model.specs.Contents.{Contents}
use Rattle.zo_model.specs.Program.{vector, costs_of}
use Rattle.zo_model.specs.ProgramText.{program_lines, columns_line, rows_line, IsValidContents, IsRowText, AreProgramLines}
use Rattle.zo_model.specs.inner.LineFault.{NoLine, cut, other}
use Rattle.zo_model.specs.inner.ProgramFault.{IsProgramFault}
use Rattle.zo_model.specs.declared.error.ZoError.{ZoError}
use Rattle.zo_model.specs.declared.error.ZoError.TheVariants.{NoMemory, Bad}
use Rattle.zo_model.proofs.ExactLemmas.{Rest, last, line_first, rest_of}
use Rattle.zo_model.proofs.FaultLemmas.{spelled_more}
use Rattle.zo_model.proofs.LineLemmas.{counted_one, no_line_weaker}
use Rattle.zo_cert_tree.specs.Node.{left_open, IsNodeText}
use Rattle.zo_cert.specs.Contents.{ReportContents}
use Rattle.zo_cert.specs.Report.{IsBlank}
use Rattle.zo_cert.specs.ReportText.{counted_line}
use Rattle.zo_cert.specs.ReportFault.{AreInLimits, IsReport, HasCost, front_lines, stated_lines, tree_lines, AreStatedLines, IsFirstReportFault, wrong_line}
use Rattle.zo_cert.specs.ReportAnswer.{IsTrueReportRefusal}
use Rattle.zo_cert.specs.inner.ReportPart.{AreFrontLines, StopsAt, IsStop}
use Rattle.zo_cert.specs.declared.report.Verdict.{Verdict}
use Rattle.zo_cert.specs.declared.report.Verdict.TheVariants as verdicts
use Rattle.zo_cert.proofs.ReportPeel.{lines_length, program_peel}
use Rattle.zo_cert.proofs.ReportFormat.{stated_lack, stated_format, stated_ends}

-- ---- the first fault

-- lines that begin a text stand among those before a line that isn't of the format
among : (F W : List (List ℕ) → Type 0) (f ls : List (List ℕ)) (rest back : List ℕ) → IsFormat F W → F f → F ls → NoLine (λ line. F (f ++ line ∷ [])) rest → text_of f ++ rest ≡ text_of ls ++ back → (more : List (List ℕ)) × (f ≡ ls ++ more)
among F W f ls rest back is bf bl none e =
    elim (lie f ls rest back (is.lack f bf) (is.lack ls bl) e) [
      | same s ↦ ([], s ∙ sym (append-nil ls))
      | longer y more s ↦ absurd (past none y more s)
      | shorter x more s ↦ (x ∷ more, s)
    ]
  where
    past : NoLine (λ line. F (f ++ line ∷ [])) rest → (y : List ℕ) (more : List (List ℕ)) → ls ≡ f ++ y ∷ more → ⊥
    past (cut lack) y more s = lacks_not 10 y (text_of more ++ back) rest lack (sym (after_longer f more y rest back (e ∙ ap (λ ks. text_of ks ++ back) s)))
    past (other line b eq lack wrong_next) y more s =
        let lacks_y : Lacks 10 y = (AllLack-back 10 f (y ∷ more) (subst (AllLack 10) s (is.lack ls bl))).0 in
        let next = after_longer f more y rest back (e ∙ ap (λ ks. text_of ks ++ back) s) in
        let same_line = (split_one 10 line b y (text_of more ++ back) lack lacks_y (sym eq ∙ next)).0 in
        wrong_next (is.fewer (f ++ line ∷ []) more (subst F (s ∙ (ap (λ l. f ++ l ∷ more) (sym same_line) ∙ sym (append_assoc f (line ∷ []) more))) bl))

first_fault : (bytes : List ℕ) (f : List (List ℕ)) (rest : List ℕ) → bytes ≡ text_of f ++ rest → Begins AreStatedLines f → NoLine (λ line. Begins AreStatedLines (f ++ line ∷ [])) rest → (rest ≡ [] → AreStatedLines f → ⊥) → FirstFault (Begins AreStatedLines) AreStatedLines bytes (length f + 1)
first_fault bytes f rest e begins (other line back g lack none) ends = wrong f line back (e ∙ ap (λ r. text_of f ++ r) g) lack begins none
first_fault bytes f rest e begins (cut lack) ends =
    short f rest e lack begins (λ t.
    let one = lines_one f t.lines rest [] (stated_format.lack f begins) (stated_lack t.lines t.whole) lack tt (sym e ∙ (t.spelled ∙ sym (append-nil (text_of t.lines)))) in
    ends one.1 (subst AreStatedLines (sym one.0) t.whole))

-- ---- no verdict before it states a wrong cost

-- a verdict with a cost among these lines states that of its columns
abbrev pub StatesTruly : List (List ℕ) → Type 0
StatesTruly f = (s b : ℕ) (p : Contents) (v : Verdict) (c : ℕ) (on : List Bool) (more : List (List ℕ)) → AreInLimits s b p → HasCost v → c < 2 ^ 64 → length on ≡ length p.costs → f ≡ (front_lines s b p ++ stated_lines v c on) ++ more → c ≡ costs_of p.costs (vector on)

pub blank_where_cost : (v : Verdict) (on : List Bool) → HasCost v → IsBlank v on
blank_where_cost verdicts.Optimal on h = tt
blank_where_cost verdicts.Feasible on h = tt
blank_where_cost verdicts.Infeasible on h = absurd h
blank_where_cost verdicts.Spent on h = absurd h

node_left : All IsNodeText (left_open ∷ [])
node_left = All-cons IsNodeText left_open [] tt (All-nil IsNodeText)

-- a report with this verdict, whose tree is one node
abbrev pub small_report : ℕ → ℕ → Contents → Verdict → List Bool → ReportContents
small_report s b p v on = record { slots = s; budget = b; program = p; verdict = v; on = on; nodes = left_open ∷ [] }

pub small_valid : (s b : ℕ) (p : Contents) (v : Verdict) (on : List Bool) → AreInLimits s b p → length on ≡ length p.costs → IsBlank v on → IsReport (small_report s b p v on)
small_valid s b p v on h l blank = record { in_limits = h; one_a_column = l; blank = blank; some_nodes = omega arith; few_nodes = omega arith; nodes_fit = node_left }

pub begins_verdict : (s b : ℕ) (p : Contents) (v : Verdict) (c : ℕ) (on : List Bool) → AreInLimits s b p → c < 2 ^ 64 → length on ≡ length p.costs → IsBlank v on → Begins AreStatedLines (front_lines s b p ++ stated_lines v c on)
begins_verdict s b p v c on h small l blank =
    record {
      more = tree_lines (left_open ∷ []);
      whole = record { report = small_report s b p v on; stated = c; valid = small_valid s b p v on h l blank; within = small; lines = refl };
    }

-- a report's text is refused at its first fault
pub refusal : (bytes : List ℕ) (f : List (List ℕ)) (rest : List ℕ) → bytes ≡ text_of f ++ rest → Begins AreStatedLines f → NoLine (λ line. Begins AreStatedLines (f ++ line ∷ [])) rest → (rest ≡ [] → AreStatedLines f → ⊥) → StatesTruly f → IsFirstReportFault bytes (length f + 1)
refusal bytes f rest e begins none ends truly =
    wrong_line
    (λ m w.
    let a = among (Begins AreStatedLines) AreStatedLines f (front_lines w.slots w.budget w.program ++ stated_lines w.verdict w.stated w.on) rest w.back stated_format begins
    (begins_verdict w.slots w.budget w.program w.verdict w.stated w.on w.in_limits w.within w.one_a_column (blank_where_cost w.verdict w.on w.has_cost)) none (sym e ∙ w.spelled) in
    w.not_its_cost (truly w.slots w.budget w.program w.verdict w.stated w.on a.0 w.in_limits w.has_cost w.within w.one_a_column a.1))
    (first_fault bytes f rest e begins none ends)

pub stop_refusal : (bytes : List ℕ) (f : List (List ℕ)) → StopsAt AreStatedLines bytes f → StatesTruly f → IsFirstReportFault bytes (length f + 1)
stop_refusal bytes f s truly =
    refusal bytes f s.rest s.spelled (stated_format.fewer f (s.next ∷ []) s.goes_on) s.no_line
    (λ _ w. stated_ends f s.next s.goes_on.more w (subst AreStatedLines (append_assoc f (s.next ∷ []) s.goes_on.more) s.goes_on.whole)) truly

-- what stands after a whole text is faulty
pub behind_refusal : (bytes : List ℕ) (f : List (List ℕ)) (rest : List ℕ) → bytes ≡ text_of f ++ rest → AreStatedLines f → (rest ≡ [] → ⊥) → StatesTruly f → IsFirstReportFault bytes (length f + 1)
behind_refusal bytes f rest e w some truly = refusal bytes f rest e (stated_format.whole f w) (ends (rest_of rest)) (λ z _. some z) truly
  where
    ends : Rest rest → NoLine (λ line. Begins AreStatedLines (f ++ line ∷ [])) rest
    ends (last lack) = cut lack
    ends (line_first line back g lack) = other line back g lack (λ b. stated_ends f line b.more w (subst AreStatedLines (append_assoc f (line ∷ []) b.more) b.whole))

-- ---- the front

-- of two lists of lines that begin alike the shorter begins the other
pub front_of : (xs ys zs ws : List (List ℕ)) → xs ++ ys ≡ zs ++ ws → length xs ≤ length zs → (k : List (List ℕ)) × (zs ≡ xs ++ k)
front_of [] ys zs ws e le = (zs, refl)
front_of (x ∷ xs) ys [] ws e le = absurd (omega arith)
front_of (x ∷ xs) ys (z ∷ zs) ws e le =
    let head : x ≡ z = cc (e) in
    let tail : xs ++ ys ≡ zs ++ ws = cc (e) in
    let r = front_of xs ys zs ws tail (omega arith) in
    let same_rest = r.1 in (r.0, cc (head, same_rest))

-- the lines before the program
abbrev pub three_lines : ℕ → ℕ → List (List ℕ)
three_lines s b = codes "novareport 1" ∷ counted_line (codes "slots") s ∷ counted_line (codes "budget") b ∷ []

abbrev empty_program : Contents
empty_program = record { costs = []; rows = [] }

empty_valid : IsValidContents empty_program
empty_valid = record { columns_fit = omega arith; rows_fit = omega arith; costs_fit = All-nil (λ c. c < 2 ^ 20); rows_ok = All-nil (IsRowText 0) }

-- what begins the front begins a report
front_up : (ls : List (List ℕ)) → Begins AreFrontLines ls → Begins AreStatedLines ls
front_up ls b =
    let w = b.whole in
    let tail = program_lines empty_program ++ stated_lines verdicts.Spent 0 [] ++ tree_lines (left_open ∷ []) in
    record {
      more = b.more ++ tail;
      whole = record {
        report = small_report w.slots w.budget empty_program verdicts.Spent [];
        stated = 0;
        valid = small_valid w.slots w.budget empty_program verdicts.Spent [] (record { slots_fit = w.slots_fit; budget_low = w.budget_low; budget_high = w.budget_high; program_valid = empty_valid }) refl (All-nil (λ v. v ≡ false));
        within = omega arith;
        lines = sym (append_assoc ls b.more tail) ∙ ap (λ t. t ++ tail) w.lines;
      };
    }

short_front : (f : List (List ℕ)) (next : List ℕ) → Begins AreFrontLines (f ++ next ∷ []) → length f < 3
short_front f next b = omega (arith, ap length b.whole.lines, length-append (f ++ next ∷ []) b.more, length-append f (next ∷ []))

-- a line that goes on in a report goes on in its prefix
front_down : (f : List (List ℕ)) (line : List ℕ) → length f < 3 → Begins AreStatedLines (f ++ line ∷ []) → Begins AreFrontLines (f ++ line ∷ [])
front_down f line fewer b =
    let w = b.whole in
    let r = w.report in
    let tail = program_lines r.program ++ stated_lines r.verdict w.stated r.on ++ tree_lines r.nodes in
    let g = front_of (f ++ line ∷ []) b.more (three_lines r.slots r.budget) tail w.lines (omega (arith, length-append f (line ∷ []))) in
    record { more = g.0; whole = record { slots = r.slots; budget = r.budget; slots_fit = w.valid.in_limits.slots_fit; budget_low = w.valid.in_limits.budget_low; budget_high = w.valid.in_limits.budget_high; lines = sym g.1 } }

front_truly : (f : List (List ℕ)) → length f < 3 → StatesTruly f
front_truly f fewer s b p v c on more h k small l e =
    absurd (omega (arith, fewer, ap length e, length-append (front_lines s b p ++ stated_lines v c on) more, length-append (front_lines s b p) (stated_lines v c on)))

pub front_refusal : (bytes : List ℕ) (e : ZoError) → IsStop AreFrontLines bytes 0 e → IsTrueReportRefusal bytes e
front_refusal bytes NoMemory h = tt
front_refusal bytes (Bad n) h =
    let f = h.0 in
    let s = h.2 in
    let fewer = short_front f s.next s.goes_on in
    subst (IsFirstReportFault bytes) (sym (h.1 ∙ zero-add (length f + 1)))
    (stop_refusal bytes f (record {
      rest = s.rest;
      spelled = s.spelled;
      next = s.next;
      goes_on = front_up (f ++ s.next ∷ []) s.goes_on;
      no_line = no_line_weaker (λ line. Begins AreFrontLines (f ++ line ∷ [])) (λ line. Begins AreStatedLines (f ++ line ∷ [])) s.rest (λ line b. front_down f line fewer b) s.no_line;
    }) (front_truly f fewer))

-- ---- the program

abbrev blanks_of : Contents → List Bool
blanks_of p = replicate (length p.costs) false

-- what begins a program begins a report, after the front
program_up : (s b : ℕ) (ls : List (List ℕ)) → s ≤ 128 → 1 ≤ b → b ≤ 1000000 → Begins AreProgramLines ls → Begins AreStatedLines (three_lines s b ++ ls)
program_up s b ls hs hb hb' g =
    let w = g.whole in
    let p = w.program in
    let tail = stated_lines verdicts.Spent 0 (blanks_of p) ++ tree_lines (left_open ∷ []) in
    record {
      more = g.more ++ tail;
      whole = record {
        report = small_report s b p verdicts.Spent (blanks_of p);
        stated = 0;
        valid = small_valid s b p verdicts.Spent (blanks_of p) (record { slots_fit = hs; budget_low = hb; budget_high = hb'; program_valid = w.valid }) (length-replicate (length p.costs) false) (All-replicate (λ v. v ≡ false) (length p.costs) false refl);
        within = omega arith;
        lines = ap (λ t. three_lines s b ++ t) (sym (append_assoc ls g.more tail) ∙ (ap (λ t. t ++ tail) w.lines ∙ sym (append_assoc (program_lines p) (stated_lines verdicts.Spent 0 (blanks_of p)) (tree_lines (left_open ∷ [])))));
      };
    }

-- a line within a program's text is within any that begins alike
within_program : (front : List (List ℕ)) (line next : List ℕ) (more behind tail : List (List ℕ)) (p q : Contents) → IsValidContents p → IsValidContents q → (front ++ next ∷ []) ++ behind ≡ program_lines q → (front ++ line ∷ []) ++ more ≡ program_lines p ++ tail → length (front ++ line ∷ []) ≤ length (program_lines p)
within_program [] line next more behind tail p q v w g e = omega (arith, lines_length p)
within_program (a ∷ []) line next more behind tail p q v w g e = omega (arith, lines_length p)
within_program (a ∷ b ∷ front) line next more behind tail p q v w g e =
    let c : columns_line (length p.costs) ≡ columns_line (length q.costs) = cc (e, g) in
    let d : rows_line (length p.rows) ≡ rows_line (length q.rows) = cc (e, g) in
    omega (
      arith,
      lines_length p,
      lines_length q,
      ap length g,
      length-append ((a ∷ b ∷ front) ++ next ∷ []) behind,
      length-append (a ∷ b ∷ front) (next ∷ []),
      length-append (a ∷ b ∷ front) (line ∷ []),
      counted_one (codes "columns") (length p.costs) (length q.costs) (omega (arith, v.columns_fit)) (omega (arith, w.columns_fit)) c,
      counted_one (codes "rows") (length p.rows) (length q.rows) (omega (arith, v.rows_fit)) (omega (arith, w.rows_fit)) d,
    )

begins_program : (p : Contents) (ls more : List (List ℕ)) → IsValidContents p → program_lines p ≡ ls ++ more → Begins AreProgramLines ls
begins_program p ls more v e = record { more = more; whole = record { program = p; valid = v; lines = sym e } }

program_down : (s b : ℕ) (front : List (List ℕ)) (line next : List ℕ) → Begins AreProgramLines (front ++ next ∷ []) → Begins AreStatedLines ((three_lines s b ++ front) ++ line ∷ []) → Begins AreProgramLines (front ++ line ∷ [])
program_down s b front line next g k =
    let w = k.whole in
    let r = w.report in
    let p = r.program in
    let tail = stated_lines r.verdict w.stated r.on ++ tree_lines r.nodes in
    let all = w.lines in
    let behind : (front ++ line ∷ []) ++ k.more ≡ program_lines p ++ stated_lines r.verdict w.stated r.on ++ tree_lines r.nodes = cc (all) in
    let t = behind ∙ append_assoc (program_lines p) (stated_lines r.verdict w.stated r.on) (tree_lines r.nodes) in
    let f = front_of (front ++ line ∷ []) k.more (program_lines p) tail t (within_program front line next k.more g.more tail p g.whole.program w.valid.in_limits.program_valid g.whole.valid g.whole.lines t) in
    begins_program p (front ++ line ∷ []) f.0 w.valid.in_limits.program_valid f.1

program_truly : (s b : ℕ) (front : List (List ℕ)) (next : List ℕ) → Begins AreProgramLines (front ++ next ∷ []) → StatesTruly (three_lines s b ++ front)
program_truly s b front next g s' b' p v c on more h k small l e =
    let q = g.whole.program in
    let t : front ≡ (program_lines p ++ stated_lines v c on) ++ more = cc (e) in
    let behind = (stated_lines v c on ++ more) ++ next ∷ g.more in
    let goes : program_lines p ++ behind ≡ program_lines q ++ [] =
    sym (append_assoc (program_lines p) (stated_lines v c on ++ more) (next ∷ g.more))
    ∙ (ap (λ x. x ++ next ∷ g.more) (sym (append_assoc (program_lines p) (stated_lines v c on) more) ∙ sym t) ∙ (sym (append_assoc front (next ∷ []) g.more) ∙ (g.whole.lines ∙ sym (append-nil (program_lines q))))) in
    let peeled = (program_peel p q behind [] h.program_valid g.whole.valid goes).1 in
    absurd (omega (arith, ap length peeled, length-append (stated_lines v c on ++ more) (next ∷ g.more)))

pub program_refusal : (bytes rest : List ℕ) (number s b : ℕ) (e : ZoError) → s ≤ 128 → 1 ≤ b → b ≤ 1000000 → bytes ≡ text_of (three_lines s b) ++ rest → number ≡ 3 → IsProgramFault rest number e → IsTrueReportRefusal bytes e
program_refusal bytes rest number s b NoMemory hs hb hb' spelled counted h = tt
program_refusal bytes rest number s b (Bad n) hs hb hb' spelled counted h =
    let f = h.0 in
    let k = h.2 in
    let same_line : length (three_lines s b ++ f) + 1 ≡ n = omega (arith, counted, h.1) in
    subst (IsFirstReportFault bytes) same_line
    (stop_refusal bytes (three_lines s b ++ f) (record {
      rest = k.rest;
      spelled = spelled_more bytes rest k.rest (three_lines s b) f spelled k.spelled;
      next = k.next;
      goes_on = program_up s b (f ++ k.next ∷ []) hs hb hb' k.goes_on;
      no_line = no_line_weaker (λ line. Begins AreProgramLines (f ++ line ∷ [])) (λ line. Begins AreStatedLines ((three_lines s b ++ f) ++ line ∷ [])) k.rest (λ line g. program_down s b f line k.next k.goes_on g) k.no_line;
    }) (program_truly s b f k.next k.goes_on))
