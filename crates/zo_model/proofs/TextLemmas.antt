-- the lines of a program, up to some line
use Rattle.std.proofs.Common.{◌≡◌, ℕ, ◌-◌, ◌^◌, ◌<◌, ◌≤◌, List, [], ◌∷◌, ◌++◌, length, map, replicate, sym, ap, ◌∙◌, subst, arith, append_assoc, pos, codes}
use Rattle.std.specs.List.{All}
use Rattle.std.proofs.lemmas.List.{append-nil, length-append, length-replicate, length-map, map-append}
use Rattle.std.proofs.lemmas.List.Elements.{All-append, All-replicate, All-nil, All-head, All-tail}
use Rattle.std.proofs.lemmas.Int.{ints}
use Rattle.nv_lines.specs.Format.{Begins}
use Rattle.zo_model.specs.Contents.{Contents, RowContents}
use Rattle.zo_model.specs.Program.{IsCoefficient}
use Rattle.zo_model.specs.ProgramText.{columns_line, rows_line, cost_line, row_line, program_lines, IsRowText, IsValidContents, AreProgramLines}
use Rattle.zo_model.specs.inner.LineFault.{IsCost, IsRowLine, IsCounted}
use Rattle.zo_model.proofs.LineLemmas.{counted_one}

-- a row without terms
abbrev pub empty_row : RowContents
empty_row = record { terms = []; least = pos 0 }

pub empty_fits : (n : ℕ) → n ≤ 2 ^ 26 → IsRowText n empty_row
empty_fits n few =
    record {
      terms_fit = record { few = few; rise = tt; coefficients_fit = All-nil (λ t. IsCoefficient t.1) };
      least_fits = record { low = omega (arith, ints); high = omega (arith, ints) };
    }

-- the program that these columns and rows begin, with free columns and rows after them
abbrev pub padded : ℕ → ℕ → List ℕ → List RowContents → Contents
padded n m cs rs = record { costs = cs ++ replicate (n - length cs) 0; rows = rs ++ replicate (m - length rs) empty_row }

length-padded : {X : Type 0} (n : ℕ) (xs : List X) (x : X) → length xs ≤ n → length (xs ++ replicate (n - length xs) x) ≡ n
length-padded n xs x le = omega (arith, length-append xs (replicate (n - length xs) x), length-replicate (n - length xs) x)

pub padded_valid : (n m : ℕ) (cs : List ℕ) (rs : List RowContents) → n ≤ 2 ^ 26 → m ≤ 2 ^ 26 → length cs ≤ n → length rs ≤ m → All (λ c. c < 2 ^ 20) cs → All (IsRowText n) rs → IsValidContents (padded n m cs rs)
padded_valid n m cs rs few_n few_m few_cs few_rs hc hr =
    let lc = length-padded n cs 0 few_cs in
    let lr = length-padded m rs empty_row few_rs in
    record {
      columns_fit = omega (arith, lc);
      rows_fit = omega (arith, lr);
      costs_fit = All-append (λ c. c < 2 ^ 20) cs (replicate (n - length cs) 0) hc (All-replicate (λ c. c < 2 ^ 20) (n - length cs) 0 (omega arith));
      rows_ok = subst (λ k. All (IsRowText k) (rs ++ replicate (m - length rs) empty_row)) (sym lc) (All-append (IsRowText n) rs (replicate (m - length rs) empty_row) hr (All-replicate (IsRowText n) (m - length rs) empty_row (empty_fits n few_n)));
    }

-- its lines
padded_lines : (n m : ℕ) (cs : List ℕ) (rs : List RowContents) → length cs ≤ n → length rs ≤ m → program_lines (padded n m cs rs) ≡ columns_line n ∷ rows_line m ∷ map cost_line (cs ++ replicate (n - length cs) 0) ++ map row_line (rs ++ replicate (m - length rs) empty_row)
padded_lines n m cs rs few_cs few_rs =
    ap (λ k. columns_line k ∷ rows_line (length (rs ++ replicate (m - length rs) empty_row)) ∷ map cost_line (cs ++ replicate (n - length cs) 0) ++ map row_line (rs ++ replicate (m - length rs) empty_row)) (length-padded n cs 0 few_cs)
    ∙ ap (λ k. columns_line n ∷ rows_line k ∷ map cost_line (cs ++ replicate (n - length cs) 0) ++ map row_line (rs ++ replicate (m - length rs) empty_row)) (length-padded m rs empty_row few_rs)

-- the counts and some columns begin a text
pub begins_costs : (n m : ℕ) (cs : List ℕ) → n ≤ 2 ^ 26 → m ≤ 2 ^ 26 → length cs ≤ n → All (λ c. c < 2 ^ 20) cs → Begins AreProgramLines (columns_line n ∷ rows_line m ∷ map cost_line cs)
begins_costs n m cs few_n few_m few_cs hc =
    let more = map cost_line (replicate (n - length cs) 0) ++ map row_line (replicate (m - 0) empty_row) in
    record {
      more = more;
      whole = record {
        program = padded n m cs [];
        valid = padded_valid n m cs [] few_n few_m few_cs (omega arith) hc (All-nil (IsRowText n));
        lines = sym (padded_lines n m cs [] few_cs (omega arith) ∙ ap (λ t. columns_line n ∷ rows_line m ∷ t)
            (ap (λ t. t ++ map row_line (replicate (m - 0) empty_row)) (map-append cost_line cs (replicate (n - length cs) 0)) ∙ append_assoc (map cost_line cs) (map cost_line (replicate (n - length cs) 0)) (map row_line (replicate (m - 0) empty_row))));
      };
    }

-- the counts, all columns and some rows begin a text
pub begins_rows : (n m : ℕ) (cs : List ℕ) (rs : List RowContents) → n ≤ 2 ^ 26 → m ≤ 2 ^ 26 → length cs ≡ n → length rs ≤ m → All (λ c. c < 2 ^ 20) cs → All (IsRowText n) rs → Begins AreProgramLines (columns_line n ∷ rows_line m ∷ map cost_line cs ++ map row_line rs)
begins_rows n m cs rs few_n few_m all_cs few_rs hc hr =
    let none : n - length cs ≡ 0 = omega arith in
    let costs : cs ++ replicate (n - length cs) 0 ≡ cs = ap (λ k. cs ++ replicate k 0) none ∙ append-nil cs in
    record {
      more = map row_line (replicate (m - length rs) empty_row);
      whole = record {
        program = padded n m cs rs;
        valid = padded_valid n m cs rs few_n few_m (omega arith) few_rs hc hr;
        lines = sym (padded_lines n m cs rs (omega arith) few_rs ∙ ap (λ t. columns_line n ∷ rows_line m ∷ t)
            (ap (λ t. map cost_line t ++ map row_line (rs ++ replicate (m - length rs) empty_row)) costs
            ∙ (ap (λ t. map cost_line cs ++ t) (map-append row_line rs (replicate (m - length rs) empty_row)) ∙ sym (append_assoc (map cost_line cs) (map row_line rs) (map row_line (replicate (m - length rs) empty_row))))));
      };
    }

-- one element of a list stands where fewer lines end
pub at_map : {X : Type 0} (P : X → Type 0) (f : X → List ℕ) (xs : List X) (ds : List (List ℕ)) (l : List ℕ) (more behind : List (List ℕ)) → length ds < length xs → All P xs → (ds ++ l ∷ []) ++ more ≡ map f xs ++ behind → (x : X) × P x × (l ≡ f x)
at_map P f [] ds l more behind lt h e = absurd (omega arith)
at_map P f (x ∷ xs) [] l more behind lt h e = (x, All-head P x xs h, cc)
at_map P f (x ∷ xs) (d ∷ ds) l more behind lt h e = at_map P f xs ds l more behind (omega arith) (All-tail P x xs h) (cc)

-- a first line of a text gives the number of columns
pub columns_next : (line : List ℕ) → Begins AreProgramLines (line ∷ []) → IsCounted (codes "columns") (2 ^ 26) line
columns_next line b =
    let e = b.whole.lines in
    let f : line ≡ columns_line (length b.whole.program.costs) = cc (e) in
    record { number = length b.whole.program.costs; within = b.whole.valid.columns_fit; spelled = f }

pub rows_next : (n : ℕ) (line : List ℕ) → Begins AreProgramLines (columns_line n ∷ line ∷ []) → IsCounted (codes "rows") (2 ^ 26) line
rows_next n line b =
    let e = b.whole.lines in
    let f : line ≡ rows_line (length b.whole.program.rows) = cc (e) in
    record { number = length b.whole.program.rows; within = b.whole.valid.rows_fit; spelled = f }

-- how many columns and rows there are, by the first two lines
columns_are : (n m : ℕ) (ls more : List (List ℕ)) → n ≤ 2 ^ 26 → m ≤ 2 ^ 26 → (w : AreProgramLines (columns_line n ∷ rows_line m ∷ ls ++ more)) → (length w.program.costs ≡ n) × (length w.program.rows ≡ m) × (ls ++ more ≡ map cost_line w.program.costs ++ map row_line w.program.rows)
columns_are n m ls more few_n few_m w =
    let e = w.lines in
    let f : columns_line n ≡ columns_line (length w.program.costs) = cc (e) in
    let g : rows_line m ≡ rows_line (length w.program.rows) = cc (e) in (
      sym (counted_one (codes "columns") n (length w.program.costs) (omega arith) (omega (arith, w.valid.columns_fit)) f),
      sym (counted_one (codes "rows") m (length w.program.rows) (omega arith) (omega (arith, w.valid.rows_fit)) g),
      cc (e),
    )

pub cost_next : (n m : ℕ) (cs : List ℕ) (line : List ℕ) → n ≤ 2 ^ 26 → m ≤ 2 ^ 26 → length cs < n → Begins AreProgramLines ((columns_line n ∷ rows_line m ∷ map cost_line cs) ++ line ∷ []) → IsCost line
cost_next n m cs line few_n few_m fewer b =
    let w = b.whole in
    let c = columns_are n m (map cost_line cs ++ line ∷ []) b.more few_n few_m w in
    let r = at_map (λ c. c < 2 ^ 20) cost_line w.program.costs (map cost_line cs) line b.more (map row_line w.program.rows) (omega (arith, length-map cs cost_line, c.0)) w.valid.costs_fit c.2 in
    record { cost = r.0; within = r.1; spelled = r.2 }

-- lists that are as long in front are parted alike
pub split_length : {X : Type 0} (as' bs cs ds : List X) → length as' ≡ length cs → as' ++ bs ≡ cs ++ ds → bs ≡ ds
split_length [] bs [] ds e f = f
split_length [] bs (c ∷ cs) ds e f = absurd (omega arith)
split_length (a ∷ as') bs [] ds e f = absurd (omega arith)
split_length (a ∷ as') bs (c ∷ cs) ds e f = split_length as' bs cs ds (omega arith) (cc)

pub row_next : (n m : ℕ) (cs : List ℕ) (rs : List RowContents) (line : List ℕ) → n ≤ 2 ^ 26 → m ≤ 2 ^ 26 → length cs ≡ n → length rs < m → Begins AreProgramLines ((columns_line n ∷ rows_line m ∷ map cost_line cs ++ map row_line rs) ++ line ∷ []) → IsRowLine n line
row_next n m cs rs line few_n few_m all_cs fewer b =
    let w = b.whole in
    let c = columns_are n m ((map cost_line cs ++ map row_line rs) ++ line ∷ []) b.more few_n few_m w in
    let regroup : map cost_line cs ++ ((map row_line rs ++ line ∷ []) ++ b.more) ≡ ((map cost_line cs ++ map row_line rs) ++ line ∷ []) ++ b.more =
    sym (ap (λ t. t ++ b.more) (append_assoc (map cost_line cs) (map row_line rs) (line ∷ [])) ∙ append_assoc (map cost_line cs) (map row_line rs ++ line ∷ []) b.more) in
    let rows = split_length (map cost_line cs) ((map row_line rs ++ line ∷ []) ++ b.more) (map cost_line w.program.costs) (map row_line w.program.rows)
    (omega (arith, length-map cs cost_line, length-map w.program.costs cost_line, c.0)) (regroup ∙ c.2) in
    let r = at_map (IsRowText (length w.program.costs)) row_line w.program.rows (map row_line rs) line b.more [] (omega (arith, length-map rs row_line, c.1)) w.valid.rows_ok (rows ∙ sym (append-nil (map row_line w.program.rows))) in
    record { row = r.0; fits = subst (λ k. IsRowText k r.0) c.0 r.1; spelled = r.2 }
