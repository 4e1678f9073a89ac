-- where a reader of a program stops
use Rattle.std.proofs.Common.{◌≡◌, ℕ, ◌+◌, ◌^◌, ◌<◌, ◌≤◌, List, [], ◌∷◌, ◌++◌, length, map, refl, sym, ap, ◌∙◌, subst, arith, append_assoc, codes}
use Rattle.std.specs.List.{All}
use Rattle.std.proofs.lemmas.List.{length-append, length-map, map-append}
use Rattle.std.proofs.lemmas.List.Elements.{All-nil, All-push}
use Rattle.nv_lines.specs.Line.{text_of}
use Rattle.nv_lines.specs.Format.{Begins}
use Rattle.nv_lines.proofs.SplitLaws.{text_of-append, text_of-cons}
use Rattle.zo_model.specs.Contents.{RowContents}
use Rattle.zo_model.specs.ProgramText.{columns_line, rows_line, cost_line, row_line, program_lines, IsRowText, IsValidContents, AreProgramLines}
use Rattle.zo_model.specs.inner.LineFault.{IsCounted, IsCost, IsRowLine, IsLineFault}
use Rattle.zo_model.specs.inner.ProgramFault.{IsProgramFault, IsCostFault, IsRowFault}
use Rattle.zo_model.specs.declared.error.ZoError.{ZoError}
use Rattle.zo_model.specs.declared.error.ZoError.TheVariants.{NoMemory, Bad}
use Rattle.zo_model.proofs.LineLemmas.{no_line_weaker}
use Rattle.zo_model.proofs.TextLemmas.{begins_costs, begins_rows, columns_next, rows_next, cost_next, row_next, empty_row, empty_fits}

-- what begins with more lines begins with fewer
begins_fewer : (ls more : List (List ℕ)) → Begins AreProgramLines (ls ++ more) → Begins AreProgramLines ls
begins_fewer ls more b = record { more = more ++ b.more; whole = subst AreProgramLines (append_assoc ls more b.more) b.whole }

-- the bytes after some lines
pub spelled_more : (bytes rest rest' : List ℕ) (ls ms : List (List ℕ)) → bytes ≡ text_of ls ++ rest → rest ≡ text_of ms ++ rest' → bytes ≡ text_of (ls ++ ms) ++ rest'
spelled_more bytes rest rest' ls ms e f =
    e ∙ (ap (λ r. text_of ls ++ r) f ∙ (sym (append_assoc (text_of ls) (text_of ms) rest') ∙ ap (λ t. t ++ rest') (sym (text_of-append ls ms))))

pub one_line_text : (line rest : List ℕ) → line ++ 10 ∷ rest ≡ text_of (line ∷ []) ++ rest
one_line_text line rest = sym (text_of-cons line [] rest)

pub columns_fault : (bytes : List ℕ) (number : ℕ) (e : ZoError) → IsLineFault (IsCounted (codes "columns") (2 ^ 26)) bytes number e → IsProgramFault bytes number e
columns_fault bytes number NoMemory h = tt
columns_fault bytes number (Bad k) h = (
  [],
  h.0,
  record {
    rest = bytes;
    spelled = refl;
    next = columns_line 0;
    goes_on = begins_fewer (columns_line 0 ∷ []) (rows_line 0 ∷ []) (begins_costs 0 0 [] (omega arith) (omega arith) (omega arith) (All-nil (λ c. c < 2 ^ 20)));
    no_line = no_line_weaker (IsCounted (codes "columns") (2 ^ 26)) (λ line. Begins AreProgramLines (line ∷ [])) bytes (λ l b. columns_next l b) h.1;
  },
)

pub rows_fault : (bytes rest : List ℕ) (number number' n : ℕ) (e : ZoError) → n ≤ 2 ^ 26 → bytes ≡ columns_line n ++ 10 ∷ rest → number' ≡ number + 1 → IsLineFault (IsCounted (codes "rows") (2 ^ 26)) rest number' e → IsProgramFault bytes number e
rows_fault bytes rest number number' n NoMemory few s f h = tt
rows_fault bytes rest number number' n (Bad k) few s f h = (
  columns_line n ∷ [],
  omega (arith, h.0),
  record {
    rest = rest;
    spelled = s ∙ one_line_text (columns_line n) rest;
    next = rows_line 0;
    goes_on = begins_costs n 0 [] few (omega arith) (omega arith) (All-nil (λ c. c < 2 ^ 20));
    no_line = no_line_weaker (IsCounted (codes "rows") (2 ^ 26)) (λ line. Begins AreProgramLines (columns_line n ∷ line ∷ [])) rest (λ l b. rows_next n l b) h.1;
  },
)

pub costs_fault : (bytes rest : List ℕ) (number number' n m : ℕ) (e : ZoError) → n ≤ 2 ^ 26 → m ≤ 2 ^ 26 → bytes ≡ text_of (columns_line n ∷ rows_line m ∷ []) ++ rest → number' ≡ number + 2 → IsCostFault n rest number' e → IsProgramFault bytes number e
costs_fault bytes rest number number' n m NoMemory few_n few_m s f h = tt
costs_fault bytes rest number number' n m (Bad k) few_n few_m s f h =
    let costs = h.0 in let stop = h.2 in (
      columns_line n ∷ rows_line m ∷ map cost_line costs,
      omega (arith, h.1, length-map costs cost_line),
      record {
        rest = stop.rest;
        spelled = spelled_more bytes rest stop.rest (columns_line n ∷ rows_line m ∷ []) (map cost_line costs) s stop.spelled;
        next = cost_line 0;
        goes_on = subst (λ ls. Begins AreProgramLines (columns_line n ∷ rows_line m ∷ ls)) (map-append cost_line costs (0 ∷ []))
            (begins_costs n m (costs ++ 0 ∷ []) few_n few_m (omega (arith, stop.fewer, length-append costs (0 ∷ []))) (All-push (λ c. c < 2 ^ 20) costs 0 stop.fit (omega arith)));
        no_line = no_line_weaker IsCost (λ line. Begins AreProgramLines ((columns_line n ∷ rows_line m ∷ map cost_line costs) ++ line ∷ [])) stop.rest (λ l b. cost_next n m costs l few_n few_m stop.fewer b) stop.no_line;
      },
    )

pub row_fault : (bytes rest : List ℕ) (number number' n m : ℕ) (costs : List ℕ) (e : ZoError) → n ≤ 2 ^ 26 → m ≤ 2 ^ 26 → length costs ≡ n → All (λ c. c < 2 ^ 20) costs → bytes ≡ text_of (columns_line n ∷ rows_line m ∷ map cost_line costs) ++ rest → number' ≡ number + 2 + n → IsRowFault n m rest number' e → IsProgramFault bytes number e
row_fault bytes rest number number' n m costs NoMemory few_n few_m all fit s f h = tt
row_fault bytes rest number number' n m costs (Bad k) few_n few_m all fit s f h =
    let rows = h.0 in let stop = h.2 in
    let front = columns_line n ∷ rows_line m ∷ map cost_line costs in (
      front ++ map row_line rows,
      omega (arith, h.1, length-map costs cost_line, length-map rows row_line, length-append (map cost_line costs) (map row_line rows)),
      record {
        rest = stop.rest;
        spelled = spelled_more bytes rest stop.rest front (map row_line rows) s stop.spelled;
        next = row_line empty_row;
        goes_on = subst (Begins AreProgramLines) (ap (λ ls. front ++ ls) (map-append row_line rows (empty_row ∷ [])) ∙ sym (append_assoc front (map row_line rows) (row_line empty_row ∷ [])))
            (begins_rows n m costs (rows ++ empty_row ∷ []) few_n few_m all (omega (arith, stop.fewer, length-append rows (empty_row ∷ []))) fit (All-push (IsRowText n) rows empty_row stop.fit (empty_fits n few_n)));
        no_line = no_line_weaker (IsRowLine n) (λ line. Begins AreProgramLines ((front ++ map row_line rows) ++ line ∷ [])) stop.rest (λ l b. row_next n m costs rows l few_n few_m all stop.fewer b) stop.no_line;
      },
    )

pub two_lines : (bytes r1 r2 : List ℕ) (n m : ℕ) → bytes ≡ columns_line n ++ 10 ∷ r1 → r1 ≡ rows_line m ++ 10 ∷ r2 → bytes ≡ text_of (columns_line n ∷ rows_line m ∷ []) ++ r2
two_lines bytes r1 r2 n m e f =
    spelled_more bytes r1 r2 (columns_line n ∷ []) (rows_line m ∷ []) (e ∙ one_line_text (columns_line n) r1) (f ∙ one_line_text (rows_line m) r2)

-- the lines that were read are those of the program
pub program_spelled : (bytes r1 r2 r3 r4 : List ℕ) (n m : ℕ) (cs : List ℕ) (rs : List RowContents) → length cs ≡ n → length rs ≡ m → bytes ≡ columns_line n ++ 10 ∷ r1 → r1 ≡ rows_line m ++ 10 ∷ r2 → r2 ≡ text_of (map cost_line cs) ++ r3 → r3 ≡ text_of (map row_line rs) ++ r4 → bytes ≡ text_of (program_lines (record { costs = cs; rows = rs })) ++ r4
program_spelled bytes r1 r2 r3 r4 n m cs rs counted_n counted_m e1 e2 e3 e4 =
    let all = spelled_more bytes r3 r4 (columns_line n ∷ rows_line m ∷ map cost_line cs) (map row_line rs) (spelled_more bytes r2 r3 (columns_line n ∷ rows_line m ∷ []) (map cost_line cs) (two_lines bytes r1 r2 n m e1 e2) e3) e4 in
    all ∙ (ap (λ k. text_of (columns_line k ∷ rows_line m ∷ map cost_line cs ++ map row_line rs) ++ r4) (sym counted_n)
    ∙ ap (λ k. text_of (columns_line (length cs) ∷ rows_line k ∷ map cost_line cs ++ map row_line rs) ++ r4) (sym counted_m))

pub valid_made : (n m : ℕ) (cs : List ℕ) (rs : List RowContents) → n ≤ 2 ^ 26 → m ≤ 2 ^ 26 → length cs ≡ n → length rs ≡ m → All (λ c. c < 2 ^ 20) cs → All (IsRowText n) rs → IsValidContents (record { costs = cs; rows = rs })
valid_made n m cs rs few_n few_m counted_n counted_m fit rows =
    record { columns_fit = omega arith; rows_fit = omega arith; costs_fit = fit; rows_ok = subst (λ k. All (IsRowText k) rs) (sym counted_n) rows }

pub lines_counted : (n m first last : ℕ) (cs : List ℕ) (rs : List RowContents) → length cs ≡ n → length rs ≡ m → last ≡ first + 1 + 1 + n + m → last ≡ first + length (program_lines (record { costs = cs; rows = rs }))
lines_counted n m first last cs rs counted_n counted_m e =
    omega (arith, e, length-append (map cost_line cs) (map row_line rs), length-map cs cost_line, length-map rs row_line)
