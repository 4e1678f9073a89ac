-- of a text's answers one is true
use Rattle.std.proofs.Common.{◌≡◌, ◌≢◌, ℕ, ◌+◌, ◌^◌, ◌<◌, List, [], ◌∷◌, ◌++◌, length, map, refl, sym, ap, ◌∙◌, subst, arith, append_assoc, codes, decimal, lit≤, Result, Ok, Err, IfOk, IfErr, true, false, eqb, ◌⊎◌, inl, inr, zero-add}
use Rattle.std.proofs.lemmas.Bool.Decides.{eqb_tells}
use Rattle.std.specs.List.{All}
use Rattle.std.specs.Fmt.{signed_decimal}
use Rattle.std.proofs.lemmas.List.{append-nil, length-append, length-map}
use Rattle.std.proofs.lemmas.List.Elements.{All-nil, All-cons, All-head, All-tail}
use Rattle.nv_lines.specs.Line.{Lacks, AllLack, text_of, parted}
use Rattle.nv_lines.specs.Format.{Begins, IsText, FirstFault, wrong, short, IsFormat}
use Rattle.nv_lines.proofs.SplitLaws.{lines_one, Lacks-parted, Lacks-test, AllLack-append}
use Rattle.nv_lines.proofs.NumberLaws.{Lacks-decimal, Lacks-signed}
use Rattle.nv_lines.proofs.FormatLaws.{no_text, one_fault, begins_format}
use Rattle.zo_model.specs.Contents.{Contents, RowContents, contents, row_contents}
use Rattle.zo_model.specs.Program.{IsValid, IsRow}
use Rattle.zo_model.specs.ProgramText.{columns_line, rows_line, cost_line, row_line, term_text, program_lines, program_text, IsRowText, IsValidContents, AreProgramLines, IsFirstFault}
use Rattle.zo_model.specs.ProgramAnswer.{IsTrueRefusal, AnswersProgram, AnswersBad}
use Rattle.zo_model.specs.inner.LineFault.{NoLine, cut, other}
use Rattle.zo_model.specs.inner.ProgramFault.{HasFaultAfter, IsProgramFault}
use Rattle.zo_model.specs.declared.program.Row.{Row}
use Rattle.zo_model.specs.declared.program.ZeroOne.{ZeroOne}
use Rattle.zo_model.specs.declared.error.ZoError.{ZoError}
use Rattle.zo_model.specs.declared.error.ZoError.TheVariants.{NoMemory, Bad}
use Rattle.zo_model.proofs.LineLemmas.{counted_one}
use Rattle.zo_model.proofs.TermLemmas.{terms_lack, least_small, row_one}

-- lines of a program have no line feed in them
counted_lack : (name : List ℕ) (n : ℕ) → Lacks 10 name → n < 2 ^ 64 → Lacks 10 (parted (name ∷ decimal n ∷ []))
counted_lack name n h small = Lacks-parted 10 (name ∷ decimal n ∷ []) (λ e. omega (arith, e)) (h, (Lacks-decimal 10 n (lit≤ tt) small, tt))

costs_lack : (cs : List ℕ) → All (λ c. c < 2 ^ 20) cs → AllLack 10 (map cost_line cs)
costs_lack [] h = tt
costs_lack (c ∷ cs) h =
    (counted_lack (codes "c") c (Lacks-test 10 (codes "c") refl) (omega (arith, All-head (λ c. c < 2 ^ 20) c cs h)), costs_lack cs (All-tail (λ c. c < 2 ^ 20) c cs h))

row_lacks : (n : ℕ) (r : RowContents) → IsRowText n r → Lacks 10 (row_line r)
row_lacks n r h =
    Lacks-parted 10 (codes "r" ∷ signed_decimal r.least ∷ map term_text r.terms) (λ e. omega (arith, e))
    (Lacks-test 10 (codes "r") refl, (Lacks-signed 10 r.least (lit≤ tt) (λ e. omega (arith, e)) (least_small r.least h.least_fits), terms_lack 10 n 0 r.terms (lit≤ tt) (λ e. omega (arith, e)) (λ e. omega (arith, e)) h.terms_fit.few h.terms_fit.rise h.terms_fit.coefficients_fit))

rows_lack : (n : ℕ) (rs : List RowContents) → All (IsRowText n) rs → AllLack 10 (map row_line rs)
rows_lack n [] h = tt
rows_lack n (r ∷ rs) h = (row_lacks n r (All-head (IsRowText n) r rs h), rows_lack n rs (All-tail (IsRowText n) r rs h))

pub program_lack : (p : Contents) → IsValidContents p → AllLack 10 (program_lines p)
program_lack p v = (
  counted_lack (codes "columns") (length p.costs) (Lacks-test 10 (codes "columns") refl) (omega (arith, v.columns_fit)),
  (
    counted_lack (codes "rows") (length p.rows) (Lacks-test 10 (codes "rows") refl) (omega (arith, v.rows_fit)),
    AllLack-append 10 (map cost_line p.costs) (map row_line p.rows) (costs_lack p.costs v.costs_fit) (rows_lack (length p.costs) p.rows v.rows_ok),
  ),
)

lines_lack : (ls : List (List ℕ)) → AreProgramLines ls → AllLack 10 ls
lines_lack ls a = subst (AllLack 10) (sym a.lines) (program_lack a.program a.valid)

pub program_format : IsFormat (Begins AreProgramLines) AreProgramLines
program_format = begins_format AreProgramLines lines_lack

-- the counts of two programs whose texts begin alike
pub counts_one : (p q : Contents) (more : List (List ℕ)) → IsValidContents p → IsValidContents q → program_lines p ++ more ≡ program_lines q → (length p.costs ≡ length q.costs) × (length p.rows ≡ length q.rows) × ((map cost_line p.costs ++ map row_line p.rows) ++ more ≡ map cost_line q.costs ++ map row_line q.rows)
counts_one p q more v w e =
    let f : columns_line (length p.costs) ≡ columns_line (length q.costs) = cc (e) in
    let g : rows_line (length p.rows) ≡ rows_line (length q.rows) = cc (e) in (
      counted_one (codes "columns") (length p.costs) (length q.costs) (omega (arith, v.columns_fit)) (omega (arith, w.columns_fit)) f,
      counted_one (codes "rows") (length p.rows) (length q.rows) (omega (arith, v.rows_fit)) (omega (arith, w.rows_fit)) g,
      cc (e),
    )

-- no program's text goes on after another's
pub prefix_free : (p q : Contents) (x : List ℕ) (more : List (List ℕ)) → IsValidContents p → IsValidContents q → program_lines p ++ x ∷ more ≡ program_lines q → ⊥
prefix_free p q x more v w e =
    let c = counts_one p q (x ∷ more) v w e in
    omega (arith, c.0, c.1, ap length c.2, length-append (map cost_line p.costs ++ map row_line p.rows) (x ∷ more), length-append (map cost_line p.costs) (map row_line p.rows), length-append (map cost_line q.costs) (map row_line q.rows), length-map p.costs cost_line, length-map p.rows row_line, length-map q.costs cost_line, length-map q.rows row_line)

costs_one : (cs ds : List ℕ) (as' bs : List (List ℕ)) → length cs ≡ length ds → All (λ c. c < 2 ^ 20) cs → All (λ c. c < 2 ^ 20) ds → map cost_line cs ++ as' ≡ map cost_line ds ++ bs → (cs ≡ ds) × (as' ≡ bs)
costs_one [] [] as' bs l h k e = (refl, e)
costs_one [] (d ∷ ds) as' bs l h k e = absurd (omega arith)
costs_one (c ∷ cs) [] as' bs l h k e = absurd (omega arith)
costs_one (c ∷ cs) (d ∷ ds) as' bs l h k e =
    let heads : cost_line c ≡ cost_line d = cc (e) in
    let same = counted_one (codes "c") c d (omega (arith, All-head (λ c. c < 2 ^ 20) c cs h)) (omega (arith, All-head (λ c. c < 2 ^ 20) d ds k)) heads in
    let tails : map cost_line cs ++ as' ≡ map cost_line ds ++ bs = cc (e) in
    let r = costs_one cs ds as' bs (omega arith) (All-tail (λ c. c < 2 ^ 20) c cs h) (All-tail (λ c. c < 2 ^ 20) d ds k) tails in
    let f = r.0 in (cc (same, f), r.1)

rows_one : (n : ℕ) (rs ss : List RowContents) → All (IsRowText n) rs → All (IsRowText n) ss → map row_line rs ≡ map row_line ss → rs ≡ ss
rows_one n [] [] h k e = refl
rows_one n [] (s ∷ ss) h k e = cc
rows_one n (r ∷ rs) [] h k e = cc
rows_one n (r ∷ rs) (s ∷ ss) h k e =
    let heads : row_line r ≡ row_line s = cc (e) in
    let tails : map row_line rs ≡ map row_line ss = cc (e) in
    let same = row_one n r s (All-head (IsRowText n) r rs h) (All-head (IsRowText n) s ss k) heads in
    let f = rows_one n rs ss (All-tail (IsRowText n) r rs h) (All-tail (IsRowText n) s ss k) tails in cc (same, f)

-- a program has one text
pub program_one : (p q : Contents) → IsValidContents p → IsValidContents q → program_lines p ≡ program_lines q → p ≡ q
program_one p q v w e =
    let c = counts_one p q [] v w (append-nil (program_lines p) ∙ e) in
    let both = costs_one p.costs q.costs (map row_line p.rows) (map row_line q.rows) c.0 v.costs_fit w.costs_fit (sym (append-nil (map cost_line p.costs ++ map row_line p.rows)) ∙ c.2) in
    let rows = rows_one (length q.costs) p.rows q.rows (subst (λ k. All (IsRowText k) p.rows) c.0 v.rows_ok) w.rows_ok both.1 in
    let costs = both.0 in
    λ j. record { costs = costs j; rows = rows j }

-- the same of the bytes
pub text_one : (p q : Contents) → IsValidContents p → IsValidContents q → program_text p ≡ program_text q → p ≡ q
unfolding program_text
text_one p q v w e =
    program_one p q v w (lines_one (program_lines p) (program_lines q) [] [] (program_lack p v) (program_lack q w) tt tt (ap (λ t. t ++ []) e)).0

text_is : (p : Contents) (bytes : List ℕ) → IsValidContents p → bytes ≡ program_text p → IsText AreProgramLines bytes
unfolding program_text
text_is p bytes v e = record { lines = program_lines p; spelled = e; whole = record { program = p; valid = v; lines = refl } }

-- valid programs, by their contents
rows_valid : (n : ℕ) (rs : List Row) → All (IsRowText n) (map row_contents rs) → All (IsRow n) rs
rows_valid n [] h = All-nil (IsRow n)
rows_valid n (r ∷ rs) h =
    let head = All-head (IsRowText n) (row_contents r) (map row_contents rs) h in
    All-cons (IsRow n) r rs (record { terms_fit = head.terms_fit; least_fits = head.least_fits }) (rows_valid n rs (All-tail (IsRowText n) (row_contents r) (map row_contents rs) h))

pub valid_from_contents : (z : ZeroOne) → IsValidContents (contents z) → IsValid z
valid_from_contents z v =
    record { columns_fit = v.columns_fit; rows_fit = omega (arith, v.rows_fit, length-map z.rows.items row_contents); costs_fit = v.costs_fit; rows_ok = rows_valid (length z.costs.items) z.rows.items v.rows_ok }

-- a valid program, by its contents
rows_fit : (n : ℕ) (rs : List Row) → All (IsRow n) rs → All (IsRowText n) (map row_contents rs)
rows_fit n [] h = All-nil (IsRowText n)
rows_fit n (r ∷ rs) h =
    let head = All-head (IsRow n) r rs h in
    All-cons (IsRowText n) (row_contents r) (map row_contents rs) (record { terms_fit = head.terms_fit; least_fits = head.least_fits }) (rows_fit n rs (All-tail (IsRow n) r rs h))

pub contents_fit : (z : ZeroOne) → IsValid z → IsValidContents (contents z)
contents_fit z v =
    record { columns_fit = v.columns_fit; rows_fit = omega (arith, v.rows_fit, length-map z.rows.items row_contents); costs_fit = v.costs_fit; rows_ok = rows_fit (length z.costs.items) z.rows.items v.rows_ok }

-- bytes go on with a whole line, or with one that isn't whole
pub data Rest (bytes : List ℕ) : Type 0 where
  last : Lacks 10 bytes → Rest bytes
  line_first : (line back : List ℕ) → bytes ≡ line ++ 10 ∷ back → Lacks 10 line → Rest bytes

pub rest_of : (bytes : List ℕ) → Rest bytes
rest_of [] = last tt
rest_of (b ∷ bytes) = step b bytes (eqb_tells b 10) (rest_of bytes)
  where
    step : (b : ℕ) (bytes : List ℕ) → ((eqb b 10 ≡ true) × (b ≡ 10)) ⊎ ((eqb b 10 ≡ false) × (b ≢ 10)) → Rest bytes → Rest (b ∷ bytes)
    step b bytes (inl h) r = line_first [] bytes (ap (λ x. x ∷ bytes) h.1) tt
    step b bytes (inr h) (last k) = last (h.1, k)
    step b bytes (inr h) (line_first line back e k) = line_first (b ∷ line) back (ap (λ x. b ∷ x) e) (h.1, k)

-- a stop is the first faulty line
pub stop_fault : (bytes : List ℕ) (e : ZoError) → IsProgramFault bytes 0 e → IsTrueRefusal bytes e
stop_fault bytes NoMemory h = tt
stop_fault bytes (Bad k) h = subst (FirstFault (Begins AreProgramLines) AreProgramLines bytes) (sym (h.1 ∙ zero-add (length h.0 + 1))) (fault h.0 h.2 h.2.no_line)
  where
    fault : (front : List (List ℕ)) (s : HasFaultAfter bytes front) → NoLine (λ line. Begins AreProgramLines (front ++ line ∷ [])) s.rest → FirstFault (Begins AreProgramLines) AreProgramLines bytes (length front + 1)
    fault front s (other line back e lack none) =
        wrong front line back (s.spelled ∙ ap (λ r. text_of front ++ r) e) lack (program_format.fewer front (s.next ∷ []) s.goes_on) none
    fault front s (cut lack) =
        let begins = program_format.fewer front (s.next ∷ []) s.goes_on in
        short front s.rest s.spelled lack begins (λ t.
        let same = (lines_one front t.lines s.rest [] (program_format.lack front begins) (lines_lack t.lines t.whole) lack tt (sym s.spelled ∙ (t.spelled ∙ sym (append-nil (text_of t.lines))))).0 in
        prefix_free t.whole.program s.goes_on.whole.program s.next s.goes_on.more t.whole.valid s.goes_on.whole.valid
        (ap (λ ls. ls ++ s.next ∷ s.goes_on.more) (sym (same ∙ t.whole.lines)) ∙ (sym (append_assoc front (s.next ∷ []) s.goes_on.more) ∙ s.goes_on.whole.lines)))

-- what stands after a program's text is faulty
pub more_fault : (p : Contents) (bytes rest : List ℕ) (n : ℕ) → IsValidContents p → bytes ≡ text_of (program_lines p) ++ rest → (rest ≡ [] → ⊥) → n ≡ length (program_lines p) + 1 → IsFirstFault bytes n
more_fault p bytes rest n v e some counted = subst (FirstFault (Begins AreProgramLines) AreProgramLines bytes) (sym counted) (fault (rest_of rest))
  where
    whole : AreProgramLines (program_lines p)
    whole = record { program = p; valid = v; lines = refl }

    fault : Rest rest → FirstFault (Begins AreProgramLines) AreProgramLines bytes (length (program_lines p) + 1)
    fault (last lack) =
        short (program_lines p) rest e lack (program_format.whole (program_lines p) whole) (λ t.
        some (lines_one (program_lines p) t.lines rest [] (program_lack p v) (lines_lack t.lines t.whole) lack tt (sym e ∙ (t.spelled ∙ sym (append-nil (text_of t.lines))))).1)
    fault (line_first line back f lack) =
        wrong (program_lines p) line back (e ∙ ap (λ r. text_of (program_lines p) ++ r) f) lack (program_format.whole (program_lines p) whole)
        (λ b. prefix_free p b.whole.program line b.more v b.whole.valid (sym (append_assoc (program_lines p) (line ∷ []) b.more) ∙ b.whole.lines))

pub given_answer : (bytes : List ℕ) (r : Result ZeroOne ZoError) → IfOk r (λ z. IsValidContents (contents z)) → IfOk r (λ z. bytes ≡ program_text (contents z)) → IfErr r (IsTrueRefusal bytes) → (p : Contents) → IsValidContents p → bytes ≡ program_text p → AnswersProgram r p
given_answer bytes (Ok z) valid text err p v e = text_one (contents z) p valid v (sym text ∙ e)
given_answer bytes (Err NoMemory) valid text err p v e = tt
given_answer bytes (Err (Bad n)) valid text err p v e = no_text (Begins AreProgramLines) AreProgramLines bytes n program_format err (text_is p bytes v e)

pub bad_answer : (bytes : List ℕ) (r : Result ZeroOne ZoError) → IfOk r (λ z. IsValidContents (contents z)) → IfOk r (λ z. bytes ≡ program_text (contents z)) → IfErr r (IsTrueRefusal bytes) → (n : ℕ) → IsFirstFault bytes n → AnswersBad r n
bad_answer bytes (Ok z) valid text err n f = no_text (Begins AreProgramLines) AreProgramLines bytes n program_format f (text_is (contents z) bytes valid text)
bad_answer bytes (Err NoMemory) valid text err n f = tt
bad_answer bytes (Err (Bad m)) valid text err n f = one_fault (Begins AreProgramLines) AreProgramLines bytes m n program_format err f

pub valid_answer : (r : Result ZeroOne ZoError) → IfOk r (λ z. IsValidContents (contents z)) → IfOk r IsValid
valid_answer (Ok z) h = valid_from_contents z h
valid_answer (Err e) h = tt
