-- Of a text's answers one is true.
use Rattle.std.proofs.Common.{◌≡◌, ◌≢◌, ℕ, ◌+◌, ◌^◌, ◌<◌, ◌≤◌, List, [], ◌∷◌, ◌++◌, length, map, refl, sym, ap, ◌∙◌, subst, arith, append_assoc, codes, Result, Ok, Err, IfOk, IfErr, true, false, eqb, ◌⊎◌, inl, inr}
use Rattle.std.specs.List.{All}
use Rattle.std.proofs.lemmas.Bool.Decides.{eqb_tells}
use Rattle.std.proofs.lemmas.List.{append-nil, length-append, length-map}
use Rattle.std.proofs.lemmas.List.Elements.{All-nil, All-cons, All-head, All-tail}
use Rattle.nv_lines.specs.Line.{Lacks, AllLack, text_of}
use Rattle.nv_lines.specs.Format.{Begins, IsText, FirstFault, wrong, short, IsFormat}
use Rattle.nv_lines.proofs.SplitLaws.{lines_one, Lacks-test}
use Rattle.nv_lines.proofs.FormatLaws.{no_text, one_fault, begins_format}
use Rattle.place_weights.specs.WeightsText.{count_limit, weights_line, count_line, weights_lines, AreCounts, Gives, IsWhole, IsBad, clamped}
use Rattle.place_weights.specs.Answer.{IsTrueError, AnswersWeights, AnswersBad}
use Rattle.place_weights.specs.declared.read.WeightsError.{WeightsError}
use Rattle.place_weights.specs.declared.read.WeightsError.TheVariants.{NoMemory, Bad}
use Rattle.place_weights.specs.inner.Fault.{NoLine, cut, other, IsFirstLineFault, IsCountFault}
use Rattle.place_weights.proofs.Lines.{counted_one, counted_lack}
use Rattle.place_weights.proofs.Faults.{Stops, first_stop, count_stop, counts_are, spelled_counts}

-- ---- the format

counts_lack : (cs : List ℕ) → All (λ c. c < 2 ^ 32) cs → AllLack 10 (map count_line cs)
counts_lack [] h = tt
counts_lack (c ∷ cs) h =
    (counted_lack (codes "l") c (Lacks-test 10 (codes "l") refl) (omega (arith, All-head (λ c. c < 2 ^ 32) c cs h)), counts_lack cs (All-tail (λ c. c < 2 ^ 32) c cs h))

text_lack : (cs : List ℕ) → AreCounts cs → AllLack 10 (weights_lines cs)
text_lack cs v = (counted_lack (codes "weights") (length cs) (Lacks-test 10 (codes "weights") refl) (omega (arith, v.few)), counts_lack cs v.words)

lines_lack : (ls : List (List ℕ)) → IsWhole ls → AllLack 10 ls
lines_lack ls w = subst (AllLack 10) (sym w.lines) (text_lack w.counts w.valid)

format : IsFormat (Begins IsWhole) IsWhole
format = begins_format IsWhole lines_lack

-- ---- texts are of one list of counts

counts_one : (cs ds : List ℕ) → All (λ c. c < 2 ^ 32) cs → All (λ c. c < 2 ^ 32) ds → map count_line cs ≡ map count_line ds → cs ≡ ds
counts_one [] [] h k e = refl
counts_one [] (d ∷ ds) h k e = absurd (cc)
counts_one (c ∷ cs) [] h k e = absurd (cc)
counts_one (c ∷ cs) (d ∷ ds) h k e =
    let heads : count_line c ≡ count_line d = cc (e) in
    let same = counted_one (codes "l") c d (omega (arith, All-head (λ c. c < 2 ^ 32) c cs h)) (omega (arith, All-head (λ c. c < 2 ^ 32) d ds k)) heads in
    let tails : map count_line cs ≡ map count_line ds = cc (e) in
    let rest = counts_one cs ds (All-tail (λ c. c < 2 ^ 32) c cs h) (All-tail (λ c. c < 2 ^ 32) d ds k) tails in
    cc (same, rest)

gives_one : (bytes cs ds : List ℕ) → Gives bytes cs → Gives bytes ds → cs ≡ ds
gives_one bytes cs ds g h =
    let same = (lines_one (weights_lines cs) (weights_lines ds) [] [] (text_lack cs g.valid) (text_lack ds h.valid) tt tt (ap (λ t. t ++ []) (sym g.spelled ∙ h.spelled))).0 in
    let tails : map count_line cs ≡ map count_line ds = cc (same) in
    counts_one cs ds g.valid.words h.valid.words tails

gives_text : (bytes cs : List ℕ) → Gives bytes cs → IsText IsWhole bytes
gives_text bytes cs g = record { lines = weights_lines cs; spelled = g.spelled; whole = record { counts = cs; valid = g.valid; lines = refl } }

gives_not_bad : (bytes cs : List ℕ) (n : ℕ) → Gives bytes cs → IsBad bytes n → ⊥
gives_not_bad bytes cs n g b = no_text (Begins IsWhole) IsWhole bytes n format b (gives_text bytes cs g)

-- no text goes on after another's
prefix_free : (cs ds : List ℕ) (x : List ℕ) (more : List (List ℕ)) → AreCounts cs → AreCounts ds → weights_lines cs ++ x ∷ more ≡ weights_lines ds → ⊥
prefix_free cs ds x more v w e =
    let c = counts_are (length cs) (map count_line cs ++ x ∷ more) v.few (record { counts = ds; valid = w; lines = e }) in
    omega (arith, c.0, ap length c.1, length-append (map count_line cs) (x ∷ more), length-map cs count_line, length-map ds count_line)

-- ---- a stop is the first faulty line

pub stop_fault : (bytes : List ℕ) (front : List (List ℕ)) (n : ℕ) → Stops bytes front → n ≡ length front + 1 → IsBad bytes n
stop_fault bytes front n s e = subst (FirstFault (Begins IsWhole) IsWhole bytes) (sym e) (fault s.no_line)
  where
    fault : NoLine (λ line. Begins IsWhole (front ++ line ∷ [])) s.rest → FirstFault (Begins IsWhole) IsWhole bytes (length front + 1)
    fault (other line back e lack none) = wrong front line back (s.spelled ∙ ap (λ r. text_of front ++ r) e) lack (format.fewer front (s.next ∷ []) s.goes_on) none
    fault (cut lack) =
        let begins = format.fewer front (s.next ∷ []) s.goes_on in
        short front s.rest s.spelled lack begins (λ t.
        let same = (lines_one front t.lines s.rest [] (format.lack front begins) (lines_lack t.lines t.whole) lack tt (sym s.spelled ∙ (t.spelled ∙ sym (append-nil (text_of t.lines))))).0 in
        prefix_free t.whole.counts s.goes_on.whole.counts s.next s.goes_on.more t.whole.valid s.goes_on.whole.valid
        (ap (λ ls. ls ++ s.next ∷ s.goes_on.more) (sym (same ∙ t.whole.lines)) ∙ (sym (append_assoc front (s.next ∷ []) s.goes_on.more) ∙ s.goes_on.whole.lines)))

pub first_refused : (bytes : List ℕ) (e : WeightsError) → IsFirstLineFault bytes e → IsTrueError bytes e
first_refused bytes NoMemory h = tt
first_refused bytes (Bad n) h = stop_fault bytes [] n (first_stop bytes h.1) h.0

pub count_refused : (bytes rest : List ℕ) (n : ℕ) (e : WeightsError) → n ≤ count_limit → bytes ≡ weights_line n ++ 10 ∷ rest → IsCountFault n rest e → IsTrueError bytes e
count_refused bytes rest n NoMemory few s h = tt
count_refused bytes rest n (Bad k) few s h = stop_fault bytes (weights_line n ∷ map count_line h.0) k (count_stop bytes rest n h.0 few s h.2) (omega (arith, h.1, length-map h.0 count_line))

-- ---- what stands behind

-- bytes go on with a whole line, or with one that isn't whole
data Rest (bytes : List ℕ) : Type 0 where
  last : Lacks 10 bytes → Rest bytes
  line_first : (line back : List ℕ) → bytes ≡ line ++ 10 ∷ back → Lacks 10 line → Rest bytes

rest_of : (bytes : List ℕ) → Rest bytes
rest_of [] = last tt
rest_of (b ∷ bytes) = step b bytes (eqb_tells b 10) (rest_of bytes)
  where
    step : (b : ℕ) (bytes : List ℕ) → ((eqb b 10 ≡ true) × (b ≡ 10)) ⊎ ((eqb b 10 ≡ false) × (b ≢ 10)) → Rest bytes → Rest (b ∷ bytes)
    step b bytes (inl h) r = line_first [] bytes (ap (λ x. x ∷ bytes) h.1) tt
    step b bytes (inr h) (last k) = last (h.1, k)
    step b bytes (inr h) (line_first line back e k) = line_first (b ∷ line) back (ap (λ x. b ∷ x) e) (h.1, k)

pub more_fault : (cs bytes rest : List ℕ) (n : ℕ) → AreCounts cs → bytes ≡ text_of (weights_lines cs) ++ rest → (rest ≡ [] → ⊥) → n ≡ length cs + 2 → IsBad bytes n
more_fault cs bytes rest n v e some counted =
    let lines : n ≡ length (weights_lines cs) + 1 = omega (arith, counted, length-map cs count_line) in
    subst (FirstFault (Begins IsWhole) IsWhole bytes) (sym lines) (fault (rest_of rest))
  where
    whole : IsWhole (weights_lines cs)
    whole = record { counts = cs; valid = v; lines = refl }

    fault : Rest rest → FirstFault (Begins IsWhole) IsWhole bytes (length (weights_lines cs) + 1)
    fault (last lack) =
        short (weights_lines cs) rest e lack (format.whole (weights_lines cs) whole) (λ t.
        some (lines_one (weights_lines cs) t.lines rest [] (text_lack cs v) (lines_lack t.lines t.whole) lack tt (sym e ∙ (t.spelled ∙ sym (append-nil (text_of t.lines))))).1)
    fault (line_first line back f lack) =
        wrong (weights_lines cs) line back (e ∙ ap (λ r. text_of (weights_lines cs) ++ r) f) lack (format.whole (weights_lines cs) whole) (λ b.
        prefix_free cs b.whole.counts line b.more v b.whole.valid (sym (append_assoc (weights_lines cs) (line ∷ []) b.more) ∙ b.whole.lines))

-- all lines of the text, and what stands after them
pub whole_counts : (bytes rest rest' : List ℕ) (n : ℕ) (cs : List ℕ) → length cs ≡ n → bytes ≡ weights_line n ++ 10 ∷ rest → rest ≡ text_of (map count_line cs) ++ rest' → bytes ≡ text_of (weights_lines cs) ++ rest'
whole_counts bytes rest rest' n cs all e f = spelled_counts bytes rest rest' n cs e f ∙ ap (λ k. text_of (weights_line k ∷ map count_line cs) ++ rest') (sym all)

pub gives_all : (bytes rest : List ℕ) (cs : List ℕ) → AreCounts cs → bytes ≡ text_of (weights_lines cs) ++ rest → rest ≡ [] → Gives bytes cs
gives_all bytes rest cs v e done = record { valid = v; spelled = e ∙ ap (λ r. text_of (weights_lines cs) ++ r) done ∙ append-nil (text_of (weights_lines cs)) }

-- ---- the answers

pub given_answer : (bytes : List ℕ) (r : Result (List ℕ) WeightsError) → IfOk r (λ w. (counts : List ℕ) × Gives bytes counts × (w ≡ map clamped counts)) → IfErr r (IsTrueError bytes) → (counts : List ℕ) → Gives bytes counts → AnswersWeights r counts
given_answer bytes (Ok w) ok err counts g = ok.2 ∙ ap (map clamped) (gives_one bytes ok.0 counts ok.1 g)
given_answer bytes (Err NoMemory) ok err counts g = tt
given_answer bytes (Err (Bad n)) ok err counts g = absurd (gives_not_bad bytes counts n g err)

pub bad_answer : (bytes : List ℕ) (r : Result (List ℕ) WeightsError) → IfOk r (λ w. (counts : List ℕ) × Gives bytes counts × (w ≡ map clamped counts)) → IfErr r (IsTrueError bytes) → (n : ℕ) → IsBad bytes n → AnswersBad r n
bad_answer bytes (Ok w) ok err n b = absurd (gives_not_bad bytes ok.0 n ok.1 b)
bad_answer bytes (Err NoMemory) ok err n b = tt
bad_answer bytes (Err (Bad m)) ok err n b = one_fault (Begins IsWhole) IsWhole bytes m n format err b

-- ---- weights

pub weights-bounded : (cs : List ℕ) → All (λ w. (1 ≤ w) × (w ≤ 1023)) (map clamped cs)
weights-bounded [] = All-nil (λ w. (1 ≤ w) × (w ≤ 1023))
weights-bounded (c ∷ cs) = All-cons (λ w. (1 ≤ w) × (w ≤ 1023)) (clamped c) (map clamped cs) (omega arith, omega arith) (weights-bounded cs)
