-- A schedule's lines, read one by one, and its first faulty line.
use Rattle.std.proofs.Common.{◌≡◌, ℕ, ◌+◌, ◌-◌, ◌<◌, List, [], ◌∷◌, ◌++◌, length, refl, sym, ap, ◌∙◌, subst, arith, Result, Ok, Err, IfOk, IfErr}
use Rattle.std.proofs.lemmas.List.{append-nil, length-append}
use Rattle.nv_lines.specs.Line.{Lacks, AllLack, text_of}
use Rattle.nv_lines.specs.Format.{IsText, IsFormat, FirstFault, wrong, short}
use Rattle.nv_lines.proofs.SplitLaws.{lines_one, text_of-push, text_of-cons}
use Rattle.nv_lines.proofs.FormatLaws.{no_text, one_fault}
use Rattle.uc_schedule.specs.ScheduleText.{SpellsCount, SpellsArgs, SpellsEntries, AreArguments, BeginsSchedule, IsWhole, IsFront, nothing, lines, IsBad, Gives, entry_limit}
use Rattle.uc_schedule.specs.Answer.{IsTrueError, AnswersSchedule, AnswersBad}
use Rattle.uc_schedule.specs.inner.Reading.{HasRead}
use Rattle.uc_schedule.specs.declared.read.Schedule.{Schedule}
use Rattle.uc_schedule.specs.declared.read.ScheduleError.{ScheduleError}
use Rattle.uc_schedule.specs.declared.read.ScheduleError.TheVariants.{NoMemory, Bad}
use Rattle.uc_schedule.proofs.LineLemmas.{count_lack, count_one}
use Rattle.uc_schedule.proofs.TextLemmas.{left_by, lack_arguments, fewer_arguments, one_arguments, no_arguments, more_arguments, more_turns, last_arguments, last_turns}

-- ---- what lines begin

begins_lack : (params k : ℕ) (ls args : List (List ℕ)) (es : List (ℕ × ℕ)) → BeginsSchedule params ls k args es → AllLack 10 ls
begins_lack params k ls args es b = subst (AllLack 10) (sym b.lines) (count_lack b.first k b.count, lack_arguments params k (k - 1) b.others args es b.count.few b.spelled)

-- lines begin one schedule
begins_one : (params k j : ℕ) (ls args args' : List (List ℕ)) (es es' : List (ℕ × ℕ)) → BeginsSchedule params ls k args es → BeginsSchedule params ls j args' es' → (k ≡ j) × (args ≡ args') × (es ≡ es')
begins_one params k j ls args args' es es' b d =
    let e = b.lines in
    let f = d.lines in
    let first : d.first ≡ b.first = cc (e, f) in
    let others : d.others ≡ b.others = cc (e, f) in
    let same : k ≡ j = count_one b.first k j b.count (subst (λ l. SpellsCount l j) first d.count) in
    let there : AreArguments params k (k - 1) b.others args' es' = subst (λ n. AreArguments params n (n - 1) b.others args' es') (sym same) (subst (λ l. AreArguments params j (j - 1) l args' es') others d.spelled) in
    let one = one_arguments params k (k - 1) b.others args args' es es' b.count.few b.spelled there in
    (same, one.0, one.1)

front_fewer : (params : ℕ) (ls more : List (List ℕ)) → IsFront params (ls ++ more) → IsFront params ls
front_fewer params [] more h = nothing refl
front_fewer params (l ∷ ls) more (nothing e) = absurd (omega (arith, ap length e))
front_fewer params (l ∷ ls) more (lines k args es b) =
    let e = b.lines in
    let first : b.first ≡ l = cc (e) in
    let others : b.others ≡ ls ++ more = cc (e) in
    let fewer = fewer_arguments params k (k - 1) ls more args es (subst (λ x. AreArguments params k (k - 1) x args es) others b.spelled) in
    lines k fewer.0 fewer.1 (record { first = l; others = ls; lines = refl; count = subst (λ x. SpellsCount x k) first b.count; spelled = fewer.2 })

front_lack : (params : ℕ) (ls : List (List ℕ)) → IsFront params ls → AllLack 10 ls
front_lack params ls (nothing e) = subst (AllLack 10) (sym e) tt
front_lack params ls (lines k args es b) = begins_lack params k ls args es b

pub schedule_format : (params : ℕ) → IsFormat (IsFront params) (IsWhole params)
schedule_format params = record { whole = λ ls w. lines w.text.contexts w.args w.entries w.text.begun; fewer = front_fewer params; lack = front_lack params }

whole_lack : (params : ℕ) (ls : List (List ℕ)) → IsWhole params ls → AllLack 10 ls
whole_lack params ls w = begins_lack params w.text.contexts ls w.args w.entries w.text.begun

-- ---- line by line

pub read_first : (params k : ℕ) (bytes line rest : List ℕ) → bytes ≡ line ++ 10 ∷ rest → SpellsCount line k → HasRead params k 1 bytes rest [] []
read_first params k bytes line rest e s = record {
  lines = line ∷ [];
  spelled = e ∙ sym (text_of-cons line [] rest);
  begun = record { first = line; others = []; lines = refl; count = s; spelled = no_arguments params k (k - 1) };
  counted = refl;
}

spelled_more : (bytes rest line rest' : List ℕ) (ls : List (List ℕ)) → bytes ≡ text_of ls ++ rest → rest ≡ line ++ 10 ∷ rest' → bytes ≡ text_of (ls ++ line ∷ []) ++ rest'
spelled_more bytes rest line rest' ls e f = e ∙ ap (λ r. text_of ls ++ r) f ∙ sym (text_of-push ls line rest')

pub read_args_more : (params k n : ℕ) (bytes rest line rest' : List ℕ) (args : List (List ℕ)) (ws : List ℕ) → HasRead params k n bytes rest args [] → rest ≡ line ++ 10 ∷ rest' → length args + 1 < k → SpellsArgs params line ws
    → HasRead params k (n + 1) bytes rest' (args ++ ws ∷ []) []
read_args_more params k n bytes rest line rest' args ws h e less s =
    let b = h.begun in
    record {
      lines = h.lines ++ line ∷ [];
      spelled = spelled_more bytes rest line rest' h.lines h.spelled e;
      begun = record {
        first = b.first;
        others = b.others ++ line ∷ [];
        lines = ap (λ l. l ++ line ∷ []) b.lines;
        count = b.count;
        spelled = more_arguments params k (k - 1) b.others args line ws b.spelled (omega arith) s;
      };
      counted = length-append h.lines (line ∷ []) ∙ ap (λ m. m + 1) h.counted;
    }

pub read_entries_more : (params k n : ℕ) (bytes rest line rest' : List ℕ) (args : List (List ℕ)) (es : List (ℕ × ℕ)) (e : ℕ × ℕ) → HasRead params k n bytes rest args es → rest ≡ line ++ 10 ∷ rest' → length args + 1 ≡ k
    → SpellsEntries k (left_by entry_limit es) line e → HasRead params k (n + 1) bytes rest' args (es ++ e ∷ [])
read_entries_more params k n bytes rest line rest' args es e h is all s =
    let b = h.begun in
    record {
      lines = h.lines ++ line ∷ [];
      spelled = spelled_more bytes rest line rest' h.lines h.spelled is;
      begun = record {
        first = b.first;
        others = b.others ++ line ∷ [];
        lines = ap (λ l. l ++ line ∷ []) b.lines;
        count = b.count;
        spelled = more_turns params k (k - 1) b.others args es line e b.spelled (omega arith) s;
      };
      counted = length-append h.lines (line ∷ []) ∙ ap (λ m. m + 1) h.counted;
    }

-- all was read
pub read_all : (params k n : ℕ) (bytes rest : List ℕ) (args : List (List ℕ)) (es : List (ℕ × ℕ)) → HasRead params k n bytes rest args es → length args + 1 ≡ k → rest ≡ [] → Gives params bytes args es
read_all params k n bytes rest args es h all done = record {
  lines = h.lines;
  spelled = h.spelled ∙ ap (λ r. text_of h.lines ++ r) done ∙ append-nil (text_of h.lines);
  text = record { contexts = k; begun = h.begun; all = all };
}

-- ---- faults

front_of : (params k n : ℕ) (bytes rest : List ℕ) (args : List (List ℕ)) (es : List (ℕ × ℕ)) → (h : HasRead params k n bytes rest args es) → IsFront params h.lines
front_of params k n bytes rest args es h = lines k args es h.begun

-- the bytes end within a line
pub bad_short : (params k n : ℕ) (bytes rest : List ℕ) (args : List (List ℕ)) (es : List (ℕ × ℕ)) → HasRead params k n bytes rest args es → Lacks 10 rest → (rest ≡ [] → length args + 1 ≡ k → ⊥) → IsBad params bytes (n + 1)
bad_short params k n bytes rest args es h lack some =
    subst (FirstFault (IsFront params) (IsWhole params) bytes) (ap (λ m. m + 1) h.counted) (short h.lines rest h.spelled lack (front_of params k n bytes rest args es h) none)
  where
    none : IsText (IsWhole params) bytes → ⊥
    none t =
        let same = lines_one h.lines t.lines rest [] (begins_lack params k h.lines args es h.begun) (whole_lack params t.lines t.whole) lack tt (sym h.spelled ∙ (t.spelled ∙ sym (append-nil (text_of t.lines)))) in
        let there : BeginsSchedule params h.lines t.whole.text.contexts t.whole.args t.whole.entries = subst (λ l. BeginsSchedule params l t.whole.text.contexts t.whole.args t.whole.entries) (sym same.0) t.whole.text.begun in
        let one = begins_one params k t.whole.text.contexts h.lines args t.whole.args es t.whole.entries h.begun there in
        let all : length t.whole.args + 1 ≡ t.whole.text.contexts = t.whole.text.all in
        some same.1 (ap (λ l. length l + 1) one.1 ∙ all ∙ sym one.0)

-- what a longer front says of the last line
longer_front : (params k : ℕ) (ls : List (List ℕ)) (line : List ℕ) (args : List (List ℕ)) (es : List (ℕ × ℕ)) → (b : BeginsSchedule params ls k args es) → IsFront params (ls ++ line ∷ [])
    → (args' : List (List ℕ)) × (es' : List (ℕ × ℕ)) × AreArguments params k (k - 1) (b.others ++ line ∷ []) args' es'
longer_front params k ls line args es b (nothing e) = let long : length (ls ++ line ∷ []) ≡ length ls + 1 = length-append ls (line ∷ []) in absurd (omega (arith, ap length e))
longer_front params k ls line args es b (lines j args' es' d) =
    let e = b.lines in
    let f : (b.first ∷ b.others) ++ line ∷ [] ≡ d.first ∷ d.others = ap (λ l. l ++ line ∷ []) (sym e) ∙ d.lines in
    let first : d.first ≡ b.first = cc (f) in
    let others : d.others ≡ b.others ++ line ∷ [] = cc (f) in
    let same : j ≡ k = count_one b.first j k (subst (λ l. SpellsCount l j) first d.count) b.count in
    (args', es', subst (λ n. AreArguments params n (n - 1) (b.others ++ line ∷ []) args' es') same (subst (λ l. AreArguments params j (j - 1) l args' es') others d.spelled))

pub bad_args : (params k n : ℕ) (bytes rest line rest' : List ℕ) (args : List (List ℕ)) → HasRead params k n bytes rest args [] → rest ≡ line ++ 10 ∷ rest' → Lacks 10 line → length args + 1 < k → ((ws : List ℕ) → ¬ SpellsArgs params line ws) → IsBad params bytes (n + 1)
bad_args params k n bytes rest line rest' args h e lack less none =
    subst (FirstFault (IsFront params) (IsWhole params) bytes) (ap (λ m. m + 1) h.counted)
    (wrong h.lines line rest' (h.spelled ∙ ap (λ r. text_of h.lines ++ r) e) lack (front_of params k n bytes rest args [] h) (λ f.
    let d = longer_front params k h.lines line args [] h.begun f in
    let last = last_arguments params k (k - 1) h.begun.others args d.0 line [] d.1 h.begun.spelled d.2 (omega arith) in
    none last.0 last.1))

pub bad_entries : (params k n : ℕ) (bytes rest line rest' : List ℕ) (args : List (List ℕ)) (es : List (ℕ × ℕ)) → HasRead params k n bytes rest args es → rest ≡ line ++ 10 ∷ rest' → Lacks 10 line → length args + 1 ≡ k
    → ((e : ℕ × ℕ) → ¬ SpellsEntries k (left_by entry_limit es) line e) → IsBad params bytes (n + 1)
bad_entries params k n bytes rest line rest' args es h e lack all none =
    subst (FirstFault (IsFront params) (IsWhole params) bytes) (ap (λ m. m + 1) h.counted)
    (wrong h.lines line rest' (h.spelled ∙ ap (λ r. text_of h.lines ++ r) e) lack (front_of params k n bytes rest args es h) (λ f.
    let d = longer_front params k h.lines line args es h.begun f in
    let last = last_turns params k (k - 1) h.begun.others args d.0 line es d.1 h.begun.count.few h.begun.spelled d.2 (omega arith) in
    none last.0 last.1))

-- no first line
pub bad_no_line : (params : ℕ) (bytes : List ℕ) → Lacks 10 bytes → IsBad params bytes 1
bad_no_line params bytes h = short [] bytes refl h (nothing refl) none
  where
    none : IsText (IsWhole params) bytes → ⊥
    none t =
        let same = lines_one [] t.lines bytes [] tt (whole_lack params t.lines t.whole) h tt (t.spelled ∙ sym (append-nil (text_of t.lines))) in
        omega (arith, ap length (same.0 ∙ t.whole.text.begun.lines))

pub bad_count : (params : ℕ) (bytes line rest : List ℕ) → bytes ≡ line ++ 10 ∷ rest → Lacks 10 line → ((k : ℕ) → ¬ SpellsCount line k) → IsBad params bytes 1
bad_count params bytes line rest e h none = wrong [] line rest e h (nothing refl) (no_front none)
  where
    no_front : ((k : ℕ) → ¬ SpellsCount line k) → ¬ IsFront params (line ∷ [])
    no_front none (nothing e) = absurd (omega (arith, ap length e))
    no_front none (lines k args es b) = let e = b.lines in let first : b.first ≡ line = cc (e) in none k (subst (λ l. SpellsCount l k) first b.count)

-- ---- of a text's answers one is true

pub gives_one : (params : ℕ) (bytes : List ℕ) (args args' : List (List ℕ)) (es es' : List (ℕ × ℕ)) → Gives params bytes args es → Gives params bytes args' es' → (args ≡ args') × (es ≡ es')
gives_one params bytes args args' es es' g h =
    let same = lines_one g.lines h.lines [] [] (begins_lack params g.text.contexts g.lines args es g.text.begun) (begins_lack params h.text.contexts h.lines args' es' h.text.begun) tt tt (ap (λ t. t ++ []) (sym g.spelled ∙ h.spelled)) in
    let there : BeginsSchedule params h.lines g.text.contexts args es = subst (λ l. BeginsSchedule params l g.text.contexts args es) same.0 g.text.begun in
    let one = begins_one params g.text.contexts h.text.contexts h.lines args args' es es' there h.text.begun in
    (one.1, one.2)

gives_text : (params : ℕ) (bytes : List ℕ) (args : List (List ℕ)) (es : List (ℕ × ℕ)) → Gives params bytes args es → IsText (IsWhole params) bytes
gives_text params bytes args es g = record { lines = g.lines; spelled = g.spelled; whole = record { args = args; entries = es; text = g.text } }

pub gives_not_bad : (params : ℕ) (bytes : List ℕ) (args : List (List ℕ)) (es : List (ℕ × ℕ)) (n : ℕ) → Gives params bytes args es → IsBad params bytes n → ⊥
gives_not_bad params bytes args es n g b = no_text (IsFront params) (IsWhole params) bytes n (schedule_format params) b (gives_text params bytes args es g)

pub bad_one : (params : ℕ) (bytes : List ℕ) (m n : ℕ) → IsBad params bytes m → IsBad params bytes n → m ≡ n
bad_one params bytes m n b d = one_fault (IsFront params) (IsWhole params) bytes m n (schedule_format params) b d

pub given_answer : (params : ℕ) (bytes : List ℕ) (r : Result Schedule ScheduleError) → IfOk r (λ s. Gives params bytes s.args.items s.entries.items) → IfErr r (IsTrueError params bytes) → (args : List (List ℕ)) (es : List (ℕ × ℕ)) → Gives params bytes args es → AnswersSchedule r args es
given_answer params bytes (Ok s) ok err args es g = gives_one params bytes s.args.items args s.entries.items es ok g
given_answer params bytes (Err NoMemory) ok err args es g = tt
given_answer params bytes (Err (Bad n)) ok err args es g = gives_not_bad params bytes args es n g err

pub bad_answer : (params : ℕ) (bytes : List ℕ) (r : Result Schedule ScheduleError) → IfOk r (λ s. Gives params bytes s.args.items s.entries.items) → IfErr r (IsTrueError params bytes) → (n : ℕ) → IsBad params bytes n → AnswersBad r n
bad_answer params bytes (Ok s) ok err n b = gives_not_bad params bytes s.args.items s.entries.items n ok b
bad_answer params bytes (Err NoMemory) ok err n b = tt
bad_answer params bytes (Err (Bad m)) ok err n b = bad_one params bytes m n err b
