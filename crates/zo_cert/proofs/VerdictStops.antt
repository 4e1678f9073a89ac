-- where the reader of a verdict stops
use Rattle.std.proofs.Common.{◌≡◌, ℕ, ◌+◌, ◌^◌, ◌<◌, List, [], ◌∷◌, ◌++◌, length, get_or, replicate, refl, sym, ap, ◌∙◌, subst, arith, codes, decimal, Bool, false}
use Rattle.std.proofs.lemmas.List.{append_cancel_left, length-replicate}
use Rattle.std.proofs.lemmas.List.Elements.{All-replicate}
use Rattle.nv_lines.specs.Line.{Lacks, text_of}
use Rattle.nv_lines.specs.Format.{Begins}
use Rattle.zo_model.specs.inner.LineFault.{NoLine, cut, other, IsLineFault}
use Rattle.zo_model.specs.declared.error.ZoError.{ZoError}
use Rattle.zo_model.specs.declared.error.ZoError.TheVariants.{NoMemory, Bad}
use Rattle.zo_model.proofs.LineLemmas.{no_line_weaker}
use Rattle.zo_model.proofs.FaultLemmas.{spelled_more, one_line_text}
use Rattle.zo_cert.specs.ReportText.{x_line}
use Rattle.zo_cert.specs.ReportFault.{HasCost, stated_lines}
use Rattle.zo_cert.specs.inner.ReportLine.{IsOnesLine}
use Rattle.zo_cert.specs.inner.ReportPart.{AreVerdictLines, CostedFault, no_number, no_columns, other_cost, IsCostedFault, VerdictFault, stops, misstates, IsVerdictFault}
use Rattle.zo_cert.specs.declared.report.Verdict.{Verdict}
use Rattle.zo_cert.specs.declared.report.Verdict.TheVariants as verdicts

begins_spent : (n : ℕ) → Begins (AreVerdictLines n) (codes "verdict spent" ∷ [])
begins_spent n =
    record {
      more = [];
      whole = record { verdict = verdicts.Spent; stated = 0; on = replicate n false; within = omega arith; one_a_column = length-replicate n false; blank = All-replicate (λ v. v ≡ false) n false refl; lines = refl };
    }

-- the first line is no verdict's
first_stop : (costs : List ℕ) (bytes : List ℕ) (number n : ℕ) → n ≡ number + 1 → NoLine (λ line. Begins (AreVerdictLines (length costs)) (line ∷ [])) bytes → VerdictFault costs bytes number n
first_stop costs bytes number n e none =
    stops [] (omega (arith, e)) (record { rest = bytes; spelled = refl; next = codes "verdict spent"; goes_on = begins_spent (length costs); no_line = none })

pub no_verdict_line : (costs : List ℕ) (bytes : List ℕ) (number n : ℕ) → n ≡ number + 1 → Lacks 10 bytes → VerdictFault costs bytes number n
no_verdict_line costs bytes number n e lack = first_stop costs bytes number n e (cut lack)

-- a line that is none of the four
pub no_verdict : (costs : List ℕ) (bytes line rest : List ℕ) (number n : ℕ) → n ≡ number + 1 → bytes ≡ line ++ 10 ∷ rest → Lacks 10 line → (line ≡ codes "verdict infeasible" → ⊥) → (line ≡ codes "verdict spent" → ⊥) → ((back : List ℕ) → line ≡ codes "verdict optimal " ++ back → ⊥) → ((back : List ℕ) → line ≡ codes "verdict feasible " ++ back → ⊥) → VerdictFault costs bytes number n
no_verdict costs bytes line rest number n e f lack no_infeasible no_spent no_optimal no_feasible =
    first_stop costs bytes number n e (other line rest f lack (λ b. case b.more b.whole.verdict b.whole.stated b.whole.on b.whole.lines))
  where
    case : (more : List (List ℕ)) (v : Verdict) (c : ℕ) (on : List Bool) → line ∷ more ≡ stated_lines v c on → ⊥
    case more verdicts.Optimal c on g = no_optimal (decimal c) (cc (g))
    case more verdicts.Feasible c on g = no_feasible (decimal c) (cc (g))
    case more verdicts.Infeasible c on g = no_infeasible (cc (g))
    case more verdicts.Spent c on g = no_spent (cc (g))

-- how the line of a verdict with a cost begins
abbrev pub name_of : Verdict → List ℕ
name_of verdicts.Optimal = codes "verdict optimal "
name_of verdicts.Feasible = codes "verdict feasible "
name_of verdicts.Infeasible = []
name_of verdicts.Spent = []

-- the lines of a verdict with a cost
pub costed_lines : (v : Verdict) (c : ℕ) (on : List Bool) → HasCost v → stated_lines v c on ≡ (name_of v ++ decimal c) ∷ x_line on ∷ []
costed_lines verdicts.Optimal c on h = refl
costed_lines verdicts.Feasible c on h = refl
costed_lines verdicts.Infeasible c on h = absurd h
costed_lines verdicts.Spent c on h = absurd h

-- a line that begins so is one of that verdict, with its cost
named_lines : (v w : Verdict) (stated : List ℕ) (c : ℕ) (on : List Bool) (more : List (List ℕ)) → HasCost v → (name_of v ++ stated) ∷ more ≡ stated_lines w c on → (stated ≡ decimal c) × (more ≡ x_line on ∷ [])
named_lines verdicts.Optimal verdicts.Optimal stated c on more h e =
    let head : codes "verdict optimal " ++ stated ≡ codes "verdict optimal " ++ decimal c = cc (e) in (append_cancel_left (codes "verdict optimal ") stated (decimal c) head, cc (e))
named_lines verdicts.Feasible verdicts.Feasible stated c on more h e =
    let head : codes "verdict feasible " ++ stated ≡ codes "verdict feasible " ++ decimal c = cc (e) in (append_cancel_left (codes "verdict feasible ") stated (decimal c) head, cc (e))
named_lines verdicts.Optimal verdicts.Feasible stated c on more h e =
    let head : codes "verdict optimal " ++ stated ≡ codes "verdict feasible " ++ decimal c = cc (e) in absurd (omega (arith, ap (λ l. get_or l 8 0) head))
named_lines verdicts.Optimal verdicts.Infeasible stated c on more h e =
    let head : codes "verdict optimal " ++ stated ≡ codes "verdict infeasible" = cc (e) in absurd (omega (arith, ap (λ l. get_or l 8 0) head))
named_lines verdicts.Optimal verdicts.Spent stated c on more h e =
    let head : codes "verdict optimal " ++ stated ≡ codes "verdict spent" = cc (e) in absurd (omega (arith, ap (λ l. get_or l 8 0) head))
named_lines verdicts.Feasible verdicts.Optimal stated c on more h e =
    let head : codes "verdict feasible " ++ stated ≡ codes "verdict optimal " ++ decimal c = cc (e) in absurd (omega (arith, ap (λ l. get_or l 8 0) head))
named_lines verdicts.Feasible verdicts.Infeasible stated c on more h e =
    let head : codes "verdict feasible " ++ stated ≡ codes "verdict infeasible" = cc (e) in absurd (omega (arith, ap (λ l. get_or l 8 0) head))
named_lines verdicts.Feasible verdicts.Spent stated c on more h e =
    let head : codes "verdict feasible " ++ stated ≡ codes "verdict spent" = cc (e) in absurd (omega (arith, ap (λ l. get_or l 8 0) head))
named_lines verdicts.Infeasible w stated c on more h e = absurd h
named_lines verdicts.Spent w stated c on more h e = absurd h

no_blank_cost : (v : Verdict) (n : ℕ) (c : ℕ) → HasCost v → c < 2 ^ 64 → Begins (AreVerdictLines n) ((name_of v ++ decimal c) ∷ x_line (replicate n false) ∷ [])
no_blank_cost verdicts.Optimal n c h small =
    record { more = []; whole = record { verdict = verdicts.Optimal; stated = c; on = replicate n false; within = small; one_a_column = length-replicate n false; blank = tt; lines = refl } }
no_blank_cost verdicts.Feasible n c h small =
    record { more = []; whole = record { verdict = verdicts.Feasible; stated = c; on = replicate n false; within = small; one_a_column = length-replicate n false; blank = tt; lines = refl } }
no_blank_cost verdicts.Infeasible n c h small = absurd h
no_blank_cost verdicts.Spent n c h small = absurd h

columns_next : (v : Verdict) (n : ℕ) (stated line : List ℕ) → HasCost v → Begins (AreVerdictLines n) ((name_of v ++ stated) ∷ line ∷ []) → IsOnesLine n line
columns_next v n stated line h b =
    let w = b.whole in
    let r = (named_lines v w.verdict stated w.stated w.on (line ∷ b.more) h w.lines).1 in
    record { on = w.on; one_a_column = w.one_a_column; spelled = cc (r) }

-- what is wrong after the name of a verdict with a cost
pub costed_fault : (v : Verdict) (costs bytes line rest stated : List ℕ) (number number' : ℕ) (e : ZoError) → HasCost v → line ≡ name_of v ++ stated → bytes ≡ line ++ 10 ∷ rest → Lacks 10 line → number' ≡ number + 1 → IsCostedFault costs stated number' rest number' e → IsVerdictFault costs bytes number e
costed_fault v costs bytes line rest stated number number' NoMemory h name spelled lack counted f = tt
costed_fault v costs bytes line rest stated number number' (Bad n) h name spelled lack counted (no_number none) =
    first_stop costs bytes number number' counted (other line rest spelled lack (λ b.
    let w = b.whole in
    let r = named_lines v w.verdict stated w.stated w.on b.more h (ap (λ l. l ∷ b.more) (sym name) ∙ w.lines) in
    none w.stated w.within r.0))
costed_fault v costs bytes line rest stated number number' (Bad n) h name spelled lack counted (no_columns c small s none) =
    stops (line ∷ []) (omega (arith, counted)) (record {
      rest = rest;
      spelled = spelled ∙ one_line_text line rest;
      next = x_line (replicate (length costs) false);
      goes_on = subst (λ l. Begins (AreVerdictLines (length costs)) (l ∷ x_line (replicate (length costs) false) ∷ [])) (sym (name ∙ ap (λ t. name_of v ++ t) s)) (no_blank_cost v (length costs) c h small);
      no_line = no_line_weaker (IsOnesLine (length costs)) (λ l. Begins (AreVerdictLines (length costs)) (line ∷ l ∷ [])) rest (λ l b. columns_next v (length costs) stated l h (subst (λ k. Begins (AreVerdictLines (length costs)) (k ∷ l ∷ [])) name b)) none;
    })
costed_fault v costs bytes line rest stated number number' (Bad n) h name spelled lack counted (other_cost c small s o) =
    misstates counted (record {
      verdict = v;
      stated = c;
      on = o.on;
      back = o.back;
      has_cost = h;
      within = small;
      one_a_column = o.one_a_column;
      not_its_cost = o.not_its_cost;
      spelled = spelled_more bytes rest o.back (line ∷ []) (x_line o.on ∷ []) (spelled ∙ one_line_text line rest) (o.spelled ∙ one_line_text (x_line o.on) o.back)
          ∙ (ap (λ l. text_of (l ∷ x_line o.on ∷ []) ++ o.back) (name ∙ ap (λ t. name_of v ++ t) s) ∙ ap (λ ls. text_of ls ++ o.back) (sym (costed_lines v c o.on h)));
    })

-- a line of columns that can't be read after a verdict
pub columns_fault : (costs stated bytes : List ℕ) (at number c : ℕ) (e : ZoError) → c < 2 ^ 64 → stated ≡ decimal c → IsLineFault (IsOnesLine (length costs)) bytes number e → IsCostedFault costs stated at bytes number e
columns_fault costs stated bytes at number c NoMemory small s h = tt
columns_fault costs stated bytes at number c (Bad n) small s h = subst (CostedFault costs stated at bytes number) (sym h.0) (no_columns c small s h.1)
