-- How many contexts a schedule has, with how many words each, and how many entries.
use Rattle.std.proofs.Common.{◌≡◌, ℕ, zero, suc, ◌+◌, ◌-◌, ◌<◌, ◌≤◌, List, [], ◌∷◌, All, length, sym, subst, arith}
use Rattle.std.specs.Prelude.{sum_by}
use Rattle.std.proofs.lemmas.List.Elements.{All-nil, All-cons}
use Rattle.std.proofs.lemmas.List.Sums.{sum_by-cons}
use Rattle.uc_schedule.specs.ScheduleText.{AreArguments, AreEntries, Gives, IsNamed, HasWords, entry_limit, steps_of}

entries_named : (k left : ℕ) (ls : List (List ℕ)) (es : List (ℕ × ℕ)) → AreEntries k left ls es → All (IsNamed k) es
entries_named k left [] [] h = All-nil (IsNamed k)
entries_named k left [] (e ∷ es) h = absurd h
entries_named k left (l ∷ ls) [] h = absurd h
entries_named k left (l ∷ ls) (e ∷ es) h = All-cons (IsNamed k) e es h.0.named (entries_named k (left - e.1) ls es h.1)

entries_few : (k left : ℕ) (ls : List (List ℕ)) (es : List (ℕ × ℕ)) → AreEntries k left ls es → sum_by (λ e. e.1) es ≤ left
entries_few k left [] [] h = omega arith
entries_few k left [] (e ∷ es) h = absurd h
entries_few k left (l ∷ ls) [] h = absurd h
entries_few k left (l ∷ ls) (e ∷ es) h = omega (arith, sum_by-cons (λ (x : ℕ × ℕ). x.1) e es, h.0.few, entries_few k (left - e.1) ls es h.1)

arguments_words : (params k n : ℕ) (ls args : List (List ℕ)) (es : List (ℕ × ℕ)) → AreArguments params k n ls args es → All (HasWords params) args
arguments_words params k zero ls [] es h = All-nil (HasWords params)
arguments_words params k zero ls (a ∷ args) es h = absurd h
arguments_words params k (suc n) [] [] es h = All-nil (HasWords params)
arguments_words params k (suc n) [] (a ∷ args) es h = absurd h
arguments_words params k (suc n) (l ∷ ls) [] es h = absurd h
arguments_words params k (suc n) (l ∷ ls) (a ∷ args) es h = All-cons (HasWords params) a args h.0.number (arguments_words params k n ls args es h.1)

-- where all arguments are there, entries are after them
arguments_entries : (params k n : ℕ) (ls args : List (List ℕ)) (es : List (ℕ × ℕ)) → AreArguments params k n ls args es → length args ≡ n → (rest : List (List ℕ)) × AreEntries k entry_limit rest es
arguments_entries params k zero ls [] es h e = (ls, h)
arguments_entries params k zero ls (a ∷ args) es h e = absurd h
arguments_entries params k (suc n) [] [] es h e = absurd (omega (arith, e))
arguments_entries params k (suc n) [] (a ∷ args) es h e = absurd h
arguments_entries params k (suc n) (l ∷ ls) [] es h e = absurd h
arguments_entries params k (suc n) (l ∷ ls) (a ∷ args) es h e = arguments_entries params k n ls args es h.1 (omega (arith, e))

-- of a whole schedule
pub given_few : (params : ℕ) (bytes : List ℕ) (args : List (List ℕ)) (es : List (ℕ × ℕ)) → Gives params bytes args es → length args < 4
given_few params bytes args es g = omega (arith, g.text.all, g.text.begun.count.few)

pub given_words : (params : ℕ) (bytes : List ℕ) (args : List (List ℕ)) (es : List (ℕ × ℕ)) → Gives params bytes args es → All (HasWords params) args
given_words params bytes args es g = arguments_words params g.text.contexts (g.text.contexts - 1) g.text.begun.others args es g.text.begun.spelled

given_entries : (params : ℕ) (bytes : List ℕ) (args : List (List ℕ)) (es : List (ℕ × ℕ)) → Gives params bytes args es → (rest : List (List ℕ)) × AreEntries (length args + 1) entry_limit rest es
given_entries params bytes args es g =
    let behind = arguments_entries params g.text.contexts (g.text.contexts - 1) g.text.begun.others args es g.text.begun.spelled (omega (arith, g.text.all)) in
    (behind.0, subst (λ k. AreEntries k entry_limit behind.0 es) (sym g.text.all) behind.1)

pub given_named : (params : ℕ) (bytes : List ℕ) (args : List (List ℕ)) (es : List (ℕ × ℕ)) → Gives params bytes args es → All (IsNamed (length args + 1)) es
given_named params bytes args es g = let h = given_entries params bytes args es g in entries_named (length args + 1) entry_limit h.0 es h.1

pub given_steps : (params : ℕ) (bytes : List ℕ) (args : List (List ℕ)) (es : List (ℕ × ℕ)) → Gives params bytes args es → steps_of es ≤ entry_limit
given_steps params bytes args es g = let h = given_entries params bytes args es g in entries_few (length args + 1) entry_limit h.0 es h.1
