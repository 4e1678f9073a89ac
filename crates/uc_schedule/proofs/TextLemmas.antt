-- Lines that begin a schedule: fewer of them, one more, and what they give.
use Rattle.std.proofs.Common.{◌≡◌, ℕ, zero, suc, ◌-◌, ◌<◌, ◌≤◌, List, [], ◌∷◌, ◌++◌, length, refl, ap, ◌∙◌, subst, arith}
use Rattle.nv_lines.specs.Line.{AllLack}
use Rattle.uc_schedule.specs.ScheduleText.{SpellsArgs, SpellsEntries, AreEntries, AreArguments, entry_limit}
use Rattle.uc_schedule.proofs.LineLemmas.{args_lack, args_one, entries_lack, entries_one}

-- how many entries are left after some
abbrev pub left_by : ℕ → List (ℕ × ℕ) → ℕ
left_by left [] = left
left_by left (e ∷ es) = left_by (left - e.1) es

-- ---- entries

lack_entries : (k left : ℕ) (ls : List (List ℕ)) (es : List (ℕ × ℕ)) → k ≤ 4 → left ≤ 100000000 → AreEntries k left ls es → AllLack 10 ls
lack_entries k left [] es a b h = tt
lack_entries k left (l ∷ ls) [] a b h = absurd h
lack_entries k left (l ∷ ls) (e ∷ es) a b h = (entries_lack k left l e a b h.0, lack_entries k (left - e.1) ls es a (omega arith) h.1)

fewer_entries : (k left : ℕ) (ls more : List (List ℕ)) (es : List (ℕ × ℕ)) → AreEntries k left (ls ++ more) es → (front : List (ℕ × ℕ)) × AreEntries k left ls front
fewer_entries k left [] more es h = ([], tt)
fewer_entries k left (l ∷ ls) more [] h = absurd h
fewer_entries k left (l ∷ ls) more (e ∷ es) h = let rest = fewer_entries k (left - e.1) ls more es h.1 in (e ∷ rest.0, (h.0, rest.1))

one_entries : (k left : ℕ) (ls : List (List ℕ)) (es fs : List (ℕ × ℕ)) → k ≤ 4 → left ≤ 100000000 → AreEntries k left ls es → AreEntries k left ls fs → es ≡ fs
one_entries k left [] [] [] a b h g = refl
one_entries k left [] (e ∷ es) fs a b h g = absurd h
one_entries k left [] [] (f ∷ fs) a b h g = absurd g
one_entries k left (l ∷ ls) [] fs a b h g = absurd h
one_entries k left (l ∷ ls) (e ∷ es) [] a b h g = absurd g
one_entries k left (l ∷ ls) (e ∷ es) (f ∷ fs) a b h g =
    let first : e ≡ f = entries_one k left k left l e f a b a b h.0 g.0 in
    let same : AreEntries k (left - f.1) ls es = subst (λ (x : ℕ × ℕ). AreEntries k (left - x.1) ls es) first h.1 in
    let rest : es ≡ fs = one_entries k (left - f.1) ls es fs a (omega arith) same g.1 in
    ap (λ x. x ∷ es) first ∙ ap (λ x. f ∷ x) rest

more_entries : (k left : ℕ) (ls : List (List ℕ)) (es : List (ℕ × ℕ)) (line : List ℕ) (e : ℕ × ℕ) → AreEntries k left ls es → SpellsEntries k (left_by left es) line e → AreEntries k left (ls ++ line ∷ []) (es ++ e ∷ [])
more_entries k left [] [] line e h s = (s, tt)
more_entries k left [] (f ∷ es) line e h s = absurd h
more_entries k left (l ∷ ls) [] line e h s = absurd h
more_entries k left (l ∷ ls) (f ∷ es) line e h s = (h.0, more_entries k (left - f.1) ls es line e h.1 s)

last_entries : (k left : ℕ) (ls : List (List ℕ)) (line : List ℕ) (es fs : List (ℕ × ℕ)) → k ≤ 4 → left ≤ 100000000 → AreEntries k left ls es → AreEntries k left (ls ++ line ∷ []) fs → (e : ℕ × ℕ) × SpellsEntries k (left_by left es) line e
last_entries k left [] line [] [] a b h g = absurd g
last_entries k left [] line [] (f ∷ fs) a b h g = (f, g.0)
last_entries k left [] line (e ∷ es) fs a b h g = absurd h
last_entries k left (l ∷ ls) line [] fs a b h g = absurd h
last_entries k left (l ∷ ls) line (e ∷ es) [] a b h g = absurd g
last_entries k left (l ∷ ls) line (e ∷ es) (f ∷ fs) a b h g =
    let first : f ≡ e = entries_one k left k left l f e a b a b g.0 h.0 in
    last_entries k (left - e.1) ls line es fs a (omega arith) h.1 (subst (λ (x : ℕ × ℕ). AreEntries k (left - x.1) (ls ++ line ∷ []) fs) first g.1)

pub left_push : (left : ℕ) (es : List (ℕ × ℕ)) (e : ℕ × ℕ) → left_by left (es ++ e ∷ []) ≡ left_by left es - e.1
left_push left [] e = refl
left_push left (f ∷ es) e = left_push (left - f.1) es e

pub left_most : (left : ℕ) (es : List (ℕ × ℕ)) → left_by left es ≤ left
left_most left [] = omega arith
left_most left (e ∷ es) = let rest : left_by (left - e.1) es ≤ left - e.1 = left_most (left - e.1) es in omega arith

-- ---- arguments, and then entries

pub lack_arguments : (params k n : ℕ) (ls args : List (List ℕ)) (es : List (ℕ × ℕ)) → k ≤ 4 → AreArguments params k n ls args es → AllLack 10 ls
lack_arguments params k zero ls [] es a h = lack_entries k entry_limit ls es a (omega arith) h
lack_arguments params k zero ls (x ∷ args) es a h = absurd h
lack_arguments params k (suc n) [] args es a h = tt
lack_arguments params k (suc n) (l ∷ ls) [] es a h = absurd h
lack_arguments params k (suc n) (l ∷ ls) (x ∷ args) es a h = (args_lack params l x h.0, lack_arguments params k n ls args es a h.1)

pub fewer_arguments : (params k n : ℕ) (ls more args : List (List ℕ)) (es : List (ℕ × ℕ)) → AreArguments params k n (ls ++ more) args es → (front : List (List ℕ)) × (first : List (ℕ × ℕ)) × AreArguments params k n ls front first
fewer_arguments params k zero ls more [] es h = let rest = fewer_entries k entry_limit ls more es h in ([], rest.0, rest.1)
fewer_arguments params k zero ls more (x ∷ args) es h = absurd h
fewer_arguments params k (suc n) [] more args es h = ([], [], tt)
fewer_arguments params k (suc n) (l ∷ ls) more [] es h = absurd h
fewer_arguments params k (suc n) (l ∷ ls) more (x ∷ args) es h = let rest = fewer_arguments params k n ls more args es h.1 in (x ∷ rest.0, rest.1, (h.0, rest.2))

pub one_arguments : (params k n : ℕ) (ls args args' : List (List ℕ)) (es es' : List (ℕ × ℕ)) → k ≤ 4 → AreArguments params k n ls args es → AreArguments params k n ls args' es' → (args ≡ args') × (es ≡ es')
one_arguments params k zero ls [] [] es es' a h g = (refl, one_entries k entry_limit ls es es' a (omega arith) h g)
one_arguments params k zero ls (x ∷ args) args' es es' a h g = absurd h
one_arguments params k zero ls [] (x ∷ args') es es' a h g = absurd g
one_arguments params k (suc n) [] [] [] [] [] a h g = (refl, refl)
one_arguments params k (suc n) [] [] args' (e ∷ es) es' a h g = absurd h
one_arguments params k (suc n) [] (x ∷ args) args' es es' a h g = absurd h
one_arguments params k (suc n) [] [] (x ∷ args') [] es' a h g = absurd g
one_arguments params k (suc n) [] [] [] [] (e ∷ es') a h g = absurd g
one_arguments params k (suc n) (l ∷ ls) [] args' es es' a h g = absurd h
one_arguments params k (suc n) (l ∷ ls) (x ∷ args) [] es es' a h g = absurd g
one_arguments params k (suc n) (l ∷ ls) (x ∷ args) (y ∷ args') es es' a h g =
    let first : x ≡ y = args_one params l x y h.0 g.0 in
    let rest = one_arguments params k n ls args args' es es' a h.1 g.1 in
    (ap (λ z. z ∷ args) first ∙ ap (λ z. y ∷ z) rest.0, rest.1)

-- none yet
pub no_arguments : (params k n : ℕ) → AreArguments params k n [] [] []
no_arguments params k zero = tt
no_arguments params k (suc n) = tt

-- a line of arguments more
pub more_arguments : (params k n : ℕ) (ls args : List (List ℕ)) (line ws : List ℕ) → AreArguments params k n ls args [] → length args < n → SpellsArgs params line ws → AreArguments params k n (ls ++ line ∷ []) (args ++ ws ∷ []) []
more_arguments params k zero ls args line ws h less s = absurd (omega arith)
more_arguments params k (suc n) [] [] line ws h less s = (s, no_arguments params k n)
more_arguments params k (suc n) [] (x ∷ args) line ws h less s = absurd h
more_arguments params k (suc n) (l ∷ ls) [] line ws h less s = absurd h
more_arguments params k (suc n) (l ∷ ls) (x ∷ args) line ws h less s = (h.0, more_arguments params k n ls args line ws h.1 (omega arith) s)

-- a line of entries more
pub more_turns : (params k n : ℕ) (ls args : List (List ℕ)) (es : List (ℕ × ℕ)) (line : List ℕ) (e : ℕ × ℕ) → AreArguments params k n ls args es → length args ≡ n → SpellsEntries k (left_by entry_limit es) line e
    → AreArguments params k n (ls ++ line ∷ []) args (es ++ e ∷ [])
more_turns params k zero ls [] es line e h all s = more_entries k entry_limit ls es line e h s
more_turns params k zero ls (x ∷ args) es line e h all s = absurd h
more_turns params k (suc n) [] [] es line e h all s = absurd (omega arith)
more_turns params k (suc n) [] (x ∷ args) es line e h all s = absurd h
more_turns params k (suc n) (l ∷ ls) [] es line e h all s = absurd h
more_turns params k (suc n) (l ∷ ls) (x ∷ args) es line e h all s = (h.0, more_turns params k n ls args es line e h.1 (omega arith) s)

-- what the last line is: arguments where some are to come
pub last_arguments : (params k n : ℕ) (ls args args' : List (List ℕ)) (line : List ℕ) (es es' : List (ℕ × ℕ)) → AreArguments params k n ls args es → AreArguments params k n (ls ++ line ∷ []) args' es' → length args < n → (ws : List ℕ) × SpellsArgs params line ws
last_arguments params k zero ls args args' line es es' h g less = absurd (omega arith)
last_arguments params k (suc n) [] args [] line es es' h g less = absurd g
last_arguments params k (suc n) [] args (y ∷ args') line es es' h g less = (y, g.0)
last_arguments params k (suc n) (l ∷ ls) [] args' line es es' h g less = absurd h
last_arguments params k (suc n) (l ∷ ls) (x ∷ args) [] line es es' h g less = absurd g
last_arguments params k (suc n) (l ∷ ls) (x ∷ args) (y ∷ args') line es es' h g less = last_arguments params k n ls args args' line es es' h.1 g.1 (omega arith)

-- and entries where none is
pub last_turns : (params k n : ℕ) (ls args args' : List (List ℕ)) (line : List ℕ) (es es' : List (ℕ × ℕ)) → k ≤ 4 → AreArguments params k n ls args es → AreArguments params k n (ls ++ line ∷ []) args' es' → length args ≡ n → (e : ℕ × ℕ) × SpellsEntries k (left_by entry_limit es) line e
last_turns params k zero ls [] [] line es es' a h g all = last_entries k entry_limit ls line es es' a (omega arith) h g
last_turns params k zero ls (x ∷ args) args' line es es' a h g all = absurd h
last_turns params k zero ls [] (y ∷ args') line es es' a h g all = absurd g
last_turns params k (suc n) [] [] args' line es es' a h g all = absurd (omega arith)
last_turns params k (suc n) [] (x ∷ args) args' line es es' a h g all = absurd h
last_turns params k (suc n) (l ∷ ls) [] args' line es es' a h g all = absurd h
last_turns params k (suc n) (l ∷ ls) (x ∷ args) [] line es es' a h g all = absurd g
last_turns params k (suc n) (l ∷ ls) (x ∷ args) (y ∷ args') line es es' a h g all = last_turns params k n ls args args' line es es' a h.1 g.1 (omega arith)
