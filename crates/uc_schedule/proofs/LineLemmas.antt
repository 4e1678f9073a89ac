-- What each line's parts are.
use Rattle.std.proofs.Common.{◌≡◌, ℕ, ◌-◌, ◌≤◌, List, [], ◌∷◌, length, refl, sym, ap, ◌∙◌, subst, arith, codes, decimal, lit≤}
use Rattle.nv_lines.specs.Line.{Lacks, parts, parted}
use Rattle.nv_lines.proofs.SplitLaws.{parts-parted, parted-parts, Lacks-parted, Lacks-test}
use Rattle.nv_lines.proofs.NumberLaws.{Lacks-decimal}
use Rattle.nv_lines.proofs.NumberLemmas.{decimal_one}
use Rattle.nv_memtext.specs.Spelling.{SpellWords}
use Rattle.nv_memtext.proofs.WordLemmas.{SpellWords-lack, SpellWords-one}
use Rattle.uc_schedule.specs.ScheduleText.{SpellsCount, SpellsArgs, SpellsEntries}

-- ---- the first line

pub count_parts : (line : List ℕ) (k : ℕ) → SpellsCount line k → parts line ≡ codes "contexts" ∷ decimal k ∷ []
count_parts line k s = ap parts s.spelled ∙ parts-parted (codes "contexts") (decimal k ∷ []) (Lacks-test 32 (codes "contexts") refl, (Lacks-decimal 32 k (lit≤ tt) (omega (arith, s.few)), tt))

pub count_rest : (line : List ℕ) (new : List (List ℕ)) (k : ℕ) → parts line ≡ codes "contexts" ∷ new → SpellsCount line k → new ≡ decimal k ∷ []
count_rest line new k e s = let f = count_parts line k s in cc (e, f)

pub count_from_parts : (line : List ℕ) (k : ℕ) → k ≤ 4 → ¬ (k ≡ 0) → parts line ≡ codes "contexts" ∷ decimal k ∷ [] → SpellsCount line k
count_from_parts line k h some e = record { some = omega (arith, some); few = h; spelled = sym (parted-parts line) ∙ ap parted e }

-- the number that was read is the line's
pub count_same : (line : List ℕ) (new new' : List (List ℕ)) (k n : ℕ) → n ≤ 4 → parts line ≡ codes "contexts" ∷ new → new ≡ decimal n ∷ new' → SpellsCount line k → (k ≡ n) × (new' ≡ [])
count_same line new new' k n few e is s =
    let rest = count_rest line new k e s in
    let same : decimal k ≡ decimal n = cc (rest, is) in
    let done : new' ≡ [] = cc (rest, is) in
    (decimal_one k n (omega (arith, s.few)) (omega arith) same, done)

pub count_one : (line : List ℕ) (j k : ℕ) → SpellsCount line j → SpellsCount line k → j ≡ k
count_one line j k a b =
    let e = count_parts line j a in
    let f = count_parts line k b in
    let same : decimal j ≡ decimal k = cc (e, f) in
    decimal_one j k (omega (arith, a.few)) (omega (arith, b.few)) same

pub count_lack : (line : List ℕ) (k : ℕ) → SpellsCount line k → Lacks 10 line
count_lack line k h =
    subst (Lacks 10) (sym h.spelled)
    (Lacks-parted 10 (codes "contexts" ∷ decimal k ∷ []) (λ e. omega (arith, e)) (Lacks-test 10 (codes "contexts") refl, (Lacks-decimal 10 k (lit≤ tt) (omega (arith, h.few)), tt)))

-- ---- a line of arguments

pub args_parts : (params : ℕ) (line args : List ℕ) (s : SpellsArgs params line args) → parts line ≡ codes "args" ∷ s.parts
args_parts params line args s = ap parts s.spelled ∙ parts-parted (codes "args") s.parts (Lacks-test 32 (codes "args") refl, SpellWords-lack 32 s.parts args (lit≤ tt) s.words)

pub args_from_parts : (params : ℕ) (line : List ℕ) (new : List (List ℕ)) (ws : List ℕ) → parts line ≡ codes "args" ∷ new → SpellWords new ws → length ws ≡ params → SpellsArgs params line ws
args_from_parts params line new ws e h n = record { parts = new; spelled = sym (parted-parts line) ∙ ap parted e; words = h; number = n }

pub no_args : (params : ℕ) (line : List ℕ) (new : List (List ℕ)) → params ≤ 8 → parts line ≡ codes "args" ∷ new → ((ws : List ℕ) → length ws ≤ 8 → SpellWords new ws → ⊥) → (ws : List ℕ) → SpellsArgs params line ws → ⊥
no_args params line new few e none ws s =
    let f = args_parts params line ws s in
    let same : s.parts ≡ new = cc (e, f) in
    none ws (omega (arith, s.number)) (subst (λ ps. SpellWords ps ws) same s.words)

-- other words than as many as there are parameters
pub not_args : (params : ℕ) (line vs : List ℕ) (new : List (List ℕ)) → parts line ≡ codes "args" ∷ new → SpellWords new vs → (length vs ≡ params → ⊥) → (ws : List ℕ) → SpellsArgs params line ws → ⊥
not_args params line vs new e spell other ws s =
    let f = args_parts params line ws s in
    let same : s.parts ≡ new = cc (e, f) in
    let one : ws ≡ vs = SpellWords-one new ws vs (subst (λ ps. SpellWords ps ws) same s.words) spell in
    other (sym (ap length one) ∙ s.number)

pub args_one : (params : ℕ) (line vs ws : List ℕ) → SpellsArgs params line vs → SpellsArgs params line ws → vs ≡ ws
args_one params line vs ws h k =
    let e = args_parts params line vs h in
    let f = args_parts params line ws k in
    let same : k.parts ≡ h.parts = cc (e, f) in
    SpellWords-one h.parts vs ws h.words (subst (λ ps. SpellWords ps ws) same k.words)

pub args_lack : (params : ℕ) (line args : List ℕ) → SpellsArgs params line args → Lacks 10 line
args_lack params line args h =
    subst (Lacks 10) (sym h.spelled)
    (Lacks-parted 10 (codes "args" ∷ h.parts) (λ e. omega (arith, e)) (Lacks-test 10 (codes "args") refl, SpellWords-lack 10 h.parts args (lit≤ tt) h.words))

-- ---- a line of entries

pub entries_parts : (k left : ℕ) (line : List ℕ) (e : ℕ × ℕ) → k ≤ 4 → left ≤ 100000000 → SpellsEntries k left line e → parts line ≡ codes "run" ∷ decimal e.0 ∷ decimal e.1 ∷ []
entries_parts k left line e a b s =
    ap parts s.spelled ∙ parts-parted (codes "run") (decimal e.0 ∷ decimal e.1 ∷ [])
    (Lacks-test 32 (codes "run") refl, (Lacks-decimal 32 e.0 (lit≤ tt) (omega (arith, s.named)), (Lacks-decimal 32 e.1 (lit≤ tt) (omega (arith, s.few)), tt)))

pub entries_rest : (k left : ℕ) (line : List ℕ) (new : List (List ℕ)) (e : ℕ × ℕ) → k ≤ 4 → left ≤ 100000000 → parts line ≡ codes "run" ∷ new → SpellsEntries k left line e → new ≡ decimal e.0 ∷ decimal e.1 ∷ []
entries_rest k left line new e a b is s = let f = entries_parts k left line e a b s in cc (is, f)

-- the numbers that were read are the line's
pub entries_same : (k left : ℕ) (line : List ℕ) (new new' new'' : List (List ℕ)) (e : ℕ × ℕ) (i n : ℕ) → k ≤ 4 → left ≤ 100000000 → n ≤ left → parts line ≡ codes "run" ∷ new → new ≡ decimal i ∷ new' → new' ≡ decimal n ∷ new'' → SpellsEntries k left line e
    → (e.1 ≡ n) × (new'' ≡ [])
entries_same k left line new new' new'' e i n a b few is first second s =
    let rest = entries_rest k left line new e a b is s in
    let same : decimal e.1 ≡ decimal n = cc (rest, first, second) in
    let done : new'' ≡ [] = cc (rest, first, second) in
    (decimal_one e.1 n (omega (arith, s.few)) (omega arith) same, done)

pub entries_from_parts : (k left : ℕ) (line : List ℕ) (i n : ℕ) → 1 ≤ k → i ≤ k - 1 → n ≤ left → ¬ (n ≡ 0) → parts line ≡ codes "run" ∷ decimal i ∷ decimal n ∷ [] → SpellsEntries k left line (i, n)
entries_from_parts k left line i n one h few some e = record { named = omega arith; some = omega (arith, some); few = few; spelled = sym (parted-parts line) ∙ ap parted e }

pub entries_one : (k left j left' : ℕ) (line : List ℕ) (e f : ℕ × ℕ) → k ≤ 4 → left ≤ 100000000 → j ≤ 4 → left' ≤ 100000000 → SpellsEntries k left line e → SpellsEntries j left' line f → e ≡ f
entries_one k left j left' line e f a b a' b' h g =
    let p = entries_parts k left line e a b h in
    let q = entries_parts j left' line f a' b' g in
    let first : decimal e.0 ≡ decimal f.0 = cc (p, q) in
    let second : decimal e.1 ≡ decimal f.1 = cc (p, q) in
    let one : e.0 ≡ f.0 = decimal_one e.0 f.0 (omega (arith, h.named)) (omega (arith, g.named)) first in
    let two : e.1 ≡ f.1 = decimal_one e.1 f.1 (omega (arith, h.few)) (omega (arith, g.few)) second in
    λ i. (one i, two i)

pub entries_lack : (k left : ℕ) (line : List ℕ) (e : ℕ × ℕ) → k ≤ 4 → left ≤ 100000000 → SpellsEntries k left line e → Lacks 10 line
entries_lack k left line e a b h =
    subst (Lacks 10) (sym h.spelled)
    (Lacks-parted 10 (codes "run" ∷ decimal e.0 ∷ decimal e.1 ∷ []) (λ e. omega (arith, e))
    (Lacks-test 10 (codes "run") refl, (Lacks-decimal 10 e.0 (lit≤ tt) (omega (arith, h.named)), (Lacks-decimal 10 e.1 (lit≤ tt) (omega (arith, h.few)), tt))))
