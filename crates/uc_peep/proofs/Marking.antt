-- Marks, counts and lists made one by one.
use Rattle.std.proofs.Common.{◌≡◌, ◌≢◌, ℕ, zero, suc, ◌+◌, ◌<◌, ◌≤◌, ◌⊎◌, inl, inr, ⊎_elim, Bool, true, false, List, [], ◌∷◌, ◌++◌, length, get_or, set, drop, Some, nat_eq, if◌then◌else◌, refl, sym, ap, ◌∙◌, subst, arith, get_or-set_same, get_or-set_other, append_assoc}
use Rattle.std.specs.Prelude.{slice_get}
use Rattle.std.proofs.lemmas.Bool.{false≢true, cases_lt}
use Rattle.std.proofs.lemmas.Bool.Decides.{eqb_tells}
use Rattle.std.proofs.lemmas.Option.{slice_get-get_or, slice_get_within}
use Rattle.uc_isa.specs.declared.instruction.Instr.{Instr}
use Rattle.uc_peep.proofs.Counts.{gone-next, kept-next}
use Rattle.uc_peep.specs.Draft.{AreMarked}
use Rattle.uc_peep.specs.Kept.{compacted, is_gone, kept_before}
use Rattle.uc_isa.specs.Relocated.{relocated}
use Rattle.uc_isa.specs.StraightCode.{GoesTo, IsEntered}
use Rattle.uc_isa.specs.Visits.{here}

-- ---- where branches go

abbrev pub IsEnteredBefore : List Instr → ℕ → ℕ → Type 0
IsEnteredBefore code n y = (x : ℕ) × (i : Instr) × (x < n) × (slice_get code x ≡ Some i) × GoesTo i y

-- one mark more
pub mark-more : (marks : List Bool) (t : ℕ) (P Q : ℕ → Type 0) → t < length marks → AreMarked marks P → ((y : ℕ) → Q y → P y ⊎ (y ≡ t)) → ((y : ℕ) → P y → Q y) → Q t → AreMarked (set marks t true) Q
mark-more marks t P Q inside h split keep new = λ y. by y (eqb_tells y t)
  where
    by : (y : ℕ) → ((nat_eq y t ≡ true) × (y ≡ t)) ⊎ ((nat_eq y t ≡ false) × (y ≢ t)) → (get_or (set marks t true) y false ≡ true → Q y) × (Q y → get_or (set marks t true) y false ≡ true)
    by y (inl e) = (λ m. subst Q (sym e.1) new, λ q. ap (λ n. get_or (set marks t true) n false) e.1 ∙ get_or-set_same marks t true false inside)
    by y (inr e) =
        let same : get_or (set marks t true) y false ≡ get_or marks y false = get_or-set_other marks t y true false e.1 in (
          λ m. keep y ((h y).0 (sym same ∙ m)),
          λ q. same ∙ ⊎_elim (λ (p : P y). (h y).1 p) (λ (at : y ≡ t). absurd (e.1 at)) (split y q),
        )

-- none more
pub mark-same : (marks : List Bool) (P Q : ℕ → Type 0) → AreMarked marks P → ((y : ℕ) → Q y → P y) → ((y : ℕ) → P y → Q y) → AreMarked marks Q
mark-same marks P Q h back keep = λ y. (λ m. keep y ((h y).0 m), λ q. (h y).1 (back y q))

pub mark-none : (marks : List Bool) (P : ℕ → Type 0) → ((y : ℕ) → is_gone marks y ≡ false) → ((y : ℕ) → ¬ P y) → AreMarked marks P
mark-none marks P none never = λ y. (λ m. absurd (false≢true (sym (none y) ∙ m)), λ q. absurd (never y q))

pub entered-none : (code : List Instr) (y : ℕ) → ¬ IsEnteredBefore code 0 y
entered-none code y (x, i, lt, at, goes) = omega arith

pub entered-keep : (code : List Instr) (n y : ℕ) → IsEnteredBefore code n y → IsEnteredBefore code (n + 1) y
entered-keep code n y (x, i, lt, at, goes) = (x, i, omega arith, at, goes)

pub entered-split : (code : List Instr) (n y : ℕ) (i : Instr) → slice_get code n ≡ Some i → IsEnteredBefore code (n + 1) y → IsEnteredBefore code n y ⊎ GoesTo i y
entered-split code n y i here (x, j, lt, at, goes) = ⊎_elim
    (λ (less : x < n). inl (x, j, less, at, goes))
    (λ (le : n ≤ x).
    let e : x ≡ n = omega arith in
    let same : Some j ≡ Some i = sym at ∙ ap (slice_get code) e ∙ here in
    let ij : j ≡ i = cc in
    inr (subst (λ k. GoesTo k y) ij goes))
    (cases_lt x n)

pub entered-all : (code : List Instr) (y : ℕ) → IsEntered code y → IsEnteredBefore code (length code) y
entered-all code y (x, i, at, goes) = (x, i, slice_get_within code x i at, at, goes)

pub entered-some : (code : List Instr) (n y : ℕ) → IsEnteredBefore code n y → IsEntered code y
entered-some code n y (x, i, lt, at, goes) = (x, i, at, goes)

-- ---- what is kept

pub compacted-next : (f : ℕ → ℕ) (gone : List Bool) (code : List Instr) (x : ℕ) (i : Instr) → length gone ≡ length code → slice_get code x ≡ Some i → is_gone gone x ≡ true → compacted f (drop x gone) (drop x code) ≡ compacted f (drop (suc x) gone) (drop (suc x) code)
compacted-next f [] code x i size at g = absurd (false≢true g)
compacted-next f (g0 ∷ gone) [] x i size at g = absurd (omega arith)
compacted-next f (true ∷ gone) (j ∷ code) zero i size at g = start f gone code
  where
    start : (f : ℕ → ℕ) (gone : List Bool) (code : List Instr) → compacted f gone code ≡ compacted f (drop 0 gone) (drop 0 code)
    start f [] code = refl
    start f (b ∷ gone) [] = refl
    start f (b ∷ gone) (j ∷ code) = refl
compacted-next f (false ∷ gone) (j ∷ code) zero i size at g = absurd (false≢true g)
compacted-next f (b ∷ gone) (j ∷ code) (suc x) i size at g = compacted-next f gone code x i (omega arith) at g

pub compacted-kept : (f : ℕ → ℕ) (gone : List Bool) (code : List Instr) (x : ℕ) (i : Instr) → length gone ≡ length code → slice_get code x ≡ Some i → is_gone gone x ≡ false → compacted f (drop x gone) (drop x code) ≡ relocated f i ∷ compacted f (drop (suc x) gone) (drop (suc x) code)
compacted-kept f [] [] x i size at g = cc
compacted-kept f [] (j ∷ code) x i size at g = absurd (omega arith)
compacted-kept f (g0 ∷ gone) [] x i size at g = absurd (omega arith)
compacted-kept f (true ∷ gone) (j ∷ code) zero i size at g = absurd (false≢true (sym g))
compacted-kept f (false ∷ gone) (j ∷ code) zero i size at g =
    let e : j ≡ i = cc in
    ap (λ k. relocated f k ∷ compacted f gone code) e ∙ ap (λ l. relocated f i ∷ l) (start f gone code)
  where
    start : (f : ℕ → ℕ) (gone : List Bool) (code : List Instr) → compacted f gone code ≡ compacted f (drop 0 gone) (drop 0 code)
    start f [] code = refl
    start f (b ∷ gone) [] = refl
    start f (b ∷ gone) (j ∷ code) = refl
compacted-kept f (b ∷ gone) (j ∷ code) (suc x) i size at g = compacted-kept f gone code x i (omega arith) at g

pub compacted-end : (f : ℕ → ℕ) (gone : List Bool) (code : List Instr) (x : ℕ) → length gone ≡ length code → length code ≤ x → compacted f (drop x gone) (drop x code) ≡ []
compacted-end f [] [] zero size h = refl
compacted-end f [] [] (suc x) size h = refl
compacted-end f [] (j ∷ code) x size h = absurd (omega arith)
compacted-end f (b ∷ gone) [] x size h = absurd (omega arith)
compacted-end f (b ∷ gone) (j ∷ code) zero size h = absurd (omega arith)
compacted-end f (b ∷ gone) (j ∷ code) (suc x) size h = compacted-end f gone code x (omega arith) (omega arith)

pub compact-more : (f : ℕ → ℕ) (gone : List Bool) (code v v' whole : List Instr) (x : ℕ) (d : Instr) (g : Bool) → length gone ≡ length code → x < length code → v ++ compacted f (drop x gone) (drop x code) ≡ whole → is_gone gone x ≡ g
    → v' ≡ (if g then v else (v ++ relocated f (get_or code x d) ∷ [])) → v' ++ compacted f (drop (x + 1) gone) (drop (x + 1) code) ≡ whole
compact-more f gone code v v' whole x d true size inside h is new =
    let one : x + 1 ≡ suc x = omega arith in
    ap (λ l. l ++ compacted f (drop (x + 1) gone) (drop (x + 1) code)) new
    ∙ ap (λ n. v ++ compacted f (drop n gone) (drop n code)) one
    ∙ ap (λ l. v ++ l) (sym (compacted-next f gone code x (get_or code x d) size (slice_get-get_or code x d inside) is))
    ∙ h
compact-more f gone code v v' whole x d false size inside h is new =
    let one : x + 1 ≡ suc x = omega arith in
    ap (λ l. l ++ compacted f (drop (x + 1) gone) (drop (x + 1) code)) new
    ∙ append_assoc v (relocated f (get_or code x d) ∷ []) (compacted f (drop (x + 1) gone) (drop (x + 1) code))
    ∙ ap (λ n. v ++ relocated f (get_or code x d) ∷ compacted f (drop n gone) (drop n code)) one
    ∙ ap (λ l. v ++ l) (sym (compacted-kept f gone code x (get_or code x d) size (slice_get-get_or code x d inside) is))
    ∙ h

pub count-more : (gone : List Bool) (x n n' : ℕ) (g : Bool) → x < length gone → is_gone gone x ≡ g → n ≡ kept_before gone x → n' ≡ (if g then n else (n + 1)) → n' ≡ kept_before gone (x + 1)
count-more gone x n n' true inside is h new = let one : x + 1 ≡ suc x = omega arith in new ∙ h ∙ sym (ap (kept_before gone) one ∙ gone-next gone x is)
count-more gone x n n' false inside is h new =
    let one : x + 1 ≡ suc x = omega arith in
    let next = kept-next gone x inside is in
    let at = ap (kept_before gone) one in
    omega arith

pub count-few : (n n' x : ℕ) (g : Bool) → n ≤ x → n' ≡ (if g then n else (n + 1)) → n' ≤ x + 1
count-few n n' x true h new = omega arith
count-few n n' x false h new = omega arith

pub so-far-more : (v : List ℕ) (n i : ℕ) (gone : List Bool) → length v ≡ i → ((x : ℕ) → x < i → get_or v x 0 ≡ kept_before gone x) → n ≡ kept_before gone i → (x : ℕ) → x < i + 1 → get_or (v ++ n ∷ []) x 0 ≡ kept_before gone x
so-far-more v n i gone size h here x lt = ⊎_elim
    (λ (less : x < i). pushed-old v n x (omega arith) ∙ h x less)
    (λ (le : i ≤ x). let e : x ≡ length v = omega arith in let f : i ≡ x = omega arith in ap (λ k. get_or (v ++ n ∷ []) k 0) e ∙ pushed-new v n ∙ here ∙ ap (kept_before gone) f)
    (cases_lt x i)
  where
    pushed-old : (v : List ℕ) (n x : ℕ) → x < length v → get_or (v ++ n ∷ []) x 0 ≡ get_or v x 0
    pushed-old [] n x lt = absurd (omega arith)
    pushed-old (a ∷ v) n zero lt = refl
    pushed-old (a ∷ v) n (suc x) lt = pushed-old v n x (omega arith)

    pushed-new : (v : List ℕ) (n : ℕ) → get_or (v ++ n ∷ []) (length v) 0 ≡ n
    pushed-new [] n = refl
    pushed-new (a ∷ v) n = pushed-new v n

pub length-push : (v : List ℕ) (n : ℕ) → length (v ++ n ∷ []) ≡ length v + 1
length-push [] n = refl
length-push (a ∷ v) n = let h = length-push v n in omega arith
