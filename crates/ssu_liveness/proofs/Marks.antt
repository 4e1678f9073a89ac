-- Marks, and numbers that are free.
use Rattle.std.proofs.Common.{◌≡◌, ◌≢◌, ℕ, zero, suc, ◌+◌, ◌<◌, ◌≤◌, Bool, true, false, not, nat_eq, cond, if◌then◌else◌, ⊎_elim, Some, None, is_some, List, [], ◌∷◌, ◌++◌, length, get_or, set, take, replicate, count_by, refl, sym, ap, subst, ◌∙◌, arith}
use Rattle.std.proofs.lemmas.Bool.{and_parts, not-true, or_cases, or_left, or_right, or_from, or_parts, eq-eqb, false≢true, cases_eq, cases_lt, false_from_ne_true}
use Rattle.std.proofs.lemmas.List.{get_or-set_same, get_or-set_other, length-set, set_past, take_more, take_all, length-replicate}
use Rattle.std.proofs.lemmas.List.Sums.{sum_by-cons, sum_by-set, sum_by_push, count_by-le-length}
use Rattle.nv_base.specs.Sets.{is_in, all_different}
use Rattle.nv_base.proofs.Sets.{same-number}
use Rattle.ssu_liveness.specs.inner.Numbers.{Numbers, has_number, Numbered}
use Rattle.ssu_liveness.proofs.Scoped.{in-itself, in-last}

abbrev one_if : Bool → ℕ
one_if b = cond b 1 0

abbrev on : Bool → Bool
on b = b

one-le : (b : Bool) → one_if b ≤ 1
one-le true = omega arith
one-le false = omega arith

-- one mark more
mark-count : (marks : List Bool) (n : ℕ) → count_by on (set marks n true) ≤ count_by on marks + 1
mark-count marks n = ⊎_elim
    (λ (h : n < length marks). let c = sum_by-set (λ (b : Bool). one_if b) marks n true false h in omega arith)
    (λ (h : length marks ≤ n). subst (λ (m : List Bool). count_by on m ≤ count_by on marks + 1) (sym (set_past marks n true h)) (omega arith))
    (cases_lt n (length marks))

pub record Marked (number : Numbers) (row : List ℕ) (i : ℕ) (marks : List Bool) : Type 0 where
  pub count : length marks ≡ length row
  pub few : count_by on marks ≤ count_by (has_number number) (take i row)
  pub on_ : (y n : ℕ) → is_in y (take i row) ≡ true → number y ≡ Some n → n < length row → get_or marks n false ≡ true

pub marked-none : (number : Numbers) (row : List ℕ) (marks : List Bool) → marks ≡ replicate (length row) false → Marked number row 0 marks
marked-none number row marks e = record {
  count = ap length e ∙ length-replicate (length row) false;
  few = subst (λ (m : List Bool). count_by on m ≤ 0) (sym e) (none-on (length row));
  on_ = λ y n h f l. absurd (false≢true h);
}
  where
    none-on : (n : ℕ) → count_by on (replicate n false) ≤ 0
    none-on zero = omega arith
    none-on (suc n) = let c = sum_by-cons (λ (b : Bool). one_if b) false (replicate n false) in let r = none-on n in omega arith

take-step : (row : List ℕ) (i x : ℕ) → i < length row → x ≡ get_or row i 0 → take (i + 1) row ≡ take i row ++ x ∷ []
take-step row i x l e = take_more row i 0 l ∙ ap (λ y. take i row ++ y ∷ []) (sym e)

count-step : (p : ℕ → Bool) (row : List ℕ) (i x : ℕ) → i < length row → x ≡ get_or row i 0 → count_by p (take (i + 1) row) ≡ count_by p (take i row) + one_if (p x)
count-step p row i x l e = ap (λ r. count_by p r) (take-step row i x l e) ∙ sum_by_push (λ y. one_if (p y)) (take i row) x

pub marked-skip : (number : Numbers) (row : List ℕ) (i x : ℕ) (marks : List Bool) → i < length row → x ≡ get_or row i 0 → number x ≡ None → Marked number row i marks → Marked number row (i + 1) marks
marked-skip number row i x marks l e none m = record {
  count = m.count;
  few = let c = count-step (has_number number) row i x l e in let f = m.few in omega arith;
  on_ = λ y n h f b. ⊎_elim
      (λ (a : is_in y (take i row) ≡ true). m.on_ y n a f b)
      (λ (q : nat_eq y x ≡ true). let bad : None ≡ Some n = sym none ∙ ap number (sym (same-number y x q)) ∙ f in absurd (cc))
      (or_cases (is_in y (take i row)) (nat_eq y x) (sym (in-last y (take i row) x) ∙ ap (λ r. is_in y r) (sym (take-step row i x l e)) ∙ h));
}

pub marked-more : (number : Numbers) (row : List ℕ) (i x k : ℕ) (marks marks' : List Bool) → i < length row → x ≡ get_or row i 0 → number x ≡ Some k → marks' ≡ set marks k true → Marked number row i marks → Marked number row (i + 1) marks'
marked-more number row i x k marks marks' l e some f m = record {
  count = ap length f ∙ length-set marks k true ∙ m.count;
  few =
      let c = count-step (has_number number) row i x l e in
      let one : one_if (has_number number x) ≡ 1 = ap (λ o. one_if (is_some o)) some in
      let g = m.few in
      let w = mark-count marks k in
      subst (λ (v : List Bool). count_by on v ≤ count_by (has_number number) (take (i + 1) row)) (sym f) (omega arith);
  on_ = λ y n h g b.
      let within : n < length marks = omega (arith, m.count) in
      subst (λ (v : List Bool). get_or v n false ≡ true) (sym f)
      (⊎_elim
      (λ (same : n ≡ k). ap (λ j. get_or (set marks k true) j false) same ∙ get_or-set_same marks k true false (omega arith))
      (λ (ne : n ≡ k → ⊥). get_or-set_other marks k n true false ne ∙ ⊎_elim
      (λ (a : is_in y (take i row) ≡ true). m.on_ y n a g b)
      (λ (q : nat_eq y x ≡ true). let bad : Some k ≡ Some n = sym some ∙ ap number (sym (same-number y x q)) ∙ g in let eq : k ≡ n = cc in absurd (ne (sym eq)))
      (or_cases (is_in y (take i row)) (nat_eq y x) (sym (in-last y (take i row) x) ∙ ap (λ r. is_in y r) (sym (take-step row i x l e)) ∙ h)))
      (cases_eq n k));
}

pub marked-all : (number : Numbers) (row : List ℕ) (i : ℕ) (marks : List Bool) → length row ≤ i → Marked number row i marks → Marked number row (length row) marks
marked-all number row i marks l m = record {
  count = m.count;
  few = subst (λ r. count_by on marks ≤ count_by (has_number number) r) (take_all i row l ∙ sym (take_all (length row) row (omega arith))) m.few;
  on_ = λ y n h. m.on_ y n (ap (λ r. is_in y r) (take_all i row l ∙ sym (take_all (length row) row (omega arith))) ∙ h);
}

-- as many marks are on as stand before the first that is off
on-before : (marks : List Bool) (n : ℕ) → n ≤ length marks → ((k : ℕ) → k < n → get_or marks k false ≡ true) → n ≤ count_by on marks
on-before marks zero l h = omega arith
on-before [] (suc n) l h = absurd (omega arith)
on-before (b ∷ marks) (suc n) l h =
    let c = sum_by-cons (λ (d : Bool). one_if d) b marks in
    let first : one_if b ≡ 1 = ap one_if (h 0 (omega arith)) in
    let rest = on-before marks n (omega arith) (λ k g. h (suc k) (omega arith)) in
    omega arith

-- where one of a row has no number, fewer have one than there are
count-without : (p : ℕ → Bool) (row : List ℕ) (x : ℕ) → is_in x row ≡ true → p x ≡ false → count_by p row < length row
count-without p [] x h e = absurd (false≢true h)
count-without p (y ∷ row) x h e =
    let c = sum_by-cons (λ z. one_if (p z)) y row in
    ⊎_elim
    (λ (a : nat_eq x y ≡ true).
    let off : one_if (p y) ≡ 0 = ap (λ z. one_if (p z)) (sym (same-number x y a)) ∙ ap one_if e in
    let most = count_by-le-length p row in
    omega arith)
    (λ (b : is_in x row ≡ true). let rest = count-without p row x b e in let one = one-le (p y) in omega arith)
    (or_cases (nat_eq x y) (is_in x row) h)

pub free-below : (number : Numbers) (row : List ℕ) (marks : List Bool) (n x : ℕ) → length marks ≡ length row → count_by on marks ≤ count_by (has_number number) row → n ≤ length marks → ((k : ℕ) → k < n → get_or marks k false ≡ true) → is_in x row ≡ true → number x ≡ None → n < length row
free-below number row marks n x w f l h i e =
    let a = on-before marks n l h in
    let b = count-without (has_number number) row x i (ap is_some e) in
    omega arith

pub free-of : (number : Numbers) (row : List ℕ) (marks : List Bool) (n : ℕ) → length marks ≡ length row → n < length row → (n < length marks → get_or marks n false ≡ false)
    → ((y m : ℕ) → is_in y row ≡ true → number y ≡ Some m → m < length row → get_or marks m false ≡ true) → (y : ℕ) → is_in y row ≡ true → number y ≢ Some n
free-of number row marks n w l off h y i e = false≢true (sym (off (omega arith)) ∙ h y n i e l)

-- ---- values get numbers one by one

pub numbered-none : (number : Numbers) (row : List ℕ) → Numbered number [] row number
numbered-none number row = record { kept = λ z h. refl; still = λ z n e. e; given = λ z h i. absurd (false≢true h); apart = λ x y n h i j ne e f. false≢true h }

pub numbered-skip : (old new : Numbers) (vs row : List ℕ) (x : ℕ) → is_in x row ≡ false → Numbered old vs row new → Numbered old (vs ++ x ∷ []) row new
numbered-skip old new vs row x out d = record {
  still = d.still;
  kept = λ z h. d.kept z (or_parts (is_in z vs) (nat_eq z x) (sym (in-last z vs x) ∙ h)).0;
  given = λ z h i. ⊎_elim (λ (a : is_in z vs ≡ true). d.given z a i) (λ (q : nat_eq z x ≡ true). absurd (false≢true (sym out ∙ ap (λ y. is_in y row) (sym (same-number z x q)) ∙ i))) (or_cases (is_in z vs) (nat_eq z x) (sym (in-last z vs x) ∙ h));
  apart = λ w y n h i j ne e f. ⊎_elim (λ (a : is_in w vs ≡ true). d.apart w y n a i j ne e f) (λ (q : nat_eq w x ≡ true). false≢true (sym out ∙ ap (λ z. is_in z row) (sym (same-number w x q)) ∙ i)) (or_cases (is_in w vs) (nat_eq w x) (sym (in-last w vs x) ∙ h));
}

at-new : (new newer : Numbers) (x n z : ℕ) → ((q : ℕ) → newer q ≡ (if nat_eq q x then Some n else new q)) → z ≡ x → newer z ≡ Some n
at-new new newer x n z u e = u z ∙ ap (λ b. if b then Some n else new z) (eq-eqb z x e)

not-new : (new newer : Numbers) (x n z : ℕ) → ((q : ℕ) → newer q ≡ (if nat_eq q x then Some n else new q)) → nat_eq z x ≡ false → newer z ≡ new z
not-new new newer x n z u e = u z ∙ ap (λ b. if b then Some n else new z) e

pub ne-number : (z x : ℕ) → (z ≡ x → ⊥) → nat_eq z x ≡ false
ne-number z x h = false_from_ne_true (nat_eq z x) (λ e. h (same-number z x e))

pub numbered-more : (old new newer : Numbers) (vs row : List ℕ) (x n : ℕ) → is_in x row ≡ true → is_in x vs ≡ false → ((y : ℕ) → is_in y row ≡ true → new y ≢ Some n) → n < length row → new x ≡ None → ((q : ℕ) → newer q ≡ (if nat_eq q x then Some n else new q))
    → Numbered old vs row new → Numbered old (vs ++ x ∷ []) row newer
numbered-more old new newer vs row x n there fresh free below unset u d = record {
  still = λ z m e. ⊎_elim
      (λ (same : z ≡ x). let bad : None ≡ Some m = sym unset ∙ ap new (sym same) ∙ d.still z m e in absurd (cc))
      (λ (ne : z ≡ x → ⊥). not-new new newer x n z u (ne-number z x ne) ∙ d.still z m e)
      (cases_eq z x);
  kept = λ z h. let p = or_parts (is_in z vs) (nat_eq z x) (sym (in-last z vs x) ∙ h) in not-new new newer x n z u p.1 ∙ d.kept z p.0;
  given = λ z h i. ⊎_elim
      (λ (same : z ≡ x). record { it = n; has = at-new new newer x n z u same; below = below })
      (λ (ne : z ≡ x → ⊥).
      let g = d.given z (⊎_elim (λ (a : is_in z vs ≡ true). a) (λ (q : nat_eq z x ≡ true). absurd (ne (same-number z x q))) (or_cases (is_in z vs) (nat_eq z x) (sym (in-last z vs x) ∙ h))) i in
      record { it = g.it; has = not-new new newer x n z u (ne-number z x ne) ∙ g.has; below = g.below })
      (cases_eq z x);
  apart = λ w y m h i j ne e f. ⊎_elim
      (λ (same : w ≡ x).
      let first : Some m ≡ Some n = sym e ∙ at-new new newer x n w u same in
      let eq : m ≡ n = cc in
      free y j (sym (not-new new newer x n y u (ne-number y x (λ q. ne (same ∙ sym q)))) ∙ f ∙ ap (λ k. Some k) eq))
      (λ (other : w ≡ x → ⊥). ⊎_elim
      (λ (same : y ≡ x).
      let second : Some m ≡ Some n = sym f ∙ at-new new newer x n y u same in
      let eq : m ≡ n = cc in
      free w i (sym (not-new new newer x n w u (ne-number w x other)) ∙ e ∙ ap (λ k. Some k) eq))
      (λ (neither : y ≡ x → ⊥).
      d.apart w y m (⊎_elim (λ (a : is_in w vs ≡ true). a) (λ (q : nat_eq w x ≡ true). absurd (other (same-number w x q))) (or_cases (is_in w vs) (nat_eq w x) (sym (in-last w vs x) ∙ h))) i j ne
      (sym (not-new new newer x n w u (ne-number w x other)) ∙ e) (sym (not-new new newer x n y u (ne-number y x neither)) ∙ f))
      (cases_eq y x))
      (cases_eq w x);
}

-- ---- the values of one group in order

pub is-among : (vs : List ℕ) (i : ℕ) → i < length vs → is_in (get_or vs i 0) vs ≡ true
is-among [] i l = absurd (omega arith)
is-among (v ∷ vs) zero l = or_left (nat_eq v v) (is_in v vs) (in-itself v)
is-among (v ∷ vs) (suc i) l = or_right (nat_eq (get_or vs i 0) v) (is_in (get_or vs i 0) vs) (is-among vs i (omega arith))

pub not-earlier : (vs : List ℕ) (i : ℕ) → i < length vs → all_different vs ≡ true → is_in (get_or vs i 0) (take i vs) ≡ false
not-earlier [] i l d = absurd (omega arith)
not-earlier (v ∷ vs) zero l d = refl
not-earlier (v ∷ vs) (suc i) l d =
    let p = and_parts (not (is_in v vs)) (all_different vs) d in
    or_from (nat_eq (get_or vs i 0) v) (is_in (get_or vs i 0) (take i vs))
    (ne-number (get_or vs i 0) v (λ e. false≢true (sym (not-true (is_in v vs) p.0) ∙ ap (λ z. is_in z vs) (sym e) ∙ is-among vs i (omega arith))))
    (not-earlier vs i (omega arith) p.1)

pub take-values : (vs : List ℕ) (i x : ℕ) → i < length vs → x ≡ get_or vs i 0 → take i vs ++ x ∷ [] ≡ take (i + 1) vs
take-values vs i x l e = sym (take-step vs i x l e)
