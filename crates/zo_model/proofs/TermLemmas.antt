-- the terms of a row's line
use Rattle.std.proofs.Common.{◌≡◌, ◌≢◌, ℕ, suc, ◌+◌, ◌^◌, ◌<◌, ◌≤◌, List, [], ◌∷◌, ◌++◌, map, refl, sym, ap, ◌∙◌, subst, arith, append_assoc, ℤ, pos, neg_ℤ, ◌≤ℤ◌, codes, decimal, lit≤, add-one}
use Rattle.std.specs.List.{All}
use Rattle.std.specs.Char.{digit_value}
use Rattle.std.specs.Fmt.{signed_decimal}
use Rattle.std.specs.Int.Signed.{mag}
use Rattle.std.proofs.lemmas.Int.{ints}
use Rattle.std.proofs.lemmas.List.{append-nil, map-append}
use Rattle.std.proofs.lemmas.List.Elements.{All-push, All-nil, All-head, All-tail}
use Rattle.nv_lines.specs.Line.{Lacks, AllLack, parts, parted}
use Rattle.nv_lines.proofs.SplitLaws.{split_one, parts-parted, parted-parts, Lacks-append, Lacks-test}
use Rattle.nv_lines.proofs.NumberLaws.{Lacks-decimal, Lacks-signed}
use Rattle.nv_lines.proofs.NumberLemmas.{decimal_one, signed_one, mag_small}
use Rattle.zo_model.specs.Contents.{RowContents}
use Rattle.zo_model.specs.Program.{Rise, IsCoefficient, AtMost}
use Rattle.zo_model.specs.ProgramText.{term_text, row_line, IsRowText}
use Rattle.zo_model.specs.inner.LineFault.{IsRowLine}
use Rattle.zo_model.specs.inner.TermParts.{IsTerm, SpellTerms}

pub coefficient_small : (a : ℤ) → IsCoefficient a → mag a < 2 ^ 63
coefficient_small a h = mag_small a (omega (arith, ints, h.low)) (omega (arith, ints, h.high))

-- a term's text is parted at its colon
pub term_parts : (lo n : ℕ) (part front back : List ℕ) (t : ℕ × ℤ) → n ≤ 2 ^ 26 → Lacks 58 front → part ≡ front ++ 58 ∷ back → IsTerm lo n part t → (front ≡ decimal t.0) × (back ≡ signed_decimal t.1)
term_parts lo n part front back t few lack e h =
    split_one 58 front back (decimal t.0) (signed_decimal t.1) lack (Lacks-decimal 58 t.0 (lit≤ tt) (omega (arith, h.high))) (sym e ∙ h.spelled)

-- without a colon there is no term
pub no_colon : (lo n : ℕ) (part : List ℕ) → Lacks 58 part → (t : ℕ × ℤ) → IsTerm lo n part t → ⊥
no_colon lo n part lack t h = lacks (decimal t.0) (signed_decimal t.1) (subst (Lacks 58) h.spelled lack)
  where
    lacks : (xs ys : List ℕ) → Lacks 58 (xs ++ 58 ∷ ys) → ⊥
    lacks [] ys k = k.0 refl
    lacks (x ∷ xs) ys k = lacks xs ys k.1

-- the numbers of a term are those that were read
pub term_is : (lo n : ℕ) (part front back : List ℕ) (t : ℕ × ℤ) (j : ℕ) (a : ℤ) → n ≤ 2 ^ 26 → Lacks 58 front → part ≡ front ++ 58 ∷ back → j ≤ 2 ^ 26 → front ≡ decimal j → mag a < 2 ^ 63 → back ≡ signed_decimal a → IsTerm lo n part t → (t.0 ≡ j) × (t.1 ≡ a)
term_is lo n part front back t j a few lack e small fj fits ba h =
    let p = term_parts lo n part front back t few lack e h in
    (decimal_one t.0 j (omega (arith, h.high)) (omega arith) (sym p.0 ∙ fj), signed_one t.1 a (coefficient_small t.1 h.coefficient_fits) fits (sym p.1 ∙ ba))

pub term_made : (lo n : ℕ) (part front back : List ℕ) (j : ℕ) (a : ℤ) → part ≡ front ++ 58 ∷ back → front ≡ decimal j → back ≡ signed_decimal a → lo ≤ j → j < n → neg_ℤ (pos 32768) ≤ℤ a → a ≤ℤ pos 32767 → a ≢ pos 0 → IsTerm lo n part (j, a)
term_made lo n part front back j a e fj ba low high from to some =
    record { low = low; high = high; coefficient_fits = record { low = from; high = to; not_zero = some }; spelled = e ∙ (ap (λ f. f ++ 58 ∷ back) fj ∙ ap (λ b. decimal j ++ 58 ∷ b) ba) }

-- what was read of some parts: these terms, and more may follow from the column lo on
pub record ReadsTerms (n : ℕ) (all rest : List (List ℕ)) (done : List (ℕ × ℤ)) (lo : ℕ) : Type 0 where
  pub spelled : all ≡ map term_text done ++ rest
  pub fit : All (λ t. IsCoefficient t.1) done
  pub forth : (ts : List (ℕ × ℤ)) → Rise lo n ts → Rise 0 n (done ++ ts)
  pub back : (ts : List (ℕ × ℤ)) → Rise 0 n (done ++ ts) → Rise lo n ts

pub reads_none : (n : ℕ) (all : List (List ℕ)) → ReadsTerms n all all [] 0
reads_none n all = record { spelled = refl; fit = All-nil (λ t. IsCoefficient t.1); forth = λ ts h. h; back = λ ts h. h }

pub reads_more : (n : ℕ) (all rest rest' : List (List ℕ)) (part : List ℕ) (done : List (ℕ × ℤ)) (lo : ℕ) (t : ℕ × ℤ) → ReadsTerms n all rest done lo → rest ≡ part ∷ rest' → IsTerm lo n part t → ReadsTerms n all rest' (done ++ t ∷ []) (t.0 + 1)
reads_more n all rest rest' part done lo t r e h =
    record {
      spelled = r.spelled ∙ (ap (λ x. map term_text done ++ x) (e ∙ ap (λ x. x ∷ rest') h.spelled) ∙ (sym (append_assoc (map term_text done) (term_text t ∷ []) rest') ∙ ap (λ x. x ++ rest') (sym (map-append term_text done (t ∷ [])))));
      fit = All-push (λ t. IsCoefficient t.1) done t r.fit h.coefficient_fits;
      forth = λ ts k. subst (Rise 0 n) (sym (append_assoc done (t ∷ []) ts)) (r.forth (t ∷ ts) (h.low, h.high, rw (← add-one) k));
      back = λ ts k. let w : Rise lo n (t ∷ ts) = r.back (t ∷ ts) (subst (Rise 0 n) (append_assoc done (t ∷ []) ts) k) in rw add-one w.2;
    }

-- one list of terms has these texts
term_one : (s t : ℕ × ℤ) → s.0 < 2 ^ 64 → t.0 < 2 ^ 64 → mag s.1 < 2 ^ 63 → mag t.1 < 2 ^ 63 → term_text s ≡ term_text t → s ≡ t
term_one s t a b c d e =
    let p = split_one 58 (decimal s.0) (signed_decimal s.1) (decimal t.0) (signed_decimal t.1) (Lacks-decimal 58 s.0 (lit≤ tt) a) (Lacks-decimal 58 t.0 (lit≤ tt) b) e in
    λ j. (decimal_one s.0 t.0 a b p.0 j, signed_one s.1 t.1 c d p.1 j)

-- what is true of lists in front and behind is true of the element between
pub all_between : {X : Type 0} (P : X → Type 0) (xs ys : List X) (x : X) → All P (xs ++ x ∷ ys) → P x
all_between P [] ys x h = All-head P x ys h
all_between P (y ∷ xs) ys x h = all_between P xs ys x (All-tail P y (xs ++ x ∷ ys) h)

-- terms whose texts begin with those of others begin with them
pub terms_front : (n lo lo' : ℕ) (done ts : List (ℕ × ℤ)) (rest : List (List ℕ)) → n ≤ 2 ^ 26 → Rise lo n done → All (λ t. IsCoefficient t.1) done → Rise lo' n ts → All (λ t. IsCoefficient t.1) ts → map term_text ts ≡ map term_text done ++ rest → (more : List (ℕ × ℤ)) × (ts ≡ done ++ more) × (rest ≡ map term_text more)
terms_front n lo lo' [] ts rest few rd cd rt ct e = (ts, refl, sym e)
terms_front n lo lo' (d ∷ done) [] rest few rd cd rt ct e = cc
terms_front n lo lo' (d ∷ done) (t ∷ ts) rest few rd cd rt ct e =
    let heads : term_text t ≡ term_text d = cc (e) in
    let tails : map term_text ts ≡ map term_text done ++ rest = cc (e) in
    let same = term_one t d (omega (arith, rt.1)) (omega (arith, rd.1)) (coefficient_small t.1 (All-head (λ t. IsCoefficient t.1) t ts ct)) (coefficient_small d.1 (All-head (λ t. IsCoefficient t.1) d done cd)) heads in
    let r = terms_front n (suc d.0) (suc t.0) done ts rest few rd.2 (All-tail (λ t. IsCoefficient t.1) d done cd) rt.2 (All-tail (λ t. IsCoefficient t.1) t ts ct) tails in
    (r.0, ap (λ x. x ∷ ts) same ∙ ap (λ x. d ∷ x) r.1, r.2)

-- a part that is no term spells none
pub no_more_term : (n : ℕ) (all rest rest' : List (List ℕ)) (part : List ℕ) (done : List (ℕ × ℤ)) (lo : ℕ) → n ≤ 2 ^ 26 → ReadsTerms n all rest done lo → rest ≡ part ∷ rest' → ((t : ℕ × ℤ) → IsTerm lo n part t → ⊥) → (ts : List (ℕ × ℤ)) → SpellTerms n all ts → ⊥
no_more_term n all rest rest' part done lo few r e none ts h =
    let rise_done : Rise 0 n done = subst (Rise 0 n) (append-nil done) (r.forth [] tt) in
    let f = terms_front n 0 0 done ts (part ∷ rest') few rise_done r.fit h.terms.rise h.terms.coefficients_fit (sym h.spelled ∙ (r.spelled ∙ ap (λ x. map term_text done ++ x) e)) in
    next f.0 f.1 f.2
  where
    next : (more : List (ℕ × ℤ)) → ts ≡ done ++ more → part ∷ rest' ≡ map term_text more → ⊥
    next [] same texts = cc
    next (t ∷ more) same texts =
        let rise : Rise lo n (t ∷ more) = r.back (t ∷ more) (subst (Rise 0 n) same h.terms.rise) in
        none t (record { low = rise.0; high = rise.1; coefficient_fits = all_between (λ t. IsCoefficient t.1) done more t (subst (All (λ t. IsCoefficient t.1)) same h.terms.coefficients_fit); spelled = cc })

pub all_terms : (n : ℕ) (all rest : List (List ℕ)) (done : List (ℕ × ℤ)) (lo : ℕ) → n ≤ 2 ^ 26 → ReadsTerms n all rest done lo → rest ≡ [] → SpellTerms n all done
all_terms n all rest done lo few r e =
    record {
      terms = record { few = few; rise = subst (Rise 0 n) (append-nil done) (r.forth [] tt); coefficients_fit = r.fit };
      spelled = r.spelled ∙ (ap (λ x. map term_text done ++ x) e ∙ append-nil (map term_text done));
    }

term_lacks : (c n : ℕ) (t : ℕ × ℤ) → 10 ≤ digit_value c → c ≢ 45 → c ≢ 58 → n ≤ 2 ^ 26 → t.0 < n → IsCoefficient t.1 → Lacks c (term_text t)
term_lacks c n t digit minus colon few small h =
    Lacks-append c (decimal t.0) (58 ∷ signed_decimal t.1) (Lacks-decimal c t.0 digit (omega arith)) (λ e. colon (sym e), Lacks-signed c t.1 digit minus (coefficient_small t.1 h))

pub terms_lack : (c n lo : ℕ) (ts : List (ℕ × ℤ)) → 10 ≤ digit_value c → c ≢ 45 → c ≢ 58 → n ≤ 2 ^ 26 → Rise lo n ts → All (λ t. IsCoefficient t.1) ts → AllLack c (map term_text ts)
terms_lack c n lo [] digit minus colon few r h = tt
terms_lack c n lo (t ∷ ts) digit minus colon few r h =
    (term_lacks c n t digit minus colon few r.1 (All-head (λ t. IsCoefficient t.1) t ts h), terms_lack c n (suc t.0) ts digit minus colon few r.2 (All-tail (λ t. IsCoefficient t.1) t ts h))

pub least_small : (a : ℤ) → AtMost (2 ^ 30) a → mag a < 2 ^ 63
least_small a h = mag_small a (omega (arith, ints, h.low)) (omega (arith, ints, h.high))

pub row_parts : (n : ℕ) (line : List ℕ) (r : RowContents) → IsRowText n r → line ≡ row_line r → parts line ≡ codes "r" ∷ signed_decimal r.least ∷ map term_text r.terms
row_parts n line r h e =
    ap parts e ∙ parts-parted (codes "r") (signed_decimal r.least ∷ map term_text r.terms)
    (Lacks-test 32 (codes "r") refl, (Lacks-signed 32 r.least (lit≤ tt) (λ f. omega (arith, f)) (least_small r.least h.least_fits), terms_lack 32 n 0 r.terms (lit≤ tt) (λ f. omega (arith, f)) (λ f. omega (arith, f)) h.terms_fit.few h.terms_fit.rise h.terms_fit.coefficients_fit))

-- no least after the name
pub no_least : (n : ℕ) (line : List ℕ) (new : List (List ℕ)) → parts line ≡ codes "r" ∷ new → ((z : ℤ) (ps : List (List ℕ)) → neg_ℤ (pos 1073741824) ≤ℤ z → z ≤ℤ pos 1073741824 → new ≡ signed_decimal z ∷ ps → ⊥) → IsRowLine n line → ⊥
no_least n line new e none k =
    let p = row_parts n line k.row k.fits k.spelled in
    none k.row.least (map term_text k.row.terms) k.fits.least_fits.low k.fits.least_fits.high (cc (e, p))

-- no terms after the least
pub no_terms : (n : ℕ) (line : List ℕ) (new new' : List (List ℕ)) (z : ℤ) → parts line ≡ codes "r" ∷ new → new ≡ signed_decimal z ∷ new' → ((ts : List (ℕ × ℤ)) → SpellTerms n new' ts → ⊥) → IsRowLine n line → ⊥
no_terms n line new new' z e e' none k =
    let p = row_parts n line k.row k.fits k.spelled in
    none k.row.terms (record { terms = k.fits.terms_fit; spelled = cc (e, e', p) })

pub row_made : (n : ℕ) (line : List ℕ) (new new' : List (List ℕ)) (z : ℤ) (ts : List (ℕ × ℤ)) → parts line ≡ codes "r" ∷ new → neg_ℤ (pos 1073741824) ≤ℤ z → z ≤ℤ pos 1073741824 → new ≡ signed_decimal z ∷ new' → SpellTerms n new' ts → IsRowText n (record { terms = ts; least = z }) × (line ≡ row_line (record { terms = ts; least = z }))
row_made n line new new' z ts e low high e' h =
    let all : parts line ≡ codes "r" ∷ signed_decimal z ∷ map term_text ts = cc (e, e', h.spelled) in
    (record { terms_fit = h.terms; least_fits = record { low = low; high = high } }, sym (parted-parts line) ∙ ap parted all)

-- a row has one line
pub row_one : (n : ℕ) (r s : RowContents) → IsRowText n r → IsRowText n s → row_line r ≡ row_line s → r ≡ s
row_one n r s h k e =
    let p = row_parts n (row_line r) r h refl in
    let q = row_parts n (row_line r) s k e in
    let leasts : signed_decimal r.least ≡ signed_decimal s.least = cc (p, q) in
    let texts : map term_text r.terms ≡ map term_text s.terms = cc (p, q) in
    let f = terms_front n 0 0 s.terms r.terms [] h.terms_fit.few k.terms_fit.rise k.terms_fit.coefficients_fit h.terms_fit.rise h.terms_fit.coefficients_fit (texts ∙ sym (append-nil (map term_text s.terms))) in
    let least = signed_one r.least s.least (least_small r.least h.least_fits) (least_small s.least k.least_fits) leasts in
    let terms = same_terms f.0 s.terms f.1 f.2 in
    λ j. record { terms = terms j; least = least j }
  where
    same_terms : (more ts : List (ℕ × ℤ)) → r.terms ≡ ts ++ more → [] ≡ map term_text more → r.terms ≡ ts
    same_terms [] ts same none = same ∙ append-nil ts
    same_terms (t ∷ more) ts same none = cc
