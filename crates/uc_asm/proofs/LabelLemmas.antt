-- Look-ups among declarations.
use Rattle.std.proofs.Common.{◌≡◌, ◌≢◌, Bool, true, false, cond, ◌⊎◌, inl, inr, List, [], ◌∷◌, ◌++◌, Option, None, Some, ℕ, nat_eq, refl, sym, ap, ◌∙◌, if◌then◌else◌, Bor}
use Rattle.std.specs.Option.{is_some, option_copied}
use Rattle.std.specs.Map.{lookup}
use Rattle.std.specs.Cmp.Lexicographic.{pointwise}
use Rattle.std.proofs.lemmas.Bool.{false≢true}
use Rattle.std.proofs.lemmas.Cmp.{nat_list_eq_equiv}
use Rattle.std.specs.Cmp.Lexicographic.{bytes_decides}
use Rattle.uc_asm.specs.inner.First.{or_else}

pub or_else-none : {A : Type 0} (a : Option A) → or_else a None ≡ a
or_else-none None = refl
or_else-none (Some x) = refl

pub or_else-assoc : {A : Type 0} (a b c : Option A) → or_else (or_else a b) c ≡ or_else a (or_else b c)
or_else-assoc None b c = refl
or_else-assoc (Some x) b c = refl

-- one entry more, after the others
pub lookup-more : {K X : Type 0} (test : K → Bool) (es : List (K × X)) (k : K) (x : X) → lookup test (es ++ (k, x) ∷ []) ≡ or_else (lookup test es) (if test k then Some x else None)
lookup-more test [] k x = by (test k)
  where
    by : (b : Bool) → cond b (Some x) None ≡ (if b then Some x else None)
    by true = refl
    by false = refl
lookup-more test (e ∷ es) k x = by (test e.0) (lookup-more test es k x)
  where
    by : (b : Bool) → lookup test (es ++ (k, x) ∷ []) ≡ or_else (lookup test es) (if test k then Some x else None)
        → cond b (Some e.1) (lookup test (es ++ (k, x) ∷ [])) ≡ or_else (cond b (Some e.1) (lookup test es)) (if test k then Some x else None)
    by true h = refl
    by false h = h

-- what is found already stays
pub found-stays : {X : Type 0} (found : Option X) (same : Bool) (x : X) → (same ≡ true → found ≢ None) → found ≡ or_else found (if same then Some x else None)
found-stays (Some y) same x h = refl
found-stays None true x h = absurd (h refl refl)
found-stays None false x h = refl

-- two tests that agree find the same
pub lookup-same : {K X : Type 0} (t u : K → Bool) → ((k : K) → t k ≡ u k) → (es : List (K × X)) → lookup t es ≡ lookup u es
lookup-same t u h [] = refl
lookup-same t u h (e ∷ es) = ap (λ b. cond b (Some e.1) (lookup t es)) (h e.0) ∙ ap (λ r. cond (u e.0) (Some e.1) r) (lookup-same t u h es)

-- a name that is there already declares nothing
pub there-stays : {K X : Type 0} (f : K → List ℕ) (es : List (K × X)) (name other : List ℕ) (x : X) → lookup (λ k. pointwise nat_eq name (f k)) es ≢ None
    → lookup (λ k. pointwise nat_eq other (f k)) es ≡ or_else (lookup (λ k. pointwise nat_eq other (f k)) es) (if pointwise nat_eq other name then Some x else None)
there-stays f es name other x h =
    found-stays (lookup (λ k. pointwise nat_eq other (f k)) es) (pointwise nat_eq other name) x
    (λ e n. h (sym (lookup-same (λ k. pointwise nat_eq other (f k)) (λ k. pointwise nat_eq name (f k)) (λ k. nat_list_eq_equiv.congr other name (f k) e) es) ∙ n))

-- a test of bytes tells whether they are the same
pub bytes-tell : (a b : List ℕ) → ((pointwise nat_eq a b ≡ true) × (a ≡ b)) ⊎ ((pointwise nat_eq a b ≡ false) × (a ≢ b))
bytes-tell a b = by (pointwise nat_eq a b) refl
  where
    by : (t : Bool) → pointwise nat_eq a b ≡ t → ((pointwise nat_eq a b ≡ true) × (a ≡ b)) ⊎ ((pointwise nat_eq a b ≡ false) × (a ≢ b))
    by true e = inl (e, (bytes_decides a b).0 e)
    by false e = inr (e, λ same. false≢true (sym e ∙ (bytes_decides a b).1 same))

pub copied-none : {X : Type 0} (r : Option (Bor X)) → is_some r ≡ false → option_copied r ≡ None
copied-none None h = refl
copied-none (Some x) h = absurd (false≢true (sym h))

pub copied-there : {X : Type 0} (r : Option (Bor X)) → is_some r ≡ true → option_copied r ≢ None
copied-there None h e = false≢true h
copied-there (Some x) h e = cc
