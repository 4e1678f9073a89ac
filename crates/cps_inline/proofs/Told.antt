-- How many words each exception has, throughout a program.
use Rattle.std.proofs.Common.{◌≡◌, ℕ, ◌==◌, Bool, true, false, List, [], ◌∷◌, ◌++◌, if◌then◌else◌, refl, sym, ap, ◌∙◌}
use Rattle.std.specs.List.{list_all}
use Rattle.std.proofs.lemmas.Bool.{eq-eqb, eqb-true, and_parts, false≢true}
use Rattle.cps_ir.specs.Formed.{agree}

-- all that is thrown or handled has as many words as its exception
abbrev pub Told : (ℕ → ℕ) → List (ℕ × ℕ) → Type 0
Told w [] = Unit {0}
Told w (r ∷ rs) = (r.1 ≡ w r.0) × Told w rs

pub told-left : (w : ℕ → ℕ) (a b : List (ℕ × ℕ)) → Told w (a ++ b) → Told w a
told-left w [] b p = tt
told-left w (r ∷ a) b p = (p.0, told-left w a b p.1)

pub told-right : (w : ℕ → ℕ) (a b : List (ℕ × ℕ)) → Told w (a ++ b) → Told w b
told-right w [] b p = p
told-right w (r ∷ a) b p = told-right w a b p.1

-- the words of the first that is thrown or handled under a number
abbrev pub words_in : List (ℕ × ℕ) → ℕ → ℕ
words_in [] e = 0
words_in (r ∷ rs) e = if r.0 == e then r.1 else words_in rs e

behind-at : (b c : Bool) (j k n m : ℕ) → j == k ≡ b → k == j ≡ c → (if b then m == n else true) ≡ true → (v : ℕ) → m ≡ v → m ≡ (if c then n else v)
behind-at true true j k n m e f h v is = eqb-true m n h
behind-at false false j k n m e f h v is = is
behind-at true false j k n m e f h v is = absurd (false≢true (sym f ∙ eq-eqb k j (sym (eqb-true j k e))))
behind-at false true j k n m e f h v is = absurd (false≢true (sym e ∙ eq-eqb j k (sym (eqb-true k j f))))

told-behind : (w : ℕ → ℕ) (k n : ℕ) (rs : List (ℕ × ℕ)) → list_all (λ r. if r.0 == k then r.1 == n else true) rs ≡ true → Told w rs → Told (λ e. if k == e then n else w e) rs
told-behind w k n [] h p = tt
told-behind w k n (r ∷ rs) h p =
    let parts = and_parts (if r.0 == k then r.1 == n else true) (list_all (λ r. if r.0 == k then r.1 == n else true) rs) h in
    (behind-at (r.0 == k) (k == r.0) r.0 k n r.1 refl refl parts.0 (w r.0) p.0, told-behind w k n rs parts.1 p.1)

pub told-all : (rs : List (ℕ × ℕ)) → agree rs ≡ true → Told (words_in rs) rs
told-all [] h = tt
told-all ((k, n) ∷ rs) h =
    let parts = and_parts (list_all (λ r. if r.0 == k then r.1 == n else true) rs) (agree rs) h in
    (sym (ap (λ b. if b then n else words_in rs k) (eq-eqb k k refl)), told-behind (words_in rs) k n rs parts.0 (told-all rs parts.1))
