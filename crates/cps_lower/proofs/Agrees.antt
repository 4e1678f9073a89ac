-- How many words each exception has.
use Rattle.std.proofs.Common.{◌≡◌, ℕ, ◌==◌, Bool, true, false, List, [], ◌∷◌, ◌++◌, if◌then◌else◌, refl, sym, ap, ◌∙◌}
use Rattle.std.specs.List.{list_all}
use Rattle.std.proofs.lemmas.Bool.{eq-eqb, eqb-true, and_parts, and_from, false≢true}
use Rattle.flat_ir.specs.Formed as flat
use Rattle.cps_ir.specs.Formed as cps

-- all that is raised or handled has as many words as its exception
abbrev pub Agrees : (ℕ → ℕ) → List (ℕ × ℕ) → Type 0
Agrees w [] = Unit {0}
Agrees w (r ∷ rs) = (r.1 ≡ w r.0) × Agrees w rs

pub agrees_append : (w : ℕ → ℕ) (a b : List (ℕ × ℕ)) → Agrees w a → Agrees w b → Agrees w (a ++ b)
agrees_append w [] b p q = q
agrees_append w (r ∷ a) b p q = (p.0, agrees_append w a b p.1 q)

pub agrees_left : (w : ℕ → ℕ) (a b : List (ℕ × ℕ)) → Agrees w (a ++ b) → Agrees w a
agrees_left w [] b p = tt
agrees_left w (r ∷ a) b p = (p.0, agrees_left w a b p.1)

pub agrees_right : (w : ℕ → ℕ) (a b : List (ℕ × ℕ)) → Agrees w (a ++ b) → Agrees w b
agrees_right w [] b p = p
agrees_right w (r ∷ a) b p = agrees_right w a b p.1

-- the words of the first that is raised or handled under a number
abbrev pub words_in : List (ℕ × ℕ) → ℕ → ℕ
words_in [] e = 0
words_in (r ∷ rs) e = if r.0 == e then r.1 else words_in rs e

behind_at : (b c : Bool) (j k n m : ℕ) → (j == k) ≡ b → (k == j) ≡ c → (if b then m == n else true) ≡ true → (v : ℕ) → m ≡ v → m ≡ (if c then n else v)
behind_at true true j k n m e f h v is = eqb-true m n h
behind_at false false j k n m e f h v is = is
behind_at true false j k n m e f h v is = absurd (false≢true (sym f ∙ eq-eqb k j (sym (eqb-true j k e))))
behind_at false true j k n m e f h v is = absurd (false≢true (sym e ∙ eq-eqb j k (sym (eqb-true k j f))))

agrees_behind : (w : ℕ → ℕ) (k n : ℕ) (rs : List (ℕ × ℕ)) → list_all (λ r. if r.0 == k then r.1 == n else true) rs ≡ true → Agrees w rs → Agrees (λ e. if k == e then n else w e) rs
agrees_behind w k n [] h p = tt
agrees_behind w k n (r ∷ rs) h p =
    let parts = and_parts (if r.0 == k then r.1 == n else true) (list_all (λ r. if r.0 == k then r.1 == n else true) rs) h in
    (behind_at (r.0 == k) (k == r.0) r.0 k n r.1 refl refl parts.0 (w r.0) p.0, agrees_behind w k n rs parts.1 p.1)

-- where all agree, each has the words of the first
pub agrees_all : (rs : List (ℕ × ℕ)) → flat.agree rs ≡ true → Agrees (words_in rs) rs
agrees_all [] h = tt
agrees_all ((k, n) ∷ rs) h =
    let parts = and_parts (list_all (λ r. if r.0 == k then r.1 == n else true) rs) (flat.agree rs) h in
    (sym (ap (λ b. if b then n else words_in rs k) (eq-eqb k k refl)), agrees_behind (words_in rs) k n rs parts.0 (agrees_all rs parts.1))

agree_at : (b : Bool) (w : ℕ → ℕ) (r s : ℕ × ℕ) → (s.0 == r.0) ≡ b → r.1 ≡ w r.0 → s.1 ≡ w s.0 → (if b then s.1 == r.1 else true) ≡ true
agree_at true w r s e p q = eq-eqb s.1 r.1 (q ∙ ap w (eqb-true s.0 r.0 e) ∙ sym p)
agree_at false w r s e p q = refl

agree_with : (w : ℕ → ℕ) (r : ℕ × ℕ) (rs : List (ℕ × ℕ)) → r.1 ≡ w r.0 → Agrees w rs → list_all (λ s. if s.0 == r.0 then s.1 == r.1 else true) rs ≡ true
agree_with w r [] p q = refl
agree_with w r (s ∷ rs) p q = and_from (if s.0 == r.0 then s.1 == r.1 else true) (list_all (λ s. if s.0 == r.0 then s.1 == r.1 else true) rs) (agree_at (s.0 == r.0) w r s refl p q.0) (agree_with w r rs p q.1)

pub agree_from : (w : ℕ → ℕ) (rs : List (ℕ × ℕ)) → Agrees w rs → cps.agree rs ≡ true
agree_from w [] p = refl
agree_from w (r ∷ rs) p = and_from (list_all (λ s. if s.0 == r.0 then s.1 == r.1 else true) rs) (cps.agree rs) (agree_with w r rs p.0 p.1) (agree_from w rs p.1)
