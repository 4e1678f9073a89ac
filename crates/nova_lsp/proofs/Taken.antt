-- What reads took from the input.
use Rattle.std.proofs.Common.{◌≡◌, ℕ, zero, suc, ◌+◌, ◌-◌, ◌<◌, ◌≤◌, List, [], ◌∷◌, ◌++◌, Option, Some, None, length, take, get_or, refl, sym, ap, ◌∙◌, subst, arith, length-append, length-take}
use Rattle.std.specs.Io.KnownBytes.{Consumes, Keeps}

-- nothing was taken
pub no_byte : (a b c : Option (List ℕ)) (xs : List ℕ) → xs ≡ [] → Keeps a b → Consumes b c xs → Keeps a c
no_byte None b c xs e k h = tt
no_byte (Some x) None c xs e k h = absurd k
no_byte (Some x) (Some y) None xs e k h = absurd h
no_byte (Some x) (Some y) (Some z) xs e k h = sym (ap (λ l. l ++ z) e) ∙ sym h ∙ k

kept_then : (a b c : Option (List ℕ)) (xs : List ℕ) → Keeps a b → Consumes b c xs → Consumes a c xs
kept_then None b c xs k h = tt
kept_then (Some x) None c xs k h = absurd k
kept_then (Some x) (Some y) None xs k h = absurd h
kept_then (Some x) (Some y) (Some z) xs k h = sym k ∙ h

first : (buffer : List ℕ) (n : ℕ) → length buffer ≡ 1 → 0 < n → n ≤ length buffer → take n buffer ≡ get_or buffer 0 0 ∷ []
first [] n e some fits = absurd (omega arith)
first (b ∷ bs) zero e some fits = absurd (omega arith)
first (b ∷ []) (suc zero) e some fits = refl
first (b ∷ []) (suc (suc n)) e some fits = absurd (omega arith)
first (b ∷ c ∷ bs) (suc n) e some fits = absurd (omega arith)

-- one byte was taken
pub one_byte : (a b c : Option (List ℕ)) (buffer : List ℕ) (n : ℕ) → Keeps a b → Consumes b c (take n buffer) → length buffer ≡ 1 → 0 < n → n ≤ length buffer → Consumes a c (get_or buffer 0 0 ∷ [])
one_byte a b c buffer n k h e some fits = subst (Consumes a c) (first buffer n e some fits) (kept_then a b c (take n buffer) k h)

-- nothing more was taken
pub no_more : (a b c : Option (List ℕ)) (front xs : List ℕ) → Consumes a b front → xs ≡ [] → Consumes b c xs → Consumes a c front
no_more None b c front xs h e k = tt
no_more (Some x) None c front xs h e k = absurd h
no_more (Some x) (Some y) None front xs h e k = absurd k
no_more (Some x) (Some y) (Some z) front xs h e k = h ∙ ap (λ l. front ++ l) (k ∙ ap (λ l. l ++ z) e)

-- nothing was taken behind a front
pub still : (a b c : Option (List ℕ)) (front : List ℕ) → Consumes a b front → Keeps b c → Consumes a c front
still None b c front h k = tt
still (Some x) None c front h k = absurd h
still (Some x) (Some y) None front h k = absurd k
still (Some x) (Some y) (Some z) front h k = h ∙ ap (λ l. front ++ l) (sym k)

-- what was taken and what is left are as many as before
pub counted : (front buffer : List ℕ) (n left next count : ℕ) → length front + left ≡ count → n ≤ length buffer → n ≤ left → next ≡ left - n → length (front ++ take n buffer) + next ≡ count
counted front buffer n left next count before within most is = omega (arith, length-append front (take n buffer), length-take n buffer, before, within, most, is)
