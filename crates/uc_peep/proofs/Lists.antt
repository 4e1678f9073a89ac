-- Elements of lists.
use Rattle.std.proofs.Common.{◌≡◌, ◌≢◌, ℕ, zero, suc, ◌+◌, ◌<◌, ◌≤◌, List, [], ◌∷◌, ◌++◌, length, set, take, drop, Some, None, refl, ap, ◌∙◌, arith}
use Rattle.std.specs.Prelude.{slice_get}
use Rattle.uc_peep.specs.Window.{filler, fillers}

pub same-lists : {A : Type 0} (a b : List A) → length a ≡ length b → ((x : ℕ) → slice_get a x ≡ slice_get b x) → a ≡ b
same-lists [] [] e h = refl
same-lists [] (y ∷ b) e h = absurd (omega arith)
same-lists (x ∷ a) [] e h = absurd (omega arith)
same-lists (x ∷ a) (y ∷ b) e h =
    let first : Some x ≡ Some y = h 0 in
    let head : x ≡ y = cc in
    let rest : a ≡ b = same-lists a b (omega arith) (λ k. h (suc k)) in
    ap (λ l. x ∷ l) rest ∙ ap (λ z. z ∷ b) head

pub get-set-same : {A : Type 0} (l : List A) (x : ℕ) (v : A) → x < length l → slice_get (set l x v) x ≡ Some v
get-set-same [] x v h = absurd (omega arith)
get-set-same (a ∷ l) zero v h = refl
get-set-same (a ∷ l) (suc x) v h = get-set-same l x v (omega arith)

pub get-set-other : {A : Type 0} (l : List A) (x y : ℕ) (v : A) → y ≢ x → slice_get (set l x v) y ≡ slice_get l y
get-set-other [] x y v h = refl
get-set-other (a ∷ l) zero zero v h = absurd (h refl)
get-set-other (a ∷ l) zero (suc y) v h = refl
get-set-other (a ∷ l) (suc x) zero v h = refl
get-set-other (a ∷ l) (suc x) (suc y) v h = get-set-other l x y v (λ e. h (ap suc e))

pub get-left : {A : Type 0} (a b : List A) (x : ℕ) → x < length a → slice_get (a ++ b) x ≡ slice_get a x
get-left [] b x h = absurd (omega arith)
get-left (v ∷ a) b zero h = refl
get-left (v ∷ a) b (suc x) h = get-left a b x (omega arith)

pub get-right : {A : Type 0} (a b : List A) (x : ℕ) → slice_get (a ++ b) (length a + x) ≡ slice_get b x
get-right [] b x = let e : 0 + x ≡ x = omega arith in ap (slice_get b) e
get-right (v ∷ a) b x = let e : suc (length a) + x ≡ suc (length a + x) = omega arith in ap (slice_get (v ∷ a ++ b)) e ∙ get-right a b x

pub get-take : {A : Type 0} (a : List A) (n x : ℕ) → x < n → slice_get (take n a) x ≡ slice_get a x
get-take [] zero x h = refl
get-take [] (suc n) x h = refl
get-take (v ∷ a) zero x h = absurd (omega arith)
get-take (v ∷ a) (suc n) zero h = refl
get-take (v ∷ a) (suc n) (suc x) h = get-take a n x (omega arith)

pub get-drop : {A : Type 0} (a : List A) (n x : ℕ) → slice_get (drop n a) x ≡ slice_get a (n + x)
get-drop [] zero x = refl
get-drop (v ∷ a) zero x = let e : x ≡ 0 + x = omega arith in ap (slice_get (v ∷ a)) e
get-drop [] (suc n) x = refl
get-drop (v ∷ a) (suc n) x = let e : suc (n + x) ≡ suc n + x = omega arith in get-drop a n x ∙ ap (slice_get (v ∷ a)) e

pub get-past : {A : Type 0} (a : List A) (x : ℕ) → length a ≤ x → slice_get a x ≡ None
get-past [] x h = refl
get-past (v ∷ a) zero h = absurd (omega arith)
get-past (v ∷ a) (suc x) h = get-past a x (omega arith)

pub get-fillers : (x n d : ℕ) → d < n → slice_get (fillers x n) d ≡ Some (filler (x + d))
get-fillers x zero d h = absurd (omega arith)
get-fillers x (suc n) zero h = let e : x ≡ x + 0 = omega arith in ap (λ y. Some (filler y)) e
get-fillers x (suc n) (suc d) h = let e : suc x + d ≡ x + suc d = omega arith in get-fillers (suc x) n d (omega arith) ∙ ap (λ y. Some (filler y)) e

pub length-fillers : (x n : ℕ) → length (fillers x n) ≡ n
length-fillers x zero = refl
length-fillers x (suc n) = ap suc (length-fillers (suc x) n)
