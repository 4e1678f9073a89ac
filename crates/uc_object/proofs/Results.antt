-- What decoding answers, by what it found.
use Rattle.std.proofs.Common.{◌≡◌, ℕ, ◌⊎◌, inl, inr, List, refl, ap, subst, Result, Ok, Err, IfOk}
use Rattle.uc_object.specs.Object.{IsObject, IsSomeObject, IsBadPlace}
use Rattle.uc_object.specs.declared.object.Object.{Object}
use Rattle.uc_object.specs.declared.error.ObjectError.{ObjectError}
use Rattle.uc_object.specs.declared.error.ObjectError.TheVariants.{NoMemory, Bad}
use Rattle.uc_object.proofs.Layers.{bad-some}
use Rattle.uc_object.proofs.Leaving.{place-one, good-one}
use Rattle.uc_object.proofs.Spelling.{object-one}

-- an object only of its bytes, and a place only where the bytes go wrong
pub record IsSound (bytes : List ℕ) (answer : Result Object ObjectError) : Type 0 where
  pub object : (c : Object) → answer ≡ Ok c → IsObject bytes c
  pub bad : (at : ℕ) → answer ≡ Err (Bad at) → IsBadPlace bytes at

pub decoded : (bytes : List ℕ) (answer : Result Object ObjectError) → IsSound bytes answer → (c : Object) → IsObject bytes c
    → (answer ≡ Ok c) ⊎ (answer ≡ Err NoMemory)
decoded bytes (Ok d) h c o = inl (ap (λ (x : Object). Ok x) (object-one bytes d c (h.object d refl) o))
decoded bytes (Err NoMemory) h c o = inr refl
decoded bytes (Err (Bad at)) h c o = absurd (good-one IsSomeObject bytes at (c, o) (bad-some bytes at (h.bad at refl)))

pub refused : (bytes : List ℕ) (answer : Result Object ObjectError) → IsSound bytes answer → (at : ℕ) → IsBadPlace bytes at
    → (answer ≡ Err (Bad at)) ⊎ (answer ≡ Err NoMemory)
refused bytes (Ok d) h at b = absurd (good-one IsSomeObject bytes at (d, h.object d refl) (bad-some bytes at b))
refused bytes (Err NoMemory) h at b = inr refl
refused bytes (Err (Bad other)) h at b = inl (ap (λ (x : ℕ). Err (Bad x)) (place-one IsSomeObject bytes other at (bad-some bytes other (h.bad other refl)) (bad-some bytes at b)))

pub sound : (bytes : List ℕ) (answer : Result Object ObjectError) → IfOk answer (λ o. IsObject bytes o) → ((at : ℕ) → answer ≡ Err (Bad at) → IsBadPlace bytes at) → IsSound bytes answer
sound bytes (Ok o) is bad = record {
  object = λ d e. let same : o ≡ d = cc in subst (IsObject bytes) same is;
  bad = bad;
}
sound bytes (Err e) is bad = record {
  object = λ d same. cc;
  bad = bad;
}

-- bytes go wrong at one place, and an object doesn't
pub bad-one : (bytes : List ℕ) (a b : ℕ) → IsBadPlace bytes a → IsBadPlace bytes b → a ≡ b
bad-one bytes a b h k = place-one IsSomeObject bytes a b (bad-some bytes a h) (bad-some bytes b k)

pub object-good : (bytes : List ℕ) (o : Object) (at : ℕ) → IsObject bytes o → ¬ IsBadPlace bytes at
object-good bytes o at is h = good-one IsSomeObject bytes at (o, is) (bad-some bytes at h)
