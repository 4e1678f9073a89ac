-- What is kept of code of which a window is replaced.
use Rattle.std.proofs.Common.{◌≡◌, ℕ, zero, suc, ◌+◌, ◌<◌, ◌≤◌, ◌⊎◌, inl, inr, Bool, true, false, List, [], ◌∷◌, ◌++◌, length, take, drop, refl, sym, ap, ◌∙◌, subst, arith}
use Rattle.std.specs.Prelude.{slice_get}
use Rattle.std.proofs.lemmas.Bool.{false≢true}
use Rattle.uc_isa.specs.declared.instruction.Instr.{Instr}
use Rattle.uc_peep.proofs.Lists.{same-lists}
use Rattle.uc_peep.proofs.Replaced.{same-some}
use Rattle.uc_peep.specs.Draft.{IsPut}
use Rattle.uc_peep.specs.Kept.{is_gone, kept_of}

pub all-kept : (gone : List Bool) (code : List Instr) → length gone ≡ length code → ((x : ℕ) → is_gone gone x ≡ false) → kept_of gone code ≡ code
all-kept [] [] size kept = refl
all-kept [] (i ∷ code) size kept = absurd (omega arith)
all-kept (g ∷ gone) [] size kept = absurd (omega arith)
all-kept (true ∷ gone) (i ∷ code) size kept = absurd (false≢true (sym (kept 0)))
all-kept (false ∷ gone) (i ∷ code) size kept = ap (λ l. i ∷ l) (all-kept gone code (omega arith) (λ x. kept (suc x)))

same-marks : (a b : List Bool) → length a ≡ length b → ((x : ℕ) → is_gone a x ≡ is_gone b x) → a ≡ b
same-marks [] [] size same = refl
same-marks [] (g ∷ b) size same = absurd (omega arith)
same-marks (g ∷ a) [] size same = absurd (omega arith)
same-marks (g ∷ a) (h ∷ b) size same = ap (λ l. g ∷ l) (same-marks a b (omega arith) (λ x. same (suc x))) ∙ ap (λ x. x ∷ b) (same 0)

-- a window of k places from p on is replaced, whatever stands at those that are gone
record IsReplacedAt (p k : ℕ) (shorter code code' : List Instr) (gone gone' : List Bool) : Type 0 where
  pub size : length code' ≡ length code
  pub size_gone : length gone' ≡ length code
  pub size_before : length gone ≡ length code
  pub inside : p + k ≤ length code
  pub few : length shorter ≤ k
  pub outside : (x : ℕ) → (x < p) ⊎ (p + k ≤ x) → (slice_get code' x ≡ slice_get code x) × (is_gone gone' x ≡ is_gone gone x)
  pub kept : (d : ℕ) → d < k → is_gone gone (p + d) ≡ false
  pub first : (d : ℕ) → d < length shorter → (slice_get code' (p + d) ≡ slice_get shorter d) × (is_gone gone' (p + d) ≡ false)
  pub taken : (d : ℕ) → d < k → length shorter ≤ d → is_gone gone' (p + d) ≡ true

-- what is kept before and after, in front of the window, in it, and after it
pub record IsSplit (p k : ℕ) (shorter code code' : List Instr) (gone gone' : List Bool) : Type 0 where
  pub front : List Instr
  pub rest : List Instr
  pub before_ : kept_of gone code ≡ front ++ (take k (drop p code) ++ rest)
  pub after_ : kept_of gone' code' ≡ front ++ (shorter ++ rest)

window-splits : (k : ℕ) (shorter code code' : List Instr) (gone gone' : List Bool) → IsReplacedAt 0 k shorter code code' gone gone' → (rest : List Instr) × (kept_of gone code ≡ take k code ++ rest) × (kept_of gone' code' ≡ shorter ++ rest)
window-splits zero [] code code' gone gone' h =
    let codes : code' ≡ code = same-lists code' code h.size (λ x. (h.outside x (inr (omega arith))).0) in
    let marks : gone' ≡ gone = same-marks gone' gone (let a = h.size_gone in let b = h.size_before in omega arith) (λ x. (h.outside x (inr (omega arith))).1) in
    (kept_of gone code, refl, ap (λ l. kept_of l code') marks ∙ ap (kept_of gone) codes)
window-splits zero (s ∷ shorter) code code' gone gone' h = absurd (let f = h.few in omega arith)
window-splits (suc k) shorter [] code' gone gone' h = absurd (let f = h.inside in omega arith)
window-splits (suc k) shorter (i ∷ code) [] gone gone' h = absurd (let f = h.size in omega arith)
window-splits (suc k) shorter (i ∷ code) (i' ∷ code') [] gone' h = absurd (let f = h.size_before in omega arith)
window-splits (suc k) shorter (i ∷ code) (i' ∷ code') (g ∷ gone) [] h = absurd (let f = h.size_gone in omega arith)
window-splits (suc k) shorter (i ∷ code) (i' ∷ code') (true ∷ gone) (g' ∷ gone') h = absurd (false≢true (sym (h.kept 0 (omega arith))))
window-splits (suc k) [] (i ∷ code) (i' ∷ code') (false ∷ gone) (false ∷ gone') h = absurd (false≢true (h.taken 0 (omega arith) (omega arith)))
window-splits (suc k) (s ∷ shorter) (i ∷ code) (i' ∷ code') (false ∷ gone) (true ∷ gone') h = absurd (false≢true (sym (h.first 0 (omega arith)).1))
window-splits (suc k) [] (i ∷ code) (i' ∷ code') (false ∷ gone) (true ∷ gone') h =
    let t = window-splits k [] code code' gone gone' (record {
      size = let a = h.size in omega arith;
      size_gone = let a = h.size_gone in omega arith;
      size_before = let a = h.size_before in omega arith;
      inside = let a = h.inside in omega arith;
      few = omega arith;
      outside = λ x o. h.outside (suc x) (inr (later x o));
      kept = λ d lt. ap (is_gone (false ∷ gone)) (next d) ∙ h.kept (suc d) (omega arith);
      first = λ d lt. absurd (omega arith);
      taken = λ d lt le. ap (is_gone (true ∷ gone')) (next d) ∙ h.taken (suc d) (omega arith) (omega arith);
    }) in
    (t.0, ap (λ l. i ∷ l) t.1, t.2)
  where
    next : (d : ℕ) → suc (0 + d) ≡ 0 + suc d
    next d = omega arith

    later : (x : ℕ) → (x < 0) ⊎ (0 + k ≤ x) → 0 + suc k ≤ suc x
    later x (inl lt) = absurd (omega arith)
    later x (inr le) = omega arith
window-splits (suc k) (s ∷ shorter) (i ∷ code) (i' ∷ code') (false ∷ gone) (false ∷ gone') h =
    let t = window-splits k shorter code code' gone gone' (record {
      size = let a = h.size in omega arith;
      size_gone = let a = h.size_gone in omega arith;
      size_before = let a = h.size_before in omega arith;
      inside = let a = h.inside in omega arith;
      few = let a = h.few in omega arith;
      outside = λ x o. h.outside (suc x) (inr (later x o));
      kept = λ d lt. ap (is_gone (false ∷ gone)) (next d) ∙ h.kept (suc d) (omega arith);
      first = λ d lt. let a = h.first (suc d) (omega arith) in (ap (slice_get (i' ∷ code')) (next d) ∙ a.0, ap (is_gone (false ∷ gone')) (next d) ∙ a.1);
      taken = λ d lt le. ap (is_gone (false ∷ gone')) (next d) ∙ h.taken (suc d) (omega arith) (omega arith);
    }) in
    let same : i' ≡ s = same-some i' s _ refl (h.first 0 (omega arith)).0 in
    (t.0, ap (λ l. i ∷ l) t.1, ap (λ j. j ∷ kept_of gone' code') same ∙ ap (λ l. s ∷ l) t.2)
  where
    next : (d : ℕ) → suc (0 + d) ≡ 0 + suc d
    next d = omega arith

    later : (x : ℕ) → (x < 0) ⊎ (0 + k ≤ x) → 0 + suc k ≤ suc x
    later x (inl lt) = absurd (omega arith)
    later x (inr le) = omega arith

splits : (p k : ℕ) (shorter code code' : List Instr) (gone gone' : List Bool) → IsReplacedAt p k shorter code code' gone gone' → IsSplit p k shorter code code' gone gone'
splits zero k shorter code code' gone gone' h =
    let t = window-splits k shorter code code' gone gone' h in
    record { front = []; rest = t.0; before_ = t.1; after_ = t.2 }
splits (suc p) k shorter [] code' gone gone' h = absurd (let f = h.inside in omega arith)
splits (suc p) k shorter (i ∷ code) [] gone gone' h = absurd (let f = h.size in omega arith)
splits (suc p) k shorter (i ∷ code) (i' ∷ code') [] gone' h = absurd (let f = h.size_before in omega arith)
splits (suc p) k shorter (i ∷ code) (i' ∷ code') (g ∷ gone) [] h = absurd (let f = h.size_gone in omega arith)
splits (suc p) k shorter (i ∷ code) (i' ∷ code') (g ∷ gone) (g' ∷ gone') h =
    let first = h.outside 0 (inl (omega arith)) in
    let same : i' ≡ i = same-some i' i _ refl first.0 in
    let t = splits p k shorter code code' gone gone' (record {
      size = let a = h.size in omega arith;
      size_gone = let a = h.size_gone in omega arith;
      size_before = let a = h.size_before in omega arith;
      inside = let a = h.inside in omega arith;
      few = h.few;
      outside = λ x o. h.outside (suc x) (later x o);
      kept = λ d lt. ap (is_gone (g ∷ gone)) (next d) ∙ h.kept d lt;
      first = λ d lt. let a = h.first d lt in (ap (slice_get (i' ∷ code')) (next d) ∙ a.0, ap (is_gone (g' ∷ gone')) (next d) ∙ a.1);
      taken = λ d lt le. ap (is_gone (g' ∷ gone')) (next d) ∙ h.taken d lt le;
    }) in
    subst (λ m. IsSplit (suc p) k shorter (i ∷ code) (i' ∷ code') (g ∷ gone) (m ∷ gone')) (sym first.1)
    (subst (λ j. IsSplit (suc p) k shorter (i ∷ code) (j ∷ code') (g ∷ gone) (g ∷ gone')) (sym same) (both g t))
  where
    next : (d : ℕ) → suc (p + d) ≡ suc p + d
    next d = omega arith

    later : (x : ℕ) → (x < p) ⊎ (p + k ≤ x) → (suc x < suc p) ⊎ (suc p + k ≤ suc x)
    later x (inl lt) = inl (omega arith)
    later x (inr le) = inr (omega arith)

    both : (m : Bool) → IsSplit p k shorter code code' gone gone' → IsSplit (suc p) k shorter (i ∷ code) (i ∷ code') (m ∷ gone) (m ∷ gone')
    both true t = record { front = t.front; rest = t.rest; before_ = t.before_; after_ = t.after_ }
    both false t = record { front = i ∷ t.front; rest = t.rest; before_ = ap (λ l. i ∷ l) t.before_; after_ = ap (λ l. i ∷ l) t.after_ }

pub put-splits : (p k : ℕ) (shorter code code' : List Instr) (gone gone' : List Bool) → IsPut p k shorter code code' gone gone' → length gone ≡ length code → p + k ≤ length code → length shorter ≤ k → ((d : ℕ) → d < k → is_gone gone (p + d) ≡ false) → IsSplit p k shorter code code' gone gone'
put-splits p k shorter code code' gone gone' put size_gone inside few kept = splits p k shorter code code' gone gone' (record {
  size = put.size;
  size_gone = put.size_gone ∙ size_gone;
  size_before = size_gone;
  inside = inside;
  few = few;
  outside = put.outside;
  kept = kept;
  first = λ d lt. let a = put.first d (omega arith) lt in (a.0, a.1 ∙ kept d (omega arith));
  taken = λ d lt le. (put.rest d lt le).1;
})
