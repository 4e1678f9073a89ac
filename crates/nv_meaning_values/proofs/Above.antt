-- The calls in progress before, in and after a call.
use Rattle.std.proofs.Common.{◌≡◌, ℕ, zero, suc, ◌+◌, ◌-◌, ◌<◌, ◌≤◌, Bool, true, false, List, [], ◌∷◌, ◌++◌, length, take, set, get_or, option_map, slice_get, Some, None, refl, sym, ap, ◌∙◌, if◌then◌else◌, arith}
use Rattle.std.proofs.lemmas.List.{take-append-le, length-append, length-take-le, length-map, map-set, set_split, drop_all, take-map}
use Rattle.std.proofs.lemmas.Option.{same_Some, none-some, slice_get-map, slice_get-get_or}
use Rattle.nv_meaning_values.specs.Running.{InCall, Chain, innermost, is_own, called}
use Rattle.nv_meaning_values.specs.Callers.{call_of, calls_of, maybe_call, IsMark, LieAbove, IsAbove}
use Rattle.nv_meaning_values.specs.declared.callers.Caller.{Caller}
use Rattle.nv_meaning_values.specs.declared.callers.Mark.{Mark}

pub above-itself : (c : Chain) → IsAbove c c
above-itself c = (refl, omega arith, refl)

take-less : {A : Type 0} (i k : ℕ) (xs : List A) → i ≤ k → take i (take k xs) ≡ take i xs
take-less zero zero xs le = refl
take-less zero (suc k) [] le = refl
take-less zero (suc k) (x ∷ xs) le = refl
take-less (suc i) zero xs le = absurd (omega arith)
take-less (suc i) (suc k) [] le = refl
take-less (suc i) (suc k) (x ∷ xs) le = ap (λ l. x ∷ l) (take-less i k xs (omega arith))

own-some : (fs : List InCall) (n : ℕ) → is_own (innermost fs) n ≡ true → 0 < length fs
own-some [] n e = cc
own-some (f ∷ fs) n e = omega arith

in-place : (b : Bool) (fs later : List InCall) (f : InCall) → is_own (innermost later) f.1 ≡ b → LieAbove fs later → LieAbove fs ((if b then take (length later - 1) later else later) ++ f ∷ [])
in-place true fs later f e h =
    let some : 0 < length later = own-some later f.1 e in
    let long : length fs ≤ length later = h.0 in
    let front : length (take (length later - 1) later) ≡ length later - 1 = length-take-le (length later - 1) later (omega arith) in
    let whole : length (take (length later - 1) later ++ f ∷ []) ≡ length (take (length later - 1) later) + 1 = length-append (take (length later - 1) later) (f ∷ []) in (
      omega arith,
      take-append-le (length fs - 1) (take (length later - 1) later) (f ∷ []) (omega arith)
          ∙ take-less (length fs - 1) (length later - 1) later (omega arith)
          ∙ h.1,
    )
in-place false fs later f e h =
    let long : length fs ≤ length later = h.0 in
    let whole : length (later ++ f ∷ []) ≡ length later + 1 = length-append later (f ∷ []) in
    (omega arith, take-append-le (length fs - 1) later (f ∷ []) (omega arith) ∙ h.1)

-- a further call lies above too
pub above-called : (c later : Chain) (f : InCall) → IsAbove c later → IsAbove c (record { groups = later.groups; calls = called later.calls f })
above-called c later f h = let l = in-place (is_own (innermost later.calls) f.1) c.calls later.calls f refl (h.1, h.2) in (h.0, l.0, l.1)

-- ---- the calls in a vector

pub last-call : (xs : List Caller) (d : Caller) → 0 < length xs → maybe_call (Some (get_or xs (length xs - 1) d)) ≡ innermost (calls_of xs)
last-call xs d some =
    let e : length (calls_of xs) ≡ length xs = length-map xs call_of in
    sym (slice_get-map call_of xs (length (calls_of xs) - 1)
    ∙ ap (λ n. option_map call_of (slice_get xs (n - 1))) e
    ∙ ap (option_map call_of) (slice_get-get_or xs (length xs - 1) d (omega arith)))

-- the innermost call is replaced
pub replaced : (xs : List Caller) (f : Caller) → 0 < length xs → calls_of (set xs (length xs - 1) f) ≡ take (length (calls_of xs) - 1) (calls_of xs) ++ call_of f ∷ []
replaced xs f some =
    let e : length (calls_of xs) ≡ length xs = length-map xs call_of in
    map-set call_of xs (length xs - 1) f
    ∙ set_split (calls_of xs) (length xs - 1) (call_of f) (omega arith)
    ∙ ap (λ l. take (length xs - 1) (calls_of xs) ++ call_of f ∷ l) (drop_all (suc (length xs - 1)) (calls_of xs) (omega arith))
    ∙ ap (λ n. take (n - 1) (calls_of xs) ++ call_of f ∷ []) (sym e)

pub entered : (b : Bool) (xs : List Caller) (f : Caller) → is_own (innermost (calls_of xs)) f.group ≡ b → (if b then take (length (calls_of xs) - 1) (calls_of xs) else calls_of xs) ++ call_of f ∷ [] ≡ called (calls_of xs) (call_of f)
entered b xs f e = sym (ap (λ c. (if c then take (length (calls_of xs) - 1) (calls_of xs) else calls_of xs) ++ call_of f ∷ []) e)

pub own-there : (xs : List Caller) (n : ℕ) → is_own (innermost (calls_of xs)) n ≡ true → 0 < length xs
own-there xs n e = let k : 0 < length (calls_of xs) = own-some (calls_of xs) n e in let l : length (calls_of xs) ≡ length xs = length-map xs call_of in omega arith

last-split : (fs : List InCall) (f : InCall) → slice_get fs (length fs - 1) ≡ Some f → fs ≡ take (length fs - 1) fs ++ f ∷ []
last-split [] f e = cc
last-split (g ∷ []) f e = ap (λ x. x ∷ []) (same_Some g f e)
last-split (g ∷ h ∷ fs) f e =
    let n : length (g ∷ h ∷ fs) - 1 ≡ suc (length (h ∷ fs) - 1) = omega arith in
    ap (λ l. g ∷ l) (last-split (h ∷ fs) f (ap (slice_get (g ∷ h ∷ fs)) (sym n) ∙ e))
    ∙ ap (λ k. take k (g ∷ h ∷ fs) ++ f ∷ []) (sym n)

some-call : (fs : List InCall) (f : InCall) → innermost fs ≡ Some f → 0 < length fs
some-call [] f e = cc
some-call (g ∷ fs) f e = omega arith

-- back at a mark
pub left-at : (fs : List InCall) (xs : List Caller) (m : Mark) (f : Caller) → IsMark m fs → m.innermost ≡ Some f → LieAbove fs (calls_of xs) → calls_of (set (take m.depth xs) (m.depth - 1) f) ≡ fs
left-at fs xs m f is inner above =
    let n = length fs in
    let last : innermost fs ≡ Some (call_of f) = sym (ap maybe_call (sym inner) ∙ is.1) in
    let some : 0 < n = some-call fs (call_of f) last in
    let long : n ≤ length (calls_of xs) = above.0 in
    let short : length (take n (calls_of xs)) ≡ n = length-take-le n (calls_of xs) long in
    ap (λ k. calls_of (set (take k xs) (k - 1) f)) is.0
    ∙ map-set call_of (take n xs) (n - 1) f
    ∙ ap (λ l. set l (n - 1) (call_of f)) (sym (take-map call_of n xs))
    ∙ set_split (take n (calls_of xs)) (n - 1) (call_of f) (omega arith)
    ∙ ap (λ l. take (n - 1) (take n (calls_of xs)) ++ call_of f ∷ l) (drop_all (suc (n - 1)) (take n (calls_of xs)) (omega arith))
    ∙ ap (λ l. l ++ call_of f ∷ []) (take-less (n - 1) n (calls_of xs) (omega arith) ∙ above.1)
    ∙ sym (last-split fs (call_of f) last)

pub left-inside : (fs : List InCall) (xs : List Caller) (m : Mark) (f : Caller) → IsMark m fs → m.innermost ≡ Some f → LieAbove fs (calls_of xs) → (0 < m.depth) × (m.depth ≤ length xs)
left-inside fs xs m f is inner above =
    let some : 0 < length fs = some-call fs (call_of f) (sym (ap maybe_call (sym inner) ∙ is.1)) in
    let long : length fs ≤ length (calls_of xs) = above.0 in
    let e : length (calls_of xs) ≡ length xs = length-map xs call_of in
    let d : m.depth ≡ length fs = is.0 in
    (omega arith, omega arith)

no-call : (fs : List InCall) → None ≡ innermost fs → fs ≡ []
no-call [] e = refl
no-call (g ∷ fs) e = let k : slice_get (g ∷ fs) (length (g ∷ fs) - 1) ≡ Some (get_or (g ∷ fs) (length (g ∷ fs) - 1) g) = slice_get-get_or (g ∷ fs) (length (g ∷ fs) - 1) g (omega arith) in absurd (none-some _ (e ∙ k))

pub left-none : (fs : List InCall) (xs : List Caller) (m : Mark) → IsMark m fs → m.innermost ≡ None → calls_of (take m.depth xs) ≡ fs
left-none fs xs m is inner =
    let e : fs ≡ [] = no-call fs (ap maybe_call (sym inner) ∙ is.1) in
    ap (λ k. calls_of (take k xs)) (is.0 ∙ ap length e) ∙ sym e
