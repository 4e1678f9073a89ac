-- Sets that rise until each has all that its instruction needs.
use Rattle.std.proofs.Common.{◌≡◌, ◌≢◌, ℕ, suc, ◌+◌, ◌-◌, ◌*◌, ◌^◌, ◌<◌, ◌≤◌, ◌⊎◌, inl, inr, ⊎_elim, Bool, true, false, ◌||◌, List, [], ◌∷◌, length, get_or, set, sum, Some, if◌then◌else◌, refl, sym, ap, ◌∙◌, subst, arith, get_or-set_same, get_or-set_other, length-set, nat_eq}
use Rattle.std.specs.Prelude.{slice_get}
use Rattle.std.proofs.lemmas.Bool.{false≢true, or_cases}
use Rattle.std.proofs.lemmas.Bool.Decides.{eqb_tells}
use Rattle.std.proofs.lemmas.List.Sums.{sum_by-set, sum_by-cons}
use Rattle.std.proofs.lemmas.Option.{get_or_from_slice_get, slice_get-get_or, slice_get_within}
use Rattle.std.proofs.lemmas.Nat.Bits.{bit_at-zero}
use Rattle.uc_isa.specs.declared.instruction.Instr.{Instr}
use Rattle.uc_peep.specs.Liveness.{AreSmall, Covers, IsLiveBefore, IsClosed, IsGrown, IsLiveAt, IsNeeded, IsSound, IsUpdated}
use Rattle.uc_peep.specs.Sets.{has}
use Rattle.uc_isa.specs.Program.{IsLawfulWithin, IsProgram}
use Rattle.uc_isa.specs.Resources.{IsResource, Live, Resource, number}
use Rattle.uc_isa.specs.Resources.Live.{Needs, Passes}

pub lawful-here : (code : List Instr) (len x : ℕ) (d : Instr) → IsProgram code → len ≡ length code → x < len → IsLawfulWithin len x (get_or code x d)
lawful-here code len x d h same inside =
    subst (λ n. IsLawfulWithin n x (get_or code x d)) (sym same) (h.each x (get_or code x d) (slice_get-get_or code x d (subst (λ n. x < n) same inside)))

-- ---- one place

needed-live : (code : List Instr) (sets : List ℕ) (x : ℕ) (i : Instr) (s : Resource) → slice_get code x ≡ Some i → IsResource s → IsSound code sets → IsNeeded i x sets s → Live code s x
needed-live code sets x i s at h sound (inl r) = Needs i at r
needed-live code sets x i s at h sound (inr (y, next, unwritten, there)) = Passes i y at unwritten next (sound y s h there)

put-set : (sets : List ℕ) (x new y : ℕ) (P : ℕ → Type 0) → x < length sets → (y ≡ x → P new) → P (get_or sets y 0) → P (get_or (set sets x new) y 0)
put-set sets x new y P inside there other =
    ⊎_elim
    (λ (e : (nat_eq y x ≡ true) × (y ≡ x)). subst P (sym (ap (λ k. get_or (set sets x new) k 0) e.1 ∙ get_or-set_same sets x new 0 inside)) (there e.1))
    (λ (e : (nat_eq y x ≡ false) × (y ≢ x)). subst P (sym (get_or-set_other sets x y new 0 e.1)) other)
    (eqb_tells y x)

pub sound-put : (code : List Instr) (sets : List ℕ) (x b new : ℕ) (d : Instr) → length sets ≡ length code → x < length sets → IsLiveBefore (get_or code x d) x sets b → ((s : Resource) → has new s ≡ (has (get_or sets x 0) s || has b s))
    → IsSound code sets → IsSound code (set sets x new)
sound-put code sets x b new d same inside needs_there either sound = λ y s h.
    put-set sets x new y (λ n. has n s ≡ true → Live code s y) inside
    (λ at there. subst (λ z. Live code s z) (sym at)
    (⊎_elim (λ (old : has (get_or sets x 0) s ≡ true). sound x s h old)
    (λ (more : has b s ≡ true). needed-live code sets x (get_or code x d) s (slice_get-get_or code x d (subst (λ n. x < n) same inside)) h sound (needs_there.only s h more))
    (or_cases (has (get_or sets x 0) s) (has b s) (sym (either s) ∙ there))))
    (sound y s h)

pub small-put : (sets : List ℕ) (x new : ℕ) → x < length sets → new < 2 ^ 128 → AreSmall sets → AreSmall (set sets x new)
small-put sets x new inside small all = λ y. put-set sets x new y (λ n. n < 2 ^ 128) inside (λ e. small) (all y)

sum-put : (sets : List ℕ) (x new : ℕ) → x < length sets → sum (set sets x new) + get_or sets x 0 ≡ sum sets + new
sum-put sets x new inside = sum_by-set (λ n. n) sets x new 0 inside

pub sum-rises : (sets : List ℕ) (x new old : ℕ) → x < length sets → old ≡ get_or sets x 0 → old ≤ new → ¬ (new ≡ old) → sum sets < sum (set sets x new)
sum-rises sets x new old inside e le other = omega (arith, sum-put sets x new inside)

pub covers-same : (code : List Instr) (sets : List ℕ) (x b new : ℕ) (d : Instr) → IsLiveBefore (get_or code x d) x sets b → ((s : Resource) → has new s ≡ (has (get_or sets x 0) s || has b s)) → new ≡ get_or sets x 0
    → (i : Instr) → slice_get code x ≡ Some i → Covers i x sets (get_or sets x 0)
covers-same code sets x b new d needs_there either same i at =
    let here : get_or code x d ≡ i = get_or_from_slice_get code x i d at in
    let old : (s : Resource) → has b s ≡ true → has (get_or sets x 0) s ≡ true = λ s t. ap (λ n. has n s) (sym same) ∙ either s ∙ ap (λ u. has (get_or sets x 0) s || u) t ∙ Rattle.std.proofs.Math.Bool.or-true (has (get_or sets x 0) s) in
    subst (λ j. Covers j x sets (get_or sets x 0)) here (record {
      needs = λ s h r. old s (needs_there.covers.needs s h r);
      passes = λ s y h w n t. old s (needs_there.covers.passes s y h w n t);
    })

-- ---- all places

-- the sets from a place on have what they need
abbrev pub IsClosedFrom : List Instr → List ℕ → ℕ → Type 0
IsClosedFrom code sets from = (x : ℕ) (i : Instr) → from ≤ x → slice_get code x ≡ Some i → Covers i x sets (get_or sets x 0)

-- how far a sweep has come
pub record IsSwept (code : List Instr) (sets' sets : List ℕ) (rose : Bool) (from : ℕ) : Type 0 where
  pub size : length sets ≡ length code
  pub inside : from ≤ length code
  pub sound : IsSound code sets' → IsSound code sets
  pub small : AreSmall sets' → AreSmall sets
  pub most : sum sets' ≤ sum sets
  pub rises : rose ≡ true → sum sets' < sum sets
  pub closed : rose ≡ false → (sets ≡ sets') × IsClosedFrom code sets from

pub swept-none : (code : List Instr) (sets : List ℕ) → length sets ≡ length code → IsSwept code sets sets false (length code)
swept-none code sets same = record {
  size = same;
  inside = omega arith;
  sound = λ h. h;
  small = λ h. h;
  most = omega arith;
  rises = λ e. absurd (false≢true e);
  closed = λ e. (refl, λ x i le at. absurd (let lt : x < length code = slice_get_within code x i at in omega arith));
}

more-places : (code : List Instr) (sets : List ℕ) (x : ℕ) → IsClosedFrom code sets (suc x) → ((i : Instr) → slice_get code x ≡ Some i → Covers i x sets (get_or sets x 0)) → IsClosedFrom code sets x
more-places code sets x all here = λ y i le at.
    ⊎_elim
    (λ (e : (nat_eq y x ≡ true) × (y ≡ x)). subst (λ z. slice_get code z ≡ Some i → Covers i z sets (get_or sets z 0)) (sym e.1) (here i) at)
    (λ (e : (nat_eq y x ≡ false) × (y ≢ x)). all y i (let ne : y ≢ x = e.1 in omega arith) at)
    (eqb_tells y x)

still : (code : List Instr) (first sets sets' : List ℕ) (x : ℕ) (rose : Bool) → IsSwept code first sets rose (suc x) → IsUpdated code sets sets' x false → IsSwept code first sets' rose x
still code first sets sets' x rose so u =
    let same : sets' ≡ sets = (u.covers refl).0 in
    record {
      size = u.size ∙ so.size;
      inside = let h = so.inside in omega arith;
      sound = λ h. u.sound (so.sound h);
      small = λ h. u.small (so.small h);
      most = subst (λ l. sum first ≤ sum l) (sym same) so.most;
      rises = λ e. subst (λ l. sum first < sum l) (sym same) (so.rises e);
      closed = λ e. (same ∙ (so.closed e).0, subst (λ l. IsClosedFrom code l x) (sym same) (more-places code sets x (so.closed e).1 (u.covers refl).1));
    }

risen : (code : List Instr) (first sets sets' : List ℕ) (x : ℕ) (rose : Bool) → IsSwept code first sets rose (suc x) → IsUpdated code sets sets' x true → IsSwept code first sets' true x
risen code first sets sets' x rose so u =
    let up : sum sets < sum sets' = u.rises refl in
    let far : sum first ≤ sum sets = so.most in
    record {
      size = u.size ∙ so.size;
      inside = let h = so.inside in omega arith;
      sound = λ h. u.sound (so.sound h);
      small = λ h. u.small (so.small h);
      most = omega arith;
      rises = λ e. omega arith;
      closed = λ e. absurd (false≢true (sym e));
    }

-- after an update `rose` is what it was, or true
pub swept-more : (code : List Instr) (first sets sets' : List ℕ) (x : ℕ) (rose r rose' : Bool) → IsSwept code first sets rose (suc x) → IsUpdated code sets sets' x r → ((r ≡ true) × (rose' ≡ true)) ⊎ ((r ≡ false) × (rose' ≡ rose)) → IsSwept code first sets' rose' x
swept-more code first sets sets' x rose r rose' so u (inl (a, b)) = subst (λ t. IsSwept code first sets' t x) (sym b) (risen code first sets sets' x rose so (subst (λ t. IsUpdated code sets sets' x t) a u))
swept-more code first sets sets' x rose r rose' so u (inr (a, b)) = subst (λ t. IsSwept code first sets' t x) (sym b) (still code first sets sets' x rose so (subst (λ t. IsUpdated code sets sets' x t) a u))

-- ---- the end

sum-small : (sets : List ℕ) → AreSmall sets → sum sets ≤ 2 ^ 128 * length sets
sum-small [] all = omega arith
sum-small (a ∷ sets) all =
    let one : a < 2 ^ 128 = all 0 in
    let rest : sum sets ≤ 2 ^ 128 * length sets = sum-small sets (λ x. all (suc x)) in
    let split : sum (a ∷ sets) ≡ a + sum sets = sum_by-cons (λ n. n) a sets in
    omega arith

-- how much the sets can still rise
pub left : List ℕ → ℕ
left sets = 2 ^ 128 * length sets - sum sets

pub left-falls : (sets sets' : List ℕ) → length sets' ≡ length sets → AreSmall sets' → sum sets < sum sets' → left sets' < left sets
unfolding left
left-falls sets sets' same small up = let most : sum sets' ≤ 2 ^ 128 * length sets' = sum-small sets' small in omega arith

pub live-in : (code : List Instr) (sets : List ℕ) (s : Resource) (x : ℕ) → IsResource s → IsClosed code sets → Live code s x → has (get_or sets x 0) s ≡ true
live-in code sets s x h closed (Needs i at r) = (closed _ i at).needs s h r
live-in code sets s x h closed (Passes i y at w next l) = (closed _ i at).passes s y h w next (live-in code sets s y h closed l)

pub live-exactly : (code : List Instr) (sets : List ℕ) → IsSound code sets → IsClosed code sets → (x : ℕ) → IsLiveAt code x (get_or sets x 0)
live-exactly code sets sound closed x = λ s h. (λ t. sound x s h t, λ l. live-in code sets s x h closed l)

pub updated-same : (code : List Instr) (sets : List ℕ) (x old b new : ℕ) (d : Instr) → old ≡ get_or sets x 0 → IsLiveBefore (get_or code x d) x sets b → ((s : Resource) → has new s ≡ (has old s || has b s)) → new ≡ old → IsUpdated code sets sets x false
updated-same code sets x old b new d is needs_there either same = record {
  size = refl;
  sound = λ h. h;
  small = λ h. h;
  rises = λ e. absurd (false≢true e);
  covers = λ e. (refl, λ i at. covers-same code sets x b new d needs_there (λ s. either s ∙ ap (λ n. has n s || has b s) is) (same ∙ is) i at);
}

pub updated-more : (code : List Instr) (sets : List ℕ) (x old b new : ℕ) (d : Instr) → length sets ≡ length code → x < length sets → old ≡ get_or sets x 0 → IsLiveBefore (get_or code x d) x sets b → ((s : Resource) → has new s ≡ (has old s || has b s)) → old ≤ new → new < 2 ^ 128 → ¬ (new ≡ old)
    → IsUpdated code sets (set sets x new) x true
updated-more code sets x old b new d same inside is needs_there either most small other = record {
  size = length-set sets x new;
  sound = sound-put code sets x b new d same inside needs_there (λ s. either s ∙ ap (λ n. has n s || has b s) is);
  small = small-put sets x new inside small;
  rises = λ e. sum-rises sets x new old inside is most other;
  covers = λ e. absurd (false≢true (sym e));
}

pub same-not : (b : Bool) (P : Type 0) → (P → b ≡ true) → b ≡ false → ¬ P
same-not b P h e p = false≢true (sym e ∙ h p)

-- the place before x
pub swept-on : (code : List Instr) (first sets sets' : List ℕ) (x : ℕ) (rose r rose' : Bool) → 0 < x → IsSwept code first sets rose x → IsUpdated code sets sets' (x - 1) r → ((r ≡ true) × (rose' ≡ true)) ⊎ ((r ≡ false) × (rose' ≡ rose)) → IsSwept code first sets' rose' (x - 1)
swept-on code first sets sets' x rose r rose' some so u how =
    let same : x ≡ suc (x - 1) = omega arith in
    swept-more code first sets sets' (x - 1) rose r rose' (subst (λ k. IsSwept code first sets rose k) same so) u how

pub swept-all : (code : List Instr) (first sets : List ℕ) (rose : Bool) (x : ℕ) → x ≤ 0 → IsSwept code first sets rose x → rose ≡ false → IsClosed code sets
swept-all code first sets rose x none so e = λ y i at. (so.closed e).1 y i (let le : x ≤ y = omega arith in le) at

pub measure-falls : (sets sets' : List ℕ) (r r0 : Bool) → length sets' ≡ length sets → AreSmall sets' → r0 ≡ true → (r ≡ true → sum sets < sum sets') → (r ≡ false → sets' ≡ sets) → left sets' + (if r then 1 else 0) < left sets + (if r0 then 1 else 0)
measure-falls sets sets' r false same small going up steady = absurd (false≢true going)
measure-falls sets sets' true true same small going up steady = let less = left-falls sets sets' same small (up refl) in omega arith
measure-falls sets sets' false true same small going up steady = let e : left sets' ≡ left sets = ap left (steady refl) in omega arith

pub measure-through : (items mid sets' : List ℕ) (r r0 : Bool) → mid ≡ items → length sets' ≡ length mid → AreSmall items → (AreSmall mid → AreSmall sets') → r0 ≡ true → (r ≡ true → sum mid < sum sets') → (r ≡ false → sets' ≡ mid) → left sets' + (if r then 1 else 0) < left items + (if r0 then 1 else 0)
measure-through items mid sets' r r0 same size small keeps going up steady =
    subst (λ l. left sets' + (if r then 1 else 0) < left l + (if r0 then 1 else 0)) same
    (measure-falls mid sets' r r0 size (keeps (subst AreSmall (sym same) small)) going up steady)

has-none : (s : Resource) → has 0 s ≡ false
has-none s = ap (λ n. nat_eq n 1) (bit_at-zero (number s))

pub empty-sound : (code : List Instr) (sets : List ℕ) → ((x : ℕ) → get_or sets x 0 ≡ 0) → IsSound code sets
empty-sound code sets empty = λ x s h t. absurd (false≢true (sym (ap (λ n. has n s) (empty x) ∙ has-none s) ∙ t))

pub empty-small : (sets : List ℕ) → ((x : ℕ) → get_or sets x 0 ≡ 0) → AreSmall sets
empty-small sets empty = λ x. let e : get_or sets x 0 ≡ 0 = empty x in omega arith

-- ---- updates in any order

pub grown_none : (code : List Instr) (sets : List ℕ) → IsGrown code sets sets
grown_none code sets = record { size = refl; sound = λ h. h; small = λ h. h }

pub grown_more : (code : List Instr) (a b c : List ℕ) → IsGrown code a b → IsGrown code b c → IsGrown code a c
grown_more code a b c x y = record { size = y.size ∙ x.size; sound = λ h. y.sound (x.sound h); small = λ h. y.small (x.small h) }

pub grown_sweep : (code : List Instr) (sets sets' : List ℕ) → length sets' ≡ length sets → (IsSound code sets → IsSound code sets') → (AreSmall sets → AreSmall sets') → IsGrown code sets sets'
grown_sweep code sets sets' size sound small = record { size = size; sound = sound; small = small }

pub grown_update : (code : List Instr) (sets sets' : List ℕ) (x : ℕ) (rose : Bool) → IsUpdated code sets sets' x rose → IsGrown code sets sets'
grown_update code sets sets' x rose u = record { size = u.size; sound = u.sound; small = u.small }
