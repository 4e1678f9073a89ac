-- Where two lists of writes first differ.
use Rattle.std.proofs.Common.{◌≡◌, ℕ, zero, suc, ◌+◌, ◌<◌, List, [], ◌∷◌, ◌++◌, Some, length, map, min, take, get_or, refl, sym, ap, ◌∙◌, arith, inl, inr}
use Rattle.std.specs.Prelude.{slice_get}
use Rattle.std.proofs.lemmas.Bool.{cases_lt}
use Rattle.std.proofs.lemmas.Grind.{take_at_read}
use Rattle.std.proofs.lemmas.List.{get_or-map, length-map}
use Rattle.std.proofs.lemmas.Option.{same_Some, slice_get-get_or}
use Rattle.nv_meaning_values.specs.declared.trace.Made as code
use Rattle.nv_base.specs.declared.outcome.Write.{Write}
use Rattle.nv_base.specs.declared.term.Mem.{Mem}
use Rattle.nv_trace.specs.Unlike.{IsFirstUnlike, AgreeAsFar}

heads : (v w : Write) (vs ws : List Write) → v ∷ vs ≡ w ∷ ws → v ≡ w
heads v w vs ws e = cc

tails : (v w : Write) (vs ws : List Write) → v ∷ vs ≡ w ∷ ws → vs ≡ ws
tails v w vs ws e = cc

-- lists with the same front have the same at each place of it
same-before : (j i : ℕ) (vs ws : List Write) → take j vs ≡ take j ws → i < j → slice_get vs i ≡ slice_get ws i
same-before zero i vs ws e lt = absurd (omega arith)
same-before (suc j) i [] [] e lt = refl
same-before (suc j) i [] (w ∷ ws) e lt = cc
same-before (suc j) i (v ∷ vs) [] e lt = cc
same-before (suc j) zero (v ∷ vs) (w ∷ ws) e lt = ap Some (heads v w (take j vs) (take j ws) e)
same-before (suc j) (suc i) (v ∷ vs) (w ∷ ws) e lt = same-before j i vs ws (tails v w (take j vs) (take j ws) e) (omega arith)

-- there is one first such place
pub unlike-one : (i j : ℕ) (vs ws : List Write) → IsFirstUnlike i vs ws → IsFirstUnlike j vs ws → i ≡ j
unlike-one i j vs ws h k = elim (cases_lt i j) [
  | inl less ↦ absurd (h.3 (same-before j i vs ws k.2 less))
  | inr most ↦ elim (cases_lt j i) [
    | inl less ↦ absurd (k.3 (same-before i j vs ws h.2 less))
    | inr least ↦ omega arith
  ]
]

-- and none, where the lists are the same as far as both go
pub unlike-agree : (i : ℕ) (vs ws : List Write) → IsFirstUnlike i vs ws → AgreeAsFar vs ws → ⊥
unlike-agree i vs ws h a =
    let left : i < length vs = h.0 in
    let right : i < length ws = h.1 in
    h.3 (same-before (min (length vs) (length ws)) i vs ws a (grind (arith, left, right)))

-- ---- one place after the other

-- the fronts are the same one place further, where the writes there are
pub front-more : (i : ℕ) (vs ws : List Write) (v : Write) → i < length vs → i < length ws → get_or vs i v ≡ get_or ws i v → take i vs ≡ take i ws → take (i + 1) vs ≡ take (i + 1) ws
front-more i vs ws v l r e same =
    (take_at_read vs i v l).1
    ∙ ap (λ x. take i vs ++ x ∷ []) e
    ∙ ap (λ xs. xs ++ get_or ws i v ∷ []) same
    ∙ sym (take_at_read ws i v r).1

-- the same of the writes that a trace keeps, and a place at which they differ
module _ (i : ℕ) (made : List code.Made) (noted : List Write) (m : code.Made) (w : Write) (left : i < length made) (right : i < length noted) (is_m : m ≡ get_or made i m) (is_w : w ≡ get_or noted i w) (same : take i (map (λ (x : code.Made). x.write) made) ≡ take i noted) where
  abbrev writes : List Write
  writes = map (λ (x : code.Made). x.write) made

  inside : i < length writes
  inside = let long : length writes ≡ length made = length-map made (λ (x : code.Made). x.write) in omega (arith, long, left)

  read : (d : Write) → get_or writes i d ≡ m.write
  read d = get_or-map (λ (x : code.Made). x.write) made i m d left ∙ ap (λ (x : code.Made). x.write) (sym is_m)

  pub same-further : m.write ≡ w → take (i + 1) (map (λ (x : code.Made). x.write) made) ≡ take (i + 1) noted
  same-further e = front-more i writes noted w inside right (read w ∙ e ∙ is_w) same

  pub unlike-here : (m.write ≡ w → ⊥) → IsFirstUnlike i (map (λ (x : code.Made). x.write) made) noted
  unlike-here other = (
    inside,
    right,
    same,
    λ h. other (same_Some m.write w
        (ap Some (sym (read m.write)) ∙ sym (slice_get-get_or writes i m.write inside) ∙ h ∙ slice_get-get_or noted i w right ∙ ap Some (sym is_w))),
  )

-- ---- two writes
pub one-write : (v w : Write) → v.mem ≡ w.mem → v.at ≡ w.at → v.words ≡ w.words → v ≡ w
one-write v w m a s =
    ap (λ (x : Mem). record { mem = x; at = v.at; words = v.words }) m
    ∙ ap (λ (x : ℕ). record { mem = w.mem; at = x; words = v.words }) a
    ∙ ap (λ (x : List ℕ). record { mem = w.mem; at = w.at; words = x }) s
