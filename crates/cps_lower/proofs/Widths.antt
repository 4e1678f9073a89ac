-- What is live outside of flat code holds what the labels want that its lowered code goes on to, and the ends of that code are at most as wide.
use Rattle.std.proofs.Common.{◌≡◌, ℕ, ◌+◌, ◌≤◌, ◌<◌, max, Bool, true, false, nat_eq, nat_lt, List, [], ◌∷◌, ◌++◌, Option, Some, None, option_map, slice_get, if◌then◌else◌, refl, sym, ap, subst, arith}
use Rattle.std.proofs.lemmas.Bool.{eq-eqb}
use Rattle.std.proofs.lemmas.Option.{slice_get-map}
use Rattle.nv_base.specs.declared.term.Atom.{Atom}
use Rattle.nv_base.specs.Sets.{different, all_vars}
use Rattle.nv_base.specs.Measures.{operands_wide, Widths}
use Rattle.nv_base.proofs.Sets.{different-below}
use Rattle.nv_base.proofs.Measures.{operands-more, max-mono}
use Rattle.flat_ir.specs.declared.flat.FlatFun.{FlatFun}
use Rattle.flat_ir.specs.Wide as flat
use Rattle.cps_ir.specs.Meaning.{handler_of}
use Rattle.cps_ir.specs.Term.{Handler}
use Rattle.cps_ir.specs.Term as cps
use Rattle.cps_ir.specs.Wide.{Wants, to_wants, handlers_want, kept, wants, call_wide, term_wide}
use Rattle.cps_lower.specs.inner.Lowered.{give_term, raise_term, last_call, call_term, lowered_fun, lowered_all}
use Rattle.cps_lower.proofs.WidthsSets.{IsWithin, within-second, within-both, within-nil, within-left}

-- ---- what is live outside holds what the labels in use want

-- one label wants these
abbrev pub over : Wants → ℕ → List ℕ → Wants
over phi n vs = λ m. if nat_eq n m then vs else phi m

abbrev pub Below : ℕ → Option ℕ → Type 0
Below n (Some l) = l < n
Below n None = Unit {0}

abbrev pub Known : Wants → ℕ → List ℕ → List Handler → Type 0
Known phi n out [] = Unit {0}
Known phi n out (h ∷ hs) = (h.1 < n) × IsWithin (phi h.1) out × Known phi n out hs

-- the labels in use are below the next one, n; `returns` says that 0 is the label behind last calls
pub record IsInside (phi : Wants) (n : ℕ) (k : Option ℕ) (hs : List Handler) (out : List ℕ) (returns : Bool) : Type 0 where
  pub below : Below n k
  pub to : IsWithin (to_wants phi k) out
  pub handlers : Known phi n out hs
  pub last : returns ≡ true → (0 < n) × IsWithin (phi 0) out

below_more : (n m : ℕ) (k : Option ℕ) → n ≤ m → Below n k → Below m k
below_more n m (Some l) le h = omega arith
below_more n m None le h = tt

known_more : (phi : Wants) (n m : ℕ) (out : List ℕ) (hs : List Handler) → n ≤ m → Known phi n out hs → Known phi m out hs
known_more phi n m out [] le h = tt
known_more phi n m out (x ∷ hs) le h = (omega (arith, h.0), h.1, known_more phi n m out hs le h.2)

pub inside_more : {phi : Wants} {n : ℕ} {k : Option ℕ} {hs : List Handler} {out : List ℕ} {returns : Bool} (m : ℕ) → n ≤ m → IsInside phi n k hs out returns → IsInside phi m k hs out returns
inside_more {phi} {n} {k} {hs} {out} m le h = record {
  below = below_more n m k le h.below;
  to = h.to;
  handlers = known_more phi n m out hs le h.handlers;
  last = λ e. let last' = h.last e in (omega (arith, last'.0), last'.1);
}

unhidden : (phi : Wants) (n l : ℕ) (vs : List ℕ) → l < n → over phi n vs l ≡ phi l
unhidden phi n l vs lt = let e : nat_eq n l ≡ false = grind arith in ap (λ b. if b then vs else phi l) e

new_label : (phi : Wants) (n : ℕ) (vs : List ℕ) → over phi n vs n ≡ vs
new_label phi n vs = ap (λ b. if b then vs else phi n) (eq-eqb n n refl)

to_at : (phi : Wants) (n : ℕ) (vs : List ℕ) (k : Option ℕ) → Below n k → to_wants (over phi n vs) k ≡ to_wants phi k
to_at phi n vs (Some l) lt = unhidden phi n l vs lt
to_at phi n vs None lt = refl

known_under : (phi : Wants) (n m : ℕ) (vs out : List ℕ) (hs : List Handler) → n < m → Known phi n out hs → Known (over phi n vs) m out hs
known_under phi n m vs out [] le h = tt
known_under phi n m vs out (x ∷ hs) le h = (omega (arith, h.0), subst (λ a. IsWithin a out) (sym (unhidden phi n x.1 vs h.0)) h.1, known_under phi n m vs out hs le h.2)

-- in the body of a new label
pub in_body : {phi : Wants} {n : ℕ} {k : Option ℕ} {hs : List Handler} {out : List ℕ} {returns : Bool} (vs : List ℕ) (m : ℕ) → n < m → IsInside phi n k hs out returns → IsInside (over phi n vs) m k hs out returns
in_body {phi} {n} {k} {hs} {out} vs m le h = record {
  below = below_more n m k (omega arith) h.below;
  to = subst (λ a. IsWithin a out) (sym (to_at phi n vs k h.below)) h.to;
  handlers = known_under phi n m vs out hs le h.handlers;
  last = λ e. let last' = h.last e in (omega (arith, last'.0), subst (λ a. IsWithin a out) (sym (unhidden phi n 0 vs last'.0)) last'.1);
}

-- where more is live outside
known_wider : (phi : Wants) (n : ℕ) (out held : List ℕ) (hs : List Handler) → Known phi n out hs → Known phi n (out ++ held) hs
known_wider phi n out held [] h = tt
known_wider phi n out held (x ∷ hs) h = (h.0, within-left held h.1, known_wider phi n out held hs h.2)

inside_wider : {phi : Wants} {n : ℕ} {k : Option ℕ} {hs : List Handler} {out : List ℕ} {returns : Bool} (held : List ℕ) → IsInside phi n k hs out returns → IsInside phi n k hs (out ++ held) returns
inside_wider {phi} {n} {k} {hs} {out} held h = record {
  below = h.below;
  to = within-left held h.to;
  handlers = known_wider phi n out held hs h.handlers;
  last = λ e. let last' = h.last e in (last'.0, within-left held last'.1);
}

-- in the first part of a `Bind`
pub in_bind : {phi : Wants} {n : ℕ} {k : Option ℕ} {hs : List Handler} {out : List ℕ} {returns : Bool} (vs held : List ℕ) → IsWithin vs (out ++ held) → IsInside phi n k hs out returns
    → IsInside (over phi n vs) (n + 1) (Some n) hs (out ++ held) returns
in_bind {phi} {n} {k} {hs} {out} vs held here h =
    let h' = inside_wider held (in_body vs (n + 1) (omega arith) h) in
    record {
      below = omega arith;
      to = subst (λ a. IsWithin a (out ++ held)) (sym (new_label phi n vs)) here;
      handlers = h'.handlers;
      last = h'.last;
    }

-- in the body of a `Try`
pub in_try : {phi : Wants} {n : ℕ} {k : Option ℕ} {hs : List Handler} {out : List ℕ} {returns : Bool} (e : ℕ) (vs held : List ℕ) → IsWithin vs (out ++ held) → IsInside phi n k hs out returns
    → IsInside (over phi n vs) (n + 1) k ((e, n) ∷ hs) (out ++ held) returns
in_try {phi} {n} {k} {hs} {out} e vs held here h =
    let h' = inside_wider held (in_body vs (n + 1) (omega arith) h) in
    record {
      below = h'.below;
      to = h'.to;
      handlers = (omega arith, subst (λ a. IsWithin a (out ++ held)) (sym (new_label phi n vs)) here, h'.handlers);
      last = h'.last;
    }

-- ---- ends

handlers_within : (phi : Wants) (n : ℕ) (out : List ℕ) (hs : List Handler) → Known phi n out hs → IsWithin (handlers_want phi hs) out
handlers_within phi n out [] h = within-nil out
handlers_within phi n out (x ∷ hs) h = within-both h.1 (handlers_within phi n out hs h.2)

taken_if : (phi : Wants) (out : List ℕ) (b : Bool) (k l : Option ℕ) → IsWithin (to_wants phi k) out → IsWithin (to_wants phi l) out → IsWithin (to_wants phi (if b then k else l)) out
taken_if phi out true k l h g = h
taken_if phi out false k l h g = g

pub taken_within : (phi : Wants) (n e : ℕ) (out : List ℕ) (hs : List Handler) → Known phi n out hs → IsWithin (to_wants phi (handler_of e hs)) out
taken_within phi n e out [] h = within-nil out
taken_within phi n e out (x ∷ hs) h = taken_if phi out (nat_eq x.0 e) (Some x.1) (handler_of e hs) h.1 (taken_within phi n e out hs h.2)

pub raise_wants : (phi : Wants) (o : Option ℕ) (e : ℕ) (bs : List Atom) (out : List ℕ) → IsWithin (to_wants phi o) out → IsWithin (wants phi (raise_term o e bs)) (out ++ all_vars bs)
raise_wants phi (Some l) e bs out h = within-both (within-second out (all_vars bs)) (within-left (all_vars bs) h)
raise_wants phi None e bs out h = within-second out (all_vars bs)

pub give_wants : (phi : Wants) (k : Option ℕ) (bs : List Atom) (out : List ℕ) → IsWithin (to_wants phi k) out → IsWithin (wants phi (give_term k bs)) (out ++ all_vars bs)
give_wants phi (Some l) bs out h = within-both (within-second out (all_vars bs)) (within-left (all_vars bs) h)
give_wants phi None bs out h = within-second out (all_vars bs)

-- where a call's words go, and its handlers
kept_within : {phi : Wants} {n : ℕ} {k : Option ℕ} {hs : List Handler} {out : List ℕ} {returns : Bool} (l : Option ℕ) → IsWithin (to_wants phi l) out → IsInside phi n k hs out returns → IsWithin (kept phi l hs) out
kept_within {phi} {n} {k} {hs} {out} l to h = within-both to (handlers_within phi n out hs h.handlers)

-- what uses the label 0, where its words are the function's, comes with it
abbrev pub Returns : Bool → Option ℕ → Bool → Type 0
Returns uses k returns = k ≡ None → uses ≡ true → returns ≡ true

last_wants : {phi : Wants} {n : ℕ} {hs : List Handler} {out : List ℕ} {returns : Bool} (earlier : Bool) (f : ℕ) (bs : List Atom) → IsInside phi n None hs out returns → (earlier ≡ true → returns ≡ true)
    → IsWithin (wants phi (last_call earlier f bs hs)) (out ++ all_vars bs)
last_wants {out = out} true f bs h e = within-both (within-second out (all_vars bs)) (within-left (all_vars bs) (kept_within (Some 0) (h.last (e refl)).1 h))
last_wants {out = out} false f bs h e = within-both (within-second out (all_vars bs)) (within-left (all_vars bs) (kept_within None (within-nil out) h))

pub call_wants : (phi : Wants) (n : ℕ) (k : Option ℕ) (hs : List Handler) (out : List ℕ) (returns : Bool) (earlier : Bool) (f : ℕ) (bs : List Atom) → IsInside phi n k hs out returns → Returns earlier k returns
    → IsWithin (wants phi (call_term earlier f bs k hs)) (out ++ all_vars bs)
call_wants phi n (Some l) hs out returns earlier f bs h e = within-both (within-second out (all_vars bs)) (within-left (all_vars bs) (kept_within (Some l) h.to h))
call_wants phi n None hs out returns earlier f bs h e = last_wants earlier f bs h (e refl)

-- ---- widths of ends

module _ (funs : List FlatFun) (w : Widths) (own : ℕ) where
  pub raise-wide : (phi : Wants) (o : Option ℕ) (e : ℕ) (bs : List Atom) (out : List ℕ) → IsWithin (to_wants phi o) out → term_wide (lowered_all funs) w own phi (raise_term o e bs) ≤ operands_wide out bs
  raise-wide phi (Some l) e bs out h = operands-more (phi l) out bs h.has
  raise-wide phi None e bs out h = operands-more [] out bs h.has

  pub give-wide : (phi : Wants) (k : Option ℕ) (bs : List Atom) (out : List ℕ) → IsWithin (to_wants phi k) out → term_wide (lowered_all funs) w own phi (give_term k bs) ≤ operands_wide out bs
  give-wide phi (Some l) bs out h = operands-more (phi l) out bs h.has
  give-wide phi None bs out h = operands-more [] out bs h.has

  callee-at : (b : Bool) (m n v r : ℕ) → m ≤ n → (if b then m + v else 0) ≤ (if b then n + max v r else 0)
  callee-at true m n v r le = omega arith
  callee-at false m n v r le = omega arith

  callee : (m n : ℕ) (o : Option FlatFun) → m ≤ n → call_wide w own m (option_map (lowered_fun funs) o) ≤ flat.call_wide w own n o
  callee m n (Some f) le = callee-at (nat_lt f.group own) m n (w f.group) (f.results + 1) le
  callee m n None le = omega arith

  -- of a call that keeps at most what is live outside
  one-call : (phi : Wants) (f : ℕ) (bs : List Atom) (l : Option ℕ) (hs : List Handler) (out : List ℕ) → IsWithin (kept phi l hs) out
      → term_wide (lowered_all funs) w own phi (cps.Call f bs l hs) ≤ max (operands_wide out bs) (flat.call_wide w own (different out) (slice_get funs f))
  one-call phi f bs l hs out h =
      max-mono _ _ _ _ (operands-more (kept phi l hs) out bs h.has)
      (subst (λ o. call_wide w own (different (kept phi l hs)) o ≤ flat.call_wide w own (different out) (slice_get funs f)) (sym (slice_get-map (lowered_fun funs) funs f))
      (callee (different (kept phi l hs)) (different out) (slice_get funs f) (different-below (kept phi l hs) out h.has)))

  last-wide : {phi : Wants} {n : ℕ} {hs : List Handler} {out : List ℕ} {returns : Bool} (earlier : Bool) (f : ℕ) (bs : List Atom) → IsInside phi n None hs out returns → (earlier ≡ true → returns ≡ true)
      → term_wide (lowered_all funs) w own phi (last_call earlier f bs hs) ≤ max (operands_wide out bs) (flat.call_wide w own (different out) (slice_get funs f))
  last-wide {phi} {hs = hs} {out = out} true f bs h e = one-call phi f bs (Some 0) hs out (kept_within (Some 0) (h.last (e refl)).1 h)
  last-wide {phi} {hs = hs} {out = out} false f bs h e = one-call phi f bs None hs out (kept_within None (within-nil out) h)

  pub calls-wide : (phi : Wants) (n : ℕ) (k : Option ℕ) (hs : List Handler) (out : List ℕ) (returns : Bool) (earlier : Bool) (f : ℕ) (bs : List Atom) → IsInside phi n k hs out returns → Returns earlier k returns
      → term_wide (lowered_all funs) w own phi (call_term earlier f bs k hs) ≤ max (operands_wide out bs) (flat.call_wide w own (different out) (slice_get funs f))
  calls-wide phi n (Some l) hs out returns earlier f bs h e = one-call phi f bs (Some l) hs out (kept_within (Some l) h.to h)
  calls-wide phi n None hs out returns earlier f bs h e = last-wide earlier f bs h (e refl)
