-- What is left of a flow is led to.
use Rattle.std.proofs.Common.{◌≡◌, ℕ, zero, suc, ◌+◌, ◌<◌, inl, inr, Bool, true, false, if◌then◌else◌, List, [], ◌∷◌, length, Some, slice_get, refl, sym, ap, ◌∙◌, subst, arith}
use Rattle.std.proofs.lemmas.Bool.{and_parts, not-true}
use Rattle.std.proofs.lemmas.Option.{slice_get_within}
use Rattle.flow_ir.specs.Tree.{Tree, Let, Read, Write, If, Jump, Halt, Label}
use Rattle.flow_ir.specs.Reachable.{GoesTo, IsReachable, first, jumped, AreReachable}
use Rattle.flow_ir.specs.inner.Pruned.{is_out, goes_on, all_go_on, rank, renumbered, relabelled, left, IsPruned}
use Rattle.flow_ir.proofs.Left.{rank-out, rank-in, left-at, goes-at}

goes-renumbered : (to : ℕ → ℕ) (t : Tree) (m : ℕ) → GoesTo t m → GoesTo (renumbered to t) (to m)
goes-renumbered to (Let x a t) m h = goes-renumbered to t m h
goes-renumbered to (Read x xs a t) m h = goes-renumbered to t m h
goes-renumbered to (Write x a bs t) m h = goes-renumbered to t m h
goes-renumbered to (If c a b t u) m (inl h) = inl (goes-renumbered to t m h)
goes-renumbered to (If c a b t u) m (inr h) = inr (goes-renumbered to u m h)
goes-renumbered to (Jump l bs) m h = ap to h
goes-renumbered to (Halt e bs) m h = absurd h

goes-there : (out : List Bool) (t : Tree) (m : ℕ) → goes_on out t ≡ true → GoesTo t m → is_out out m ≡ false
goes-there out (Let x a t) m e h = goes-there out t m e h
goes-there out (Read x xs a t) m e h = goes-there out t m e h
goes-there out (Write x a bs t) m e h = goes-there out t m e h
goes-there out (If c a b t u) m e (inl h) = goes-there out t m (and_parts (goes_on out t) (goes_on out u) e).0 h
goes-there out (If c a b t u) m e (inr h) = goes-there out u m (and_parts (goes_on out t) (goes_on out u) e).1 h
goes-there out (Jump l bs) m e h = ap (is_out out) h ∙ not-true (is_out out l) e
goes-there out (Halt x bs) m e h = absurd h

-- a label that was led to is left, and its new number is led to
led-in : (out : List Bool) (to : ℕ → ℕ) (ls : List Label) → is_out out 0 ≡ false → all_go_on out 0 ls ≡ true → ((i : ℕ) → i < length ls → to i ≡ rank out i) → (m : ℕ) → m < length ls → IsReachable ls m → (is_out out m ≡ false) × IsReachable (left out to 0 ls) (rank out m)
led-in out to ls begun closed ranked m lt first = (begun, first)
led-in out to ls begun closed ranked i lt (jumped l m from led at goes) =
    let before = led-in out to ls begun closed ranked l (slice_get_within ls l from at) led in
    let on : goes_on out from.body ≡ true = goes-at out ls 0 l l from closed at (omega arith) before.0 in
    let put : slice_get (left out to 0 ls) (rank out l) ≡ Some (relabelled to from) = left-at out to ls 0 l l (rank out l) from at (omega arith) before.0 (omega arith) in (
      goes-there out from.body m on goes,
      jumped (rank out l) (rank out m) (relabelled to from) before.1 put (subst (λ (n : ℕ). GoesTo (renumbered to from.body) n) (ranked m lt) (goes-renumbered to from.body m goes)),
    )

-- each label that is left has an old number
abbrev WasAt : List Bool → ℕ → ℕ → ℕ → Type 0
WasAt out i count j = (k : ℕ) × (k < i + count) × (is_out out k ≡ false) × (rank out k ≡ j + rank out i)

was-later : (out : List Bool) (i count j n : ℕ) → j + rank out (suc i) ≡ n + rank out i → WasAt out (suc i) count j → WasAt out i (suc count) n
was-later out i count j n e h = let lt = h.1 in (h.0, omega (arith, lt), h.2, h.3 ∙ e)

was-taken : (out : List Bool) (i count j : ℕ) → is_out out i ≡ false → ((k : ℕ) → j ≡ suc k → WasAt out (suc i) count k) → WasAt out i (suc count) j
was-taken out i count zero e f = (i, omega arith, e, omega arith)
was-taken out i count (suc j) e f = was-later out i count j (suc j) (let more = rank-in out i e in omega (arith, more)) (f j refl)

left-was : (out : List Bool) (to : ℕ → ℕ) (i : ℕ) (gs : List Label) (c : Bool) (j : ℕ) → is_out out i ≡ c → (g : Label) → j < length (if c then left out to (suc i) gs else relabelled to g ∷ left out to (suc i) gs)
    → ((k : ℕ) → k < length (left out to (suc i) gs) → WasAt out (suc i) (length gs) k) → WasAt out i (suc (length gs)) j
left-was out to i gs true j e g lt f = was-later out i (length gs) j j (ap (λ (n : ℕ). j + n) (rank-out out i e)) (f j lt)
left-was out to i gs false j e g lt f = was-taken out i (length gs) j e (λ k is. f k (omega (arith, lt, is)))

left-from : (out : List Bool) (to : ℕ → ℕ) (i : ℕ) (gs : List Label) (j : ℕ) → j < length (left out to i gs) → WasAt out i (length gs) j
left-from out to i [] j lt = absurd (omega arith)
left-from out to i (g ∷ gs) j lt = left-was out to i gs (is_out out i) j refl g lt (λ k within. left-from out to (suc i) gs k within)

pub pruned-led : (ls ms : List Label) → IsPruned ls ms → AreReachable ms
pruned-led ls ms h = λ l lt.
    let was = left-from h.out h.to 0 ls l (subst (λ (xs : List Label). l < length xs) h.labels lt) in
    let within : was.0 < length ls = let le = was.1 in omega (arith, le) in
    let number : rank h.out was.0 ≡ l = let e = was.3 in omega (arith, e) in
    let led = led-in h.out h.to ls h.first h.closed h.ranked was.0 within (h.led.led was.0 within was.2) in
    subst (λ (xs : List Label). IsReachable xs l) (sym h.labels) (subst (λ (n : ℕ). IsReachable (left h.out h.to 0 ls) n) number led.1)
