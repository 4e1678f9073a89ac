-- One turn of a loop over the labels of a flow, some of which are left out.
use Rattle.std.proofs.Common.{◌≡◌, ℕ, suc, ◌+◌, ◌<◌, Bool, true, false, ◌&&◌, ◌||◌, if◌then◌else◌, List, [], ◌∷◌, ◌++◌, map, drop, get_or, length, ⊎_elim, refl, sym, ap, ◌∙◌, append_assoc, append-nil, arith}
use Rattle.std.proofs.lemmas.Bool.{cases_eq}
use Rattle.std.proofs.lemmas.List.{at_drop_more, map-append, length_push, get_or_append_left, get_or_push}
use Rattle.flow_ir.specs.declared.flow.Label.{Label as DeclaredLabel}
use Rattle.flow_ir.specs.Tree.{Tree, Let, Read, Write, If, Jump, Halt, Label}
use Rattle.flow_ir.specs.View.{label_view}
use Rattle.flow_ir.specs.inner.Pruned.{is_out, goes_on, all_go_on, rank, relabelled, left}

pub item-next : {X : Type 0} (xs : List X) (i : ℕ) (x : X) → i < length xs → x ≡ get_or xs i x → drop i xs ≡ x ∷ drop (i + 1) xs
item-next xs i x lt is = at_drop_more (λ l. l) xs i x lt ∙ ap (λ y. y ∷ drop (i + 1) xs) (sym is)

-- ---- where nothing is left out

goes-anywhere : (t : Tree) → goes_on [] t ≡ true
goes-anywhere (Let x a t) = goes-anywhere t
goes-anywhere (Read m xs a t) = goes-anywhere t
goes-anywhere (Write m a bs t) = goes-anywhere t
goes-anywhere (If c a b t u) = ap (λ b. b && goes_on [] u) (goes-anywhere t) ∙ goes-anywhere u
goes-anywhere (Jump l bs) = refl
goes-anywhere (Halt e bs) = refl

pub all-go-anywhere : (i : ℕ) (ls : List Label) → all_go_on [] i ls ≡ true
all-go-anywhere i [] = refl
all-go-anywhere i (l ∷ ls) = ap (λ b. b && all_go_on [] (suc i) ls) (goes-anywhere l.body) ∙ all-go-anywhere (suc i) ls

-- ---- whether all labels go on to those that are there

abbrev pub Goes : List Bool → List DeclaredLabel → ℕ → Type 0
Goes out labels i = all_go_on out i (map label_view (drop i labels)) ≡ all_go_on out 0 (map label_view labels)

goes-step : (out : List Bool) (labels : List DeclaredLabel) (i : ℕ) (l : DeclaredLabel) (b : Bool) → i < length labels → l ≡ get_or labels i l → b ≡ (is_out out i || goes_on out (label_view l).body) → all_go_on out i (map label_view (drop i labels)) ≡ (b && all_go_on out (i + 1) (map label_view (drop (i + 1) labels)))
goes-step out labels i l b lt at is =
    let next : suc i ≡ i + 1 = omega arith in
    ap (λ r. all_go_on out i (map label_view r)) (item-next labels i l lt at) ∙ ap (λ c. c && all_go_on out (suc i) (map label_view (drop (i + 1) labels))) (sym is)
    ∙ ap (λ j. b && all_go_on out j (map label_view (drop (i + 1) labels))) next

pub goes-turn : (out : List Bool) (labels : List DeclaredLabel) (i : ℕ) (l : DeclaredLabel) (b : Bool) → i < length labels → l ≡ get_or labels i l → b ≡ (is_out out i || goes_on out (label_view l).body) → b ≡ true → Goes out labels i → Goes out labels (i + 1)
goes-turn out labels i l b lt at is holds was =
    sym (goes-step out labels i l b lt at is ∙ ap (λ c. c && all_go_on out (i + 1) (map label_view (drop (i + 1) labels))) holds) ∙ was

pub goes-not : (out : List Bool) (labels : List DeclaredLabel) (i : ℕ) (l : DeclaredLabel) (b : Bool) → i < length labels → l ≡ get_or labels i l → b ≡ (is_out out i || goes_on out (label_view l).body) → b ≡ false → Goes out labels i → false ≡ all_go_on out 0 (map label_view labels)
goes-not out labels i l b lt at is fails was =
    sym (goes-step out labels i l b lt at is ∙ ap (λ c. c && all_go_on out (i + 1) (map label_view (drop (i + 1) labels))) fails) ∙ was

pub goes-end : (out : List Bool) (labels : List DeclaredLabel) (i : ℕ) → drop i labels ≡ [] → Goes out labels i → true ≡ all_go_on out 0 (map label_view labels)
goes-end out labels i e was = sym (ap (λ r. all_go_on out i (map label_view r)) e) ∙ was

-- ---- numbers

pub record Ranks (out : List Bool) (i n : ℕ) (to : List ℕ) : Type 0 where
  pub count : length to ≡ i
  pub next : n ≡ rank out i
  pub each : (k : ℕ) → k < i → get_or to k 0 ≡ rank out k

pub ranks-turn : (out : List Bool) (i n m : ℕ) (old now : List ℕ) → Ranks out i n old → now ≡ old ++ n ∷ [] → m ≡ (if is_out out i then n else suc n) → Ranks out (i + 1) m now
ranks-turn out i n m old now h push is =
    let more : i + 1 ≡ suc i = omega arith in
    record {
      count = let len = length_push old n in let p = ap length push in let c = h.count in omega (arith, len, p, c);
      next = is ∙ ap (λ x. if is_out out i then x else suc x) h.next ∙ sym (ap (rank out) more);
      each = λ k lt.
          ap (λ l. get_or l k 0) push
          ∙ ⊎_elim (λ (e : k ≡ i). ap (λ j. get_or (old ++ n ∷ []) j 0) e ∙ get_or_push old n 0 i h.count ∙ h.next ∙ sym (ap (rank out) e))
          (λ (ne : k ≡ i → ⊥). let c = h.count in get_or_append_left old (n ∷ []) 0 k (omega (arith, c, ne, lt)) ∙ h.each k (omega (arith, ne, lt))) (cases_eq k i);
    }

-- ---- what is left

abbrev pub Leaves : List Bool → (ℕ → ℕ) → List DeclaredLabel → ℕ → List DeclaredLabel → Type 0
Leaves out to labels i v = map label_view v ++ left out to i (map label_view (drop i labels)) ≡ left out to 0 (map label_view labels)

left-step : (out : List Bool) (to : ℕ → ℕ) (labels : List DeclaredLabel) (i : ℕ) (l : DeclaredLabel) (b : Bool) → i < length labels → l ≡ get_or labels i l → is_out out i ≡ b
    → left out to i (map label_view (drop i labels)) ≡ (if b then left out to (i + 1) (map label_view (drop (i + 1) labels)) else relabelled to (label_view l) ∷ left out to (i + 1) (map label_view (drop (i + 1) labels)))
left-step out to labels i l b lt at is =
    let next : suc i ≡ i + 1 = omega arith in
    ap (λ r. left out to i (map label_view r)) (item-next labels i l lt at)
    ∙ ap (λ c. if c then left out to (suc i) (map label_view (drop (i + 1) labels)) else relabelled to (label_view l) ∷ left out to (suc i) (map label_view (drop (i + 1) labels))) is
    ∙ ap (λ j. if b then left out to j (map label_view (drop (i + 1) labels)) else relabelled to (label_view l) ∷ left out to j (map label_view (drop (i + 1) labels))) next

pub left-take : (out : List Bool) (to : ℕ → ℕ) (labels : List DeclaredLabel) (i : ℕ) (l m : DeclaredLabel) (old now : List DeclaredLabel) → i < length labels → l ≡ get_or labels i l → is_out out i ≡ false → now ≡ old ++ m ∷ [] → label_view m ≡ relabelled to (label_view l) → Leaves out to labels i old → Leaves out to labels (i + 1) now
left-take out to labels i l m old now lt at is push made was =
    let rest = left out to (i + 1) (map label_view (drop (i + 1) labels)) in
    ap (λ v. map label_view v ++ rest) push ∙ ap (λ v. v ++ rest) (map-append label_view old (m ∷ [])) ∙ append_assoc (map label_view old) (label_view m ∷ []) rest
    ∙ ap (λ x. map label_view old ++ x ∷ rest) made ∙ ap (λ r. map label_view old ++ r) (sym (left-step out to labels i l false lt at is)) ∙ was

pub left-pass : (out : List Bool) (to : ℕ → ℕ) (labels : List DeclaredLabel) (i : ℕ) (l : DeclaredLabel) (old now : List DeclaredLabel) → i < length labels → l ≡ get_or labels i l → is_out out i ≡ true → now ≡ old → Leaves out to labels i old → Leaves out to labels (i + 1) now
left-pass out to labels i l old now lt at is same was =
    let rest = left out to (i + 1) (map label_view (drop (i + 1) labels)) in
    ap (λ v. map label_view v ++ rest) same ∙ ap (λ r. map label_view old ++ r) (sym (left-step out to labels i l true lt at is)) ∙ was

pub left-end : (out : List Bool) (to : ℕ → ℕ) (labels v : List DeclaredLabel) (i : ℕ) → drop i labels ≡ [] → Leaves out to labels i v → map label_view v ≡ left out to 0 (map label_view labels)
left-end out to labels v i e was = sym (append-nil (map label_view v)) ∙ sym (ap (λ r. map label_view v ++ left out to i (map label_view r)) e) ∙ was
