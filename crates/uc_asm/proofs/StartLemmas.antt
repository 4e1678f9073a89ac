-- The listing of an object of lawful code is a text of this code.
use Rattle.std.proofs.Common.{◌≡◌, ℕ, suc, ◌+◌, ◌-◌, ◌<◌, ◌≤◌, ◌^◌, ◌==◌, ◌⊎◌, inl, inr, Bool, true, false, get_or, List, [], ◌∷◌, ◌++◌, length, map, refl, sym, ap, ◌∙◌, subst, arith, append_assoc, codes, ◌%◌, decimal, if◌then◌else◌}
use Rattle.std.specs.List.{All}
use Rattle.std.proofs.lemmas.Bool.Decides.{nat_tests}
use Rattle.std.proofs.lemmas.Fmt.{decimal_by_steps, decimal_injective, length-decimal-le}
use Rattle.std.proofs.lemmas.List.Elements.{All-nil, All-cons, All-head, All-tail, All-push, All-weaker}
use Rattle.nv_lines.specs.Line.{text_of}
use Rattle.uc_isa.specs.Code.{CodeView, IsCode}
use Rattle.uc_isa.specs.Lawful.{IsLawful}
use Rattle.uc_isa.specs.declared.instruction.Instr.{Instr}
use Rattle.uc_isa.specs.declared.instruction.Cond.{Cond}
use Rattle.uc_asm.specs.Words.{InRange}
use Rattle.uc_asm.specs.Items.{Item, label, plain, jump, count, item_line, params_line, IsName, IsNameByte, Stands, Misnames}
use Rattle.uc_asm.specs.Text.{AreItems}
use Rattle.uc_asm.specs.Labels.{AreResolved, IsCodeOf}
use Rattle.uc_asm.specs.Starts.{labels_at, start_label, labelled}

-- the name of a label
abbrev start_name : ℕ → List ℕ
start_name k = codes "L" ++ decimal k

digit-is : (n : ℕ) → n < 10 → IsNameByte (48 + n)
digit-is n h = inr (inl (omega arith, omega arith))

decimal-bytes : (n : ℕ) → n < 2 ^ 64 → All IsNameByte (decimal n)
decimal-bytes = decimal_by_steps (λ n ds. All IsNameByte ds)
    (λ n h. All-cons IsNameByte (48 + n) [] (digit-is n h) (All-nil IsNameByte))
    (λ n ds h all. All-push IsNameByte ds (48 + n % 10) all (digit-is (n % 10) (omega arith)))

start-name : (k : ℕ) → k < 2 ^ 32 → IsName (start_name k)
start-name k h = record {
  first = inl (omega arith, omega arith);
  bytes = All-cons IsNameByte 76 (decimal k) (inl (inl (omega arith, omega arith))) (decimal-bytes k (omega arith));
  short = let most = length-decimal-le 10 k (omega arith) (omega arith) (omega arith) in omega arith;
}

start-same : (k j : ℕ) → k < 2 ^ 32 → j < 2 ^ 32 → start_name k ≡ start_name j → k ≡ j
start-same k j hk hj e = let rest : decimal k ≡ decimal j = cc in decimal_injective k j (omega arith) (omega arith) rest

-- numbers of labels are below the number of the starts
below-step : (j s : ℕ) (starts ks : List ℕ) (b : Bool) → All (λ k. k < (j + 1) + length starts) ks → All (λ k. k < j + length (s ∷ starts)) (if b then j ∷ ks else ks)
below-step j s starts ks b h = by b
  where
    P : ℕ → Type 0
    P k = k < j + length (s ∷ starts)

    rest : All P ks
    rest = All-weaker (λ k. k < (j + 1) + length starts) P (λ k h. omega arith) ks h

    by : (b : Bool) → All P (if b then j ∷ ks else ks)
    by true = All-cons P j ks (omega arith) rest
    by false = rest

below-all : (j : ℕ) (starts : List ℕ) (place : ℕ) → All (λ k. k < j + length starts) (labels_at j starts place)
below-all j [] place = All-nil (λ k. k < j + 0)
below-all j (s ∷ starts) place = below-step j s starts (labels_at (j + 1) starts place) (s == place) (below-all (j + 1) starts place)

-- the items have their form
labels-items : (ks : List ℕ) (items : List Item) → All (λ k. k < 2 ^ 32) ks → AreItems items → AreItems (map start_label ks ++ items)
labels-items [] items h a = a
labels-items (k ∷ ks) items h a = (start-name k (All-head (λ n. n < 2 ^ 32) k ks h), labels-items ks items (All-tail (λ n. n < 2 ^ 32) k ks h) a)

start-items : (starts : List ℕ) (p : ℕ) (list : List Instr) → length starts < 2 ^ 32 → All InRange list → AreItems (labelled starts p list)
start-items starts p [] few h = tt
start-items starts p (i ∷ list) few h =
    labels-items (labels_at 0 starts p) (plain i ∷ labelled starts (p + 1) list)
    (All-weaker (λ k. k < 0 + length starts) (λ k. k < 2 ^ 32) (λ k less. omega arith) (labels_at 0 starts p) (below-all 0 starts p))
    (All-head InRange i list h, start-items starts (p + 1) list few (All-tail InRange i list h))

labels-count : (ks : List ℕ) (items : List Item) → count (map start_label ks ++ items) ≡ count items
labels-count [] items = refl
labels-count (k ∷ ks) items = labels-count ks items

start-count : (starts : List ℕ) (p : ℕ) (list : List Instr) → count (labelled starts p list) ≡ length list
start-count starts p [] = refl
start-count starts p (i ∷ list) =
    let e = start-count starts (p + 1) list in
    let head = labels-count (labels_at 0 starts p) (plain i ∷ labelled starts (p + 1) list) in
    omega arith

labels-resolved : (all : List Item) (ks : List ℕ) (items : List Item) (list : List Instr) → AreResolved all items list → AreResolved all (map start_label ks ++ items) list
labels-resolved all [] items list h = h
labels-resolved all (k ∷ ks) items list h = labels-resolved all ks items list h

start-resolved : (all : List Item) (starts : List ℕ) (p : ℕ) (list : List Instr) → AreResolved all (labelled starts p list) list
start-resolved all starts p [] = refl
start-resolved all starts p (i ∷ list) =
    labels-resolved all (labels_at 0 starts p) (plain i ∷ labelled starts (p + 1) list) (i ∷ list) (list, refl, start-resolved all starts (p + 1) list)

-- no item is a branch to a label
abbrev NoJumps : List Item → Type 0
NoJumps [] = Unit {0}
NoJumps (label name ∷ items) = NoJumps items
NoJumps (plain i ∷ items) = NoJumps items
NoJumps (jump cond name ∷ items) = ⊥

labels-jumps : (ks : List ℕ) (items : List Item) → NoJumps items → NoJumps (map start_label ks ++ items)
labels-jumps [] items h = h
labels-jumps (k ∷ ks) items h = labels-jumps ks items h

start-jumps : (starts : List ℕ) (p : ℕ) (list : List Instr) → NoJumps (labelled starts p list)
start-jumps starts p [] = tt
start-jumps starts p (i ∷ list) = labels-jumps (labels_at 0 starts p) (plain i ∷ labelled starts (p + 1) list) (start-jumps starts (p + 1) list)

no-jump : (front back : List Item) (cond : Cond) (name : List ℕ) → ¬ NoJumps (front ++ jump cond name ∷ back)
no-jump [] back cond name h = h
no-jump (label n ∷ front) back cond name h = no-jump front back cond name h
no-jump (plain i ∷ front) back cond name h = no-jump front back cond name h
no-jump (jump c n ∷ front) back cond name h = h

-- a label is among the items
abbrev In : List ℕ → List Item → Type 0
In name [] = ⊥
In name (label n ∷ items) = (n ≡ name) ⊎ In name items
In name (plain i ∷ items) = In name items
In name (jump cond n ∷ items) = In name items

-- no label is there twice
abbrev Distinct : List Item → Type 0
Distinct [] = Unit {0}
Distinct (label name ∷ items) = (¬ In name items) × Distinct items
Distinct (plain i ∷ items) = Distinct items
Distinct (jump cond name ∷ items) = Distinct items

in-append : (name : List ℕ) (xs ys : List Item) → In name (xs ++ ys) → In name xs ⊎ In name ys
in-append name [] ys h = inr h
in-append name (label n ∷ xs) ys (inl h) = inl (inl h)
in-append name (label n ∷ xs) ys (inr h) = elim (in-append name xs ys h) [ inl a ↦ inl (inr a) | inr b ↦ inr b ]
in-append name (plain i ∷ xs) ys h = in-append name xs ys h
in-append name (jump c n ∷ xs) ys h = in-append name xs ys h

in-here : (name : List ℕ) (front back : List Item) → In name (front ++ label name ∷ back)
in-here name [] back = inl refl
in-here name (label n ∷ front) back = inr (in-here name front back)
in-here name (plain i ∷ front) back = in-here name front back
in-here name (jump c n ∷ front) back = in-here name front back

distinct-append : (xs ys : List Item) → Distinct xs → Distinct ys → ((name : List ℕ) → In name xs → ¬ In name ys) → Distinct (xs ++ ys)
distinct-append [] ys h k apart = k
distinct-append (label n ∷ xs) ys h k apart = (
  λ i. elim (in-append n xs ys i) [ inl a ↦ h.0 a | inr b ↦ apart n (inl refl) b ],
  distinct-append xs ys h.1 k (λ name i. apart name (inr i)),
)
distinct-append (plain i ∷ xs) ys h k apart = distinct-append xs ys h k apart
distinct-append (jump c n ∷ xs) ys h k apart = distinct-append xs ys h k apart

-- the labels at a place: their numbers, and where they start
pub record IsLabelAt (name : List ℕ) (j : ℕ) (starts : List ℕ) (p : ℕ) : Type 0 where
  pub k : ℕ
  pub from : j ≤ k
  pub below : k < j + length starts
  pub named : name ≡ start_name k
  pub place : get_or starts (k - j) 0 ≡ p

later : (name : List ℕ) (j s : ℕ) (starts : List ℕ) (p : ℕ) → IsLabelAt name (j + 1) starts p → IsLabelAt name j (s ∷ starts) p
later name j s starts p h =
    let from = h.from in
    let below = h.below in
    let far : h.k - j ≡ suc (h.k - (j + 1)) = omega arith in
    record { k = h.k; from = omega arith; below = omega arith; named = h.named; place = ap (λ n. get_or (s ∷ starts) n 0) far ∙ h.place }

in-step : (name : List ℕ) (j s : ℕ) (starts : List ℕ) (p : ℕ) (b : Bool) → (s == p) ≡ b → (In name (map start_label (labels_at (j + 1) starts p)) → IsLabelAt name (j + 1) starts p)
    → In name (map start_label (if b then j ∷ labels_at (j + 1) starts p else labels_at (j + 1) starts p)) → IsLabelAt name j (s ∷ starts) p
in-step name j s starts p true e more (inl h) =
    let same : s ≡ p = grind (arith, nat_tests) in
    let none : j - j ≡ 0 = omega arith in
    record { k = j; from = omega arith; below = omega arith; named = sym h; place = ap (λ n. get_or (s ∷ starts) n 0) none ∙ same }
in-step name j s starts p true e more (inr h) = later name j s starts p (more h)
in-step name j s starts p false e more h = later name j s starts p (more h)

in-block : (name : List ℕ) (j : ℕ) (starts : List ℕ) (p : ℕ) → In name (map start_label (labels_at j starts p)) → IsLabelAt name j starts p
in-block name j [] p h = absurd h
in-block name j (s ∷ starts) p h = in-step name j s starts p (s == p) refl (in-block name (j + 1) starts p) h

distinct-step : (j s : ℕ) (starts : List ℕ) (p : ℕ) (b : Bool) → j + length (s ∷ starts) < 2 ^ 32 → Distinct (map start_label (labels_at (j + 1) starts p))
    → Distinct (map start_label (if b then j ∷ labels_at (j + 1) starts p else labels_at (j + 1) starts p))
distinct-step j s starts p true few rest = (
  λ i.
      let found = in-block (start_name j) (j + 1) starts p i in
      let from = found.from in
      let below = found.below in
      let same = start-same j found.k (omega arith) (omega arith) found.named in
      omega arith,
  rest,
)
distinct-step j s starts p false few rest = rest

block-distinct : (j : ℕ) (starts : List ℕ) (p : ℕ) → j + length starts < 2 ^ 32 → Distinct (map start_label (labels_at j starts p))
block-distinct j [] p few = tt
block-distinct j (s ∷ starts) p few = distinct-step j s starts p (s == p) few (block-distinct (j + 1) starts p (omega arith))

-- a label among those from a place on starts there or later
pub record IsLabelFrom (name starts : List ℕ) (p : ℕ) : Type 0 where
  pub k : ℕ
  pub below : k < length starts
  pub named : name ≡ start_name k
  pub place : p ≤ get_or starts k 0

at-start : (starts : List ℕ) (k p : ℕ) → get_or starts (k - 0) 0 ≡ p → get_or starts k 0 ≡ p
at-start starts k p e = let none : k ≡ k - 0 = omega arith in ap (λ n. get_or starts n 0) none ∙ e

in-all : (name starts : List ℕ) (p : ℕ) (list : List Instr) → In name (labelled starts p list) → IsLabelFrom name starts p
in-all name starts p [] h = absurd h
in-all name starts p (i ∷ list) h = elim (in-append name (map start_label (labels_at 0 starts p)) (plain i ∷ labelled starts (p + 1) list) h) [
  | inl here ↦
      let found = in-block name 0 starts p here in
      let below = found.below in
      let place = at-start starts found.k p found.place in
      record { k = found.k; below = omega arith; named = found.named; place = omega arith }
  | inr there ↦
      let found = in-all name starts (p + 1) list there in
      let place = found.place in
      record { k = found.k; below = found.below; named = found.named; place = omega arith }
]

start-distinct : (starts : List ℕ) (p : ℕ) (list : List Instr) → length starts < 2 ^ 32 → Distinct (labelled starts p list)
start-distinct starts p [] few = tt
start-distinct starts p (i ∷ list) few =
    distinct-append (map start_label (labels_at 0 starts p)) (plain i ∷ labelled starts (p + 1) list) (block-distinct 0 starts p (omega arith)) (start-distinct starts (p + 1) list few)
    (λ name h k.
    let one = in-block name 0 starts p h in
    let other = in-all name starts (p + 1) list k in
    let below = one.below in
    let below' = other.below in
    let same = start-same one.k other.k (omega arith) (omega arith) (sym one.named ∙ other.named) in
    let here : get_or starts one.k 0 ≡ p = at-start starts one.k p one.place in
    let there = other.place in
    let both : get_or starts one.k 0 ≡ get_or starts other.k 0 = ap (λ n. get_or starts n 0) same in
    omega arith)

-- a label that stands after itself
twice : (name : List ℕ) (front mid back : List Item) → ¬ Distinct (front ++ label name ∷ (mid ++ label name ∷ back))
twice name [] mid back h = h.0 (in-here name mid back)
twice name (label n ∷ front) mid back h = twice name front mid back h.1
twice name (plain i ∷ front) mid back h = twice name front mid back h
twice name (jump c n ∷ front) mid back h = twice name front mid back h

good-named : (items front back : List Item) (item : Item) → NoJumps items → Distinct items → Stands items front item back → ¬ Misnames items front item
good-named items front back (label name) jumps distinct s m =
    let at = m.1 in
    let f = at.0 in
    let b = at.1 in
    let whole : items ≡ f ++ label name ∷ (b ++ label name ∷ back) =
    s.whole ∙ ap (λ (xs : List Item). xs ++ label name ∷ back) at.2.whole ∙ append_assoc f (label name ∷ b) (label name ∷ back) in
    twice name f b back (subst Distinct whole distinct)
good-named items front back (plain i) jumps distinct s m = m
good-named items front back (jump cond name) jumps distinct s m = no-jump front back cond name (subst NoJumps s.whole jumps)

pub starts-text : (c : CodeView) (starts : List ℕ) → IsCode c → All InRange c.list → IsLawful c.list → length starts < 2 ^ 32
    → IsCodeOf (text_of (params_line c.params ∷ map item_line (labelled starts 0 c.list))) c
starts-text c starts is fits lawful few =
    let items = labelled starts 0 c.list in
    record {
      items = items;
      says = record {
        reads = record {
          ls = params_line c.params ∷ map item_line items;
          spelled = refl;
          assembly = record { lines = refl; few = is.params; each = start-items starts 0 c.list few fits; some = let some = is.some in let e = start-count starts 0 c.list in omega arith };
        };
        named = λ front back item s. good-named items front back item (start-jumps starts 0 c.list) (start-distinct starts 0 c.list few) s;
        resolved = start-resolved items starts 0 c.list;
      };
      lawful = lawful;
    }
