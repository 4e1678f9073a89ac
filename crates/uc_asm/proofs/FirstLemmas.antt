-- The first declaration of a name, and what each item gives by it.
use Rattle.std.proofs.Common.{◌≡◌, ◌≢◌, ℕ, ◌+◌, ◌<◌, ◌⊎◌, inl, inr, Bool, true, false, cond, if◌then◌else◌, List, [], ◌∷◌, length, get_or, drop, Option, None, Some, nat_eq, refl, sym, ap, ◌∙◌, subst, arith}
use Rattle.std.specs.Cmp.Lexicographic.{pointwise}
use Rattle.uc_asm.specs.Items.{Item, label, plain, jump, count, Stands, IsAt, IsDeclared, IsInstruction}
use Rattle.uc_asm.specs.inner.First.{first_declared, or_else}
use Rattle.uc_asm.specs.inner.Seen.{seen, all_seen}
use Rattle.uc_asm.specs.declared.given.Declared.{Declared}
use Rattle.uc_asm.specs.declared.item.Item.{Item as ReadItem}
use Rattle.uc_asm.proofs.LabelLemmas.{bytes-tell, or_else-assoc}
use Rattle.uc_asm.proofs.StandLemmas.{none-stands, stands-alike, stands-before, stands-cons, declared-here, declared-cons, drop-more-seen}

-- an item declares the name, and none before it
pub record IsFirst (items : List Item) (index place : ℕ) (name : List ℕ) (d : Declared) : Type 0 where
  pub front : List Item
  pub back : List Item
  pub stands : Stands items front (label name) back
  pub at : d.index ≡ index + length front
  pub before : d.place ≡ place + count front
  pub first : ¬ IsDeclared front name

abbrev pub Finds : List Item → ℕ → ℕ → List ℕ → Option Declared → Type 0
Finds items index place name None = ¬ IsDeclared items name
Finds items index place name (Some d) = IsFirst items index place name d

none-declared : (name : List ℕ) → ¬ IsDeclared [] name
none-declared name d = none-stands d.1.0 d.1.1 (label name) d.1.2

-- after an item that doesn't declare the name
not-here : (x : Item) (items : List Item) (name : List ℕ) → x ≢ label name → ¬ IsDeclared items name → ¬ IsDeclared (x ∷ items) name
not-here x items name other none d = by (declared-cons x items name d)
  where
    by : (x ≡ label name) ⊎ IsDeclared items name → ⊥
    by (inl e) = other e
    by (inr k) = none k

behind : (x : Item) (items : List Item) (index place next : ℕ) (name : List ℕ) (r : Option Declared) → x ≢ label name → next ≡ place + count (x ∷ []) → ((xs : List Item) → count (x ∷ xs) ≡ count (x ∷ []) + count xs) → Finds items (index + 1) next name r
    → Finds (x ∷ items) index place name r
behind x items index place next name None other n more h = not-here x items name other h
behind x items index place next name (Some d) other n more h =
    record {
      front = x ∷ h.front;
      back = h.back;
      stands = stands-cons x items h.front h.back (label name) h.stands;
      at = let e = h.at in omega arith;
      before = let e = h.before in let m = more h.front in omega arith;
      first = not-here x h.front name other h.first;
    }

pub first-finds : (items : List Item) (index place : ℕ) (name : List ℕ) → Finds items index place name (first_declared items index place name)
first-finds [] index place name = none-declared name
first-finds (label other ∷ items) index place name = by (pointwise nat_eq name other) (bytes-tell name other) (first_declared items (index + 1) place name) (first-finds items (index + 1) place name)
  where
    by : (same : Bool) → ((same ≡ true) × (name ≡ other)) ⊎ ((same ≡ false) × (name ≢ other)) → (r : Option Declared) → Finds items (index + 1) place name r
        → Finds (label other ∷ items) index place name (or_else (if same then Some (record { index = index; place = place }) else None) r)
    by true (inl h) r f =
        record { front = []; back = items; stands = record { whole = ap (λ (n : List ℕ). label n ∷ items) (sym h.1) }; at = omega arith; before = omega arith; first = none-declared name }
    by true (inr h) r f = let e = h.0 in cc
    by false (inl h) r f = let e = h.0 in cc
    by false (inr h) r f = behind (label other) items index place place name r (λ e. h.1 (let k : other ≡ name = cc in sym k)) (omega arith) (λ xs. omega arith) f
first-finds (plain i ∷ items) index place name =
    behind (plain i) items index place (place + 1) name (first_declared items (index + 1) (place + 1) name) (λ e. cc) (omega arith) (λ xs. omega arith) (first-finds items (index + 1) (place + 1) name)
first-finds (jump c other ∷ items) index place name =
    behind (jump c other) items index place (place + 1) name (first_declared items (index + 1) (place + 1) name) (λ e. cc) (omega arith) (λ xs. omega arith) (first-finds items (index + 1) (place + 1) name)

-- a label that is declared here first
pub here-first : (items front back : List Item) (name : List ℕ) (d : Declared) → Stands items front (label name) back → IsFirst items 0 0 name d → d.index ≡ length front → ¬ IsDeclared front name
here-first items front back name d s f e =
    let at = f.at in
    let same = (stands-alike items f.front front f.back back (label name) (label name) f.stands s (omega arith)).0 in
    subst (λ (is : List Item). ¬ IsDeclared is name) same f.first

-- a label that is declared before
pub here-again : (items front back : List Item) (name : List ℕ) (d : Declared) → Stands items front (label name) back → IsFirst items 0 0 name d → d.index ≢ length front → IsDeclared front name
here-again items front back name d s f other = by (sides (length f.front) (length front) (λ e. let at = f.at in other (omega arith)))
  where
    sides : (m n : ℕ) → m ≢ n → (m < n) ⊎ (n < m)
    sides m n h = grind arith

    by : (length f.front < length front) ⊎ (length front < length f.front) → IsDeclared front name
    by (inl lt) = let r = stands-before items f.front front f.back back (label name) (label name) f.stands s lt in declared-here front f.front r.0 name r.1
    by (inr lt) = let r = stands-before items front f.front back f.back (label name) (label name) s f.stands lt in absurd (f.first (declared-here f.front front r.0 name r.1))

-- the place of a name
pub at-first : (items : List Item) (name : List ℕ) (d : Declared) → IsFirst items 0 0 name d → IsAt items name d.place
at-first items name d f = let e = f.before in (f.front, f.back, f.stands, omega arith)

-- what an item gives by what was found of its name
pub label-nothing : (items front back : List Item) (name : List ℕ) (d : Declared) → Some d ≡ first_declared items 0 0 name → Stands items front (label name) back → length front ≡ d.index → ¬ IsDeclared front name
label-nothing items front back name d e s l = here-first items front back name d s (subst (Finds items 0 0 name) (sym e) (first-finds items 0 0 name)) (sym l)

pub label-again : (items front back : List Item) (name : List ℕ) (d : Declared) → Some d ≡ first_declared items 0 0 name → Stands items front (label name) back → length front ≢ d.index → IsDeclared front name
label-again items front back name d e s l = here-again items front back name d s (subst (Finds items 0 0 name) (sym e) (first-finds items 0 0 name)) (λ k. l (sym k))

pub label-found : (items front back : List Item) (name : List ℕ) → None ≡ first_declared items 0 0 name → ¬ Stands items front (label name) back
label-found items front back name e s = subst (Finds items 0 0 name) (sym e) (first-finds items 0 0 name) (declared-here items front back name s)

pub target-at : (items : List Item) (name : List ℕ) (d : Declared) → Some d ≡ first_declared items 0 0 name → IsAt items name d.place
target-at items name d e = at-first items name d (subst (Finds items 0 0 name) (sym e) (first-finds items 0 0 name))

pub target-not : (items : List Item) (name : List ℕ) → None ≡ first_declared items 0 0 name → ¬ IsDeclared items name
target-not items name e = subst (Finds items 0 0 name) (sym e) (first-finds items 0 0 name)

-- the first declaration among the items read so far, or else that among the others
abbrev pub FindsFirst : (List ℕ → Option Declared) → List ReadItem → ℕ → ℕ → Type 0
FindsFirst found items k place = (name : List ℕ) → or_else (found name) (first_declared (all_seen (drop k items)) k place name) ≡ first_declared (all_seen items) 0 0 name

pub finds-label : (found more : List ℕ → Option Declared) (items : List ReadItem) (k place : ℕ) (x : ReadItem) (own : List ℕ) → k < length items → x ≡ get_or items k x → seen x ≡ label own
    → ((name : List ℕ) → more name ≡ or_else (found name) (if pointwise nat_eq name own then Some (record { index = k; place = place }) else None)) → FindsFirst found items k place → FindsFirst more items (k + 1) place
finds-label found more items k place x own l e s n h name =
    let here = if pointwise nat_eq name own then Some (record { index = k; place = place }) else None in
    let rest = first_declared (all_seen (drop (k + 1) items)) (k + 1) place name in
    ap (λ (o : Option Declared). or_else o rest) (n name) ∙ (or_else-assoc (found name) here rest
    ∙ (ap (λ (is : List Item). or_else (found name) (first_declared is k place name)) (sym (drop-more-seen items k x l e ∙ ap (λ (i : Item). i ∷ all_seen (drop (k + 1) items)) s)) ∙ h name))

pub finds-other : (found : List ℕ → Option Declared) (items : List ReadItem) (k place : ℕ) (x : ReadItem) → k < length items → x ≡ get_or items k x → IsInstruction (seen x) → FindsFirst found items k place → FindsFirst found items (k + 1) (place + 1)
finds-other found items k place x l e i h name =
    ap (or_else (found name)) (passes (seen x) (all_seen (drop (k + 1) items)) k place name i) ∙ (ap (λ (is : List Item). or_else (found name) (first_declared is k place name)) (sym (drop-more-seen items k x l e)) ∙ h name)
  where
    passes : (y : Item) (ys : List Item) (k place : ℕ) (name : List ℕ) → IsInstruction y → first_declared ys (k + 1) (place + 1) name ≡ first_declared (y ∷ ys) k place name
    passes (label other) ys k place name i = absurd i
    passes (plain j) ys k place name i = refl
    passes (jump cond other) ys k place name i = refl
