-- A text has one meaning: names are faulty at one line, and good names give one list of instructions.
use Rattle.std.proofs.Common.{◌≡◌, ℕ, ◌+◌, ◌<◌, ◌≤◌, ◌⊎◌, inl, inr, List, [], ◌∷◌, ◌++◌, suc, length, take, drop, get_or, refl, sym, ap, ◌∙◌, subst, arith, length-append}
use Rattle.uc_isa.proofs.FirstBroken.{not-before}
use Rattle.uc_isa.specs.declared.instruction.Instr.{Instr}
use Rattle.uc_isa.specs.declared.instruction.Instr.TheVariants.{Br}
use Rattle.uc_asm.specs.Items.{Item, label, plain, jump, count, Stands, IsAt, Misnames, IsInstruction}
use Rattle.uc_asm.specs.Labels.{AreNamed, FirstMisnamed, AreResolved}
use Rattle.uc_asm.specs.inner.Gives.{Gives}
use Rattle.uc_asm.specs.inner.Resolving.{IsLineOf}
use Rattle.uc_asm.specs.declared.given.Resolved.TheVariants.{Instruction, Nothing}
use Rattle.uc_asm.specs.inner.Seen.{seen, all_seen}
use Rattle.uc_asm.specs.declared.item.Item.{Item as ReadItem}
use Rattle.uc_asm.proofs.StandLemmas.{stands-alike, stands-before, declared-here, count-append, count-instruction, stands-at, length-front, take-more-seen}

-- where no name is declared twice, each has one place
declared-twice : (items front back front' back' : List Item) (name : List ℕ) → AreNamed items → Stands items front (label name) back → Stands items front' (label name) back' → length front < length front' → ⊥
declared-twice items front back front' back' name named s t lt =
    let r = stands-before items front front' back back' (label name) (label name) s t lt in
    named front' back' (label name) t (declared-here front' front r.0 name r.1)

at-one : (items : List Item) (name : List ℕ) (p q : ℕ) → AreNamed items → IsAt items name p → IsAt items name q → p ≡ q
at-one items name p q named h k =
    let same = not-before (length h.0) (length k.0) (declared-twice items h.0 h.1 k.0 k.1 name named h.2 k.2) (declared-twice items k.0 k.1 h.0 h.1 name named k.2 h.2) in
    let fronts = (stands-alike items h.0 k.0 h.1 k.1 (label name) (label name) h.2 k.2 same).0 in
    h.3 ∙ (ap (λ (is : List Item). count is) fronts ∙ sym k.3)

pub resolved-one : (items xs : List Item) (l m : List Instr) → AreNamed items → AreResolved items xs l → AreResolved items xs m → l ≡ m
resolved-one items [] l m named h k = h ∙ sym k
resolved-one items (label name ∷ xs) l m named h k = resolved-one items xs l m named h k
resolved-one items (plain i ∷ xs) l m named h k = h.1 ∙ (ap (λ (is : List Instr). i ∷ is) (resolved-one items xs h.0 k.0 named h.2 k.2) ∙ sym k.1)
resolved-one items (jump cond name ∷ xs) l m named h k =
    let places = at-one items name h.0 k.0 named h.2 k.2 in
    let rests = resolved-one items xs h.1 k.1 named h.4 k.4 in
    h.3 ∙ ((λ j. Br cond (places j) ∷ rests j) ∙ sym k.3)

-- one line is the first with a name's fault
pub misnamed-one : (items front front' : List Item) → FirstMisnamed items front → FirstMisnamed items front' → length front ≡ length front'
misnamed-one items front front' h k =
    not-before (length front) (length front') (λ lt. k.first front h.back h.item h.stands lt h.misnamed) (λ lt. h.first front' k.back k.item k.stands lt k.misnamed)

pub misnamed-not : (items front : List Item) → FirstMisnamed items front → ¬ AreNamed items
misnamed-not items front h named = named front h.back h.item h.stands h.misnamed

-- an instruction before another has a lesser place
lesser-place : (items front back front' back' : List Item) (x y : Item) → Stands items front x back → Stands items front' y back' → IsInstruction x → length front < length front' → count front < count front'
lesser-place items front back front' back' x y s t i lt =
    let r = stands-before items front front' back back' x y s t lt in
    omega (arith, ap (λ (is : List Item). count is) r.1.whole, count-append front (x ∷ r.0), count-instruction x r.0 i)

pub line-one : (items : List Item) (place m n : ℕ) → IsLineOf items place m → IsLineOf items place n → m ≡ n
line-one items place m n h k =
    let hb = h.before in
    let kb = k.before in
    let same = not-before (length h.front) (length k.front)
    (λ lt. let less = lesser-place items h.front h.back k.front k.back h.item k.item h.stands k.stands h.instruction lt in omega arith)
    (λ lt. let less = lesser-place items k.front k.back h.front h.back k.item h.item k.stands h.stands k.instruction lt in omega arith) in
    let a = h.line in
    let b = k.line in
    omega arith

-- each instruction is an item's
pub resolved-length : (items xs : List Item) (l : List Instr) → AreResolved items xs l → length l ≡ count xs
resolved-length items [] l h = ap length h
resolved-length items (label name ∷ xs) l h = resolved-length items xs l h
resolved-length items (plain i ∷ xs) l h = let e = resolved-length items xs h.0 h.2 in omega (arith, ap length h.1)
resolved-length items (jump cond name ∷ xs) l h = let e = resolved-length items xs h.1 h.4 in omega (arith, ap length h.3)

-- one item more
pub resolved-nothing : (items front xs : List Item) (x : Item) (l : List Instr) → AreResolved items xs l → Gives items front x Nothing → AreResolved items (xs ++ x ∷ []) l
resolved-nothing items front [] (label name) l h g = h
resolved-nothing items front [] (plain i) l h g = absurd g
resolved-nothing items front [] (jump cond name) l h g = absurd g
resolved-nothing items front (label other ∷ xs) x l h g = resolved-nothing items front xs x l h g
resolved-nothing items front (plain i ∷ xs) x l h g = (h.0, h.1, resolved-nothing items front xs x h.0 h.2 g)
resolved-nothing items front (jump cond name ∷ xs) x l h g = (h.0, h.1, h.2, h.3, resolved-nothing items front xs x h.1 h.4 g)

pub resolved-more : (items front xs : List Item) (x : Item) (l : List Instr) (i : Instr) → AreResolved items xs l → Gives items front x (Instruction i) → AreResolved items (xs ++ x ∷ []) (l ++ i ∷ [])
resolved-more items front [] (label name) l i h g = absurd g
resolved-more items front [] (plain j) l i h g = ([], ap (λ (is : List Instr). is ++ i ∷ []) h ∙ ap (λ (k : Instr). k ∷ []) g, refl)
resolved-more items front [] (jump cond name) l i h g = (g.0, [], g.1, ap (λ (is : List Instr). is ++ i ∷ []) h ∙ ap (λ (k : Instr). k ∷ []) g.2, refl)
resolved-more items front (label other ∷ xs) x l i h g = resolved-more items front xs x l i h g
resolved-more items front (plain j ∷ xs) x l i h g = (h.0 ++ i ∷ [], ap (λ (is : List Instr). is ++ i ∷ []) h.1, resolved-more items front xs x h.0 i h.2 g)
resolved-more items front (jump cond name ∷ xs) x l i h g = (h.0, h.1 ++ i ∷ [], h.2, ap (λ (is : List Instr). is ++ i ∷ []) h.3, resolved-more items front xs x h.1 i h.4 g)

-- no fault so far, and none here
abbrev pub NamedBelow : List Item → ℕ → Type 0
NamedBelow items k = (front back : List Item) (item : Item) → Stands items front item back → length front < k → ¬ Misnames items front item

pub named-more : (items front back : List Item) (x : Item) → Stands items front x back → NamedBelow items (length front) → ¬ Misnames items front x → NamedBelow items (length front + 1)
named-more items front back x s below good front' back' y t lt = by (sides (length front') (length front) lt)
  where
    sides : (m n : ℕ) → m < n + 1 → (m < n) ⊎ (n ≡ m)
    sides m n h = grind arith

    by : (length front' < length front) ⊎ (length front ≡ length front') → ¬ Misnames items front' y
    by (inl less) = below front' back' y t less
    by (inr same) =
        let r = stands-alike items front front' back back' x y s t same in
        λ bad. good (subst (λ (is : List Item). Misnames items is x) (sym r.0) (subst (λ (z : Item). Misnames items front' z) (sym r.1) bad))

-- what gives no fault has none
pub gives-nothing-good : (items front : List Item) (x : Item) → Gives items front x Nothing → ¬ Misnames items front x
gives-nothing-good items front (label name) g m = g m
gives-nothing-good items front (plain i) g m = g
gives-nothing-good items front (jump cond name) g m = g

pub gives-instruction-good : (items front : List Item) (x : Item) (i : Instr) → Gives items front x (Instruction i) → ¬ Misnames items front x
gives-instruction-good items front (label name) i g m = g
gives-instruction-good items front (plain j) i g m = m
gives-instruction-good items front (jump cond name) i g m = m (g.0, g.1)

-- the places of items are fewer than the items
stands-short : (items front back : List Item) (x : Item) → Stands items front x back → length front < length items
stands-short items front back x s = omega (arith, ap length s.whole, length-append front (x ∷ back))

pub all-named : (items : List Item) (k : ℕ) → length items ≤ k → NamedBelow items k → AreNamed items
all-named items k h below front back x s = let short = stands-short items front back x s in below front back x s (omega arith)

-- the first fault of the items that are read
pub misnamed-here : (items : List ReadItem) (k : ℕ) (x : ReadItem) (n : ℕ) → k < length items → x ≡ get_or items k x → NamedBelow (all_seen items) k → Misnames (all_seen items) (all_seen (take k items)) (seen x) → n ≡ k + 2
    → (front : List Item) × FirstMisnamed (all_seen items) front × (n ≡ length front + 2)
misnamed-here items k x n l e below m line =
    let f = length-front items k (omega arith) in (
      all_seen (take k items),
      record {
        item = seen x;
        back = all_seen (drop (suc k) items);
        stands = stands-at items k x l e;
        misnamed = m;
        first = λ earlier rest other s less. below earlier rest other s (omega arith);
      },
      omega arith,
    )

-- the items so far have no fault, and their instructions are in the list
abbrev pub ResolvedBelow : List ReadItem → ℕ → List Instr → Type 0
ResolvedBelow items k list = NamedBelow (all_seen items) k × AreResolved (all_seen items) (all_seen (take k items)) list

good-more : (items : List ReadItem) (k : ℕ) (x : ReadItem) → k < length items → x ≡ get_or items k x → NamedBelow (all_seen items) k → ¬ Misnames (all_seen items) (all_seen (take k items)) (seen x) → NamedBelow (all_seen items) (k + 1)
good-more items k x l e below good =
    let f = length-front items k (omega arith) in
    subst (λ (n : ℕ). NamedBelow (all_seen items) (n + 1)) f
    (named-more (all_seen items) (all_seen (take k items)) (all_seen (drop (suc k) items)) (seen x) (stands-at items k x l e) (subst (NamedBelow (all_seen items)) (sym f) below) good)

pub below-nothing : (items : List ReadItem) (k : ℕ) (x : ReadItem) (list : List Instr) → k < length items → x ≡ get_or items k x → ResolvedBelow items k list → Gives (all_seen items) (all_seen (take k items)) (seen x) Nothing → ResolvedBelow items (k + 1) list
below-nothing items k x list l e h g = (
  good-more items k x l e h.0 (gives-nothing-good (all_seen items) (all_seen (take k items)) (seen x) g),
  subst (λ (is : List Item). AreResolved (all_seen items) is list) (sym (take-more-seen items k x l e)) (resolved-nothing (all_seen items) (all_seen (take k items)) (all_seen (take k items)) (seen x) list h.1 g),
)

pub below-more : (items : List ReadItem) (k : ℕ) (x : ReadItem) (list : List Instr) (i : Instr) → k < length items → x ≡ get_or items k x → ResolvedBelow items k list → Gives (all_seen items) (all_seen (take k items)) (seen x) (Instruction i) → ResolvedBelow items (k + 1) (list ++ i ∷ [])
below-more items k x list i l e h g = (
  good-more items k x l e h.0 (gives-instruction-good (all_seen items) (all_seen (take k items)) (seen x) i g),
  subst (λ (is : List Item). AreResolved (all_seen items) is (list ++ i ∷ [])) (sym (take-more-seen items k x l e)) (resolved-more (all_seen items) (all_seen (take k items)) (all_seen (take k items)) (seen x) list i h.1 g),
)

-- the instruction at a place is found
pub line-found : (items : List ReadItem) (k place left n : ℕ) (x : ReadItem) → k < length items → x ≡ get_or items k x → IsInstruction (seen x) → count (all_seen (take k items)) + left ≡ place → left ≡ 0 → n ≡ k + 2 → IsLineOf (all_seen items) place n
line-found items k place left n x l e i c z m =
    record {
      front = all_seen (take k items);
      item = seen x;
      back = all_seen (drop (suc k) items);
      stands = stands-at items k x l e;
      instruction = i;
      before = omega arith;
      line = let f = length-front items k (omega arith) in omega arith;
    }
