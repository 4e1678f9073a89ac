-- Where items stand among others.
use Rattle.std.proofs.Common.{◌≡◌, ℕ, zero, suc, ◌+◌, ◌<◌, ◌≤◌, ◌⊎◌, inl, inr, List, [], ◌∷◌, ◌++◌, length, get_or, take, drop, refl, sym, ap, ◌∙◌, arith, length-append, add-one, length-take}
use Rattle.uc_asm.specs.Items.{Item as TheItem, label, plain, jump, count, Stands, IsDeclared, IsInstruction}
use Rattle.uc_asm.specs.inner.Seen.{seen, all_seen}
use Rattle.uc_asm.specs.declared.item.Item.{Item}

pub none-stands : (front back : List TheItem) (item : TheItem) → ¬ Stands [] front item back
none-stands front back item s = omega (arith, ap length s.whole, length-append front (item ∷ back))

-- equally many before it: the same place
parted-alike : (front front' back back' : List TheItem) (x y : TheItem) → length front ≡ length front' → front ++ x ∷ back ≡ front' ++ y ∷ back' → (front ≡ front') × (x ≡ y)
parted-alike [] [] back back' x y l e = let same : x ≡ y = cc in (refl, same)
parted-alike [] (b ∷ front') back back' x y l e = absurd (omega arith)
parted-alike (a ∷ front) [] back back' x y l e = absurd (omega arith)
parted-alike (a ∷ front) (b ∷ front') back back' x y l e =
    let heads : a ≡ b = cc in
    let tails : front ++ x ∷ back ≡ front' ++ y ∷ back' = cc in
    let r = parted-alike front front' back back' x y (omega arith) tails in
    let same = r.0 in (cc, r.1)

pub stands-alike : (items front front' back back' : List TheItem) (x y : TheItem) → Stands items front x back → Stands items front' y back' → length front ≡ length front' → (front ≡ front') × (x ≡ y)
stands-alike items front front' back back' x y s t l = parted-alike front front' back back' x y l (sym s.whole ∙ t.whole)

-- fewer before it: it stands among those
parted-before : (front front' back back' : List TheItem) (x y : TheItem) → length front < length front' → front ++ x ∷ back ≡ front' ++ y ∷ back' → (mid : List TheItem) × Stands front' front x mid
parted-before front [] back back' x y l e = absurd (omega arith)
parted-before [] (b ∷ front') back back' x y l e = let same : x ≡ b = cc in (front', record { whole = ap (λ (z : TheItem). z ∷ front') (sym same) })
parted-before (a ∷ front) (b ∷ front') back back' x y l e =
    let heads : a ≡ b = cc in
    let tails : front ++ x ∷ back ≡ front' ++ y ∷ back' = cc in
    let r = parted-before front front' back back' x y (omega arith) tails in
    let w = r.1.whole in
    (r.0, record { whole = cc })

pub stands-before : (items front front' back back' : List TheItem) (x y : TheItem) → Stands items front x back → Stands items front' y back' → length front < length front' → (mid : List TheItem) × Stands front' front x mid
stands-before items front front' back back' x y s t l = parted-before front front' back back' x y l (sym s.whole ∙ t.whole)

pub declared-here : (items front back : List TheItem) (name : List ℕ) → Stands items front (label name) back → IsDeclared items name
declared-here items front back name s = (count front, (front, back, s, refl))

pub stands-cons : (x : TheItem) (items front back : List TheItem) (item : TheItem) → Stands items front item back → Stands (x ∷ items) (x ∷ front) item back
stands-cons x items front back item s = record { whole = ap (λ (is : List TheItem). x ∷ is) s.whole }

-- a name is declared by the first item or by one after it
pub declared-cons : (x : TheItem) (items : List TheItem) (name : List ℕ) → IsDeclared (x ∷ items) name → (x ≡ label name) ⊎ IsDeclared items name
declared-cons x items name d = by d.1.0 d.1.1 d.1.2.whole
  where
    by : (front back : List TheItem) → x ∷ items ≡ front ++ label name ∷ back → (x ≡ label name) ⊎ IsDeclared items name
    by [] back e = let same : x ≡ label name = cc in inl same
    by (y ∷ front) back e = let rest : items ≡ front ++ label name ∷ back = cc in inr (declared-here items front back name (record { whole = rest }))

-- the item with an index, and those around it
pub stands-at : (items : List Item) (k : ℕ) (x : Item) → k < length items → x ≡ get_or items k x → Stands (all_seen items) (all_seen (take k items)) (seen x) (all_seen (drop (suc k) items))
stands-at [] k x l e = absurd (omega arith)
stands-at (y ∷ items) zero x l e = record { whole = ap (λ (z : Item). seen z ∷ all_seen items) (sym e) }
stands-at (y ∷ items) (suc k) x l e = stands-cons (seen y) (all_seen items) (all_seen (take k items)) (all_seen (drop (suc k) items)) (seen x) (stands-at items k x (omega arith) e)

pub length-seen : (items : List Item) → length (all_seen items) ≡ length items
length-seen [] = refl
length-seen (x ∷ items) = ap suc (length-seen items)

-- one item more
pub take-seen : (items : List Item) (k : ℕ) (x : Item) → k < length items → x ≡ get_or items k x → all_seen (take (suc k) items) ≡ all_seen (take k items) ++ seen x ∷ []
take-seen [] k x l e = absurd (omega arith)
take-seen (y ∷ items) zero x l e = ap (λ (z : Item). seen z ∷ []) (sym e)
take-seen (y ∷ items) (suc k) x l e = ap (λ (is : List TheItem). seen y ∷ is) (take-seen items k x (omega arith) e)

pub count-append : (xs ys : List TheItem) → count (xs ++ ys) ≡ count xs + count ys
count-append [] ys = omega arith
count-append (label name ∷ xs) ys = count-append xs ys
count-append (plain i ∷ xs) ys = let e = count-append xs ys in omega arith
count-append (jump cond name ∷ xs) ys = let e = count-append xs ys in omega arith

pub count-small : (xs : List TheItem) → count xs ≤ length xs
count-small [] = omega arith
count-small (label name ∷ xs) = let h = count-small xs in omega arith
count-small (plain i ∷ xs) = let h = count-small xs in omega arith
count-small (jump cond name ∷ xs) = let h = count-small xs in omega arith

-- an instruction counts
pub count-instruction : (x : TheItem) (xs : List TheItem) → IsInstruction x → count (x ∷ xs) ≡ 1 + count xs
count-instruction (label name) xs h = absurd h
count-instruction (plain i) xs h = refl
count-instruction (jump cond name) xs h = refl

pub count-label : (x : TheItem) → ¬ IsInstruction x → count (x ∷ []) ≡ 0
count-label (label name) h = refl
count-label (plain i) h = absurd (h tt)
count-label (jump cond name) h = absurd (h tt)

pub length-front : (items : List Item) (k : ℕ) → k ≤ length items → length (all_seen (take k items)) ≡ k
length-front items k h = omega (arith, length-seen (take k items), length-take k items)

pub take-more-seen : (items : List Item) (k : ℕ) (x : Item) → k < length items → x ≡ get_or items k x → all_seen (take (k + 1) items) ≡ all_seen (take k items) ++ seen x ∷ []
take-more-seen items k x l e = rw add-one (take-seen items k x l e)

pub count-more-seen : (items : List Item) (k : ℕ) (x : Item) → k < length items → x ≡ get_or items k x → count (all_seen (take (k + 1) items)) ≡ count (all_seen (take k items)) + count (seen x ∷ [])
count-more-seen items k x l e = ap (λ (is : List TheItem). count is) (take-more-seen items k x l e) ∙ count-append (all_seen (take k items)) (seen x ∷ [])

drop-seen : (items : List Item) (k : ℕ) (x : Item) → k < length items → x ≡ get_or items k x → all_seen (drop k items) ≡ seen x ∷ all_seen (drop (suc k) items)
drop-seen [] k x l e = absurd (omega arith)
drop-seen (y ∷ items) zero x l e = ap (λ (z : Item). seen z ∷ all_seen items) (sym e)
drop-seen (y ∷ items) (suc k) x l e = drop-seen items k x (omega arith) e

pub drop-more-seen : (items : List Item) (k : ℕ) (x : Item) → k < length items → x ≡ get_or items k x → all_seen (drop k items) ≡ seen x ∷ all_seen (drop (k + 1) items)
drop-more-seen items k x l e = rw add-one (drop-seen items k x l e)
