-- Trees of a label whose variables have their names.
use Rattle.std.proofs.Common.{◌≡◌, ℕ, zero, suc, ◌+◌, ◌<◌, ◌≤◌, max, Bool, true, false, nat_eq, nat_le, ◌&&◌, List, [], ◌∷◌, ◌++◌, refl, sym, ap, subst, ◌∙◌, ◌⊎◌, inl, inr, ⊎_elim, if◌then◌else◌, length, slice_get, arith}
use Rattle.std.proofs.lemmas.Bool.{false≢true, or_cases, or_left, and_parts}
use Rattle.nv_base.specs.declared.term.Atom.{Atom}
use Rattle.nv_base.specs.declared.term.Atom.TheVariants.{Var, Lit}
use Rattle.nv_base.specs.declared.term.Mem.{Mem}
use Rattle.nv_base.specs.declared.term.Cmp.{Cmp}
use Rattle.nv_base.specs.declared.term.Primitive.{Primitive}
use Rattle.nv_base.specs.declared.term.Primitive.TheVariants.{Same, Una as UnaOf, Bin as BinOf}
use Rattle.nv_base.specs.Access.{is_known, all_known, is_primitive, has_count, can_move, is_address}
use Rattle.nv_base.specs.Sets.{is_in, Within}
use Rattle.nv_base.proofs.Sets.{in-append, same-number, within-left, within-right, within-both}
use Rattle.flow_ir.specs.Tree.{Tree, Let, Read, Write, If, Jump, Halt, Label}
use Rattle.flow_ir.specs.Formed.{defined, is_formed, takes_as_many}
use Rattle.ssu_make.specs.Uses.{Counts, here, occurs, operands, outside, uses, all_uses}
use Rattle.ssu_make.specs.Made.{Laid}
use Rattle.ssu_make.proofs.Clones.{Place}

-- ---- how many uses

outside-le : (b : Bool) (n : ℕ) → (if b then 0 else n) ≤ n
outside-le true n = omega arith
outside-le false n = omega arith

pub outside-least : (xs : List ℕ) (r : Counts) (y : ℕ) → outside xs r y ≤ r y
outside-least xs r y = outside-le (is_in y xs) (r y)

pub uses-all : (t : Tree) (y : ℕ) → uses t y ≤ all_uses t y
uses-all (Let x p t) y = let a = outside-least (x ∷ []) (uses t) y in let b = uses-all t y in omega arith
uses-all (Read m xs a t) y = let b = outside-least xs (uses t) y in let c = uses-all t y in omega arith
uses-all (Write m a bs t) y = let b = uses-all t y in omega arith
uses-all (If c a b t u) y = let d = uses-all t y in let e = uses-all u y in omega arith
uses-all (Jump l bs) y = omega arith
uses-all (Halt e bs) y = omega arith

-- ---- what is used is known

pub positive : (a b : ℕ) → 0 < a + b → (0 < a) ⊎ (0 < b)
positive zero b h = inr (omega arith)
positive (suc a) b h = inl (omega arith)

here-known : (known : List ℕ) (a : Atom) (y : ℕ) → is_known known a ≡ true → 0 < here a y → is_in y known ≡ true
here-known known (Var x) y k h = at (nat_eq y x) refl h
  where
    at : (b : Bool) → nat_eq y x ≡ b → 0 < (if b then 1 else 0) → is_in y known ≡ true
    at true e h = subst (λ z. is_in z known ≡ true) (sym (same-number y x e)) k
    at false e h = absurd (omega arith)
here-known known (Lit v) y k h = absurd (omega arith)

pub occurs-known : (known : List ℕ) (as' : List Atom) (y : ℕ) → all_known known as' ≡ true → 0 < occurs as' y → is_in y known ≡ true
occurs-known known [] y k h = absurd (omega arith)
occurs-known known (a ∷ as') y k h =
    let parts = and_parts (is_known known a) (all_known known as') k in
    ⊎_elim (λ (p : 0 < here a y). here-known known a y parts.0 p) (λ (p : 0 < occurs as' y). occurs-known known as' y parts.1 p) (positive (here a y) (occurs as' y) h)

pub all-one : (known : List ℕ) (a : Atom) → is_known known a ≡ true → all_known known (a ∷ []) ≡ true
all-one known a k = ap (λ b. b && true) k

pub all-two : (known : List ℕ) (a b : Atom) → is_known known a ≡ true → is_known known b ≡ true → all_known known (a ∷ b ∷ []) ≡ true
all-two known a b k h = ap (λ d. d && (is_known known b && true)) k ∙ ap (λ d. d && true) h

pub all-more : (known : List ℕ) (a : Atom) (as' : List Atom) → is_known known a ≡ true → all_known known as' ≡ true → all_known known (a ∷ as') ≡ true
all-more known a as' k h = ap (λ d. d && all_known known as') k ∙ h

pub operands-known : (known : List ℕ) (p : Primitive) → is_primitive known p ≡ true → all_known known (operands p) ≡ true
operands-known known (Same a) k = all-two known a (Lit 0) k refl
operands-known known (UnaOf op a) k = all-one known a (and_parts (has_count op) (is_known known a) k).1
operands-known known (BinOf op a b) k = let parts = and_parts (is_known known a) (is_known known b) k in all-two known a b parts.0 parts.1

pub outside-live : (b : Bool) (xs known : List ℕ) (r : Counts) (y : ℕ) → is_in y xs ≡ b → 0 < (if b then 0 else r y) → (0 < r y → is_in y (xs ++ known) ≡ true) → is_in y known ≡ true
outside-live true xs known r y e h g = absurd (omega arith)
outside-live false xs known r y e h g =
    ⊎_elim (λ (f : is_in y xs ≡ true). absurd (false≢true (sym e ∙ f))) (λ (f : is_in y known ≡ true). f) (or_cases (is_in y xs) (is_in y known) (sym (in-append y xs known) ∙ g h))

-- ---- a tree that stands in a label with these variables

pub record Fits (labels : List Label) (vs : List ℕ) (size : Counts) (known : List ℕ) (t : Tree) : Type 0 where
  pub formed : is_formed labels known t ≡ true
  pub within : Within known vs
  pub defs : Within (defined t) vs
  pub sized : (y : ℕ) → all_uses t y ≤ size y

-- the parts of formedness
pub record LetParts (labels : List Label) (known : List ℕ) (x : ℕ) (p : Primitive) (t : Tree) : Type 0 where
  pub prim : is_primitive known p ≡ true
  pub rest : is_formed labels (x ∷ known) t ≡ true

pub let-parts : (labels : List Label) (known : List ℕ) (x : ℕ) (p : Primitive) (t : Tree) → is_formed labels known (Let x p t) ≡ true → LetParts labels known x p t
let-parts labels known x p t f = let parts = and_parts (is_primitive known p) (is_formed labels (x ∷ known) t) f in record { prim = parts.0; rest = parts.1 }

pub record ReadParts (labels : List Label) (known : List ℕ) (m : Mem) (xs : List ℕ) (a : Atom) (t : Tree) : Type 0 where
  pub address : is_known known a ≡ true
  pub count : can_move m (length xs) ≡ true
  pub scratch : is_address m a (length xs) ≡ true
  pub rest : is_formed labels (xs ++ known) t ≡ true

pub read-parts : (labels : List Label) (known : List ℕ) (m : Mem) (xs : List ℕ) (a : Atom) (t : Tree) → is_formed labels known (Read m xs a t) ≡ true → ReadParts labels known m xs a t
read-parts labels known m xs a t f =
    let one = and_parts (is_known known a) (can_move m (length xs) && (is_address m a (length xs) && is_formed labels (xs ++ known) t)) f in
    let two = and_parts (can_move m (length xs)) (is_address m a (length xs) && is_formed labels (xs ++ known) t) one.1 in
    let three = and_parts (is_address m a (length xs)) (is_formed labels (xs ++ known) t) two.1 in
    record { address = one.0; count = two.0; scratch = three.0; rest = three.1 }

pub record WriteParts (labels : List Label) (known : List ℕ) (m : Mem) (a : Atom) (bs : List Atom) (t : Tree) : Type 0 where
  pub operands : all_known known (a ∷ bs) ≡ true
  pub count : can_move m (length bs) ≡ true
  pub scratch : is_address m a (length bs) ≡ true
  pub rest : is_formed labels known t ≡ true

pub write-parts : (labels : List Label) (known : List ℕ) (m : Mem) (a : Atom) (bs : List Atom) (t : Tree) → is_formed labels known (Write m a bs t) ≡ true → WriteParts labels known m a bs t
write-parts labels known m a bs t f =
    let one = and_parts (is_known known a) (all_known known bs && (can_move m (length bs) && (is_address m a (length bs) && is_formed labels known t))) f in
    let two = and_parts (all_known known bs) (can_move m (length bs) && (is_address m a (length bs) && is_formed labels known t)) one.1 in
    let three = and_parts (can_move m (length bs)) (is_address m a (length bs) && is_formed labels known t) two.1 in
    let four = and_parts (is_address m a (length bs)) (is_formed labels known t) three.1 in
    record { operands = all-more known a bs one.0 two.0; count = three.0; scratch = four.0; rest = four.1 }

pub record IfParts (labels : List Label) (known : List ℕ) (a b : Atom) (t u : Tree) : Type 0 where
  pub operands : all_known known (a ∷ b ∷ []) ≡ true
  pub first : is_formed labels known t ≡ true
  pub second : is_formed labels known u ≡ true

pub if-parts : (labels : List Label) (known : List ℕ) (c : Cmp) (a b : Atom) (t u : Tree) → is_formed labels known (If c a b t u) ≡ true → IfParts labels known a b t u
if-parts labels known c a b t u f =
    let one = and_parts (is_known known a) (is_known known b && (is_formed labels known t && is_formed labels known u)) f in
    let two = and_parts (is_known known b) (is_formed labels known t && is_formed labels known u) one.1 in
    let three = and_parts (is_formed labels known t) (is_formed labels known u) two.1 in
    record { operands = all-two known a b one.0 two.0; first = three.0; second = three.1 }

pub record JumpParts (labels : List Label) (known : List ℕ) (l : ℕ) (bs : List Atom) : Type 0 where
  pub operands : all_known known bs ≡ true
  pub least : nat_le 1 l ≡ true
  pub many : takes_as_many (length bs) (slice_get labels l) ≡ true

pub jump-parts : (labels : List Label) (known : List ℕ) (l : ℕ) (bs : List Atom) → is_formed labels known (Jump l bs) ≡ true → JumpParts labels known l bs
jump-parts labels known l bs f =
    let one = and_parts (all_known known bs) (nat_le 1 l && takes_as_many (length bs) (slice_get labels l)) f in
    let two = and_parts (nat_le 1 l) (takes_as_many (length bs) (slice_get labels l)) one.1 in
    record { operands = one.0; least = two.0; many = two.1 }

pub halt-parts : (labels : List Label) (known : List ℕ) (e : ℕ) (bs : List Atom) → is_formed labels known (Halt e bs) ≡ true → (all_known known bs ≡ true) × (nat_le (length bs) 8 ≡ true)
halt-parts labels known e bs f = and_parts (all_known known bs) (nat_le (length bs) 8) f

-- what is used in a well formed tree is known
pub live-known : (labels : List Label) (known : List ℕ) (t : Tree) (y : ℕ) → is_formed labels known t ≡ true → 0 < uses t y → is_in y known ≡ true
live-known labels known (Let x p t) y f h =
    let parts = let-parts labels known x p t f in
    ⊎_elim (λ (g : 0 < occurs (operands p) y). occurs-known known (operands p) y (operands-known known p parts.prim) g)
    (λ (g : 0 < outside (x ∷ []) (uses t) y). outside-live (is_in y (x ∷ [])) (x ∷ []) known (uses t) y refl g (λ l. live-known labels (x ∷ known) t y parts.rest l)) (positive (occurs (operands p) y) (outside (x ∷ []) (uses t) y) h)
live-known labels known (Read m xs a t) y f h =
    let parts = read-parts labels known m xs a t f in
    ⊎_elim (λ (g : 0 < occurs (a ∷ []) y). occurs-known known (a ∷ []) y (all-one known a parts.address) g)
    (λ (g : 0 < outside xs (uses t) y). outside-live (is_in y xs) xs known (uses t) y refl g (λ l. live-known labels (xs ++ known) t y parts.rest l)) (positive (occurs (a ∷ []) y) (outside xs (uses t) y) h)
live-known labels known (Write m a bs t) y f h =
    let parts = write-parts labels known m a bs t f in
    ⊎_elim (λ (g : 0 < occurs (a ∷ bs) y). occurs-known known (a ∷ bs) y parts.operands g)
    (λ (g : 0 < uses t y). live-known labels known t y parts.rest g) (positive (occurs (a ∷ bs) y) (uses t y) h)
live-known labels known (If c a b t u) y f h =
    let parts = if-parts labels known c a b t u f in
    ⊎_elim (λ (g : 0 < occurs (a ∷ b ∷ []) y). occurs-known known (a ∷ b ∷ []) y parts.operands g)
    (λ (g : 0 < max (uses t y) (uses u y)). ⊎_elim (λ (l : 0 < uses t y). live-known labels known t y parts.first l) (λ (l : 0 < uses u y). live-known labels known u y parts.second l) (one-of (uses t y) (uses u y) g)) (positive (occurs (a ∷ b ∷ []) y) (max (uses t y) (uses u y)) h)
  where
    one-of : (m n : ℕ) → 0 < max m n → (0 < m) ⊎ (0 < n)
    one-of zero n g = inr (omega arith)
    one-of (suc m) n g = inl (omega arith)
live-known labels known (Jump l bs) y f h = occurs-known known bs y (jump-parts labels known l bs f).operands h
live-known labels known (Halt e bs) y f h = occurs-known known bs y (halt-parts labels known e bs f).0 h

-- ---- the trees below

pub fits-let : (labels : List Label) (vs : List ℕ) (size : Counts) (known : List ℕ) (x : ℕ) (p : Primitive) (t : Tree) → Fits labels vs size known (Let x p t) → Fits labels vs size (x ∷ known) t
fits-let labels vs size known x p t f = record {
  formed = (let-parts labels known x p t f.formed).rest;
  within = within-both (x ∷ []) known vs (λ y i. f.defs y (⊎_elim (λ (g : nat_eq y x ≡ true). or_left (nat_eq y x) (is_in y (defined t)) g) (λ (g : false ≡ true). absurd (false≢true g)) (or_cases (nat_eq y x) false i))) f.within;
  defs = λ y i. f.defs y (within-right (x ∷ []) (defined t) y i);
  sized = λ y. let le = f.sized y in omega arith;
}

pub fits-read : (labels : List Label) (vs : List ℕ) (size : Counts) (known : List ℕ) (m : Mem) (xs : List ℕ) (a : Atom) (t : Tree) → Fits labels vs size known (Read m xs a t) → Fits labels vs size (xs ++ known) t
fits-read labels vs size known m xs a t f = record {
  formed = (read-parts labels known m xs a t f.formed).rest;
  within = within-both xs known vs (λ y i. f.defs y (within-left xs (defined t) y i)) f.within;
  defs = λ y i. f.defs y (within-right xs (defined t) y i);
  sized = λ y. let le = f.sized y in omega arith;
}

pub fits-write : (labels : List Label) (vs : List ℕ) (size : Counts) (known : List ℕ) (m : Mem) (a : Atom) (bs : List Atom) (t : Tree) → Fits labels vs size known (Write m a bs t) → Fits labels vs size known t
fits-write labels vs size known m a bs t f = record {
  formed = (write-parts labels known m a bs t f.formed).rest;
  within = f.within;
  defs = f.defs;
  sized = λ y. let le = f.sized y in omega arith;
}

pub fits-first : (labels : List Label) (vs : List ℕ) (size : Counts) (known : List ℕ) (c : Cmp) (a b : Atom) (t u : Tree) → Fits labels vs size known (If c a b t u) → Fits labels vs size known t
fits-first labels vs size known c a b t u f = record {
  formed = (if-parts labels known c a b t u f.formed).first;
  within = f.within;
  defs = λ y i. f.defs y (within-left (defined t) (defined u) y i);
  sized = λ y. let le = f.sized y in omega arith;
}

pub fits-second : (labels : List Label) (vs : List ℕ) (size : Counts) (known : List ℕ) (c : Cmp) (a b : Atom) (t u : Tree) → Fits labels vs size known (If c a b t u) → Fits labels vs size known u
fits-second labels vs size known c a b t u f = record {
  formed = (if-parts labels known c a b t u f.formed).second;
  within = f.within;
  defs = λ y i. f.defs y (within-right (defined t) (defined u) y i);
  sized = λ y. let le = f.sized y in omega arith;
}

-- names that are laid out have their places at each tree
pub place-of : (base size : Counts) (c d : ℕ) (labels : List Label) (vs known : List ℕ) (t : Tree) → Laid base size c d vs → Fits labels vs size known t → Place base (uses t) d vs
place-of base size c d labels vs known t laid f = record {
  live = λ y lt. f.within y (live-known labels known t y f.formed lt);
  below = λ y i. let a = laid.below y i in let b = uses-all t y in let s = f.sized y in omega arith;
  apart = λ x y ix iy ne.
      let a = uses-all t x in let s = f.sized x in let b = uses-all t y in let z = f.sized y in
      ⊎_elim (λ (g : base x + size x < base y). inl (omega arith)) (λ (g : base y + size y < base x). inr (omega arith)) (laid.apart x y ix iy ne);
}
