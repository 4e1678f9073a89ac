-- The nodes of a form that was made: literals are narrow, counts and accesses right, clones directly after their values, scratch addressed by literals.
use Rattle.std.proofs.Common.{◌≡◌, ℕ, suc, ◌+◌, ◌/◌, ◌%◌, ◌^◌, ◌<◌, ◌≤◌, Bool, true, false, nat_eq, nat_lt, nat_le, ◌||◌, List, [], ◌∷◌, ◌++◌, map, Option, Some, None, refl, ap, ◌∙◌, ◌⊎◌, inl, inr, if◌then◌else◌, length, slice_get, slice_index, arith}
use Rattle.std.proofs.lemmas.Bool.{false≢true, and_parts, and_from, or_left, or_right, eq-eqb, lt-ltb, leb-true, ne_eqb}
use Rattle.std.proofs.lemmas.List.{length-map}
use Rattle.nv_base.specs.declared.term.Atom.{Atom}
use Rattle.nv_base.specs.declared.term.Atom.TheVariants.{Var, Lit}
use Rattle.nv_base.specs.declared.term.Mem.{Mem}
use Rattle.nv_base.specs.declared.term.Mem.TheVariants.{Sram, Sdram, Scratch}
use Rattle.nv_base.specs.declared.term.Primitive.{Primitive}
use Rattle.nv_base.specs.declared.term.Primitive.TheVariants.{Same, Una as UnaOf, Bin as BinOf}
use Rattle.nv_base.specs.Access.{is_known, is_primitive, has_count, can_move, is_address}
use Rattle.nv_base.specs.Words.{IsWord, word}
use Rattle.nv_base.specs.Sets.{is_in}
use Rattle.nv_base.proofs.WordLemmas.{word-fits}
use Rattle.flow_ir.specs.Tree.{Tree, Let, Read, Write, If, Jump, Halt, Label}
use Rattle.flow_ir.specs.Formed.{is_formed, takes_as_many}
use Rattle.ssu_ir.specs.Tree as ssu
use Rattle.ssu_ir.specs.Single.{is_narrow, are_nodes, clones_early, are_addressed, Numbers, numbered, fits_scratch}
use Rattle.ssu_ir.proofs.Lists.{image_from}
use Rattle.ssu_ir.specs.Single as single
use Rattle.ssu_make.specs.Uses.{Counts, operands, outside, uses}
use Rattle.ssu_make.specs.Made.{high, low, literal, names_taken, last_taken, taken, all_taken, names, atom_literal, literals, value, clone_step, clones, prim_step, spent, made}
use Rattle.ssu_make.proofs.Assigned.{same-test}
use Rattle.ssu_make.proofs.Fitting.{let-parts, read-parts, write-parts, if-parts, jump-parts, halt-parts}

-- ---- what each step of a list of literals keeps, and what a clone keeps, a form keeps

pub names-length : (base r : Counts) (n : ℕ) (as' : List Atom) → length (names base r n as') ≡ length as'
names-length base r n [] = refl
names-length base r n (a ∷ as') = ap suc (names-length base r n as')

-- ---- narrow literals

narrow-at : (v : ℕ) → ((v % 2 ^ 0 ≡ 0) × (v / 2 ^ 0 < 2 ^ 16)) ⊎ ((v % 2 ^ 16 ≡ 0) × (v / 2 ^ 16 < 2 ^ 16)) → is_narrow v ≡ true
narrow-at v (inl h) = or_left _ _ (and_from _ _ (eq-eqb (v % 2 ^ 0) 0 h.0) (lt-ltb (v / 2 ^ 0) (2 ^ 16) h.1))
narrow-at v (inr h) = or_right _ _ (or_right _ _ (or_left _ _ (and_from _ _ (eq-eqb (v % 2 ^ 16) 0 h.0) (lt-ltb (v / 2 ^ 16) (2 ^ 16) h.1))))

narrow-high : (w : ℕ) → IsWord w → is_narrow (high w) ≡ true
narrow-high w fits = narrow-at (high w) (inr (omega arith, omega arith))

narrow-low : (w : ℕ) → is_narrow (low w) ≡ true
narrow-low w = narrow-at (low w) (inl (omega arith, omega arith))

pub narrow-small : (w : ℕ) → w < 65536 → is_narrow w ≡ true
narrow-small w lt = narrow-at w (inl (omega arith, omega arith))

-- ---- nodes by themselves

literal-nodes : (labels : List ssu.Label) (b : Bool) (n w : ℕ) (t : ssu.Tree) → is_narrow w ≡ b → IsWord w → are_nodes labels t ≡ true → are_nodes labels (literal b n w t) ≡ true
literal-nodes labels true n w t e fits h = and_from (is_narrow w) (are_nodes labels t) e h
literal-nodes labels false n w t e fits h = and_from (is_narrow (high w)) _ (narrow-high w fits) (and_from (is_narrow (low w)) (are_nodes labels t) (narrow-low w) h)

atom-nodes : (labels : List ssu.Label) (n : ℕ) (a : Atom) (t : ssu.Tree) → are_nodes labels t ≡ true → are_nodes labels (atom_literal n a t) ≡ true
atom-nodes labels n (Var x) t h = h
atom-nodes labels n (Lit v) t h = literal-nodes labels (is_narrow (word v)) n (word v) t refl (word-fits v) h

literals-nodes : (labels : List ssu.Label) (n : ℕ) (as' : List Atom) (t : ssu.Tree) → are_nodes labels t ≡ true → are_nodes labels (literals n as' t) ≡ true
literals-nodes labels n [] t h = h
literals-nodes labels n (a ∷ as') t h = atom-nodes labels (n + all_taken as') a (literals n as' t) (literals-nodes labels n as' t h)

clone-nodes : (labels : List ssu.Label) (b : Bool) (first n : ℕ) (t : ssu.Tree) → are_nodes labels t ≡ true → are_nodes labels (clone_step b first n t) ≡ true
clone-nodes labels true first n t h = h
clone-nodes labels false first n t h = h

pub clones-nodes : (labels : List ssu.Label) (base r : Counts) (xs : List ℕ) (t : ssu.Tree) → are_nodes labels t ≡ true → are_nodes labels (clones base r xs t) ≡ true
clones-nodes labels base r [] t h = h
clones-nodes labels base r (x ∷ xs) t h = clone-nodes labels (nat_lt 1 (r x)) (base x) (r x) (clones base r xs t) (clones-nodes labels base r xs t h)

prim-node : (known : List ℕ) (x : ℕ) (p : Primitive) (ys : List ℕ) → is_primitive known p ≡ true → single.is_step (prim_step x p ys) ≡ true
prim-node known x (Same a) ys h = refl
prim-node known x (UnaOf op a) ys h = (and_parts (has_count op) (is_known known a) h).0
prim-node known x (BinOf op a b) ys h = refl

-- labels with as many parameters
unfoldable pub AsMany : List Label → List ssu.Label → Type 0
AsMany ls ss = (n l : ℕ) → takes_as_many n (slice_get ls l) ≡ true → single.takes_as_many n (slice_get ss l) ≡ true

module _ (labels : List Label) (ss : List ssu.Label) (many : AsMany labels ss) (base : Counts) where
  pub made-nodes : (t : Tree) (known : List ℕ) (n : ℕ) → is_formed labels known t ≡ true → are_nodes ss (made base n t) ≡ true
  unfolding AsMany
  made-nodes (Let x p t) known n f =
      let parts = let-parts labels known x p t f in
      literals-nodes ss (n + spent t) (operands p) _ (and_from _ _ (prim-node known (value base (uses t) x) p _ parts.prim) (clones-nodes ss base (uses t) (x ∷ []) (made base n t) (made-nodes t (x ∷ known) n parts.rest)))
  made-nodes (Read m xs a t) known n f =
      let parts = read-parts labels known m xs a t f in
      literals-nodes ss (n + spent t) (a ∷ []) _ (and_from _ _ (ap (can_move m) (length-map xs (value base (uses t))) ∙ parts.count) (clones-nodes ss base (uses t) xs (made base n t) (made-nodes t (xs ++ known) n parts.rest)))
  made-nodes (Write m a bs t) known n f =
      let parts = write-parts labels known m a bs t f in
      literals-nodes ss (n + spent t) (a ∷ bs) _ (and_from _ _ (ap (can_move m) (names-length base (uses t) (n + spent t) bs) ∙ parts.count) (made-nodes t known n parts.rest))
  made-nodes (If c a b t u) known n f =
      let parts = if-parts labels known c a b t u f in
      literals-nodes ss (n + (spent u + spent t)) (a ∷ b ∷ []) _ (and_from _ _ (made-nodes t known (n + spent u) parts.first) (made-nodes u known n parts.second))
  made-nodes (Jump l bs) known n f =
      let parts = jump-parts labels known l bs f in
      let same = names-length base (λ y. 0) n bs in
      literals-nodes ss n bs _ (and_from _ _ parts.least (ap (λ k. single.takes_as_many k (slice_get ss l)) same ∙ many (length bs) l parts.many))
  made-nodes (Halt e bs) known n f =
      literals-nodes ss n bs _ (ap (λ k. nat_le k 8) (names-length base (λ y. 0) n bs) ∙ (halt-parts labels known e bs f).1)

-- ---- clones stand directly after their values

-- whatever was defined directly before
unfoldable pub EarlyAnyway : ssu.Tree → Type 0
EarlyAnyway t = (fresh : List ℕ) → clones_early fresh t ≡ true

literal-early : (b : Bool) (n w : ℕ) (t : ssu.Tree) → EarlyAnyway t → EarlyAnyway (literal b n w t)
unfolding EarlyAnyway
literal-early true n w t h = λ fresh. h (n ∷ [])
literal-early false n w t h = λ fresh. h ((n + 2) ∷ [])

atom-early : (n : ℕ) (a : Atom) (t : ssu.Tree) → EarlyAnyway t → EarlyAnyway (atom_literal n a t)
atom-early n (Var x) t h = h
atom-early n (Lit v) t h = literal-early (is_narrow (word v)) n (word v) t h

literals-early : (n : ℕ) (as' : List Atom) (t : ssu.Tree) → EarlyAnyway t → EarlyAnyway (literals n as' t)
literals-early n [] t h = h
literals-early n (a ∷ as') t h = atom-early (n + all_taken as') a (literals n as' t) (literals-early n as' t h)

clone-early : (b : Bool) (fresh : List ℕ) (first n : ℕ) (t : ssu.Tree) → is_in (if b then first + n else first) fresh ≡ true → clones_early fresh t ≡ true → clones_early fresh (clone_step b first n t) ≡ true
clone-early true fresh first n t i h = and_from _ _ i h
clone-early false fresh first n t i h = h

pub clones-are-early : (base r : Counts) (fresh xs : List ℕ) (t : ssu.Tree) → ((y : ℕ) → is_in y xs ≡ true → is_in (value base r y) fresh ≡ true) → EarlyAnyway t → clones_early fresh (clones base r xs t) ≡ true
unfolding EarlyAnyway
clones-are-early base r fresh [] t i h = h fresh
clones-are-early base r fresh (x ∷ xs) t i h =
    clone-early (nat_lt 1 (r x)) fresh (base x) (r x) (clones base r xs t) (i x (or_left (nat_eq x x) (is_in x xs) (same-test x)))
    (clones-are-early base r fresh xs t (λ y e. i y (or_right (nat_eq y x) (is_in y xs) e)) h)

prim-early : (base r : Counts) (x : ℕ) (p : Primitive) (ys : List ℕ) (t : ssu.Tree) → clones_early (value base r x ∷ []) t ≡ true → EarlyAnyway (ssu.Do (prim_step (value base r x) p ys) t)
unfolding EarlyAnyway
prim-early base r x (Same a) ys t h = λ fresh. h
prim-early base r x (UnaOf op a) ys t h = λ fresh. h
prim-early base r x (BinOf op a b) ys t h = λ fresh. h

pub made-early : (base : Counts) (t : Tree) (n : ℕ) → EarlyAnyway (made base n t)
unfolding EarlyAnyway
made-early base (Let x p t) n =
    literals-early (n + spent t) (operands p) _ (prim-early base (uses t) x p _ (clones base (uses t) (x ∷ []) (made base n t))
    (clones-are-early base (uses t) (value base (uses t) x ∷ []) (x ∷ []) (made base n t) (λ y i. image_from (value base (uses t)) (x ∷ []) y i) (made-early base t n)))
made-early base (Read m xs a t) n =
    literals-early (n + spent t) (a ∷ []) _ (λ fresh. clones-are-early base (uses t) (map (value base (uses t)) xs) xs (made base n t) (λ y i. image_from (value base (uses t)) xs y i) (made-early base t n))
made-early base (Write m a bs t) n = literals-early (n + spent t) (a ∷ bs) _ (λ fresh. made-early base t n [])
made-early base (If c a b t u) n = literals-early (n + (spent u + spent t)) (a ∷ b ∷ []) _ (λ fresh. and_from _ _ (made-early base t (n + spent u) []) (made-early base u n []))
made-early base (Jump l bs) n = literals-early n bs _ (λ fresh. refl)
made-early base (Halt e bs) n = literals-early n bs _ (λ fresh. refl)

-- ---- scratch is addressed by literals

unfoldable pub AddressedAnyway : ssu.Tree → Type 0
AddressedAnyway t = (number : Numbers) → are_addressed number t ≡ true

-- wherever this name has this number
pub AddressedWith : ℕ → Option ℕ → ssu.Tree → Type 0
AddressedWith z o t = (number : Numbers) → number z ≡ o → are_addressed number t ≡ true

other-number : (number : Numbers) (x z : ℕ) (o q : Option ℕ) → (z ≡ x → ⊥) → number z ≡ q → numbered number (x ∷ []) o z ≡ q
other-number number x z o q ne e = ap (λ b. if (b || false) then o else number z) (ne_eqb z x ne) ∙ e

same-numbered : (number : Numbers) (x : ℕ) (o : Option ℕ) → numbered number (x ∷ []) o x ≡ o
same-numbered number x o = ap (λ b. if (b || false) then o else number x) (same-test x)

literal-with : (b : Bool) (n w z : ℕ) (o : Option ℕ) (t : ssu.Tree) → n + names_taken b ≤ z → AddressedWith z o t → AddressedWith z o (literal b n w t)
unfolding AddressedWith
literal-with true n w z o t le h = λ number e. h (numbered number (n ∷ []) (Some w)) (other-number number n z (Some w) o (λ q. omega arith) e)
literal-with false n w z o t le h = λ number e.
    let one = numbered number (n ∷ []) (Some (high w)) in
    let two = numbered one ((n + 1) ∷ []) (Some (low w)) in
    h (numbered two ((n + 2) ∷ []) None) (other-number two (n + 2) z None o (λ q. omega arith) (other-number one (n + 1) z (Some (low w)) o (λ q. omega arith) (other-number number n z (Some (high w)) o (λ q. omega arith) e)))

atom-with : (n : ℕ) (a : Atom) (z : ℕ) (o : Option ℕ) (t : ssu.Tree) → n + taken a ≤ z → AddressedWith z o t → AddressedWith z o (atom_literal n a t)
atom-with n (Var x) z o t le h = h
atom-with n (Lit v) z o t le h = literal-with (is_narrow (word v)) n (word v) z o t le h

literals-with : (n : ℕ) (as' : List Atom) (z : ℕ) (o : Option ℕ) (t : ssu.Tree) → n + all_taken as' ≤ z → AddressedWith z o t → AddressedWith z o (literals n as' t)
literals-with n [] z o t le h = h
literals-with n (a ∷ as') z o t le h = atom-with (n + all_taken as') a z o (literals n as' t) (omega arith) (literals-with n as' z o t (omega arith) h)

literal-addressed : (b : Bool) (n w : ℕ) (t : ssu.Tree) → AddressedAnyway t → AddressedAnyway (literal b n w t)
unfolding AddressedAnyway
literal-addressed true n w t h = λ number. h _
literal-addressed false n w t h = λ number. h _

atom-addressed : (n : ℕ) (a : Atom) (t : ssu.Tree) → AddressedAnyway t → AddressedAnyway (atom_literal n a t)
atom-addressed n (Var x) t h = h
atom-addressed n (Lit v) t h = literal-addressed (is_narrow (word v)) n (word v) t h

literals-addressed : (n : ℕ) (as' : List Atom) (t : ssu.Tree) → AddressedAnyway t → AddressedAnyway (literals n as' t)
literals-addressed n [] t h = h
literals-addressed n (a ∷ as') t h = atom-addressed (n + all_taken as') a (literals n as' t) (literals-addressed n as' t h)

clone-addressed : (b : Bool) (first n : ℕ) (t : ssu.Tree) → AddressedAnyway t → AddressedAnyway (clone_step b first n t)
unfolding AddressedAnyway
clone-addressed true first n t h = λ number. h _
clone-addressed false first n t h = h

pub clones-addressed : (base r : Counts) (xs : List ℕ) (t : ssu.Tree) → AddressedAnyway t → AddressedAnyway (clones base r xs t)
clones-addressed base r [] t h = h
clones-addressed base r (x ∷ xs) t h = clone-addressed (nat_lt 1 (r x)) (base x) (r x) (clones base r xs t) (clones-addressed base r xs t h)

-- a literal of scratch below 512 is narrow
small-literal : (v k : ℕ) → nat_le (v + k) 512 ≡ true → (is_narrow (word v) ≡ true) × (word v ≡ v)
small-literal v k h =
    let le = leb-true (v + k) 512 h in
    let same : word v ≡ v = omega arith in
    (narrow-small (word v) (omega arith), same)

-- an access of a memory at a literal, or at any address where the memory isn't scratch
any-address : (m : Mem) (a : Atom) (n k : ℕ) (base r : Counts) (as' : List Atom) (t : ssu.Tree) → is_address m a k ≡ true
    → ((number : Numbers) → single.is_address m (number (slice_index (names base r n (a ∷ as')) 0)) k ≡ true → are_addressed number t ≡ true) → AddressedAnyway (literals n (a ∷ as') t)
unfolding AddressedAnyway AddressedWith
any-address Sram a n k base r as' t i h = literals-addressed n (a ∷ as') t (λ number. h number refl)
any-address Sdram a n k base r as' t i h = literals-addressed n (a ∷ as') t (λ number. h number refl)
any-address Scratch (Var x) n k base r as' t i h = absurd (false≢true i)
any-address Scratch (Lit v) n k base r as' t i h =
    let small = small-literal v k i in
    let N = n + all_taken as' in
    let name-is : slice_index (names base r n (Lit v ∷ as')) 0 ≡ N = ap (λ b. last_taken b N) small.0 in
    let inner : AddressedWith N (Some (word v)) (literals n as' t) =
    literals-with n as' N (Some (word v)) t (omega arith) (λ number e.
    h number (ap (λ z. fits_scratch k (number z)) name-is ∙ ap (fits_scratch k) e ∙ ap (λ w. nat_le (w + k) 512) small.1 ∙ i)) in
    λ number. ap (λ b. are_addressed number (literal b N (word v) (literals n as' t))) small.0 ∙ inner (numbered number (N ∷ []) (Some (word v))) (same-numbered number N (Some (word v)))

prim-addressed : (x : ℕ) (p : Primitive) (ys : List ℕ) (t : ssu.Tree) → AddressedAnyway t → AddressedAnyway (ssu.Do (prim_step x p ys) t)
unfolding AddressedAnyway
prim-addressed x (Same a) ys t h = λ number. h _
prim-addressed x (UnaOf op a) ys t h = λ number. h _
prim-addressed x (BinOf op a b) ys t h = λ number. h _

pub made-addressed : (labels : List Label) (base : Counts) (t : Tree) (known : List ℕ) (n : ℕ) → is_formed labels known t ≡ true → AddressedAnyway (made base n t)
unfolding AddressedAnyway
made-addressed labels base (Let x p t) known n f =
    literals-addressed (n + spent t) (operands p) _ (prim-addressed (value base (uses t) x) p _ (clones base (uses t) (x ∷ []) (made base n t)) (clones-addressed base (uses t) (x ∷ []) (made base n t) (made-addressed labels base t (x ∷ known) n (let-parts labels known x p t f).rest)))
made-addressed labels base (Read m xs a t) known n f =
    let parts = read-parts labels known m xs a t f in
    any-address m a (n + spent t) (length xs) base (outside xs (uses t)) [] _ parts.scratch
    (λ number i. and_from _ _ (ap (single.is_address m (number _)) (length-map xs (value base (uses t))) ∙ i) (clones-addressed base (uses t) xs (made base n t) (made-addressed labels base t (xs ++ known) n parts.rest) _))
made-addressed labels base (Write m a bs t) known n f =
    let parts = write-parts labels known m a bs t f in
    any-address m a (n + spent t) (length bs) base (uses t) bs _ parts.scratch
    (λ number i. and_from _ _ (ap (single.is_address m (number _)) (names-length base (uses t) (n + spent t) bs) ∙ i) (made-addressed labels base t known n parts.rest _))
made-addressed labels base (If c a b t u) known n f =
    let parts = if-parts labels known c a b t u f in
    literals-addressed (n + (spent u + spent t)) (a ∷ b ∷ []) _ (λ number. and_from _ _ (made-addressed labels base t known (n + spent u) parts.first number) (made-addressed labels base u known n parts.second number))
made-addressed labels base (Jump l bs) known n f = literals-addressed n bs _ (λ number. refl)
made-addressed labels base (Halt e bs) known n f = literals-addressed n bs _ (λ number. refl)
