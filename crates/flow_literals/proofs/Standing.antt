-- What stands for literals.
use Rattle.std.proofs.Common.{◌≡◌, ℕ, ◌+◌, ◌<◌, Bool, true, false, nat_eq, List, [], ◌∷◌, ◌++◌, map, refl, sym, ap, ◌∙◌, length, if◌then◌else◌, arith}
use Rattle.std.specs.List.{range_with_len}
use Rattle.std.proofs.lemmas.Bool.{and_parts, and_from, or_left, or_parts, false≢true, false_from_ne_true, eq-eqb}
use Rattle.nv_base.specs.declared.term.Atom.{Atom}
use Rattle.nv_base.specs.declared.term.Atom.TheVariants.{Var, Lit}
use Rattle.nv_base.specs.declared.term.Mem.{Mem}
use Rattle.nv_base.specs.declared.term.Mem.TheVariants.{Sram, Sdram, Scratch}
use Rattle.nv_base.specs.declared.term.Cmp.{Cmp}
use Rattle.nv_base.specs.declared.term.Primitive.{Primitive}
use Rattle.nv_base.specs.declared.term.Primitive.TheVariants.{Same, Una as UnaOf, Bin as BinOf}
use Rattle.nv_base.specs.Words.{Env, word, assigned, assigned_all, atom_word, atom_words, atom_vars, prim_word, una_word, bin_word}
use Rattle.nv_base.specs.Sets.{is_in, Within, AgreeOn}
use Rattle.nv_base.specs.Access.{is_known, all_known, is_primitive, has_count, is_address}
use Rattle.nv_base.proofs.Sets.{same-number, agree-all, agree-left}
use Rattle.flow_ir.proofs.Members.{first-or-rest, in-first, in-rest, out-join}
use Rattle.flow_ir.proofs.Renaming.{atom_known}
use Rattle.flow_literals.proofs.Ranges.{below_range}
use Rattle.flow_literals.specs.Turns.{is_zero_test}
use Rattle.flow_literals.specs.inner.Hoisted.{held, at, test_at, address_at, prim_at, AreBelow}

-- ---- what it may be

-- each literal has its word
abbrev pub Stands : (ℕ → Atom) → Env → Type 0
Stands own env = (v : ℕ) → atom_word env (own v) ≡ word v

-- no variable below a number stands for one
abbrev pub IsFree : ℕ → (ℕ → Atom) → Type 0
IsFree base own = (v x : ℕ) → x < base → is_in x (atom_vars (own v)) ≡ false

held_at : (b : Bool) (x : ℕ) (xs : List ℕ) (a : Atom) (y : ℕ) → (is_in y (atom_vars a) ≡ true → is_in y xs ≡ true) → is_in y (atom_vars (if b then Var x else a)) ≡ true → is_in y (x ∷ xs) ≡ true
held_at true x xs a y h i = first-or-rest y x [] i (λ e. or_left (nat_eq y x) (is_in y xs) e) (λ e. absurd (false≢true e))
held_at false x xs a y h i = in-rest y x xs (h i)

pub held_vars : (ws xs : List ℕ) (v y : ℕ) → is_in y (atom_vars (held ws xs v)) ≡ true → is_in y xs ≡ true
held_vars [] xs v y i = absurd (false≢true i)
held_vars (w ∷ ws) [] v y i = absurd (false≢true i)
held_vars (w ∷ ws) (x ∷ xs) v y i = held_at (nat_eq v w) x xs (held ws xs v) y (held_vars ws xs v y) i

pub held_free : (ws : List ℕ) (base n : ℕ) → IsFree base (held ws (range_with_len base n))
held_free ws base n = λ v x lt. false_from_ne_true (is_in x (atom_vars (held ws (range_with_len base n) v))) (λ i. false≢true (sym (below_range n x base lt) ∙ held_vars ws (range_with_len base n) v x i))

pub held_known : (ws xs known : List ℕ) (v : ℕ) → Within xs known → is_known known (held ws xs v) ≡ true
held_known ws xs known v h = atom_known known (held ws xs v) (λ y i. h y (held_vars ws xs v y i))

-- ---- where more variables get words

other_word : (env : Env) (x w : ℕ) (a : Atom) → is_in x (atom_vars a) ≡ false → atom_word (assigned env x w) a ≡ atom_word env a
other_word env x w (Var y) e = ap (λ b. if b then w else env y) (turned (nat_eq y x) refl)
  where
    turned : (b : Bool) → nat_eq y x ≡ b → nat_eq y x ≡ false
    turned true q = absurd (false≢true (sym (or_parts (nat_eq x y) false e).0 ∙ eq-eqb x y (sym (same-number y x q))))
    turned false q = q
other_word env x w (Lit v) e = refl

pub stands_one : (base : ℕ) (own : ℕ → Atom) (env : Env) (x w : ℕ) → IsFree base own → x < base → Stands own env → Stands own (assigned env x w)
stands_one base own env x w free lt h = λ v. other_word env x w (own v) (free v x lt) ∙ h v

pub stands_all : (base : ℕ) (own : ℕ → Atom) (xs ws : List ℕ) (env : Env) → IsFree base own → AreBelow base xs → Stands own env → Stands own (assigned_all env xs ws)
stands_all base own [] ws env free below h = h
stands_all base own (x ∷ xs) [] env free below h = stands_all base own xs [] (assigned env x 0) free (λ y i. below y (in-rest y x xs i)) (stands_one base own env x 0 free (below x (in-first x xs)) h)
stands_all base own (x ∷ xs) (w ∷ ws) env free below h = stands_all base own xs ws (assigned env x w) free (λ y i. below y (in-rest y x xs i)) (stands_one base own env x w free (below x (in-first x xs)) h)

-- ---- where a label begins

kept : (xs ws : List ℕ) (env : Env) (y : ℕ) → is_in y xs ≡ false → assigned_all env xs ws y ≡ env y
kept [] ws env y e = refl
kept (x ∷ xs) [] env y e = let parts = or_parts (nat_eq y x) (is_in y xs) e in kept xs [] (assigned env x 0) y parts.1 ∙ ap (λ b. if b then 0 else env y) parts.0
kept (x ∷ xs) (w ∷ ws) env y e = let parts = or_parts (nat_eq y x) (is_in y xs) e in kept xs ws (assigned env x w) y parts.1 ∙ ap (λ b. if b then w else env y) parts.0

stands_at : (b : Bool) (v w x : ℕ) (a : Atom) (env : Env) → nat_eq v w ≡ b → env x ≡ word w → atom_word env a ≡ word v → atom_word env (if b then Var x else a) ≡ word v
stands_at true v w x a env e h g = h ∙ ap word (sym (same-number v w e))
stands_at false v w x a env e h g = g

-- what stands for the literals stands for them where a label begins
pub entry_stands : (ws ps args : List ℕ) (base : ℕ) (env : Env) → AreBelow base ps → Stands (held ws (range_with_len base (length ws))) (assigned_all env (range_with_len base (length ws) ++ ps) (map word ws ++ args))
entry_stands [] ps args base env below = λ v. refl
entry_stands (w ∷ ws) ps args base env below =
    let r = range_with_len (base + 1) (length ws) in
    let start = assigned env base (word w) in
    let whole = assigned_all start (r ++ ps) (map word ws ++ args) in
    let out : is_in base (r ++ ps) ≡ false = out-join base r ps (below_range (length ws) base (base + 1) (omega arith)) (false_from_ne_true (is_in base ps) (λ i. let lt = below base i in absurd (omega arith))) in
    let here : whole base ≡ word w = kept (r ++ ps) (map word ws ++ args) start base out ∙ ap (λ b. if b then word w else env base) (eq-eqb base base refl) in
    let others = entry_stands ws ps args (base + 1) start (λ y i. let lt = below y i in omega arith) in
    λ v. stands_at (nat_eq v w) v w base (held ws r v) whole refl here (others v)

-- and the other parameters have their words
pub entry_agrees : (ws ps args : List ℕ) (base : ℕ) (blank env : Env) → AgreeOn ps (assigned_all blank ps args) (assigned_all env (range_with_len base (length ws) ++ ps) (map word ws ++ args))
entry_agrees [] ps args base blank env =
    let none : AgreeOn [] blank env = λ y i. absurd (false≢true i) in
    agree-left ps [] (assigned_all blank ps args) (assigned_all env ps args) (agree-all ps args [] blank env none)
entry_agrees (w ∷ ws) ps args base blank env = entry_agrees ws ps args (base + 1) blank (assigned env base (word w))

-- ---- operands

module _ (own : ℕ → Atom) (known : List ℕ) (env new : Env) (agree : AgreeOn known env new) (stands : Stands own new) where
  at_word : (a : Atom) → is_known known a ≡ true → atom_word new (at own a) ≡ atom_word env a
  at_word (Var x) e = sym (agree x e)
  at_word (Lit v) e = stands v

  same_word : (a : Atom) → is_known known a ≡ true → atom_word new a ≡ atom_word env a
  same_word (Var x) e = sym (agree x e)
  same_word (Lit v) e = refl

  pub same_words : (bs : List Atom) → all_known known bs ≡ true → atom_words new bs ≡ atom_words env bs
  same_words [] e = refl
  same_words (b ∷ bs) e = let parts = and_parts (is_known known b) (all_known known bs) e in ap (λ w. w ∷ atom_words new bs) (same_word b parts.0) ∙ ap (λ ws. atom_word env b ∷ ws) (same_words bs parts.1)

  test_word_at : (b : Bool) (a : Atom) → is_known known a ≡ true → atom_word new (if b then a else at own a) ≡ atom_word env a
  test_word_at true a e = same_word a e
  test_word_at false a e = at_word a e

  pub test_word : (c : Cmp) (a : Atom) → is_known known a ≡ true → atom_word new (test_at own c a) ≡ atom_word env a
  test_word c a e = test_word_at (is_zero_test c a) a e

  pub address_word : (m : Mem) (a : Atom) → is_known known a ≡ true → atom_word new (address_at own m a) ≡ atom_word env a
  address_word Sram a e = at_word a e
  address_word Sdram a e = at_word a e
  address_word Scratch a e = same_word a e

  pub prim_at_word : (p : Primitive) → is_primitive known p ≡ true → prim_word new (prim_at own p) ≡ prim_word env p
  prim_at_word (Same a) e = at_word a e
  prim_at_word (UnaOf op a) e = ap (una_word op) (at_word a (and_parts (has_count op) (is_known known a) e).1)
  prim_at_word (BinOf op a b) e =
      let parts = and_parts (is_known known a) (is_known known b) e in ap (λ w. bin_word op w (atom_word new (at own b))) (at_word a parts.0) ∙ ap (bin_word op (atom_word env a)) (at_word b parts.1)

  pub handed_words : (vs : List ℕ) (bs : List Atom) → all_known known bs ≡ true → atom_words new (map own vs ++ bs) ≡ map word vs ++ atom_words env bs
  handed_words [] bs e = same_words bs e
  handed_words (v ∷ vs) bs e = ap (λ w. w ∷ atom_words new (map own vs ++ bs)) (stands v) ∙ ap (λ ws. word v ∷ ws) (handed_words vs bs e)

-- ---- operands are known, and addresses stay so

module _ (own : ℕ → Atom) (known known' : List ℕ) (more : Within known known') (fine : (v : ℕ) → is_known known' (own v) ≡ true) where
  pub still : (a : Atom) → is_known known a ≡ true → is_known known' a ≡ true
  still (Var x) e = more x e
  still (Lit v) e = refl

  pub all_still : (bs : List Atom) → all_known known bs ≡ true → all_known known' bs ≡ true
  all_still [] e = refl
  all_still (b ∷ bs) e = let parts = and_parts (is_known known b) (all_known known bs) e in and_from (is_known known' b) (all_known known' bs) (still b parts.0) (all_still bs parts.1)

  at_known : (a : Atom) → is_known known a ≡ true → is_known known' (at own a) ≡ true
  at_known (Var x) e = more x e
  at_known (Lit v) e = fine v

  test_known_at : (b : Bool) (a : Atom) → is_known known a ≡ true → is_known known' (if b then a else at own a) ≡ true
  test_known_at true a e = still a e
  test_known_at false a e = at_known a e

  pub test_known : (c : Cmp) (a : Atom) → is_known known a ≡ true → is_known known' (test_at own c a) ≡ true
  test_known c a e = test_known_at (is_zero_test c a) a e

  pub address_known : (m : Mem) (a : Atom) → is_known known a ≡ true → is_known known' (address_at own m a) ≡ true
  address_known Sram a e = at_known a e
  address_known Sdram a e = at_known a e
  address_known Scratch a e = still a e

  pub prim_at_known : (p : Primitive) → is_primitive known p ≡ true → is_primitive known' (prim_at own p) ≡ true
  prim_at_known (Same a) e = at_known a e
  prim_at_known (UnaOf op a) e = let parts = and_parts (has_count op) (is_known known a) e in and_from (has_count op) (is_known known' (at own a)) parts.0 (at_known a parts.1)
  prim_at_known (BinOf op a b) e = let parts = and_parts (is_known known a) (is_known known b) e in and_from (is_known known' (at own a)) (is_known known' (at own b)) (at_known a parts.0) (at_known b parts.1)

  pub handed_known : (vs : List ℕ) (bs : List Atom) → all_known known bs ≡ true → all_known known' (map own vs ++ bs) ≡ true
  handed_known [] bs e = all_still bs e
  handed_known (v ∷ vs) bs e = and_from (is_known known' (own v)) (all_known known' (map own vs ++ bs)) (fine v) (handed_known vs bs e)

pub still_address : (own : ℕ → Atom) (m : Mem) (a : Atom) (n : ℕ) → is_address m a n ≡ true → is_address m (address_at own m a) n ≡ true
still_address own Sram a n e = refl
still_address own Sdram a n e = refl
still_address own Scratch a n e = e
