-- What is in scope: the variables that definitions and bits in view speak of.
use Rattle.std.proofs.Common.{◌≡◌, ℕ, ◌-◌, ◌+◌, ◌<◌, Bool, true, false, nat_eq, nat_lt, nat_le, ◌||◌, List, [], ◌∷◌, refl, sym, ap, subst, ◌∙◌, ⊎_elim, ◌≤◌, if◌then◌else◌, slice_index_or, arith}
use Rattle.std.specs.Prelude.{⊤}
use Rattle.std.specs.Int.{bit_at}
use Rattle.std.proofs.lemmas.Bool.{and_parts, and_from, false≢true, cases_lt}
use Rattle.std.proofs.lemmas.List.FromFn.{length-map-range_with_len}
use Rattle.std.proofs.lemmas.List.{get_or-replicate, get_or_past, length-replicate}
use Rattle.nv_base.specs.declared.term.Atom.{Atom}
use Rattle.nv_base.specs.declared.term.Atom.TheVariants.{Var, Lit}
use Rattle.nv_base.specs.declared.term.Una.{Una}
use Rattle.nv_base.specs.declared.term.Una.TheVariants.{Not, Shl, Shr, Rol}
use Rattle.nv_base.specs.declared.term.Bin.TheVariants.{Add, Sub, And, Or, Xor}
use Rattle.nv_base.specs.declared.term.Primitive.{Primitive}
use Rattle.nv_base.specs.declared.term.Primitive.TheVariants.{Same, Una as UnaOf, Bin as BinOf}
use Rattle.nv_base.specs.Words.{HasPrimCount, atom_vars, prim_vars}
use Rattle.nv_base.specs.Sets.{is_in}
use Rattle.nv_base.specs.Access as access
use Rattle.nv_base.proofs.Sets.{same-number}
use Rattle.nv_base.proofs.Operands.{count_of_known}
use Rattle.flow_ir.proofs.Members.{either, first-or-rest}
use Rattle.flow_words.specs.declared.bits.Bit.{Bit}
use Rattle.flow_words.specs.declared.bits.Bit.TheVariants.{Unknown, Zero, One, Of, Flipped}
use Rattle.flow_words.specs.declared.state.Known.{Known}
use Rattle.flow_words.specs.Bits as bits
use Rattle.flow_words.specs.Bits.{flipped, is_zero, is_one, is_same, common, differing, own, literal_bit, atom_bit, una_bit, is_free, above, sum_bit, bin_bit, prim_bit, bits_of, bit_of}
use Rattle.flow_words.specs.Definitions.{of_prim}
use Rattle.flow_words.proofs.Bitwise.{bit_at_place}
use Rattle.flow_words.specs.Tables.{Table, unknown, itself, nothing, with_known, with_all, is_live, is_settled}

-- ---- one variable or another

same_at : {C : Type 0} (b : Bool) (y x : ℕ) → nat_eq y x ≡ b → (nat_eq y x ≡ true → C) → (nat_eq y x ≡ false → C) → C
same_at true y x e f g = f e
same_at false y x e f g = g e

pub same_case : {C : Type 0} (y x : ℕ) → (nat_eq y x ≡ true → C) → (nat_eq y x ≡ false → C) → C
same_case y x f g = same_at (nat_eq y x) y x refl f g

pub with_here : (T : Table) (x y : ℕ) (k : Known) → nat_eq y x ≡ true → with_known T x k y ≡ k
with_here T x y k e = ap (λ b. if b then k else T y) e

pub with_else : (T : Table) (x y : ℕ) (k : Known) → nat_eq y x ≡ false → with_known T x k y ≡ T y
with_else T x y k e = ap (λ b. if b then k else T y) e

-- what is in scope is another variable than one that isn't
pub other : (T : Table) (x y : ℕ) → (T x).live ≡ false → (T y).live ≡ true → nat_eq y x ≡ false
other T x y dead live = same_case y x (λ e. absurd (false≢true (sym dead ∙ ap (λ z. (T z).live) (sym (same-number y x e)) ∙ live))) (λ e. e)

-- ---- what a definition may use is in scope

pub atom_live : (T : Table) (a : Atom) → is_live T a ≡ true → (z : ℕ) → is_in z (atom_vars a) ≡ true → (T z).live ≡ true
atom_live T (Var x) e z i = first-or-rest z x [] i (λ p. ap (λ v. (T v).live) (same-number z x p) ∙ e) (λ p. absurd (false≢true p))
atom_live T (Lit v) e z i = absurd (false≢true i)

pub settled_live : (T : Table) (q : Primitive) → is_settled T q ≡ true → (z : ℕ) → is_in z (prim_vars q) ≡ true → (T z).live ≡ true
settled_live T (Same a) e = atom_live T a e
settled_live T (UnaOf op a) e = atom_live T a (and_parts (access.has_count op) (is_live T a) e).1
settled_live T (BinOf op a b) e =
    let parts = and_parts (is_live T a) (is_live T b) e in
    λ z i. either z (atom_vars a) (atom_vars b) i (λ p. atom_live T a parts.0 z p) (λ p. atom_live T b parts.1 z p)

pub settled_count : (T : Table) (q : Primitive) → is_settled T q ≡ true → HasPrimCount q
settled_count T (Same a) e = tt
settled_count T (UnaOf op a) e = count_of_known [] (UnaOf op (Lit 0)) (and_from (access.has_count op) true (and_parts (access.has_count op) (is_live T a) e).0 refl)
settled_count T (BinOf op a b) e = tt

-- a bit is one of a variable in scope
abbrev pub IsLiveBit : Table → Bit → Type 0
IsLiveBit T Unknown = ⊤
IsLiveBit T Zero = ⊤
IsLiveBit T One = ⊤
IsLiveBit T (Of x j) = (T x).live ≡ true
IsLiveBit T (Flipped x j) = (T x).live ≡ true

pub record Closed (T : Table) : Type 0 where
  pub own : (y z : ℕ) → (T y).live ≡ true → is_in z (prim_vars (T y).made) ≡ true → (T z).live ≡ true
  pub bits : (y i : ℕ) → (T y).live ≡ true → IsLiveBit T (bit_of (T y).bits i)

-- ---- the bits of operations

choose : (c : Bool) (P : Bit → Type 0) (x y : Bit) → P x → P y → P (if c then x else y)
choose true P x y f g = f
choose false P x y f g = g

module _ (T : Table) where
  flipped_live : (b : Bit) → IsLiveBit T b → IsLiveBit T (flipped b)
  flipped_live Unknown h = tt
  flipped_live Zero h = tt
  flipped_live One h = tt
  flipped_live (Of x j) h = h
  flipped_live (Flipped x j) h = h

  common_live : (a b : Bit) → IsLiveBit T a → IsLiveBit T b → IsLiveBit T (common a b)
  common_live a b h g =
      choose (is_zero a || is_zero b) (IsLiveBit T) Zero _ tt (choose (is_one a) (IsLiveBit T) b _ g (choose (is_one b || is_same a b) (IsLiveBit T) a Unknown h tt))

  either_live : (a b : Bit) → IsLiveBit T a → IsLiveBit T b → IsLiveBit T (bits.either a b)
  either_live a b h g =
      choose (is_zero a) (IsLiveBit T) b _ g (choose (is_zero b || is_same a b) (IsLiveBit T) a _ h (choose (is_one a || is_one b) (IsLiveBit T) One Unknown tt tt))

  differing_live : (a b : Bit) → IsLiveBit T a → IsLiveBit T b → IsLiveBit T (differing a b)
  differing_live a b h g =
      choose (is_zero a) (IsLiveBit T) b _ g
      (choose (is_zero b) (IsLiveBit T) a _ h
      (choose (is_one a) (IsLiveBit T) (flipped b) _ (flipped_live b g) (choose (is_one b) (IsLiveBit T) (flipped a) _ (flipped_live a h) (choose (is_same a b) (IsLiveBit T) Zero Unknown tt tt))))

  own_live : (x i : ℕ) (b : Bit) → (T x).live ≡ true → IsLiveBit T b → IsLiveBit T (own x i b)
  own_live x i Unknown e h = e
  own_live x i Zero e h = tt
  own_live x i One e h = tt
  own_live x i (Of y j) e h = h
  own_live x i (Flipped y j) e h = h

module _ (T : Table) (closed : Closed T) where
  atom_bit_live : (a : Atom) (i : ℕ) → is_live T a ≡ true → IsLiveBit T (atom_bit T a i)
  atom_bit_live (Var x) i e =
      choose (T x).live (IsLiveBit T) (own x i (slice_index_or (T x).bits i Unknown)) (Of x i) (own_live T x i (slice_index_or (T x).bits i Unknown) e (closed.bits x i e)) e
  atom_bit_live (Lit v) i e = choose (nat_eq (bit_at v i) 1) (IsLiveBit T) One Zero tt tt

  una_bit_live : (op : Una) (a : Atom) (i : ℕ) → is_live T a ≡ true → IsLiveBit T (una_bit T op a i)
  una_bit_live Not a i e = flipped_live T (atom_bit T a i) (atom_bit_live a i e)
  una_bit_live (Shl k) a i e = choose (nat_lt i k) (IsLiveBit T) Zero (atom_bit T a (i - k)) tt (atom_bit_live a (i - k) e)
  una_bit_live (Shr k) a i e = choose (nat_lt k (32 - i)) (IsLiveBit T) (atom_bit T a (i + k)) Zero (atom_bit_live a (i + k) e) tt
  una_bit_live (Rol k) a i e =
      choose (nat_le k i) (IsLiveBit T) (atom_bit T a (i - k)) _ (atom_bit_live a (i - k) e)
      (choose (nat_le k 32) (IsLiveBit T) (atom_bit T a (i + (32 - k))) Unknown (atom_bit_live a (i + (32 - k)) e) tt)

  pub prim_bit_live : (p : Primitive) (i : ℕ) → is_settled T p ≡ true → IsLiveBit T (prim_bit T p i)
  prim_bit_live (Same a) i e = atom_bit_live a i e
  prim_bit_live (UnaOf op a) i e = una_bit_live op a i (and_parts (access.has_count op) (is_live T a) e).1
  prim_bit_live (BinOf Add a b) i e =
      let parts = and_parts (is_live T a) (is_live T b) e in
      choose (is_free T a b i) (IsLiveBit T) (differing (atom_bit T a i) (atom_bit T b i)) _ (differing_live T (atom_bit T a i) (atom_bit T b i) (atom_bit_live a i parts.0) (atom_bit_live b i parts.1))
      (choose (nat_lt (above T a b 32) i) (IsLiveBit T) Zero Unknown tt tt)
  prim_bit_live (BinOf Sub a b) i e = tt
  prim_bit_live (BinOf And a b) i e = let parts = and_parts (is_live T a) (is_live T b) e in common_live T (atom_bit T a i) (atom_bit T b i) (atom_bit_live a i parts.0) (atom_bit_live b i parts.1)
  prim_bit_live (BinOf Or a b) i e = let parts = and_parts (is_live T a) (is_live T b) e in either_live T (atom_bit T a i) (atom_bit T b i) (atom_bit_live a i parts.0) (atom_bit_live b i parts.1)
  prim_bit_live (BinOf Xor a b) i e = let parts = and_parts (is_live T a) (is_live T b) e in differing_live T (atom_bit T a i) (atom_bit T b i) (atom_bit_live a i parts.0) (atom_bit_live b i parts.1)

pub live_more : (T : Table) (x z : ℕ) (k : Known) → k.live ≡ true → (T z).live ≡ true → (with_known T x k z).live ≡ true
live_more T x z k live e = same_case z x (λ p. ap (λ (j : Known). j.live) (with_here T x z k p) ∙ live) (λ p. ap (λ (j : Known). j.live) (with_else T x z k p) ∙ e)

bit_more : (T : Table) (x : ℕ) (k : Known) (b : Bit) → k.live ≡ true → IsLiveBit T b → IsLiveBit (with_known T x k) b
bit_more T x k Unknown live h = tt
bit_more T x k Zero live h = tt
bit_more T x k One live h = tt
bit_more T x k (Of y j) live h = live_more T x y k live h
bit_more T x k (Flipped y j) live h = live_more T x y k live h

closed_more : (T : Table) (x : ℕ) (k : Known) → Closed T → k.live ≡ true → ((z : ℕ) → is_in z (prim_vars k.made) ≡ true → (with_known T x k z).live ≡ true) → ((i : ℕ) → IsLiveBit T (bit_of k.bits i)) → Closed (with_known T x k)
closed_more T x k closed live h g = record {
  bits = λ y i alive.
      same_case y x (λ p. subst (λ (j : Known). IsLiveBit (with_known T x k) (bit_of j.bits i)) (sym (with_here T x y k p)) (bit_more T x k (bit_of k.bits i) live (g i)))
      (λ p.
      let e = with_else T x y k p in
      subst (λ (j : Known). IsLiveBit (with_known T x k) (bit_of j.bits i)) (sym e) (bit_more T x k (bit_of (T y).bits i) live (closed.bits y i (subst (λ (j : Known). j.live ≡ true) e alive))));
  own = λ y z alive i.
      same_case y x
      (λ p. h z (subst (λ (j : Known). is_in z (prim_vars j.made) ≡ true) (with_here T x y k p) i))
      (λ p.
      let e = with_else T x y k p in
      live_more T x z k live (closed.own y z (subst (λ (j : Known). j.live ≡ true) e alive) (subst (λ (j : Known). is_in z (prim_vars j.made) ≡ true) e i)));
}

-- past the last bit nothing is known
bits_live : (T : Table) (q : Primitive) → Closed T → is_settled T q ≡ true → (i : ℕ) → IsLiveBit T (bit_of (bits_of T q) i)
bits_live T q closed settled i =
    ⊎_elim (λ (lt : i < 32). subst (IsLiveBit T) (sym (bit_at_place T q i lt)) (prim_bit_live T closed q i settled))
    (λ (le : 32 ≤ i). subst (IsLiveBit T) (sym (get_or_past (bits_of T q) i Unknown (let e = length-map-range_with_len (prim_bit T q) 0 32 in omega (arith, e, le)))) tt)
    (cases_lt i 32)

pub no_bit : (i : ℕ) → bit_of unknown i ≡ Unknown
no_bit i = ⊎_elim (λ (lt : i < 32). get_or-replicate 32 i Unknown Unknown lt) (λ (le : 32 ≤ i). get_or_past unknown i Unknown (let e = length-replicate 32 Unknown in omega (arith, e, le))) (cases_lt i 32)

pub closed_made : (T : Table) (x : ℕ) (q : Primitive) → Closed T → is_settled T q ≡ true → Closed (with_known T x (of_prim T q))
closed_made T x q closed settled = closed_more T x (of_prim T q) closed refl (λ z i. live_more T x z (of_prim T q) refl (settled_live T q settled z i)) (bits_live T q closed settled)

pub closed_itself : (T : Table) (x : ℕ) → Closed T → Closed (with_known T x (itself x))
closed_itself T x closed =
    closed_more T x (itself x) closed refl (λ z i. first-or-rest z x [] i (λ p. ap (λ (j : Known). j.live) (with_here T x z (itself x) p)) (λ p. absurd (false≢true p)))
    (λ i. subst (IsLiveBit T) (sym (no_bit i)) tt)

pub closed_all : (T : Table) (xs : List ℕ) → Closed T → Closed (with_all T xs)
closed_all T [] closed = closed
closed_all T (x ∷ xs) closed = closed_all (with_known T x (itself x)) xs (closed_itself T x closed)

pub closed_nothing : Closed nothing
closed_nothing = record { own = λ y z alive i. absurd (false≢true alive); bits = λ y i alive. absurd (false≢true alive) }
