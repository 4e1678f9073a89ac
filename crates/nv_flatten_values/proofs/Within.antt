-- Sets of variables: what is in which, and how many they are.
use Rattle.std.proofs.Common.{◌≡◌, ℕ, zero, suc, ◌+◌, ◌≤◌, nat_eq, Bool, true, ◌&&◌, ◌||◌, ⊎_elim, List, [], ◌∷◌, ◌++◌, refl, sym, ap, subst, ◌∙◌, append_assoc, length, arith}
use Rattle.std.proofs.lemmas.Bool.{false≢true, and_parts, or_cases}
use Rattle.nv_base.specs.declared.term.Atom.{Atom}
use Rattle.nv_base.specs.declared.term.Atom.TheVariants.{Var, Lit}
use Rattle.nv_base.specs.Words.{atom_vars}
use Rattle.nv_base.specs.Sets.{different, without, all_vars}
use Rattle.nv_base.specs.Measures.{operands_wide}
use Rattle.nv_base.proofs.Sets.{same-number, different-below, different-append, different-length, within-left, within-right, within-both, within-without}
use Rattle.nv_flatten_values.specs.inner.Narrow.{IsWithin, AddsAtMost}

pub itself : {a : List ℕ} → IsWithin a a
itself = record { by = λ x e. e }

pub through : {a b c : List ℕ} → IsWithin a b → IsWithin b c → IsWithin a c
through {a} {b} {c} p q = record { by = λ x e. q.by x (p.by x e) }

pub together : (a b c : List ℕ) → IsWithin a c → IsWithin b c → IsWithin (a ++ b) c
together a b c p q = record { by = within-both a b c p.by q.by }

-- ---- unions of the same sets: which of them the first has, the second has

pub data Shape : Type 0 where
  one : (i : ℕ) → Shape
  both : (s t : Shape) → Shape

abbrev pub part : List (List ℕ) → ℕ → List ℕ
part [] i = []
part (a ∷ as') zero = a
part (a ∷ as') (suc i) = part as' i

abbrev pub union : List (List ℕ) → Shape → List ℕ
union as' (one i) = part as' i
union as' (both s t) = union as' s ++ union as' t

abbrev pub has : ℕ → Shape → Bool
has i (one j) = nat_eq i j
has i (both s t) = has i s || has i t

abbrev pub has_all : Shape → Shape → Bool
has_all (one i) t = has i t
has_all (both r s) t = has_all r t && has_all s t

has-within : (as' : List (List ℕ)) (i : ℕ) (t : Shape) → has i t ≡ true → IsWithin (part as' i) (union as' t)
has-within as' i (one j) e = subst (λ k. IsWithin (part as' i) (part as' k)) (same-number i j e) itself
has-within as' i (both s t) e =
    ⊎_elim (λ (p : has i s ≡ true). through (has-within as' i s p) (record { by = within-left (union as' s) (union as' t) }))
    (λ (p : has i t ≡ true). through (has-within as' i t p) (record { by = within-right (union as' s) (union as' t) })) (or_cases (has i s) (has i t) e)

pub unions : (as' : List (List ℕ)) (s t : Shape) → has_all s t ≡ true → IsWithin (union as' s) (union as' t)
unions as' (one i) t e = has-within as' i t e
unions as' (both r s) t e =
    let parts = and_parts (has_all r t) (has_all s t) e in
    together (union as' r) (union as' s) (union as' t) (unions as' r t parts.0) (unions as' s t parts.1)

pub of-none : (b : List ℕ) → IsWithin [] b
of-none b = record { by = λ x e. absurd (false≢true e) }

pub into-left : (a b c : List ℕ) → IsWithin a b → IsWithin a (b ++ c)
into-left a b c h = record { by = λ x e. within-left b c x (h.by x e) }

pub into-right : (a b c : List ℕ) → IsWithin a c → IsWithin a (b ++ c)
into-right a b c h = record { by = λ x e. within-right b c x (h.by x e) }

pub both-same : (a b c d : List ℕ) → IsWithin a b → IsWithin c d → IsWithin (a ++ c) (b ++ d)
both-same a b c d p q = together a c (b ++ d) (into-left a b d p) (into-right c b d q)

-- the first part of both, and what the second parts are in
pub behind-same : (k a b : List ℕ) → IsWithin a b → IsWithin (k ++ a) (k ++ b)
behind-same k a b h = both-same k k a b itself h

pub before-same : (k a b : List ℕ) → IsWithin a b → IsWithin (a ++ k) (b ++ k)
before-same k a b h = both-same a b k k h itself

pub turned : (a b : List ℕ) → IsWithin (a ++ b) (b ++ a)
turned a b = unions (a ∷ b ∷ []) (both (one 0) (one 1)) (both (one 1) (one 0)) refl

pub aside : (k b f : List ℕ) → IsWithin (k ++ (b ++ f)) ((k ++ f) ++ b)
aside k b f = unions (k ∷ b ∷ f ∷ []) (both (one 0) (both (one 1) (one 2))) (both (both (one 0) (one 2)) (one 1)) refl

pub aside-back : (k b f : List ℕ) → IsWithin ((k ++ f) ++ b) (k ++ (b ++ f))
aside-back k b f = unions (k ∷ b ∷ f ∷ []) (both (both (one 0) (one 2)) (one 1)) (both (one 0) (both (one 1) (one 2))) refl

-- without what is taken out
pub taken : (wanted gone kept : List ℕ) → IsWithin wanted (kept ++ gone) → IsWithin (without wanted gone) kept
taken wanted gone kept h = let inside : IsWithin wanted (gone ++ kept) = through h (turned kept gone) in record { by = within-without wanted gone kept inside.by }

pub fewer : (a gone : List ℕ) → IsWithin (without a gone) a
fewer a gone = taken a gone a (into-left a a gone itself)

-- ---- how many

pub at-most : (a b : List ℕ) → IsWithin a b → different a ≤ different b
at-most a b h = different-below a b h.by

pub at-most-more : (extra a b : List ℕ) → IsWithin b (extra ++ a) → different b ≤ different a + length extra
at-most-more extra a b h = omega (arith, different-below b (extra ++ a) h.by, different-append extra a, different-length extra)

pub grows-by : (extra a b : List ℕ) (n : ℕ) → IsWithin b (extra ++ a) → length extra ≤ n → AddsAtMost a b n
grows-by extra a b n h le = record {
  by = λ others.
      let inside : IsWithin (others ++ b) (extra ++ (others ++ a)) =
      through (behind-same others b (extra ++ a) h) (unions (others ∷ extra ∷ a ∷ []) (both (one 0) (both (one 1) (one 2))) (both (one 1) (both (one 0) (one 2))) refl) in
      omega (arith, at-most-more extra (others ++ a) (others ++ b) inside);
}

pub grows-not : (a b : List ℕ) → IsWithin b a → AddsAtMost a b 0
grows-not a b h = record { by = λ others. omega (arith, at-most (others ++ b) (others ++ a) (behind-same others b a h)) }

pub grows-more : (a b : List ℕ) (m n : ℕ) → m ≤ n → AddsAtMost a b m → AddsAtMost a b n
grows-more a b m n le g = record { by = λ others. omega (arith, g.by others) }

pub grows-further : (a b c : List ℕ) (m n : ℕ) → AddsAtMost a b m → AddsAtMost b c n → AddsAtMost a c (m + n)
grows-further a b c m n g h = record { by = λ others. omega (arith, g.by others, h.by others) }

pub grows-at : (a b : List ℕ) (n : ℕ) (outside kept : List ℕ) → AddsAtMost a b n → different (outside ++ (kept ++ b)) ≤ different (outside ++ (kept ++ a)) + n
grows-at a b n outside kept g =
    subst (λ l. different l ≤ different (outside ++ (kept ++ a)) + n) (append_assoc outside kept b)
    (subst (λ l. different ((outside ++ kept) ++ b) ≤ different l + n) (append_assoc outside kept a) (g.by (outside ++ kept)))

-- ---- operands

pub all-vars-append : (a b : List Atom) → all_vars (a ++ b) ≡ all_vars a ++ all_vars b
all-vars-append [] b = refl
all-vars-append (x ∷ a) b = ap (λ l. atom_vars x ++ l) (all-vars-append a b) ∙ sym (append_assoc (atom_vars x) (all_vars a) (all_vars b))

pub vars-length : (as' : List Atom) → length (all_vars as') ≤ length as'
vars-length [] = omega arith
vars-length (Var x ∷ as') = omega (arith, vars-length as')
vars-length (Lit v ∷ as') = omega (arith, vars-length as')

pub one-operand : (a : Atom) → IsWithin (atom_vars a) (all_vars (a ∷ []))
one-operand a = into-left (atom_vars a) (atom_vars a) [] itself

pub one-operand-back : (a : Atom) → IsWithin (all_vars (a ∷ [])) (atom_vars a)
one-operand-back a = together (atom_vars a) [] (atom_vars a) itself (of-none (atom_vars a))

-- a node's operands beside what is held
pub operands-at-most : (held : List ℕ) (as' : List Atom) → operands_wide held as' ≤ different held + (length as' + 1)
operands-at-most held [] = omega arith
operands-at-most held (a ∷ as') =
    let less : different (without held (all_vars (a ∷ as'))) ≤ different held = at-most (without held (all_vars (a ∷ as'))) held (fewer held (all_vars (a ∷ as'))) in
    let k = length (a ∷ as') + 1 in
    more-of (different (without held (all_vars (a ∷ as')))) (different held) k less
  where
    more-of : (m n k : ℕ) → m ≤ n → m + k ≤ n + k
    more-of m n k le = omega arith
