-- In the place of the sum of halves twice.
use Rattle.std.proofs.Common.{◌≡◌, ℕ, ◌+◌, Bool, true, false, nat_eq, Option, Some, None, bit_and, refl, sym, ap, ◌∙◌, ⊎_elim, inl, inr, ◌⊎◌, if◌then◌else◌, arith}
use Rattle.std.proofs.lemmas.Bool.{false≢true, eqb-true, eq-eqb}
use Rattle.std.proofs.lemmas.Nat.{and_comm}
use Rattle.std.proofs.lemmas.Option.{none-some, same_Some}
use Rattle.nv_base.specs.declared.term.Atom.{Atom}
use Rattle.nv_base.specs.declared.term.Atom.TheVariants.{Var, Lit}
use Rattle.nv_base.specs.declared.term.Una.TheVariants.{Not, Shl, Shr, Rol}
use Rattle.nv_base.specs.declared.term.Bin.TheVariants.{Add, Sub, And, Or, Xor}
use Rattle.nv_base.specs.declared.term.Primitive.{Primitive}
use Rattle.nv_base.specs.declared.term.Primitive.TheVariants.{Same, Una as UnaOf, Bin as BinOf}
use Rattle.nv_base.specs.Words.{Env, IsEnv, word, word_sum, shifted_right, rotated_left, atom_word, prim_word}
use Rattle.nv_base.proofs.Environments.{atom-fits}
use Rattle.flow_words.specs.declared.state.Known.{Known}
use Rattle.flow_words.specs.Tables.{Table, with_known, definition}
use Rattle.flow_words.specs.Definitions.{of_prim}
use Rattle.flow_words.specs.Sums.{is_operand, high, masked, first, low, agreed, halved, halves, halves_of, twice, IsFolded}
use Rattle.flow_words.specs.inner.Reduced.{Holds, HasWord}
use Rattle.flow_words.proofs.Closing.{with_here}
use Rattle.flow_words.proofs.Holding.{held_before, defined_word}
use Rattle.flow_words.proofs.Words.{half_sum, half_twice}

-- ---- answers

picked : (b : Bool) (a x : Atom) → (if b then Some a else None) ≡ Some x → (b ≡ true) × (a ≡ x)
picked true a x e = (refl, same_Some a x e)
picked false a x e = absurd (none-some x e)

first_case : (o r : Option Atom) (x : Atom) → first o r ≡ Some x → (o ≡ Some x) ⊎ (r ≡ Some x)
first_case (Some y) r x e = inl e
first_case None r x e = inr e

agreed_case : (o r : Option Atom) (x : Atom) → agreed o r ≡ Some x → (o ≡ Some x) × (y : Atom) × (r ≡ Some y) × (is_operand x y ≡ true)
agreed_case (Some z) (Some y) x e = let h = picked (is_operand z y) z x e in (ap Some h.1, y, refl, ap (λ v. is_operand v y) (sym h.1) ∙ h.0)
agreed_case (Some z) None x e = absurd (none-some x e)
agreed_case None r x e = absurd (none-some x e)

-- ---- words

operand_word : (a b : Atom) (env : Env) → is_operand a b ≡ true → atom_word env a ≡ atom_word env b
operand_word (Var x) (Var y) env e = ap env (eqb-true x y e)
operand_word (Lit v) (Lit w) env e = ap word (eqb-true v w e)
operand_word (Var x) (Lit w) env e = absurd (false≢true e)
operand_word (Lit v) (Var y) env e = absurd (false≢true e)

high_word : (p : Primitive) (x : Atom) (env : Env) → high p ≡ Some x → prim_word env p ≡ shifted_right 16 (atom_word env x)
high_word (UnaOf (Shr k) a) x env e =
    let h = picked (nat_eq k 16) a x e in
    ap (λ j. shifted_right j (atom_word env a)) (eqb-true k 16 h.0) ∙ ap (λ v. shifted_right 16 (atom_word env v)) h.1
high_word (UnaOf Not a) x env e = absurd (none-some x e)
high_word (UnaOf (Shl k) a) x env e = absurd (none-some x e)
high_word (UnaOf (Rol k) a) x env e = absurd (none-some x e)
high_word (Same a) x env e = absurd (none-some x e)
high_word (BinOf op a b) x env e = absurd (none-some x e)

masked_word : (a b x : Atom) (env : Env) → masked a b ≡ Some x → bit_and (atom_word env a) (atom_word env b) ≡ bit_and (atom_word env x) 65535
masked_word a (Lit v) x env e =
    let h = picked (nat_eq v 65535) a x e in
    ap (λ z. bit_and (atom_word env a) (word z)) (eqb-true v 65535 h.0) ∙ ap (λ z. bit_and (atom_word env z) 65535) h.1
masked_word a (Var y) x env e = absurd (none-some x e)

low_word : (p : Primitive) (x : Atom) (env : Env) → low p ≡ Some x → prim_word env p ≡ bit_and (atom_word env x) 65535
low_word (BinOf And a b) x env e =
    ⊎_elim (λ h. masked_word a b x env h) (λ h. and_comm (atom_word env a) (atom_word env b) ∙ masked_word b a x env h)
    (first_case (masked a b) (masked b a) x e)
low_word (BinOf Add a b) x env e = absurd (none-some x e)
low_word (BinOf Sub a b) x env e = absurd (none-some x e)
low_word (BinOf Or a b) x env e = absurd (none-some x e)
low_word (BinOf Xor a b) x env e = absurd (none-some x e)
low_word (Same a) x env e = absurd (none-some x e)
low_word (UnaOf op a) x env e = absurd (none-some x e)

halved_words : (p q : Primitive) (x : Atom) (env : Env) → halved p q ≡ Some x → (prim_word env p ≡ shifted_right 16 (atom_word env x)) × (prim_word env q ≡ bit_and (atom_word env x) 65535)
halved_words p q x env e =
    let h = agreed_case (high p) (low q) x e in
    (high_word p x env h.0, low_word q h.1 env h.2 ∙ ap (λ v. bit_and v 65535) (sym (operand_word x h.1 env h.3)))

sum_turned : (x y : ℕ) → word_sum x y ≡ word_sum y x
sum_turned x y = let e : x + y ≡ y + x = omega arith in ap word e

halves_word : (T : Table) (p : Primitive) (x : Atom) (env : Env) → Holds T env → halves T p ≡ Some x → prim_word env p ≡ half_sum (atom_word env x)
halves_word T (BinOf Add a b) x env holds e =
    let da = defined_word T a env holds in
    let db = defined_word T b env holds in
    let sum : prim_word env (BinOf Add a b) ≡ word_sum (prim_word env (definition T a)) (prim_word env (definition T b)) =
    ap (λ v. word_sum v (atom_word env b)) (sym da) ∙ ap (word_sum (prim_word env (definition T a))) (sym db) in
    ⊎_elim
    (λ h.
    let ws = halved_words (definition T a) (definition T b) x env h in
    sum ∙ ap (λ v. word_sum v (prim_word env (definition T b))) ws.0 ∙ ap (word_sum (shifted_right 16 (atom_word env x))) ws.1)
    (λ h.
    let ws = halved_words (definition T b) (definition T a) x env h in
    sum ∙ sum_turned (prim_word env (definition T a)) (prim_word env (definition T b)) ∙ ap (λ v. word_sum v (prim_word env (definition T a))) ws.0 ∙ ap (word_sum (shifted_right 16 (atom_word env x))) ws.1)
    (first_case (halved (definition T a) (definition T b)) (halved (definition T b) (definition T a)) x e)
halves_word T (BinOf Sub a b) x env holds e = absurd (none-some x e)
halves_word T (BinOf And a b) x env holds e = absurd (none-some x e)
halves_word T (BinOf Or a b) x env holds e = absurd (none-some x e)
halves_word T (BinOf Xor a b) x env holds e = absurd (none-some x e)
halves_word T (Same a) x env holds e = absurd (none-some x e)
halves_word T (UnaOf op a) x env holds e = absurd (none-some x e)

halves_of_case : (T : Table) (o : Option Atom) (s : Atom) → halves_of T o ≡ Some s → (x : Atom) × (o ≡ Some x) × (halves T (definition T x) ≡ Some s)
halves_of_case T (Some x) s e = (x, refl, e)
halves_of_case T None s e = absurd (none-some s e)

twice_word : (T : Table) (p : Primitive) (s : Atom) (env : Env) → IsEnv env → Holds T env → twice T p ≡ Some s → prim_word env p ≡ shifted_right 16 (word_sum (atom_word env s) (rotated_left 16 (atom_word env s)))
twice_word T p s env words holds e =
    let h = halves_of_case T (halves T p) s e in
    halves_word T p h.0 env holds h.1 ∙ ap half_sum (sym (defined_word T h.0 env holds) ∙ halves_word T (definition T h.0) s env holds h.2) ∙ half_twice (atom_word env s) (atom-fits env s words)

-- ---- the three definitions

known_word : (T : Table) (x : ℕ) (q : Primitive) (env : Env) → Holds (with_known T x (of_prim T q)) env → env x ≡ prim_word env q
known_word T x q env holds =
    let here = with_here T x x (of_prim T q) (eq-eqb x x refl) in
    holds.made x (ap (λ (k : Known). k.live) here) ∙ ap (λ (k : Known). prim_word env k.made) here

-- the table after one definition more
abbrev pub defining : Table → ℕ → Primitive → Table
defining T x q = with_known T x (of_prim T q)

pub folded_word : (T : Table) (p : Primitive) (s : Atom) (t u : ℕ) → twice T p ≡ Some s → (T t).live ≡ false → (defining T t (UnaOf (Rol 16) s) u).live ≡ false → HasWord (defining (defining T t (UnaOf (Rol 16) s)) u (BinOf Add s (Var t))) p (UnaOf (Shr 16) (Var u))
folded_word T p s t u e dead gone = record {
  word = λ env words holds.
      let one = defining T t (UnaOf (Rol 16) s) in
      let between = held_before one u (of_prim one (BinOf Add s (Var t))) env gone holds in
      let first = held_before T t (of_prim T (UnaOf (Rol 16) s)) env dead between in
      ap (shifted_right 16) (known_word one u (BinOf Add s (Var t)) env holds)
      ∙ ap (λ v. shifted_right 16 (word_sum (atom_word env s) v)) (known_word T t (UnaOf (Rol 16) s) env between)
      ∙ sym (twice_word T p s env words first e);
}

nothing_agreed : (o : Option Atom) → agreed o None ≡ None
nothing_agreed (Some x) = refl
nothing_agreed None = refl

pub sum_folded : (T : Table) (s : Atom) (t : ℕ) → IsFolded (with_known T t (of_prim T (UnaOf (Rol 16) s))) (BinOf Add s (Var t))
sum_folded T s t =
    let U = with_known T t (of_prim T (UnaOf (Rol 16) s)) in
    let here = with_here T t t (of_prim T (UnaOf (Rol 16) s)) (eq-eqb t t refl) in
    let is : definition U (Var t) ≡ UnaOf (Rol 16) s = ap (λ (k : Known). if k.live then k.made else Same (Var t)) here in
    let none : halves U (BinOf Add s (Var t)) ≡ None =
    ap (λ q. first (halved (definition U s) q) (halved q (definition U s))) is
    ∙ ap (λ o. first o None) (nothing_agreed (high (definition U s))) in
    ap (halves_of U) none

pub turned_folded : (T : Table) (s : Atom) → IsFolded T (UnaOf (Rol 16) s)
turned_folded T s = refl

pub shifted_folded : (T : Table) (u : ℕ) → IsFolded T (UnaOf (Shr 16) (Var u))
shifted_folded T u = refl
