-- What is known holds as variables come into scope.
use Rattle.std.proofs.Common.{◌≡◌, ℕ, ◌<◌, ◌-◌, Bool, true, false, nat_eq, ◌≤◌, List, [], ◌∷◌, refl, sym, ap, subst, ◌∙◌, if◌then◌else◌, arith}
use Rattle.std.specs.Int.{bit_at}
use Rattle.std.specs.List.{list_all}
use Rattle.std.proofs.lemmas.Bool.{and_parts, false≢true, eq-eqb}
use Rattle.std.proofs.lemmas.Bool.Decides.{nat_tests}
use Rattle.nv_base.specs.declared.term.Atom.{Atom}
use Rattle.nv_base.specs.declared.term.Atom.TheVariants.{Var, Lit}
use Rattle.nv_base.specs.declared.term.Primitive.{Primitive}
use Rattle.nv_base.specs.declared.term.Primitive.TheVariants.{Same, Una as UnaOf, Bin as BinOf}
use Rattle.nv_base.specs.Words.{Env, IsEnv, assigned, assigned_all, atom_word, atom_words, prim_word, una_word, bin_word, prim_vars}
use Rattle.nv_base.specs.Sets.{is_in, AgreeOn}
use Rattle.nv_base.specs.Access as access
use Rattle.nv_base.proofs.Operands.{prim-same}
use Rattle.flow_words.specs.declared.bits.Bit.{Bit}
use Rattle.flow_words.specs.declared.bits.Bit.TheVariants.{Unknown, Zero, One, Of, Flipped}
use Rattle.flow_words.specs.declared.state.Known.{Known}
use Rattle.flow_words.specs.Bits.{IsBit, prim_bit, bit_of}
use Rattle.flow_words.specs.Tables.{Table, itself, nothing, with_known, with_all, definition, is_old, is_settled, is_old_prim}
use Rattle.flow_words.specs.Definitions.{of_prim}
use Rattle.flow_words.specs.inner.Reduced.{Holds, AreNew}
use Rattle.flow_words.proofs.Bitwise.{prim_holds, bit_at_place}
use Rattle.flow_words.proofs.Closing.{same_case, with_here, with_else, other, settled_live, settled_count, IsLiveBit, Closed, prim_bit_live, no_bit, closed_itself}

pub assigned_here : (env : Env) (x y w : ℕ) → nat_eq y x ≡ true → assigned env x w y ≡ w
assigned_here env x y w e = ap (λ b. if b then w else env y) e

pub assigned_else : (env : Env) (x y w : ℕ) → nat_eq y x ≡ false → assigned env x w y ≡ env y
assigned_else env x y w e = ap (λ b. if b then w else env y) e

-- ---- what is known holds

agree_else : (T : Table) (x w : ℕ) (env : Env) (xs : List ℕ) → (T x).live ≡ false → ((z : ℕ) → is_in z xs ≡ true → (T z).live ≡ true) → AgreeOn xs (assigned env x w) env
agree_else T x w env xs dead live = λ z i. assigned_else env x z w (other T x z dead (live z i))

bit_else : (T : Table) (x v w i : ℕ) (env : Env) (b : Bit) → (T x).live ≡ false → IsLiveBit T b → IsBit env w i b → IsBit (assigned env x v) w i b
bit_else T x v w i env Unknown dead live h = tt
bit_else T x v w i env Zero dead live h = h
bit_else T x v w i env One dead live h = h
bit_else T x v w i env (Of y j) dead live h = h ∙ ap (λ n. bit_at n j) (sym (assigned_else env x y v (other T x y dead live)))
bit_else T x v w i env (Flipped y j) dead live h = h ∙ ap (λ n. 1 - bit_at n j) (sym (assigned_else env x y v (other T x y dead live)))

holds_more : (T : Table) (x w : ℕ) (k : Known) (env : Env) → Closed T → Holds T env → (T x).live ≡ false → w ≡ prim_word (assigned env x w) k.made → ((i : ℕ) → i < 32 → IsBit (assigned env x w) w i (bit_of k.bits i)) → Holds (with_known T x k) (assigned env x w)
holds_more T x w k env closed holds dead is these = record {
  bits = λ y i alive lt.
      same_case y x
      (λ p. subst (λ n. IsBit (assigned env x w) n i (bit_of (with_known T x k y).bits i)) (sym (assigned_here env x y w p)) (subst (λ (j : Known). IsBit (assigned env x w) w i (bit_of j.bits i)) (sym (with_here T x y k p)) (these i lt)))
      (λ p.
      let e = with_else T x y k p in
      let live : (T y).live ≡ true = subst (λ (j : Known). j.live ≡ true) e alive in
      subst (λ n. IsBit (assigned env x w) n i (bit_of (with_known T x k y).bits i)) (sym (assigned_else env x y w p))
      (subst (λ (j : Known). IsBit (assigned env x w) (env y) i (bit_of j.bits i)) (sym e) (bit_else T x w (env y) i env (bit_of (T y).bits i) dead (closed.bits y i live) (holds.bits y i live lt))));
  made = λ y alive.
      same_case y x
      (λ p. assigned_here env x y w p ∙ is ∙ sym (ap (λ (j : Known). prim_word (assigned env x w) j.made) (with_here T x y k p)))
      (λ p.
      let e = with_else T x y k p in
      let live : (T y).live ≡ true = subst (λ (j : Known). j.live ≡ true) e alive in
      assigned_else env x y w p ∙ holds.made y live
      ∙ sym (prim-same (assigned env x w) env (T y).made (agree_else T x w env (prim_vars (T y).made) dead (λ z i. closed.own y z live i)))
      ∙ sym (ap (λ (j : Known). prim_word (assigned env x w) j.made) e));
}

pub holds_made : (T : Table) (x : ℕ) (q : Primitive) (env : Env) → IsEnv env → Closed T → Holds T env → (T x).live ≡ false → is_settled T q ≡ true → Holds (with_known T x (of_prim T q)) (assigned env x (prim_word env q))
holds_made T x q env words closed holds dead settled =
    let w = prim_word env q in
    holds_more T x w (of_prim T q) env closed holds dead (sym (prim-same (assigned env x w) env q (agree_else T x w env (prim_vars q) dead (settled_live T q settled))))
    (λ i lt. subst (IsBit (assigned env x w) w i) (sym (bit_at_place T q i lt)) (bit_else T x w w i env (prim_bit T q i) dead (prim_bit_live T closed q i settled) (prim_holds T env holds words q i (settled_count T q settled) lt)))

pub holds_itself : (T : Table) (x w : ℕ) (env : Env) → Closed T → Holds T env → (T x).live ≡ false → Holds (with_known T x (itself x)) (assigned env x w)
holds_itself T x w env closed holds dead =
    holds_more T x w (itself x) env closed holds dead (sym (assigned_here env x x w (eq-eqb x x refl))) (λ i lt. subst (IsBit (assigned env x w) w i) (sym (no_bit i)) tt)

pub holds_all : (base : ℕ) (T : Table) (xs ws : List ℕ) (env : Env) → Closed T → Holds T env → AreNew base T xs → Holds (with_all T xs) (assigned_all env xs ws)
holds_all base T [] ws env closed holds new = holds
holds_all base T (x ∷ xs) [] env closed holds new = holds_all base (with_known T x (itself x)) xs [] (assigned env x 0) (closed_itself T x closed) (holds_itself T x 0 env closed holds new.1) new.2
holds_all base T (x ∷ xs) (w ∷ ws) env closed holds new = holds_all base (with_known T x (itself x)) xs ws (assigned env x w) (closed_itself T x closed) (holds_itself T x w env closed holds new.1) new.2

pub holds_nothing : (env : Env) → Holds nothing env
holds_nothing env = record { made = λ y alive. absurd (false≢true alive); bits = λ y i alive. absurd (false≢true alive) }

-- what is known of the others held before
pub held_before : (T : Table) (x : ℕ) (k : Known) (env : Env) → (T x).live ≡ false → Holds (with_known T x k) env → Holds T env
held_before T x k env dead holds = record {
  made = λ y live.
      let e = with_else T x y k (other T x y dead live) in
      holds.made y (ap (λ (j : Known). j.live) e ∙ live) ∙ ap (λ (j : Known). prim_word env j.made) e;
  bits = λ y i live lt.
      let e = with_else T x y k (other T x y dead live) in
      subst (λ (j : Known). IsBit env (env y) i (bit_of j.bits i)) e (holds.bits y i (ap (λ (j : Known). j.live) e ∙ live) lt);
}

-- a definition has the word of its variable
pub defined_word : (T : Table) (a : Atom) (env : Env) → Holds T env → prim_word env (definition T a) ≡ atom_word env a
defined_word T (Var x) env holds = at (T x).live refl
  where
    at : (b : Bool) → (T x).live ≡ b → prim_word env (if (T x).live then (T x).made else Same (Var x)) ≡ env x
    at true e = ap (λ b. prim_word env (if b then (T x).made else Same (Var x))) e ∙ sym (holds.made x e)
    at false e = ap (λ b. prim_word env (if b then (T x).made else Same (Var x))) e
defined_word T (Lit v) env holds = refl

-- ---- operands of the tree have the same words

abbrev pub Alike : ℕ → Env → Env → Type 0
Alike base env new = (y : ℕ) → y < base → new y ≡ env y

pub old_word : (base : ℕ) (a : Atom) (env new : Env) → Alike base env new → is_old base a ≡ true → atom_word new a ≡ atom_word env a
old_word base (Var x) env new h e = h x (grind (arith, nat_tests))
old_word base (Lit v) env new h e = refl

pub old_words : (base : ℕ) (bs : List Atom) (env new : Env) → Alike base env new → list_all (is_old base) bs ≡ true → atom_words new bs ≡ atom_words env bs
old_words base [] env new h e = refl
old_words base (b ∷ bs) env new h e =
    let parts = and_parts (is_old base b) (list_all (is_old base) bs) e in
    ap (λ w. w ∷ atom_words new bs) (old_word base b env new h parts.0) ∙ ap (λ ws. atom_word env b ∷ ws) (old_words base bs env new h parts.1)

pub old_prim : (base : ℕ) (p : Primitive) (env new : Env) → Alike base env new → is_old_prim base p ≡ true → prim_word new p ≡ prim_word env p
old_prim base (Same a) env new h e = old_word base a env new h e
old_prim base (UnaOf op a) env new h e = ap (una_word op) (old_word base a env new h (and_parts (access.has_count op) (is_old base a) e).1)
old_prim base (BinOf op a b) env new h e =
    let parts = and_parts (is_old base a) (is_old base b) e in
    ap (λ w. bin_word op w (atom_word new b)) (old_word base a env new h parts.0) ∙ ap (bin_word op (atom_word env a)) (old_word base b env new h parts.1)

pub alike_extra : (base n w : ℕ) (env new : Env) → base ≤ n → Alike base env new → Alike base env (assigned new n w)
alike_extra base n w env new le h = λ y lt. assigned_else new n y w (grind (arith, nat_tests)) ∙ h y lt

both_alike : (b : Bool) (w v v' : ℕ) → v' ≡ v → (if b then w else v') ≡ (if b then w else v)
both_alike true w v v' e = refl
both_alike false w v v' e = e

pub alike_own : (base x w : ℕ) (env new : Env) → Alike base env new → Alike base (assigned env x w) (assigned new x w)
alike_own base x w env new h = λ y lt. both_alike (nat_eq y x) w (env y) (new y) (h y lt)

pub alike_all : (base : ℕ) (xs ws : List ℕ) (env new : Env) → Alike base env new → Alike base (assigned_all env xs ws) (assigned_all new xs ws)
alike_all base [] ws env new h = h
alike_all base (x ∷ xs) [] env new h = alike_all base xs [] (assigned env x 0) (assigned new x 0) (alike_own base x 0 env new h)
alike_all base (x ∷ xs) (w ∷ ws) env new h = alike_all base xs ws (assigned env x w) (assigned new x w) (alike_own base x w env new h)
