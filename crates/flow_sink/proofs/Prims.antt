-- Primitives that are the same.
use Rattle.std.proofs.Common.{◌≡◌, ℕ, zero, suc, ◌-◌, length, drop, Bool, true, false, nat_eq, ◌&&◌, refl, sym, ap, ◌∙◌, List, [], ◌∷◌, Option, Some, None, if◌then◌else◌, All}
use Rattle.std.proofs.lemmas.Bool.{and_parts, false≢true}
use Rattle.std.proofs.lemmas.List.Elements.{All-head, All-tail}
use Rattle.nv_base.specs.declared.term.Atom.{Atom}
use Rattle.nv_base.specs.declared.term.Atom.TheVariants.{Var, Lit}
use Rattle.nv_base.specs.declared.term.Una.{Una}
use Rattle.nv_base.specs.declared.term.Una.TheVariants.{Not, Shl, Shr, Rol}
use Rattle.nv_base.specs.declared.term.Bin.{Bin}
use Rattle.nv_base.specs.declared.term.Bin.TheVariants.{Add, Sub, And, Or, Xor}
use Rattle.nv_base.specs.declared.term.Primitive.{Primitive}
use Rattle.nv_base.specs.declared.term.Primitive.TheVariants.{Same, Una as UnaOf, Bin as BinOf}
use Rattle.nv_base.proofs.Sets.{same-number}
use Rattle.flow_sink.specs.Values.{same_atom, una_code, bin_code, same_una, same_bin, same}
use Rattle.flow_sink.specs.declared.known.Known.{Known}
use Rattle.flow_sink.specs.inner.Above.{Entry, entries, first, chosen, answer}

atom_is : (a b : Atom) → same_atom a b ≡ true → a ≡ b
atom_is (Var x) (Var y) e = ap Var (same-number x y e)
atom_is (Lit v) (Lit w) e = ap Lit (same-number v w e)
atom_is (Var x) (Lit w) e = absurd (false≢true e)
atom_is (Lit v) (Var y) e = absurd (false≢true e)

una_is : (a b : Una) → same_una a b ≡ true → a ≡ b
una_is Not Not e = refl
una_is (Shl j) (Shl k) e = ap Shl (same-number j k (and_parts true (nat_eq j k) e).1)
una_is (Shr j) (Shr k) e = ap Shr (same-number j k (and_parts true (nat_eq j k) e).1)
una_is (Rol j) (Rol k) e = ap Rol (same-number j k (and_parts true (nat_eq j k) e).1)
una_is a b e = absurd (false≢true e)

bin_is : (a b : Bin) → same_bin a b ≡ true → a ≡ b
bin_is Add Add e = refl
bin_is Sub Sub e = refl
bin_is And And e = refl
bin_is Or Or e = refl
bin_is Xor Xor e = refl
bin_is a b e = absurd (false≢true e)

pub prim_is : (p q : Primitive) → same p q ≡ true → p ≡ q
prim_is (Same a) (Same b) e = ap Same (atom_is a b e)
prim_is (UnaOf op a) (UnaOf other b) e = let parts = and_parts (same_una op other) (same_atom a b) e in ap (λ o. UnaOf o a) (una_is op other parts.0) ∙ ap (UnaOf other) (atom_is a b parts.1)
prim_is (BinOf op a b) (BinOf other c d) e =
    let parts = and_parts (same_bin op other) (same_atom a c && same_atom b d) e in
    let operands = and_parts (same_atom a c) (same_atom b d) parts.1 in
    ap (λ o. BinOf o a b) (bin_is op other parts.0) ∙ ap (λ z. BinOf other z b) (atom_is a c operands.0) ∙ ap (BinOf other c) (atom_is b d operands.1)
prim_is (Same a) (UnaOf op b) e = absurd (false≢true e)
prim_is (Same a) (BinOf op b c) e = absurd (false≢true e)
prim_is (UnaOf op a) (Same b) e = absurd (false≢true e)
prim_is (UnaOf op a) (BinOf other b c) e = absurd (false≢true e)
prim_is (BinOf op a b) (Same c) e = absurd (false≢true e)
prim_is (BinOf op a b) (UnaOf other c) e = absurd (false≢true e)

-- ---- what is found

pub record Found (P : Entry → Type 0) (p : Primitive) (y : ℕ) : Type 0 where
  pub entry : Entry
  pub holds : P entry
  pub prim : entry.0 ≡ p
  pub variable : entry.1 ≡ y

some_is : (y z : ℕ) → Some y ≡ Some z → y ≡ z
some_is y z e = ap (λ o. elim o [ Some n ↦ n | None ↦ y ]) e

pub found : (P : Entry → Type 0) (es : List Entry) (p : Primitive) (y : ℕ) → first es p ≡ Some y → All P es → Found P p y
found P [] p y e h = absurd (none_some y e)
  where
    none_some : (y : ℕ) → None ≡ Some y → ⊥
    none_some y e = false≢true (ap (λ (o : Option ℕ). elim o [ Some n ↦ true | None ↦ false ]) e)
found P (k ∷ es) p y e h = at (same k.0 p) refl e (λ f. found P es p y f (All-tail P k es h))
  where
    at : (b : Bool) → same k.0 p ≡ b → (if b then Some k.1 else first es p) ≡ Some y → (first es p ≡ Some y → Found P p y) → Found P p y
    at true s f rest = record { entry = k; holds = All-head P k es h; prim = prim_is k.0 p s; variable = some_is k.1 y f }
    at false s f rest = rest f

-- ---- the nearest ones

drop_entries : (n : ℕ) (ks : List Known) → entries (drop n ks) ≡ drop n (entries ks)
drop_entries zero ks = refl
drop_entries (suc n) [] = refl
drop_entries (suc n) (k ∷ ks) = drop_entries n ks

length_entries : (ks : List Known) → length (entries ks) ≡ length ks
length_entries [] = refl
length_entries (k ∷ ks) = ap suc (length_entries ks)

pub answer_at : (above close : List Known) (p : Primitive) (o : Option ℕ) → close ≡ drop (length above - 256) above → o ≡ first (entries close) p → chosen o p ≡ answer (entries above) p
answer_at above close p o e f =
    ap (λ r. chosen r p) (f ∙ ap (λ l. first (entries l) p) e ∙ ap (λ l. first l p) (drop_entries (length above - 256) above) ∙ ap (λ n. first (drop (n - 256) (entries above)) p) (sym (length_entries above)))
