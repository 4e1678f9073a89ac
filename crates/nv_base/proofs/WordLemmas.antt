-- The operations give words, and comparisons their opposite.
use Rattle.std.proofs.Common.{◌≡◌, ℕ, Bool, true, false, not, ◌+◌, ◌-◌, ◌*◌, ◌/◌, ◌^◌, ◌≤◌, List, [], ◌∷◌, ◌++◌, All, length, suc, refl, sym, ap, ◌∙◌, subst, arith}
use Rattle.std.proofs.lemmas.Nat.{or_lt, xor_lt}
use Rattle.std.proofs.lemmas.List.Elements.{All-head, All-tail}
use Rattle.std.proofs.Math.Nat.{div-le_self}
use Rattle.std.specs.Int.Bits.{and_lt}
use Rattle.nv_base.specs.declared.term.Atom.{Atom}
use Rattle.nv_base.specs.declared.term.Atom.TheVariants.{Var, Lit}
use Rattle.nv_base.specs.declared.term.Primitive.{Primitive}
use Rattle.nv_base.specs.declared.term.Primitive.TheVariants.{Same, Una as UnaOf, Bin as BinOf}
use Rattle.nv_base.specs.declared.term.Una.{Una}
use Rattle.nv_base.specs.declared.term.Una.TheVariants.{Not, Shl, Shr, Rol}
use Rattle.nv_base.specs.declared.term.Bin.{Bin}
use Rattle.nv_base.specs.declared.term.Bin.TheVariants.{Add, Sub, And, Or, Xor}
use Rattle.nv_base.specs.declared.term.Cmp.{Cmp}
use Rattle.nv_base.specs.declared.term.Cmp.TheVariants.{Eq, Ne, Lt, Ge}
use Rattle.nv_base.specs.Words.{IsWord, word, shifted_right, rotated_left, una_word, bin_word, compares, negated, HasCount, Env, atom_word, atom_words, atom_vars, prim_word, prim_vars}
use Rattle.nv_base.proofs.Rotation.{joined}

pub word-fits : (n : ℕ) → IsWord (word n)
word-fits n = omega arith

right-fits : (k x : ℕ) → IsWord x → IsWord (shifted_right k x)
right-fits k x fits = let le = div-le_self x (2 ^ k) in omega arith

rotated-fits : (k x : ℕ) → IsWord x → k ≤ 32 → IsWord (rotated_left k x)
rotated-fits k x fits le =
    subst IsWord (joined x k fits le) (or_lt 32 (word (x * 2 ^ k)) (x / 2 ^ (32 - k)) (word-fits (x * 2 ^ k)) (right-fits (32 - k) x fits))

pub una-fits : (op : Una) (x : ℕ) → HasCount op → IsWord x → IsWord (una_word op x)
una-fits Not x count fits = omega arith
una-fits (Shl k) x count fits = word-fits (x * 2 ^ k)
una-fits (Shr k) x count fits = right-fits k x fits
una-fits (Rol k) x count fits = rotated-fits k x fits (omega (arith, count.1))

pub bin-fits : (op : Bin) (x y : ℕ) → IsWord x → IsWord y → IsWord (bin_word op x y)
bin-fits Add x y a b = word-fits (x + y)
bin-fits Sub x y a b = word-fits (x + 2 ^ 32 - y)
bin-fits And x y a b = and_lt 32 x y a b
bin-fits Or x y a b = or_lt 32 x y a b
bin-fits Xor x y a b = xor_lt 32 x y a b

-- an operand has the same word where its variable has
pub atom-agrees : (env env' : Env) (a : Atom) → All (λ x. env x ≡ env' x) (atom_vars a) → atom_word env a ≡ atom_word env' a
atom-agrees env env' (Var x) h = All-head (λ x. env x ≡ env' x) x [] h
atom-agrees env env' (Lit v) h = refl

-- two operands have the same words where their variables have
both-agree : (env env' : Env) (a b : Atom) → All (λ x. env x ≡ env' x) (atom_vars a ++ atom_vars b) → (atom_word env a ≡ atom_word env' a) × (atom_word env b ≡ atom_word env' b)
both-agree env env' (Var x) b h = (All-head (λ x. env x ≡ env' x) x (atom_vars b) h, atom-agrees env env' b (All-tail (λ x. env x ≡ env' x) x (atom_vars b) h))
both-agree env env' (Lit v) b h = (refl, atom-agrees env env' b h)

-- a primitive has the same word where its variables have
pub prim-agrees : (env env' : Env) (p : Primitive) → All (λ x. env x ≡ env' x) (prim_vars p) → prim_word env p ≡ prim_word env' p
prim-agrees env env' (Same a) h = atom-agrees env env' a h
prim-agrees env env' (UnaOf op a) h = ap (una_word op) (atom-agrees env env' a h)
prim-agrees env env' (BinOf op a b) h =
    let both = both-agree env env' a b h in
    ap (λ w. bin_word op w (atom_word env b)) both.0 ∙ ap (bin_word op (atom_word env' a)) both.1

pub length-words : (env : Env) (as' : List Atom) → length (atom_words env as') ≡ length as'
length-words env [] = refl
length-words env (a ∷ as') = ap suc (length-words env as')

-- ---- comparisons

not-not : (b : Bool) → not (not b) ≡ b
not-not true = refl
not-not false = refl

pub negated_compares : (c : Cmp) (x y : ℕ) → compares (negated c) x y ≡ not (compares c x y)
negated_compares Eq x y = refl
negated_compares Ne x y = sym (not-not (compares Eq x y))
negated_compares Lt x y = refl
negated_compares Ge x y = sym (not-not (compares Lt x y))
