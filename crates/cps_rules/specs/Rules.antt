-- When an answer of a rule is sound, and what becomes of a primitive that a rule is asked about.
use Rattle.std.specs.Prelude.{◌≡◌, Option, Some, None, ◌⊎◌}
use Rattle.std.proofs.Common.{inl, inr}
use Rattle.nv_base.specs.declared.term.Primitive.{Primitive}
use Rattle.nv_base.specs.Words.{Env, IsEnv, prim_word, prim_vars, HasPrimCount}
use Rattle.nv_base.specs.Sets.{Within}

-- q has the word of p under every environment of words, uses no variable that p doesn't use, and has a count of 1 to 31 if it is a shift
pub record IsSound (p q : Primitive) : Type 0 where
  pub word : (env : Env) → IsEnv env → prim_word env q ≡ prim_word env p
  pub uses : Within (prim_vars q) (prim_vars p)
  pub count : HasPrimCount q

-- the answers that may be given for a primitive
abbrev pub Answers : Type 1
Answers = Primitive → Option Primitive → Type 0

-- q is an answer for p, or p itself where there may be none
abbrev pub IsAnswered : Answers → Primitive → Primitive → Type 0
IsAnswered answers p q = answers p (Some q) ⊎ (answers p None × (q ≡ p))

abbrev pub IsSomeOf : Option Primitive → Type 0
IsSomeOf o = (q : Primitive) × (o ≡ Some q)

-- the second of two is asked only where the first has no answer
pub both_sound : (p q : Primitive) (A B : Option Primitive → Type 0) → (A (Some q) → IsSound p q) → (B (Some q) → IsSound p q) → (IsSomeOf (Some q) × A (Some q)) ⊎ (A None × B (Some q)) → IsSound p q
both_sound p q A B f g (inl h) = f h.1
both_sound p q A B f g (inr h) = g h.1
