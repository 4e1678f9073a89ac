-- What holds of the answers of a sound rule.
use Rattle.std.proofs.Common.{◌≡◌, true, inl, inr, Some, sym, ap, subst}
use Rattle.nv_base.specs.declared.term.Primitive.{Primitive}
use Rattle.nv_base.specs.Words.{Env, IsEnv, prim_word, prim_vars, HasPrimCount}
use Rattle.nv_base.specs.Sets.{is_in, Within}
use Rattle.cps_rules.specs.Rules.{IsSound, Answers, IsAnswered}

abbrev pub AllSound : Answers → Type 0
AllSound A = (p q : Primitive) → A p (Some q) → IsSound p q

pub answered_word : (A : Answers) → AllSound A → (p q : Primitive) → IsAnswered A p q → (env : Env) → IsEnv env → prim_word env q ≡ prim_word env p
answered_word A sound p q (inl h) env fits = (sound p q h).word env fits
answered_word A sound p q (inr h) env fits = ap (prim_word env) h.1

pub answered_uses : (A : Answers) → AllSound A → (p q : Primitive) → IsAnswered A p q → Within (prim_vars q) (prim_vars p)
answered_uses A sound p q (inl h) = (sound p q h).uses
answered_uses A sound p q (inr h) = λ y e. subst (λ r. is_in y (prim_vars r) ≡ true) h.1 e

pub answered_count : (A : Answers) → AllSound A → (p q : Primitive) → IsAnswered A p q → HasPrimCount p → HasPrimCount q
answered_count A sound p q (inl h) count = (sound p q h).count
answered_count A sound p q (inr h) count = subst HasPrimCount (sym h.1) count
