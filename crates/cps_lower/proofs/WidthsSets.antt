-- Sets of variables in sets, as a record, so that the two sets are inferred.
use Rattle.std.proofs.Common.{◌≡◌, ℕ, true, not, List, [], ◌++◌, sym, ◌∙◌, ⊎_elim}
use Rattle.std.proofs.lemmas.Bool.{and_parts, and_from, or_cases}
use Rattle.nv_base.specs.Sets.{is_in, without, Within}
use Rattle.nv_base.proofs.Sets as sets

pub record IsWithin (a b : List ℕ) : Type 0 where
  pub has : Within a b

pub within-trans : {a b c : List ℕ} → IsWithin a b → IsWithin b c → IsWithin a c
within-trans h g = record { has = λ x e. g.has x (h.has x e) }

pub within-first : (a b : List ℕ) → IsWithin a (a ++ b)
within-first a b = record { has = sets.within-left a b }

pub within-second : (a b : List ℕ) → IsWithin b (a ++ b)
within-second a b = record { has = sets.within-right a b }

pub within-both : {a b c : List ℕ} → IsWithin a c → IsWithin b c → IsWithin (a ++ b) c
within-both {a} {b} {c} h g = record { has = sets.within-both a b c h.has g.has }

pub within-nil : (a : List ℕ) → IsWithin [] a
within-nil a = record { has = λ x e. cc }

pub within-left : {a b : List ℕ} (c : List ℕ) → IsWithin a b → IsWithin a (b ++ c)
within-left {b = b} c h = within-trans h (within-first b c)

pub within-right : {a c : List ℕ} (b : List ℕ) → IsWithin a c → IsWithin a (b ++ c)
within-right {c = c} b h = within-trans h (within-second b c)

within-less : (a gone : List ℕ) → IsWithin (without a gone) a
within-less a gone = record { has = λ x e. (and_parts (is_in x a) (not (is_in x gone)) (sym (sets.in-without x a gone) ∙ e)).0 }

within-gone : {a b : List ℕ} (gone : List ℕ) → IsWithin a b → IsWithin (without a gone) (without b gone)
within-gone {a} {b} gone h = record { has = sets.within-without_same a b gone h.has }

without-both : (a b gone : List ℕ) → IsWithin (without (a ++ b) gone) (without a gone ++ without b gone)
without-both a b gone = record {
  has = λ x e.
      let parts = and_parts (is_in x (a ++ b)) (not (is_in x gone)) (sym (sets.in-without x (a ++ b) gone) ∙ e) in
      ⊎_elim
      (λ (p : is_in x a ≡ true). (within-first (without a gone) (without b gone)).has x (sets.in-without x a gone ∙ and_from (is_in x a) (not (is_in x gone)) p parts.1))
      (λ (p : is_in x b ≡ true). (within-second (without a gone) (without b gone)).has x (sets.in-without x b gone ∙ and_from (is_in x b) (not (is_in x gone)) p parts.1))
      (or_cases (is_in x a) (is_in x b) (sym (sets.in-append x a b) ∙ parts.0));
}

-- after a definition nothing more is wanted outside
pub within-behind : {a : List ℕ} (out live gone : List ℕ) → IsWithin a (out ++ live) → IsWithin (without a gone) (out ++ without live gone)
within-behind out live gone h =
    within-trans (within-gone gone h) (within-trans (without-both out live gone) (within-both (within-left (without live gone) (within-less out gone)) (within-second out (without live gone))))

-- nothing is left of what is taken out
pub within-none : (a : List ℕ) → IsWithin (without a a) []
within-none a = record { has = sets.within-without a a [] (sets.within-left a []) }

-- two orders of three sets
pub moved : (out a b : List ℕ) → IsWithin ((out ++ a) ++ b) (out ++ (b ++ a))
moved out a b = within-both (within-both (within-first out (b ++ a)) (within-right out (within-second b a))) (within-right out (within-first b a))

-- what two sets have together
pub joined : {c d : List ℕ} (out a b : List ℕ) → IsWithin c (out ++ a) → IsWithin d (out ++ b) → IsWithin (c ++ d) (out ++ (a ++ b))
joined out a b h g =
    within-both (within-trans h (within-both (within-first out (a ++ b)) (within-right out (within-first a b)))) (within-trans g (within-both (within-first out (a ++ b)) (within-right out (within-second a b))))

-- some more in front
pub before : {c : List ℕ} (out vs a : List ℕ) → IsWithin c (out ++ a) → IsWithin (vs ++ c) (out ++ (vs ++ a))
before out vs a h = within-both (within-right out (within-first vs a)) (within-trans h (within-both (within-first out (vs ++ a)) (within-right out (within-second vs a))))
