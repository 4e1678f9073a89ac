-- An object with shorter code.
use Rattle.std.proofs.Common.{◌≡◌, ℕ, List, [], ◌∷◌, length, refl, sym, subst, arith}
use Rattle.std.specs.Prelude.{◌↔◌}
use Rattle.uc_isa.specs.Agrees.{Agrees, SourceMeaning}
use Rattle.uc_isa.specs.Code.{CodeView}
use Rattle.uc_isa.specs.Lawful.{IsLawful}
use Rattle.uc_object.specs.Tagged.{TaggedView}
use Rattle.uc_object.specs.declared.object.Object.{Object}
use Rattle.uc_object.specs.declared.object.Object.TheVariants.{One, Two}
use Rattle.uc_peep.specs.Becomes.{IsKept}
use Rattle.uc_peep.specs.Needless.{HasNoNeedless}
use Rattle.uc_peep.specs.Rewrites.{IsWithout}
use Rattle.novac_machine.specs.Peeping.{IsWithoutNeedless}

-- what is known of the shorter code
pub record IsShorterCode (c : CodeView) (starts : List ℕ) (d : CodeView) (starts' : List ℕ) : Type 0 where
  pub params : d.params ≡ c.params
  pub lawful : IsLawful d.list
  pub agrees : (params : ℕ) (source : SourceMeaning) → Agrees params source c ↔ Agrees params source d
  pub kept : IsKept c.list starts d.list starts'
  pub without : IsWithout c.list d.list
  pub settled : HasNoNeedless d.list starts'

none-left : (xs : List ℕ) → length xs ≡ 0 → xs ≡ []
none-left [] e = refl
none-left (x ∷ xs) e = absurd (omega (arith, e))

pub without-one : (o : Object) (c : CodeView) (d : CodeView) (starts' : List ℕ) → o ≡ One c → IsShorterCode c [] d starts' → IsWithoutNeedless o (One d)
without-one o c d starts' is h =
    let none : starts' ≡ [] = none-left starts' h.kept.count in
    subst (λ (x : Object). IsWithoutNeedless x (One d)) (sym is) (record {
      alike = tt;
      params = h.params;
      lawful = h.lawful;
      agrees = h.agrees;
      kept = subst (λ (l : List ℕ). IsKept c.list [] d.list l) none h.kept;
      without = h.without;
      settled = subst (λ (l : List ℕ). HasNoNeedless d.list l) none h.settled;
    })

pub without-two : (o : Object) (t u : TaggedView) (d : CodeView) (exceptions : List (ℕ × List ℕ)) (starts' : List ℕ) → o ≡ Two t → u ≡ record { code = d; exceptions = exceptions; starts = starts' } → exceptions ≡ t.exceptions
    → IsShorterCode t.code t.starts d starts' → IsWithoutNeedless o (Two u)
without-two o t u d exceptions starts' is made same h =
    subst (λ (x : Object). IsWithoutNeedless x (Two u)) (sym is) (subst (λ (x : TaggedView). IsWithoutNeedless (Two t) (Two x)) (sym made) (record {
      alike = same;
      params = h.params;
      lawful = h.lawful;
      agrees = h.agrees;
      kept = h.kept;
      without = h.without;
      settled = h.settled;
    }))
