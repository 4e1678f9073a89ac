-- Code in which other instructions do the same where facts stand runs in step with the code before.
use Rattle.std.proofs.Common.{◌≡◌, ℕ, inl, inr, List, [], get_or, Option, Some, None, refl, sym, ap, ◌∙◌, subst}
use Rattle.std.specs.Prelude.{slice_get}
use Rattle.nv_base.specs.Memories.{Memories, HasSizes}
use Rattle.uc_isa.specs.Engine.{IsEngine}
use Rattle.uc_isa.specs.Step.{EndsRun, effect, step, step_at}
use Rattle.uc_isa.specs.declared.engine.Engine.{Engine}
use Rattle.uc_isa.specs.declared.instruction.Instr.{Instr}
use Rattle.uc_isa.proofs.Effects.{does-alike, goes-on, keeps-engine, keeps-sizes}
use Rattle.uc_isa.proofs.Lockstep.{lockstep}
use Rattle.uc_isa.specs.Alike.{Begins, DoesAlike, GoesOn, ReadAlike, RunsAlike, StepsAlike}
use Rattle.uc_isa.specs.Program.{IsFormed}
use Rattle.uc_isa.specs.Visits.{access}
use Rattle.uc_peep.proofs.WindowRuns.{agree-step}
use Rattle.uc_peep.specs.Liveness.{IsClosed}
use Rattle.uc_peep.specs.Sets.{AgreeOn}
use Rattle.uc_peep_facts.specs.Facts.{AllStand, AreKept, AreLike, DoesSame, IsOneOf, known_at}
use Rattle.uc_peep_facts.specs.declared.fact.Fact.{Fact}
use Rattle.uc_peep_facts.specs.declared.fact.Facts.{Facts}

-- at each place the second code has an instruction that does the same where the facts of the place stand, and each way of it keeps them
pub record IsInStep (code draft : List Instr) (sets : List ℕ) (table : List Facts) : Type 0 where
  pub formed : (x : ℕ) (i : Instr) → slice_get code x ≡ Some i → IsFormed i
  pub formed' : (x : ℕ) (j : Instr) → slice_get draft x ≡ Some j → IsFormed j
  pub past : (x : ℕ) → slice_get code x ≡ None → slice_get draft x ≡ None
  pub same : (x : ℕ) (i : Instr) → slice_get code x ≡ Some i → (j : Instr) × (slice_get draft x ≡ Some j) × DoesSame (known_at table x) sets x i j
  pub closed : IsClosed code sets
  pub kept : AreKept draft table

-- two engines at one place with the same in all that is live, and all facts of the place stand in the second one
pub record AreAt (sets : List ℕ) (table : List Facts) (e e' : Engine) (ms : Memories) : Type 0 where
  pub engine : IsEngine e
  pub engine' : IsEngine e'
  pub sizes : HasSizes ms
  pub place : e.place ≡ e'.place
  pub agree : AgreeOn (get_or sets e.place 0) e e'
  pub stand : AllStand e' (known_at table e'.place)

module _ (code draft : List Instr) (sets : List ℕ) (table : List Facts) (r : IsInStep code draft sets table) where
  abbrev Related : Engine → Engine → Memories → Type 0
  Related e e' ms = AreAt sets table e e' ms

  related-by : (e e' f f' : Engine) (ms q : Memories) → f ≡ e → f' ≡ e' → q ≡ ms → Related e e' ms → Related f f' q
  related-by e e' f f' ms q a b c h = subst (λ x. Related x f' q) (sym a) (subst (λ x. Related e x q) (sym b) (subst (λ x. Related e e' x) (sym c) h))

  module _ (i j : Instr) (e e' : Engine) (ms : Memories) (at : slice_get code e.place ≡ Some i) (at' : slice_get draft e'.place ≡ Some j) (a : Related e e' ms) (both : DoesSame (known_at table e'.place) sets e'.place i j) where
    reads-same : ReadAlike i e e'
    reads-same s spot read = a.agree.by s spot ((r.closed e.place i at).needs s spot read)

    alike : DoesAlike i e e' (effect i e ms) (effect i e' ms)
    alike = does-alike i e e' ms (r.formed e.place i at) a.engine a.engine' a.sizes a.place reads-same

    like : AreLike sets (effect i e' ms) (effect j e' ms)
    like = (both e' ms a.engine' a.sizes refl a.stand).0

    there-alike : StepsAlike code draft ms e e'
    there-alike = record {
      place = a.place;
      stepped = ap (λ o. (step_at o e ms).stepped) at ∙ alike.stepped ∙ like.stepped ∙ sym (ap (λ o. (step_at o e' ms).stepped) at');
      packet = ap (λ o. (step_at o e ms).packet) at ∙ alike.packet ∙ like.packet ∙ sym (ap (λ o. (step_at o e' ms).packet) at');
      access = ap (λ o. access o e) at ∙ alike.access ∙ (both e' ms a.engine' a.sizes refl a.stand).1 ∙ sym (ap (λ o. access o e') at');
    }

    there-on : GoesOn i e ms (effect i e ms) → GoesOn j e' ms (effect j e' ms) → Related (effect i e ms).engine (effect j e' ms).engine (effect i e ms).packet
    there-on (inl (ends, same, kept)) (inl (ends', same', kept')) = related-by e e' _ _ ms _ same same' kept a
    there-on (inl (ends, same, kept)) (inr (goes', next')) = absurd (goes' (subst EndsRun (alike.stepped ∙ like.stepped) ends))
    there-on (inr (goes, next)) (inl (ends', same', kept')) = absurd (goes (subst EndsRun (sym (alike.stepped ∙ like.stepped)) ends'))
    there-on (inr (goes, next)) (inr (goes', next')) =
        let formed = r.formed e.place i at in
        let first : AgreeOn (get_or sets (effect i e ms).engine.place 0) (effect i e ms).engine (effect i e' ms).engine = agree-step code sets r.formed r.closed e.place _ i e e' ms at a.engine a.engine' a.sizes a.place a.agree goes next in
        let second : AgreeOn (get_or sets (effect i e ms).engine.place 0) (effect i e' ms).engine (effect j e' ms).engine = subst (λ n. AgreeOn (get_or sets n 0) (effect i e' ms).engine (effect j e' ms).engine) (sym alike.place) like.agree in
        record {
          engine = keeps-engine i e ms formed a.engine a.sizes;
          engine' = keeps-engine j e' ms (r.formed' e'.place j at') a.engine' a.sizes;
          sizes = keeps-sizes i e ms formed a.engine a.sizes;
          place = alike.place ∙ like.place;
          agree = record { by = λ s spot t. first.by s spot t ∙ second.by s spot t };
          stand = r.kept.each e'.place (effect j e' ms).engine.place j at' next' e' ms a.engine' a.sizes a.stand;
        }

    there-stays : Related (step code e ms).engine (step draft e' ms).engine (step code e ms).packet
    there-stays =
        related-by (effect i e ms).engine (effect j e' ms).engine _ _ (effect i e ms).packet _ (ap (λ o. (step_at o e ms).engine) at) (ap (λ o. (step_at o e' ms).engine) at') (ap (λ o. (step_at o e ms).packet) at)
        (there-on (goes-on i e ms) (goes-on j e' ms))

  both-at : (e e' : Engine) (ms : Memories) (o : Option Instr) → slice_get code e.place ≡ o → Related e e' ms → StepsAlike code draft ms e e' × Related (step code e ms).engine (step draft e' ms).engine (step code e ms).packet
  both-at e e' ms None at a =
      let at' : slice_get draft e'.place ≡ None = r.past e'.place (ap (slice_get code) (sym a.place) ∙ at) in (
        record {
          place = a.place;
          stepped = ap (λ o. (step_at o e ms).stepped) at ∙ sym (ap (λ o. (step_at o e' ms).stepped) at');
          packet = ap (λ o. (step_at o e ms).packet) at ∙ sym (ap (λ o. (step_at o e' ms).packet) at');
          access = ap (λ o. access o e) at ∙ sym (ap (λ o. access o e') at');
        },
        related-by e e' _ _ ms _ (ap (λ o. (step_at o e ms).engine) at) (ap (λ o. (step_at o e' ms).engine) at') (ap (λ o. (step_at o e ms).packet) at) a,
      )
  both-at e e' ms (Some i) at a =
      let s = r.same e'.place i (ap (slice_get code) (sym a.place) ∙ at) in
      (there-alike i s.0 e e' ms at s.1 a s.2, there-stays i s.0 e e' ms at s.1 a s.2)

  none-known : (x : ℕ) → x ≡ 0 → (f : Fact) → ¬ IsOneOf f (known_at table x)
  none-known x at f one =
      let e : known_at table x ≡ [] = ap (known_at table) at ∙ r.kept.first in
      let no : None ≡ Some f = sym (ap (λ l. slice_get l one.0) e) ∙ one.1 in
      cc

  -- from the first place on the two codes run in step
  pub runs-in-step : (e : Engine) (ms : Memories) → Begins e ms → RunsAlike code draft ms e e
  runs-in-step e ms b = lockstep code draft Related (λ e e' ms a. (both-at e e' ms (slice_get code e.place) refl a).0) (λ e e' ms a. (both-at e e' ms (slice_get code e.place) refl a).1) e e ms (record {
    engine = b.engine;
    engine' = b.engine;
    sizes = b.sizes;
    place = refl;
    agree = record { by = λ s spot t. refl };
    stand = λ f one. absurd (none-known e.place b.place f one);
  })
