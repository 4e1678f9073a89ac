-- A draft of code without what may go.
use Rattle.std.proofs.Common.{◌≡◌, ℕ, suc, ◌<◌, ◌≤◌, inl, inr, ⊎_elim, Bool, true, false, List, length, get_or, Some, None, refl, sym, ap, ◌∙◌, subst, arith}
use Rattle.std.specs.Prelude.{slice_get}
use Rattle.std.proofs.lemmas.Bool.{cases_lt}
use Rattle.std.proofs.lemmas.Option.{slice_get_past, slice_get-get_or}
use Rattle.uc_isa.specs.Step.{Next, effect}
use Rattle.uc_isa.specs.declared.instruction.Instr.{Instr}
use Rattle.uc_isa.specs.declared.instruction.Instr.TheVariants.{Halt}
use Rattle.uc_isa.proofs.Effects.{value-at}
use Rattle.uc_isa.specs.Program.{IsFormed, IsProgram}
use Rattle.uc_peep.proofs.Replaced.{gone-cases}
use Rattle.uc_peep.proofs.WindowRuns.{IsOnward, onward}
use Rattle.uc_peep.specs.Kept.{is_gone}
use Rattle.uc_peep.specs.Liveness.{IsClosed}
use Rattle.uc_peep.specs.Sets.{AgreeOn, has}
use Rattle.uc_peep.specs.Window.{filler}
use Rattle.uc_peep_facts.specs.Facts.{AreKept, DoesSame, IsFilled, IsIdle, MayGo, known_at}
use Rattle.uc_peep_facts.specs.declared.fact.Fact.{Fact}
use Rattle.uc_peep_facts.specs.declared.fact.Facts.{Facts}
use Rattle.uc_peep_facts.proofs.InStep.{IsInStep}

-- the draft without what may go, and facts that each of its ways keeps
pub record IsThinning (code : List Instr) (starts : List ℕ) (draft : List Instr) (gone : List Bool) (sets : List ℕ) (table : List Facts) : Type 0 where
  pub lawful : IsProgram code
  pub filled : IsFilled code draft gone
  pub may : (x : ℕ) → is_gone gone x ≡ true → MayGo code starts sets table x
  pub closed : IsClosed code sets
  pub kept : AreKept draft table

pub filler-formed : (x : ℕ) → IsFormed (filler x)
filler-formed x = record { operands = tt; run_inside = tt; pairs = tt; numbers = tt; halt = tt }

-- an instruction does what it does
pub does-itself : (facts : List Fact) (sets : List ℕ) (x : ℕ) (i : Instr) → DoesSame facts sets x i i
does-itself facts sets x i e p h sizes at all = (record { stepped = refl; packet = refl; place = refl; agree = record { by = λ s spot t. refl } }, refl)

-- an idle one does what a filler does
idle-filler : (facts : List Fact) (sets : List ℕ) (x : ℕ) (i : Instr) → IsIdle facts (get_or sets (suc x) 0) i → DoesSame facts sets x i (filler x)
idle-filler facts sets x i idle e p h sizes at all =
    let on : IsOnward i e p = onward i x e p at (inl idle.straight) in
    let on' : IsOnward (filler x) e p = onward (filler x) x e p at (inr refl) in
    let to : (effect i e p).engine.place ≡ suc x = on.next ∙ ap suc at in
    let same : AgreeOn (get_or sets (suc x) 0) (effect i e p).engine e = idle.same e p h sizes all in (
      record {
        stepped = ap (λ (n : Next). n.stepped) on.does ∙ sym (ap (λ (n : Next). n.stepped) on'.does);
        packet = ap (λ (n : Next). n.packet) on.does ∙ sym (ap (λ (n : Next). n.packet) on'.does);
        place = to;
        agree = record { by = λ s spot there. same.by s spot (ap (λ n. has (get_or sets n 0) s) (sym to) ∙ there) ∙ sym (value-at s (suc x) e) };
      },
      on.access ∙ sym on'.access,
    )

module _ (code : List Instr) (starts : List ℕ) (draft : List Instr) (gone : List Bool) (sets : List ℕ) (table : List Facts) (r : IsThinning code starts draft gone sets table) where
  same-at : (x : ℕ) (i : Instr) → slice_get code x ≡ Some i → (j : Instr) × (slice_get draft x ≡ Some j) × DoesSame (known_at table x) sets x i j
  same-at x i at = ⊎_elim
      (λ (g : is_gone gone x ≡ true).
      let may : MayGo code starts sets table x = r.may x g in
      let is : may.instruction ≡ i = some-same may.instruction i (sym may.there ∙ at) in
      (filler x, r.filled.fillers x g, idle-filler (known_at table x) sets x i (subst (IsIdle (known_at table x) (get_or sets (suc x) 0)) is may.idle)))
      (λ (k : is_gone gone x ≡ false). (i, r.filled.kept x k ∙ at, does-itself (known_at table x) sets x i))
      (gone-cases gone x)
    where
      some-same : (i j : Instr) → Some i ≡ Some j → i ≡ j
      some-same i j e = cc

  formed-at : (x : ℕ) (j : Instr) → slice_get draft x ≡ Some j → IsFormed j
  formed-at x j at = ⊎_elim
      (λ (g : is_gone gone x ≡ true). subst IsFormed (some-same (filler x) j (sym (r.filled.fillers x g) ∙ at)) (filler-formed x))
      (λ (k : is_gone gone x ≡ false). (r.lawful.each x j (sym (r.filled.kept x k) ∙ at)).formed)
      (gone-cases gone x)
    where
      some-same : (i j : Instr) → Some i ≡ Some j → i ≡ j
      some-same i j e = cc

  past-at : (x : ℕ) → slice_get code x ≡ None → slice_get draft x ≡ None
  past-at x none = ⊎_elim
      (λ (lt : x < length code). let some = slice_get-get_or code x (Halt 0 0) lt in absurd (cc))
      (λ (le : length code ≤ x). slice_get_past draft x (let s = r.filled.size in omega arith))
      (cases_lt x (length code))

  pub thinned-in-step : IsInStep code draft sets table
  thinned-in-step = record {
    formed = λ x i at. (r.lawful.each x i at).formed;
    formed' = formed-at;
    past = past-at;
    same = same-at;
    closed = r.closed;
    kept = r.kept;
  }
