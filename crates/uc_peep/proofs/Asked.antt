-- What a rule is asked, and what it answers.
use Rattle.std.proofs.lemmas.Bool.{cases_lt}
use Rattle.std.proofs.Common.{⊎_elim, ◌≡◌, ℕ, ◌+◌, ◌-◌, ◌<◌, ◌≤◌, List, length, get_or, take, drop, Option, Some, None, sym, ◌∙◌, subst, arith}
use Rattle.std.specs.Prelude.{slice_get, IfSome, IfNone}
use Rattle.std.proofs.lemmas.Option.{slice_get-get_or}
use Rattle.std.specs.Prelude.{Bool}
use Rattle.uc_isa.specs.declared.instruction.Instr.{Instr}
use Rattle.uc_peep.proofs.Replaced.{length-text, same-some, text-at}
use Rattle.uc_peep.specs.Draft.{AreOpen, IsEndClear, IsOpen, IsFallThrough, MayReplace}
use Rattle.uc_peep.specs.Window.{IsText}
use Rattle.uc_isa.specs.Program.{IsProgram}
use Rattle.uc_isa.specs.StraightCode.{IsStraight}

pub is-text : (code : List Instr) (gone entered started : List Bool) (p k : ℕ) → IsProgram code → 1 ≤ k → k ≤ 4 → MayReplace code gone entered started p k → IsText (take k (drop p code))
is-text code gone entered started p k lawful some few may =
    let size : length (take k (drop p code)) ≡ k = length-text code p k (let h = may.inside in omega arith) in
    let at : (d : ℕ) (i : Instr) → d < length (take k (drop p code)) → slice_get code (p + d) ≡ Some (get_or (take k (drop p code)) d i) = λ d i lt.
    sym (text-at code p k d (omega arith)) ∙ slice_get-get_or (take k (drop p code)) d i lt in
    record {
      some = omega arith;
      few = omega arith;
      straight = λ d i lt. let o = (may.open_ (p + d) (omega arith) (omega arith)).0 in subst IsStraight (same-some o.instruction _ _ o.there (at d i lt)) o.straight;
      lawful = λ d i lt. (lawful.each (p + d) _ (at d i lt)).formed;
    }

pub may-replace : (code : List Instr) (gone entered started : List Bool) (p k : ℕ) → p + k < length code → AreOpen code gone entered started p (p + k) → IsEndClear gone entered started p (p + k) → MayReplace code gone entered started p k
may-replace code gone entered started p k inside all dead = record { inside = inside; open_ = all; clear_end = dead }

pub open-more : (code : List Instr) (gone entered started : List Bool) (p n : ℕ) → AreOpen code gone entered started p (p + n) → IsOpen code gone (p + n) → (p < p + n → IsFallThrough entered started (p + n)) → AreOpen code gone entered started p (p + (n + 1))
open-more code gone entered started p n all here alone x from below = ⊎_elim
    (λ (lt : x < p + n). all x from lt)
    (λ (le : p + n ≤ x). let e : p + n ≡ x = omega arith in subst (λ y. IsOpen code gone y × (p < y → IsFallThrough entered started y)) e (here, alone))
    (cases_lt x (p + n))

pub span : (p k : ℕ) → p + k - p ≡ k
span p k = omega arith

-- what an answer says of a window that may be replaced
pub asked-some : (o : Option (List Instr)) (A : Option (List Instr) → Type 0) (May : Type 0) (S : List Instr → Type 0) → ((l : List Instr) → A (Some l) → S l) → May → A o → IfSome o (λ a. May × S a × A (Some a))
asked-some (Some l) A May S sound may h = (may, sound l h, h)
asked-some None A May S sound may h = tt

pub asked-none : (o : Option (List Instr)) (A : Option (List Instr) → Type 0) (May : Type 0) → A o → IfNone o (May → A None)
asked-none (Some l) A May h = tt
asked-none None A May h = λ may. h
