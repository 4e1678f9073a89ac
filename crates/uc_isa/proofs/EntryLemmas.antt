-- Entries and starts of code that follows other code.
use Rattle.std.proofs.Common.{◌≡◌, ℕ, ◌-◌, ◌<◌, ◌≤◌, List, length, Some, sym, ◌∙◌, subst, arith}
use Rattle.std.specs.Prelude.{slice_get}
use Rattle.uc_isa.specs.Engine.{start}
use Rattle.uc_isa.specs.Lawful.{IsLast}
use Rattle.uc_isa.specs.declared.instruction.Instr.{Instr}
use Rattle.uc_isa.specs.Alike.{Follows}
use Rattle.uc_isa.specs.Entries.{EntryCount, IsVisited}
use Rattle.uc_isa.specs.Program.{IsProgram}
use Rattle.uc_isa.specs.Starts.{HasShape, AreStarts, AreInside}
use Rattle.uc_isa.proofs.Following.{begins-start}

pub visited-along : (params : ℕ) (entered : EntryCount) (code code' : List Instr) (starts starts' : List ℕ) → params ≤ 8 → length starts' ≡ length starts → Follows code code' starts starts' → IsVisited params entered code starts → IsVisited params entered code' starts'
visited-along params entered code code' starts starts' few count f h = record {
  visits = λ args p base s n.
      let a = f.visits_only (start args base) p (begins-start params args p base few s) n in
      let b = h.visits args p base s a.0 in
      (b.0, λ k lt. sym (a.1 k (subst (λ j. k < j) count lt)) ∙ b.1 k (subst (λ j. k < j) count lt));
  visits_only = λ args p base s n.
      let a = h.visits_only args p base s n in
      let b = f.visits (start args base) p (begins-start params args p base few s) a.0 in
      (b.0, λ k lt. sym (b.1 k (subst (λ j. k < j) count lt)) ∙ a.1 k (subst (λ j. k < j) count lt));
}

-- the last instruction of lawful code leads nowhere after it
pub ends-lawful : (code : List Instr) → IsProgram code → (i : Instr) → slice_get code (length code - 1) ≡ Some i → IsLast i
ends-lawful code h i at = (h.each (length code - 1) i at).last (let s = h.some in omega arith)

pub starts_of_shape : (labels : ℕ) (code : List Instr) (starts : List ℕ) → IsProgram code → length starts ≡ labels → HasShape code starts → AreInside code starts → AreStarts labels code starts
starts_of_shape labels code starts h count shape inside = record { count = count; shape = shape; inside = inside; end_ = ends-lawful code h }
