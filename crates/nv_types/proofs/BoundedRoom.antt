-- The room of a program without a fault whose expanded size is at most 4,096.
use Rattle.std.proofs.Common.{◌≡◌, ◌∙◌, ap, sym, subst, ℕ, ◌+◌, ◌*◌, ◌≤◌, ◌<◌, arith}
use Rattle.nv_ast.specs.Tree.{ProgramTree}
use Rattle.nv_ast.specs.Faults.{IsTyped, program_faults}
use Rattle.nv_ast.specs.Sizes.{expanded_size, room}
use Rattle.nv_ast.specs.Accepted.{IsAccepted}
use Rattle.nv_ast.proofs.RoomInSize.{room_bounded}
use Rattle.nv_types.specs.declared.main_sizes.Sizes.{Sizes}
use Rattle.nv_types_table.specs.inner.Cells.{still}
use Rattle.nv_types_table.specs.declared.error.TypeError.{TypeError}
use Rattle.nv_types_table.specs.declared.error.TypeError.TheVariants.{NoMemory, Fault, TooLarge}
use Rattle.nv_types_table.specs.inner.Faulty.{IsFirstOf}
use Rattle.nv_types.specs.Refusals.{IsRefusal}
use Rattle.nv_types.specs.inner.Measuring.{IsSized, main_need}

pub accepted : (p : ProgramTree) (s : Sizes) → IsTyped p → IsSized p s → s.expanded ≤ 4096 → IsAccepted p
accepted p s typed is le = record { typed = typed; small = subst (λ e. e ≤ 4096) is.of_expanded le }

pub bounded : (p : ProgramTree) → IsAccepted p → room p ≤ 5 * expanded_size p + 8
bounded p a = room_bounded p a.typed (omega (arith, a.small))

need_small : (p : ProgramTree) → IsTyped p → expanded_size p ≤ 4096 → main_need p ≤ 20480
need_small p typed small =
    let bound : main_need p + 8 ≤ 5 * expanded_size p + 8 = room_bounded p typed (omega (arith, small)) in
    omega (arith, bound, small)

still_small : (n : ℕ) → n ≤ 20480 → still n ≡ n
still_small n le = omega (arith, le)

pub need_fits : (p : ProgramTree) (s : Sizes) → IsTyped p → IsSized p s → s.expanded ≤ 4096 → s.need ≤ 20480
need_fits p s typed is le =
    let n = need_small p typed (subst (λ e. e ≤ 4096) is.of_expanded le) in
    subst (λ m. m ≤ 20480) (sym (is.of_need ∙ still_small (main_need p) n)) n

pub room_exact : (p : ProgramTree) (s : Sizes) → IsTyped p → IsSized p s → s.expanded ≤ 4096 → s.need + 8 ≡ room p
room_exact p s typed is le = ap (λ n. n + 8) (is.of_need ∙ still_small (main_need p) (need_small p typed (subst (λ e. e ≤ 4096) is.of_expanded le)))

-- the first fault is why a program is refused
pub refused : (p : ProgramTree) (e : TypeError) → IsFirstOf (program_faults p) e → IsRefusal p e
refused p NoMemory h = tt
refused p (Fault kind s) h = record { later = h.0; first = h.1 }
refused p (TooLarge n) h = absurd h

-- so is that its expanded size is over 4,096
pub too_large : (p : ProgramTree) (s : Sizes) (e : TypeError) → IsTyped p → IsSized p s → (e ≡ TooLarge s.expanded) × (4096 < s.expanded) → IsRefusal p e
too_large p s e typed is large = subst (λ (w : TypeError). IsRefusal p w) (sym large.0) (typed, is.of_expanded, large.1)
