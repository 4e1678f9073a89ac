use Rattle.std.proofs.Common.{List, nat_eq, refl, sym, subst, ◌∙◌, arith}
use Rattle.std.specs.Prelude.{All}
use Rattle.std.specs.HashMap.{get}
use Rattle.std.proofs.lemmas.Bool.{false≢true}
use Rattle.std.proofs.lemmas.List.{take_all}
use Rattle.ssu_liveness.specs.LiveRows.{Kept, items_of}
use Rattle.reg_assign_numbers.specs.Rows.{HasNumbers}
use Rattle.reg_assign_numbers.proofs.Telling.{holds-at, holds-more}
use Rattle.reg_assign_numbers.proofs.apart.are_apart.Goals as goal

pub returns-then-not-branch : goal.returns-then-not-branch
returns-then-not-branch c = (
  λ e. absurd (false≢true e),
  λ h. absurd (false≢true (sym c.if-not-branch.true ∙ c.in_ok-row_is_apart.ensures.only (holds-at (HasNumbers (get nat_eq c.args.numbers.now) c.args.limit) c.args.rows.now c.loop-row.row-index c.row-item.result c.deref.result.now (omega arith) c.row-item.is c.deref.ensures.value h))),
)

pub loop-row-preserved : goal.loop-row-preserved
loop-row-preserved c =
    holds-more (HasNumbers (get nat_eq c.args.numbers.now) c.args.limit) c.args.rows.now c.loop-row.row-index c.row-item.result c.deref.result.now (omega arith) c.row-item.is c.deref.ensures.value c.loop-row.invariant
    (c.in_ok-row_is_apart.ensures.apart c.if-not-branch.false)

pub returns : goal.returns
returns c =
    (λ e. subst (λ (vs : List Kept). All (HasNumbers (get nat_eq c.args.numbers.now) c.args.limit) (items_of vs)) (take_all c.loop-row.row-index c.args.rows.now (omega arith)) c.loop-row.invariant, λ h. refl)
