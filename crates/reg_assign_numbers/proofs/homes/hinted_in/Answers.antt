use Rattle.std.proofs.Common.{◌≡◌, ℕ, List, map, filter, nat_eq, sym, ap, subst, ◌∙◌}
use Rattle.std.specs.Prelude.{All, IfSome}
use Rattle.std.specs.HashMap.{get}
use Rattle.std.specs.List.{AllZip}
use Rattle.std.proofs.lemmas.Option.{IfSome_then}
use Rattle.std.proofs.lemmas.Result.{IfOk-weaker}
use Rattle.ssu_ir.specs.Points.{points}
use Rattle.ssu_liveness.specs.LiveRows.{IsRowOf, HaveNumbers, items_of}
use Rattle.reg_assign_reading.specs.ReadOff.{has_home}
use Rattle.reg_assign_reading.specs.inner.Reading.{says, labels_of}
use Rattle.reg_assign_numbers.specs.Rows.{HasNumbers}
use Rattle.reg_assign_numbers.proofs.Wished.{all-numbers, home_rows, rows-in}
use Rattle.reg_assign_numbers.proofs.homes.hinted_in.Goals as goal

pub returns : goal.returns
returns c =
    let r = c.args.r.now in
    let h = c.args.h in
    let keep = λ (x : ℕ). has_home (says r) x h in
    let ps = points (labels_of r) in
    let rows = items_of c.deref-2.result.now in
    let e : rows ≡ home_rows r h = ap items_of c.deref-2.ensures.value ∙ c.in_ok-kept.ensures ∙ ap (λ rs. map (filter keep) (items_of rs)) c.deref.ensures.value in
    let k : AllZip (IsRowOf keep) rows ps = subst (λ (l : List (List ℕ)). AllZip (IsRowOf keep) l ps) (sym e) (rows-in r h c.requires) in
    IfOk-weaker c.wished_numbers.result (λ found. IfSome found (λ m. All (HasNumbers (get nat_eq m) 15) rows)) (λ found. IfSome found (λ m. All (HaveNumbers keep (get nat_eq m) 15) ps))
    (λ found a. IfSome_then found a (λ m b. all-numbers keep (get nat_eq m) 15 rows ps k b)) c.wished_numbers.ensures
