-- The program of terms is at most as wide and at most as much as the flat program.
use Rattle.std.proofs.Common.{◌≡◌, ℕ, ◌≤◌, true, List, sym, subst}
use Rattle.nv_base.specs.Measures.{IsAtMost}
use Rattle.flat_ir.specs.declared.flat.FlatFun.{FlatFun}
use Rattle.flat_ir.specs.Formed.{is_program}
use Rattle.flat_ir.specs.Bulk.{bulk as flat_bulk}
use Rattle.flat_ir.specs.Wide.{wide as flat_wide}
use Rattle.cps_ir.specs.Bulk.{bulk}
use Rattle.cps_ir.specs.Term.{Fun}
use Rattle.cps_ir.specs.Wide.{wide}
use Rattle.cps_lower.specs.inner.Lowered.{lowered_all}
use Rattle.cps_lower.proofs.WidthsProgram.{wide-lowered}
use Rattle.cps_lower.proofs.Bulks.{bulk-lowered}

pub wide_at : (flats : List FlatFun) (main : ℕ) (funs : List Fun) → is_program flats main ≡ true → funs ≡ lowered_all flats → wide funs main ≤ flat_wide flats main
wide_at flats main funs program e = subst (λ l. wide l main ≤ flat_wide flats main) (sym e) (wide-lowered flats main program)

pub bulk_at : (flats : List FlatFun) (main : ℕ) (funs : List Fun) → funs ≡ lowered_all flats → IsAtMost (bulk funs main) (flat_bulk flats main)
bulk_at flats main funs e = subst (λ l. IsAtMost (bulk l main) (flat_bulk flats main)) (sym e) (bulk-lowered flats main)
