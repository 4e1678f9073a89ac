use Rattle.std.proofs.Common.{◌≡◌, ℕ, ◌+◌, ◌≤◌, List, length, take, min, get_or, subst, sym, ap, ◌∙◌}
use Rattle.uc_object.specs.declared.byte_set.Column.{Column}
use Rattle.uc_object.specs.Columns.{Fit, IsFault, exception_columns}
use Rattle.uc_object.specs.Object.{IsException}
use Rattle.uc_object.specs.inner.Parts.{Spells}
use Rattle.uc_object.proofs.Exceptions.{columns-of, size-fits}
use Rattle.uc_object.proofs.Faults.{fault-within}
use Rattle.uc_object.proofs.parts.exception_size.Goals as goal

-- the columns that the code finds are those of the bytes
its : (bytes : List ℕ) (least byte : ℕ) (columns : List Column) → columns ≡ exception_columns 64 → least ≡ min byte 64 → byte ≡ get_or bytes 4 0 → take (5 + least) columns ≡ exception_columns (get_or bytes 4 0)
its bytes least byte columns e f g = ap (take (5 + least)) e ∙ ap (λ n. take (5 + n) (exception_columns 64)) (f ∙ ap (λ b. min b 64) g) ∙ columns-of (get_or bytes 4 0)

pub returns-in-Some-clause-fault : goal.returns-in-Some-clause-fault
returns-in-Some-clause-fault c =
    let bytes = c.args.bytes.now in
    subst (λ cs. IsFault cs bytes c.in-Some.at) (its bytes c.min.result c.byte_at.result c.exception_columns-columns.result c.exception_columns-columns.ensures c.min.ensures c.byte_at.ensures) c.in-Some.ensures.first

pub returns-in-Some-clause-within : goal.returns-in-Some-clause-within
returns-in-Some-clause-within c = (fault-within (take (5 + c.min.result) c.exception_columns-columns.result) c.args.bytes.now c.in-Some.at c.in-Some.ensures.first).1

pub returns-in-None-clause-size : goal.returns-in-None-clause-size
returns-in-None-clause-size c =
    let bytes = c.args.bytes.now in
    let same = c.min.ensures ∙ ap (λ b. min b 64) c.byte_at.ensures in
    let fit = subst (λ cs. Fit cs bytes) (its bytes c.min.result c.byte_at.result c.exception_columns-columns.result c.exception_columns-columns.ensures c.min.ensures c.byte_at.ensures) c.in-None.ensures.none in
    subst (λ n. 5 + n ≤ length bytes) (sym same) (size-fits bytes fit).0

pub returns-in-None-clause-exception : goal.returns-in-None-clause-exception
returns-in-None-clause-exception c =
    let bytes = c.args.bytes.now in
    let same = c.min.ensures ∙ ap (λ b. min b 64) c.byte_at.ensures in
    let fit = subst (λ cs. Fit cs bytes) (its bytes c.min.result c.byte_at.result c.exception_columns-columns.result c.exception_columns-columns.ensures c.min.ensures c.byte_at.ensures) c.in-None.ensures.none in
    subst (λ n. Spells IsException (take (5 + n) bytes)) (sym same) (size-fits bytes fit).1
