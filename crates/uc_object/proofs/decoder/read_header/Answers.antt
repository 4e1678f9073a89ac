use Rattle.std.proofs.Common.{◌≡◌, ℕ, List, rules, arith, subst, ◌<◌, length, get_or}
use Rattle.uc_object.specs.Columns.{Fit, IsFault, IsHeaderFault, header_columns}
use Rattle.uc_object.specs.Object.{IsBadPlace}
use Rattle.uc_object.specs.declared.byte_set.Column.{Column}
use Rattle.uc_object.proofs.Places.{header-bad}
use Rattle.uc_object.proofs.Faults.{fit-length, fault-within}
use Rattle.uc_object.proofs.Headers.{fits-header, its-columns}
use Rattle.uc_object.proofs.decoder.read_header.Goals as goal

pub bounds-bytes-11 : goal.bounds-bytes-11
bounds-bytes-11 c =
    let bytes = c.args.bytes.now in
    let its = its-columns bytes _ _ _ _ c.header_columns-columns.ensures c.byte_at.ensures c.byte_at-2.ensures c.byte_at-3.ensures in
    let columns = header_columns (get_or bytes 8 0) (get_or bytes 9 0) (get_or bytes 10 0) in
    let long = fit-length columns bytes (subst (λ cs. Fit cs bytes) its c.in-None.ensures.none) in
    let there : 11 < length bytes = omega arith in
    search rules

fault-is : (bytes : List ℕ) (cs : List Column) (a b d k : ℕ) → cs ≡ header_columns a b d → a ≡ get_or bytes 8 0 → b ≡ get_or bytes 9 0 → d ≡ get_or bytes 10 0
    → IsFault cs bytes k → IsHeaderFault bytes k
fault-is bytes cs a b d k e p q r f = subst (λ x. IsFault x bytes k) (its-columns bytes a b d cs e p q r) f

pub overflow_cast-result : goal.overflow_cast-result
overflow_cast-result c =
    let bytes = c.args.bytes.now in
    let inside = fault-within _ bytes c.in-Some.at c.in-Some.ensures.first in
    record { fits = omega (arith, inside.1) }

pub returns-in-Some-clause-bad : goal.returns-in-Some-clause-bad
returns-in-Some-clause-bad c =
    let bytes = c.args.bytes.now in
    let fault = fault-is bytes _ _ _ _ c.in-Some.at c.header_columns-columns.ensures c.byte_at.ensures c.byte_at-2.ensures c.byte_at-3.ensures c.in-Some.ensures.first in
    λ at e. let same : c.in-Some.at ≡ at = cc in subst (IsBadPlace bytes) same (header-bad bytes c.in-Some.at fault)

pub returns-in-None-clause-header : goal.returns-in-None-clause-header
returns-in-None-clause-header c =
    let bytes = c.args.bytes.now in
    let its = its-columns bytes _ _ _ _ c.header_columns-columns.ensures c.byte_at.ensures c.byte_at-2.ensures c.byte_at-3.ensures in
    fits-header bytes _ (subst (λ cs. Fit cs bytes) its c.in-None.ensures.none) c.from_le_bytes-count.ensures

pub returns-in-None-clause-length : goal.returns-in-None-clause-length
returns-in-None-clause-length c =
    let bytes = c.args.bytes.now in
    let its = its-columns bytes _ _ _ _ c.header_columns-columns.ensures c.byte_at.ensures c.byte_at-2.ensures c.byte_at-3.ensures in
    fit-length (header_columns (get_or bytes 8 0) (get_or bytes 9 0) (get_or bytes 10 0)) bytes (subst (λ cs. Fit cs bytes) its c.in-None.ensures.none)
