use Rattle.std.proofs.Common.{◌≡◌, ◌+◌, take, drop, subst, sym}
use Rattle.std.proofs.lemmas.List.{take_rest}
use Rattle.uc_object.specs.Object.{IsNumber}
use Rattle.uc_object.specs.inner.Header.{HasHeader}
use Rattle.uc_object.specs.inner.Parts.{Spells, IsFaultOf}
use Rattle.uc_object.proofs.Read.{exceptions-count-bad, starts-count-bad}
use Rattle.uc_object.proofs.decoder.read_counts.Goals as goal

pub returns-in-Err-clause-bad : goal.returns-in-Err-clause-bad
returns-in-Err-clause-bad c =
    let bytes = c.args.bytes.now in
    let header = subst (λ v. HasHeader bytes v c.args.header.params c.args.header.count (drop 12 bytes)) c.requires.version c.requires.header in
    let fault = subst (λ x. IsFaultOf (Spells (IsNumber 65536)) x c.in-Err.at) (take_rest bytes 12) c.in-Err.ensures.fault in
    λ at e. let same : 12 + c.in-Err.at ≡ at = cc in
    exceptions-count-bad c.args.header.params c.args.header.count at c.in-Err.at bytes header (sym same) fault

pub returns-in-Err-number_below-clause-bad : goal.returns-in-Err-number_below-clause-bad
returns-in-Err-number_below-clause-bad c =
    let bytes = c.args.bytes.now in
    let header = subst (λ v. HasHeader bytes v c.args.header.params c.args.header.count (drop 12 bytes)) c.requires.version c.requires.header in
    let number = subst (λ x. IsNumber 65536 c.in-Ok.number (take 4 x)) (take_rest bytes 12) c.in-Ok.ensures.number in
    let fault = subst (λ x. IsFaultOf (Spells (IsNumber 1048577)) x c.in-Err-number_below.at) (take_rest bytes 16) c.in-Err-number_below.ensures.fault in
    λ at e. let same : 16 + c.in-Err-number_below.at ≡ at = cc in
    starts-count-bad c.args.header.params c.args.header.count c.in-Ok.number at c.in-Err-number_below.at bytes header number (sym same) fault
