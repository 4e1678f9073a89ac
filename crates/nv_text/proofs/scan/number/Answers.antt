use Rattle.std.proofs.Common.{refl, inr, arith}
use Rattle.nv_text.proofs.LongestToken.{decimal_found, hexadecimal_found}
use Rattle.nv_text.proofs.scan.number.Goals as goal

pub returns-in-Some-clause-found : goal.returns-in-Some-clause-found
returns-in-Some-clause-found c =
    let h = c.hexadecimal_digits-hexadecimal.ensures in
    let m = c.if-hexadecimal-gt0.true in
    hexadecimal_found _ _ _ (h.some m) m (h.digits m) c.in-Some.ensures

pub returns-in-None-clause-fault : goal.returns-in-None-clause-fault
returns-in-None-clause-fault c =
    let h = c.hexadecimal_digits-hexadecimal.ensures in
    let m = c.if-hexadecimal-gt0.true in
    inr (refl, record { value = _; size = _; found = hexadecimal_found _ _ _ (h.some m) m (h.digits m) refl; large = c.in-None.ensures })

pub returns-in-Some-value-clause-found : goal.returns-in-Some-value-clause-found
returns-in-Some-value-clause-found c =
    decimal_found _ _ _ c.requires c.run-size.ensures.exact (c.hexadecimal_digits-hexadecimal.ensures.none (omega arith)) c.in-Some-value.ensures

pub returns-in-None-value-clause-fault : goal.returns-in-None-value-clause-fault
returns-in-None-value-clause-fault c =
    inr (
      refl,
      record {
        value = _;
        size = _;
        found = decimal_found _ _ _ c.requires c.run-size.ensures.exact (c.hexadecimal_digits-hexadecimal.ensures.none (omega arith)) refl;
        large = c.in-None-value.ensures;
      },
    )
