use Rattle.std.proofs.Common.{refl, sym, inr, arith}
use Rattle.std.proofs.lemmas.List.{length-take-le}
use Rattle.nv_text.proofs.Bytes.{keyword_is}
use Rattle.nv_text.proofs.LongestToken.{key_found, name_found, name_bytes}
use Rattle.nv_text.proofs.scan.word.Goals as goal

pub overflow_cast-result : goal.overflow_cast-result
overflow_cast-result c = omega (arith, keyword_is _ _ (sym c.in-Some.ensures))

pub returns-in-Some-clause-found : goal.returns-in-Some-clause-found
returns-in-Some-clause-found c = key_found _ _ _ c.requires c.run-size.ensures.exact (sym c.in-Some.ensures)

pub returns-then-size-gt-LONGEST_NAME-clause-fault :
    goal.returns-then-size-gt-LONGEST_NAME-clause-fault
returns-then-size-gt-LONGEST_NAME-clause-fault c =
    inr (
      refl,
      record {
        word = _;
        size = _;
        found = name_found _ _ _ c.requires c.run-size.ensures.exact (sym c.in_default.ensures) refl;
        long = omega (arith, length-take-le _ _ c.run-size.ensures.within);
      },
    )

pub new-requires : goal.new-requires
new-requires c =
    (name_bytes _ _ c.requires c.run-size.ensures.exact, omega (arith, length-take-le _ _ c.run-size.ensures.within))

pub returns-in-Ok-clause-found : goal.returns-in-Ok-clause-found
returns-in-Ok-clause-found c = name_found _ _ _ c.requires c.run-size.ensures.exact (sym c.in_default.ensures) c.in-Ok.ensures
