use Rattle.std.proofs.Common.{◌≡◌, ◌<◌, ◌≤◌, length, get_or, subst, arith, suc, add-zero}
use Rattle.std.proofs.lemmas.Bool.Decides.{nat_tests}
use Rattle.uc_object.specs.Columns.{Allows, IsFault}
use Rattle.uc_object.specs.declared.byte_set.Column.TheVariants.{Between}
use Rattle.uc_object.proofs.Faults.{fault_here, fault_end, fit_more, fault_more}
use Rattle.uc_object.proofs.column.first_fault.Goals as goal

pub returns-in_default-clause-first : goal.returns-in_default-clause-first
returns-in_default-clause-first c =
    let there : c.loop-at.at < length c.args.bytes.now = grind (arith, nat_tests) in
    rw add-zero at (c.loop-at.invariant.fault 0 (fault_here c.args.columns.now c.args.bytes.now c.loop-at.at c.in-Some.byte.now (Between 0 0) c.loop-at-test.true there (grind arith) (grind arith)))

pub loop-at-preserved : goal.loop-at-preserved
loop-at-preserved c =
    let there : c.loop-at.at < length c.args.bytes.now = grind (arith, nat_tests) in
    let byte : get_or c.args.bytes.now c.loop-at.at 0 ≡ c.in-Some.byte.now = grind arith in
    let may : Allows (get_or c.args.columns.now c.loop-at.at (Between 0 0)) c.in-Some.byte.now = grind arith in
    record {
      fit = λ rest. c.loop-at.invariant.fit (fit_more _ _ _ _ _ c.loop-at-test.true there byte may rest);
      fault = λ k rest. subst (IsFault c.args.columns.now c.args.bytes.now) (omega arith) (c.loop-at.invariant.fault (suc k) (fault_more _ _ _ _ _ c.loop-at-test.true there byte may k rest));
    }

pub returns-in_default-2-clause-first : goal.returns-in_default-2-clause-first
returns-in_default-2-clause-first c =
    let gone : length c.args.bytes.now ≤ c.loop-at.at = grind (arith, nat_tests) in
    rw add-zero at (c.loop-at.invariant.fault 0 (fault_end c.args.columns.now c.args.bytes.now c.loop-at.at (Between 0 0) c.loop-at-test.true gone))
