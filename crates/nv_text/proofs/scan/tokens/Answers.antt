use Rattle.std.proofs.Common.{arith}
use Rattle.std.proofs.lemmas.List.{take_rest}
use Rattle.nv_text.proofs.Reading.{read_blank, read_token, read_all, tokens_one, fault_no_tokens, longest_some, failed, failed_tokens, failed_fault, within_rest}
use Rattle.nv_text.proofs.scan.tokens.Goals as goal

pub loop-at-preserved-then-blank-gt0 : goal.loop-at-preserved-then-blank-gt0
loop-at-preserved-then-blank-gt0 c = record {
  within = within_rest _ _ _ _ (take_rest c.args.bytes.now c.loop-at.at) c.loop-at.invariant.within c.blank-blank.ensures.within;
  reads =
      read_blank _ _ _ _ c.loop-at.invariant.reads
      (rw (take_rest c.args.bytes.now c.loop-at.at) at (c.blank-blank.ensures.some c.if-blank-gt0.true));
}

pub returns-in-Err-clause-fault : goal.returns-in-Err-clause-fault
returns-in-Err-clause-fault c =
    failed _ _ _ _ _ (take_rest c.args.bytes.now c.loop-at.at) c.loop-at.invariant.reads c.in-Err.ensures.fault

pub returns-in-Err-clause-only_tokens : goal.returns-in-Err-clause-only_tokens
returns-in-Err-clause-only_tokens c =
    λ ts d. failed_tokens _ _ _ (failed _ _ _ _ _ (take_rest c.args.bytes.now c.loop-at.at) c.loop-at.invariant.reads c.in-Err.ensures.fault) d

pub returns-in-Err-clause-only_fault : goal.returns-in-Err-clause-only_fault
returns-in-Err-clause-only_fault c =
    λ f d. failed_fault _ _ _ (failed _ _ _ _ _ (take_rest c.args.bytes.now c.loop-at.at) c.loop-at.invariant.reads c.in-Err.ensures.fault) d

pub loop-at-smaller : goal.loop-at-smaller
loop-at-smaller c = omega (arith, longest_some _ _ _ c.in-Ok.ensures.found, c.loop-at-test.true)

pub loop-at-preserved : goal.loop-at-preserved
loop-at-preserved c = record {
  within = within_rest _ _ _ _ (take_rest c.args.bytes.now c.loop-at.at) c.loop-at.invariant.within c.in-Ok.ensures.found.within;
  reads =
      rw c.in-Ok-push.ensures.items
      (read_token _ _ _ _ _ c.loop-at.invariant.reads (rw (take_rest c.args.bytes.now c.loop-at.at) at c.in-Ok.ensures.found)
      c.in-Ok.ensures.fits);
}

pub returns-clause-ok : goal.returns-clause-ok
returns-clause-ok c = read_all _ _ _ c.loop-at.invariant.reads c.loop-at.invariant.within c.loop-at-test.false

pub returns-clause-only_tokens : goal.returns-clause-only_tokens
returns-clause-only_tokens c =
    λ ts d. tokens_one _ _ _ (read_all _ _ _ c.loop-at.invariant.reads c.loop-at.invariant.within c.loop-at-test.false) d

pub returns-clause-only_fault : goal.returns-clause-only_fault
returns-clause-only_fault c =
    λ f d. fault_no_tokens _ _ _ (read_all _ _ _ c.loop-at.invariant.reads c.loop-at.invariant.within c.loop-at-test.false) d
