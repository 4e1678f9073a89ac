use Rattle.nova_compile.proofs.Programs.{source-of, the-program, good-cause, untyped-cause, large-cause, caused-program, caused-cause}
use Rattle.nova_compile.proofs.texts.typed.Goals as goal

pub returns-in-Ok-check-clause-only_program : goal.returns-in-Ok-check-clause-only_program
returns-in-Ok-check-clause-only_program c p h = the-program _ _ _ p (source-of _ _ c.in-Ok.ensures.program c.in-Ok.ensures.low) c.in-Ok-check.ensures.typed h

pub returns-in-Ok-check-clause-only_refused : goal.returns-in-Ok-check-clause-only_refused
returns-in-Ok-check-clause-only_refused c f h = good-cause _ _ f (source-of _ _ c.in-Ok.ensures.program c.in-Ok.ensures.low) c.in-Ok-check.ensures.accepted h

pub returns-in-Err-Fault-clause-only_program : goal.returns-in-Err-Fault-clause-only_program
returns-in-Err-Fault-clause-only_program c p h = caused-program _ _ p (untyped-cause _ _ _ _ _ (source-of _ _ c.in-Ok.ensures.program c.in-Ok.ensures.low) c.in-Err-Fault.field-0-is c.in-Err-Fault.ensures.refused) h

pub returns-in-Err-Fault-clause-only_refused : goal.returns-in-Err-Fault-clause-only_refused
returns-in-Err-Fault-clause-only_refused c f h = caused-cause _ _ f (untyped-cause _ _ _ _ _ (source-of _ _ c.in-Ok.ensures.program c.in-Ok.ensures.low) c.in-Err-Fault.field-0-is c.in-Err-Fault.ensures.refused) h

pub returns-in-Err-TooLarge-clause-only_program : goal.returns-in-Err-TooLarge-clause-only_program
returns-in-Err-TooLarge-clause-only_program c p h = caused-program _ _ p (large-cause _ _ _ _ (source-of _ _ c.in-Ok.ensures.program c.in-Ok.ensures.low) c.in-Err-TooLarge.field-0-is c.in-Err-TooLarge.ensures.refused) h

pub returns-in-Err-TooLarge-clause-only_refused : goal.returns-in-Err-TooLarge-clause-only_refused
returns-in-Err-TooLarge-clause-only_refused c f h = caused-cause _ _ f (large-cause _ _ _ _ (source-of _ _ c.in-Ok.ensures.program c.in-Ok.ensures.low) c.in-Err-TooLarge.field-0-is c.in-Err-TooLarge.ensures.refused) h
