use Rattle.uc_isa.proofs.Leading.{leads-none, leads-went, leads-wrote, leads-then, leads-end, leads-reached}
use Rattle.uc_isa.proofs.pieces.pieces_follow_one_another.Goals as goal

pub returns-clause-none : goal.returns-clause-none
returns-clause-none c = λ code base a. leads-none code base a

pub returns-clause-went : goal.returns-clause-went
returns-clause-went c = λ code base a e p h keeps. leads-went code base a e p h keeps

pub returns-clause-wrote : goal.returns-clause-wrote
returns-clause-wrote c = λ code base a w e p h keeps. leads-wrote code base a w e p h keeps

pub returns-clause-then_ : goal.returns-clause-then_
returns-clause-then_ c = λ code base n m a b d x y. leads-then code base n m a b d x y

pub returns-clause-ended : goal.returns-clause-ended
returns-clause-ended c = λ code base n m a b f x y. leads-end code base n m a b f x y

pub returns-clause-reached : goal.returns-clause-reached
returns-clause-reached c = λ code base n a b x. leads-reached code base n a b x
