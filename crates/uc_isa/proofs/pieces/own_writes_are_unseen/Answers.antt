use Rattle.uc_isa.proofs.OwnWrites.{own-none, own-write, own-then, own-seen}
use Rattle.uc_isa.proofs.pieces.own_writes_are_unseen.Goals as goal

pub returns-clause-none : goal.returns-clause-none
returns-clause-none c = λ base a e. own-none base a e

pub returns-clause-one : goal.returns-clause-one
returns-clause-one c = λ base at ws a e q h low high. own-write base at ws a e q h low high

pub returns-clause-then_ : goal.returns-clause-then_
returns-clause-then_ c = λ base a b d x y. own-then base a b d x y

pub returns-clause-seen : goal.returns-clause-seen
returns-clause-seen c = λ base a b low x. own-seen base a b low x
