use Rattle.nv_lines.proofs.SplitLaws.{split_one, lines_one, parts-parted, parted-parts, parted-cons, Lacks-test}
use Rattle.nv_lines.proofs.laws.texts_are_parted_one_way.Goals as goal

pub returns : goal.returns
returns c = record { split = λ c f r f' r' h k e. split_one c f r f' r' h k e; lines = lines_one; parts = parts-parted; spaced = parted-cons; tested = Lacks-test; parted = parted-parts }
