use Rattle.nv_lines.specs.Format.{PassesLines}
use Rattle.nv_lines.proofs.FormatLaws.{no_text, one_fault, begins_format}
use Rattle.nv_lines.proofs.laws.first_faults_are_one.Goals as goal

pub returns : goal.returns
returns c = record {
  none = λ front whole. no_text (PassesLines front) (PassesLines whole);
  one = λ front whole. one_fault (PassesLines front) (PassesLines whole);
  begins = λ whole. begins_format (PassesLines whole);
}
