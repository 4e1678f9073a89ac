use Rattle.flat_ir.specs.Meaning.{calls_within}
use Rattle.flat_ir.proofs.WordsStay.{does-words, calls-words}
use Rattle.flat_ir.proofs.laws.words_stay_words.Goals as goal

pub returns-clause-function : goal.returns-clause-function
returns-clause-function c = λ funs main depth f ws now e h g. calls-words funs main e depth f ws now h g

pub returns-clause-code : goal.returns-clause-code
returns-clause-code c = λ funs main depth own tail n known t env now e f h g. does-words funs (calls_within depth funs) (calls-words funs main e depth) own tail n known t env now f h g
