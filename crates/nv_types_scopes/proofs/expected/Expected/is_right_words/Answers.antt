use Rattle.std.proofs.Common.{◌≡◌, true, rules}
use Rattle.nv_types_scopes.proofs.Wanting.{takes_words, right_words_free}
use Rattle.nv_types_scopes.proofs.expected.Expected.is_right_words.Goals as goal

pub returns-in-Anything : goal.returns-in-Anything
returns-in-Anything c = λ w h.
    let free : takes_words c.args.self ≡ true = search rules in
    right_words_free c.args.table.now c.args.self w c.args.n free h
