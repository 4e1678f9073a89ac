use Rattle.nv_types_scopes.proofs.Holding.{Keeps-table}
use Rattle.nv_types_scopes.proofs.TextWalk.{packed_found, packed_absent}
use Rattle.nv_types_scopes.proofs.functions.Checker.packed_text.Goals as goal

pub returns-in_ok-words-in-Some : goal.returns-in_ok-words-in-Some
returns-in_ok-words-in-Some c =
    packed_found c.args.self.now _ c.args.span c.args.layout.now c.in-Some.shape c.packed_words.result c.in_ok-words-in-Some.field-0 c.in-Some.ensures c.packed_words.ensures (Keeps-table c.args.self.now c.words.new.self c.in_ok-words-in-Some.ensures.grows)
    c.in_ok-words-in-Some.ensures.made

pub returns-in-None : goal.returns-in-None
returns-in-None c = packed_absent c.args.self.now c.args.span c.args.layout.now c.in-None.ensures
