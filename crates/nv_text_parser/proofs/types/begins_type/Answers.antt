use Rattle.nv_text_parser.proofs.TypeRules.{starts_word, starts_bool, starts_packed, starts_unpacked, starts_tuple, starts_record, starts_none}
use Rattle.nv_text_parser.proofs.types.begins_type.Goals as goal

pub returns-in-Some : goal.returns-in-Some
returns-in-Some c = starts_word c.in-Some.ensures

pub returns-in-Some-key_here : goal.returns-in-Some-key_here
returns-in-Some-key_here c = starts_bool c.in-Some-key_here.ensures

pub returns-in-Some-key_here-2 : goal.returns-in-Some-key_here-2
returns-in-Some-key_here-2 c = starts_packed c.in-Some-key_here-2.ensures

pub returns-in-Some-key_here-3 : goal.returns-in-Some-key_here-3
returns-in-Some-key_here-3 c = starts_unpacked c.in-Some-key_here-3.ensures

pub returns-in-Some-sign_here : goal.returns-in-Some-sign_here
returns-in-Some-sign_here c = starts_tuple c.in-Some-sign_here.ensures

pub returns-in_default-sign_here-2 : goal.returns-in_default-sign_here-2
returns-in_default-sign_here-2 c = starts_none c.in_default.ensures c.in_default-key_here.ensures c.in_default-key_here-2.ensures c.in_default-key_here-3.ensures c.in_default-sign_here.ensures c.in_default-sign_here-2.ensures

pub returns : goal.returns
returns c = starts_record c.in-Some-sign_here-2.ensures
