use Rattle.nv_text_parser.proofs.PatternRules.{starts_any, starts_name, starts_tuple, starts_none}
use Rattle.nv_text_parser.proofs.patterns.begins_pattern.Goals as goal

pub returns-in-Some : goal.returns-in-Some
returns-in-Some c = starts_any c.in-Some.ensures

pub returns-in-Some-sign_here : goal.returns-in-Some-sign_here
returns-in-Some-sign_here c = starts_tuple c.in-Some-sign_here.ensures

pub returns-in_default-name_here : goal.returns-in_default-name_here
returns-in_default-name_here c = starts_none c.in_default.ensures c.in_default-sign_here.ensures c.in_default-name_here.ensures

pub returns : goal.returns
returns c = starts_name c.in-Some-name_here.ensures
