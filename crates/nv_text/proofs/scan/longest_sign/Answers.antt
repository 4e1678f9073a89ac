use Rattle.nv_text.proofs.LongestToken.{sign_three, sign_two, sign_one, no_sign}
use Rattle.nv_text.proofs.scan.longest_sign.Goals as goal

pub returns-in-Some-clause-found : goal.returns-in-Some-clause-found
returns-in-Some-clause-found c = sign_three _ _ c.in-Some.ensures.within c.in-Some.ensures.found

pub returns-in-Some-sign_of_size-clause-found : goal.returns-in-Some-sign_of_size-clause-found
returns-in-Some-sign_of_size-clause-found c =
    sign_two _ _ c.in_default.ensures.none c.in-Some-sign_of_size.ensures.within c.in-Some-sign_of_size.ensures.found

pub returns-in_default-sign_of_size-2-clause-none :
    goal.returns-in_default-sign_of_size-2-clause-none
returns-in_default-sign_of_size-2-clause-none c =
    no_sign _ c.in_default.ensures.none c.in_default-sign_of_size.ensures.none c.in_default-sign_of_size-2.ensures.none

pub returns-clause-found : goal.returns-clause-found
returns-clause-found c =
    sign_one _ _ c.in_default.ensures.none c.in_default-sign_of_size.ensures.none c.in-Some-sign_of_size-2.ensures.within
    c.in-Some-sign_of_size-2.ensures.found
