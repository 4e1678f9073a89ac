use Rattle.std.proofs.Common.{sym, subst, arith}
use Rattle.std.proofs.lemmas.Result.{err_from_is_err_and}
use Rattle.uc_object.specs.Object.{IsNumber}
use Rattle.uc_object.specs.inner.Parts.{Spells, IsFaultOf}
use Rattle.uc_object.proofs.Numbers.{fault-0, fault-1, fault-2, fault-3}
use Rattle.uc_object.proofs.number.number_below.Goals as goal

pub returns-in_err-low-clause-fault : goal.returns-in_err-low-clause-fault
returns-in_err-low-clause-fault c =
    let bytes = c.args.bytes.now in
    let p = err_from_is_err_and c.from_residual.result c.from_residual.ensures.1 in
    let over = c.in_err-low.ensures.over in
    rw (p.1, p.2) (subst (IsFaultOf (Spells (IsNumber c.args.bound)) bytes) (sym c.in_err-low.ensures.place)
    (fault-0 c.args.bound bytes c.requires.some c.requires.few (λ more. let h = over more in omega arith)))

pub returns-in_err-second-clause-fault : goal.returns-in_err-second-clause-fault
returns-in_err-second-clause-fault c =
    let bytes = c.args.bytes.now in
    let p = err_from_is_err_and c.from_residual-in_err-second.result c.from_residual-in_err-second.ensures.1 in
    let over = c.in_err-second.ensures.over in
    let low = c.in_ok-low.ensures in
    rw (p.1, p.2) (subst (IsFaultOf (Spells (IsNumber c.args.bound)) bytes) (sym c.in_err-second.ensures.place)
    (fault-1 c.args.bound bytes c.requires.few (omega (arith, low.there)) low.byte (omega (arith, low.sum, low.below)) (λ more. let h = over more in omega (arith, low.sum))))

pub returns-in_err-third-clause-fault : goal.returns-in_err-third-clause-fault
returns-in_err-third-clause-fault c =
    let bytes = c.args.bytes.now in
    let p = err_from_is_err_and c.from_residual-in_err-third.result c.from_residual-in_err-third.ensures.1 in
    let over = c.in_err-third.ensures.over in
    let low = c.in_ok-low.ensures in
    let second = c.in_ok-second.ensures in
    rw (p.1, p.2) (subst (IsFaultOf (Spells (IsNumber c.args.bound)) bytes) (sym c.in_err-third.ensures.place)
    (fault-2 c.args.bound bytes c.requires.few (omega (arith, second.there)) low.byte second.byte (omega (arith, low.sum, second.sum, second.below)) (λ more. let h = over more in omega (arith, low.sum, second.sum))))

pub returns-in_err-whole-clause-fault : goal.returns-in_err-whole-clause-fault
returns-in_err-whole-clause-fault c =
    let bytes = c.args.bytes.now in
    let p = err_from_is_err_and c.from_residual-in_err-whole.result c.from_residual-in_err-whole.ensures.1 in
    let over = c.in_err-whole.ensures.over in
    let low = c.in_ok-low.ensures in
    let second = c.in_ok-second.ensures in
    let third = c.in_ok-third.ensures in
    rw (p.1, p.2) (subst (IsFaultOf (Spells (IsNumber c.args.bound)) bytes) (sym c.in_err-whole.ensures.place)
    (fault-3 c.args.bound bytes c.requires.few (omega (arith, third.there)) low.byte second.byte third.byte (omega (arith, low.sum, second.sum, third.sum, third.below)) (λ more. let h = over more in omega (arith, low.sum, second.sum, third.sum))))
