use Rattle.std.proofs.Common.{◌≡◌, ℕ, ◌+◌, max, nat_eq, get_or, length, take, ap, subst, sym, ◌∙◌, if◌then◌else◌, arith}
use Rattle.std.proofs.lemmas.List.{take_more, take_all}
use Rattle.ssu_make.specs.Uses.{kept}
use Rattle.ssu_make.proofs.Along.{Raised, raised-more, raised-all}
use Rattle.ssu_make.proofs.counts.Counts.raised.Goals as goal

pub loop-x-preserved : goal.loop-x-preserved
loop-x-preserved c =
    let xs = c.deref-x-items.result.now in
    let i = c.loop-x.x-index in
    let x = get_or xs i 0 in
    let first = kept c.args.self.map in
    let other = kept c.args.other.now.map in
    let now = kept c.loop-x.self.map in
    let next = kept c.raise.new.self.map in
    let same = c.deref-x-items.ensures.value in
    let inv : Raised first other now (take i xs) = subst (λ l. Raised first other now (take i l)) (sym same) c.loop-x.invariant in
    let e = λ (y : ℕ). c.in_ok-raise.ensures y ∙ ap (λ n. if nat_eq y x then max n (now y) else now y) c.at.ensures in
    subst (λ l. Raised first other next (take (i + 1) l)) same (subst (Raised first other next) (sym (take_more xs i 0 (omega arith))) (raised-more x (take i xs) first other now next inv e))

pub returns : goal.returns
returns c =
    let keys = c.args.other.now.keys.items in
    let all : take c.loop-x.x-index keys ≡ keys = take_all c.loop-x.x-index keys (let e = ap length c.deref-x-items.ensures.value in omega (arith, e)) in
    raised-all keys (kept c.args.self.map) (kept c.args.other.now.map) (kept c.loop-x.self.map) c.args.other.now.listed
    (subst (Raised (kept c.args.self.map) (kept c.args.other.now.map) (kept c.loop-x.self.map)) all c.loop-x.invariant)
