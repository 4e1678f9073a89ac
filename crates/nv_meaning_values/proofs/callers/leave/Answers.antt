use Rattle.std.proofs.Common.{◌≡◌, ◌∙◌, ◌-◌, ap, set, length, arith}
use Rattle.std.proofs.lemmas.List.{length-take-le}
use Rattle.nv_meaning_values.specs.Callers.{calls_of}
use Rattle.nv_meaning_values.proofs.Above.{left-at, left-inside, left-none}
use Rattle.nv_meaning_values.proofs.callers.leave.Goals as goal

pub returns-in-Some : goal.returns-in-Some
returns-in-Some c = λ fs is above.
    let xs = c.args.callers.now.items in
    let m = c.args.mark in
    let f = c.in-Some.f in
    let cut = c.truncate.new.self.items in
    let inside = left-inside fs xs m f is c.in-Some.is above in
    let front = inside.0 in
    let long : length cut ≡ m.depth = ap length c.truncate.ensures.items ∙ length-take-le m.depth xs inside.1 in
    ap calls_of (c.put_last.ensures (omega (arith, long, front)))
    ∙ ap (λ k. calls_of (set cut (k - 1) f)) long
    ∙ ap (λ l. calls_of (set l (m.depth - 1) f)) c.truncate.ensures.items
    ∙ left-at fs xs m f is c.in-Some.is above

pub returns-in-None : goal.returns-in-None
returns-in-None c = λ fs is above. ap calls_of c.truncate.ensures.items ∙ left-none fs c.args.callers.now.items c.args.mark is c.in-None.is
