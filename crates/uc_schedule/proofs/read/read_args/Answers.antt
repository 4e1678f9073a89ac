use Rattle.std.proofs.Common.{◌≡◌, ◌+◌, ◌≤◌, ◌<◌, [], ◌∷◌, ◌++◌, length, ap, sym, subst, ◌∙◌, arith}
use Rattle.std.proofs.lemmas.List.{length-append}
use Rattle.uc_schedule.specs.ScheduleText.{IsBad}
use Rattle.uc_schedule.specs.inner.Reading.{HasRead}
use Rattle.uc_schedule.proofs.Reading.{bad_short, bad_args, read_args_more}
use Rattle.uc_schedule.proofs.read.read_args.Goals as goal

pub returns-in_default-clause-err : goal.returns-in_default-clause-err
returns-in_default-clause-err c = λ bytes h.
    let now = c.loop-number.invariant in
    let made : length c.loop-number.args.items + 1 ≡ c.loop-number.number = now.0 in
    let less : c.loop-number.number < c.args.count = c.loop-number-test.true in
    subst (λ n. IsBad c.args.params bytes (n + 1)) (sym c.from.ensures)
    (bad_short c.args.params c.args.count c.loop-number.number bytes c.loop-number.lines c.loop-number.args.items [] (now.2 bytes h) c.in_default.ensures.none (λ _ all. omega arith))

pub returns-in_default-args_of-clause-err : goal.returns-in_default-args_of-clause-err
returns-in_default-args_of-clause-err c = λ bytes h.
    let now = c.loop-number.invariant in
    let made : length c.loop-number.args.items + 1 ≡ c.loop-number.number = now.0 in
    let less : c.loop-number.number < c.args.count = c.loop-number-test.true in
    subst (λ n. IsBad c.args.params bytes (n + 1)) (sym c.from-in_default-args_of.ensures)
    (bad_args c.args.params c.args.count c.loop-number.number bytes c.loop-number.lines _ _ c.loop-number.args.items (now.2 bytes h) c.in-Some.ensures.line c.in-Some.ensures.one (omega arith) c.in_default-args_of.ensures.none)

pub loop-number-preserved : goal.loop-number-preserved
loop-number-preserved c =
    let now = c.loop-number.invariant in
    let made : length c.loop-number.args.items + 1 ≡ c.loop-number.number = now.0 in
    let shorter : length c.loop-number.lines ≤ length c.args.lines.now = now.1 in
    let less : c.loop-number.number < c.args.count = c.loop-number-test.true in
    let long : length (c.in-Some.line.now ++ 10 ∷ c.next_line.new.self) ≡ length c.in-Some.line.now + length (10 ∷ c.next_line.new.self) = length-append c.in-Some.line.now (10 ∷ c.next_line.new.self) in
    let one : length c.loop-number.lines ≡ length (c.in-Some.line.now ++ 10 ∷ c.next_line.new.self) = ap length c.in-Some.ensures.line in
    let pushed : c.push.new.self.items ≡ c.loop-number.args.items ++ c.in-Some-args_of.words ∷ [] = c.in_ok-push.ensures.items in
    let more : length c.push.new.self.items ≡ length c.loop-number.args.items + 1 = ap length pushed ∙ length-append c.loop-number.args.items (c.in-Some-args_of.words ∷ []) in (
      omega arith,
      omega arith,
      λ bytes h. subst (λ l. HasRead c.args.params c.args.count (c.loop-number.number + 1) bytes c.next_line.new.self l []) (sym pushed)
          (read_args_more c.args.params c.args.count c.loop-number.number bytes c.loop-number.lines c.in-Some.line.now c.next_line.new.self c.loop-number.args.items c.in-Some-args_of.words (now.2 bytes h) c.in-Some.ensures.line (omega arith) c.in-Some-args_of.ensures.some),
    )
