use Rattle.std.proofs.Common.{◌≡◌, ◌+◌, ◌-◌, ◌≤◌, [], ◌∷◌, ◌++◌, length, ap, sym, subst, ◌∙◌, refl, arith}
use Rattle.std.proofs.lemmas.Bool.{false≢true}
use Rattle.std.proofs.lemmas.List.{length-append}
use Rattle.uc_schedule.specs.ScheduleText.{SpellsEntries, entry_limit}
use Rattle.uc_schedule.specs.inner.Reading.{HasRead}
use Rattle.uc_schedule.proofs.Reading.{bad_short, bad_entries, read_entries_more, read_all}
use Rattle.uc_schedule.proofs.TextLemmas.{left_by, left_most, left_push}
use Rattle.uc_schedule.proofs.read.read_entries.Goals as goal

pub entries_of-requires-clause-few : goal.entries_of-requires-clause-few
entries_of-requires-clause-few c =
    let most : left_by entry_limit c.loop-line.entries.items ≤ entry_limit = left_most entry_limit c.loop-line.entries.items in
    subst (λ n. n ≤ entry_limit) (sym c.loop-line.invariant.1) most

pub returns-in_default-entries_of-clause-err : goal.returns-in_default-entries_of-clause-err
returns-in_default-entries_of-clause-err c = λ params bytes args h all.
    let now = c.loop-line.invariant in
    bad_entries params c.args.count c.loop-line.number bytes c.loop-line.lines _ _ args c.loop-line.entries.items (now.2 params bytes args h all) c.in-Some.ensures.line c.in-Some.ensures.one all
    (λ e s. c.in_default-entries_of.ensures.none e (subst (λ n. SpellsEntries c.args.count n c.in-Some.line.now e) (sym now.1) s))

pub loop-line-preserved : goal.loop-line-preserved
loop-line-preserved c =
    let now = c.loop-line.invariant in
    let room : c.loop-line.number + length c.loop-line.lines ≤ c.args.count + length c.args.lines.now = now.0 in
    let long : length (c.in-Some.line.now ++ 10 ∷ c.next_line.new.self) ≡ length c.in-Some.line.now + length (10 ∷ c.next_line.new.self) = length-append c.in-Some.line.now (10 ∷ c.next_line.new.self) in
    let one : length c.loop-line.lines ≡ length (c.in-Some.line.now ++ 10 ∷ c.next_line.new.self) = ap length c.in-Some.ensures.line in
    let entry = c.in-Some-entries_of.entry in
    let pushed : c.push.new.self.items ≡ c.loop-line.entries.items ++ entry ∷ [] = c.in_ok-push.ensures.items in (
      omega arith,
      ap (λ n. n - entry.1) now.1 ∙ sym (left_push entry_limit c.loop-line.entries.items entry) ∙ sym (ap (left_by entry_limit) pushed),
      λ params bytes args h all. subst (λ l. HasRead params c.args.count (c.loop-line.number + 1) bytes c.next_line.new.self args l) (sym pushed)
          (read_entries_more params c.args.count c.loop-line.number bytes c.loop-line.lines c.in-Some.line.now c.next_line.new.self args c.loop-line.entries.items entry (now.2 params bytes args h all) c.in-Some.ensures.line all
          (subst (λ n. SpellsEntries c.args.count n c.in-Some.line.now entry) now.1 c.in-Some-entries_of.ensures.some)),
    )

pub returns-then-not-is_done-clause-err : goal.returns-then-not-is_done-clause-err
returns-then-not-is_done-clause-err c = λ params bytes args h all.
    bad_short params c.args.count c.loop-line.number bytes c.loop-line.lines args c.loop-line.entries.items (c.loop-line.invariant.2 params bytes args h all) c.in_default.ensures.none
    (λ e _. false≢true (c.if-not-is_done.ensures.1 (c.in_default.ensures.left ∙ e)))

pub returns-clause-ok : goal.returns-clause-ok
returns-clause-ok c = λ params bytes args h all.
    read_all params c.args.count c.loop-line.number bytes c.loop-line.lines args c.loop-line.entries.items (c.loop-line.invariant.2 params bytes args h all) all (sym c.in_default.ensures.left ∙ c.if-not-is_done.ensures.0 refl)
