use Rattle.std.proofs.Common.{◌+◌, ◌<◌, ◌≤◌, All, length}
use Rattle.std.proofs.lemmas.Result.{IfOk-weaker}
use Rattle.uc_schedule.specs.ScheduleText.{Gives, HasWords, IsNamed, entry_limit, steps_of}
use Rattle.uc_schedule.specs.declared.read.Schedule.{Schedule}
use Rattle.uc_schedule.proofs.Bounds.{given_few, given_words, given_named, given_steps}
use Rattle.uc_schedule.proofs.Reading.{given_answer, bad_answer}
use Rattle.uc_schedule.proofs.read.read_schedule.Goals as goal

pub returns-clause-given : goal.returns-clause-given
returns-clause-given c = given_answer c.args.params c.args.bytes.now c.read_text.result c.read_text.ensures.gives c.read_text.ensures.refuses

pub returns-clause-bad : goal.returns-clause-bad
returns-clause-bad c = bad_answer c.args.params c.args.bytes.now c.read_text.result c.read_text.ensures.gives c.read_text.ensures.refuses

pub returns-clause-four : goal.returns-clause-four
returns-clause-four c =
    IfOk-weaker c.read_text.result (λ (s : Schedule). Gives c.args.params c.args.bytes.now s.args.items s.entries.items) (λ (s : Schedule). length s.args.items < 4)
    (λ s g. given_few c.args.params c.args.bytes.now s.args.items s.entries.items g) c.read_text.ensures.gives

pub returns-clause-words : goal.returns-clause-words
returns-clause-words c =
    IfOk-weaker c.read_text.result (λ (s : Schedule). Gives c.args.params c.args.bytes.now s.args.items s.entries.items) (λ (s : Schedule). All (HasWords c.args.params) s.args.items)
    (λ s g. given_words c.args.params c.args.bytes.now s.args.items s.entries.items g) c.read_text.ensures.gives

pub returns-clause-named : goal.returns-clause-named
returns-clause-named c =
    IfOk-weaker c.read_text.result (λ (s : Schedule). Gives c.args.params c.args.bytes.now s.args.items s.entries.items) (λ (s : Schedule). All (IsNamed (length s.args.items + 1)) s.entries.items)
    (λ s g. given_named c.args.params c.args.bytes.now s.args.items s.entries.items g) c.read_text.ensures.gives

pub returns-clause-steps : goal.returns-clause-steps
returns-clause-steps c =
    IfOk-weaker c.read_text.result (λ (s : Schedule). Gives c.args.params c.args.bytes.now s.args.items s.entries.items) (λ (s : Schedule). steps_of s.entries.items ≤ entry_limit)
    (λ s g. given_steps c.args.params c.args.bytes.now s.args.items s.entries.items g) c.read_text.ensures.gives
