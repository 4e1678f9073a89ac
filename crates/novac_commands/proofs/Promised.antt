-- The headline, of all that a compilation promises.
use Rattle.std.proofs.Common.{◌∙◌, ℕ, List, Option, Some, None, ap, subst, ◌≤◌}
use Rattle.nv_outside.specs.Holding.{Holding}
use Rattle.novac_words.specs.Command.{Command, Compile, Run, Exec, Asm, Dis, Lint, Check, Gen, Contexts, Peep, Trace, Counts, IfCompile}
use Rattle.novac_commands.specs.Compiling.{IsCompiled}
use Rattle.novac_commands.specs.Headline.{KeepsItsPromise}

promised : (old new : Holding) (source object report : List ℕ) (slots budget store : ℕ) (weights : Option (List ℕ)) (line : List ℕ) → IsCompiled old new source object report slots budget store weights line
    → KeepsItsPromise old new source object report slots budget store weights
promised old new source object report slots budget store weights line c =
    let d = c.compiled in
    record {
      text = c.text;
      held = c.held;
      program = d.program;
      is_source = d.is_source.is_source;
      object = c.object;
      saved = c.saved;
      tagged = d.tagged;
      decodes = d.decodes;
      lawful = d.lawful;
      short = subst (λ n. n ≤ store) d.number d.short;
      agrees = d.agrees;
      exceptions = d.exceptions;
      ws = c.ws;
      weighed = c.weighed;
      r = c.r;
      reported = c.reported ∙ ap (λ bytes. Some bytes) d.reports.spelled;
      report = record {
        form = d.banks.form;
        is_form = d.banks.is_form.form;
        banks = d.banks.report.program;
        slots_are = d.banks.report.slots_are;
        budget_is = d.banks.report.budget_is;
        is_true = d.banks.report.holds;
        found = d.banks.found;
        meets = d.banks.meets;
        optimal = d.banks.optimal;
        light = d.banks.light;
      };
      elsewhere = c.elsewhere;
    }

pub headline : (old new : Holding) (Printed : List ℕ → Type 0) (o : Option Command)
    → IfCompile o (λ source object report slots budget store weights. (line : List ℕ) × IsCompiled old new source object report slots budget store weights line × Printed line)
    → IfCompile o (λ source object report slots budget store weights. KeepsItsPromise old new source object report slots budget store weights)
headline old new Printed None h = tt
headline old new Printed (Some (Run object memory steps)) h = tt
headline old new Printed (Some (Exec source memory calls)) h = tt
headline old new Printed (Some (Asm input object)) h = tt
headline old new Printed (Some (Dis object)) h = tt
headline old new Printed (Some (Lint object)) h = tt
headline old new Printed (Some (Check report)) h = tt
headline old new Printed (Some (Contexts object memory schedule)) h = tt
headline old new Printed (Some (Trace source object memory steps calls line)) h = tt
headline old new Printed (Some (Peep object output)) h = tt
headline old new Printed (Some (Counts source memory output jumps)) h = tt
headline old new Printed (Some (Gen seed size)) h = tt
headline old new Printed (Some (Compile source object report slots budget store weights)) h = promised old new source object report slots budget store weights h.0 h.1
