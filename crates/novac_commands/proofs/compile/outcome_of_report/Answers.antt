use Rattle.novac_commands.proofs.OneSource.{sorted-found, sorted-refused}
use Rattle.novac_commands.proofs.compile.outcome_of_report.Goals as goal

pub returns-in-Err-clause-found : goal.returns-in-Err-clause-found
returns-in-Err-clause-found c = sorted-found c.args.text.now c.args.options.slots c.args.w.now c.args.options.budget c.args.options.store c.in-Err.error c.sorted.result c.in-Err.ensures.refused c.sorted.ensures

pub returns-in-Err-clause-refused : goal.returns-in-Err-clause-refused
returns-in-Err-clause-refused c = sorted-refused c.args.text.now c.args.options.slots c.args.w.now c.args.options.budget c.args.options.store c.in-Err.error c.sorted.result c.in-Err.ensures.refused c.sorted.ensures

pub returns-in-Ok-clause-found : goal.returns-in-Ok-clause-found
returns-in-Ok-clause-found c = record {
  is_source = c.in-Ok.ensures.program;
  code = c.in-Ok.ensures.code;
  short = c.in-Ok.ensures.short;
  brief = c.in-Ok.ensures.brief;
  form = record { is_form = c.in-Ok.ensures.form; code = c.in-Ok.ensures.form_code; starts = c.in-Ok.ensures.starts; report = c.in-Ok.ensures.report; placed = c.in-Ok.ensures.placed };
  banks = c.in-Ok.ensures.banks;
}
